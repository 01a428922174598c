-- What is in force where: a definition restores at its end what held before it, and a figure is drawn exactly where
-- its layer is the chosen one (Mead and Conway 1980, section 4.5).
use Rattle.std.specs.Prelude.{ℕ, ◌≡◌, ◌≢◌, ◌↔◌, ◌==◌, ◌||◌, not, Bool, true, false, List, [], ◌∷◌, ◌++◌, Option, None}
use Rattle.std.specs.List.{list_all}
use Rattle.dpl_rules.specs.declared.command.Scale.{Scale}
use Rattle.dpl_rules.specs.declared.command.Command.{Command}
use Rattle.dpl_rules.specs.declared.command.Command.TheVariants.{Polygon, Box, Wire, Layer, Start, Finish}
use Rattle.dpl_rules.specs.declared.scope.Scope.{Scope}
use Rattle.dpl_rules.specs.Rules.{one_to_one, at_first, after, is_chosen}
use Rattle.dpl_calls.specs.Parts.{parts_of}

-- neither begins nor ends a definition
abbrev pub is_plain : Command → Bool
is_plain (Start n scale) = false
is_plain Finish = false
is_plain c = true

-- what is in force behind these commands
abbrev pub behind : List ℕ → Scope → List Command → Scope
behind chosen s [] = s
behind chosen s (c ∷ rest) = behind chosen (after chosen s c) rest

-- in force outside of definitions: lengths are one to one, whatever layer is set
pub record IsOutside (s : Scope) : Type 0 where
  pub definition : s.definition ≡ None
  pub outer : s.outer ≡ None
  pub scale : s.scale ≡ one_to_one

-- a law: behind a definition all is in force that was before it
abbrev pub DefinitionsRestore : Type 0
DefinitionsRestore = (chosen : List ℕ) (s : Scope) (n : ℕ) (scale : Scale)
    (inside : List Command) → IsOutside s → list_all is_plain inside ≡ true →
    behind chosen s (Start n scale ∷ (inside ++ Finish ∷ [])) ≡ s

-- a law: a definition has its own scale throughout, and no layer until it sets one
abbrev pub DefinitionsScale : Type 0
DefinitionsScale = (chosen : List ℕ) (s : Scope) (n : ℕ) (scale : Scale) →
    ((after chosen s (Start n scale)).layer ≡ None)
    × ((inside : List Command) → list_all is_plain inside ≡ true →
    (behind chosen s (Start n scale ∷ inside)).scale ≡ scale)

-- a law: a layout begins outside of definitions, and stays there until one begins
abbrev pub OutsideIsOneToOne : Type 0
OutsideIsOneToOne = IsOutside at_first × ((chosen : List ℕ) (s : Scope) (c : Command) →
    IsOutside s → is_plain c ≡ true → IsOutside (after chosen s c))

-- a law: the layer that was set last is the chosen one exactly where it has the chosen name
abbrev pub LayersAreChosen : Type 0
LayersAreChosen = (chosen name : List ℕ) (s : Scope) →
    (is_chosen (after chosen s (Layer name)).layer ≡ true) ↔ (name ≡ chosen)

-- a box, polygon or wire that covers something
abbrev pub covers : Command → Bool
covers (Polygon path) = true
covers (Box b) = not (b.length == 0 || b.width == 0)
covers (Wire width (spot ∷ path)) = not (width == 0)
covers c = false

-- a law: a figure is drawn exactly where its layer is the chosen one
abbrev pub FiguresAreDrawn : Type 0
FiguresAreDrawn = (s : Scope) (c : Command) → covers c ≡ true →
    (is_chosen s.layer ≡ true → parts_of s c ≢ []) × (is_chosen s.layer ≡ false → parts_of s c ≡ [])
