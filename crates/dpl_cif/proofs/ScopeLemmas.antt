-- What is in force where, and what is drawn.
use Rattle.std.proofs.Common.{◌≡◌, ◌≢◌, ◌↔◌, ◌==◌, ℕ, Bool, true, false, List, [], ◌∷◌, ◌++◌, Option, None, Some, refl, sym, ap, subst, ◌∙◌}
use Rattle.std.specs.Prelude.{not, ◌||◌, ◌&&◌}
use Rattle.std.specs.List.{list_all}
use Rattle.std.specs.Str.{bytes_eq}
use Rattle.std.proofs.lemmas.Bool.{and_parts}
use Rattle.std.proofs.lemmas.Slice.Eq.{bytes_eq-Decides}
use Rattle.dpl_rules.specs.declared.command.Scale.{Scale}
use Rattle.dpl_rules.specs.declared.command.Command.{Command}
use Rattle.dpl_rules.specs.declared.command.Command.TheVariants.{Idle, Polygon, Box, Wire, Flash, Layer, Start, Finish, Delete, Call}
use Rattle.dpl_rules.specs.declared.scope.Scope.{Scope}
use Rattle.dpl_rules.specs.Rules.{one_to_one, at_first, after, is_chosen}
use Rattle.dpl_calls.specs.Parts.{parts_of}
use Rattle.dpl_calls.specs.Put.{where_true}
use Rattle.dpl_cif.specs.Scopes.{is_plain, behind, IsOutside, covers}

-- ---- definitions

-- a command that neither begins nor ends a definition changes the layer alone
plain_outer : (chosen : List ℕ) (s : Scope) (c : Command) → is_plain c ≡ true → (after chosen s c).outer ≡ s.outer
plain_outer chosen s (Start n scale) e = absurd (cc)
plain_outer chosen s Finish e = absurd (cc)
plain_outer chosen s (Layer name) e = refl
plain_outer chosen s Idle e = refl
plain_outer chosen s (Polygon path) e = refl
plain_outer chosen s (Box b) e = refl
plain_outer chosen s (Wire width path) e = refl
plain_outer chosen s (Flash diameter centre) e = refl
plain_outer chosen s (Delete n) e = refl
plain_outer chosen s (Call n moves) e = refl

plain_scale : (chosen : List ℕ) (s : Scope) (c : Command) → is_plain c ≡ true → (after chosen s c).scale ≡ s.scale
plain_scale chosen s (Start n scale) e = absurd (cc)
plain_scale chosen s Finish e = absurd (cc)
plain_scale chosen s (Layer name) e = refl
plain_scale chosen s Idle e = refl
plain_scale chosen s (Polygon path) e = refl
plain_scale chosen s (Box b) e = refl
plain_scale chosen s (Wire width path) e = refl
plain_scale chosen s (Flash diameter centre) e = refl
plain_scale chosen s (Delete n) e = refl
plain_scale chosen s (Call n moves) e = refl

plain_definition : (chosen : List ℕ) (s : Scope) (c : Command) → is_plain c ≡ true → (after chosen s c).definition ≡ s.definition
plain_definition chosen s (Start n scale) e = absurd (cc)
plain_definition chosen s Finish e = absurd (cc)
plain_definition chosen s (Layer name) e = refl
plain_definition chosen s Idle e = refl
plain_definition chosen s (Polygon path) e = refl
plain_definition chosen s (Box b) e = refl
plain_definition chosen s (Wire width path) e = refl
plain_definition chosen s (Flash diameter centre) e = refl
plain_definition chosen s (Delete n) e = refl
plain_definition chosen s (Call n moves) e = refl

-- outside of definitions, with this layer
abbrev outside : Option Bool → Scope
outside layer = record { definition = None; layer = layer; outer = None; scale = one_to_one }

-- an end restores the layer that was set outside
ended : (chosen : List ℕ) (s : Scope) (inside : List Command) → list_all is_plain inside ≡ true
    → behind chosen s (inside ++ Finish ∷ []) ≡ outside s.outer
ended chosen s [] e = refl
ended chosen s (c ∷ rest) e =
    let p = and_parts (is_plain c) (list_all is_plain rest) e in
    ended chosen (after chosen s c) rest p.1 ∙ ap outside (plain_outer chosen s c p.0)

is_outside : (s : Scope) → IsOutside s → outside s.layer ≡ s
is_outside s o = rw (o.definition, o.outer, o.scale) refl

pub restores : (chosen : List ℕ) (s : Scope) (n : ℕ) (scale : Scale) (inside : List Command) → IsOutside s
    → list_all is_plain inside ≡ true → behind chosen s (Start n scale ∷ (inside ++ Finish ∷ [])) ≡ s
restores chosen s n scale inside o e = ended chosen (after chosen s (Start n scale)) inside e ∙ is_outside s o

scale_stays : (chosen : List ℕ) (s : Scope) (inside : List Command) → list_all is_plain inside ≡ true
    → (behind chosen s inside).scale ≡ s.scale
scale_stays chosen s [] e = refl
scale_stays chosen s (c ∷ rest) e =
    let p = and_parts (is_plain c) (list_all is_plain rest) e in
    scale_stays chosen (after chosen s c) rest p.1 ∙ plain_scale chosen s c p.0

pub scaled_throughout : (chosen : List ℕ) (s : Scope) (n : ℕ) (scale : Scale) (inside : List Command)
    → list_all is_plain inside ≡ true → (behind chosen s (Start n scale ∷ inside)).scale ≡ scale
scaled_throughout chosen s n scale inside e = scale_stays chosen (after chosen s (Start n scale)) inside e

pub begins_outside : IsOutside at_first
begins_outside = record { definition = refl; outer = refl; scale = refl }

pub stays_outside : (chosen : List ℕ) (s : Scope) (c : Command) → IsOutside s → is_plain c ≡ true → IsOutside (after chosen s c)
stays_outside chosen s c o e = record {
  definition = plain_definition chosen s c e ∙ o.definition;
  outer = plain_outer chosen s c e ∙ o.outer;
  scale = plain_scale chosen s c e ∙ o.scale;
}

-- ---- layers and figures

pub names_layer : (chosen name : List ℕ) (s : Scope)
    → (is_chosen (after chosen s (Layer name)).layer ≡ true) ↔ (name ≡ chosen)
names_layer chosen name s = bytes_eq-Decides name chosen

pub draws : (s : Scope) (c : Command) → covers c ≡ true
    → (is_chosen s.layer ≡ true → parts_of s c ≢ []) × (is_chosen s.layer ≡ false → parts_of s c ≡ [])
draws s (Polygon path) e = (λ h. rw h (λ f. absurd (cc)), λ h. rw h refl)
draws s (Box b) e = (λ h. rw (h, e) (λ f. absurd (cc)), λ h. rw h refl)
draws s (Wire width (spot ∷ [])) e = (λ h. rw (h, e) (λ f. absurd (cc)), λ h. rw h refl)
draws s (Wire width (spot ∷ next ∷ path)) e = (λ h. rw (h, e) (λ f. absurd (cc)), λ h. rw h refl)
draws s (Wire width []) e = absurd (cc)
draws s Idle e = absurd (cc)
draws s (Flash diameter centre) e = absurd (cc)
draws s (Layer name) e = absurd (cc)
draws s (Start n scale) e = absurd (cc)
draws s Finish e = absurd (cc)
draws s (Delete n) e = absurd (cc)
draws s (Call n moves) e = absurd (cc)
