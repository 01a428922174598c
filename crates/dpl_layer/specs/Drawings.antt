-- What a text draws on two layers: the chosen one, and one where nothing is cut. One reading a layer (Mead and Conway 1980,
-- section 4.5); which of two refusals comes first is our own rule.
use Rattle.std.specs.Prelude.{◌≡◌, ℕ, ℤ, Bool, List, [], ◌∷◌, ◌++◌, map, Option, Some, None, option_to_list}
use Rattle.dpl_limits.specs.declared.counted.Counted.TheVariants as Counted
use Rattle.dpl_cell.specs.Outlines.{Outline, outline_of}
use Rattle.dpl_cell.specs.Layers.{is_cell}
use Rattle.dpl_rules.specs.Rules.{Fault}
use Rattle.dpl_cif.specs.Drawn.{reach}
use Rattle.dpl_cif.specs.Reading.{first_fault, primitives_of, primitive_count, call_count}
use Rattle.dpl_options.specs.Options.{PlainOptions}
use Rattle.dpl_layer.specs.declared.drawing.Drawing.{Drawing}
use Rattle.dpl_layer.specs.declared.error.LayerError.{LayerError}
use Rattle.dpl_layer.specs.declared.error.LayerError.TheVariants.{Layout}
use Rattle.dpl_layer.specs.Reasons.{FirstOf, NoneOf, IsOver}

-- which cells a layer holds
abbrev pub Cells : Type 0
Cells = ℤ → ℤ → Bool

-- what is drawn where nothing is cut: nothing where there is no such layer
abbrev pub kept_of : Option (List ℕ) → List ℕ → List Outline
kept_of None text = []
kept_of (Some name) text = primitives_of name text

-- the text breaks this rule for the layer
abbrev pub HasFault : List ℕ → List ℕ → LayerError → Type 0
HasFault text layer e =
    (f : Fault) × (first_fault layer text ≡ Some f) × (e ≡ Layout f.command f.what)

-- the layer has too many primitives, or too many calls, or a coordinate that is too great
abbrev pub PassesLimit : List ℕ → List ℕ → LayerError → Type 0
PassesLimit text layer = FirstOf (IsOver Counted.Primitives (primitive_count layer text)
    ∷ IsOver Counted.Calls (call_count layer text)
    ∷ IsOver Counted.Coordinates (reach (primitives_of layer text)) ∷ [])

-- Why the chosen layer and the one where nothing is cut are not drawn: a fault before a limit, and what the first has before
-- what the second has.
abbrev pub drawing_reasons : PlainOptions → List ℕ → List (LayerError → Type 0)
drawing_reasons o text = map (HasFault text) (o.layer ∷ option_to_list o.keep)
    ++ map (PassesLimit text) (o.layer ∷ option_to_list o.keep)

-- the text is not refused, and the cells of the chosen layer and the kept ones have the property
abbrev pub OnLayer : PlainOptions → List ℕ → (Cells → Cells → Type 0) → Type 0
OnLayer o text P = NoneOf (drawing_reasons o text)
    × P (is_cell (primitives_of o.layer text)) (is_cell (kept_of o.keep text))

-- what the text draws on the two layers
pub record IsDrawingOf (o : PlainOptions) (text : List ℕ) (d : Drawing) : Type 0 where
  pub taken : NoneOf (drawing_reasons o text)
  pub layer : map outline_of d.layer.prims ≡ primitives_of o.layer text
  pub keep : map outline_of d.keep.prims ≡ kept_of o.keep text
