-- What follows for a text from a property of the cells that it draws.
use Rattle.std.proofs.Common.{◌≡◌, ℕ, List, map, subst}
use Rattle.dpl_cell.specs.Layers.{is_cell, cells_of}
use Rattle.dpl_cell.specs.Outlines.{outline_of}
use Rattle.dpl_cuts.specs.declared.types.Fragments.{Fragments}
use Rattle.dpl_sign.specs.declared.nets.Net.{Net}
use Rattle.dpl_cif.specs.Reading.{primitives_of}
use Rattle.dpl_options.specs.Options.{PlainOptions}
use Rattle.dpl_layer.specs.declared.drawing.Drawing.{Drawing}
use Rattle.dpl_layer.specs.Drawings.{Cells, kept_of, OnLayer, IsDrawingOf}
use Rattle.dpl_layer.specs.Layers.{IsCutLayer, IsSomeLayer, IsLayerOfText}

-- two properties of the cells of a text are properties of the same cells
pub with_layer : {R : Type 0} (o : PlainOptions) (text : List ℕ) (P Q : Cells → Cells → Type 0)
    → ((cells kept : Cells) → P cells kept → Q cells kept → R) → OnLayer o text P → OnLayer o text Q → R
with_layer o text P Q step h k = step (is_cell (primitives_of o.layer text)) (is_cell (kept_of o.keep text)) h.1 k.1

-- what follows from the property of the cells
pub of_layer : {R : Type 0} (o : PlainOptions) (text : List ℕ) (P : Cells → Cells → Type 0) → ((cells kept : Cells) → P cells kept → R) → OnLayer o text P → R
of_layer o text P step h = step (is_cell (primitives_of o.layer text)) (is_cell (kept_of o.keep text)) h.1

-- what follows for cells follows for the text that draws them
pub on_layer : (o : PlainOptions) (text : List ℕ) (P Q : Cells → Cells → Type 0)
    → ((cells kept : Cells) → P cells kept → Q cells kept) → OnLayer o text P → OnLayer o text Q
on_layer o text P Q step h = (h.0, step (is_cell (primitives_of o.layer text)) (is_cell (kept_of o.keep text)) h.1)

-- the cells of a text are those of its drawing
pub drawn_cells : (o : PlainOptions) (text : List ℕ) (d : Drawing) (P : Cells → Cells → Type 0)
    → IsDrawingOf o text d → P (cells_of d.layer) (cells_of d.keep)
    → P (is_cell (primitives_of o.layer text)) (is_cell (kept_of o.keep text))
drawn_cells o text d P is p =
    subst (λ z. P (is_cell z) (is_cell (kept_of o.keep text))) is.layer
    (subst (λ z. P (is_cell (map outline_of d.layer.prims)) (is_cell z)) is.keep p)

pub on_drawing : (o : PlainOptions) (text : List ℕ) (d : Drawing) (P : Cells → Cells → Type 0)
    → IsDrawingOf o text d → P (cells_of d.layer) (cells_of d.keep) → OnLayer o text P
on_drawing o text d P is p = (is.taken, drawn_cells o text d P is p)

-- ---- the layer of a text

-- the layer of a text is a layer of some cells
pub some_layer : (o : PlainOptions) (text : List ℕ) (f : Fragments) (n : Net) → IsLayerOfText o text f n → IsSomeLayer o f n
some_layer o text f n = of_layer o text (λ cells kept. IsCutLayer o cells kept f n) (λ cells kept l. record { cells = cells; kept = kept; is = l.is })
