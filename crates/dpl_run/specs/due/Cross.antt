-- What is due for `cross`: the excess, a crossing and a bar.
use Rattle.std.specs.Prelude.{◌≡◌, ℕ, List, [], Option, None, Some}
use Rattle.dpl_cuts.specs.declared.types.Fragments.{Fragments}
use Rattle.dpl_sign.specs.declared.nets.Net.{Net}
use Rattle.dpl_sign.specs.Excess.{excess, all_edges, aside_edges}
use Rattle.dpl_options.specs.Options.{PlainOptions}
use Rattle.dpl_layer.specs.Drawings.{Cells, OnLayer}
use Rattle.dpl_layer.specs.Layers.{IsLayer}
use Rattle.dpl_euler.specs.declared.types.Bar.{Bar}
use Rattle.dpl_euler.specs.declared.types.Crossing.{Crossing}
use Rattle.dpl_euler.specs.Bars.{IsBar, IsFirstAside}
use Rattle.dpl_euler.specs.Crossings.{HasNoCrossing, IsCrossing}
use Rattle.dpl_run.specs.Lines.{cross_lines}

-- an edge and what its link crosses, or nothing where no link crosses a link or a third fragment
abbrev pub ShowsCrossing : Fragments → Net → Option Crossing → Type 0
ShowsCrossing f net None = HasNoCrossing f net
ShowsCrossing f net (Some crossing) = IsCrossing f net crossing

-- what bars the least edge that is set aside, or nothing where none is
abbrev pub ShowsBar : Net → Option Bar → Type 0
ShowsBar net None = aside_edges net ≡ []
ShowsBar net (Some bar) = IsFirstAside net bar.edge × IsBar net bar

-- the lines tell the excess over all edges, a crossing where there is one, and a bar where there is one
pub record TellsDrawing (f : Fragments) (net : Net) (output : List ℕ) : Type 0 where
  pub crossing : Option Crossing
  pub crosses : ShowsCrossing f net crossing
  pub bar : Option Bar
  pub bars : ShowsBar net bar
  pub is : output ≡ cross_lines (excess net all_edges) crossing bar

-- the output tells of the drawing of the layer of these cells
pub record CrossesCells (o : PlainOptions) (output : List ℕ) (cells kept : Cells) : Type 0 where
  pub fragments : Fragments
  pub net : Net
  pub layer : IsLayer o cells kept fragments net
  pub tells : TellsDrawing fragments net output

-- the output tells of the drawing of the layer of the text
abbrev pub IsCrossed : PlainOptions → List ℕ → List ℕ → Type 0
IsCrossed o text output = OnLayer o text (CrossesCells o output)
