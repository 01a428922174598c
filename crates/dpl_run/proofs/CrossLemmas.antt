-- What `cross` shows.
use Rattle.std.proofs.Common.{◌≡◌, ◌↔◌, ℕ, List, [], length, Option, None, Some, refl}
use Rattle.std.specs.Prelude.{IfSome}
use Rattle.dpl_cuts.specs.declared.types.Fragments.{Fragments}
use Rattle.dpl_sign.specs.declared.nets.Net.{Net}
use Rattle.dpl_sign.specs.Excess.{aside_edges}
use Rattle.dpl_options.specs.Options.{PlainOptions}
use Rattle.dpl_layer.specs.Layers.{IsCutLayer, IsLayerOfText}
use Rattle.dpl_layer.proofs.TextLemmas.{of_layer, on_layer}
use Rattle.dpl_euler.specs.declared.types.Bar.{Bar}
use Rattle.dpl_euler.specs.declared.types.Crossing.{Crossing}
use Rattle.dpl_euler.specs.Bars.{IsBar, IsFirstAside}
use Rattle.dpl_euler.specs.Crossings.{HasNoCrossing, IsCrossing}
use Rattle.dpl_run.specs.due.Cross.{CrossesCells, IsCrossed, ShowsBar, ShowsCrossing, TellsDrawing}

-- what was found of crossing links is what is to be shown
pub shows_crossing : (f : Fragments) (net : Net) (c : Option Crossing) → IfSome c (IsCrossing f net) → (c ≡ None → HasNoCrossing f net) → ShowsCrossing f net c
shows_crossing f net None some none = none refl
shows_crossing f net (Some crossing) some none = some

-- what was found of an edge set aside is what is to be shown
pub shows_bar : (net : Net) (b : Option Bar) → (b ≡ None ↔ aside_edges net ≡ [])
    → IfSome b (λ x. IsFirstAside net x.edge) → IfSome b (IsBar net) → ShowsBar net b
shows_bar net None none least bar = none.0 refl
shows_bar net (Some b) none least bar = (least, bar)

-- the nodes of the net are the fragments
pub nodes_are : (o : PlainOptions) (text : List ℕ) (f : Fragments) (net : Net) → IsLayerOfText o text f net → net.graph.nodes ≡ length f.rects
nodes_are o text f net h = of_layer o text (λ cells kept. IsCutLayer o cells kept f net) (λ cells kept l. l.is.layer.net.nodes) h

-- what tells of the drawing of a text's layer tells of the text
pub crossed : (o : PlainOptions) (text output : List ℕ) (f : Fragments) (net : Net)
    → IsLayerOfText o text f net → TellsDrawing f net output → IsCrossed o text output
crossed o text output f net h tells = on_layer o text (λ cells kept. IsCutLayer o cells kept f net) (CrossesCells o output)
    (λ cells kept l. record { fragments = f; net = net; layer = l.is; tells = tells }) h
