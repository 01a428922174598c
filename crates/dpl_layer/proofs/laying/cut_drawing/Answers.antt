use Rattle.std.proofs.Common.{ap, Err}
use Rattle.dpl_cell.specs.Layers.{cells_of}
use Rattle.dpl_layer.proofs.RefusalLemmas.{tiles_refuse, kept_refuses}
use Rattle.dpl_layer.proofs.laying.cut_drawing.Goals as goal

pub returns-in-Err-clause-refused : goal.returns-in-Err-clause-refused
returns-in-Err-clause-refused c = rw c.refusal.ensures
    (tiles_refuse c.args.options.now (cells_of c.args.drawing.now.layer) (cells_of c.args.drawing.now.keep)
    c.in-Err.error (λ h. c.in-Err.ensures.many (ap Err h)))

pub returns-in-Err-tiles-clause-refused : goal.returns-in-Err-tiles-clause-refused
returns-in-Err-tiles-clause-refused c = rw c.refusal-in-Err-tiles.ensures
    (kept_refuses c.args.options.now (cells_of c.args.drawing.now.layer) (cells_of c.args.drawing.now.keep)
    c.in-Ok.tiles.items c.in-Err-tiles.error c.in-Ok.ensures.tiles c.in-Ok.ensures.few
    (λ h. c.in-Err-tiles.ensures.many (ap Err h)))
