use Rattle.std.proofs.Common.{map}
use Rattle.dpl_cell.specs.Places.{corners_of}
use Rattle.dpl_cuts.proofs.ZoneLemmas.{tell_shapes}
use Rattle.dpl_cuts.proofs.laws.shapes_are_told.Goals as goal

pub returns : goal.returns
returns c = λ keep tiles label count' s a. tell_shapes keep c.args.space c.args.overlap tiles label count'
    (map corners_of c.args.fragments.now.rects) c.args.fragments.now.tile c.args.fragments.now.shape c.requires s
    a.parts
