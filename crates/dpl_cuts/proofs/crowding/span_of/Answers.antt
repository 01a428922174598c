use Rattle.dpl_cell.specs.Cells.{IsWithin}
use Rattle.dpl_cuts.proofs.ShutLemmas.{between_ends, marked_part, marked_all}
use Rattle.dpl_cuts.proofs.crowding.span_of.Goals as goal

pub returns-clause-part : goal.returns-clause-part
returns-clause-part c = marked_part c.args.lane.now
    (IsWithin c.index-stretches-0.result.from c.index-stretches-count.result.to) c.part_between.result c.part_between.ensures

pub returns-clause-all : goal.returns-clause-all
returns-clause-all c = λ p w t. marked_all c.args.lane.now
    (IsWithin c.index-stretches-0.result.from c.index-stretches-count.result.to) c.part_between.result p c.part_between.ensures w
    (between_ends c.args.stretches.now c.index-stretches-0.result c.index-stretches-count.result p c.requires
    c.index-stretches-0.is c.index-stretches-count.is t)
