use Rattle.std.proofs.Common.{◌+◌, length}
use Rattle.dpl_flood.specs.Holdings.{stack_of}
use Rattle.dpl_flood.specs.Listings.{IsOneOf, IsStacked}
use Rattle.dpl_flood.specs.States.{sea_of}
use Rattle.dpl_flood.proofs.HolderLemmas.{noted_more, stack_more}
use Rattle.dpl_flood.proofs.holders.note_stacks.Goals as goal

pub loop-i-preserved : goal.loop-i-preserved
loop-i-preserved c =
    let stack = stack_of c.args.state.now.held in
    let faces = c.faces.result.now in
    let i = c.loop-i.i in
    noted_more (sea_of c.args.state.now).point (IsStacked stack i) (IsOneOf faces (length faces)) (IsStacked stack (i + 1)) c.args.found.now.items
    c.loop-i.found.items c.note_all.new.found.items c.loop-i.invariant c.in_ok-note_all.ensures (λ g. stack_more stack faces i g c.faces.ensures)
