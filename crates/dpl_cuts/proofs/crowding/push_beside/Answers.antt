use Rattle.std.proofs.Common.{arith}
use Rattle.dpl_cuts.proofs.ShutLemmas.{adds_first, adds_last, adds_next, separate_front}
use Rattle.dpl_cuts.proofs.crowding.push_beside.Goals as goal

pub groups-init : goal.groups-init
groups-init c = adds_first _ _ c.args.tiling.now.space c.args.i c.args.reach _ _ c.requires.separate c.requires.shut

pub push_beside_group-requires-clause-shut : goal.push_beside_group-requires-clause-shut
push_beside_group-requires-clause-shut c = c.groups.invariant.so_far

pub push_beside_group-requires-clause-separate : goal.push_beside_group-requires-clause-separate
push_beside_group-requires-clause-separate c = rw c.split_at.ensures.front (separate_front c.count_together.result _ c.groups.invariant.separate)

pub groups-smaller : goal.groups-smaller
groups-smaller c = let n = c.split_at.ensures.back_len in let some = c.count_together.ensures.some in let h = c.groups-test.true in omega arith

pub groups-preserved : goal.groups-preserved
groups-preserved c =
    rw c.split_at.ensures.back (adds_next _ _ c.args.tiling.now.space c.args.i c.args.reach c.count_together.result _ c.groups.rest.now _
    c.groups.shut.items _ (rw c.split_at.ensures.front at c.in_ok-push_beside_group.ensures) c.groups.invariant)

pub returns : goal.returns
returns c =
    adds_last _ _ c.args.tiling.now.space c.args.i c.args.reach _ c.groups.rest.now _ _ (let h = c.groups-test.false in omega arith) c.groups.invariant
