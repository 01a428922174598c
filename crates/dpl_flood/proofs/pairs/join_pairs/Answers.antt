use Rattle.std.proofs.Common.{arith, ◌<◌, ◌+◌, length, List, Bool, subst, sym}
use Rattle.std.specs.Prelude.{slice_index}
use Rattle.dpl_flood.specs.Flips.{ArePairsJoined}
use Rattle.dpl_flood.specs.Joins.{dist_in}
use Rattle.dpl_flood.proofs.ChainedLemmas.{pairs_none, pairs_skip, pairs_joined}
use Rattle.dpl_flood.proofs.pairs.join_pairs.Goals as goal
use Rattle.dpl_flood.proofs.pairs.join_pairs.Goals.{then-i-other+in_ok-join_two, else-i-other}

pub loop-i-init : goal.loop-i-init
loop-i-init c = λ f. pairs_none _ _ _ _ _

pub loop-i-preserved : goal.loop-i-preserved
loop-i-preserved c = λ f.
    let mate = slice_index c.args.mate.now in
    let i = c.loop-i.i in
    let inside : i < length c.args.seats.now = omega (arith, c.loop-i-test.true, c.requires.members) in
    let P : List Bool → Type 0 = λ z.
    ArePairsJoined c.args.ways.now c.args.seats.now mate (dist_in c.args.ways.now c.args.arena.now c.args.joins.now f) (i + 1) c.args.joined.now z in
    elim c.if-i-other.branch [
      | then-i-other+in_ok-join_two w ↦
          let some = c.requires.some i inside in
          subst P (sym w.joined-is)
          (pairs_joined c.args.ways.now c.args.arena.now c.args.joins.now c.args.seats.now mate f i c.args.joined.now _ _ some.0
          c.requires.nodes c.requires.joins c.requires.seats w.if-i-other.true (c.requires.pairing.range i inside) some.1
          (w.in_ok-join_two.ensures some.0 some.1) (c.loop-i.invariant f))
      | else-i-other w ↦ subst P (sym w.joined-is) (pairs_skip _ _ mate _ i _ _ w.if-i-other.false (c.loop-i.invariant f))
    ]
