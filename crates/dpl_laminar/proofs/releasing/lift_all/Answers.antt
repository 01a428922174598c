use Rattle.std.proofs.Common.{arith, ◌≡◌, ℕ, ◌<◌, Bool, ap, sym, ◌∙◌, refl, cond, get_or, length, []}
use Rattle.dpl_laminar.specs.Families.{has}
use Rattle.dpl_laminar.specs.Storing.{circle_of}
use Rattle.dpl_laminar.proofs.Walks.{length_ring, ring_at, ring_next, ring_whole}
use Rattle.dpl_laminar.proofs.Lifting.{lifted_none, lifted_more}
use Rattle.dpl_laminar.proofs.releasing.lift_all.Goals as goal

pub loop-init : goal.loop-init
loop-init c = record { at = refl; lifted = lifted_none _ _ c.args.tops.now; most = omega arith }

pub lift_set-requires-clause-set : goal.lift_set-requires-clause-set
lift_set-requires-clause-set c = omega (arith, ring_at _ _ _ _ c.loop.child c.loop-test.true c.loop.invariant.at, c.requires.below c.loop.counter c.loop-test.true)

pub lift_set-requires-clause-rows : goal.lift_set-requires-clause-rows
lift_set-requires-clause-rows c = rw c.loop.auto.tops c.requires.rows

pub next-child-requires : goal.next-child-requires
next-child-requires c = omega (
  arith,
  ring_at _ _ _ _ c.loop.child c.loop-test.true c.loop.invariant.at,
  c.requires.below c.loop.counter c.loop-test.true,
  c.requires.ring,
)

pub loop-preserved : goal.loop-preserved
loop-preserved c =
    let cs = circle_of c.args.ring.now c.args.first c.args.count in
    let table : ℕ → ℕ → Bool = λ i m. has (get_or c.args.rows.now i []) m in
    let here : get_or cs c.loop.counter 0 ≡ c.loop.child = ring_at _ _ _ _ c.loop.child c.loop-test.true c.loop.invariant.at in
    let lifted : (m : ℕ) → m < length c.args.tops.now →
    get_or c.lift_set.new.tops m 0 ≡ cond (table (get_or cs c.loop.counter 0) m) (get_or cs c.loop.counter 0)
    (get_or c.loop.tops m 0) =
    λ m h. c.lift_set.ensures m ∙
    ap (λ z. cond (table z m) z (get_or c.loop.tops m 0)) (sym here) in
    record {
      at = ring_next c.args.ring.now c.args.first c.loop.counter c.loop.child c.next-child.result c.loop.invariant.at c.next-child.ensures.value;
      lifted = lifted_more (length c.args.tops.now) table cs c.loop.counter c.args.tops.now c.loop.tops c.lift_set.new.tops
          (omega (arith, c.loop-test.true, length_ring c.args.ring.now c.args.first c.args.count)) c.requires.apart
          c.loop.invariant.lifted lifted;
      most = omega (arith, c.loop-test.true);
    }

pub returns-clause-inside : goal.returns-clause-inside
returns-clause-inside c = rw (← ring_whole c.args.ring.now c.args.first c.args.count c.loop.counter
    (omega (arith, c.loop-test.false))) c.loop.invariant.lifted.inside

pub returns-clause-outside : goal.returns-clause-outside
returns-clause-outside c = rw (← ring_whole c.args.ring.now c.args.first c.args.count c.loop.counter
    (omega (arith, c.loop-test.false))) c.loop.invariant.lifted.outside
