use Rattle.std.proofs.Common.{arith}
use Rattle.dpl_laminar.proofs.Walks.{circle_first, circle_start, circle_more, circle_end}
use Rattle.dpl_laminar.proofs.rings.untie.Goals as goal

pub loop-init : goal.loop-init
loop-init c = record { untied = circle_start _ _ _ c.requires.circle c.requires.some; some = omega arith; most = omega (arith, c.requires.some) }

pub next-next-requires : goal.next-next-requires
next-next-requires c = omega (arith, circle_first _ _ _ c.requires.circle c.requires.some, c.loop.invariant.untied.same_length)

pub splice-requires-clause-first : goal.splice-requires-clause-first
splice-requires-clause-first c = omega (arith, circle_first _ _ _ c.requires.circle c.requires.some, c.loop.invariant.untied.same_length)

pub loop-preserved : goal.loop-preserved
loop-preserved c = record {
  untied = rw (c.splice.ensures.value, c.next-next.ensures.value)
      (circle_more _ _ _ c.loop.ring c.loop.counter c.requires.circle c.loop.invariant.some c.loop-test.true
      c.loop.invariant.untied);
  some = omega arith;
  most = omega (arith, c.loop-test.true);
}

pub returns-clause-alone : goal.returns-clause-alone
returns-clause-alone c = circle_end _ _ _ c.loop.ring c.loop.counter c.requires.some
    (omega (arith, c.loop-test.false, c.loop.invariant.most)) c.loop.invariant.untied
