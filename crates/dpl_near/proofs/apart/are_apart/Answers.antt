use Rattle.std.proofs.Common.{rules, IsTrue, false, refl}
use Rattle.dpl_near.proofs.ApartLemmas.{below_more, all_apart, apart_at}
use Rattle.dpl_cell.proofs.BoxLemmas.{not_by_test}
use Rattle.dpl_near.proofs.apart.are_apart.Goals as goal

never : {A : Type 0} → IsTrue false → A
never t = absurd (let h = t in not_by_test false refl (λ (u : IsTrue false). u) h)

pub returns-then-not-is_apart : goal.returns-then-not-is_apart
returns-then-not-is_apart c = (
  (λ t. never t),
  (λ a. absurd (not_by_test _ c.if-not-is_apart.true c.is_apart.ensures.1
      (apart_at c.args.rects.now c.firsts.i c.seconds.j c.index-rects-i.result c.index-rects-j.result c.firsts-test.true
      c.seconds-test.true c.index-rects-i.is c.index-rects-j.is a))),
)

pub seconds-preserved : goal.seconds-preserved
seconds-preserved c = below_more _ c.firsts.i _ c.firsts-test.false c.firsts.invariant

pub returns : goal.returns
returns c = ((λ t. all_apart _ c.seconds.j c.seconds-test.false c.seconds.invariant), (λ a. search rules))
