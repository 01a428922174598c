use Rattle.std.proofs.Common.{arith, refl, ap, inl, inr}
use Rattle.std.proofs.lemmas.Bool.{cases_eq}
use Rattle.dpl_pack.specs.Ranks.{depth_at}
use Rattle.dpl_pack.proofs.RankLemmas.{marked_more}
use Rattle.dpl_pack.proofs.ranks.mark_up_to.Goals as goal

pub loop-i-preserved : goal.loop-i-preserved
loop-i-preserved c =
    let inside = c.requires.faces c.loop-i.i (0, 0) c.loop-i-test.true c.if-depth-level.false in
    record {
      marked = marked_more c.args.order.now c.loop-i.i _ c.loop-i.inside c.loop-i-test.true refl
          (omega (arith, inside, c.loop-i.auto.inside)) c.loop-i.invariant.marked;
      before = λ j h. elim (cases_eq j c.loop-i.i) [
        | inl q ↦ omega (arith, ap (depth_at c.args.order.now) q, c.if-depth-level.false)
        | inr ne ↦ c.loop-i.invariant.before j (omega (arith, h, ne))
      ];
    }
