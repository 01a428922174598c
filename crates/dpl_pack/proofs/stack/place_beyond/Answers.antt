use Rattle.std.proofs.Common.{arith, ap, inl, inr, get_or}
use Rattle.std.proofs.lemmas.Bool.{cases_eq}
use Rattle.dpl_pack.proofs.stack.place_beyond.Goals as goal

pub loop-i-preserved : goal.loop-i-preserved
loop-i-preserved c j h = elim (cases_eq j c.loop-i.i) [
  | inl q ↦ omega (arith, ap (λ z. get_or c.args.depths.now z 0) q, c.if-depths-i.false)
  | inr ne ↦ c.loop-i.invariant j (omega (arith, h, ne))
]
