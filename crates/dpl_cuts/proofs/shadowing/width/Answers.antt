use Rattle.std.proofs.Common.{arith, inl, inr, ◌≤◌, ◌+◌}
use Rattle.std.proofs.lemmas.Bool.{cases_lt}
use Rattle.dpl_list.proofs.Naturals.{square_le}
use Rattle.dpl_cuts.proofs.shadowing.width.Goals as goal

pub returns : goal.returns
returns c =
    let less : c.args.across + 1 ≤ c.args.space = omega (arith, c.if-across-space.false) in
    let above = square_le (c.args.across + 1) c.args.space less in
    record {
      close = omega (arith, c.root.ensures.square, above);
      all = λ v h. elim (cases_lt c.root.result v) [
        | inl g ↦ let far = square_le (c.root.result + 1) v (omega (arith, g)) in
            omega (arith, h, far, c.root.ensures.greatest)
        | inr g ↦ g
      ];
    }
