use Rattle.std.proofs.Common.{arith, ◌≡◌, ◌∙◌, ap, sym, ◌+◌, ◌-◌, take}
use Rattle.std.proofs.Math.Seq.{take-add}
use Rattle.dpl_cover.proofs.cover.between.Goals as goal

pub returns : goal.returns
returns c =
    let n : c.args.from + (c.args.to - c.args.from) ≡ c.args.to = omega (arith, c.requires.order) in
    ap (λ k. take k c.args.boxes.now) (sym n) ∙ take-add c.args.from (c.args.to - c.args.from) c.args.boxes.now
