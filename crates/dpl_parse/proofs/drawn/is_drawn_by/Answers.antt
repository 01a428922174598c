use Rattle.std.proofs.Common.{rules, ◌≡◌, pos, ◌+ℤ◌, ◌-ℤ◌, ◌*ℤ◌, refl}
use Rattle.dpl_parse.proofs.drawn.is_drawn_by.Goals as goal

pub returns : goal.returns
returns c =
    let l : (c.args.to -ℤ c.args.from) *ℤ pos 2 ≡ c.args.length = search rules in
    let m : c.args.from +ℤ c.args.to ≡ c.args.middle = search rules in
    (λ t. (l, m), λ e. refl)
