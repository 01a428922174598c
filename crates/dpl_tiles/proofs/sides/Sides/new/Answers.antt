use Rattle.std.proofs.Common.{◌≡◌, ◌∙◌, ◌%◌, ℤ, ap}
use Rattle.dpl_tiles.specs.Sides.{standing}
use Rattle.dpl_tiles.proofs.sides.Sides.new.Goals as goal

pub returns : goal.returns
returns c =
    let e : (x y : ℤ) → standing x y c.in_ok-all.all.items % 2 ≡ standing x y c.in_ok-drawn.drawn.items % 2 = rw c.as_slice.ensures.value at c.in_ok-all.ensures in
    λ x y. e x y ∙ ap (λ n. n % 2) (c.in_ok-drawn.ensures x y)
