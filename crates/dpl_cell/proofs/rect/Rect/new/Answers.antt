use Rattle.std.proofs.Common.{rules}
use Rattle.dpl_cell.proofs.rect.Rect.new.Goals as goal

pub invariant_of-result : goal.invariant_of-result
invariant_of-result c =
    let s = c.is_stretch.ensures.0 (search rules) in
    let t = c.is_stretch-then-is_stretch.ensures.0 (search rules) in
    record { wide = s.some; high = t.some; left = s.low; right = s.high; below = t.low; above = t.high }
