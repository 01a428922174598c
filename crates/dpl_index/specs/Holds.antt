-- Bounds that lie in others.
use Rattle.std.specs.Prelude.{◌≤ℤ◌}
use Rattle.dpl_index.specs.declared.bounds.Bounds.{Bounds}

-- the second bounds lie in the first
pub record Holds (outer inner : Bounds) : Type 0 where
  pub left : outer.left ≤ℤ inner.left
  pub right : inner.right ≤ℤ outer.right
  pub low : outer.low ≤ℤ inner.low
  pub high : inner.high ≤ℤ outer.high
