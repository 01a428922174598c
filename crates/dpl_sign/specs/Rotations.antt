-- The rotation of a node: the darts that leave it, in the circle of their ports.
use Rattle.std.specs.Prelude.{◌≡◌, ℕ, ◌/◌, ◌<◌, ◌&&◌, Bool, true, false}
use Rattle.dpl_sign.specs.declared.nets.Net.{Net}
use Rattle.dpl_sign.specs.Drawings.{dart_count, tail_of, is_before}

-- a dart of the set that leaves a node
pub record Leaves (net : Net) (set : ℕ → Bool) (v d : ℕ) : Type 0 where
  pub inside : d < dart_count net
  pub chosen : set (d / 2) ≡ true
  pub tail : tail_of net.graph d ≡ v

-- Of the darts of the set that leave a node, c comes after d by their ports: none stands between
-- the two. Where c does not stand behind d, then d is the last of them and c the first.
pub record ComesNext (net : Net) (set : ℕ → Bool) (v d c : ℕ) : Type 0 where
  pub there : Leaves net set v c
  pub between : is_before net d c ≡ true →
      (x : ℕ) → Leaves net set v x → (is_before net d x && is_before net x c) ≡ false
  pub around : is_before net d c ≡ false →
      (x : ℕ) → Leaves net set v x → (is_before net d x ≡ false) × (is_before net x c ≡ false)
