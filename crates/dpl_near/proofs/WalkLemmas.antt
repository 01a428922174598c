-- Walks from cell to cell.
use Rattle.std.proofs.Common.{◌≡◌, ℕ, zero, suc, ℤ, pos, ◌+ℤ◌, ◌-ℤ◌, ◌≤ℤ◌, List, refl, subst, ◌∷◌, [], ◌++◌, Bool, IsTrue}
use Rattle.std.specs.Int.RustNames.{unsigned_abs}
use Rattle.dpl_cell.specs.Edges.{AreNeighbours}
use Rattle.dpl_cell.specs.Shapes.{IsWalk, AreOneShape}
use Rattle.dpl_list.proofs.Integers.{signed}

pub walk_start : (cells : ℤ → ℤ → Bool) (x y : ℤ) (cs : List (ℤ × ℤ)) (x' y' : ℤ) → IsWalk cells x y cs x' y' → IsTrue (cells x y)
walk_start cells x y [] x' y' (h, e, f) = h
walk_start cells x y (c ∷ cs) x' y' (h, n, w) = h

walk_on : (cells : ℤ → ℤ → Bool) (x y : ℤ) (cs : List (ℤ × ℤ)) (x' y' : ℤ) (ds : List (ℤ × ℤ)) (x'' y'' : ℤ)
    → IsWalk cells x y cs x' y' → IsWalk cells x' y' ds x'' y'' → IsWalk cells x y (cs ++ ds) x'' y''
walk_on cells x y [] x' y' ds x'' y'' (h, e, f) w = rw (e, f) w
walk_on cells x y (c ∷ cs) x' y' ds x'' y'' (h, n, v) w = (h, n, walk_on cells c.0 c.1 cs x' y' ds x'' y'' v w)

pub joined_here : (cells : ℤ → ℤ → Bool) (x y : ℤ) → IsTrue (cells x y) → AreOneShape cells x y x y
joined_here cells x y h = ([], (h, refl, refl))

pub joined_on : (cells : ℤ → ℤ → Bool) (x y x' y' x'' y'' : ℤ) → AreOneShape cells x y x' y' → AreOneShape cells x' y' x'' y'' → AreOneShape cells x y x'' y''
joined_on cells x y x' y' x'' y'' (cs, v) (ds, w) = (cs ++ ds, walk_on cells x y cs x' y' ds x'' y'' v w)

pub joined_step : (cells : ℤ → ℤ → Bool) (x y x' y' : ℤ) → IsTrue (cells x y) → IsTrue (cells x' y') → AreNeighbours x y x' y' → AreOneShape cells x y x' y'
joined_step cells x y x' y' h h' n = ((x', y') ∷ [], (h, n, (h', refl, refl)))

distance_back : (a b : ℤ) → unsigned_abs (b -ℤ a) ≡ unsigned_abs (a -ℤ b)
distance_back a b = omega signed

pub neighbours_back : (x y x' y' : ℤ) → AreNeighbours x y x' y' → AreNeighbours x' y' x y
neighbours_back x y x' y' n = rw (distance_back x x', distance_back y y') n

joined_back_walk : (cells : ℤ → ℤ → Bool) (x y : ℤ) (cs : List (ℤ × ℤ)) (x' y' : ℤ) → IsWalk cells x y cs x' y' → AreOneShape cells x' y' x y
joined_back_walk cells x y [] x' y' (h, e, f) = rw (← e, ← f) (joined_here cells x y h)
joined_back_walk cells x y (c ∷ cs) x' y' (h, n, w) = joined_on cells x' y' c.0 c.1 x y
    (joined_back_walk cells c.0 c.1 cs x' y' w) (joined_step cells c.0 c.1 x y (walk_start cells c.0 c.1 cs x' y' w) h
    (neighbours_back x y c.0 c.1 n))

pub joined_back : (cells : ℤ → ℤ → Bool) (x y x' y' : ℤ) → AreOneShape cells x y x' y' → AreOneShape cells x' y' x y
joined_back cells x y x' y' (cs, w) = joined_back_walk cells x y cs x' y' w

-- along one row, and along one column
pub along_row : (cells : ℤ → ℤ → Bool) (n : ℕ) (x y : ℤ) → ((k : ℤ) → x ≤ℤ k → k ≤ℤ (x +ℤ pos n) → IsTrue (cells k y)) → AreOneShape cells x y (x +ℤ pos n) y
along_row cells zero x y h = let e : x ≡ x +ℤ pos 0 = omega signed in let P : ℤ → Type 0 =
    λ z. AreOneShape cells x y z y in subst P e (joined_here cells x y (h x (omega signed) (omega signed)))
along_row cells (suc n) x y h =
    let e : (x +ℤ pos 1) +ℤ pos n ≡ x +ℤ pos (suc n) = omega signed in
    let P : ℤ → Type 0 = λ z. AreOneShape cells x y z y in
    subst P e (joined_on cells x y (x +ℤ pos 1) y ((x +ℤ pos 1) +ℤ pos n) y
    (joined_step cells x y (x +ℤ pos 1) y (h x (omega signed) (omega signed)) (h (x +ℤ pos 1) (omega signed) (omega signed)) (omega signed))
    (along_row cells n (x +ℤ pos 1) y (λ k f t. h k (omega signed) (omega signed))))

pub along_column : (cells : ℤ → ℤ → Bool) (n : ℕ) (x y : ℤ) → ((k : ℤ) → y ≤ℤ k → k ≤ℤ (y +ℤ pos n) → IsTrue (cells x k)) → AreOneShape cells x y x (y +ℤ pos n)
along_column cells zero x y h = let e : y ≡ y +ℤ pos 0 = omega signed in let P : ℤ → Type 0 =
    λ z. AreOneShape cells x y x z in subst P e (joined_here cells x y (h y (omega signed) (omega signed)))
along_column cells (suc n) x y h =
    let e : (y +ℤ pos 1) +ℤ pos n ≡ y +ℤ pos (suc n) = omega signed in
    let P : ℤ → Type 0 = λ z. AreOneShape cells x y x z in
    subst P e (joined_on cells x y x (y +ℤ pos 1) x ((y +ℤ pos 1) +ℤ pos n)
    (joined_step cells x y x (y +ℤ pos 1) (h y (omega signed) (omega signed)) (h (y +ℤ pos 1) (omega signed) (omega signed)) (omega signed))
    (along_column cells n x (y +ℤ pos 1) (λ k f t. h k (omega signed) (omega signed))))

-- how far the second is above the first
pub steps : (a b : ℤ) → a ≤ℤ b → (n : ℕ) × (b ≡ a +ℤ pos n)
steps a b h = (unsigned_abs (b -ℤ a), omega signed)
