-- Ways along tight joins from top to top.
use Rattle.std.specs.Prelude.{◌≡◌, ◌≢◌, ℕ, ◌+◌, ◌%◌, ◌<◌, ◌≤◌, ◌⊎◌, ◌==◌, ◌||◌, if◌then◌else◌, Bool, true, Some, List, []}
use Rattle.std.specs.Prelude.{◌∷◌, length, map, reverse}
use Rattle.std.specs.List.{list_any}
use Rattle.dpl_laminar.specs.Families.{Sets}
use Rattle.dpl_tree.specs.steps.Forests.{free, outer, Forest}
use Rattle.dpl_tree.specs.Mates.{IsExit, loads}

-- each join leads from a member of one top to one of the next, from the top a to the top b
abbrev pub IsWay : ℕ → Sets → (ℕ → ℕ → ℕ) → ℕ → List (ℕ × ℕ) → ℕ → Type 0
IsWay n f dist a [] b = a ≡ b
IsWay n f dist a (j ∷ js) b =
    (j.0 < n) × (j.1 < n) × (f.top j.0 ≡ a) × (loads n f j.0 j.1 ≡ dist j.0 j.1) ×
    IsWay n f dist (f.top j.1) js b

-- how often a number stands in a list
abbrev pub times_in : List ℕ → ℕ → ℕ
times_in [] c = 0
times_in (x ∷ xs) c = (if x == c then 1 else 0) + times_in xs c

-- the tops that joins lead from, and those that they lead to
abbrev pub tops_from : Sets → List (ℕ × ℕ) → List ℕ
tops_from f joins = map (λ j. f.top j.0) joins

abbrev pub tops_to : Sets → List (ℕ × ℕ) → List ℕ
tops_to f joins = map (λ j. f.top j.1) joins

-- a member is an end of one of the joins
abbrev pub is_end : List (ℕ × ℕ) → ℕ → Bool
is_end joins m = list_any (λ j. (j.0 == m) || (j.1 == m)) joins

-- The sets below a and b on two ways up in one tree, each as often as it was met: none twice, each
-- with the set that it is paired with, and no outer one among them has less rank than a or b, or
-- is a or b.
pub record AreGathered (n : ℕ) (f : Sets) (x : Forest) (a b : ℕ) (met : ℕ → ℕ) : Type 0 where
  pub a_outer : x.place a ≡ outer
  pub b_outer : x.place b ≡ outer
  pub level : x.tree a ≡ x.tree b
  pub same : (c : ℕ) → 0 < met c → x.tree c ≡ x.tree a
  pub once : (c : ℕ) → met c ≤ 1
  pub in_tree : (c : ℕ) → 0 < met c → x.place c ≢ free
  pub above : (c : ℕ) → 0 < met c → x.place c ≡ outer →
      (x.rank a ≤ x.rank c) × (x.rank b ≤ x.rank c) ×
      (c ≢ a) × (c ≢ b)
  pub ranks : (c : ℕ) → 0 < met c → (x.rank a ≤ x.rank c) ⊎ (x.rank b ≤ x.rank c)
  pub closed : (c m t : ℕ) → 0 < met c → IsExit n f x.mate c m t → 0 < met (f.top t)

-- how often a set was met on the two ways
abbrev pub met_on : Sets → List (ℕ × ℕ) → List (ℕ × ℕ) → ℕ → ℕ
met_on f left right c = times_in (tops_to f left) c + times_in (tops_from f right) c

-- two ways up to the sets a and b, the left one downwards with its last join first
pub record Ways : Type 0 where
  pub left : List (ℕ × ℕ)
  pub right : List (ℕ × ℕ)
  pub a : ℕ
  pub b : ℕ

abbrev pub ways : List (ℕ × ℕ) → List (ℕ × ℕ) → ℕ → ℕ → Ways
ways left right a b = record { left = left; right = right; a = a; b = b }

-- two ways up from the sets of the members of a join
pub record AreClimbing (n : ℕ) (f : Sets) (dist : ℕ → ℕ → ℕ) (x : Forest) (join : ℕ × ℕ)
    (w : Ways) : Type 0 where
  pub way_left : IsWay n f dist w.a (reverse w.left) (f.top join.0)
  pub way_right : IsWay n f dist (f.top join.1) w.right w.b
  pub sets : AreGathered n f x w.a w.b (met_on f w.left w.right)
  pub even : (length w.left + length w.right) % 2 ≡ 0
  -- the member of each set met that has a mate is an end of them
  pub ends : (m t : ℕ) → m < n → x.mate m ≡ Some t → 0 < met_on f w.left w.right (f.top m) →
      (is_end w.left m || is_end w.right m) ≡ true
