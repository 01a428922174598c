-- The faces near a set in the order of their depths.
use Rattle.std.specs.Prelude.{◌≡◌, ℕ, ◌<◌, ◌≤◌, Bool, List, length, map, take, slice_index, slice_index_or, All}
use Rattle.dpl_pack.specs.Moats.{IsWritten}

-- a depth and its face, at a place
abbrev pub entry_at : List (ℕ × ℕ) → ℕ → ℕ × ℕ
entry_at order i = slice_index_or order i (0, 0)

abbrev pub depth_at : List (ℕ × ℕ) → ℕ → ℕ
depth_at order i = (entry_at order i).0

-- so many first faces
abbrev pub first_faces : List (ℕ × ℕ) → ℕ → List ℕ
first_faces order n = take n (map (λ e. e.1) order)

-- the first faces of a list, each with its depth, in their order
pub record AreListed (faces depths : List ℕ) (n : ℕ) (order : List (ℕ × ℕ)) : Type 0 where
  pub size : length order ≡ n
  pub each : (j : ℕ) → j < n → entry_at order j ≡ (slice_index depths j, slice_index faces j)

-- faces with their depths, from the least depth on
pub record AreRanked (faces depths : List ℕ) (order : List (ℕ × ℕ)) : Type 0 where
  pub ascending : (i j : ℕ) → i ≤ j → j < length order → depth_at order i ≤ depth_at order j
  pub all : (j : ℕ) → j < length faces → (i : ℕ) × (i < length order) ×
      (entry_at order i ≡ (slice_index depths j, slice_index faces j))
  pub only : (i : ℕ) → i < length order → (j : ℕ) × (j < length faces) ×
      (entry_at order i ≡ (slice_index depths j, slice_index faces j))

-- so many first faces are marked, and no others
pub record AreMarkedFirst (order : List (ℕ × ℕ)) (n : ℕ) (inside : List Bool) : Type 0 where
  pub few : n ≤ length order
  pub below : All (λ f. f < length inside) (first_faces order n)
  pub written : IsWritten (first_faces order n) inside
