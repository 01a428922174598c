-- Stacks that lie left of one another, and the place among them.
use Rattle.std.specs.Prelude.{◌≡◌, ℤ, ◌<ℤ◌, ◌≤ℤ◌, List, ◌++◌, reverse, All, Vec}
use Rattle.std.specs.List.{flat_map}
use Rattle.std.specs.declared.alloc.Global.{Global}
use Rattle.dpl_cell.specs.declared.rect.Rect.{Rect}
use Rattle.dpl_stacks.specs.declared.stacks.Stacks.{Stacks}

-- the first lies left of the second, with a column between
abbrev pub IsLeftOf : Rect → Rect → Type 0
IsLeftOf p q = p.x2 <ℤ q.x1

-- the stacks of blocks, from the left
abbrev pub joined : List (Vec Rect Global) → List Rect
joined blocks = flat_map (λ b. b.items) blocks

-- the stacks left of the place, from the left
abbrev pub before_of : Stacks → List Rect
before_of s = joined s.far_left.items ++ s.left.items

-- the stacks from the place on, from the left
abbrev pub behind_of : Stacks → List Rect
behind_of s = reverse s.right.items ++ joined (reverse s.far_right.items)

-- all stacks, from the left
abbrev pub stacks_of : Stacks → List Rect
stacks_of s = before_of s ++ behind_of s

-- the place stands at a column: the stacks that end left of the column lie left of the place, and no others
pub record IsAtColumn (column : ℤ) (old new : Stacks) : Type 0 where
  pub whole : stacks_of new ≡ stacks_of old
  pub left : All (λ r. r.x2 <ℤ column) (before_of new)
  pub right : All (λ r. column ≤ℤ r.x2) (behind_of new)

-- the stacks in three lists: those left of the columns, those near, and those right of the columns
pub record IsParted (held : List Rect) (d1 d2 : ℤ) (before near behind : List Rect) : Type 0 where
  pub some : d1 ≤ℤ d2
  pub whole : held ≡ before ++ (near ++ behind)
  pub left : All (λ r. r.x2 <ℤ d1) before
  pub not_left : All (λ r. d1 ≤ℤ r.x2) near
  pub not_right : All (λ r. r.x1 ≤ℤ d2) near
  pub right : All (λ r. d2 <ℤ r.x1) behind
