-- The stacks before, near and behind columns, by their places.
use Rattle.std.proofs.Common.{arith, ◌≡◌, ◌∙◌, ℕ, ◌-◌, ℤ, ◌<ℤ◌, ◌≤ℤ◌, List, length}
use Rattle.std.proofs.Common.{get_or, take, drop, reverse, All, AllPairs, Any, sym, ap, inl, inr, ◌++◌, append_assoc}
use Rattle.std.specs.List.Sorted.{IsPartitionPoint}
use Rattle.std.proofs.lemmas.Bool.{cases_lt}
use Rattle.std.proofs.lemmas.List.{take-append-drop, get_or-reverse, get_or_default, length-reverse, reverse-append, reverse-reverse}
use Rattle.std.proofs.lemmas.List.Elements.{All-append}
use Rattle.dpl_cell.specs.declared.rect.Rect.{Rect}
use Rattle.dpl_stacks.specs.Stacks.{IsLeftOf, IsParted}
use Rattle.dpl_stacks.proofs.OrderLemmas.{across, all_left, all_right, all_reverse, first_ones, from_right, last_ones, part_ordered}
use Rattle.dpl_list.proofs.Lists.{any_left}
use Rattle.dpl_list.proofs.Integers.{signed}

-- ---- moving stacks from one list to the other leaves their order

pub to_right : (left right left' right' : List Rect) (n : ℕ) → left' ≡ take n left
    → right' ≡ right ++ reverse (drop n left) → left' ++ reverse right' ≡ left ++ reverse right
to_right left right left' right' n e f = rw (
  e,
  f,
  reverse-append right (reverse (drop n left)),
  reverse-reverse (drop n left),
) (sym (append_assoc (take n left) (drop n left) (reverse right)) ∙
    ap (λ xs. xs ++ reverse right) (take-append-drop n left))

pub to_left : (left right left' right' : List Rect) (n : ℕ) → right' ≡ take n right
    → left' ≡ left ++ reverse (drop n right) → left' ++ reverse right' ≡ left ++ reverse right
to_left left right left' right' n e f = rw (e, f) (append_assoc left (reverse (drop n right)) (reverse (take n right)) ∙
    ap (λ xs. left ++ xs) (sym (reverse-append (take n right) (drop n right)) ∙ ap reverse (take-append-drop n right)))

-- two lists that meet, between others
pub tail_same : (left right left' right' far : List Rect) → left' ++ right' ≡ left ++ right
    → left' ++ (right' ++ far) ≡ left ++ (right ++ far)
tail_same left right left' right' far e = sym (append_assoc left' right' far) ∙ ap (λ xs. xs ++ far) e ∙ append_assoc left right far

pub gap_same : (before left right left' right' behind : List Rect) → left' ++ right' ≡ left ++ right
    → (before ++ left') ++ (right' ++ behind) ≡ (before ++ left) ++ (right ++ behind)
gap_same before left right left' right' behind e = append_assoc before left' (right' ++ behind) ∙
    ap (λ xs. before ++ xs) (tail_same left right left' right' behind e) ∙ sym (append_assoc before left (right ++ behind))

-- each part of four lists is ordered
module _ (before left right behind : List Rect) (up : AllPairs IsLeftOf ((before ++ left) ++ (right ++ behind))) where
  pub before_ordered : AllPairs IsLeftOf before
  before_ordered = (part_ordered before left ((part_ordered (before ++ left) (right ++ behind) up).0)).0

  pub left_ordered : AllPairs IsLeftOf left
  left_ordered = (part_ordered before left ((part_ordered (before ++ left) (right ++ behind) up).0)).1

  pub right_ordered : AllPairs IsLeftOf right
  right_ordered = (part_ordered right behind ((part_ordered (before ++ left) (right ++ behind) up).1)).0

  pub last_ordered : AllPairs IsLeftOf behind
  last_ordered = (part_ordered right behind ((part_ordered (before ++ left) (right ++ behind) up).1)).1

-- the two moves
pub record AreMoves (c : ℤ) (left right left1 right1 left2 right2 : List Rect) (a b : ℕ) : Type 0 where
  pub is_left1 : left1 ≡ take a left
  pub is_right1 : right1 ≡ right ++ reverse (drop a left)
  pub not_left : IsPartitionPoint (λ r. r.x2 <ℤ c) (λ r. c ≤ℤ r.x2) left a
  pub is_right2 : right2 ≡ take b right1
  pub is_left2 : left2 ≡ left1 ++ reverse (drop b right1)
  pub more_left : IsPartitionPoint (λ r. c ≤ℤ r.x2) (λ r. r.x2 <ℤ c) right1 b

module _ (c : ℤ) (left right left1 right1 left2 right2 : List Rect) (a b : ℕ) (m : AreMoves c left right left1 right1 left2 right2 a b) where
  pub moved_whole : left2 ++ reverse right2 ≡ left ++ reverse right
  moved_whole = to_left left1 right1 left2 right2 b m.is_right2 m.is_left2 ∙ to_right left right left1 right1 a m.is_left1 m.is_right1

  pub moved_left : All (λ r. r.x2 <ℤ c) left2
  moved_left = rw (m.is_left2, m.is_left1) (All-append (λ r. r.x2 <ℤ c) (take a left) (reverse (drop b right1))
      (first_ones (λ r. r.x2 <ℤ c) left a m.not_left.0)
      (all_reverse (λ r. r.x2 <ℤ c) (drop b right1) (last_ones (λ r. r.x2 <ℤ c) right1 b m.more_left.1)))

  pub moved_right : All (λ r. c ≤ℤ r.x2) (reverse right2)
  moved_right = all_reverse (λ r. c ≤ℤ r.x2) right2 (rw m.is_right2 (first_ones (λ r. c ≤ℤ r.x2) right1 b m.more_left.0))

-- ---- stacks near columns taken from the right

pub taken_near : (near right near' : List Rect) (c : ℤ) (n : ℕ) → near' ≡ near ++ reverse (drop n right)
    → IsPartitionPoint (λ r. c <ℤ r.x1) (λ r. r.x1 ≤ℤ c) right n → All (λ r. r.x1 ≤ℤ c) near → All (λ r. r.x1 ≤ℤ c) near'
taken_near near right near' c n e place a = rw e (All-append (λ r. r.x1 ≤ℤ c) near (reverse (drop n right)) a
    (all_reverse (λ r. r.x1 ≤ℤ c) (drop n right) (last_ones (λ r. r.x1 ≤ℤ c) right n place.1)))

pub taken_right : (right right' : List Rect) (c : ℤ) (n : ℕ) → right' ≡ take n right
    → IsPartitionPoint (λ r. c <ℤ r.x1) (λ r. r.x1 ≤ℤ c) right n → All (λ r. c <ℤ r.x1) (reverse right')
taken_right right right' c n e place = all_reverse (λ r. c <ℤ r.x1) right' (rw e (first_ones (λ r. c <ℤ r.x1) right n place.0))

-- a list of stacks in three parts
pub parted : (held before rest near behind : List Rect) (d1 d2 : ℤ) → d1 ≤ℤ d2 → held ≡ before ++ rest
    → All (λ r. r.x2 <ℤ d1) before → All (λ r. d1 ≤ℤ r.x2) rest → near ++ behind ≡ rest → All (λ r. r.x1 ≤ℤ d2) near
    → All (λ r. d2 <ℤ r.x1) behind → IsParted held d1 d2 before near behind
parted held before rest near behind d1 d2 some whole left not_left e not_right right = record {
  some = some;
  whole = whole ∙ ap (λ xs. before ++ xs) (sym e);
  left = left;
  not_left = all_left (λ r. d1 ≤ℤ r.x2) near behind (rw e not_left);
  not_right = not_right;
  right = right;
}

-- the last one from the right begins before all others
pub last_begins : (xs : List Rect) (r : Rect) (c : ℤ) → AllPairs IsLeftOf (reverse xs) → get_or xs (length xs - 1) r ≡ r → c ≤ℤ r.x1 → All (λ q. c ≤ℤ q.x1) xs
last_begins xs r c up e h k d l = elim (cases_lt k (length xs - 1)) [
  | inl g ↦ let i : IsLeftOf r (get_or xs k d) = rw (get_or_default xs (length xs - 1) d r (omega arith) ∙ e) at
      (from_right xs up k (length xs - 1) d g (omega arith)) in later (get_or xs k d) i
  | inr g ↦ let i : k ≡ length xs - 1 = omega arith in rw (i, get_or_default xs (length xs - 1) d r (omega arith) ∙ e) h
] where
  later : (q : Rect) → IsLeftOf r q → c ≤ℤ q.x1
  later q i = let v = r.wide in omega signed

-- the columns reach further to the right, and so do the stacks near them
pub parted_wider : (held before near behind near' behind' : List Rect) (d1 d2 c : ℤ)
    → IsParted held d1 d2 before near behind → d2 ≤ℤ c → near' ++ behind' ≡ near ++ behind
    → All (λ r. r.x1 ≤ℤ c) near' → All (λ r. c <ℤ r.x1) behind' → IsParted held d1 c before near' behind'
parted_wider held before near behind near' behind' d1 d2 c p h e not_right right =
    parted held before (near ++ behind) near' behind' d1 c (let g = p.some in omega signed) p.whole p.left
    (All-append (λ r. d1 ≤ℤ r.x2) near behind p.not_left (λ k d l. past (get_or behind k d) (p.right k d l))) e not_right right where
      past : (r : Rect) → d2 <ℤ r.x1 → d1 ≤ℤ r.x2
      past r i = let w = r.wide in let g = p.some in omega signed

-- none near begins right of a column further to the right
pub still_near : (near : List Rect) (d2 c : ℤ) → d2 ≤ℤ c → All (λ r. r.x1 ≤ℤ d2) near → All (λ r. r.x1 ≤ℤ c) near
still_near near d2 c h a k d l = chain _ (a k d l) where
  chain : (x : ℤ) → x ≤ℤ d2 → x ≤ℤ c
  chain x i = omega signed

-- ---- the three parts

module _ (held : List Rect) (d1 d2 : ℤ) (before near behind : List Rect) (p : IsParted held d1 d2 before near behind) where
  pub near_all : (P : Rect → Type 0) → All P held → All P near
  near_all P a = all_left P near behind (all_right P before (near ++ behind) (rw p.whole at a))

  pub rest_ordered : AllPairs IsLeftOf held → AllPairs IsLeftOf (near ++ behind)
  rest_ordered up = (part_ordered before (near ++ behind) (rw p.whole at up)).1

  pub near_ordered : AllPairs IsLeftOf held → AllPairs IsLeftOf near
  near_ordered up = (part_ordered near behind (rest_ordered up)).0

  pub behind_ordered : AllPairs IsLeftOf held → AllPairs IsLeftOf behind
  behind_ordered up = (part_ordered near behind (rest_ordered up)).1

  -- a column behind the begin of a stack on the right lies right of all that is near
  pub behind_one : AllPairs IsLeftOf held → (c : ℤ) → Any (λ r. r.x1 <ℤ c) behind → (d2 <ℤ c) × All (λ r. r.x2 <ℤ c) near
  behind_one up c (k, r, l, e, h) = (
    chain d2 (rw e at (p.right k r l)),
    λ i d g. chain _ (rw (get_or_default near i r d g, e) at (across near behind (rest_ordered up) i k r g l)),
  ) where
    chain : (x : ℤ) → x <ℤ r.x1 → x <ℤ c
    chain x f = omega signed

pub any_behind : (P : Rect → Type 0) (right far : List Rect) → Any P right → Any P (reverse right ++ far)
any_behind P right far (k, r, l, e, p) =
    let n = length-reverse right in
    let i : length right - 1 - (length right - 1 - k) ≡ k = omega arith in
    any_left P (reverse right) far (
      length right - 1 - k,
      r,
      omega arith,
      rw (get_or-reverse right (length right - 1 - k) r (omega arith), i) e,
      p,
    )
