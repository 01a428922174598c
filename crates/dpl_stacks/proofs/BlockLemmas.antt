-- Blocks of stacks, and the stacks on either side of a column.
use Rattle.std.proofs.Common.{arith, ◌≡◌, ◌⊎◌, ◌∙◌, ◌-◌, ◌<◌, ℤ, ◌<ℤ◌, ◌≤ℤ◌, List, length, get_or, reverse, All, AllPairs, Any}
use Rattle.std.proofs.Common.{ap, sym, refl, inl, inr, [], ◌∷◌, ◌++◌, ◌+◌, take, drop, append_assoc, Vec}
use Rattle.std.specs.declared.alloc.Global.{Global}
use Rattle.std.proofs.lemmas.Bool.{cases_lt}
use Rattle.std.proofs.lemmas.List.{get_or_default, reverse-append, append-nil, length-reverse, take_all, take_more}
use Rattle.std.proofs.lemmas.List.Concat.{flat_map-append}
use Rattle.std.proofs.lemmas.List.Elements.{All-append}
use Rattle.dpl_cell.specs.declared.rect.Rect.{Rect}
use Rattle.dpl_stacks.specs.Stacks.{IsLeftOf, joined}
use Rattle.dpl_stacks.proofs.OrderLemmas.{part_ordered, across}
use Rattle.dpl_stacks.proofs.PlaceLemmas.{gap_same, to_left}
use Rattle.dpl_list.proofs.Integers.{signed}

-- ---- one more block

pub joined_pushed : (blocks : List (Vec Rect Global)) (b : Vec Rect Global) → joined (blocks ++ b ∷ []) ≡ joined blocks ++ b.items
joined_pushed blocks b = flat_map-append (λ (v : Vec Rect Global). v.items) blocks (b ∷ []) ∙ ap (λ xs. joined blocks ++ xs) (append-nil b.items)

-- the last block is the nearest
pub joined_next : (blocks : List (Vec Rect Global)) (b : Vec Rect Global) → joined (reverse (blocks ++ b ∷ [])) ≡ b.items ++ joined (reverse blocks)
joined_next blocks b = ap joined (reverse-append blocks (b ∷ []))

-- the last block and those before it
pub last_block : (blocks : List (Vec Rect Global)) (b : Vec Rect Global) → 0 < length blocks → get_or blocks (length blocks - 1) b ≡ b
    → blocks ≡ take (length blocks - 1) blocks ++ b ∷ []
last_block blocks b l e =
    let n : length blocks - 1 + 1 ≡ length blocks = omega arith in
    sym (take_all (length blocks) blocks (omega arith)) ∙ ap (λ k. take k blocks) (sym n) ∙
    take_more blocks (length blocks - 1) b (omega arith) ∙ ap (λ (v : Vec Rect Global). take (length blocks - 1) blocks ++ v ∷ []) e

-- ---- sides of a column

pub some_here : (P : Rect → Type 0) (xs : List Rect) → All P xs → 0 < length xs → Any P xs
some_here P [] a l = absurd (omega arith)
some_here P (x ∷ xs) a l = (0, x, l, refl, a 0 x l)

-- stacks behind one that does not end left of the column
pub later_right : (xs ys : List Rect) (c : ℤ) → AllPairs IsLeftOf (xs ++ ys) → Any (λ r. c ≤ℤ r.x2) xs → All (λ r. c ≤ℤ r.x2) ys
later_right xs ys c up (k, r, l, e, h) j d m = after (get_or ys j d) (rw (get_or_default ys j r d m, e) at (across xs ys up k j r l m)) where
  after : (q : Rect) → IsLeftOf r q → c ≤ℤ q.x2
  after q i = let w = q.wide in omega signed

-- stacks before one that ends left of the column
pub earlier_left : (xs ys : List Rect) (c : ℤ) → AllPairs IsLeftOf (xs ++ ys) → Any (λ r. r.x2 <ℤ c) ys → All (λ r. r.x2 <ℤ c) xs
earlier_left xs ys c up (k, r, l, e, h) j d m = before (get_or xs j d) (rw (get_or_default xs j r d m, e) at (across xs ys up j k r m l)) where
  before : (q : Rect) → IsLeftOf q r → q.x2 <ℤ c
  before q i = let w = r.wide in omega signed

-- stacks behind one that begins right of the column
pub later_begins : (xs ys : List Rect) (c : ℤ) → AllPairs IsLeftOf (xs ++ ys) → Any (λ r. c <ℤ r.x1) xs → All (λ r. c <ℤ r.x1) ys
later_begins xs ys c up (k, r, l, e, h) j d m = after (get_or ys j d) (rw (get_or_default ys j r d m, e) at (across xs ys up k j r l m)) where
  after : (q : Rect) → IsLeftOf r q → c <ℤ q.x1
  after q i = let w = r.wide in omega signed

pub all_end_left : (xs : List Rect) (r : Rect) (c : ℤ) → AllPairs IsLeftOf xs → get_or xs (length xs - 1) r ≡ r → r.x2 <ℤ c → All (λ q. q.x2 <ℤ c) xs
all_end_left xs r c up e h k d l = elim (cases_lt k (length xs - 1)) [
  | inl g ↦ before (get_or xs k d) (rw (get_or_default xs k r d l, e) at (up k (length xs - 1) r g (omega arith)))
  | inr g ↦ let i : k ≡ length xs - 1 = omega arith in rw (i, get_or_default xs (length xs - 1) d r (omega arith) ∙ e) h
] where
  before : (q : Rect) → IsLeftOf q r → q.x2 <ℤ c
  before q i = let w = r.wide in omega signed

pub all_end_right : (xs : List Rect) (r : Rect) (c : ℤ) → AllPairs IsLeftOf xs → get_or xs 0 r ≡ r → c ≤ℤ r.x2 → All (λ q. c ≤ℤ q.x2) xs
all_end_right xs r c up e h k d l = elim (cases_lt 0 k) [
  | inl g ↦ after (get_or xs k d) (rw (get_or_default xs k r d l, e) at (up 0 k r g l))
  | inr g ↦ let i : k ≡ 0 = omega arith in rw (i, get_or_default xs 0 d r (omega arith) ∙ e) h
] where
  after : (q : Rect) → IsLeftOf r q → c ≤ℤ q.x2
  after q i = let w = q.wide in omega signed

-- ---- the last block, which is the nearest

module _ (blocks : List (Vec Rect Global)) (b : Vec Rect Global) where
  parts : 0 < length blocks → get_or blocks (length blocks - 1) b ≡ b → joined blocks ≡ joined (take (length blocks - 1) blocks) ++ b.items
  parts l e = ap joined (last_block blocks b l e) ∙ joined_pushed (take (length blocks - 1) blocks) b

  parts_back : 0 < length blocks → get_or blocks (length blocks - 1) b ≡ b →
      joined (reverse blocks) ≡ b.items ++ joined (reverse (take (length blocks - 1) blocks))
  parts_back l e = ap (λ (vs : List (Vec Rect Global)). joined (reverse vs)) (last_block blocks b l e) ∙ joined_next (take (length blocks - 1) blocks) b

  pub last_block_ordered : AllPairs IsLeftOf (joined blocks) → 0 < length blocks → get_or blocks (length blocks - 1) b ≡ b →
      AllPairs IsLeftOf b.items
  last_block_ordered up l e = (part_ordered (joined (take (length blocks - 1) blocks)) b.items (rw (parts l e) at up)).1

  pub last_block_left : (c : ℤ) → AllPairs IsLeftOf (joined blocks) → 0 < length blocks → get_or blocks (length blocks - 1) b ≡ b →
      All (λ r. r.x2 <ℤ c) b.items → 0 < length b.items → All (λ r. r.x2 <ℤ c) (joined blocks)
  last_block_left c up l e all some = rw (parts l e) (All-append (λ r. r.x2 <ℤ c) (joined (take (length blocks - 1) blocks)) b.items
      (earlier_left (joined (take (length blocks - 1) blocks)) b.items c (rw (parts l e) at up) (some_here (λ r. r.x2 <ℤ c) b.items all some)) all)

  pub next_block_ordered : AllPairs IsLeftOf (joined (reverse blocks)) → 0 < length blocks → get_or blocks (length blocks - 1) b ≡ b →
      AllPairs IsLeftOf b.items
  next_block_ordered up l e = (part_ordered b.items (joined (reverse (take (length blocks - 1) blocks))) (rw (parts_back l e) at up)).0

  pub next_block_right : (c : ℤ) → AllPairs IsLeftOf (joined (reverse blocks)) → 0 < length blocks → get_or blocks (length blocks - 1) b ≡ b →
      All (λ r. c ≤ℤ r.x2) b.items → 0 < length b.items → All (λ r. c ≤ℤ r.x2) (joined (reverse blocks))
  next_block_right c up l e all some = rw (parts_back l e)
      (All-append (λ r. c ≤ℤ r.x2) b.items (joined (reverse (take (length blocks - 1) blocks))) all
      (later_right b.items (joined (reverse (take (length blocks - 1) blocks))) c (rw (parts_back l e) at up) (some_here (λ r. c ≤ℤ r.x2) b.items all some)))

-- ---- blocks that pass

pub next_ordered : (left right rest : List (Vec Rect Global)) (b : Vec Rect Global) → AllPairs IsLeftOf (joined left ++ joined (reverse right))
    → right ≡ rest ++ b ∷ [] → AllPairs IsLeftOf (b.items ++ joined (reverse rest))
next_ordered left right rest b up e = rw (← joined_next rest b, ← e) ((part_ordered (joined left) (joined (reverse right)) up).1)

pub passed_block : (left right left' rest : List (Vec Rect Global)) (b : Vec Rect Global) → left' ≡ left ++ b ∷ [] → right ≡ rest ++ b ∷ []
    → joined left' ++ joined (reverse rest) ≡ joined left ++ joined (reverse right)
passed_block left right left' rest b e f = rw (e, f, joined_pushed left b, joined_next rest b)
    (append_assoc (joined left) b.items (joined (reverse rest)))

pub more_left : (left left' : List (Vec Rect Global)) (b : Vec Rect Global) (c : ℤ) → left' ≡ left ++ b ∷ []
    → All (λ r. r.x2 <ℤ c) (joined left) → All (λ r. r.x2 <ℤ c) b.items → All (λ r. r.x2 <ℤ c) (joined left')
more_left left left' b c e a h = rw (e, joined_pushed left b) (All-append (λ r. r.x2 <ℤ c) (joined left) b.items a h)

-- where stacks stand behind the place in no block, or no blocks stand there
pub all_behind : (right : List Rect) (blocks : List (Vec Rect Global)) (c : ℤ) → AllPairs IsLeftOf (reverse right ++ joined (reverse blocks))
    → All (λ r. c <ℤ r.x1) (reverse right) → (0 < length right) ⊎ (blocks ≡ [])
    → All (λ r. c <ℤ r.x1) (reverse right ++ joined (reverse blocks))
all_behind right blocks c up a (inl l) = let n = length-reverse right in
    All-append (λ r. c <ℤ r.x1) (reverse right) (joined (reverse blocks)) a
    (later_begins (reverse right) (joined (reverse blocks)) c up (some_here (λ r. c <ℤ r.x1) (reverse right) a (omega arith)))
all_behind right blocks c up a (inr e) = rw e (All-append (λ r. c <ℤ r.x1) (reverse right) [] a (λ k d l. absurd (omega (arith, l))))

-- ---- all stacks in blocks

pub closed_whole : (before left right left' right' all behind : List Rect) (blocks : List (Vec Rect Global)) → right' ≡ take 0 right
    → all ≡ left ++ reverse (drop 0 right) → left' ≡ [] → joined blocks ≡ before ++ all
    → (joined blocks ++ left') ++ (reverse right' ++ behind) ≡ (before ++ left) ++ (reverse right ++ behind)
closed_whole before left right left' right' all behind blocks e f none g =
    ap (λ xs. (joined blocks ++ xs) ++ (reverse right' ++ behind)) none ∙ ap (λ xs. xs ++ (reverse right' ++ behind)) (append-nil (joined blocks) ∙ g) ∙
    gap_same before left (reverse right) all (reverse right') behind (to_left left right all right' 0 e f)
