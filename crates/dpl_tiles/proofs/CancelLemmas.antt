-- Sides that cover the same rows of a column cancel in pairs: the ends in a column, in order, are the ends of sides that cover no row twice.
use Rattle.std.proofs.Common.{arith, ◌≡◌, ◌⊎◌, ℕ, suc, ◌+◌, ◌%◌, ◌<◌, ◌≤◌, ℤ, ◌<ℤ◌, ◌≤ℤ◌, List, length, get_or, take, drop, ◌-◌}
use Rattle.std.proofs.Common.{◌∙◌, AllPairs, All, refl, sym, ap, inl, inr, ◌∷◌, [], ◌++◌, Bool, true, false, ◌&&◌, int_le}
use Rattle.std.specs.Int.{int_max}
use Rattle.std.specs.List.Sorted.{IsPermutation}
use Rattle.std.proofs.lemmas.Int.{ints, clamps}
use Rattle.std.proofs.lemmas.List.{take_all}
use Rattle.std.proofs.lemmas.List.Sums.{sum_by-cons, sum_by_push, sum_by_more}
use Rattle.std.proofs.lemmas.List.Sorted.{sum_by-IsPermutation}
use Rattle.dpl_cell.specs.Layers.{is_within}
use Rattle.dpl_tiles.specs.declared.end.End.{End}
use Rattle.dpl_tiles.specs.declared.side.Side.{Side}
use Rattle.dpl_tiles.specs.Sides.{standing, stands}
use Rattle.dpl_tiles.specs.Ends.{AddsEnds, ArePaired, StandsFirst, standing_ends, left_ends}
use Rattle.dpl_list.proofs.Integers.{signed}
use Rattle.dpl_list.proofs.Lists.{pairs_head, pairs_tail}
use Rattle.dpl_tiles.proofs.SideLemmas.{bit}

-- ---- the ends of a side

-- the end stands at or left of the column, and at or below the row
abbrev pub at_end : ℤ → ℤ → End → ℕ
at_end x y e = bit (int_le e.column x && int_le e.row y)

pub ends_parity : (x y c l h : ℤ) → bit (int_le c x && is_within l h y) % 2 ≡ (bit (int_le c x && int_le l y) + bit (int_le c x && int_le (int_max l h) y)) % 2
ends_parity x y c l h = grind (arith, ints, clamps)

pub ends_added : (s : Side) (a b : End) (old mid new : List End) → a.column ≡ s.column → a.row ≡ s.low
    → b.column ≡ s.column → b.row ≡ int_max s.low s.high → mid ≡ old ++ a ∷ [] → new ≡ mid ++ b ∷ [] → AddsEnds s old new
ends_added s a b old mid new ca ra cb rb e f = rw (f, e) (record {
  same = λ x y. let p = sum_by_push (at_end x y) old a in let q = sum_by_push (at_end x y) (old ++ a ∷ []) b in
      let h : at_end x y a ≡ bit (int_le s.column x && int_le s.low y) = rw (ca, ra) refl in
      let g : at_end x y b ≡ bit (int_le s.column x && int_le (int_max s.low s.high) y) = rw (cb, rb) refl in
      omega (arith, p, q, h, g, ends_parity x y s.column s.low s.high);
  paired = λ x. let p = sum_by_push (λ (e : End). bit (int_le e.column x)) old a in
      let q = sum_by_push (λ (e : End). bit (int_le e.column x)) (old ++ a ∷ []) b in
      let h : bit (int_le a.column x) ≡ bit (int_le b.column x) = rw (ca, cb) refl in
      omega (arith, p, q, h);
})

-- the ends of the first of some sides
pub record AreEndsSoFar (sides : List Side) (i : ℕ) (ends : List End) : Type 0 where
  pub same : (x y : ℤ) → standing_ends x y ends % 2 ≡ standing x y (take i sides) % 2
  pub paired : ArePaired ends

pub ends_none : (sides : List Side) → AreEndsSoFar sides 0 []
ends_none sides = record { same = λ x y. refl; paired = λ x. refl }

pub ends_more : (sides : List Side) (i : ℕ) (s : Side) (old new : List End) → i < length sides → s ≡ get_or sides i s
    → AddsEnds s old new → AreEndsSoFar sides i old → AreEndsSoFar sides (i + 1) new
ends_more sides i s old new l is adds so = record {
  same = λ x y. let m = sum_by_more (λ (t : Side). bit (stands x y t)) sides i s l in
      let e : bit (stands x y (get_or sides i s)) ≡ bit (stands x y s) = ap (λ (t : Side). bit (stands x y t)) (sym is) in
      omega (arith, m, e, adds.same x y, so.same x y);
  paired = λ x. adds.paired x ∙ so.paired x;
}

pub ends_all : (sides : List Side) (i : ℕ) (ends : List End) → length sides ≤ i → AreEndsSoFar sides i ends
    → (x y : ℤ) → standing_ends x y ends % 2 ≡ standing x y sides % 2
ends_all sides i ends l so x y = so.same x y ∙ ap (λ (ss : List Side). standing x y ss % 2) (take_all i sides l)

-- ---- pairs of ends

pub record Cancelling (ends : List End) (sides : List Side) (rest : List End) : Type 0 where
  pub sorted : AllPairs StandsFirst rest
  pub paired : ArePaired rest
  pub same : (x y : ℤ) → (standing x y sides + standing_ends x y rest) % 2 ≡ standing_ends x y ends % 2

pub cancelling_none : (ends : List End) → AllPairs StandsFirst ends → ArePaired ends → Cancelling ends [] ends
cancelling_none ends s p = record { sorted = s; paired = p; same = λ x y. let z : 0 + standing_ends x y ends ≡ standing_ends x y ends = omega arith in ap (λ n. n % 2) z }

-- no end of a list stands left of its first
none_before : (x : ℤ) (e : End) (es : List End) → x <ℤ e.column → AllPairs StandsFirst (e ∷ es) → left_ends x (e ∷ es) ≡ 0
none_before x e [] h s = sum_by-cons (λ (e : End). bit (int_le e.column x)) e [] ∙ far x e.column h where
  far : (x c : ℤ) → x <ℤ c → bit (int_le c x) + 0 ≡ 0
  far x c h = grind (arith, ints)
none_before x e (f ∷ es) h s =
    let w = pairs_head StandsFirst e (f ∷ es) s 0 f (omega arith) in
    sum_by-cons (λ (e : End). bit (int_le e.column x)) e (f ∷ es) ∙
    omega (arith, far x e.column h, none_before x f es (further x e f h w) (pairs_tail StandsFirst e (f ∷ es) s)) where
      far : (x c : ℤ) → x <ℤ c → bit (int_le c x) ≡ 0
      far x c h = grind (arith, ints)

      further : (x : ℤ) (e f : End) → x <ℤ e.column → StandsFirst e f → x <ℤ f.column
      further x e f h w = elim w [ inl l ↦ omega signed | inr (l, r) ↦ omega signed ]

counted : (c : ℤ) → bit (int_le c c) ≡ 1
counted c = grind (arith, ints)

-- the first two ends stand in one column
pub one_column : (a b : End) (rest : List End) → AllPairs StandsFirst (a ∷ b ∷ rest) → ArePaired (a ∷ b ∷ rest) → a.column ≡ b.column
one_column a b rest s p = elim (pairs_head StandsFirst a (b ∷ rest) s 0 b (omega arith)) [
  | inl h ↦ absurd (let n = none_before a.column b rest h (pairs_tail StandsFirst a (b ∷ rest) s) in
      let e = sum_by-cons (λ (e : End). bit (int_le e.column a.column)) a (b ∷ rest) in
      let q = p a.column in let t = counted a.column in omega (arith, n, e, q, t))
  | inr (h, r) ↦ h
]

-- no end is left over
none_over : (ends : List End) → AllPairs StandsFirst ends → ArePaired ends → length ends ≤ 1 → ends ≡ []
none_over [] s p l = refl
none_over (e ∷ []) s p l = absurd (let q = p e.column in let t = counted e.column in
    let c = sum_by-cons (λ (f : End). bit (int_le f.column e.column)) e [] in omega (arith, q, t, c))
none_over (e ∷ f ∷ es) s p l = absurd (omega (arith, l))

pub cancelling_all : (ends : List End) (sides : List Side) (rest : List End) → Cancelling ends sides rest → length rest ≤ 1
    → (x y : ℤ) → standing x y sides % 2 ≡ standing_ends x y ends % 2
cancelling_all ends sides rest c l x y = go rest (none_over rest c.sorted c.paired l) (c.same x y) where
  go : (rest : List End) → rest ≡ [] → (standing x y sides + standing_ends x y rest) % 2 ≡ standing_ends x y ends % 2
      → standing x y sides % 2 ≡ standing_ends x y ends % 2
  go [] e h = let z : standing x y sides + 0 ≡ standing x y sides = omega arith in ap (λ n. n % 2) (sym z) ∙ h
  go (r ∷ rs) e h = absurd (let n = ap (λ (es : List End). length es) e in omega (arith, n))

pair_parity : (x y c l h : ℤ) → l ≤ℤ h → bit (int_le c x && is_within l h y) % 2 ≡ (bit (int_le c x && int_le l y) + bit (int_le c x && int_le h y)) % 2
pair_parity x y c l h o = grind (arith, ints)

equal_parity : (x y c h : ℤ) → (bit (int_le c x && int_le h y) + bit (int_le c x && int_le h y)) % 2 ≡ 0
equal_parity x y c h = omega arith

twice_left : (x : ℤ) (a b : End) (rest : List End) → a.column ≡ b.column → ArePaired (a ∷ b ∷ rest) → left_ends x rest % 2 ≡ 0
twice_left x a b rest e p =
    let f = sum_by-cons (λ (e : End). bit (int_le e.column x)) a (b ∷ rest) in
    let g = sum_by-cons (λ (e : End). bit (int_le e.column x)) b rest in
    let h : bit (int_le a.column x) ≡ bit (int_le b.column x) = rw e refl in
    let q = p x in omega (arith, f, g, h, q)

in_order : (a b : End) → StandsFirst a b → a.column ≡ b.column → a.row ≤ℤ b.row
in_order a b s e = elim s [ inl l ↦ absurd (omega signed) | inr (l, r) ↦ r ]

pub cancelling_more : (ends : List End) (sides new : List Side) (rest others : List End) (a b : End) (s : Side)
    → Cancelling ends sides rest → rest ≡ a ∷ b ∷ others → new ≡ sides ++ s ∷ [] → s.column ≡ a.column
    → s.low ≡ a.row → s.high ≡ b.row → Cancelling ends new others
cancelling_more ends sides new rest others a b s c e f column low high =
    let sorted' : AllPairs StandsFirst (a ∷ b ∷ others) = rw e at c.sorted in
    let paired' : ArePaired (a ∷ b ∷ others) = rw e at c.paired in
    let one = one_column a b others sorted' paired' in
    record {
      sorted = pairs_tail StandsFirst b others (pairs_tail StandsFirst a (b ∷ others) sorted');
      paired = λ x. twice_left x a b others one paired';
      same = λ x y.
          let h : (standing x y sides + standing_ends x y (a ∷ b ∷ others)) % 2 ≡ standing_ends x y ends % 2 = rw e at (c.same x y) in
          let n : standing x y new ≡ standing x y sides + bit (int_le a.column x && is_within a.row b.row y) =
          rw (f, ← column, ← low, ← high) (sum_by_push (λ (t : Side). bit (stands x y t)) sides s) in
          let p = sum_by-cons (at_end x y) a (b ∷ others) in let q = sum_by-cons (at_end x y) b others in
          let t : at_end x y b ≡ bit (int_le a.column x && int_le b.row y) = rw one refl in
          let m = pair_parity x y a.column a.row b.row (in_order a b (pairs_head StandsFirst a (b ∷ others) sorted' 0 b (omega arith)) one) in
          omega (arith, h, n, p, q, t, m);
    }

pub cancelling_skip : (ends : List End) (sides : List Side) (rest others : List End) (a b : End)
    → Cancelling ends sides rest → rest ≡ a ∷ b ∷ others → b.row ≤ℤ a.row → Cancelling ends sides others
cancelling_skip ends sides rest others a b c e f =
    let sorted' : AllPairs StandsFirst (a ∷ b ∷ others) = rw e at c.sorted in
    let paired' : ArePaired (a ∷ b ∷ others) = rw e at c.paired in
    let one = one_column a b others sorted' paired' in
    let row : a.row ≡ b.row = let o = in_order a b (pairs_head StandsFirst a (b ∷ others) sorted' 0 b (omega arith)) one in omega (signed, o, f) in
    record {
      sorted = pairs_tail StandsFirst b others (pairs_tail StandsFirst a (b ∷ others) sorted');
      paired = λ x. twice_left x a b others one paired';
      same = λ x y.
          let h : (standing x y sides + standing_ends x y (a ∷ b ∷ others)) % 2 ≡ standing_ends x y ends % 2 = rw e at (c.same x y) in
          let p = sum_by-cons (at_end x y) a (b ∷ others) in let q = sum_by-cons (at_end x y) b others in
          let t : at_end x y a ≡ at_end x y b = rw (one, row) refl in
          omega (arith, h, p, q, t);
    }

-- ---- the first two of a list

pub end_front : (rest : List End) (a b d e : End) → 2 ≤ length rest → a ≡ get_or rest 0 d → b ≡ get_or rest 1 e
    → rest ≡ a ∷ b ∷ take (length rest - 2) (drop 2 rest)
end_front [] a b d e h f g = absurd (omega arith)
end_front (x ∷ []) a b d e h f g = absurd (omega arith)
end_front (x ∷ y ∷ zs) a b d e h f g = ap (λ (l : List End). x ∷ y ∷ l) (sym (take_all (length (x ∷ y ∷ zs) - 2) zs (omega arith))) ∙
    ap (λ (z : End). z ∷ y ∷ take (length (x ∷ y ∷ zs) - 2) zs) (sym f) ∙ ap (λ (z : End). a ∷ z ∷ take (length (x ∷ y ∷ zs) - 2) zs) (sym g)

pub greater_is : (a b g : ℤ) → a ≤ℤ g → b ≤ℤ g → (g ≡ a) ⊎ (g ≡ b) → g ≡ int_max a b
greater_is a b g h i (inl e) = let h' : b ≤ℤ a = rw e at i in rw e (max_left a b h') where
  max_left : (a b : ℤ) → b ≤ℤ a → a ≡ int_max a b
  max_left a b h = grind (arith, ints, clamps)
greater_is a b g h i (inr e) = let h' : a ≤ℤ b = rw e at h in rw e (max_right a b h') where
  max_right : (a b : ℤ) → a ≤ℤ b → b ≡ int_max a b
  max_right a b h = grind (arith, ints, clamps)

-- ---- in order

pub same_ends : (x y : ℤ) (old new : List End) → IsPermutation old new → standing_ends x y old ≡ standing_ends x y new
same_ends x y old new p = sym (sum_by-IsPermutation (at_end x y) old new p)

pub sorted_paired : (old new : List End) → IsPermutation old new → ArePaired old → ArePaired new
sorted_paired old new p a x = ap (λ n. n % 2) (sum_by-IsPermutation (λ (e : End). bit (int_le e.column x)) old new p) ∙ a x
