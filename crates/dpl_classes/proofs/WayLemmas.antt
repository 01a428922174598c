-- Where ways up end, as they are made shorter and joined.
use Rattle.std.proofs.Common.{arith, ◌≡◌, ◌≢◌, ℕ, ◌+◌, ◌<◌, ◌≤◌, ◌==◌, List, length, get_or, set, length-set, ◌∙◌, All}
use Rattle.std.proofs.Common.{refl, sym, ap, subst, inl, inr, cond, max, min, map, get_or-set_other, get_or-set_same}
use Rattle.std.proofs.lemmas.Bool.{cases_lt, cases_eq}
use Rattle.std.proofs.lemmas.List.{get_or-map, length-map, ext_get_or}
use Rattle.dpl_classes.specs.Ways.{AreTops, IsUnited}
use Rattle.dpl_classes.specs.Roots.{Falls}
use Rattle.dpl_classes.proofs.RootLemmas.{moved_yes, moved_no, Rooted, rooted_none, rooted_more, rooted_all, move_at}

-- each number is its own end at first
pub tops_none : (ups : List ℕ) → ((k : ℕ) → k < length ups → get_or ups k 0 ≡ k) → AreTops ups ups
tops_none ups h = record {
  long = refl;
  falls = λ i l. let e = h i l in omega arith;
  same = λ i l. let e = h i l in ap (λ k. get_or ups k 0) e;
  ends = λ i l e. e;
}

-- one step of a way is left out
pub falls_short : (ups : List ℕ) (at next : ℕ) → Falls ups → at < length ups → next ≡ get_or ups (get_or ups at 0) 0 → Falls (set ups at next)
falls_short ups at next f within e i l =
    let l' : i < length ups = let g = length-set ups at next in omega arith in elim (cases_eq i at) [
      | inl g ↦ rw (g, get_or-set_same ups at next 0 within) (let a = f at within in let b = f (get_or ups at 0) (omega arith) in omega arith)
      | inr n ↦ rw (get_or-set_other ups at i next 0 n) (f i l')
    ]

pub tops_short : (ups tops : List ℕ) (at next : ℕ) → at < length ups → next ≡ get_or ups (get_or ups at 0) 0 → AreTops ups tops → AreTops (set ups at next) tops
tops_short ups tops at next within e t = record {
  long = t.long ∙ sym (length-set ups at next);
  falls = falls_short ups at next t.falls within e;
  same = λ i l. elim (cases_eq i at) [
    | inl g ↦ rw (g, get_or-set_same ups at next 0 within, e) (t.same _ lower ∙ t.same at within)
    | inr n ↦ rw (get_or-set_other ups at i next 0 n) (t.same i (shorter i l))
  ];
  ends = λ i l. elim (cases_eq i at) [
    | inl g ↦ rw (g, get_or-set_same ups at next 0 within, e)
        (λ h. t.ends at within (let a = t.falls at within in let b = t.falls (get_or ups at 0) lower in omega arith))
    | inr n ↦ rw (get_or-set_other ups at i next 0 n) (t.ends i (shorter i l))
  ];
} where
  lower : get_or ups at 0 < length ups
  lower = let a = t.falls at within in omega arith

  shorter : (i : ℕ) → i < length (set ups at next) → i < length ups
  shorter i l = let g = length-set ups at next in omega arith

-- the end of the way from the place `at` is that of the way from `of`
pub top_step : (ups tops : List ℕ) (at next of : ℕ) → at < length ups → next ≡ get_or ups (get_or ups at 0) 0
    → AreTops ups tops → get_or tops at 0 ≡ get_or tops of 0 → get_or tops next 0 ≡ get_or tops of 0
top_step ups tops at next of within e t h = let a = t.falls at within in rw e (t.same (get_or ups at 0) (omega arith) ∙ t.same at within ∙ h)

-- ---- one end is led to another

abbrev pub led : ℕ → ℕ → List ℕ → List ℕ
led from to tops = map (λ r. cond (r == from) to r) tops

led_at : (from to : ℕ) (tops : List ℕ) (k : ℕ) → k < length tops → get_or (led from to tops) k 0 ≡ cond (get_or tops k 0 == from) to (get_or tops k 0)
led_at from to tops k l = get_or-map (λ r. cond (r == from) to r) tops k 0 0 l

led_end : (from to : ℕ) → cond (to == from) to to ≡ to
led_end from to = elim (cases_eq to from) [ inl e ↦ moved_yes from to to e | inr n ↦ moved_no from to to n ]

pub tops_led : (ups tops : List ℕ) (from to : ℕ) → from < length ups → to ≤ from → get_or ups from 0 ≡ from
    → get_or ups to 0 ≡ to → AreTops ups tops → AreTops (set ups from to) (led from to tops)
tops_led ups tops from to within falls e f t = record {
  long = length-map tops (λ r. cond (r == from) to r) ∙ t.long ∙ sym (length-set ups from to);
  falls = λ i l. elim (cases_eq i from) [
    | inl g ↦ rw (g, get_or-set_same ups from to 0 within) falls
    | inr n ↦ rw (get_or-set_other ups from i to 0 n) (t.falls i (shorter i l))
  ];
  same = λ i l. elim (cases_eq i from) [
    | inl g ↦ rw (g, get_or-set_same ups from to 0 within) (at_to ∙ sym at_from)
    | inr n ↦ let a = t.falls i (shorter i l) in let b = shorter i l in let c = t.long in
        rw (get_or-set_other ups from i to 0 n, led_at from to tops (get_or ups i 0) (omega arith), led_at from to tops i (omega arith), t.same i b) refl
  ];
  ends = λ i l. elim (cases_eq i from) [
    | inl g ↦ rw (g, get_or-set_same ups from to 0 within) (λ h. at_from ∙ h)
    | inr n ↦ let b = shorter i l in let c = t.long in
        rw (get_or-set_other ups from i to 0 n) (λ h. led_at from to tops i (omega arith) ∙
        ap (λ r. cond (r == from) to r) (t.ends i b h) ∙ moved_no from to i n)
  ];
} where
  shorter : (i : ℕ) → i < length (set ups from to) → i < length ups
  shorter i l = let g = length-set ups from to in omega arith

  at_to : get_or (led from to tops) to 0 ≡ to
  at_to = let c = t.long in led_at from to tops to (omega arith) ∙ ap (λ r. cond (r == from) to r) (t.ends to (omega arith) f) ∙ led_end from to

  at_from : get_or (led from to tops) from 0 ≡ to
  at_from = let c = t.long in led_at from to tops from (omega arith) ∙ moved_yes from to _ (t.ends from within e)

-- ---- pair by pair

pub record UnitedSoFar (pairs : List (ℕ × ℕ)) (n t : ℕ) (ups : List ℕ) : Type 0 where
  pub tops : List ℕ
  pub are : AreTops ups tops
  pub rooted : Rooted pairs n t tops

pub united_none : (pairs : List (ℕ × ℕ)) (ups : List ℕ) → ((k : ℕ) → k < length ups → get_or ups k 0 ≡ k) → UnitedSoFar pairs (length ups) 0 ups
united_none pairs ups h = record { tops = ups; are = tops_none ups h; rooted = rooted_none pairs ups h }

pub united_more : (pairs : List (ℕ × ℕ)) (n t : ℕ) (ups short : List ℕ) (p : ℕ × ℕ) (a b from to : ℕ)
    → All (λ p. (p.0 < n) × (p.1 < n)) pairs → t < length pairs → p ≡ get_or pairs t p → from ≡ max a b
    → to ≡ min a b → a < length short → b < length short → get_or short a 0 ≡ a → get_or short b 0 ≡ b
    → ((tops : List ℕ) → AreTops ups tops → AreTops short tops × (a ≡ get_or tops p.0 0) × (b ≡ get_or tops p.1 0))
    → UnitedSoFar pairs n t ups → UnitedSoFar pairs n (t + 1) (set short from to)
united_more pairs n t ups short p a b from to inside within is e f la lb ea eb h u =
    let (are, ta, tb) = h u.tops u.are in
    let r = u.rooted in record {
      tops = led from to u.tops;
      are = tops_led short u.tops from to (at_less (λ k. k < length short) la lb).0 (omega arith)
          (at_less (λ k. get_or short k 0 ≡ k) ea eb).0 (at_less (λ k. get_or short k 0 ≡ k) ea eb).1 are;
      rooted = rooted_more pairs n t u.tops (led from to u.tops) p from to inside within is r
          (move_at pairs n t u.tops (led from to u.tops) p from to inside within is r.long (length-map u.tops _)
          (e ∙ ap (λ k. max k b) ta ∙ ap (λ k. max (get_or u.tops p.0 0) k) tb) (f ∙ ap (λ k. min k b) ta ∙ ap (λ k. min (get_or u.tops p.0 0) k) tb)
          (λ k l. led_at from to u.tops k l));
    } where
      at_less : (P : ℕ → Type 0) → P a → P b → P from × P to
      at_less P pa pb = elim (cases_lt a b) [
        | inl l ↦ let g : from ≡ b = omega arith in let g' : to ≡ a = omega arith in (subst P (sym g) pb, subst P (sym g') pa)
        | inr l ↦ let g : from ≡ a = omega arith in let g' : to ≡ b = omega arith in (subst P (sym g) pa, subst P (sym g') pb)
      ]

pub united_all : (pairs : List (ℕ × ℕ)) (n t : ℕ) (ups : List ℕ) → length pairs ≤ t → UnitedSoFar pairs n t ups → IsUnited pairs n ups
united_all pairs n t ups whole u = record { tops = u.tops; are = u.are; roots = rooted_all pairs n t u.tops whole u.rooted }

pub united_falls : (pairs : List (ℕ × ℕ)) (n t : ℕ) (ups : List ℕ) → UnitedSoFar pairs n t ups → Falls ups × (length ups ≡ n)
united_falls pairs n t ups u = (u.are.falls, sym u.are.long ∙ u.rooted.long)

-- ---- ways of one step

-- the first i are led to their ends
pub record FlatSoFar (i : ℕ) (ups tops : List ℕ) : Type 0 where
  pub are : AreTops ups tops
  pub flat : (k : ℕ) → k < i → get_or ups k 0 ≡ get_or tops k 0

pub flat_none : (ups tops : List ℕ) → AreTops ups tops → FlatSoFar 0 ups tops
flat_none ups tops t = record { are = t; flat = λ k l. absurd (omega arith) }

pub flat_more : (i : ℕ) (ups tops : List ℕ) (next : ℕ) → i < length ups → next ≡ get_or ups (get_or ups i 0) 0
    → FlatSoFar i ups tops → FlatSoFar (i + 1) (set ups i next) tops
flat_more i ups tops next within e s = record {
  are = tops_short ups tops i next within e s.are;
  flat = λ k l. elim (cases_lt k i) [
    | inl h ↦ rw (get_or-set_other ups i k next 0 (other k h)) (s.flat k h)
    | inr h ↦ let g : k ≡ i = omega arith in rw (g, get_or-set_same ups i next 0 within, e) here
  ];
} where
  other : (k : ℕ) → k < i → k ≢ i
  other k h g = omega arith

  here : get_or ups (get_or ups i 0) 0 ≡ get_or tops i 0
  here = let f = s.are.falls i within in elim (cases_lt (get_or ups i 0) i) [
    | inl l ↦ s.flat _ l ∙ s.are.same i within
    | inr l ↦ let g : get_or ups i 0 ≡ i = omega arith in ap (λ k. get_or ups k 0) g ∙ g ∙ sym (s.are.ends i within g)
  ]

pub flat_all : (i : ℕ) (ups tops : List ℕ) → length ups ≤ i → FlatSoFar i ups tops → ups ≡ tops
flat_all i ups tops whole s = ext_get_or 0 ups tops (sym s.are.long) (λ k l. s.flat k (omega arith))
