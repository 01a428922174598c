-- Stops over items, as they are made and widened.
use Rattle.std.proofs.Common.{arith, None, ◌≡◌, ◌≢◌, ℕ, ◌+◌, ◌<◌, ◌≤◌, pos, List, length, get_or, set, length-set, ◌∙◌}
use Rattle.std.proofs.Common.{Contains, refl, sym, ap, subst, inl, inr, ◌∷◌, [], ◌++◌, get_or-set_other}
use Rattle.std.proofs.Common.{get_or-set_same}
use Rattle.std.proofs.lemmas.Bool.{cases_lt, cases_eq}
use Rattle.std.proofs.lemmas.List.{get_or_default, get_or_append_left, get_or_push, length_push}
use Rattle.std.proofs.lemmas.List.Elements.{All-push, Contains-push, Contains-append_left}
use Rattle.std.proofs.lemmas.List.Sorted.{All-permutation, Contains-permutation}
use Rattle.std.specs.List.Sorted.{IsPermutation}
use Rattle.dpl_index.specs.declared.bounds.Bounds.{Bounds}
use Rattle.dpl_index.specs.declared.stops.Stop.{Stop}
use Rattle.dpl_index.specs.Holds.{Holds}
use Rattle.dpl_index.specs.Stops.{NamesAll, IsIndex}
use Rattle.dpl_list.proofs.Integers.{signed}

-- ---- bounds

pub holds_itself : (b : Bounds) → Holds b b
holds_itself b = record { left = omega signed; right = omega signed; low = omega signed; high = omega signed }

pub holds_on : (a b c : Bounds) → Holds a b → Holds b c → Holds a c
holds_on a b c h g = record {
  left = let p = h.left in let q = g.left in omega signed;
  right = let p = h.right in let q = g.right in omega signed;
  low = let p = h.low in let q = g.low in omega signed;
  high = let p = h.high in let q = g.high in omega signed;
}

-- ---- places

pub named_none : NamesAll 0 []
named_none = record { long = refl; each = λ k d l. absurd (omega arith); all = λ i l. absurd (omega arith) }

pub named_more : (n : ℕ) (places new : List (ℕ × ℕ)) (key : ℕ) → new ≡ places ++ (key, n) ∷ [] → NamesAll n places → NamesAll (n + 1) new
named_more n places new key e s = rw e (record {
  long = rw length_push (let l = s.long in omega arith);
  each = All-push (λ (p : ℕ × ℕ). p.1 < n + 1) places (key, n) (λ k d l. let h = s.each k d l in omega arith) (omega arith);
  all = λ i l. elim (cases_lt i n) [
    | inl h ↦ let (k, c) = s.all i h in (k, Contains-append_left places ((key, n) ∷ []) (k, i) c)
    | inr h ↦ let f : n ≡ i = omega arith in let P : ℕ → Type 0 = λ j. Contains (places ++ (key, n) ∷ []) (key, j) in
        (key, subst P f (Contains-push places (key, n)))
  ];
})

pub named_permuted : (places new : List (ℕ × ℕ)) → IsPermutation places new → length new ≡ length places → (n : ℕ) → NamesAll n places → NamesAll n new
named_permuted places new p e n s = record {
  long = e ∙ s.long;
  each = All-permutation (λ p. p.1 < n) places new p s.each;
  all = λ i l. let (k, c) = s.all i l in (k, Contains-permutation places new (k, i) p c);
}

-- ---- a stop for each place

pub record SinglesSoFar (items : List Bounds) (places : List (ℕ × ℕ)) (n : ℕ) (stops : List Stop) : Type 0 where
  pub long : length stops ≡ n
  pub number : (k : ℕ) (d : Stop) → k < n → (get_or stops k d).number ≡ (get_or places k (0, 0)).1
  pub rest : (k : ℕ) (d : Stop) → k < n → (get_or stops k d).rest ≡ 0
  pub bounds : (k : ℕ) (d : Stop) (c : Bounds) → k < n → (get_or stops k d).bounds ≡ get_or items (get_or stops k d).number c

pub singles_none : (items : List Bounds) (places : List (ℕ × ℕ)) → SinglesSoFar items places 0 []
singles_none items places = record {
  long = refl;
  number = λ k d l. absurd (omega arith);
  rest =
      λ k d l. absurd (omega arith);
  bounds = λ k d c l. absurd (omega arith);
}

pub singles_more : (items : List Bounds) (places : List (ℕ × ℕ)) (n : ℕ) (stops new : List Stop) (s : Stop)
    → new ≡ stops ++ s ∷ [] → s.number ≡ (get_or places n (0, 0)).1 → s.rest ≡ 0
    → ((c : Bounds) → s.bounds ≡ get_or items s.number c) → SinglesSoFar items places n stops
    → SinglesSoFar items places (n + 1) new
singles_more items places n stops new s e number rest bounds so = rw e (record {
  long = rw length_push (let l = so.long in omega arith);
  number = λ k d l. at k d (λ t. t.number ≡ (get_or places k (0, 0)).1) l (λ h. so.number k d h) (λ f. rw f number);
  rest = λ k d l. at k d (λ t. t.rest ≡ 0) l (λ h. so.rest k d h) (λ f. rest);
  bounds = λ k d c l. at k d (λ t. t.bounds ≡ get_or items t.number c) l (λ h. so.bounds k d c h) (λ f. bounds c);
}) where
  at : (k : ℕ) (d : Stop) (P : Stop → Type 0) → k < n + 1 → (k < n → P (get_or stops k d)) → (k ≡ n → P s) → P (get_or (stops ++ s ∷ []) k d)
  at k d P l f g = let long = so.long in elim (cases_lt k n) [
    | inl h ↦ subst P (sym (get_or_append_left stops (s ∷ []) d k (omega arith))) (f h)
    | inr h ↦ subst P (sym (get_or_push stops s d k (omega arith))) (g (omega arith))
  ]

pub singles_all : (items : List Bounds) (places : List (ℕ × ℕ)) (n : ℕ) (stops : List Stop)
    → n ≡ length places → NamesAll (length items) places → SinglesSoFar items places n stops
    → IsIndex items stops
singles_all items places n stops whole names so = let long = so.long in let full = names.long in record {
  inside = λ k d l. rw (so.number k d (omega arith)) (names.each k (0, 0) (omega arith));
  all = λ i l. named i (names.all i l);
  short = λ k d l. let r = so.rest k d (omega arith) in omega arith;
  covers = λ k m d c l low high. let r = so.rest k d (omega arith) in let f : m ≡ k = omega arith in rw (f, so.bounds k d c (omega arith)) (holds_itself _);
} where
  named : (i : ℕ) → (key : ℕ) × Contains places (key, i) → (k : ℕ) × (k < length stops) × ((d : Stop) → (get_or stops k d).number ≡ i)
  named i (key, (k, h, e)) = let long = so.long in (
    k,
    omega arith,
    (λ d. so.number k d (omega arith) ∙ ap (λ (p : ℕ × ℕ). p.1) (get_or_default places k (0, 0) (key, i) h ∙ e)),
  )

-- ---- a stop takes in the next

pub record Absorbs (stops : List Stop) (k : ℕ) (stop next new : Stop) : Type 0 where
  pub stop_is : (d : Stop) → get_or stops k d ≡ stop
  pub more : k + stop.rest + 1 < length stops
  pub next_is : (d : Stop) → get_or stops (k + stop.rest + 1) d ≡ next
  pub number : new.number ≡ stop.number
  pub rest : new.rest ≡ stop.rest + next.rest + 1
  pub first : Holds new.bounds stop.bounds
  pub second : Holds new.bounds next.bounds

-- a stop where a list has none
abbrev pub blank : Stop
blank = record { number = 0; rest = 0; bounds = record { left = pos 0; right = pos 0; low = pos 0; high = pos 0 }; kind = None }

-- what a stop and the next one make
pub absorbed : (stops : List Stop) (k : ℕ) (new : Stop) → k < length stops
    → k + (get_or stops k blank).rest + 1 < length stops → new.number ≡ (get_or stops k blank).number
    → new.rest ≡ (get_or stops k blank).rest + (get_or stops (k + (get_or stops k blank).rest + 1) blank).rest + 1
    → Holds new.bounds (get_or stops k blank).bounds
    → Holds new.bounds (get_or stops (k + (get_or stops k blank).rest + 1) blank).bounds
    → Absorbs stops k (get_or stops k blank) (get_or stops (k + (get_or stops k blank).rest + 1) blank) new
absorbed stops k new within more number rest first second = record {
  stop_is = λ d. get_or_default stops k d blank within;
  more = more;
  next_is = λ d. get_or_default stops (k + (get_or stops k blank).rest + 1) d blank more;
  number = number;
  rest = rest;
  first = first;
  second = second;
}

-- what holds of the new stop in its place, and of the others in theirs, holds of each
pub set_at : (stops : List Stop) (k : ℕ) (new : Stop) → k < length stops → (m : ℕ) (d : Stop) (P : Stop → Type 0)
    → (m ≡ k → P new) → (m ≢ k → P (get_or stops m d)) → P (get_or (set stops k new) m d)
set_at stops k new within m d P f g = elim (cases_eq m k) [
  | inl e ↦ let Q : ℕ → Type 0 = λ j. P (get_or (set stops k new) j d) in subst Q (sym e) (subst P (sym (get_or-set_same stops k new d within)) (f e))
  | inr n ↦ subst P (sym (get_or-set_other stops k m new d n)) (g n)
]

pub set_shorter : (stops : List Stop) (k : ℕ) (new : Stop) (m : ℕ) → m < length (set stops k new) → m < length stops
set_shorter stops k new m l = let e = length-set stops k new in omega arith

-- the place of a stop that takes in the next
pub absorbs_within : (stops : List Stop) (k : ℕ) (stop next new : Stop) → Absorbs stops k stop next new → k < length stops
absorbs_within stops k stop next new a = let m = a.more in omega arith

-- it keeps its number, as the others do
pub absorbs_number : (stops : List Stop) (k : ℕ) (stop next new : Stop) → Absorbs stops k stop next new → (m : ℕ) (d : Stop)
    → (get_or (set stops k new) m d).number ≡ (get_or stops m d).number
absorbs_number stops k stop next new a m d =
    set_at stops k new (absorbs_within stops k stop next new a) m d (λ t. t.number ≡ (get_or stops m d).number)
    (λ e. a.number ∙ ap (λ (t : Stop). t.number) (sym (a.stop_is d) ∙ ap (λ j. get_or stops j d) (sym e))) (λ n. refl)

pub absorb_keeps : (items : List Bounds) (stops : List Stop) (k : ℕ) (stop next new : Stop)
    → Absorbs stops k stop next new → IsIndex items stops → IsIndex items (set stops k new)
absorb_keeps items stops k stop next new a s = record {
  inside = λ m d l. rw (number m d) (s.inside m d (set_shorter stops k new m l));
  all = λ i l. let (m, h, e) = s.all i l in (m, rw length-set h, (λ d. number m d ∙ e d));
  short = λ m d l. rw length-set (short m d (set_shorter stops k new m l));
  covers = λ j m d c l low high. rw (number m d) (covers j m d c (set_shorter stops k new j l) low high);
} where
  within : k < length stops
  within = absorbs_within stops k stop next new a

  number : (m : ℕ) (d : Stop) → (get_or (set stops k new) m d).number ≡ (get_or stops m d).number
  number = absorbs_number stops k stop next new a

  next_short : k + stop.rest + 1 + next.rest < length stops
  next_short = let d = next in let h = s.short (k + stop.rest + 1) d a.more in let e = ap (λ (t : Stop). t.rest) (a.next_is d) in omega arith

  short : (m : ℕ) (d : Stop) → m < length stops → m + (get_or (set stops k new) m d).rest < length stops
  short m d l = set_at stops k new within m d (λ t. m + t.rest < length stops) (λ e. let r = a.rest in let h = next_short in omega arith) (λ n. s.short m d l)

  covers : (j m : ℕ) (d : Stop) (c : Bounds) → j < length stops → j ≤ m → m ≤ j + (get_or (set stops k new) j d).rest →
      Holds ((get_or (set stops k new) j d).bounds) (get_or items (get_or stops m d).number c)
  covers j m d c l low = set_at stops k new within j d (λ t. m ≤ j + t.rest → Holds t.bounds (get_or items (get_or stops m d).number c))
      (λ e high. here j m d c e low high) (λ n high. s.covers j m d c l low high) where
        here : (j m : ℕ) (d : Stop) (c : Bounds) → j ≡ k → j ≤ m → m ≤ j + new.rest → Holds new.bounds (get_or items (get_or stops m d).number c)
        here j m d c e low high = let r = a.rest in elim (cases_lt m (k + stop.rest + 1)) [
          | inl h ↦ let f = ap (λ (t : Stop). t.rest) (a.stop_is d) in
              let g : Holds stop.bounds (get_or items (get_or stops m d).number c) =
              rw (a.stop_is d) at (s.covers k m d c within (omega arith) (omega arith)) in
              holds_on _ _ _ a.first g
          | inr h ↦ let f = ap (λ (t : Stop). t.rest) (a.next_is d) in
              let g : Holds next.bounds (get_or items (get_or stops m d).number c) =
              rw (a.next_is d) at (s.covers (k + stop.rest + 1) m d c a.more h (omega arith)) in
              holds_on _ _ _ a.second g
        ]
