-- What stands around a rectangle of a shape.
use Rattle.std.proofs.Common.{
  arith,
  ◌≡◌,
  ◌≢◌,
  ◌⊎◌,
  ℕ,
  ◌+◌,
  ◌<◌,
  ◌≤◌,
  List,
  length,
  get_or,
  All,
  Contains,
  inl,
  inr,
  ◌∷◌,
  [],
  map,
  subst,
  sym,
  ◌∙◌,
  ap,
}
use Rattle.std.proofs.lemmas.Bool.{cases_lt}
use Rattle.std.proofs.lemmas.List.{get_or_default, get_or-map, length-map}
use Rattle.std.proofs.lemmas.List.Elements.{All-push, Contains-push, Contains-append_left}
use Rattle.dpl_index.specs.declared.bounds.Bounds.{Bounds}
use Rattle.dpl_index.specs.declared.kinded.Ask.{Ask}
use Rattle.dpl_index.specs.Kinds.{Kinded, IsAsked, HasAsked}
use Rattle.dpl_index.specs.Meetings.{Meets}
use Rattle.dpl_cell.specs.declared.rect.Rect.{Rect}
use Rattle.dpl_cell.specs.Places.{Corners, corners_of}
use Rattle.dpl_cell.specs.Cells.{IsIn}
use Rattle.dpl_cell.specs.Gaps.{AreClose}
use Rattle.dpl_near.specs.Around.{Shaped, within, AreAround, HasOthers, MayBeAround}
use Rattle.dpl_near.specs.Bounds.{bounds_of}
use Rattle.dpl_near.specs.Near.{Search, IsNear, AddsNear}
use Rattle.dpl_near.specs.Pairs.{IsWanted}
use Rattle.dpl_near.proofs.BoundsLemmas.{bounds_at}

-- ---- those around a rectangle, among those that may be

-- the near ones at the places before t are kept
pub record CloseAmong (s : Search) (i : ℕ) (found : List ℕ) (t : ℕ) (near : List ℕ) : Type 0 where
  pub each : All (IsNear s i) near
  pub all : (k : ℕ) → k < t → IsNear s i (get_or found k 0) → Contains near (get_or found k 0)

pub close_none : (s : Search) (i : ℕ) (found : List ℕ) → CloseAmong s i found 0 []
close_none s i found = record { each = λ k d l. absurd (omega arith); all = λ k l. absurd (omega arith) }

pub close_more : (s : Search) (i : ℕ) (found : List ℕ) (t : ℕ) (near new : List ℕ)
    → AddsNear s i (get_or found t 0) near new → CloseAmong s i found t near
    → CloseAmong s i found (t + 1) new
close_more s i found t near new (inl (is, e)) a = rw e (record {
  each = All-push (IsNear s i) near (get_or found t 0) a.each is;
  all = λ k l n. elim (cases_lt k t) [
    | inl h ↦ Contains-append_left near (get_or found t 0 ∷ []) _ (a.all k h n)
    | inr h ↦ let f : k ≡ t = omega arith in rw f (Contains-push near (get_or found t 0))
  ];
})
close_more s i found t near new (inr (none, e)) a = rw e (record {
  each = a.each;
  all = λ k l n. elim (cases_lt k t) [
    | inl h ↦ a.all k h n
    | inr h ↦ let f : k ≡ t = omega arith in let g : IsNear s i (get_or found t 0) = rw f at n in absurd (none g)
  ];
})

pub close_all : (s : Shaped) (i : ℕ) (found : List ℕ) (t : ℕ) (near : List ℕ) → length found ≤ t
    → MayBeAround s i found → CloseAmong (within s s.reach) i found t near → AreAround s i near
close_all s i found t near whole may a = record {
  each = a.each;
  others = λ j n other. go j n (may.others j n other);
  touching = λ j n touch. go j n (may.touching j n touch);
} where
  go : (j : ℕ) → IsNear (within s s.reach) i j → Contains found j → Contains near j
  go j n (k, l, e) =
      let f : get_or found k 0 ≡ j = get_or_default found k 0 j l ∙ e in
      let P : ℕ → Type 0 = IsNear (within s s.reach) i in
      let Q : ℕ → Type 0 = Contains near in
      subst Q f (a.all k (omega arith) (subst P (sym f) n))

-- ---- what must be around is asked for

pub all_within : (rects : List Rect) (shape : List ℕ) (x : Kinded) (found : List ℕ)
    → x ≡ record { items = map (λ q. bounds_of (corners_of q)) rects; kinds = shape }
    → All (λ i. i < length x.items) found → All (λ i. i < length (map corners_of rects)) found
all_within rects shape x found e all =
    let f : length x.items ≡ length (map corners_of rects) = ap (λ (y : Kinded). length y.items) e ∙
    length-map rects (λ q. bounds_of (corners_of q)) ∙ sym (length-map rects corners_of) in
    let P : ℕ → Type 0 = λ n. All (λ i. i < n) found in
    subst P f all

pub wanted_asked : (rects : List Rect) (shape : List ℕ) (reach i : ℕ) (r : Rect) (x : Kinded) (ask : Ask)
    → x ≡ record { items = map (λ q. bounds_of (corners_of q)) rects; kinds = shape } → i < length rects
    → r ≡ get_or rects i r → ask.kind ≡ get_or shape i 0
    → ((other : Corners) → AreClose (IsIn (corners_of r)) (IsIn other) 1 → Meets (bounds_of other) ask.near)
    → ((other : Corners) → AreClose (IsIn (corners_of r)) (IsIn other) reach → Meets (bounds_of other) ask.far)
    → (j : ℕ) → IsWanted (record { rects = map corners_of rects; shape = shape; reach = reach }) i j → IsAsked x ask j
wanted_asked rects shape reach i r x ask e l is kind near far j w = rw e (asked (elim w.why [
  | inl other ↦ inl (λ g. other (g ∙ kind))
  | inr touch ↦ inr (λ d. rw (bounds_at rects j r d (corners_of r) inside) (near _ (close 1 touch)))
])) where
  inside : j < length rects
  inside = let n = w.near.within in let a = length-map rects corners_of in omega arith

  close : (reach : ℕ) → IsNear (record { rects = map corners_of rects; reach = reach }) i j →
      AreClose (IsIn (corners_of r)) (IsIn (get_or (map corners_of rects) j (corners_of r))) reach
  close reach n = rw (get_or-map corners_of rects i r (corners_of r) l, ← is) at (n.close (corners_of r))

  asked : (get_or shape j 0 ≢ ask.kind) ⊎ ((d : Bounds) → Meets (get_or (map (λ q. bounds_of (corners_of q)) rects) j d) ask.near) →
      IsAsked (record { items = map (λ q. bounds_of (corners_of q)) rects; kinds = shape }) ask j
  asked other = record {
    within = let h = inside in let a = length-map rects (λ q. bounds_of (corners_of q)) in omega arith;
    far = λ d. rw (bounds_at rects j r d (corners_of r) inside) (far _ (close reach w.near));
    near = other;
  }

pub may_be_around : (rects : List Rect) (shape : List ℕ) (reach i : ℕ) (r : Rect) (x : Kinded) (ask : Ask) (found : List ℕ)
    → x ≡ record { items = map (λ q. bounds_of (corners_of q)) rects; kinds = shape } → i < length rects
    → r ≡ get_or rects i r → ask.kind ≡ get_or shape i 0
    → ((other : Corners) → AreClose (IsIn (corners_of r)) (IsIn other) 1 → Meets (bounds_of other) ask.near)
    → ((other : Corners) → AreClose (IsIn (corners_of r)) (IsIn other) reach → Meets (bounds_of other) ask.far)
    → HasAsked x ask found
    → MayBeAround (record { rects = map corners_of rects; shape = shape; reach = reach }) i found
may_be_around rects shape reach i r x ask found e l is kind near far has = record {
  each = all_within rects shape x found e has.each;
  others = λ j n other. has.all j (asked j (record { near = n; why = inl other }));
  touching = λ j n touch. has.all j (asked j (record { near = n; why = inr touch }));
} where
  asked : (j : ℕ) → IsWanted (record { rects = map corners_of rects; shape = shape; reach = reach }) i j → IsAsked x ask j
  asked = wanted_asked rects shape reach i r x ask e l is kind near far

-- ---- what is asked for beside another rectangle has all of other shapes

pub has_others : (rects : List Rect) (shape : List ℕ) (most reach : ℕ) (one : Rect) (own : ℕ) (x : Kinded) (ask : Ask) (found : List ℕ)
    → x ≡ record { items = map (λ q. bounds_of (corners_of q)) rects; kinds = shape } → ask.kind ≡ own
    → ((other : Corners) → AreClose (IsIn (corners_of one)) (IsIn other) reach → Meets (bounds_of other) ask.far)
    → HasAsked x ask found
    → HasOthers (record { rects = map corners_of rects; shape = shape; reach = most }) reach (corners_of one) own found
has_others rects shape most reach one own x ask found e kind far h = record {
  each = λ k d m. let a = length-map rects corners_of in let b = length-map rects (λ q. bounds_of (corners_of q)) in
      let c = has.each k d m in omega arith;
  all = λ j l other close.
      let inside : j < length rects = let a = length-map rects corners_of in omega arith in
      has.all j (record {
        within = let b = length-map rects (λ q. bounds_of (corners_of q)) in omega arith;
        far = λ d. rw (bounds_at rects j one d (corners_of one) inside) (far _ (close (corners_of one)));
        near = inl (λ g. other (g ∙ kind));
      });
} where
  has : HasAsked (record { items = map (λ q. bounds_of (corners_of q)) rects; kinds = shape }) ask found
  has = rw e at h
