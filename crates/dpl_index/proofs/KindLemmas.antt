-- The kinds of items at their stops, and the walk over the stops for those that are asked for.
use Rattle.std.proofs.Common.{arith, ◌≡◌, ◌⊎◌, ℕ, ◌+◌, ◌<◌, ◌≤◌, List, length, get_or, set, ◌∙◌, All, Contains}
use Rattle.std.proofs.Common.{refl, sym, ap, subst, inl, inr, ◌∷◌, [], ◌++◌, Some, map}
use Rattle.std.proofs.lemmas.Bool.{cases_lt}
use Rattle.std.proofs.lemmas.List.{get_or_append_left, get_or_push, length_push, get_or-map, length-map}
use Rattle.std.proofs.lemmas.List.Elements.{All-push, Contains-push, Contains-append_left}
use Rattle.std.proofs.lemmas.Option.{same_Some}
use Rattle.dpl_index.specs.declared.bounds.Bounds.{Bounds}
use Rattle.dpl_index.specs.declared.kinded.Ask.{Ask}
use Rattle.dpl_index.specs.declared.stops.Stop.{Stop}
use Rattle.dpl_index.specs.Holds.{Holds}
use Rattle.dpl_index.specs.Kinds.{Kinded, kind_of, HasKinds, IsAsked, HasAsked, HasAskedFrom, HasAskedBehind, IsOrder, AddsAsked}
use Rattle.dpl_index.specs.Meetings.{Meets}
use Rattle.dpl_index.specs.Stops.{IsIndex}
use Rattle.dpl_index.proofs.StopLemmas.{Absorbs, blank, absorbs_number, absorbs_within, set_at, set_shorter}
use Rattle.dpl_index.proofs.MeetingLemmas.{meets_outer}
use Rattle.dpl_list.proofs.Lists.{some_of}

-- ---- a stop for each place

pub record SinglesOf (kinds : List ℕ) (n : ℕ) (stops : List Stop) : Type 0 where
  pub long : length stops ≡ n
  pub rest : (k : ℕ) (d : Stop) → k < n → (get_or stops k d).rest ≡ 0
  pub kind : (k : ℕ) (d : Stop) → k < n → (get_or stops k d).kind ≡ Some (kind_of kinds (get_or stops k d).number)

pub kinds_none : (kinds : List ℕ) → SinglesOf kinds 0 []
kinds_none kinds = record { long = refl; rest = λ k d l. absurd (omega arith); kind = λ k d l. absurd (omega arith) }

pub kinds_more : (kinds : List ℕ) (n : ℕ) (stops new : List Stop) (s : Stop) → new ≡ stops ++ s ∷ []
    → s.rest ≡ 0 → s.kind ≡ Some (kind_of kinds s.number) → SinglesOf kinds n stops
    → SinglesOf kinds (n + 1) new
kinds_more kinds n stops new s e rest kind so = rw e (record {
  long = rw length_push (let l = so.long in omega arith);
  rest = λ k d l. at k d (λ t. t.rest ≡ 0) l (λ h. so.rest k d h) (λ f. rest);
  kind = λ k d l. at k d (λ t. t.kind ≡ Some (kind_of kinds t.number)) l (λ h. so.kind k d h) (λ f. kind);
}) where
  at : (k : ℕ) (d : Stop) (P : Stop → Type 0) → k < n + 1 → (k < n → P (get_or stops k d)) → (k ≡ n → P s) → P (get_or (stops ++ s ∷ []) k d)
  at k d P l f g = let long = so.long in elim (cases_lt k n) [
    | inl h ↦ subst P (sym (get_or_append_left stops (s ∷ []) d k (omega arith))) (f h)
    | inr h ↦ subst P (sym (get_or_push stops s d k (omega arith))) (g (omega arith))
  ]

pub kinds_all : (kinds : List ℕ) (n : ℕ) (stops : List Stop) → SinglesOf kinds n stops → HasKinds kinds stops
kinds_all kinds n stops so = let long = so.long in record {
  one = λ k m d kind l low high e. let r = so.rest k d (omega arith) in let f : m ≡ k = omega arith in
      rw f (same_Some _ _ (sym (so.kind k d (omega arith)) ∙ e));
}

-- ---- a stop takes in the next

pub kinds_absorbed : (kinds : List ℕ) (stops : List Stop) (k : ℕ) (stop next new : Stop)
    → Absorbs stops k stop next new → ((kind : ℕ) → new.kind ≡ Some kind → stop.kind ≡ Some kind)
    → ((kind : ℕ) → new.kind ≡ Some kind → next.kind ≡ Some kind) → HasKinds kinds stops
    → HasKinds kinds (set stops k new)
kinds_absorbed kinds stops k stop next new a first second s = record {
  one = λ j m d kind l low high e. rw (number m d) (one j m d kind (set_shorter stops k new j l) low high e);
} where
  within : k < length stops
  within = absorbs_within stops k stop next new a

  number : (m : ℕ) (d : Stop) → (get_or (set stops k new) m d).number ≡ (get_or stops m d).number
  number = absorbs_number stops k stop next new a

  here : (m : ℕ) (d : Stop) (kind : ℕ) → k ≤ m → m ≤ k + new.rest → new.kind ≡ Some kind → kind_of kinds (get_or stops m d).number ≡ kind
  here m d kind low high e = let r = a.rest in elim (cases_lt m (k + stop.rest + 1)) [
    | inl h ↦ let f = ap (λ (t : Stop). t.rest) (a.stop_is d) in
        s.one k m d kind within low (omega arith) (ap (λ (t : Stop). t.kind) (a.stop_is d) ∙ first kind e)
    | inr h ↦ let f = ap (λ (t : Stop). t.rest) (a.next_is d) in
        s.one (k + stop.rest + 1) m d kind a.more h (omega arith) (ap (λ (t : Stop). t.kind) (a.next_is d) ∙ second kind e)
  ]

  one : (j m : ℕ) (d : Stop) (kind : ℕ) → j < length stops → j ≤ m → m ≤ j + (get_or (set stops k new) j d).rest →
      (get_or (set stops k new) j d).kind ≡ Some kind → kind_of kinds (get_or stops m d).number ≡ kind
  one j m d kind l low = set_at stops k new within j d (λ t. m ≤ j + t.rest → t.kind ≡ Some kind → kind_of kinds (get_or stops m d).number ≡ kind)
      (λ e high f. here m d kind (omega arith) (omega arith) f) (λ n high f. s.one j m d kind l low high f)

-- ---- the walk

-- those that are asked for at the stops from one on and before a place are found
pub record Asked (x : Kinded) (ask : Ask) (stops : List Stop) (from at : ℕ) (found : List ℕ) : Type 0 where
  pub each : All (λ i. i < length x.items) found
  pub all : (m : ℕ) (d : Stop) → from ≤ m → m < at → m < length stops → IsAsked x ask (get_or stops m d).number → Contains found (get_or stops m d).number

pub asked_begins : (x : Kinded) (ask : Ask) (stops : List Stop) (from : ℕ) (found : List ℕ) → found ≡ [] → Asked x ask stops from from found
asked_begins x ask stops from found e = rw e (record { each = λ k d l. absurd (omega arith); all = λ m d low l. absurd (omega arith) })

-- a stop is looked at
pub asked_on : (x : Kinded) (ask : Ask) (stops : List Stop) (from at : ℕ) (found new : List ℕ) (stop : Stop)
    → ((d : Stop) → get_or stops at d ≡ stop) → stop.number < length x.items
    → AddsAsked x ask stop.number found new → Asked x ask stops from at found → Asked x ask stops from (at + 1) new
asked_on x ask stops from at found new stop is inside (inl e) w = rw e (record {
  each = All-push (λ i. i < length x.items) found stop.number w.each inside;
  all = λ m d low l h n. elim (cases_lt m at) [
    | inl g ↦ Contains-append_left found (stop.number ∷ []) _ (w.all m d low g h n)
    | inr g ↦ let f : m ≡ at = omega arith in rw (f, is d) (Contains-push found stop.number)
  ];
})
asked_on x ask stops from at found new stop is inside (inr (none, e)) w = rw e (record {
  each = w.each;
  all = λ m d low l h n. elim (cases_lt m at) [
    | inl g ↦ w.all m d low g h n
    | inr g ↦ let f : m ≡ at = omega arith in let P : Stop → Type 0 = λ t. IsAsked x ask t.number in
        absurd (none (subst P (ap (λ j. get_or stops j d) f ∙ is d) n))
  ];
})

-- the stops that hold nothing of what is asked for are left out
pub asked_past : (x : Kinded) (ask : Ask) (stops : List Stop) (from at : ℕ) (found : List ℕ) (stop : Stop)
    → ((d : Stop) → get_or stops at d ≡ stop) → at < length stops
    → (¬ Meets stop.bounds ask.far) ⊎ ((stop.kind ≡ Some ask.kind) × (¬ Meets stop.bounds ask.near))
    → IsIndex x.items stops → HasKinds x.kinds stops → Asked x ask stops from at found
    → Asked x ask stops from (at + stop.rest + 1) found
asked_past x ask stops from at found stop is within none i k w = record {
  each = w.each;
  all = λ m d begun h l n. elim (cases_lt m at) [
    | inl g ↦ w.all m d begun g l n
    | inr g ↦ absurd (not_asked m d g h n)
  ];
} where
  outer : (m : ℕ) (d : Stop) → at ≤ m → m < at + stop.rest + 1 → Holds stop.bounds (get_or x.items (get_or stops m d).number stop.bounds)
  outer m d low high = let r : (get_or stops at d).rest ≡ stop.rest = ap (λ (t : Stop). t.rest) (is d) in
      rw (is d) at (i.covers at m d stop.bounds within low (omega arith))

  own : (m : ℕ) (d : Stop) → at ≤ m → m < at + stop.rest + 1 → stop.kind ≡ Some ask.kind → kind_of x.kinds (get_or stops m d).number ≡ ask.kind
  own m d low high e = let r : (get_or stops at d).rest ≡ stop.rest = ap (λ (t : Stop). t.rest) (is d) in
      k.one at m d ask.kind within low (omega arith) (ap (λ (t : Stop). t.kind) (is d) ∙ e)

  not_asked : (m : ℕ) (d : Stop) → at ≤ m → m < at + stop.rest + 1 → ¬ IsAsked x ask (get_or stops m d).number
  not_asked m d low high n = elim none [
    | inl far ↦ far (meets_outer _ _ ask.far (outer m d low high) (n.far stop.bounds))
    | inr (e, near) ↦ elim n.near [
      | inl other ↦ other (own m d low high e)
      | inr meets ↦ near (meets_outer _ _ ask.near (outer m d low high) (meets stop.bounds))
    ]
  ]

pub asked_ends : (x : Kinded) (ask : Ask) (stops : List Stop) (from at : ℕ) (found : List ℕ) → length stops ≤ at
    → Asked x ask stops from at found → HasAskedFrom x ask stops from found
asked_ends x ask stops from at found whole w = record { each = w.each; all = λ m d low l n. w.all m d low (omega arith) l n }

-- ---- all items, and those behind a place

pub asked_all : (x : Kinded) (ask : Ask) (stops : List Stop) (found : List ℕ)
    → IsIndex x.items stops → HasAskedFrom x ask stops 0 found → HasAsked x ask found
asked_all x ask stops found i w = record {
  each = w.each;
  all = λ j n. let (k, l, e) = i.all j n.within in all_at j n k l e;
} where
  all_at : (j : ℕ) → IsAsked x ask j → (k : ℕ) → k < length stops → ((d : Stop) → (get_or stops k d).number ≡ j) → Contains found j
  all_at j n k l e =
      let d : Stop = some_of stops k l in
      let P : ℕ → Type 0 = IsAsked x ask in
      let Q : ℕ → Type 0 = Contains found in
      subst Q (e d) (w.all k d (omega arith) l (subst P (sym (e d)) n))

pub number_at : (stops : List Stop) (k : ℕ) (d : Stop) → k < length stops → get_or (map (λ (s : Stop). s.number) stops) k 0 ≡ (get_or stops k d).number
number_at stops k d l = get_or-map (λ (s : Stop). s.number) stops k d 0 l

pub asked_behind : (x : Kinded) (ask : Ask) (stops : List Stop) (place : ℕ) (found : List ℕ)
    → HasAskedFrom x ask stops (place + 1) found
    → HasAskedBehind (record { kinded = x; order = map (λ (s : Stop). s.number) stops }) ask place found
asked_behind x ask stops place found w = record { each = w.each; all = λ m low l n. go m low (rw length-map at l) n } where
  go : (m : ℕ) → place < m → m < length stops → IsAsked x ask (get_or (map (λ (s : Stop). s.number) stops) m 0)
      → Contains found (get_or (map (λ (s : Stop). s.number) stops) m 0)
  go m low l n =
      let e = number_at stops m blank l in
      let P : ℕ → Type 0 = IsAsked x ask in
      let Q : ℕ → Type 0 = Contains found in
      subst Q (sym e) (w.all m blank (omega arith) l (subst P e n))

pub in_order : (items : List Bounds) (stops : List Stop) → IsIndex items stops → IsOrder (length items) (map (λ (s : Stop). s.number) stops)
in_order items stops x = record {
  each = λ k d l. each k d (rw length-map at l);
  all = λ i l. let (k, h, e) = x.all i l in (k, rw length-map h, number_is k i h ∙ e blank);
} where
  each : (k d : ℕ) → k < length stops → get_or (map (λ (s : Stop). s.number) stops) k d < length items
  each k d l = rw (get_or-map (λ (s : Stop). s.number) stops k blank d l) (x.inside k blank l)

  number_is : (k d : ℕ) → k < length stops → get_or (map (λ (s : Stop). s.number) stops) k d ≡ (get_or stops k blank).number
  number_is k d l = get_or-map (λ (s : Stop). s.number) stops k blank d l

-- ---- one item

pub asked_not_far : (x : Kinded) (ask : Ask) (i : ℕ) (b : Bounds) → b ≡ get_or x.items i b → ¬ Meets b ask.far → ¬ IsAsked x ask i
asked_not_far x ask i b e none n = none (rw (← e) at (n.far b))

pub asked_not_near : (x : Kinded) (ask : Ask) (i : ℕ) (b : Bounds) → b ≡ get_or x.items i b
    → kind_of x.kinds i ≡ ask.kind → ¬ Meets b ask.near → ¬ IsAsked x ask i
asked_not_near x ask i b e own none n = elim n.near [ inl other ↦ other own | inr meets ↦ none (rw (← e) at (meets b)) ]
