-- Bounds that meet, and the walk over the stops for those that meet a window.
use Rattle.std.proofs.Common.{arith, ◌≡◌, ◌↔◌, ℕ, ◌+◌, ◌<◌, ◌≤◌, List, length, get_or, ◌∙◌, All, AllPairs, Contains}
use Rattle.std.proofs.Common.{sym, ap, subst, inl, inr, ◌∷◌, [], Bool, true, false, IsTrue, ◌≤ℤ◌, rules}
use Rattle.std.proofs.lemmas.Bool.{cases_lt}
use Rattle.std.proofs.lemmas.List.{get_or_default}
use Rattle.std.proofs.lemmas.List.Elements.{All-push, Contains-push, Contains-append_left}
use Rattle.dpl_index.specs.declared.bounds.Bounds.{Bounds}
use Rattle.dpl_index.specs.declared.stops.Stop.{Stop}
use Rattle.dpl_index.specs.Meetings.{Meets, IsMeeting, AreMeeting, HasMeeting, AddsMeeting}
use Rattle.dpl_index.specs.Holds.{Holds}
use Rattle.dpl_index.specs.Stops.{IsIndex}
use Rattle.dpl_list.proofs.Integers.{signed}
use Rattle.dpl_list.proofs.Lists.{some_of}

-- what meets bounds meets all that hold them
pub meets_outer : (outer inner window : Bounds) → Holds outer inner → Meets inner window → Meets outer window
meets_outer outer inner window h m = record {
  left = let p = h.left in let q = m.left in omega signed;
  right = let p = h.right in let q = m.right in omega signed;
  low = let p = h.low in let q = m.low in omega signed;
  high = let p = h.high in let q = m.high in omega signed;
}

pub meeting_yes : (items : List Bounds) (window : Bounds) (i : ℕ) (b : Bounds) → i < length items
    → b ≡ get_or items i b → Meets b window → IsMeeting items window i
meeting_yes items window i b l e m = record { within = l; meets = λ d. rw (get_or_default items i d b l, ← e) m }

pub meeting_no : (items : List Bounds) (window : Bounds) (i : ℕ) (b : Bounds) → b ≡ get_or items i b → ¬ Meets b window → ¬ IsMeeting items window i
meeting_no items window i b e none meeting = none (rw (← e) at (meeting.meets b))

-- in ascending order
pub meeting_in_order : (items : List Bounds) (window : Bounds) (found sorted : List ℕ)
    → HasMeeting items window found → AllPairs (λ i j. i < j) sorted
    → ((x : ℕ) → Contains sorted x ↔ Contains found x) → AreMeeting items window sorted
meeting_in_order items window found sorted h ordered same = record {
  each = λ k d l. go _ ((same _).0 (k, l, get_or_default sorted k _ d l));
  all = λ i m. (same i).1 (h.all i m);
  ordered = ordered;
} where
  go : (x : ℕ) → Contains found x → IsMeeting items window x
  go x (k, l, e) = let m : IsMeeting items window (get_or found k x) = h.each k x l in rw e at m

-- ---- the walk

-- those that meet the window at the stops before a place are found
pub record Walked (items : List Bounds) (window : Bounds) (stops : List Stop) (at : ℕ) (found : List ℕ) : Type 0 where
  pub each : All (IsMeeting items window) found
  pub all : (m : ℕ) (d : Stop) → m < at → m < length stops → IsMeeting items window (get_or stops m d).number → Contains found (get_or stops m d).number

pub walk_begins : (items : List Bounds) (window : Bounds) (stops : List Stop) → Walked items window stops 0 []
walk_begins items window stops = record { each = λ k d l. absurd (omega arith); all = λ m d l. absurd (omega arith) }

-- a stop is looked at
pub walk_on : (items : List Bounds) (window : Bounds) (stops : List Stop) (at : ℕ) (found new : List ℕ) (stop : Stop)
    → ((d : Stop) → get_or stops at d ≡ stop) → AddsMeeting items window stop.number found new
    → Walked items window stops at found → Walked items window stops (at + 1) new
walk_on items window stops at found new stop is (inl (meets, e)) w = rw e (record {
  each = All-push (IsMeeting items window) found stop.number w.each meets;
  all = λ m d l h n. elim (cases_lt m at) [
    | inl g ↦ Contains-append_left found (stop.number ∷ []) _ (w.all m d g h n)
    | inr g ↦ let f : m ≡ at = omega arith in rw (f, is d) (Contains-push found stop.number)
  ];
})
walk_on items window stops at found new stop is (inr (none, e)) w = rw e (record {
  each = w.each;
  all = λ m d l h n. elim (cases_lt m at) [
    | inl g ↦ w.all m d g h n
    | inr g ↦ let f : m ≡ at = omega arith in let P : Stop → Type 0 = λ t. IsMeeting items window t.number in
        absurd (none (subst P (ap (λ j. get_or stops j d) f ∙ is d) n))
  ];
})

-- the stops within bounds that do not meet the window are left out
pub walk_past : (items : List Bounds) (window : Bounds) (stops : List Stop) (at : ℕ) (found : List ℕ) (stop : Stop)
    → ((d : Stop) → get_or stops at d ≡ stop) → at < length stops → ¬ Meets stop.bounds window
    → IsIndex items stops → Walked items window stops at found
    → Walked items window stops (at + stop.rest + 1) found
walk_past items window stops at found stop is within far x w = record {
  each = w.each;
  all = λ m d h k n. elim (cases_lt m at) [
    | inl g ↦ w.all m d g k n
    | inr g ↦ absurd (far (meets_bounds m d g h n))
  ];
} where
  meets_bounds : (m : ℕ) (d : Stop) → at ≤ m → m < at + stop.rest + 1 → IsMeeting items window (get_or stops m d).number → Meets stop.bounds window
  meets_bounds m d low high n =
      let r : (get_or stops at d).rest ≡ stop.rest = ap (λ (t : Stop). t.rest) (is d) in
      let h : Holds stop.bounds (get_or items (get_or stops m d).number stop.bounds) = rw (is d) at (x.covers at m d stop.bounds within low (omega arith)) in
      meets_outer _ _ window h (n.meets stop.bounds)

pub walk_ends : (items : List Bounds) (window : Bounds) (stops : List Stop) (at : ℕ) (found : List ℕ)
    → length stops ≤ at → IsIndex items stops → Walked items window stops at found
    → HasMeeting items window found
walk_ends items window stops at found whole x w = record {
  each = w.each;
  all = λ i n. let (k, l, e) = x.all i n.within in all_at i n k l e;
} where
  all_at : (i : ℕ) → IsMeeting items window i → (k : ℕ) → k < length stops → ((d : Stop) → (get_or stops k d).number ≡ i) → Contains found i
  all_at i n k l e =
      let d : Stop = some_of stops k l in
      let P : ℕ → Type 0 = IsMeeting items window in
      let Q : ℕ → Type 0 = Contains found in
      subst Q (e d) (w.all k d (omega arith) l (subst P (sym (e d)) n))

-- what a test that failed leaves
pub not_met : (test : Bool) (a b : Bounds) → test ≡ false → (Meets a b → IsTrue test) → ¬ Meets a b
not_met test a b e f m = let t : IsTrue false = rw e at (f m) in search rules

-- bounds meet where their columns do and their rows do
pub meets_both : (a b : Bounds) (columns rows : Bool) → columns ≡ true
    → (IsTrue columns ↔ (a.left ≤ℤ b.right) × (b.left ≤ℤ a.right))
    → (IsTrue rows ↔ (a.low ≤ℤ b.high) × (b.low ≤ℤ a.high)) → IsTrue rows ↔ Meets a b
meets_both a b columns rows e f g = (
  (λ t. let p = f.0 (is_true columns e) in let q = g.0 t in record { left = p.0; right = p.1; low = q.0; high = q.1 }),
  (λ m. g.1 (m.low, m.high)),
) where
  is_true : (test : Bool) → test ≡ true → IsTrue test
  is_true test h = search rules
