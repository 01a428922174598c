-- One cluster of corners: what it changes lies between the column that was passed before and the next one.
use Rattle.std.proofs.Common.{arith, ◌≡◌, ◌⊎◌, ◌∙◌, ℕ, ◌<◌, ◌≤◌, ℤ, pos, ◌-ℤ◌, ◌<ℤ◌, ◌≤ℤ◌, List, length, get_or}
use Rattle.std.proofs.Common.{All, Any, AllPairs, refl, sym, ap, inl, inr, [], ◌∷◌, ◌++◌, append_assoc, subst}
use Rattle.std.proofs.Common.{Bool, true, false, IsTrue, Option, Some, None, IfSome, map}
use Rattle.std.specs.List.{AllZip}
use Rattle.std.proofs.lemmas.Bool.{cases_lt, false_from_ne_true}
use Rattle.std.proofs.lemmas.Int.{by_lt_z}
use Rattle.std.proofs.lemmas.List.{get_or_default}
use Rattle.std.proofs.lemmas.List.Elements.{All-append, All-cons, All-weaker}
use Rattle.dpl_cell.specs.declared.rect.Rect.{Rect}
use Rattle.dpl_cell.specs.declared.layout.Primitive.{Primitive}
use Rattle.dpl_cell.specs.Cells.{IsWithin}
use Rattle.dpl_cell.specs.declared.stretch.Stretch.{Stretch}
use Rattle.dpl_cell.specs.Outlines.{outline_of}
use Rattle.dpl_cell.specs.Layers.{is_cell}
use Rattle.dpl_cell.specs.Tiles.{IsRun}
use Rattle.dpl_tiles.specs.declared.corners.Corner.{Corner}
use Rattle.dpl_tiles.specs.Bands.{HasColumns}
use Rattle.dpl_stacks.specs.Stacks.{IsLeftOf, IsParted}
use Rattle.dpl_tiles.specs.Stacks.{ending}
use Rattle.dpl_tiles.specs.Sweeps.{IsSameStack, IsStep}
use Rattle.dpl_tiles.specs.Windows.{IsOutside, IsChange, IsFar, AreNearRuns, IsContinued, IsClosed, AddsClosed, IsStill}
use Rattle.dpl_tiles.specs.Stretches.{IsFramed}
use Rattle.dpl_tiles.specs.Clusters.{passed, AreChanges, IsCluster, IsPassed}
use Rattle.dpl_list.proofs.Lists.{any_head, any_tail, some_of}
use Rattle.dpl_cell.proofs.BoxLemmas.{true_is}
use Rattle.dpl_list.proofs.Integers.{signed}
use Rattle.dpl_tiles.proofs.BoundLemmas.{IsBounded, bounded}
use Rattle.dpl_tiles.proofs.UnionLemmas.{run_around}
use Rattle.dpl_tiles.proofs.NearLemmas.{near_ends}
use Rattle.dpl_tiles.proofs.StepLemmas.{AreRuns, IsWindowStep, window_step}
use Rattle.dpl_stacks.proofs.OrderLemmas.{part_ordered, across}
use Rattle.dpl_tiles.proofs.WindowLemmas.{between, continued_at}
use Rattle.dpl_stacks.proofs.PlaceLemmas.{near_all}
use Rattle.dpl_tiles.proofs.PassLemmas.{passed_left, passed_right, passed_on}

-- a run that ends before the rows differ
run_within : (old new : ℤ → ℤ → Bool) (z w x1 x2 : ℤ) → ((x : ℤ) → x ≤ℤ w → old x z ≡ new x z) → x2 ≤ℤ w → IsRun old x1 x2 z → IsRun new x1 x2 z
run_within old new z w x1 x2 same h run = record {
  long = run.long;
  full = λ x i. let e = same x (let t = i.to in omega signed) in let f : IsTrue (old x z) = run.full x i in rw e at f;
  left = let e = same (x1 -ℤ pos 1) (let l = run.long in omega signed) in λ f. run.left (rw e f);
  right = let e = same x2 h in λ f. run.right (rw e f);
}

-- ---- the end of a cluster

-- the right end of the columns up to d2 and of the stacks
record IsEnd (near : List Rect) (d2 w : ℤ) : Type 0 where
  right : d2 ≤ℤ w
  holds : All (λ r. r.x2 ≤ℤ w) near
  is : (w ≡ d2) ⊎ Any (λ r. r.x2 ≡ w) near

end_of : (near : List Rect) (d2 : ℤ) → (w : ℤ) × IsEnd near d2 w
end_of [] d2 = (d2, record { right = omega signed; holds = λ k d l. absurd (omega arith); is = inl refl })
end_of (r ∷ rs) d2 = go (end_of rs d2) where
  go : (w : ℤ) × IsEnd rs d2 w → (w : ℤ) × IsEnd (r ∷ rs) d2 w
  go (w, e) = by_lt_z r.x2 w
      (λ h. (
        w,
        record {
          right = e.right;
          holds = All-cons (λ r. r.x2 ≤ℤ w) r rs (omega signed) e.holds;
          is =
              elim e.is [ inl f ↦ inl f | inr a ↦ inr (any_tail (λ r. r.x2 ≡ w) r rs a) ];
        },
      ))
      (λ h. (
        r.x2,
        record {
          right = let f = e.right in omega signed;
          holds =
              All-cons (λ q. q.x2 ≤ℤ r.x2) r rs (omega signed)
              (All-weaker (λ q. q.x2 ≤ℤ w) (λ q. q.x2 ≤ℤ r.x2) (λ q i. omega signed) rs e.holds);
          is =
              inr (any_head (λ q. q.x2 ≡ r.x2) r rs refl);
        },
      ))

end_within : (near : List Rect) (d2 w b : ℤ) → IsEnd near d2 w → d2 ≤ℤ b → All (λ r. r.x2 ≤ℤ b) near → w ≤ℤ b
end_within near d2 w b e h inside = elim e.is [
  | inl f ↦ omega signed
  | inr (k, q, l, i, f) ↦ let j : q.x2 ≤ℤ b = rw i at (inside k q l) in omega signed
]

-- a cluster, with the stacks near it
pub record IsMet (cells : ℤ → ℤ → Bool) (z : ℤ) (row : List Corner) (at to : ℕ) (d1 d2 : ℤ) (ended now left near right : List Rect) : Type 0 where
  pub bound : IsBounded cells
  pub changes : AreChanges cells z row
  pub before : IsPassed cells z row at ended now
  pub parted : IsParted now d1 d2 left near right
  pub cluster : IsCluster row at to d1 d2 near

pub met : (prims : List Primitive) (z : ℤ) (row : List Corner) (at to : ℕ) (d1 d2 : ℤ) (ended now left near right : List Rect)
    → AreChanges (is_cell (map outline_of prims)) z row
    → IsPassed (is_cell (map outline_of prims)) z row at ended now → IsParted now d1 d2 left near right
    → IsCluster row at to d1 d2 near
    → IsMet (is_cell (map outline_of prims)) z row at to d1 d2 ended now left near right
met prims z row at to d1 d2 ended now left near right changes before parted cluster =
    record { bound = bounded prims; changes = changes; before = before; parted = parted; cluster = cluster }

module _ (cells : ℤ → ℤ → Bool) (z : ℤ) (row : List Corner) (at to : ℕ) (d1 d2 : ℤ)
    (ended now left near right : List Rect) (m : IsMet cells z row at to d1 d2 ended now left near right) (w : ℤ)
    (e : IsEnd near d2 w) where
  -- the column that was passed before lies left of the cluster
  begins : m.before.column <ℤ d1
  begins =
      let l = m.cluster.more in let h = m.cluster.within in
      let d = some_of row at (omega arith) in
      let f = m.cluster.left d in let g = m.before.ahead at d (omega arith) (omega arith) in omega signed

  ordered : AllPairs IsLeftOf (near ++ right)
  ordered = (part_ordered left (near ++ right) (rw m.parted.whole at m.before.step.step.ordered)).1

  right_of : (r : Rect) → d2 <ℤ r.x1 → ((k : ℕ) (d : Rect) → k < length near → IsLeftOf (get_or near k d) r) → w <ℤ r.x1
  right_of r h up = elim e.is [
    | inl f ↦ omega signed
    | inr (k, q, l, g, f) ↦ let i : IsLeftOf q r = rw g at (up k q l) in omega signed
  ]

  behind_right : All (λ r. w <ℤ r.x1) right
  behind_right k d l = right_of (get_or right k d) (m.parted.right k d l) (λ i c h. at_place i c h) where
    at_place : (i : ℕ) (c : Rect) → i < length near → IsLeftOf (get_or near i c) (get_or right k d)
    at_place i c h = let f : get_or right k c ≡ get_or right k d =
        get_or_default right k c d l in rw f at (across near right ordered i k c h l)

  -- no stack stands across the end
  sides : All (λ r. (r.x2 ≤ℤ w) ⊎ (w <ℤ r.x1)) now
  sides = rw m.parted.whole (All-append (λ r. (r.x2 ≤ℤ w) ⊎ (w <ℤ r.x1)) left (near ++ right) (λ k d l. inl (before_end _ (m.parted.left k d l)))
      (All-append (λ r. (r.x2 ≤ℤ w) ⊎ (w <ℤ r.x1)) near right (λ k d l. inl (e.holds k d l)) (λ k d l. inr (behind_right k d l)))) where
        before_end : (x : ℤ) → x <ℤ d1 → x ≤ℤ w
        before_end x h = let f = m.parted.some in let g = e.right in omega signed

  -- the other corners stand left or right of all this
  corners_ahead : (k : ℕ) (d : Corner) → to ≤ k → k < length row → w <ℤ (get_or row k d).left
  corners_ahead k d h l = let a = m.cluster.apart d (omega arith) in
      go (get_or row to d).left (get_or row k d).left (a.0) (a.1) (m.changes.ordered to k d h l) where
        go : (a b : ℤ) → d2 <ℤ a → All (λ r. r.x2 <ℤ a) near → a ≤ℤ b → w <ℤ b
        go a b i all j = elim e.is [
          | inl f ↦ omega signed
          | inr (n, q, g, f, is) ↦ let o : q.x2 <ℤ a = rw f at (all n q g) in omega signed
        ]

  corners_left : (k : ℕ) (d : Corner) → at ≤ k → k < length row → d1 ≤ℤ (get_or row k d).left
  corners_left k d h l = let f = m.cluster.left d in let g = m.changes.ordered at k d h l in at_least _ _ f g where
    at_least : (a b : ℤ) → a ≡ d1 → a ≤ℤ b → d1 ≤ℤ b
    at_least a b f g = omega signed

  corners_behind : (k : ℕ) (d : Corner) → k < to → k < length row → (get_or row k d).right ≤ℤ d2
  corners_behind k d h l = elim (cases_lt k at) [
    | inl g ↦ chain _ (m.before.behind k d g l)
    | inr g ↦ m.cluster.right k d g h
  ] where
    chain : (x : ℤ) → x ≤ℤ m.before.column → x ≤ℤ d2
    chain x i = let f = begins in let g = m.parted.some in omega signed

  -- ---- columns outside the cluster have the same cells in both rows

  same_left : (x : ℤ) → m.before.column ≤ℤ x → x <ℤ d1 → cells x (z -ℤ pos 1) ≡ cells x z
  same_left x low high = m.changes.same x (λ k d l. elim (cases_lt k at) [
    | inl g ↦ inr (chain _ (m.before.behind k d g l))
    | inr g ↦ inl (less _ (corners_left k d g l))
  ]) where
    chain : (y : ℤ) → y ≤ℤ m.before.column → y ≤ℤ x
    chain y i = omega signed

    less : (y : ℤ) → d1 ≤ℤ y → x <ℤ y
    less y i = omega signed

  same_right : (x : ℤ) → d2 ≤ℤ x → x ≤ℤ w → cells x (z -ℤ pos 1) ≡ cells x z
  same_right x low high = m.changes.same x (λ k d l. elim (cases_lt k to) [
    | inl g ↦ inr (chain _ (corners_behind k d g l))
    | inr g ↦ inl (less _ (corners_ahead k d g l))
  ]) where
    chain : (y : ℤ) → y ≤ℤ d2 → y ≤ℤ x
    chain y i = omega signed

    less : (y : ℤ) → w <ℤ y → x <ℤ y
    less y i = omega signed

  -- left of the cluster the row is as it will be
  passed_before : (x : ℤ) → x <ℤ d1 → passed cells m.before.column x z ≡ cells x z
  passed_before x h = by_lt_z x m.before.column (λ g. passed_left cells m.before.column x z g) (λ g. passed_right cells m.before.column x z g ∙ same_left x g h)

  passed_behind : (x : ℤ) → d2 ≤ℤ x → passed cells m.before.column x z ≡ cells x (z -ℤ pos 1)
  passed_behind x h = passed_right cells m.before.column x z (let f = begins in let g = m.parted.some in omega signed)

  agrees : (x : ℤ) → x ≤ℤ w → passed cells w x z ≡ cells x z
  agrees x h = by_lt_z x w (λ g. passed_left cells w x z g) (λ g. passed_right cells w x z g ∙ same_right x (let f = e.right in omega signed) h)

  change : IsChange (passed cells m.before.column) (passed cells w) z d1 d2
  change x (inl h) = passed_before x h ∙ sym (agrees x (let f = m.parted.some in let g = e.right in omega signed))
  change x (inr h) = passed_behind x h ∙ by_lt_z x w (λ g. same_right x h (omega signed) ∙
      sym (passed_left cells w x z g)) (λ g. sym (passed_right cells w x z g))

  -- ---- runs near the cluster lie in its window

  stack_at : (x : ℤ) → IsTrue (passed cells m.before.column x z) → (x1 : ℤ) × (x2 : ℤ) ×
      IsRun (passed cells m.before.column) x1 x2 z × IsWithin x1 x2 x × Any (HasColumns x1 x2) now
  stack_at x t =
      let (x1, x2, run, at') = run_around (passed cells m.before.column) x z (λ y h. m.bound.left y _ h) (λ y h. m.bound.right y _ h) t in
      (x1, x2, run, at', m.before.step.step.all x1 x2 run)

  -- no stack stands across the end
  missed : IsTrue (passed cells m.before.column w z) → ⊥
  missed t = go (stack_at w t) where
    go : (y1 : ℤ) × (y2 : ℤ) × IsRun (passed cells m.before.column) y1 y2 z × IsWithin y1 y2 w × Any (HasColumns y1 y2) now → ⊥
    go (y1, y2, was, at', (k, o, l, f, t)) = elim (on k o l f) [
      | inl i ↦ let j = t.right in let n = at'.to in omega signed
      | inr i ↦ let j = t.left in let n = at'.from in omega signed
    ] where
      on : (k : ℕ) (o : Rect) → k < length now → get_or now k o ≡ o → (o.x2 ≤ℤ w) ⊎ (w <ℤ o.x1)
      on k o l f = rw f at (sides k o l)

  ends_by : (new : ℤ → ℤ → Bool) → passed cells m.before.column w z ≡ new w z → (x1 x2 : ℤ) → IsRun new x1 x2 z → x1 ≤ℤ d2 → x2 ≤ℤ w
  ends_by new same x1 x2 run h = by_lt_z w x2 (λ g. absurd (missed (rw same (run.full w (record { from = let f = e.right in omega signed; to = g }))))) (λ g. g)

  passed_ends : (x1 x2 : ℤ) → IsRun (passed cells w) x1 x2 z → x1 ≤ℤ d2 → x2 ≤ℤ w
  passed_ends x1 x2 run h = ends_by (passed cells w) (passed_behind w e.right ∙ sym (passed_right cells w w z (omega signed))) x1 x2 run h

  row_ends : (x1 x2 : ℤ) → IsRun cells x1 x2 z → x1 ≤ℤ d2 → x2 ≤ℤ w
  row_ends x1 x2 run h = ends_by cells (passed_behind w e.right ∙ same_right w e.right (omega signed)) x1 x2 run h

  -- each stack ends left of the cluster, or begins in the window or right of it
  near_or_past : (a : ℤ) → a ≤ℤ d1 → All (λ r. a ≤ℤ r.x1) near → All (λ r. (r.x2 <ℤ d1) ⊎ (a ≤ℤ r.x1)) now
  near_or_past a h holds = rw m.parted.whole (All-append (λ r. (r.x2 <ℤ d1) ⊎ (a ≤ℤ r.x1)) left (near ++ right) (λ k d l. inl (m.parted.left k d l))
      (All-append (λ r. (r.x2 <ℤ d1) ⊎ (a ≤ℤ r.x1)) near right (λ k d l. inr (holds k d l)) (λ k d l. inr (further _ (m.parted.right k d l))))) where
        further : (x : ℤ) → d2 <ℤ x → a ≤ℤ x
        further x i = let f = m.parted.some in omega signed

  row_starts : (a : ℤ) → a ≤ℤ d1 → All (λ r. a ≤ℤ r.x1) near → (x1 x2 : ℤ) → IsRun cells x1 x2 z → d1 ≤ℤ x2 → a ≤ℤ x1
  row_starts a h holds x1 x2 run low = by_lt_z x1 d1 (λ g. go g
      (stack_at (d1 -ℤ pos 1) (rw (passed_before (d1 -ℤ pos 1) (omega signed))
      (run.full (d1 -ℤ pos 1) (record { from = omega signed; to = omega signed }))))) (λ g. omega signed) where
        places : All (λ r. (r.x2 <ℤ d1) ⊎ (a ≤ℤ r.x1)) now
        places = near_or_past a h holds

        go : x1 <ℤ d1 → (y1 : ℤ) × (y2 : ℤ) × IsRun (passed cells m.before.column) y1 y2 z × IsWithin y1 y2 (d1 -ℤ pos 1) × Any (HasColumns y1 y2) now → a ≤ℤ x1
        go g (y1, y2, was, at', (k, o, l, f, t)) = elim (on k o l f) [
          | inl i ↦ absurd (let j = t.right in let n = at'.to in omega signed)
          | inr i ↦ let j = t.left in let n = reaches in omega signed
        ] where
          on : (k : ℕ) (o : Rect) → k < length now → get_or now k o ≡ o → (o.x2 <ℤ d1) ⊎ (a ≤ℤ o.x1)
          on k o l f = rw f at (places k o l)

          -- the row has cells from x1 up to the cluster, and so has the row before
          reaches : y1 ≤ℤ x1
          reaches = by_lt_z x1 y1 (λ i. absurd (was.left (let n = at'.from in
              rw (passed_before (y1 -ℤ pos 1) (omega signed))
              (run.full (y1 -ℤ pos 1) (record { from = omega signed; to = omega signed }))))) (λ i. i)

  -- ---- no cell stands right beside the window

  -- the right end is no cell of the row
  end_free : cells w z ≡ false
  end_free = false_from_ne_true (cells w z) (λ t. missed (passed_behind w e.right ∙ same_right w e.right (omega signed) ∙ t))

  -- left of the stack where the window begins, or of the cluster, there is none
  start_free : (a : ℤ) → a ≤ℤ d1 → All (λ r. a ≤ℤ r.x1) near → (a ≡ d1) ⊎ Any (λ r. r.x1 ≡ a) near → cells (a -ℤ pos 1) z ≡ false
  start_free a h holds which = false_from_ne_true (cells (a -ℤ pos 1) z) (λ t. by_end (passed_before (a -ℤ pos 1) (omega signed) ∙ t) which) where
    by_end : passed cells m.before.column (a -ℤ pos 1) z ≡ true → (a ≡ d1) ⊎ Any (λ r. r.x1 ≡ a) near → ⊥
    by_end t (inl f) = go (stack_at (a -ℤ pos 1) t) where
      places : All (λ r. (r.x2 <ℤ d1) ⊎ (a ≤ℤ r.x1)) now
      places = near_or_past a h holds

      go : (y1 : ℤ) × (y2 : ℤ) × IsRun (passed cells m.before.column) y1 y2 z × IsWithin y1 y2 (a -ℤ pos 1) × Any (HasColumns y1 y2) now → ⊥
      go (y1, y2, was, at', (k, o, l, g, u)) = elim (on k o l g) [
        | inl i ↦ let j = u.right in let n = at'.to in omega signed
        | inr i ↦ let j = u.left in let n = at'.from in omega signed
      ] where
        on : (k : ℕ) (o : Rect) → k < length now → get_or now k o ≡ o → (o.x2 <ℤ d1) ⊎ (a ≤ℤ o.x1)
        on k o l g = rw g at (places k o l)
    by_end t (inr (k, q, l, f, e)) = begun q (rw f at (near_all now d1 d2 left near right m.parted
        (λ r. IsRun (passed cells m.before.column) r.x1 r.x2 z) (λ k d l. (m.before.step.step.each k d l).0) k q l)) e
      where
        begun : (q : Rect) → IsRun (passed cells m.before.column) q.x1 q.x2 z → q.x1 ≡ a → ⊥
        begun q run g = run.left (rw g t)

  near_passed : (runs : List Rect) → AreNearRuns cells z d1 d2 runs → AreNearRuns (passed cells w) z d1 d2 runs
  near_passed runs are = record {
    each = λ k d l. let (run, near') = are.each k d l in let (f, g) = near_ends d1 d2 _ _ near' in
        (run_within cells (passed cells w) z w _ _ (λ x h. sym (agrees x h)) (row_ends _ _ run g) run, near');
    all = λ x1 x2 run near'. let (f, g) = near_ends d1 d2 x1 x2 near' in
        are.all x1 x2 (run_within (passed cells w) cells z w x1 x2 agrees (passed_ends x1 x2 run g) run) near';
    ordered = are.ordered;
  }

  -- ---- the step

  window : (runs stacks closed : List Rect) → AreNearRuns cells z d1 d2 runs → AllZip (IsContinued near z) runs stacks →
      AllZip (IsClosed z) (ending runs near) closed → IsWindowStep (passed cells m.before.column) (passed cells w) z d1
      d2 left near right runs stacks closed
  window runs stacks closed are cont ends = record {
    change = change;
    some = m.parted.some;
    held = rw m.parted.whole at now_runs;
    left = m.parted.left;
    right = m.parted.right;
    between = between now d1 d2 left near right m.parted;
    runs_are = near_passed runs are;
    continued = cont;
    closed_are = ends;
  } where
    now_runs : AreRuns (passed cells m.before.column) z now
    now_runs = record { each = λ k d l. (m.before.step.step.each k d l).0; all = m.before.step.step.all; ordered = m.before.step.step.ordered }

  end_passed : (runs stacks closed next : List Rect) → AreNearRuns cells z d1 d2 runs →
      AllZip (IsContinued near z) runs stacks → AllZip (IsClosed z) (ending runs near) closed →
      next ≡ left ++ (stacks ++ right) → IsPassed cells z row to (ended ++ closed) next
  end_passed runs stacks closed next are cont ends is = record {
    before = m.before.before;
    held = m.before.held;
    closed = m.before.closed ++ closed;
    column = w;
    swept = m.before.swept;
    added = ap (λ xs. xs ++ closed) m.before.added ∙ append_assoc m.before.before m.before.closed closed;
    behind = λ k d h l. chain _ (corners_behind k d h l);
    ahead = corners_ahead;
    step = passed_on cells z m.before.column d1 d2 w m.before.held m.before.closed now closed next (record {
      left = begins;
      some = m.parted.some;
      right = e.right;
      change = change;
      before = m.before.step;
      step = stepped;
      sides = sides;
      ends = passed_ends;
    });
  } where
    chain : (x : ℤ) → x ≤ℤ d2 → x ≤ℤ w
    chain x h = let f = e.right in omega signed

    stepped : IsStep (passed cells w) z now closed next
    stepped = rw (m.parted.whole, is) (window_step (passed cells m.before.column) (passed cells w) z d1 d2 left near
        right runs stacks closed (window runs stacks closed are cont ends))

module _ (cells : ℤ → ℤ → Bool) (z : ℤ) (row : List Corner) (at to : ℕ) (d1 d2 : ℤ)
    (ended now left near right : List Rect) (m : IsMet cells z row at to d1 d2 ended now left near right) where
  -- each run that is not far from the cluster lies in the window
  pub run_inside : (a b : ℤ) → a ≤ℤ d1 → d2 ≤ℤ b → All (λ r. (a ≤ℤ r.x1) × (r.x2 ≤ℤ b)) near → (x1 x2 : ℤ) →
      IsRun cells x1 x2 z → ¬ IsFar d1 d2 x1 x2 → (a ≤ℤ x1) × (x2 ≤ℤ b)
  run_inside a b h g inside x1 x2 run near' = go (end_of near d2) (near_ends d1 d2 x1 x2 near') where
    go : (w : ℤ) × IsEnd near d2 w → (d1 ≤ℤ x2) × (x1 ≤ℤ d2) → (a ≤ℤ x1) × (x2 ≤ℤ b)
    go (w, e) (i, j) = (
      row_starts cells z row at to d1 d2 ended now left near right m w e a h (λ k d l. (inside k d l).0) x1 x2 run i,
      let f = row_ends cells z row at to d1 d2 ended now left near right m w e x1 x2 run j in let n =
          end_within near d2 w b e g (λ k d l. (inside k d l).1) in omega signed,
    )

  -- no cell of the row stands right beside the window
  pub framed : (a b : ℤ) → a ≤ℤ d1 → d2 ≤ℤ b → All (λ r. (a ≤ℤ r.x1) × (r.x2 ≤ℤ b)) near → (a ≡ d1) ⊎
      Any (λ r. r.x1 ≡ a) near → (b ≡ d2) ⊎ Any (λ r. r.x2 ≡ b) near → IsFramed cells z a b
  framed a b h g inside first last = go (end_of near d2) where
    go : (w : ℤ) × IsEnd near d2 w → IsFramed cells z a b
    go (w, e) = record {
      some = let f = m.parted.some in omega signed;
      left = start_free cells z row at to d1 d2 ended now left near right m w e a h (λ k d l. (inside k d l).0) first;
      right = subst (λ c. cells c z ≡ false) is_end (end_free cells z row at to d1 d2 ended now left near right m w e);
    } where
      from : b ≤ℤ w
      from = elim last [
        | inl f ↦ let i = e.right in omega signed
        | inr (k, q, l, i, f) ↦ let j : q.x2 ≤ℤ w = rw i at (e.holds k q l) in omega signed
      ]

      is_end : w ≡ b
      is_end = let f = end_within near d2 w b e g (λ k d l. (inside k d l).1) in let i = from in omega signed

  -- what a stack near it has outside the columns of the cluster are cells of the row
  pub stays : (a b : ℤ) (s : Option Stretch) → IfSome s
      (λ s. (s.from ≤ℤ a) × (b ≤ℤ s.to) × Any (HasColumns s.from s.to) near) → IfSome s (IsStill cells z d1 d2 a b)
  stays a b None h = h
  stays a b (Some s) (f, g, (k, r, l, e, columns)) = record { left = f; right = g; same = λ x i out. on (end_of near d2) x i out } where
    run : IsRun (passed cells m.before.column) r.x1 r.x2 z
    run = rw e at (near_all now d1 d2 left near right m.parted (λ r. IsRun (passed cells m.before.column) r.x1 r.x2 z)
        (λ k d l. (m.before.step.step.each k d l).0) k r l)

    on : (w : ℤ) × IsEnd near d2 w → (x : ℤ) → IsWithin s.from s.to x → IsOutside d1 d2 x → cells x z ≡ true
    on (w, is_end) x i out =
        let held : r.x2 ≤ℤ w = rw e at (is_end.holds k r l) in
        let low = i.from in let high = i.to in let p = columns.left in let q = columns.right in
        let t : passed cells m.before.column x z ≡ true = true_is _ (run.full x (record { from = omega signed; to = omega signed })) in
        elim out [
          | inl h ↦ sym (passed_before cells z row at to d1 d2 ended now left near right m w is_end x h) ∙ t
          | inr h ↦ sym (passed_behind cells z row at to d1 d2 ended now left near right m w is_end x h ∙
              same_right cells z row at to d1 d2 ended now left near right m w is_end x h (omega signed)) ∙ t
        ]

  -- the stacks near it begin below row z
  pub near_below : All (λ r. r.y1 <ℤ z) near
  near_below k d l = go (get_or near k d) (m.parted.not_left k d l)
      (near_all now d1 d2 left near right m.parted (λ r. (r.x2 ≤ℤ m.before.column) ⊎
      ((m.before.column <ℤ r.x1) × Any (λ o. IsSameStack o r) m.before.held)) m.before.step.apart k d l) where
        go : (r : Rect) → d1 ≤ℤ r.x2 → (r.x2 ≤ℤ m.before.column) ⊎ ((m.before.column <ℤ r.x1) × Any (λ o. IsSameStack o r) m.before.held) → r.y1 <ℤ z
        go r h (inl g) = absurd (on (end_of near d2)) where
          on : (w : ℤ) × IsEnd near d2 w → ⊥
          on (w, e) = let f = begins cells z row at to d1 d2 ended now left near right m w e in omega signed
        go r h (inr (g, (i, o, j, f, t))) = let s = (m.before.swept.going.each i o j).start in let b = t.bottom in below f b s where
          below : get_or m.before.held i o ≡ o → r.y1 ≡ o.y1 → (get_or m.before.held i o).y1 <ℤ z → r.y1 <ℤ z
          below f b s = let s' : o.y1 <ℤ z = rw f at s in omega signed

  -- the row is passed up to the corner behind the cluster
  pub cluster_passed : (new runs stacks next : List Rect) → AreNearRuns cells z d1 d2 runs → All (λ r. r.y1 ≡ z) runs →
      AllZip (λ run r. IsContinued near run.y1 run r) runs stacks → AddsClosed z (ending runs near) ended new →
      next ≡ left ++ stacks → IsPassed cells z row to new (next ++ right)
  cluster_passed new runs stacks next are bottom cont a is = go (end_of near d2) where
    go : (w : ℤ) × IsEnd near d2 w → IsPassed cells z row to new (next ++ right)
    go (w, e) = rw a.added (end_passed cells z row at to d1 d2 ended now left near right m w e runs stacks a.closed
        (next ++ right) are (continued_at near z runs stacks bottom cont) a.each
        (ap (λ xs. xs ++ right) is ∙ append_assoc left stacks right))
