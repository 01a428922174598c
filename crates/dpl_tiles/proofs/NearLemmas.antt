-- The runs near the columns that change, from stretches that are exact in a window.
use Rattle.std.proofs.Common.{arith, ◌≡◌, ◌∙◌, ℕ, ℤ, pos, ◌-ℤ◌, ◌<ℤ◌, ◌≤ℤ◌, ◌<◌, ◌&&◌, List, length, get_or, filter, []}
use Rattle.std.proofs.Common.{◌∷◌, All, Any, refl, sym, inl, inr, Bool, true, IsTrue, int_le}
use Rattle.std.specs.List.{AllZip}
use Rattle.std.proofs.lemmas.List.{get_or_default}
use Rattle.std.proofs.lemmas.List.Elements.{All-cons, All-filter, filter_passes}
use Rattle.std.proofs.lemmas.List.Kept.{AllPairs-filter}
use Rattle.std.proofs.lemmas.Int.{by_lt_z, ints}
use Rattle.dpl_cell.specs.declared.rect.Rect.{Rect}
use Rattle.dpl_cell.specs.Cells.{IsWithin}
use Rattle.dpl_cell.specs.Tiles.{IsRun}
use Rattle.dpl_cell.specs.declared.stretch.Stretch.{Stretch}
use Rattle.dpl_cell.specs.Stretches.{is_in_stretches, AreSeparate}
use Rattle.dpl_tiles.specs.Stretches.{IsRow}
use Rattle.dpl_tiles.specs.Bands.{HasColumns, IsOver}
use Rattle.dpl_tiles.specs.Windows.{IsFar, AreNearRuns, is_near}
use Rattle.dpl_cell.proofs.BoxLemmas.{is_true, true_is}
use Rattle.dpl_list.proofs.Integers.{signed}
use Rattle.dpl_list.proofs.Zips.{zip_at, zip_length}
use Rattle.dpl_list.proofs.Lists.{kept_by}
use Rattle.dpl_tiles.proofs.BoundLemmas.{IsBounded}
use Rattle.dpl_tiles.proofs.UnionLemmas.{cell_run}
use Rattle.dpl_tiles.proofs.RunLemmas.{run_from_row, row_has_run}

-- stretches that hold cells of row z alone, and all of those from column a - 1 to column b; each run that is not far lies from a to b
pub record IsExactIn (cells : ℤ → ℤ → Bool) (z d1 d2 a b : ℤ) (ss : List Stretch) : Type 0 where
  pub separate : AreSeparate ss
  pub sound : (x : ℤ) → IsTrue (is_in_stretches ss x) → IsTrue (cells x z)
  pub full : (x : ℤ) → (a -ℤ pos 1) ≤ℤ x → x ≤ℤ b → IsTrue (cells x z) → IsTrue (is_in_stretches ss x)
  pub inside : (x1 x2 : ℤ) → IsRun cells x1 x2 z → ¬ IsFar d1 d2 x1 x2 → (a ≤ℤ x1) × (x2 ≤ℤ b)

not_far : (d1 d2 x1 x2 : ℤ) → d1 ≤ℤ x2 → x1 ≤ℤ d2 → ¬ IsFar d1 d2 x1 x2
not_far d1 d2 x1 x2 h g f = elim f [ inl a ↦ absurd (omega signed) | inr a ↦ absurd (omega signed) ]

pub near_ends : (d1 d2 x1 x2 : ℤ) → ¬ IsFar d1 d2 x1 x2 → (d1 ≤ℤ x2) × (x1 ≤ℤ d2)
near_ends d1 d2 x1 x2 n = (by_lt_z x2 d1 (λ h. absurd (n (inl h))) (λ h. h), by_lt_z d2 x1 (λ h. absurd (n (inr h))) (λ h. h))

module _ (cells : ℤ → ℤ → Bool) (z d1 d2 a b : ℤ) (ss : List Stretch) (bound : IsBounded cells) (e : IsExactIn cells z d1 d2 a b ss) where
  -- the stretches as the runs of a row of their own
  own : ℤ → ℤ → Bool
  own x y = is_in_stretches ss x

  own_row : IsRow (λ x y. is_in_stretches ss x) z ss
  own_row = record { separate = e.separate; same = λ x. refl }

  -- the run of the row that holds a stretch
  around : (from to : ℤ) → IsRun (λ x y. is_in_stretches ss x) from to z → (x1 : ℤ) × (x2 : ℤ) × IsRun cells x1 x2 z × (x1 ≤ℤ from) × (to ≤ℤ x2)
  around from to run = go (cell_run cells from z bound (e.sound from (run.full from (record { from = omega signed; to = run.long })))) where
    go : (x1 : ℤ) × (x2 : ℤ) × IsRun cells x1 x2 z × IsWithin x1 x2 from → (x1 : ℤ) × (x2 : ℤ) × IsRun cells x1 x2 z × (x1 ≤ℤ from) × (to ≤ℤ x2)
    go (x1, x2, r, w) = (
      x1,
      x2,
      r,
      w.from,
      by_lt_z x2 to
          (λ h. absurd (r.right (e.sound x2 (run.full x2 (record { from = let t = w.to in omega signed; to = h })))))
          (λ h. h),
    )

  -- a stretch that is not far is a run
  pub stretch_run : (from to : ℤ) → IsRun (λ x y. is_in_stretches ss x) from to z → ¬ IsFar d1 d2 from to → IsRun cells from to z
  stretch_run from to run near = go (around from to run) where
    go : (x1 : ℤ) × (x2 : ℤ) × IsRun cells x1 x2 z × (x1 ≤ℤ from) × (to ≤ℤ x2) → IsRun cells from to z
    go (x1, x2, r, f, t) =
        let (p, q) = near_ends d1 d2 from to near in
        let (i, j) = e.inside x1 x2 r (not_far d1 d2 x1 x2 (omega signed) (omega signed)) in
        let l = run.long in record {
          long = run.long;
          full = λ x w. e.sound x (run.full x w);
          left = λ h. run.left (e.full (from -ℤ pos 1) (omega signed) (omega signed) h);
          right = λ h. run.right (e.full to (omega signed)
              (by_lt_z to x2 (λ g. omega signed) (λ g. let same : to ≡ x2 = omega signed in
              absurd (r.right (rw same at h)))) h);
        }

  -- and each run that is not far is one of the stretches
  pub run_stretch : (x1 x2 : ℤ) → IsRun cells x1 x2 z → ¬ IsFar d1 d2 x1 x2 → Any (λ s. (s.from ≡ x1) × (s.to ≡ x2)) ss
  run_stretch x1 x2 run near =
      let (i, j) = e.inside x1 x2 run near in
      row_has_run (λ x y. is_in_stretches ss x) z ss own_row x1 x2 (record {
        long = run.long;
        full = λ x w. e.full x (let f = w.from in omega signed) (let t = w.to in omega signed) (run.full x w);
        left = λ h. run.left (e.sound (x1 -ℤ pos 1) h);
        right = λ h. run.right (e.sound x2 h);
      })

  -- so the stretches that are not far are the runs that are not far
  pub near_stretch : (k : ℕ) (d : Stretch) → k < length ss → ¬ IsFar d1 d2 (get_or ss k d).from (get_or ss k d).to →
      IsRun cells (get_or ss k d).from (get_or ss k d).to z
  near_stretch k d l near = stretch_run _ _ (run_from_row (λ x y. is_in_stretches ss x) z ss own_row k d l) near

near_test : (d1 d2 : ℤ) (s : Stretch) → ¬ IsFar d1 d2 s.from s.to → is_near d1 d2 s ≡ true
near_test d1 d2 s n = let (h, g) = near_ends d1 d2 s.from s.to n in passes s.from s.to h g where
  passes : (a b : ℤ) → d1 ≤ℤ b → a ≤ℤ d2 → int_le d1 b && int_le a d2 ≡ true
  passes a b h g = grind (arith, ints)

test_near : (d1 d2 : ℤ) (s : Stretch) → is_near d1 d2 s ≡ true → ¬ IsFar d1 d2 s.from s.to
test_near d1 d2 s t = not_far d1 d2 s.from s.to (first s.from s.to t) (second s.from s.to t) where
  first : (a b : ℤ) → int_le d1 b && int_le a d2 ≡ true → d1 ≤ℤ b
  first a b t = grind (arith, ints)

  second : (a b : ℤ) → int_le d1 b && int_le a d2 ≡ true → a ≤ℤ d2
  second a b t = grind (arith, ints)

module _ (cells : ℤ → ℤ → Bool) (z high d1 d2 a b : ℤ) (ss : List Stretch) (runs : List Rect) (bound : IsBounded cells)
    (e : IsExactIn cells z d1 d2 a b ss) (zip : AllZip (IsOver z high) (filter (is_near d1 d2) ss) runs) where
  over : (k : ℕ) (d : Rect) (s : Stretch) → k < length runs → IsOver z high (get_or (filter (is_near d1 d2) ss) k s) (get_or runs k d)
  over k d s l = let n = zip_length (IsOver z high) (filter (is_near d1 d2) ss) runs zip in
      zip_at (IsOver z high) (filter (is_near d1 d2) ss) runs k s d zip (omega arith)

  kept_run : All (λ s. IsRun cells s.from s.to z × (¬ IsFar d1 d2 s.from s.to)) (filter (is_near d1 d2) ss)
  kept_run k d l =
      let t = test_near d1 d2 (get_or (filter (is_near d1 d2) ss) k d) (filter_passes (is_near d1 d2) ss k d l) in (
        All-filter (is_near d1 d2) (λ s. ¬ IsFar d1 d2 s.from s.to → IsRun cells s.from s.to z) ss
            (λ m c h n. near_stretch cells z d1 d2 a b ss bound e m c h n) k d l t,
        t,
      )

  some_stretch : (k : ℕ) → k < length (filter (is_near d1 d2) ss) → Stretch
  some_stretch k l = pick (filter (is_near d1 d2) ss) k l where
    pick : (xs : List Stretch) (k : ℕ) → k < length xs → Stretch
    pick [] k l = absurd (omega arith)
    pick (x ∷ xs) k l = x

  pub near_runs_are : AreNearRuns cells z d1 d2 runs
  near_runs_are = record {
    each = λ k d l.
        let n = zip_length (IsOver z high) (filter (is_near d1 d2) ss) runs zip in
        let s = some_stretch k (omega arith) in
        let o = over k d s l in
        rw (o.left, o.right) (kept_run k s (omega arith));
    all = λ x1 x2 run near. go x1 x2 near (run_stretch cells z d1 d2 a b ss bound e x1 x2 run near);
    ordered = λ i j d h l.
        let n = zip_length (IsOver z high) (filter (is_near d1 d2) ss) runs zip in
        let s = some_stretch j (omega arith) in
        let o = over i d s (omega arith) in
        let p = over j d s l in
        rw (o.right, p.left) (AllPairs-filter (λ s t. s.to <ℤ t.from) (is_near d1 d2) ss e.separate i j s h (omega arith));
  } where
    go : (x1 x2 : ℤ) → ¬ IsFar d1 d2 x1 x2 → Any (λ s. (s.from ≡ x1) × (s.to ≡ x2)) ss → Any (HasColumns x1 x2) runs
    go x1 x2 near (k, s, l, is, (f, t)) = on (kept_by (is_near d1 d2) ss k s l is (near_test d1 d2 s (rw (f, t) near))) where
      on : (m : ℕ) × (m < length (filter (is_near d1 d2) ss)) × (get_or (filter (is_near d1 d2) ss) m s ≡ s) → Any (HasColumns x1 x2) runs
      on (m, h, g) = found (some_rect m (let n = zip_length (IsOver z high) (filter (is_near d1 d2) ss) runs zip in omega arith)) where
        some_rect : (m : ℕ) → m < length runs → Rect
        some_rect m l = pick runs m l where
          pick : (xs : List Rect) (k : ℕ) → k < length xs → Rect
          pick [] k l = absurd (omega arith)
          pick (x ∷ xs) k l = x

        found : Rect → Any (HasColumns x1 x2) runs
        found d =
            let n = zip_length (IsOver z high) (filter (is_near d1 d2) ss) runs zip in
            let h' : m < length runs = omega arith in
            let o : IsOver z high s (get_or runs m d) = rw g at (over m d s h') in
            (m, get_or runs m d, h', get_or_default runs m (get_or runs m d) d h', record { left = o.left ∙ f; right = o.right ∙ t })

pub exact_in : (cells : ℤ → ℤ → Bool) (z d1 d2 a b : ℤ) (parts sorted ss : List Stretch) → AreSeparate ss
    → ((x : ℤ) → is_in_stretches ss x ≡ is_in_stretches sorted x)
    → ((x : ℤ) → is_in_stretches sorted x ≡ is_in_stretches parts x)
    → ((x : ℤ) → is_in_stretches parts x ≡ true → cells x z ≡ true)
    → ((x : ℤ) → (a -ℤ pos 1) ≤ℤ x → x ≤ℤ b → cells x z ≡ true → is_in_stretches parts x ≡ true)
    → ((x1 x2 : ℤ) → IsRun cells x1 x2 z → ¬ IsFar d1 d2 x1 x2 → (a ≤ℤ x1) × (x2 ≤ℤ b))
    → IsExactIn cells z d1 d2 a b ss
exact_in cells z d1 d2 a b parts sorted ss apart same same' sound full inside = record {
  separate = apart;
  sound = λ x h. is_true (sound x (sym (same x ∙ same' x) ∙ true_is _ h));
  full = λ x f t h. is_true (same x ∙ same' x ∙ full x f t (true_is _ h));
  inside = inside;
}

pub over_bottom : (z high : ℤ) (ss : List Stretch) (runs : List Rect) → AllZip (IsOver z high) ss runs → All (λ r. r.y1 ≡ z) runs
over_bottom z high [] [] a = λ k d l. absurd (omega arith)
over_bottom z high [] (r ∷ rs) a = elim a [ ]
over_bottom z high (s ∷ ss) [] a = elim a [ ]
over_bottom z high (s ∷ ss) (r ∷ rs) a = All-cons (λ r. r.y1 ≡ z) r rs a.0.bottom (over_bottom z high ss rs a.1)
