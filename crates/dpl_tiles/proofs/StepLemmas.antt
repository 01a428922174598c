-- A step of a sweep that looks at the stacks near the columns that change alone.
use Rattle.std.proofs.Common.{arith, ◌≡◌, ◌⊎◌, ℕ, ◌-◌, ◌<◌, ℤ, pos, ◌-ℤ◌, ◌<ℤ◌, ◌≤ℤ◌, List, length, get_or}
use Rattle.std.proofs.Common.{length-append, All, Any, AllPairs, refl, sym, ap, ◌∙◌, inl, inr, ◌++◌, Bool, not}
use Rattle.std.specs.List.{AllZip}
use Rattle.std.proofs.lemmas.Int.{by_lt_z}
use Rattle.std.proofs.lemmas.Bool.{cases_lt}
use Rattle.std.proofs.lemmas.List.{get_or_default, get_or_append_left, get_or-append_right}
use Rattle.std.proofs.lemmas.List.Elements.{All-append, All-filter, filter_passes}
use Rattle.std.proofs.lemmas.List.Kept.{AllPairs-filter}
use Rattle.dpl_cell.specs.declared.rect.Rect.{Rect}
use Rattle.dpl_cell.specs.Tiles.{IsRun}
use Rattle.dpl_tiles.specs.Bands.{HasColumns}
use Rattle.dpl_stacks.specs.Stacks.{IsLeftOf}
use Rattle.dpl_tiles.specs.Stacks.{goes_on, ending}
use Rattle.dpl_tiles.specs.Sweeps.{IsHeld, AreHeld, IsSameStack, IsNew, IsStep}
use Rattle.dpl_tiles.specs.Windows.{IsChange, IsFar, AreNearRuns, IsContinued, IsClosed}
use Rattle.dpl_list.proofs.Integers.{signed}
use Rattle.dpl_list.proofs.Zips.{zip_at, zip_length}
use Rattle.dpl_list.proofs.Lists.{any_left, any_right, all_pairs_append, kept_by, any_split}
use Rattle.dpl_stacks.proofs.OrderLemmas.{all_left, all_right, part_ordered}
use Rattle.dpl_tiles.proofs.StackLemmas.{goes_on_none, none_goes_on, one_place, run_same}
use Rattle.dpl_tiles.proofs.WindowLemmas.{run_up, run_down}

pub itself : (r : Rect) → IsSameStack r r
itself r = record { columns = record { left = refl; right = refl }; bottom = refl }

pub any_here : (P : Rect → Type 0) (xs : List Rect) (k : ℕ) (d : Rect) → k < length xs → P (get_or xs k d) → Any P xs
any_here P xs k d l p = (k, get_or xs k d, l, get_or_default xs k (get_or xs k d) d l, p)

last : (cells : ℤ → ℤ → Bool) (z : ℤ) (r : Rect) → IsHeld cells z r → IsRun cells r.x1 r.x2 (z -ℤ pos 1)
last cells z r h = h.rows (z -ℤ pos 1) (record { from = let s = h.start in omega signed; to = omega signed })

-- the stacks have the columns of the runs of row z, from the left
pub record AreRuns (cells : ℤ → ℤ → Bool) (z : ℤ) (stacks : List Rect) : Type 0 where
  pub each : All (λ r. IsRun cells r.x1 r.x2 z) stacks
  pub all : (x1 x2 : ℤ) → IsRun cells x1 x2 z → Any (HasColumns x1 x2) stacks
  pub ordered : AllPairs IsLeftOf stacks

-- the stacks that reach row z have the runs of a row with the cells of the row below it
pub held_runs : (old cells : ℤ → ℤ → Bool) (z : ℤ) (held : List Rect) → ((x : ℤ) → old x z ≡ cells x (z -ℤ pos 1)) → AreHeld cells z held → AreRuns old z held
held_runs old cells z held same h = record {
  each = λ k d l. run_same cells old (z -ℤ pos 1) z _ _ (λ x. sym (same x)) (last cells z (get_or held k d) (h.each k d l));
  all = λ x1 x2 run. h.all x1 x2 (run_same old cells z (z -ℤ pos 1) x1 x2 same run);
  ordered = h.ordered;
}

-- what the code hands over
pub record IsWindowStep (old cells : ℤ → ℤ → Bool) (z d1 d2 : ℤ) (before near behind runs stacks closed : List Rect) : Type 0 where
  pub change : IsChange old cells z d1 d2
  pub some : d1 ≤ℤ d2
  pub held : AreRuns old z (before ++ (near ++ behind))
  pub left : All (λ r. r.x2 <ℤ d1) before
  pub right : All (λ r. d2 <ℤ r.x1) behind
  pub between : All (λ r. ¬ IsFar d1 d2 r.x1 r.x2) near
  pub runs_are : AreNearRuns cells z d1 d2 runs
  pub continued : AllZip (IsContinued near z) runs stacks
  pub closed_are : AllZip (IsClosed z) (ending runs near) closed

module _ (old cells : ℤ → ℤ → Bool) (z d1 d2 : ℤ) (before near behind runs stacks closed : List Rect)
    (s : IsWindowStep old cells z d1 d2 before near behind runs stacks closed) where
  before_held : All (λ r. IsRun old r.x1 r.x2 z) before
  before_held = all_left (λ r. IsRun old r.x1 r.x2 z) before (near ++ behind) s.held.each

  behind_held : All (λ r. IsRun old r.x1 r.x2 z) behind
  behind_held = all_right (λ r. IsRun old r.x1 r.x2 z) near behind (all_right (λ r. IsRun old r.x1 r.x2 z) before (near ++ behind) s.held.each)

  far_run : (r : Rect) → IsFar d1 d2 r.x1 r.x2 → IsRun old r.x1 r.x2 z → IsRun cells r.x1 r.x2 z
  far_run r far h = run_up old cells z d1 d2 r.x1 r.x2 s.change far h

  zipped : (k : ℕ) (d : Rect) → k < length stacks → IsContinued near z (get_or runs k d) (get_or stacks k d)
  zipped k d l = let n = zip_length (IsContinued near z) runs stacks s.continued in zip_at (IsContinued near z) runs stacks k d d s.continued (omega arith)

  run_of : (k : ℕ) (d : Rect) → k < length stacks → IsRun cells (get_or runs k d).x1 (get_or runs k d).x2 z ×
      (¬ IsFar d1 d2 (get_or runs k d).x1 (get_or runs k d).x2)
  run_of k d l = let n = zip_length (IsContinued near z) runs stacks s.continued in s.runs_are.each k d (omega arith)

  -- ---- the stacks afterwards

  before_kept : All (λ r. IsRun cells r.x1 r.x2 z × (Any (λ o. IsSameStack o r) (before ++ (near ++ behind)) ⊎ IsNew (before ++ (near ++ behind)) z r)) before
  before_kept k d l = (
    far_run (get_or before k d) (inl (s.left k d l)) (before_held k d l),
    inl (any_left _ before (near ++ behind) (any_here (λ o. IsSameStack o (get_or before k d)) before k d l
        (itself _))),
  )

  behind_kept : All (λ r. IsRun cells r.x1 r.x2 z × (Any (λ o. IsSameStack o r) (before ++ (near ++ behind)) ⊎ IsNew (before ++ (near ++ behind)) z r)) behind
  behind_kept k d l = (
    far_run (get_or behind k d) (inr (s.right k d l)) (behind_held k d l),
    inl (any_right _ before (near ++ behind) (any_right _ near behind
        (any_here (λ o. IsSameStack o (get_or behind k d)) behind k d l (itself _)))),
  )

  none_far : (p r : Rect) → ¬ IsFar d1 d2 p.x1 p.x2 → HasColumns p.x1 p.x2 r → ¬ Any (HasColumns p.x1 p.x2) near →
      ¬ Any (HasColumns r.x1 r.x2) (before ++ (near ++ behind))
  none_far p r far c none any = elim (any_split _ before (near ++ behind) any) [
    | inl (k, o, l, e, h) ↦ far (inl (left_of o h (rw e at (s.left k o l))))
    | inr more ↦ elim (any_split _ near behind more) [
      | inl (k, o, l, e, h) ↦ none (k, o, l, e, record { left = h.left ∙ c.left; right = h.right ∙ c.right })
      | inr (k, o, l, e, h) ↦ far (inr (right_of o h (rw e at (s.right k o l))))
    ]
  ] where
    left_of : (o : Rect) → HasColumns r.x1 r.x2 o → o.x2 <ℤ d1 → p.x2 <ℤ d1
    left_of o h g = let e = h.right in let f = c.right in omega signed

    right_of : (o : Rect) → HasColumns r.x1 r.x2 o → d2 <ℤ o.x1 → d2 <ℤ p.x1
    right_of o h g = let e = h.left in let f = c.left in omega signed

  new_one : (p r : Rect) → IsContinued near z p r → IsRun cells p.x1 p.x2 z → ¬ IsFar d1 d2 p.x1 p.x2 →
      IsRun cells r.x1 r.x2 z × (Any (λ o. IsSameStack o r) (before ++ (near ++ behind)) ⊎
      IsNew (before ++ (near ++ behind)) z r)
  new_one p r g run far = (
    rw (g.columns.left, g.columns.right) run,
    elim g.bottom [
      | inl (k, o, l, e, (c, f)) ↦ inl (any_right _ before (near ++ behind)
          (any_left _ near behind (
            k,
            o,
            l,
            e,
            record {
              columns =
                  record { left = g.columns.left ∙ sym c.left; right = g.columns.right ∙ sym c.right };
              bottom = f;
            },
          )))
      | inr (none, f) ↦ inr (record { bottom = f; none = none_far p r far g.columns none })
    ],
  )

  stacks_kept : All (λ r. IsRun cells r.x1 r.x2 z × (Any (λ o. IsSameStack o r) (before ++ (near ++ behind)) ⊎ IsNew (before ++ (near ++ behind)) z r)) stacks
  stacks_kept k d l = let q = run_of k d l in new_one (get_or runs k d) (get_or stacks k d) (zipped k d l) (q.0) (q.1)

  -- ---- all runs have a stack

  near_stack : (x1 x2 : ℤ) → Any (HasColumns x1 x2) runs → Any (HasColumns x1 x2) stacks
  near_stack x1 x2 (k, p, l, e, c) =
      let n = zip_length (IsContinued near z) runs stacks s.continued in
      let l' : k < length stacks = omega arith in
      let g : IsContinued near z p (get_or stacks k p) = rw e at (zipped k p l') in
      any_here (HasColumns x1 x2) stacks k p l' (record { left = g.columns.left ∙ c.left; right = g.columns.right ∙ c.right })

  far_or_not : (x1 x2 : ℤ) → IsFar d1 d2 x1 x2 ⊎ (¬ IsFar d1 d2 x1 x2)
  far_or_not x1 x2 = by_lt_z x2 d1 (λ h. inl (inl h)) (λ h. by_lt_z d2 x1 (λ g. inl (inr g))
      (λ g. inr (λ f. elim f [ inl a ↦ absurd (omega signed) | inr a ↦ absurd (omega signed) ])))

  far_stack : (x1 x2 : ℤ) → x1 <ℤ x2 → IsFar d1 d2 x1 x2 → Any (HasColumns x1 x2) (before ++ (near ++ behind)) →
      Any (HasColumns x1 x2) (before ++ (stacks ++ behind))
  far_stack x1 x2 long far any = elim (any_split _ before (near ++ behind) any) [
    | inl a ↦ any_left _ before (stacks ++ behind) a
    | inr more ↦ elim (any_split _ near behind more) [
      | inl (k, o, l, e, h) ↦ absurd (let n : ¬ IsFar d1 d2 o.x1 o.x2 = rw e at (s.between k o l) in n (rw (h.left, h.right) far))
      | inr a ↦ any_right _ before (stacks ++ behind) (any_right _ stacks behind a)
    ]
  ]

  all_runs : (x1 x2 : ℤ) → IsRun cells x1 x2 z → Any (HasColumns x1 x2) (before ++ (stacks ++ behind))
  all_runs x1 x2 run = elim (far_or_not x1 x2) [
    | inl far ↦ far_stack x1 x2 run.long far (s.held.all x1 x2 (run_down old cells z d1 d2 x1 x2 s.change far run))
    | inr near' ↦ any_right _ before (stacks ++ behind) (any_left _ stacks behind (near_stack x1 x2 (s.runs_are.all x1 x2 run near')))
  ]

  -- ---- their order

  -- a run that ends left of the change and one that is not far have a column between
  gap_left : (a1 a2 b1 b2 : ℤ) → IsRun cells a1 a2 z → IsRun cells b1 b2 z → a2 <ℤ d1 → ¬ IsFar d1 d2 b1 b2 → a2 <ℤ b1
  gap_left a1 a2 b1 b2 one two left far = by_lt_z a2 b1 (λ h. h)
      (λ h. by_lt_z b2 d1 (λ g. absurd (far (inl g))) (λ g. absurd
      (one.right (two.full a2 (record { from = h; to = omega signed })))))

  gap_right : (a1 a2 b1 b2 : ℤ) → IsRun cells a1 a2 z → IsRun cells b1 b2 z → ¬ IsFar d1 d2 a1 a2 → d2 <ℤ b1 → a2 <ℤ b1
  gap_right a1 a2 b1 b2 one two far right = by_lt_z a2 b1 (λ h. h)
      (λ h. by_lt_z d2 a1 (λ g. absurd (far (inr g))) (λ g. absurd
      (two.left (one.full (b1 -ℤ pos 1) (record { from = omega signed; to = omega signed })))))

  stacks_ordered : AllPairs IsLeftOf stacks
  stacks_ordered i j d h l =
      let n = zip_length (IsContinued near z) runs stacks s.continued in
      let f = zipped i d (omega arith) in let g = zipped j d l in
      rw (f.columns.right, g.columns.left) (s.runs_are.ordered i j d h (omega arith))

  before_stack : (i j : ℕ) (d : Rect) → i < length before → j < length stacks → IsLeftOf (get_or before i d) (get_or stacks j d)
  before_stack i j d l m =
      let q = run_of j d m in let g = zipped j d m in
      rw g.columns.left (gap_left _ _ _ _ (far_run (get_or before i d) (inl (s.left i d l)) (before_held i d l)) (q.0) (s.left i d l) (q.1))

  stack_behind : (i j : ℕ) (d : Rect) → i < length stacks → j < length behind → IsLeftOf (get_or stacks i d) (get_or behind j d)
  stack_behind i j d l m =
      let q = run_of i d l in let g = zipped i d l in
      rw g.columns.right (gap_right _ _ _ _ (q.0) (far_run (get_or behind j d) (inr (s.right j d m)) (behind_held j d m)) (q.1) (s.right j d m))

  before_behind : (a b : Rect) → a.x2 <ℤ d1 → d2 <ℤ b.x1 → IsLeftOf a b
  before_behind a b h g = let e = s.some in omega signed

  ordered : AllPairs IsLeftOf (before ++ (stacks ++ behind))
  ordered =
      let p = part_ordered before (near ++ behind) s.held.ordered in
      let q = part_ordered near behind (p.1) in
      all_pairs_append IsLeftOf before (stacks ++ behind) (p.0)
      (all_pairs_append IsLeftOf stacks behind stacks_ordered (q.1) stack_behind)
      (λ i j d l m. elim (cases_lt j (length stacks)) [
        | inl h ↦ rw (get_or_append_left stacks behind d j h) (before_stack i j d l h)
        | inr h ↦ let n = length-append stacks behind in
            rw (get_or-append_right stacks behind (length stacks) j d refl h)
            (before_behind (get_or before i d) (get_or behind (j - length stacks) d) (s.left i d l)
            (s.right (j - length stacks) d (omega arith)))
      ])

  -- ---- the stacks that end

  zipped_end : (k : ℕ) (d : Rect) → k < length closed → IsClosed z (get_or (ending runs near) k d) (get_or closed k d)
  zipped_end k d l = let n = zip_length (IsClosed z) (ending runs near) closed s.closed_are in
      zip_at (IsClosed z) (ending runs near) closed k d d s.closed_are (omega arith)

  ending_near : All (λ o. Any (λ p. IsSameStack p o) near) (ending runs near)
  ending_near = All-filter (λ o. not (goes_on runs o)) (λ o. Any (λ p. IsSameStack p o) near) near
      (λ k d l. any_here (λ p. IsSameStack p (get_or near k d)) near k d l (itself _))

  ending_none : (k : ℕ) (d : Rect) → k < length (ending runs near) → ¬ IsRun cells (get_or (ending runs near) k d).x1 (get_or (ending runs near) k d).x2 z
  ending_none k d l run =
      let t = filter_passes (λ o. not (goes_on runs o)) near k d l in
      let far = All-filter (λ o. not (goes_on runs o)) (λ r. ¬ IsFar d1 d2 r.x1 r.x2) near s.between k d l in
      none_goes_on runs (get_or (ending runs near) k d) t (s.runs_are.all _ _ run far)

  ended_one : (o c : Rect) → IsClosed z o c → ¬ IsRun cells o.x1 o.x2 z → Any (λ p. IsSameStack p o) near →
      (¬ IsRun cells c.x1 c.x2 z) × (c.y2 ≡ z) × Any (λ p. IsSameStack p c) (before ++ (near ++ behind))
  ended_one o c g none (k, p, l, e, h) = (
    (λ run. none (rw (g.columns.left, g.columns.right) at run)),
    g.top,
    any_right _ before (near ++ behind) (any_left _ near behind (
      k,
      p,
      l,
      e,
      record {
        columns = record {
          left = g.columns.left ∙ h.columns.left;
          right = g.columns.right ∙
              h.columns.right;
        };
        bottom = g.bottom ∙ h.bottom;
      },
    )),
  )

  ends : All (λ r. (¬ IsRun cells r.x1 r.x2 z) × (r.y2 ≡ z) × Any (λ o. IsSameStack o r) (before ++ (near ++ behind))) closed
  ends k d l = let n = zip_length (IsClosed z) (ending runs near) closed s.closed_are in
      ended_one (get_or (ending runs near) k d) (get_or closed k d) (zipped_end k d l) (ending_none k d (omega arith))
      (ending_near k d (omega arith))

  rising : AllPairs (λ a b. a.x1 <ℤ b.x1) closed
  rising i j d h l =
      let n = zip_length (IsClosed z) (ending runs near) closed s.closed_are in
      let p = part_ordered before (near ++ behind) s.held.ordered in
      let q = part_ordered near behind (p.1) in
      let up = AllPairs-filter IsLeftOf (λ o. not (goes_on runs o)) near (q.0) i j d h (omega arith) in
      let f = zipped_end i d (omega arith) in let g = zipped_end j d l in
      rw (f.columns.left, g.columns.left) (further (get_or (ending runs near) i d) (get_or (ending runs near) j d) up) where
        further : (a b : Rect) → IsLeftOf a b → a.x1 <ℤ b.x1
        further a b h = let w = a.wide in omega signed

  -- ---- what becomes of each stack

  near_gone : (k : ℕ) (d : Rect) → k < length near → ¬ IsRun cells (get_or near k d).x1 (get_or near k d).x2 z → Any (IsSameStack (get_or near k d)) closed
  near_gone k d l none =
      let o = get_or near k d in
      let t = goes_on_none runs o (λ (m, p, h, e, c). none
      (let r : IsRun cells p.x1 p.x2 z = rw e at ((s.runs_are.each m p h).0) in rw (c.left, c.right) at r)) in
      go o (kept_by (λ o. not (goes_on runs o)) near k o l (get_or_default near k o d l) (rw t refl)) where
        go : (o : Rect) → (m : ℕ) × (m < length (ending runs near)) × (get_or (ending runs near) m o ≡ o) → Any (IsSameStack o) closed
        go o (m, h, e) =
            let n = zip_length (IsClosed z) (ending runs near) closed s.closed_are in
            let g : IsClosed z o (get_or closed m o) = rw e at (zipped_end m o (omega arith)) in
            any_here (IsSameStack o) closed m o (omega arith) (record { columns = g.columns; bottom = g.bottom })

  near_stays : (k : ℕ) (d : Rect) → k < length near → IsRun cells (get_or near k d).x1 (get_or near k d).x2 z → Any (IsSameStack (get_or near k d)) stacks
  near_stays k d l run = go (get_or near k d) (get_or_default near k (get_or near k d) d l) (s.runs_are.all _ _ run (s.between k d l)) where
    go : (o : Rect) → get_or near k o ≡ o → Any (HasColumns o.x1 o.x2) runs → Any (IsSameStack o) stacks
    go o is (m, p, h, e, c) =
        let n = zip_length (IsContinued near z) runs stacks s.continued in
        let h' : m < length stacks = omega arith in
        let g : IsContinued near z p (get_or stacks m p) = rw e at (zipped m p h') in
        let q = part_ordered before (near ++ behind) s.held.ordered in
        let up = (part_ordered near behind (q.1)).0 in
        any_here (IsSameStack o) stacks m p h' (record {
          columns = record { left = g.columns.left ∙ c.left; right = g.columns.right ∙ c.right };
          bottom = elim g.bottom [
            | inl (i, o', j, f, (b, t)) ↦ t ∙ ap (λ (r : Rect). r.y1) (one_place near i k o' o p.x1 up j l f is b.left (sym c.left))
            | inr (none, t) ↦ absurd (none (k, o, l, is, record { left = sym c.left; right = sym c.right }))
          ];
        })

  pub window_step : IsStep cells z (before ++ (near ++ behind)) closed (before ++ (stacks ++ behind))
  window_step = record {
    each = All-append (λ r. IsRun cells r.x1 r.x2 z × (Any (λ o. IsSameStack o r) (before ++ (near ++ behind)) ⊎
        IsNew (before ++ (near ++ behind)) z r)) before (stacks ++ behind) before_kept
        (All-append (λ r. IsRun cells r.x1 r.x2 z × (Any (λ o. IsSameStack o r) (before ++ (near ++ behind)) ⊎
        IsNew (before ++ (near ++ behind)) z r)) stacks behind stacks_kept behind_kept);
    all = all_runs;
    ordered = ordered;
    ends = ends;
    gone = All-append (λ o. (¬ IsRun cells o.x1 o.x2 z) → Any (IsSameStack o) closed) before (near ++ behind)
        (λ k d l none. absurd (none (far_run (get_or before k d) (inl (s.left k d l)) (before_held k d l))))
        (All-append (λ o. (¬ IsRun cells o.x1 o.x2 z) → Any (IsSameStack o) closed) near behind
        (λ k d l none. near_gone k d l none) (λ k d l none. absurd
        (none (far_run (get_or behind k d) (inr (s.right k d l)) (behind_held k d l)))));
    kept = All-append (λ o. IsRun cells o.x1 o.x2 z → Any (IsSameStack o) (before ++ (stacks ++ behind))) before
        (near ++ behind) (λ k d l run. any_left _ before (stacks ++ behind)
        (any_here (IsSameStack (get_or before k d)) before k d l (itself _)))
        (All-append (λ o. IsRun cells o.x1 o.x2 z → Any (IsSameStack o) (before ++ (stacks ++ behind))) near behind
        (λ k d l run. any_right _ before (stacks ++ behind) (any_left _ stacks behind (near_stays k d l run)))
        (λ k d l run. any_right _ before (stacks ++ behind) (any_right _ stacks behind (any_here (IsSameStack (get_or behind k d)) behind k d l (itself _)))));
    rising = rising;
  }
