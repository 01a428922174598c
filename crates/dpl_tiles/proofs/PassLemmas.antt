-- A row that is passed from the left: where it begins, what one more change of columns does to it, and where it ends.
use Rattle.std.proofs.Common.{arith, ◌≡◌, ◌⊎◌, ◌∙◌, ℕ, ◌<◌, ◌≤◌, ◌^◌, ℤ, pos, neg_ℤ, ◌-ℤ◌, ◌<ℤ◌, ◌≤ℤ◌, List, length}
use Rattle.std.proofs.Common.{get_or, All, Any, refl, sym, ap, inl, inr, [], ◌∷◌, ◌++◌, append-nil, Bool, if◌then◌else◌}
use Rattle.std.proofs.lemmas.Int.{by_lt_z}
use Rattle.std.proofs.lemmas.List.Elements.{All-append, All-cons, All-weaker}
use Rattle.dpl_cell.specs.declared.rect.Rect.{Rect}
use Rattle.dpl_cell.specs.Tiles.{IsRun}
use Rattle.dpl_tiles.specs.declared.corners.Corner.{Corner}
use Rattle.dpl_tiles.specs.Bands.{AreAlike, HasColumns}
use Rattle.dpl_tiles.specs.Sweeps.{AreHeld, AreSwept, IsSameStack, IsNew, IsStep}
use Rattle.dpl_tiles.specs.Windows.{IsChange, IsFar}
use Rattle.dpl_tiles.specs.Clusters.{passed, AreChanges, IsStepUpTo, IsPassed}
use Rattle.dpl_list.proofs.Integers.{less_test, no_less_test}
use Rattle.dpl_list.proofs.Lists.{any_left, any_right, all_pairs_append}
use Rattle.dpl_list.proofs.Integers.{signed}
use Rattle.dpl_tiles.proofs.StackLemmas.{run_same}
use Rattle.dpl_tiles.proofs.UnionLemmas.{run_or_not}
use Rattle.dpl_tiles.proofs.WindowLemmas.{run_up, run_down}
use Rattle.dpl_tiles.proofs.SweepLemmas.{swept_more}
use Rattle.dpl_tiles.proofs.StepLemmas.{any_here, held_runs, itself}

pub passed_left : (cells : ℤ → ℤ → Bool) (c x z : ℤ) → x <ℤ c → passed cells c x z ≡ cells x z
passed_left cells c x z h = ap (λ b. cells x (if b then z else z -ℤ pos 1)) (less_test x c h)

pub passed_right : (cells : ℤ → ℤ → Bool) (c x z : ℤ) → c ≤ℤ x → passed cells c x z ≡ cells x (z -ℤ pos 1)
passed_right cells c x z h = ap (λ b. cells x (if b then z else z -ℤ pos 1)) (no_less_test x c h)

-- ---- nothing is passed yet

step_none : (old cells : ℤ → ℤ → Bool) (z : ℤ) (held : List Rect) → ((x : ℤ) → old x z ≡ cells x (z -ℤ pos 1))
    → AreHeld cells z held → IsStep old z held [] held
step_none old cells z held same h = let r = held_runs old cells z held same h in record {
  each = λ k d l. (r.each k d l, inl (any_here (λ o. IsSameStack o (get_or held k d)) held k d l (itself _)));
  all = r.all;
  ordered = r.ordered;
  ends = λ k d l. absurd (omega arith);
  gone = λ k d l none. absurd (none (r.each k d l));
  kept = λ k d l run. any_here (IsSameStack (get_or held k d)) held k d l (itself _);
  rising = λ i j d h l. absurd (omega arith);
}

-- a column left of a bound and of all corners
left_of_all : (low : ℤ) (row : List Corner) → (c : ℤ) × (c <ℤ low) × All (λ k. c <ℤ k.left) row
left_of_all low [] = (low -ℤ pos 1, omega signed, λ k d l. absurd (omega arith))
left_of_all low (k ∷ ks) = go (left_of_all low ks) where
  go : (c : ℤ) × (c <ℤ low) × All (λ k. c <ℤ k.left) ks → (c : ℤ) × (c <ℤ low) × All (λ k. c <ℤ k.left) (k ∷ ks)
  go (c, h, a) = by_lt_z c k.left
      (λ g. (c, h, All-cons (λ k. c <ℤ k.left) k ks g a))
      (λ g. (
        k.left -ℤ pos 1,
        omega signed,
        All-cons (λ j. (k.left -ℤ pos 1) <ℤ j.left) k ks (omega signed)
            (All-weaker (λ j. c <ℤ j.left) (λ j. (k.left -ℤ pos 1) <ℤ j.left) (λ j i. omega signed) ks a),
      ))

pub none_passed : (cells : ℤ → ℤ → Bool) (z : ℤ) (row : List Corner) (ended held : List Rect)
    → AreChanges cells z row → AreSwept cells z ended held → IsPassed cells z row 0 ended held
none_passed cells z row ended held changes s = go (left_of_all (neg_ℤ (pos (2 ^ 30))) row) where
  left_of : (c low : ℤ) (r : Rect) → c <ℤ low → low ≤ℤ r.x1 → c <ℤ r.x1
  left_of c low r h g = omega signed

  before : (c x l : ℤ) → x <ℤ c → c <ℤ l → x <ℤ l
  before c x l h g = omega signed

  go : (c : ℤ) × (c <ℤ neg_ℤ (pos (2 ^ 30))) × All (λ k. c <ℤ k.left) row → IsPassed cells z row 0 ended held
  go (c, low, ahead) = record {
    before = ended;
    held = held;
    closed = [];
    column = c;
    swept = s;
    added = rw append-nil refl;
    behind = λ k d h l. absurd (omega arith);
    ahead = λ k d h l. ahead k d l;
    step = record {
      step = step_none (passed cells c) cells z held (λ x. by_lt_z x c
          (λ h. passed_left cells c x z h ∙ sym (changes.same x (λ k d l. inl (before c x _ h (ahead k d l)))))
          (λ h. passed_right cells c x z h)) s.going;
      left = λ k d l. absurd (omega arith);
      apart = λ k d l. inr (left_of c _ (get_or held k d) low (get_or held k d).left, any_here (λ o. IsSameStack o (get_or held k d)) held k d l (itself _));
    };
  }

-- ---- all is passed

step_same : (old new : ℤ → ℤ → Bool) (z : ℤ) (held closed next : List Rect) → ((x : ℤ) → old x z ≡ new x z)
    → IsStep old z held closed next → IsStep new z held closed next
step_same old new z held closed next same s = record {
  each = λ k d l. let e = s.each k d l in (on _ _ (e.0), e.1);
  all = λ x1 x2 run. s.all x1 x2 (back x1 x2 run);
  ordered = s.ordered;
  ends = λ k d l. let e = s.ends k d l in ((λ run. e.0 (back _ _ run)), e.1, e.2);
  gone = λ k d l none. s.gone k d l (λ run. none (on _ _ run));
  kept = λ k d l run. s.kept k d l (back _ _ run);
  rising = s.rising;
} where
  on : (x1 x2 : ℤ) → IsRun old x1 x2 z → IsRun new x1 x2 z
  on x1 x2 run = run_same old new z z x1 x2 same run

  back : (x1 x2 : ℤ) → IsRun new x1 x2 z → IsRun old x1 x2 z
  back x1 x2 run = run_same new old z z x1 x2 (λ x. sym (same x)) run

pub all_passed : (cells : ℤ → ℤ → Bool) (z high : ℤ) (row : List Corner) (at : ℕ) (ended now : List Rect)
    → AreAlike cells z high → AreChanges cells z row → length row ≤ at → IsPassed cells z row at ended now
    → AreSwept cells high ended now
all_passed cells z high row at ended now alike changes whole p =
    rw p.added (swept_more cells z high p.before p.held p.closed now alike p.swept
    (step_same (passed cells p.column) cells z p.held p.closed now same p.step.step)) where
      behind : (r c x : ℤ) → r ≤ℤ c → c ≤ℤ x → r ≤ℤ x
      behind r c x h g = omega signed

      same : (x : ℤ) → passed cells p.column x z ≡ cells x z
      same x = by_lt_z x p.column
          (λ h. passed_left cells p.column x z h)
          (λ h. passed_right cells p.column x z h ∙ changes.same x (λ k d l. inr (behind _ p.column x (p.behind k d (omega arith) l) h)))

-- ---- one more change

same_on : (p o r : Rect) → IsSameStack p o → IsSameStack o r → IsSameStack p r
same_on p o r q t = record {
  columns = record {
    left = t.columns.left ∙ q.columns.left;
    right = t.columns.right ∙
        q.columns.right;
  };
  bottom = t.bottom ∙ q.bottom;
}

some_on : (r : Rect) (o : Rect) (stacks : List Rect) → Any (λ p. IsSameStack p o) stacks → IsSameStack o r → Any (λ p. IsSameStack p r) stacks
some_on r o stacks (m, p, n, f, q) t = (m, p, n, f, same_on p o r q t)

-- columns d1 to d2 change, right of column c; column w lies behind them, and no stack stands across it
pub record IsPassing (cells : ℤ → ℤ → Bool) (z c d1 d2 w : ℤ) (held closed now new next : List Rect) : Type 0 where
  pub left : c <ℤ d1
  pub some : d1 ≤ℤ d2
  pub right : d2 ≤ℤ w
  pub change : IsChange (passed cells c) (passed cells w) z d1 d2
  pub before : IsStepUpTo cells z c held closed now
  pub step : IsStep (passed cells w) z now new next
  pub sides : All (λ r. (r.x2 ≤ℤ w) ⊎ (w <ℤ r.x1)) now
  pub ends : (x1 x2 : ℤ) → IsRun (passed cells w) x1 x2 z → x1 ≤ℤ d2 → x2 ≤ℤ w

module _ (cells : ℤ → ℤ → Bool) (z c d1 d2 w : ℤ) (held closed now new next : List Rect) (p : IsPassing cells z c d1 d2 w held closed now new next) where
  up : (x1 x2 : ℤ) → IsFar d1 d2 x1 x2 → IsRun (passed cells c) x1 x2 z → IsRun (passed cells w) x1 x2 z
  up x1 x2 far run = run_up (passed cells c) (passed cells w) z d1 d2 x1 x2 p.change far run

  down : (x1 x2 : ℤ) → IsFar d1 d2 x1 x2 → IsRun (passed cells w) x1 x2 z → IsRun (passed cells c) x1 x2 z
  down x1 x2 far run = run_down (passed cells c) (passed cells w) z d1 d2 x1 x2 p.change far run

  behind : (x1 x2 : ℤ) → x2 ≤ℤ c → IsFar d1 d2 x1 x2
  behind x1 x2 h = inl (let l = p.left in omega signed)

  ahead : (x1 x2 : ℤ) → w <ℤ x1 → IsFar d1 d2 x1 x2
  ahead x1 x2 h = inr (let r = p.right in omega signed)

  -- a stack that was closed before has no run now
  none_again : (o r : Rect) → IsSameStack o r → r.x2 ≤ℤ c → ¬ IsRun (passed cells c) o.x1 o.x2 z → ¬ IsRun (passed cells w) o.x1 o.x2 z
  none_again o r t h none run = none (down o.x1 o.x2 (behind o.x1 o.x2 (let e = t.columns.right in omega signed)) run)

  closed_before : (k : ℕ) (d : Rect) → k < length held →
      ¬ IsRun (passed cells c) (get_or held k d).x1 (get_or held k d).x2 z →
      ¬ IsRun (passed cells w) (get_or held k d).x1 (get_or held k d).x2 z
  closed_before k d l none = go (p.before.step.gone k d l none) where
    go : Any (IsSameStack (get_or held k d)) closed → ¬ IsRun (passed cells w) (get_or held k d).x1 (get_or held k d).x2 z
    go (m, r, n, f, t) = none_again (get_or held k d) r t (rw f at (p.before.left m r n)) none

  -- ---- the stacks afterwards

  new_run : (r : Rect) → IsRun (passed cells w) r.x1 r.x2 z → IsNew now z r → ¬ Any (HasColumns r.x1 r.x2) held
  new_run r run new' (k, o, l, e, t) = go (run_or_not (passed cells c) o.x1 o.x2 z o.wide) where
    go : IsRun (passed cells c) o.x1 o.x2 z ⊎ ¬ IsRun (passed cells c) o.x1 o.x2 z → ⊥
    go (inl was) = on (rw e at (p.before.step.kept k o l) was) where
      on : Any (IsSameStack o) now → ⊥
      on (m, q, n, f, s) = new'.none (m, q, n, f, record { left = s.columns.left ∙ t.left; right = s.columns.right ∙ t.right })
    go (inr none) = off (rw e at (closed_before k o l)) where
      off : (¬ IsRun (passed cells c) o.x1 o.x2 z → ¬ IsRun (passed cells w) o.x1 o.x2 z) → ⊥
      off f = f none (rw (t.left, t.right) run)

  stack_of : (r : Rect) → IsRun (passed cells w) r.x1 r.x2 z → Any (λ o. IsSameStack o r) now ⊎ IsNew now z r → Any (λ o. IsSameStack o r) held ⊎ IsNew held z r
  stack_of r run (inl (k, o, l, e, t)) = go (rw e at (p.before.step.each k o l)) where
    go : IsRun (passed cells c) o.x1 o.x2 z × (Any (λ q. IsSameStack q o) held ⊎ IsNew held z o) → Any (λ o. IsSameStack o r) held ⊎ IsNew held z r
    go (was, inl any) = inl (some_on r o held any t)
    go (was, inr q) = inr (record { bottom = t.bottom ∙ q.bottom; none = λ any. q.none (of_old any) }) where
      of_old : Any (HasColumns r.x1 r.x2) held → Any (HasColumns o.x1 o.x2) held
      of_old (m, s, n, f, h) = (m, s, n, f, record { left = h.left ∙ t.columns.left; right = h.right ∙ t.columns.right })
  stack_of r run (inr q) = inr (record { bottom = q.bottom; none = new_run r run q })

  -- ---- the stacks that end

  ended_one : (r : Rect) → ¬ IsRun (passed cells w) r.x1 r.x2 z → Any (λ o. IsSameStack o r) now → (c <ℤ r.x1) × (r.x2 ≤ℤ w) × Any (λ o. IsSameStack o r) held
  ended_one r none (k, o, l, e, t) = go (let q : IsRun (passed cells c) o.x1 o.x2 z =
      rw e at ((p.before.step.each k o l).0) in q) (rw e at (p.before.apart k o l)) (rw e at (p.sides k o l)) where
        still : IsRun (passed cells w) o.x1 o.x2 z → IsRun (passed cells w) r.x1 r.x2 z
        still run = rw (t.columns.left, t.columns.right) run

        go : IsRun (passed cells c) o.x1 o.x2 z → (o.x2 ≤ℤ c) ⊎ ((c <ℤ o.x1) × Any (λ q. IsSameStack q o) held) →
            (o.x2 ≤ℤ w) ⊎ (w <ℤ o.x1) → (c <ℤ r.x1) × (r.x2 ≤ℤ w) × Any (λ o. IsSameStack o r) held
        go was (inl h) side = absurd (none (still (up o.x1 o.x2 (behind o.x1 o.x2 h) was)))
        go was apart (inr h) = absurd (none (still (up o.x1 o.x2 (ahead o.x1 o.x2 h) was)))
        go was (inr (g, any)) (inl h) = (let f = t.columns.left in omega signed, let f = t.columns.right in omega signed, some_on r o held any t)

  new_ended : (k : ℕ) (d : Rect) → k < length new → (c <ℤ (get_or new k d).x1) × ((get_or new k d).x2 ≤ℤ w) × Any (λ o. IsSameStack o (get_or new k d)) held
  new_ended k d l = let e = p.step.ends k d l in ended_one (get_or new k d) (e.0) (e.2)

  old_ends : All (λ r. (¬ IsRun (passed cells w) r.x1 r.x2 z) × (r.y2 ≡ z) × Any (λ o. IsSameStack o r) held) closed
  old_ends k d l = let e = p.before.step.ends k d l in (none_again (get_or closed k d) (get_or closed k d) (itself _) (p.before.left k d l) (e.0), e.1, e.2)

  new_ends : All (λ r. (¬ IsRun (passed cells w) r.x1 r.x2 z) × (r.y2 ≡ z) × Any (λ o. IsSameStack o r) held) new
  new_ends k d l = let e = p.step.ends k d l in (e.0, e.1, (new_ended k d l).2)

  -- ---- what becomes of each stack

  gone : (k : ℕ) (d : Rect) → k < length held → ¬ IsRun (passed cells w) (get_or held k d).x1 (get_or held k d).x2 z →
      Any (IsSameStack (get_or held k d)) (closed ++ new)
  gone k d l none = go (run_or_not (passed cells c) (get_or held k d).x1 (get_or held k d).x2 z (get_or held k d).wide) where
    go : IsRun (passed cells c) (get_or held k d).x1 (get_or held k d).x2 z ⊎
        ¬ IsRun (passed cells c) (get_or held k d).x1 (get_or held k d).x2 z →
        Any (IsSameStack (get_or held k d)) (closed ++ new)
    go (inr not) = any_left _ closed new (p.before.step.gone k d l not)
    go (inl was) = on (p.before.step.kept k d l was) where
      on : Any (IsSameStack (get_or held k d)) now → Any (IsSameStack (get_or held k d)) (closed ++ new)
      on (m, q, n, f, t) = off (rw f at (p.step.gone m q n) (λ run. none (rw (t.columns.left, t.columns.right) at run))) where
        off : Any (IsSameStack q) new → Any (IsSameStack (get_or held k d)) (closed ++ new)
        off (i, r, j, g, s) = any_right _ closed new (i, r, j, g, same_on (get_or held k d) q r t s)

  kept : (k : ℕ) (d : Rect) → k < length held → IsRun (passed cells w) (get_or held k d).x1 (get_or held k d).x2 z → Any (IsSameStack (get_or held k d)) next
  kept k d l run = go (run_or_not (passed cells c) (get_or held k d).x1 (get_or held k d).x2 z (get_or held k d).wide) where
    go : IsRun (passed cells c) (get_or held k d).x1 (get_or held k d).x2 z ⊎
        ¬ IsRun (passed cells c) (get_or held k d).x1 (get_or held k d).x2 z → Any (IsSameStack (get_or held k d)) next
    go (inr not) = absurd (closed_before k d l not run)
    go (inl was) = on (p.before.step.kept k d l was) where
      on : Any (IsSameStack (get_or held k d)) now → Any (IsSameStack (get_or held k d)) next
      on (m, q, n, f, t) = off (rw f at (p.step.kept m q n) (rw (t.columns.left, t.columns.right) run)) where
        off : Any (IsSameStack q) next → Any (IsSameStack (get_or held k d)) next
        off (i, r, j, g, s) = (i, r, j, g, same_on (get_or held k d) q r t s)

  -- ---- no stack stands across the next column

  apart : (r : Rect) → IsRun (passed cells w) r.x1 r.x2 z → Any (λ o. IsSameStack o r) now ⊎ IsNew now z r →
      (r.x2 ≤ℤ w) ⊎ ((w <ℤ r.x1) × Any (λ o. IsSameStack o r) held)
  apart r run (inl (k, o, l, e, t)) = go (rw e at (p.before.apart k o l)) (rw e at (p.sides k o l)) where
    go : (o.x2 ≤ℤ c) ⊎ ((c <ℤ o.x1) × Any (λ q. IsSameStack q o) held) → (o.x2 ≤ℤ w) ⊎ (w <ℤ o.x1) → (r.x2 ≤ℤ w) ⊎
        ((w <ℤ r.x1) × Any (λ o. IsSameStack o r) held)
    go was (inl h) = inl (let f = t.columns.right in omega signed)
    go (inr (g, any)) (inr h) = inr (let f = t.columns.left in omega signed, some_on r o held any t)
    go (inl g) (inr h) = absurd (let i = o.wide in let j = p.left in let m = p.some in let n = p.right in omega signed)
  apart r run (inr q) = by_lt_z d2 r.x1
      (λ h. absurd (q.none (p.before.step.all r.x1 r.x2 (down r.x1 r.x2 (inr h) run))))
      (λ h. inl (p.ends r.x1 r.x2 run h))

  pub passed_on : IsStepUpTo cells z w held (closed ++ new) next
  passed_on = record {
    step = record {
      each = λ k d l. let e = p.step.each k d l in (e.0, stack_of (get_or next k d) (e.0) (e.1));
      all = p.step.all;
      ordered = p.step.ordered;
      ends = All-append (λ r. (¬ IsRun (passed cells w) r.x1 r.x2 z) × (r.y2 ≡ z) × Any (λ o. IsSameStack o r) held) closed new old_ends new_ends;
      gone = gone;
      kept = kept;
      rising = all_pairs_append (λ a b. a.x1 <ℤ b.x1) closed new p.before.step.rising p.step.rising
          (λ i j d f l. further (get_or closed i d) (get_or new j d) (p.before.left i d f) ((new_ended j d l).0));
    };
    left = All-append (λ r. r.x2 ≤ℤ w) closed new (λ k d l. wider (get_or closed k d).x2 (p.before.left k d l)) (λ k d l. (new_ended k d l).1);
    apart = λ k d l. let e = p.step.each k d l in apart (get_or next k d) (e.0) (e.1);
  } where
    further : (a b : Rect) → a.x2 ≤ℤ c → c <ℤ b.x1 → a.x1 <ℤ b.x1
    further a b h g = let i = a.wide in omega signed

    wider : (x : ℤ) → x ≤ℤ c → x ≤ℤ w
    wider x h = let j = p.left in let m = p.some in let n = p.right in omega signed
