-- The stacks that end at a row, closed one after the other, and all of them at the top.
use Rattle.std.proofs.Common.{Option, Some, None, MatchOption, arith, rules, ◌≡◌, ◌∙◌, ℕ, ◌+◌, ◌<◌, ◌≤◌, ◌^◌, ℤ, pos}
use Rattle.std.proofs.Common.{neg_ℤ, ◌+ℤ◌, ◌-ℤ◌, ◌<ℤ◌, ◌≤ℤ◌, List, length, get_or, take, Any, refl, sym, inl, inr, []}
use Rattle.std.proofs.Common.{◌∷◌, ◌++◌, Bool, true, false, not, append_assoc, append-nil, IsTrue}
use Rattle.std.specs.Option.{is_some}
use Rattle.std.proofs.lemmas.List.{get_or_default}
use Rattle.std.specs.List.{AllZip}
use Rattle.std.proofs.lemmas.Int.{by_lt_z}
use Rattle.dpl_cell.specs.declared.rect.Rect.{Rect}
use Rattle.dpl_cell.specs.Tiles.{IsRun}
use Rattle.dpl_tiles.specs.Bands.{HasColumns}
use Rattle.dpl_tiles.specs.Stacks.{goes_on, ending, AreAllTiles, IsPlaceOf}
use Rattle.dpl_tiles.specs.Sweeps.{AreSwept, IsStep}
use Rattle.dpl_tiles.specs.Windows.{AddsClosed, IsClosed, IsFar}
use Rattle.dpl_list.proofs.Integers.{signed}
use Rattle.dpl_list.proofs.Zips.{zip_kept, zip_left_out, zip_all_kept}
use Rattle.dpl_tiles.proofs.StackLemmas.{goes_on_none, goes_on_some}
use Rattle.dpl_tiles.proofs.BoundLemmas.{IsBounded}
use Rattle.dpl_tiles.proofs.SweepLemmas.{swept_more}
use Rattle.dpl_tiles.proofs.StepLemmas.{IsWindowStep, held_runs, window_step}

pub closed_next : (z : ℤ) (runs near : List Rect) (i : ℕ) (o r : Rect) (old now new : List Rect)
    → i < length near → o ≡ get_or near i o → AddsClosed z (ending runs (take i near)) old now
    → ¬ Any (HasColumns o.x1 o.x2) runs → new ≡ now ++ r ∷ [] → IsClosed z o r
    → AddsClosed z (ending runs (take (i + 1) near)) old new
closed_next z runs near i o r old now new within is a none e c = record {
  closed = a.closed ++ r ∷ [];
  each = zip_kept (IsClosed z) (λ p. not (goes_on runs p)) near i a.closed (a.closed ++ r ∷ []) o r within is a.each
      (let t = goes_on_none runs o none in rw t refl) refl c;
  added = rw a.added at e ∙ append_assoc old a.closed (r ∷ []);
}

pub closed_same : (z : ℤ) (runs near : List Rect) (i : ℕ) (o : Rect) (old now : List Rect) → i < length near
    → o ≡ get_or near i o → AddsClosed z (ending runs (take i near)) old now → Any (HasColumns o.x1 o.x2) runs
    → AddsClosed z (ending runs (take (i + 1) near)) old now
closed_same z runs near i o old now within is a some = record {
  closed = a.closed;
  each = zip_left_out (IsClosed z) (λ p. not (goes_on runs p)) near i a.closed o within is a.each (let t = goes_on_some runs o some in rw t refl);
  added = a.added;
}

pub closed_none : (z : ℤ) (runs near old : List Rect) → AddsClosed z (ending runs (take 0 near)) old old
closed_none z runs near old = record { closed = []; each = tt; added = rw append-nil refl }

pub closed_whole : (z : ℤ) (runs near : List Rect) (i : ℕ) (old now : List Rect) → length near ≤ i
    → AddsClosed z (ending runs (take i near)) old now → AddsClosed z (ending runs near) old now
closed_whole z runs near i old now whole a = record {
  closed = a.closed;
  each =
      zip_all_kept (IsClosed z) (λ p. not (goes_on runs p)) near i a.closed whole a.each;
  added = a.added;
}

pub nothing_found : (pieces : List Rect) (r : Rect) (found : Option ℕ) (b : Bool)
    → MatchOption found (¬ Any (HasColumns r.x1 r.x2) pieces) (IsPlaceOf pieces r) → is_some found ≡ not b
    → b ≡ true → ¬ Any (HasColumns r.x1 r.x2) pieces
nothing_found pieces r None b m e t = m
nothing_found pieces r (Some k) b m e t = let h : true ≡ not true = rw t at e in absurd (cc)

pub one_found : (pieces : List Rect) (r : Rect) (found : Option ℕ) (b : Bool)
    → MatchOption found (¬ Any (HasColumns r.x1 r.x2) pieces) (IsPlaceOf pieces r) → is_some found ≡ not b
    → b ≡ false → Any (HasColumns r.x1 r.x2) pieces
one_found pieces r None b m e t = let h : false ≡ not false = rw t at e in absurd (cc)
one_found pieces r (Some k) b (l, c) e t = (k, get_or pieces k r, l, get_or_default pieces k (get_or pieces k r) r l, c)

-- ---- the top

-- from the top on there are no cells
pub record IsTop (cells : ℤ → ℤ → Bool) (z : ℤ) : Type 0 where
  pub bound : IsBounded cells
  pub none : (x y : ℤ) → z ≤ℤ y → cells x y ≡ false

-- a row without cells has no run
pub no_run : (cells : ℤ → ℤ → Bool) (x1 x2 y : ℤ) → ((x : ℤ) → cells x y ≡ false) → ¬ IsRun cells x1 x2 y
no_run cells x1 x2 y none run =
    let t : IsTrue (cells x1 y) = run.full x1 (record { from = let l = run.long in omega signed; to = run.long }) in
    let f : IsTrue false = rw (none x1) at t in search (rules, f)

-- all stacks are near, and none goes on
top_step : (cells : ℤ → ℤ → Bool) (z : ℤ) (ended held closed : List Rect) → IsTop cells z
    → AreSwept cells z ended held → AllZip (IsClosed z) (ending [] held) closed
    → IsWindowStep (λ x y. cells x (y -ℤ pos 1)) cells z (neg_ℤ (pos (2 ^ 30))) (pos (2 ^ 30)) [] held [] [] [] closed
top_step cells z ended held closed top s zip = record {
  change = λ x out. elim out [
    | inl h ↦ top.bound.left x (z -ℤ pos 1) h ∙ sym (top.bound.left x z h)
    | inr h ↦ top.bound.right x (z -ℤ pos 1) h ∙ sym (top.bound.right x z h)
  ];
  some = omega signed;
  held = rw append-nil (held_runs (λ x y. cells x (y -ℤ pos 1)) cells z held (λ x. refl) s.going);
  left = λ k d l. absurd (omega arith);
  right = λ k d l. absurd (omega arith);
  between = λ k d l. in_range (get_or held k d);
  runs_are = record {
    each = λ k d l. absurd (omega arith);
    all = λ x1 x2 run near. absurd (no_run cells x1 x2 z (λ x. top.none x z (itself z)) run);
    ordered = λ i j d h l. absurd (omega arith);
  };
  continued = tt;
  closed_are = zip;
} where
  itself : (z : ℤ) → z ≤ℤ z
  itself z = omega signed

  in_range : (r : Rect) → ¬ IsFar (neg_ℤ (pos (2 ^ 30))) (pos (2 ^ 30)) r.x1 r.x2
  in_range r f = elim f [
    | inl h ↦ absurd (let w = r.wide in let l = r.left in omega signed)
    | inr h ↦ absurd (let w = r.wide in let l = r.right in omega signed)
  ]

pub swept_last : (cells : ℤ → ℤ → Bool) (z : ℤ) (ended held new : List Rect) → IsTop cells z
    → AreSwept cells z ended held → AddsClosed z (ending [] held) ended new
    → AreSwept cells (z +ℤ pos 1) new []
swept_last cells z ended held new top s a =
    let step : IsStep cells z ([] ++ (held ++ [])) a.closed ([] ++ ([] ++ [])) =
    window_step (λ x y. cells x (y -ℤ pos 1)) cells z (neg_ℤ (pos (2 ^ 30))) (pos (2 ^ 30)) [] held [] [] []
    a.closed (top_step cells z ended held a.closed top s a.each) in
    let step' : IsStep cells z held a.closed [] = rw append-nil at step in
    rw a.added (swept_more cells z (z +ℤ pos 1) ended held a.closed []
    (record { some = next z; same = λ x y w. top.none x z (itself z) ∙ sym (top.none x y w.from) }) s step') where
      next : (z : ℤ) → z <ℤ (z +ℤ pos 1)
      next z = omega signed

      itself : (z : ℤ) → z ≤ℤ z
      itself z = omega signed

pub all_swept : (cells : ℤ → ℤ → Bool) (z : ℤ) (ended held new : List Rect) → IsTop cells z
    → AreSwept cells z ended held → AddsClosed z (ending [] held) ended new → AreAllTiles cells new
all_swept cells z ended held new top s a =
    let t = swept_last cells z ended held new top s a in
    record {
      each = t.done.each;
      whole = λ x1 x2 y run. by_lt_z y (z +ℤ pos 1)
          (λ h. elim (t.whole x1 x2 y h run) [
            | inl e ↦ e
            | inr (k, o, l, e, at) ↦ absurd (omega arith)
          ])
          (λ h. absurd (no_run cells x1 x2 y (λ x. top.none x y (above y h)) run));
      ordered = t.done.ordered;
    } where
      above : (y : ℤ) → (z +ℤ pos 1) ≤ℤ y → z ≤ℤ y
      above y h = omega signed
