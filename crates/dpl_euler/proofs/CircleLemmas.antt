-- A walk along a cycle, by the list of what it has passed and the number where it stands.
use Rattle.std.proofs.Common.{arith, ◌≡◌, ◌≢◌, ℕ, zero, suc, ◌+◌, ◌-◌, ◌<◌, ◌≤◌, refl, sym, ap, ◌∙◌, true, inl, inr}
use Rattle.std.proofs.Common.{List, [], ◌∷◌, ◌++◌, length, get_or, length-append, eqb}
use Rattle.std.specs.Prelude.{AllPairs}
use Rattle.std.proofs.lemmas.Bool.Decides.{Decides-eqb}
use Rattle.std.proofs.lemmas.List.Folds.{Any-from_list_any}
use Rattle.std.specs.List.{list_any}
use Rattle.std.proofs.lemmas.Bool.{cases_eq, cases_lt, eqb-true}
use Rattle.std.proofs.lemmas.List.{get_or_append_left, get_or-append-add, get_or_default}
use Rattle.std.proofs.lemmas.List.Quantifiers.{all_pairs_push}
use Rattle.std.proofs.lemmas.Map.Steps.{length-le_from_distinct_below}
use Rattle.std.proofs.lemmas.Map.Made.{IsDistinct-from_AllPairs}
use Rattle.dpl_cycle.specs.Cycles.{Permutes}
use Rattle.dpl_euler.specs.Cycles.{IsCycleFrom}

-- the last number of the trail is where the walk stands
pub record IsTrail (f : ℕ → ℕ) (n start place : ℕ) (trail : List ℕ) : Type 0 where
  pub some : 0 < length trail
  pub here : get_or trail (length trail - 1) 0 ≡ place
  pub below : (i : ℕ) → i < length trail → get_or trail i 0 < n
  pub first : get_or trail 0 0 ≡ start
  pub next : (i : ℕ) → i + 1 < length trail → get_or trail (i + 1) 0 ≡ f (get_or trail i 0)
  pub once : AllPairs (λ c d. c ≢ d) trail

pub trail_begins : (f : ℕ → ℕ) (n start : ℕ) → start < n → IsTrail f n start start ([] ++ start ∷ [])
trail_begins f n start h = record {
  some = omega arith;
  here = refl;
  below = λ i l. elim (cases_eq i 0) [ inl e ↦ rw e h | inr e ↦ absurd (omega (arith, l, e)) ];
  first = refl;
  next = λ i l. absurd (omega (arith, l));
  once = λ i j d l h. absurd (omega (arith, l, h));
}

-- the next number is new, unless it is the first
next_new : (f g : ℕ → ℕ) (n start place : ℕ) (trail : List ℕ) → Permutes n f g → IsTrail f n start place trail
    → f place ≢ start → (k : ℕ) → k < length trail → get_or trail k 0 ≢ f place
next_new f g n start place trail p t ne zero h e = ne (sym e ∙ t.first)
next_new f g n start place trail p t ne (suc k) h e =
    let last = length trail - 1 in
    let there : place < n = omega (arith, t.here, t.below last (omega (arith, t.some))) in
    let low : get_or trail k 0 < n = t.below k (omega (arith, h)) in
    let step : get_or trail (suc k) 0 ≡ f (get_or trail k 0) = ap (λ z. get_or trail z 0) (omega arith) ∙ t.next k (omega (arith, h)) in
    let same : get_or trail k 0 ≡ place = sym (p.back (get_or trail k 0) low) ∙ ap g (sym step ∙ e) ∙ p.back place there in
    t.once k last 0 (omega (arith, h)) (omega (arith, t.some)) (same ∙ sym t.here)

pub trail_goes_on : (f g : ℕ → ℕ) (n start place : ℕ) (trail : List ℕ) → Permutes n f g
    → IsTrail f n start place trail → f place ≢ start → IsTrail f n start (f place) (trail ++ f place ∷ [])
trail_goes_on f g n start place trail p t ne =
    let y = f place in
    let size : length (trail ++ y ∷ []) ≡ length trail + 1 = length-append trail (y ∷ []) in
    let old : (i : ℕ) → i < length trail → get_or (trail ++ y ∷ []) i 0 ≡ get_or trail i 0 = λ i h. get_or_append_left trail (y ∷ []) 0 i h in
    let end : get_or (trail ++ y ∷ []) (length trail) 0 ≡ y = ap (λ z. get_or (trail ++ y ∷ []) z 0) (omega arith) ∙ get_or-append-add trail (y ∷ []) 0 0 in
    let there : place < n = omega (arith, t.here, t.below (length trail - 1) (omega (arith, t.some))) in
    record {
      some = omega (arith, size);
      here = ap (λ z. get_or (trail ++ y ∷ []) z 0) (omega (arith, size)) ∙ end;
      below = λ i h. elim (cases_lt i (length trail)) [
        | inl l ↦ omega (arith, old i l, t.below i l)
        | inr l ↦
            let e : i ≡ length trail = omega (arith, h, l, size) in
            omega (arith, ap (λ z. get_or (trail ++ y ∷ []) z 0) e, end, p.to place there)
      ];
      first = old 0 t.some ∙ t.first;
      next = λ i h. elim (cases_lt (i + 1) (length trail)) [
        | inl l ↦ old (i + 1) l ∙ t.next i l ∙ ap f (sym (old i (omega (arith, l))))
        | inr l ↦
            let e : i + 1 ≡ length trail = omega (arith, h, l, size) in
            let before : get_or (trail ++ y ∷ []) i 0 ≡ place = old i (omega (arith, e)) ∙ ap (λ z. get_or trail z 0) (omega (arith, e)) ∙ t.here in
            ap (λ z. get_or (trail ++ y ∷ []) z 0) e ∙ end ∙ ap f (sym before)
      ];
      once = all_pairs_push (λ c d. c ≢ d) trail y t.once (λ k d h e. next_new f g n start place trail p t ne k h (get_or_default trail k 0 d h ∙ e));
    }

pub trail_closes : (f : ℕ → ℕ) (n start place : ℕ) (trail : List ℕ) → IsTrail f n start place trail → f place ≡ start → IsCycleFrom f start trail
trail_closes f n start place trail t e = record {
  some = t.some;
  first = t.first;
  next = t.next;
  last = ap f t.here ∙ e;
  once = t.once;
}

-- ---- numbers below n, no two of them the same

stands_below : (xs : List ℕ) (n : ℕ) → ((i : ℕ) → i < length xs → get_or xs i 0 < n) → (q : ℕ) → list_any (eqb q) xs ≡ true → q < n
stands_below xs n below q h =
    let at = Any-from_list_any (eqb q) xs h in
    omega (arith, eqb-true q at.1 at.4, get_or_default xs at.0 0 at.1 at.2, at.3, below at.0 at.2)

pub few_distinct : (xs : List ℕ) (n : ℕ) → AllPairs (λ c d. c ≢ d) xs → ((i : ℕ) → i < length xs → get_or xs i 0 < n) → length xs ≤ n
few_distinct xs n once below = length-le_from_distinct_below xs n (IsDistinct-from_AllPairs Decides-eqb xs once) (λ q h. stands_below xs n below q h)

pub trail_short : (f : ℕ → ℕ) (n start place : ℕ) (trail : List ℕ) → IsTrail f n start place trail → length trail ≤ n
trail_short f n start place trail t = few_distinct trail n t.once t.below
