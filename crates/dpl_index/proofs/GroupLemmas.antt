-- Items in order, each with its kind in place of its place on the curve.
use Rattle.std.proofs.Common.{arith, ◌≡◌, ℕ, ◌+◌, ◌<◌, List, length, get_or, ◌∙◌, Contains, refl, ap, subst, inl, inr, ◌∷◌, [], ◌++◌}
use Rattle.std.proofs.lemmas.Bool.{cases_lt}
use Rattle.std.proofs.lemmas.List.{get_or_default, get_or_append_left, get_or_push, length_push}
use Rattle.dpl_index.specs.Stops.{NamesAll}

-- the first n of some items have other keys
pub record Rekeyed (places : List (ℕ × ℕ)) (n : ℕ) (groups : List (ℕ × ℕ)) : Type 0 where
  pub long : length groups ≡ n
  pub number : (k : ℕ) → k < n → (get_or groups k (0, 0)).1 ≡ (get_or places k (0, 0)).1

pub rekeyed_none : (places : List (ℕ × ℕ)) → Rekeyed places 0 []
rekeyed_none places = record { long = refl; number = λ k l. absurd (omega arith) }

pub rekeyed_more : (places : List (ℕ × ℕ)) (n : ℕ) (groups new : List (ℕ × ℕ)) (key number : ℕ)
    → new ≡ groups ++ (key, number) ∷ [] → number ≡ (get_or places n (0, 0)).1 → Rekeyed places n groups
    → Rekeyed places (n + 1) new
rekeyed_more places n groups new key number e is so = rw e (record {
  long = rw length_push (let l = so.long in omega arith);
  number = λ k l. at k l;
}) where
  P : ℕ → ℕ × ℕ → Type 0
  P k q = q.1 ≡ (get_or places k (0, 0)).1

  at : (k : ℕ) → k < n + 1 → (get_or (groups ++ (key, number) ∷ []) k (0, 0)).1 ≡ (get_or places k (0, 0)).1
  at k l = let long = so.long in elim (cases_lt k n) [
    | inl h ↦ ap (λ (q : ℕ × ℕ). q.1) (get_or_append_left groups ((key, number) ∷ []) (0, 0) k (omega arith)) ∙ so.number k h
    | inr h ↦ let f : n ≡ k = omega arith in
        ap (λ (q : ℕ × ℕ). q.1) (get_or_push groups (key, number) (0, 0) k (omega arith)) ∙ is ∙ ap (λ j. (get_or places j (0, 0)).1) f
  ]

pub rekeyed_all : (places : List (ℕ × ℕ)) (n : ℕ) (groups : List (ℕ × ℕ)) → n ≡ length places
    → Rekeyed places n groups → (m : ℕ) → NamesAll m places → NamesAll m groups
rekeyed_all places n groups whole so m names = let long = so.long in let full = names.long in record {
  long = omega arith;
  each = λ k d l. let h : (get_or groups k (0, 0)).1 < m = rw (so.number k (omega arith)) (names.each k (0, 0) (omega arith)) in
      let Q : ℕ × ℕ → Type 0 = λ q. q.1 < m in subst Q (get_or_default groups k (0, 0) d l) h;
  all = λ i l. named i (names.all i l);
} where
  named : (i : ℕ) → (key : ℕ) × Contains places (key, i) → (key : ℕ) × Contains groups (key, i)
  named i (key, (k, h, e)) = let long = so.long in
      let q : ℕ × ℕ = get_or groups k (0, 0) in
      let f : q.1 ≡ i = so.number k (omega arith) ∙ ap (λ (p : ℕ × ℕ). p.1) (get_or_default places k (0, 0) (key, i) h ∙ e) in
      (q.0, (k, omega arith, get_or_default groups k (q.0, i) (0, 0) (omega arith) ∙ pair q i f)) where
        pair : (q : ℕ × ℕ) (i : ℕ) → q.1 ≡ i → q ≡ (q.0, i)
        pair q i f = ap (λ j. (q.0, j)) f
