-- A text has at most one first line that cannot stand.
use Rattle.std.proofs.Common.{arith, ◌≡◌, ◌∙◌, ◌⊎◌, ◌<◌, ℕ, suc, List, [], ◌∷◌, ◌++◌, length, refl, sym, ap, inl, inr}
use Rattle.std.proofs.lemmas.Bool.{cases_order}
use Rattle.std.proofs.lemmas.List.{append_assoc}
use Rattle.dpl_form.specs.Readers.{IsFirstWrong}

-- the first item behind a, which stands in c
record Continues {A : Type 0} (a b c : List A) : Type 0 where
  next : A
  rest : List A
  more : List A
  behind : b ≡ next ∷ rest
  front : c ≡ (a ++ next ∷ []) ++ more

continues : {A : Type 0} (a b c d : List A) → a ++ b ≡ c ++ d → length a < length c → Continues a b c
continues [] b [] d e l = absurd (omega (arith, l))
continues [] b (x ∷ c) d e l = record { next = x; rest = c ++ d; more = c; behind = e; front = refl }
continues (y ∷ a) b [] d e l = absurd (omega (arith, l))
continues (y ∷ a) b (x ∷ c) d e l =
    let same : a ++ b ≡ c ++ d = cc in
    let first : x ≡ y = cc in
    let k = continues a b c d same (omega (arith, l)) in
    record {
      next = k.next;
      rest = k.rest;
      more = k.more;
      behind = k.behind;
      front = ap (λ z. z ∷ c) first ∙ ap (λ z. y ∷ z) k.front;
    }

no_longer : {X : Type 0} (lines : X → List (List ℕ)) (Fits : X → Type 0) (ls : List (List ℕ))
    → (m n : ℕ) (p : IsFirstWrong lines Fits ls m) (q : IsFirstWrong lines Fits ls n)
    → length p.front < length q.front → ⊥
no_longer lines Fits ls m n p q l =
    let k = continues p.front p.behind q.front q.behind (sym p.split ∙ q.split) l in
    p.here k.next k.rest k.behind (record {
      whole = q.before.whole;
      fits = q.before.fits;
      more = k.more ++ q.before.more;
      begins = q.before.begins ∙ ap (λ z. z ++ q.before.more) k.front ∙
          append_assoc (p.front ++ k.next ∷ []) k.more q.before.more;
    })

-- a text has at most one first line that cannot stand
pub one_first_wrong : {X : Type 0} (lines : X → List (List ℕ)) (Fits : X → Type 0) (ls : List (List ℕ)) (m n : ℕ)
    → IsFirstWrong lines Fits ls m → IsFirstWrong lines Fits ls n → m ≡ n
one_first_wrong lines Fits ls m n p q = by (cases_order (length p.front) (length q.front)) where
  by : (length p.front ≡ length q.front) ⊎ ((length p.front < length q.front) ⊎ (length q.front < length p.front)) →
      m ≡ n
  by (inl e) = p.count ∙ ap suc e ∙ sym q.count
  by (inr (inl l)) = absurd (no_longer lines Fits ls m n p q l)
  by (inr (inr l)) = absurd (no_longer lines Fits ls n m q p l)
