-- The places of numbers that a test puts in a strict order.
use Rattle.std.proofs.Common.{arith, ◌≡◌, ◌≢◌, ℕ, ◌+◌, ◌<◌, ◌≤◌, refl, sym, ap, ◌∙◌, Bool, true, false, cond, inl, inr, List, [], ◌∷◌, nat_lt, length}
use Rattle.std.proofs.lemmas.Bool.{cases_Bool, cases_eq, cond-true, cond-false, lt-ltb, le-ltb}
use Rattle.dpl_cycle.proofs.Turns.{Mem}

-- a strict order of the members of a list, as a test
pub record IsStrict (R : ℕ → ℕ → Bool) (ds : List ℕ) : Type 0 where
  pub irrefl : (d : ℕ) → Mem d ds → R d d ≡ false
  pub trans : (a b c : ℕ) → Mem a ds → Mem b ds → Mem c ds → R a b ≡ true → R b c ≡ true → R a c ≡ true
  pub total : (a b : ℕ) → Mem a ds → Mem b ds → a ≢ b → R a b ≡ false → R b a ≡ true

-- how many are before d
pub rank : (ℕ → ℕ → Bool) → List ℕ → ℕ → ℕ
rank R [] d = 0
rank R (c ∷ cs) d = cond (R c d) 1 0 + rank R cs d

rank_le : (R : ℕ → ℕ → Bool) (d e : ℕ) (cs : List ℕ) → ((c : ℕ) → Mem c cs → R c d ≡ true → R c e ≡ true) → rank R cs d ≤ rank R cs e
unfolding rank
rank_le R d e [] h = omega arith
rank_le R d e (c ∷ cs) h = elim (cases_Bool (R c d)) [
  | inl q ↦ omega (arith, cond-true {A = ℕ} (R c d) 1 0 q, cond-true {A = ℕ} (R c e) 1 0 (h c (inl refl) q), rank_le R d e cs (λ x m. h x (inr m)))
  | inr q ↦ omega (arith, cond-false {A = ℕ} (R c d) 1 0 q, rank_le R d e cs (λ x m. h x (inr m)))
]

rank_lt : (R : ℕ → ℕ → Bool) (d e : ℕ) (cs : List ℕ) → ((c : ℕ) → Mem c cs → R c d ≡ true → R c e ≡ true)
    → Mem d cs → R d d ≡ false → R d e ≡ true → rank R cs d < rank R cs e
unfolding rank
rank_lt R d e [] h m i t = absurd m
rank_lt R d e (c ∷ cs) h m i t = elim m [
  | inl q ↦
      let no : R c d ≡ false = ap (λ x. R x d) (sym q) ∙ i in
      let yes : R c e ≡ true = ap (λ x. R x e) (sym q) ∙ t in
      omega (arith, cond-false {A = ℕ} (R c d) 1 0 no, cond-true {A = ℕ} (R c e) 1 0 yes, rank_le R d e cs (λ x k. h x (inr k)))
  | inr k ↦
      let rest : rank R cs d < rank R cs e = rank_lt R d e cs (λ x q. h x (inr q)) k i t in
      elim (cases_Bool (R c d)) [
        | inl q ↦ omega (arith, cond-true {A = ℕ} (R c d) 1 0 q, cond-true {A = ℕ} (R c e) 1 0 (h c (inl refl) q), rest)
        | inr q ↦ omega (arith, cond-false {A = ℕ} (R c d) 1 0 q, rest)
      ]
]

pub rank_bound : (R : ℕ → ℕ → Bool) (d : ℕ) (cs : List ℕ) → rank R cs d ≤ length cs
unfolding rank
rank_bound R d [] = omega arith
rank_bound R d (c ∷ cs) = elim (cases_Bool (R c d)) [
  | inl q ↦ omega (arith, cond-true {A = ℕ} (R c d) 1 0 q, rank_bound R d cs)
  | inr q ↦ omega (arith, cond-false {A = ℕ} (R c d) 1 0 q, rank_bound R d cs)
]

-- the ranks are in the order
pub rank_order : (R : ℕ → ℕ → Bool) (ds : List ℕ) → IsStrict R ds → (d e : ℕ) → Mem d ds → Mem e ds → R d e ≡ nat_lt (rank R ds d) (rank R ds e)
rank_order R ds p d e hd he = elim (cases_Bool (R d e)) [
  | inl t ↦ t ∙ sym (lt-ltb _ _ (rank_lt R d e ds (λ c m q. p.trans c d e m hd he q t) hd (p.irrefl d hd) t))
  | inr t ↦ elim (cases_eq d e) [
    | inl s ↦ t ∙ sym (le-ltb _ _ (omega (arith, ap (rank R ds) s)))
    | inr s ↦
        let back : R e d ≡ true = p.total d e hd he s t in
        t ∙ sym (le-ltb _ _ (omega (arith, rank_lt R e d ds (λ c m q. p.trans c e d m he hd q back) he (p.irrefl e he) back)))
  ]
]

pub rank_apart : (R : ℕ → ℕ → Bool) (ds : List ℕ) → IsStrict R ds → (d e : ℕ) → Mem d ds → Mem e ds → rank R ds d ≡ rank R ds e → d ≡ e
rank_apart R ds p d e hd he same = elim (cases_eq d e) [
  | inl s ↦ s
  | inr s ↦ elim (cases_Bool (R d e)) [
    | inl t ↦ absurd (omega (arith, same, rank_lt R d e ds (λ c m q. p.trans c d e m hd he q t) hd (p.irrefl d hd) t))
    | inr t ↦
        let back : R e d ≡ true = p.total d e hd he s t in
        absurd (omega (arith, same, rank_lt R e d ds (λ c m q. p.trans c e d m he hd q back) he (p.irrefl e he) back))
  ]
]
