-- Classes of numbers by a name for each, and the class that two of them become.
use Rattle.std.proofs.Common.{◌≤◌, arith, ◌≡◌, ◌≢◌, ℕ, zero, suc, ◌+◌, ◌<◌, refl, sym, ap, ◌∙◌, inl, inr, eq-eqb}
use Rattle.std.proofs.lemmas.Bool.{ne_eqb, cases_eq}
use Rattle.dpl_cycle.specs.Names.{AreNames, name_count, join}

pub join_hit : (names : ℕ → ℕ) (a b v : ℕ) → names v ≡ names b → join names a b v ≡ names a
join_hit names a b v h = rw (eq-eqb (names v) (names b) h, join)

pub join_miss : (names : ℕ → ℕ) (a b v : ℕ) → names v ≢ names b → join names a b v ≡ names v
join_miss names a b v h = rw (ne_eqb (names v) (names b) h, join)

pub count_in : (names : ℕ → ℕ) (n : ℕ) → names n ≡ n → name_count names (suc n) ≡ suc (name_count names n)
count_in names n h = rw (eq-eqb (names n) n h, name_count)

pub count_out : (names : ℕ → ℕ) (n : ℕ) → names n ≢ n → name_count names (suc n) ≡ name_count names n
count_out names n h = rw (ne_eqb (names n) n h, name_count)

-- names that differ at no number's naming itself
count_same : (k : ℕ) (s t : ℕ → ℕ) → ((v : ℕ) → v < k → s v ≡ v → t v ≡ v) → ((v : ℕ) → v < k → t v ≡ v → s v ≡ v) → name_count s k ≡ name_count t k
count_same zero s t to from = refl
count_same (suc k) s t to from =
    let more : name_count s k ≡ name_count t k = count_same k s t (λ v h e. to v (omega arith) e) (λ v h e. from v (omega arith) e) in
    elim (cases_eq (s k) k) [
      | inl e ↦ count_in s k e ∙ ap suc more ∙ sym (count_in t k (to k (omega arith) e))
      | inr e ↦ count_out s k e ∙ more ∙ sym (count_out t k (λ q. e (from k (omega arith) q)))
    ]

-- names of which one number names itself no more
count_less : (k : ℕ) (s t : ℕ → ℕ) (m : ℕ) → m < k → s m ≡ m → t m ≢ m
    → ((v : ℕ) → v < k → v ≢ m → s v ≡ v → t v ≡ v) → ((v : ℕ) → v < k → t v ≡ v → s v ≡ v)
    → name_count t k + 1 ≡ name_count s k
count_less zero s t m h sm tm to from = absurd (omega arith)
count_less (suc k) s t m h sm tm to from = elim (cases_eq k m) [
  | inl q ↦
      let rest : name_count s k ≡ name_count t k = count_same k s t (λ v i e. to v (omega arith) (λ r. omega arith) e) (λ v i e. from v (omega arith) e) in
      omega (arith, rest, count_in s k (ap s q ∙ sm ∙ sym q), count_out t k (λ e. tm (ap t (sym q) ∙ e ∙ q)))
  | inr q ↦
      let rest : name_count t k + 1 ≡ name_count s k =
      count_less k s t m (omega arith) sm tm (λ v i r e. to v (omega arith) r e) (λ v i e. from v (omega arith) e)
      in
      elim (cases_eq (s k) k) [
        | inl e ↦ omega (arith, rest, count_in s k e, count_in t k (to k (omega arith) q e))
        | inr e ↦ omega (arith, rest, count_out s k e, count_out t k (λ r. e (from k (omega arith) r)))
      ]
]

-- joining two classes leaves one less
pub join_less : (n : ℕ) (names : ℕ → ℕ) → AreNames n names → (a b : ℕ) → a < n → b < n → names a ≢ names b
    → name_count (join names a b) n + 1 ≡ name_count names n
join_less n names p a b ha hb ne =
    let m = names b in
    count_less n names (join names a b) m (p.inside b hb) (p.twice b hb)
    (λ e. ne (sym (join_hit names a b m (p.twice b hb)) ∙ e))
    (λ v h vm e. join_miss names a b v (λ q. vm (sym e ∙ q)) ∙ e)
    (λ v h e. elim (cases_eq (names v) (names b)) [
      | inl q ↦ absurd (ne (sym (p.twice a ha) ∙ ap names (sym (join_hit names a b v q) ∙ e) ∙ q))
      | inr q ↦ sym (join_miss names a b v q) ∙ e
    ])

pub join_names : (n : ℕ) (names : ℕ → ℕ) → AreNames n names → (a b : ℕ) → a < n → b < n → AreNames n (join names a b)
join_names n names p a b ha hb = record {
  inside = λ v h. elim (cases_eq (names v) (names b)) [
    | inl q ↦
        omega (arith, join_hit names a b v q, p.inside a ha)
    | inr q ↦
        omega (arith, join_miss names a b v q, p.inside v h)
  ];
  twice = λ v h. elim (cases_eq (names v) (names b)) [
    | inl q ↦
        let here = join_hit names a b v q in
        ap (join names a b) here ∙ (elim (cases_eq (names (names a)) (names b))
        [ inl r ↦ join_hit names a b (names a) r | inr r ↦ join_miss names a b (names a) r ∙ p.twice a ha ]) ∙
        sym here
    | inr q ↦
        let here = join_miss names a b v q in
        ap (join names a b) here ∙ join_miss names a b (names v) (λ r. q (sym (p.twice v h) ∙ r)) ∙ p.twice v h ∙ sym here
  ];
}

pub name_count_same : (n : ℕ) (s t : ℕ → ℕ) → ((v : ℕ) → v < n → s v ≡ t v) → name_count s n ≡ name_count t n
name_count_same n s t e = count_same n s t (λ v h q. sym (e v h) ∙ q) (λ v h q. e v h ∙ q)

pub name_count_le : (names : ℕ → ℕ) (n : ℕ) → name_count names n ≤ n
name_count_le names zero = omega arith
name_count_le names (suc n) = elim (cases_eq (names n) n) [
  | inl q ↦ omega (arith, count_in names n q, name_count_le names n)
  | inr q ↦ omega (arith, count_out names n q, name_count_le names n)
]

-- joining looks at three numbers only
pub join_same : (s t : ℕ → ℕ) (a b v : ℕ) → s a ≡ t a → s b ≡ t b → s v ≡ t v → join s a b v ≡ join t a b v
join_same s t a b v ea eb ev = elim (cases_eq (s v) (s b)) [
  | inl q ↦ join_hit s a b v q ∙ ea ∙ sym (join_hit t a b v (sym ev ∙ q ∙ eb))
  | inr q ↦ join_miss s a b v q ∙ ev ∙ sym (join_miss t a b v (λ r. q (ev ∙ r ∙ sym eb)))
]
