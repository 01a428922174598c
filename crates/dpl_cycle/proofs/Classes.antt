-- What stands on one cycle before and after an exchange.
use Rattle.std.proofs.Common.{arith, ◌≡◌, ◌≢◌, ℕ, ◌<◌, ◌==◌, refl, sym, ap, ◌∙◌, true, false, inl, inr, ◌⊎◌, eq-eqb}
use Rattle.std.proofs.lemmas.Bool.{ne_eqb, cases_eq}
use Rattle.dpl_cycle.specs.Cycles.{cycles, least, exchange, Permutes}
use Rattle.dpl_cycle.proofs.Steps.{exchange_first, exchange_second, exchange_other}
use Rattle.dpl_cycle.proofs.Shorter.{cycles_same}
use Rattle.dpl_cycle.proofs.Least.{least_step, label_least}
use Rattle.dpl_cycle.proofs.Exchange.{exchange_law}

-- leads back from where an exchange leads
pub exchange_back : (ℕ → ℕ) → (ℕ → ℕ) → ℕ → ℕ → ℕ → ℕ
exchange_back f g i j y = elim (y == f j) [ true ↦ i | false ↦ elim (y == f i) [ true ↦ j | false ↦ g y ] ]

back_first : (f g : ℕ → ℕ) (i j y : ℕ) → y ≡ f j → exchange_back f g i j y ≡ i
unfolding exchange_back
back_first f g i j y h = rw (eq-eqb y (f j) h, exchange_back)

back_second : (f g : ℕ → ℕ) (i j y : ℕ) → y ≢ f j → y ≡ f i → exchange_back f g i j y ≡ j
unfolding exchange_back
back_second f g i j y k h = rw (ne_eqb y (f j) k, eq-eqb y (f i) h, exchange_back)

back_other : (f g : ℕ → ℕ) (i j y : ℕ) → y ≢ f j → y ≢ f i → exchange_back f g i j y ≡ g y
unfolding exchange_back
back_other f g i j y k h = rw (ne_eqb y (f j) k, ne_eqb y (f i) h, exchange_back)

-- f at one place
forms : (f : ℕ → ℕ) (i j x : ℕ) → i ≢ j
    → ((x ≡ i) × (exchange f i j x ≡ f j)) ⊎ (((x ≡ j) × (exchange f i j x ≡ f i)) ⊎ ((x ≢ i) × (x ≢ j) × (exchange f i j x ≡ f x)))
forms f i j x ne = elim (cases_eq x i) [
  | inl a ↦ inl (a, ap (exchange f i j) a ∙ exchange_first f i j)
  | inr a ↦ elim (cases_eq x j) [
    | inl b ↦ inr (inl (b, ap (exchange f i j) b ∙ exchange_second f i j (λ k. ne (sym k))))
    | inr b ↦ inr (inr (a, b, exchange_other f i j x a b))
  ]
]

pub one_to_one : (n : ℕ) (f g : ℕ → ℕ) → Permutes n f g → (x y : ℕ) → x < n → y < n → f x ≡ f y → x ≡ y
one_to_one n f g p x y hx hy e = sym (p.back x hx) ∙ ap g e ∙ p.back y hy

pub exchange_permutes : (n : ℕ) (f g : ℕ → ℕ) → Permutes n f g → (i j : ℕ) → i < n → j < n → i ≢ j → Permutes n (exchange f i j) (exchange_back f g i j)
exchange_permutes n f g p i j hi hj ne =
    let apart : f i ≢ f j = λ e. ne (one_to_one n f g p i j hi hj e) in
    record {
      to = λ x h. elim (forms f i j x ne) [
        | inl a ↦ omega (arith, a.1, p.to j hj)
        | inr o ↦
            elim o [ inl b ↦ omega (arith, b.1, p.to i hi) | inr c ↦ omega (arith, c.2, p.to x h) ]
      ];
      from = λ y h. elim (cases_eq y (f j)) [
        | inl a ↦ omega (arith, back_first f g i j y a)
        | inr a ↦ elim (cases_eq y (f i)) [ inl b ↦ omega (arith, back_second f g i j y a b) | inr b ↦ omega (arith, back_other f g i j y a b, p.from y h) ]
      ];
      back = λ x h. elim (forms f i j x ne) [
        | inl a ↦ back_first f g i j _ a.1 ∙ sym a.0
        | inr o ↦ elim o [
          | inl b ↦ back_second f g i j _ (λ e. apart (sym b.1 ∙ e)) b.1 ∙ sym b.0
          | inr c ↦ back_other f g i j _ (λ e. c.1 (one_to_one n f g p x j h hj (sym c.2 ∙ e)))
              (λ e. c.0 (one_to_one n f g p x i h hi (sym c.2 ∙ e))) ∙ ap g c.2 ∙ p.back x h
        ]
      ];
      forth = λ y h. elim (cases_eq y (f j)) [
        | inl a ↦ ap (exchange f i j) (back_first f g i j y a) ∙ exchange_first f i j ∙ sym a
        | inr a ↦ elim (cases_eq y (f i)) [
          | inl b ↦ ap (exchange f i j) (back_second f g i j y a b) ∙ exchange_second f i j (λ k. ne (sym k)) ∙ sym b
          | inr b ↦
              let gi : g y ≢ i = λ e. b (sym (p.forth y h) ∙ ap f e) in
              let gj : g y ≢ j = λ e. a (sym (p.forth y h) ∙ ap f e) in
              ap (exchange f i j) (back_other f g i j y a b) ∙ exchange_other f i j (g y) gi gj ∙ p.forth y h
        ]
      ];
    }

-- exchanging twice changes nothing
pub exchange_twice : (f : ℕ → ℕ) (i j x : ℕ) → i ≢ j → exchange (exchange f i j) i j x ≡ f x
exchange_twice f i j x ne = elim (forms (exchange f i j) i j x ne) [
  | inl a ↦ a.1 ∙ exchange_second f i j (λ k. ne (sym k)) ∙ ap f (sym a.0)
  | inr o ↦ elim o [
    | inl b ↦ b.1 ∙ exchange_first f i j ∙ ap f (sym b.0)
    | inr c ↦ c.2 ∙ exchange_other f i j x c.0 c.1
  ]
]

cycles_twice : (n : ℕ) (f : ℕ → ℕ) (i j : ℕ) → i ≢ j → cycles (exchange (exchange f i j) i j) n ≡ cycles f n
cycles_twice n f i j ne = cycles_same n _ _ (λ x h. exchange_twice f i j x ne)

-- after a merge the two are on one cycle
pub merged_together : (n : ℕ) (f g : ℕ → ℕ) → Permutes n f g → (i j : ℕ) → i < n → j < n → i ≢ j
    → (least f n i ≢ least f n j) → least (exchange f i j) n i ≡ least (exchange f i j) n j
merged_together n f g p i j hi hj ne apart =
    let there = exchange_law n f g p i j hi hj ne in
    let back = exchange_law n (exchange f i j) (exchange_back f g i j) (exchange_permutes n f g p i j hi hj ne) i j hi hj ne in
    elim (cases_eq (least (exchange f i j) n i) (least (exchange f i j) n j)) [
      | inl e ↦ e
      | inr k ↦ absurd (omega (arith, there.merges apart, back.merges k, cycles_twice n f i j ne))
    ]

-- after a split they are on two
pub split_apart : (n : ℕ) (f g : ℕ → ℕ) → Permutes n f g → (i j : ℕ) → i < n → j < n → i ≢ j
    → least f n i ≡ least f n j → least (exchange f i j) n i ≢ least (exchange f i j) n j
split_apart n f g p i j hi hj ne e k =
    let there = exchange_law n f g p i j hi hj ne in
    let back = exchange_law n (exchange f i j) (exchange_back f g i j) (exchange_permutes n f g p i j hi hj ne) i j hi hj ne in
    omega (arith, there.splits e, back.splits k, cycles_twice n f i j ne)

-- a merge keeps together what was together
pub merge_keeps : (n : ℕ) (f g : ℕ → ℕ) → Permutes n f g → (i j : ℕ) → i < n → j < n → i ≢ j
    → (least f n i ≢ least f n j) → (x y : ℕ) → x < n → y < n → least f n x ≡ least f n y
    → least (exchange f i j) n x ≡ least (exchange f i j) n y
merge_keeps n f g p i j hi hj ne apart x y hx hy e =
    let f' = exchange f i j in
    let p' = exchange_permutes n f g p i j hi hj ne in
    let one = merged_together n f g p i j hi hj ne apart in
    let along : (d : ℕ) → d < n → least f' n (f d) ≡ least f' n d = λ d h. elim (forms f i j d ne) [
      | inl a ↦ ap (λ z. least f' n (f z)) a.0 ∙ ap (least f' n) (sym (exchange_second f i j (λ k. ne (sym k)))) ∙
          least_step n f' _ p' j hj ∙ sym one ∙ ap (least f' n) (sym a.0)
      | inr o ↦ elim o [
        | inl b ↦ ap (λ z. least f' n (f z)) b.0 ∙ ap (least f' n) (sym (exchange_first f i j)) ∙ least_step n f' _ p' i hi ∙ one ∙ ap (least f' n) (sym b.0)
        | inr c ↦ ap (least f' n) (sym c.2) ∙ least_step n f' _ p' d h
      ]
    ] in
    sym (label_least n f g p (least f' n) along x hx) ∙ ap (least f' n) e ∙ label_least n f g p (least f' n) along y hy

-- one name for the classes of i and j
pub joined : (ℕ → ℕ) → ℕ → ℕ → ℕ → ℕ → ℕ
joined f n i j z = elim (least f n z == least f n j) [ true ↦ least f n i | false ↦ least f n z ]

pub joined_hit : (f : ℕ → ℕ) (n i j z : ℕ) → least f n z ≡ least f n j → joined f n i j z ≡ least f n i
unfolding joined
joined_hit f n i j z h = rw (eq-eqb (least f n z) (least f n j) h, joined)

pub joined_miss : (f : ℕ → ℕ) (n i j z : ℕ) → least f n z ≢ least f n j → joined f n i j z ≡ least f n z
unfolding joined
joined_miss f n i j z h = rw (ne_eqb (least f n z) (least f n j) h, joined)

-- a merge puts together no more than the two
pub merge_only : (n : ℕ) (f g : ℕ → ℕ) → Permutes n f g → (i j : ℕ) → i < n → j < n → i ≢ j → (x y : ℕ) → x < n →
    y < n → least (exchange f i j) n x ≡ least (exchange f i j) n y → joined f n i j x ≡ joined f n i j y
merge_only n f g p i j hi hj ne x y hx hy e =
    let f' = exchange f i j in
    let p' = exchange_permutes n f g p i j hi hj ne in
    let label = joined f n i j in
    let li : label i ≡ least f n i = elim (cases_eq (least f n i) (least f n j)) [ inl k ↦ joined_hit f n i j i k | inr k ↦ joined_miss f n i j i k ] in
    let lj : label j ≡ least f n i = joined_hit f n i j j refl in
    let same : (d : ℕ) → d < n → label (f d) ≡ label d = λ d h.
    let s : least f n (f d) ≡ least f n d = least_step n f g p d h in
    elim (cases_eq (least f n d) (least f n j)) [
      | inl k ↦ joined_hit f n i j (f d) (s ∙ k) ∙ sym (joined_hit f n i j d k)
      | inr k ↦ joined_miss f n i j (f d) (λ r. k (sym s ∙ r)) ∙ s ∙ sym (joined_miss f n i j d k)
    ] in
    let along : (d : ℕ) → d < n → label (f' d) ≡ label d = λ d h. elim (forms f i j d ne) [
      | inl a ↦ ap label a.1 ∙ same j hj ∙ lj ∙ sym li ∙ ap label (sym a.0)
      | inr o ↦ elim o [
        | inl b ↦ ap label b.1 ∙ same i hi ∙ li ∙ sym lj ∙ ap label (sym b.0)
        | inr c ↦ ap label c.2 ∙ same d h
      ]
    ] in
    sym (label_least n f' _ p' label along x hx) ∙ ap label e ∙ label_least n f' _ p' label along y hy
