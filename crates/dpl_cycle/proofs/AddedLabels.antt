-- Labels along the cycles before and after a new pair is put in.
use Rattle.std.proofs.Common.{arith, ◌≡◌, ◌≢◌, ℕ, zero, suc, ◌+◌, ◌%◌, ◌<◌, ◌==◌, refl, sym, ap, ◌∙◌, Bool, true, false, inl, inr, eq-eqb}
use Rattle.std.proofs.lemmas.Bool.{ne_eqb, cases_eq, cases_Bool, cond-true, cond-false, true≢false}
use Rattle.dpl_cycle.specs.Cycles.{least, Permutes}
use Rattle.dpl_cycle.specs.Sums.{sum_on}
use Rattle.dpl_cycle.proofs.Least.{least_step}
use Rattle.dpl_cycle.proofs.SumLemmas.{sum_moved}
use Rattle.dpl_cycle.proofs.Added.{added, IsNew, added_i, added_j, added_c, added_d, added_other}

-- h differs along f by the weights, up to parity
abbrev pub Labels : (ℕ → ℕ) → (ℕ → ℕ) → (ℕ → ℕ) → ℕ → Type 0
Labels f w h n = (z : ℕ) → z < n → h (f z) % 2 ≡ (h z + w z) % 2

-- labels of the new faces that fit the new edge are labels of the old ones
pub labels_without : (n : ℕ) (f w h : ℕ → ℕ) (i j c d : ℕ) → IsNew n f i j c d → w c ≡ w d
    → Labels (added f i j c d) w h n → h d % 2 ≡ (h c + w c) % 2 → Labels f w h n
labels_without n f w h i j c d q ww l fit = λ z k.
    let at_i : h c % 2 ≡ (h i + w i) % 2 = sym (ap (λ y. h y % 2) (added_i n f i j c d q)) ∙ l i q.i_in in
    let at_j : h d % 2 ≡ (h j + w j) % 2 = sym (ap (λ y. h y % 2) (added_j n f i j c d q)) ∙ l j q.j_in in
    let at_c : h (f j) % 2 ≡ (h c + w c) % 2 = sym (ap (λ y. h y % 2) (added_c n f i j c d q)) ∙ l c q.c_in in
    let at_d : h (f i) % 2 ≡ (h d + w d) % 2 = sym (ap (λ y. h y % 2) (added_d n f i j c d q)) ∙ l d q.d_in in
    elim (cases_eq z i) [
      | inl a ↦ omega (arith, ap (λ y. h (f y)) a, ap h a, ap w a, at_i, at_d, fit, ww)
      | inr zi ↦ elim (cases_eq z j) [
        | inl a ↦ omega (arith, ap (λ y. h (f y)) a, ap h a, ap w a, at_j, at_c, fit)
        | inr zj ↦ elim (cases_eq z c) [
          | inl a ↦ omega (arith, ap (λ y. h (f y)) a, ap h a, ap w a, ap h q.there, fit)
          | inr zc ↦ elim (cases_eq z d) [
            | inl a ↦ omega (arith, ap (λ y. h (f y)) a, ap h a, ap w a, ap h q.again, fit, ww)
            | inr zd ↦ sym (ap (λ y. h y % 2) (added_other f i j c d z zi zj zc zd)) ∙ l z k
          ]
        ]
      ]
    ]

-- h with v more on the cycle of d
shifted : (ℕ → ℕ) → ℕ → (ℕ → ℕ) → ℕ → ℕ → ℕ → ℕ
shifted f n h d v z = elim (least f n z == least f n d) [ true ↦ h z + v | false ↦ h z ]

shifted_in : (f : ℕ → ℕ) (n : ℕ) (h : ℕ → ℕ) (d v z : ℕ) → least f n z ≡ least f n d → shifted f n h d v z ≡ h z + v
unfolding shifted
shifted_in f n h d v z e = rw (eq-eqb (least f n z) (least f n d) e, shifted)

shifted_out : (f : ℕ → ℕ) (n : ℕ) (h : ℕ → ℕ) (d v z : ℕ) → least f n z ≢ least f n d → shifted f n h d v z ≡ h z
unfolding shifted
shifted_out f n h d v z e = rw (ne_eqb (least f n z) (least f n d) e, shifted)

-- where c and d are on two faces, one of them can be turned over so that the labels fit
pub labels_fit : (n : ℕ) (f g w h : ℕ → ℕ) (c d : ℕ) → Permutes n f g → c < n → d < n
    → least f n c ≢ least f n d → Labels f w h n
    → (h' : ℕ → ℕ) × Labels f w h' n × (h' d % 2 ≡ (h' c + w c) % 2)
labels_fit n f g w h c d p hc hd apart l =
    let v = h c + w c + h d in
    let h' = shifted f n h d v in (
      h',
      (λ z k.
          let s : least f n (f z) ≡ least f n z = least_step n f g p z k in
          elim (cases_eq (least f n z) (least f n d)) [
            | inl e ↦ omega (arith, l z k, shifted_in f n h d v z e, shifted_in f n h d v (f z) (s ∙ e))
            | inr e ↦ omega (arith, l z k, shifted_out f n h d v z e, shifted_out f n h d v (f z) (λ t. e (sym s ∙ t)))
          ]),
      omega (arith, shifted_in f n h d v d refl, shifted_out f n h d v c apart),
    )

-- ---- where the edge joins two components

sum_alike_parity : (n : ℕ) (p : ℕ → Bool) (a b : ℕ → ℕ) → ((z : ℕ) → z < n → p z ≡ true → a z % 2 ≡ b z % 2) → sum_on p a n % 2 ≡ sum_on p b n % 2
sum_alike_parity zero p a b e = refl
sum_alike_parity (suc n) p a b e = elim (cases_Bool (p n)) [
  | inl q ↦ omega (arith, e n (omega arith) q, sum_alike_parity n p a b (λ z k r. e z (omega arith) r), cond-true (p n) (a n) 0 q, cond-true (p n) (b n) 0 q)
  | inr q ↦ omega (arith, sum_alike_parity n p a b (λ z k r. e z (omega arith) r), cond-false (p n) (a n) 0 q, cond-false (p n) (b n) 0 q)
]

-- sums that agree but at one place
sum_parity : (n : ℕ) (p : ℕ → Bool) (a b : ℕ → ℕ) (m : ℕ) → m < n → p m ≡ true
    → ((z : ℕ) → z < n → p z ≡ true → z ≢ m → a z % 2 ≡ b z % 2)
    → (sum_on p a n + b m) % 2 ≡ (sum_on p b n + a m) % 2
sum_parity zero p a b m h pm e = absurd (omega arith)
sum_parity (suc n) p a b m h pm e = elim (cases_eq n m) [
  | inl t ↦
      let pn : p n ≡ true = ap p t ∙ pm in
      let rest = sum_alike_parity n p a b (λ z k q. e z (omega arith) q (λ r. omega arith)) in
      omega (arith, rest, cond-true (p n) (a n) 0 pn, cond-true (p n) (b n) 0 pn, ap a t, ap b t)
  | inr t ↦ elim (cases_Bool (p n)) [
    | inl pn ↦ omega (
      arith,
      sum_parity n p a b m (omega arith) pm (λ z k q r. e z (omega arith) q r),
      e n (omega arith) pn t,
      cond-true (p n) (a n) 0 pn,
      cond-true (p n) (b n) 0 pn,
    )
    | inr pn ↦ omega (arith, sum_parity n p a b m (omega arith) pm (λ z k q r. e z (omega arith) q r), cond-false (p n) (a n) 0 pn, cond-false (p n) (b n) 0 pn)
  ]
]

pub sum_two : (n : ℕ) (p : ℕ → Bool) (a b : ℕ → ℕ) → sum_on p (λ z. a z + b z) n ≡ sum_on p a n + sum_on p b n
sum_two zero p a b = refl
sum_two (suc n) p a b = elim (cases_Bool (p n)) [
  | inl q ↦ omega (arith, sum_two n p a b, cond-true (p n) (a n + b n) 0 q, cond-true (p n) (a n) 0 q, cond-true (p n) (b n) 0 q)
  | inr q ↦ omega (arith, sum_two n p a b, cond-false (p n) (a n + b n) 0 q, cond-false (p n) (a n) 0 q, cond-false (p n) (b n) 0 q)
]

-- The set p is a component that j is in and that i, c and d are not, and its weights sum to an even number, since each edge of it stands twice.
pub labels_join : (n : ℕ) (f g w h : ℕ → ℕ) (i j c d : ℕ) → Permutes n f g → IsNew n f i j c d → Labels (added f i j c d) w h n →
    (p : ℕ → Bool) → ((z : ℕ) → z < n → p (f z) ≡ p z) → p j ≡ true → p i ≡ false → p c ≡ false → p d ≡ false → sum_on p w n % 2 ≡ 0 → h d % 2 ≡ (h c + w c) % 2
labels_join n f g w h i j c d q new l p keeps pj pi pc pd even =
    let at_j : h d % 2 ≡ (h j + w j) % 2 = sym (ap (λ y. h y % 2) (added_j n f i j c d new)) ∙ l j new.j_in in
    let at_c : h (f j) % 2 ≡ (h c + w c) % 2 = sym (ap (λ y. h y % 2) (added_c n f i j c d new)) ∙ l c new.c_in in
    let moved : sum_on p (λ z. h (f z)) n ≡ sum_on p h n = sum_moved n f g q p keeps h in
    let two : sum_on p (λ z. h z + w z) n ≡ sum_on p h n + sum_on p w n = sum_two n p h w in
    let out = λ (z y : ℕ) (a : p z ≡ true) (b : p y ≡ false) (e : z ≡ y). true≢false (sym a ∙ ap p e ∙ b) in
    let near : (sum_on p (λ z. h (f z)) n + (h j + w j)) % 2 ≡ (sum_on p (λ z. h z + w z) n + h (f j)) % 2 =
    sum_parity n p (λ z. h (f z)) (λ z. h z + w z) j new.j_in pj (λ z k a zj.
    sym (ap (λ y. h y % 2) (added_other f i j c d z (out z i a pi) zj (out z c a pc) (out z d a pd))) ∙ l z k) in
    omega (arith, at_j, at_c, moved, two, near, even)
