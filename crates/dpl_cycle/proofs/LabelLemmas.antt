-- Sums that are even around each cycle come from labels.
use Rattle.std.proofs.Common.{arith, ◌≡◌, ◌≢◌, ℕ, zero, suc, ◌+◌, ◌%◌, ◌<◌, ◌==◌, refl, sym, ap, ◌∙◌, Bool, true, false, cond, inl, inr, eq-eqb}
use Rattle.std.proofs.lemmas.Bool.{ne_eqb, cases_eq, cases_Bool, cond-true, cond-false}
use Rattle.dpl_cycle.specs.Cycles.{without, least, Permutes}
use Rattle.dpl_cycle.specs.Sums.{sum_on, IsEvenAround, HasLabels}
use Rattle.dpl_cycle.proofs.Steps.{without_hit, without_miss, least_alone, least_top, least_under}
use Rattle.dpl_cycle.proofs.Shorter.{shorter}
use Rattle.dpl_cycle.proofs.Least.{least_step, least_le}
use Rattle.dpl_cycle.proofs.SumLemmas.{sum_same}

-- w with v more at m
bump : ℕ → ℕ → (ℕ → ℕ) → ℕ → ℕ
bump m v w d = elim (d == m) [ true ↦ w d + v | false ↦ w d ]

bump_same : (m v : ℕ) (w : ℕ → ℕ) (d : ℕ) → d ≡ m → bump m v w d ≡ w d + v
unfolding bump
bump_same m v w d h = rw (eq-eqb d m h, bump)

bump_other : (m v : ℕ) (w : ℕ → ℕ) (d : ℕ) → d ≢ m → bump m v w d ≡ w d
unfolding bump
bump_other m v w d h = rw (ne_eqb d m h, bump)

sum_bump : (n : ℕ) (p : ℕ → Bool) (m v : ℕ) (w : ℕ → ℕ) → m < n → sum_on p (bump m v w) n ≡ sum_on p w n + cond (p m) v 0
sum_bump zero p m v w h = absurd (omega arith)
sum_bump (suc n) p m v w h = elim (cases_eq n m) [
  | inl t ↦
      let rest : sum_on p (bump m v w) n ≡ sum_on p w n = sum_same n p p _ _ (λ d k. refl) (λ d k. bump_other m v w d (λ q. omega arith)) in
      let top : bump m v w n ≡ w n + v = bump_same m v w n t in
      elim (cases_Bool (p n)) [
        | inl b ↦ omega (arith, rest, top, cond-true (p n) (bump m v w n) 0 b, cond-true (p n) (w n) 0 b, cond-true (p m) v 0 (ap p (sym t) ∙ b))
        | inr b ↦ omega (arith, rest, cond-false (p n) (bump m v w n) 0 b, cond-false (p n) (w n) 0 b, cond-false (p m) v 0 (ap p (sym t) ∙ b))
      ]
  | inr t ↦
      omega (arith, ap (λ y. cond (p n) y 0) (bump_other m v w n t), sum_bump n p m v w (omega arith))
]

pub sum_none : (n : ℕ) (p : ℕ → Bool) (w : ℕ → ℕ) → ((d : ℕ) → d < n → p d ≡ false) → sum_on p w n ≡ 0
sum_none zero p w h = refl
sum_none (suc n) p w h = omega (arith, cond-false (p n) (w n) 0 (h n (omega arith)), sum_none n p w (λ d k. h d (omega arith)))

-- h with v at n
put : ℕ → ℕ → (ℕ → ℕ) → ℕ → ℕ
put n v h d = elim (d == n) [ true ↦ v | false ↦ h d ]

put_same : (n v : ℕ) (h : ℕ → ℕ) (d : ℕ) → d ≡ n → put n v h d ≡ v
unfolding put
put_same n v h d e = rw (eq-eqb d n e, put)

put_other : (n v : ℕ) (h : ℕ → ℕ) (d : ℕ) → d ≢ n → put n v h d ≡ h d
unfolding put
put_other n v h d e = rw (ne_eqb d n e, put)

-- the greatest number is a cycle of its own
even_alone : (n : ℕ) (f g : ℕ → ℕ) → Permutes (suc n) f g → (w : ℕ → ℕ) → IsEvenAround f w (suc n) → f n ≡ n → IsEvenAround (without n f) w n × (w n % 2 ≡ 0)
even_alone n f g p w even alone =
    let q = shorter n f g p in
    let under = λ (d : ℕ) (h : d < n). least_under f n d (λ k. omega arith) in
    let top : least f (suc n) n ≡ n = least_alone f n alone in
    let low : (d : ℕ) → d < n → least f (suc n) d < n = λ d h. omega (arith, under d h, least_le n (without n f) (without n g) q d h) in (
      λ x h.
          let same : sum_on (λ d. least f (suc n) d == least f (suc n) x) w n ≡ sum_on (λ d. least (without n f) n d == least (without n f) n x) w n =
          sum_same n _ _ w w (λ d k. rw (under d k, under x h) refl) (λ d k. refl) in
          let apart : (least f (suc n) n == least f (suc n) x) ≡ false = ne_eqb _ _ (λ e. omega (arith, top, low x h)) in
          omega (arith, same, even x (omega arith), cond-false _ (w n) 0 apart),
      let none : sum_on (λ d. least f (suc n) d == least f (suc n) n) w n ≡ 0 = sum_none n _ w (λ d k. ne_eqb _ _ (λ e. omega (arith, top, low d k))) in
          omega (arith, none, even n (omega arith), cond-true _ (w n) 0 (eq-eqb (least f (suc n) n) (least f (suc n) n) refl)),
    )

-- the greatest number is on a longer cycle: its weight goes to the one before it
even_more : (n : ℕ) (f g : ℕ → ℕ) → Permutes (suc n) f g → (w : ℕ → ℕ) → IsEvenAround f w (suc n) → f n ≢ n
    → g n < n → IsEvenAround (without n f) (bump (g n) (w n) w) n
even_more n f g p w even more lt = λ x h.
    let q = shorter n f g p in
    let m = g n in
    let fm : f m ≡ n = p.forth n (omega arith) in
    let under = λ (d : ℕ) (k : d < n). least_under f n d (λ e. omega arith) in
    let ln : least f (suc n) n ≡ least (without n f) n m =
    least_top f n more ∙ ap (least (without n f) n) (sym (without_hit n f m fm)) ∙ least_step n (without n f) (without n g) q m lt in
    let same : sum_on (λ d. least f (suc n) d == least f (suc n) x) w n ≡ sum_on (λ d. least (without n f) n d == least (without n f) n x) w n =
    sum_same n _ _ w w (λ d k. rw (under d k, under x h) refl) (λ d k. refl) in
    let top : (least f (suc n) n == least f (suc n) x) ≡ (least (without n f) n m == least (without n f) n x) = rw (ln, under x h) refl in
    omega (arith, same, even x (omega arith), ap (λ b. cond b (w n) 0) top, sum_bump n (λ d. least (without n f) n d == least (without n f) n x) m (w n) w lt)

-- sums that are even around each cycle come from labels
pub labels_exist : (n : ℕ) (f g : ℕ → ℕ) → Permutes n f g → (w : ℕ → ℕ) → IsEvenAround f w n → HasLabels f w n
labels_exist zero f g p w even = (λ d. 0, λ d h. absurd (omega arith))
labels_exist (suc n) f g p w even = elim (cases_eq (f n) n) [
  | inl alone ↦
      let e = even_alone n f g p w even alone in
      let rest = labels_exist n (without n f) (without n g) (shorter n f g p) w e.0 in
      let h = put n 0 rest.0 in (
        h,
        λ d k. elim (cases_eq d n) [
          | inl t ↦ omega (arith, put_same n 0 rest.0 (f d) (ap f t ∙ alone), put_same n 0 rest.0 d t, ap w t, e.1)
          | inr t ↦
              let fd : f d ≢ n = λ r. t (sym (p.back d k) ∙ ap g (r ∙ sym alone) ∙ p.back n (omega arith)) in
              omega (arith, put_other n 0 rest.0 (f d) fd, put_other n 0 rest.0 d t, ap rest.0 (without_miss n f d fd), rest.1 d (omega arith))
        ],
      )
  | inr more ↦
      let m = g n in
      let fm : f m ≡ n = p.forth n (omega arith) in
      let mn : m ≢ n = λ r. more (sym (ap f r) ∙ fm) in
      let lt : m < n = omega (arith, p.from n (omega arith)) in
      let rest = labels_exist n (without n f) (without n g) (shorter n f g p) (bump m (w n) w) (even_more n f g p w even more lt) in
      let v = rest.0 m + w m in
      let h = put n v rest.0 in
      let step : rest.0 (f n) % 2 ≡ (rest.0 m + (w m + w n)) % 2 =
      omega (arith, ap rest.0 (without_hit n f m fm), rest.1 m lt, bump_same m (w n) w m refl) in (
        h,
        λ d k. elim (cases_eq d n) [
          | inl t ↦ omega (arith, put_other n v rest.0 (f d) (λ r. more (ap f (sym t) ∙ r)), ap (λ y. rest.0 (f y)) t, put_same n v rest.0 d t, ap w t, step)
          | inr t ↦ elim (cases_eq (f d) n) [
            | inl hit ↦
                let dm : d ≡ m = sym (p.back d k) ∙ ap g hit in
                omega (arith, put_same n v rest.0 (f d) hit, put_other n v rest.0 d t, ap rest.0 dm, ap w dm)
            | inr miss ↦
                let dm : d ≢ m = λ r. miss (ap f r ∙ fm) in
                omega (
                  arith,
                  put_other n v rest.0 (f d) miss,
                  put_other n v rest.0 d t,
                  ap rest.0 (without_miss n f d miss),
                  rest.1 d (omega arith),
                  bump_other m (w n) w d dm,
                )
          ]
        ],
      )
]
