-- Sums over numbers that a permutation moves.
use Rattle.std.proofs.Common.{◌≤◌, arith, ◌≡◌, ◌≢◌, ℕ, zero, suc, ◌+◌, ◌*◌, ◌%◌, ◌<◌, refl, sym, ap, ◌∙◌, Bool, cond, inl, inr, true, false}
use Rattle.std.proofs.lemmas.Bool.{cases_Bool, cond-true, cond-false, cases_eq}
use Rattle.dpl_cycle.specs.Cycles.{without, Permutes}
use Rattle.dpl_cycle.specs.Sums.{sum_on, count_on}
use Rattle.dpl_cycle.proofs.Steps.{without_hit, without_miss}
use Rattle.dpl_cycle.proofs.Shorter.{shorter}

-- tests and weights that agree
pub sum_same : (n : ℕ) (p p' : ℕ → Bool) (w w' : ℕ → ℕ) → ((d : ℕ) → d < n → p d ≡ p' d) → ((d : ℕ) → d < n → w d ≡ w' d) → sum_on p w n ≡ sum_on p' w' n
sum_same zero p p' w w' e k = refl
sum_same (suc n) p p' w w' e k =
    let more : sum_on p w n ≡ sum_on p' w' n = sum_same n p p' w w' (λ d h. e d (omega arith)) (λ d h. k d (omega arith)) in
    rw (e n (omega arith), k n (omega arith), more) refl

sum_alike : (n : ℕ) (p : ℕ → Bool) (a b : ℕ → ℕ) → ((d : ℕ) → d < n → a d ≡ b d) → sum_on p a n ≡ sum_on p b n
sum_alike zero p a b e = refl
sum_alike (suc n) p a b e = omega (arith, ap (λ z. cond (p n) z 0) (e n (omega arith)), sum_alike n p a b (λ d k. e d (omega arith)))

-- two weights that differ at one place
sum_differ : (n : ℕ) (p : ℕ → Bool) (a b : ℕ → ℕ) (m : ℕ) → m < n → ((d : ℕ) → d < n → d ≢ m → a d ≡ b d)
    → sum_on p a n + cond (p m) (b m) 0 ≡ sum_on p b n + cond (p m) (a m) 0
sum_differ zero p a b m h e = absurd (omega arith)
sum_differ (suc n) p a b m h e = elim (cases_eq n m) [
  | inl t ↦
      let rest : sum_on p a n ≡ sum_on p b n = sum_alike n p a b (λ d k. e d (omega arith) (λ q. omega arith)) in
      omega (arith, rest, ap (λ z. cond (p z) (a z) 0) t, ap (λ z. cond (p z) (b z) 0) t)
  | inr t ↦
      let here : a n ≡ b n = e n (omega arith) t in
      omega (arith, ap (λ z. cond (p n) z 0) here, sum_differ n p a b m (omega arith) (λ d k q. e d (omega arith) q))
]

stays : (n : ℕ) (f : ℕ → ℕ) (p : ℕ → Bool) → ((d : ℕ) → d < suc n → p (f d) ≡ p d) → (d : ℕ) → d < n → p (without n f d) ≡ p d
stays n f p keeps d k = elim (cases_eq (f d) n) [
  | inl t ↦ ap p (without_hit n f d t) ∙ keeps n (omega arith) ∙ ap p (sym t) ∙ keeps d (omega arith)
  | inr t ↦ ap p (without_miss n f d t) ∙ keeps d (omega arith)
]

-- a sum over a set that the permutation keeps does not change when each member is moved on
pub sum_moved : (n : ℕ) (f g : ℕ → ℕ) → Permutes n f g → (p : ℕ → Bool) → ((d : ℕ) → d < n → p (f d) ≡ p d) →
    (w : ℕ → ℕ) → sum_on p (λ d. w (f d)) n ≡ sum_on p w n
sum_moved zero f g q p keeps w = refl
sum_moved (suc n) f g q p keeps w = elim (cases_eq (f n) n) [
  | inl alone ↦
      let more = sum_moved n (without n f) (without n g) (shorter n f g q) p (λ d k. stays n f p keeps d k) w in
      let same : sum_on p (λ d. w (f d)) n ≡ sum_on p (λ d. w (without n f d)) n =
      sum_alike n p _ _ (λ d k. ap w (sym (without_miss n f d
      (λ r. omega (arith, sym (q.back d (omega arith)) ∙ ap g (r ∙ sym alone) ∙ q.back n (omega arith)))))) in
      omega (arith, same, more, ap (λ z. cond (p n) (w z) 0) alone)
  | inr moved ↦
      let m = g n in
      let fm : f m ≡ n = q.forth n (omega arith) in
      let mn : m ≢ n = λ r. moved (sym (ap f r) ∙ fm) in
      let lt : m < n = omega (arith, q.from n (omega arith)) in
      let more = sum_moved n (without n f) (without n g) (shorter n f g q) p (λ d k. stays n f p keeps d k) w in
      let differ = sum_differ n p (λ d. w (f d)) (λ d. w (without n f d)) m lt (λ d k r.
      ap w (sym (without_miss n f d (λ t. r (sym (q.back d (omega arith)) ∙ ap g t))))) in
      let pm : p m ≡ p n = sym (keeps m (omega arith)) ∙ ap p fm in
      omega (
        arith,
        differ,
        more,
        ap (λ b. cond b (w (without n f m)) 0) pm,
        ap (λ b. cond b (w (f m)) 0) pm,
        ap (λ z. cond (p n) (w z) 0) (without_hit n f m fm),
        ap (λ z. cond (p n) (w z) 0) fm,
      )
]

-- the weights of two darts of each edge sum to an even number
pub sum_pairs : (e : ℕ) (p : ℕ → Bool) (w : ℕ → ℕ) → ((k : ℕ) → k < e → p (suc (2 * k)) ≡ p (2 * k))
    → ((k : ℕ) → k < e → w (suc (2 * k)) ≡ w (2 * k)) → sum_on p w (2 * e) % 2 ≡ 0
sum_pairs zero p w a b = refl
sum_pairs (suc e) p w a b =
    let n = 2 * e in
    let size : 2 * suc e ≡ suc (suc n) = omega arith in
    let rest : sum_on p w n % 2 ≡ 0 = sum_pairs e p w (λ k h. a k (omega arith)) (λ k h. b k (omega arith)) in
    omega (arith, ap (sum_on p w) size, rest, ap (λ t. cond t (w (suc n)) 0) (a e (omega arith)), ap (λ z. cond (p n) z 0) (b e (omega arith)))

pub count_on_same : (n : ℕ) (p q : ℕ → Bool) → ((d : ℕ) → d < n → p d ≡ q d) → count_on p n ≡ count_on q n
count_on_same n p q e = sum_same n p q (λ x. 1) (λ x. 1) e (λ d h. refl)

pub count_on_le : (p : ℕ → Bool) (n : ℕ) → count_on p n ≤ n
count_on_le p zero = omega arith
count_on_le p (suc n) = elim (cases_Bool (p n)) [
  | inl t ↦ omega (arith, cond-true {A = ℕ} (p n) 1 0 t, count_on_le p n)
  | inr t ↦ omega (arith, cond-false {A = ℕ} (p n) 1 0 t, count_on_le p n)
]

-- a number that passes counts
pub count_on_yes : (p : ℕ → Bool) (n : ℕ) → p n ≡ true → count_on p (suc n) ≡ suc (count_on p n)
count_on_yes p n h = omega (arith, cond-true {A = ℕ} (p n) 1 0 h)

-- and one that does not pass does not
pub count_on_no : (p : ℕ → Bool) (n : ℕ) → p n ≡ false → count_on p (suc n) ≡ count_on p n
count_on_no p n h = omega (arith, cond-false {A = ℕ} (p n) 1 0 h)
