-- The areas of components on the two masks, and what turning some of them over makes of them.
use Rattle.std.proofs.Common.{arith, ◌≡◌, ◌+◌, ◌<◌, ◌==◌, inl, inr, ℕ, zero, suc, Bool, true, false, cond, refl, sym, ap, ◌∙◌}
use Rattle.std.specs.Prelude.{◌&&◌, ltb}
use Rattle.std.proofs.lemmas.Bool.{cases_order, cases_Bool, lt-ltb, le-ltb, eq-eqb, eqb-true, ne_eqb, and_left}
use Rattle.dpl_cycle.specs.Sums.{sum_on}
use Rattle.dpl_cycle.proofs.SumLemmas.{sum_same}
use Rattle.dpl_cycle.proofs.LabelLemmas.{sum_none}
use Rattle.dpl_sign.specs.Colourings.{agree}
use Rattle.dpl_balance.specs.Balance.{turn}
use Rattle.dpl_balance.proofs.SumLemmas.{sum_split}

-- ---- a sum shared out by labels

one_share : (x k : ℕ) (b : Bool) (z : ℕ) → cond {A = ℕ} (ltb x (suc k) && b) z 0 ≡ cond {A = ℕ} ((x == k) && b) z 0 + cond {A = ℕ} (ltb x k && b) z 0
one_share x k b z = elim (cases_order x k) [
  | inl e ↦ rw (lt-ltb x (suc k) (omega arith), eq-eqb x k e, le-ltb x k (omega arith)) (omega arith)
  | inr (inl l) ↦ rw (lt-ltb x (suc k) (omega arith), ne_eqb x k (λ e. omega arith), lt-ltb x k l) (omega arith)
  | inr (inr m) ↦ rw (le-ltb x (suc k) (omega arith), ne_eqb x k (λ e. omega arith), le-ltb x k (omega arith)) refl
]

shared_below : (n k : ℕ) (label : ℕ → ℕ) (q : ℕ → Bool) (w : ℕ → ℕ)
    → sum_on (λ c. true) (λ c. sum_on (λ v. (label v == c) && q v) w n) k ≡ sum_on (λ v. ltb (label v) k && q v) w n
shared_below n zero label q w = sym (sum_none n (λ v. ltb (label v) 0 && q v) w (λ v l. and_left _ _ (le-ltb (label v) 0 (omega arith))))
shared_below n (suc k) label q w =
    let rest = shared_below n k label q w in
    let split = sum_split n (λ v. ltb (label v) (suc k) && q v) (λ v. (label v == k) && q v)
    (λ v. ltb (label v) k && q v) w (λ v l. one_share (label v) k (q v) (w v)) in
    omega (arith, rest, split)

-- all of a sum is the sum of what has each label
pub sum_shared : (n k : ℕ) (label : ℕ → ℕ) (q : ℕ → Bool) (w : ℕ → ℕ) → ((v : ℕ) → v < n → label v < k)
    → sum_on (λ c. true) (λ c. sum_on (λ v. (label v == c) && q v) w n) k ≡ sum_on q w n
sum_shared n k label q w below =
    shared_below n k label q w ∙ sum_same n (λ v. ltb (label v) k && q v) q w w (λ v l. ap (λ b. b && q v) (lt-ltb (label v) k (below v l))) (λ v l. refl)

-- ---- components turned over

pub turn_agree : (t c b : Bool) → agree (turn t c) b ≡ agree c (turn t b)
turn_agree true true true = refl
turn_agree true true false = refl
turn_agree true false true = refl
turn_agree true false false = refl
turn_agree false c b = refl

pub turn_same : (t c : Bool) → agree c (turn t c) ≡ agree true (turn t true)
turn_same true true = refl
turn_same true false = refl
turn_same false true = refl
turn_same false false = refl

-- what a component has on one mask after it was turned over or not
pub turned_side : (n c : ℕ) (label : ℕ → ℕ) (old new turned : ℕ → Bool) (w : ℕ → ℕ) (b : Bool)
    → ((v : ℕ) → v < n → new v ≡ turn (turned (label v)) (old v))
    → sum_on (λ v. (label v == c) && agree (new v) b) w n ≡ sum_on (λ v. (label v == c) && agree (old v) (turn (turned c) b)) w n
turned_side n c label old new turned w b is = sum_same n (λ v. (label v == c) && agree (new v) b)
    (λ v. (label v == c) && agree (old v) (turn (turned c) b)) w w (λ v l. one v l) (λ v l. refl) where
      one : (v : ℕ) → v < n → ((label v == c) && agree (new v) b) ≡ ((label v == c) && agree (old v) (turn (turned c) b))
      one v l = elim (cases_Bool (label v == c)) [
        | inl t ↦ ap (λ z. (label v == c) && z) (ap (λ z. agree z b) (is v l) ∙ turn_agree (turned (label v)) (old v) b ∙
            ap (λ z. agree (old v) (turn (turned z) b)) (eqb-true _ _ t))
        | inr f ↦ and_left _ _ f ∙ sym (and_left _ _ f)
      ]
