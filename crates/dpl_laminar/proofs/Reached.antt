-- Each set is reached by parents from each of its members.
use Rattle.std.proofs.Common.{arith, ◌≡◌, ℕ, zero, suc, ◌*◌, ◌<◌, ◌≤◌, refl, sym, ap, ◌∙◌, Bool, true, false, cond, inl, inr, Some}
use Rattle.std.specs.Prelude.{option_and_then}
use Rattle.std.proofs.lemmas.Bool.{cases_eq, cases_lt, eqb-true}
use Rattle.dpl_laminar.specs.Loads.{size_of}
use Rattle.dpl_laminar.specs.Families.{Sets, IsFamily, climb, AreReached}
use Rattle.dpl_laminar.proofs.Numbers.{true_false}
use Rattle.dpl_laminar.proofs.Sums.{sum_most}
use Rattle.dpl_laminar.proofs.Released.{child_misses}

bit_most : (a b : Bool) → (a ≡ true → b ≡ true) → cond a 1 0 ≤ cond b 1 0
bit_most false b h = omega arith
bit_most true true h = omega arith
bit_most true false h = true_false false (h refl) refl

-- a set that misses a member of another one and holds no further members is smaller
pub size_less : (n : ℕ) (a b : ℕ → Bool) → ((m : ℕ) → m < n → a m ≡ true → b m ≡ true) → (x : ℕ) → x < n → b x ≡ true → a x ≡ false → size_of n a < size_of n b
size_less zero a b inside x h bx ax = absurd (omega arith)
size_less (suc n) a b inside x h bx ax =
    let bit : Bool → ℕ = λ z. cond z 1 0 in
    elim (cases_eq x n) [
      | inl e ↦ omega (
        arith,
        ap bit (ap b (sym e) ∙ bx),
        ap bit (ap a (sym e) ∙ ax),
        sum_most n (λ m. bit (a m)) (λ m. bit (b m)) (λ m l. bit_most (a m) (b m) (inside m (omega arith))),
      )
      | inr ne ↦ omega (arith, bit_most (a n) (b n) (inside n (omega arith)), size_less n a b (λ m l. inside m (omega arith)) x (omega arith) bx ax)
    ]

pub size_most : (n : ℕ) (p : ℕ → Bool) → size_of n p ≤ n
size_most zero p = omega arith
size_most (suc n) p = omega (arith, size_most n p, bit (p n))
  where
    bit : (b : Bool) → cond {A = ℕ} b 1 0 ≤ 1
    bit true = omega arith
    bit false = omega arith

reached : (f : Sets) → IsFamily f → (bound i m : ℕ) → size_of f.size (f.holds i) ≤ bound → i < 2 * f.size
    → m < f.size → f.live i ≡ true → f.holds i m ≡ true
    → (k : ℕ) × (k < size_of f.size (f.holds i)) × (climb f m k ≡ Some i)
reached f p zero i m small hi hm live h = absurd (omega (arith, small, p.laminar.sets.odd i hi live))
reached f p (suc bound) i m small hi hm live h = elim (cases_lt i f.size) [
  | inl single ↦ (0, omega (arith, p.laminar.sets.odd i hi live), ap Some (sym (eqb-true i m (sym (p.laminar.sets.single i m single hm) ∙ h))))
  | inr large ↦
      let w = p.laminar.children.covered i m large hi hm h in
      let v = p.laminar.children.child i w.0 hi w.1 in
      let x = child_misses f.size f p.laminar i w.0 large hi live w.1 in
      let less : size_of f.size (f.holds w.0) < size_of f.size (f.holds i) =
      size_less f.size (f.holds w.0) (f.holds i) (λ a l k. p.laminar.children.child_holds i w.0 a hi l w.1 k) x.0
      x.1 x.2 x.3 in
      let r = reached f p bound w.0 m (omega arith) v.0 hm v.1 w.2 in
      (suc r.0, omega (arith, r.1), ap (option_and_then f.parent) r.2 ∙ v.2)
]

pub all_reached : (f : Sets) → IsFamily f → AreReached f
all_reached f p i m hi hm live h = reached f p (size_of f.size (f.holds i)) i m (omega arith) hi hm live h
