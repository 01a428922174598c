-- An edge counts for the pieces of its two ends, where these are different.
use Rattle.std.proofs.Common.{arith, ◌≡◌, ◌+◌, ◌==◌, ℕ, Bool, true, false, cond, refl, sym, ap, ◌∙◌}
use Rattle.std.specs.Prelude.{◌&&◌, not}
use Rattle.std.proofs.lemmas.Bool.{eq-eqb, eqb-true, true≢false, false≢true}
use Rattle.dpl_sign.specs.Colourings.{agree}

by_tests : (x y z b : Bool) (w old : ℕ) → (x ≡ true → y ≡ true → z ≡ true) → (z ≡ true → x ≡ y) →
    cond {A = ℕ} (y && (not z && b)) w 0 + (cond {A = ℕ} (x && (not z && b)) w 0 + old) ≡ cond {A = ℕ} (not (agree x y) && b) w 0 + old
by_tests true true true b w old h k = omega arith
by_tests true true false b w old h k = absurd (false≢true (h refl refl))
by_tests true false true b w old h k = absurd (true≢false (k refl))
by_tests true false false b w old h k = omega arith
by_tests false true true b w old h k = absurd (false≢true (k refl))
by_tests false true false b w old h k = omega arith
by_tests false false true b w old h k = omega arith
by_tests false false false b w old h k = omega arith

-- what both ends add to the sum of a piece k
pub both_ends : (p q k : ℕ) (b : Bool) (w old : ℕ) →
    cond {A = ℕ} ((q == k) && (not (p == q) && b)) w 0 + (cond {A = ℕ} ((p == k) && (not (p == q) && b)) w 0 + old)
    ≡ cond {A = ℕ} (not (agree (p == k) (q == k)) && b) w 0 + old
both_ends p q k b w old = by_tests (p == k) (q == k) (p == q) b w old
    (λ x y. eq-eqb p q (eqb-true p k x ∙ sym (eqb-true q k y)))
    (λ z. ap (λ n. n == k) (eqb-true p q z))
