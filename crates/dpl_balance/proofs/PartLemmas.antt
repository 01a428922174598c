-- The list of all components, in any order.
use Rattle.std.proofs.Common.{arith, inl, inr, ◌≡◌, ◌<◌, ◌≤◌, ◌==◌, ℕ, zero, suc, Bool, true, false, List, [], ◌∷◌}
use Rattle.std.proofs.Common.{length, refl, sym, ap, subst, ◌∙◌, All, length-append}
use Rattle.std.specs.Prelude.{sum_by, IsPermutation}
use Rattle.std.specs.List.{IsDistinct, list_any}
use Rattle.std.proofs.lemmas.Bool.{cases_Bool, eqb-true, eq-eqb, ne_eqb, both_ways}
use Rattle.std.proofs.lemmas.List.Sums.{sum_by_push}
use Rattle.std.proofs.lemmas.List.Elements.{All-nil, All-push}
use Rattle.std.proofs.lemmas.List.Sorted.{All-permutation, length_permutation, sum_by-IsPermutation}
use Rattle.std.proofs.lemmas.Map.Keys.{IsDistinct-push, IsDistinct-IsPermutation}
use Rattle.dpl_cycle.specs.Sums.{sum_on}
use Rattle.dpl_balance.specs.declared.turning.Part.{Part}
use Rattle.dpl_balance.specs.Balance.{difference}
use Rattle.dpl_balance.specs.Parts.{part_at, parts_below, have_one_number, cells_by, total_after, AreEven}
use Rattle.dpl_balance.proofs.SettleLemmas.{IsUnlike}

pub all_parts : (a b : List ℕ) (P : Part → Type 0) (k : ℕ) → ((c : ℕ) → c < k → P (part_at a b c)) → All P (parts_below a b k)
all_parts a b P zero each = All-nil P
all_parts a b P (suc k) each = All-push P (parts_below a b k) (part_at a b k) (all_parts a b P k (λ c l. each c (omega arith))) (each k (omega arith))

pub parts_long : (a b : List ℕ) (k : ℕ) → length (parts_below a b k) ≡ k
parts_long a b zero = refl
parts_long a b (suc k) = let n = parts_long a b k in length-append (parts_below a b k) (part_at a b k ∷ []) ∙ omega (arith, n)

pub sum_parts : (a b : List ℕ) (f : Part → ℕ) (k : ℕ) → sum_by f (parts_below a b k) ≡ sum_on (λ c. true) (λ c. f (part_at a b c)) k
sum_parts a b f zero = refl
sum_parts a b f (suc k) = sum_by_push f (parts_below a b k) (part_at a b k) ∙ omega (arith, sum_parts a b f k)

-- ---- no two have one number

none_after : (xs : List Part) (p : Part) → All (λ (q : Part). q.number < p.number) xs → list_any (have_one_number p) xs ≡ false
none_after [] p l = refl
none_after (x ∷ xs) p l =
    let first : x.number < p.number = l 0 x (omega arith) in
    let away : have_one_number p x ≡ false = ne_eqb p.number x.number (λ e. omega (arith, first, e)) in
    rw away (none_after xs p (λ k d m. l (suc k) d (omega arith)))

flips : (p q : Part) → have_one_number p q ≡ have_one_number q p
flips p q = elim (cases_Bool (have_one_number p q)) [
  | inl t ↦ t ∙ sym (eq-eqb q.number p.number (sym (eqb-true p.number q.number t)))
  | inr f ↦ f ∙ sym (ne_eqb q.number p.number (λ e. both_ways _ f (eq-eqb p.number q.number (sym e))))
]

pub distinct_parts : (a b : List ℕ) (k : ℕ) → IsDistinct have_one_number (parts_below a b k)
unfolding IsDistinct
distinct_parts a b zero = tt
distinct_parts a b (suc k) = IsDistinct-push (record {
  refl = λ x. eq-eqb x.number x.number refl;
  symm = flips;
  congr = λ x y z e. ap (λ n. n == z.number) (eqb-true x.number y.number e);
}) (parts_below a b k) (part_at a b k) (distinct_parts a b k)
    (none_after (parts_below a b k) (part_at a b k) (all_parts a b (λ (q : Part). q.number < k) k (λ c l. l)))

-- ---- the same of the parts in another order

pub moved_distinct : (a b : List ℕ) (k : ℕ) (parts : List Part) → IsPermutation (parts_below a b k) parts → IsDistinct have_one_number parts
moved_distinct a b k parts p = IsDistinct-IsPermutation have_one_number flips (parts_below a b k) parts p (distinct_parts a b k)

pub moved_long : (a b : List ℕ) (k : ℕ) (parts : List Part) → IsPermutation (parts_below a b k) parts → length parts ≡ k
moved_long a b k parts p = length_permutation (parts_below a b k) parts p ∙ parts_long a b k

pub moved_all : (a b : List ℕ) (k : ℕ) (parts : List Part) (P : Part → Type 0)
    → IsPermutation (parts_below a b k) parts → ((c : ℕ) → c < k → P (part_at a b c)) → All P parts
moved_all a b k parts P p each = All-permutation P (parts_below a b k) parts p (all_parts a b P k each)

pub moved_sum : (a b : List ℕ) (k : ℕ) (parts : List Part) (f : Part → ℕ)
    → IsPermutation (parts_below a b k) parts → sum_by f parts ≡ sum_on (λ c. true) (λ c. f (part_at a b c)) k
moved_sum a b k parts f p = sum_by-IsPermutation f (parts_below a b k) parts p ∙ sum_parts a b f k

-- what settling the parts in some order leaves of the components
pub even_in_order : (a b : List ℕ) (parts : List Part) (turned : List Bool)
    → IsPermutation (parts_below a b (length a)) parts
    → ((most : ℕ) → All (IsUnlike most) parts → difference (sum_by (cells_by turned false) parts) (sum_by (cells_by turned true) parts) ≤ most)
    → AreEven a b turned
even_in_order a b parts turned p even most each =
    let l : sum_by (cells_by turned false) parts ≡ total_after a b turned false = moved_sum a b (length a) parts (cells_by turned false) p in
    let r : sum_by (cells_by turned true) parts ≡ total_after a b turned true = moved_sum a b (length a) parts (cells_by turned true) p in
    let D : ℕ → Type 0 = λ z. difference z (total_after a b turned true) ≤ most in
    let E : ℕ → Type 0 = λ z. difference (sum_by (cells_by turned false) parts) z ≤ most in
    subst D l (subst E r (even most (moved_all a b (length a) parts (IsUnlike most) p each)))
