-- What a report of a solution says.
use Rattle.std.proofs.Common.{arith, ◌≡◌, ℕ, ◌≤◌, ◌↔◌, sym, ◌∙◌, subst, Bool, true, List, [], Option, None, Some}
use Rattle.std.specs.Prelude.{is_some}
use Rattle.dpl_sign.specs.declared.nets.Net.{Net}
use Rattle.dpl_sign.specs.declared.walks.Cycle.{Cycle}
use Rattle.dpl_sign.specs.Excess.{excess, all_edges}
use Rattle.dpl_report.specs.Plain.{PlainHead}
use Rattle.dpl_solve.specs.Solved.{IsSolution, kept_cost}
use Rattle.dpl_solve.proofs.FinishLemmas.{half_least, kept_least, least}
use Rattle.dpl_sign.proofs.AsideLaw.{none_aside}
use Rattle.dpl_core.specs.Reports.{CostsLeast}

-- the report has the colours, the cost, the edges set aside and the bound of a solution
pub least_of : (net : Net) (colours : List Bool) (cost : ℕ) (aside : List ℕ) (excess' : ℕ) (cs : List Cycle) (bound : ℕ)
    → IsSolution net colours cost aside excess' cs bound → (head : PlainHead) (listed : List ℕ) → head.colours ≡ colours
    → head.cost ≡ cost → head.bound ≡ bound → listed ≡ aside → CostsLeast net head listed
least_of net colours cost aside excess' cs bound s head listed ec et eb ea = record {
  half = λ others k. let h = half_least net colours others cost aside excess' cs bound s k in omega arith;
  kept = λ others k. subst (λ z. kept_cost net z ≤ kept_cost net others) (sym ec) (kept_least net colours others cost aside excess' cs bound s k);
  plane = subst (λ z. (z ≡ []) ↔ (excess net all_edges ≡ 0)) (sym (ea ∙ s.aside_is)) (none_aside net);
  all = λ plane others k. let h = least net colours others cost aside excess' cs bound s (s.aside_is ∙ (none_aside net).1 plane) k in omega arith;
}

-- where there is a corner weight, nothing follows of there being none
pub corner_stands : (corner : Option ℕ) (P : Type 0) → is_some corner ≡ true → corner ≡ None → P
corner_stands None P s e = absurd (cc)
corner_stands (Some n) P s e = absurd (cc)
