-- Paths of a graph, and cases.
use Rattle.std.proofs.Common.{◌≡◌, ◌≢◌, ◌⊎◌, inl, inr, ℕ, zero, suc, ◌<◌, ◌≤◌, refl, sym, subst, arith}
use Rattle.std.proofs.lemmas.Bool.Decides.{eqb_tells}
use Rattle.std.proofs.lemmas.Grind.{common_steps}
use Rattle.dpl_groups.specs.Graph.{Graph, IsEdge, Leads, Reaches}
use Rattle.dpl_groups.specs.Graph.Leads.{once, more}
use Rattle.dpl_groups.specs.Walk.{set_at, below}

pub leads_trans : (g : Graph) (x y z : ℕ) → Leads g x y → Leads g y z → Leads g x z
leads_trans g _ _ z (once x y e) q = more x y z e q
leads_trans g _ _ z (more x y y' e p) q = more x y z e (leads_trans g y y' z p q)

pub reaches_trans : (g : Graph) (x y z : ℕ) → Reaches g x y → Reaches g y z → Reaches g x z
reaches_trans g x y z (inl e) q = subst (λ (n : ℕ). Reaches g n z) (sym e) q
reaches_trans g x y z (inr p) (inl e) = inr (subst (Leads g x) e p)
reaches_trans g x y z (inr p) (inr q) = inr (leads_trans g x y z p q)

pub reaches_edge : (g : Graph) (x y : ℕ) → IsEdge g x y → Reaches g x y
reaches_edge g x y e = inr (once x y e)

pub reaches_self : (g : Graph) (x y : ℕ) → x ≡ y → Reaches g x y
reaches_self g x y e = inl e

pub cases_le : (m n : ℕ) → (m ≤ n) ⊎ (n < m)
cases_le zero n = inl (omega arith)
cases_le (suc m) zero = inr (omega arith)
cases_le (suc m) (suc n) = elim (cases_le m n) [ inl h ↦ inl (omega (arith, h)) | inr h ↦ inr (omega (arith, h)) ]

pub set_same : {A : Type 0} (f : ℕ → A) (x z : ℕ) (a : A) → z ≡ x → set_at f x a z ≡ a
set_same f x z a e = elim (eqb_tells z x) [ inl h ↦ rw h.0 refl | inr h ↦ absurd (h.1 e) ]

pub set_other : {A : Type 0} (f : ℕ → A) (x z : ℕ) (a : A) → z ≢ x → set_at f x a z ≡ f z
set_other f x z a e = elim (eqb_tells z x) [ inl h ↦ absurd (e h.1) | inr h ↦ rw h.0 refl ]

pub below_is : (f : ℕ → ℕ) (n i : ℕ) → i < n → below f n i ≡ f i
below_is f n i h = grind (arith, common_steps)
