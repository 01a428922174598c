-- Why a stage goes on, and what a change of values keeps.
use Rattle.std.proofs.Common.{arith, ◌≡◌, ℕ, zero, suc, ◌+◌, ◌*◌, ◌%◌, ◌<◌, ◌⊎◌, refl, sym, ap, ◌∙◌, subst}
use Rattle.std.proofs.Common.{Bool, true, false, cond, inl, inr, Some, List, length}
use Rattle.std.proofs.lemmas.Bool.{cases_Bool}
use Rattle.dpl_laminar.specs.Loads.{size_of}
use Rattle.dpl_laminar.specs.Families.{Sets, IsFamily, IsLaminar, has, next_in}
use Rattle.dpl_laminar.proofs.Numbers.{some_none, has_at, place_in}
use Rattle.dpl_tree.specs.steps.Forests.{Forest}
use Rattle.dpl_tree.specs.Stages.{HasParity, IsStage}

-- ---- a next step exists

pub misses : (n : ℕ) (set : ℕ → Bool) → (size_of n set ≡ n) ⊎ ((m : ℕ) × (m < n) × (set m ≡ false))
misses zero set = inl refl
misses (suc n) set =
    let bit : Bool → ℕ = λ z. cond z 1 0 in
    elim (cases_Bool (set n)) [
      | inr f ↦ inr (n, omega arith, f)
      | inl t ↦ elim (misses n set) [
        | inl e ↦ inl (omega (arith, e, ap bit t))
        | inr w ↦ inr (w.0, omega (arith, w.1), w.2)
      ]
    ]

next_low : (cs : List ℕ) (i : ℕ) → 0 < length cs → (i + 1) % length cs < length cs
next_low cs i h = omega (arith, h)

-- a join lies inside one top
pub record IsInside (n : ℕ) (f : Sets) (pair : ℕ × ℕ) : Type 0 where
  pub from : pair.0 < n
  pub to : pair.1 < n
  pub same : f.top pair.0 ≡ f.top pair.1

pub join_inside : (n : ℕ) (f : Sets) → f.size ≡ n → IsFamily f → IsLaminar n f → (c p : ℕ) → c < 2 * n → f.parent c ≡ Some p → IsInside n f (f.join c)
join_inside n f size fam lam c p hc e =
    let tie = fam.tied c p e in
    let live : f.live c ≡ true = elim (cases_Bool (f.live c)) [
      | inl l ↦ l
      | inr l ↦ some_none (f.parent c) p e (lam.children.dead_parent c hc l)
    ] in
    let v = lam.children.parent_range c p hc live e in
    let at = place_in (f.children p) c v.3 in
    let next : f.after c ≡ next_in (f.children p) at.0 = ap f.after (sym at.2) ∙ fam.around p at.0 at.1 in
    let low : 0 < length (f.children p) = omega (arith, at.1) in
    let kid = ap (has (f.children p)) next ∙ has_at (f.children p) _ (next_low (f.children p) at.0 low) in
    let h0 : (f.join c).0 < n = omega (arith, tie.from_range, size) in
    let h1 : (f.join c).1 < n = omega (arith, tie.to_range, size) in
    record {
      from = h0;
      to = h1;
      same = lam.tops.top_shared p (f.join c).0 (f.join c).1 v.1 h0 h1
          (lam.children.child_holds p c (f.join c).0 v.1 h0 v.3 tie.from)
          (lam.children.child_holds p (f.after c) (f.join c).1 v.1 h1 kid tie.to);
    }

-- ---- a change of values

pub stage_parity : (n : ℕ) (f : Sets) (dist : ℕ → ℕ → ℕ) (x : Forest) → IsStage n f dist x → HasParity n f x.place f.value
stage_parity n f dist x s = record { in_top = s.rest.parity; in_tree = s.even }

pub laminar_sized : (n : ℕ) (g : Sets) → g.size ≡ n → IsFamily g → IsLaminar n g
laminar_sized n g e fam = subst (λ (z : ℕ). IsLaminar z g) e fam.laminar
