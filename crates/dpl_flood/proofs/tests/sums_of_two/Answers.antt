use Rattle.std.proofs.Common.{arith, ◌≡◌, ℕ, ◌<◌, zero, suc, refl, sym, ap, ◌∙◌, [], ◌∷◌, get_or}
use Rattle.dpl_laminar.specs.Changes.{IsSingles}
use Rattle.dpl_laminar.specs.Families.{Sets, IsFamily}
use Rattle.dpl_laminar.specs.Storing.{sets_of}
use Rattle.dpl_pack.specs.Nests.{inner_of}
use Rattle.dpl_pack.proofs.ClimbLemmas.{inner_single}
use Rattle.dpl_flood.proofs.ShoreLemmas.{top_total}
use Rattle.dpl_flood.proofs.tests.sums_of_two.Goals as goal

-- nothing is inside a single
single_inner : (f g : Sets) → IsSingles 2 f → g ≡ record f { value = g.value } → IsFamily g → (t : ℕ) → t < g.size → inner_of g (g.top t) t ≡ 0
single_inner f g s e fam t h =
    ap (λ z. inner_of g z t) (ap (λ (z : Sets). z.top t) e ∙ s.top t (omega (arith, h, ap (λ (z : Sets). z.size) e, s.size))) ∙ inner_single g fam t h

none_at : (t : ℕ) → ◌≡◌ {A = ℕ} (get_or (0 ∷ 0 ∷ []) t 0) 0
none_at zero = refl
none_at (suc zero) = refl
none_at (suc (suc t)) = refl

pub add_tops-requires-clause-inner : goal.add_tops-requires-clause-inner
add_tops-requires-clause-inner g c = λ t h.
    none_at t ∙ sym (single_inner (sets_of c.in_ok-family.family) (sets_of c.raise.new.self) c.in_ok-family.ensures.singles c.raise.ensures.rest c.raise.ensures.family t h)

pub add_tops-requires-clause-small : goal.add_tops-requires-clause-small
add_tops-requires-clause-small g c = λ t h.
    let f = sets_of c.raise.new.self in
    omega (
      arith,
      single_inner (sets_of c.in_ok-family.family) f c.in_ok-family.ensures.singles c.raise.ensures.rest c.raise.ensures.family t h,
      top_total f c.raise.ensures.family t h,
      c.raise.ensures.family.value_small (f.top t),
    )
