-- Pairs over tight chains are as long as the values together, and no pairs are shorter.
use Rattle.std.proofs.Common.{arith, ◌≡◌, ◌≢◌, ℕ, ◌*◌, ◌<◌, ◌≤◌, sym, ap, ◌∙◌, inl, inr, List, get_or}
use Rattle.std.proofs.lemmas.Bool.{cases_eq}
use Rattle.dpl_laminar.specs.Families.{Sets, IsFamily, load_of, total_of}
use Rattle.dpl_laminar.specs.Pairings.{IsPairing, pairs_sum}
use Rattle.dpl_laminar.proofs.Sums.{sum_same}
use Rattle.dpl_laminar.proofs.Duality.{loads_of_pairs, families_bound}
use Rattle.dpl_dual.specs.declared.crosses.Cross.{Cross}
use Rattle.dpl_dual.specs.declared.crosses.Dual.{Dual}
use Rattle.dpl_dual.specs.Chains.{Leads, length_of}
use Rattle.dpl_pack.specs.Points.{Point}
use Rattle.dpl_pack.specs.Floods.{IsFlood, leaving, AreTight}
use Rattle.dpl_pack.proofs.FloodLemmas.{flood_within}

times_none : (l x : ℕ) → x ≡ 0 → l * x ≡ x
times_none l x e = ap (λ z. l * z) e ∙ none l ∙ sym e
  where
    none : (l : ℕ) → l * 0 ≡ 0
    none l = omega arith

-- one times a number
pub times_one : (l x : ℕ) → l ≡ 1 → l * x ≡ x
times_one l x e = ap (λ z. z * x) e ∙ one x
  where
    one : (x : ℕ) → 1 * x ≡ x
    one x = omega arith

-- the values add up to the loads of the pairs
pub tight_total : (d : Dual) (terminals : List ℕ) (f : Sets) (mate : ℕ → ℕ) → AreTight d terminals f mate
    → total_of f ≡ pairs_sum f.size mate (load_of f)
tight_total d terminals f mate w =
    sym (loads_of_pairs f.size (2 * f.size) f.value f.holds mate ∙
    sum_same (2 * f.size) (λ k. leaving f.size mate (f.holds k) * f.value k) f.value (λ k l. elim (cases_eq (f.value k) 0) [
      | inl e ↦ times_none (leaving f.size mate (f.holds k)) (f.value k) e
      | inr ne ↦ times_one (leaving f.size mate (f.holds k)) (f.value k) (w.once k l (omega (arith, ne)))
    ]))

-- no pairing over chains is shorter
pub tight_least : (d : Dual) (terminals : List ℕ) (f : Sets) (point : ℕ → Point) (mate other : ℕ → ℕ) (long : ℕ → ℕ → ℕ)
    → IsFamily f → IsFlood d terminals f point → AreTight d terminals f mate → IsPairing f.size other
    → ((s t : ℕ) → s < f.size → t < f.size → s ≢ t
    → (xs : List Cross) × Leads d.crosses (get_or terminals s 0) xs (get_or terminals t 0) × (length_of xs ≤ long s t))
    → pairs_sum f.size mate (load_of f) ≤ pairs_sum f.size other long
tight_least d terminals f point mate other long family flood tight pairing chains =
    omega (
      arith,
      tight_total d terminals f mate tight,
      families_bound f long other family (λ s t hs ht ne.
          let c = chains s t hs ht ne in
          omega (arith, flood_within d terminals f point flood s t hs ht ne c.0 c.1, c.2)) pairing,
    )
