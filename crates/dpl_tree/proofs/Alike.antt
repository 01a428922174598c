-- Loads and totals where a set of value 0 is made or taken away, and pairs and trees over equal loads.
use Rattle.std.proofs.Common.{arith, ◌≡◌, ℕ, ◌*◌, ◌<◌, ◌⊎◌, refl, sym, ap, ◌∙◌, Bool, true, false, cond, inl, inr, Option}
use Rattle.std.proofs.lemmas.Bool.{cases_eq}
use Rattle.dpl_laminar.specs.Loads.{differ}
use Rattle.dpl_laminar.specs.Families.{Sets}
use Rattle.dpl_laminar.specs.Changes.{IsShrunk, IsExpanded}
use Rattle.dpl_laminar.proofs.Sums.{sum_same}
use Rattle.dpl_tree.specs.steps.Forests.{Forest, IsForest}
use Rattle.dpl_tree.specs.Mates.{ArePairs, loads, totals}

-- the values are the same, and so is each set that has one
pub record AreAlike (n : ℕ) (f g : Sets) : Type 0 where
  pub value : (i : ℕ) → i < 2 * n → g.value i ≡ f.value i
  pub sets : (i : ℕ) → i < 2 * n → (f.value i ≡ 0) ⊎ ((m : ℕ) → m < n → g.holds i m ≡ f.holds i m)

zero_both : (a b : Bool) (x y : ℕ) → x ≡ 0 → y ≡ 0 → cond a x 0 ≡ cond b y 0
zero_both true true x y e e' = omega (arith, e, e')
zero_both true false x y e e' = e
zero_both false true x y e e' = sym e'
zero_both false false x y e e' = refl

pub loads_alike : (n : ℕ) (f g : Sets) → AreAlike n f g → (s t : ℕ) → s < n → t < n → loads n g s t ≡ loads n f s t
loads_alike n f g a s t hs ht = sum_same (2 * n) _ _ (λ i hi. elim (a.sets i hi) [
  | inl z ↦ zero_both (differ (g.holds i s) (g.holds i t)) (differ (f.holds i s) (f.holds i t)) (g.value i) (f.value i) (a.value i hi ∙ z) z
  | inr h ↦ ap (λ z. cond (differ z (g.holds i t)) (g.value i) 0) (h s hs) ∙
      ap (λ z. cond (differ (f.holds i s) z) (g.value i) 0) (h t ht) ∙
      ap (λ z. cond (differ (f.holds i s) (f.holds i t)) z 0) (a.value i hi)
])

pub totals_alike : (n : ℕ) (f g : Sets) → AreAlike n f g → (s : ℕ) → s < n → totals n g s ≡ totals n f s
totals_alike n f g a s hs = sum_same (2 * n) _ _ (λ i hi. elim (a.sets i hi) [
  | inl z ↦ zero_both (g.holds i s) (f.holds i s) (g.value i) (f.value i) (a.value i hi ∙ z) z
  | inr h ↦ ap (λ z. cond z (g.value i) 0) (h s hs) ∙ ap (λ z. cond (f.holds i s) z 0) (a.value i hi)
])

pub shrunk_alike : (n : ℕ) (f g : Sets) (cs : _) (joins : _) (set : ℕ) → f.size ≡ n → IsShrunk f cs joins set g → AreAlike n f g
shrunk_alike n f g cs joins set e s = record {
  value = λ i hi. s.value i;
  sets = λ i hi. elim (cases_eq i set) [
    | inl z ↦ inl (sym (s.value i) ∙ ap g.value z ∙ s.value_set)
    | inr z ↦ inr (λ m hm. s.sets.holds_others i m (omega (arith, e)) z (omega (arith, e)))
  ];
}

pub expanded_alike : (n : ℕ) (f g : Sets) (set : ℕ) → f.size ≡ n → f.value set ≡ 0 → IsExpanded f set g → AreAlike n f g
expanded_alike n f g set e none s = record {
  value = λ i hi. s.value i;
  sets = λ i hi. elim (cases_eq i set) [
    | inl z ↦ inl (ap f.value z ∙ none)
    | inr z ↦ inr (λ m hm. s.sets.holds_others i m (omega (arith, e)) z (omega (arith, e)))
  ];
}

pub pairs_alike : (n : ℕ) (f : Sets) (load load' dist : ℕ → ℕ → ℕ) (mate : ℕ → Option ℕ)
    → ((s t : ℕ) → s < n → t < n → load' s t ≡ load s t) → ArePairs n f load dist mate
    → ArePairs n f load' dist mate
pairs_alike n f load load' dist mate e p = record {
  range = p.range;
  back = p.back;
  leaves = p.leaves;
  tight = λ m t hm k. e m t hm (p.range m t hm k) ∙ p.tight m t hm k;
  alone = p.alone;
}

pub tree_alike : (n : ℕ) (f : Sets) (load load' dist : ℕ → ℕ → ℕ) (x : Forest)
    → ((s t : ℕ) → s < n → t < n → load' s t ≡ load s t) → IsForest n f load dist x → IsForest n f load' dist x
tree_alike n f load load' dist x e t = record {
  tops = t.tops;
  root_alone = t.root_alone;
  outer_mate = t.outer_mate;
  inner_pair = t.inner_pair;
  inner_mate = t.inner_mate;
  link_range = t.link_range;
  link_entry = t.link_entry;
  link_outer = t.link_outer;
  link_rank = t.link_rank;
  link_tight = λ i k. e (x.above i) (x.entry i) (t.link_range i k).0 (t.link_range i k).1 ∙ t.link_tight i k;
}
