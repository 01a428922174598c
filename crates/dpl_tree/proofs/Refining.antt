use Rattle.std.proofs.Common.{◌≡◌, ◌≢◌, ℕ, ◌*◌, ◌<◌, ◌≤◌, sym, ap, ◌∙◌, inl, inr, Option}
use Rattle.std.proofs.lemmas.Bool.{cases_eq}
use Rattle.dpl_laminar.proofs.Numbers.{some_none}
use Rattle.dpl_laminar.specs.Changes.{Releases}
use Rattle.dpl_laminar.specs.Families.{Sets, IsLaminar}
use Rattle.dpl_tree.specs.Mates.{ArePairs}

-- members of one top after a set was taken away were of one top before
pub tops_refine : (n : ℕ) (f g : Sets) (set : ℕ) → IsLaminar n f → Releases n f set g → n ≤ set → set < 2 * n
    → (m s : ℕ) → m < n → s < n → g.top m ≡ g.top s → f.top m ≡ f.top s
tops_refine n f g set p q ns hs m s hm hs' e = elim (cases_eq (f.top m) set) [
  | inl a ↦ elim (cases_eq (f.top s) set) [
    | inl b ↦ a ∙ sym b
    | inr b ↦ absurd (mixed m s hm hs' a b e)
  ]
  | inr a ↦ elim (cases_eq (f.top s) set) [
    | inl b ↦ absurd (mixed s m hs' hm b a (sym e))
    | inr b ↦ sym (q.top_others m hm a) ∙ e ∙ q.top_others s hs' b
  ]
] where
  mixed : (a b : ℕ) → a < n → b < n → f.top a ≡ set → f.top b ≢ set → g.top a ≡ g.top b → ⊥
  mixed a b ha hb ea nb k =
      let c = p.children.covered set a ns hs ha (ap (λ z. f.holds z a) (sym ea) ∙ p.tops.top_holds a ha) in
      let v = p.children.child set c.0 hs c.1 in
      some_none (f.parent c.0) set v.2 (ap f.parent (sym (q.top_inside c.0 a ha c.1 c.2) ∙ k ∙ q.top_others b hb nb) ∙ p.tops.top_parent b hb)

-- the pairs stay pairs when a set is taken away
pub refined_pairs : (n : ℕ) (f g : Sets) (load dist : ℕ → ℕ → ℕ) (mate : ℕ → Option ℕ) (set : ℕ)
    → IsLaminar n f → Releases n f set g → n ≤ set → set < 2 * n → ArePairs n f load dist mate
    → ArePairs n g load dist mate
refined_pairs n f g load dist mate set p q ns hs a = record {
  range = a.range;
  back = a.back;
  leaves = λ m t hm k e. a.leaves m t hm k (tops_refine n f g set p q ns hs m t hm (a.range m t hm k) e);
  tight = a.tight;
  alone = λ m s t u hm hs' e k l. a.alone m s t u hm hs' (tops_refine n f g set p q ns hs m s hm hs' e) k l;
}
