-- A set that gives way brings no members into one top.
use Rattle.std.proofs.Common.{◌≡◌, ◌≢◌, ℕ, ◌*◌, ◌<◌, ◌≤◌, sym, ap, ◌∙◌, true, inl, inr}
use Rattle.std.proofs.lemmas.Bool.{cases_eq}
use Rattle.dpl_laminar.specs.Families.{Sets, IsLaminar, has}
use Rattle.dpl_laminar.specs.Changes.{Releases, IsExpanded}
use Rattle.dpl_laminar.proofs.Numbers.{some_none}
use Rattle.dpl_tree.specs.steps.Forests.{Forest, inner}
use Rattle.dpl_tree.specs.Stages.{IsStage}
use Rattle.dpl_tree.proofs.Growing.{inner_in}
use Rattle.dpl_tree.proofs.Unfolding.{released_of}

-- no other top is one of the children that come in its place
apart_from : (n : ℕ) (f g : Sets) (set a b : ℕ) → IsLaminar n f → n ≤ set → set < 2 * n → Releases n f set g → a < n
    → b < n → f.top a ≢ set → f.top b ≡ set → g.top a ≡ g.top b → f.top a ≡ f.top b
apart_from n f g set a b lam low high q ha hb na zb e =
    let held : f.holds set b ≡ true = ap (λ z. f.holds z b) (sym zb) ∙ lam.tops.top_holds b hb in
    let w = lam.children.covered set b low high hb held in
    let top : f.top a ≡ w.0 = sym (q.top_others a ha na) ∙ e ∙ q.top_inside w.0 b hb w.1 w.2 in
    some_none (f.parent (f.top a)) set (lam.children.child set (f.top a) high (ap (has (f.children set)) top ∙ w.1)).2
    (lam.tops.top_parent a ha)

-- members of one top had one before
pub parted_tops : {n : ℕ} {f g : Sets} {dist : ℕ → ℕ → ℕ} {x : Forest} {set : ℕ} → IsStage n f dist x → n ≤ set
    → x.place set ≡ inner → IsExpanded f set g → (a b : ℕ) → a < n → b < n → g.top a ≡ g.top b
    → f.top a ≡ f.top b
parted_tops {n} {f} {g} {dist} {x} {set} st low is ex a b ha hb e =
    let lam = st.rest.laminar in
    let q : Releases n f set g = released_of n f g set st.rest.size ex in
    let high : set < 2 * n = (st.tree.tops set (inner_in is)).0 in
    elim (cases_eq (f.top a) set) [
      | inl za ↦ elim (cases_eq (f.top b) set) [
        | inl zb ↦ za ∙ sym zb
        | inr nb ↦ sym (apart_from n f g set b a lam low high q hb ha nb za (sym e))
      ]
      | inr na ↦ elim (cases_eq (f.top b) set) [
        | inl zb ↦ apart_from n f g set a b lam low high q ha hb na zb e
        | inr nb ↦ sym (q.top_others a ha na) ∙ e ∙ q.top_others b hb nb
      ]
    ]
