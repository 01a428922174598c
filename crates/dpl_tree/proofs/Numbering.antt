-- The numbers of the trees after an event are among those before it.
use Rattle.std.proofs.Common.{◌≡◌, ℕ, ap, ◌∙◌, inl, inr, List}
use Rattle.std.proofs.lemmas.Bool.{cases_eq, cases_Bool}
use Rattle.dpl_laminar.specs.Families.{Sets, has}
use Rattle.dpl_tree.specs.steps.Forests.{outer, inner, Forest, Grows, Folds, Opens, Walks}
use Rattle.dpl_tree.specs.Stages.{KeepsTrees}
use Rattle.dpl_tree.proofs.Growing.{outer_in, inner_in}

-- one event after another
pub trees_on : (x y z : Forest) → KeepsTrees x y → KeepsTrees y z → KeepsTrees x z
trees_on x y z a b i k =
    let w = b i k in
    let v = a w.0 w.1 in
    (v.0, v.1, w.2 ∙ v.2)

-- growth
pub grown_trees : (f : Sets) (x y : Forest) (s t o : ℕ) → x.place (f.top s) ≡ outer → Grows f x s t o y → KeepsTrees x y
grown_trees f x y s t o ps g i k = elim (cases_eq i (f.top o)) [
  | inl e ↦ (f.top s, outer_in ps, ap y.tree e ∙ g.tree_outer)
  | inr a ↦ elim (cases_eq i (f.top t)) [
    | inl e ↦ (f.top s, outer_in ps, ap y.tree e ∙ g.tree_inner)
    | inr b ↦ (i, λ e. k (g.place_others i b a ∙ e), g.tree_others i b a)
  ]
]

-- a new set
pub folded_trees : (x y : Forest) (cs : List ℕ) (meet set : ℕ) → x.place meet ≡ outer → Folds x cs meet set y → KeepsTrees x y
folded_trees x y cs meet set po o i k = elim (cases_eq i set) [
  | inl e ↦ (meet, outer_in po, ap y.tree e ∙ o.tree_set)
  | inr ne ↦ elim (cases_Bool (has cs i)) [
    | inl h ↦ absurd (k (o.place_child i h))
    | inr h ↦ (i, λ e. k (o.place_others i ne h ∙ e), o.tree_others i ne)
  ]
]

-- an inner set gives way
pub opened_trees : (x y : Forest) (set first room : ℕ) → x.place set ≡ inner → Opens x set first room y → KeepsTrees x y
opened_trees x y set first room pi o i k = elim (cases_eq i first) [
  | inl e ↦ (set, inner_in pi, ap y.tree e ∙ o.tree_first)
  | inr nf ↦ elim (cases_eq i set) [
    | inl e ↦ absurd (k (ap y.place e ∙ o.place_set))
    | inr ne ↦ (i, λ e. k (o.place_others i ne nf ∙ e), o.tree_others i nf)
  ]
]

-- a step of the walk around it
pub walked_trees : (x y : Forest) (cur o next : ℕ) (join : ℕ × ℕ) → x.place cur ≡ inner → Walks x cur o next join y → KeepsTrees x y
walked_trees x y cur o next join pi w i k = elim (cases_eq i next) [
  | inl e ↦ (cur, inner_in pi, ap y.tree e ∙ w.tree_inner)
  | inr b ↦ elim (cases_eq i o) [
    | inl e ↦ (cur, inner_in pi, ap y.tree e ∙ w.tree_outer)
    | inr a ↦ (i, λ e. k (w.place_others i a b ∙ e), w.tree_others i a b)
  ]
]
