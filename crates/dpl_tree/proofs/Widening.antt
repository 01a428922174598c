-- Outer members stay outer through each event.
use Rattle.std.proofs.Common.{arith, ◌≡◌, ◌≢◌, ℕ, zero, suc, ◌+◌, ◌*◌, ◌/◌, ◌<◌, refl, sym, ap, ◌∙◌, subst, inl, inr}
use Rattle.std.proofs.Common.{Option, true, List, [], ◌∷◌, ◌++◌, length, get_or, set, get_or-set_other}
use Rattle.std.proofs.lemmas.Bool.{cases_eq, cases_Bool}
use Rattle.dpl_laminar.specs.Families.{Sets, has}
use Rattle.dpl_laminar.specs.Changes.{Gathers, IsShrunk, IsExpanded}
use Rattle.dpl_laminar.proofs.Numbers.{true_false, some_none, has_head, has_tail}
use Rattle.dpl_tree.specs.declared.tree.Tree.{Tree}
use Rattle.dpl_tree.specs.declared.tree.Label.TheVariants.{Free, Outer, Inner}
use Rattle.dpl_tree.specs.steps.Forests.{outer, Forest, Folds, Opens}
use Rattle.dpl_tree.specs.Stages.{IsStage}
use Rattle.dpl_tree.specs.Stages.{Widens, WidensBy}
use Rattle.dpl_tree.specs.steps.Joins.{tops_from}
use Rattle.dpl_tree.specs.Views.{place_in, place_of, forest_of}
use Rattle.dpl_tree.specs.steps.Opened.{IsOpening, around, Lists, lists_of, walked_times}
use Rattle.dpl_tree.proofs.Growing.{inner_in, outer_inner_no}
use Rattle.dpl_tree.proofs.Unfolding.{released_of}

-- ---- growth

-- a new outer set keeps the outer members
pub folded_widens : (n : ℕ) (f g : Sets) (dist : ℕ → ℕ → ℕ) (x y : Forest) (joins : List (ℕ × ℕ)) (cs ds : List ℕ) (meet set : ℕ)
    → IsStage n f dist x → cs ≡ ds → IsShrunk f cs joins set g → Folds x ds meet set y
    → Widens n f x.place g y.place
folded_widens n f g dist x y joins cs ds meet set st e sh d0 =
    let q : Gathers n f cs set g = subst (λ (z : ℕ). Gathers z f cs set g) st.rest.size sh.sets in
    let d : Folds x cs meet set y = subst (λ (z : List ℕ). Folds x z meet set y) (sym e) d0 in
    let lam = st.rest.laminar in
    let new = λ (a : ℕ) (ha : a < n) (z : f.top a ≡ set). true_false {P = ⊥} (f.live set) (ap f.live (sym z) ∙ lam.tops.top_live a ha) q.was_free in
    record {
      outer_stays = λ a ha p. elim (cases_Bool (has cs (f.top a))) [
        | inl k ↦ ap y.place (q.top_inside a ha k) ∙ d.place_set
        | inr k ↦ ap y.place (q.top_others a ha k) ∙ d.place_others (f.top a) (new a ha) k ∙ p
      ];
      together = λ a b ha hb p z. elim (cases_Bool (has cs (f.top a))) [
        | inl k ↦ q.top_inside a ha k ∙ sym (q.top_inside b hb (ap (has cs) (sym z) ∙ k))
        | inr k ↦ q.top_others a ha k ∙ z ∙ sym (q.top_others b hb (ap (has cs) (sym z) ∙ k))
      ];
    }

-- the top that a join leads from is one of the tops that the joins around lead from
join_from : (f : Sets) (left right : List (ℕ × ℕ)) (s t : ℕ) → has (tops_from f (left ++ (s, t) ∷ right)) (f.top s) ≡ true
join_from f [] right s t = has_head (f.top s) (f.top s) (tops_from f right) refl
join_from f (j ∷ left) right s t =
    let rest : List ℕ = tops_from f (left ++ (s, t) ∷ right) in
    elim (cases_eq (f.top j.0) (f.top s)) [
      | inl e ↦ has_head (f.top j.0) (f.top s) rest e
      | inr ne ↦ has_tail (f.top j.0) (f.top s) rest ne ∙ join_from f left right s t
    ]

-- no top but the new set has become outer
pub folded_by : {n : ℕ} {f g : Sets} {dist : ℕ → ℕ → ℕ} {x y : Forest} {joins js : List (ℕ × ℕ)} {cs ds : List ℕ} {meet set : ℕ}
    → (left right : List (ℕ × ℕ)) (s t : ℕ) → IsStage n f dist x → s < n → joins ≡ left ++ (s, t) ∷ right → js ≡ joins
    → cs ≡ tops_from f js → ds ≡ tops_from f js → IsShrunk f cs js set g → Folds x ds meet set y
    → WidensBy n f x.place g y.place s
folded_by {n} {f} {g} {dist} {x} {y} {joins} {js} {cs} {ds} {meet} {set} left right s t st hs is seen ec ed sh d =
    let q : Gathers n f cs set g = subst (λ (z : ℕ). Gathers z f cs set g) st.rest.size sh.sets in
    let lam = st.rest.laminar in
    let k : has cs (f.top s) ≡ true = ap (λ z. has z (f.top s)) (ec ∙ ap (tops_from f) (seen ∙ is)) ∙ join_from f left right s t in
    let same = λ (m : ℕ) (hm : m < n) (i : has cs (f.top m) ≡ true). q.top_inside m hm i ∙ sym (q.top_inside s hs k) in
    record {
      below = hs;
      tops = λ m hm ne. elim (cases_Bool (has cs (f.top m))) [
        | inl i ↦ absurd (ne (same m hm i))
        | inr i ↦ q.top_others m hm i
      ];
      others = λ m hm ne p. elim (cases_Bool (has cs (f.top m))) [
        | inl i ↦ absurd (ne (same m hm i))
        | inr i ↦
            let old : f.top m ≢ set = λ z. true_false {P = ⊥} (f.live set) (ap f.live (sym z) ∙ lam.tops.top_live m hm) q.was_free in
            sym (d.place_others (f.top m) old (ap (λ z. has z (f.top m)) (ed ∙ sym ec) ∙ i)) ∙
            ap y.place (sym (q.top_others m hm i)) ∙ p
      ];
    }

-- ---- a set that gives way

-- what is no child stands after the walk as it did
pub walked_others : (l : Lists) (sets : List ℕ) (joins : List (ℕ × ℕ)) (i r : ℕ)
    → ((j : ℕ) → j < length sets → get_or sets j 0 ≢ i) → 2 * r < length sets
    → place_in (walked_times l sets joins r).labels i ≡ place_in l.labels i
walked_others l sets joins i zero none h = refl
walked_others l sets joins i (suc r) none h =
    let m : Lists = walked_times l sets joins r in
    let o : ℕ = get_or sets (2 * r + 1) 0 in
    let next : ℕ = get_or sets (2 * r + 2) 0 in
    let a : i ≢ o = λ z. none (2 * r + 1) (omega (arith, h)) (sym z) in
    let b : i ≢ next = λ z. none (2 * r + 2) (omega (arith, h)) (sym z) in
    ap place_of (get_or-set_other (set m.labels o Outer) next i Inner Free b ∙
    get_or-set_other m.labels o i Outer Free a) ∙ walked_others l sets joins i r none (omega (arith, h))

-- nor does it stand in another tree
pub walked_trees_others : (l : Lists) (sets : List ℕ) (joins : List (ℕ × ℕ)) (i r : ℕ)
    → ((j : ℕ) → j < length sets → get_or sets j 0 ≢ i) → 2 * r < length sets
    → get_or (walked_times l sets joins r).trees i 0 ≡ get_or l.trees i 0
walked_trees_others l sets joins i zero none h = refl
walked_trees_others l sets joins i (suc r) none h =
    let m : Lists = walked_times l sets joins r in
    let o : ℕ = get_or sets (2 * r + 1) 0 in
    let next : ℕ = get_or sets (2 * r + 2) 0 in
    let number : ℕ = get_or m.trees (get_or sets (2 * r) 0) 0 in
    let a : i ≢ o = λ z. none (2 * r + 1) (omega (arith, h)) (sym z) in
    let b : i ≢ next = λ z. none (2 * r + 2) (omega (arith, h)) (sym z) in
    get_or-set_other (set m.trees o number) next i number 0 b ∙
    get_or-set_other m.trees o i number 0 a ∙ walked_trees_others l sets joins i r none (omega (arith, h))

-- a set that gives way keeps the outer members
pub given_widens : (n : ℕ) (f g : Sets) (dist : ℕ → ℕ → ℕ) (t0 t1 t2 : Tree) (mates new : List (Option ℕ))
    → (set : ℕ) (sets : List ℕ) (joins : List (ℕ × ℕ)) (p : ℕ) → IsStage n f dist (forest_of t0 mates)
    → IsOpening n f dist (forest_of t0 mates) set (around sets joins p) → IsExpanded f set g
    → Opens (forest_of t0 mates) set (get_or sets 0 0) p (forest_of t1 new)
    → lists_of t2 ≡ walked_times (lists_of t1) sets joins (p / 2)
    → Widens n f (place_in t0.labels.items) g (place_in t2.labels.items)
given_widens n f g dist t0 t1 t2 mates new set sets joins p st o ex op el =
    let x : Forest = forest_of t0 mates in
    let lam = st.rest.laminar in
    let q = released_of n f g set st.rest.size ex in
    let at = st.tree.tops set (inner_in o.is_inner) in
    let apart = λ (a : ℕ) (p : x.place (f.top a) ≡ outer) (z : f.top a ≡ set). outer_inner_no {P = ⊥} p (ap x.place z ∙ o.is_inner) in
    let others = λ (a : ℕ) (ha : a < n) (j : ℕ) (hj : j < length sets) (z : get_or sets j 0 ≡ f.top a). some_none
    {P = ⊥} (f.parent (get_or sets j 0)) set (lam.children.child set (get_or sets j 0) at.0 (o.ring.kids j hj)).2
    (ap f.parent z ∙ lam.tops.top_parent a ha) in
    record {
      outer_stays = λ a ha po.
          let i : ℕ = f.top a in
          let same : place_in (walked_times (lists_of t1) sets joins (p / 2)).labels i ≡ place_in t1.labels.items i =
          walked_others (lists_of t1) sets joins i (p / 2) (others a ha) (omega (arith, o.place)) in
          let first : i ≢ get_or sets 0 0 = λ z. others a ha 0 (omega (arith, o.place)) (sym z) in
          ap (place_in t2.labels.items) (q.top_others a ha (apart a po)) ∙ ap (λ (z : Lists). place_in z.labels i) el ∙
          same ∙ op.place_others i (apart a po) first ∙ po;
      together = λ a b ha hb po z. q.top_others a ha (apart a po) ∙ z ∙ sym (q.top_others b hb (λ y. apart a po (z ∙ y)));
    }
