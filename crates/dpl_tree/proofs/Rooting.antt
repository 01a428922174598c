-- Trees of single roots.
use Rattle.std.proofs.Common.{arith, ◌≡◌, ◌≢◌, ℕ, ◌+◌, ◌%◌, ◌<◌, sym, ap, ◌∙◌, inl, inr, Option, List, length, get_or, set, get_or-set_same, get_or-set_other}
use Rattle.std.proofs.lemmas.Bool.{cases_eq}
use Rattle.dpl_laminar.specs.Families.{Sets}
use Rattle.dpl_tree.specs.declared.tree.Label.{Label}
use Rattle.dpl_tree.specs.declared.tree.Label.TheVariants.{Free, Outer}
use Rattle.dpl_tree.specs.declared.tree.Tree.{Tree}
use Rattle.dpl_tree.specs.steps.Forests.{free, outer, inner, Forest, IsExposed}
use Rattle.dpl_tree.specs.steps.Growth.{AreRoots}
use Rattle.dpl_tree.specs.Mates.{IsExit, totals}
use Rattle.dpl_tree.specs.Stages.{IsRest, IsStage}
use Rattle.dpl_tree.specs.Views.{forest_of, place_in, place_of, mate_in}
use Rattle.dpl_tree.proofs.Growing.{outer_in, inner_in, outer_inner_no}

-- one root more
pub root_outer : (labels : List Label) (members : List ℕ) (top : ℕ → ℕ) (i root : ℕ) → root < length labels
    → root ≡ top (get_or members i 0) → ((k : ℕ) → k < i → place_in labels (top (get_or members k 0)) ≡ outer)
    → (k : ℕ) → k < i + 1 → place_in (set labels root Outer) (top (get_or members k 0)) ≡ outer
root_outer labels members top i root h e all k l = elim (cases_eq (top (get_or members k 0)) root) [
  | inl z ↦ ap (place_in (set labels root Outer)) z ∙ ap place_of (get_or-set_same labels root Outer Free h)
  | inr ne ↦
      let old : k < i = elim (cases_eq k i) [
        | inl z ↦ absurd (ne (ap (λ y. top (get_or members y 0)) z ∙ sym e))
        | inr z ↦ omega (arith, l, z)
      ] in
      ap place_of (get_or-set_other labels root (top (get_or members k 0)) Outer Free ne) ∙ all k old
]

pub root_only : (labels : List Label) (trees members : List ℕ) (top : ℕ → ℕ) (i root : ℕ) → root < length labels → root < length trees
    → root ≡ top (get_or members i 0)
    → ((j : ℕ) → place_in labels j ≢ free → (place_in labels j ≡ outer) × ((k : ℕ) × (k < i) ×
    (top (get_or members k 0) ≡ j) × (get_or trees j 0 ≡ get_or members k 0)))
    → (j : ℕ) → place_in (set labels root Outer) j ≢ free → (place_in (set labels root Outer) j ≡ outer) × ((k : ℕ) × (k < i + 1) ×
    (top (get_or members k 0) ≡ j) × (get_or (set trees root (get_or members i 0)) j 0 ≡ get_or members k 0))
root_only labels trees members top i root hl ht e only j p = elim (cases_eq j root) [
  | inl z ↦ (
    ap (place_in (set labels root Outer)) z ∙ ap place_of (get_or-set_same labels root Outer Free hl),
    (i, omega arith, sym e ∙ sym z, ap (λ y. get_or (set trees root (get_or members i 0)) y 0) z ∙ get_or-set_same trees root (get_or members i 0) 0 ht),
  )
  | inr ne ↦
      let same : place_in (set labels root Outer) j ≡ place_in labels j = ap place_of (get_or-set_other labels root j Outer Free ne) in
      let w = only j (λ z. p (same ∙ z)) in
      (same ∙ w.0, (w.1.0, omega (arith, w.1.1), w.1.2, get_or-set_other trees root j (get_or members i 0) 0 ne ∙ w.1.3))
]

-- members of different exposed tops, whose totals have one parity, make a stage of single roots
pub roots_stage : (n : ℕ) (f : Sets) (dist : ℕ → ℕ → ℕ) (members : List ℕ) (tree : Tree) (mates : List (Option ℕ))
    → IsRest n f dist (mate_in mates) → AreRoots f members tree → ((k : ℕ) → k < length members → get_or members k 0 < n)
    → ((k : ℕ) → k < length members → IsExposed n f (mate_in mates) (f.top (get_or members k 0)))
    → ((k l : ℕ) → k < length members → l < length members → totals n f (get_or members k 0) % 2 ≡ totals n f (get_or members l 0) % 2)
    → IsStage n f dist (forest_of tree mates)
roots_stage n f dist members tree mates rest roots below bare even =
    let x : Forest = forest_of tree mates in
    let lam = rest.laminar in
    let exposed = λ (i : ℕ) (p : x.place i ≢ free) (m t : ℕ) (w : IsExit n f x.mate i m t). (
    let v = roots.only i p in
    let r : ⊥ = bare v.1.0 v.1.1 m t (record { below = w.below; top = w.top ∙ sym v.1.2; paired = w.paired }) in r) in
    let no_inner = λ (i : ℕ) (e : x.place i ≡ inner). outer_inner_no {P = ⊥} (roots.only i (inner_in e)).0 e in
    let of = λ (s : ℕ) (hs : s < n) (p : x.place (f.top s) ≢ free). (
    let v = roots.only (f.top s) p in
    let r : totals n f s % 2 ≡ totals n f (get_or members v.1.0 0) % 2 = rest.parity s (get_or members v.1.0 0) hs (below v.1.0 v.1.1) (sym v.1.2) in r) in
    record {
      rest = rest;
      tree = record {
        tops = λ i p.
            let v = roots.only i p in
            let m : ℕ = get_or members v.1.0 0 in
            let hm = below v.1.0 v.1.1 in
            rw (sym v.1.2) (lam.tops.top_range m hm, lam.tops.top_live m hm, lam.tops.top_parent m hm);
        root_alone = λ i j pi pj ni nj e.
            let a = (roots.only i (outer_in pi)).1 in
            let b = (roots.only j (outer_in pj)).1 in
            sym a.2 ∙ ap f.top (sym a.3 ∙ e ∙ b.3) ∙ b.2;
        outer_mate = λ i m t e w. absurd (exposed i (outer_in e) m t w);
        inner_pair = λ i e. absurd (no_inner i e);
        inner_mate = λ i m t e w. absurd (no_inner i e);
        link_range = λ i e. absurd (no_inner i e);
        link_entry = λ i e. absurd (no_inner i e);
        link_outer = λ i e. absurd (no_inner i e);
        link_rank = λ i e. absurd (no_inner i e);
        link_tight = λ i e. absurd (no_inner i e);
      };
      even = λ s t hs ht ps pt.
          let a = (roots.only (f.top s) ps).1 in
          let b = (roots.only (f.top t) pt).1 in
          of s hs ps ∙ even a.0 b.0 a.1 b.1 ∙ sym (of t ht pt);
    }
