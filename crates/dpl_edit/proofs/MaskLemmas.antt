-- What keeps its mask.
use Rattle.std.proofs.Common.{arith, ◌≡◌, ◌↔◌, ◌<◌, ℕ, sym, ap, subst, ◌∙◌}
use Rattle.dpl_options.specs.Options.{PlainOptions}
use Rattle.dpl_sign.specs.declared.nets.Net.{Net}
use Rattle.dpl_sign.specs.Colourings.{colour_of}
use Rattle.dpl_cuts.specs.declared.types.Fragments.{Fragments}
use Rattle.dpl_stay.specs.Laws.{LookTheSame}
use Rattle.dpl_stay.specs.Same.{corners_at, AreSame}
use Rattle.dpl_stay.proofs.OrderLemmas.{one_node}
use Rattle.dpl_stay.proofs.SightLemmas.{same_by_sight}
use Rattle.dpl_edit.specs.Optima.{Optimum, IsSomeOptimum, KeepMasks}
use Rattle.dpl_edit.proofs.OrderLemmas.{rects_in_order, nodes_are}

-- each node of a net has the colour that the node with its rectangle had before, where their components are so
abbrev Keeps : (ℕ → ℕ → Type 0) → Optimum → Optimum → Type 0
Keeps alike before after = (v w : ℕ) → v < after.net.graph.nodes → w < before.net.graph.nodes → alike v w →
    corners_at after.fragments.rects v ≡ corners_at before.fragments.rects w → colour_of after.colours v ≡ colour_of before.colours w

pub kept_by_sight : (before after : Optimum) → KeepMasks before after
    ↔ Keeps (LookTheSame after.fragments.rects before.fragments.rects after.net before.net) before after
kept_by_sight before after =
    let f = after.fragments.rects in
    let g = before.fragments.rects in (
      λ k v w l m h e. k v w l m ((same_by_sight f g after.net before.net v w).1 h) e,
      λ k v w l m h e. k v w l m ((same_by_sight f g after.net before.net v w).0 h) e,
    )

-- a component is the same as itself
same_self : (f : Fragments) (n : Net) (v : ℕ) → AreSame f.rects f.rects n n v v
same_self f n v = (same_by_sight f.rects f.rects n n v v).1 (record { rects = λ r. (λ h. h, λ h. h); edges = λ s. (λ h. h, λ h. h) })

pub kept_unchanged : (o : PlainOptions) (before after : Optimum) → IsSomeOptimum o before
    → after.fragments ≡ before.fragments → after.net ≡ before.net → KeepMasks before after
    ↔ ((v : ℕ) → v < before.net.graph.nodes → colour_of after.colours v ≡ colour_of before.colours v)
kept_unchanged o before after known fragments net =
    let layer = known.is.layer.is.layer in
    let nodes = nodes_are o known.cells known.kept before.fragments before.net layer in
    let order = rects_in_order o known.cells known.kept before.fragments before.net layer in
    let rects : (v : ℕ) → corners_at after.fragments.rects v ≡ corners_at before.fragments.rects v =
    λ v. ap (λ (f : Fragments). corners_at f.rects v) fragments in (
      λ k v l.
          let P : Fragments → Net → Type 0 = λ f n. AreSame f.rects before.fragments.rects n before.net v v in
          let same : P after.fragments after.net =
          subst (P after.fragments) (sym net) (subst (λ f. P f before.net) (sym fragments) (same_self before.fragments before.net v)) in
          k v v (subst (λ (n : Net). v < n.graph.nodes) (sym net) l) l same (rects v),
      λ k v w l m h e.
          let low : v < before.net.graph.nodes = subst (λ (n : Net). v < n.graph.nodes) net l in
          let one : v ≡ w = one_node before.fragments.rects order v w (omega (arith, low, nodes)) (omega (arith, m, nodes)) (sym (rects v) ∙ e) in
          k v low ∙ ap (colour_of before.colours) one,
    )
