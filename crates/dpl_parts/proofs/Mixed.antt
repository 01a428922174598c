-- A colouring of the whole that has other colours on a part costs as much less or more as the part does.
use Rattle.std.proofs.Common.{arith, ◌≡◌, ◌≢◌, ◌⊎◌, ℕ, ◌+◌, ◌<◌, ◌&&◌, refl, sym, ap, ◌∙◌, Bool, inl, inr, List, length}
use Rattle.std.specs.Prelude.{if◌then◌else◌}
use Rattle.dpl_sign.specs.declared.nets.Net.{Net}
use Rattle.dpl_sign.specs.Colourings.{is_broken, breaks, colour_of}
use Rattle.dpl_sign.specs.Walks.{edge_at}
use Rattle.dpl_sign.specs.Drawings.{is_in}
use Rattle.dpl_sign.specs.Excess.{kept_edges}
use Rattle.dpl_sign.proofs.ComponentLemmas.{start_below, end_below}
use Rattle.dpl_sign.proofs.Loads.{sum_to_same, sum_to}
use Rattle.dpl_parts.specs.Parts.{IsPartOf, broken_on, IsMixed}
use Rattle.dpl_parts.proofs.Sums.{sums_to, sum_part}
use Rattle.dpl_parts.proofs.Kept.{keeps_alike}

-- ---- a mixed colouring

-- the weight of the broken edges of the part, its nodes coloured so, of those that it keeps
abbrev pub part_cost : Net → (ℕ → Bool) → ℕ
part_cost part tint = sum_to (λ e. if is_in (kept_edges part) e &&
    is_broken (edge_at part.graph e).kind (tint (edge_at part.graph e).a) (tint (edge_at part.graph e).b) then
    (edge_at part.graph e).weight else 0) (length part.graph.edges)

-- what an edge of the whole costs
abbrev edge_cost : Net → List Bool → ℕ → ℕ
edge_cost whole colours e = if is_in (kept_edges whole) e && breaks colours (edge_at whole.graph e) then (edge_at whole.graph e).weight else 0

module _ (part whole : Net) (node edge : ℕ → ℕ) (h : IsPartOf part whole node edge) where
  on_part : (colours : List Bool) (tint : ℕ → Bool) → ((v : ℕ) → v < part.graph.nodes →
      colour_of colours (node v) ≡ tint v) → (e : ℕ) → e < length part.graph.edges →
      edge_cost whole colours (edge e) ≡ (if is_in (kept_edges part) e &&
      is_broken (edge_at part.graph e).kind (tint (edge_at part.graph e).a) (tint (edge_at part.graph e).b) then
      (edge_at part.graph e).weight else 0)
  on_part colours tint agree e l =
      let k = keeps_alike part whole node edge h e l in
      let kind = h.kind e l in
      let weight = h.weight e l in
      let a : colour_of colours (edge_at whole.graph (edge e)).a ≡ tint (edge_at part.graph e).a =
      ap (colour_of colours) (h.first e l) ∙ agree _ (start_below part.graph e l) in
      let b : colour_of colours (edge_at whole.graph (edge e)).b ≡ tint (edge_at part.graph e).b =
      ap (colour_of colours) (h.second e l) ∙ agree _ (end_below part.graph e l) in
      rw (k, kind, weight, a, b) refl

  pub mixed_cost : (colours mixed : List Bool) (tint : ℕ → Bool) → IsMixed part whole node colours tint mixed
      → broken_on whole mixed + part_cost part (λ v. colour_of colours (node v)) ≡ broken_on whole colours + part_cost part tint
  mixed_cost colours mixed tint m =
      let f = edge_cost whole mixed in
      let g = edge_cost whole colours in
      let same : (e : ℕ) → e < length whole.graph.edges → ((x : ℕ) → x < length part.graph.edges → edge x ≢ e) → f e ≡ g e = λ e l none.
      let away : (z : ℕ) → ((edge_at whole.graph e).a ≡ z) ⊎ ((edge_at whole.graph e).b ≡ z) → (v : ℕ) →
      v < part.graph.nodes → node v ≢ z = λ z end v k r. let c =
      h.closed e v l k (elim end [ inl x ↦ inl (x ∙ sym r) | inr x ↦ inr (x ∙ sym r) ]) in none c.0 c.1 c.2 in
      let a = m.others (edge_at whole.graph e).a (start_below whole.graph e l) (away _ (inl refl)) in
      let b = m.others (edge_at whole.graph e).b (end_below whole.graph e l) (away _ (inr refl)) in
      rw (a, b) refl in
      let s = sum_part edge (length part.graph.edges) (length whole.graph.edges) (record { inside = h.edges; order = h.order }) f g same in
      let fa : sum_to (λ x. f (edge x)) (length part.graph.edges) ≡ part_cost part tint =
      sum_to_same _ _ (length part.graph.edges) (on_part mixed tint m.inside) in
      let ga : sum_to (λ x. g (edge x)) (length part.graph.edges) ≡ part_cost part (λ v. colour_of colours (node v)) =
      sum_to_same _ _ (length part.graph.edges) (on_part colours (λ v. colour_of colours (node v)) (λ v l. refl)) in
      let fw : broken_on whole mixed ≡ sum_to f (length whole.graph.edges) =
      sums_to (λ e. is_in (kept_edges whole) e && breaks mixed (edge_at whole.graph e))
      (λ e. (edge_at whole.graph e).weight) (length whole.graph.edges) in
      let gw : broken_on whole colours ≡ sum_to g (length whole.graph.edges) =
      sums_to (λ e. is_in (kept_edges whole) e && breaks colours (edge_at whole.graph e))
      (λ e. (edge_at whole.graph e).weight) (length whole.graph.edges) in
      omega (arith, s, fa, ga, fw, gw)
