-- Where nothing of a component is set aside, the colours of a tight report are the best there, and refining leaves them.
use Rattle.std.proofs.Common.{arith, ◌≡◌, ◌∙◌, ◌+◌, ◌<◌, ◌≤◌, ℕ, zero, suc, Bool, true, false, not, cond, List, map, length, refl, sym, ap, get_or, inl, inr}
use Rattle.std.specs.Prelude.{◌&&◌}
use Rattle.std.specs.List.{range_with_len}
use Rattle.std.proofs.lemmas.Bool.{cases_Bool, cond-true, cond-false, eq-eqb, true≢false}
use Rattle.std.proofs.lemmas.List.FromFn.{get_or-map-range_with_len, length-map-range_with_len}
use Rattle.dpl_cycle.specs.Sums.{sum_on}
use Rattle.dpl_sign.specs.declared.nets.Net.{Net}
use Rattle.dpl_sign.specs.Walks.{no_edge, edge_at}
use Rattle.dpl_sign.specs.Colourings.{IsColouring, is_broken, breaks, colour_of}
use Rattle.dpl_sign.proofs.Loads.{sum_to, sum_by_places}
use Rattle.dpl_solve.specs.Named.{keeps}
use Rattle.dpl_solve.specs.Solved.{kept_cost}
use Rattle.dpl_refine.specs.Components.{is_around, weight_in, cost_around}
use Rattle.dpl_refine.specs.Refined.{IsCheaperOrSameAround}
use Rattle.dpl_refine.proofs.AroundLemmas.{edge_around, start_below}
use Rattle.dpl_core.specs.Reports.{HasNothingAside}

sums_law : (p q : ℕ → Bool) (w a b : ℕ → ℕ) (n : ℕ)
    → ((e : ℕ) → e < n → cond {A = ℕ} (p e) (w e) 0 + a e ≡ cond {A = ℕ} (q e) (w e) 0 + b e)
    → sum_on p w n + sum_to a n ≡ sum_on q w n + sum_to b n
sums_law p q w a b zero h = refl
sums_law p q w a b (suc n) h =
    let here = h n (omega arith) in
    let rest = sums_law p q w a b n (λ e l. h e (omega (arith, l))) in
    omega (arith, here, rest)

kept_of : (b : Bool) → not b ≡ false → b ≡ true
kept_of true h = refl
kept_of false h = absurd (true≢false h)

module _ (net : Net) (u : ℕ) (before after : List Bool) where
  -- the colours after in the component of the node, and those before elsewhere
  abbrev mix : ℕ → Bool
  mix v = cond (is_around net.graph u v) (colour_of after v) (colour_of before v)

  abbrev mixed : List Bool
  mixed = map mix (range_with_len 0 net.graph.nodes)

  mixed_at : (v : ℕ) → v < net.graph.nodes → colour_of mixed v ≡ mix v
  mixed_at v l = get_or-map-range_with_len mix 0 net.graph.nodes v v false l (omega arith)

  mixed_colouring : IsColouring net.graph before → IsColouring net.graph after → IsColouring net.graph mixed
  mixed_colouring i o = record {
    length = length-map-range_with_len mix 0 net.graph.nodes;
    bonds = λ k d l b.
        let e = get_or net.graph.edges k d in
        mixed_at e.a (start_below net.graph k d l)
        ∙ ap (λ x. cond (is_around net.graph u e.a) x (colour_of before e.a)) (o.bonds k d l b)
        ∙ ap (λ x. cond (is_around net.graph u e.a) (colour_of after e.b) x) (i.bonds k d l b)
        ∙ ap (λ t. cond t (colour_of after e.b) (colour_of before e.b)) (edge_around net.graph u k d l)
        ∙ sym (mixed_at e.b (net.graph.inside k d l));
  }

  -- what an edge costs, if it is kept
  abbrev kept_weight : List Bool → ℕ → ℕ
  kept_weight colours e = cond {A = ℕ} (keeps net e && breaks colours (edge_at net.graph e)) (edge_at net.graph e).weight 0

  abbrev weight_around : List Bool → ℕ → ℕ
  weight_around colours e = weight_in (is_around net.graph u) colours (edge_at net.graph e)

  edge_law : (e : ℕ) → e < length net.graph.edges → (is_around net.graph u (edge_at net.graph e).a ≡ true → keeps net e ≡ true)
      → kept_weight mixed e + weight_around before e ≡ kept_weight before e + weight_around after e
  edge_law e l kept =
      let d = edge_at net.graph e in
      let at_a = mixed_at d.a (start_below net.graph e no_edge l) in
      let at_b = mixed_at d.b (net.graph.inside e no_edge l) in
      let joined : is_around net.graph u d.a ≡ is_around net.graph u d.b = edge_around net.graph u e no_edge l in
      elim (cases_Bool (is_around net.graph u d.a)) [
        | inl y ↦
            let a : colour_of mixed d.a ≡ colour_of after d.a = at_a ∙ cond-true _ (colour_of after d.a) (colour_of before d.a) y in
            let b : colour_of mixed d.b ≡ colour_of after d.b = at_b ∙ cond-true _ (colour_of after d.b) (colour_of before d.b) (sym joined ∙ y) in
            let one : kept_weight mixed e ≡ cond {A = ℕ} (breaks after d) d.weight 0 =
            ap (λ k. cond {A = ℕ} (k && breaks mixed d) d.weight 0) (kept y)
            ∙ ap (λ x. cond {A = ℕ} (is_broken d.kind x (colour_of mixed d.b)) d.weight 0) a
            ∙ ap (λ x. cond {A = ℕ} (is_broken d.kind (colour_of after d.a) x) d.weight 0) b in
            let two : kept_weight before e ≡ cond {A = ℕ} (breaks before d) d.weight 0 =
            ap (λ k. cond {A = ℕ} (k && breaks before d) d.weight 0) (kept y) in
            let three : weight_around before e ≡ cond {A = ℕ} (breaks before d) d.weight 0 =
            ap (λ k. cond {A = ℕ} (k && breaks before d) d.weight 0) y in
            let four : weight_around after e ≡ cond {A = ℕ} (breaks after d) d.weight 0 =
            ap (λ k. cond {A = ℕ} (k && breaks after d) d.weight 0) y in
            omega (arith, one, two, three, four)
        | inr f ↦
            let a : colour_of mixed d.a ≡ colour_of before d.a = at_a ∙ cond-false _ (colour_of after d.a) (colour_of before d.a) f in
            let b : colour_of mixed d.b ≡ colour_of before d.b = at_b ∙ cond-false _ (colour_of after d.b) (colour_of before d.b) (sym joined ∙ f) in
            let one : kept_weight mixed e ≡ kept_weight before e =
            ap (λ x. cond {A = ℕ} (keeps net e && is_broken d.kind x (colour_of mixed d.b)) d.weight 0) a
            ∙ ap (λ x. cond {A = ℕ} (keeps net e && is_broken d.kind (colour_of before d.a) x) d.weight 0) b in
            let two : weight_around before e ≡ 0 = ap (λ k. cond {A = ℕ} (k && breaks before d) d.weight 0) f in
            let three : weight_around after e ≡ 0 = ap (λ k. cond {A = ℕ} (k && breaks after d) d.weight 0) f in
            omega (arith, one, two, three)
      ]

  mixed_law : ((e : ℕ) → e < length net.graph.edges → is_around net.graph u (edge_at net.graph e).a ≡ true → keeps net e ≡ true)
      → kept_cost net mixed + cost_around net.graph u before ≡ kept_cost net before + cost_around net.graph u after
  mixed_law kept =
      let one : cost_around net.graph u before ≡ sum_to (weight_around before) (length net.graph.edges) =
      sum_by_places (weight_in (is_around net.graph u) before) net.graph.edges no_edge in
      let two : cost_around net.graph u after ≡ sum_to (weight_around after) (length net.graph.edges) =
      sum_by_places (weight_in (is_around net.graph u) after) net.graph.edges no_edge in
      let law = sums_law (λ e. keeps net e && breaks mixed (edge_at net.graph e)) (λ e. keeps net e && breaks before (edge_at net.graph e))
      (λ e. (edge_at net.graph e).weight) (weight_around before) (weight_around after) (length net.graph.edges)
      (λ e l. edge_law e l (kept e l)) in
      omega (arith, one, two, law)

  -- where nothing of the component is set aside, no colours cost less there than those that break the least of what is kept
  pub untouched_of : IsColouring net.graph before → IsColouring net.graph after
      → ((others : List Bool) → IsColouring net.graph others → kept_cost net before ≤ kept_cost net others)
      → IsCheaperOrSameAround net.graph before after → u < net.graph.nodes → HasNothingAside net u
      → colour_of after u ≡ colour_of before u
  untouched_of i o least around l none = elim (around u l) [
    | inl less ↦
        let law = mixed_law (λ e k y. kept_of (keeps net e) (none e k y)) in
        let most = least mixed (mixed_colouring i o) in
        absurd (omega (arith, less, law, most))
    | inr same ↦ same u l (eq-eqb _ _ refl)
  ]
