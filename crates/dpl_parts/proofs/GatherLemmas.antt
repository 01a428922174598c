-- Some components of a net, gathered, are a part of it.
use Rattle.std.proofs.Common.{arith, ◌≡◌, ℕ, ◌<◌, ◌≤◌, inl, inr, Bool, true, false, List, length, sym, ap, subst, ◌∙◌, slice_index_or}
use Rattle.std.proofs.lemmas.Bool.{cases_lt, both_ways}
use Rattle.std.proofs.lemmas.List.{get_or_default, get_or_past}
use Rattle.dpl_sign.specs.declared.edges.Edge.{Edge}
use Rattle.dpl_sign.specs.declared.nets.Net.{Net}
use Rattle.dpl_sign.specs.declared.ports.Port.{Port}
use Rattle.dpl_sign.specs.Drawings.{no_port}
use Rattle.dpl_sign.specs.Kinds.{IsGraph, is_bond}
use Rattle.dpl_sign.specs.Walks.{no_edge, edge_at}
use Rattle.dpl_sign.proofs.ComponentLemmas.{start_below, end_below}
use Rattle.dpl_parts.specs.Parts.{IsPartOf}
use Rattle.dpl_parts.specs.Picks.{is_taken, is_edge_taken, AreClosed, picked_below, place_in, IsRenumbered, HasPlaces}
use Rattle.dpl_parts.proofs.PickLemmas.{picked_few, picked_is, picked_at, places_rise, picked_rise}

-- what was gathered of a net
pub record AreGathered (whole : Net) (taken : List Bool) (nodes place picks : List ℕ) (edges : List Edge) (ports : List (Port × Port)) : Type 0 where
  pub long : length taken ≡ whole.graph.nodes
  pub closed : AreClosed taken whole.graph.edges
  pub nodes_are : nodes ≡ picked_below (is_taken taken) (length taken)
  pub place_long : length place ≡ length taken
  pub place_each : (v : ℕ) → v < length taken → is_taken taken v ≡ true → slice_index_or place v 0 ≡ place_in (is_taken taken) v
  pub picks_are : picks ≡ picked_below (is_edge_taken taken whole.graph.edges) (length whole.graph.edges)
  pub edges_long : length edges ≡ length picks
  pub edges_each : (i : ℕ) → i < length picks → IsRenumbered
      (slice_index_or whole.graph.edges (slice_index_or picks i 0) no_edge) (slice_index_or edges i no_edge) place
  pub ports_long : length ports ≡ length picks
  pub ports_each : (i : ℕ) → i < length picks → slice_index_or ports i (no_port, no_port) ≡ slice_index_or whole.ports
      (slice_index_or picks i 0) (no_port, no_port)

-- ---- before the edges are gathered

-- the picked edges are edges between taken nodes
pub picks_taken : (whole : Net) (taken : List Bool) (picks : List ℕ)
    → picks ≡ picked_below (is_edge_taken taken whole.graph.edges) (length whole.graph.edges) → (i : ℕ)
    → i < length picks
    → (slice_index_or picks i 0 < length whole.graph.edges) × (is_taken taken (edge_at whole.graph (slice_index_or picks i 0)).a ≡ true)
picks_taken whole taken picks are i l =
    let P : List ℕ → Type 0 = λ xs. i < length xs → (slice_index_or xs i 0 < length whole.graph.edges) ×
    (is_taken taken (edge_at whole.graph (slice_index_or xs i 0)).a ≡ true) in
    subst P (sym are) (picked_is (is_edge_taken taken whole.graph.edges) (length whole.graph.edges) i) l

-- the picked nodes are taken ones
pub nodes_taken : (taken : List Bool) (nodes : List ℕ) → nodes ≡ picked_below (is_taken taken) (length taken)
    → (v : ℕ) → v < length nodes → (slice_index_or nodes v 0 < length taken) × (is_taken taken (slice_index_or nodes v 0) ≡ true)
nodes_taken taken nodes are v l =
    let P : List ℕ → Type 0 = λ xs. v < length xs → (slice_index_or xs v 0 < length taken) × (is_taken taken (slice_index_or xs v 0) ≡ true) in
    subst P (sym are) (picked_is (is_taken taken) (length taken) v) l

-- what is taken is there
pub taken_inside : (taken : List Bool) (w : ℕ) → is_taken taken w ≡ true → w < length taken
taken_inside taken w t = elim (cases_lt w (length taken)) [
  | inl low ↦ low
  | inr past ↦ absurd (both_ways _ (get_or_past taken w false (omega (arith, past))) t)
]

-- the ends of an edge between taken nodes have places
pub has_places : (whole : Net) (taken : List Bool) (place : List ℕ) → length taken ≡ whole.graph.nodes
    → AreClosed taken whole.graph.edges → length place ≡ length taken
    → ((v : ℕ) → v < length taken → is_taken taken v ≡ true → slice_index_or place v 0 ≡ place_in (is_taken taken) v)
    → (e : ℕ) → e < length whole.graph.edges → is_taken taken (edge_at whole.graph e).a ≡ true
    → HasPlaces (edge_at whole.graph e) place
has_places whole taken place long closed plong each e l t =
    let a = start_below whole.graph e l in
    let b = end_below whole.graph e l in
    let pa = each (edge_at whole.graph e).a (omega (arith, a, long)) t in
    let pb = each (edge_at whole.graph e).b (omega (arith, b, long)) (sym (closed e l) ∙ t) in
    let r = places_rise (is_taken taken) (edge_at whole.graph e).a (edge_at whole.graph e).b (edge_at whole.graph e).ordered t in
    record { first = omega (arith, a, long, plong); second = omega (arith, b, long, plong); order = omega (arith, pa, pb, r) }

module _ (whole : Net) (taken : List Bool) (nodes place picks : List ℕ) (edges : List Edge) (ports : List (Port × Port))
    (h : AreGathered whole taken nodes place picks edges ports) where
  -- a gathered node is a taken one
  pub node_is : (v : ℕ) → v < length nodes → (slice_index_or nodes v 0 < whole.graph.nodes) × (is_taken taken (slice_index_or nodes v 0) ≡ true)
  node_is v l =
      let P : List ℕ → Type 0 = λ xs. v < length xs → (slice_index_or xs v 0 < length taken) × (is_taken taken (slice_index_or xs v 0) ≡ true) in
      let (b, t) = subst P (sym h.nodes_are) (picked_is (is_taken taken) (length taken) v) l in
      let n = h.long in (omega (arith, b, n), t)

  -- the place of a taken node
  pub node_at_place : (w : ℕ) → w < length taken → is_taken taken w ≡ true → (slice_index_or place w 0 < length nodes) ×
      (slice_index_or nodes (slice_index_or place w 0) 0 ≡ w)
  node_at_place w l t =
      let P : List ℕ → Type 0 = λ xs. (place_in (is_taken taken) w < length xs) × (slice_index_or xs (place_in (is_taken taken) w) 0 ≡ w) in
      let Q : ℕ → Type 0 = λ z. (z < length nodes) × (slice_index_or nodes z 0 ≡ w) in
      subst Q (sym (h.place_each w l t)) (subst P (sym h.nodes_are) (picked_at (is_taken taken) (length taken) w l t))

  nodes_rise : (u v : ℕ) → u < v → v < length nodes → slice_index_or nodes u 0 < slice_index_or nodes v 0
  nodes_rise u v l m =
      let P : List ℕ → Type 0 = λ xs. v < length xs → slice_index_or xs u 0 < slice_index_or xs v 0 in
      subst P (sym h.nodes_are) (picked_rise (is_taken taken) (length taken) u v l) m

  pick_is : (i : ℕ) → i < length picks → (slice_index_or picks i 0 < length whole.graph.edges) ×
      (is_taken taken (edge_at whole.graph (slice_index_or picks i 0)).a ≡ true)
  pick_is = picks_taken whole taken picks h.picks_are

  picks_rise : (i j : ℕ) → i < j → j < length picks → slice_index_or picks i 0 < slice_index_or picks j 0
  picks_rise i j l m =
      let P : List ℕ → Type 0 = λ xs. j < length xs → slice_index_or xs i 0 < slice_index_or xs j 0 in
      subst P (sym h.picks_are) (picked_rise (is_edge_taken taken whole.graph.edges) (length whole.graph.edges) i j l) m

  picks_few : length picks ≤ length whole.graph.edges
  picks_few = let f = picked_few (is_edge_taken taken whole.graph.edges) (length whole.graph.edges) in let e = ap length h.picks_are in omega (arith, f, e)

  nodes_few : length nodes ≤ length taken
  nodes_few = let f = picked_few (is_taken taken) (length taken) in let e = ap length h.nodes_are in omega (arith, f, e)

  -- both ends of a picked edge are taken
  ends_taken : (i : ℕ) → i < length picks → (is_taken taken (edge_at whole.graph (slice_index_or picks i 0)).a ≡ true) ×
      (is_taken taken (edge_at whole.graph (slice_index_or picks i 0)).b ≡ true)
  ends_taken i l = let (b, t) = pick_is i l in (t, sym (h.closed (slice_index_or picks i 0) b) ∙ t)

  second_below : (i : ℕ) → i < length picks → (slice_index_or edges i no_edge).b < length nodes
  second_below i l =
      let (b, t) = pick_is i l in
      let low = end_below whole.graph (slice_index_or picks i 0) b in
      let n = h.long in
      let (m, is) = node_at_place (edge_at whole.graph (slice_index_or picks i 0)).b (omega (arith, low, n)) (ends_taken i l).1 in
      let e = (h.edges_each i l).second in
      omega (arith, m, e)

  -- the gathered edges are those of a graph
  pub gathered_graph : IsGraph (length nodes) edges
  gathered_graph =
      let n = h.long in let nf = nodes_few in let wn = whole.graph.few_nodes in
      let pf = picks_few in let wf = whole.graph.few_edges in let el = h.edges_long in record {
        few_nodes = omega (arith, n, nf, wn);
        few_edges = omega (arith, pf, wf, el);
        inside = λ i d l. subst (λ (e : Edge). e.b < length nodes) (get_or_default edges i no_edge d l) (second_below i (omega (arith, l, el)));
        bonds_first = λ j k d low l b.
            let lj : j < length edges = omega (arith, low, l) in
            let pj : j < length picks = omega (arith, lj, el) in
            let pk : k < length picks = omega (arith, l, el) in
            let kj = (h.edges_each j pj).kind in
            let kk = (h.edges_each k pk).kind in
            let bk : is_bond (edge_at whole.graph (slice_index_or picks k 0)).kind ≡ true =
            ap is_bond (sym kk) ∙ ap (λ (e : Edge). is_bond e.kind) (get_or_default edges k no_edge d l) ∙ b in
            let bj : is_bond (edge_at whole.graph (slice_index_or picks j 0)).kind ≡ true =
            whole.graph.bonds_first (slice_index_or picks j 0) (slice_index_or picks k 0) no_edge (picks_rise j k low pk) (pick_is k pk).0 bk in
            ap (λ (e : Edge). is_bond e.kind) (sym (get_or_default edges j no_edge d lj)) ∙ ap is_bond kj ∙ bj;
      }

  -- the net of them is a part of the whole
  pub gathered_part : (part : Net) → part.graph.nodes ≡ length nodes → part.graph.edges ≡ edges → part.ports ≡ ports
      → IsPartOf part whole (λ v. slice_index_or nodes v 0) (λ e. slice_index_or picks e 0)
  gathered_part part en ee ep =
      let size : length part.graph.edges ≡ length picks = ap length ee ∙ h.edges_long in
      let at : (e : ℕ) → edge_at part.graph e ≡ slice_index_or edges e no_edge = λ e. ap (λ xs. slice_index_or xs e no_edge) ee in
      let node : ℕ → ℕ = λ v. slice_index_or nodes v 0 in
      let edge : ℕ → ℕ = λ e. slice_index_or picks e 0 in
      let end : (v : ℕ) → v < whole.graph.nodes → is_taken taken v ≡ true → (z : ℕ) → z ≡ slice_index_or place v 0 → v ≡ node z = λ v l t z e.
      let n = h.long in
      sym (ap node e ∙ (node_at_place v (omega (arith, l, n)) t).1) in
      record {
        nodes = λ v l. (node_is v (omega (arith, l, en))).0;
        apart = λ u v l m e. one_node u v (omega (arith, l, en)) (omega (arith, m, en)) e;
        edges = λ e l. (pick_is e (omega (arith, l, size))).0;
        order = λ e f l m. picks_rise e f l (omega (arith, m, size));
        first = λ e l.
            let p : e < length picks = omega (arith, l, size) in
            end (edge_at whole.graph (edge e)).a (start_below whole.graph (edge e) (pick_is e p).0) (ends_taken e p).0
            (edge_at part.graph e).a (ap (λ (x : Edge). x.a) (at e) ∙ (h.edges_each e p).first);
        second = λ e l.
            let p : e < length picks = omega (arith, l, size) in
            end (edge_at whole.graph (edge e)).b (end_below whole.graph (edge e) (pick_is e p).0) (ends_taken e p).1
            (edge_at part.graph e).b (ap (λ (x : Edge). x.b) (at e) ∙ (h.edges_each e p).second);
        kind = λ e l. let p : e < length picks = omega (arith, l, size) in sym (ap (λ (x : Edge). x.kind) (at e) ∙ (h.edges_each e p).kind);
        weight = λ e l. let p : e < length picks = omega (arith, l, size) in sym (ap (λ (x : Edge). x.weight) (at e) ∙ (h.edges_each e p).weight);
        ports = λ e l. let p : e < length picks = omega (arith, l, size) in sym (ap (λ xs. slice_index_or xs e (no_port, no_port)) ep ∙ h.ports_each e p);
        closed = λ f v l m near.
            let t : is_taken taken (node v) ≡ true = (node_is v (omega (arith, m, en))).1 in
            let ta : is_taken taken (edge_at whole.graph f).a ≡ true = elim near [
              | inl e ↦ ap (is_taken taken) e ∙ t
              | inr e ↦ h.closed f l ∙ ap (is_taken taken) e ∙ t
            ] in
            let P : List ℕ → Type 0 = λ xs. (place_in (is_edge_taken taken whole.graph.edges) f < length xs) ×
            (slice_index_or xs (place_in (is_edge_taken taken whole.graph.edges) f) 0 ≡ f) in
            let (low, is) = subst P (sym h.picks_are) (picked_at (is_edge_taken taken whole.graph.edges) (length whole.graph.edges) f l ta) in
            (place_in (is_edge_taken taken whole.graph.edges) f, omega (arith, low, size), is);
      } where
        one_node : (u v : ℕ) → u < length nodes → v < length nodes → slice_index_or nodes u 0 ≡ slice_index_or nodes v 0 → u ≡ v
        one_node u v l m e = elim (cases_lt u v) [
          | inl low ↦ let r = nodes_rise u v low m in absurd (omega (arith, r, e))
          | inr a ↦ elim (cases_lt v u) [
            | inl low ↦ let r = nodes_rise v u low l in absurd (omega (arith, r, e))
            | inr b ↦ omega (arith, a, b)
          ]
        ]
