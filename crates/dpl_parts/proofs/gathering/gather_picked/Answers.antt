use Rattle.std.proofs.Common.{arith, ◌≡◌, ◌<◌, length, slice_index_or, sym, ap, subst, ◌∙◌}
use Rattle.std.proofs.lemmas.List.{get_or_default}
use Rattle.dpl_sign.specs.Kinds.{IsGraph}
use Rattle.dpl_sign.specs.Walks.{no_edge}
use Rattle.dpl_parts.specs.Picks.{HasPlaces}
use Rattle.dpl_parts.proofs.GatherLemmas.{AreGathered, picks_taken, nodes_taken, has_places, gathered_graph, gathered_part}
use Rattle.dpl_parts.proofs.gathering.gather_picked.Goals as goal

pub gathered_edges-requires-clause-within : goal.gathered_edges-requires-clause-within
gathered_edges-requires-clause-within c = let h = c.requires in rw (c.as_slice.ensures.value, c.as_slice-edges.ensures) (λ k d l.
    let t = picks_taken c.args.net.now h.taken c.args.picks.items h.picks_are k l in
    subst (λ z. z < length c.args.net.now.graph.edges) (get_or_default c.args.picks.items k 0 d l) t.0)

pub gathered_edges-requires-clause-ends : goal.gathered_edges-requires-clause-ends
gathered_edges-requires-clause-ends c = let h = c.requires in rw (c.as_slice.ensures.value, c.as_slice-edges.ensures) (λ k d l.
    let t = picks_taken c.args.net.now h.taken c.args.picks.items h.picks_are k l in
    let p = has_places c.args.net.now h.taken c.args.place.now h.long h.closed h.place_long h.place_each (slice_index_or c.args.picks.items k 0) t.0 t.1 in
    subst (λ z. HasPlaces (slice_index_or c.args.net.now.graph.edges z no_edge) c.args.place.now) (get_or_default c.args.picks.items k 0 d l) p)

pub gathered_ports-requires : goal.gathered_ports-requires
gathered_ports-requires c = record {
  within = let h = c.requires in rw (c.as_slice-3.ensures.value, c.as_slice-2.ensures) (λ k d l.
      let t = picks_taken c.args.net.now h.taken c.args.picks.items h.picks_are k l in
      let n = c.args.net.now.ports_per_edge in
      subst (λ z. z < length c.args.net.now.ports) (get_or_default c.args.picks.items k 0 d l) (omega (arith, t.0, n)));
}

pub gathered_pieces-requires-clause-within : goal.gathered_pieces-requires-clause-within
gathered_pieces-requires-clause-within c = let h = c.requires in rw (c.as_slice-5.ensures.value, c.as_slice-4.ensures) (λ k d l.
    let t = nodes_taken h.taken c.args.nodes.items h.nodes_are k l in
    let n = h.long in
    let m = c.args.net.now.piece_per_node in
    subst (λ z. z < length c.args.net.now.pieces) (get_or_default c.args.nodes.items k 0 d l) (omega (arith, t.0, n, m)))

gathered_before : (c : goal.After-len) → AreGathered c.args.net.now c.requires.taken c.args.nodes.items c.args.place.now
    c.args.picks.items c.in_ok-found.found.items c.in_ok-ports.ports.items
gathered_before c = let h = c.requires in record {
  long = h.long;
  closed = h.closed;
  nodes_are = h.nodes_are;
  place_long = h.place_long;
  place_each = h.place_each;
  picks_are = h.picks_are;
  edges_long = c.in_ok-found.ensures.long ∙ ap length c.as_slice.ensures.value;
  edges_each = rw (c.as_slice.ensures.value, c.as_slice-edges.ensures) at c.in_ok-found.ensures.each;
  ports_long = c.in_ok-ports.ensures.long ∙ ap length c.as_slice-3.ensures.value;
  ports_each = rw (c.as_slice-3.ensures.value, c.as_slice-2.ensures) at c.in_ok-ports.ensures.each;
}

pub overflow_cast-len : goal.overflow_cast-len
overflow_cast-len c =
    let e : c.len.result ≡ length c.args.nodes.items = c.len.ensures ∙ c.args.nodes.ok.0 in
    let g = gathered_graph c.args.net.now c.requires.taken _ _ _ _ _ (gathered_before c) in
    let few = g.few_nodes in
    omega (arith, e, few)

pub assembled-net-requires-clause-graph : goal.assembled-net-requires-clause-graph
assembled-net-requires-clause-graph c =
    let e : c.len.result ≡ length c.args.nodes.items = c.len.ensures ∙ c.args.nodes.ok.0 in
    subst (λ n. IsGraph n c.in_ok-found.found.items) (sym e) (gathered_graph c.args.net.now c.requires.taken _ _ _ _ _ (gathered_before c))

gathered : (c : goal.After-assembled-net) → AreGathered c.args.net.now c.requires.taken c.args.nodes.items
    c.args.place.now c.args.picks.items c.in_ok-found.found.items c.in_ok-ports.ports.items
gathered c = let h = c.requires in record {
  long = h.long;
  closed = h.closed;
  nodes_are = h.nodes_are;
  place_long = h.place_long;
  place_each = h.place_each;
  picks_are = h.picks_are;
  edges_long = c.in_ok-found.ensures.long ∙ ap length c.as_slice.ensures.value;
  edges_each = rw (c.as_slice.ensures.value, c.as_slice-edges.ensures) at c.in_ok-found.ensures.each;
  ports_long = c.in_ok-ports.ensures.long ∙ ap length c.as_slice-3.ensures.value;
  ports_each = rw (c.as_slice-3.ensures.value, c.as_slice-2.ensures) at c.in_ok-ports.ensures.each;
}

pub returns-clause-part : goal.returns-clause-part
returns-clause-part c =
    let n : c.assembled-net.result.graph.nodes ≡ length c.args.nodes.items = c.assembled-net.ensures.nodes ∙ c.len.ensures ∙ c.args.nodes.ok.0 in
    gathered_part c.args.net.now c.requires.taken _ _ _ _ _ (gathered c) c.assembled-net.result n c.assembled-net.ensures.edges c.assembled-net.ensures.ports

pub returns-clause-count : goal.returns-clause-count
returns-clause-count c = c.assembled-net.ensures.nodes ∙ c.len.ensures ∙ c.args.nodes.ok.0
