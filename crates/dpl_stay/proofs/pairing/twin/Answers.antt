use Rattle.std.proofs.Common.{arith, ◌≡◌, sym, ap, ◌∙◌, slice_index_or}
use Rattle.std.proofs.lemmas.Bool.{both_ways}
use Rattle.std.proofs.lemmas.List.{get_or_default}
use Rattle.dpl_sign.specs.declared.edges.Edge.{Edge}
use Rattle.dpl_sign.specs.Drawings.{no_port}
use Rattle.dpl_sign.specs.Walks.{no_edge, edge_at}
use Rattle.dpl_stay.specs.Same.{ports_at}
use Rattle.dpl_stay.proofs.PairLemmas.{one_edge, alike_key}
use Rattle.dpl_stay.proofs.pairing.twin.Goals as goal

pub returns-then-as_slice-found : goal.returns-then-as_slice-found
returns-then-as_slice-found c = λ d l h.
    let f = rw c.as_slice.ensures at c.in-Some-edge_with.ensures in
    let k = alike_key c.args.partners.now c.args.other.now c.args.edge.now c.args.ports.now d _ _ h c.in-Some.is c.in-Some-partners.is in
    let same : d ≡ c.in-Some-edge_with.found = one_edge c.args.other.now.graph.edges c.requires.order d _ l f.0 (k ∙ sym c.key_for-key.ensures ∙ sym f.1) in
    let weight : (edge_at c.args.other.now.graph c.in-Some-edge_with.found).weight ≡ c.args.edge.now.weight =
    ap (λ i. (edge_at c.args.other.now.graph i).weight) (sym same) ∙ h.weight in
    c.if-as_slice-found.true (ap (λ es. (slice_index_or es c.in-Some-edge_with.found c.index-as_slice-found.result).weight) c.as_slice-2.ensures
    ∙ ap (λ (e : Edge). e.weight) (get_or_default c.args.other.now.graph.edges c.in-Some-edge_with.found c.index-as_slice-found.result no_edge f.0) ∙ weight)

pub returns-then-not-are_one : goal.returns-then-not-are_one
returns-then-not-are_one c = λ d l h.
    let f = rw c.as_slice.ensures at c.in-Some-edge_with.ensures in
    let k = alike_key c.args.partners.now c.args.other.now c.args.edge.now c.args.ports.now d _ _ h c.in-Some.is c.in-Some-partners.is in
    let same : d ≡ c.in-Some-edge_with.found = one_edge c.args.other.now.graph.edges c.requires.order d _ l f.0 (k ∙ sym c.key_for-key.ensures ∙ sym f.1) in
    let n = c.args.other.now.ports_per_edge in
    let here : c.index-as_slice-found-2.result ≡ ports_at c.args.other.now c.in-Some-edge_with.found =
    c.index-as_slice-found-2.is ∙ ap (λ ps. slice_index_or ps c.in-Some-edge_with.found c.index-as_slice-found-2.result) c.as_slice-3.ensures
    ∙ get_or_default c.args.other.now.ports c.in-Some-edge_with.found c.index-as_slice-found-2.result (no_port, no_port) (omega (arith, f.0, n)) in
    both_ways _ c.if-not-are_one.true (c.are_one.ensures.1 (h.ports ∙ ap (ports_at c.args.other.now) same ∙ sym here))
