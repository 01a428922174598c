use Rattle.std.proofs.Common.{arith, rules, ◌≡◌, false, sym, ap, ◌∙◌}
use Rattle.std.proofs.lemmas.Bool.{both_ways}
use Rattle.std.proofs.lemmas.List.Sorted.{IsPartitionPoint-from_clause}
use Rattle.dpl_sign.specs.declared.edges.Edge.{Edge}
use Rattle.std.specs.Prelude.{slice_index_or}
use Rattle.std.proofs.lemmas.List.{get_or_default}
use Rattle.dpl_sign.specs.Walks.{no_edge}
use Rattle.dpl_stay.specs.Order.{key_before, key_of}
use Rattle.dpl_stay.proofs.OrderLemmas.{parted_edges, lone_edge}
use Rattle.dpl_stay.proofs.finding.edge_with.Goals as goal

pub returns-then-place-edges : goal.returns-then-place-edges
returns-then-place-edges c =
    let k = c.args.wanted.now in
    let point = IsPartitionPoint-from_clause (λ (e : Edge). key_before (key_of e) k) _ _
    c.partition_point-place.ensures.partitioned (parted_edges c.args.edges.now k c.requires.order)
    (λ a q f k. search rules) in
    λ w l e. let same = lone_edge c.args.edges.now k c.partition_point-place.result w c.requires.order point l e in
    let past = c.if-place-edges.true in omega (arith, same, past, l)

pub returns-then-not-has_key : goal.returns-then-not-has_key
returns-then-not-has_key c =
    let k = c.args.wanted.now in
    let point = IsPartitionPoint-from_clause (λ (e : Edge). key_before (key_of e) k) _ _
    c.partition_point-place.ensures.partitioned (parted_edges c.args.edges.now k c.requires.order)
    (λ a q f k. search rules) in
    let far : c.has_key.result ≡ false = search rules in
    λ w l e. let same = lone_edge c.args.edges.now k c.partition_point-place.result w c.requires.order point l e in
    let here : key_of c.index-edges-place.result ≡ k =
    ap key_of (c.index-edges-place.is ∙ get_or_default c.args.edges.now c.partition_point-place.result
    c.index-edges-place.result no_edge c.if-place-edges.false)
    ∙ ap (λ i. key_of (slice_index_or c.args.edges.now i no_edge)) (sym same) ∙ e in
    both_ways _ far (c.has_key.ensures.1 here)
