use Rattle.std.proofs.Common.{arith, ap, sym, subst, ◌∙◌, ◌≢◌, ◌<◌, inl, inr, length, get_or, List, ℕ}
use Rattle.dpl_map.specs.Views.{view_of}
use Rattle.dpl_sign.specs.declared.edges.Edge.{Edge}
use Rattle.dpl_sign.specs.Colourings.{colour_of}
use Rattle.dpl_sign.specs.Kinds.{is_clash}
use Rattle.dpl_map.specs.Sides.{differ}
use Rattle.dpl_map.proofs.ViewLemmas.{edge_of}
use Rattle.dpl_colour.specs.Meets.{is_joined}
use Rattle.dpl_colour.specs.Merges.{painted}
use Rattle.dpl_colour.specs.Lists.{AreLinked}
use Rattle.dpl_colour.proofs.MergeLemmas.{settle_more, coloured_skip, kept_at}
use Rattle.dpl_colour.proofs.ListedLemmas.{pair_of, listed_after}
use Rattle.dpl_colour.proofs.merging.settle.Goals as goal
use Rattle.dpl_sign.proofs.WalkLemmas.{edge_is}

pub kept-requires : goal.kept-requires
kept-requires c = edge_of c.args.wanted.now.graph.now c.args.wanted.now.map.now c.requires.wanted.map.map c.args.i c.requires.inside

pub merge-requires-clause-inside : goal.merge-requires-clause-inside
merge-requires-clause-inside c =
    let e = edge_is c.args.wanted.now.graph.now _ _ _ c.as_slice.ensures
    (omega (arith, c.requires.inside, ap length c.as_slice.ensures)) c.index-as_slice-i.is in
    let pair = pair_of c.args.wanted.now.graph.now c.args.names.now c.args.lists.now.next.items _ _ c.args.i _ _ _ e c.requires.inside
    c.requires.coloured.lengths c.requires.listed c.shorter_first-from.ensures in
    pair.from_below

pub merge-requires-clause-first : goal.merge-requires-clause-first
merge-requires-clause-first c =
    let e = edge_is c.args.wanted.now.graph.now _ _ _ c.as_slice.ensures
    (omega (arith, c.requires.inside, ap length c.as_slice.ensures)) c.index-as_slice-i.is in
    let pair = pair_of c.args.wanted.now.graph.now c.args.names.now c.args.lists.now.next.items _ _ c.args.i _ _ _ e c.requires.inside
    c.requires.coloured.lengths c.requires.listed c.shorter_first-from.ensures in
    pair.from_own

pub merge-requires-clause-linked : goal.merge-requires-clause-linked
merge-requires-clause-linked c =
    let a = c.requires.listed in
    let linked : AreLinked c.args.names.now c.args.lists.now.next.items = record { counts = a.counts; places = a.places; placed = a.placed } in
    subst (λ (xs : List ℕ). AreLinked c.args.names.now xs) (sym c.deref-2.ensures.value) linked

pub append-requires : goal.append-requires
append-requires c =
    let e = edge_is c.args.wanted.now.graph.now _ _ _ c.as_slice.ensures
    (omega (arith, c.requires.inside, ap length c.as_slice.ensures)) c.index-as_slice-i.is in
    let pair = pair_of c.args.wanted.now.graph.now c.args.names.now c.args.lists.now.next.items _ _ c.args.i _ _ _ e c.requires.inside
    c.requires.coloured.lengths c.requires.listed c.shorter_first-from.ensures in
    let a = c.requires.listed in
    let last = c.args.lists.now.last.items in
    let end = a.ends _ pair.to_below in
    let node : get_or last c.shorter_first-from.result.1 0 < length c.args.names.now =
    subst (λ (f : ℕ). get_or last f 0 < length c.args.names.now) pair.to_own end.0 in
    record {
      from = omega (arith, pair.from_below, a.lasts);
      to = omega (arith, pair.to_below, a.lasts);
      node = omega (arith, node, a.placed.sizes);
      lengths = a.sizes ∙ sym a.lasts;
    }

pub returns-then-a-b-clause-coloured : goal.returns-then-a-b-clause-coloured
returns-then-a-b-clause-coloured c =
    let names = c.args.names.now in
    let e = edge_is c.args.wanted.now.graph.now _ _ _ c.as_slice.ensures
    (omega (arith, c.requires.inside, ap length c.as_slice.ensures)) c.index-as_slice-i.is in
    coloured_skip c.args.wanted.now.graph.now (view_of c.args.wanted.now.map.now) c.args.wanted.now.joined.now c.args.i names c.args.colours.now
    (λ t. ap (λ (z : Edge). get_or names z.a 0) (sym e) ∙ c.if-a-b.true ∙ ap (λ (z : Edge). get_or names z.b 0) e) c.requires.coloured

pub returns-clause-coloured : goal.returns-clause-coloured
returns-clause-coloured c =
    let colours = c.args.colours.now in
    let e = edge_is c.args.wanted.now.graph.now _ _ _ c.as_slice.ensures
    (omega (arith, c.requires.inside, ap length c.as_slice.ensures)) c.index-as_slice-i.is in
    let pair = pair_of c.args.wanted.now.graph.now c.args.names.now c.args.lists.now.next.items _ _ c.args.i _ _ _ e c.requires.inside
    c.requires.coloured.lengths c.requires.listed c.shorter_first-from.ensures in
    let flip = c.flips-flip.ensures ∙ ap (λ (z : Edge). differ (differ (colour_of colours z.a) (colour_of colours z.b))
    (differ (is_joined c.args.wanted.now.joined.now c.args.i) (is_clash z.kind))) e in
    let kept = kept_at (view_of c.args.wanted.now.map.now) c.args.i _ (sym c.kept.ensures ∙ c.if-not-kept.false) in
    settle_more c.args.wanted.now.graph.now (view_of c.args.wanted.now.map.now) c.args.wanted.now.joined.now c.args.i
    (painted c.args.names.now colours) _ _ c.requires.inside kept c.requires.coloured pair.ends flip c.merge.ensures

pub returns-clause-listed : goal.returns-clause-listed
returns-clause-listed c =
    let e = edge_is c.args.wanted.now.graph.now _ _ _ c.as_slice.ensures
    (omega (arith, c.requires.inside, ap length c.as_slice.ensures)) c.index-as_slice-i.is in
    let pair = pair_of c.args.wanted.now.graph.now c.args.names.now c.args.lists.now.next.items _ _ c.args.i _ _ _ e c.requires.inside
    c.requires.coloured.lengths c.requires.listed c.shorter_first-from.ensures in
    let apart : c.shorter_first-from.result.0 ≢ c.shorter_first-from.result.1 = λ q. elim c.shorter_first-from.ensures [
      | inl t ↦ c.if-a-b.false (sym t.1 ∙ sym q ∙ t.0)
      | inr t ↦ c.if-a-b.false (sym t.0 ∙ q ∙ t.1)
    ] in
    listed_after _ (painted c.args.names.now c.args.colours.now) _ c.args.lists.now.next.items _ _ _ _ _ apart pair.from_below pair.to_below
    pair.from_own pair.to_own c.requires.listed c.merge.ensures c.append.ensures.next c.append.ensures.last c.append.ensures.lengths
