use Rattle.std.proofs.Common.{ap, length, List}
use Rattle.dpl_colour.proofs.MergeLemmas.{coloured_from, all_done, is_colouring, breaks_joined}
use Rattle.dpl_colour.proofs.ListedLemmas.{listed_from}
use Rattle.dpl_map.proofs.ViewLemmas.{plane_of}
use Rattle.dpl_colour.proofs.colours.colour.Goals as goal

pub loop-i-init : goal.loop-i-init
loop-i-init c = record {
  coloured = coloured_from c.args.graph.now _ _ _ _ (plane_of c.args.graph.now c.args.map.now c.requires.map)
      c.requires.meets c.in_ok-names.ensures.length (c.in_ok-colours.ensures.items_if_clones_equal (λ y h. h))
      c.in_ok-names.ensures.each;
  listed = listed_from c.args.graph.now.nodes _ _ _ _ c.in_ok-names.ensures.length c.in_ok-lists.ensures.nexts c.in_ok-lists.ensures.lasts
      c.in_ok-lists.ensures.lengths c.in_ok-names.ensures.each c.in_ok-lists.ensures.next c.in_ok-lists.ensures.last;
}

pub returns-clause-colouring : goal.returns-clause-colouring
returns-clause-colouring c = is_colouring c.args.graph.now _ _ _ _
    (plane_of c.args.graph.now c.args.map.now c.requires.map) c.requires.meets
    (all_done _ _ _ _ _ _ _ (ap (λ (z : List _). length z) c.as_slice-i-end.ensures) c.loop-i-test.false
    c.loop-i.invariant.coloured)

pub returns-clause-broken : goal.returns-clause-broken
returns-clause-broken c = breaks_joined c.args.graph.now _ _ _ _ c.requires.meets
    (all_done _ _ _ _ _ _ _ (ap (λ (z : List _). length z) c.as_slice-i-end.ensures) c.loop-i-test.false
    c.loop-i.invariant.coloured)

pub settle-requires-clause-wanted : goal.settle-requires-clause-wanted
settle-requires-clause-wanted c = record { map = plane_of c.args.graph.now c.args.map.now c.requires.map; places = c.requires.places }
