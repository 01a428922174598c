use Rattle.dpl_map.specs.Views.{view_of}
use Rattle.dpl_colour.specs.Merges.{IsColoured}
use Rattle.dpl_colour.specs.Lists.{AreListed}
use Rattle.dpl_colour.proofs.colours.colour.Given as goal

abbrev pub invariant-loop-i : goal.invariant-loop-i
invariant-loop-i l = record {
  coloured : IsColoured l.graph (view_of l.fn.map) l.joined l.i l.names.items l.colours.items;
  listed : AreListed l.names.items l.lists.next.items l.lists.last.items l.lists.lengths.items;
}
