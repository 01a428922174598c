-- The parts of a report that are read one after the other, as plain numbers and lists.
use Rattle.dpl_report.specs.Plain.{PlainHead, PlainLists}
use Rattle.dpl_parse.specs.declared.heads.Head.{Head}
use Rattle.dpl_parse.specs.declared.bodies.Lists.{Lists}

abbrev pub plain_head : Head → PlainHead
plain_head h = record {
  params = h.params;
  counts = h.counts;
  cost = h.cost;
  bound = h.bound;
  colours = h.colours;
}

abbrev pub plain_lists : Lists → PlainLists
plain_lists l = record {
  cuts = l.cuts;
  clashes = l.clashes;
  aside = l.aside;
  cycles = l.cycles;
}
