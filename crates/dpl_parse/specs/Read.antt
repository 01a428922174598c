-- What a report says, with its lists as they stand in its text.
use Rattle.dpl_report.specs.Plain.{PlainReport}
pub use Rattle.dpl_walks.specs.Cycles.{cycles_in}
pub use Rattle.dpl_walks.specs.Read.{cycle_of}
use Rattle.dpl_parse.specs.declared.reading.ReadReport.{ReadReport}

-- a report as plain numbers and lists
abbrev pub plain_read : ReadReport → PlainReport
plain_read r = record {
  head = record {
    params = r.params;
    counts = r.counts;
    cost = r.cost;
    bound = r.bound;
    colours = r.colours;
  };
  lists = record {
    cuts = r.cuts;
    clashes = r.clashes;
    aside = r.aside;
    cycles = r.cycles;
  };
  on_a = r.on_a;
  on_b = r.on_b;
}
