-- A report as plain numbers and lists.
use Rattle.std.specs.Prelude.{ℕ, Bool, List, map}
use Rattle.dpl_cell.specs.Places.{Corners, corners_of}
use Rattle.dpl_sign.specs.declared.walks.Cycle.{Cycle}
use Rattle.dpl_report.specs.declared.marks.Broken.{Broken}
use Rattle.dpl_report.specs.declared.marks.Zone.{Zone}
use Rattle.dpl_report.specs.declared.params.Params.{Params}
use Rattle.dpl_report.specs.declared.params.Counts.{Counts}
use Rattle.dpl_report.specs.declared.reports.Report.{Report}
use Rattle.dpl_report.specs.declared.values.Values.{Values}
use Rattle.dpl_report.specs.declared.values.More.{More}

-- a broken stitch with its overlap
pub record PlainZone : Type 0 where
  pub at : Broken
  pub corners : Corners

abbrev pub plain_zone : Zone → PlainZone
plain_zone z = record { at = z.at; corners = corners_of z.rect }

-- the lines before the lists
pub record PlainHead : Type 0 where
  pub params : Params
  pub counts : Counts
  pub cost : ℕ
  pub bound : ℕ
  pub colours : List Bool

-- what is broken, what is set aside, and the walks that show the bound
pub record PlainLists : Type 0 where
  pub cuts : List PlainZone
  pub clashes : List Broken
  pub aside : List ℕ
  pub cycles : List Cycle

pub record PlainReport : Type 0 where
  pub head : PlainHead
  pub lists : PlainLists
  pub on_a : List Corners
  pub on_b : List Corners

-- the values that each report has, and those that only some have
abbrev pub params_with : Values → More → Params
params_with v m = record {
  layer = v.layer;
  space = v.space;
  overlap = v.overlap;
  stitch = v.stitch;
  conflict = v.conflict;
  corner = m.corner;
  keep = m.keep;
}

abbrev pub plain_report : Report → PlainReport
plain_report r = record {
  head = record {
    params = r.params;
    counts = r.counts;
    cost = r.cost;
    bound = r.bound;
    colours =
        r.colours;
  };
  lists = record {
    cuts = map plain_zone r.cuts;
    clashes = r.clashes;
    aside = r.aside;
    cycles =
        r.cycles;
  };
  on_a = map corners_of r.on_a;
  on_b = map corners_of r.on_b;
}
