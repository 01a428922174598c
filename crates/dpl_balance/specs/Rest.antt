-- What balancing leaves of a report.
use Rattle.std.specs.Prelude.{◌≡◌}
use Rattle.dpl_report.specs.declared.reports.Report.{Report}

-- everything but the colours and the rectangles of the masks is as before
pub record IsRestOf (before now : Report) : Type 0 where
  pub params : now.params ≡ before.params
  pub counts : now.counts ≡ before.counts
  pub cost : now.cost ≡ before.cost
  pub bound : now.bound ≡ before.bound
  pub cuts : now.cuts ≡ before.cuts
  pub clashes : now.clashes ≡ before.clashes
  pub aside : now.aside ≡ before.aside
  pub cycles : now.cycles ≡ before.cycles
