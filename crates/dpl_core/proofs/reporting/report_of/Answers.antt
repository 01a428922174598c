use Rattle.std.proofs.Common.{refl}
use Rattle.dpl_core.proofs.ReportLemmas.{least_of}
use Rattle.dpl_core.proofs.reporting.report_of.Goals as goal

pub returns-clause-least : goal.returns-clause-least
returns-clause-least c = least_of c.args.net.now _ _ _ _ _ _ c.requires.solution _ _ c.new.ensures refl refl refl
