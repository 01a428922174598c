use Rattle.dpl_cell.proofs.BoxLemmas.{box_in, in_box, test_within, within_test}
use Rattle.dpl_run.proofs.laws.cells_are_tested.Goals as goal

pub returns-clause-places : goal.returns-clause-places
returns-clause-places c a b x = (test_within a b x, within_test a b x)

pub returns-clause-cells : goal.returns-clause-cells
returns-clause-cells c r x y = (in_box r x y, box_in r x y)
