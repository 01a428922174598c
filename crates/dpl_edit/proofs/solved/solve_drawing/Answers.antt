use Rattle.dpl_edit.proofs.solved.solve_drawing.Goals as goal

pub returns-in-Err-clause-refused : goal.returns-in-Err-clause-refused
returns-in-Err-clause-refused c = c.layer_of.ensures.refused c.in-Err.error c.in-Err.is
