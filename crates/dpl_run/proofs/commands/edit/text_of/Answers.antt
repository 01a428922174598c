use Rattle.dpl_run.proofs.commands.edit.text_of.Goals as goal

pub print-requires : goal.print-requires
print-requires c = c.in_ok-report.ensures.of_cells.facts.valid

pub returns : goal.returns
returns c = record { report = _; has = c.in_ok-report.ensures.of_cells; is = c.in_ok-text.ensures.text }
