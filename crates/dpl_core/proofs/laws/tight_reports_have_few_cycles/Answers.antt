use Rattle.dpl_core.proofs.laws.tight_reports_have_few_cycles.Goals as goal

pub returns-clause-kept : goal.returns-clause-kept
returns-clause-kept c = λ net r tight. tight.kept

pub returns-clause-once : goal.returns-clause-once
returns-clause-once c = λ net r tight. tight.once

pub returns-clause-few : goal.returns-clause-few
returns-clause-few c = λ net r tight. tight.few

pub returns-clause-corner : goal.returns-clause-corner
returns-clause-corner c = λ net r tight. tight.corner
