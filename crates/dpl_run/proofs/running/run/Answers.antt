use Rattle.dpl_run.proofs.running.run.Goals as goal

pub returns-clause-read : goal.returns-clause-read
returns-clause-read g c = c.attempt-status.ensures.reads.read

pub returns-clause-limit : goal.returns-clause-limit
returns-clause-limit g c = c.attempt-status.ensures.reads.limit

pub returns-clause-report_limit : goal.returns-clause-report_limit
returns-clause-report_limit g c = c.attempt-status.ensures.reads.report_limit

pub returns-clause-script_limit : goal.returns-clause-script_limit
returns-clause-script_limit g c = c.attempt-status.ensures.reads.script_limit

pub returns-clause-touched : goal.returns-clause-touched
returns-clause-touched g c = c.attempt-status.ensures.reads.touched
