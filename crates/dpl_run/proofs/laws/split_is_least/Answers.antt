use Rattle.dpl_run.proofs.LeastLemmas.{as_split, writes_split, writes_balanced, writes_refined}
use Rattle.dpl_run.proofs.laws.split_is_least.Goals as goal

pub returns-clause-split : goal.returns-clause-split
returns-clause-split c words o text second taken now e a = writes_split words o text second taken now e a

pub returns-clause-balance : goal.returns-clause-balance
returns-clause-balance c words o text second taken now e a = writes_balanced words o text second taken now e a

pub returns-clause-balanced : goal.returns-clause-balanced
returns-clause-balanced c o text output p = as_split o text output p

pub returns-clause-refine : goal.returns-clause-refine
returns-clause-refine c words o text second taken now e a = writes_refined words o text second taken now e a
