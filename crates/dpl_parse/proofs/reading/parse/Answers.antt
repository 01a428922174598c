use Rattle.dpl_parse.proofs.AnswerLemmas.{answer_found, answer_only, answer_wrong}
use Rattle.dpl_parse.proofs.reading.parse.Goals as goal

pub returns-clause-found : goal.returns-clause-found
returns-clause-found c = answer_found c.args.text.now c.numbered.result c.numbered.ensures

pub returns-clause-only : goal.returns-clause-only
returns-clause-only c = λ r f e. answer_only c.args.text.now c.numbered.result r c.numbered.ensures f e

pub returns-clause-wrong : goal.returns-clause-wrong
returns-clause-wrong c = λ n e. answer_wrong c.args.text.now c.numbered.result n c.numbered.ensures e
