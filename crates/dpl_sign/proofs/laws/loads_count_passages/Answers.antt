use Rattle.dpl_sign.proofs.LoadLaw.{loads_counted}
use Rattle.dpl_sign.proofs.laws.loads_count_passages.Goals as goal

pub returns : goal.returns
returns c = loads_counted c.args.cycles.now
