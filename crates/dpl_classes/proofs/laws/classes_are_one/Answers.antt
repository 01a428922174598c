use Rattle.dpl_classes.proofs.NumberLemmas.{classes_same}
use Rattle.dpl_classes.proofs.laws.classes_are_one.Goals as goal

pub returns : goal.returns
returns c n count' other = classes_same c.args.pairs.now n c.args.one.now c.args.other.now count' other
