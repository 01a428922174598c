use Rattle.std.proofs.Common.{◌∙◌, sym}
use Rattle.dpl_flood.proofs.pairs.join_two.Goals as goal

pub flip_join-requires-clause-join : goal.flip_join-requires-clause-join
flip_join-requires-clause-join c = (c.requires.joins c.args.from c.args.to c.in-Some.join (sym c.find.ensures ∙ c.in-Some.is)).join
