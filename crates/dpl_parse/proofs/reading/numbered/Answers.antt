use Rattle.std.proofs.Common.{arith}
use Rattle.dpl_form.proofs.TextLemmas.{lines_in-short}
use Rattle.dpl_parse.proofs.reading.numbered.Goals as goal

pub overflow_add-result : goal.overflow_add-result
overflow_add-result c = omega (arith, lines_in-short c.args.text.now)
