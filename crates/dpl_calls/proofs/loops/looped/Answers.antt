use Rattle.std.proofs.Common.{◌≡◌, length, rules}
use Rattle.indexmap.specs.IndexMap.{keys}
use Rattle.dpl_rules.specs.declared.what.What.TheVariants.{Loop}
use Rattle.dpl_calls.specs.Loops.{is_looped}
use Rattle.dpl_calls.specs.Table.{bodies_of}
use Rattle.dpl_calls.specs.Found.{first_call}
use Rattle.dpl_calls.proofs.FirstCalls.{first_found}
use Rattle.dpl_calls.proofs.loops.looped.Goals as goal

pub returns : goal.returns
returns c =
    let same : c.loop-number.first ≡ first_call (is_looped (length (keys c.args.table.now.definitions))
    (bodies_of c.args.table.now)) c.args.table.now = search rules in
    λ sites h. first_found c.args.table.now sites h (is_looped (length (keys c.args.table.now.definitions))
    (bodies_of c.args.table.now)) Loop c.loop-number.first same
