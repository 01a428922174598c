use Rattle.std.proofs.Common.{◌≡◌, rules}
use Rattle.indexmap.specs.IndexMap.{keys}
use Rattle.dpl_rules.specs.declared.what.What.TheVariants.{Missing}
use Rattle.dpl_calls.specs.Loops.{is_missing}
use Rattle.dpl_calls.specs.Found.{first_call}
use Rattle.dpl_calls.proofs.FirstCalls.{first_found}
use Rattle.dpl_calls.proofs.loops.missing.Goals as goal

pub returns : goal.returns
returns c =
    let same : c.loop-number.first ≡ first_call (is_missing (keys c.args.table.now.definitions)) c.args.table.now = search rules in
    λ sites h. first_found c.args.table.now sites h (is_missing (keys c.args.table.now.definitions)) Missing c.loop-number.first same
