use Rattle.std.proofs.Common.{ap}
use Rattle.dpl_rules.specs.declared.command.Command.{Command}
use Rattle.dpl_calls.specs.Put.{site_in}
use Rattle.dpl_calls.proofs.CallEntries.{no_call}
use Rattle.dpl_calls.proofs.putting.put_entries.Goals as goal

pub returns-in_ok-corners-in-Polygon-clause-calls : goal.returns-in_ok-corners-in-Polygon-clause-calls
returns-in_ok-corners-in-Polygon-clause-calls c = no_call c.put_figure.result c.args.body.now c.put_figure.new.body
    c.args.at c.args.command.now (λ place. ap (λ (x : Command). site_in place c.args.at x) c.in-Polygon.is)
    c.put_figure.ensures.calls

pub returns-in-Box-clause-calls : goal.returns-in-Box-clause-calls
returns-in-Box-clause-calls c = no_call c.put_rectangle.result c.args.body.now c.put_rectangle.new.body c.args.at
    c.args.command.now (λ place. ap (λ (x : Command). site_in place c.args.at x) c.in-Box.is)
    c.put_rectangle.ensures.calls

pub returns-in-Wire-clause-calls : goal.returns-in-Wire-clause-calls
returns-in-Wire-clause-calls c = no_call c.put_legs.result c.args.body.now c.put_legs.new.body c.args.at
    c.args.command.now (λ place. ap (λ (x : Command). site_in place c.args.at x) c.in-Wire.is) c.put_legs.ensures.calls
