use Rattle.std.proofs.Common.{arith, sym, subst, ◌≡◌}
use Rattle.std.specs.Prelude.{IfOk}
use Rattle.std.proofs.Math.Path.{subst₂}
use Rattle.dpl_dual.specs.Chains.{no_cross}
use Rattle.dpl_flood.specs.Steps.{AreListed}
use Rattle.dpl_flood.proofs.StepLemmas.{none_listed, all_listed}
use Rattle.dpl_flood.proofs.ways.steps_at.Goals as goal

pub loop-i-init : goal.loop-i-init
loop-i-init c = subst₂ (AreListed c.args.faces c.args.ways.now 0) (sym c.new-keys.ensures.items) (sym c.new-steps.ensures.items) (none_listed c.args.faces c.args.ways.now)

pub loop-i-preserved : goal.loop-i-preserved
loop-i-preserved c =
    let at = c.requires.inside c.loop-i.i no_cross c.loop-i-test.true in
    c.in_ok-list.ensures c.args.faces at.0 at.1 c.loop-i.invariant

pub returns : goal.returns
returns c =
    let ways = c.args.ways.now in
    let seen = subst₂ (AreListed c.args.faces ways c.loop-i.i) (sym c.deref.ensures.value) (sym c.deref-2.ensures.value) c.loop-i.invariant in
    let is = all_listed c.args.faces c.loop-i.i ways c.deref.result.now c.deref-2.result.now seen
    (omega (arith, c.loop-i-test.false, c.loop-i.auto.i-end, c.requires.few)) in
    subst (λ z. IfOk c.by_key.result (λ g. g ≡ z)) is c.by_key.ensures
