use Rattle.std.proofs.Common.{arith, ◌<◌, sym}
use Rattle.dpl_sign.specs.Drawings.{is_in, dart_count}
use Rattle.dpl_drawing.proofs.TurnSteps.{last_bare, ahead_in, found_ahead, back_in, found_back}
use Rattle.dpl_drawing.proofs.turning.walk_from.Goals as goal

pub returns-then-last-eq-NO_DART-clause-value : goal.returns-then-last-eq-NO_DART-clause-value
returns-then-last-eq-NO_DART-clause-value c = sym (last_bare c.args.net.now (is_in c.args.kept.now) c.args.dart
    c.args.last c.requires.dart c.requires.last c.if-last-eq-NO_DART.true)

pub is_met_before-requires-clause-second : goal.is_met_before-requires-clause-second
is_met_before-requires-clause-second c =
    (ahead_in c.args.net.now (is_in c.args.kept.now) _ _ _ _ c.next-after.result c.requires.faces
    c.loop-step.invariant.ahead_in c.twin.ensures c.next-after.ensures.value).inside

pub returns-then-is_met_before-clause-range : goal.returns-then-is_met_before-clause-range
returns-then-is_met_before-clause-range c =
    (ahead_in c.args.net.now (is_in c.args.kept.now) _ _ _ _ c.next-after.result c.requires.faces
    c.loop-step.invariant.ahead_in c.twin.ensures c.next-after.ensures.value).inside

pub returns-then-is_met_before-clause-value : goal.returns-then-is_met_before-clause-value
returns-then-is_met_before-clause-value c =
    found_ahead c.args.net.now (is_in c.args.kept.now) _ c.args.dart _ _ _ _ c.requires.dart c.requires.new
    c.requires.faces c.loop-step.invariant.ahead_in c.twin.ensures c.next-after.ensures.value
    c.is_met_before.ensures c.if-is_met_before.true

pub returns-then-is_met_before-2-clause-value : goal.returns-then-is_met_before-2-clause-value
returns-then-is_met_before-2-clause-value c =
    let below : c.prev.result < dart_count c.args.net.now = omega (arith, c.prev.ensures.range, c.requires.faces.darts) in
    found_back c.args.net.now (is_in c.args.kept.now) _ c.args.dart _ c.prev.result _ _ c.requires.dart c.requires.new
    c.requires.faces c.loop-step.invariant.behind_in below c.prev.ensures.value c.twin-before.ensures
    c.is_met_before-in-loop-step.ensures c.if-is_met_before-2.true

pub loop-step-preserved : goal.loop-step-preserved
loop-step-preserved c =
    let below : c.prev.result < dart_count c.args.net.now = omega (arith, c.prev.ensures.range, c.requires.faces.darts) in
    record {
      ahead_in = ahead_in c.args.net.now (is_in c.args.kept.now) _ _ _ _ c.next-after.result c.requires.faces
          c.loop-step.invariant.ahead_in c.twin.ensures c.next-after.ensures.value;
      behind_in = back_in c.args.net.now (is_in c.args.kept.now) _ _ _ c.prev.result _ c.requires.faces
          c.loop-step.invariant.behind_in below c.prev.ensures.value c.twin-before.ensures;
    }
