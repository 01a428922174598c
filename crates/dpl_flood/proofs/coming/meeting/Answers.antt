use Rattle.std.proofs.Common.{arith}
use Rattle.dpl_flood.specs.States.{sea_of}
use Rattle.dpl_dual.specs.Duals.{way_at}
use Rattle.dpl_flood.proofs.ComeLemmas.{has_met, met_back, over_back, meet_nearer, gain_outer, gain_other, gain_once}
use Rattle.dpl_flood.proofs.coming.meeting.Goals as goal

pub returns-in-Outer-label : goal.returns-in-Outer-label
returns-in-Outer-label c = λ d x st over met h1 h2 r1 r2.
    let one = gain_outer c.args.one.now.label c.in-Outer.is in
    let two = gain_outer c.args.two.now.label c.in-Outer-label.is in
    has_met d (sea_of x) c.args.ahead c.args.one.now c.args.two.now over met h1 h2 r1 r2 one.0 1 two.0 two.1

pub returns-in_default-label : goal.returns-in_default-label
returns-in_default-label c = λ d x st over met h1 h2 r1 r2.
    let one = gain_outer c.args.one.now.label c.in-Outer.is in
    let two = gain_other c.args.two.now.label c.in_default-label.not-Outer in
    let near = meet_nearer (sea_of x) c.args.ahead.from c.args.ahead.to (way_at d.crosses c.args.ahead.way).length c.args.one.now c.args.two.now met h1 h2 in
    has_met d (sea_of x) c.args.ahead c.args.one.now c.args.two.now over met h1 h2 r1 r2 one.0 0 two (omega (arith, near, one.0, two))

pub returns-in_default : goal.returns-in_default
returns-in_default c = λ d x st over met h1 h2 r1 r2.
    let one = gain_other c.args.one.now.label c.in_default.not-Outer in
    let near = meet_nearer (sea_of x) c.args.ahead.from c.args.ahead.to (way_at d.crosses c.args.ahead.way).length c.args.one.now c.args.two.now met h1 h2 in
    let once = gain_once c.args.two.now.label in
    has_met d (sea_of x) (record { from = c.args.ahead.to; way = c.args.ahead.way; to = c.args.ahead.from }) c.args.two.now c.args.one.now
    (over_back d c.args.ahead.from c.args.ahead.way c.args.ahead.to over)
    (met_back (sea_of x) c.args.ahead.from c.args.ahead.to (way_at d.crosses c.args.ahead.way).length met) h2 h1 r2 r1
    (omega (arith, near, one, once)) 0 one (omega (arith, near, one, once))
