use Rattle.std.proofs.Common.{arith, ◌<◌, sym, ◌∙◌}
use Rattle.dpl_laminar.specs.Storing.{sets_of}
use Rattle.dpl_tree.specs.steps.Opened.{lists_of, forest_in}
use Rattle.dpl_tree.specs.Views.{mate_in}
use Rattle.dpl_tree.proofs.Ways.{way_turned, way_falls, way_ended}
use Rattle.dpl_tree.proofs.way.augment.Goals as goal

pub tops-requires-in-Some : goal.tops-requires-in-Some
tops-requires-in-Some c =
    let w = c.requires.begun in
    let g = c.climb.invariant w.0 w.1 w.2 w.3 in
    let hx : c.in-Some.exit < (sets_of c.args.family.now).size = omega (arith, c.in-Some.ensures.0, w.3.stage.rest.size) in
    omega (arith, g.climb.pairs.range c.in-Some.exit c.in-Some.mate hx c.in-Some.ensures.2, w.3.stage.rest.size)

pub link-above-requires : goal.link-above-requires
link-above-requires c =
    let w = c.requires.begun in
    let g = c.climb.invariant w.0 w.1 w.2 w.3 in
    let hx : c.in-Some.exit < (sets_of c.args.family.now).size = omega (arith, c.in-Some.ensures.0, w.3.stage.rest.size) in
    let hb = g.climb.pairs.range c.in-Some.exit c.in-Some.mate hx c.in-Some.ensures.2 in
    omega (arith, w.3.stage.rest.laminar.tops.top_range c.in-Some.mate hb, c.tops-in-Some.ensures.value, c.requires.sized.links)

pub part-requires-clause-second : goal.part-requires-clause-second
part-requires-clause-second c =
    let w = c.requires.begun in
    let g = c.climb.invariant w.0 w.1 w.2 w.3 in
    let hx : c.in-Some.exit < (sets_of c.args.family.now).size = omega (arith, c.in-Some.ensures.0, w.3.stage.rest.size) in
    omega (arith, g.climb.pairs.range c.in-Some.exit c.in-Some.mate hx c.in-Some.ensures.2, c.climb.auto.mates, c.requires.mates)

pub climb-smaller : goal.climb-smaller
climb-smaller c =
    let w = c.requires.begun in
    let top = c.in-Some.ensures.1 ∙ c.tops.ensures.value in
    rw (c.link-above.ensures, c.tops-in-Some.ensures.value)
    (way_falls (sets_of c.args.family.now).size (sets_of c.args.family.now) w.0 (forest_in (lists_of c.args.tree.now) w.1) c.climb.mates
    c.climb.outer c.climb.other c.in-Some.exit c.in-Some.mate w.3.stage (c.climb.invariant w.0 w.1 w.2 w.3).climb
    (omega (arith, c.in-Some.ensures.0, w.3.stage.rest.size)) top c.in-Some.ensures.2).1

pub climb-preserved : goal.climb-preserved
climb-preserved c dist was me w =
    let top = c.in-Some.ensures.1 ∙ c.tops.ensures.value in
    rw (c.link-above.ensures, c.tops-in-Some.ensures.value, c.pair.ensures, c.part.ensures)
    (way_turned (sets_of c.args.family.now).size (sets_of c.args.family.now) dist (forest_in (lists_of c.args.tree.now) was)
    (mate_in c.args.mates.now) (c.args.s, c.args.t) c.climb.mates
    c.climb.outer c.climb.other c.in-Some.exit c.in-Some.mate me
    (omega (arith, c.climb.auto.mates, c.requires.mates)) w.stage (c.climb.invariant dist was me w)
    (omega (arith, c.in-Some.ensures.0, w.stage.rest.size)) top c.in-Some.ensures.2)

pub returns-in-None : goal.returns-in-None
returns-in-None c dist was me w = rw c.pair-in-None.ensures
    (way_ended (sets_of c.args.family.now).size (sets_of c.args.family.now) dist (forest_in (lists_of c.args.tree.now) was)
    (mate_in c.args.mates.now) (c.args.s, c.args.t) c.climb.mates c.climb.outer c.climb.other
    (omega (arith, c.climb.auto.mates, c.requires.mates)) w.stage (c.climb.invariant dist was me w)
    (λ m h e. c.in-None.ensures m (omega (arith, h, w.stage.rest.size)) (e ∙ sym c.tops.ensures.value)))
