use Rattle.std.proofs.Common.{arith, ◌≡◌, ◌<◌, ◌≤◌, ℕ, sym, ap, subst, ◌∙◌, get_or}
use Rattle.dpl_laminar.specs.Families.{Sets}
use Rattle.dpl_laminar.specs.Storing.{sets_of}
use Rattle.dpl_tree.specs.Mates.{loads}
use Rattle.dpl_tree.specs.steps.Forests.{Forest}
use Rattle.dpl_tree.specs.steps.Joins.{AreClimbing, ways}
use Rattle.dpl_tree.specs.Views.{forest_of}
use Rattle.dpl_tree.proofs.Events.{higher_pair}
use Rattle.dpl_tree.proofs.Meetings.{step_of, climbing_left, climbing_right}
use Rattle.dpl_tree.proofs.Growing.{outer_in}
use Rattle.dpl_tree.proofs.meeting.meet.Goals as goal

pub returns-then-a-b : goal.returns-then-a-b
returns-then-a-b c = λ dist by. subst (λ (z : ℕ). AreClimbing (sets_of c.args.family.now).size (sets_of c.args.family.now) dist
    (forest_of c.args.tree.now c.args.mates.now) (c.args.s, c.args.t) (ways c.climb.left.items c.climb.right.items c.climb.a z))
    (sym c.if-a-b.true) (c.climb.invariant dist by)

pub rank-rank_a-requires : goal.rank-rank_a-requires
rank-rank_a-requires c =
    let k = c.requires.stage in
    omega (arith, (k.1.stage.tree.tops c.climb.a (outer_in (c.climb.invariant k.0 k.1).sets.a_outer)).0, c.requires.sized.ranks)

pub rank-rank_b-requires : goal.rank-rank_b-requires
rank-rank_b-requires c =
    let k = c.requires.stage in
    omega (arith, (k.1.stage.tree.tops c.climb.b (outer_in (c.climb.invariant k.0 k.1).sets.b_outer)).0, c.requires.sized.ranks)

pub step_up-up-requires-clause-paired : goal.step_up-up-requires-clause-paired
step_up-up-requires-clause-paired c =
    let k = c.requires.stage in
    let w = (c.climb.invariant k.0 k.1).sets in
    let low : get_or c.args.tree.now.ranks.items c.climb.a 0 < get_or c.args.tree.now.ranks.items c.climb.b 0 =
    omega (arith, c.if-rank_a-rank_b.true, c.rank-rank_a.ensures, c.rank-rank_b.ensures) in
    higher_pair (sets_of c.args.family.now).size (sets_of c.args.family.now) (loads (sets_of c.args.family.now).size (sets_of c.args.family.now))
    k.0 (forest_of c.args.tree.now c.args.mates.now) k.1.stage.tree c.climb.b c.climb.a
    w.b_outer w.a_outer (sym w.level) (λ e. c.if-a-b.false (sym e)) (omega (arith, low))

pub step_up-up-requires-else-rank_a-rank_b-clause-paired : goal.step_up-up-requires-else-rank_a-rank_b-clause-paired
step_up-up-requires-else-rank_a-rank_b-clause-paired c =
    let k = c.requires.stage in
    let w = (c.climb.invariant k.0 k.1).sets in
    let low : get_or c.args.tree.now.ranks.items c.climb.b 0 ≤ get_or c.args.tree.now.ranks.items c.climb.a 0 =
    omega (arith, c.if-rank_a-rank_b.false, c.rank-rank_a.ensures, c.rank-rank_b.ensures) in
    higher_pair (sets_of c.args.family.now).size (sets_of c.args.family.now) (loads (sets_of c.args.family.now).size (sets_of c.args.family.now))
    k.0 (forest_of c.args.tree.now c.args.mates.now) k.1.stage.tree c.climb.a c.climb.b
    w.a_outer w.b_outer w.level c.if-a-b.false low

pub tops-b-requires-then-rank_a-rank_b : goal.tops-b-requires-then-rank_a-rank_b
tops-b-requires-then-rank_a-rank_b c =
    let k = c.requires.stage in
    let w = step_of (sets_of c.args.family.now).size (sets_of c.args.family.now) k.0
    (forest_of c.args.tree.now c.args.mates.now) c.climb.b _ _ k.1.stage (c.climb.invariant k.0 k.1).sets.b_outer
    c.step_up-up.ensures.exit in
    omega (arith, w.ha, c.step_up-up.ensures.above, k.1.stage.rest.size)

pub tops-a-requires-else-rank_a-rank_b : goal.tops-a-requires-else-rank_a-rank_b
tops-a-requires-else-rank_a-rank_b c =
    let k = c.requires.stage in
    let w = step_of (sets_of c.args.family.now).size (sets_of c.args.family.now) k.0
    (forest_of c.args.tree.now c.args.mates.now) c.climb.a _ _ k.1.stage (c.climb.invariant k.0 k.1).sets.a_outer
    c.step_up-up-else-rank_a-rank_b.ensures.exit in
    omega (arith, w.ha, c.step_up-up-else-rank_a-rank_b.ensures.above, k.1.stage.rest.size)

pub climb-smaller-then-rank_a-rank_b : goal.climb-smaller-then-rank_a-rank_b
climb-smaller-then-rank_a-rank_b c =
    let k = c.requires.stage in
    let up = c.step_up-up.ensures in
    let x : Forest = forest_of c.args.tree.now c.args.mates.now in
    let f : Sets = sets_of c.args.family.now in
    let t = k.1.stage.tree in
    let i : ℕ = f.top c.step_up-up.result.mate in
    let o = t.outer_mate c.climb.b _ _ (c.climb.invariant k.0 k.1).sets.b_outer up.exit in
    let r = t.link_rank i o.0 in
    let e : c.tops-b-then-rank_a-rank_b.result ≡ f.top (x.above i) = c.tops-b-then-rank_a-rank_b.ensures.value ∙ ap f.top up.above in
    omega (arith, o.1, r, ap x.rank e)

pub climb-smaller : goal.climb-smaller
climb-smaller c =
    let k = c.requires.stage in
    let up = c.step_up-up-else-rank_a-rank_b.ensures in
    let x : Forest = forest_of c.args.tree.now c.args.mates.now in
    let f : Sets = sets_of c.args.family.now in
    let t = k.1.stage.tree in
    let i : ℕ = f.top c.step_up-up-else-rank_a-rank_b.result.mate in
    let o = t.outer_mate c.climb.a _ _ (c.climb.invariant k.0 k.1).sets.a_outer up.exit in
    let r = t.link_rank i o.0 in
    let e : c.tops-a-else-rank_a-rank_b.result ≡ f.top (x.above i) = c.tops-a-else-rank_a-rank_b.ensures.value ∙ ap f.top up.above in
    omega (arith, o.1, r, ap x.rank e)

pub climb-preserved-then-rank_a-rank_b : goal.climb-preserved-then-rank_a-rank_b
climb-preserved-then-rank_a-rank_b c dist st =
    let low : get_or c.args.tree.now.ranks.items c.climb.a 0 ≤ get_or c.args.tree.now.ranks.items c.climb.b 0 =
    omega (arith, c.if-rank_a-rank_b.true, c.rank-rank_a.ensures, c.rank-rank_b.ensures) in
    rw (
      c.tops-b-then-rank_a-rank_b.ensures.value,
      c.in_ok-push-2.ensures.items,
      c.in_ok-push.ensures.items,
      c.step_up-up.ensures.above,
      c.step_up-up.ensures.entry,
    )
    (climbing_right (sets_of c.args.family.now).size (sets_of c.args.family.now) dist
    (forest_of c.args.tree.now c.args.mates.now) c.args.s c.args.t c.climb.left.items c.climb.right.items c.climb.a
    c.climb.b c.step_up-up.result.exit c.step_up-up.result.mate st.symmetric st.stage
    (c.climb.invariant dist st) c.if-a-b.false low c.step_up-up.ensures.exit)

pub climb-preserved : goal.climb-preserved
climb-preserved c dist st =
    let low : get_or c.args.tree.now.ranks.items c.climb.b 0 ≤ get_or c.args.tree.now.ranks.items c.climb.a 0 =
    omega (arith, c.if-rank_a-rank_b.false, c.rank-rank_a.ensures, c.rank-rank_b.ensures) in
    rw (
      c.tops-a-else-rank_a-rank_b.ensures.value,
      c.in_ok-push-4.ensures.items,
      c.in_ok-push-3.ensures.items,
      c.step_up-up-else-rank_a-rank_b.ensures.above,
      c.step_up-up-else-rank_a-rank_b.ensures.entry,
    )
    (climbing_left (sets_of c.args.family.now).size (sets_of c.args.family.now) dist
    (forest_of c.args.tree.now c.args.mates.now) c.args.s c.args.t c.climb.left.items c.climb.right.items c.climb.a
    c.climb.b c.step_up-up-else-rank_a-rank_b.result.exit c.step_up-up-else-rank_a-rank_b.result.mate
    st.symmetric st.stage (c.climb.invariant dist st) c.if-a-b.false low
    c.step_up-up-else-rank_a-rank_b.ensures.exit)
