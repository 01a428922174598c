use Rattle.std.proofs.Common.{arith, rules, ◌≡◌, ◌<◌, sym, ap, ◌∙◌, ℕ, List, [], length, subst}
use Rattle.std.specs.Prelude.{All, slice_index_or}
use Rattle.dpl_euler.specs.Searches.{no_step, step_at, IsAt}
use Rattle.std.proofs.lemmas.List.{get_or_read}
use Rattle.dpl_euler.specs.declared.searching.Step.{Step}
use Rattle.dpl_euler.proofs.SearchLemmas.{few_steps, followed_more}
use Rattle.dpl_euler.proofs.searching.follow_all.Goals as goal

pub follow_each-requires-clause-row : goal.follow_each-requires-clause-row
follow_each-requires-clause-row c =
    let node = (step_at c.loop-place.steps.items c.loop-place.place).node in
    let test : c.loop-place.place < length c.loop-place.steps.items = search rules in
    let read : c.index.result.now ≡ step_at c.loop-place.steps.items c.loop-place.place = get_or_read _ _ _ test c.index.ensures no_step in
    let row : c.row_at-row.result.now ≡ slice_index_or c.args.rows.now node [] = c.row_at-row.ensures ∙
    ap (λ (z : Step). slice_index_or c.args.rows.now z.node []) read in
    let P : List ℕ → Type 0 = λ xs. All (IsAt c.args.search.now.graph.now c.args.search.now.set.now node) xs in
    subst P (sym row) (c.requires.rows.only node)

pub overflow_add-place : goal.overflow_add-place
overflow_add-place c =
    let test : c.loop-place.place < length c.loop-place.steps.items = search rules in
    omega (arith, test, few_steps _ _ _ _ _ c.loop-place.invariant.steps, c.args.search.now.graph.now.few_nodes)

pub loop-place-smaller : goal.loop-place-smaller
loop-place-smaller c =
    let test : c.loop-place.place < length c.loop-place.steps.items = search rules in
    omega (arith, test, few_steps _ _ _ _ _ c.loop-place.invariant.steps)

pub loop-place-preserved : goal.loop-place-preserved
loop-place-preserved c =
    let node = (step_at c.loop-place.steps.items c.loop-place.place).node in
    let test : c.loop-place.place < length c.loop-place.steps.items = search rules in
    let read : c.index.result.now ≡ step_at c.loop-place.steps.items c.loop-place.place = get_or_read _ _ _ test c.index.ensures no_step in
    let row : c.row_at-row.result.now ≡ slice_index_or c.args.rows.now node [] = c.row_at-row.ensures ∙
    ap (λ (z : Step). slice_index_or c.args.rows.now z.node []) read in
    record {
      steps = c.in_ok-follow_each.ensures.steps;
      followed = followed_more c.args.search.now.graph.now c.args.search.now.set.now c.loop-place.steps.items c.follow_each.new.steps.items
          c.loop-place.places c.follow_each.new.places (slice_index_or c.args.rows.now node []) c.loop-place.place test
          c.in_ok-follow_each.ensures.goes_on c.loop-place.invariant.followed (λ e at. c.requires.rows.all node e at)
          (rw (← row) c.in_ok-follow_each.ensures.reached);
      inside = omega (arith, test, c.in_ok-follow_each.ensures.goes_on.longer);
    }
