use Rattle.std.proofs.Common.{◌≡◌, ◌∙◌, ◌%◌, ℤ, ap, sym}
use Rattle.std.proofs.lemmas.Result.{IfOk-weaker}
use Rattle.dpl_tiles.specs.Ends.{standing_ends}
use Rattle.dpl_tiles.specs.Sides.{standing}
use Rattle.dpl_tiles.proofs.CancelLemmas.{same_ends, sorted_paired}
use Rattle.dpl_tiles.proofs.cancelling.cancelled.Goals as goal

pub sides_between-requires-clause-sorted : goal.sides_between-requires-clause-sorted
sides_between-requires-clause-sorted c = rw c.as_slice.ensures.value c.sort.ensures.sorted

pub sides_between-requires-clause-paired : goal.sides_between-requires-clause-paired
sides_between-requires-clause-paired c = rw c.as_slice.ensures.value (sorted_paired _ _ c.sort.ensures.same c.in_ok-ends.ensures.paired)

pub returns : goal.returns
returns c =
    let e : (x y : ℤ) → standing_ends x y c.as_slice.result.now % 2 ≡ standing x y c.args.sides.now % 2 =
    λ x y. rw c.as_slice.ensures.value (ap (λ n. n % 2) (sym (same_ends x y _ _ c.sort.ensures.same)) ∙ c.in_ok-ends.ensures.same x y) in
    IfOk-weaker c.sides_between.result _ _ (λ v h x y. h x y ∙ e x y) c.sides_between.ensures
