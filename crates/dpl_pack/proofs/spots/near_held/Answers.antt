use Rattle.std.proofs.Common.{sym, ap, ◌∙◌, ◌++◌, ℕ, List}
use Rattle.std.specs.Prelude.{slice_index_or}
use Rattle.std.specs.List.{flat_map}
use Rattle.dpl_pack.specs.Spots.{near_one}
use Rattle.dpl_pack.specs.Stacks.{ends_at}
use Rattle.dpl_pack.proofs.SpotLemmas.{flat_map_taken, flat_all}
use Rattle.dpl_pack.proofs.spots.near_held.Goals as goal

pub loop-i-init : goal.loop-i-init
loop-i-init c = c.new-near.ensures.items

pub loop-i-preserved : goal.loop-i-preserved
loop-i-preserved c =
    let g : ℕ × ℕ → List (ℕ × ℕ) = λ e. flat_map (near_one c.args.value e) (ends_at c.args.spots.now e.0) in
    let row = rw c.row.ensures at c.in_ok-add_row.ensures in
    row ∙ ap (λ z. z ++ g (slice_index_or c.args.ends.now c.loop-i.i (0, 0))) c.loop-i.invariant ∙
    sym (flat_map_taken g c.args.ends.now c.loop-i.i (0, 0) c.loop-i-test.true)

pub returns : goal.returns
returns c = flat_all (λ e. flat_map (near_one c.args.value e) (ends_at c.args.spots.now e.0)) c.args.ends.now c.loop-i.i _ c.loop-i-test.false
    c.loop-i.invariant
