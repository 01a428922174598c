use Rattle.std.proofs.Common.{rules, ◌≡◌, ◌∙◌, SFits, w64}
use Rattle.std.specs.Int.{int_max}
use Rattle.std.proofs.lemmas.Int.{to_z-of_z}
use Rattle.dpl_tiles.proofs.CancelLemmas.{ends_added, greater_is}
use Rattle.dpl_tiles.proofs.cancelling.push_ends.Goals as goal

pub returns : goal.returns
returns c =
    let f : SFits w64 c.args.side.now.low = search rules in
    let g : SFits w64 c.args.side.now.high = search rules in
    let h : SFits w64 c.greater.result = search rules in
    let low : c.end_at.result.row ≡ c.args.side.now.low = simp to_z-of_z at c.end_at.ensures.row in
    let high : c.end_at-2.result.row ≡ c.greater.result = simp to_z-of_z at c.end_at-2.ensures.row in
    let max : c.greater.result ≡ int_max c.args.side.now.low c.args.side.now.high = greater_is _ _ _
    (simp to_z-of_z at c.greater.ensures.first) (simp to_z-of_z at c.greater.ensures.second) (simp to_z-of_z at c.greater.ensures.one) in
    ends_added c.args.side.now c.end_at.result c.end_at-2.result _ _ _ c.end_at.ensures.column low
    c.end_at-2.ensures.column (high ∙ max) c.in_ok-push.ensures.items c.in_ok-push-2.ensures.items
