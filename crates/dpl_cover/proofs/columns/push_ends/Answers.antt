use Rattle.std.proofs.Common.{rules, w64, SFits}
use Rattle.std.proofs.lemmas.Int.{to_z-of_z}
use Rattle.dpl_cover.proofs.ColumnLemmas.{ends_pushed}
use Rattle.dpl_cover.proofs.columns.push_ends.Goals as goal

pub returns : goal.returns
returns c =
    let f : SFits w64 c.args.r.now.x1 = search rules in
    let g : SFits w64 c.args.r.now.x2 = search rules in
    ends_pushed c.args.r.now _ c.push.new.self.items _ (simp to_z-of_z at c.in_ok-push.ensures.items) (simp to_z-of_z at c.in_ok-push-2.ensures.items)
