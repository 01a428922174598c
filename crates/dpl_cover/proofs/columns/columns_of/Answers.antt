use Rattle.std.proofs.lemmas.List.Filters.{dedup_is}
use Rattle.dpl_cover.proofs.ColumnLemmas.{columns_once}
use Rattle.dpl_cover.proofs.columns.columns_of.Goals as goal

pub returns : goal.returns
returns c =
    let is = dedup_is _ _ _ c.dedup.ensures.filtered in
    columns_once c.args.boxes.now c.in_ok-ends.ends.items c.sort_unstable.new.self.items c.dedup.new.self.items
    is c.sort_unstable.ensures.permutation c.sort_unstable.ensures.sorted
    c.in_ok-ends.ensures.has c.in_ok-ends.ensures.range
