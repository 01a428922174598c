use Rattle.std.proofs.Common.{◌<◌, length, All, SFits, w64}
use Rattle.std.proofs.lemmas.Int.{to_z-of_z}
use Rattle.dpl_index.specs.Meetings.{AreMeeting}
use Rattle.dpl_tiles.specs.Sides.{AreColumnsAmong}
use Rattle.dpl_tiles.proofs.CrossingLemmas.{found_within, crossings_within}
use Rattle.dpl_tiles.proofs.sides.Sides.crossings.Goals as goal

pub columns_among-requires : goal.columns_among-requires
columns_among-requires c =
    let f : SFits w64 c.args.y = c.ranges.y in
    let m : AreMeeting c.self.inside.index (record {
      left = c.args.window.now.left;
      right = c.args.window.now.right;
      low = c.args.y;
      high = c.args.y;
    }) c.in_ok-found.found.items =
    rw (simp to_z-of_z at c.row_within.ensures) at c.in_ok-found.ensures in
    let each : All (λ i. i < length c.self.inside.all.items) c.in_ok-found.found.items =
    found_within c.self.inside.all.items c.args.y _ _ _ _ c.self.invariant m in
    rw (c.as_slice.ensures.value, c.as_slice-2.ensures.value) each

pub returns : goal.returns
returns c =
    let f : SFits w64 c.args.y = c.ranges.y in
    let m : AreMeeting c.self.inside.index (record {
      left = c.args.window.now.left;
      right = c.args.window.now.right;
      low = c.args.y;
      high = c.args.y;
    }) c.in_ok-found.found.items =
    rw (simp to_z-of_z at c.row_within.ensures) at c.in_ok-found.ensures in
    let among : AreColumnsAmong c.self.inside.all.items c.in_ok-found.found.items c.args.y
    c.in_ok-columns.columns.items = rw (c.as_slice.ensures.value, c.as_slice-2.ensures.value) at
    (simp to_z-of_z at c.in_ok-columns.ensures) in
    rw (← c.self.view_is) (crossings_within c.self.inside.all.items c.args.y _ _ _ _ _ c.self.invariant m among)
