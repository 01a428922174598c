use Rattle.std.proofs.Common.{◌≡◌, SFits, w64}
use Rattle.std.proofs.lemmas.Int.{to_z-of_z}
use Rattle.dpl_euler.specs.Segments.{ends_of}
use Rattle.dpl_euler.specs.Tests.{ends_at}
use Rattle.dpl_euler.proofs.SegmentLemmas.{coordinate_fits, or_yes, or_no}
use Rattle.dpl_euler.proofs.links.share_end.Goals as goal

pub returns-then-ends_at : goal.returns-then-ends_at
returns-then-ends_at c =
    let s = c.args.link.now in
    let sx1 : SFits w64 s.x1 = coordinate_fits s.x1 s.low_x1 s.high_x1 in
    let sy1 : SFits w64 s.y1 = coordinate_fits s.y1 s.low_y1 s.high_y1 in
    let sx2 : SFits w64 s.x2 = coordinate_fits s.x2 s.low_x2 s.high_x2 in
    let sy2 : SFits w64 s.y2 = coordinate_fits s.y2 s.low_y2 s.high_y2 in
    let first : c.ends_at.result ≡ ends_at c.args.other.now (ends_of c.args.to.now) c.args.edge.now.a s.x1 s.y1 = simp to_z-of_z at c.ends_at.ensures in
    or_yes _ _ _ first c.if-ends_at.true

pub returns-else-ends_at : goal.returns-else-ends_at
returns-else-ends_at c =
    let s = c.args.link.now in
    let sx1 : SFits w64 s.x1 = coordinate_fits s.x1 s.low_x1 s.high_x1 in
    let sy1 : SFits w64 s.y1 = coordinate_fits s.y1 s.low_y1 s.high_y1 in
    let sx2 : SFits w64 s.x2 = coordinate_fits s.x2 s.low_x2 s.high_x2 in
    let sy2 : SFits w64 s.y2 = coordinate_fits s.y2 s.low_y2 s.high_y2 in
    let first : c.ends_at.result ≡ ends_at c.args.other.now (ends_of c.args.to.now) c.args.edge.now.a s.x1 s.y1 = simp to_z-of_z at c.ends_at.ensures in
    let second : c.ends_at-else-ends_at.result ≡ ends_at c.args.other.now (ends_of c.args.to.now) c.args.edge.now.b s.x2
    s.y2 = simp to_z-of_z at c.ends_at-else-ends_at.ensures in
    or_no _ _ _ _ first c.if-ends_at.false second
