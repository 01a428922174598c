use Rattle.std.proofs.Common.{◌≡◌, true, false, rules}
use Rattle.dpl_cell.specs.Places.{corners_of}
use Rattle.dpl_report.specs.ReportLines.{numbered, broken_numbers}
use Rattle.dpl_parse.proofs.StandingLemmas.{first_stand}
use Rattle.dpl_parse.proofs.EdgeLemmas.{closing, no_cut, no_cut_behind}
use Rattle.dpl_parse.proofs.CutLemmas.{low_corner, high_corner, both_corners, behind_ends, behind_low, behind_high, same_corners, cut_read}
use Rattle.dpl_parse.proofs.edges.cut_in.Goals as goal

pub returns-in_default : goal.returns-in_default
returns-in_default c = no_cut c.args.line.now c.in_default.ensures

pub returns-in_default-ends_at : goal.returns-in_default-ends_at
returns-in_default-ends_at c = no_cut_behind c.args.line.now c.in-Some.rest.now c.in-Some.ensures (λ z f s.
    c.in_default-ends_at.ensures z.at (numbered (both_corners z) closing) f.ends
    (first_stand (broken_numbers z.at) (both_corners z) closing c.in-Some.rest.now s))

pub returns-in_default-pair_at : goal.returns-in_default-pair_at
returns-in_default-pair_at c = no_cut_behind c.args.line.now c.in-Some.rest.now c.in-Some.ensures (λ z f s.
    let n = c.in-Some-ends_at in
    let o = behind_ends n.at z c.in-Some.rest.now n.rest.now n.ensures.1 s in
    c.in_default-pair_at.ensures z.corners.x1 z.corners.y1 (numbered (high_corner z) closing) (first_stand (low_corner z) (high_corner z) closing n.rest.now o))

pub returns-in_default-pair_at-2 : goal.returns-in_default-pair_at-2
returns-in_default-pair_at-2 c = no_cut_behind c.args.line.now c.in-Some.rest.now c.in-Some.ensures (λ z f s.
    let n = c.in-Some-ends_at in
    let m = c.in-Some-pair_at in
    let o = behind_ends n.at z c.in-Some.rest.now n.rest.now n.ensures.1 s in
    let p = behind_low m.low.0 m.low.1 z n.rest.now m.rest.now m.ensures o in
    c.in_default-pair_at-2.ensures z.corners.x2 z.corners.y2 closing p.1)

pub returns-then-not-is_closing : goal.returns-then-not-is_closing
returns-then-not-is_closing c =
    let no_end : c.is_closing.result ≡ false = search rules in
    no_cut_behind c.args.line.now c.in-Some.rest.now c.in-Some.ensures (λ z f s.
    let n = c.in-Some-ends_at in
    let m = c.in-Some-pair_at in
    let k = c.in-Some-pair_at-2 in
    let o = behind_ends n.at z c.in-Some.rest.now n.rest.now n.ensures.1 s in
    let p = behind_low m.low.0 m.low.1 z n.rest.now m.rest.now m.ensures o in
    let q = behind_high k.high.0 k.high.1 z m.rest.now k.rest.now k.ensures p.1 in
    let end : c.is_closing.result ≡ true = c.is_closing.ensures.1 q.1 in
    absurd (cc (end, no_end)))

pub returns-in_default-between : goal.returns-in_default-between
returns-in_default-between c = no_cut_behind c.args.line.now c.in-Some.rest.now c.in-Some.ensures (λ z f s.
    let n = c.in-Some-ends_at in
    let m = c.in-Some-pair_at in
    let k = c.in-Some-pair_at-2 in
    let o = behind_ends n.at z c.in-Some.rest.now n.rest.now n.ensures.1 s in
    let p = behind_low m.low.0 m.low.1 z n.rest.now m.rest.now m.ensures o in
    let q = behind_high k.high.0 k.high.1 z m.rest.now k.rest.now k.ensures p.1 in
    c.in_default-between.ensures (same_corners m.low.0 m.low.1 k.high.0 k.high.1 z p.0 q.0 f))

pub returns : goal.returns
returns c =
    let n = c.in-Some-ends_at in
    let m = c.in-Some-pair_at in
    let k = c.in-Some-pair_at-2 in
    let r = c.in-Some-between in
    let end : c.is_closing.result ≡ true = search rules in
    cut_read c.args.line.now c.in-Some.rest.now n.rest.now m.rest.now k.rest.now n.at m.low.0 m.low.1 k.high.0 k.high.1 (corners_of r.rect)
    c.in-Some.ensures n.ensures.0 n.ensures.1 m.ensures k.ensures (c.is_closing.ensures.0 end) r.ensures.0 r.ensures.1
