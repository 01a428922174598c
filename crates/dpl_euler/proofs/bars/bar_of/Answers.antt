use Rattle.std.proofs.Common.{arith, ℕ, List, ap, ◌∙◌, length, get_or}
use Rattle.dpl_sign.proofs.WalkLemmas.{edge_is}
use Rattle.dpl_sign.proofs.ComponentLemmas.{ends_below}
use Rattle.dpl_drawing.proofs.FaceLists.{leads_back}
use Rattle.dpl_map.specs.Maps.{is_kept}
use Rattle.dpl_euler.proofs.BarLemmas.{edge_first, joined_in, bar_is}
use Rattle.dpl_euler.proofs.bars.bar_of.Goals as goal

pub overflow_mul-edge : goal.overflow_mul-edge
overflow_mul-edge c =
    let f = edge_first c.args.net.now _ _ c.requires.aside c.requires.some c.index-edge.ensures in
    omega (arith, f.inside, c.args.net.now.graph.few_edges)

pub next_around-corner-requires : goal.next_around-corner-requires
next_around-corner-requires c =
    let f = edge_first c.args.net.now _ _ c.requires.aside c.requires.some c.index-edge.ensures in
    omega (arith, f.inside)

pub cycle_from-requires-clause-ring : goal.cycle_from-requires-clause-ring
cycle_from-requires-clause-ring c =
    let net = c.args.net.now in
    let read = c.as_slice.ensures.value in
    leads_back net (is_kept net) _ (ap length read ∙ c.requires.corners.darts) (λ d h. ap (λ (xs : List ℕ). get_or xs d 0) read ∙ c.requires.corners.next d h)

pub bounds-as_slice-edge : goal.bounds-as_slice-edge
bounds-as_slice-edge c =
    let f = edge_first c.args.net.now _ _ c.requires.aside c.requires.some c.index-edge.ensures in
    omega (arith, f.inside, ap length c.as_slice-2.ensures)

pub walk-requires-clause-from : goal.walk-requires-clause-from
walk-requires-clause-from c =
    let f = edge_first c.args.net.now _ _ c.requires.aside c.requires.some c.index-edge.ensures in
    let ends = edge_is c.args.net.now.graph _ _ _ c.as_slice-2.ensures (omega (arith, f.inside, ap length c.as_slice-2.ensures)) c.index-as_slice-edge.is in
    rw ends (ends_below c.args.net.now.graph _ f.inside).0

pub walk-requires-clause-to : goal.walk-requires-clause-to
walk-requires-clause-to c =
    let f = edge_first c.args.net.now _ _ c.requires.aside c.requires.some c.index-edge.ensures in
    let ends = edge_is c.args.net.now.graph _ _ _ c.as_slice-2.ensures (omega (arith, f.inside, ap length c.as_slice-2.ensures)) c.index-as_slice-edge.is in
    rw ends (ends_below c.args.net.now.graph _ f.inside).1

pub walk-requires-clause-joined : goal.walk-requires-clause-joined
walk-requires-clause-joined c =
    let f = edge_first c.args.net.now _ _ c.requires.aside c.requires.some c.index-edge.ensures in
    let ends = edge_is c.args.net.now.graph _ _ _ c.as_slice-2.ensures (omega (arith, f.inside, ap length c.as_slice-2.ensures)) c.index-as_slice-edge.is in
    joined_in c.args.net.now _ _ _ (c.as_slice-kept.ensures.value ∙ c.requires.kept) ends f.inside f.aside

pub returns-clause-least : goal.returns-clause-least
returns-clause-least c = edge_first c.args.net.now _ _ c.requires.aside c.requires.some c.index-edge.ensures

pub returns-clause-bar : goal.returns-clause-bar
returns-clause-bar c =
    let net = c.args.net.now in
    let read = c.as_slice.ensures.value in
    let f = edge_first net _ _ c.requires.aside c.requires.some c.index-edge.ensures in
    let ends = edge_is net.graph _ _ _ c.as_slice-2.ensures (omega (arith, f.inside, ap length c.as_slice-2.ensures)) c.index-as_slice-edge.is in
    rw (c.new.ensures, c.new-2.ensures) (bar_is net _ _ _ _ _ _ _ (c.as_slice-kept.ensures.value ∙ c.requires.kept)
    (ap length read ∙ c.requires.corners.darts) (λ d h. ap (λ (xs : List ℕ). get_or xs d 0) read ∙
    c.requires.corners.next d h) ends f c.next_around-corner.ensures.value c.in_ok-face.ensures
    c.in_ok-walk.ensures.path c.in_ok-walk.ensures.set)
