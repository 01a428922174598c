use Rattle.std.proofs.Common.{arith, rules, ◌≡◌, ◌<◌, ◌∙◌, ap, length, get_or, List, Bool, ℕ}
use Rattle.dpl_sign.specs.Drawings.{is_in, dart_count, next_in_face}
use Rattle.dpl_sign.specs.Excess.{all_edges}
use Rattle.dpl_drawing.proofs.FaceLists.{leads_back, count_is}
use Rattle.dpl_drawing.proofs.ExcessTotal.{drawn_faces_same}
use Rattle.dpl_drawing.proofs.whole.count_faces.Goals as goal

pub number-requires-clause-ring : goal.number-requires-clause-ring
number-requires-clause-ring c =
    let net = c.args.net.now in
    let faces = c.loop-edge.invariant.are_faces in
    let size : length c.in_ok-corners.corners.items ≡ dart_count net = search rules in
    let each : (d : ℕ) → d < dart_count net → get_or c.in_ok-corners.corners.items d 0 ≡ next_in_face net
    (is_in c.loop-edge.all.items) d = λ d h. c.in_ok-corners.ensures.each d (omega (arith, size)) ∙ faces.next d h
    in
    leads_back net (is_in c.loop-edge.all.items) _ (ap length c.deref-2.ensures.value ∙ size)
    (λ d h. ap (λ (xs : List ℕ). get_or xs d 0) c.deref-2.ensures.value ∙ each d h)

pub returns : goal.returns
returns c =
    let net = c.args.net.now in
    let faces = c.loop-edge.invariant.are_faces in
    let size : length c.in_ok-corners.corners.items ≡ dart_count net = search rules in
    let each : (d : ℕ) → d < dart_count net → get_or c.in_ok-corners.corners.items d 0 ≡ next_in_face net
    (is_in c.loop-edge.all.items) d = λ d h. c.in_ok-corners.ensures.each d (omega (arith, size)) ∙ faces.next d h
    in
    let all : c.loop-edge._edge ≡ length net.graph.edges = search rules in
    count_is net (is_in c.loop-edge.all.items) _ _ _ _ size each c.deref-2.ensures.value
    (λ x. ap (λ (ks : List Bool). is_in ks x) c.deref-3.ensures.value) c.in_ok-numbered.ensures.count ∙
    drawn_faces_same net (is_in c.loop-edge.all.items) all_edges (λ e h. c.loop-edge.invariant.whole e (omega (arith, all, h)))
