use Rattle.std.proofs.Common.{arith, ◌≡◌, ◌<◌, ◌/◌, ◌∙◌, refl, sym, ap, get_or, List, Bool, ℕ}
use Rattle.dpl_sign.specs.Drawings.{is_in, dart_count, next_in_face}
use Rattle.dpl_sign.specs.Excess.{kept_edges}
use Rattle.dpl_drawing.proofs.FaceLists.{leads_back, count_is, face_stays}
use Rattle.dpl_drawing.proofs.drawn.kept_faces.Goals as goal

pub number-requires-clause-ring : goal.number-requires-clause-ring
number-requires-clause-ring c =
    leads_back c.args.net.now (is_in (kept_edges c.args.net.now)) _ c.requires.corners.darts c.requires.corners.next

pub number-requires-clause-stays : goal.number-requires-clause-stays
number-requires-clause-stays c = λ d h.
    let net = c.args.net.now in
    let set : ℕ → Bool = is_in (kept_edges net) in
    let inside : d < dart_count net = omega (arith, h, c.requires.corners.darts) in
    let same : (x : ℕ) → is_in c.args.kept.now x ≡ set x = λ x. ap (λ (ks : List Bool). is_in ks x) c.requires.kept in
    let next : get_or c.args.corners.now d 0 ≡ next_in_face net set d = c.requires.corners.next d inside in
    same (get_or c.args.corners.now d 0 / 2) ∙ ap (λ y. set (y / 2)) next ∙ face_stays net set d inside ∙ sym (same (d / 2))

pub returns : goal.returns
returns c =
    count_is c.args.net.now (is_in (kept_edges c.args.net.now)) _ _ _ _ c.requires.corners.darts c.requires.corners.next refl
    (λ x. ap (λ (ks : List Bool). is_in ks x) c.requires.kept) c.in_ok-faces.ensures.count
