use Rattle.std.proofs.Common.{◌≡◌, ◌≤◌, ◌∙◌, sym, ap, subst, length, get_or}
use Rattle.dpl_laminar.specs.Families.{load_of}
use Rattle.dpl_laminar.specs.Pairings.{IsPairing, pairs_sum}
use Rattle.dpl_laminar.specs.Storing.{sets_of}
use Rattle.dpl_flood.specs.Flips.{AreOverChains}
use Rattle.dpl_flood.proofs.pairing.pair_faces.Goals as goal

pub returns-clause-least : goal.returns-clause-least
returns-clause-least g c other long pairs over =
    let x = c.in_ok-state.state in
    let e = c.in_ok-mate.ensures in
    let faces = c.args.faces.now in
    let mate = get_or c.in_ok-mate.mate.items in
    let many : (sets_of x.family).size ≡ length faces = sym c.in_ok-state.ensures.forest.members ∙ ap length c.in_ok-state.ensures.seats in
    let least = e.least other long (subst (λ z. IsPairing z other) (sym many) pairs)
    (subst (λ z. AreOverChains c.args.dual.now.crosses z long) (sym c.in_ok-state.ensures.seats) over) in
    subst (λ z. pairs_sum (length faces) (λ m. mate m 0) (load_of (sets_of z)) ≤ pairs_sum (length faces) other long) (sym e.family)
    (subst (λ n. pairs_sum n (λ m. mate m 0) (load_of (sets_of x.family)) ≤ pairs_sum n other long) many least)
