use Rattle.std.proofs.Common.{◌≡◌, ◌∙◌, refl, sym, ap, subst}
use Rattle.dpl_dual.specs.declared.crosses.Cross.{Cross}
use Rattle.dpl_dual.specs.Duals.{way_at}
use Rattle.dpl_flood.specs.Standings.{StandsOn}
use Rattle.dpl_flood.specs.States.{sea_of}
use Rattle.dpl_flood.proofs.state.State.look.Goals as goal

pub returns : goal.returns
returns c =
    let s = sea_of c.args.self.now in
    let is : c.way_of-way.result ≡ way_at c.args.dual.now.crosses c.args.way = c.way_of-way.ensures ∙ ap (λ z. way_at z c.args.way) c.as_slice.ensures in
    c.due.ensures c.args.dual.now c.args.self.now.seats s c.args.way c.requires.state.sea refl (sym (ap (λ (x : Cross). x.length) is))
    (subst (λ (x : Cross). StandsOn s x.f c.standing.result) is c.standing.ensures)
    (subst (λ (x : Cross). StandsOn s x.g c.standing-2.result) is c.standing-2.ensures)
