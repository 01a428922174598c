use Rattle.std.proofs.Common.{◌≡◌, ◌∙◌, ◌∷◌, refl, ap, true, false, get_or}
use Rattle.dpl_laminar.specs.Families.{has}
use Rattle.dpl_laminar.proofs.Numbers.{has_head}
use Rattle.dpl_flood.proofs.TopLemmas.{stack_together}
use Rattle.dpl_flood.proofs.state.State.is_stack_among.Goals as goal

pub returns-in-Some : goal.returns-in-Some
returns-in-Some c g y =
    let x = c.args.self.now in
    let last : has (c.in-Some.face ∷ c.in-Some.ensures.0) c.in-Some.face ≡ true = has_head c.in-Some.face c.in-Some.face c.in-Some.ensures.0 refl in
    c.is_among.ensures ∙ ap (λ z. get_or c.args.tops.now z false)
    (stack_together c.requires.state.0 x c.args.set c.in-Some.face g c.requires.state.1 c.requires.set (ap (λ z. has z c.in-Some.face) c.in-Some.ensures.1 ∙ last) y)
