use Rattle.std.proofs.Common.{arith, ◌<◌, sym, ap, ◌∙◌, subst, length, get_or, false, []}
use Rattle.std.specs.List.Sorted.{IsStrictlyIncreasing}
use Rattle.std.proofs.lemmas.List.{get_or_read}
use Rattle.dpl_laminar.specs.Storing.{Stored}
use Rattle.dpl_laminar.proofs.Keeping.{live_below}
use Rattle.dpl_laminar.proofs.family.Family.holds.Goals as goal

pub holds-requires : goal.holds-requires
holds-requires c =
    let below = live_below _ c.args.set c.self.invariant (ap (λ (z : Stored). get_or z.live c.args.set false) c.self.view_is ∙ c.requires) in
    let here : c.args.set < length c.self.inside.rows.items = omega (arith, below, c.self.invariant.rows_length) in
    subst IsStrictlyIncreasing (sym (get_or_read _ _ _ here c.index.ensures [])) (c.self.invariant.rows_are c.args.set).rising
