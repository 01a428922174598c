use Rattle.std.proofs.Common.{arith, ◌≢◌, ◌<◌, ap, sym, ◌∙◌, length, get_or, None}
use Rattle.std.proofs.lemmas.List.{get_or_read}
use Rattle.dpl_laminar.specs.Storing.{Stored}
use Rattle.dpl_laminar.proofs.Keeping.{child_below, next_is}
use Rattle.dpl_laminar.proofs.family.Family.child_after.Goals as goal

pub index-requires : goal.index-requires
index-requires c = omega (
  arith,
  child_below _ c.args.child c.self.invariant
      (λ e. c.requires (ap (λ (z : Stored). get_or z.parents c.args.child None) (sym c.self.view_is) ∙ e)),
  c.self.invariant.joins_length,
)

pub next-requires : goal.next-requires
next-requires c = omega (
  arith,
  child_below _ c.args.child c.self.invariant
      (λ e. c.requires (ap (λ (z : Stored). get_or z.parents c.args.child None) (sym c.self.view_is) ∙ e)),
  c.self.invariant.ring_length,
)

pub returns-clause-next : goal.returns-clause-next
returns-clause-next c =
    let inner : get_or c.self.inside.parents.items c.args.child None ≢ None =
    λ e. c.requires (ap (λ (z : Stored). get_or z.parents c.args.child None) (sym c.self.view_is) ∙ e) in
    let here : c.args.child < length c.self.inside.joins.items =
    omega (arith, child_below _ c.args.child c.self.invariant inner, c.self.invariant.joins_length) in
    rw (← c.self.view_is) (next_is _ c.args.child c.next.result _ c.self.invariant inner c.next.ensures.value (get_or_read _ _ _ here c.index.ensures (0, 0)))
