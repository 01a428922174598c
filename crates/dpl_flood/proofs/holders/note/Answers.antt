use Rattle.std.proofs.Common.{◌∙◌, ap, refl, sym}
use Rattle.dpl_pack.specs.declared.held.Held.{Held}
use Rattle.dpl_pack.specs.Points.{on}
use Rattle.dpl_flood.specs.Holdings.{point_at}
use Rattle.dpl_flood.specs.States.{sea_of}
use Rattle.dpl_flood.proofs.HolderLemmas.{noted_one}
use Rattle.dpl_flood.proofs.holders.note.Goals as goal

pub returns-in_ok-push-in-Some : goal.returns-in_ok-push-in-Some
returns-in_ok-push-in-Some c =
    let x : Held = record { face = c.args.face; member = c.node-node.result.member; far = c.node-node.result.far } in
    let at = ap (point_at c.args.state.now.arena) (sym c.node.ensures ∙ c.in-Some.is) ∙ ap (λ z. on z.member z.far) (sym c.node-node.ensures) in
    noted_one (sea_of c.args.state.now).point c.args.face x c.args.found.now.items c.push.new.self.items refl at c.in_ok-push-in-Some.ensures.items
