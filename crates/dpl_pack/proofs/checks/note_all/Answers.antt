use Rattle.std.proofs.Common.{ℕ, ap, sym, ◌∙◌, get_or, set, Some}
use Rattle.std.proofs.lemmas.List.{get_or_default}
use Rattle.dpl_pack.specs.declared.held.Held.{Held}
use Rattle.dpl_pack.proofs.CheckLemmas.{none_from, one_noted}
use Rattle.dpl_pack.proofs.checks.note_all.Goals as goal

pub loop-i-preserved : goal.loop-i-preserved
loop-i-preserved c =
    let nobody : Held = record { face = 0; member = 0; far = 0 } in
    one_noted c.args.dual.now c.args.start c.args.n c.args.held.now c.loop-i.i c.loop-i.notes _ (get_or c.args.held.now c.loop-i.i nobody)
    c.loop-i.invariant c.loop-i-test.true (λ h. get_or_default c.args.held.now c.loop-i.i nobody h c.loop-i-test.true)
    (c.is_holdable.ensures c.if-not-is_holdable.false) (none_from _ (sym c.is_some.ensures ∙ c.if-is_some.false))
    (ap (λ (p : ℕ × ℕ). set c.loop-i.notes (get_or c.args.held.now c.loop-i.i nobody).face (Some p)) c.point_of.ensures)
