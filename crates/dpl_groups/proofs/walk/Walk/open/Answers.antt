use Rattle.std.proofs.Common.{◌≡◌, ◌∙◌, ℕ, [], ◌∷◌, ◌++◌, length, ap, refl, set, rules}
use Rattle.dpl_groups.specs.declared.walk.Mark.TheVariants.{Open}
use Rattle.dpl_groups.proofs.Views.{opened_view}
use Rattle.dpl_groups.proofs.walk.Walk.open.Goals as goal

pub returns-clause-view : goal.returns-clause-view
returns-clause-view c =
    let place : c.len-place.result ≡ length c.args.self.now.path.items = search rules in
    opened_view c.args.self.now _ c.args.node c.requires
    (ap (λ (n : ℕ). set c.args.self.now.marks.items c.args.node (Open n)) place)
    refl
    c.in_ok-push.ensures.items
    (c.in_ok-push-2.ensures.items ∙ ap (λ (n : ℕ). c.args.self.now.starts.items ++ n ∷ []) place)
    (c.in_ok-push-3.ensures.items ∙ ap (λ (n : ℕ). c.args.self.now.stack.items ++ n ∷ []) place)
    refl
