use Rattle.std.proofs.Common.{◌≡◌, ◌∙◌, ◌-◌, ◌∷◌, [], ◌++◌, ℕ, ap, length, take, get_or, refl, rules}
use Rattle.std.proofs.lemmas.List.{get_or_default}
use Rattle.dpl_groups.specs.Walk.{shut}
use Rattle.dpl_groups.specs.declared.walk.Mark.TheVariants.{New}
use Rattle.dpl_groups.proofs.Views.{closed_view}
use Rattle.dpl_groups.proofs.walk.Walk.close.Goals as goal

pub returns-clause-view : goal.returns-clause-view
returns-clause-view c =
    let label : c.len-label.result ≡ length c.args.self.now.heads.items = search rules in
    let path : c.truncate.new.self.items ≡ take c.args.place c.args.self.now.path.items = search rules in
    let starts : c.pop.new.self.items ≡ take (length c.args.self.now.starts.items - 1) c.args.self.now.starts.items = search rules in
    let stack : c.pop-2.new.self.items ≡ take (length c.args.self.now.stack.items - 1) c.args.self.now.stack.items = search rules in
    let heads : c.push.new.self.items ≡ c.args.self.now.heads.items ++ get_or c.args.self.now.path.items c.args.place
    0 ∷ [] = c.in_ok-push.ensures.items ∙ ap (λ (n : ℕ). c.args.self.now.heads.items ++ n ∷ [])
    (c.index.ensures ∙ get_or_default c.args.self.now.path.items c.args.place _ 0 c.requires.place) in
    closed_view c.args.self.now _ c.args.place c.requires.place c.shut.ensures.len
    (λ x. c.shut.ensures.value x ∙ ap (λ (l : ℕ). shut c.args.place l (get_or c.args.self.now.marks.items x New)) label)
    refl path starts stack heads
