use Rattle.std.proofs.Common.{sym, ◌∙◌, ◌<◌, ℕ, List, subst}
use Rattle.std.specs.Prelude.{All}
use Rattle.std.proofs.lemmas.List.Elements.{All-map}
use Rattle.dpl_pack.specs.declared.held.Held.{Held}
use Rattle.dpl_pack.proofs.spots.spots_of.Goals as goal

pub by_key-requires-clause-keys : goal.by_key-requires-clause-keys
by_key-requires-clause-keys c =
    let P : List ℕ → Type 0 = λ z. All (λ x. x < c.args.n) z in
    subst P (sym (c.deref.ensures.value ∙ c.in_ok-members.ensures))
    (All-map (λ x. x < c.args.n) (λ (h : Held). h.member) c.args.held.now c.requires.members)
