use Rattle.std.proofs.Common.{[], ◌∷◌, refl}
use Rattle.dpl_parse.proofs.StandingLemmas.{others_stand}
use Rattle.dpl_parse.proofs.standing.pair_at.Goals as goal

pub returns-in_default-integer_at : goal.returns-in_default-integer_at
returns-in_default-integer_at c = λ a b rest s.
    let o = others_stand (c.in-Some.first ∷ []) (a ∷ []) (b ∷ []) c.in-Some.rest.now rest c.args.text.now refl c.in-Some.ensures s in
    c.in_default-integer_at.ensures b rest o.1
