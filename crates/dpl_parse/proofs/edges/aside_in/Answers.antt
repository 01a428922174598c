use Rattle.std.proofs.Common.{◌≡◌, true, false, [], ◌∷◌, refl, subst, rules}
use Rattle.std.specs.Prelude.{pos}
use Rattle.dpl_parse.specs.Standing.{Stand}
use Rattle.dpl_parse.proofs.StandingLemmas.{others_stand, short_stands, short_there}
use Rattle.dpl_parse.proofs.EdgeLemmas.{closing, no_aside, no_aside_behind, aside_there}
use Rattle.dpl_parse.proofs.edges.aside_in.Goals as goal

pub returns-in_default : goal.returns-in_default
returns-in_default c = no_aside c.args.line.now c.in_default.ensures

pub returns-in_default-short_at : goal.returns-in_default-short_at
returns-in_default-short_at c = no_aside_behind c.args.line.now c.in-Some.rest.now c.in-Some.ensures (λ e f s.
    c.in_default-short_at.ensures e closing (short_there e [] closing c.in-Some.rest.now f s))

pub returns-then-not-is_closing : goal.returns-then-not-is_closing
returns-then-not-is_closing c =
    let n = c.in-Some-short_at in
    let no_end : c.is_closing.result ≡ false = search rules in
    no_aside_behind c.args.line.now c.in-Some.rest.now c.in-Some.ensures (λ e f s.
    let o = others_stand (pos n.edge ∷ []) (pos e ∷ []) [] n.rest.now closing c.in-Some.rest.now refl
    (short_stands n.edge n.rest.now c.in-Some.rest.now n.ensures) s in
    let end : c.is_closing.result ≡ true = c.is_closing.ensures.1 o.1.is in
    absurd (cc (end, no_end)))

pub returns : goal.returns
returns c =
    let n = c.in-Some-short_at in
    let end : c.is_closing.result ≡ true = search rules in
    aside_there c.args.line.now c.in-Some.rest.now n.edge c.in-Some.ensures n.ensures.small
    (subst (λ r. Stand (pos n.edge ∷ []) r c.in-Some.rest.now) (c.is_closing.ensures.0 end)
    (short_stands n.edge n.rest.now c.in-Some.rest.now n.ensures))
