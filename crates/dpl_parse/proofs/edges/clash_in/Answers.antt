use Rattle.std.proofs.Common.{◌≡◌, true, false, [], refl, subst, rules}
use Rattle.dpl_report.specs.ReportLines.{broken_numbers}
use Rattle.dpl_parse.specs.Standing.{Stand}
use Rattle.dpl_parse.proofs.StandingLemmas.{others_stand}
use Rattle.dpl_parse.proofs.EdgeLemmas.{closing, no_clash, no_clash_behind, clash_there}
use Rattle.dpl_parse.proofs.edges.clash_in.Goals as goal

pub returns-in_default : goal.returns-in_default
returns-in_default c = no_clash c.args.line.now c.in_default.ensures

pub returns-in_default-ends_at : goal.returns-in_default-ends_at
returns-in_default-ends_at c = no_clash_behind c.args.line.now c.in-Some.rest.now c.in-Some.ensures (λ b f s. c.in_default-ends_at.ensures b closing f s)

pub returns-then-not-is_closing : goal.returns-then-not-is_closing
returns-then-not-is_closing c =
    let n = c.in-Some-ends_at in
    let no_end : c.is_closing.result ≡ false = search rules in
    no_clash_behind c.args.line.now c.in-Some.rest.now c.in-Some.ensures (λ b f s.
    let o = others_stand (broken_numbers n.clash) (broken_numbers b) [] n.rest.now closing c.in-Some.rest.now refl n.ensures.1 s in
    let end : c.is_closing.result ≡ true = c.is_closing.ensures.1 o.1.is in
    absurd (cc (end, no_end)))

pub returns : goal.returns
returns c =
    let n = c.in-Some-ends_at in
    let end : c.is_closing.result ≡ true = search rules in
    clash_there c.args.line.now c.in-Some.rest.now n.clash c.in-Some.ensures n.ensures.0
    (subst (λ r. Stand (broken_numbers n.clash) r c.in-Some.rest.now) (c.is_closing.ensures.0 end) n.ensures.1)
