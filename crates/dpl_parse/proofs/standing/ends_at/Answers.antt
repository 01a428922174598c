use Rattle.std.proofs.Common.{[], ◌∷◌, refl}
use Rattle.std.specs.Prelude.{pos}
use Rattle.dpl_report.specs.ReportLines.{numbered}
use Rattle.dpl_parse.proofs.StandingLemmas.{others_stand, short_stands, short_there}
use Rattle.dpl_parse.proofs.standing.ends_at.Goals as goal

pub returns-in_default-short_at : goal.returns-in_default-short_at
returns-in_default-short_at c = λ b rest f s.
    let e = c.in-Some in
    let o = others_stand (pos e.edge ∷ []) (pos b.edge ∷ []) (pos b.a ∷ pos b.b ∷ []) e.rest.now rest c.args.text.now refl
    (short_stands e.edge e.rest.now c.args.text.now e.ensures) s in
    c.in_default-short_at.ensures b.a (numbered (pos b.b ∷ []) rest) (short_there b.a (pos b.b ∷ []) rest e.rest.now f.a o.1)

pub returns-in_default-short_at-2 : goal.returns-in_default-short_at-2
returns-in_default-short_at-2 c = λ b rest f s.
    let e = c.in-Some in
    let a = c.in-Some-short_at in
    let o = others_stand (pos e.edge ∷ []) (pos b.edge ∷ []) (pos b.a ∷ pos b.b ∷ []) e.rest.now rest c.args.text.now refl
    (short_stands e.edge e.rest.now c.args.text.now e.ensures) s in
    let p = others_stand (pos a.a ∷ []) (pos b.a ∷ []) (pos b.b ∷ []) a.rest.now rest e.rest.now refl
    (short_stands a.a a.rest.now e.rest.now a.ensures) o.1 in
    c.in_default-short_at-2.ensures b.b rest (short_there b.b [] rest a.rest.now f.b p.1)
