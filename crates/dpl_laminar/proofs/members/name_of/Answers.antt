use Rattle.std.proofs.Common.{arith, ◌≡◌, ◌≢◌, ap, ◌∙◌, get_or, inl, inr, []}
use Rattle.std.proofs.lemmas.List.{get_or_read}
use Rattle.dpl_laminar.specs.Storing.{IsNameOf, row_holds}
use Rattle.dpl_laminar.proofs.Rows.{first_name, firsts_differ}
use Rattle.dpl_laminar.proofs.members.name_of.Goals as goal

second : (c : goal.Then-first-second) → IsNameOf c.args.size (row_holds c.args.rows.now) c.first-second.result c.args.y c.args.x
second c =
    let x = get_or_read _ _ _ c.requires.first c.index-rows-x.is [] in
    let y = get_or_read _ _ _ c.requires.second c.index-rows-y.is [] in
    first_name c.args.size c.args.rows.now c.args.y c.args.x _ _ c.requires.rows c.requires.any_second c.requires.any_first
    (c.first-second.ensures ∙ ap (λ z. get_or z 0 0) y) (c.first-first.ensures ∙ ap (λ z. get_or z 0 0) x) c.if-first-second.true

first : (c : goal.Else-first-second) → IsNameOf c.args.size (row_holds c.args.rows.now) c.first-first.result c.args.x c.args.y
first c =
    let x = get_or_read _ _ _ c.requires.first c.index-rows-x.is [] in
    let y = get_or_read _ _ _ c.requires.second c.index-rows-y.is [] in
    let ex : c.first-first.result ≡ get_or (get_or c.args.rows.now c.args.x []) 0 0 = c.first-first.ensures ∙ ap (λ z. get_or z 0 0) x in
    let ey : c.first-second.result ≡ get_or (get_or c.args.rows.now c.args.y []) 0 0 = c.first-second.ensures ∙ ap (λ z. get_or z 0 0) y in
    let ne : c.first-first.result ≢ c.first-second.result =
    firsts_differ c.args.size c.args.rows.now c.args.x c.args.y _ _ c.requires.rows c.requires.any_first c.requires.any_second c.requires.apart ex ey in
    first_name c.args.size c.args.rows.now c.args.x c.args.y _ _ c.requires.rows c.requires.any_first c.requires.any_second ex ey
    (omega (arith, c.if-first-second.false))

pub returns-then-first-second-clause-below : goal.returns-then-first-second-clause-below
returns-then-first-second-clause-below c = (second c).below

pub returns-then-first-second-clause-name : goal.returns-then-first-second-clause-name
returns-then-first-second-clause-name c = inr (second c)

pub returns-clause-below : goal.returns-clause-below
returns-clause-below c = (first c).below

pub returns-clause-name : goal.returns-clause-name
returns-clause-name c = inl (first c)
