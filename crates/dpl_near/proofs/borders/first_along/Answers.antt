use Rattle.std.proofs.Common.{rules, SFits, w64}
use Rattle.std.proofs.lemmas.Int.{to_z-of_z}
use Rattle.std.proofs.lemmas.List.{length-map}
use Rattle.dpl_near.specs.declared.borders.Border.{Border}
use Rattle.dpl_near.proofs.BorderLemmas.{ends_rise, ends_before, ends_behind}
use Rattle.dpl_near.proofs.borders.first_along.Goals as goal

pub place_past-requires : goal.place_past-requires
place_past-requires c = ends_rise c.args.borders.now c.args.border.now c.args.ends.now c.requires.order c.requires.line c.requires.ends

pub returns-clause-before : goal.returns-clause-before
returns-clause-before c =
    let f : SFits w64 c.args.border.now.from = search rules in
    ends_before c.args.borders.now c.args.border.now c.args.ends.now c.place_past.result c.requires.line c.requires.ends
    (simp to_z-of_z at c.place_past.ensures)

pub returns-clause-behind : goal.returns-clause-behind
returns-clause-behind c =
    let f : SFits w64 c.args.border.now.from = search rules in
    ends_behind c.args.borders.now c.args.border.now c.args.ends.now c.place_past.result c.requires.line c.requires.ends
    (simp to_z-of_z at c.place_past.ensures)

pub returns-clause-within : goal.returns-clause-within
returns-clause-within c = rw (length-map c.args.borders.now (λ (b : Border). b.to)) at (rw c.requires.ends at c.place_past.ensures.within)
