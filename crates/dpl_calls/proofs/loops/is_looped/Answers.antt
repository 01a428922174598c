use Rattle.std.proofs.Common.{◌≡◌, ◌∙◌, sym}
use Rattle.dpl_calls.proofs.Edges.{is_graph}
use Rattle.dpl_calls.proofs.Groups.{outside, nowhere, called_nowhere, same_group}
use Rattle.dpl_calls.proofs.loops.is_looped.Goals as goal

pub returns-in_default : goal.returns-in_default
returns-in_default c = outside c.args.table.now c.args.site.now c.in_default.is

pub returns-in_default-place : goal.returns-in_default-place
returns-in_default-place c =
    absurd (nowhere c.args.table.now c.args.site.now c.in-Some.definition c.in-Some.is c.requires.site (sym c.place.ensures.value ∙ c.in_default-place.is))

pub returns-in_default-place-2 : goal.returns-in_default-place-2
returns-in_default-place-2 c =
    called_nowhere c.args.table.now c.args.site.now c.in-Some.definition c.in-Some-place.from c.in-Some.is
    (sym c.place.ensures.value ∙ c.in-Some-place.is) (sym c.place-2.ensures.value ∙ c.in_default-place-2.is)

pub returns : goal.returns
returns c =
    let labels : c.as_slice-labels.result.now ≡ c.args.groups.now.labels = c.as_slice-labels.ensures in
    rw labels (same_group c.args.table.now c.args.groups.now.labels c.args.groups.now.heads c.requires.groups
    (is_graph c.args.table.now) c.args.site.now c.in-Some.definition c.in-Some-place.from c.in-Some-place-2.to
    c.in-Some.is
    (sym c.place.ensures.value ∙ c.in-Some-place.is) (sym c.place-2.ensures.value ∙ c.in-Some-place-2.is) (c.requires.site c.in-Some.definition c.in-Some.is))
