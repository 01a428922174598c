use Rattle.std.proofs.Common.{◌+◌, ◌<◌, ◌≤◌, ◌^◌, length}
use Rattle.dpl_run.specs.due.Edit.{edits_of}
use Rattle.dpl_run.proofs.EditLemmas.{LeadsTo}
use Rattle.dpl_run.proofs.commands.edit.apply_all.Given as goal

abbrev pub invariant-lines : goal.invariant-lines
invariant-lines l = LeadsTo (edits_of l.initial.session) l.lines (edits_of l.session) l.number l.rest
    × ((l.session.count + length l.rest < 2 ^ 32) × (l.number + length l.rest ≤ 2 ^ 32))

abbrev pub decreases-lines : goal.decreases-lines
decreases-lines l = length l.rest
