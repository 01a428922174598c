-- Errors of the work as statuses.
use Rattle.std.specs.Prelude.{ℕ}
use Rattle.dpl_layer.specs.declared.error.LayerError.{LayerError}
use Rattle.dpl_layer.specs.declared.error.LayerError.TheVariants as refusal
use Rattle.dpl_edit.specs.declared.errors.RemoveError.{RemoveError}
use Rattle.dpl_edit.specs.declared.errors.RemoveError.TheVariants as removal
use Rattle.dpl_words.specs.declared.edits.ScriptError.{ScriptError}
use Rattle.dpl_words.specs.declared.edits.ScriptError.TheVariants as script
use Rattle.dpl_run.specs.declared.status.Status.{Status}
use Rattle.dpl_run.specs.declared.status.Status.TheVariants.{Layout, Limit, Script, NoMemory}

abbrev pub status_of : LayerError → Status
status_of (refusal.Layout command what) = Layout command what
status_of (refusal.Limit kind count) = Limit kind count
status_of refusal.NoMemory = NoMemory

-- a box that is not there is told by the number of the line
abbrev pub of_removal : ℕ → RemoveError → Status
of_removal line (removal.NoBox number) = Script line 2
of_removal line (removal.Refused error) = status_of error

abbrev pub of_script : ScriptError → Status
of_script (script.Bad line) = Script line 1
of_script script.NoMemory = NoMemory
