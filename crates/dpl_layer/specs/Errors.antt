-- What the errors of the steps are as errors of the whole.
use Rattle.std.specs.Prelude.{◌+◌}
use Rattle.dpl_cif.specs.declared.error.CifError.{CifError}
use Rattle.dpl_cif.specs.declared.error.CifError.TheVariants as cif
use Rattle.dpl_cif.specs.OnCells.{limit_number}
use Rattle.dpl_layer.specs.declared.error.LayerError.{LayerError}
use Rattle.dpl_layer.specs.declared.error.LayerError.TheVariants.{Layout, Limit, NoMemory}
use Rattle.dpl_limits.specs.Limits.{number_of, most_of}
use Rattle.dpl_limits.specs.declared.counted.Counted.{Counted}
use Rattle.dpl_limits.specs.declared.error.LimitError.{LimitError}
use Rattle.dpl_limits.specs.declared.error.LimitError.TheVariants as step

-- one more than the limit takes
abbrev pub passed : Counted → LayerError
passed counted = Limit (number_of counted) (most_of counted + 1)

abbrev pub of_reading : CifError → LayerError
of_reading (cif.Fault command what) = Layout command what
of_reading (cif.Limit kind count) = Limit (limit_number kind) count
of_reading cif.NoMemory = NoMemory

-- of a step that counts these
abbrev pub of_step : Counted → LimitError → LayerError
of_step counted step.TooMany = passed counted
of_step counted step.NoMemory = NoMemory
