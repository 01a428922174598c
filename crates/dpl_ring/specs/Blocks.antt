-- What a block of pairs owns and lends.
use Rattle.std.specs.Prelude.{ℕ, Bool, List}
use base.Fml.{Fml, Lft}
use mir.Syntax.{Ty, ty_array}
use mir.Raw.{raw}
use denote.Memory.{lone}
use denote.RattleType.{RattleType}
use denote.RawPtr.{Ptr, in_block}
use denote.Param.{param}
use Rattle.core.specs.Mem.Slots.Ownership.{slots, slots_lent}
use Rattle.dpl_ring.specs.declared.pair.Pair.{Pair}
use Rattle.dpl_ring.specs.contracts.pair.Pair.{the_row}

abbrev pub pair_row : RattleType
pair_row = param 0 the_row

-- each place holds its pair where it is written, and is room otherwise
abbrev pub block_owns : Ptr → List Pair → List Bool → Fml
block_owns at items filled = in_block at (slots pair_row at items filled)

abbrev pub block_lends : Ptr → List Pair → List Bool → Lft → Fml
block_lends at items filled = slots_lent pair_row at items filled

-- the type that a block of n pairs is taken for
abbrev pub pairs_of : ℕ → Ty
pairs_of n = raw (ty_array (lone pair_row.mir) n)
