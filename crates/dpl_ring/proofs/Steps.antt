-- The names that the walks cite, and the pair as an element of a row.
pub use Rattle.std.proofs.Common.{
  ◌≡◌,
  ℕ,
  ◌+◌,
  ◌*◌,
  ◌<◌,
  ◌≤◌,
  ◌^◌,
  List,
  [],
  ◌∷◌,
  length,
  set,
  get_or,
  refl,
  sym,
  ap,
  ◌∙◌,
  lit<,
  w64,
  arith,
  length-set,
  true,
  false,
  Bool,
}
pub use Rattle.std.proofs.raw_atomic.Walks.{proved, proved_at, leaves}
pub use base.Fraction.{full_share}
pub use base.Logic.{id⊢, never}
pub use base.Fml.{ftrue, fat, froom, flft}
pub use mir.Syntax.{named, Ty}
pub use mir.Val.{Val, vunit, vint, vptr}
pub use contract.Monad.{fact}
pub use contract.Running.{tables}
pub use types.Kit.{
  ‵,
  raw,
  ◌⊛◌,
  at_ret,
  ◌$◌,
  ◌∵◌,
  !,
  qed,
  done,
  move,
  keep,
  drop,
  use1,
  use2,
  use3,
  split,
  join,
  fsplit,
  fsplit3,
  fjoin,
  feq_i,
  rewrite,
  suffices,
  frame,
  group,
}
pub use types.Run.{enter, of_opd, lit, unit_lit, bin, addr, load, look, init, stop, fld, hop, assigns, assigns_last, first, blocks, exec, returns}
pub use types.ByLocal.{alloc_all, pass_all, free_all, look_at, get, through, sets, sets_last, env}
pub use types.Part.{whole, sub, look_in}
pub use Rattle.std.proofs.VecSteps.Shapes.{after}
pub use denote.RattleType.{RattleType}
pub use denote.Builtin.{usize, unit, RefOf}
pub use denote.Exit.{yes, no}
pub use denote.Laws.{shows}
pub use denote.Memory.{cell_at, hidden_shr}
pub use denote.Plain.{uint_vals, uint_Tells}
pub use denote.RawPtr.{Ptr, RawPtr, block_ptr, in_a_block}
pub use denote.Ref.{MutRef, ShrRef, mut_vals, mut_Tells, shr_vals, shr_Tells}
pub use denote.Signature.{plain}
pub use denote.Steps.{nothing, opens, closes, peeks, heard}
pub use denote.Triple.Walked.{Stays, walk_of, says, stay_ref, stay_dropped, Goes-ref, Goes-dropped, ends_at}
pub use Rattle.core.proofs.slots.Places.{besides, room_out, value_in}
use Rattle.core.proofs.mem.Param.{El}
use Rattle.dpl_ring.specs.contracts.pair.Pair.{the_row}
use Rattle.dpl_ring.proofs.pair.Pair.TheLaws.{the_row_laws}

abbrev pub E : El
E = record { row = the_row; laws = the_row_laws }
