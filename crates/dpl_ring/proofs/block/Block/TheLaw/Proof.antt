-- A `&` to a block is made where one to each of its written pairs is.
use mathlib.Core.Bool.{Bool, true, false}
use mathlib.Core.List.{List, [], ◌∷◌}
use seplogic.Ra.Ura.{Ura}
use base.Fml.{Lft, ftrue}
use types.Logic.{Logic}
use denote.RattleType.{RattleType, RowLaws}
use denote.Sharing.{ShrLaws}
use denote.SharingLaws.{nothing_shr_laws, beside_shr_laws}
use denote.RawPtr.{Ptr, block_ptr, null_ptr, in_block, ◌+ₚ◌}
use denote.Shares.{Shares}
use denote.Param.Laws.{param_laws}
use denote.Param.Shared.{copy_shared}
use denote.Struct.Field.{RawPtr-field, usize-field}
use denote.Struct.Laws.{RawPtr-copy, usize-copy}
use denote.Struct.Lending.{lent_at_shr_laws, Lends, Lends-false, Lends-lies, Lends-nothing, Lends-both, of_Lends}
use Rattle.core.specs.Mem.Slots.Ownership.{bytes_of, slot, slots, slot_lent, slots_lent}
use Rattle.dpl_ring.specs.Blocks.{pair_row}
use Rattle.dpl_ring.proofs.pair.Pair.TheLaws.{the_row_laws}
use Rattle.dpl_ring.specs.contracts.block.Block as C
use Rattle.dpl_ring.proofs.block.Block.TheLaw.Statement.{statement}

module _ (R : RattleType) (L : RowLaws R) where
  slot_laws : (f : Bool) (p : Ptr) (x : R.Denot) → ShrLaws (slot_lent R f p x)
  slot_laws true p x = lent_at_shr_laws R L p x
  slot_laws false p x = nothing_shr_laws

  slots_laws : (p : Ptr) (xs : List R.Denot) (fs : List Bool) → ShrLaws (slots_lent R p xs fs)
  slots_laws p [] fs = nothing_shr_laws
  slots_laws p (x ∷ xs) [] = nothing_shr_laws
  slots_laws p (x ∷ xs) (f ∷ fs) = beside_shr_laws (slot_lent R f p x) (slots_lent R (p +ₚ bytes_of R) xs fs)
      (slot_laws f p x) (slots_laws (p +ₚ bytes_of R) xs fs)

module _ {M : Type 1} {𝓤 : Ura M} (𝓛 : Logic 𝓤) (R : RattleType) (l : Lft) (s : Shares 𝓛 R l) where
  Lends-slot : (f : Bool) (p : Ptr) (x : R.Denot) → Lends 𝓛 (slot R f p x) (slot_lent R f p x) l
  Lends-slot true p x = Lends-lies 𝓛 R l p x (s x)
  Lends-slot false p x = Lends-nothing 𝓛 (slot R false p x) l

  Lends-slots : (p : Ptr) (xs : List R.Denot) (fs : List Bool) → Lends 𝓛 (slots R p xs fs) (slots_lent R p xs fs) l
  Lends-slots p [] fs = Lends-nothing 𝓛 ftrue l
  Lends-slots p (x ∷ xs) [] = Lends-nothing 𝓛 ftrue l
  Lends-slots p (x ∷ xs) (f ∷ fs) =
      Lends-both 𝓛 (slot R f p x) (slots R (p +ₚ bytes_of R) xs fs) (slot_lent R f p x)
      (slots_lent R (p +ₚ bytes_of R) xs fs) l (Lends-slot f p x) (Lends-slots (p +ₚ bytes_of R) xs fs)

  Lends-row : (p : Ptr) (xs : List R.Denot) (fs : List Bool) → Lends 𝓛 (in_block p (slots R p xs fs)) (slots_lent R p xs fs) l
  Lends-row (block_ptr b o) xs fs = Lends-slots (block_ptr b o) xs fs
  Lends-row null_ptr xs fs = Lends-false 𝓛 (slots_lent R null_ptr xs fs) l

pub shares : statement
shares = let L = param_laws 0 _ the_row_laws in of_Lends C.struct C.the_codes C.the_heap C.the_lent
    (λ d p. slots_laws pair_row L.shr_laws d.at d.items d.filled)
    (copy_shared RawPtr-field RawPtr-copy, (copy_shared usize-field usize-copy, tt))
    (λ M 𝓤 𝓛 d p. Lends-row 𝓛 pair_row (C.the_row).lives (L.shares 𝓛) d.at d.items d.filled)
