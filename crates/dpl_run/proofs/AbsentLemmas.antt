-- What is answered where the shelf has no text of the name that is opened.
use Rattle.std.proofs.Common.{◌≡◌, ◌⊎◌, ℕ, List, [], Option, Result, Ok, Err, inl, inr, sym, subst}
use Rattle.dpl_ext.specs.Device.{Seen}
use Rattle.dpl_run.specs.declared.status.Status.{Status}
use Rattle.dpl_run.specs.declared.status.Status.TheVariants.{Done, Rejected, Usage, Layout, Limit, Script, ReadFault, WriteFault, NoMemory}
use Rattle.dpl_run.specs.Devices.{IsUnread}
use Rattle.dpl_run.specs.Telling.{IsBare, IsTold, StopsReading}

-- a layout that was not read whole
pub layout_unread : (before now : Seen) (most : ℕ) (s t : Status) → StopsReading before now 1 most s → t ≡ s → IsUnread t
layout_unread before now most s t p e = subst IsUnread (sym e) (by_status s p) where
  by_status : (s : Status) → StopsReading before now 1 most s → IsUnread s
  by_status (Limit kind count) p = p.0
  by_status ReadFault p = tt
  by_status NoMemory p = tt
  by_status Done p = absurd p
  by_status WriteFault p = absurd p
  by_status (Rejected reason place found wanted) p = absurd p
  by_status (Usage kind) p = absurd p
  by_status (Layout command what) p = absurd p
  by_status (Script line kind) p = absurd p

-- a text that was not opened
pub second_unread : {T : Type 0} (r : Result T Status) (s t : Status) → (r ≡ Err ReadFault) ⊎ (r ≡ Err NoMemory) → r ≡ Err s → t ≡ s → IsUnread t
second_unread r s t (inl e) f g = let h : t ≡ ReadFault = cc in subst IsUnread (sym h) tt
second_unread r s t (inr e) f g = let h : t ≡ NoMemory = cc in subst IsUnread (sym h) tt

pub not_opened : {T : Type 0} (r : Result T Status) (v : T) → (r ≡ Err ReadFault) ⊎ (r ≡ Err NoMemory) → r ≡ Ok v → ⊥
not_opened r v (inl e) f = cc
not_opened r v (inr e) f = cc

no_output : (a : Status) (x : List ℕ) → IsBare a x → IsUnread a → x ≡ []
no_output ReadFault x b u = b
no_output NoMemory x b u = b
no_output (Limit kind count) x b u = b
no_output Done x b u = absurd u
no_output WriteFault x b u = absurd u
no_output (Rejected reason place found wanted) x b u = absurd u
no_output (Usage kind) x b u = absurd u
no_output (Layout command what) x b u = absurd u
no_output (Script line kind) x b u = absurd u

-- nothing is written then, so no write fails
pub told_unread : (a : Status) (x : List ℕ) (before now : Option (List ℕ)) (f g : ℕ) (result : Status)
    → IsBare a x → IsTold a x before now f g result → IsUnread a → IsUnread result
told_unread a x before now f g result b (inl w) u = subst IsUnread (sym w.status_is) u
told_unread a x before now f g result b (inr w) u = absurd (w.some (no_output a x b u))
