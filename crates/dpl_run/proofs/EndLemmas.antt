-- With which statuses the work on the texts of a command can end, and what is written before them.
use Rattle.std.proofs.Common.{◌≡◌, ◌⊎◌, ◌≤◌, ℕ, List, [], true, refl, inl, inr, sym, subst}
use Rattle.std.specs.Prelude.{Ok}
use Rattle.dpl_layer.specs.declared.error.LayerError.{LayerError}
use Rattle.dpl_layer.specs.declared.error.LayerError.TheVariants as refusal
use Rattle.dpl_words.specs.declared.command.Command.{Command}
use Rattle.dpl_run.specs.declared.status.Status.{Status}
use Rattle.dpl_run.specs.declared.status.Status.TheVariants.{Done, Rejected, Usage, Layout, Limit, Script, ReadFault, WriteFault, NoMemory}
use Rattle.dpl_run.specs.Inputs.{judges, follows}
use Rattle.dpl_run.specs.Answer.{IsLimitOf, IsStatusOf}
use Rattle.dpl_run.specs.Errors.{status_of}
use Rattle.dpl_run.specs.Telling.{IsBare, IsDueOrFree, IsWorked}

-- done, or a refusal with nothing written
abbrev pub IsFit : Status → List ℕ → Type 0
IsFit Done x = Unit {0}
IsFit ReadFault x = ⊥
IsFit WriteFault x = ⊥
IsFit NoMemory x = ⊥
IsFit status x = x ≡ []

-- a limit on what a layer has
abbrev pub IsWorkLimit : ℕ → Type 0
IsWorkLimit kind = (2 ≤ kind) × (kind ≤ 7)

-- done, or a refusal of the work
abbrev pub Ends : Command → Status → List ℕ → Type 0
Ends c Done x = Unit {0}
Ends c (Rejected reason place found wanted) x = (judges c ≡ true) × (x ≡ [])
Ends c (Usage kind) x = ⊥
Ends c (Layout command what) x = x ≡ []
Ends c (Limit kind count) x = IsWorkLimit kind × (x ≡ [])
Ends c (Script line kind) x = (follows c ≡ true) × (x ≡ [])
Ends c ReadFault x = ⊥
Ends c WriteFault x = ⊥
Ends c NoMemory x = ⊥

-- the work ends done, or with a refusal and nothing written
pub ends_fit : (c : Command) (a : Status) (x : List ℕ) → Ends c a x → IsFit a x
ends_fit c Done x e = tt
ends_fit c (Rejected reason place found wanted) x e = e.1
ends_fit c (Usage kind) x e = absurd e
ends_fit c (Layout command what) x e = e
ends_fit c (Limit kind count) x e = e.1
ends_fit c (Script line kind) x e = e.1
ends_fit c ReadFault x e = e
ends_fit c WriteFault x e = e
ends_fit c NoMemory x e = e

-- a refusal ends the work, if it is not for want of memory and names a limit on the work
pub error_ends : (c : Command) (P : LayerError → Type 0) → (P refusal.NoMemory → ⊥) → ((k n : ℕ) → P (refusal.Limit k n) → IsWorkLimit k)
    → (e : LayerError) → P e → Ends c (status_of e) []
error_ends c P some f (refusal.Layout command what) p = refl
error_ends c P some f (refusal.Limit k n) p = (f k n p, refl)
error_ends c P some f refusal.NoMemory p = absurd (some p)

-- ---- what the work answers

-- all that is due ends the work
abbrev pub AllEnd : Command → (Status → List ℕ → Type 0) → Type 0
AllEnd c Due = (a : Status) (x : List ℕ) → Due a x → Ends c a x

-- what the work gives is due, but for want of memory
pub worked_free : (c : Command) (Due : Status → List ℕ → Type 0) → AllEnd c Due → (a : Status) (x : List ℕ) → IsWorked Due a x → IsDueOrFree Due a x
worked_free c Due all Done x p = p
worked_free c Due all (Rejected reason place found wanted) x p = p
worked_free c Due all (Usage kind) x p = p
worked_free c Due all (Layout command what) x p = p
worked_free c Due all (Limit kind count) x p = p
worked_free c Due all (Script line kind) x p = p
worked_free c Due all ReadFault x p = absurd (all ReadFault x p)
worked_free c Due all WriteFault x p = p
worked_free c Due all NoMemory x p = p

-- only work that is done has an output
pub worked_bare : (c : Command) (Due : Status → List ℕ → Type 0) → AllEnd c Due → (a : Status) (x : List ℕ) → IsWorked Due a x → IsBare a x
worked_bare c Due all Done x p = tt
worked_bare c Due all (Rejected reason place found wanted) x p = (all (Rejected reason place found wanted) x p).1
worked_bare c Due all (Usage kind) x p = absurd (all (Usage kind) x p)
worked_bare c Due all (Layout command what) x p = all (Layout command what) x p
worked_bare c Due all (Limit kind count) x p = (all (Limit kind count) x p).1
worked_bare c Due all (Script line kind) x p = (all (Script line kind) x p).1
worked_bare c Due all ReadFault x p = absurd (all ReadFault x p)
worked_bare c Due all WriteFault x p = absurd (all WriteFault x p)
worked_bare c Due all NoMemory x p = p

limit_of_work : (c : Command) (k : ℕ) → IsWorkLimit k → IsLimitOf c k
limit_of_work c k p = inr (inl p)

-- the work ends with a status of its command
pub worked_status : (c : Command) (Due : Status → List ℕ → Type 0) → AllEnd c Due → (a : Status) (x : List ℕ) → IsWorked Due a x → IsStatusOf (Ok c) a
worked_status c Due all Done x p = tt
worked_status c Due all (Rejected reason place found wanted) x p = (all (Rejected reason place found wanted) x p).0
worked_status c Due all (Usage kind) x p = absurd (all (Usage kind) x p)
worked_status c Due all (Layout command what) x p = tt
worked_status c Due all (Limit kind count) x p = limit_of_work c kind (all (Limit kind count) x p).0
worked_status c Due all (Script line kind) x p = (all (Script line kind) x p).0
worked_status c Due all ReadFault x p = tt
worked_status c Due all WriteFault x p = tt
worked_status c Due all NoMemory x p = tt

-- no text was read in the work
pub worked_no_fault : (c : Command) (Due : Status → List ℕ → Type 0) → AllEnd c Due → (a : Status) (x : List ℕ) → IsWorked Due a x → a ≡ ReadFault → ⊥
worked_no_fault c Due all a x p e = all ReadFault x (subst (λ z. IsWorked Due z x) e p)

-- and no limit on the bytes of a text is passed in it
pub worked_limit : (c : Command) (Due : Status → List ℕ → Type 0) → AllEnd c Due
    → (a : Status) (x : List ℕ) (k n : ℕ) → IsWorked Due a x → a ≡ Limit k n → (2 ≤ k) × (k ≤ 7)
worked_limit c Due all a x k n p e = (all (Limit k n) x (subst (λ z. IsWorked Due z x) e p)).0

-- a refusal is due where it applies, and want of memory is free
or_memory : (Due : Status → List ℕ → Type 0) (P : LayerError → Type 0) (e : LayerError)
    → ((f : LayerError) → P f → Due (status_of f) []) → (e ≡ refusal.NoMemory) ⊎ P e
    → IsWorked Due (status_of e) []
or_memory Due P refusal.NoMemory f h = refl
or_memory Due P (refusal.Layout command what) f (inl h) = absurd (cc)
or_memory Due P (refusal.Limit kind count) f (inl h) = absurd (cc)
or_memory Due P (refusal.Layout command what) f (inr h) = f (refusal.Layout command what) h
or_memory Due P (refusal.Limit kind count) f (inr h) = f (refusal.Limit kind count) h

-- an error ends the work where it is want of memory, or where its refusal is due
pub refused_worked : (Due : Status → List ℕ → Type 0) (P : LayerError → Type 0) (e : LayerError) (s : Status) (x : List ℕ)
    → ((f : LayerError) → P f → Due (status_of f) []) → (e ≡ refusal.NoMemory) ⊎ P e → s ≡ status_of e
    → x ≡ [] → IsWorked Due s x
refused_worked Due P e s x f h is none = subst (λ z. IsWorked Due z x) (sym is) (subst (IsWorked Due (status_of e)) (sym none) (or_memory Due P e f h))

-- a refusal is not done
pub refused_not_done : (e : LayerError) → status_of e ≡ Done → ⊥
refused_not_done (refusal.Layout command what) e = absurd (cc)
refused_not_done (refusal.Limit kind count) e = absurd (cc)
refused_not_done refusal.NoMemory e = absurd (cc)
