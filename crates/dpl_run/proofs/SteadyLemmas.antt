-- No device failed where the status does not say so.
use Rattle.std.proofs.Common.{◌≡◌, ◌≢◌, ◌∙◌, ℕ, List, Bool, true, false, Option, Result, Ok, Err, inl, inr, refl, sym, subst}
use Rattle.dpl_ext.specs.Device.{Seen}
use Rattle.dpl_words.specs.declared.command.Command.{Command}
use Rattle.dpl_run.specs.declared.status.Status.{Status}
use Rattle.dpl_run.specs.declared.status.Status.TheVariants.{Usage, ReadFault, WriteFault, NoMemory}
use Rattle.dpl_run.specs.Devices.{IsLayoutTouched, IsTouched, Reads}
use Rattle.dpl_run.specs.Inputs.{opens, reads_layout}
use Rattle.dpl_run.specs.Telling.{IsTold}
use Rattle.dpl_run.proofs.ReadingLemmas.{untouched}

err_is : {T : Type 0} (s t u : Status) (r : Result T Status) → r ≡ Err s → t ≡ s → r ≡ Err u → t ≡ u
err_is s t u r e f g = cc

-- a text that was not read whole gives its status on
pub steady_stop : {T : Type 0} (P : Type 0) (r : Result T Status) (s t : Status) → r ≡ Err s → t ≡ s
    → (r ≢ Err ReadFault → r ≢ Err NoMemory → P) → t ≢ ReadFault → t ≢ NoMemory → P
steady_stop P r s t e f h n m = h (λ g. n (err_is s t ReadFault r e f g)) (λ g. m (err_is s t NoMemory r e f g))

-- and writing what is due keeps that
pub told_steady : (P Q : Type 0) (s : Status) (x : List ℕ) (before now : Option (List ℕ)) (f g : ℕ) (result : Status)
    → IsTold s x before now f g result → (s ≢ ReadFault → s ≢ NoMemory → P × Q)
    → result ≢ ReadFault → result ≢ WriteFault → result ≢ NoMemory → P × Q × (g ≡ f)
told_steady P Q s x before now f g result (inl w) h n m k =
    let both = h (λ e. n (w.status_is ∙ e)) (λ e. k (w.status_is ∙ e)) in
    (both.0, both.1, w.steady)
told_steady P Q s x before now f g result (inr w) h n m k = absurd (m w.fault)

-- what was read whole left the count of faults as it was
pub steady_ok : {T : Type 0} (P : Type 0) (r : Result T Status) (v : T) → r ≡ Ok v → (r ≢ Err ReadFault → r ≢ Err NoMemory → P) → P
steady_ok P r v e h = h (λ f. absurd (cc)) (λ f. absurd (cc))

-- ---- what was read

-- writing what is due reads nothing
pub told_reads : (c : Result Command ℕ) (s : Status) (x : List ℕ) (before now : Option (List ℕ)) (f g : ℕ) (result : Status)
    → (l m p q : Seen) → IsTold s x before now f g result → Reads c s l m p q → Reads c result l m p q
told_reads c s x before now f g result l m p q (inl w) d = subst (λ z. Reads c z l m p q) (sym w.status_is) d
told_reads c s x before now f g result l m p q (inr w) d = subst (λ z. Reads c z l m p q) (sym w.fault) (record {
  read = λ e. absurd (cc);
  limit = λ n e. absurd (cc);
  report_limit = λ n e. absurd (cc);
  script_limit = λ n e. absurd (cc);
  touched = d.touched;
})

-- what was not looked at is as it was
layout_untouched : (reads : Bool) (l : Seen) → IsLayoutTouched reads l l
layout_untouched true l = refl
layout_untouched false l = refl

all_untouched : (c : Result Command ℕ) (l p : Seen) → IsTouched c l l p p
all_untouched (Err kind) l p = (refl, refl)
all_untouched (Ok c) l p = (layout_untouched (reads_layout c) l, untouched (opens c) p)

-- the words alone gave the status
pub usage_reads : (c : Result Command ℕ) (kind : ℕ) (l p : Seen) → Reads c (Usage kind) l l p p
usage_reads c kind l p = record {
  read = λ e. absurd (cc);
  limit = λ n e. absurd (cc);
  report_limit = λ n e. absurd (cc);
  script_limit = λ n e. absurd (cc);
  touched = all_untouched c l p;
}

pub memory_reads : (c : Result Command ℕ) (l p : Seen) → Reads c NoMemory l l p p
memory_reads c l p = record {
  read = λ e. absurd (cc);
  limit = λ n e. absurd (cc);
  report_limit = λ n e. absurd (cc);
  script_limit = λ n e. absurd (cc);
  touched = all_untouched c l p;
}
