-- What is written is due, and what is due is answered.
use Rattle.std.proofs.Common.{◌≡◌, ◌≢◌, ◌⊎◌, ◌↔◌, ◌∙◌, ℕ, List, [], ◌++◌, append-nil, take, drop, Option, None, Some, refl, sym, subst, inl, inr}
use Rattle.std.specs.Prelude.{Result, Ok, Err}
use Rattle.std.proofs.lemmas.List.{take-append-drop}
use Rattle.std.specs.Io.KnownBytes.{Appends, Keeps}
use Rattle.dpl_ext.specs.Device.{Texts, Rose}
use Rattle.dpl_words.specs.Commands.{asked_by}
use Rattle.dpl_words.specs.declared.command.Command.{Command}
use Rattle.dpl_run.specs.declared.status.Status.{Status}
use Rattle.dpl_run.specs.declared.status.Status.TheVariants.{Done, Rejected, Usage, Layout, Limit, Script, ReadFault, WriteFault, NoMemory}
use Rattle.dpl_run.specs.Answer.{Answers, IsCutShort, IsDue, IsDueOf, IsQuiet, IsStatusOf, IsWritten}
use Rattle.dpl_run.specs.Devices.{AreTold}
use Rattle.dpl_run.specs.Telling.{IsBare, IsDueOrFree, IsTold}
use Rattle.dpl_run.proofs.EndLemmas.{IsFit}
use Rattle.dpl_run.proofs.DueLemmas.{fits, one_due}

-- a relation of what is due, in which all that is due fits
abbrev pub IsSound : (Status → List ℕ → Type 0) → Type 0
IsSound Due = (a : Status) (x : List ℕ) → Due a x → IsFit a x

-- at most one status is due
abbrev pub IsOnce : (Status → List ℕ → Type 0) → Type 0
IsOnce Due = (a b : Status) (x y : List ℕ) → Due a x → Due b y → a ≡ b

whole : (Due : Status → List ℕ → Type 0) → IsSound Due
    → (before now : Option (List ℕ)) (a : Status) (x : List ℕ) → IsDueOrFree Due a x → Appends before now x
    → Answers Due before now a
whole Due sound before now WriteFault x p t = absurd (sound WriteFault x p)
whole Due sound before now ReadFault x p t = tt
whole Due sound before now NoMemory x p t = tt
whole Due sound before now Done x p t = record { output = x; due = p; taken = t }
whole Due sound before now (Rejected reason place found wanted) x p t = record { output = x; due = p; taken = t }
whole Due sound before now (Usage kind) x p t = record { output = x; due = p; taken = t }
whole Due sound before now (Limit kind count) x p t = record { output = x; due = p; taken = t }
whole Due sound before now (Layout command what) x p t = record { output = x; due = p; taken = t }
whole Due sound before now (Script line kind) x p t = record { output = x; due = p; taken = t }

-- something was to be written, so it is what is due where all is done
some : (Due : Status → List ℕ → Type 0) → IsSound Due → (a : Status) (x : List ℕ) → IsDueOrFree Due a x → x ≢ [] → Due Done x
some Due sound WriteFault x p n = absurd (sound WriteFault x p)
some Due sound ReadFault x p n = absurd (n p)
some Due sound NoMemory x p n = absurd (n p)
some Due sound Done x p n = p
some Due sound (Rejected reason place found wanted) x p n = absurd (n (sound (Rejected reason place found wanted) x p))
some Due sound (Usage kind) x p n = absurd (n (sound (Usage kind) x p))
some Due sound (Limit kind count) x p n = absurd (n (sound (Limit kind count) x p))
some Due sound (Layout command what) x p n = absurd (n (sound (Layout command what) x p))
some Due sound (Script line kind) x p n = absurd (n (sound (Script line kind) x p))

-- a status that is due or free, with its output told, answers
pub told_answers : (Due : Status → List ℕ → Type 0) → IsSound Due → (before now : Option (List ℕ)) (f g : ℕ) (a : Status) (x : List ℕ) (result : Status)
    → IsDueOrFree Due a x → IsTold a x before now f g result → Answers Due before now result
told_answers Due sound before now f g a x result p (inl w) = subst (Answers Due before now) (sym w.status_is) (whole Due sound before now a x p w.taken)
told_answers Due sound before now f g a x result p (inr w) =
    subst (Answers Due before now) (sym w.fault) (record
    { output = x; due = some Due sound a x p w.some; taken = w.taken })

-- the status that is due is answered, or memory ran out, or a write failed where something was to be written
abbrev pub IsAnswered : Status → Status → Type 0
IsAnswered due result = (result ≡ due) ⊎ (result ≡ NoMemory) ⊎ ((result ≡ WriteFault) × (due ≡ Done))

-- what is due comes, where no read failed
pub comes : (Due : Status → List ℕ → Type 0) → IsOnce Due
    → (before now : Option (List ℕ)) (due result : Status) (x : List ℕ) → Answers Due before now result
    → Due due x → result ≢ ReadFault → IsAnswered due result
comes Due once before now due ReadFault x w p n = absurd (n refl)
comes Due once before now due NoMemory x w p n = inr (inl refl)
comes Due once before now due WriteFault x w p n = inr (inr (refl, once due Done x w.output p w.due))
comes Due once before now due Done x w p n = inl (once _ due w.output x w.due p)
comes Due once before now due (Rejected reason place found wanted) x w p n = inl (once _ due w.output x w.due p)
comes Due once before now due (Usage kind) x w p n = inl (once _ due w.output x w.due p)
comes Due once before now due (Limit kind count) x w p n = inl (once _ due w.output x w.due p)
comes Due once before now due (Layout command what) x w p n = inl (once _ due w.output x w.due p)
comes Due once before now due (Script line kind) x w p n = inl (once _ due w.output x w.due p)

-- ---- for a command

-- the status of an attempt, with its output told, answers the words and the texts
pub attempt_answers : (words : List (List ℕ)) (command : Result Command ℕ) (left : Option (List ℕ))
    → (texts : Option Texts) (before now : Option (List ℕ)) (f g : ℕ) (a : Status) (x : List ℕ)
    → (result : Status) → asked_by words ≡ command
    → ((text report : List ℕ) → AreTold command left texts text report → IsDueOrFree (IsDueOf command text report) a x)
    → IsTold a x before now f g result → (text report : List ℕ)
    → AreTold (asked_by words) left texts text report → Answers (IsDue words text report) before now result
attempt_answers words command left texts before now f g a x result e due told text report t =
    let due' = due text report (subst (λ z. AreTold z left texts text report) e t) in
    subst (λ z. Answers (IsDueOf z text report) before now result) (sym e)
    (told_answers (IsDueOf command text report) (fits command text report) before now f g a x result due' told)

appends_none : (x : Option (List ℕ)) → Appends x x []
appends_none None = tt
appends_none (Some xs) = sym (append-nil xs)

-- wrong words are answered by their rule
pub usage_answers : (words : List (List ℕ)) (kind : ℕ) (now : Option (List ℕ)) (text report : List ℕ)
    → asked_by words ≡ Err kind → Answers (IsDue words text report) now now (Usage kind)
usage_answers words kind now text report e =
    subst (λ z. Answers (IsDueOf z text report) now now (Usage kind)) (sym e) (record { output = []; due = (refl, refl); taken = appends_none now })

keeps_none : (before now : Option (List ℕ)) → Appends before now [] → Keeps before now
keeps_none None now a = tt
keeps_none (Some xs) None a = a
keeps_none (Some xs) (Some ys) a = a ∙ append-nil xs

quiet_of : (s : Status) (x : List ℕ) (before now : Option (List ℕ)) → IsBare s x → Appends before now x → IsQuiet before now s
quiet_of Done x before now b a = tt
quiet_of WriteFault x before now b a = tt
quiet_of ReadFault x before now b a = keeps_none before now (subst (Appends before now) b a)
quiet_of NoMemory x before now b a = keeps_none before now (subst (Appends before now) b a)
quiet_of (Rejected reason place found wanted) x before now b a = keeps_none before now (subst (Appends before now) b a)
quiet_of (Usage kind) x before now b a = keeps_none before now (subst (Appends before now) b a)
quiet_of (Limit kind count) x before now b a = keeps_none before now (subst (Appends before now) b a)
quiet_of (Layout command what) x before now b a = keeps_none before now (subst (Appends before now) b a)
quiet_of (Script line kind) x before now b a = keeps_none before now (subst (Appends before now) b a)

-- nothing is written but a whole output or a front of one
pub told_quiet : (a : Status) (x : List ℕ) (before now : Option (List ℕ)) (f g : ℕ) (result : Status)
    → IsBare a x → IsTold a x before now f g result → IsQuiet before now result
told_quiet a x before now f g result b (inl w) = subst (IsQuiet before now) (sym w.status_is) (quiet_of a x before now b w.taken)
told_quiet a x before now f g result b (inr w) = subst (IsQuiet before now) (sym w.fault) tt

-- where a write fails the count of faults rises
pub told_write : (a : Status) (x : List ℕ) (before now : Option (List ℕ)) (f g : ℕ) (result : Status)
    → IsBare a x → IsTold a x before now f g result → result ≡ WriteFault → Rose f g
told_write a x before now f g result b (inl w) e = absurd (subst (λ z. IsBare z x) (sym w.status_is ∙ e) b)
told_write a x before now f g result b (inr w) e = w.rose

-- what is due for words and texts comes, where no read failed
pub all_comes : (words : List (List ℕ)) (text second : List ℕ) (before now : Option (List ℕ)) (due result : Status) (output : List ℕ)
    → IsDue words text second due output → Answers (IsDue words text second) before now result → result ≢ ReadFault
    → IsAnswered due result
all_comes words text second before now due result output d a n =
    comes (IsDue words text second) (one_due (asked_by words) text second) before now due result output a d n

-- ---- whatever the devices do

-- a status of the command, with its output told, is one of the words
pub told_status : (words : List (List ℕ)) (c : Command) (a : Status) (x : List ℕ) (before now : Option (List ℕ)) (f g : ℕ) (result : Status)
    → asked_by words ≡ Ok c → IsStatusOf (Ok c) a → IsTold a x before now f g result
    → IsStatusOf (asked_by words) result
told_status words c a x before now f g result e s (inl w) = subst (λ z. IsStatusOf z result) (sym e) (subst (IsStatusOf (Ok c)) (sym w.status_is) s)
told_status words c a x before now f g result e s (inr w) = subst (λ z. IsStatusOf z result) (sym e) (subst (IsStatusOf (Ok c)) (sym w.fault) tt)

-- want of memory is a status of all words
pub memory_status : (command : Result Command ℕ) → IsStatusOf command NoMemory
memory_status (Err kind) = inr refl
memory_status (Ok c) = tt

-- the rule that words break is a status of them
pub usage_status : (words : List (List ℕ)) (kind : ℕ) → asked_by words ≡ Err kind → IsStatusOf (asked_by words) (Usage kind)
usage_status words kind e = subst (λ z. IsStatusOf z (Usage kind)) (sym e) (inl refl)

-- ---- what a sink took that tells it

written_taken : (Due : Status → List ℕ → Type 0) (taken now : List ℕ) (s : Status)
    → IsWritten Due (Some taken) (Some now) s ↔ ((output : List ℕ) × Due s output × (now ≡ taken ++ output))
written_taken Due taken now s = (λ w. (w.output, w.due, w.taken), λ p. record { output = p.0; due = p.1; taken = p.2 })

-- what was answered but for failures and want of memory is due, and was taken
pub due_taken : (Due : Status → List ℕ → Type 0) (taken now : List ℕ) (s : Status) → s ≢ ReadFault → s ≢ WriteFault → s ≢ NoMemory
    → Answers Due (Some taken) (Some now) s ↔ ((output : List ℕ) × Due s output × (now ≡ taken ++ output))
due_taken Due taken now Done r w m = written_taken Due taken now Done
due_taken Due taken now (Rejected reason place found wanted) r w m = written_taken Due taken now (Rejected reason place found wanted)
due_taken Due taken now (Usage kind) r w m = written_taken Due taken now (Usage kind)
due_taken Due taken now (Layout command what) r w m = written_taken Due taken now (Layout command what)
due_taken Due taken now (Limit kind count) r w m = written_taken Due taken now (Limit kind count)
due_taken Due taken now (Script line kind) r w m = written_taken Due taken now (Script line kind)
due_taken Due taken now ReadFault r w m = absurd (r refl)
due_taken Due taken now WriteFault r w m = absurd (w refl)
due_taken Due taken now NoMemory r w m = absurd (m refl)

-- what was cut short is a front of an output that is due where all is done
pub cut_front : (Due : Status → List ℕ → Type 0) (taken now : List ℕ) → IsCutShort Due (Some taken) (Some now)
    → (front : List ℕ) × (rest : List ℕ) × Due Done (front ++ rest) × (now ≡ taken ++ front)
cut_front Due taken now cut =
    let count = cut.taken.0 in
    let whole = take-append-drop count cut.output in
    (take count cut.output, drop count cut.output, subst (Due Done) (sym whole) cut.due, cut.taken.1)

-- whatever a sink tells, such a status is due
pub due_status : (Due : Status → List ℕ → Type 0) (before now : Option (List ℕ)) (s : Status) → s ≢ ReadFault → s ≢ WriteFault → s ≢ NoMemory
    → Answers Due before now s → (output : List ℕ) × Due s output
due_status Due before now Done r w m a = (a.output, a.due)
due_status Due before now (Rejected reason place found wanted) r w m a = (a.output, a.due)
due_status Due before now (Usage kind) r w m a = (a.output, a.due)
due_status Due before now (Layout command what) r w m a = (a.output, a.due)
due_status Due before now (Limit kind count) r w m a = (a.output, a.due)
due_status Due before now (Script line kind) r w m a = (a.output, a.due)
due_status Due before now ReadFault r w m a = absurd (r refl)
due_status Due before now WriteFault r w m a = absurd (w refl)
due_status Due before now NoMemory r w m a = absurd (m refl)
