-- The calls among the entries of a definition.
use Rattle.std.proofs.Common.{◌≡◌, ◌<◌, ℕ, zero, suc, true, ◌==◌, List, [], ◌∷◌, ◌++◌, map, length, Option, Result, Ok}
use Rattle.std.proofs.Common.{Err, All, refl, sym, ◌∙◌, ap, subst, arith, get_or}
use Rattle.std.specs.List.{list_any}
use Rattle.std.specs.Result.{OnOk}
use Rattle.std.proofs.lemmas.List.{append-nil}
use Rattle.std.proofs.lemmas.Bool.{or_left, or_right}
use Rattle.dpl_rules.specs.declared.command.Command.{Command}
use Rattle.dpl_calls.specs.declared.entry.Entry.{Entry}
use Rattle.dpl_calls.specs.declared.entry.Entry.TheVariants.{Drawn, Called}
use Rattle.dpl_calls.specs.declared.placement.Placement.{Placement}
use Rattle.dpl_calls.specs.declared.table.CallSite.{CallSite}
use Rattle.dpl_calls.specs.declared.table.Table.{Table}
use Rattle.dpl_calls.specs.Loops.{names}
use Rattle.dpl_calls.specs.Table.{entry_part, entries_of, bodies_of}
use Rattle.dpl_calls.specs.Put.{site_in}
use Rattle.dpl_calls.specs.Found.{IsSite, call_in, calls_in}
use Rattle.dpl_calls.proofs.Cases.{to_eq}

-- a command that is no call adds none
pub no_call : {E : Type 0} (r : Result (Unit {0}) E) (before after : List Entry) (at : ℕ) (c : Command)
    → ((place : Option ℕ) → site_in place at c ≡ [])
    → OnOk r ((place : Option ℕ) → calls_in place after ≡ calls_in place before)
    → OnOk r ((place : Option ℕ) → calls_in place after ≡ calls_in place before ++ site_in place at c)
no_call (Ok u) before after at c none h = λ place. h place ∙
    (sym (append-nil (calls_in place before)) ∙ ap (λ (ss : List CallSite). calls_in place before ++ ss)
    (sym (none place)))
no_call (Err e) before after at c none h = tt

named_in : (es : List Entry) (k : ℕ) (x : Entry) (at n : ℕ) (p : Placement) → k < length es
    → get_or es k x ≡ Called at n p → list_any (names n) (map entry_part es) ≡ true
named_in [] k x at n p h e = absurd (omega arith)
named_in (y ∷ es) zero x at n p h e = rw e (or_left (n == n) (list_any (names n) (map entry_part es)) (to_eq n n refl))
named_in (y ∷ es) (suc k) x at n p h e = or_right (names n (entry_part y)) (list_any (names n) (map entry_part es)) (named_in es k x at n p (omega arith) e)

-- an entry that is a call is one of its definition
pub entry_fits : (t : Table) (definition : Option ℕ) (k : ℕ) (x : Entry)
    → k < length (entries_of t definition)
    → All (IsSite (bodies_of t)) (call_in definition (get_or (entries_of t definition) k x))
entry_fits t definition k x h = by (get_or (entries_of t definition) k x) refl
  where
    by : (e : Entry) → get_or (entries_of t definition) k x ≡ e → All (IsSite (bodies_of t)) (call_in definition e)
    by (Drawn figure) e j d l = absurd (omega arith)
    by (Called at n p) e zero d l = λ m em. subst (λ (o : Option ℕ). list_any (names n)
        (map entry_part (entries_of t o)) ≡ true) em (named_in (entries_of t definition) k x at n p h e)
    by (Called at n p) e (suc j) d l = absurd (omega arith)
