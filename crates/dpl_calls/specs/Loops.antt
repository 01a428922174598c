-- Calls of what is not there, and calls that lead back to where they stand.
use Rattle.std.specs.Prelude.{ℕ, zero, suc, ◌+◌, ◌==◌, ◌≡◌, ◌⊎◌, ◌↔◌, ◌||◌, not, MatchOption, Bool, true, false, List, [], ◌∷◌, ◌++◌, length, Option, None, Some, Result, Ok, Err, if◌then◌else◌}
use Rattle.std.specs.List.{list_any}
use Rattle.dpl_lex.specs.declared.types.Ending.{Ending}
use Rattle.dpl_rules.specs.declared.command.Command.{Command}
use Rattle.dpl_rules.specs.declared.command.Command.TheVariants.{Call}
use Rattle.dpl_rules.specs.declared.scope.Scope.{Scope}
use Rattle.dpl_rules.specs.declared.what.What.{What}
use Rattle.dpl_rules.specs.declared.what.What.TheVariants as what
use Rattle.dpl_rules.specs.Rules.{Fault, fault, at_first, after, with_start, rule_fault, end_fault}
use Rattle.dpl_calls.specs.declared.table.CallSite.{CallSite}
use Rattle.dpl_calls.specs.Parts.{Part, Bodies, parts_from}
use Rattle.dpl_calls.specs.Parts.Part.{Drawn, Called}

-- the call that a command is: its number, the definition that it stands in, and the one that it names
abbrev pub sites_of : Scope → ℕ → Command → List CallSite
sites_of s at (Call n transformations) =
    record { at = at; definition = s.definition; called = n } ∷ []
sites_of s at c = []

-- the calls among the commands from this number on
abbrev pub sites_from : List ℕ → Scope → ℕ → List (Result Command What) → List CallSite
sites_from chosen s at [] = []
sites_from chosen s at (Err what ∷ rest) = sites_from chosen s (at + 1) rest
sites_from chosen s at (Ok c ∷ rest) =
    sites_of s at c ++ sites_from chosen (after chosen s c) (at + 1) rest

-- the numbers of the definitions, behind those seen
abbrev pub numbers_from : List ℕ → List (Result Command What) → List ℕ
numbers_from seen [] = seen
numbers_from seen (Err what ∷ rest) = numbers_from seen rest
numbers_from seen (Ok c ∷ rest) = numbers_from (with_start c seen) rest

-- the first call that passes the test
abbrev pub first_site : (CallSite → Bool) → What → List CallSite → Option Fault
first_site test what [] = None
first_site test what (s ∷ sites) =
    if test s then Some (fault s.at what) else first_site test what sites

-- the call names a number that no definition has
abbrev pub is_missing : List ℕ → CallSite → Bool
is_missing numbers s = not (list_any (λ m. m == s.called) numbers)

abbrev pub part_leads : Bodies → (List Part → Bool) → ℕ → Part → Bool
part_leads bodies inner to (Drawn figure) = false
part_leads bodies inner to (Called n moves) = n == to || inner (bodies (Some n))

-- definition `to` is reached from these parts by at most so many calls
abbrev pub leads_to : ℕ → Bodies → ℕ → List Part → Bool
leads_to zero bodies to parts = false
leads_to (suc steps) bodies to parts =
    list_any (part_leads bodies (leads_to steps bodies to) to) parts

-- The call stands in a definition that it names, or that is reached from the one that it names. As many calls as there are definitions are enough.
unfoldable pub is_looped : ℕ → Bodies → CallSite → Bool
is_looped steps bodies s =
    elim s.definition [
      | None ↦ false
      | Some d ↦ s.called == d
          || leads_to steps bodies d (bodies (Some s.called))
    ]

-- the part calls this definition
abbrev pub names : ℕ → Part → Bool
names m (Drawn figure) = false
names m (Called n moves) = n == m

-- definition n has a call of definition m
abbrev pub calls : Bodies → ℕ → ℕ → Bool
calls b n m = list_any (names m) (b (Some n))

-- a path of one or more calls from definition to definition
pub data Path (b : Bodies) : ℕ → ℕ → Type 0 where
  once : (n m : ℕ) → calls b n m ≡ true → Path b n m
  more : (n m k : ℕ) → calls b n m ≡ true → Path b m k → Path b n k

-- the call names the definition that it stands in, or one from which a path of calls leads back there
abbrev pub LeadsBack : Bodies → CallSite → Type 0
LeadsBack b s = MatchOption s.definition ⊥ (λ d. (s.called ≡ d) ⊎ Path b s.called d)

-- a law: a Loop is a call from which a path of calls leads back to its definition
abbrev pub LoopsLeadBack : Type 0
LoopsLeadBack = (chosen : List ℕ) (commands : List (Result Command What)) (s : CallSite)
    → (is_looped (length (numbers_from [] commands)) (parts_from chosen at_first commands) s ≡ true)
    ↔ LeadsBack (parts_from chosen at_first commands) s

abbrev pub or_fault : Option Fault → Option Fault → Option Fault
or_fault None later = later
or_fault (Some f) later = Some f

-- The four rounds: the rules of one command, the end of the text, calls of what is not there, calls that lead back.
abbrev pub fault_of : List ℕ → List (Result Command What) → Ending → Option Fault
fault_of chosen commands ending =
    let bodies = parts_from chosen at_first commands in
    let sites = sites_from chosen at_first 1 commands in
    let numbers = numbers_from [] commands in
    or_fault (rule_fault chosen at_first [] 1 commands ending)
    (or_fault (end_fault (length commands + 1) ending)
    (or_fault (first_site (is_missing numbers) what.Missing sites)
    (first_site (is_looped (length numbers) bodies) what.Loop sites)))
