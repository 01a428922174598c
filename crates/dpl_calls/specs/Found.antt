-- What is found among the calls of a layout.
use Rattle.std.specs.Prelude.{ℕ, ◌≡◌, ◌≤◌, ◌+◌, Bool, true, min, List, [], ◌∷◌, Option, None, Some, if◌then◌else◌}
use Rattle.std.specs.List.{flat_map, filter}
use Rattle.indexmap.specs.IndexMap.{keys}
use Rattle.dpl_rules.specs.declared.what.What.{What}
use Rattle.dpl_rules.specs.Rules.{Fault, fault}
use Rattle.dpl_calls.specs.declared.entry.Entry.{Entry}
use Rattle.dpl_calls.specs.declared.entry.Entry.TheVariants.{Drawn, Called}
use Rattle.dpl_calls.specs.declared.table.CallSite.{CallSite}
use Rattle.dpl_calls.specs.declared.table.Table.{Table}
use Rattle.dpl_calls.specs.Parts.{Bodies, is_same}
use Rattle.dpl_calls.specs.Loops.{calls}
use Rattle.dpl_calls.specs.Table.{entries_of}

-- the command of the first fault of this kind
abbrev pub FindsAt : What → Option ℕ → Option Fault → Type 0
FindsAt what None found = found ≡ None
FindsAt what (Some at) found = found ≡ Some (fault at what)

-- the call is one of the definition that it stands in
abbrev pub IsSite : Bodies → CallSite → Type 0
IsSite b s = (d : ℕ) → s.definition ≡ Some d → calls b d s.called ≡ true

-- the call that an entry of a definition is
abbrev pub call_in : Option ℕ → Entry → List CallSite
call_in place (Drawn figure) = []
call_in place (Called at n moves) = record { at = at; definition = place; called = n } ∷ []

abbrev pub calls_in : Option ℕ → List Entry → List CallSite
calls_in place entries = flat_map (call_in place) entries

-- the calls that a table holds in a definition, or outside
abbrev pub calls_at : Table → Option ℕ → List CallSite
calls_at t place = calls_in place (entries_of t place)

-- those that stand in a definition, or outside
abbrev pub standing : Option ℕ → List CallSite → List CallSite
standing place sites = filter (λ s. is_same place s.definition) sites

-- each has a greater number than the one before, and the first at least this one
abbrev pub AreRising : ℕ → List CallSite → Type 0
AreRising from [] = Unit {0}
AreRising from (s ∷ sites) = (from ≤ s.at) × AreRising (s.at + 1) sites

-- These are the calls of a table, in the order of the file.
pub record AreCalls (t : Table) (sites : List CallSite) : Type 0 where
  pub rising : AreRising 1 sites
  pub held : (place : Option ℕ) → calls_at t place ≡ standing place sites

-- the number of the first call that passes the test
abbrev pub first_number : (CallSite → Bool) → List CallSite → Option ℕ
first_number test [] = None
first_number test (s ∷ sites) = if test s then Some s.at else first_number test sites

-- the smaller number, where there is one
abbrev pub earlier : Option ℕ → Option ℕ → Option ℕ
earlier None other = other
earlier (Some a) None = Some a
earlier (Some a) (Some b) = Some (min a b)

-- the smallest of a number and those that these definitions give
abbrev pub earliest : (Option ℕ → Option ℕ) → Option ℕ → List ℕ → Option ℕ
earliest first found [] = found
earliest first found (n ∷ numbers) = earliest first (earlier found (first (Some n))) numbers

-- the number of the first call of a table that passes the test
abbrev pub first_call : (CallSite → Bool) → Table → Option ℕ
first_call test t = earliest (λ place. first_number test (calls_at t place))
    (first_number test (calls_at t None)) (keys t.definitions)
