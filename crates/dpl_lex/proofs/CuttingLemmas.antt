-- A text that was passed over whole.
use Rattle.std.proofs.Common.{◌≡◌, ℕ, List, [], ◌++◌, append-nil}
use Rattle.dpl_lex.specs.Cutting.{cut, after, ending, commands_of}
use Rattle.dpl_lex.specs.declared.types.Span.{Span}
use Rattle.dpl_lex.specs.declared.types.Commands.{Commands}
use Rattle.dpl_lex.specs.declared.cutting.Place.{Place}

abbrev closed : List Span → Place → Commands
closed spans place = record { spans = spans; ending = ending place }

-- what holds for every rest holds where nothing is left
pub passed_whole : (spans : List Span) (place : Place) (at : ℕ) (text : List ℕ)
    → ((rest : List ℕ) → after spans (cut place at rest) ≡ commands_of (text ++ rest))
    → closed spans place ≡ commands_of text
passed_whole spans place at text h =
    let e : closed (spans ++ []) place ≡ commands_of (text ++ []) = h [] in
    rw (append-nil, append-nil) at e
