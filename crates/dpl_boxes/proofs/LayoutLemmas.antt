-- A layout is cut into its commands, and these are read.
use Rattle.std.proofs.Common.{arith, ◌≡◌, ◌∙◌, ℕ, ◌+◌, List, [], ◌∷◌, ◌++◌, length, map, refl, sym, append_assoc, length-append, Some}
use Rattle.std.specs.Prelude.{Ok, slice_range}
use Rattle.dpl_lex.specs.Cutting.{cut, with_span, span, none_left}
use Rattle.dpl_lex.specs.declared.cutting.Place.TheVariants.{Between}
use Rattle.dpl_lex.specs.declared.types.Ending.TheVariants.{End}
use Rattle.dpl_lex.proofs.CuttingRules.{blanks_are_skipped, end_ends}
use Rattle.dpl_rules.specs.declared.command.Command.{Command}
use Rattle.dpl_rules.specs.Bounds.{read_commands}
use Rattle.dpl_cif.specs.Reading.{forms_of, ending_of}
use Rattle.dpl_boxes.specs.Written.{AreBlanks, IsLayout}
use Rattle.dpl_boxes.proofs.LineLemmas.{between_parts}
use Rattle.dpl_boxes.proofs.WrittenLemmas.{Reads, written_is_read}

-- behind its front a text is cut and read so, to its end command
record Goes (text front rest : List ℕ) (cs : List Command) : Type 0 where
  commands : read_commands text (cut Between (length front) rest).spans ≡ map (λ c. Ok c) cs
  ending : (cut Between (length front) rest).ending ≡ End

end_goes : (text front gap others : List ℕ) → AreBlanks gap → Goes text front (gap ++ (69 ∷ others)) []
end_goes text front gap others b =
    let e : cut Between (length front) (gap ++ (69 ∷ others)) ≡ none_left End =
    blanks_are_skipped gap (69 ∷ others) (length front) b ∙ end_ends others (length front + length gap) in
    record { commands = rw e refl; ending = rw e refl }

-- a front with one command more
abbrev pub longer : List ℕ → List ℕ → List ℕ → List ℕ
longer front gap bytes = front ++ (gap ++ (bytes ++ (59 ∷ [])))

length-longer : (front gap bytes : List ℕ) → length (longer front gap bytes) ≡ length front + length gap + length bytes + 1
length-longer front gap bytes = simp length-append (omega arith)

pub at_longer : (front gap bytes : List ℕ) → length front + length gap + length bytes + 1 ≡ length (longer front gap bytes)
at_longer front gap bytes = sym (length-longer front gap bytes)

-- blanks, a command and its semicolon are cut from what follows them
one_cut : (front gap bytes others : List ℕ) (c : Command) → AreBlanks gap → Reads c bytes →
    cut Between (length front) (gap ++ (bytes ++ (59 ∷ others))) ≡ with_span
    (Some (span (length front + length gap) (length front + length gap + length bytes)))
    (cut Between (length (longer front gap bytes)) others)
one_cut front gap bytes others c b r =
    rw (length-longer front gap bytes) (blanks_are_skipped gap (bytes ++ (59 ∷ others)) (length front) b
    ∙ r.cut_out others (length front + length gap))

pub command_stands : (front gap bytes others : List ℕ)
    → slice_range (front ++ (gap ++ (bytes ++ (59 ∷ others)))) (length front + length gap) (length front + length gap + length bytes) ≡ bytes
command_stands front gap bytes others =
    let split : front ++ (gap ++ (bytes ++ (59 ∷ others))) ≡ (front ++ gap) ++ (bytes ++ (59 ∷ others)) = simp append_assoc in
    let size : length front + length gap ≡ length (front ++ gap) = rw length-append refl in
    rw (split, size) (between_parts (front ++ gap) bytes (59 ∷ others))

command_goes : (text front gap bytes others : List ℕ) (c : Command) (cs : List Command) → AreBlanks gap
    → Reads c bytes → text ≡ front ++ (gap ++ (bytes ++ (59 ∷ others)))
    → Goes text (longer front gap bytes) others cs
    → Goes text front (gap ++ (bytes ++ (59 ∷ others))) (c ∷ cs)
command_goes text front gap bytes others c cs b r e g =
    let cut_first = one_cut front gap bytes others c b r in
    let part : slice_range text (length front + length gap) (length front + length gap + length bytes) ≡ bytes =
    rw e (command_stands front gap bytes others) in
    record {
      commands = rw (cut_first, part, r.read, g.commands) refl;
      ending = rw cut_first g.ending;
    }

go : (cs : List Command) (text front rest : List ℕ) → text ≡ front ++ rest → IsLayout cs rest → Goes text front rest cs
go [] text front rest e l = rw (l.3) (end_goes text front l.0 l.1 l.2)
go (c ∷ cs) text front rest e l =
    let whole : text ≡ front ++ (l.0 ++ (l.1 ++ (59 ∷ l.2))) = rw (← l.6) e in
    let others : text ≡ longer front l.0 l.1 ++ l.2 = whole ∙ simp append_assoc in
    rw (l.6) (command_goes text front l.0 l.1 l.2 c cs l.3 (written_is_read c l.1 l.4 l.5) whole
    (go cs text (longer front l.0 l.1) l.2 others l.7))

pub layouts_go : (cs : List Command) (text : List ℕ) → IsLayout cs text → (forms_of text ≡ map (λ c. Ok c) cs) × (ending_of text ≡ End)
layouts_go cs text l = let g = go cs text [] text refl l in (g.commands, g.ending)
