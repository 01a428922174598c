-- A text that breaks no rule is a layout.
use Rattle.std.proofs.Common.{◌≡◌, ℕ, ◌+◌, List, [], ◌∷◌, map, refl, ap, Option, None, Some}
use Rattle.std.specs.Prelude.{Result, Ok, Err}
use Rattle.dpl_lex.specs.declared.types.Ending.{Ending}
use Rattle.dpl_lex.specs.declared.types.Ending.TheVariants.{End, NoEnd, Paren}
use Rattle.dpl_rules.specs.declared.command.Command.{Command}
use Rattle.dpl_rules.specs.declared.scope.Scope.{Scope}
use Rattle.dpl_rules.specs.declared.what.What.{What}
use Rattle.dpl_rules.specs.Rules.{Fault, at_first, after, with_start, broken_rule, breaks_twice, or_later, rule_fault, end_fault}
use Rattle.dpl_calls.specs.Loops.{or_fault}
use Rattle.dpl_cif.specs.Reading.{forms_of, ending_of}
use Rattle.dpl_boxes.specs.Written as written
use Rattle.dpl_boxes.specs.Written.{IsLayout}
use Rattle.dpl_cif.proofs.InOrder.{first_none}
use Rattle.dpl_boxes.proofs.BackLayouts.{layouts_are_read}

others_none : (a b : Option Fault) → or_fault a b ≡ None → b ≡ None
others_none None b h = h
others_none (Some f) b h = absurd (cc)

later_none : (at : ℕ) (w : Option What) (later : Option Fault) → or_later at w later ≡ None → later ≡ None
later_none at None later h = h
later_none at (Some w) later h = absurd (cc)

-- commands that are all read, of which none breaks a rule
record AllRead (forms : List (Result Command What)) (ending : Ending) : Type 0 where
  commands : List Command
  all : forms ≡ map (λ c. Ok c) commands
  closed : (at : ℕ) → end_fault at ending ≡ None → ending ≡ End

one_more : (c : Command) (forms : List (Result Command What)) (ending : Ending) → AllRead forms ending → AllRead (Ok c ∷ forms) ending
one_more c forms ending a = record { commands = c ∷ a.commands; all = ap (λ x. Ok c ∷ x) a.all; closed = a.closed }

all_read : (chosen : List ℕ) (s : Scope) (seen : List ℕ) (at : ℕ) (forms : List (Result Command What)) (ending : Ending)
    → rule_fault chosen s seen at forms ending ≡ None → AllRead forms ending
all_read chosen s seen at [] End h = record { commands = []; all = refl; closed = λ n e. refl }
all_read chosen s seen at [] NoEnd h = record { commands = []; all = refl; closed = λ n e. absurd (cc) }
all_read chosen s seen at [] Paren h = absurd (cc)
all_read chosen s seen at (Err what ∷ forms) ending h = absurd (cc)
all_read chosen s seen at (Ok c ∷ forms) ending h =
    let later = later_none at (broken_rule s (breaks_twice seen c) c) (rule_fault chosen (after chosen s c) (with_start c seen) (at + 1) forms ending) h in
    one_more c forms ending (all_read chosen (after chosen s c) (with_start c seen) (at + 1) forms ending later)

pub taken_texts_are_layouts : written.TakenTextsAreLayouts
taken_texts_are_layouts layer text h =
    let a = all_read layer at_first [] 1 (forms_of text) (ending_of text) (first_none _ _ h) in
    let ends = first_none _ _ (others_none (rule_fault layer at_first [] 1 (forms_of text) (ending_of text)) _ h) in
    (a.commands, (layouts_are_read a.commands text).1 (a.all, a.closed _ ends))
