-- Where commands stand.
use Rattle.std.proofs.Common.{ℕ, suc, ◌+◌, ◌≤◌, List, [], ◌∷◌, length, None, Some, Bool, true, false, cond, eqb, arith}
use Rattle.dpl_lex.specs.Classes.{is_blank}
use Rattle.dpl_lex.specs.Cutting.{cut, next, finished, with_span, span}
use Rattle.dpl_lex.specs.CuttingLaws as laws
use Rattle.dpl_lex.specs.CuttingLaws.{AreWithin}
use Rattle.dpl_lex.specs.declared.types.Span.{Span}
use Rattle.dpl_lex.specs.declared.types.Commands.{Commands}
use Rattle.dpl_lex.specs.declared.cutting.Place.{Place}
use Rattle.dpl_lex.specs.declared.cutting.Place.TheVariants.{Between, Inside, Comment, Ended}

-- a command began no later than here
abbrev IsStarted : ℕ → Place → Type 0
IsStarted at Between = Unit {0}
IsStarted at (Inside start) = start ≤ at
IsStarted at (Comment start depth) = start ≤ at
IsStarted at Ended = Unit {0}

chosen : (P : Place → Type 0) (b : Bool) (x y : Place) → P x → P y → P (cond b x y)
chosen P true x y p q = p
chosen P false x y p q = q

next_started : (p : Place) (at b : ℕ) → IsStarted at p → IsStarted (at + 1) (next p at b)
next_started Between at b h = chosen (IsStarted (at + 1)) (is_blank b) _ _ tt
    (chosen (IsStarted (at + 1)) (eqb b 59) _ _ tt (chosen (IsStarted (at + 1)) (eqb b 69) _ _ tt
    (chosen (IsStarted (at + 1)) (eqb b 40) _ _ (omega arith) (omega arith))))
next_started (Inside s) at b h = chosen (IsStarted (at + 1)) (eqb b 59) _ _ tt (omega arith)
next_started (Comment s d) at b h = chosen (IsStarted (at + 1)) (eqb b 40) _ _ (omega arith)
    (chosen (IsStarted (at + 1)) (eqb b 41) _ _ (chosen (IsStarted (at + 1)) (eqb d 0) _ _ (omega arith) (omega arith))
    (omega arith))
next_started Ended at b h = tt

maybe_within : (b : Bool) (start at most : ℕ) (c : Commands) → start ≤ at → at ≤ most → AreWithin most c.spans
    → AreWithin most (with_span (cond b (Some (span start at)) None) c).spans
maybe_within true start at most c h k w = (h, k, w)
maybe_within false start at most c h k w = w

finished_within : (p : Place) (at b most : ℕ) (c : Commands) → IsStarted at p → at ≤ most
    → AreWithin most c.spans → AreWithin most (with_span (finished p at b) c).spans
finished_within Between at b most c h k w = maybe_within (eqb b 59) at at most c (omega arith) k w
finished_within (Inside s) at b most c h k w = maybe_within (eqb b 59) s at most c h k w
finished_within (Comment s d) at b most c h k w = w
finished_within Ended at b most c h k w = w

cut_within : (p : Place) (at : ℕ) (text : List ℕ) (most : ℕ) → IsStarted at p → at + length text ≤ most → AreWithin most (cut p at text).spans
cut_within p at [] most h k = tt
cut_within p at (b ∷ text) most h k =
    finished_within p at b most (cut (next p at b) (at + 1) text) h (omega arith)
    (cut_within (next p at b) (at + 1) text most (next_started p at b h) (omega arith))

-- every command stands within its text
pub commands_within : laws.CommandsAreWithin
commands_within text = cut_within Between 0 text (length text) tt (omega arith)

maybe_count : (b : Bool) (s : Span) (c : Commands) (n : ℕ) → length c.spans ≤ n → length (with_span (cond b (Some s) None) c).spans ≤ suc n
maybe_count true s c n h = omega arith
maybe_count false s c n h = omega arith

finished_count : (p : Place) (at b : ℕ) (c : Commands) (n : ℕ) → length c.spans ≤ n → length (with_span (finished p at b) c).spans ≤ suc n
finished_count Between at b c n h = maybe_count (eqb b 59) (span at at) c n h
finished_count (Inside s) at b c n h = maybe_count (eqb b 59) (span s at) c n h
finished_count (Comment s d) at b c n h = omega arith
finished_count Ended at b c n h = omega arith

cut_count : (p : Place) (at : ℕ) (text : List ℕ) → length (cut p at text).spans ≤ length text
cut_count p at [] = omega arith
cut_count p at (b ∷ text) = finished_count p at b (cut (next p at b) (at + 1) text) (length text) (cut_count (next p at b) (at + 1) text)

-- there are no more commands than bytes
pub commands_few : laws.CommandsAreFew
commands_few text = cut_count Between 0 text
