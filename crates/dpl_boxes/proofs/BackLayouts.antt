-- What is read as commands is a layout of them.
use Rattle.std.proofs.Common.{arith, ◌≡◌, ◌∙◌, ◌==◌, ℕ, zero, suc, ◌+◌, ◌≤◌, true, false, not, Bool, List, [], ◌∷◌}
use Rattle.std.proofs.Common.{◌++◌, length, map, refl, sym, ap, subst, add-zero, append_assoc, length-append, Some}
use Rattle.std.proofs.Common.{None}
use Rattle.std.specs.Prelude.{Result, Ok, slice_range, if◌then◌else◌}
use Rattle.std.specs.List.{list_all}
use Rattle.std.proofs.lemmas.Bool.Decides.{nat_tests}
use Rattle.dpl_lex.specs.Classes.{is_blank, is_digit, drop_while}
use Rattle.dpl_lex.specs.CuttingLaws.{is_inside}
use Rattle.dpl_lex.specs.Cutting.{cut, next, finished, with_span, span}
use Rattle.dpl_lex.specs.declared.cutting.Place.{Place}
use Rattle.dpl_lex.specs.declared.cutting.Place.TheVariants.{Between, Inside, Comment, Ended}
use Rattle.dpl_lex.specs.declared.types.Ending.TheVariants.{End}
use Rattle.dpl_lex.proofs.CuttingRules.{blanks_are_skipped, end_ends}
use Rattle.dpl_rules.specs.declared.command.Command.{Command}
use Rattle.dpl_rules.specs.declared.what.What.{What}
use Rattle.dpl_rules.specs.Bounds.{command_of, read_commands}
use Rattle.dpl_cif.specs.Reading.{forms_of, ending_of}
use Rattle.dpl_boxes.specs.Written as written
use Rattle.dpl_boxes.specs.Written.{AreBlanks, can_be_written, HasForm, IsLayout}
use Rattle.dpl_boxes.proofs.LayoutLemmas.{longer, at_longer, command_stands, layouts_go}
use Rattle.dpl_boxes.proofs.BackNumbers.{split}
use Rattle.dpl_calls.proofs.Cases.{of_eq}
use Rattle.dpl_boxes.proofs.BackCommands.{command_back}
use Rattle.dpl_boxes.proofs.BackCuts.{ToSemicolon, inside_cuts, comment_cuts}

-- commands as what is read of them
abbrev read_well : List Command → List (Result Command What)
read_well cs = map (λ c. Ok c) cs

-- behind its front a text is cut and read as these commands
record Goes (text : List ℕ) (at : ℕ) (rest : List ℕ) (cs : List Command) : Type 0 where
  commands : read_commands text (cut Between at rest).spans ≡ read_well cs
  ending : (cut Between at rest).ending ≡ End

-- the first command of some
record First (c : Result Command What) (others : List (Result Command What)) (cs : List Command) : Type 0 where
  command : Command
  behind : List Command
  all : cs ≡ command ∷ behind
  is : c ≡ Ok command
  same : others ≡ read_well behind

first_of : (c : Result Command What) (others : List (Result Command What)) (cs : List Command) → c ∷ others ≡ read_well cs → First c others cs
first_of c others [] h = absurd (cc)
first_of c others (d ∷ cs) h = record { command = d; behind = cs; all = refl; is = cc; same = cc }

with_first : (c : Result Command What) (others : List (Result Command What)) (cs : List Command)
    → (text : List ℕ) (f : First c others cs) → IsLayout (f.command ∷ f.behind) text → IsLayout cs text
with_first c others cs text f l = subst (λ x. IsLayout x text) (sym f.all) l

none_of : (cs : List Command) → [] ≡ read_well cs → cs ≡ []
none_of [] h = refl
none_of (c ∷ cs) h = absurd (cc)

-- only a comment has a semicolon in it
abbrev EndsPlain : List ℕ → Type 0
EndsPlain bytes = (b : ℕ) (others : List ℕ) → bytes ≡ b ∷ others → is_digit b ≡ true → list_all is_inside others ≡ true

-- what is behind the command goes on
abbrev GoesOn : ℕ → Type 0
GoesOn most = (cs : List Command) (text front rest : List ℕ) → length rest ≤ most → text ≡ front ++ rest → Goes text (length front) rest cs → IsLayout cs rest

command_there : (most : ℕ) → GoesOn most → (cs : List Command) (text front gap bytes others : List ℕ) → length others ≤ most → AreBlanks gap → EndsPlain bytes →
    text ≡ front ++ (gap ++ (bytes ++ (59 ∷ others)))
    → cut Between (length front + length gap) (bytes ++ (59 ∷ others)) ≡ with_span
    (Some (span (length front + length gap) (length front + length gap + length bytes)))
    (cut Between (length front + length gap + length bytes + 1) others) →
    Goes text (length front + length gap) (bytes ++ (59 ∷ others)) cs → IsLayout cs (gap ++ (bytes ++ (59 ∷ others)))
command_there most goes_on cs text front gap bytes others l b plain e k g =
    let part : slice_range text (length front + length gap) (length front + length gap + length bytes) ≡ bytes =
    rw e (command_stands front gap bytes others) in
    let at : length front + length gap + length bytes + 1 ≡ length (longer front gap bytes) = at_longer front gap bytes in
    let spans : command_of bytes ∷ read_commands text (cut Between (length (longer front gap bytes)) others).spans ≡ read_well cs =
    rw (k, part, at) at g.commands in
    let ending : (cut Between (length (longer front gap bytes)) others).ending ≡ End = rw (k, at) at g.ending in
    let f = first_of (command_of bytes) _ cs spans in
    let c = command_back bytes f.command plain f.is in
    let whole : text ≡ longer front gap bytes ++ others = e ∙ simp append_assoc in
    let r = goes_on f.behind text (longer front gap bytes) others l whole (record { commands = f.same; ending = ending }) in
    with_first (command_of bytes) _ cs (gap ++ (bytes ++ (59 ∷ others))) f (gap, bytes, others, b, c.can, c.form, refl, r)

-- by the first byte behind blanks

-- a command from its first byte on
led_by : (place : Place) (b at : ℕ) (bs : List ℕ) (t : ToSemicolon place at (at + 1) bs) → cut Between at (b ∷ bs) ≡ cut place (at + 1) bs →
    cut Between at (b ∷ (t.body ++ (59 ∷ t.others))) ≡ with_span
    (Some (span at (at + suc (length t.body)))) (cut Between (at + suc (length t.body) + 1) t.others)
led_by place b at bs t e =
    let size : at + 1 + length t.body ≡ at + suc (length t.body) = omega arith in
    rw (← t.is) (e ∙ (rw size at t.cuts))

fewer : (most : ℕ) (bs body others : List ℕ) → suc (length bs) ≤ suc most → bs ≡ body ++ (59 ∷ others) → length others ≤ most
fewer most bs body others l e =
    let size : length bs ≡ length body + suc (length others) = rw (e, length-append body (59 ∷ others)) refl in
    omega arith

from_byte : (most : ℕ) → GoesOn most
    → (place : Place) (cs : List Command) (text front gap : List ℕ) (b : ℕ) (bs : List ℕ)
    → suc (length bs) ≤ suc most → AreBlanks gap → text ≡ front ++ (gap ++ (b ∷ bs))
    → (t : ToSemicolon place (length front + length gap) (length front + length gap + 1) bs)
    → EndsPlain (b ∷ t.body)
    → cut Between (length front + length gap) (b ∷ bs) ≡ cut place (length front + length gap + 1) bs
    → Goes text (length front + length gap) (b ∷ bs) cs → IsLayout cs (gap ++ (b ∷ bs))
from_byte most goes_on place cs text front gap b bs l k e t plain q g =
    let at = length front + length gap in
    let whole : text ≡ front ++ (gap ++ (b ∷ (t.body ++ (59 ∷ t.others)))) = e ∙ ap (λ x. front ++ (gap ++ (b ∷ x))) t.is in
    let goes : Goes text (length front + length gap) (b ∷ (t.body ++ (59 ∷ t.others))) cs =
    subst (λ x. Goes text (length front + length gap) (b ∷ x) cs) t.is g in
    subst (λ x. IsLayout cs (gap ++ (b ∷ x))) (sym t.is)
    (command_there most goes_on cs text front gap (b ∷ t.body) t.others (fewer most bs t.body t.others l t.is) k plain whole
    (led_by place b (length front + length gap) bs t q) goes)

same_front : (a b : ℕ) (xs ys : List ℕ) → a ∷ xs ≡ b ∷ ys → a ≡ b
same_front a b xs ys e = cc

same_behind : (a b : ℕ) (xs ys : List ℕ) → a ∷ xs ≡ b ∷ ys → xs ≡ ys
same_behind a b xs ys e = cc

-- a comment begins with no digit
comment_plain : (body : List ℕ) → EndsPlain (40 ∷ body)
comment_plain body b others e d =
    let f : 40 ≡ b = same_front 40 b body others e in
    let g : is_digit 40 ≡ true = rw (← f) at d in
    absurd (cc)

end_there : (cs : List Command) (text gap bs : List ℕ) (at : ℕ) → AreBlanks gap → Goes text at (69 ∷ bs) cs → IsLayout cs (gap ++ (69 ∷ bs))
end_there cs text gap bs at k g =
    let e : [] ≡ read_well cs = rw (end_ends bs at) at g.commands in
    subst (λ x. IsLayout x (gap ++ (69 ∷ bs))) (sym (none_of cs e)) (gap, bs, k, refl)

empty_there : (most : ℕ) → GoesOn most → (cs : List Command) (text front gap bs : List ℕ)
    → suc (length bs) ≤ suc most → AreBlanks gap → text ≡ front ++ (gap ++ (59 ∷ bs))
    → Goes text (length front + length gap) (59 ∷ bs) cs → IsLayout cs (gap ++ (59 ∷ bs))
empty_there most goes_on cs text front gap bs l k e g =
    command_there most goes_on cs text front gap [] bs (omega arith) k (λ b others d. absurd (cc)) e (rw add-zero refl) g

comment_there : (most : ℕ) → GoesOn most → (cs : List Command) (text front gap bs : List ℕ)
    → suc (length bs) ≤ suc most → AreBlanks gap → text ≡ front ++ (gap ++ (40 ∷ bs))
    → Goes text (length front + length gap) (40 ∷ bs) cs → IsLayout cs (gap ++ (40 ∷ bs))
comment_there most goes_on cs text front gap bs l k e g =
    let at = length front + length gap in
    let t = comment_cuts bs at 0 (at + 1) g.ending in
    from_byte most goes_on (Comment at 0) cs text front gap 40 bs l k e t (comment_plain t.body) refl g

-- after four tests that fail
last_of : {A : Type 0} (t s d c : Bool) (v w x y z : A) → t ≡ false → s ≡ false → d ≡ false → c ≡ false
    → (if t then v else if s then w else if d then x else if c then y else z) ≡ z
last_of t s d c v w x y z k l m n = rw (k, l, m, n) refl

begins_inside : (b at : ℕ) (bs : List ℕ) → is_blank b ≡ false → (b == 59) ≡ false → (b == 69) ≡ false
    → (b == 40) ≡ false → cut Between at (b ∷ bs) ≡ cut (Inside at) (at + 1) bs
begins_inside b at bs n s d c =
    let f : finished Between at b ≡ None = rw s refl in
    let g : next Between at b ≡ Inside at = last_of (is_blank b) (b == 59) (b == 69) (b == 40) Between Between Ended (Comment at 0) (Inside at) n s d c in
    λ i. with_span (f i) (cut (g i) (at + 1) bs)

plain_there : (most : ℕ) → GoesOn most → (cs : List Command) (text front gap : List ℕ) (b : ℕ) (bs : List ℕ)
    → suc (length bs) ≤ suc most → AreBlanks gap → is_blank b ≡ false → (b == 59) ≡ false → (b == 69) ≡ false
    → (b == 40) ≡ false → text ≡ front ++ (gap ++ (b ∷ bs))
    → Goes text (length front + length gap) (b ∷ bs) cs → IsLayout cs (gap ++ (b ∷ bs))
plain_there most goes_on cs text front gap b bs l k n s d c e g =
    let at = length front + length gap in
    let q : cut Between (length front + length gap) (b ∷ bs) ≡ cut (Inside (length front + length gap)) (length front + length gap + 1) bs =
    begins_inside b (length front + length gap) bs n s d c in
    let t = inside_cuts bs at (at + 1) (rw q at g.ending) in
    from_byte most goes_on (Inside at) cs text front gap b bs l k e t.to
    (λ a others f h. subst (λ x. list_all is_inside x ≡ true) (same_behind b a t.to.body others f) t.plain) q g

-- what is left behind blanks begins with none
abbrev not_blank : List ℕ → Bool
not_blank [] = true
not_blank (b ∷ bs) = not (is_blank b)

left_of_blanks : (bs : List ℕ) → not_blank (drop_while is_blank bs) ≡ true
left_of_blanks [] = refl
left_of_blanks (b ∷ bs) = by_test (is_blank b) (b ∷ bs) (drop_while is_blank bs) refl (left_of_blanks bs)
  where
    by_test : (t : Bool) (stay go : List ℕ) → not_blank stay ≡ not t → not_blank go ≡ true → not_blank (if t then go else stay) ≡ true
    by_test true stay go e h = h
    by_test false stay go e h = e

not_true : (t : Bool) → not t ≡ true → t ≡ false
not_true true h = absurd (cc)
not_true false h = refl

-- with a byte that is known
as_byte : (known b : ℕ) (cs : List Command) (text front gap bs : List ℕ) → b ≡ known
    → text ≡ front ++ (gap ++ (b ∷ bs)) → Goes text (length front + length gap) (b ∷ bs) cs
    → (text ≡ front ++ (gap ++ (known ∷ bs)) → Goes text (length front + length gap) (known ∷ bs) cs → IsLayout cs (gap ++ (known ∷ bs)))
    → IsLayout cs (gap ++ (b ∷ bs))
as_byte known b cs text front gap bs s e g f =
    subst (λ x. IsLayout cs (gap ++ (x ∷ bs))) (sym s)
    (f (subst (λ x. text ≡ front ++ (gap ++ (x ∷ bs))) s e) (subst (λ x. Goes text (length front + length gap) (x ∷ bs) cs) s g))

by_byte : (most : ℕ) → GoesOn most → (cs : List Command) (text front gap bs : List ℕ) → length bs ≤ suc most
    → AreBlanks gap → not_blank bs ≡ true → text ≡ front ++ (gap ++ bs)
    → Goes text (length front + length gap) bs cs → IsLayout cs (gap ++ bs)
by_byte most goes_on cs text front gap [] l k n e g = let h = g.ending in absurd (cc)
by_byte most goes_on cs text front gap (b ∷ bs) l k n e g =
    let blank : is_blank b ≡ false = not_true (is_blank b) n in
    (elim (b == 59) as (λ t. (b == 59) ≡ t → IsLayout cs (gap ++ (b ∷ bs))) [
      | true ↦ λ s. as_byte 59 b cs text front gap bs (of_eq b 59 s) e g (empty_there most goes_on cs text front gap bs l k)
      | false ↦ λ s. (elim (b == 69) as (λ t. (b == 69) ≡ t → IsLayout cs (gap ++ (b ∷ bs))) [
        | true ↦ λ d. as_byte 69 b cs text front gap bs (of_eq b 69 d) e g (λ e g. end_there cs text gap bs (length front + length gap) k g)
        | false ↦ λ d. (elim (b == 40) as (λ t. (b == 40) ≡ t → IsLayout cs (gap ++ (b ∷ bs))) [
          | true ↦ λ c. as_byte 40 b cs text front gap bs (of_eq b 40 c) e g (comment_there most goes_on cs text front gap bs l k)
          | false ↦ λ c. plain_there most goes_on cs text front gap b bs l k blank s d c e g
        ]) refl
      ]) refl
    ]) refl

no_bytes : (rest : List ℕ) → length rest ≤ 0 → [] ≡ rest
no_bytes [] l = refl
no_bytes (b ∷ rest) l = absurd (omega arith)

parts_length : (whole front rest : List ℕ) → whole ≡ front ++ rest → length whole ≡ length front + length rest
parts_length whole front rest e = rw (e, length-append front rest) refl

goes_back : (most : ℕ) → GoesOn most
goes_back zero cs text front rest l e g =
    let h : (cut Between (length front) []).ending ≡ End = subst (λ x. (cut Between (length front) x).ending ≡ End) (sym (no_bytes rest l)) g.ending in
    absurd (cc)
goes_back (suc most) cs text front rest l e g =
    let s = split is_blank rest in
    let size = parts_length rest s.front s.rest s.is in
    let few : length s.rest ≤ suc most = omega arith in
    let left : not_blank (drop_while is_blank rest) ≡ true = left_of_blanks rest in
    let n : not_blank s.rest ≡ true = rw s.drop at left in
    let skipped : cut Between (length front) rest ≡ cut Between (length front + length s.front) s.rest =
    ap (cut Between (length front)) s.is ∙ blanks_are_skipped s.front s.rest (length front) s.all in
    let h : Goes text (length front + length s.front) s.rest cs = record { commands = rw skipped at g.commands; ending = rw skipped at g.ending } in
    subst (IsLayout cs) (sym s.is) (by_byte most (goes_back most) cs text front s.front s.rest few s.all n (e ∙ ap (λ x. front ++ x) s.is) h)

only_layouts : (cs : List Command) (text : List ℕ) → (forms_of text ≡ map (λ c. Ok c) cs) × (ending_of text ≡ End) → IsLayout cs text
only_layouts cs text h = goes_back (length text) cs text [] text (omega arith) refl (record { commands = h.0; ending = h.1 })

pub layouts_are_read : written.LayoutsAreRead
layouts_are_read cs text = (layouts_go cs text, only_layouts cs text)
