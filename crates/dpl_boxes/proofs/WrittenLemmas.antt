-- A command that is written is read again.
use Rattle.std.proofs.Common.{arith, ◌≡◌, ◌==◌, ℕ, suc, ◌+◌, Bool, true, false, not, List, [], ◌∷◌, ◌++◌, length, refl}
use Rattle.std.proofs.Common.{sym, ap, ◌∙◌, subst, add-zero, append_assoc, length-append, Some}
use Rattle.std.specs.Prelude.{◌||◌, flat_map, codes}
use Rattle.std.specs.List.{list_all}
use Rattle.std.proofs.lemmas.Bool.{and_parts}
use Rattle.std.proofs.lemmas.Bool.Decides.{nat_tests}
use Rattle.dpl_lex.specs.Classes.{is_digit, is_name_byte}
use Rattle.dpl_lex.specs.CuttingLaws.{is_inside, begins_plain, IsNested}
use Rattle.dpl_lex.specs.CuttingLaws.IsNested.{nothing, byte, pair}
use Rattle.dpl_lex.specs.Cutting.{cut, with_span, span}
use Rattle.dpl_lex.specs.declared.cutting.Place.TheVariants.{Between}
use Rattle.dpl_lex.proofs.CuttingRules.{comment_is_cut}
use Rattle.dpl_rules.specs.declared.command.Command.{Command}
use Rattle.dpl_rules.specs.declared.command.Command.TheVariants.{Idle, Polygon, Box, Wire, Flash, Layer, Start, Finish, Delete, Call}
use Rattle.dpl_rules.specs.Forms.{form_of, comment_of}
use Rattle.dpl_boxes.specs.Lines.{IsRead}
use Rattle.dpl_boxes.specs.Written as written
use Rattle.dpl_boxes.specs.Written.{Word, spot_words, transformation_words, direction_words, scale_words, words_of}
use Rattle.dpl_boxes.specs.Written.{is_moderate, is_whole, can_be_written, AreBlanks, IsIdle, HasForm}
use Rattle.dpl_boxes.specs.Written.Word.{Letters, Number}
use Rattle.dpl_boxes.specs.Written.IsIdle.{empty, comment, extension}
use Rattle.dpl_boxes.proofs.NumberLemmas.{list_all-weaker}
use Rattle.dpl_boxes.proofs.BlankLemmas.{blanks_are_inside}
use Rattle.dpl_boxes.proofs.FormLemmas.{polygon_taken, wire_taken, box_taken, flash_taken, start_taken, finish_taken, delete_taken, call_taken, layer_taken}
use Rattle.dpl_boxes.proofs.CommandLemmas.{moderate_is_bounded, plain_is_inside, plain_path, plain_transformations, plain_box, plain_start}
use Rattle.dpl_boxes.proofs.ReadingLemmas.{plain_is_read, command_of-form, name_bytes, name_byte_is_inside}

-- these bytes are cut out of a text, and read as the command
abbrev pub Reads : Command → List ℕ → Type 0
Reads c bytes = IsRead (record { bytes = bytes; command = c })

-- what does nothing

digit_begins_plain : (b : ℕ) → is_digit b ≡ true → begins_plain b ≡ true
digit_begins_plain b e = grind (arith, nat_tests)

byte_stays : (depth b : ℕ) (bytes : List ℕ) → not (b == 40 || b == 41) ≡ true → comment_of depth (b ∷ bytes) ≡ comment_of depth bytes
byte_stays depth b bytes h = grind (arith, nat_tests)

-- what is nested leaves the depth as it is
closed : (depth : ℕ) (bytes : List ℕ) → comment_of (depth + 1) (41 ∷ bytes) ≡ comment_of depth bytes
closed depth bytes = grind (arith, nat_tests)

nested_stays : (bs : List ℕ) → IsNested bs → (depth : ℕ) (rest : List ℕ) → comment_of depth (bs ++ rest) ≡ comment_of depth rest
nested_stays _ nothing depth rest = refl
nested_stays _ (byte b bs h n) depth rest = byte_stays depth b (bs ++ rest) h ∙ nested_stays bs n depth rest
nested_stays _ (pair inner bs m n) depth rest =
    let split : (inner ++ (41 ∷ bs)) ++ rest ≡ inner ++ (41 ∷ (bs ++ rest)) = append_assoc inner (41 ∷ bs) rest in
    let first = nested_stays inner m (depth + 1) (41 ∷ (bs ++ rest)) in
    ap (comment_of (depth + 1)) split ∙ first ∙ closed depth (bs ++ rest) ∙ nested_stays bs n depth rest

comment_form : (inner gap : List ℕ) → IsNested inner → AreBlanks gap → comment_of 0 (inner ++ (41 ∷ gap)) ≡ Some Idle
comment_form inner gap n b = nested_stays inner n 0 (41 ∷ gap) ∙ rw b refl

comment_cut : (inner gap : List ℕ) → IsNested inner → AreBlanks gap → (rest : List ℕ) (at : ℕ) →
    cut Between at ((40 ∷ (inner ++ (41 ∷ gap))) ++ 59 ∷ rest) ≡ with_span
    (Some (span at (at + length (40 ∷ (inner ++ (41 ∷ gap))))))
    (cut Between (at + length (40 ∷ (inner ++ (41 ∷ gap))) + 1) rest)
comment_cut inner gap n b rest at =
    let size : at + 1 + length inner + 1 + length gap ≡ at + suc (length (inner ++ (41 ∷ gap))) = simp length-append (omega arith) in
    rw (← size) (comment_is_cut inner gap rest at n (blanks_are_inside gap b))

idle_is_read : (bytes : List ℕ) → IsIdle bytes → Reads Idle bytes
idle_is_read _ empty = record { cut_out = λ rest at. rw add-zero refl; read = refl }
idle_is_read _ (comment inner gap n b) = record {
  cut_out = comment_cut inner gap n b;
  read = command_of-form (40 ∷ (inner ++ (41 ∷ gap))) Idle (comment_form inner gap n b) refl;
}
idle_is_read _ (extension b others d h) = plain_is_read b others Idle (digit_begins_plain b d) h (rw d refl) refl

-- what begins with a letter

-- the letter of a form, and what stands behind it
record IsForm (c : Command) (first : ℕ) (body : List ℕ) : Type 0 where
  begins : begins_plain first ≡ true
  inside : list_all is_inside body ≡ true
  form : form_of (first ∷ body) ≡ Some c

form_is_read : (c : Command) (first : ℕ) (body bytes : List ℕ)
    → list_all is_moderate (words_of false c) ≡ true → bytes ≡ first ∷ body → IsForm c first body
    → Reads c bytes
form_is_read c first body bytes m e f = subst (Reads c) (sym e) (plain_is_read first body c f.begins f.inside f.form (moderate_is_bounded c m))

first_word : (letters bytes rest text : List ℕ) → bytes ≡ letters → text ≡ bytes ++ rest → text ≡ letters ++ rest
first_word letters bytes rest text e t = rw (← e) t

-- each form, by its letter and the words behind it
words_are_read : (c : Command) (short : Bool) (bytes : List ℕ) → is_whole c ≡ true
    → list_all is_moderate (words_of false c) ≡ true → written.AreWords (words_of short c) bytes
    → Reads c bytes
words_are_read Idle short bytes w m h = subst (Reads Idle) (sym h) (idle_is_read [] empty)
words_are_read (Polygon path) short bytes w m h =
    form_is_read (Polygon path) 80 h.1 bytes m (first_word (codes "P") h.0 h.1 bytes h.2 h.3) (record {
      begins = refl;
      inside = plain_is_inside (Letters (codes "P")) (flat_map spot_words path) h.1 (plain_path path m) h.4;
      form = polygon_taken (Letters (codes "P")) path h.1 w m h.4;
    })
words_are_read (Box b) short bytes w m h =
    let others = Number b.length ∷ Number b.width ∷ (spot_words b.centre ++ direction_words short b.direction) in
    form_is_read (Box b) 66 h.1 bytes m (first_word (codes "B") h.0 h.1 bytes h.2 h.3) (record {
      begins = refl;
      inside = plain_is_inside (Letters (codes "B")) others h.1 (plain_box short b m) h.4;
      form = box_taken (Letters (codes "B")) short b h.1 m h.4;
    })
words_are_read (Wire width path) short bytes w m h =
    let p = and_parts (is_moderate (Number width)) (list_all is_moderate (flat_map spot_words path)) m in
    form_is_read (Wire width path) 87 h.1 bytes m (first_word (codes "W") h.0 h.1 bytes h.2 h.3) (record {
      begins = refl;
      inside = plain_is_inside (Letters (codes "W")) (Number width ∷ flat_map spot_words path) h.1 (rw (p.0) (plain_path path p.1)) h.4;
      form = wire_taken (Letters (codes "W")) width path h.1 w m h.4;
    })
words_are_read (Flash diameter centre) short bytes w m h =
    form_is_read (Flash diameter centre) 82 h.1 bytes m (first_word (codes "R") h.0 h.1 bytes h.2 h.3) (record {
      begins = refl;
      inside = plain_is_inside (Letters (codes "R")) (Number diameter ∷ spot_words centre) h.1 m h.4;
      form = flash_taken (Letters (codes "R")) diameter centre h.1 m h.4;
    })
words_are_read (Layer name) short bytes w m h =
    let inside = list_all-weaker is_name_byte is_inside name_byte_is_inside name (name_bytes name w) in
    form_is_read (Layer name) 76 h.1 bytes m (first_word (codes "L") h.0 h.1 bytes h.2 h.3) (record {
      begins = refl;
      inside = plain_is_inside (Letters (codes "L")) (Letters name ∷ []) h.1 (rw inside refl) h.4;
      form = layer_taken (Letters (codes "L")) name h.1 w h.4;
    })
words_are_read (Start n scale) short bytes w m h =
    let others = Letters (codes "S") ∷ Number n ∷ scale_words short scale in
    form_is_read (Start n scale) 68 h.1 bytes m (first_word (codes "D") h.0 h.1 bytes h.2 h.3) (record {
      begins = refl;
      inside = plain_is_inside (Letters (codes "D")) others h.1 (plain_start short n scale m) h.4;
      form = start_taken (Letters (codes "D")) short n scale h.1 m h.4;
    })
words_are_read Finish short bytes w m h =
    form_is_read Finish 68 h.1 bytes m (first_word (codes "D") h.0 h.1 bytes h.2 h.3) (record {
      begins = refl;
      inside = plain_is_inside (Letters (codes "D")) (Letters (codes "F") ∷ []) h.1 refl h.4;
      form = finish_taken (Letters (codes "D")) h.1 h.4;
    })
words_are_read (Delete n) short bytes w m h =
    form_is_read (Delete n) 68 h.1 bytes m (first_word (codes "D") h.0 h.1 bytes h.2 h.3) (record {
      begins = refl;
      inside = plain_is_inside (Letters (codes "D")) (Letters (codes "D") ∷ Number n ∷ []) h.1 m h.4;
      form = delete_taken (Letters (codes "D")) n h.1 m h.4;
    })
words_are_read (Call n ts) short bytes w m h =
    let p = and_parts (is_moderate (Number n)) (list_all is_moderate (flat_map transformation_words ts)) m in
    form_is_read (Call n ts) 67 h.1 bytes m (first_word (codes "C") h.0 h.1 bytes h.2 h.3) (record {
      begins = refl;
      inside = plain_is_inside (Letters (codes "C")) (Number n ∷ flat_map transformation_words ts) h.1 (rw (p.0) (plain_transformations ts p.1)) h.4;
      form = call_taken (Letters (codes "C")) n ts h.1 m h.4;
    })

either_is_read : (c : Command) (bytes : List ℕ) → is_whole c ≡ true → list_all is_moderate (words_of false c) ≡ true → HasForm c bytes → Reads c bytes
either_is_read Idle bytes w m h = idle_is_read bytes h
either_is_read (Polygon path) bytes w m h = words_are_read (Polygon path) h.0 bytes w m h.1
either_is_read (Box b) bytes w m h = words_are_read (Box b) h.0 bytes w m h.1
either_is_read (Wire width path) bytes w m h = words_are_read (Wire width path) h.0 bytes w m h.1
either_is_read (Flash diameter centre) bytes w m h = words_are_read (Flash diameter centre) h.0 bytes w m h.1
either_is_read (Layer name) bytes w m h = words_are_read (Layer name) h.0 bytes w m h.1
either_is_read (Start n scale) bytes w m h = words_are_read (Start n scale) h.0 bytes w m h.1
either_is_read Finish bytes w m h = words_are_read Finish h.0 bytes w m h.1
either_is_read (Delete n) bytes w m h = words_are_read (Delete n) h.0 bytes w m h.1
either_is_read (Call n ts) bytes w m h = words_are_read (Call n ts) h.0 bytes w m h.1

pub written_is_read : (c : Command) (bytes : List ℕ) → can_be_written c ≡ true → HasForm c bytes → Reads c bytes
written_is_read c bytes h w =
    let p = and_parts (is_whole c) (list_all is_moderate (words_of false c)) h in
    either_is_read c bytes p.0 p.1 w

pub commands_are_read : written.CommandsAreRead
commands_are_read c bytes h w = (written_is_read c bytes h w).read
