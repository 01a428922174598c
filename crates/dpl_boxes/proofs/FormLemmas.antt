-- The words of a command are read as its form.
use Rattle.std.proofs.Common.{arith, ◌≡◌, ℕ, Bool, true, false, List, [], ◌∷◌, ◌++◌, length, refl, Some}
use Rattle.std.specs.Prelude.{nat_le, flat_map, codes}
use Rattle.std.specs.List.{list_all, prefix_len}
use Rattle.std.proofs.lemmas.Bool.{and_parts}
use Rattle.std.proofs.lemmas.Bool.Decides.{nat_tests}
use Rattle.std.proofs.Math.Seq.{drop-append_seam, take-append_seam}
use Rattle.dpl_lex.specs.Classes.{is_blank, is_name_byte, drop_while}
use Rattle.dpl_lex.specs.Name.{is_name}
use Rattle.dpl_rules.specs.declared.command.Spot.{Spot}
use Rattle.dpl_rules.specs.declared.command.Scale.{Scale}
use Rattle.dpl_rules.specs.declared.command.BoxForm.{BoxForm}
use Rattle.dpl_rules.specs.declared.command.Transformation.{Transformation}
use Rattle.dpl_rules.specs.declared.command.Command.{Command}
use Rattle.dpl_rules.specs.declared.command.Command.TheVariants.{Polygon, Box, Wire, Flash, Layer, Start, Finish, Delete, Call}
use Rattle.dpl_rules.specs.Readers.{spot_of, not_empty}
use Rattle.dpl_rules.specs.Forms.{path_of, wire_of, box_of, flash_of, layer_command, start_command, definition_of, call_of, transformation_of}
use Rattle.dpl_boxes.specs.Written.{Word, spot_words, transformation_words, direction_words, scale_words, is_moderate, AreBlanks, AreBehind}
use Rattle.dpl_boxes.specs.Written.Word.{Letters, Number}
use Rattle.dpl_boxes.proofs.NumberLemmas.{drop_while-gap}
use Rattle.dpl_boxes.proofs.BlankLemmas.{Begins, begins}
use Rattle.dpl_boxes.proofs.WordLemmas.{unsigned_taken, spot_taken, letter_taken, letter_missed}
use Rattle.dpl_boxes.proofs.PartLemmas.{takes_spots, takes_transformations, both_moderate, repeated_taken, direction_taken, scale_taken}
use Rattle.dpl_boxes.proofs.ReadingLemmas.{name_bytes, name_byte_is_no_blank}

path_there : (path : List Spot) → nat_le 1 (length path) ≡ true → not_empty path ≡ true
path_there [] h = absurd (cc)
path_there (s ∷ path) h = refl

path_taken : (make : List Spot → Command) (v : Word) (path : List Spot) (text : List ℕ)
    → nat_le 1 (length path) ≡ true → list_all is_moderate (flat_map spot_words path) ≡ true
    → AreBehind v (flat_map spot_words path) text → path_of make text ≡ Some (make path)
path_taken make v path text s m h =
    let all = repeated_taken spot_of spot_words takes_spots v path (length text) text (omega arith) m h in
    rw (all.is, path_there path s, all.blanks) refl

pub polygon_taken : (v : Word) (path : List Spot) (text : List ℕ) → nat_le 1 (length path) ≡ true
    → list_all is_moderate (flat_map spot_words path) ≡ true → AreBehind v (flat_map spot_words path) text
    → path_of Polygon text ≡ Some (Polygon path)
polygon_taken v path text s m h = path_taken Polygon v path text s m h

pub wire_taken : (v : Word) (width : ℕ) (path : List Spot) (text : List ℕ) → nat_le 1 (length path) ≡ true
    → list_all is_moderate (Number width ∷ flat_map spot_words path) ≡ true
    → AreBehind v (Number width ∷ flat_map spot_words path) text → wire_of text ≡ Some (Wire width path)
wire_taken v width path text s m h =
    let p = and_parts (is_moderate (Number width)) (list_all is_moderate (flat_map spot_words path)) m in
    let w = unsigned_taken v width (flat_map spot_words path) text p.0 h in
    rw (w.is) (path_taken (Wire width) w.last path w.rest s p.1 w.behind)

-- a box

box_form : ℕ → ℕ → Spot → Spot → Command
box_form length width centre direction = Box (record { length = length; width = width; centre = centre; direction = direction })

pub box_taken : (v : Word) (short : Bool) (b : BoxForm) (text : List ℕ)
    → list_all is_moderate (Number b.length ∷ Number b.width ∷ (spot_words b.centre ++ spot_words b.direction)) ≡ true
    → AreBehind v (Number b.length ∷ Number b.width ∷ (spot_words b.centre ++ direction_words short b.direction)) text
    → box_of text ≡ Some (Box b)
box_taken v short b text m h =
    let direction = direction_words short b.direction in
    let p = and_parts (is_moderate (Number b.length)) _ m in
    let q = and_parts (is_moderate (Number b.width)) _ p.1 in
    let r = both_moderate (spot_words b.centre) (spot_words b.direction) q.1 in
    let l = unsigned_taken v b.length (Number b.width ∷ (spot_words b.centre ++ direction)) text p.0 h in
    let w = unsigned_taken l.last b.width (spot_words b.centre ++ direction) l.rest q.0 l.behind in
    let c = spot_taken w.last b.centre direction w.rest r.0 w.behind in
    let d = direction_taken short c.last b.direction c.rest r.1 c.behind in
    rw (l.is, w.is, c.is, d.is, d.blanks) refl

-- a round flash

pub flash_taken : (v : Word) (diameter : ℕ) (centre : Spot) (text : List ℕ)
    → list_all is_moderate (Number diameter ∷ spot_words centre) ≡ true
    → AreBehind v (Number diameter ∷ spot_words centre) text → flash_of text ≡ Some (Flash diameter centre)
flash_taken v diameter centre text m h =
    let p = and_parts (is_moderate (Number diameter)) (list_all is_moderate (spot_words centre)) m in
    let d = unsigned_taken v diameter (spot_words centre) text p.0 h in
    let c = spot_taken d.last centre [] d.rest p.1 d.behind in
    rw (d.is, c.is, c.behind) refl

-- definitions

-- behind `D`, `S`
start_numbers : (v : Word) (short : Bool) (n : ℕ) (scale : Scale) (text : List ℕ)
    → list_all is_moderate (Number n ∷ scale_words false scale) ≡ true
    → AreBehind v (Number n ∷ scale_words short scale) text → start_command text ≡ Some (Start n scale)
start_numbers v short n scale text m h =
    let p = and_parts (is_moderate (Number n)) (list_all is_moderate (scale_words false scale)) m in
    let k = unsigned_taken v n (scale_words short scale) text p.0 h in
    let s = scale_taken short k.last scale k.rest p.1 k.behind in
    rw (k.is, s.is, s.blanks) refl

pub start_taken : (v : Word) (short : Bool) (n : ℕ) (scale : Scale) (text : List ℕ)
    → list_all is_moderate (Number n ∷ scale_words false scale) ≡ true
    → AreBehind v (Letters (codes "S") ∷ Number n ∷ scale_words short scale) text
    → definition_of text ≡ Some (Start n scale)
start_taken v short n scale text m h =
    let l = letter_taken v 83 (Number n ∷ scale_words short scale) text refl h in
    rw (l.is) (start_numbers (Letters (codes "S")) short n scale l.rest m l.behind)

pub finish_taken : (v : Word) (text : List ℕ) → AreBehind v (Letters (codes "F") ∷ []) text → definition_of text ≡ Some Finish
finish_taken v text h =
    let no_s = letter_missed v 83 70 [] text refl refl h in
    let l = letter_taken v 70 [] text refl h in
    rw (no_s, l.is, l.behind) refl

pub delete_taken : (v : Word) (n : ℕ) (text : List ℕ) → list_all is_moderate (Number n ∷ []) ≡ true
    → AreBehind v (Letters (codes "D") ∷ Number n ∷ []) text → definition_of text ≡ Some (Delete n)
delete_taken v n text m h =
    let no_s = letter_missed v 83 68 (Number n ∷ []) text refl refl h in
    let no_f = letter_missed v 70 68 (Number n ∷ []) text refl refl h in
    let l = letter_taken v 68 (Number n ∷ []) text refl h in
    let p = and_parts (is_moderate (Number n)) true m in
    let k = unsigned_taken (Letters (codes "D")) n [] l.rest p.0 l.behind in
    rw (no_s, no_f, l.is, k.is, k.behind) refl

-- a call

pub call_taken : (v : Word) (n : ℕ) (ts : List Transformation) (text : List ℕ)
    → list_all is_moderate (Number n ∷ flat_map transformation_words ts) ≡ true
    → AreBehind v (Number n ∷ flat_map transformation_words ts) text → call_of text ≡ Some (Call n ts)
call_taken v n ts text m h =
    let p = and_parts (is_moderate (Number n)) (list_all is_moderate (flat_map transformation_words ts)) m in
    let k = unsigned_taken v n (flat_map transformation_words ts) text p.0 h in
    let all = repeated_taken transformation_of transformation_words takes_transformations k.last ts (length k.rest) k.rest (omega arith) p.1 k.behind in
    rw (k.is, all.is, all.blanks) refl

-- a layer

blank_is_no_name_byte : (b : ℕ) → is_blank b ≡ true → is_name_byte b ≡ false
blank_is_no_name_byte b e = grind (arith, nat_tests)

name_stays : (name rest : List ℕ) → is_name name ≡ true → drop_while is_blank (name ++ rest) ≡ name ++ rest
name_stays [] rest h = absurd (cc)
name_stays (b ∷ name) rest h =
    rw (name_byte_is_no_blank b (and_parts (is_name_byte b) (list_all is_name_byte name) (name_bytes (b ∷ name) h)).0) refl

no_name_in_blanks : (rest : List ℕ) → AreBlanks rest → prefix_len is_name_byte rest ≡ 0
no_name_in_blanks [] h = refl
no_name_in_blanks (b ∷ rest) h = rw (blank_is_no_name_byte b (and_parts (is_blank b) (list_all is_blank rest) h).0) refl

name_length : (name rest : List ℕ) → list_all is_name_byte name ≡ true → AreBlanks rest → prefix_len is_name_byte (name ++ rest) ≡ length name
name_length [] rest n h = no_name_in_blanks rest h
name_length (b ∷ name) rest n h =
    let s = and_parts (is_name_byte b) (list_all is_name_byte name) n in
    rw (s.0, name_length name rest s.1 h) (omega arith)

layer_from : (v : Word) (name text : List ℕ) → is_name name ≡ true → Begins v (Letters name) [] text → layer_command text ≡ Some (Layer name)
layer_from v name text n t =
    rw (
      t.is,
      t.spelled,
      drop_while-gap is_blank t.gap (name ++ t.rest) t.between,
      name_stays name t.rest n,
      name_length name t.rest (name_bytes name n) t.behind,
      take-append_seam name t.rest,
      drop-append_seam name t.rest,
      n,
      t.behind,
    ) refl

pub layer_taken : (v : Word) (name text : List ℕ) → is_name name ≡ true → AreBehind v (Letters name ∷ []) text → layer_command text ≡ Some (Layer name)
layer_taken v name text n h = layer_from v name text n (begins v (Letters name) [] text h)
