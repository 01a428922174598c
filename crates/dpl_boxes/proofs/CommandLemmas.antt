-- The words of a command are within the bounds, and hold no semicolon.
use Rattle.std.proofs.Common.{◌≡◌, ℕ, Bool, true, false, List, [], ◌∷◌, ◌++◌, refl, ℤ}
use Rattle.std.specs.Prelude.{replicate, flat_map}
use Rattle.std.specs.List.{list_all}
use Rattle.std.specs.Fmt.{decimal}
use Rattle.std.proofs.lemmas.Bool.{and_parts}
use Rattle.std.proofs.lemmas.List.Folds.{list_all-append}
use Rattle.dpl_lex.specs.CuttingLaws.{is_inside}
use Rattle.dpl_rules.specs.declared.command.Spot.{Spot}
use Rattle.dpl_rules.specs.declared.command.Scale.{Scale}
use Rattle.dpl_rules.specs.declared.command.BoxForm.{BoxForm}
use Rattle.dpl_rules.specs.declared.command.Transformation.{Transformation}
use Rattle.dpl_rules.specs.declared.command.Transformation.TheVariants.{Shift, MirrorX, MirrorY, Rotate}
use Rattle.dpl_rules.specs.declared.command.Command.{Command}
use Rattle.dpl_rules.specs.declared.command.Command.TheVariants.{Idle, Polygon, Box, Wire, Flash, Layer, Start, Finish, Delete, Call}
use Rattle.dpl_rules.specs.Bounds.{is_spot_in_bounds, is_transformation_in_bounds, is_command_in_bounds}
use Rattle.dpl_boxes.specs.Written.{Word, AreDigits, IsSigned, IsSpelled, spot_words, transformation_words}
use Rattle.dpl_boxes.specs.Written.{direction_words, scale_words, words_of, is_moderate, AreBehind}
use Rattle.dpl_boxes.specs.Written.Word.{Letters, Number, Integer}
use Rattle.dpl_boxes.specs.Written.IsSigned.{plain, minus}
use Rattle.dpl_boxes.proofs.NumberLemmas.{digits_with_zeros, inside_digits}
use Rattle.dpl_boxes.proofs.BlankLemmas.{Begins, begins, separators_are_inside, blanks_are_inside}
use Rattle.dpl_boxes.proofs.WordLemmas.{moderate, same_magnitude}
use Rattle.dpl_boxes.proofs.PartLemmas.{both_moderate, shorter_direction, shorter_scale}

-- numbers are in bounds

bounded_spot : (s : Spot) → list_all is_moderate (spot_words s) ≡ true → is_spot_in_bounds s ≡ true
bounded_spot s m =
    let p = and_parts (is_moderate (Integer s.x)) (list_all is_moderate (Integer s.y ∷ [])) m in
    let q = and_parts (is_moderate (Integer s.y)) true p.1 in
    rw (p.0, q.0) refl

bounded_path : (path : List Spot) → list_all is_moderate (flat_map spot_words path) ≡ true → list_all is_spot_in_bounds path ≡ true
bounded_path [] m = refl
bounded_path (s ∷ path) m =
    let p = both_moderate (spot_words s) (flat_map spot_words path) m in
    rw (bounded_spot s p.0, bounded_path path p.1) refl

bounded_transformation : (t : Transformation) → list_all is_moderate (transformation_words t) ≡ true → is_transformation_in_bounds t ≡ true
bounded_transformation (Shift by) m = bounded_spot by m
bounded_transformation MirrorX m = refl
bounded_transformation MirrorY m = refl
bounded_transformation (Rotate to) m = bounded_spot to m

bounded_transformations : (ts : List Transformation)
    → list_all is_moderate (flat_map transformation_words ts) ≡ true
    → list_all is_transformation_in_bounds ts ≡ true
bounded_transformations [] m = refl
bounded_transformations (t ∷ ts) m =
    let p = both_moderate (transformation_words t) (flat_map transformation_words ts) m in
    rw (bounded_transformation t p.0, bounded_transformations ts p.1) refl

bounded_box : (b : BoxForm) → list_all is_moderate (words_of false (Box b)) ≡ true → is_command_in_bounds (Box b) ≡ true
bounded_box b m =
    let p = and_parts (is_moderate (Number b.length)) _ m in
    let q = and_parts (is_moderate (Number b.width)) _ p.1 in
    let r = both_moderate (spot_words b.centre) (spot_words b.direction) q.1 in
    rw (p.0, q.0, bounded_spot b.centre r.0, bounded_spot b.direction r.1) refl

bounded_start : (n : ℕ) (scale : Scale) → list_all is_moderate (words_of false (Start n scale)) ≡ true → is_command_in_bounds (Start n scale) ≡ true
bounded_start n scale m =
    let p = and_parts (is_moderate (Number n)) (list_all is_moderate (scale_words false scale)) m in
    let q = and_parts (is_moderate (Number scale.times)) (list_all is_moderate (Number scale.over ∷ [])) p.1 in
    let r = and_parts (is_moderate (Number scale.over)) true q.1 in
    rw (p.0, q.0, r.0) refl

pub moderate_is_bounded : (c : Command) → list_all is_moderate (words_of false c) ≡ true → is_command_in_bounds c ≡ true
moderate_is_bounded Idle m = refl
moderate_is_bounded (Polygon path) m = bounded_path path m
moderate_is_bounded (Box b) m = bounded_box b m
moderate_is_bounded (Wire width path) m =
    let p = and_parts (is_moderate (Number width)) (list_all is_moderate (flat_map spot_words path)) m in
    rw (p.0, bounded_path path p.1) refl
moderate_is_bounded (Flash diameter centre) m =
    let p = and_parts (is_moderate (Number diameter)) (list_all is_moderate (spot_words centre)) m in
    rw (p.0, bounded_spot centre p.1) refl
moderate_is_bounded (Layer name) m = refl
moderate_is_bounded (Start n scale) m = bounded_start n scale m
moderate_is_bounded Finish m = refl
moderate_is_bounded (Delete n) m = (and_parts (is_moderate (Number n)) true m).0
moderate_is_bounded (Call n ts) m =
    let p = and_parts (is_moderate (Number n)) (list_all is_moderate (flat_map transformation_words ts)) m in
    rw (p.0, bounded_transformations ts p.1) refl

-- no semicolon stands behind the first word of a command

-- a word without a semicolon, and within the bounds
abbrev pub is_plain_word : Word → Bool
is_plain_word (Letters letters) = list_all is_inside letters
is_plain_word (Number n) = is_moderate (Number n)
is_plain_word (Integer z) = is_moderate (Integer z)

inside_number : (n : ℕ) (digits : List ℕ) → is_moderate (Number n) ≡ true → AreDigits n digits → list_all is_inside digits ≡ true
inside_number n digits h d = rw (d.1) (inside_digits n (replicate d.0 48 ++ decimal n) (digits_with_zeros d.0 n (moderate n h)))

inside_integer : (z : ℤ) (bytes : List ℕ) → is_moderate (Integer z) ≡ true → IsSigned z bytes → list_all is_inside bytes ≡ true
inside_integer _ _ h (plain n digits d) = inside_number n digits h d
inside_integer _ _ h (minus n digits d) = inside_number n digits (same_magnitude n h) d

inside_word : (w : Word) (bytes : List ℕ) → is_plain_word w ≡ true → IsSpelled w bytes → list_all is_inside bytes ≡ true
inside_word (Letters letters) bytes h s = rw s h
inside_word (Number n) bytes h s = inside_number n bytes h s
inside_word (Integer z) bytes h s = inside_integer z bytes h s

inside_from : (v w : Word) (ws : List Word) (text : List ℕ) (t : Begins v w ws text) → is_plain_word w ≡ true
    → list_all is_inside t.rest ≡ true → list_all is_inside text ≡ true
inside_from v w ws text t p r = rw (
  t.is,
  list_all-append is_inside t.gap (t.bytes ++ t.rest),
  list_all-append is_inside t.bytes t.rest,
  separators_are_inside t.gap t.separators,
  inside_word w t.bytes p t.spelled,
  r,
) refl

pub plain_is_inside : (v : Word) (ws : List Word) (text : List ℕ) → list_all is_plain_word ws ≡ true → AreBehind v ws text → list_all is_inside text ≡ true
plain_is_inside v [] text p h = blanks_are_inside text h
plain_is_inside v (w ∷ ws) text p h =
    let q = and_parts (is_plain_word w) (list_all is_plain_word ws) p in
    let t = begins v w ws text h in
    inside_from v w ws text t q.0 (plain_is_inside w ws t.rest q.1 t.behind)

pub plain_path : (path : List Spot) → list_all is_moderate (flat_map spot_words path) ≡ true → list_all is_plain_word (flat_map spot_words path) ≡ true
plain_path [] m = refl
plain_path (s ∷ path) m =
    let p = both_moderate (spot_words s) (flat_map spot_words path) m in
    let q = and_parts (is_moderate (Integer s.x)) (list_all is_moderate (Integer s.y ∷ [])) p.0 in
    let r = and_parts (is_moderate (Integer s.y)) true q.1 in
    rw (q.0, r.0, plain_path path p.1) refl

plain_transformation : (t : Transformation) → list_all is_moderate (transformation_words t) ≡ true → list_all is_plain_word (transformation_words t) ≡ true
plain_transformation (Shift by) m = m
plain_transformation MirrorX m = refl
plain_transformation MirrorY m = refl
plain_transformation (Rotate to) m = m

pub plain_transformations : (ts : List Transformation) → list_all is_moderate (flat_map transformation_words ts) ≡ true
    → list_all is_plain_word (flat_map transformation_words ts) ≡ true
plain_transformations [] m = refl
plain_transformations (t ∷ ts) m =
    let p = both_moderate (transformation_words t) (flat_map transformation_words ts) m in
    let all = list_all-append is_plain_word (transformation_words t) (flat_map transformation_words ts) in
    rw (all, plain_transformation t p.0, plain_transformations ts p.1) refl

pub plain_box : (short : Bool) (b : BoxForm) → list_all is_moderate (words_of false (Box b)) ≡ true → list_all is_plain_word (words_of short (Box b)) ≡ true
plain_box short b m =
    let p = and_parts (is_moderate (Number b.length)) _ m in
    let q = and_parts (is_moderate (Number b.width)) _ p.1 in
    let r = both_moderate (spot_words b.centre) (spot_words b.direction) q.1 in
    rw (p.0, q.0, list_all-append is_plain_word (spot_words b.centre) (direction_words short b.direction))
    (let c : list_all is_plain_word (spot_words b.centre) ≡ true = r.0 in
    let d = shorter_direction (list_all is_plain_word) short b.direction refl r.1 in rw (c, d) refl)

pub plain_start : (short : Bool) (n : ℕ) (scale : Scale)
    → list_all is_moderate (words_of false (Start n scale)) ≡ true
    → list_all is_plain_word (words_of short (Start n scale)) ≡ true
plain_start short n scale m =
    let p = and_parts (is_moderate (Number n)) (list_all is_moderate (scale_words false scale)) m in
    rw (p.0) (shorter_scale (list_all is_plain_word) short scale refl p.1)
