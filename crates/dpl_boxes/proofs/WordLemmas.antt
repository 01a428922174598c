-- Words are read as the parts of a command.
use Rattle.std.proofs.Common.{arith, ◌≡◌, ◌==◌, ℕ, ◌≤◌, ◌<◌, ◌^◌, true, false, List, [], ◌∷◌, ◌++◌, length, refl, Option, None, Some, unsigned_abs}
use Rattle.std.specs.Prelude.{ℤ, pos, ◌-ℤ◌, nat_le, replicate, codes}
use Rattle.std.specs.List.{list_all}
use Rattle.std.proofs.lemmas.Bool.{and_parts}
use Rattle.std.proofs.lemmas.Bool.Decides.{nat_tests}
use Rattle.std.specs.Fmt.{decimal}
use Rattle.std.proofs.lemmas.Int.{ints}
use Rattle.dpl_lex.specs.Classes.{is_blank, is_separator}
use Rattle.dpl_lex.specs.Number.{greatest}
use Rattle.dpl_rules.specs.declared.command.Spot.{Spot}
use Rattle.dpl_rules.specs.declared.command.Transformation.{Transformation}
use Rattle.dpl_rules.specs.declared.command.Transformation.TheVariants.{Shift, MirrorX, MirrorY, Rotate}
use Rattle.dpl_rules.specs.Readers.{letter, signed_of, unsigned_of, spot_of}
use Rattle.dpl_rules.specs.Forms.{transformation_of}
use Rattle.dpl_boxes.specs.Written.{Word, spot_words, transformation_words, is_moderate, AreDigits, IsSigned, AreBlanks, AreBehind}
use Rattle.dpl_boxes.specs.Written.Word.{Letters, Number, Integer}
use Rattle.dpl_boxes.specs.Written.IsSigned.{plain, minus}
use Rattle.dpl_boxes.proofs.NumberLemmas.{begins_with_digit, has_no_digit, digits_with_zeros, unsigned_of-digits}
use Rattle.dpl_boxes.proofs.NumberLemmas.{signed_of-digits, signed_of-minus, drop_while-gap}
use Rattle.dpl_boxes.proofs.BlankLemmas.{Begins, begins, shorter, apart_behind, no_letter_in_blanks}

-- a part was read, and behind its last word stand these words
pub record Took {X : Type 0} (text : List ℕ) (read : Option (X × List ℕ)) (x : X) (ws : List Word) : Type 0 where
  pub rest : List ℕ
  pub last : Word
  pub is : read ≡ Some (x, rest)
  pub less : length rest < length text
  pub behind : AreBehind last ws rest

-- the same of a letter
pub record TookLetter (b : ℕ) (text : List ℕ) (read : Option (List ℕ)) (ws : List Word) : Type 0 where
  pub rest : List ℕ
  pub is : read ≡ Some rest
  pub less : length rest < length text
  pub behind : AreBehind (Letters (b ∷ [])) ws rest

pub moderate : (n : ℕ) → nat_le n (10 ^ 12) ≡ true → n ≤ greatest
moderate n h = grind (arith, nat_tests)

-- the digits of an integer, behind a `-` or not
some_digit : (ds : List ℕ) → begins_with_digit ds ≡ true → 1 ≤ length ds
some_digit [] h = absurd (cc)
some_digit (d ∷ ds) h = omega arith

some_digits : (n : ℕ) (digits : List ℕ) → n ≤ greatest → AreDigits n digits → 1 ≤ length digits
some_digits n digits l d = rw (d.1) (some_digit (replicate d.0 48 ++ decimal n) (digits_with_zeros d.0 n l).some)

some_byte : (z : ℤ) (bytes : List ℕ) → is_moderate (Integer z) ≡ true → IsSigned z bytes → 1 ≤ length bytes
some_byte _ _ m (plain n digits d) = some_digits n digits (moderate n m) d
some_byte _ _ m (minus n digits d) = omega arith

-- numbers

pub same_magnitude : (n : ℕ) → is_moderate (Integer (pos 0 -ℤ pos n)) ≡ true → is_moderate (Number n) ≡ true
same_magnitude n m = let e : unsigned_abs (pos 0 -ℤ pos n) ≡ n = omega (arith, ints) in rw e at m

signed_at_word : (z : ℤ) (gap bytes rest : List ℕ) → is_moderate (Integer z) ≡ true
    → list_all is_separator gap ≡ true → IsSigned z bytes → has_no_digit rest ≡ true
    → signed_of (gap ++ (bytes ++ rest)) ≡ Some (z, rest)
signed_at_word _ gap _ rest m g (plain n digits d) e =
    let l = moderate n m in
    rw (d.1) (signed_of-digits gap n (replicate d.0 48 ++ decimal n) rest g l (digits_with_zeros d.0 n l) e)
signed_at_word _ gap _ rest m g (minus n digits d) e =
    let l = moderate n (same_magnitude n m) in
    rw (d.1) (signed_of-minus gap n (replicate d.0 48 ++ decimal n) rest g l (digits_with_zeros d.0 n l) e)

signed_from : (v : Word) (z : ℤ) (ws : List Word) (text : List ℕ) → is_moderate (Integer z) ≡ true
    → Begins v (Integer z) ws text → Took text (signed_of text) z ws
signed_from v z ws text m t = record {
  rest = t.rest;
  last = Integer z;
  is = rw (t.is) (signed_at_word z t.gap t.bytes t.rest m t.separators t.spelled (apart_behind (Integer z) ws t.rest t.behind));
  less = shorter v (Integer z) ws text t (some_byte z t.bytes m t.spelled);
  behind = t.behind;
}

pub signed_taken : (v : Word) (z : ℤ) (ws : List Word) (text : List ℕ) → is_moderate (Integer z) ≡ true
    → AreBehind v (Integer z ∷ ws) text → Took text (signed_of text) z ws
signed_taken v z ws text m h = signed_from v z ws text m (begins v (Integer z) ws text h)

unsigned_at_word : (n : ℕ) (gap bytes rest : List ℕ) → is_moderate (Number n) ≡ true
    → list_all is_separator gap ≡ true → AreDigits n bytes → has_no_digit rest ≡ true
    → unsigned_of (gap ++ (bytes ++ rest)) ≡ Some (n, rest)
unsigned_at_word n gap bytes rest m g s e =
    let l = moderate n m in
    rw (s.1) (unsigned_of-digits gap n (replicate s.0 48 ++ decimal n) rest g l (digits_with_zeros s.0 n l) e)

unsigned_from : (v : Word) (n : ℕ) (ws : List Word) (text : List ℕ) → is_moderate (Number n) ≡ true
    → Begins v (Number n) ws text → Took text (unsigned_of text) n ws
unsigned_from v n ws text m t = record {
  rest = t.rest;
  last = Number n;
  is = rw (t.is) (unsigned_at_word n t.gap t.bytes t.rest m t.separators t.spelled (apart_behind (Number n) ws t.rest t.behind));
  less = shorter v (Number n) ws text t (some_digits n t.bytes (moderate n m) t.spelled);
  behind = t.behind;
}

pub unsigned_taken : (v : Word) (n : ℕ) (ws : List Word) (text : List ℕ) → is_moderate (Number n) ≡ true
    → AreBehind v (Number n ∷ ws) text → Took text (unsigned_of text) n ws
unsigned_taken v n ws text m h = unsigned_from v n ws text m (begins v (Number n) ws text h)

pub spot_taken : (v : Word) (s : Spot) (ws : List Word) (text : List ℕ)
    → list_all is_moderate (spot_words s) ≡ true → AreBehind v (spot_words s ++ ws) text
    → Took text (spot_of text) s ws
spot_taken v s ws text m h =
    let p = and_parts (is_moderate (Integer s.x)) (list_all is_moderate (Integer s.y ∷ [])) m in
    let q = and_parts (is_moderate (Integer s.y)) true p.1 in
    let x = signed_taken v s.x (Integer s.y ∷ ws) text p.0 h in
    let y = signed_taken x.last s.y ws x.rest q.0 x.behind in
    record { rest = y.rest; last = y.last; is = rw (x.is, y.is) refl; less = omega (arith, x.less, y.less); behind = y.behind }

-- letters

letter_from : (v : Word) (b : ℕ) (ws : List Word) (text : List ℕ) → is_blank b ≡ false
    → Begins v (Letters (b ∷ [])) ws text → TookLetter b text (letter b text) ws
letter_from v b ws text n t = record {
  rest = t.rest;
  is = rw (t.is, t.spelled, drop_while-gap is_blank t.gap (b ∷ t.rest) t.between, n) (grind (arith, nat_tests));
  less = shorter v (Letters (b ∷ [])) ws text t (rw (t.spelled) (omega arith));
  behind = t.behind;
}

pub letter_taken : (v : Word) (b : ℕ) (ws : List Word) (text : List ℕ) → is_blank b ≡ false
    → AreBehind v (Letters (b ∷ []) ∷ ws) text → TookLetter b text (letter b text) ws
letter_taken v b ws text n h = letter_from v b ws text n (begins v (Letters (b ∷ [])) ws text h)

missed_from : (v : Word) (b c : ℕ) (ws : List Word) (text : List ℕ) → is_blank c ≡ false → (c == b) ≡ false
    → Begins v (Letters (c ∷ [])) ws text → letter b text ≡ None
missed_from v b c ws text n d t =
    rw (t.is, t.spelled, drop_while-gap is_blank t.gap (c ∷ t.rest) t.between, n, d) refl

-- another letter stands there
pub letter_missed : (v : Word) (b c : ℕ) (ws : List Word) (text : List ℕ) → is_blank c ≡ false
    → (c == b) ≡ false → AreBehind v (Letters (c ∷ []) ∷ ws) text → letter b text ≡ None
letter_missed v b c ws text n d h = missed_from v b c ws text n d (begins v (Letters (c ∷ [])) ws text h)

-- transformations

pub transformation_taken : (v : Word) (t : Transformation) (ws : List Word) (text : List ℕ)
    → list_all is_moderate (transformation_words t) ≡ true → AreBehind v (transformation_words t ++ ws) text
    → Took text (transformation_of text) t ws
transformation_taken v (Shift by) ws text m h =
    let l = letter_taken v 84 (spot_words by ++ ws) text refl h in
    let s = spot_taken (Letters (codes "T")) by ws l.rest m l.behind in
    record { rest = s.rest; last = s.last; is = rw (l.is, s.is) refl; less = omega (arith, l.less, s.less); behind = s.behind }
transformation_taken v MirrorX ws text m h =
    let l = letter_taken v 77 (Letters (codes "X") ∷ ws) text refl h in
    let x = letter_taken (Letters (codes "M")) 88 ws l.rest refl l.behind in
    record {
      rest = x.rest;
      last = Letters (codes "X");
      is = rw (letter_missed v 84 77 (Letters (codes "X") ∷ ws) text refl refl h, l.is, x.is) refl;
      less = omega (arith, l.less, x.less);
      behind = x.behind;
    }
transformation_taken v MirrorY ws text m h =
    let l = letter_taken v 77 (Letters (codes "Y") ∷ ws) text refl h in
    let no_x = letter_missed (Letters (codes "M")) 88 89 ws l.rest refl refl l.behind in
    let y = letter_taken (Letters (codes "M")) 89 ws l.rest refl l.behind in
    record {
      rest = y.rest;
      last = Letters (codes "Y");
      is = rw (letter_missed v 84 77 (Letters (codes "Y") ∷ ws) text refl refl h, l.is, no_x, y.is) refl;
      less = omega (arith, l.less, y.less);
      behind = y.behind;
    }
transformation_taken v (Rotate to) ws text m h =
    let l = letter_taken v 82 (spot_words to ++ ws) text refl h in
    let no_t = letter_missed v 84 82 (spot_words to ++ ws) text refl refl h in
    let no_m = letter_missed v 77 82 (spot_words to ++ ws) text refl refl h in
    let s = spot_taken (Letters (codes "R")) to ws l.rest m l.behind in
    record { rest = s.rest; last = s.last; is = rw (no_t, no_m, l.is, s.is) refl; less = omega (arith, l.less, s.less); behind = s.behind }

pub no_transformation_in_blanks : (text : List ℕ) → AreBlanks text → transformation_of text ≡ None
no_transformation_in_blanks text h =
    rw (no_letter_in_blanks 84 text h, no_letter_in_blanks 77 text h, no_letter_in_blanks 82 text h) refl
