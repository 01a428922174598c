-- A line of a script is read as what it says.
use Rattle.std.proofs.Common.{arith, ◌≡◌, ℕ, ◌≤◌, ◌^◌, List, [], ◌∷◌, ◌++◌, refl, sym, ap, ◌∙◌, append_assoc}
use Rattle.std.proofs.Common.{append-nil, Option, map, length, zero, suc, ◌+◌, Some}
use Rattle.std.specs.Prelude.{ℤ, pos, unsigned_abs, true, codes, All}
use Rattle.std.specs.Str.{bytes_eq}
use Rattle.std.proofs.lemmas.Int.{ints}
use Rattle.std.proofs.lemmas.Slice.Eq.{bytes_eq-Decides}
use Rattle.std.proofs.lemmas.List.Elements.{All-head, All-tail}
use Rattle.dpl_cell.specs.Places.{Corners}
use Rattle.dpl_cell.specs.Ranges.{IsStretch, IsRectangle}
use Rattle.dpl_lex.specs.Number.{greatest, signed_at}
use Rattle.dpl_lex.specs.declared.number.Num.{Num}
use Rattle.dpl_lex.specs.declared.number.Num.TheVariants.{Value, Big, Nothing}
use Rattle.dpl_rules.specs.Readers.{number_at_front, beyond}
use Rattle.dpl_boxes.specs.Masks.{spaced}
use Rattle.dpl_boxes.proofs.NumberLemmas.{signed_of-signed_decimal, has_no_digit}
use Rattle.dpl_words.specs.Scripts.{PlainLine, plain_line, line_text, Fits, IsNoLine, IsScript, IsFirstBad}
use Rattle.dpl_words.specs.declared.edits.Line.{Line}
use Rattle.dpl_form.specs.Lines.{lines_in}
use Rattle.dpl_words.specs.Scripts.PlainLine.{add, remove}
use Rattle.dpl_words.specs.ScriptReading.{value_of, next_value, corners_read, number_read, behind}

-- a number within the greatest magnitude is a value
value_from : (p : Num × List ℕ) (z : ℤ) (rest : List ℕ) → unsigned_abs z ≤ greatest → number_at_front p.0 p.1 ≡ Some (z, rest) → value_of p ≡ Some (z, rest)
value_from (Value y, bytes) z rest l e = e
value_from (Big, bytes) z rest l e =
    let q : pos beyond ≡ z = big (pos beyond) bytes z rest e in
    let r = ap unsigned_abs q in absurd (omega (arith, r, l))
  where
    big : (y : ℤ) (bytes : List ℕ) (z : ℤ) (rest : List ℕ) → ◌≡◌ {A = Option (ℤ × List ℕ)} (Some (y, bytes)) (Some (z, rest)) → y ≡ z
    big y bytes z rest e = let d : ◌≡◌ {A = ℤ × List ℕ} (y, bytes) (z, rest) = cc in ap (λ (p : ℤ × List ℕ). p.0) d
value_from (Nothing, bytes) z rest l e = absurd (cc)

pub next_spaced : (z : ℤ) (rest : List ℕ) → unsigned_abs z ≤ greatest → has_no_digit rest ≡ true → next_value (spaced z ++ rest) ≡ Some (z, rest)
next_spaced z rest l e = value_from (signed_at (spaced z ++ rest)) z rest l (signed_of-signed_decimal z rest l e)

-- ---- a box

abbrev pub corners_text : Corners → List ℕ
corners_text c = spaced c.x1 ++ spaced c.y1 ++ spaced c.x2 ++ spaced c.y2 ++ codes "\n"

nested : (a b c d e : List ℕ) → a ++ b ++ c ++ d ++ e ≡ a ++ (b ++ (c ++ (d ++ e)))
nested a b c d e = append_assoc (a ++ b ++ c) d e ∙ append_assoc (a ++ b) c (d ++ e) ∙ append_assoc a b (c ++ (d ++ e))

near : (a b : ℤ) → IsStretch a b → (unsigned_abs a ≤ greatest) × (unsigned_abs b ≤ greatest)
near a b h = let l = h.low in let s = h.some in let u = h.high in (omega (arith, ints), omega (arith, ints))

pub corners_are_read : (c : Corners) → IsRectangle c → corners_read (corners_text c) ≡ Some c
corners_are_read c h =
    let (ax, bx) = near c.x1 c.x2 h.columns in
    let (ay, by') = near c.y1 c.y2 h.rows in
    let p = next_spaced c.x1 (spaced c.y1 ++ (spaced c.x2 ++ (spaced c.y2 ++ codes "\n"))) ax refl in
    let q = next_spaced c.y1 (spaced c.x2 ++ (spaced c.y2 ++ codes "\n")) ay refl in
    let r = next_spaced c.x2 (spaced c.y2 ++ codes "\n") bx refl in
    let s = next_spaced c.y2 (codes "\n") by' refl in
    ap corners_read (nested (spaced c.x1) (spaced c.y1) (spaced c.x2) (spaced c.y2) (codes "\n")) ∙ (rw (p, q, r, s) refl)

pub behind_add : (c : Corners) → behind (codes "add") (line_text (add c)) ≡ Some (corners_text c)
behind_add c = refl

-- ---- a number

pub number_is_read : (n : ℕ) → n ≤ 10 ^ 12 → number_read (spaced (pos n) ++ codes "\n") ≡ Some (pos n)
number_is_read n l = let p = next_spaced (pos n) (codes "\n") l refl in rw p refl

pub behind_remove : (n : ℕ) → behind (codes "remove") (line_text (remove n)) ≡ Some (spaced (pos n) ++ codes "\n")
behind_remove n = refl

-- ---- a text behind a word

pub one_text : (a b : List ℕ) → Some a ≡ Some b → a ≡ b
one_text a b e = cc

pub one_box : (a b : Corners) → Some a ≡ Some b → a ≡ b
one_box a b e = cc

pub one_number : (m n : ℕ) → Some (pos m) ≡ Some (pos n) → m ≡ n
one_number m n e = let d : pos m ≡ pos n = one _ _ e in ap unsigned_abs d where
  one : (y z : ℤ) → Some y ≡ Some z → y ≡ z
  one y z e = cc

pub behind_box : (c : Corners) (line rest : List ℕ) → Some rest ≡ behind (codes "add") line → line_text (add c) ≡ line → rest ≡ corners_text c
behind_box c line rest b e = one_text _ _ (b ∙ ap (behind (codes "add")) (sym e) ∙ behind_add c)

pub behind_number : (n : ℕ) (line rest : List ℕ) → Some rest ≡ behind (codes "remove") line → line_text (remove n) ≡ line → rest ≡ spaced (pos n) ++ codes "\n"
behind_number n line rest b e = one_text _ _ (b ∙ ap (behind (codes "remove")) (sym e) ∙ behind_remove n)

-- ---- the lines of a text

head_is : (x y : List ℕ) (xs ys : List (List ℕ)) → ◌≡◌ {A = List (List ℕ)} (x ∷ xs) (y ∷ ys) → x ≡ y
head_is x y xs ys e = cc

tail_is : (x y : List ℕ) (xs ys : List (List ℕ)) → ◌≡◌ {A = List (List ℕ)} (x ∷ xs) (y ∷ ys) → xs ≡ ys
tail_is x y xs ys e = cc

not_empty : (x : List ℕ) (xs : List (List ℕ)) → ◌≡◌ {A = List (List ℕ)} [] (x ∷ xs) → ⊥
not_empty x xs e = absurd (cc)

-- lines of the form have no line among them that is not
none_bad : (ls front : List PlainLine) (line : List ℕ) (behind' : List (List ℕ)) → All Fits ls → IsNoLine line
    → map line_text ls ≡ map line_text front ++ line ∷ behind' → ⊥
none_bad [] [] line behind' h bad e = not_empty line behind' e
none_bad [] (f ∷ fs) line behind' h bad e = not_empty (line_text f) (map line_text fs ++ line ∷ behind') e
none_bad (l ∷ ls) [] line behind' h bad e = bad l (All-head Fits l ls h) (head_is _ _ _ _ e)
none_bad (l ∷ ls) (f ∷ fs) line behind' h bad e = none_bad ls fs line behind' (All-tail Fits l ls h) bad (tail_is _ _ _ _ e)

-- the first line that is not of the form has one number
one_front : (fs gs : List PlainLine) (x y : List ℕ) (xs ys : List (List ℕ)) → All Fits fs → All Fits gs
    → IsNoLine x → IsNoLine y → map line_text fs ++ x ∷ xs ≡ map line_text gs ++ y ∷ ys
    → length fs ≡ length gs
one_front [] [] x y xs ys a b p q e = refl
one_front [] (g ∷ gs) x y xs ys a b p q e = absurd (p g (All-head Fits g gs b) (sym (head_is _ _ _ _ e)))
one_front (f ∷ fs) [] x y xs ys a b p q e = absurd (q f (All-head Fits f fs a) (head_is _ _ _ _ e))
one_front (f ∷ fs) (g ∷ gs) x y xs ys a b p q e = ap suc (one_front fs gs x y xs ys (All-tail Fits f fs a) (All-tail Fits g gs b) p q (tail_is _ _ _ _ e))

pub bad_once : (text : List ℕ) (m n : ℕ) → IsFirstBad text m → IsFirstBad text n → m ≡ n
bad_once text m n a b =
    let k = one_front a.front b.front a.line b.line a.behind b.behind a.fits b.fits a.bad b.bad (sym a.split ∙ b.split) in
    let p = a.count in let q = b.count in omega (arith, k, p, q)

pub script_free : (text : List ℕ) (ls : List PlainLine) (n : ℕ) → IsScript text ls → IsFirstBad text n → ⊥
script_free text ls n s b = none_bad ls b.front b.line b.behind s.fits b.bad (sym s.is ∙ b.split)

-- ---- one line more

line_texts : List Line → List (List ℕ)
line_texts found = map line_text (map plain_line found)

texts_more : (found : List Line) (edit : Line) (others : List (List ℕ))
    → map line_text (map plain_line (found ++ edit ∷ [])) ++ others ≡ map line_text (map plain_line found) ++ line_text (plain_line edit) ∷ others
texts_more [] edit others = refl
texts_more (l ∷ ls) edit others = ap (λ z. line_text (plain_line l) ∷ z) (texts_more ls edit others)

pub line_more : (all : List (List ℕ)) (found : List Line) (edit : Line) (line : List ℕ) (rest others : List (List ℕ))
    → all ≡ map line_text (map plain_line found) ++ rest → rest ≡ line ∷ others
    → line_text (plain_line edit) ≡ line → all ≡ map line_text (map plain_line (found ++ edit ∷ [])) ++ others
line_more all found edit line rest others e r t =
    e ∙ ap (λ z. map line_text (map plain_line found) ++ z) (r ∙ ap (λ z. z ∷ others) (sym t)) ∙ sym (texts_more found edit others)

pub fits_more : (found : List Line) (edit : Line) → All Fits (map plain_line found) → Fits (plain_line edit) → All Fits (map plain_line (found ++ edit ∷ []))
fits_more [] edit h f zero d l = f
fits_more [] edit h f (suc k) d l = absurd (omega (arith, l))
fits_more (x ∷ xs) edit h f zero d l = h zero d (omega arith)
fits_more (x ∷ xs) edit h f (suc k) d l = fits_more xs edit (λ j e m. h (suc j) e (omega (arith, m))) f k d (omega (arith, l))

pub is_script : (text : List ℕ) (found : List Line) (rest : List (List ℕ))
    → lines_in text ≡ map line_text (map plain_line found) ++ rest → rest ≡ []
    → All Fits (map plain_line found) → IsScript text (map plain_line found)
is_script text found rest e r f = record { fits = f; is = e ∙ ap (λ z. map line_text (map plain_line found) ++ z) r ∙ append-nil _ }

map_size : (found : List Line) → length (map plain_line found) ≡ length found
map_size [] = refl
map_size (x ∷ xs) = ap suc (map_size xs)

pub is_bad : (text : List ℕ) (found : List Line) (number : ℕ) (line : List ℕ) (rest others : List (List ℕ))
    → lines_in text ≡ map line_text (map plain_line found) ++ rest → rest ≡ line ∷ others
    → All Fits (map plain_line found) → number ≡ length found + 1 → IsNoLine line → IsFirstBad text number
is_bad text found number line rest others e r f n bad = record {
  front = map plain_line found;
  line = line;
  behind = others;
  fits = f;
  split = e ∙ ap (λ z. map line_text (map plain_line found) ++ z) r;
  count = let k = map_size found in omega (arith, n, k);
  bad = bad;
}

-- equal texts are told so
pub bytes_same : (xs ys : List ℕ) → xs ≡ ys → bytes_eq xs ys ≡ true
bytes_same xs ys e = (bytes_eq-Decides xs ys).1 e
