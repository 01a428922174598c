-- Lines are cut and read one by one.
use Rattle.std.proofs.Common.{arith, ◌≡◌, ℕ, ◌+◌, ◌-◌, List, [], ◌∷◌, ◌++◌, length, map, refl, append_assoc, length-append, Some, All}
use Rattle.std.specs.Prelude.{slice_range}
use Rattle.std.proofs.lemmas.List.Elements.{All-head, All-tail}
use Rattle.std.proofs.Math.Seq.{drop-append_seam, take-append_seam}
use Rattle.dpl_lex.specs.Cutting.{cut, with_span, span}
use Rattle.dpl_lex.specs.declared.cutting.Place.TheVariants.{Between}
use Rattle.dpl_lex.specs.declared.types.Ending.TheVariants.{End}
use Rattle.dpl_rules.specs.Bounds.{read_commands}
use Rattle.dpl_boxes.specs.Lines as lines
use Rattle.dpl_boxes.specs.Lines.{Line, line_text, lines_text, IsRead, said}

-- the part between two others
pub between_parts : (front part behind : List ℕ) → slice_range (front ++ (part ++ behind)) (length front) (length front + length part) ≡ part
between_parts front part behind =
    let n : length front + length part - length front ≡ length part = omega arith in
    rw (drop-append_seam front (part ++ behind), n) (take-append_seam part behind)

-- a text of lines begins with its first line
lines_text-cons : (l : Line) (ls : List Line) → lines_text (l ∷ ls) ≡ l.bytes ++ (59 ∷ 10 ∷ lines_text ls)
lines_text-cons l ls = simp append_assoc

-- the lines at the end of a text are cut and read; what stands before them is any text
record Goes (text front : List ℕ) (ls : List Line) : Type 0 where
  commands : read_commands text (cut Between (length front) (lines_text ls)).spans ≡ map said ls
  ending : (cut Between (length front) (lines_text ls)).ending ≡ End

-- with one more line before
goes_on : (text front : List ℕ) (l : Line) (ls : List Line) → IsRead l → text ≡ front ++ lines_text (l ∷ ls)
    → Goes text (front ++ (l.bytes ++ (59 ∷ 10 ∷ []))) ls → Goes text front (l ∷ ls)
goes_on text front l ls r e g =
    let size : length (front ++ (l.bytes ++ (59 ∷ 10 ∷ []))) ≡ length front + length l.bytes + 1 + 1 = simp length-append (omega arith) in
    let cut_first : cut Between (length front) (lines_text (l ∷ ls)) ≡ with_span
    (Some (span (length front) (length front + length l.bytes)))
    (cut Between (length (front ++ (l.bytes ++ (59 ∷ 10 ∷ [])))) (lines_text ls))
    = rw (lines_text-cons l ls, size) (r.cut_out (10 ∷ lines_text ls) (length front)) in
    let part : slice_range text (length front) (length front + length l.bytes) ≡ l.bytes =
    rw (e, lines_text-cons l ls) (between_parts front l.bytes (59 ∷ 10 ∷ lines_text ls)) in
    record {
      commands = rw (cut_first, part, r.read, g.commands) refl;
      ending = rw cut_first g.ending;
    }

go : (text front : List ℕ) (ls : List Line) → All IsRead ls → text ≡ front ++ lines_text ls → Goes text front ls
go text front [] h e = record { commands = refl; ending = refl }
go text front (l ∷ ls) h e =
    let longer : text ≡ (front ++ (l.bytes ++ (59 ∷ 10 ∷ []))) ++ lines_text ls = rw (e, lines_text-cons l ls) (simp append_assoc) in
    goes_on text front l ls (All-head IsRead l ls h) e (go text (front ++ (l.bytes ++ (59 ∷ 10 ∷ []))) ls (All-tail IsRead l ls h) longer)

-- what is written line by line is read line by line
pub lines_are_read : lines.LinesAreRead
lines_are_read ls h = let g = go (lines_text ls) [] ls h refl in record { commands = g.commands; ending = g.ending }
