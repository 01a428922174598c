-- The rules by which a text is cut.
use Rattle.std.proofs.Common.{◌≡◌, ◌+◌, ℕ, suc, true, List, [], ◌∷◌, ◌++◌, length, refl, arith, add-zero, append_assoc, length-append, Some}
use Rattle.std.specs.List.{list_all}
use Rattle.std.proofs.lemmas.Grind.{common_steps}
use Rattle.dpl_lex.specs.Cutting.{cut, span, with_span, none_left}
use Rattle.dpl_lex.specs.CuttingLaws as laws
use Rattle.dpl_lex.specs.CuttingLaws.{is_inside, IsNested, IsOpen}
use Rattle.dpl_lex.specs.CuttingLaws.IsNested.{nothing, byte, pair}
use Rattle.dpl_lex.specs.CuttingLaws.IsOpen.{here, deeper}
use Rattle.dpl_lex.specs.declared.cutting.Place.TheVariants.{Between, Inside, Comment, Ended}
use Rattle.dpl_lex.specs.declared.types.Ending.TheVariants.{End, NoEnd, Paren}

pub blanks_are_skipped : laws.BlanksAreSkipped
blanks_are_skipped [] rest at h = rw add-zero refl
blanks_are_skipped (b ∷ bs) rest at h = grind (arith, common_steps, blanks_are_skipped bs rest (at + 1))

pub blanks_end : laws.BlanksEnd
blanks_end [] at h = refl
blanks_end (b ∷ bs) at h = grind (arith, common_steps, blanks_end bs (at + 1))

ended : (rest : List ℕ) (at : ℕ) → cut Ended at rest ≡ none_left End
ended [] at = refl
ended (b ∷ bs) at = ended bs (at + 1)

pub end_ends : laws.EndEnds
end_ends rest at = ended rest (at + 1)

pub empty_is_cut : laws.EmptyIsCut
empty_is_cut rest at = refl

-- in a command, up to its semicolon
inside : (body rest : List ℕ) (start at : ℕ) → list_all is_inside body ≡ true
    → cut (Inside start) at (body ++ 59 ∷ rest) ≡ with_span (Some (span start (at + length body))) (cut Between (at + length body + 1) rest)
inside [] rest start at h = rw add-zero refl
inside (b ∷ bs) rest start at h = grind (arith, common_steps, inside bs rest start (at + 1))

-- in a command that has none
unfinished : (body : List ℕ) (start at : ℕ) → list_all is_inside body ≡ true → cut (Inside start) at body ≡ none_left NoEnd
unfinished [] start at h = refl
unfinished (b ∷ bs) start at h = grind (arith, common_steps, unfinished bs start (at + 1))

pub plain_is_cut : laws.PlainIsCut
plain_is_cut first body rest at b h = grind (arith, common_steps, inside body rest at (at + 1))

pub plain_rests : laws.PlainRests
plain_rests first body at b h = grind (arith, common_steps, unfinished body at (at + 1))

-- what is nested leaves the depth as it is
nested : (bs : List ℕ) → IsNested bs → (rest : List ℕ) (start depth at : ℕ)
    → cut (Comment start depth) at (bs ++ rest) ≡ cut (Comment start depth) (at + length bs) rest
nested _ nothing rest start depth at = rw add-zero refl
nested _ (byte b bs h n) rest start depth at = grind (arith, common_steps, nested bs n rest start depth (at + 1))
nested _ (pair inner bs m n) rest start depth at =
    let inner_first : cut (Comment start (depth + 1)) (at + 1) (inner ++ (41 ∷ (bs ++ rest))) ≡ cut
    (Comment start (depth + 1)) (at + 1 + length inner) (41 ∷ (bs ++ rest)) =
    nested inner m (41 ∷ (bs ++ rest)) start (depth + 1) (at + 1) in
    let split : (inner ++ (41 ∷ bs)) ++ rest ≡ inner ++ (41 ∷ (bs ++ rest)) = append_assoc inner (41 ∷ bs) rest in
    let long : length (inner ++ (41 ∷ bs)) ≡ length inner + suc (length bs) = length-append inner (41 ∷ bs) in
    grind (arith, common_steps, split, long, inner_first, nested bs n rest start depth (at + 1 + length inner + 1))

pub comment_is_cut : laws.CommentIsCut
comment_is_cut inner body rest at n h =
    let first : cut (Comment at 0) (at + 1) (inner ++ (41 ∷ (body ++ 59 ∷ rest))) ≡ cut (Comment at 0)
    (at + 1 + length inner) (41 ∷ (body ++ 59 ∷ rest)) = nested inner n (41 ∷ (body ++ 59 ∷ rest)) at 0 (at + 1) in
    let split : (inner ++ (41 ∷ body)) ++ (59 ∷ rest) ≡ inner ++ (41 ∷ (body ++ (59 ∷ rest))) = append_assoc inner (41 ∷ body) (59 ∷ rest) in
    grind (arith, common_steps, split, first, inside body rest at (at + 1 + length inner + 1))

pub comment_rests : laws.CommentRests
comment_rests inner body at n h =
    let first : cut (Comment at 0) (at + 1) (inner ++ (41 ∷ body)) ≡ cut (Comment at 0) (at + 1 + length inner)
    (41 ∷ body) = nested inner n (41 ∷ body) at 0 (at + 1) in
    grind (arith, common_steps, first, unfinished body at (at + 1 + length inner + 1))

nested_ends : (bs : List ℕ) → IsNested bs → (start depth at : ℕ) → cut (Comment start depth) at bs ≡ none_left Paren
nested_ends _ nothing start depth at = refl
nested_ends _ (byte b bs h n) start depth at = grind (arith, common_steps, nested_ends bs n start depth (at + 1))
nested_ends _ (pair inner bs m n) start depth at =
    let inner_first : cut (Comment start (depth + 1)) (at + 1) (inner ++ (41 ∷ bs)) ≡ cut (Comment start (depth + 1))
    (at + 1 + length inner) (41 ∷ bs) = nested inner m (41 ∷ bs) start (depth + 1) (at + 1) in
    grind (arith, common_steps, inner_first, nested_ends bs n start depth (at + 1 + length inner + 1))

open_rests : (inside : List ℕ) → IsOpen inside → (start depth at : ℕ) → cut (Comment start depth) at inside ≡ none_left Paren
open_rests _ (here bs n) start depth at = nested_ends bs n start depth at
open_rests _ (deeper bs more n o) start depth at =
    let first : cut (Comment start depth) at (bs ++ (40 ∷ more)) ≡ cut (Comment start depth) (at + length bs)
    (40 ∷ more) = nested bs n (40 ∷ more) start depth at in
    grind (arith, common_steps, first, open_rests more o start (depth + 1) (at + length bs + 1))

pub open_comment_rests : laws.OpenCommentRests
open_comment_rests inside at o = open_rests inside o at 0 (at + 1)
