-- The rules by which a text is cut, one by one. Each says what the front of a text gives from between two commands on.
use Rattle.std.specs.Prelude.{◌≡◌, ◌≤◌, ℕ, ◌+◌, Bool, true, not, ◌==◌, ◌||◌, List, [], ◌∷◌, ◌++◌, length, Some}
use Rattle.std.specs.List.{list_all}
use Rattle.dpl_lex.specs.Classes.{is_blank}
use Rattle.dpl_lex.specs.Cutting.{cut, span, with_span, none_left, commands_of}
use Rattle.dpl_lex.specs.declared.types.Span.{Span}
use Rattle.dpl_lex.specs.declared.types.Ending.TheVariants.{End, NoEnd, Paren}
use Rattle.dpl_lex.specs.declared.cutting.Place.TheVariants.{Between}

-- no semicolon
abbrev pub is_inside : ℕ → Bool
is_inside b = not (b == 59)

-- begins a command that is neither empty, nor the end, nor a comment
abbrev pub begins_plain : ℕ → Bool
begins_plain b = not (is_blank b || b == 59 || b == 69 || b == 40)

-- the parentheses stand in pairs
pub data IsNested : List ℕ → Type 0 where
  nothing : IsNested []
  byte : (b : ℕ) (bs : List ℕ) → not (b == 40 || b == 41) ≡ true → IsNested bs → IsNested (b ∷ bs)
  pair : (inner bs : List ℕ) → IsNested inner → IsNested bs → IsNested (40 ∷ inner ++ 41 ∷ bs)

-- some parentheses are opened and not closed, and none is closed that was not opened
pub data IsOpen : List ℕ → Type 0 where
  here : (bs : List ℕ) → IsNested bs → IsOpen bs
  deeper : (bs more : List ℕ) → IsNested bs → IsOpen more → IsOpen (bs ++ 40 ∷ more)

-- blanks before a command are skipped
abbrev pub BlanksAreSkipped : Type 0
BlanksAreSkipped = (blanks rest : List ℕ) (at : ℕ) → list_all is_blank blanks ≡ true
    → cut Between at (blanks ++ rest) ≡ cut Between (at + length blanks) rest

-- what follows `E` is not looked at
abbrev pub EndEnds : Type 0
EndEnds = (rest : List ℕ) (at : ℕ) → cut Between at (69 ∷ rest) ≡ none_left End

-- a semicolon at once is an empty command
abbrev pub EmptyIsCut : Type 0
EmptyIsCut = (rest : List ℕ) (at : ℕ) → cut Between at (59 ∷ rest)
    ≡ with_span (Some (span at at)) (cut Between (at + 1) rest)

-- any command but a comment, a user extension too, goes to the next semicolon
abbrev pub PlainIsCut : Type 0
PlainIsCut = (first : ℕ) (body rest : List ℕ) (at : ℕ) → begins_plain first ≡ true →
    list_all is_inside body ≡ true
    → cut Between at (first ∷ body ++ 59 ∷ rest)
    ≡ with_span (Some (span at (at + 1 + length body))) (cut Between (at + 1 + length body
    + 1) rest)

-- a comment goes to the parenthesis that closes it, and from there to the next semicolon
abbrev pub CommentIsCut : Type 0
CommentIsCut = (inner body rest : List ℕ) (at : ℕ) → IsNested inner → list_all is_inside body ≡ true
    → cut Between at (40 ∷ inner ++ 41 ∷ body ++ 59 ∷ rest)
    ≡ with_span (Some (span at (at + 1 + length inner + 1 + length body))) (cut Between (at + 1
    + length inner + 1 + length body + 1) rest)

-- a text that ends between two commands has no end
abbrev pub BlanksEnd : Type 0
BlanksEnd = (blanks : List ℕ) (at : ℕ) → list_all is_blank blanks ≡ true →
    cut Between at blanks ≡ none_left NoEnd

-- what has no semicolon is no command
abbrev pub PlainRests : Type 0
PlainRests = (first : ℕ) (body : List ℕ) (at : ℕ) → begins_plain first ≡ true →
    list_all is_inside body ≡ true
    → cut Between at (first ∷ body) ≡ none_left NoEnd

-- a closed comment without a semicolon is none either
abbrev pub CommentRests : Type 0
CommentRests = (inner body : List ℕ) (at : ℕ) → IsNested inner → list_all is_inside body ≡ true
    → cut Between at (40 ∷ inner ++ 41 ∷ body) ≡ none_left NoEnd

-- a comment that is never closed
abbrev pub OpenCommentRests : Type 0
OpenCommentRests = (inside : List ℕ) (at : ℕ) → IsOpen inside →
    cut Between at (40 ∷ inside) ≡ none_left Paren

-- each command stands within a text of this length
abbrev pub AreWithin : ℕ → List Span → Type 0
AreWithin most [] = Unit {0}
AreWithin most (s ∷ spans) = (s.start ≤ s.end) × (s.end ≤ most) × AreWithin most spans

-- every command stands within its text
abbrev pub CommandsAreWithin : Type 0
CommandsAreWithin = (text : List ℕ) → AreWithin (length text) (commands_of text).spans

-- there are no more commands than bytes
abbrev pub CommandsAreFew : Type 0
CommandsAreFew = (text : List ℕ) → length (commands_of text).spans ≤ length text
