-- Layouts by the grammar of CIF 2.0 (Mead and Conway 1980, section 4.5): words, and what stands between them.
use Rattle.std.specs.Prelude.{◌≡◌, ◌↔◌, ◌-ℤ◌, ◌^◌, ◌&&◌, ◌==◌, ℕ, ℤ, pos, Bool, true, false, not, nat_le, unsigned_abs, List, [], ◌∷◌, ◌++◌, length, map, flat_map, replicate, codes, None, Ok, if◌then◌else◌}
use Rattle.std.specs.Ordering.{int_eq}
use Rattle.std.specs.List.{list_all}
use Rattle.std.specs.Fmt.{decimal, signed_decimal}
use Rattle.dpl_lex.specs.Classes.{is_blank, is_digit, is_separator}
use Rattle.dpl_lex.specs.Name.{is_name}
use Rattle.dpl_lex.specs.CuttingLaws.{IsNested}
use Rattle.dpl_lex.specs.declared.types.Ending.TheVariants.{End}
use Rattle.dpl_rules.specs.declared.command.Spot.{Spot}
use Rattle.dpl_rules.specs.declared.command.Scale.{Scale}
use Rattle.dpl_rules.specs.declared.command.Transformation.{Transformation}
use Rattle.dpl_rules.specs.declared.command.Transformation.TheVariants.{Shift, MirrorX, MirrorY, Rotate}
use Rattle.dpl_rules.specs.declared.command.Command.{Command}
use Rattle.dpl_rules.specs.declared.command.Command.TheVariants.{Idle, Polygon, Box, Wire, Flash, Layer, Start, Finish, Delete, Call}
use Rattle.dpl_rules.specs.Bounds.{command_of}
use Rattle.dpl_cif.specs.Reading.{forms_of, ending_of, first_fault}

-- letters and digits as they stand, a number without a sign, or an integer, which may have one
pub data Word : Type 0 where
  Letters : List ℕ → Word
  Number : ℕ → Word
  Integer : ℤ → Word

abbrev pub spot_words : Spot → List Word
spot_words s = Integer s.x ∷ Integer s.y ∷ []

-- a short spelling leaves the direction (1, 0) out
abbrev pub direction_words : Bool → Spot → List Word
direction_words short d =
    if short && int_eq d.x (pos 1) && int_eq d.y (pos 0) then [] else spot_words d

-- a short spelling leaves the scale 1/1 out
abbrev pub scale_words : Bool → Scale → List Word
scale_words short s =
    if short && s.times == 1 && s.over == 1 then [] else Number s.times ∷ Number s.over ∷ []

abbrev pub transformation_words : Transformation → List Word
transformation_words (Shift by) = Letters (codes "T") ∷ spot_words by
transformation_words MirrorX = Letters (codes "M") ∷ Letters (codes "X") ∷ []
transformation_words MirrorY = Letters (codes "M") ∷ Letters (codes "Y") ∷ []
transformation_words (Rotate to) = Letters (codes "R") ∷ spot_words to

-- the words of a command in a short or a full spelling
abbrev pub words_of : Bool → Command → List Word
words_of short Idle = []
words_of short (Polygon path) = Letters (codes "P") ∷ flat_map spot_words path
words_of short (Box b) = Letters (codes "B") ∷ Number b.length ∷ Number b.width
    ∷ (spot_words b.centre ++ direction_words short b.direction)
words_of short (Wire width path) =
    Letters (codes "W") ∷ Number width ∷ flat_map spot_words path
words_of short (Flash diameter centre) =
    Letters (codes "R") ∷ Number diameter ∷ spot_words centre
words_of short (Layer name) = Letters (codes "L") ∷ Letters name ∷ []
words_of short (Start n scale) =
    Letters (codes "D") ∷ Letters (codes "S") ∷ Number n ∷ scale_words short scale
words_of short Finish = Letters (codes "D") ∷ Letters (codes "F") ∷ []
words_of short (Delete n) = Letters (codes "D") ∷ Letters (codes "D") ∷ Number n ∷ []
words_of short (Call n transformations) =
    Letters (codes "C") ∷ Number n ∷ flat_map transformation_words transformations

-- a magnitude of at most 1,000,000,000,000
abbrev pub is_moderate : Word → Bool
is_moderate (Letters letters) = true
is_moderate (Number n) = nat_le n (10 ^ 12)
is_moderate (Integer z) = nat_le (unsigned_abs z) (10 ^ 12)

-- a path has a point, and the name of a layer is one
abbrev pub is_whole : Command → Bool
is_whole (Polygon path) = nat_le 1 (length path)
is_whole (Wire width path) = nat_le 1 (length path)
is_whole (Layer name) = is_name name
is_whole c = true

-- commands that can be written
abbrev pub can_be_written : Command → Bool
can_be_written c = is_whole c && list_all is_moderate (words_of false c)

-- a number in decimal, with any zeros in front
abbrev pub AreDigits : ℕ → List ℕ → Type 0
AreDigits n digits = (zeros : ℕ) × (digits ≡ replicate zeros 48 ++ decimal n)

-- the same, or its negative behind a `-`
pub data IsSigned : ℤ → List ℕ → Type 0 where
  plain : (n : ℕ) (digits : List ℕ) → AreDigits n digits → IsSigned (pos n) digits
  minus : (n : ℕ) (digits : List ℕ) → AreDigits n digits
      → IsSigned (pos 0 -ℤ pos n) (codes "-" ++ digits)

-- the bytes of a word
abbrev pub IsSpelled : Word → List ℕ → Type 0
IsSpelled (Letters letters) bytes = bytes ≡ letters
IsSpelled (Number n) bytes = AreDigits n bytes
IsSpelled (Integer z) bytes = IsSigned z bytes

abbrev pub AreBlanks : List ℕ → Type 0
AreBlanks gap = list_all is_blank gap ≡ true

-- what stands before a word: blanks before letters, separators before a number
abbrev pub IsGap : Word → List ℕ → Type 0
IsGap (Letters letters) gap = AreBlanks gap
IsGap w gap = list_all is_separator gap ≡ true

abbrev pub has_no_digit : List ℕ → Bool
has_no_digit [] = true
has_no_digit (b ∷ bytes) = not (is_digit b)

-- no digit stands right behind a number
abbrev pub is_apart : Word → List ℕ → Bool
is_apart (Letters letters) text = true
is_apart w text = has_no_digit text

-- what stands behind a word: these words, each behind its gap, and maybe blanks
abbrev pub AreBehind : Word → List Word → List ℕ → Type 0
AreBehind v [] text = AreBlanks text
AreBehind v (w ∷ ws) text = (gap bytes rest : List ℕ) × IsGap w gap × IsSpelled w bytes
    × (text ≡ gap ++ (bytes ++ rest)) × (is_apart v text ≡ true) × AreBehind w ws rest

-- words from the first one on
abbrev pub AreWords : List Word → List ℕ → Type 0
AreWords [] text = text ≡ []
AreWords (w ∷ ws) text = (bytes rest : List ℕ) × IsSpelled w bytes
    × (text ≡ bytes ++ rest) × AreBehind w ws rest

-- what does nothing: an empty command, a comment, a user extension, which has no semicolon
pub data IsIdle : List ℕ → Type 0 where
  empty : IsIdle []
  comment : (inner gap : List ℕ) → IsNested inner → AreBlanks gap →
      IsIdle (codes "(" ++ (inner ++ (codes ")" ++ gap)))
  extension : (digit : ℕ) (others : List ℕ) → is_digit digit ≡ true →
      list_all (λ b. not (b == 59)) others ≡ true → IsIdle (digit ∷ others)

-- the bytes of a command without its semicolon
abbrev pub HasForm : Command → List ℕ → Type 0
HasForm Idle bytes = IsIdle bytes
HasForm c bytes = (short : Bool) × AreWords (words_of short c) bytes

-- commands, each behind blanks and before a semicolon, and the end command before anything
abbrev pub IsLayout : List Command → List ℕ → Type 0
IsLayout [] text = (gap rest : List ℕ) × AreBlanks gap × (text ≡ gap ++ (codes "E" ++ rest))
IsLayout (c ∷ cs) text = (gap bytes rest : List ℕ) × AreBlanks gap
    × (can_be_written c ≡ true) × HasForm c bytes
    × (text ≡ gap ++ (bytes ++ (codes ";" ++ rest))) × IsLayout cs rest

-- a law: a text is read as commands, up to an end command, exactly where it is a layout of them
abbrev pub LayoutsAreRead : Type 0
LayoutsAreRead = (cs : List Command) (text : List ℕ) →
    IsLayout cs text ↔ (forms_of text ≡ map (λ c. Ok c) cs) × (ending_of text ≡ End)

-- a law: a text that breaks no rule is a layout
abbrev pub TakenTextsAreLayouts : Type 0
TakenTextsAreLayouts = (layer text : List ℕ) → first_fault layer text ≡ None →
    (cs : List Command) × IsLayout cs text

-- a law: a command that is written is read by itself
abbrev pub CommandsAreRead : Type 0
CommandsAreRead = (c : Command) (bytes : List ℕ) → can_be_written c ≡ true → HasForm c bytes
    → command_of bytes ≡ Ok c

abbrev pub plain_word : Word → List ℕ
plain_word (Letters letters) = letters
plain_word (Number n) = decimal n
plain_word (Integer z) = signed_decimal z

-- words with a space between them
abbrev pub spaced_words : List Word → List ℕ
spaced_words [] = []
spaced_words (w ∷ ws) = plain_word w ++ flat_map (λ v. codes " " ++ plain_word v) ws

-- commands in their full spelling, each in a line of its own
abbrev pub plain_layout : List Command → List ℕ
plain_layout cs = flat_map (λ c. spaced_words (words_of false c) ++ codes ";\n") cs ++ codes "E"

-- a law: that is a layout
abbrev pub PlainLayoutsAreLayouts : Type 0
PlainLayoutsAreLayouts = (cs : List Command) → list_all can_be_written cs ≡ true →
    IsLayout cs (plain_layout cs)
