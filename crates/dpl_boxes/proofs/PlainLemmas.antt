-- Commands that are written with a space between their words.
use Rattle.std.proofs.Common.{◌≡◌, ℕ, false, List, [], ◌∷◌, ◌++◌, refl, append_assoc, true, suc, subst}
use Rattle.std.specs.Prelude.{pos, negsuc, flat_map, codes}
use Rattle.std.specs.List.{list_all}
use Rattle.std.specs.Fmt.{decimal}
use Rattle.std.proofs.lemmas.Bool.{and_parts}
use Rattle.dpl_rules.specs.declared.command.Command.{Command}
use Rattle.dpl_rules.specs.declared.command.Command.TheVariants.{Idle, Polygon, Box, Wire, Flash, Layer, Start, Finish, Delete, Call}
use Rattle.dpl_boxes.proofs.NumberLemmas.{negated}
use Rattle.dpl_boxes.specs.Written as written
use Rattle.dpl_boxes.specs.Written.{Word, words_of, IsSigned, IsSpelled, AreBlanks, IsGap, is_apart, AreBehind}
use Rattle.dpl_boxes.specs.Written.{AreWords, HasForm, can_be_written, IsLayout, plain_word, spaced_words, plain_layout}
use Rattle.dpl_boxes.specs.Written.Word.{Letters, Number, Integer}
use Rattle.dpl_boxes.specs.Written.IsSigned.{plain, minus}
use Rattle.dpl_boxes.specs.Written.IsIdle.{empty}

plain_is_spelled : (w : Word) → IsSpelled w (plain_word w)
plain_is_spelled (Letters letters) = refl
plain_is_spelled (Number n) = (0, refl)
plain_is_spelled (Integer (pos n)) = plain n (decimal n) (0, refl)
plain_is_spelled (Integer (negsuc n)) =
    subst (λ z. IsSigned z (45 ∷ decimal (suc n))) (negated n) (minus (suc n) (decimal (suc n)) (0, refl))

space_is_gap : (w : Word) → IsGap w (32 ∷ [])
space_is_gap (Letters letters) = refl
space_is_gap (Number n) = refl
space_is_gap (Integer z) = refl

space_is_apart : (v : Word) (text : List ℕ) → is_apart v (32 ∷ text) ≡ true
space_is_apart (Letters letters) text = refl
space_is_apart (Number n) text = refl
space_is_apart (Integer z) text = refl

-- words behind a space each
abbrev spaced_behind : List Word → List ℕ
spaced_behind ws = flat_map (λ v. codes " " ++ plain_word v) ws

spaced_are_behind : (v : Word) (ws : List Word) → AreBehind v ws (spaced_behind ws)
spaced_are_behind v [] = refl
spaced_are_behind v (w ∷ ws) = (
  32 ∷ [],
  plain_word w,
  spaced_behind ws,
  space_is_gap w,
  plain_is_spelled w,
  refl,
  space_is_apart v (plain_word w ++ spaced_behind ws),
  spaced_are_behind w ws,
)

spaced_are_words : (ws : List Word) → AreWords ws (spaced_words ws)
spaced_are_words [] = refl
spaced_are_words (w ∷ ws) = (plain_word w, spaced_behind ws, plain_is_spelled w, refl, spaced_are_behind w ws)

spaced_has_form : (c : Command) → HasForm c (spaced_words (words_of false c))
spaced_has_form Idle = empty
spaced_has_form (Polygon path) = (false, spaced_are_words (words_of false (Polygon path)))
spaced_has_form (Box b) = (false, spaced_are_words (words_of false (Box b)))
spaced_has_form (Wire width path) = (false, spaced_are_words (words_of false (Wire width path)))
spaced_has_form (Flash diameter centre) = (false, spaced_are_words (words_of false (Flash diameter centre)))
spaced_has_form (Layer name) = (false, spaced_are_words (words_of false (Layer name)))
spaced_has_form (Start n scale) = (false, spaced_are_words (words_of false (Start n scale)))
spaced_has_form Finish = (false, spaced_are_words (words_of false Finish))
spaced_has_form (Delete n) = (false, spaced_are_words (words_of false (Delete n)))
spaced_has_form (Call n ts) = (false, spaced_are_words (words_of false (Call n ts)))

-- blanks may stand in front
layout_behind : (gap : List ℕ) (cs : List Command) → AreBlanks gap → list_all can_be_written cs ≡ true → IsLayout cs (gap ++ plain_layout cs)
layout_behind gap [] b w = (gap, [], b, refl)
layout_behind gap (c ∷ cs) b w =
    let p = and_parts (can_be_written c) (list_all can_be_written cs) w in
    let bytes = spaced_words (words_of false c) in
    let split : gap ++ plain_layout (c ∷ cs) ≡ gap ++ (bytes ++ (59 ∷ (10 ∷ plain_layout cs))) = simp append_assoc in
    (gap, bytes, 10 ∷ plain_layout cs, b, p.0, spaced_has_form c, split, layout_behind (10 ∷ []) cs refl p.1)

pub plain_layouts_are_layouts : written.PlainLayoutsAreLayouts
plain_layouts_are_layouts cs w = layout_behind [] cs refl w
