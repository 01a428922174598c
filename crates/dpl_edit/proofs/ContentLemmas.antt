-- Contents by their parts.
use Rattle.std.proofs.Common.{◌≡◌, ◌++◌, ℕ, true, false, List, [], ◌∷◌, length, take, refl, ap, ◌∙◌, append_assoc}
use Rattle.std.specs.Prelude.{not, ◌==◌, if◌then◌else◌}
use Rattle.dpl_cell.specs.declared.layout.Primitive.{Primitive}
use Rattle.dpl_edit.specs.declared.placed.Placed.{Placed}
use Rattle.dpl_edit.specs.Contents.{content, boxes_without}

-- what stands in front stays
pub front_stays : {A : Type 0} (xs ys : List A) → take (length xs) (xs ++ ys) ≡ xs
front_stays [] ys = refl
front_stays (x ∷ xs) ys = ap (λ zs. x ∷ zs) (front_stays xs ys)

pub content_front : (begun : List Primitive) (boxes : List Placed) → take (length begun) (content begun boxes) ≡ begun
content_front begun boxes = front_stays begun _

without_next : (number : ℕ) (b : Placed) (bs : List Placed) → boxes_without number (b ∷ []) ++ boxes_without number bs ≡ boxes_without number (b ∷ bs)
without_next number b bs = elim (not (b.number == number)) as
    (λ t. (if t then b ∷ [] else []) ++ boxes_without number bs ≡ (if t then b ∷ boxes_without number bs else boxes_without number bs))
    [ true ↦ refl | false ↦ refl ]

-- one box more is looked at
pub one_box : (front : List Placed) (number : ℕ) (b : Placed) (bs : List Placed)
    → (front ++ boxes_without number (b ∷ [])) ++ boxes_without number bs ≡ front ++ boxes_without number (b ∷ bs)
one_box front number b bs = append_assoc front (boxes_without number (b ∷ [])) (boxes_without number bs) ∙ ap (λ xs. front ++ xs) (without_next number b bs)
