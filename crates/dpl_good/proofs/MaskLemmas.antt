-- One rectangle more on a mask.
use Rattle.std.proofs.Common.{◌≡◌, Bool, true, false, List, [], ◌++◌, refl, ap, ◌∙◌, append_assoc}
use Rattle.dpl_cell.specs.declared.rect.Rect.{Rect}
use Rattle.dpl_good.specs.MaskRects.{where_same}

-- a rectangle taken or left in front of others
pub where_same-append : (t : Bool) (r : Rect) (rs : List Rect) → where_same t r [] ++ rs ≡ where_same t r rs
where_same-append true r rs = refl
where_same-append false r rs = refl

-- a rectangle put at the end where it is taken, and what follows it
pub one_rect : (front : List Rect) (t : Bool) (r : Rect) (rs : List Rect) → (front ++ where_same t r []) ++ rs ≡ front ++ where_same t r rs
one_rect front t r rs = append_assoc front (where_same t r []) rs ∙ ap (λ xs. front ++ xs) (where_same-append t r rs)
