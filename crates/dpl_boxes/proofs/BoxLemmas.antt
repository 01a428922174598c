-- What the line of a rectangle says.
use Rattle.std.proofs.Common.{arith, ◌≡◌, ℕ, ◌≤◌, true, List, [], ◌∷◌, ◌++◌, refl, append_assoc, append-nil, Some}
use Rattle.std.specs.Prelude.{ℤ, pos, negsuc, ◌≤ℤ◌, ◌+ℤ◌, ◌-ℤ◌, ◌*ℤ◌, unsigned_abs, codes}
use Rattle.std.specs.List.{list_all}
use Rattle.std.specs.Fmt.{decimal, signed_decimal}
use Rattle.std.proofs.lemmas.Bool.Decides.{nat_tests}
use Rattle.std.proofs.lemmas.Int.{ints}
use Rattle.std.proofs.lemmas.List.Folds.{list_all-append}
use Rattle.dpl_cell.specs.Places.{Corners}
use Rattle.dpl_cell.specs.Ranges.{IsRectangle}
use Rattle.dpl_lex.specs.Number.{greatest}
use Rattle.dpl_lex.specs.CuttingLaws.{is_inside}
use Rattle.dpl_rules.specs.declared.command.Command.TheVariants.{Box}
use Rattle.dpl_rules.specs.Readers.{spot}
use Rattle.dpl_rules.specs.Forms.{box_of}
use Rattle.dpl_rules.specs.Bounds.{is_in_bounds, is_command_in_bounds}
use Rattle.dpl_boxes.specs.Masks.{spaced}
use Rattle.dpl_boxes.specs.Lines.{IsRead}
use Rattle.dpl_boxes.specs.MaskLines.{BoxesAreRead}
use Rattle.dpl_boxes.proofs.NumberLemmas.{unsigned_of-decimal, signed_of-signed_decimal, is_inside-signed_decimal}
use Rattle.dpl_boxes.proofs.ReadingLemmas.{plain_is_read}

within : (n : ℕ) → n ≤ greatest → is_in_bounds n ≡ true
within n l = grind (arith, nat_tests)

signed_decimal-positive : (z : ℤ) → pos 0 ≤ℤ z → signed_decimal z ≡ decimal (unsigned_abs z)
signed_decimal-positive (pos n) h = refl
signed_decimal-positive (negsuc n) h = absurd (omega (arith, ints))

-- a length, a width and a middle within the greatest magnitude
record AreNear (a b c d : ℤ) : Type 0 where
  length : unsigned_abs a ≤ greatest
  width : unsigned_abs b ≤ greatest
  x : unsigned_abs c ≤ greatest
  y : unsigned_abs d ≤ greatest

four_parts : (a b c d : List ℕ) → ((((66 ∷ 32 ∷ a) ++ (32 ∷ b)) ++ (32 ∷ c)) ++ (32 ∷ d)) ≡ 66 ∷ 32 ∷ (a ++ (32 ∷ (b ++ (32 ∷ (c ++ (32 ∷ (d ++ [])))))))
four_parts a b c d = simp (append_assoc, append-nil)

spaced_four : (a b c d : ℤ) → codes "B" ++ spaced a ++ spaced b ++ spaced c ++ spaced d ≡ 66 ∷ 32 ∷
    (signed_decimal a ++ (32 ∷ (signed_decimal b ++ (32 ∷ (signed_decimal c ++ (32 ∷ (signed_decimal d ++ [])))))))
spaced_four a b c d = four_parts (signed_decimal a) (signed_decimal b) (signed_decimal c) (signed_decimal d)

box_of-four : (a b c d : ℤ) → pos 0 ≤ℤ a → pos 0 ≤ℤ b → AreNear a b c d
    → box_of (32 ∷ (signed_decimal a ++ (32 ∷ (signed_decimal b ++ (32 ∷ (signed_decimal c ++ (32 ∷ (signed_decimal d ++ []))))))))
    ≡ Some (Box (record { length = unsigned_abs a; width = unsigned_abs b; centre = spot c d; direction = spot (pos 1) (pos 0) }))
box_of-four a b c d p q n =
    rw (
      signed_decimal-positive a p,
      signed_decimal-positive b q,
      unsigned_of-decimal (unsigned_abs a) (32 ∷ (decimal (unsigned_abs b) ++ (32 ∷ (signed_decimal c ++ (32 ∷ (signed_decimal d ++ [])))))) n.length refl,
      unsigned_of-decimal (unsigned_abs b) (32 ∷ (signed_decimal c ++ (32 ∷ (signed_decimal d ++ [])))) n.width refl,
      signed_of-signed_decimal c (32 ∷ (signed_decimal d ++ [])) n.x refl,
      signed_of-signed_decimal d [] n.y refl,
    ) refl

inside_four : (a b c d : ℤ) → AreNear a b c d
    → list_all is_inside (32 ∷ (signed_decimal a ++ (32 ∷ (signed_decimal b ++ (32 ∷ (signed_decimal c ++ (32 ∷ (signed_decimal d ++ [])))))))) ≡ true
inside_four a b c d n =
    rw (
      list_all-append is_inside (signed_decimal a) (32 ∷ (signed_decimal b ++ (32 ∷ (signed_decimal c ++ (32 ∷ (signed_decimal d ++ [])))))),
      list_all-append is_inside (signed_decimal b) (32 ∷ (signed_decimal c ++ (32 ∷ (signed_decimal d ++ [])))),
      list_all-append is_inside (signed_decimal c) (32 ∷ (signed_decimal d ++ [])),
      list_all-append is_inside (signed_decimal d) [],
      is_inside-signed_decimal a n.length,
      is_inside-signed_decimal b n.width,
      is_inside-signed_decimal c n.x,
      is_inside-signed_decimal d n.y,
    ) refl

near_numbers : (b : Corners) → IsRectangle b → AreNear ((b.x2 -ℤ b.x1) *ℤ pos 2) ((b.y2 -ℤ b.y1) *ℤ pos 2) (b.x1 +ℤ b.x2) (b.y1 +ℤ b.y2)
near_numbers b r = record { length = omega (arith, ints); width = omega (arith, ints); x = omega (arith, ints); y = omega (arith, ints) }

four_in_bounds : (a b c d : ℤ) → AreNear a b c d
    → is_command_in_bounds (Box (record { length = unsigned_abs a; width = unsigned_abs b; centre = spot c d; direction = spot (pos 1) (pos 0) })) ≡ true
four_in_bounds a b c d n = rw (within (unsigned_abs a) n.length, within (unsigned_abs b) n.width, within (unsigned_abs c) n.x, within (unsigned_abs d) n.y) refl

four_are_read : (a b c d : ℤ) → pos 0 ≤ℤ a → pos 0 ≤ℤ b → AreNear a b c d
    → IsRead (record {
      bytes = codes "B" ++ spaced a ++ spaced b ++ spaced c ++ spaced d;
      command =
          Box (record {
            length = unsigned_abs a;
            width = unsigned_abs b;
            centre = spot c d;
            direction =
                spot (pos 1) (pos 0);
          });
    })
four_are_read a b c d p q n = rw (spaced_four a b c d)
    (plain_is_read 66 _ (Box (record {
      length = unsigned_abs a;
      width = unsigned_abs b;
      centre = spot c d;
      direction =
          spot (pos 1) (pos 0);
    })) refl (inside_four a b c d n) (box_of-four a b c d p q n) (four_in_bounds a b c d n))

pub box_is_read : BoxesAreRead
box_is_read b r = four_are_read ((b.x2 -ℤ b.x1) *ℤ pos 2) ((b.y2 -ℤ b.y1) *ℤ pos 2) (b.x1 +ℤ b.x2) (b.y1 +ℤ b.y2)
    (omega (arith, ints)) (omega (arith, ints)) (near_numbers b r)
