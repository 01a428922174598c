-- Numbers of the code that are coordinates, and tests joined.
use Rattle.std.proofs.Common.{rules, ◌≡◌, ◌^◌, ℤ, pos, neg_ℤ, ◌≤ℤ◌, ◌+ℤ◌, ◌-ℤ◌, ◌*ℤ◌, sym, ap, ◌∙◌}
use Rattle.std.proofs.Common.{Bool, true, false, ◌&&◌, ◌||◌, refl, ◌<ℤ◌, SFits, w64, to_z, of_z}
use Rattle.std.proofs.lemmas.Int.{ints}
use Rattle.std.proofs.lemmas.Bool.{cond-true, cond-false}
use Rattle.std.proofs.lemmas.Int.{to_z-of_z}
use Rattle.std.specs.Prelude.{int_lt, int_le}
use Rattle.std.specs.Int.{int_max, int_min}
use Rattle.dpl_list.proofs.Integers.{signed}
use Rattle.dpl_cell.specs.declared.rect.Rect.{Rect}
use Rattle.dpl_cell.specs.Places.{corners_of}
use Rattle.dpl_euler.specs.declared.segment.Segment.{Segment}
use Rattle.dpl_euler.specs.Points.{Ends}
use Rattle.dpl_euler.specs.Crossings.{leaving, link_between}
use Rattle.dpl_euler.specs.Tests.{diagonal, other_diagonal}

pub coordinate_fits : (z : ℤ) → neg_ℤ (pos (2 ^ 31)) ≤ℤ z → z ≤ℤ pos (2 ^ 31) → SFits w64 z
coordinate_fits z f g = search (rules, ints)

pub and_yes : (p q a b : Bool) → p ≡ a → p ≡ true → q ≡ b → q ≡ (a && b)
and_yes p q a b e t h = h ∙ ap (λ z. z && b) (sym t ∙ e)

pub and_no : (p a b : Bool) → p ≡ a → p ≡ false → p ≡ (a && b)
and_no p a b e t = t ∙ ap (λ z. z && b) (sym t ∙ e)

pub or_yes : (p a b : Bool) → p ≡ a → p ≡ true → p ≡ (a || b)
or_yes p a b e t = t ∙ ap (λ z. z || b) (sym t ∙ e)

pub or_no : (p q a b : Bool) → p ≡ a → p ≡ false → q ≡ b → q ≡ (a || b)
or_no p q a b e t h = h ∙ ap (λ z. z || b) (sym t ∙ e)

-- ---- coordinates of segments, as the code passes them on

plain : (z : ℤ) → neg_ℤ (pos (2 ^ 31)) ≤ℤ z → z ≤ℤ pos (2 ^ 31) → to_z w64 (of_z w64 z) ≡ z
plain z f g = to_z-of_z w64 z (coordinate_fits z f g)

four_plain : (f : ℤ → ℤ → ℤ → ℤ → Bool) (a b c d p q r s : ℤ) → a ≡ p → b ≡ q → c ≡ r → d ≡ s → f a b c d ≡ f p q r s
four_plain f a b c d p q r s e g h k = rw (e, g, h, k) refl

-- the columns of two segments
pub columns_plain : (f : ℤ → ℤ → ℤ → ℤ → Bool) (s t : Segment)
    → f (to_z w64 (of_z w64 s.x1)) (to_z w64 (of_z w64 s.x2)) (to_z w64 (of_z w64 t.x1)) (to_z w64 (of_z w64 t.x2)) ≡ f s.x1 s.x2 t.x1 t.x2
columns_plain f s t = four_plain f _ _ _ _ _ _ _ _ (plain s.x1 s.low_x1 s.high_x1) (plain s.x2 s.low_x2 s.high_x2)
    (plain t.x1 t.low_x1 t.high_x1) (plain t.x2 t.low_x2 t.high_x2)

-- and their rows
pub rows_plain : (f : ℤ → ℤ → ℤ → ℤ → Bool) (s t : Segment)
    → f (to_z w64 (of_z w64 s.y1)) (to_z w64 (of_z w64 s.y2)) (to_z w64 (of_z w64 t.y1)) (to_z w64 (of_z w64 t.y2)) ≡ f s.y1 s.y2 t.y1 t.y2
rows_plain f s t = four_plain f _ _ _ _ _ _ _ _ (plain s.y1 s.low_y1 s.high_y1) (plain s.y2 s.low_y2 s.high_y2)
    (plain t.y1 t.low_y1 t.high_y1) (plain t.y2 t.low_y2 t.high_y2)

product_plain : (a b c d m n p : ℤ) → SFits w64 a → SFits w64 b → SFits w64 c → SFits w64 d → SFits w64 m
    → SFits w64 n → m ≡ (to_z w64 (of_z w64 a) -ℤ to_z w64 (of_z w64 b))
    → n ≡ (to_z w64 (of_z w64 c) -ℤ to_z w64 (of_z w64 d))
    → p ≡ (to_z w64 (of_z w64 m) *ℤ to_z w64 (of_z w64 n)) → p ≡ ((a -ℤ b) *ℤ (c -ℤ d))
product_plain a b c d m n p fa fb fc fd fm fn em en ep =
    let e : m ≡ (a -ℤ b) = simp to_z-of_z at em in
    let g : n ≡ (c -ℤ d) = simp to_z-of_z at en in
    rw (← e, ← g) (simp to_z-of_z at ep)

-- how far a segment rises, times how far a column lies behind its first end
pub rise_plain : (s : Segment) (x m n p : ℤ) → SFits w64 x → SFits w64 m → SFits w64 n
    → m ≡ (to_z w64 (of_z w64 s.y2) -ℤ to_z w64 (of_z w64 s.y1))
    → n ≡ (to_z w64 (of_z w64 x) -ℤ to_z w64 (of_z w64 s.x1))
    → p ≡ (to_z w64 (of_z w64 m) *ℤ to_z w64 (of_z w64 n)) → p ≡ ((s.y2 -ℤ s.y1) *ℤ (x -ℤ s.x1))
rise_plain s x m n p f fm fn em en ep = product_plain s.y2 s.y1 x s.x1 m n p (coordinate_fits s.y2 s.low_y2 s.high_y2)
    (coordinate_fits s.y1 s.low_y1 s.high_y1) f (coordinate_fits s.x1 s.low_x1 s.high_x1) fm fn em en ep

-- how far it runs, times how far a row lies above its first end
pub run_plain : (s : Segment) (y m n p : ℤ) → SFits w64 y → SFits w64 m → SFits w64 n
    → m ≡ (to_z w64 (of_z w64 s.x2) -ℤ to_z w64 (of_z w64 s.x1))
    → n ≡ (to_z w64 (of_z w64 y) -ℤ to_z w64 (of_z w64 s.y1))
    → p ≡ (to_z w64 (of_z w64 m) *ℤ to_z w64 (of_z w64 n)) → p ≡ ((s.x2 -ℤ s.x1) *ℤ (y -ℤ s.y1))
run_plain s y m n p f fm fn em en ep = product_plain s.x2 s.x1 y s.y1 m n p (coordinate_fits s.x2 s.low_x2 s.high_x2)
    (coordinate_fits s.x1 s.low_x1 s.high_x1) f (coordinate_fits s.y1 s.low_y1 s.high_y1) fm fn em en ep

-- ---- the places where links leave

small_plain : (z : ℤ) → neg_ℤ (pos (2 ^ 30)) ≤ℤ z → z ≤ℤ pos (2 ^ 30) → to_z w64 (of_z w64 z) ≡ z
small_plain z f g = plain z (omega signed) (omega signed)

double_plain : (z : ℤ) → neg_ℤ (pos (2 ^ 30)) ≤ℤ z → z ≤ℤ pos (2 ^ 30) → to_z w64 (of_z w64 (pos 2 *ℤ to_z w64 (of_z w64 z))) ≡ pos 2 *ℤ z
double_plain z f g =
    let low : neg_ℤ (pos (2 ^ 31)) ≤ℤ (pos 2 *ℤ z) = omega signed in
    let high : (pos 2 *ℤ z) ≤ℤ pos (2 ^ 31) = omega signed in
    rw (small_plain z f g) (plain (pos 2 *ℤ z) low high)

sum_plain : (p q : ℤ) → neg_ℤ (pos (2 ^ 30)) ≤ℤ p → p ≤ℤ pos (2 ^ 30) → neg_ℤ (pos (2 ^ 30)) ≤ℤ q
    → q ≤ℤ pos (2 ^ 30) → to_z w64 (of_z w64 (to_z w64 (of_z w64 p) +ℤ to_z w64 (of_z w64 q))) ≡ p +ℤ q
sum_plain p q f g h k =
    let low : neg_ℤ (pos (2 ^ 31)) ≤ℤ (p +ℤ q) = omega signed in
    let high : (p +ℤ q) ≤ℤ pos (2 ^ 31) = omega signed in
    rw (small_plain p f g, small_plain q h k) (plain (p +ℤ q) low high)

pub leaving_shared : (a1 a2 b1 b2 from to : ℤ) → from ≡ int_max a1 b1 → to ≡ int_min a2 b2
    → int_lt from to ≡ true → neg_ℤ (pos (2 ^ 30)) ≤ℤ a1 → a1 ≤ℤ pos (2 ^ 30) → neg_ℤ (pos (2 ^ 30)) ≤ℤ a2
    → a2 ≤ℤ pos (2 ^ 30) → neg_ℤ (pos (2 ^ 30)) ≤ℤ b1 → b1 ≤ℤ pos (2 ^ 30) → neg_ℤ (pos (2 ^ 30)) ≤ℤ b2
    → b2 ≤ℤ pos (2 ^ 30)
    → to_z w64 (of_z w64 (to_z w64 (of_z w64 from) +ℤ to_z w64 (of_z w64 to))) ≡ leaving a1 a2 b1 b2
leaving_shared a1 a2 b1 b2 from to ef et t la1 ha1 la2 ha2 lb1 hb1 lb2 hb2 =
    let test : int_lt (int_max a1 b1) (int_min a2 b2) ≡ true = rw (← ef, ← et) t in
    let whole : (from +ℤ to) ≡ (int_max a1 b1 +ℤ int_min a2 b2) = rw (ef, et) refl in
    sum_plain from to (omega signed) (omega signed) (omega signed) (omega signed) ∙ whole ∙ sym (cond-true _ _ _ test)

pub leaving_behind : (a1 a2 b1 b2 from to : ℤ) → from ≡ int_max a1 b1 → to ≡ int_min a2 b2
    → int_lt from to ≡ false → int_le a2 b1 ≡ true → neg_ℤ (pos (2 ^ 30)) ≤ℤ a2 → a2 ≤ℤ pos (2 ^ 30)
    → to_z w64 (of_z w64 (pos 2 *ℤ to_z w64 (of_z w64 a2))) ≡ leaving a1 a2 b1 b2
leaving_behind a1 a2 b1 b2 from to ef et t s low high =
    let test : int_lt (int_max a1 b1) (int_min a2 b2) ≡ false = rw (← ef, ← et) t in
    double_plain a2 low high ∙ sym (cond-false _ _ _ test ∙ cond-true _ _ _ s)

pub leaving_before : (a1 a2 b1 b2 from to : ℤ) → from ≡ int_max a1 b1 → to ≡ int_min a2 b2
    → int_lt from to ≡ false → int_le a2 b1 ≡ false → neg_ℤ (pos (2 ^ 30)) ≤ℤ a1 → a1 ≤ℤ pos (2 ^ 30)
    → to_z w64 (of_z w64 (pos 2 *ℤ to_z w64 (of_z w64 a1))) ≡ leaving a1 a2 b1 b2
leaving_before a1 a2 b1 b2 from to ef et t s low high =
    let test : int_lt (int_max a1 b1) (int_min a2 b2) ≡ false = rw (← ef, ← et) t in
    double_plain a1 low high ∙ sym (cond-false _ _ _ test ∙ cond-false _ _ _ s)

-- ---- segments as their ends

ends_same : (x1 y1 x2 y2 p1 q1 p2 q2 : ℤ) → x1 ≡ p1 → y1 ≡ q1 → x2 ≡ p2 → y2 ≡ q2
    → ◌≡◌ {A = Ends} (record { x1 = x1; y1 = y1; x2 = x2; y2 = y2 }) (record { x1 = p1; y1 = q1; x2 = p2; y2 = q2 })
ends_same x1 y1 x2 y2 p1 q1 p2 q2 a b c d = rw (a, b, c, d) refl

pub link_plain : (a b : Rect) (x1 y1 x2 y2 : ℤ) → neg_ℤ (pos (2 ^ 31)) ≤ℤ x1 → x1 ≤ℤ pos (2 ^ 31) →
    neg_ℤ (pos (2 ^ 31)) ≤ℤ y1 → y1 ≤ℤ pos (2 ^ 31) → neg_ℤ (pos (2 ^ 31)) ≤ℤ x2 → x2 ≤ℤ pos (2 ^ 31) →
    neg_ℤ (pos (2 ^ 31)) ≤ℤ y2 → y2 ≤ℤ pos (2 ^ 31) →
    x1 ≡ leaving (to_z w64 (of_z w64 a.x1)) (to_z w64 (of_z w64 a.x2)) (to_z w64 (of_z w64 b.x1))
    (to_z w64 (of_z w64 b.x2)) → y1 ≡ leaving (to_z w64 (of_z w64 a.y1)) (to_z w64 (of_z w64 a.y2))
    (to_z w64 (of_z w64 b.y1)) (to_z w64 (of_z w64 b.y2)) →
    x2 ≡ leaving (to_z w64 (of_z w64 b.x1)) (to_z w64 (of_z w64 b.x2)) (to_z w64 (of_z w64 a.x1))
    (to_z w64 (of_z w64 a.x2)) → y2 ≡ leaving (to_z w64 (of_z w64 b.y1)) (to_z w64 (of_z w64 b.y2))
    (to_z w64 (of_z w64 a.y1)) (to_z w64 (of_z w64 a.y2)) →
    ◌≡◌ {A = Ends} (record {
      x1 = to_z w64 (of_z w64 x1);
      y1 = to_z w64 (of_z w64 y1);
      x2 = to_z w64 (of_z w64 x2);
      y2 =
          to_z w64 (of_z w64 y2);
    }) (link_between (corners_of a) (corners_of b))
link_plain a b x1 y1 x2 y2 f1 g1 f2 g2 f3 g3 f4 g4 e1 e2 e3 e4 =
    ends_same _ _ _ _ _ _ _ _ (plain x1 f1 g1 ∙ e1 ∙ same (corner a.x1 a.left (low _ _ a.wide a.right))
    (corner a.x2 (high _ _ a.wide a.left) a.right) (corner b.x1 b.left (low _ _ b.wide b.right))
    (corner b.x2 (high _ _ b.wide b.left) b.right))
    (plain y1 f2 g2 ∙ e2 ∙ same (corner a.y1 a.below (low _ _ a.high a.above))
    (corner a.y2 (high _ _ a.high a.below) a.above) (corner b.y1 b.below (low _ _ b.high b.above))
    (corner b.y2 (high _ _ b.high b.below) b.above))
    (plain x2 f3 g3 ∙ e3 ∙ same (corner b.x1 b.left (low _ _ b.wide b.right))
    (corner b.x2 (high _ _ b.wide b.left) b.right) (corner a.x1 a.left (low _ _ a.wide a.right))
    (corner a.x2 (high _ _ a.wide a.left) a.right))
    (plain y2 f4 g4 ∙ e4 ∙ same (corner b.y1 b.below (low _ _ b.high b.above))
    (corner b.y2 (high _ _ b.high b.below) b.above) (corner a.y1 a.below (low _ _ a.high a.above))
    (corner a.y2 (high _ _ a.high a.below) a.above))
  where
    corner : (z : ℤ) → neg_ℤ (pos (2 ^ 30)) ≤ℤ z → z ≤ℤ pos (2 ^ 30) → to_z w64 (of_z w64 z) ≡ z
    corner z f g = small_plain z f g

    low : (p q : ℤ) → p <ℤ q → q ≤ℤ pos (2 ^ 30) → p ≤ℤ pos (2 ^ 30)
    low p q f g = omega signed

    high : (p q : ℤ) → p <ℤ q → neg_ℤ (pos (2 ^ 30)) ≤ℤ p → neg_ℤ (pos (2 ^ 30)) ≤ℤ q
    high p q f g = omega signed

    same : {p q r s p' q' r' s' : ℤ} → p ≡ p' → q ≡ q' → r ≡ r' → s ≡ s' → leaving p q r s ≡ leaving p' q' r' s'
    same a b c d = rw (a, b, c, d) refl

below_of : (p q : ℤ) → p <ℤ q → q ≤ℤ pos (2 ^ 30) → p ≤ℤ pos (2 ^ 30)
below_of p q f g = omega signed

above_of : (p q : ℤ) → p <ℤ q → neg_ℤ (pos (2 ^ 30)) ≤ℤ p → neg_ℤ (pos (2 ^ 30)) ≤ℤ q
above_of p q f g = omega signed

pub diagonal_plain : (r : Rect) → ◌≡◌ {A = Ends} (record {
  x1 = to_z w64 (of_z w64 (pos 2 *ℤ to_z w64 (of_z w64 r.x1)));
  y1 =
      to_z w64 (of_z w64 (pos 2 *ℤ to_z w64 (of_z w64 r.y1)));
  x2 =
      to_z w64 (of_z w64 (pos 2 *ℤ to_z w64 (of_z w64 r.x2)));
  y2 =
      to_z w64 (of_z w64 (pos 2 *ℤ to_z w64 (of_z w64 r.y2)));
}) (diagonal (corners_of r))
diagonal_plain r = ends_same _ _ _ _ _ _ _ _ (double_plain r.x1 r.left (below_of _ _ r.wide r.right))
    (double_plain r.y1 r.below (below_of _ _ r.high r.above)) (double_plain r.x2 (above_of _ _ r.wide r.left) r.right)
    (double_plain r.y2 (above_of _ _ r.high r.below) r.above)

pub other_plain : (r : Rect) → ◌≡◌ {A = Ends} (record {
  x1 = to_z w64 (of_z w64 (pos 2 *ℤ to_z w64 (of_z w64 r.x1)));
  y1 = to_z w64 (of_z w64 (pos 2 *ℤ to_z w64 (of_z w64 r.y2)));
  x2 =
      to_z w64 (of_z w64 (pos 2 *ℤ to_z w64 (of_z w64 r.x2)));
  y2 =
      to_z w64 (of_z w64 (pos 2 *ℤ to_z w64 (of_z w64 r.y1)));
}) (other_diagonal (corners_of r))
other_plain r = ends_same _ _ _ _ _ _ _ _ (double_plain r.x1 r.left (below_of _ _ r.wide r.right))
    (double_plain r.y2 (above_of _ _ r.high r.below) r.above) (double_plain r.x2 (above_of _ _ r.wide r.left) r.right)
    (double_plain r.y1 r.below (below_of _ _ r.high r.above))
