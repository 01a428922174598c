-- The cells of a layout lie within bounds, so that each has an outermost neighbour on each side.
use Rattle.std.proofs.Common.{◌≡◌, ℕ, zero, suc, ◌+◌, ◌^◌, ℤ, pos, neg_ℤ, ◌+ℤ◌, ◌-ℤ◌, ◌<ℤ◌, ◌≤ℤ◌, List, get_or, All, inl, inr, ◌⊎◌, Bool, true, false, map}
use Rattle.std.proofs.lemmas.Int.{by_lt_z}
use Rattle.std.specs.Int.RustNames.{unsigned_abs}
use Rattle.std.proofs.lemmas.List.Elements.{All-map, All-weaker}
use Rattle.dpl_cell.specs.declared.rect.Rect.{Rect}
use Rattle.dpl_cell.specs.declared.point.Point.{Point}
use Rattle.dpl_cell.specs.declared.layout.Primitive.{Primitive}
use Rattle.dpl_cell.specs.declared.layout.Primitive.TheVariants as prim
use Rattle.dpl_cell.specs.Places.{place_of}
use Rattle.dpl_cell.specs.Cells.{IsWithin}
use Rattle.dpl_cell.specs.Ranges.{IsInRange}
use Rattle.dpl_cell.specs.Outlines.{Outline, Box, Polygon, outline_of}
use Rattle.dpl_cell.specs.Layers.{is_cell}
use Rattle.dpl_list.proofs.Integers.{signed}
use Rattle.dpl_tiles.proofs.OutlineLemmas.{AllRows, AllColumns, Lies, no_row, no_column, at_most, above}

-- ---- bounds

-- no cell lies beyond the coordinates of the grid
pub record IsBounded (cells : ℤ → ℤ → Bool) : Type 0 where
  pub left : (x y : ℤ) → x <ℤ neg_ℤ (pos (2 ^ 30)) → cells x y ≡ false
  pub right : (x y : ℤ) → pos (2 ^ 30) ≤ℤ x → cells x y ≡ false
  pub below : (x y : ℤ) → y <ℤ neg_ℤ (pos (2 ^ 30)) → cells x y ≡ false
  pub above : (x y : ℤ) → pos (2 ^ 30) ≤ℤ y → cells x y ≡ false

columns_weaker : (C D : ℤ → Type 0) → ((c : ℤ) → C c → D c) → (o : Outline) → AllColumns C o → AllColumns D o
columns_weaker C D f (Box r) (a, b) = (f _ a, f _ b)
columns_weaker C D f (Polygon ps) a = All-weaker (λ p. C p.0) (λ p. D p.0) (λ p h. f p.0 h) ps a

rows_weaker : (C D : ℤ → Type 0) → ((c : ℤ) → C c → D c) → (o : Outline) → AllRows C o → AllRows D o
rows_weaker C D f (Box r) (a, b) = (f _ a, f _ b)
rows_weaker C D f (Polygon ps) a = All-weaker (λ p. C p.1) (λ p. D p.1) (λ p h. f p.1 h) ps a

part_columns : (part : Primitive) → AllColumns IsInRange (outline_of part)
part_columns (prim.Box r) = (low r, high r) where
  low : (r : Rect) → IsInRange r.x1
  low r = record { low = r.left; high = let w = r.wide in let h = r.right in omega signed }

  high : (r : Rect) → IsInRange r.x2
  high r = record { low = let w = r.wide in let h = r.left in omega signed; high = r.right }
part_columns (prim.Poly ps) = All-map (λ p. IsInRange p.0) place_of ps (λ k d l. place (get_or ps k d)) where
  place : (p : Point) → IsInRange p.x
  place p = record { low = p.left; high = p.right }

part_rows : (part : Primitive) → AllRows IsInRange (outline_of part)
part_rows (prim.Box r) = (low r, high r) where
  low : (r : Rect) → IsInRange r.y1
  low r = record { low = r.below; high = let w = r.high in let h = r.above in omega signed }

  high : (r : Rect) → IsInRange r.y2
  high r = record { low = let w = r.high in let h = r.below in omega signed; high = r.above }
part_rows (prim.Poly ps) = All-map (λ p. IsInRange p.1) place_of ps (λ k d l. place (get_or ps k d)) where
  place : (p : Point) → IsInRange p.y
  place p = record { low = p.below; high = p.above }

all_columns : (C : ℤ → Type 0) (prims : List Primitive) → ((c : ℤ) → IsInRange c → C c) → All (AllColumns C) (map outline_of prims)
all_columns C prims f = All-map (AllColumns C) outline_of prims (λ k d l. columns_weaker IsInRange C f _ (part_columns _))

all_rows : (C : ℤ → Type 0) (prims : List Primitive) → ((c : ℤ) → IsInRange c → C c) → All (AllRows C) (map outline_of prims)
all_rows C prims f = All-map (AllRows C) outline_of prims (λ k d l. rows_weaker IsInRange C f _ (part_rows _))

pub far_left : (x c : ℤ) → x <ℤ neg_ℤ (pos (2 ^ 30)) → IsInRange c → Lies false x c
far_left x c h r = above c x (let g = r.low in omega signed)

pub far_right : (x c : ℤ) → pos (2 ^ 30) ≤ℤ x → IsInRange c → Lies true x c
far_right x c h r = at_most c x (let g = r.high in omega signed)

pub bounded : (prims : List Primitive) → IsBounded (is_cell (map outline_of prims))
bounded prims = record {
  left = λ x y h. no_column false x y (map outline_of prims) (all_columns (Lies false x) prims (λ c r. far_left x c h r));
  right = λ x y h. no_column true x y (map outline_of prims) (all_columns (Lies true x) prims (λ c r. far_right x c h r));
  below = λ x y h. no_row false x y (map outline_of prims) (all_rows (Lies false y) prims (λ c r. far_left y c h r));
  above = λ x y h. no_row true x y (map outline_of prims) (all_rows (Lies true y) prims (λ c r. far_right y c h r));
}

-- ---- maximal stretches of a property of whole numbers

-- a stretch of the property around a number, as long as can be
pub record IsAround (P : ℤ → Type 0) (z a b : ℤ) : Type 0 where
  pub inside : IsWithin a b z
  pub each : (w : ℤ) → IsWithin a b w → P w
  pub before : ¬ P (a -ℤ pos 1)
  pub after : ¬ P b

record StartsAt (P : ℤ → Type 0) (z a : ℤ) : Type 0 where
  from : a ≤ℤ z
  each : (w : ℤ) → IsWithin a (z +ℤ pos 1) w → P w
  before : ¬ P (a -ℤ pos 1)

record EndsAt (P : ℤ → Type 0) (z b : ℤ) : Type 0 where
  to : z <ℤ b
  each : (w : ℤ) → IsWithin z b w → P w
  after : ¬ P b

only : (a z : ℤ) → IsWithin a (a +ℤ pos 1) z → z ≡ a
only a z w = let h = w.from in let g = w.to in omega signed

at_only : (P : ℤ → Type 0) (a w : ℤ) → P a → w ≡ a → P w
at_only P a w p e = rw e p

start_of : (P : ℤ → Type 0) → ((z : ℤ) → P z ⊎ ¬ P z) → (low : ℤ) → ((z : ℤ) → z <ℤ low → ¬ P z) → (n : ℕ) (z : ℤ) →
    P z → z <ℤ (low +ℤ pos n) → (a : ℤ) × StartsAt P z a
start_of P decide low none zero z p h = absurd (none z (omega signed) p)
start_of P decide low none (suc n) z p h = elim (decide (z -ℤ pos 1)) [
  | inr q ↦ (z, record { from = omega signed; each = λ w v. at_only P z w p (only z w v); before = q })
  | inl q ↦ let (a, s) = start_of P decide low none n (z -ℤ pos 1) q (omega signed) in
      let f = s.from in (
        a,
        record {
          from = omega signed;
          each = λ w v. by_lt_z w z (λ g. s.each w (let i = v.from in record { from = i; to = omega signed }))
              (λ g. at_only P z w p (let i = v.to in omega signed));
          before = s.before;
        },
      )
]

end_of : (P : ℤ → Type 0) → ((z : ℤ) → P z ⊎ ¬ P z) → (high : ℤ) → ((z : ℤ) → high ≤ℤ z → ¬ P z) → (n : ℕ) (z : ℤ) →
    P z → high <ℤ (z +ℤ pos n) → (b : ℤ) × EndsAt P z b
end_of P decide high none zero z p h = absurd (none z (omega signed) p)
end_of P decide high none (suc n) z p h = elim (decide (z +ℤ pos 1)) [
  | inr q ↦ (z +ℤ pos 1, record { to = omega signed; each = λ w v. at_only P z w p (only z w v); after = q })
  | inl q ↦ let (b, s) = end_of P decide high none n (z +ℤ pos 1) q (omega signed) in
      let f = s.to in (
        b,
        record {
          to = omega signed;
          each = λ w v. by_lt_z z w (λ g. s.each w (let i = v.to in record { from = omega signed; to = i }))
              (λ g. at_only P z w p (let i = v.from in omega signed));
          after = s.after;
        },
      )
]

distance : (a b : ℤ) → (n : ℕ) × (a <ℤ (b +ℤ pos n))
distance a b = (unsigned_abs (a -ℤ b) + 1, omega signed)

pub around : (P : ℤ → Type 0) → ((z : ℤ) → P z ⊎ ¬ P z) → (low high : ℤ) → ((z : ℤ) → z <ℤ low → ¬ P z)
    → ((z : ℤ) → high ≤ℤ z → ¬ P z) → (z : ℤ) → P z → (a : ℤ) × (b : ℤ) × IsAround P z a b
around P decide low high none_low none_high z p =
    let (n, h) = distance z low in
    let (m, g) = distance high z in
    let (a, s) = start_of P decide low none_low n z p h in
    let (b, e) = end_of P decide high none_high m z p g in (
      a,
      b,
      record {
        inside = record { from = s.from; to = e.to };
        each = λ w v. by_lt_z w z (λ i. s.each w (let j = v.from in record { from = j; to = omega signed })) (λ i. e.each w (record { from = i; to = v.to }));
        before = s.before;
        after = e.after;
      },
    )
