-- Ports of rectangles that are moved, mirrored or turned over.
use Rattle.std.proofs.Common.{arith, ◌≡◌, ◌⊎◌, inl, inr, ℕ, ◌+◌, ◌*◌, ◌==◌, ℤ}
use Rattle.std.proofs.Common.{neg_ℤ, ◌+ℤ◌, ◌<ℤ◌, ◌≤ℤ◌, refl, sym, ap, ◌∙◌, Bool, true, false, if◌then◌else◌}
use Rattle.std.proofs.Common.{int_lt}
use Rattle.std.specs.Prelude.{◌||◌}
use Rattle.std.specs.Int.{int_max, int_min}
use Rattle.std.proofs.lemmas.Bool.{cases_Bool}
use Rattle.dpl_list.proofs.Integers.{signed, less_test, is_less, no_less_test, not_less}
use Rattle.dpl_cell.specs.declared.types.Facing.{Facing}
use Rattle.dpl_cell.specs.declared.types.Facing.TheVariants.{Side, Corner}
use Rattle.dpl_cell.specs.Places.{Corners}
use Rattle.dpl_cell.specs.Gaps.{overlap}
use Rattle.dpl_cell.specs.Facing.{IsFacing}
use Rattle.dpl_cell.specs.Images.{moved, mirrored, transposed, mirrored_port, transposed_port}
use Rattle.dpl_cell.proofs.ImageLemmas.{moved_level, moved_upright, moved_corner, mirrored_level}
use Rattle.dpl_cell.proofs.ImageLemmas.{mirrored_upright, mirrored_corner, transposed_level, transposed_upright, transposed_corner}
use Rattle.dpl_sign.specs.declared.ports.Port.{Port}
use Rattle.dpl_sign.specs.Redrawn.{IsMovedPort, IsMirroredPort, IsTransposedPort}
use Rattle.dpl_links.specs.Pairs.{stretch_gap}
use Rattle.dpl_links.specs.Ports.{side_key, IsPort, IsPortTo, LeavesAt}
use Rattle.dpl_links.specs.Moving.{key_shift}
use Rattle.dpl_cell.proofs.BoxLemmas.{HasCell}
use Rattle.dpl_links.proofs.FacedLemmas.{port_says, port_is}

-- ---- moved

level_key : (port : ℕ) (from to right up : ℤ) → (port ≡ 1) ⊎ (port ≡ 5)
    → side_key port from to +ℤ key_shift right up port ≡ side_key port (from +ℤ right) (to +ℤ right)
level_key port from to right up (inl e) = rw e (omega signed)
level_key port from to right up (inr e) = rw e (omega signed)

upright_key : (port : ℕ) (from to right up : ℤ) → (port ≡ 3) ⊎ (port ≡ 7)
    → side_key port from to +ℤ key_shift right up port ≡ side_key port (from +ℤ up) (to +ℤ up)
upright_key port from to right up (inl e) = rw e (omega signed)
upright_key port from to right up (inr e) = rw e (omega signed)

either_side : {A B C D : Type 0} → (A × C) ⊎ (B × D) → A ⊎ B
either_side (inl h) = inl h.0
either_side (inr h) = inr h.0

moved_key : (right up : ℤ) (p q : Port) (port : ℕ) (x y : ℤ) → IsMovedPort (key_shift right up) p q
    → p.side ≡ port → p.key ≡ x → x +ℤ key_shift right up port ≡ y → q.key ≡ y
moved_key right up p q port x y m s k e = m.key ∙ ap (λ z. p.key +ℤ key_shift right up z) s ∙ ap (λ z. z +ℤ key_shift right up port) k ∙ e

moved_lies : (right up : ℤ) (a b : Corners) (p q : Port) (lies : Facing)
    → IsMovedPort (key_shift right up) p q → IsFacing a b lies → IsPort lies p
    → LeavesAt (moved right up a) (moved right up b) q
moved_lies right up a b p q (Side port from to) m (inl f) i = record {
  lies = Side port (from +ℤ right) (to +ℤ right);
  facing = inl (moved_level right up a b port from to f);
  port = (
    m.side ∙ i.0,
    moved_key right up p q port (side_key port from to) (side_key port (from +ℤ right) (to +ℤ right)) m i.0 i.1
        (level_key port from to right up (either_side f.side)),
  );
}
moved_lies right up a b p q (Side port from to) m (inr f) i = record {
  lies = Side port (from +ℤ up) (to +ℤ up);
  facing = inr (moved_upright right up a b port from to f);
  port = (
    m.side ∙ i.0,
    moved_key right up p q port (side_key port from to) (side_key port (from +ℤ up) (to +ℤ up)) m i.0 i.1
        (upright_key port from to right up (either_side f.side)),
  );
}
moved_lies right up a b p q (Corner port dx dy) m f i = record {
  lies = Corner port dx dy;
  facing = moved_corner right up a b port dx dy f;
  port = (m.side ∙ i.0, m.dx ∙ i.1, m.dy ∙ i.2);
}

moved_cell : (right up : ℤ) (r : Corners) → HasCell r → HasCell (moved right up r)
moved_cell right up r h = let x = h.0 in let y = h.1 in (omega signed, omega signed)

pub moved_port : (right up : ℤ) (a b : Corners) (p q : Port) → HasCell a → HasCell b → IsMovedPort (key_shift right up) p q
    → IsPortTo a b p → IsPortTo (moved right up a) (moved right up b) q
moved_port right up a b p q f g m t =
    let s = port_says a b p f g t in
    port_is (moved right up a) (moved right up b) q (moved_cell right up a f) (moved_cell right up b g)
    (moved_lies right up a b p q s.lies m s.facing s.port)

-- ---- mirrored

level_turned : (port : ℕ) (from to : ℤ) → (port ≡ 1) ⊎ (port ≡ 5) → neg_ℤ (side_key port from to) ≡ side_key (mirrored_port port) (neg_ℤ to) (neg_ℤ from)
level_turned port from to (inl e) = rw e (omega signed)
level_turned port from to (inr e) = rw e (omega signed)

upright_turned : (port : ℕ) (from to : ℤ) → (port ≡ 3) ⊎ (port ≡ 7) → neg_ℤ (side_key port from to) ≡ side_key (mirrored_port port) from to
upright_turned port from to (inl e) = rw e (omega signed)
upright_turned port from to (inr e) = rw e (omega signed)

mirrored_lies : (a b : Corners) (p q : Port) (lies : Facing) → IsMirroredPort p q → IsFacing a b lies
    → IsPort lies p → LeavesAt (mirrored a) (mirrored b) q
mirrored_lies a b p q (Side port from to) m (inl f) i = record {
  lies = Side (mirrored_port port) (neg_ℤ to) (neg_ℤ from);
  facing = inl (mirrored_level a b port from to f);
  port = (m.side ∙ ap mirrored_port i.0, m.key ∙ ap neg_ℤ i.1 ∙ level_turned port from to (either_side f.side));
}
mirrored_lies a b p q (Side port from to) m (inr f) i = record {
  lies = Side (mirrored_port port) from to;
  facing = inr (mirrored_upright a b port from to f);
  port = (m.side ∙ ap mirrored_port i.0, m.key ∙ ap neg_ℤ i.1 ∙ upright_turned port from to (either_side f.side));
}
mirrored_lies a b p q (Corner port dx dy) m f i = record {
  lies = Corner (mirrored_port port) dx dy;
  facing = mirrored_corner a b port dx dy f;
  port = (m.side ∙ ap mirrored_port i.0, m.dx ∙ i.1, m.dy ∙ i.2);
}

mirrored_cell : (r : Corners) → HasCell r → HasCell (mirrored r)
mirrored_cell r h = let x = h.0 in (omega signed, h.1)

pub mirrored_port_to : (a b : Corners) (p q : Port) → HasCell a → HasCell b → IsMirroredPort p q → IsPortTo a b p
    → IsPortTo (mirrored a) (mirrored b) q
mirrored_port_to a b p q f g m t =
    let s = port_says a b p f g t in
    port_is (mirrored a) (mirrored b) q (mirrored_cell a f) (mirrored_cell b g)
    (mirrored_lies a b p q s.lies m s.facing s.port)

-- ---- turned over

level_over : (port : ℕ) (from to : ℤ) → (port ≡ 1) ⊎ (port ≡ 5) → neg_ℤ (side_key port from to) ≡ side_key (transposed_port port) from to
level_over port from to (inl e) = rw e (omega signed)
level_over port from to (inr e) = rw e (omega signed)

upright_over : (port : ℕ) (from to : ℤ) → (port ≡ 3) ⊎ (port ≡ 7) → neg_ℤ (side_key port from to) ≡ side_key (transposed_port port) from to
upright_over port from to (inl e) = rw e (omega signed)
upright_over port from to (inr e) = rw e (omega signed)

transposed_lies : (a b : Corners) (p q : Port) (lies : Facing) → IsTransposedPort p q → IsFacing a b lies
    → IsPort lies p → LeavesAt (transposed a) (transposed b) q
transposed_lies a b p q (Side port from to) m (inl f) i = record {
  lies = Side (transposed_port port) from to;
  facing = inr (transposed_level a b port from to f);
  port = (m.side ∙ ap transposed_port i.0, m.key ∙ ap neg_ℤ i.1 ∙ level_over port from to (either_side f.side));
}
transposed_lies a b p q (Side port from to) m (inr f) i = record {
  lies = Side (transposed_port port) from to;
  facing = inl (transposed_upright a b port from to f);
  port = (m.side ∙ ap transposed_port i.0, m.key ∙ ap neg_ℤ i.1 ∙ upright_over port from to (either_side f.side));
}
transposed_lies a b p q (Corner port dx dy) m f i =
    let e : dx + dy ≡ dy + dx = omega arith in
    record {
      lies = Corner (transposed_port port) dy dx;
      facing = transposed_corner a b port dx dy f;
      port = (m.side ∙ ap transposed_port i.0, m.dx ∙ i.2 ∙ ap (λ z. if z == 0 then 1 else dy) e, m.dy ∙ i.1 ∙ ap (λ z. if z == 0 then 1 else dx) e);
    }

pub transposed_port_to : (a b : Corners) (p q : Port) → HasCell a → HasCell b → IsTransposedPort p q → IsPortTo a b p
    → IsPortTo (transposed a) (transposed b) q
transposed_port_to a b p q f g m t =
    let s = port_says a b p f g t in
    port_is (transposed a) (transposed b) q (f.1, f.0) (g.1, g.0) (transposed_lies a b p q s.lies m s.facing s.port)

-- ---- gaps and ranks of links

pub moved_stretch : (by a1 a2 b1 b2 : ℤ) → stretch_gap (a1 +ℤ by) (a2 +ℤ by) (b1 +ℤ by) (b2 +ℤ by) ≡ stretch_gap a1 a2 b1 b2
moved_stretch by a1 a2 b1 b2 = omega signed

pub flipped_stretch : (a1 a2 b1 b2 : ℤ) → stretch_gap (neg_ℤ a2) (neg_ℤ a1) (neg_ℤ b2) (neg_ℤ b1) ≡ stretch_gap a1 a2 b1 b2
flipped_stretch a1 a2 b1 b2 = omega signed

test_alike : (x y u v : ℤ) → (x <ℤ y → u <ℤ v) → (u <ℤ v → x <ℤ y) → int_lt x y ≡ int_lt u v
test_alike x y u v f g = elim (cases_Bool (int_lt u v)) [
  | inl t ↦ less_test x y (g (is_less u v t)) ∙ sym t
  | inr t ↦ no_less_test x y (not_below x y (λ h. above u v (not_less u v t) (f h))) ∙ sym t
] where
  above : (u v : ℤ) → v ≤ℤ u → u <ℤ v → ⊥
  above u v h g = omega signed

  not_below : (x y : ℤ) → (x <ℤ y → ⊥) → y ≤ℤ x
  not_below x y h = elim (cases_Bool (int_lt x y)) [ inl t ↦ absurd (h (is_less x y t)) | inr t ↦ not_less x y t ]

pub moved_overlap : (by a1 a2 b1 b2 : ℤ) → overlap (a1 +ℤ by) (a2 +ℤ by) (b1 +ℤ by) (b2 +ℤ by) ≡ overlap a1 a2 b1 b2
moved_overlap by a1 a2 b1 b2 = test_alike (int_max (a1 +ℤ by) (b1 +ℤ by)) (int_min (a2 +ℤ by) (b2 +ℤ by)) (int_max a1 b1) (int_min a2 b2)
    (λ h. omega signed) (λ h. omega signed)

pub flipped_overlap : (a1 a2 b1 b2 : ℤ) → overlap (neg_ℤ a2) (neg_ℤ a1) (neg_ℤ b2) (neg_ℤ b1) ≡ overlap a1 a2 b1 b2
flipped_overlap a1 a2 b1 b2 = test_alike (int_max (neg_ℤ a2) (neg_ℤ b2)) (int_min (neg_ℤ a1) (neg_ℤ b1)) (int_max a1 b1) (int_min a2 b2)
    (λ h. omega signed) (λ h. omega signed)

-- the squared gap from the gaps of columns and rows
abbrev squares : ℕ → ℕ → ℕ
squares m n = m * m + n * n

pub gap_alike : (m n k l : ℕ) → m ≡ k → n ≡ l → m * m + n * n ≡ k * k + l * l
gap_alike m n k l e f = ap (λ z. squares z n) e ∙ ap (λ z. squares k z) f

abbrev pub rank_of : Bool → ℕ
rank_of b = if b then 0 else 1

pub rank_alike : (p q r s : Bool) → p ≡ r → q ≡ s → rank_of (p || q) ≡ rank_of (r || s)
rank_alike p q r s e f = ap (λ z. rank_of (z || q)) e ∙ ap (λ z. rank_of (r || z)) f

pub or_over : (p q : Bool) → (p || q) ≡ (q || p)
or_over true true = refl
or_over true false = refl
or_over false true = refl
or_over false false = refl
