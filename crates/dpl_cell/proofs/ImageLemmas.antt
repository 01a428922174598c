-- What cells and rectangles keep when they are moved, mirrored or turned over.
use Rattle.std.proofs.Common.{arith, ◌≡◌, ◌↔◌, ◌⊎◌, inl, inr, ℕ, ◌+◌, ◌*◌, ◌<◌, ◌≤◌, ℤ, pos, neg_ℤ, ◌+ℤ◌, ◌-ℤ◌, ◌<ℤ◌}
use Rattle.std.proofs.Common.{Bool, IsTrue, List, [], ◌∷◌, map, Contains, refl, sym, ap, ◌∙◌, subst, get_or, length}
use Rattle.std.specs.Int.RustNames.{unsigned_abs}
use Rattle.std.proofs.lemmas.List.{get_or-map, length-map}
use Rattle.std.proofs.lemmas.List.Elements.{All-map}
use Rattle.dpl_list.proofs.Integers.{signed}
use Rattle.dpl_list.proofs.Lists.{all_pairs_map, contains_map, some_of}
use Rattle.std.proofs.lemmas.List.Elements.{All-contains}
use Rattle.dpl_cell.specs.Places.{Corners}
use Rattle.dpl_cell.specs.Cells.{IsWithin, IsIn}
use Rattle.dpl_cell.specs.Outlines.{Box}
use Rattle.dpl_cell.specs.Layers.{is_cell}
use Rattle.dpl_cell.specs.Gaps.{between, cell_gap2, IsGap2, AreClose}
use Rattle.dpl_cell.specs.Edges.{SharesEdge}
use Rattle.dpl_cell.specs.Shapes.{IsWalk, AreOneShape}
use Rattle.dpl_cell.specs.Tiles.{IsRun, IsTile, IsBefore, AreTiles}
use Rattle.dpl_cell.specs.Facing.{IsCommon, IsAhead, IsDistance, IsLeft, IsBelow, FacesLevel, FacesUpright, IsOffCorner}
use Rattle.dpl_cell.proofs.BoxLemmas.{is_true, holder, held, any_drawn}
use Rattle.dpl_cell.specs.Images.{moved_cells, moved, mirrored_cells, mirrored, transposed, mirrored_port, transposed_port}

-- ---- places

-- f takes places to places as far from each other, and g takes them back
pub record Carries (f g : ℤ → ℤ) : Type 0 where
  pub there : (k : ℤ) → f (g k) ≡ k
  pub back : (k : ℤ) → g (f k) ≡ k
  pub far : (x y : ℤ) → unsigned_abs (f x -ℤ f y) ≡ unsigned_abs (x -ℤ y)

-- f takes the places of one stretch to those of another
pub record IsImage (f g : ℤ → ℤ) (a b a' b' : ℤ) : Type 0 where
  pub to : (k : ℤ) → IsWithin a b k → IsWithin a' b' (f k)
  pub from : (k : ℤ) → IsWithin a' b' k → IsWithin a b (g k)

abbrev pub shift : ℤ → ℤ → ℤ
shift by k = k +ℤ by

abbrev pub unshift : ℤ → ℤ → ℤ
unshift by k = k -ℤ by

abbrev pub flip : ℤ → ℤ
flip k = neg_ℤ k -ℤ pos 1

abbrev pub same : ℤ → ℤ
same k = k

pub shifts : (by : ℤ) → Carries (shift by) (unshift by)
shifts by = record { there = λ k. omega signed; back = λ k. omega signed; far = λ x y. omega signed }

pub flips : Carries flip flip
flips = record { there = λ k. omega signed; back = λ k. omega signed; far = λ x y. omega signed }

pub stays : Carries same same
stays = record { there = λ k. refl; back = λ k. refl; far = λ x y. refl }

pub shifted : (by a b : ℤ) → IsImage (shift by) (unshift by) a b (a +ℤ by) (b +ℤ by)
shifted by a b = record {
  to = λ k w. let u = w.from in let v = w.to in record { from = omega signed; to = omega signed };
  from = λ k w. let u = w.from in let v = w.to in record { from = omega signed; to = omega signed };
}

pub flipped : (a b : ℤ) → IsImage flip flip a b (neg_ℤ b) (neg_ℤ a)
flipped a b = record {
  to = λ k w. let u = w.from in let v = w.to in record { from = omega signed; to = omega signed };
  from = λ k w. let u = w.from in let v = w.to in record { from = omega signed; to = omega signed };
}

pub stayed : (a b : ℤ) → IsImage same same a b a b
stayed a b = record { to = λ k w. w; from = λ k w. w }

far_back : (f g : ℤ → ℤ) → Carries f g → (x y : ℤ) → unsigned_abs (g x -ℤ g y) ≡ unsigned_abs (x -ℤ y)
far_back f g c x y = sym (c.far (g x) (g y)) ∙ ap (λ z. unsigned_abs (z -ℤ f (g y))) (c.there x) ∙ ap (λ z. unsigned_abs (x -ℤ z)) (c.there y)

within_at : (a b x y : ℤ) → x ≡ y → IsWithin a b x → IsWithin a b y
within_at a b x y e w = let P : ℤ → Type 0 = λ z. IsWithin a b z in subst P e w

-- ---- stretches

common_image : (f g : ℤ → ℤ) (from to a1 a2 b1 b2 from' to' a1' a2' b1' b2' : ℤ) → Carries f g
    → IsImage f g from to from' to' → IsImage f g a1 a2 a1' a2' → IsImage f g b1 b2 b1' b2' → from' <ℤ to'
    → IsCommon from to a1 a2 b1 b2 → IsCommon from' to' a1' a2' b1' b2'
common_image f g from to a1 a2 b1 b2 from' to' a1' a2' b1' b2' c r p q some t = record {
  some = some;
  each = λ k. (
    (λ w.
        let v = (t.each (g k)).0 (r.from k w) in
        (within_at a1' a2' (f (g k)) k (c.there k) (p.to (g k) v.0), within_at b1' b2' (f (g k)) k (c.there k) (q.to (g k) v.1))),
    (λ w. within_at from' to' (f (g k)) k (c.there k) (r.to (g k) ((t.each (g k)).1 (p.from k w.0, q.from k w.1)))),
  );
}

distance_image : (f g : ℤ → ℤ) (a1 a2 b1 b2 a1' a2' b1' b2' : ℤ) (n : ℕ) → Carries f g
    → IsImage f g a1 a2 a1' a2' → IsImage f g b1 b2 b1' b2' → IsDistance a1 a2 b1 b2 n
    → IsDistance a1' a2' b1' b2' n
distance_image f g a1 a2 b1 b2 a1' a2' b1' b2' n c p q d = record {
  none = λ k w v. d.none (g k) (p.from k w) (q.from k v);
  least = λ x y w v. let l : n ≤ between (g x) (g y) = d.least (g x) (g y) (p.from x w) (q.from y v) in rw (far_back f g c x y) at l;
  attained = let (x, y, w, v, e) = d.attained in (f x, f y, p.to x w, q.to y v, rw (c.far x y) e);
}

ahead_image : (f g : ℤ → ℤ) (a1 a2 b1 b2 a1' a2' b1' b2' : ℤ) → IsImage f g a1 a2 a1' a2'
    → IsImage f g b1 b2 b1' b2' → ((x y : ℤ) → g x <ℤ g y → x <ℤ y) → IsAhead a1 a2 b1 b2
    → IsAhead a1' a2' b1' b2'
ahead_image f g a1 a2 b1 b2 a1' a2' b1' b2' p q rises t x y w v = rises x y (t (g x) (g y) (p.from x w) (q.from y v))

ahead_turned : (f g : ℤ → ℤ) (a1 a2 b1 b2 a1' a2' b1' b2' : ℤ) → IsImage f g a1 a2 a1' a2'
    → IsImage f g b1 b2 b1' b2' → ((x y : ℤ) → g y <ℤ g x → x <ℤ y) → IsAhead a1 a2 b1 b2
    → IsAhead b1' b2' a1' a2'
ahead_turned f g a1 a2 b1 b2 a1' a2' b1' b2' p q falls t x y w v = falls x y (t (g y) (g x) (p.from y v) (q.from x w))

shift_rises : (by x y : ℤ) → unshift by x <ℤ unshift by y → x <ℤ y
shift_rises by x y h = omega signed

flip_falls : (x y : ℤ) → flip y <ℤ flip x → x <ℤ y
flip_falls x y h = omega signed

-- ---- rectangles

-- the cells of one rectangle are taken to those of another
pub record AreCarried (f g h k : ℤ → ℤ) (a a' : Corners) : Type 0 where
  pub columns : IsImage f g a.x1 a.x2 a'.x1 a'.x2
  pub rows : IsImage h k a.y1 a.y2 a'.y1 a'.y2

pub carried_to : (f g h k : ℤ → ℤ) (a a' : Corners) → AreCarried f g h k a a' → (x y : ℤ) → IsIn a x y → IsIn a' (f x) (h y)
carried_to f g h k a a' p x y i = record { column = p.columns.to x i.column; row = p.rows.to y i.row }

pub carried_from : (f g h k : ℤ → ℤ) (a a' : Corners) → AreCarried f g h k a a' → (x y : ℤ) → IsIn a' x y → IsIn a (g x) (k y)
carried_from f g h k a a' p x y i = record { column = p.columns.from x i.column; row = p.rows.from y i.row }

-- the way back
pub carries_back : (f g : ℤ → ℤ) → Carries f g → Carries g f
carries_back f g c = record { there = c.back; back = c.there; far = far_back f g c }

pub carried_back : (f g h k : ℤ → ℤ) (a a' : Corners) → AreCarried f g h k a a' → AreCarried g f k h a' a
carried_back f g h k a a' p = record {
  columns = record { to = p.columns.from; from = p.columns.to };
  rows = record { to = p.rows.from; from = p.rows.to };
}

pub gap_image : (f g h k : ℤ → ℤ) (a b a' b' : Corners) (n : ℕ) → Carries f g → Carries h k
    → AreCarried f g h k a a' → AreCarried f g h k b b' → IsGap2 (IsIn a) (IsIn b) n
    → IsGap2 (IsIn a') (IsIn b') n
gap_image f g h k a b a' b' n c d p q t = record {
  least = λ x y x' y' w.
      let l : n ≤ cell_gap2 (g x) (k y) (g x') (k y') = t.least (g x) (k y) (g x') (k y') (record {
        first = carried_from f g h k a a' p x y w.first;
        second = carried_from f g h k b b' q x' y' w.second;
      }) in rw (far_back f g c x x', far_back h k d y y') at l;
  attained =
      let (x, y, x', y', w, e) = t.attained in (
        f x,
        h y,
        f x',
        h y',
        record {
          first = carried_to f g h k a a' p x y w.first;
          second = carried_to f g h k b b' q x' y' w.second;
        },
        rw (c.far x x', d.far y y') e,
      );
}

pub close_image : (f g h k : ℤ → ℤ) (a b a' b' : Corners) (reach : ℕ) → Carries f g → Carries h k
    → AreCarried f g h k a a' → AreCarried f g h k b b' → AreClose (IsIn a) (IsIn b) reach
    → AreClose (IsIn a') (IsIn b') reach
close_image f g h k a b a' b' reach c d p q t = record {
  x = f t.x;
  y = h t.y;
  x' = f t.x';
  y' = h t.y';
  cells = record {
    first = carried_to f g h k a a' p t.x t.y t.cells.first;
    second = carried_to f g h k b b' q t.x' t.y' t.cells.second;
  };
  near = rw (c.far t.x t.x', d.far t.y t.y') t.near;
}

pub edge_image : (f g h k : ℤ → ℤ) (a b a' b' : Corners) → Carries f g → Carries h k → AreCarried f g h k a a'
    → AreCarried f g h k b b' → SharesEdge (IsIn a) (IsIn b) → SharesEdge (IsIn a') (IsIn b')
edge_image f g h k a b a' b' c d p q t = record {
  x = f t.x;
  y = h t.y;
  x' = f t.x';
  y' = h t.y';
  cells = record {
    first = carried_to f g h k a a' p t.x t.y t.cells.first;
    second = carried_to f g h k b b' q t.x' t.y' t.cells.second;
  };
  neighbours = rw (c.far t.x t.x', d.far t.y t.y') t.neighbours;
}

-- ---- moved

pub moves : (right up : ℤ) (r : Corners) → AreCarried (shift right) (unshift right) (shift up) (unshift up) r (moved right up r)
moves right up r = record { columns = shifted right r.x1 r.x2; rows = shifted up r.y1 r.y2 }

pub moved_level : (right up : ℤ) (a b : Corners) (port : ℕ) (from to : ℤ) → FacesLevel a b port from to
    → FacesLevel (moved right up a) (moved right up b) port (from +ℤ right) (to +ℤ right)
moved_level right up a b port from to f = record {
  columns = common_image (shift right) (unshift right) from to a.x1 a.x2 b.x1 b.x2 _ _ _ _ _ _ (shifts right) (shifted right from to)
      (shifted right a.x1 a.x2) (shifted right b.x1 b.x2) (let s = f.columns.some in omega signed) f.columns;
  side = elim f.side [
    | inl s ↦ inl (s.0, ahead_image (shift up) (unshift up) b.y1 b.y2 a.y1 a.y2 _ _ _ _ (shifted up b.y1 b.y2) (shifted up a.y1 a.y2) (shift_rises up) s.1)
    | inr s ↦ inr (s.0, ahead_image (shift up) (unshift up) a.y1 a.y2 b.y1 b.y2 _ _ _ _ (shifted up a.y1 a.y2) (shifted up b.y1 b.y2) (shift_rises up) s.1)
  ];
}

pub moved_upright : (right up : ℤ) (a b : Corners) (port : ℕ) (from to : ℤ) → FacesUpright a b port from to
    → FacesUpright (moved right up a) (moved right up b) port (from +ℤ up) (to +ℤ up)
moved_upright right up a b port from to f = record {
  rows = common_image (shift up) (unshift up) from to a.y1 a.y2 b.y1 b.y2 _ _ _ _ _ _ (shifts up) (shifted up from to)
      (shifted up a.y1 a.y2) (shifted up b.y1 b.y2) (let s = f.rows.some in omega signed) f.rows;
  side = elim f.side [
    | inl s ↦ inl (s.0, moved_left right up a b s.1)
    | inr s ↦ inr (s.0, moved_left right up b a s.1)
  ];
} where
  moved_left : (right up : ℤ) (a b : Corners) → IsLeft a b → IsLeft (moved right up a) (moved right up b)
  moved_left right up a b h = ahead_image (shift right) (unshift right) a.x1 a.x2 b.x1 b.x2 _ _ _ _ (shifted right a.x1 a.x2)
      (shifted right b.x1 b.x2) (shift_rises right) h

-- four corners, each by two facts that are taken to two others
corners_image : {L R B A L' R' B' A' : Type 0} (port : ℕ) → (L → L') → (R → R') → (B → B') → (A → A')
    → ((port ≡ 0) × L × B) ⊎ (((port ≡ 2) × R × B) ⊎ (((port ≡ 4) × R × A) ⊎ ((port ≡ 6) × L × A)))
    → ((port ≡ 0) × L' × B') ⊎ (((port ≡ 2) × R' × B') ⊎ (((port ≡ 4) × R' × A') ⊎ ((port ≡ 6) × L' × A')))
corners_image port l r b a (inl (e, s, t)) = inl (e, l s, b t)
corners_image port l r b a (inr (inl (e, s, t))) = inr (inl (e, r s, b t))
corners_image port l r b a (inr (inr (inl (e, s, t)))) = inr (inr (inl (e, r s, a t)))
corners_image port l r b a (inr (inr (inr (e, s, t)))) = inr (inr (inr (e, l s, a t)))

pub moved_corner : (right up : ℤ) (a b : Corners) (port dx dy : ℕ) → IsOffCorner a b port dx dy
    → IsOffCorner (moved right up a) (moved right up b) port dx dy
moved_corner right up a b port dx dy f = record {
  columns = distance_image (shift right) (unshift right) a.x1 a.x2 b.x1 b.x2 _ _ _ _ dx (shifts right) (shifted right a.x1 a.x2)
      (shifted right b.x1 b.x2) f.columns;
  rows = distance_image (shift up) (unshift up) a.y1 a.y2 b.y1 b.y2 _ _ _ _ dy (shifts up) (shifted up a.y1 a.y2) (shifted up b.y1 b.y2) f.rows;
  corner = corners_image {L = IsLeft b a} {R = IsLeft a b} {B = IsBelow b a} {A = IsBelow a b} port (ahead_right b a) (ahead_right a b)
      (ahead_up b a) (ahead_up a b) f.corner;
} where
  ahead_right : (c d : Corners) → IsLeft c d → IsLeft (moved right up c) (moved right up d)
  ahead_right c d h = ahead_image (shift right) (unshift right) c.x1 c.x2 d.x1 d.x2 _ _ _ _ (shifted right c.x1 c.x2)
      (shifted right d.x1 d.x2) (shift_rises right) h

  ahead_up : (c d : Corners) → IsBelow c d → IsBelow (moved right up c) (moved right up d)
  ahead_up c d h = ahead_image (shift up) (unshift up) c.y1 c.y2 d.y1 d.y2 _ _ _ _ (shifted up c.y1 c.y2) (shifted up d.y1 d.y2)
      (shift_rises up) h

-- ---- mirrored

pub mirrors : (r : Corners) → AreCarried flip flip same same r (mirrored r)
mirrors r = record { columns = flipped r.x1 r.x2; rows = stayed r.y1 r.y2 }

mirrored_left : (a b : Corners) → IsLeft a b → IsLeft (mirrored b) (mirrored a)
mirrored_left a b h = ahead_turned flip flip a.x1 a.x2 b.x1 b.x2 _ _ _ _ (flipped a.x1 a.x2) (flipped b.x1 b.x2) flip_falls h

pub mirrored_level : (a b : Corners) (port : ℕ) (from to : ℤ) → FacesLevel a b port from to
    → FacesLevel (mirrored a) (mirrored b) (mirrored_port port) (neg_ℤ to) (neg_ℤ from)
mirrored_level a b port from to f = record {
  columns = common_image flip flip from to a.x1 a.x2 b.x1 b.x2 _ _ _ _ _ _ flips (flipped from to) (flipped a.x1 a.x2)
      (flipped b.x1 b.x2) (let s = f.columns.some in omega signed) f.columns;
  side = elim f.side [ inl s ↦ inl (rw s.0 refl, s.1) | inr s ↦ inr (rw s.0 refl, s.1) ];
}

pub mirrored_upright : (a b : Corners) (port : ℕ) (from to : ℤ) → FacesUpright a b port from to
    → FacesUpright (mirrored a) (mirrored b) (mirrored_port port) from to
mirrored_upright a b port from to f = record {
  rows = f.rows;
  side = elim f.side [
    | inl s ↦ inr (rw s.0 refl, mirrored_left a b s.1)
    | inr s ↦ inl (rw s.0 refl, mirrored_left b a s.1)
  ];
}

-- four corners, of which west and east are exchanged
corners_turned : {L R B A L' R' : Type 0} (port : ℕ) → (L → L') → (R → R')
    → ((port ≡ 0) × L × B) ⊎ (((port ≡ 2) × R × B) ⊎ (((port ≡ 4) × R × A) ⊎ ((port ≡ 6) × L × A)))
    → ((mirrored_port port ≡ 0) × R' × B) ⊎ (((mirrored_port port ≡ 2) × L' × B) ⊎ (((mirrored_port port ≡ 4) × L' × A) ⊎ ((mirrored_port port ≡ 6) × R' × A)))
corners_turned port l r (inl (e, s, t)) = inr (inl (rw e refl, l s, t))
corners_turned port l r (inr (inl (e, s, t))) = inl (rw e refl, r s, t)
corners_turned port l r (inr (inr (inl (e, s, t)))) = inr (inr (inr (rw e refl, r s, t)))
corners_turned port l r (inr (inr (inr (e, s, t)))) = inr (inr (inl (rw e refl, l s, t)))

pub mirrored_corner : (a b : Corners) (port dx dy : ℕ) → IsOffCorner a b port dx dy
    → IsOffCorner (mirrored a) (mirrored b) (mirrored_port port) dx dy
mirrored_corner a b port dx dy f = record {
  columns = distance_image flip flip a.x1 a.x2 b.x1 b.x2 _ _ _ _ dx flips (flipped a.x1 a.x2) (flipped b.x1 b.x2) f.columns;
  rows = f.rows;
  corner = corners_turned {L = IsLeft b a} {R = IsLeft a b} {B = IsBelow b a} {A = IsBelow a b} port (mirrored_left b a) (mirrored_left a b) f.corner;
}

-- ---- turned over

turned_in : (r : Corners) (x y : ℤ) → IsIn r x y → IsIn (transposed r) y x
turned_in r x y i = record { column = i.row; row = i.column }

turned_out : (r : Corners) (x y : ℤ) → IsIn (transposed r) x y → IsIn r y x
turned_out r x y i = record { column = i.row; row = i.column }

pub turned_sum : (m n : ℕ) → m + n ≡ n + m
turned_sum m n = omega arith

turned_gap : (x y x' y' : ℤ) → cell_gap2 x y x' y' ≡ cell_gap2 y x y' x'
turned_gap x y x' y' = turned_sum (between x x' * between x x') (between y y' * between y y')

pub transposed_gap : (a b : Corners) (n : ℕ) → IsGap2 (IsIn a) (IsIn b) n → IsGap2 (IsIn (transposed a)) (IsIn (transposed b)) n
transposed_gap a b n t = record {
  least = λ x y x' y' w.
      let l : n ≤ cell_gap2 y x y' x' = t.least y x y' x' (record { first = turned_out a x y w.first; second = turned_out b x' y' w.second }) in
      let P : ℕ → Type 0 = λ z. n ≤ z in subst P (turned_gap y x y' x') l;
  attained =
      let (x, y, x', y', w, e) = t.attained in (
        y,
        x,
        y',
        x',
        record { first = turned_in a x y w.first; second = turned_in b x' y' w.second },
        turned_gap y x y' x' ∙ e,
      );
}

pub transposed_close : (a b : Corners) (reach : ℕ) → AreClose (IsIn a) (IsIn b) reach → AreClose (IsIn (transposed a)) (IsIn (transposed b)) reach
transposed_close a b reach t = record {
  x = t.y;
  y = t.x;
  x' = t.y';
  y' = t.x';
  cells = record { first = turned_in a t.x t.y t.cells.first; second = turned_in b t.x' t.y' t.cells.second };
  near = let P : ℕ → Type 0 = λ z. z < reach * reach in subst P (turned_gap t.x t.y t.x' t.y') t.near;
}

pub transposed_edge : (a b : Corners) → SharesEdge (IsIn a) (IsIn b) → SharesEdge (IsIn (transposed a)) (IsIn (transposed b))
transposed_edge a b t = record {
  x = t.y;
  y = t.x;
  x' = t.y';
  y' = t.x';
  cells = record { first = turned_in a t.x t.y t.cells.first; second = turned_in b t.x' t.y' t.cells.second };
  neighbours = turned_sum (unsigned_abs (t.y -ℤ t.y')) (unsigned_abs (t.x -ℤ t.x')) ∙ t.neighbours;
}

pub transposed_level : (a b : Corners) (port : ℕ) (from to : ℤ) → FacesLevel a b port from to
    → FacesUpright (transposed a) (transposed b) (transposed_port port) from to
transposed_level a b port from to f = record {
  rows = f.columns;
  side = elim f.side [ inl s ↦ inr (rw s.0 refl, s.1) | inr s ↦ inl (rw s.0 refl, s.1) ];
}

pub transposed_upright : (a b : Corners) (port : ℕ) (from to : ℤ) → FacesUpright a b port from to
    → FacesLevel (transposed a) (transposed b) (transposed_port port) from to
transposed_upright a b port from to f = record {
  columns = f.rows;
  side = elim f.side [ inl s ↦ inr (rw s.0 refl, s.1) | inr s ↦ inl (rw s.0 refl, s.1) ];
}

pub transposed_corner : (a b : Corners) (port dx dy : ℕ) → IsOffCorner a b port dx dy
    → IsOffCorner (transposed a) (transposed b) (transposed_port port) dy dx
transposed_corner a b port dx dy f = record {
  columns = f.rows;
  rows = f.columns;
  corner = turned {L = IsLeft b a} {R = IsLeft a b} {B = IsBelow b a} {A = IsBelow a b} f.corner;
} where
  turned : {L R B A : Type 0} → ((port ≡ 0) × L × B) ⊎ (((port ≡ 2) × R × B) ⊎ (((port ≡ 4) × R × A) ⊎ ((port ≡ 6) × L × A)))
      → ((transposed_port port ≡ 0) × B × L) ⊎ (((transposed_port port ≡ 2) × A × L) ⊎
      (((transposed_port port ≡ 4) × A × R) ⊎ ((transposed_port port ≡ 6) × B × R)))
  turned (inl (e, s, t)) = inl (rw e refl, t, s)
  turned (inr (inl (e, s, t))) = inr (inr (inr (rw e refl, t, s)))
  turned (inr (inr (inl (e, s, t)))) = inr (inr (inl (rw e refl, t, s)))
  turned (inr (inr (inr (e, s, t)))) = inr (inl (rw e refl, t, s))

-- ---- walks from cell to cell

-- f and h take the cells of one set to those of another
pub walk_image : (f g h k : ℤ → ℤ) (cells other : ℤ → ℤ → Bool) → Carries f g → Carries h k
    → ((x y : ℤ) → IsTrue (cells x y) → IsTrue (other (f x) (h y)))
    → (x y : ℤ) (cs : List (ℤ × ℤ)) (x' y' : ℤ) → IsWalk cells x y cs x' y'
    → IsWalk other (f x) (h y) (map (λ (c : ℤ × ℤ). (f c.0, h c.1)) cs) (f x') (h y')
walk_image f g h k cells other c d there x y [] x' y' (t, e, e') = (there x y t, ap f e, ap h e')
walk_image f g h k cells other c d there x y (p ∷ cs) x' y' (t, n, w) = (
  there x y t,
  rw (c.far x p.0, d.far y p.1) n,
  walk_image f g h k cells other c d there p.0 p.1 cs x' y' w,
)

-- the images of cells of one shape are of one shape
pub shape_image : (f g h k : ℤ → ℤ) (cells other : ℤ → ℤ → Bool) → Carries f g → Carries h k
    → ((x y : ℤ) → IsTrue (cells x y) → IsTrue (other (f x) (h y))) → (x y x' y' : ℤ)
    → AreOneShape cells x y x' y' → AreOneShape other (f x) (h y) (f x') (h y')
shape_image f g h k cells other c d there x y x' y' (cs, w) =
    (map (λ (p : ℤ × ℤ). (f p.0, h p.1)) cs, walk_image f g h k cells other c d there x y cs x' y' w)

-- what holds of a cell holds of the same cell
pub same_cell : (cells : ℤ → ℤ → Bool) (x y x' y' : ℤ) → x ≡ x' → y ≡ y' → IsTrue (cells x y) → IsTrue (cells x' y')
same_cell cells x y x' y' e f t =
    let P : ℤ → Type 0 = λ z. IsTrue (cells z y) in
    let Q : ℤ → Type 0 = λ z. IsTrue (cells x' z) in
    subst Q f (subst P e t)

pub moved_cell : (right up : ℤ) (cells : ℤ → ℤ → Bool) (x y : ℤ) → IsTrue (cells x y)
    → IsTrue (moved_cells right up cells (x +ℤ right) (y +ℤ up))
moved_cell right up cells x y t = same_cell cells x y ((x +ℤ right) -ℤ right) ((y +ℤ up) -ℤ up) (omega signed) (omega signed) t

pub moved_shape : (right up : ℤ) (cells : ℤ → ℤ → Bool) (x y x' y' : ℤ) → AreOneShape cells x y x' y'
    → AreOneShape (moved_cells right up cells) (x +ℤ right) (y +ℤ up) (x' +ℤ right) (y' +ℤ up)
moved_shape right up cells x y x' y' s = shape_image (shift right) (unshift right) (shift up) (unshift up) cells
    (moved_cells right up cells) (shifts right) (shifts up) (moved_cell right up cells) x y x' y' s

pub mirrored_shape : (cells : ℤ → ℤ → Bool) (x y x' y' : ℤ) → AreOneShape cells x y x' y'
    → AreOneShape (mirrored_cells cells) (flip x) y (flip x') y'
mirrored_shape cells x y x' y' s = shape_image flip flip same same cells (mirrored_cells cells) flips stays
    (λ a b t. same_cell cells a b (flip (flip a)) b (omega signed) refl t) x y x' y' s

-- ---- tiles

same_run : (cells : ℤ → ℤ → Bool) (a b y a' b' y' : ℤ) → a ≡ a' → b ≡ b' → y ≡ y' → IsRun cells a b y → IsRun cells a' b' y'
same_run cells a b y a' b' y' e f g t =
    let P : ℤ → Type 0 = λ z. IsRun cells z b y in
    let Q : ℤ → Type 0 = λ z. IsRun cells a' z y in
    let R : ℤ → Type 0 = λ z. IsRun cells a' b' z in
    subst R g (subst Q f (subst P e t))

abbrev at : ℤ → ℤ → ℤ → ℤ → Corners
at x1 y1 x2 y2 = record { x1 = x1; y1 = y1; x2 = x2; y2 = y2 }

pub same_corners : (a b : Corners) → a.x1 ≡ b.x1 → a.y1 ≡ b.y1 → a.x2 ≡ b.x2 → a.y2 ≡ b.y2 → a ≡ b
same_corners a b e f g h = ap (λ z. at z a.y1 a.x2 a.y2) e ∙ ap (λ z. at b.x1 z a.x2 a.y2) f ∙ ap (λ z. at b.x1 b.y1 z a.y2) g ∙ ap (λ z. at b.x1 b.y1 b.x2 z) h

run_moved : (right up : ℤ) (cells : ℤ → ℤ → Bool) (a b y : ℤ) → IsRun cells a b y → IsRun (moved_cells right up cells) (a +ℤ right) (b +ℤ right) (y +ℤ up)
run_moved right up cells a b y r = record {
  long = let s = r.long in omega signed;
  full = λ p w. same_cell cells (p -ℤ right) y (p -ℤ right) ((y +ℤ up) -ℤ up) refl (omega signed) (r.full (p -ℤ right) ((shifted right a b).from p w));
  left = λ t. r.left (same_cell cells (((a +ℤ right) -ℤ pos 1) -ℤ right) ((y +ℤ up) -ℤ up) (a -ℤ pos 1) y (omega signed) (omega signed) t);
  right = λ t. r.right (same_cell cells ((b +ℤ right) -ℤ right) ((y +ℤ up) -ℤ up) b y (omega signed) (omega signed) t);
}

run_back : (right up : ℤ) (cells : ℤ → ℤ → Bool) (a b y : ℤ) → IsRun (moved_cells right up cells) a b y → IsRun cells (a -ℤ right) (b -ℤ right) (y -ℤ up)
run_back right up cells a b y r = record {
  long = let s = r.long in omega signed;
  full = λ p w.
      let u = w.from in let v = w.to in
      same_cell cells ((p +ℤ right) -ℤ right) (y -ℤ up) p (y -ℤ up) (omega signed) refl
      (r.full (p +ℤ right) (record { from = omega signed; to = omega signed }));
  left = λ t. r.left (same_cell cells ((a -ℤ right) -ℤ pos 1) (y -ℤ up) ((a -ℤ pos 1) -ℤ right) (y -ℤ up) (omega signed) refl t);
  right = λ t. r.right t;
}

moved_back : ℤ → ℤ → Corners → Corners
moved_back right up r = record { x1 = r.x1 -ℤ right; y1 = r.y1 -ℤ up; x2 = r.x2 -ℤ right; y2 = r.y2 -ℤ up }

moved_again : (right up : ℤ) (r : Corners) → moved right up (moved_back right up r) ≡ r
unfolding moved_back
moved_again right up r = same_corners (moved right up (moved_back right up r)) r (omega signed) (omega signed) (omega signed) (omega signed)

tile_moved : (right up : ℤ) (cells : ℤ → ℤ → Bool) (r : Corners) → IsTile cells r → IsTile (moved_cells right up cells) (moved right up r)
tile_moved right up cells r t = record {
  high = let h = t.high in omega signed;
  rows = λ y w. same_run (moved_cells right up cells) (r.x1 +ℤ right) (r.x2 +ℤ right) ((y -ℤ up) +ℤ up) (r.x1 +ℤ right) (r.x2 +ℤ right) y refl
      refl (omega signed) (run_moved right up cells r.x1 r.x2 (y -ℤ up) (t.rows (y -ℤ up) ((shifted up r.y1 r.y2).from y w)));
  below = λ s. t.below (same_run cells ((r.x1 +ℤ right) -ℤ right) ((r.x2 +ℤ right) -ℤ right) (((r.y1 +ℤ up) -ℤ pos 1) -ℤ up) r.x1 r.x2
      (r.y1 -ℤ pos 1) (omega signed) (omega signed) (omega signed)
      (run_back right up cells (r.x1 +ℤ right) (r.x2 +ℤ right) ((r.y1 +ℤ up) -ℤ pos 1) s));
  above = λ s. t.above (same_run cells ((r.x1 +ℤ right) -ℤ right) ((r.x2 +ℤ right) -ℤ right) ((r.y2 +ℤ up) -ℤ up) r.x1 r.x2 r.y2
      (omega signed) (omega signed) (omega signed) (run_back right up cells (r.x1 +ℤ right) (r.x2 +ℤ right) (r.y2 +ℤ up) s));
}

tile_back : (right up : ℤ) (cells : ℤ → ℤ → Bool) (r : Corners) → IsTile (moved_cells right up cells) r → IsTile cells (moved_back right up r)
unfolding moved_back
tile_back right up cells r t = record {
  high = let h = t.high in omega signed;
  rows = λ y w.
      let u = w.from in let v = w.to in
      same_run cells (r.x1 -ℤ right) (r.x2 -ℤ right) ((y +ℤ up) -ℤ up) (r.x1 -ℤ right) (r.x2 -ℤ right) y refl refl (omega signed)
      (run_back right up cells r.x1 r.x2 (y +ℤ up) (t.rows (y +ℤ up) (record { from = omega signed; to = omega signed })));
  below = λ s. t.below (same_run (moved_cells right up cells) ((r.x1 -ℤ right) +ℤ right) ((r.x2 -ℤ right) +ℤ right)
      (((r.y1 -ℤ up) -ℤ pos 1) +ℤ up) r.x1 r.x2 (r.y1 -ℤ pos 1) (omega signed) (omega signed) (omega signed)
      (run_moved right up cells (r.x1 -ℤ right) (r.x2 -ℤ right) ((r.y1 -ℤ up) -ℤ pos 1) s));
  above = λ s. t.above (same_run (moved_cells right up cells) ((r.x1 -ℤ right) +ℤ right) ((r.x2 -ℤ right) +ℤ right)
      ((r.y2 -ℤ up) +ℤ up) r.x1 r.x2 r.y2 (omega signed) (omega signed) (omega signed)
      (run_moved right up cells (r.x1 -ℤ right) (r.x2 -ℤ right) (r.y2 -ℤ up) s));
}

pub before_moved : (right up : ℤ) (a b : Corners) → IsBefore a b → IsBefore (moved right up a) (moved right up b)
before_moved right up a b (inl h) = inl (omega signed)
before_moved right up a b (inr (e, h)) = inr (ap (λ z. z +ℤ up) e, omega signed)

-- cells that are moved have the same tiles, moved
pub moved_tiles : (right up : ℤ) (cells : ℤ → ℤ → Bool) (tiles : List Corners) → AreTiles cells tiles
    → AreTiles (moved_cells right up cells) (map (moved right up) tiles)
moved_tiles right up cells tiles s = record {
  each = All-map (IsTile (moved_cells right up cells)) (moved right up) tiles (λ k d l. tile_moved right up cells (get_or tiles k d) (s.each k d l));
  all = λ r t. contains_map (moved right up) tiles (moved_back right up r) r
      (s.all (moved_back right up r) (tile_back right up cells r t)) (moved_again right up r);
  ordered = all_pairs_map (moved right up) IsBefore tiles (λ i j d h l. before_moved right up (get_or tiles i d) (get_or tiles j d) (s.ordered i j d h l));
}

-- ---- mirrored tiles

run_mirrored : (cells : ℤ → ℤ → Bool) (a b y : ℤ) → IsRun cells a b y → IsRun (mirrored_cells cells) (neg_ℤ b) (neg_ℤ a) y
run_mirrored cells a b y r = record {
  long = let s = r.long in omega signed;
  full = λ p w. r.full (flip p) ((flipped a b).from p w);
  left = λ t. r.right (same_cell cells (flip (neg_ℤ b -ℤ pos 1)) y b y (omega signed) refl t);
  right = λ t. r.left (same_cell cells (flip (neg_ℤ a)) y (a -ℤ pos 1) y (omega signed) refl t);
}

run_turned : (cells : ℤ → ℤ → Bool) (a b y : ℤ) → IsRun (mirrored_cells cells) a b y → IsRun cells (neg_ℤ b) (neg_ℤ a) y
run_turned cells a b y r = record {
  long = let s = r.long in omega signed;
  full = λ p w. same_cell cells (flip (flip p)) y p y (omega signed) refl (r.full (flip p) ((flipped a b).from p w));
  left = λ t. r.right t;
  right = λ t. r.left (same_cell cells (neg_ℤ a) y (flip (a -ℤ pos 1)) y (omega signed) refl t);
}

tile_mirrored : (cells : ℤ → ℤ → Bool) (r : Corners) → IsTile cells r → IsTile (mirrored_cells cells) (mirrored r)
tile_mirrored cells r t = record {
  high = t.high;
  rows = λ y w. run_mirrored cells r.x1 r.x2 y (t.rows y w);
  below = λ s. t.below (same_run cells (neg_ℤ (neg_ℤ r.x1)) (neg_ℤ (neg_ℤ r.x2)) (r.y1 -ℤ pos 1) r.x1 r.x2 (r.y1 -ℤ pos 1) (omega signed)
      (omega signed) refl (run_turned cells (neg_ℤ r.x2) (neg_ℤ r.x1) (r.y1 -ℤ pos 1) s));
  above = λ s. t.above (same_run cells (neg_ℤ (neg_ℤ r.x1)) (neg_ℤ (neg_ℤ r.x2)) r.y2 r.x1 r.x2 r.y2 (omega signed) (omega signed) refl
      (run_turned cells (neg_ℤ r.x2) (neg_ℤ r.x1) r.y2 s));
}

tile_turned : (cells : ℤ → ℤ → Bool) (r : Corners) → IsTile (mirrored_cells cells) (mirrored r) → IsTile cells r
tile_turned cells r t = record {
  high = t.high;
  rows = λ y w. same_run cells (neg_ℤ (neg_ℤ r.x1)) (neg_ℤ (neg_ℤ r.x2)) y r.x1 r.x2 y (omega signed) (omega signed) refl
      (run_turned cells (neg_ℤ r.x2) (neg_ℤ r.x1) y (t.rows y w));
  below = λ s. t.below (run_mirrored cells r.x1 r.x2 (r.y1 -ℤ pos 1) s);
  above = λ s. t.above (run_mirrored cells r.x1 r.x2 r.y2 s);
}

-- the mirror image of cells has the mirror images of their tiles
pub mirrored_tiles : (cells : ℤ → ℤ → Bool) (tiles others : List Corners) → AreTiles cells tiles
    → AreTiles (mirrored_cells cells) others → (r : Corners)
    → (Contains tiles r ↔ Contains others (mirrored r))
mirrored_tiles cells tiles others s t r = (
  (λ c. t.all (mirrored r) (tile_mirrored cells r (All-contains (IsTile cells) tiles r s.each c))),
  (λ c. s.all r (tile_turned cells r (All-contains (IsTile (mirrored_cells cells)) others (mirrored r) t.each c))),
)

-- ---- layers of rectangles

-- a cell of a layer of rectangles is, moved, a cell of the layer of the moved rectangles
pub layer_moved : (right up : ℤ) (rects : List Corners) (x y : ℤ) → IsTrue (is_cell (map Box rects) x y)
    → IsTrue (is_cell (map Box (map (moved right up) rects)) (x +ℤ right) (y +ℤ up))
layer_moved right up rects x y t =
    let (k, r, l, e, i) = holder rects x y t in
    is_true (any_drawn (map (moved right up) rects) (x +ℤ right) (y +ℤ up) (
      k,
      moved right up r,
      rw (length-map rects (moved right up)) l,
      get_or-map (moved right up) rects k r (moved right up r) l ∙ ap (moved right up) e,
      carried_to (shift right) (unshift right) (shift up) (unshift up) r (moved right up r) (moves right up r) x y i,
    ))

pub layer_back : (right up : ℤ) (rects : List Corners) (x y : ℤ)
    → IsTrue (is_cell (map Box (map (moved right up) rects)) x y)
    → IsTrue (is_cell (map Box rects) (x -ℤ right) (y -ℤ up))
layer_back right up rects x y t =
    let (k, r, l, e, i) = holder (map (moved right up) rects) x y t in
    let m : k < length rects = let n = length-map rects (moved right up) in omega arith in
    let s = some_of rects k m in
    let f : r ≡ moved right up (get_or rects k s) = sym e ∙ get_or-map (moved right up) rects k s r m in
    let P : Corners → Type 0 = λ z. IsIn z x y in
    held rects k s (x -ℤ right) (y -ℤ up) m
    (carried_from (shift right) (unshift right) (shift up) (unshift up) (get_or rects k s) (moved right up (get_or rects k s))
    (moves right up (get_or rects k s)) x y (subst P f i))

-- cells of one shape of a layer of rectangles are of one shape where these are moved, and of no other
pub layer_shape : (right up : ℤ) (rects : List Corners) (x y x' y' : ℤ)
    → AreOneShape (is_cell (map Box rects)) x y x' y'
    → AreOneShape (is_cell (map Box (map (moved right up) rects))) (x +ℤ right) (y +ℤ up) (x' +ℤ right) (y' +ℤ up)
layer_shape right up rects x y x' y' s = shape_image (shift right) (unshift right) (shift up) (unshift up) (is_cell (map Box rects))
    (is_cell (map Box (map (moved right up) rects))) (shifts right) (shifts up) (layer_moved right up rects) x y x' y' s

pub layer_shape_back : (right up : ℤ) (rects : List Corners) (x y x' y' : ℤ)
    → AreOneShape (is_cell (map Box (map (moved right up) rects))) x y x' y'
    → AreOneShape (is_cell (map Box rects)) (x -ℤ right) (y -ℤ up) (x' -ℤ right) (y' -ℤ up)
layer_shape_back right up rects x y x' y' s = shape_image (unshift right) (shift right) (unshift up) (shift up)
    (is_cell (map Box (map (moved right up) rects))) (is_cell (map Box rects)) (carries_back (shift right) (unshift right) (shifts right))
    (carries_back (shift up) (unshift up) (shifts up)) (layer_back right up rects) x y x' y' s
