-- How one rectangle lies at another, said by tests and by what stands before what.
use Rattle.std.proofs.Common.{arith, ◌≡◌, ◌⊎◌, inl, inr, ℕ, ◌≤◌, ◌+◌, ◌==◌, Bool, true, false, refl, sym, ap, ◌∙◌, subst, if◌then◌else◌}
use Rattle.std.specs.Prelude.{ℤ, pos, ◌-ℤ◌, ◌<ℤ◌, ◌≤ℤ◌, ◌&&◌, int_lt}
use Rattle.std.specs.Int.{int_max, int_min}
use Rattle.std.proofs.lemmas.Bool.{cases_Bool, and_left, and_right}
use Rattle.dpl_list.proofs.Integers.{signed, is_less, not_less}
use Rattle.dpl_cell.specs.declared.types.Facing.{Facing}
use Rattle.dpl_cell.specs.declared.types.Facing.TheVariants.{Side, Corner}
use Rattle.dpl_cell.specs.Places.{Corners}
use Rattle.dpl_cell.specs.Cells.{IsWithin}
use Rattle.dpl_cell.specs.Gaps.{between, overlap, IsBetween}
use Rattle.dpl_cell.specs.Facing.{IsCommon, IsAhead, IsDistance, IsLeft, IsBelow, FacesLevel, FacesUpright, IsOffCorner, IsFacing}
use Rattle.dpl_cell.proofs.BoxLemmas.{at_start, equal_z, HasCell}
use Rattle.dpl_cell.proofs.FacingLemmas.{common, ahead, behind}
use Rattle.dpl_sign.specs.declared.ports.Port.{Port}
use Rattle.dpl_sign.specs.Sides.{is_corner}
use Rattle.dpl_sign.proofs.Equal.{same_port}
use Rattle.dpl_links.specs.Pairs.{stretch_gap}
use Rattle.dpl_links.specs.Ports.{corner_to, facing_of, IsPort, IsPortTo, LeavesAt}

-- ---- what tests say holds

pick : {A : Type 0} (P : A → Type 0) (c : Bool) (x y : A) → (c ≡ true → P x) → (c ≡ false → P y) → P (if c then x else y)
pick P true x y f g = f refl
pick P false x y f g = g refl

-- two stretches with nothing in common
miss : (a1 a2 b1 b2 : ℤ) → overlap a1 a2 b1 b2 ≡ false → int_min a2 b2 ≤ℤ int_max a1 b1
miss a1 a2 b1 b2 e = not_less (int_max a1 b1) (int_min a2 b2) e

shared : (a1 a2 b1 b2 : ℤ) → overlap a1 a2 b1 b2 ≡ true → IsCommon (int_max a1 b1) (int_min a2 b2) a1 a2 b1 b2
shared a1 a2 b1 b2 e = common a1 a2 b1 b2 (int_max a1 b1) (int_min a2 b2) refl refl (is_less (int_max a1 b1) (int_min a2 b2) e)

stretch_apart : (a1 a2 b1 b2 : ℤ) → a1 <ℤ a2 → b1 <ℤ b2 → overlap a1 a2 b1 b2 ≡ false → IsDistance a1 a2 b1 b2 (stretch_gap a1 a2 b1 b2)
stretch_apart a1 a2 b1 b2 h g e = let m = miss a1 a2 b1 b2 e in
    record {
      none = λ k w v. let p = w.from in let q = w.to in let r = v.from in let s = v.to in omega signed;
      least = λ x y w v. let p = w.from in let q = w.to in let r = v.from in let s = v.to in omega signed;
      attained = elim (cases_Bool (int_lt b1 a2)) [
        | inl t ↦ low m (is_less b1 a2 t)
        | inr t ↦ high m (not_less b1 a2 t)
      ];
    } where
      high : int_min a2 b2 ≤ℤ int_max a1 b1 → a2 ≤ℤ b1 → IsBetween a1 a2 b1 b2 (stretch_gap a1 a2 b1 b2)
      high m l = (a2 -ℤ pos 1, b1, record { from = omega signed; to = omega signed }, record { from = omega signed; to = omega signed }, omega signed)

      low : int_min a2 b2 ≤ℤ int_max a1 b1 → b1 <ℤ a2 → IsBetween a1 a2 b1 b2 (stretch_gap a1 a2 b1 b2)
      low m l = (a1, b2 -ℤ pos 1, record { from = omega signed; to = omega signed }, record { from = omega signed; to = omega signed }, omega signed)

-- b lies on this side of a, below or above it
abbrev IsLevelSide : Corners → Corners → ℕ → Type 0
IsLevelSide a b n = ((n ≡ 1) × IsBelow b a) ⊎ ((n ≡ 5) × IsBelow a b)

level_side : (a b : Corners) → HasCell a → HasCell b → overlap a.y1 a.y2 b.y1 b.y2 ≡ false
    → IsLevelSide a b (if int_lt b.y1 a.y1 then 1 else 5)
level_side a b f g e = let m = miss a.y1 a.y2 b.y1 b.y2 e in
    pick (IsLevelSide a b) (int_lt b.y1 a.y1) 1 5
    (λ t. inl (refl, behind a.y1 a.y2 b.y1 b.y2 m f.1 g.1 (is_less b.y1 a.y1 t)))
    (λ t. inr (refl, ahead a.y1 a.y2 b.y1 b.y2 m f.1 g.1 (not_less b.y1 a.y1 t)))

-- b lies on this side of a, on its right or on its left
abbrev IsUprightSide : Corners → Corners → ℕ → Type 0
IsUprightSide a b n = ((n ≡ 3) × IsLeft a b) ⊎ ((n ≡ 7) × IsLeft b a)

upright_side : (a b : Corners) → HasCell a → HasCell b → overlap a.x1 a.x2 b.x1 b.x2 ≡ false
    → IsUprightSide a b (if int_lt b.x1 a.x1 then 7 else 3)
upright_side a b f g e = let m = miss a.x1 a.x2 b.x1 b.x2 e in
    pick (IsUprightSide a b) (int_lt b.x1 a.x1) 7 3
    (λ t. inr (refl, behind a.x1 a.x2 b.x1 b.x2 m f.0 g.0 (is_less b.x1 a.x1 t)))
    (λ t. inl (refl, ahead a.x1 a.x2 b.x1 b.x2 m f.0 g.0 (not_less b.x1 a.x1 t)))

-- b lies off this corner of a
abbrev IsCorner : Corners → Corners → ℕ → Type 0
IsCorner a b n = ((n ≡ 0) × IsLeft b a × IsBelow b a) ⊎ (((n ≡ 2) × IsLeft a b × IsBelow b a)
    ⊎ (((n ≡ 4) × IsLeft a b × IsBelow a b) ⊎ ((n ≡ 6) × IsLeft b a × IsBelow a b)))

corner_is : (a b : Corners) → HasCell a → HasCell b → overlap a.x1 a.x2 b.x1 b.x2 ≡ false → overlap a.y1 a.y2 b.y1 b.y2 ≡ false
    → IsCorner a b (corner_to a b)
corner_is a b f g d e =
    let m = miss a.x1 a.x2 b.x1 b.x2 d in
    let n = miss a.y1 a.y2 b.y1 b.y2 e in
    let right = λ (t : int_lt b.x1 a.x1 ≡ false). ahead a.x1 a.x2 b.x1 b.x2 m f.0 g.0 (not_less b.x1 a.x1 t) in
    let left = λ (t : int_lt b.x1 a.x1 ≡ true). behind a.x1 a.x2 b.x1 b.x2 m f.0 g.0 (is_less b.x1 a.x1 t) in
    pick (IsCorner a b) (int_lt b.y1 a.y1) (if int_lt b.x1 a.x1 then 0 else 2) (if int_lt b.x1 a.x1 then 6 else 4)
    (λ t. let low = behind a.y1 a.y2 b.y1 b.y2 n f.1 g.1 (is_less b.y1 a.y1 t) in
    pick (IsCorner a b) (int_lt b.x1 a.x1) 0 2 (λ u. inl (refl, left u, low)) (λ u. inr (inl (refl, right u, low))))
    (λ t. let high = ahead a.y1 a.y2 b.y1 b.y2 n f.1 g.1 (not_less b.y1 a.y1 t) in
    pick (IsCorner a b) (int_lt b.x1 a.x1) 6 4 (λ u. inr (inr (inr (refl, left u, high)))) (λ u. inr (inr (inl (refl, right u, high)))))

not_both : (p q : Bool) → p ≡ true → (p && q) ≡ false → q ≡ false
not_both true q t e = e
not_both false q t e = absurd (cc)

facing_is : (a b : Corners) → HasCell a → HasCell b → (overlap a.x1 a.x2 b.x1 b.x2 && overlap a.y1 a.y2 b.y1 b.y2) ≡ false
    → IsFacing a b (facing_of a b)
facing_is a b f g e = pick (IsFacing a b) (overlap a.x1 a.x2 b.x1 b.x2)
    (Side (if int_lt b.y1 a.y1 then 1 else 5) (int_max a.x1 b.x1) (int_min a.x2 b.x2))
    (if overlap a.y1 a.y2 b.y1 b.y2 then Side (if int_lt b.x1 a.x1 then 7 else 3) (int_max a.y1 b.y1) (int_min a.y2 b.y2)
    else Corner (corner_to a b) (stretch_gap a.x1 a.x2 b.x1 b.x2) (stretch_gap a.y1 a.y2 b.y1 b.y2))
    (λ t. inl (record {
      columns = shared a.x1 a.x2 b.x1 b.x2 t;
      side = level_side a b f g (not_both (overlap a.x1 a.x2 b.x1 b.x2) (overlap a.y1 a.y2 b.y1 b.y2) t e);
    }))
    (λ t. pick (IsFacing a b) (overlap a.y1 a.y2 b.y1 b.y2) (Side (if int_lt b.x1 a.x1 then 7 else 3) (int_max a.y1 b.y1) (int_min a.y2 b.y2))
    (Corner (corner_to a b) (stretch_gap a.x1 a.x2 b.x1 b.x2) (stretch_gap a.y1 a.y2 b.y1 b.y2))
    (λ u. inr (record { rows = shared a.y1 a.y2 b.y1 b.y2 u; side = upright_side a b f g t }))
    (λ u. record {
      columns = stretch_apart a.x1 a.x2 b.x1 b.x2 f.0 g.0 t;
      rows = stretch_apart a.y1 a.y2 b.y1 b.y2 f.1 g.1 u;
      corner = corner_is a b f g t u;
    }))

-- ---- there is one such way

stretch_same : (from to from' to' a1 a2 b1 b2 : ℤ) → IsCommon from to a1 a2 b1 b2 → IsCommon from' to' a1 a2 b1 b2 → (from ≡ from') × (to ≡ to')
stretch_same from to from' to' a1 a2 b1 b2 s t =
    let p = (t.each from).1 ((s.each from).0 (at_start from to s.some)) in
    let q = (s.each from').1 ((t.each from').0 (at_start from' to' t.some)) in
    let u = (t.each (to -ℤ pos 1)).1 ((s.each (to -ℤ pos 1)).0 (at_end from to s.some)) in
    let v = (s.each (to' -ℤ pos 1)).1 ((t.each (to' -ℤ pos 1)).0 (at_end from' to' t.some)) in
    (equal_z from from' q.from p.from, same_end to to' u.to v.to) where
      at_end : (a b : ℤ) → a <ℤ b → IsWithin a b (b -ℤ pos 1)
      at_end a b h = record { from = omega signed; to = omega signed }

      same_end : (a b : ℤ) → (a -ℤ pos 1) <ℤ b → (b -ℤ pos 1) <ℤ a → a ≡ b
      same_end a b h l = omega signed

one_ahead : (a1 a2 b1 b2 : ℤ) → a1 <ℤ a2 → b1 <ℤ b2 → IsAhead a1 a2 b1 b2 → IsAhead b1 b2 a1 a2 → ⊥
one_ahead a1 a2 b1 b2 h g p q =
    let l = p a1 b1 (at_start a1 a2 h) (at_start b1 b2 g) in
    let m = q b1 a1 (at_start b1 b2 g) (at_start a1 a2 h) in
    never a1 b1 l m where
      never : (a b : ℤ) → a <ℤ b → b <ℤ a → ⊥
      never a b h l = omega signed

never_ahead : (from to a1 a2 b1 b2 : ℤ) → IsCommon from to a1 a2 b1 b2 → IsAhead a1 a2 b1 b2 → ⊥
never_ahead from to a1 a2 b1 b2 c p =
    let w = (c.each from).0 (at_start from to c.some) in never from (p from from w.0 w.1) where
      never : (a : ℤ) → a <ℤ a → ⊥
      never a h = omega signed

never_behind : (from to a1 a2 b1 b2 : ℤ) → IsCommon from to a1 a2 b1 b2 → IsAhead b1 b2 a1 a2 → ⊥
never_behind from to a1 a2 b1 b2 c p =
    let w = (c.each from).0 (at_start from to c.some) in never from (p from from w.1 w.0) where
      never : (a : ℤ) → a <ℤ a → ⊥
      never a h = omega signed

never_apart : (from to a1 a2 b1 b2 : ℤ) (n : ℕ) → IsCommon from to a1 a2 b1 b2 → IsDistance a1 a2 b1 b2 n → ⊥
never_apart from to a1 a2 b1 b2 n c d =
    let w = (c.each from).0 (at_start from to c.some) in d.none from w.0 w.1

distance_same : (a1 a2 b1 b2 : ℤ) (m n : ℕ) → IsDistance a1 a2 b1 b2 m → IsDistance a1 a2 b1 b2 n → m ≡ n
distance_same a1 a2 b1 b2 m n d e =
    let (x, y, p, q, f) = d.attained in
    let (u, v, r, s, g) = e.attained in
    let h : n ≤ between x y = e.least x y p q in
    let l : m ≤ between u v = d.least u v r s in
    no_less m n (between x y) (between u v) f g h l where
      no_less : (m n b c : ℕ) → b ≡ m → c ≡ n → n ≤ b → m ≤ c → m ≡ n
      no_less m n b c e f g h = omega arith

level_port : (a b : Corners) (p q : ℕ) → HasCell a → HasCell b
    → ((p ≡ 1) × IsBelow b a) ⊎ ((p ≡ 5) × IsBelow a b) → ((q ≡ 1) × IsBelow b a) ⊎ ((q ≡ 5) × IsBelow a b)
    → p ≡ q
level_port a b p q f g (inl s) (inl t) = s.0 ∙ sym t.0
level_port a b p q f g (inl s) (inr t) = absurd (one_ahead a.y1 a.y2 b.y1 b.y2 f.1 g.1 t.1 s.1)
level_port a b p q f g (inr s) (inl t) = absurd (one_ahead a.y1 a.y2 b.y1 b.y2 f.1 g.1 s.1 t.1)
level_port a b p q f g (inr s) (inr t) = s.0 ∙ sym t.0

upright_port : (a b : Corners) (p q : ℕ) → HasCell a → HasCell b
    → ((p ≡ 3) × IsLeft a b) ⊎ ((p ≡ 7) × IsLeft b a) → ((q ≡ 3) × IsLeft a b) ⊎ ((q ≡ 7) × IsLeft b a)
    → p ≡ q
upright_port a b p q f g (inl s) (inl t) = s.0 ∙ sym t.0
upright_port a b p q f g (inl s) (inr t) = absurd (one_ahead a.x1 a.x2 b.x1 b.x2 f.0 g.0 s.1 t.1)
upright_port a b p q f g (inr s) (inl t) = absurd (one_ahead a.x1 a.x2 b.x1 b.x2 f.0 g.0 t.1 s.1)
upright_port a b p q f g (inr s) (inr t) = s.0 ∙ sym t.0

-- two rectangles do not share columns and rows at once
level_upright : (a b : Corners) (p q : ℕ) (from to from' to' : ℤ) → FacesLevel a b p from to → FacesUpright a b q from' to' → ⊥
level_upright a b p q from to from' to' f g = elim f.side [
  | inl s ↦ never_behind from' to' a.y1 a.y2 b.y1 b.y2 g.rows s.1
  | inr s ↦ never_ahead from' to' a.y1 a.y2 b.y1 b.y2 g.rows s.1
]

-- one of four corners, by two sides that exclude each other each
corner_same : {L R D U : Type 0} → (L → R → ⊥) → (D → U → ⊥) → (p q : ℕ)
    → ((p ≡ 0) × R × U) ⊎ (((p ≡ 2) × L × U) ⊎ (((p ≡ 4) × L × D) ⊎ ((p ≡ 6) × R × D)))
    → ((q ≡ 0) × R × U) ⊎ (((q ≡ 2) × L × U) ⊎ (((q ≡ 4) × L × D) ⊎ ((q ≡ 6) × R × D))) → p ≡ q
corner_same f g p q (inl (e, r, u)) (inl (h, s, v)) = e ∙ sym h
corner_same f g p q (inl (e, r, u)) (inr (inl (h, s, v))) = absurd (f s r)
corner_same f g p q (inl (e, r, u)) (inr (inr (inl (h, s, v)))) = absurd (f s r)
corner_same f g p q (inl (e, r, u)) (inr (inr (inr (h, s, v)))) = absurd (g v u)
corner_same f g p q (inr (inl (e, r, u))) (inl (h, s, v)) = absurd (f r s)
corner_same f g p q (inr (inl (e, r, u))) (inr (inl (h, s, v))) = e ∙ sym h
corner_same f g p q (inr (inl (e, r, u))) (inr (inr (inl (h, s, v)))) = absurd (g v u)
corner_same f g p q (inr (inl (e, r, u))) (inr (inr (inr (h, s, v)))) = absurd (f r s)
corner_same f g p q (inr (inr (inl (e, r, u)))) (inl (h, s, v)) = absurd (f r s)
corner_same f g p q (inr (inr (inl (e, r, u)))) (inr (inl (h, s, v))) = absurd (g u v)
corner_same f g p q (inr (inr (inl (e, r, u)))) (inr (inr (inl (h, s, v)))) = e ∙ sym h
corner_same f g p q (inr (inr (inl (e, r, u)))) (inr (inr (inr (h, s, v)))) = absurd (f r s)
corner_same f g p q (inr (inr (inr (e, r, u)))) (inl (h, s, v)) = absurd (g u v)
corner_same f g p q (inr (inr (inr (e, r, u)))) (inr (inl (h, s, v))) = absurd (f s r)
corner_same f g p q (inr (inr (inr (e, r, u)))) (inr (inr (inl (h, s, v)))) = absurd (f s r)
corner_same f g p q (inr (inr (inr (e, r, u)))) (inr (inr (inr (h, s, v)))) = e ∙ sym h

-- a place on a side by its number and its key
side_same : (p q : Port) → p.side ≡ q.side → p.key ≡ q.key → is_corner p.side ≡ false → p ≡ q
side_same p q s k c =
    let d : p.dx + p.dy ≡ 0 = p.no_direction c in
    let e : q.dx + q.dy ≡ 0 = q.no_direction (ap is_corner (sym s) ∙ c) in
    same_port p q s k (omega arith) (omega arith)

-- a place at a corner by its number and its direction
corner_at_same : (p q : Port) → p.side ≡ q.side → p.dx ≡ q.dx → p.dy ≡ q.dy → is_corner p.side ≡ true → p ≡ q
corner_at_same p q s x y c = same_port p q s (p.no_key c ∙ sym (q.no_key (ap is_corner (sym s) ∙ c))) x y

at_number : (p n : ℕ) (b : Bool) → p ≡ n → is_corner n ≡ b → is_corner p ≡ b
at_number p n b e f = ap is_corner e ∙ f

off_corner : (a b : Corners) (m x y n : ℕ) (u v : ℤ) → IsOffCorner a b m x y → FacesLevel a b n u v ⊎ FacesUpright a b n u v → ⊥
off_corner a b m x y n u v o (inl s) = never_apart u v a.x1 a.x2 b.x1 b.x2 x s.columns o.columns
off_corner a b m x y n u v o (inr s) = never_apart u v a.y1 a.y2 b.y1 b.y2 y s.rows o.rows

corner_even : (a b : Corners) (m x y s : ℕ) → IsOffCorner a b m x y → s ≡ m → is_corner s ≡ true
corner_even a b m x y s o e = elim o.corner [
  | inl c ↦ at_number s 0 true (e ∙ c.0) refl
  | inr d ↦ elim d [
    | inl c ↦ at_number s 2 true (e ∙ c.0) refl
    | inr f ↦ elim f [ inl c ↦ at_number s 4 true (e ∙ c.0) refl | inr c ↦ at_number s 6 true (e ∙ c.0) refl ]
  ]
]

sides_alike : (m n : ℕ) (x y u v : ℤ) → m ≡ n → x ≡ u → y ≡ v → Side m x y ≡ Side n u v
sides_alike m n x y u v e f g = ap (λ i. Side i x y) e ∙ ap (λ i. Side n i y) f ∙ ap (λ i. Side n u i) g

corners_alike : (m n x y u v : ℕ) → m ≡ n → x ≡ u → y ≡ v → Corner m x y ≡ Corner n u v
corners_alike m n x y u v e f g = ap (λ i. Corner i x y) e ∙ ap (λ i. Corner n i y) f ∙ ap (λ i. Corner n u i) g

sides_same : (a b : Corners) (m n : ℕ) (x y u v : ℤ) → HasCell a → HasCell b
    → FacesLevel a b m x y ⊎ FacesUpright a b m x y → FacesLevel a b n u v ⊎ FacesUpright a b n u v → Side m x y ≡ Side n u v
sides_same a b m n x y u v f g (inl s) (inl t) = let (h, l) = stretch_same x y u v a.x1 a.x2 b.x1 b.x2 s.columns t.columns in
    sides_alike m n x y u v (level_port a b m n f g s.side t.side) h l
sides_same a b m n x y u v f g (inl s) (inr t) = absurd (level_upright a b m n x y u v s t)
sides_same a b m n x y u v f g (inr s) (inl t) = absurd (level_upright a b n m u v x y t s)
sides_same a b m n x y u v f g (inr s) (inr t) = let (h, l) = stretch_same x y u v a.y1 a.y2 b.y1 b.y2 s.rows t.rows in
    sides_alike m n x y u v (upright_port a b m n f g s.side t.side) h l

facing_same : (a b : Corners) (k l : Facing) → HasCell a → HasCell b → IsFacing a b k → IsFacing a b l → k ≡ l
facing_same a b (Side m x y) (Side n u v) f g s t = sides_same a b m n x y u v f g s t
facing_same a b (Side m x y) (Corner n u v) f g s t = absurd (off_corner a b n u v m x y t s)
facing_same a b (Corner m x y) (Side n u v) f g s t = absurd (off_corner a b m x y n u v s t)
facing_same a b (Corner m x y) (Corner n u v) f g s t = corners_alike m n x y u v
    (corner_same (one_ahead a.x1 a.x2 b.x1 b.x2 f.0 g.0) (one_ahead a.y1 a.y2 b.y1 b.y2 f.1 g.1) m n s.corner t.corner)
    (distance_same a.x1 a.x2 b.x1 b.x2 x u s.columns t.columns) (distance_same a.y1 a.y2 b.y1 b.y2 y v s.rows t.rows)

-- ---- where one way holds the tests say so

none_apart : (a1 a2 b1 b2 : ℤ) → ((k : ℤ) → IsWithin a1 a2 k → IsWithin b1 b2 k → ⊥) → overlap a1 a2 b1 b2 ≡ false
none_apart a1 a2 b1 b2 n = elim (cases_Bool (overlap a1 a2 b1 b2)) [
  | inl t ↦ absurd (meet (is_less (int_max a1 b1) (int_min a2 b2) t))
  | inr t ↦ t
] where
  meet : int_max a1 b1 <ℤ int_min a2 b2 → ⊥
  meet h = n (int_max a1 b1) (record { from = omega signed; to = omega signed }) (record { from = omega signed; to = omega signed })

never : (k : ℤ) → k <ℤ k → ⊥
never k h = omega signed

facing_apart : (a b : Corners) (k : Facing) → IsFacing a b k → (overlap a.x1 a.x2 b.x1 b.x2 && overlap a.y1 a.y2 b.y1 b.y2) ≡ false
facing_apart a b (Side n x y) (inl f) = and_right (overlap a.x1 a.x2 b.x1 b.x2) (overlap a.y1 a.y2 b.y1 b.y2)
    (none_apart a.y1 a.y2 b.y1 b.y2 (λ k w v. elim f.side [ inl s ↦ never k (s.1 k k v w) | inr s ↦ never k (s.1 k k w v) ]))
facing_apart a b (Side n x y) (inr f) = and_left (overlap a.x1 a.x2 b.x1 b.x2) (overlap a.y1 a.y2 b.y1 b.y2)
    (none_apart a.x1 a.x2 b.x1 b.x2 (λ k w v. elim f.side [ inl s ↦ never k (s.1 k k w v) | inr s ↦ never k (s.1 k k v w) ]))
facing_apart a b (Corner n x y) f = and_left (overlap a.x1 a.x2 b.x1 b.x2) (overlap a.y1 a.y2 b.y1 b.y2)
    (none_apart a.x1 a.x2 b.x1 b.x2 f.columns.none)

-- ---- ports

pub port_says : (a b : Corners) (p : Port) → HasCell a → HasCell b → IsPortTo a b p → LeavesAt a b p
port_says a b p f g t = record { lies = facing_of a b; facing = facing_is a b f g t.apart; port = t.port }

pub port_is : (a b : Corners) (p : Port) → HasCell a → HasCell b → LeavesAt a b p → IsPortTo a b p
port_is a b p f g t =
    let apart = facing_apart a b t.lies t.facing in
    let P : Facing → Type 0 = λ k. IsPort k p in
    record {
      apart = apart;
      port = subst P (facing_same a b t.lies (facing_of a b) f g t.facing (facing_is a b f g apart)) t.port;
    }

lies_same : (a b : Corners) (p q : Port) (k : Facing) → IsFacing a b k → IsPort k p → IsPort k q → p ≡ q
lies_same a b p q (Side n x y) (inl s) i j = side_same p q (i.0 ∙ sym j.0) (i.1 ∙ sym j.1)
    (elim s.side [ inl c ↦ at_number p.side 1 false (i.0 ∙ c.0) refl | inr c ↦ at_number p.side 5 false (i.0 ∙ c.0) refl ])
lies_same a b p q (Side n x y) (inr s) i j = side_same p q (i.0 ∙ sym j.0) (i.1 ∙ sym j.1)
    (elim s.side [ inl c ↦ at_number p.side 3 false (i.0 ∙ c.0) refl | inr c ↦ at_number p.side 7 false (i.0 ∙ c.0) refl ])
lies_same a b p q (Corner n x y) s i j =
    corner_at_same p q (i.0 ∙ sym j.0) (i.1 ∙ sym j.1) (i.2 ∙ sym j.2) (corner_even a b n x y p.side s i.0)

-- two rectangles have one port to each other
pub port_same : (a b : Corners) (p q : Port) → HasCell a → HasCell b → IsPortTo a b p → IsPortTo a b q → p ≡ q
port_same a b p q f g s t = lies_same a b p q (facing_of a b) (facing_is a b f g s.apart) s.port t.port
