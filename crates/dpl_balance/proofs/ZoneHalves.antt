-- The zone at a cut has two halves, one in each of the two fragments, and no two zones share a cell.
use Rattle.std.proofs.Common.{arith, ◌≡◌, ◌+◌, ◌*◌, ◌/◌, ◌%◌, ◌<◌, ◌≤◌, ◌⊎◌, inl, inr, ℕ, ℤ, pos, ◌+ℤ◌, ◌-ℤ◌, ◌<ℤ◌}
use Rattle.std.proofs.Common.{◌≤ℤ◌, Bool, true, false, List, length, refl, sym, ap, subst, ◌∙◌, All, get_or, map}
use Rattle.std.proofs.Common.{AllPairs}
use Rattle.std.specs.Int.RustNames.{unsigned_abs}
use Rattle.std.proofs.lemmas.Int.{by_lt_z}
use Rattle.std.proofs.lemmas.Bool.{cases_eq}
use Rattle.dpl_list.proofs.Integers.{signed}
use Rattle.dpl_cell.specs.Places.{Corners, corners_of}
use Rattle.dpl_cell.specs.Cells.{IsWithin, IsIn, IsMaximal, SharesCell, AreApart}
use Rattle.dpl_cell.proofs.StretchLemmas.{one_maximal}
use Rattle.dpl_cell.proofs.BoxLemmas.{three}
use Rattle.dpl_cuts.specs.declared.types.Cut.{Cut}
use Rattle.dpl_cuts.specs.declared.types.Fragments.{Fragments}
use Rattle.dpl_cuts.specs.Positions.{nowhere, lies_along_x, position_of, start_of, end_of, first_of, last_of, part_of, layer_of, rect_at}
use Rattle.dpl_cuts.specs.Free.{IsFree}
use Rattle.dpl_cuts.specs.Cuts.{middle, IsCutAt, zone_at}
use Rattle.dpl_cuts.specs.Fragments.{IsBetweenCuts, IsFragment, IsCut, AreFragments}
use Rattle.dpl_cuts.proofs.PartLemmas.{start_part, end_part, half_room, half_room', maximal_inside}
use Rattle.dpl_cuts.proofs.ZoneLemmas.{in_middle, meets_cut}
use Rattle.dpl_balance.specs.Areas.{area_of}
use Rattle.dpl_balance.proofs.ListedLemmas.{IsProper}

-- ---- cells of parts by their positions

in_part : (tile : Corners) (a b x y : ℤ) → IsIn (part_of tile a b) x y → IsWithin a b (position_of tile x y)
in_part tile a b x y i = by_way (lies_along_x tile) refl i where
  by_way : (along : Bool) → lies_along_x tile ≡ along → IsIn (part_of tile a b) x y → IsWithin a b (position_of tile x y)
  by_way true e = rw e (λ i. i.column)
  by_way false e = rw e (λ i. i.row)

-- a cell of a part lies in another part of the tile that has its position
other_part : (tile : Corners) (a b c d x y : ℤ) → IsIn (part_of tile a b) x y → IsWithin c d (position_of tile x y) → IsIn (part_of tile c d) x y
other_part tile a b c d x y = by_way (lies_along_x tile) refl where
  by_way : (along : Bool) → lies_along_x tile ≡ along → IsIn (part_of tile a b) x y → IsWithin c d (position_of tile x y) → IsIn (part_of tile c d) x y
  by_way true e = rw e (λ i w. record { column = w; row = i.row })
  by_way false e = rw e (λ i w. record { column = i.column; row = w })

-- the cell of a tile at another position, in the same row or column
cell_at : (tile : Corners) (a b c d x y p : ℤ) → IsIn (part_of tile a b) x y → IsWithin c d p
    → (x' : ℤ) × (y' : ℤ) × IsIn (part_of tile c d) x' y' × (position_of tile x' y' ≡ p)
cell_at tile a b c d x y p = by_way (lies_along_x tile) refl where
  by_way : (along : Bool) → lies_along_x tile ≡ along → IsIn (part_of tile a b) x y → IsWithin c d p → (x' : ℤ) ×
      (y' : ℤ) × IsIn (part_of tile c d) x' y' × (position_of tile x' y' ≡ p)
  by_way true e = rw e (λ i w. (p, y, record { column = w; row = i.row }, refl))
  by_way false e = rw e (λ i w. (x, p, record { column = i.column; row = w }, refl))

-- ---- two cuts of one tile leave each other room

rooms_apart : (cells : ℤ → ℤ → Bool) (keep : List Corners) (space over : ℕ) (tile : Corners) (c d : ℤ)
    → IsCutAt cells keep space over tile c → IsCutAt cells keep space over tile d → c <ℤ d
    → (c +ℤ pos (over / 2)) ≤ℤ (d -ℤ pos (over / 2))
rooms_apart cells keep space over tile c d s t l =
    let low : t.from ≤ℤ (d -ℤ pos (over / 2)) = rw t.at (half_room t.from t.to over t.long) in
    let high : (c +ℤ pos (over / 2)) ≤ℤ s.to = rw s.at (half_room' s.from s.to over s.long) in
    let own : IsWithin s.from s.to c = rw s.at (in_middle s.from s.to s.free.long) in
    let other : IsWithin t.from t.to d = rw t.at (in_middle t.from t.to t.free.long) in
    by_lt_z t.from s.to
    (λ m. by_lt_z d s.to
    (λ k. absurd (
    let (e, f) = one_maximal (IsFree cells keep space tile) s.from s.to t.from t.to d s.free t.free (within s.from s.to c d own l k) other in
    same c d l (s.at ∙ ap (λ x. middle x s.to) e ∙ ap (λ x. middle t.from x) f ∙ sym t.at)))
    (λ k. absurd (s.free.right (t.free.full s.to (between s.to t.from t.to d m k other)))))
    (λ m. chain _ s.to t.from _ high m low) where
      within : (a b c d : ℤ) → IsWithin a b c → c <ℤ d → d <ℤ b → IsWithin a b d
      within a b c d w l k = let f = w.from in record { from = omega signed; to = k }

      same : (c d : ℤ) → c <ℤ d → c ≡ d → ⊥
      same c d l e = omega signed

      between : (p a b d : ℤ) → a <ℤ p → p ≤ℤ d → IsWithin a b d → IsWithin a b p
      between p a b d m k w = let f = w.to in record { from = omega signed; to = omega signed }

      chain : (a b c d : ℤ) → a ≤ℤ b → b ≤ℤ c → c ≤ℤ d → a ≤ℤ d
      chain a b c d h g k = omega signed

-- the fragment before a cut has room for half of the zone, and so has the one behind
room_before : (cells : ℤ → ℤ → Bool) (keep : List Corners) (space over : ℕ) (tile : Corners) (from at : ℤ)
    → IsBetweenCuts cells keep space over tile from at → IsCutAt cells keep space over tile at
    → from ≤ℤ (at -ℤ pos (over / 2))
room_before cells keep space over tile from at f t = elim f.low [
  | inl e ↦
      let (l, r) = maximal_inside cells keep space tile t.from t.to t.free in
      let low : t.from ≤ℤ (at -ℤ pos (over / 2)) = rw t.at (half_room t.from t.to over t.long) in
      chain from (first_of tile) t.from _ e l low
  | inr c ↦ nearer from at (over / 2) (rooms_apart cells keep space over tile from at c t f.some)
] where
  chain : (a b c d : ℤ) → a ≡ b → b ≤ℤ c → c ≤ℤ d → a ≤ℤ d
  chain a b c d e h g = omega signed

  nearer : (a b : ℤ) (h : ℕ) → (a +ℤ pos h) ≤ℤ (b -ℤ pos h) → a ≤ℤ (b -ℤ pos h)
  nearer a b h g = omega signed

room_behind : (cells : ℤ → ℤ → Bool) (keep : List Corners) (space over : ℕ) (tile : Corners) (at to : ℤ)
    → IsBetweenCuts cells keep space over tile at to → IsCutAt cells keep space over tile at
    → (at +ℤ pos (over / 2)) ≤ℤ to
room_behind cells keep space over tile at to f t = elim f.high [
  | inl e ↦
      let (l, r) = maximal_inside cells keep space tile t.from t.to t.free in
      let high : (at +ℤ pos (over / 2)) ≤ℤ t.to = rw t.at (half_room' t.from t.to over t.long) in
      chain _ t.to (last_of tile) to high r e
  | inr c ↦ nearer at to (over / 2) (rooms_apart cells keep space over tile at to t c f.some)
] where
  chain : (a b c d : ℤ) → a ≤ℤ b → b ≤ℤ c → d ≡ c → a ≤ℤ d
  chain a b c d h g e = omega signed

  nearer : (a b : ℤ) (h : ℕ) → (a +ℤ pos h) ≤ℤ (b -ℤ pos h) → (a +ℤ pos h) ≤ℤ b
  nearer a b h g = omega signed

  past : (a b c l : ℤ) → a ≡ b → a ≡ l → b <ℤ c → c <ℤ l → ⊥
  past a b c l e f h g = omega signed

-- ---- the two halves

pub tile_of : List Corners → Fragments → Cut → Corners
tile_of tiles f c = rect_at tiles (get_or f.tile c.a 0)

abbrev pub rects_of : Fragments → List Corners
rects_of f = map corners_of f.rects

-- where the cut stands
pub place_of : List Corners → Fragments → Cut → ℤ
place_of tiles f c = end_of (tile_of tiles f c) (rect_at (rects_of f) c.a)

-- the half behind the cut, or the one before it
half_at : ℕ → Corners → ℤ → Bool → Corners
half_at over tile at true = part_of tile at (at +ℤ pos (over / 2))
half_at over tile at false = part_of tile (at -ℤ pos (over / 2)) at

pub half_of : ℕ → List Corners → Fragments → Cut → Bool → Corners
half_of over tiles f c behind = half_at over (tile_of tiles f c) (place_of tiles f c) behind

-- the fragment that it lies in
abbrev pub owner : Cut → Bool → ℕ
owner c true = c.b
owner c false = c.a

-- what is known of a cut
pub record IsHere (keep : List Corners) (space over : ℕ) (tiles : List Corners) (f : Fragments) (c : Cut) : Type 0 where
  pub first : IsFragment (layer_of tiles) keep space over (tile_of tiles f c) (rect_at (rects_of f) c.a)
  pub second : IsFragment (layer_of tiles) keep space over (tile_of tiles f c) (rect_at (rects_of f) c.b)
  pub ends : first.to ≡ place_of tiles f c
  pub begins : second.from ≡ place_of tiles f c
  pub cut : IsCutAt (layer_of tiles) keep space over (tile_of tiles f c) (place_of tiles f c)

abbrev pub IsCutOf : ℕ → List Corners → Fragments → Cut → Type 0
IsCutOf over tiles f c = IsCut over tiles (map corners_of f.rects) f.tile c.a c.b (corners_of c.zone)

pub here : (keep : List Corners) (space over : ℕ) (tiles : List Corners) (label : List ℕ) (f : Fragments) (c : Cut)
    → 2 ≤ over → AreFragments keep space over tiles label f → IsCutOf over tiles f c
    → IsHere keep space over tiles f c
unfolding tile_of place_of
here keep space over tiles label f c wide a i =
    let t = rect_at tiles (get_or f.tile c.a 0) in
    let r = rect_at (map corners_of f.rects) c.a in
    let s = rect_at (map corners_of f.rects) c.b in
    let m : c.a < length (map corners_of f.rects) = let k = i.rising in let l = i.within in omega arith in
    let p : IsFragment (layer_of tiles) keep space over t r = (a.parts.each c.a m).fragment in
    let q : IsFragment (layer_of tiles) keep space over t s = let P : ℕ → Type 0 =
    λ k. IsFragment (layer_of tiles) keep space over (rect_at tiles k) s in
    subst P (sym i.same) (a.parts.each c.b i.within).fragment in
    let e : end_of t r ≡ p.to = ap (end_of t) p.is ∙ end_part t p.from p.to in
    let g : start_of t s ≡ q.from = ap (start_of t) q.is ∙ start_part t q.from q.to in
    let k = meets_cut (layer_of tiles) keep space over t r s wide p q (sym e ∙ i.meet ∙ g) in
    let P : ℤ → Type 0 = IsCutAt (layer_of tiles) keep space over t in
    record { first = p; second = q; ends = sym e; begins = sym g ∙ sym i.meet; cut = subst P (sym e) k }

-- ---- the halves and their cells

within_ends : (a b c d p : ℤ) → c ≤ℤ a → b ≤ℤ d → IsWithin a b p → IsWithin c d p
within_ends a b c d p h g w = let k = w.from in let l = w.to in record { from = omega signed; to = omega signed }

pub half_in_fragment : (keep : List Corners) (space over : ℕ) (tiles : List Corners) (f : Fragments) (c : Cut)
    → IsHere keep space over tiles f c → (behind : Bool) (x y : ℤ) → IsIn (half_of over tiles f c behind) x y
    → IsIn (rect_at (rects_of f) (owner c behind)) x y
unfolding half_of half_at
half_in_fragment keep space over tiles f c h true x y i =
    let t = tile_of tiles f c in let at = place_of tiles f c in
    let B : ℤ → Type 0 = λ z. IsBetweenCuts (layer_of tiles) keep space over t z h.second.to in
    let room = room_behind (layer_of tiles) keep space over t at h.second.to (subst B h.begins h.second.between) h.cut in
    let P : ℤ → Type 0 = λ z. z ≤ℤ at in
    let low : h.second.from ≤ℤ at = subst P (sym h.begins) (self at) in
    let R : Corners → Type 0 = λ z. IsIn z x y in
    subst R (sym h.second.is) (other_part t at (at +ℤ pos (over / 2)) h.second.from h.second.to x y i
    (within_ends _ _ _ _ _ low room (in_part t _ _ x y i))) where
      self : (z : ℤ) → z ≤ℤ z
      self z = omega signed
half_in_fragment keep space over tiles f c h false x y i =
    let t = tile_of tiles f c in let at = place_of tiles f c in
    let B : ℤ → Type 0 = λ z. IsBetweenCuts (layer_of tiles) keep space over t h.first.from z in
    let room = room_before (layer_of tiles) keep space over t h.first.from at (subst B h.ends h.first.between) h.cut in
    let P : ℤ → Type 0 = λ z. at ≤ℤ z in
    let high : at ≤ℤ h.first.to = subst P (sym h.ends) (self at) in
    let R : Corners → Type 0 = λ z. IsIn z x y in
    subst R (sym h.first.is) (other_part t (at -ℤ pos (over / 2)) at h.first.from h.first.to x y i
    (within_ends _ _ _ _ _ room high (in_part t _ _ x y i))) where
      self : (z : ℤ) → z ≤ℤ z
      self z = omega signed

zone_is : (over : ℕ) (tiles : List Corners) (f : Fragments) (c : Cut) → IsCutOf over tiles f c
    → corners_of c.zone ≡ zone_at over (tile_of tiles f c) (place_of tiles f c)
unfolding tile_of place_of
zone_is over tiles f c i = i.overlap

pub half_in_zone : (over : ℕ) (tiles : List Corners) (f : Fragments) (c : Cut) → IsCutOf over tiles f c
    → (behind : Bool) (x y : ℤ) → IsIn (half_of over tiles f c behind) x y → IsIn (corners_of c.zone) x y
unfolding half_of half_at
half_in_zone over tiles f c i behind x y j =
    let R : Corners → Type 0 = λ z. IsIn z x y in
    subst R (sym (zone_is over tiles f c i)) (by_half behind j) where
      t : Corners
      t = tile_of tiles f c

      at : ℤ
      at = place_of tiles f c

      low : (h : ℕ) (z : ℤ) → (z -ℤ pos h) ≤ℤ z
      low h z = omega signed

      high : (h : ℕ) (z : ℤ) → z ≤ℤ (z +ℤ pos h)
      high h z = omega signed

      same : (z : ℤ) → z ≤ℤ z
      same z = omega signed

      by_half : (b : Bool) → IsIn (half_at over t at b) x y → IsIn (zone_at over t at) x y
      by_half true j = other_part t at (at +ℤ pos (over / 2)) (at -ℤ pos (over / 2)) (at +ℤ pos (over / 2)) x y j
          (within_ends _ _ _ _ _ (low (over / 2) at) (same _) (in_part t _ _ x y j))
      by_half false j = other_part t (at -ℤ pos (over / 2)) at (at -ℤ pos (over / 2)) (at +ℤ pos (over / 2)) x y j
          (within_ends _ _ _ _ _ (same _) (high (over / 2) at) (in_part t _ _ x y j))

pub zone_in_halves : (over : ℕ) (tiles : List Corners) (f : Fragments) (c : Cut) → IsCutOf over tiles f c
    → (x y : ℤ) → IsIn (corners_of c.zone) x y
    → IsIn (half_of over tiles f c false) x y ⊎ IsIn (half_of over tiles f c true) x y
unfolding half_of half_at
zone_in_halves over tiles f c i x y j =
    let t = tile_of tiles f c in let at = place_of tiles f c in
    let R : Corners → Type 0 = λ z. IsIn z x y in
    let k : IsIn (zone_at over t at) x y = subst R (zone_is over tiles f c i) j in
    let w = in_part t (at -ℤ pos (over / 2)) (at +ℤ pos (over / 2)) x y k in
    by_lt_z (position_of t x y) at
    (λ l. inl (other_part t _ _ (at -ℤ pos (over / 2)) at x y k (record { from = w.from; to = l })))
    (λ l. inr (other_part t _ _ at (at +ℤ pos (over / 2)) x y k (record { from = l; to = w.to })))

-- ---- how many cells they have

half_area : (over : ℕ) (tile : Corners) (at : ℤ) (behind : Bool) → area_of (half_at over tile at behind) ≡ area_of (zone_at over tile at) / 2
unfolding half_at
half_area over tile at behind = by_way (lies_along_x tile) refl behind where
  h : ℕ
  h = over / 2

  halves : (h n : ℕ) → (2 * h) * n / 2 ≡ h * n
  halves h n = let e : (2 * h) * n ≡ 2 * (h * n) = grind arith in omega (arith, e)

  halves' : (h n : ℕ) → n * (2 * h) / 2 ≡ n * h
  halves' h n = let e : n * (2 * h) ≡ 2 * (n * h) = grind arith in omega (arith, e)

  one : (h : ℕ) (z : ℤ) → (unsigned_abs (z -ℤ (z -ℤ pos h)) ≡ h) × (unsigned_abs ((z +ℤ pos h) -ℤ z) ≡ h)
  one h z = (omega signed, omega signed)

  both : (h : ℕ) (z : ℤ) → unsigned_abs ((z +ℤ pos h) -ℤ (z -ℤ pos h)) ≡ 2 * h
  both h z = omega signed

  by_way : (along : Bool) → lies_along_x tile ≡ along → (b : Bool) → area_of (half_at over tile at b) ≡ area_of (zone_at over tile at) / 2
  by_way true e true = rw (e, (one (over / 2) at).1, both (over / 2) at) (sym (halves (over / 2) (unsigned_abs (tile.y2 -ℤ tile.y1))))
  by_way true e false = rw (e, (one (over / 2) at).0, both (over / 2) at) (sym (halves (over / 2) (unsigned_abs (tile.y2 -ℤ tile.y1))))
  by_way false e true = rw (e, (one (over / 2) at).1, both (over / 2) at) (sym (halves' (over / 2) (unsigned_abs (tile.x2 -ℤ tile.x1))))
  by_way false e false = rw (e, (one (over / 2) at).0, both (over / 2) at) (sym (halves' (over / 2) (unsigned_abs (tile.x2 -ℤ tile.x1))))

pub half_of_area : (over : ℕ) (tiles : List Corners) (f : Fragments) (c : Cut) → IsCutOf over tiles f c
    → (behind : Bool) → area_of (half_of over tiles f c behind) ≡ area_of (corners_of c.zone) / 2
unfolding half_of
half_of_area over tiles f c i behind = half_area over (tile_of tiles f c) (place_of tiles f c) behind ∙ ap (λ z. area_of z / 2) (sym (zone_is over tiles f c i))

-- a part of a tile of which another part is proper
proper_part : (tile : Corners) (a b c d : ℤ) → IsProper (part_of tile a b) → c ≤ℤ d → IsProper (part_of tile c d)
proper_part tile a b c d = by_way (lies_along_x tile) refl where
  by_way : (along : Bool) → lies_along_x tile ≡ along → IsProper (part_of tile a b) → c ≤ℤ d → IsProper (part_of tile c d)
  by_way true e = rw e (λ p l. record { wide = l; high = p.high })
  by_way false e = rw e (λ p l. record { wide = p.wide; high = l })

pub half_proper : (keep : List Corners) (space over : ℕ) (tiles : List Corners) (f : Fragments) (c : Cut)
    → IsHere keep space over tiles f c → IsProper (rect_at (rects_of f) c.a) → (behind : Bool)
    → IsProper (half_of over tiles f c behind)
unfolding half_of half_at
half_proper keep space over tiles f c h p behind = by_half behind where
  own : IsProper (part_of (tile_of tiles f c) h.first.from h.first.to)
  own = subst IsProper h.first.is p

  low : (h : ℕ) (z : ℤ) → (z -ℤ pos h) ≤ℤ z
  low h z = omega signed

  high : (h : ℕ) (z : ℤ) → z ≤ℤ (z +ℤ pos h)
  high h z = omega signed

  by_half : (b : Bool) → IsProper (half_at over (tile_of tiles f c) (place_of tiles f c) b)
  by_half true = proper_part (tile_of tiles f c) h.first.from h.first.to _ _ own (high (over / 2) (place_of tiles f c))
  by_half false = proper_part (tile_of tiles f c) h.first.from h.first.to _ _ own (low (over / 2) (place_of tiles f c))

-- ---- no two halves share a cell

-- what is known of the fragments of a net of cuts
pub record AreHere (keep : List Corners) (space over : ℕ) (tiles : List Corners) (f : Fragments) : Type 0 where
  pub wide : 2 ≤ over
  pub apart : AllPairs AreApart (rects_of f)
  pub cut : (c : Cut) → IsCutOf over tiles f c → IsHere keep space over tiles f c

-- the fragment before one cut and behind another: the other cut stands there where the fragment begins
high_low : (keep : List Corners) (space over : ℕ) (tiles : List Corners) (f : Fragments) (c d : Cut) (t : Corners)
    → IsHere keep space over tiles f c → IsHere keep space over tiles f d → tile_of tiles f c ≡ t
    → tile_of tiles f d ≡ t → c.b ≡ d.a → (x y : ℤ) → IsIn (half_of over tiles f c true) x y
    → IsIn (half_of over tiles f d false) x y → ⊥
unfolding half_of half_at
high_low keep space over tiles f c d t h k e g same x y i j =
    let P : Corners → Type 0 = λ z. IsWithin (place_of tiles f c) (place_of tiles f c +ℤ pos (over / 2)) (position_of z x y) in
    let Q : Corners → Type 0 = λ z. IsWithin (place_of tiles f d -ℤ pos (over / 2)) (place_of tiles f d) (position_of z x y) in
    let w = subst P e (in_part (tile_of tiles f c) (place_of tiles f c) (place_of tiles f c +ℤ pos (over / 2)) x y i) in
    let v = subst Q g (in_part (tile_of tiles f d) (place_of tiles f d -ℤ pos (over / 2)) (place_of tiles f d) x y j) in
    let C : Corners → Type 0 = λ z. IsCutAt (layer_of tiles) keep space over z (place_of tiles f c) in
    let D : Corners → Type 0 = λ z. IsCutAt (layer_of tiles) keep space over z (place_of tiles f d) in
    let one : start_of t (rect_at (map corners_of f.rects) c.b) ≡ place_of tiles f c =
    ap (λ z. start_of z (rect_at (map corners_of f.rects) c.b)) (sym e) ∙
    ap (start_of (tile_of tiles f c)) h.second.is ∙ start_part (tile_of tiles f c) h.second.from h.second.to ∙
    h.begins in
    let other : start_of t (rect_at (map corners_of f.rects) d.a) ≡ k.first.from =
    ap (λ z. start_of z (rect_at (map corners_of f.rects) d.a)) (sym g) ∙ ap (start_of (tile_of tiles f d)) k.first.is ∙
    start_part (tile_of tiles f d) k.first.from k.first.to in
    let begin : place_of tiles f c ≡ k.first.from = sym one ∙ ap (λ n. start_of t (rect_at (map corners_of f.rects) n)) same ∙ other in
    let before : place_of tiles f c <ℤ place_of tiles f d = ahead _ _ _ _ begin k.first.between.some k.ends in
    let room = rooms_apart (layer_of tiles) keep space over t (place_of tiles f c) (place_of tiles f d) (subst C e h.cut) (subst D g k.cut) before in
    crossed _ _ (position_of t x y) room w.to v.from where
      ahead : (a b c d : ℤ) → a ≡ b → b <ℤ c → c ≡ d → a <ℤ d
      ahead a b c d e l g = omega signed

      crossed : (a b p : ℤ) → a ≤ℤ b → p <ℤ a → b ≤ℤ p → ⊥
      crossed a b p h l m = omega signed

-- two cuts behind which one fragment begins have one fragment before them
high_high : (keep : List Corners) (space over : ℕ) (tiles : List Corners) (f : Fragments) (c d : Cut) (t : Corners)
    → 2 ≤ over → IsHere keep space over tiles f c → IsHere keep space over tiles f d → tile_of tiles f c ≡ t
    → tile_of tiles f d ≡ t → c.b ≡ d.b → (x y : ℤ) → IsIn (half_of over tiles f c true) x y
    → SharesCell (IsIn (rect_at (rects_of f) c.a)) (IsIn (rect_at (rects_of f) d.a))
unfolding half_of half_at
high_high keep space over tiles f c d t wide h k e g same x y i =
    let at = place_of tiles f c in
    let one : start_of t (rect_at (map corners_of f.rects) c.b) ≡ at =
    ap (λ z. start_of z (rect_at (map corners_of f.rects) c.b)) (sym e) ∙
    ap (start_of (tile_of tiles f c)) h.second.is ∙ start_part (tile_of tiles f c) h.second.from h.second.to ∙
    h.begins in
    let other : start_of t (rect_at (map corners_of f.rects) d.b) ≡ place_of tiles f d =
    ap (λ z. start_of z (rect_at (map corners_of f.rects) d.b)) (sym g) ∙
    ap (start_of (tile_of tiles f d)) k.second.is ∙ start_part (tile_of tiles f d) k.second.from k.second.to ∙
    k.begins in
    let places : at ≡ place_of tiles f d = sym one ∙ ap (λ n. start_of t (rect_at (map corners_of f.rects) n)) same ∙ other in
    let (x', y', j, _) = cell_at (tile_of tiles f c) at (at +ℤ pos (over / 2)) (at -ℤ pos (over / 2)) at x y (at -ℤ pos 1) i (before at over wide) in
    let P : Corners → Type 0 = λ z. IsIn (part_of z (at -ℤ pos (over / 2)) at) x' y' in
    let Q : ℤ → Type 0 = λ z. IsIn (part_of (tile_of tiles f d) (z -ℤ pos (over / 2)) z) x' y' in
    record {
      x = x';
      y = y';
      first = half_in_fragment keep space over tiles f c h false x' y' j;
      second = half_in_fragment keep space over tiles f d k false x' y' (subst Q places (subst P (e ∙ sym g) j));
    } where
      before : (at : ℤ) (over : ℕ) → 2 ≤ over → IsWithin (at -ℤ pos (over / 2)) at (at -ℤ pos 1)
      before at over wide = let h : 1 ≤ over / 2 = omega arith in record { from = back at (over / 2) h; to = omega signed } where
        back : (at : ℤ) (h : ℕ) → 1 ≤ h → (at -ℤ pos h) ≤ℤ (at -ℤ pos 1)
        back at h l = omega signed

-- the fragments of two numbers share no cell
pub numbers_apart : (f : Fragments) → AllPairs AreApart (rects_of f) → (i j : ℕ) → i < length (rects_of f)
    → j < length (rects_of f) → (i ≡ j → ⊥) → (x y : ℤ) → IsIn (rect_at (rects_of f) i) x y
    → IsIn (rect_at (rects_of f) j) x y → ⊥
numbers_apart f apart i j l m differ x y a b = three i j
    (λ h. apart i j nowhere h m (record { x = x; y = y; first = a; second = b }))
    differ
    (λ h. apart j i nowhere h l (record { x = x; y = y; first = b; second = a }))

pub owner_within : (over : ℕ) (tiles : List Corners) (f : Fragments) (c : Cut) → IsCutOf over tiles f c → (behind : Bool) → owner c behind < length (rects_of f)
owner_within over tiles f c i true = i.within
owner_within over tiles f c i false = let r = i.rising in let w = i.within in omega arith

pub halves_apart : (keep : List Corners) (space over : ℕ) (tiles : List Corners) (f : Fragments)
    → AreHere keep space over tiles f → (c d : Cut) → IsCutOf over tiles f c → IsCutOf over tiles f d
    → c.a < d.a → (s t : Bool) → AreApart (half_of over tiles f c s) (half_of over tiles f d t)
unfolding tile_of
halves_apart keep space over tiles f a c d i j l s t shared = elim (cases_eq (owner c s) (owner d t)) [
  | inr differ ↦ numbers_apart f a.apart (owner c s) (owner d t) (owner_within over tiles f c i s) (owner_within over tiles f d j t) differ shared.x shared.y
      (half_in_fragment keep space over tiles f c (a.cut c i) s shared.x shared.y shared.first)
      (half_in_fragment keep space over tiles f d (a.cut d j) t shared.x shared.y shared.second)
  | inl same ↦ by_half s t same shared.first shared.second
] where
  by_half : (s t : Bool) → owner c s ≡ owner d t → IsIn (half_of over tiles f c s) shared.x shared.y → IsIn (half_of over tiles f d t) shared.x shared.y → ⊥
  by_half false false e p q = omega (arith, e, l)
  by_half false true e p q = let r = j.rising in omega (arith, e, l, r)
  by_half true false e p q =
      high_low keep space over tiles f c d (rect_at tiles (get_or f.tile c.a 0)) (a.cut c i) (a.cut d j) refl
      (ap (rect_at tiles) (sym (i.same ∙ ap (λ n. get_or f.tile n 0) e))) e shared.x shared.y p q
  by_half true true e p q =
      a.apart c.a d.a nowhere l (let r = j.rising in let w = j.within in omega (arith, r, w))
      (high_high keep space over tiles f c d (rect_at tiles (get_or f.tile c.a 0)) a.wide (a.cut c i) (a.cut d j) refl
      (ap (rect_at tiles) (sym (i.same ∙ ap (λ n. get_or f.tile n 0) e ∙ sym j.same))) e shared.x shared.y p)
