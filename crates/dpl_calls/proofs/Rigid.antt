-- Transformations keep level and upright lines, and points apart.
use Rattle.std.proofs.Common.{◌≡◌, ◌≢◌, inl, inr, ℕ, zero, suc, Bool, true, false, cond, ◌==◌, ℤ, pos, ◌+ℤ◌, ◌<ℤ◌, List}
use Rattle.std.proofs.Common.{[], ◌∷◌, map, Some, All, ap, arith, unsigned_abs}
use Rattle.std.specs.List.{flat_map}
use Rattle.std.specs.Int.{int_min, int_max}
use Rattle.std.proofs.Math.IntN.{neg_ℤ}
use Rattle.std.proofs.lemmas.Int.{ints}
use Rattle.std.proofs.lemmas.List.Elements.{All-append, All-head, All-tail, All-nil, All-cons}
use Rattle.std.specs.Prelude.{int_lt}
use Rattle.dpl_rules.specs.declared.command.Spot.{Spot}
use Rattle.dpl_rules.specs.declared.command.Scale.{Scale}
use Rattle.dpl_rules.specs.declared.command.Transformation.{Transformation}
use Rattle.dpl_rules.specs.declared.command.Transformation.TheVariants.{Shift, MirrorX, MirrorY, Rotate}
use Rattle.dpl_calls.specs.declared.figure.Corner.{Corner}
use Rattle.dpl_calls.specs.declared.figure.Figure.{Figure}
use Rattle.dpl_calls.specs.declared.figure.Figure.TheVariants.{Rectangle, Polygon}
use Rattle.dpl_calls.specs.Parts.{corner, Part, Bodies, turned, transformed, transformed_by}
use Rattle.dpl_calls.specs.Parts.Part.{Drawn, Called}
use Rattle.dpl_calls.specs.Unfolding.{placed, part_figures, figures_of}
use Rattle.dpl_calls.specs.Kept.{AreLevel, IsSound, IsRigid, IsPartKept, AreKept}

neg_back : (a b : ℤ) → neg_ℤ a ≡ neg_ℤ b → a ≡ b
neg_back a b e = omega (arith, ints)

add_back : (a b k : ℤ) → a +ℤ k ≡ b +ℤ k → a ≡ b
add_back a b k e = omega (arith, ints)

pub unmoved_rigid : IsRigid (λ c. c)
unmoved_rigid = record { level = λ a b h. h; apart = λ a b x y. (x, y) }

pub composed_rigid : (f h : Corner → Corner) → IsRigid f → IsRigid h → IsRigid (λ c. f (h c))
composed_rigid f h F H = record {
  level = λ a b l. F.level (h a) (h b) (H.level a b l);
  apart = λ a b x y. let q = H.apart a b x y in F.apart (h a) (h b) q.0 q.1;
}

-- a map of each coordinate alone
each : (f h : ℤ → ℤ) → ((a b : ℤ) → f a ≡ f b → a ≡ b) → ((a b : ℤ) → h a ≡ h b → a ≡ b) → IsRigid (λ c. corner (f c.x) (h c.y))
each f h F H = record {
  level = λ a b l. elim l [ inl e ↦ inl (ap f e) | inr e ↦ inr (ap h e) ];
  apart = λ a b x y. (λ e. x (F a.x b.x e), λ e. y (H a.y b.y e));
}

-- the same with the coordinates exchanged
crossed : (f h : ℤ → ℤ) → ((a b : ℤ) → f a ≡ f b → a ≡ b) → ((a b : ℤ) → h a ≡ h b → a ≡ b) → IsRigid (λ c. corner (f c.y) (h c.x))
crossed f h F H = record {
  level = λ a b l. elim l [ inl e ↦ inr (ap h e) | inr e ↦ inl (ap f e) ];
  apart = λ a b x y. (λ e. y (F a.y b.y e), λ e. x (H a.x b.x e));
}

same_back : (a b : ℤ) → a ≡ b → a ≡ b
same_back a b e = e

turned_rigid : (to : Spot) → IsRigid (turned to)
turned_rigid to = by (unsigned_abs to.y == 0) (int_lt to.x (pos 0)) (int_lt to.y (pos 0))
  where
    by : (p q r : Bool) → IsRigid (λ c. cond p (cond q (corner (neg_ℤ c.x) (neg_ℤ c.y)) c) (cond r (corner c.y (neg_ℤ c.x)) (corner (neg_ℤ c.y) c.x)))
    by true true r = each (λ z. neg_ℤ z) (λ z. neg_ℤ z) neg_back neg_back
    by true false r = unmoved_rigid
    by false q true = crossed (λ z. z) (λ z. neg_ℤ z) same_back neg_back
    by false q false = crossed (λ z. neg_ℤ z) (λ z. z) neg_back same_back

transformed_rigid : (s : Scale) (t : Transformation) → IsRigid (transformed s t)
transformed_rigid s (Shift by) = each (λ z. z +ℤ _) (λ z. z +ℤ _) (λ a b e. add_back a b _ e) (λ a b e. add_back a b _ e)
transformed_rigid s MirrorX = each (λ z. neg_ℤ z) (λ z. z) neg_back same_back
transformed_rigid s MirrorY = each (λ z. z) (λ z. neg_ℤ z) same_back neg_back
transformed_rigid s (Rotate to) = turned_rigid to

pub transformations_rigid : (s : Scale) (ts : List Transformation) → IsRigid (transformed_by s ts)
transformations_rigid s [] = unmoved_rigid
transformations_rigid s (t ∷ ts) = composed_rigid (transformed_by s ts) (transformed s t) (transformations_rigid s ts) (transformed_rigid s t)

-- ---- figures stay sound where they are placed

min_less_max : (a b : ℤ) → a ≢ b → int_min a b <ℤ int_max a b
min_less_max a b h = grind (arith, ints)

less_apart : (a b : ℤ) → a <ℤ b → a ≢ b
less_apart a b h e = omega (arith, ints, h, e)

levels_placed : (f : Corner → Corner) → IsRigid f → (p : Corner) (ps : List Corner) (last : Corner) → AreLevel p ps last → AreLevel (f p) (map f ps) (f last)
levels_placed f F p [] last h = F.level p last h
levels_placed f F p (q ∷ qs) last h = (F.level p q h.0, levels_placed f F q qs last h.1)

pub placed_sound : (f : Corner → Corner) (x : Figure) → IsRigid f → IsSound x → IsSound (placed f x)
placed_sound f (Rectangle e) F h =
    let a = F.apart (corner e.x1 e.y1) (corner e.x2 e.y2) (less_apart e.x1 e.x2 h.0) (less_apart e.y1 e.y2 h.1) in
    (min_less_max (f (corner e.x1 e.y1)).x (f (corner e.x2 e.y2)).x a.0, min_less_max (f (corner e.x1 e.y1)).y (f (corner e.x2 e.y2)).y a.1)
placed_sound f (Polygon []) F h = tt
placed_sound f (Polygon (p ∷ ps)) F h = levels_placed f F p ps p h

all_one : {X : Type 0} (P : X → Type 0) (x : X) → P x → All P (x ∷ [])
all_one P x p = All-cons P x [] p (All-nil P)

module _ (bodies : Bodies) (inner : (Corner → Corner) → List Part → List Figure)
    (ih : (f : Corner → Corner) (n : ℕ) → IsRigid f → All IsSound (inner f (bodies (Some n)))) where
  part_sound : (f : Corner → Corner) (p : Part) → IsRigid f → IsPartKept p → All IsSound (part_figures bodies inner f p)
  part_sound f (Drawn x) F h = all_one IsSound (placed f x) (placed_sound f x F h.1)
  part_sound f (Called n moves) F h = ih (λ c. f (moves c)) n (composed_rigid f moves F h)

  parts_sound : (f : Corner → Corner) (ps : List Part) → IsRigid f → All IsPartKept ps → All IsSound (flat_map (part_figures bodies inner f) ps)
  parts_sound f [] F h = All-nil IsSound
  parts_sound f (p ∷ ps) F h = All-append IsSound (part_figures bodies inner f p)
      (flat_map (part_figures bodies inner f) ps) (part_sound f p F (All-head IsPartKept p ps h))
      (parts_sound f ps F (All-tail IsPartKept p ps h))

-- all figures of a layout are sound
pub figures_sound : (depth : ℕ) (bodies : Bodies) → AreKept bodies → (f : Corner → Corner) (ps : List Part)
    → IsRigid f → All IsPartKept ps → All IsSound (figures_of depth bodies f ps)
figures_sound zero bodies K f ps F h = All-nil IsSound
figures_sound (suc depth) bodies K f ps F h = parts_sound bodies (figures_of depth bodies)
    (λ q n Q. figures_sound depth bodies K q (bodies (Some n)) Q (K (Some n))) f ps F h
