-- The figures of a command in bounds are near.
use Rattle.std.proofs.Common.{◌≡◌, ℕ, ◌≤◌, ◌^◌, ℤ, unsigned_abs, Bool, true, false, cond, ◌&&◌, ◌==◌, List, [], ◌∷◌, map, All}
use Rattle.std.specs.List.{list_all}
use Rattle.std.specs.Int.{int_min, int_max}
use Rattle.dpl_rules.specs.declared.command.Spot.{Spot}
use Rattle.dpl_rules.specs.declared.command.BoxForm.{BoxForm}
use Rattle.dpl_rules.specs.declared.command.Scale.{Scale}
use Rattle.dpl_rules.specs.declared.command.Command.TheVariants.{Box}
use Rattle.dpl_rules.specs.declared.figures.Extent.{Extent}
use Rattle.dpl_rules.specs.Bounds.{is_in_bounds, is_spot_in_bounds, is_command_in_bounds}
use Rattle.dpl_rules.specs.Figures.{IsScale, less, more, around, box_extent, leg}
use Rattle.dpl_calls.specs.declared.figure.Figure.TheVariants.{Rectangle}
use Rattle.dpl_calls.specs.Parts.{scaled_corner}
use Rattle.dpl_calls.specs.Put.{scaled_extent}
use Rattle.dpl_calls.specs.Placement.{IsCornerNear}
use Rattle.dpl_calls.specs.Kept.{IsFigureNear}
use Rattle.dpl_calls.proofs.Nearness.{min_near, max_near, less_near, more_near, scaled_near, in_bounds_le, spot_near}
use Rattle.std.proofs.lemmas.Bool.{and_parts}
use Rattle.std.proofs.lemmas.List.Elements.{All-nil, All-cons}

pub path_near : (s : Scale) (ps : List Spot) → IsScale s → list_all is_spot_in_bounds ps ≡ true → All IsCornerNear (map (scaled_corner s) ps)
path_near s [] sc h = All-nil IsCornerNear
path_near s (p ∷ ps) sc h =
    let f = and_parts (is_spot_in_bounds p) (list_all is_spot_in_bounds ps) h in
    All-cons IsCornerNear (scaled_corner s p) (map (scaled_corner s) ps) (spot_near s p sc f.0) (path_near s ps sc f.1)

around_near : (s : Scale) (x : ℤ) (across : ℕ) (y : ℤ) (along : ℕ) → IsScale s → unsigned_abs x ≤ 10 ^ 12
    → unsigned_abs y ≤ 10 ^ 12 → across ≤ 10 ^ 12 → along ≤ 10 ^ 12
    → IsFigureNear (Rectangle (scaled_extent s (around x across y along)))
around_near s x across y along sc hx hy ha hl = (
  record { x = scaled_near s (less x across) sc (less_near x across hx ha); y = scaled_near s (less y along) sc (less_near y along hy hl) },
  record { x = scaled_near s (more x across) sc (more_near x across hx ha); y = scaled_near s (more y along) sc (more_near y along hy hl) },
)

pub leg_near : (s : Scale) (w : ℕ) (p q : Spot) → IsScale s → w ≤ 10 ^ 12 → is_spot_in_bounds p ≡ true
    → is_spot_in_bounds q ≡ true → IsFigureNear (Rectangle (scaled_extent s (leg w p q)))
leg_near s w p q sc hw hp hq =
    let f = and_parts (is_in_bounds (unsigned_abs p.x)) (is_in_bounds (unsigned_abs p.y)) hp in
    let g = and_parts (is_in_bounds (unsigned_abs q.x)) (is_in_bounds (unsigned_abs q.y)) hq in
    let px : unsigned_abs p.x ≤ 10 ^ 12 = in_bounds_le (unsigned_abs p.x) f.0 in
    let py : unsigned_abs p.y ≤ 10 ^ 12 = in_bounds_le (unsigned_abs p.y) f.1 in
    let qx : unsigned_abs q.x ≤ 10 ^ 12 = in_bounds_le (unsigned_abs q.x) g.0 in
    let qy : unsigned_abs q.y ≤ 10 ^ 12 = in_bounds_le (unsigned_abs q.y) g.1 in (
      record {
        x = scaled_near s (less (int_min p.x q.x) w) sc
            (less_near (int_min p.x q.x) w (min_near p.x q.x px qx) hw);
        y =
            scaled_near s (less (int_min p.y q.y) w) sc (less_near (int_min p.y q.y) w (min_near p.y q.y py qy) hw);
      },
      record {
        x = scaled_near s (more (int_max p.x q.x) w) sc
            (more_near (int_max p.x q.x) w (max_near p.x q.x px qx) hw);
        y =
            scaled_near s (more (int_max p.y q.y) w) sc (more_near (int_max p.y q.y) w (max_near p.y q.y py qy) hw);
      },
    )

chosen_near : (t : Bool) (s : Scale) (p q : Extent) → IsFigureNear (Rectangle (scaled_extent s p))
    → IsFigureNear (Rectangle (scaled_extent s q)) → IsFigureNear (Rectangle (scaled_extent s (cond t p q)))
chosen_near true s p q h k = h
chosen_near false s p q h k = k

pub box_near : (s : Scale) (b : BoxForm) → IsScale s → is_command_in_bounds (Box b) ≡ true → IsFigureNear (Rectangle (scaled_extent s (box_extent b)))
box_near s b sc h =
    let f = and_parts (is_in_bounds b.length && is_in_bounds b.width && is_spot_in_bounds b.centre) (is_spot_in_bounds b.direction) h in
    let g = and_parts (is_in_bounds b.length && is_in_bounds b.width) (is_spot_in_bounds b.centre) f.0 in
    let e = and_parts (is_in_bounds b.length) (is_in_bounds b.width) g.0 in
    let c = and_parts (is_in_bounds (unsigned_abs b.centre.x)) (is_in_bounds (unsigned_abs b.centre.y)) g.1 in
    let x : unsigned_abs b.centre.x ≤ 10 ^ 12 = in_bounds_le (unsigned_abs b.centre.x) c.0 in
    let y : unsigned_abs b.centre.y ≤ 10 ^ 12 = in_bounds_le (unsigned_abs b.centre.y) c.1 in
    let l : b.length ≤ 10 ^ 12 = in_bounds_le b.length e.0 in
    let w : b.width ≤ 10 ^ 12 = in_bounds_le b.width e.1 in
    chosen_near (unsigned_abs b.direction.y == 0) s (around b.centre.x b.length b.centre.y b.width)
    (around b.centre.x b.width b.centre.y b.length)
    (around_near s b.centre.x b.length b.centre.y b.width sc x y l w)
    (around_near s b.centre.x b.width b.centre.y b.length sc x y w l)
