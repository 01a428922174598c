-- The tiles of a text's layer share out its cells: each cell lies in exactly one tile, and no other cell lies in any.
use Rattle.std.proofs.Common.{◌≡◌, ℕ, ◌<◌, ◌≤◌, ◌^◌, max, arith, ℤ, pos, neg_ℤ, ◌<ℤ◌, ◌≤ℤ◌, List, [], ◌∷◌, ◌++◌, map, All, Bool, true, false, inl, inr, refl}
use Rattle.std.specs.Prelude.{option_to_list}
use Rattle.std.specs.Int.RustNames.{unsigned_abs}
use Rattle.std.proofs.lemmas.Bool.{cases_lt}
use Rattle.std.proofs.lemmas.List.Elements.{All-nil, All-cons}
use Rattle.dpl_list.proofs.Integers.{signed}
use Rattle.dpl_limits.specs.declared.counted.Counted.TheVariants as Counted
use Rattle.dpl_cell.specs.Places.{Corners}
use Rattle.dpl_cell.specs.Outlines.{Outline, Box, Polygon}
use Rattle.dpl_cell.specs.Layers.{is_cell}
use Rattle.dpl_cell.specs.Ranges.{IsInRange}
use Rattle.dpl_cell.specs.Tiles.{AreTiles}
use Rattle.dpl_calls.specs.Totals.{shown}
use Rattle.dpl_tiles.specs.Union.{SharesOut}
use Rattle.dpl_tiles.proofs.OutlineLemmas.{AllRows, AllColumns, Lies, no_row, no_column, at_most, above}
use Rattle.dpl_tiles.proofs.BoundLemmas.{IsBounded, far_left, far_right}
use Rattle.dpl_cif.proofs.Fits.{in_range}
use Rattle.dpl_tiles.proofs.UnionLemmas.{shares_out}
use Rattle.dpl_cif.specs.Drawn.{place_reach, places_reach, outline_reach, reach}
use Rattle.dpl_cif.specs.Reading.{primitives_of, primitive_count, call_count}
use Rattle.dpl_options.specs.Options.{PlainOptions}
use Rattle.dpl_layer.specs.declared.error.LayerError.{LayerError}
use Rattle.dpl_layer.specs.declared.error.LayerError.TheVariants.{Limit}
use Rattle.dpl_layer.specs.Reasons.{FirstOf, NoneOf, IsOver}
use Rattle.dpl_layer.specs.Drawings.{HasFault, PassesLimit, drawing_reasons}
use Rattle.dpl_layer.proofs.ReasonLemmas.{Reason, in_front, behind, none_head, none_tail}

-- ---- parts within reach

points : (C : ℤ → Type 0) → ((c : ℤ) → IsInRange c → C c) → (ps : List (ℤ × ℤ)) → places_reach ps ≤ 2 ^ 30 → All (λ p. C p.0) ps × All (λ p. C p.1) ps
points C f [] h = (All-nil (λ p. C p.0), All-nil (λ p. C p.1))
points C f (p ∷ ps) h =
    let others = points C f ps (omega (arith, h)) in (
      All-cons (λ p. C p.0) p ps (f p.0 (in_range p.0 (omega (arith, h)))) others.0,
      All-cons (λ p. C p.1) p ps (f p.1 (in_range p.1 (omega (arith, h)))) others.1,
    )

outline : (C : ℤ → Type 0) → ((c : ℤ) → IsInRange c → C c) → (o : Outline) → outline_reach o ≤ 2 ^ 30 → AllColumns C o × AllRows C o
outline C f (Box r) h = (
  (f r.x1 (in_range r.x1 (omega (arith, h))), f r.x2 (in_range r.x2 (omega (arith, h)))),
  (f r.y1 (in_range r.y1 (omega (arith, h))), f r.y2 (in_range r.y2 (omega (arith, h)))),
)
outline C f (Polygon ps) h = points C f ps h

outlines : (C : ℤ → Type 0) → ((c : ℤ) → IsInRange c → C c) → (os : List Outline) → reach os ≤ 2 ^ 30 → All (AllColumns C) os × All (AllRows C) os
outlines C f [] h = (All-nil (AllColumns C), All-nil (AllRows C))
outlines C f (o ∷ os) h =
    let here = outline C f o (omega (arith, h)) in
    let others = outlines C f os (omega (arith, h)) in
    (All-cons (AllColumns C) o os here.0 others.0, All-cons (AllRows C) o os here.1 others.1)

bounded_parts : (os : List Outline) → reach os ≤ 2 ^ 30 → IsBounded (is_cell os)
bounded_parts os near = record {
  left = λ x y h. no_column false x y os (outlines (Lies false x) (λ c r. far_left x c h r) os near).0;
  right = λ x y h. no_column true x y os (outlines (Lies true x) (λ c r. far_right x c h r) os near).0;
  below = λ x y h. no_row false x y os (outlines (Lies false y) (λ c r. far_left y c h r) os near).1;
  above = λ x y h. no_row true x y os (outlines (Lies true y) (λ c r. far_right y c h r) os near).1;
}

-- ---- a text that is drawn

-- the coordinates of a layer that passes no limit are within reach
within_reach : (text layer : List ℕ) → ((e : LayerError) → ¬ PassesLimit text layer e) → reach (primitives_of layer text) ≤ 2 ^ 30
within_reach text layer none =
    let P : Reason = IsOver Counted.Primitives (primitive_count layer text) in
    let C : Reason = IsOver Counted.Calls (call_count layer text) in
    let r = reach (primitives_of layer text) in
    let R : Reason = IsOver Counted.Coordinates r in
    let free = none_head R [] (none_tail C (R ∷ []) (none_tail P (C ∷ R ∷ []) none)) in
    elim (cases_lt (2 ^ 30) r) [
      | inl far ↦ absurd (free (Limit 4 (shown r)) (far, refl))
      | inr near ↦ near
    ]

-- no limit of the chosen layer is passed where the text is drawn
no_limit : (o : PlainOptions) (text : List ℕ) → NoneOf (drawing_reasons o text) → (e : LayerError) → ¬ PassesLimit text o.layer e
no_limit o text none =
    let layers = o.layer ∷ option_to_list o.keep in
    let F = map (HasFault text) layers in
    let L = map (PassesLimit text) (option_to_list o.keep) in
    let free : NoneOf F = λ e r. none e (in_front F (PassesLimit text o.layer ∷ L) e r) in
    let limits : NoneOf (PassesLimit text o.layer ∷ L) = λ e r. none e (behind F (PassesLimit text o.layer ∷ L) e free r) in
    none_head (PassesLimit text o.layer) L limits

pub text_shares_out : (o : PlainOptions) (text : List ℕ) → NoneOf (drawing_reasons o text)
    → (tiles : List Corners) → AreTiles (is_cell (primitives_of o.layer text)) tiles
    → SharesOut (is_cell (primitives_of o.layer text)) tiles
text_shares_out o text none tiles a =
    let os = primitives_of o.layer text in
    shares_out (is_cell os) tiles (bounded_parts os (within_reach text o.layer (no_limit o text none))) a
