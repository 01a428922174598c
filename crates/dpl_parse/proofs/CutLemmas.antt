-- The numbers of a cut line, in three parts.
use Rattle.std.proofs.Common.{◌≡◌, ℕ, List, [], ◌∷◌, ◌++◌, refl, subst, codes}
use Rattle.std.specs.Prelude.{ℤ}
use Rattle.dpl_cell.specs.Places.{Corners}
use Rattle.dpl_cell.specs.Ranges.{IsRectangle}
use Rattle.dpl_report.specs.declared.marks.Broken.{Broken}
use Rattle.dpl_report.specs.Plain.{PlainZone}
use Rattle.dpl_report.specs.ReportLines.{broken_numbers, zone_numbers}
use Rattle.dpl_report.specs.Reading.{from_edge, item_cut}
use Rattle.dpl_report.specs.Valid.{IsBroken, IsZone}
use Rattle.dpl_parse.specs.Standing.{Stand}
use Rattle.dpl_parse.proofs.StandingLemmas.{others_stand, stand_joined}
use Rattle.dpl_parse.proofs.EdgeLemmas.{closing, cut_there}

abbrev pub low_corner : PlainZone → List ℤ
low_corner z = z.corners.x1 ∷ z.corners.y1 ∷ []

abbrev pub high_corner : PlainZone → List ℤ
high_corner z = z.corners.x2 ∷ z.corners.y2 ∷ []

abbrev pub both_corners : PlainZone → List ℤ
both_corners z = z.corners.x1 ∷ z.corners.y1 ∷ z.corners.x2 ∷ z.corners.y2 ∷ []

pub behind_ends : (at : Broken) (z : PlainZone) (r1 r2 : List ℕ) → Stand (broken_numbers at) r2 r1 → Stand (zone_numbers z) closing r1
    → Stand (both_corners z) closing r2
behind_ends at z r1 r2 e s = (others_stand (broken_numbers at) (broken_numbers z.at) (both_corners z) r2 closing r1 refl e s).1

pub behind_low : (a b : ℤ) (z : PlainZone) (r2 r3 : List ℕ) → Stand (a ∷ b ∷ []) r3 r2 → Stand (both_corners z) closing r2
    → (a ∷ b ∷ [] ≡ low_corner z) × Stand (high_corner z) closing r3
behind_low a b z r2 r3 e s = others_stand (a ∷ b ∷ []) (low_corner z) (high_corner z) r3 closing r2 refl e s

pub behind_high : (c d : ℤ) (z : PlainZone) (r3 r4 : List ℕ) → Stand (c ∷ d ∷ []) r4 r3 → Stand (high_corner z) closing r3
    → (c ∷ d ∷ [] ≡ high_corner z) × (r4 ≡ closing)
behind_high c d z r3 r4 e s = let o = others_stand (c ∷ d ∷ []) (high_corner z) [] r4 closing r3 refl e s in (o.0, o.1.is)

pub same_corners : (a b c d : ℤ) (z : PlainZone) → a ∷ b ∷ [] ≡ low_corner z → c ∷ d ∷ [] ≡ high_corner z → IsZone z
    → IsRectangle (record { x1 = a; y1 = b; x2 = c; y2 = d })
same_corners a b c d z e h f =
    let p : a ≡ z.corners.x1 = cc in
    let q : b ≡ z.corners.y1 = cc in
    let r : c ≡ z.corners.x2 = cc in
    let s : d ≡ z.corners.y2 = cc in
    rw (p, q, r, s) f.corners

pub cut_read : (l r1 r2 r3 r4 : List ℕ) (at : Broken) (a b c d : ℤ) (k : Corners) → l ≡ codes "(cut" ++ r1 → IsBroken at
    → Stand (broken_numbers at) r2 r1 → Stand (a ∷ b ∷ []) r3 r2 → Stand (c ∷ d ∷ []) r4 r3 → r4 ≡ closing
    → IsRectangle k → k ≡ record { x1 = a; y1 = b; x2 = c; y2 = d }
    → (least : ℕ) → item_cut least l ≡ from_edge least at.edge (record { at = at; corners = k })
cut_read l r1 r2 r3 r4 at a b c d k front f ends low high e g same =
    let last : Stand (c ∷ d ∷ []) closing r3 = subst (λ r. Stand (c ∷ d ∷ []) r r3) e high in
    let four : Stand (a ∷ b ∷ c ∷ d ∷ []) closing r2 = stand_joined (a ∷ b ∷ []) (c ∷ d ∷ []) closing r3 r2 low last in
    let z : PlainZone = record { at = at; corners = k } in
    let s : Stand (zone_numbers z) closing r1 = rw same (stand_joined (broken_numbers at) (a ∷ b ∷ c ∷ d ∷ []) closing r2 r1 ends four) in
    cut_there l r1 z front (record { ends = f; corners = g }) s
