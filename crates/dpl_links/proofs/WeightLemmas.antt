-- What the edges of a net weigh.
use Rattle.std.proofs.Common.{◌≡◌, inl, inr, ℕ, ℤ, ◌<ℤ◌, ◌≤ℤ◌, Bool, true, false, List, map, refl, sym, subst, All}
use Rattle.std.specs.Int.{int_max, int_min}
use Rattle.std.specs.Prelude.{◌||◌}
use Rattle.std.proofs.lemmas.List.Elements.{All-weaker}
use Rattle.std.proofs.lemmas.Bool.{or_left, or_right}
use Rattle.dpl_cell.specs.Places.{Corners, corners_of}
use Rattle.dpl_cell.specs.Cells.{IsIn, IsWithin}
use Rattle.dpl_cell.specs.Gaps.{AreClose, overlap}
use Rattle.dpl_list.proofs.Integers.{signed, is_less, not_less}
use Rattle.dpl_sign.specs.declared.edges.Edge.{Edge}
use Rattle.dpl_sign.specs.declared.nets.Net.{Net}
use Rattle.dpl_cuts.specs.declared.types.Fragments.{Fragments}
use Rattle.dpl_cuts.specs.Positions.{rect_at}
use Rattle.dpl_options.specs.Options.{PlainWeights}
use Rattle.dpl_links.specs.declared.linking.Link.{Link}
use Rattle.dpl_links.specs.Pairs.{Scene, are_facing}
use Rattle.dpl_links.specs.Links.{IsLink, IsLeast}
use Rattle.dpl_links.specs.Nets.{scene, tie_of, clash_tie, IsNet}
use Rattle.dpl_links.specs.Weighing.{FaceEachOther, HasWeight}
use Rattle.dpl_links.proofs.NetLemmas.{all_edges, net_ties}

-- a place of two stretches is one that they have in common, and stretches that overlap have one
in_both : (a b c d x : ℤ) → IsWithin a b x → IsWithin c d x → overlap a b c d ≡ true
in_both a b c d x h g = elim (overlap a b c d) as (λ t. overlap a b c d ≡ t → t ≡ true) [
  | true ↦ λ e. refl
  | false ↦ λ e. let l : int_min b d ≤ℤ int_max a c = not_less _ _ e in absurd (omega signed)
] refl

from_first : (a b c d : ℤ) → overlap a b c d ≡ true → IsWithin a b (int_max a c)
from_first a b c d e = let l : int_max a c <ℤ int_min b d = is_less _ _ e in record { from = omega signed; to = omega signed }

from_second : (a b c d : ℤ) → overlap a b c d ≡ true → IsWithin c d (int_max a c)
from_second a b c d e = let l : int_max a c <ℤ int_min b d = is_less _ _ e in record { from = omega signed; to = omega signed }

-- rectangles face each other where some of their cells do
facing_cells : (a b : Corners) → FaceEachOther (IsIn a) (IsIn b) → are_facing a b ≡ true
facing_cells a b f = elim f.line [
  | inl e ↦ or_left (overlap a.x1 a.x2 b.x1 b.x2) (overlap a.y1 a.y2 b.y1 b.y2)
      (in_both a.x1 a.x2 b.x1 b.x2 f.x f.cells.first.column (subst (IsWithin b.x1 b.x2) (sym e) f.cells.second.column))
  | inr e ↦ or_right (overlap a.x1 a.x2 b.x1 b.x2) (overlap a.y1 a.y2 b.y1 b.y2)
      (in_both a.y1 a.y2 b.y1 b.y2 f.y f.cells.first.row (subst (IsWithin b.y1 b.y2) (sym e) f.cells.second.row))
]

-- of two rectangles with a cell each, some cells face each other where the rectangles do
cells_facing : (a b : Corners) (space : ℕ) → AreClose (IsIn a) (IsIn b) space → (p q : Bool)
    → overlap a.x1 a.x2 b.x1 b.x2 ≡ p → overlap a.y1 a.y2 b.y1 b.y2 ≡ q → (p || q) ≡ true → FaceEachOther (IsIn a) (IsIn b)
cells_facing a b space c true q e f t = record {
  x = int_max a.x1 b.x1;
  y = c.y;
  x' = int_max a.x1 b.x1;
  y' = c.y';
  cells = record {
    first = record { column = from_first a.x1 a.x2 b.x1 b.x2 e; row = c.cells.first.row };
    second = record { column = from_second a.x1 a.x2 b.x1 b.x2 e; row = c.cells.second.row };
  };
  line = inl refl;
}
cells_facing a b space c false true e f t = record {
  x = c.x;
  y = int_max a.y1 b.y1;
  x' = c.x';
  y' = int_max a.y1 b.y1;
  cells = record {
    first = record { column = c.cells.first.column; row = from_first a.y1 a.y2 b.y1 b.y2 f };
    second = record { column = c.cells.second.column; row = from_second a.y1 a.y2 b.y1 b.y2 f };
  };
  line = inr refl;
}
cells_facing a b space c false false e f t = absurd (cc)

-- where no cells face each other, the rectangles meet at corners
corner_cells : (a b : Corners) (space : ℕ) → AreClose (IsIn a) (IsIn b) space → ¬ FaceEachOther (IsIn a) (IsIn b) → are_facing a b ≡ false
corner_cells a b space c n = elim (are_facing a b) as (λ t. are_facing a b ≡ t → t ≡ false) [
  | true ↦ λ e. absurd (n (cells_facing a b space c (overlap a.x1 a.x2 b.x1 b.x2) (overlap a.y1 a.y2 b.y1 b.y2) refl refl e))
  | false ↦ λ e. refl
] refl

clash_weighs : (s : Scene) (pieces : List ℕ) (weights : PlainWeights) (l : Link) → IsLink s pieces l → HasWeight weights s.rects (clash_tie weights l)
clash_weighs s pieces weights l f = record {
  bond = λ e. absurd (cc);
  stitch = λ e. absurd (cc);
  side = λ e t. rw (f.corner, facing_cells (rect_at s.rects l.a) (rect_at s.rects l.b) t) refl;
  corner = λ e t. rw (f.corner, corner_cells (rect_at s.rects l.a) (rect_at s.rects l.b) s.space f.conflict.close t) refl;
}

pub edges_weigh : (f : Fragments) (weights : PlainWeights) (space : ℕ) (net : Net) → IsNet f weights space net
    → All (λ (e : Edge). HasWeight weights (map corners_of f.rects) (tie_of e)) net.graph.edges
edges_weigh f weights space net n =
    all_edges (HasWeight weights (map corners_of f.rects)) weights n.bonds f.cuts n.links net.graph.edges (net_ties f weights space net n)
    (λ k d l. record { bond = λ e. refl; stitch = λ e. absurd (cc); side = λ e t. absurd (cc); corner = λ e t. absurd (cc) })
    (λ k d l. record { bond = λ e. absurd (cc); stitch = λ e. refl; side = λ e t. absurd (cc); corner = λ e t. absurd (cc) })
    (All-weaker (IsLeast (scene f space) net.pieces) (λ (l : Link). HasWeight weights (map corners_of f.rects)
    (clash_tie weights l)) (λ l m. clash_weighs (scene f space) net.pieces weights l m.link) n.links
    n.are_clashes.each)
