-- What the lines of a report show, by what is said of its masks.
use Rattle.std.proofs.Common.{arith, inl, inr, ◌≡◌, ◌<◌, ◌*◌, ◌/◌, ℕ, ℤ, Bool, true, false, List, length, map, sym, ap, subst, ◌∙◌, All, IsTrue}
use Rattle.std.specs.Prelude.{pos, ◌+ℤ◌, ◌-ℤ◌, if◌then◌else◌, slice_index_or}
use Rattle.std.proofs.Math.Path.{fun_ext}
use Rattle.std.proofs.lemmas.List.Elements.{All-weaker}
use Rattle.dpl_list.proofs.Integers.{signed}
use Rattle.dpl_cell.specs.Places.{Corners, corners_of}
use Rattle.dpl_cuts.specs.declared.types.Fragments.{Fragments}
use Rattle.dpl_cuts.specs.Positions.{layer_of, rect_at, part_of, end_of}
use Rattle.dpl_cuts.specs.Fragments.{IsCut}
use Rattle.dpl_sign.specs.declared.edges.Kind.{Kind}
use Rattle.dpl_sign.specs.declared.edges.Kind.TheVariants.{Bond, Clash}
use Rattle.dpl_sign.specs.declared.edges.Edge.{Edge}
use Rattle.dpl_sign.specs.declared.nets.Net.{Net}
use Rattle.dpl_sign.specs.Walks.{edge_at, no_edge}
use Rattle.dpl_sign.specs.Kinds.{is_bond}
use Rattle.dpl_sign.specs.Colourings.{agree, colour_of, is_broken}
use Rattle.dpl_links.specs.Nets.{IsNet}
use Rattle.dpl_links.specs.Spacing.{AreAllClashes}
use Rattle.dpl_links.proofs.LawLemmas.{net_clashes}
use Rattle.dpl_boxes.specs.Drawings.{is_in_boxes}
use Rattle.dpl_report.specs.declared.marks.Broken.{Broken}
use Rattle.dpl_options.specs.Options.{PlainOptions, AreOptions}
use Rattle.dpl_report.specs.Plain.{PlainZone, PlainReport}
use Rattle.dpl_good.specs.MaskCells.{AreCutFrom, AreMasksOf, NamesBroken, AreOnOneMask, AreOnTheirMasks, HoldsCell, ShowsZone, TellsClose}
use Rattle.dpl_good.proofs.TrueLemmas.{agree_none}
use Rattle.dpl_good.proofs.MaskCellLemmas.{wide}

-- ---- cut lines

-- a zone is as long as the overlap
zone_long : (n : ℕ) (tile : Corners) (c : ℤ) → part_of tile (c -ℤ pos (2 * n / 2)) (c +ℤ pos (2 * n / 2))
    ≡ part_of tile (c -ℤ pos (2 * n / 2)) (c -ℤ pos (2 * n / 2) +ℤ pos (2 * n))
zone_long n tile c = ap (part_of tile (c -ℤ pos (2 * n / 2))) (ends n c) where
  ends : (n : ℕ) (c : ℤ) → c +ℤ pos (2 * n / 2) ≡ c -ℤ pos (2 * n / 2) +ℤ pos (2 * n)
  ends n c = omega signed

pub lines_show_zones : (o : PlainOptions) (cells : ℤ → ℤ → Bool) (tiles : List Corners) (f : Fragments) (net : Net) (r : PlainReport)
    → AreMasksOf o cells tiles f net r → All (ShowsZone (2 * o.overlap) tiles f) r.lists.cuts
lines_show_zones o cells tiles f net r m = All-weaker
    (λ (z : PlainZone). IsCut (2 * o.overlap) tiles (map corners_of f.rects) f.tile z.at.a z.at.b z.corners)
    (ShowsZone (2 * o.overlap) tiles f)
    (λ z c. let tile = rect_at tiles (slice_index_or f.tile z.at.a 0) in
    let end = end_of tile (rect_at (map corners_of f.rects) z.at.a) in
    record { cut = c; from = end -ℤ pos (2 * o.overlap / 2); part = c.overlap ∙ zone_long o.overlap tile end })
    r.lists.cuts m.zones

-- ---- clash lines

-- cells of fragments of one letter are on one mask
one_mask : (r : PlainReport) (t : Bool) (x y x' y' : ℤ) → IsTrue (is_in_boxes (if t then r.on_b else r.on_a) x y)
    → IsTrue (is_in_boxes (if t then r.on_b else r.on_a) x' y') → AreOnOneMask r x y x' y'
one_mask r true x y x' y' h k = inr (h, k)
one_mask r false x y x' y' h k = inl (h, k)

line_tells : (tiles : List Corners) (space : ℕ) (f : Fragments) (net : Net) (r : PlainReport) (b : Broken)
    → AreAllClashes tiles (map corners_of f.rects) space net.pieces net.graph.edges
    → All (λ (e : Edge). e.b < length f.rects) net.graph.edges → AreOnTheirMasks f r
    → NamesBroken net.graph r.head.colours Clash b → TellsClose (layer_of tiles) space f r b
line_tells tiles space f net r b clashes ends own names =
    let e = edge_at net.graph b.edge in
    let w = names.edge.within in
    let t = clashes.each b.edge no_edge w names.edge.is in
    let far : e.b < length f.rects = ends b.edge no_edge w in
    let near : e.a < length f.rects = let h = e.ordered in omega arith in
    let broken : agree (colour_of r.head.colours e.a) (colour_of r.head.colours e.b) ≡ true =
    sym (ap (λ (kind : Kind). is_broken kind (colour_of r.head.colours e.a) (colour_of r.head.colours e.b))
    names.edge.is) ∙ names.edge.broken in
    let same = agree_none (colour_of r.head.colours e.a) (colour_of r.head.colours e.b) broken in
    let first : HoldsCell f e.a t.x t.y = record { within = near; holds = t.first } in
    let second : HoldsCell f e.b t.x' t.y' = record { within = far; holds = t.second } in
    record {
      x = t.x;
      y = t.y;
      x' = t.x';
      y' = t.y';
      first = subst (λ (n : ℕ). HoldsCell f n t.x t.y) (sym names.first) first;
      second = subst (λ (n : ℕ). HoldsCell f n t.x' t.y') (sym names.second) second;
      close = t.close;
      mask = one_mask r (colour_of r.head.colours e.b) t.x t.y t.x' t.y'
          (subst (λ (c : Bool). IsTrue (is_in_boxes (if c then r.on_b else r.on_a) t.x t.y)) same (own e.a t.x t.y first))
          (own e.b t.x' t.y' second);
    }

pub lines_tell_close : (o : PlainOptions) (cells : ℤ → ℤ → Bool) (tiles : List Corners) (f : Fragments) (net : Net) (r : PlainReport)
    → AreOptions o → IsNet f o.weights (2 * o.space) net → AreCutFrom o cells tiles f → AreMasksOf o cells tiles f net r
    → All (TellsClose cells (2 * o.space) f r) r.lists.clashes
lines_tell_close o cells tiles f net r ranges n c m =
    let clashes = net_clashes c.keep (2 * o.space) (2 * o.overlap) tiles c.label c.count f o.weights net (wide o.overlap ranges.some_overlap)
    c.shapes c.fragments n in
    let ends : All (λ (e : Edge). e.b < length f.rects) net.graph.edges =
    subst (λ (k : ℕ). All (λ (e : Edge). e.b < k) net.graph.edges) n.nodes net.graph.inside in
    subst (λ (z : ℤ → ℤ → Bool). All (TellsClose z (2 * o.space) f r) r.lists.clashes) (fun_ext (λ x. fun_ext (λ y. c.drawn x y)))
    (All-weaker (NamesBroken net.graph r.head.colours Clash) (TellsClose (layer_of tiles) (2 * o.space) f r)
    (λ b k. line_tells tiles (2 * o.space) f net r b clashes ends m.own k) r.lists.clashes m.clashes.each)

-- cells of two fragments that a bond joins
pub bond_on_one_mask : (o : PlainOptions) (cells : ℤ → ℤ → Bool) (tiles : List Corners) (f : Fragments) (net : Net) (r : PlainReport)
    → AreMasksOf o cells tiles f net r → (e : ℕ) (x y x' y' : ℤ) → e < length net.graph.edges → (edge_at net.graph e).kind ≡ Bond
    → HoldsCell f (edge_at net.graph e).a x y → HoldsCell f (edge_at net.graph e).b x' y' → AreOnOneMask r x y x' y'
bond_on_one_mask o cells tiles f net r m e x y x' y' within is first second =
    let edge = edge_at net.graph e in
    let same : colour_of r.head.colours edge.a ≡ colour_of r.head.colours edge.b =
    m.colouring.bonds e no_edge within (ap is_bond is) in
    one_mask r (colour_of r.head.colours edge.b) x y x' y'
    (subst (λ (c : Bool). IsTrue (is_in_boxes (if c then r.on_b else r.on_a) x y)) same (m.own edge.a x y first))
    (m.own edge.b x' y' second)
