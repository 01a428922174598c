-- The net of fragments whose rectangles are images of others.
use Rattle.std.proofs.Common.{Bool, arith, ◌≡◌, ◌↔◌, ℕ, suc, ◌*◌, ◌<◌, ℤ}
use Rattle.std.proofs.Common.{List, [], ◌∷◌, ◌++◌, length, map, refl, sym, ap, ◌∙◌, subst, All, get_or}
use Rattle.std.specs.List.{AllZip}
use Rattle.std.proofs.lemmas.List.{get_or-map, length-map}
use Rattle.dpl_cell.specs.Places.{Corners, corners_of}
use Rattle.dpl_cell.specs.Cells.{IsIn}
use Rattle.dpl_cell.specs.Gaps.{AreClose, overlap}
use Rattle.dpl_cell.specs.Edges.{SharesEdge}
use Rattle.dpl_cell.specs.Images.{moved, mirrored, transposed}
use Rattle.dpl_cell.proofs.ImageLemmas.{shift, unshift, flip, same, shifts, flips, stays}
use Rattle.dpl_cell.proofs.ImageLemmas.{moves, mirrors, carries_back, carried_back, close_image, edge_image, transposed_close, transposed_edge}
use Rattle.dpl_classes.specs.Classes.{AreClasses}
use Rattle.dpl_near.specs.Joins.{ArePairs}
use Rattle.dpl_sign.specs.declared.edges.Edge.{Edge}
use Rattle.dpl_sign.specs.declared.graphs.Signed.{Signed}
use Rattle.dpl_sign.specs.declared.nets.Net.{Net}
use Rattle.dpl_sign.specs.declared.ports.Port.{Port}
use Rattle.dpl_sign.specs.Redrawn.{IsMovedPort, IsMirroredPort, IsTransposedPort, IsRedrawn}
use Rattle.dpl_cuts.specs.declared.types.Cut.{Cut}
use Rattle.dpl_cuts.specs.declared.types.Fragments.{Fragments}
use Rattle.dpl_cuts.specs.Positions.{nowhere, rect_at}
use Rattle.dpl_cuts.specs.Images.{IsCutImage, AreImages}
use Rattle.dpl_options.specs.Options.{PlainWeights}
use Rattle.dpl_links.specs.declared.linking.Link.{Link}
use Rattle.dpl_links.specs.Pairs.{Scene, IsBond, IsConflict, stretch_gap, rect_gap2, corner_rank}
use Rattle.dpl_links.specs.Links.{IsLink, AreClashes}
use Rattle.dpl_links.specs.Ports.{IsPortTo}
use Rattle.dpl_links.specs.Nets.{scene, Tie, tie_of, bond_tie, stitch_tie, clash_tie, HasPorts, IsNet}
use Rattle.dpl_links.specs.Moving.{key_shift}
use Rattle.dpl_links.proofs.ImagePorts.{moved_port, mirrored_port_to, transposed_port_to, moved_stretch, flipped_stretch}
use Rattle.dpl_links.proofs.ImagePorts.{moved_overlap, flipped_overlap, gap_alike, rank_of, rank_alike, or_over}
use Rattle.dpl_cell.proofs.ImageLemmas.{turned_sum}
use Rattle.dpl_cell.proofs.BoxLemmas.{HasCell, rects_have}
use Rattle.dpl_links.proofs.NetLemmas.{net_ties, tie_edges}

-- ---- what images of rectangles keep

-- two rectangles and their images: what makes bonds, clashes and ports
pub record Keeps (image : Corners → Corners) (has : Port → Port → Type 0) : Type 0 where
  pub edge : (a b : Corners) → SharesEdge (IsIn a) (IsIn b) ↔ SharesEdge (IsIn (image a)) (IsIn (image b))
  pub close : (a b : Corners) (reach : ℕ) → AreClose (IsIn a) (IsIn b) reach ↔ AreClose (IsIn (image a)) (IsIn (image b)) reach
  pub gap : (a b : Corners) → rect_gap2 (image a) (image b) ≡ rect_gap2 a b
  pub corner : (a b : Corners) → corner_rank (image a) (image b) ≡ corner_rank a b
  pub port : (a b : Corners) (p q : Port) → HasCell a → HasCell b → has p q → IsPortTo a b p → IsPortTo (image a) (image b) q

pub move_keeps : (right up : ℤ) → Keeps (moved right up) (IsMovedPort (key_shift right up))
move_keeps right up =
    let f = shift right in let g = unshift right in let h = shift up in let k = unshift up in
    let c = shifts right in let d = shifts up in
    let c' = carries_back f g c in let d' = carries_back h k d in
    record {
      edge = λ a b. (
        edge_image f g h k a b (moved right up a) (moved right up b) c d (moves right up a) (moves right up b),
        edge_image g f k h (moved right up a) (moved right up b) a b c' d' (carried_back f g h k a (moved right up a) (moves right up a))
            (carried_back f g h k b (moved right up b) (moves right up b)),
      );
      close = λ a b reach. (
        close_image f g h k a b (moved right up a) (moved right up b) reach c d (moves right up a) (moves right up b),
        close_image g f k h (moved right up a) (moved right up b) a b reach c' d'
            (carried_back f g h k a (moved right up a) (moves right up a)) (carried_back f g h k b (moved right up b) (moves right up b)),
      );
      gap = λ a b. gap_alike _ _ (stretch_gap a.x1 a.x2 b.x1 b.x2) (stretch_gap a.y1 a.y2 b.y1 b.y2)
          (moved_stretch right a.x1 a.x2 b.x1 b.x2) (moved_stretch up a.y1 a.y2 b.y1 b.y2);
      corner = λ a b. rank_alike _ _ (overlap a.x1 a.x2 b.x1 b.x2) (overlap a.y1 a.y2 b.y1 b.y2)
          (moved_overlap right a.x1 a.x2 b.x1 b.x2) (moved_overlap up a.y1 a.y2 b.y1 b.y2);
      port = λ a b p q f g m t. moved_port right up a b p q f g m t;
    }

pub mirror_keeps : Keeps mirrored IsMirroredPort
mirror_keeps = record {
  edge = λ a b. (
    edge_image flip flip same same a b (mirrored a) (mirrored b) flips stays (mirrors a) (mirrors b),
    edge_image flip flip same same (mirrored a) (mirrored b) a b flips stays (carried_back flip flip same same a (mirrored a) (mirrors a))
        (carried_back flip flip same same b (mirrored b) (mirrors b)),
  );
  close = λ a b reach. (
    close_image flip flip same same a b (mirrored a) (mirrored b) reach flips stays (mirrors a) (mirrors b),
    close_image flip flip same same (mirrored a) (mirrored b) a b reach flips stays
        (carried_back flip flip same same a (mirrored a) (mirrors a)) (carried_back flip flip same same b (mirrored b) (mirrors b)),
  );
  gap = λ a b. gap_alike _ (stretch_gap a.y1 a.y2 b.y1 b.y2) (stretch_gap a.x1 a.x2 b.x1 b.x2) (stretch_gap a.y1 a.y2 b.y1 b.y2)
      (flipped_stretch a.x1 a.x2 b.x1 b.x2) refl;
  corner = λ a b. rank_alike _ (overlap a.y1 a.y2 b.y1 b.y2) (overlap a.x1 a.x2 b.x1 b.x2) (overlap a.y1 a.y2 b.y1 b.y2)
      (flipped_overlap a.x1 a.x2 b.x1 b.x2) refl;
  port = λ a b p q f g m t. mirrored_port_to a b p q f g m t;
}

pub transposition_keeps : Keeps transposed IsTransposedPort
transposition_keeps = record {
  edge = λ a b. (transposed_edge a b, transposed_edge (transposed a) (transposed b));
  close = λ a b reach. (transposed_close a b reach, transposed_close (transposed a) (transposed b) reach);
  gap = λ a b. turned_sum (stretch_gap a.y1 a.y2 b.y1 b.y2 * stretch_gap a.y1 a.y2 b.y1 b.y2) (stretch_gap a.x1
      a.x2 b.x1 b.x2 * stretch_gap a.x1 a.x2 b.x1 b.x2);
  corner = λ a b. ap (λ (z : Bool). rank_of z) (or_over (overlap a.y1 a.y2 b.y1 b.y2) (overlap a.x1 a.x2 b.x1 b.x2));
  port = λ a b p q f g m t. transposed_port_to a b p q f g m t;
}

-- ---- the net

module _ (image : Corners → Corners) (has : Port → Port → Type 0) (keeps : Keeps image has) where
  -- the second scene is the image of the first
  record AreAlike (s t : Scene) : Type 0 where
    pub rects : t.rects ≡ map image s.rects
    pub tile : t.tile ≡ s.tile
    pub shape : t.shape ≡ s.shape
    pub space : t.space ≡ s.space

  size_alike : (s t : Scene) → AreAlike s t → length t.rects ≡ length s.rects
  size_alike s t a = ap (λ (z : List Corners). length z) a.rects ∙ length-map s.rects image

  rect_alike : (s t : Scene) → AreAlike s t → (i : ℕ) → i < length s.rects → rect_at t.rects i ≡ image (rect_at s.rects i)
  rect_alike s t a i l = ap (λ z. rect_at z i) a.rects ∙ get_or-map image s.rects i nowhere nowhere l

  edge_at_image : (a b a' b' : Corners) → a' ≡ image a → b' ≡ image b → SharesEdge (IsIn a) (IsIn b) ↔ SharesEdge (IsIn a') (IsIn b')
  edge_at_image a b a' b' e f =
      let P : Corners → Type 0 = λ z. SharesEdge (IsIn a) (IsIn b) ↔ SharesEdge (IsIn z) (IsIn (image b)) in
      let Q : Corners → Type 0 = λ z. SharesEdge (IsIn a) (IsIn b) ↔ SharesEdge (IsIn a') (IsIn z) in
      subst Q (sym f) (subst P (sym e) (keeps.edge a b))

  close_at_image : (a b a' b' : Corners) (reach reach' : ℕ) → a' ≡ image a → b' ≡ image b → reach' ≡ reach →
      AreClose (IsIn a) (IsIn b) reach ↔ AreClose (IsIn a') (IsIn b') reach'
  close_at_image a b a' b' reach reach' e f g =
      let P : Corners → Type 0 = λ z. AreClose (IsIn a) (IsIn b) reach ↔ AreClose (IsIn z) (IsIn (image b)) reach in
      let Q : Corners → Type 0 = λ z. AreClose (IsIn a) (IsIn b) reach ↔ AreClose (IsIn a') (IsIn z) reach in
      let R : ℕ → Type 0 = λ z. AreClose (IsIn a) (IsIn b) reach ↔ AreClose (IsIn a') (IsIn b') z in
      subst R (sym g) (subst Q (sym f) (subst P (sym e) (keeps.close a b reach)))

  bond_alike : (s t : Scene) → AreAlike s t → (i j : ℕ) → IsBond s i j ↔ IsBond t i j
  bond_alike s t a i j =
      let n = size_alike s t a in (
        λ b.
            let r = b.rising in let w = b.within in
            record {
              rising = r;
              within = omega arith;
              other = λ e. b.other (ap (λ z. get_or z i 0) (sym a.tile) ∙ e ∙ ap (λ z. get_or z j 0) a.tile);
              edge = (edge_at_image (rect_at s.rects i) (rect_at s.rects j) (rect_at t.rects i) (rect_at t.rects j) (rect_alike s t a i (omega arith))
                  (rect_alike s t a j (omega arith))).0 b.edge;
            },
        λ b.
            let r = b.rising in let w = b.within in
            record {
              rising = r;
              within = omega arith;
              other = λ e. b.other (ap (λ z. get_or z i 0) a.tile ∙ e ∙ ap (λ z. get_or z j 0) (sym a.tile));
              edge = (edge_at_image (rect_at s.rects i) (rect_at s.rects j) (rect_at t.rects i) (rect_at t.rects j) (rect_alike s t a i (omega arith))
                  (rect_alike s t a j (omega arith))).1 b.edge;
            },
      )

  conflict_alike : (s t : Scene) → AreAlike s t → (i j : ℕ) → IsConflict s i j ↔ IsConflict t i j
  conflict_alike s t a i j =
      let n = size_alike s t a in (
        λ b.
            let r = b.rising in let w = b.within in
            record {
              rising = r;
              within = omega arith;
              other = λ e. b.other (ap (λ z. get_or z i 0) (sym a.shape) ∙ e ∙ ap (λ z. get_or z j 0) a.shape);
              close = (close_at_image (rect_at s.rects i) (rect_at s.rects j) (rect_at t.rects i) (rect_at t.rects j) s.space t.space
                  (rect_alike s t a i (omega arith)) (rect_alike s t a j (omega arith)) a.space).0 b.close;
            },
        λ b.
            let r = b.rising in let w = b.within in
            record {
              rising = r;
              within = omega arith;
              other = λ e. b.other (ap (λ z. get_or z i 0) a.shape ∙ e ∙ ap (λ z. get_or z j 0) (sym a.shape));
              close = (close_at_image (rect_at s.rects i) (rect_at s.rects j) (rect_at t.rects i) (rect_at t.rects j) s.space t.space
                  (rect_alike s t a i (omega arith)) (rect_alike s t a j (omega arith)) a.space).1 b.close;
            },
      )

  gap_alike_at : (s t : Scene) → AreAlike s t → (i j : ℕ) → i < length s.rects → j < length s.rects →
      rect_gap2 (rect_at t.rects i) (rect_at t.rects j) ≡ rect_gap2 (rect_at s.rects i) (rect_at s.rects j)
  gap_alike_at s t a i j l m = ap (λ z. rect_gap2 z (rect_at t.rects j)) (rect_alike s t a i l) ∙
      ap (λ z. rect_gap2 (image (rect_at s.rects i)) z) (rect_alike s t a j m) ∙ keeps.gap (rect_at s.rects i) (rect_at s.rects j)

  rank_alike_at : (s t : Scene) → AreAlike s t → (i j : ℕ) → i < length s.rects → j < length s.rects →
      corner_rank (rect_at t.rects i) (rect_at t.rects j) ≡ corner_rank (rect_at s.rects i) (rect_at s.rects j)
  rank_alike_at s t a i j l m = ap (λ z. corner_rank z (rect_at t.rects j)) (rect_alike s t a i l) ∙
      ap (λ z. corner_rank (image (rect_at s.rects i)) z) (rect_alike s t a j m) ∙ keeps.corner (rect_at s.rects i) (rect_at s.rects j)

  link_alike : (s t : Scene) → AreAlike s t → (pieces : List ℕ) (l : Link) → IsLink s pieces l ↔ IsLink t pieces l
  link_alike s t a pieces l = (
    λ k.
        let r = k.conflict.rising in let w = k.conflict.within in
        record {
          conflict = (conflict_alike s t a l.a l.b).0 k.conflict;
          low = k.low;
          high = k.high;
          gap = k.gap ∙ sym (gap_alike_at s t a l.a l.b (omega arith) w);
          corner = k.corner ∙ sym (rank_alike_at s t a l.a l.b (omega arith) w);
        },
    λ k.
        let c = (conflict_alike s t a l.a l.b).1 k.conflict in
        let r = c.rising in let w = c.within in
        record {
          conflict = c;
          low = k.low;
          high = k.high;
          gap = k.gap ∙ gap_alike_at s t a l.a l.b (omega arith) w;
          corner = k.corner ∙ rank_alike_at s t a l.a l.b (omega arith) w;
        },
  )

  clashes_alike : (s t : Scene) → AreAlike s t → (pieces : List ℕ) (links : List Link) → AreClashes s pieces links → AreClashes t pieces links
  clashes_alike s t a pieces links c = record {
    each = λ k d l.
        let x = c.each k d l in
        record {
          link = (link_alike s t a pieces (get_or links k d)).0 x.link;
          least = λ m h e. x.least m ((link_alike s t a pieces m).1 h) e;
        };
    all = λ l h. c.all l ((link_alike s t a pieces l).1 h);
    one = c.one;
    ordered = c.ordered;
  }

  bonds_alike : (s t : Scene) → AreAlike s t → (bonds : List (ℕ × ℕ)) → ArePairs (IsBond s) bonds → ArePairs (IsBond t) bonds
  bonds_alike s t a bonds p = record {
    each = λ k d l. (bond_alike s t a (get_or bonds k d).0 (get_or bonds k d).1).0 (p.each k d l);
    all = λ i j h. p.all i j ((bond_alike s t a i j).1 h);
    ordered = p.ordered;
  }

  stitches_alike : (weight : ℕ) (cuts others : List Cut) → AllZip (IsCutImage image) cuts others →
      map (stitch_tie weight) others ≡ map (stitch_tie weight) cuts
  stitches_alike weight [] [] z = refl
  stitches_alike weight [] (d ∷ ds) z = elim z [ ]
  stitches_alike weight (c ∷ cs) [] z = elim z [ ]
  stitches_alike weight (c ∷ cs) (d ∷ ds) z =
      let rest : map (stitch_tie weight) ds ≡ map (stitch_tie weight) cs = stitches_alike weight cs ds z.1 in
      let first : stitch_tie weight d ≡ stitch_tie weight c = tie_alike weight c d z.0 in
      ap (λ t. t ∷ map (stitch_tie weight) ds) first ∙ ap (λ ts. stitch_tie weight c ∷ ts) rest where
        tie_alike : (weight : ℕ) (c d : Cut) → IsCutImage image c d → stitch_tie weight d ≡ stitch_tie weight c
        tie_alike weight c d i = rw (i.first, i.second) refl

  ports_alike : (rects others : List Corners) → others ≡ map image rects → All HasCell rects → (edges : List Edge) (ports new : List (Port × Port)) →
      All (λ e. e.b < length rects) edges → AllZip (HasPorts rects) edges ports →
      AllZip (λ (p : Port × Port) (q : Port × Port). has p.0 q.0 × has p.1 q.1) ports new → AllZip (HasPorts others) edges new
  ports_alike rects others is full [] [] [] h s t = t
  ports_alike rects others is full [] [] (q ∷ qs) h s t = elim t [ ]
  ports_alike rects others is full [] (p ∷ ps) new h s t = elim s [ ]
  ports_alike rects others is full (e ∷ es) [] new h s t = elim s [ ]
  ports_alike rects others is full (e ∷ es) (p ∷ ps) [] h s t = elim t [ ]
  ports_alike rects others is full (e ∷ es) (p ∷ ps) (q ∷ qs) h s t =
      let l : e.b < length rects = h 0 e (omega arith) in
      let k : e.a < length rects = let r = e.ordered in omega arith in
      let at = λ (i : ℕ) (m : i < length rects). sym (ap (λ z. rect_at z i) is ∙ get_or-map image rects i nowhere nowhere m) in
      let to = λ (i j : ℕ) (m : i < length rects) (n : j < length rects) (x y : Port) (u : has x y)
      (w : IsPortTo (rect_at rects i) (rect_at rects j) x).
      let P : Corners → Type 0 = λ z. IsPortTo z (image (rect_at rects j)) y in
      let Q : Corners → Type 0 = λ z. IsPortTo (rect_at others i) z y in
      subst Q (at j n) (subst P (at i m) (keeps.port (rect_at rects i) (rect_at rects j) x y (full i nowhere m) (full j nowhere n) u w)) in (
        record { first = to e.a e.b k l p.0 q.0 t.0.0 s.0.first; second = to e.b e.a l k p.1 q.1 t.0.1 s.0.second },
        ports_alike rects others is full es ps qs (λ i d m. h (suc i) d (omega arith)) s.1 t.1,
      )

  -- fragments that are images have the net with the images of its ports
  pub net_image : (f g : Fragments) (weights : PlainWeights) (space : ℕ) (net other : Net) → AreImages image f g →
      IsRedrawn has net other → IsNet f weights space net → IsNet g weights space other
  net_image f g weights space net other i r n =
      let a : AreAlike (scene f space) (scene g space) = record { rects = i.rects; tile = i.tile; shape = i.shape; space = refl } in
      let size : length g.rects ≡ length f.rects = sym (length-map g.rects corners_of) ∙ size_alike (scene f space) (scene g space) a ∙
      length-map f.rects corners_of in
      let P : ℕ → Type 0 = λ z. AreClasses n.bonds z net.pieces net.piece_count in
      let Q : List ℕ → Type 0 = λ z. AreClasses n.bonds (length g.rects) z net.piece_count in
      let R : ℕ → Type 0 = λ z. AreClasses n.bonds (length g.rects) other.pieces z in
      let S : List ℕ → Type 0 = λ z. AreClashes (scene g space) z n.links in
      let T : Signed → Type 0 = λ z. AllZip (HasPorts (map corners_of g.rects)) z.edges other.ports in
      let graph : net.graph ≡ other.graph = sym r.graph in
      let inside : All (λ e. e.b < length (map corners_of f.rects)) net.graph.edges = λ k d l.
      let m = net.graph.inside k d l in
      let e = length-map f.rects corners_of in
      let e' = n.nodes in
      omega arith in
      record {
        bonds = n.bonds;
        links = n.links;
        nodes = ap (λ (z : Signed). z.nodes) r.graph ∙ n.nodes ∙ sym size;
        are_bonds = bonds_alike (scene f space) (scene g space) a n.bonds n.are_bonds;
        are_pieces = subst R (sym r.piece_count) (subst Q (sym r.pieces) (subst P (sym size) n.are_pieces));
        are_clashes = subst S (sym r.pieces) (clashes_alike (scene f space) (scene g space) a net.pieces n.links n.are_clashes);
        edges = tie_edges weights n.bonds g.cuts n.links other.graph.edges
            (ap (λ (z : Signed). map tie_of z.edges) r.graph ∙ net_ties f weights space net n ∙
            ap (λ (z : List Tie). map bond_tie n.bonds ++ z ++ map (clash_tie weights) n.links) (sym (stitches_alike weights.stitch f.cuts g.cuts i.cuts)));
        ports = subst T graph (ports_alike (map corners_of f.rects)
            (map corners_of g.rects) i.rects (rects_have f.rects) net.graph.edges net.ports other.ports inside n.ports r.ports);
      }
