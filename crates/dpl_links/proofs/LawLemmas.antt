-- Pieces lie within shapes, and clashes stand for the cells that are too close.
use Rattle.std.proofs.Common.{arith, ◌≡◌, ◌<◌, ◌≤◌, ◌+◌, ◌-◌, ◌*◌, ◌⊎◌, inl, inr, ℕ, ℤ, Bool, List, [], ◌∷◌, ◌++◌}
use Rattle.std.proofs.Common.{length, map, min, max, refl, sym, ap, ◌∙◌, subst, All, AllPairs, Any, Contains, get_or}
use Rattle.std.proofs.Common.{length-append, IsTrue}
use Rattle.std.proofs.lemmas.Bool.{cases_lt}
use Rattle.std.proofs.lemmas.Int.{ints}
use Rattle.std.proofs.lemmas.List.{get_or_default, get_or-map, length-map, get_or_append_left, get_or-append_right, get_or-append-add}
use Rattle.std.proofs.lemmas.List.Elements.{All-append, All-map, All-weaker}
use Rattle.dpl_cell.specs.Places.{Corners, corners_of}
use Rattle.dpl_cell.specs.Cells.{IsIn}
use Rattle.dpl_cell.specs.Gaps.{between, cell_gap2}
use Rattle.dpl_cell.specs.Edges.{SharesEdge}
use Rattle.dpl_cell.specs.Shapes.{AreOneShape}
use Rattle.dpl_near.specs.Shapes.{AreShapes}
use Rattle.dpl_classes.specs.Chains.{IsChain}
use Rattle.dpl_sign.specs.declared.edges.Kind.TheVariants.{Bond, Stitch, Clash}
use Rattle.dpl_sign.specs.declared.edges.Edge.{Edge}
use Rattle.dpl_sign.specs.declared.nets.Net.{Net}
use Rattle.dpl_cuts.specs.declared.types.Cut.{Cut}
use Rattle.dpl_cuts.specs.declared.types.Fragments.{Fragments}
use Rattle.dpl_cuts.specs.Positions.{layer_of, nowhere, rect_at}
use Rattle.dpl_cuts.specs.Fragments.{AreFragments}
use Rattle.dpl_cuts.specs.Zones.{TellShapes, HoldLayer}
use Rattle.dpl_cuts.proofs.ZoneLemmas.{tell_shapes, hold_layer}
use Rattle.dpl_options.specs.Options.{PlainWeights}
use Rattle.dpl_links.specs.declared.linking.Link.{Link}
use Rattle.dpl_near.specs.Joins.{ArePairs}
use Rattle.dpl_links.specs.Pairs.{Scene, IsBond, IsConflict, rect_gap2, corner_rank}
use Rattle.dpl_links.specs.Links.{piece_of, IsLink, IsLeast, AreAlike, AreClashes}
use Rattle.dpl_links.specs.Nets.{scene, Tie, tie_of, bond_tie, stitch_tie, clash_tie, ties_of, IsNet}
use Rattle.dpl_links.specs.Spacing.{AreTooClose, IsClashOf, HoldTooClose, AreAllClashes, AreWithinShapes}
use Rattle.dpl_links.proofs.NetLemmas.{all_edges, net_ties, edges_length, two_of_two, min_turned, max_turned}
use Rattle.dpl_list.proofs.Lists.{some_of, all_pairs_map, all_pairs_of_map}

-- ---- pieces

in_layer : (tiles rects : List Corners) (k : ℕ) (x y : ℤ) → HoldLayer tiles rects → k < length rects → IsIn (rect_at rects k) x y → IsTrue (layer_of tiles x y)
in_layer tiles rects k x y h l i = (h x y).1 (k, rect_at rects k, l, get_or_default rects k _ nowhere l, i)

one_step : (cells : ℤ → ℤ → Bool) (one other : ℤ → ℤ → Type 0) (e : SharesEdge one other)
    → IsTrue (cells e.x e.y) → IsTrue (cells e.x' e.y') → AreOneShape cells e.x e.y e.x' e.y'
one_step cells one other e f g = ((e.x', e.y') ∷ [], (f, e.neighbours, (g, refl, refl)))

bond_shape : (tiles : List Corners) (s : Scene) (i j : ℕ) → HoldLayer tiles s.rects
    → TellShapes tiles s.rects s.shape → IsBond s i j → get_or s.shape i 0 ≡ get_or s.shape j 0
bond_shape tiles s i j h t b =
    let e = b.edge in
    let r = b.rising in let w = b.within in
    let l : i < length s.rects = omega arith in
    (t i j e.x e.y e.x' e.y' l w e.cells.first e.cells.second).1
    (one_step (layer_of tiles) (IsIn (rect_at s.rects i)) (IsIn (rect_at s.rects j)) e
    (in_layer tiles s.rects i e.x e.y h l e.cells.first) (in_layer tiles s.rects j e.x' e.y' h w e.cells.second))

pair_bond : (s : Scene) (bonds : List (ℕ × ℕ)) (i j : ℕ) → ArePairs (IsBond s) bonds → Contains bonds (i, j) → IsBond s i j
pair_bond s bonds i j a (k, l, e) = let P : ℕ × ℕ → Type 0 = λ p. IsBond s p.0 p.1 in subst P e (a.each k (i, j) l)

trail_shape : (tiles : List Corners) (s : Scene) (bonds : List (ℕ × ℕ)) → HoldLayer tiles s.rects
    → TellShapes tiles s.rects s.shape → ArePairs (IsBond s) bonds → (i : ℕ) (js : List ℕ) (k : ℕ)
    → IsChain bonds i js k → get_or s.shape i 0 ≡ get_or s.shape k 0
trail_shape tiles s bonds h t a i [] k e = ap (λ z. get_or s.shape z 0) e
trail_shape tiles s bonds h t a i (j ∷ js) k (c, r) =
    let e : get_or s.shape i 0 ≡ get_or s.shape j 0 = elim c [
      | inl d ↦ bond_shape tiles s i j h t (pair_bond s bonds i j a d)
      | inr d ↦
          sym (bond_shape tiles s j i h t (pair_bond s bonds j i a d))
    ] in
    e ∙ trail_shape tiles s bonds h t a j js k r

pub within_shapes : (tiles : List Corners) (f : Fragments) (weights : PlainWeights) (space : ℕ) (net : Net)
    → HoldLayer tiles (map corners_of f.rects) → TellShapes tiles (map corners_of f.rects) f.shape
    → IsNet f weights space net → AreWithinShapes net.pieces f.shape
within_shapes tiles f weights space net h t n i j l m e =
    let w = n.are_pieces.long in
    let r = (n.are_pieces.same i j (omega arith) (omega arith)).0 e in
    trail_shape tiles (scene f space) n.bonds h t n.are_bonds i r.chain j r.is

-- ---- the two fragments of a clash

other_cells : (tiles : List Corners) (s : Scene) (i j : ℕ) → HoldLayer tiles s.rects
    → TellShapes tiles s.rects s.shape → IsConflict s i j → HoldTooClose tiles s.rects s.space i j
other_cells tiles s i j h t c =
    let e = c.close in
    let r = c.rising in let w = c.within in
    let l : i < length s.rects = omega arith in
    record {
      x = e.x;
      y = e.y;
      x' = e.x';
      y' = e.y';
      first = e.cells.first;
      second = e.cells.second;
      close = record {
        first = in_layer tiles s.rects i e.x e.y h l e.cells.first;
        second = in_layer tiles s.rects j e.x' e.y' h w e.cells.second;
        other = λ o. c.other ((t i j e.x e.y e.x' e.y' l w e.cells.first e.cells.second).1 o);
        near = e.near;
      };
    }

no_bond : Bond ≡ Clash → ⊥
no_bond e = cc

no_stitch : Stitch ≡ Clash → ⊥
no_stitch e = cc

-- what holds of the fragments of all links holds of those of all clashes
pub clash_edges : (P : ℕ → ℕ → Type 0) (weights : PlainWeights) (bonds : List (ℕ × ℕ)) (cuts : List Cut) (links : List Link) (edges : List Edge)
    → map tie_of edges ≡ ties_of weights bonds cuts links → All (λ (l : Link). P l.a l.b) links
    → All (λ (e : Edge). e.kind ≡ Clash → P e.a e.b) edges
clash_edges P weights bonds cuts links edges e f = all_edges (λ (t : Tie). t.kind ≡ Clash → P t.a t.b) weights bonds cuts links edges e
    (λ k d l g. absurd (no_bond g)) (λ k d l g. absurd (no_stitch g)) (λ k d l g. f k d l)

each_clash : (tiles : List Corners) (f : Fragments) (weights : PlainWeights) (space : ℕ) (net : Net)
    → HoldLayer tiles (map corners_of f.rects) → TellShapes tiles (map corners_of f.rects) f.shape
    → IsNet f weights space net
    → All (λ (e : Edge). e.kind ≡ Clash → HoldTooClose tiles (map corners_of f.rects) space e.a e.b) net.graph.edges
each_clash tiles f weights space net h t n = clash_edges (HoldTooClose tiles (map corners_of f.rects) space) weights
    n.bonds f.cuts n.links net.graph.edges (net_ties f weights space net n)
    (All-weaker (IsLeast (scene f space) net.pieces) (λ (l : Link). HoldTooClose tiles (map corners_of f.rects) space
    l.a l.b) (λ l m. other_cells tiles (scene f space) l.a l.b h t m.link.conflict) n.links n.are_clashes.each)

-- ---- cells that are too close

pub turned_gap : (x y x' y' : ℤ) (n : ℕ) → cell_gap2 x y x' y' < n → cell_gap2 x' y' x y < n
turned_gap x y x' y' n h =
    let a : between x x' ≡ between x' x = omega (arith, ints) in
    let b : between y y' ≡ between y' y = omega (arith, ints) in
    rw (← a, ← b) h

conflict_of : (tiles : List Corners) (s : Scene) (i j : ℕ) (x y x' y' : ℤ) → TellShapes tiles s.rects s.shape
    → i < j → j < length s.rects → IsIn (rect_at s.rects i) x y → IsIn (rect_at s.rects j) x' y'
    → AreTooClose (layer_of tiles) s.space x y x' y' → IsConflict s i j
conflict_of tiles s i j x y x' y' t r l f g c = record {
  rising = r;
  within = l;
  other = λ e. c.other ((t i j x y x' y' (omega arith) l f g).0 e);
  close = record { x = x; y = y; x' = x'; y' = y'; cells = record { first = f; second = g }; near = c.near };
}

link_between : (s : Scene) (pieces : List ℕ) (i j : ℕ) → Link
link_between s pieces i j = record {
  p = min (piece_of pieces i) (piece_of pieces j);
  q =
      max (piece_of pieces i) (piece_of pieces j);
  gap = rect_gap2 (rect_at s.rects i) (rect_at s.rects j);
  corner =
      corner_rank (rect_at s.rects i) (rect_at s.rects j);
  a = i;
  b = j;
}

link_between_is : (s : Scene) (pieces : List ℕ) (i j : ℕ) → IsConflict s i j → IsLink s pieces (link_between s pieces i j)
unfolding link_between
link_between_is s pieces i j c = record { conflict = c; low = refl; high = refl; gap = refl; corner = refl }

-- the clash of a link stands among the edges
clash_at : (weights : PlainWeights) (bonds : List (ℕ × ℕ)) (cuts : List Cut) (links : List Link) (edges : List Edge) (k : ℕ) (l : Link) (d : Edge)
    → map tie_of edges ≡ ties_of weights bonds cuts links → k < length links → get_or links k l ≡ l
    → tie_of (get_or edges (length bonds + length cuts + k) d) ≡ clash_tie weights l
clash_at weights bonds cuts links edges k l d e h f =
    let b = map bond_tie bonds in let s = map (stitch_tie weights.stitch) cuts in let c = map (clash_tie weights) links in
    let n : length (b ++ s) ≡ length bonds + length cuts = length-append b s ∙
    ap (λ z. z + length s) (length-map bonds bond_tie) ∙
    ap (λ z. length bonds + z) (length-map cuts (stitch_tie weights.stitch)) in
    let m : length edges ≡ length bonds + length cuts + length links = edges_length weights bonds cuts links edges e in
    let at : tie_of (get_or edges (length bonds + length cuts + k) d) ≡ get_or (ties_of weights bonds cuts links) (length bonds + length cuts + k) (tie_of d) =
    sym (get_or-map tie_of edges (length bonds + length cuts + k) d (tie_of d) (omega arith)) ∙
    ap (λ (ts : List Tie). get_or ts (length bonds + length cuts + k) (tie_of d)) e in
    let to : get_or ((b ++ s) ++ c) (length bonds + length cuts + k) (tie_of d) ≡ get_or c k (tie_of d) =
    ap (λ z. get_or ((b ++ s) ++ c) (z + k) (tie_of d)) (sym n) ∙ get_or-append-add (b ++ s) c k (tie_of d) in
    let is : get_or c k (tie_of d) ≡ clash_tie weights l = get_or-map (clash_tie weights) links k l (tie_of d) h ∙ ap (clash_tie weights) f in
    at ∙ to ∙ is

alike_ends : (s : Scene) (pieces : List ℕ) (l m : Link) → IsLink s pieces l → IsLink s pieces m → AreAlike m l
    → ((piece_of pieces m.a ≡ piece_of pieces l.a) × (piece_of pieces m.b ≡ piece_of pieces l.b)) ⊎
    ((piece_of pieces m.a ≡ piece_of pieces l.b) × (piece_of pieces m.b ≡ piece_of pieces l.a))
alike_ends s pieces l m f g (h, k) = two_of_two _ _ _ _ (sym g.low ∙ h ∙ f.low) (sym g.high ∙ k ∙ f.high)

-- the conflict of two fragments lies in a clash of their pieces
clash_of : (f : Fragments) (weights : PlainWeights) (space : ℕ) (net : Net) (i j : ℕ)
    → IsNet f weights space net → IsConflict (scene f space) i j
    → Any (IsClashOf net.pieces i j) net.graph.edges
unfolding link_between
clash_of f weights space net i j n c =
    let s = scene f space in
    let l = link_between s net.pieces i j in
    let p : IsLink s net.pieces l = link_between_is s net.pieces i j c in
    let (k, m, h, e, alike) = n.are_clashes.all l p in
    let q : IsLink s net.pieces m = let P : Link → Type 0 = IsLeast s net.pieces in (subst P e (n.are_clashes.each k m h)).link in
    let long = edges_length weights n.bonds f.cuts n.links net.graph.edges (net_ties f weights space net n) in
    let at = length n.bonds + length f.cuts + k in
    let w : at < length net.graph.edges = omega arith in
    let d = some_of net.graph.edges at w in
    let t : tie_of (get_or net.graph.edges at d) ≡ clash_tie weights m = clash_at weights n.bonds f.cuts n.links net.graph.edges k m d
    (net_ties f weights space net n) h e in
    let a : (get_or net.graph.edges at d).a ≡ m.a = ap (λ (x : Tie). x.a) t in
    let b : (get_or net.graph.edges at d).b ≡ m.b = ap (λ (x : Tie). x.b) t in
    let ends = alike_ends s net.pieces l m p q alike in (
      at,
      get_or net.graph.edges at d,
      w,
      get_or_default net.graph.edges at _ d w,
      record {
        kind = ap (λ (x : Tie). x.kind) t;
        ends = elim ends [
          | inl u ↦ inl (ap (piece_of net.pieces) a ∙ u.0, ap (piece_of net.pieces) b ∙ u.1)
          | inr u ↦ inr (ap (piece_of net.pieces) a ∙ u.0, ap (piece_of net.pieces) b ∙ u.1)
        ];
      },
    )

turned_clash : (pieces : List ℕ) (i j : ℕ) (edges : List Edge) → Any (IsClashOf pieces i j) edges → Any (IsClashOf pieces j i) edges
turned_clash pieces i j edges (k, e, l, g, c) = (k, e, l, g, record { kind = c.kind; ends = elim c.ends [ inl u ↦ inr u | inr u ↦ inl u ] })

turned_close : (cells : ℤ → ℤ → Bool) (space : ℕ) (x y x' y' : ℤ) → ¬ AreOneShape cells x' y' x y
    → AreTooClose cells space x y x' y' → AreTooClose cells space x' y' x y
turned_close cells space x y x' y' o c = record { first = c.second; second = c.first; other = o; near = turned_gap x y x' y' (space * space) c.near }

all_clashes : (tiles : List Corners) (f : Fragments) (weights : PlainWeights) (space : ℕ) (net : Net)
    → TellShapes tiles (map corners_of f.rects) f.shape → IsNet f weights space net
    → (i j : ℕ) (x y x' y' : ℤ) → i < length (map corners_of f.rects) → j < length (map corners_of f.rects)
    → IsIn (rect_at (map corners_of f.rects) i) x y → IsIn (rect_at (map corners_of f.rects) j) x' y'
    → AreTooClose (layer_of tiles) space x y x' y' → Any (IsClashOf net.pieces i j) net.graph.edges
all_clashes tiles f weights space net t n i j x y x' y' l m g h c =
    let s = scene f space in
    let back : ¬ AreOneShape (layer_of tiles) x' y' x y = λ o. c.other ((t i j x y x' y' l m g h).0 (sym ((t j i x' y' x y m l h g).1 o))) in
    elim (cases_lt i j) [
      | inl a ↦ clash_of f weights space net i j n (conflict_of tiles s i j x y x' y' t a m g h c)
      | inr a ↦ elim (cases_lt j i) [
        | inl b ↦ turned_clash net.pieces j i net.graph.edges
            (clash_of f weights space net j i n (conflict_of tiles s j i x' y' x y t b l h g
            (turned_close (layer_of tiles) space x y x' y' back c)))
        | inr b ↦ absurd (c.other ((t i j x y x' y' l m g h).0 (let e : i ≡ j = omega arith in ap (λ z. get_or f.shape z 0) e)))
      ]
    ]

-- ---- no two clashes join the same pieces

pairs_behind : {X : Type 0} (R : X → X → Type 0) (xs ys : List X) → All (λ x. (y : X) → R x y) xs → AllPairs R ys → AllPairs R (xs ++ ys)
pairs_behind {X} R xs ys f g i j d h l = elim (cases_lt i (length xs)) [
  | inl a ↦ let P : X → Type 0 = λ x. R x (get_or (xs ++ ys) j d) in subst P (sym (get_or_append_left xs ys d i a)) (f i d a (get_or (xs ++ ys) j d))
  | inr a ↦
      let n = length-append xs ys in
      let r = g (i - length xs) (j - length xs) d (omega arith) (omega arith) in
      let e : get_or (xs ++ ys) i d ≡ get_or ys (i - length xs) d = get_or-append_right xs ys (length xs) i d refl a in
      let k : get_or (xs ++ ys) j d ≡ get_or ys (j - length xs) d = get_or-append_right xs ys (length xs) j d refl (omega arith) in
      let P : X → Type 0 = λ x. R x (get_or (xs ++ ys) j d) in
      let Q : X → Type 0 = λ y. R (get_or ys (i - length xs) d) y in
      subst P (sym e) (subst Q (sym k) r)
]

-- the first of two ties, where both are clashes, is none of the pieces of the second
abbrev AreOther : List ℕ → Tie → Tie → Type 0
AreOther pieces d e = e.kind ≡ Clash → d.kind ≡ Clash
    → ¬ (((piece_of pieces d.a ≡ piece_of pieces e.a) × (piece_of pieces d.b ≡ piece_of pieces e.b)) ⊎
    ((piece_of pieces d.a ≡ piece_of pieces e.b) × (piece_of pieces d.b ≡ piece_of pieces e.a)))

ends_alike : (s : Scene) (pieces : List ℕ) (l m : Link) → IsLink s pieces l → IsLink s pieces m
    → ((piece_of pieces l.a ≡ piece_of pieces m.a) × (piece_of pieces l.b ≡ piece_of pieces m.b)) ⊎
    ((piece_of pieces l.a ≡ piece_of pieces m.b) × (piece_of pieces l.b ≡ piece_of pieces m.a)) → AreAlike l m
ends_alike s pieces l m f g (inl (u, v)) = (
  f.low ∙ ap (λ z. min z (piece_of pieces l.b)) u ∙
      ap (λ z. min (piece_of pieces m.a) z) v ∙ sym g.low,
  f.high ∙ ap (λ z. max z (piece_of pieces l.b)) u ∙
      ap (λ z. max (piece_of pieces m.a) z) v ∙ sym g.high,
)
ends_alike s pieces l m f g (inr (u, v)) = (
  f.low ∙ ap (λ z. min z (piece_of pieces l.b)) u ∙
      ap (λ z. min (piece_of pieces m.b) z) v ∙ min_turned _ _ ∙ sym g.low,
  f.high ∙
      ap (λ z. max z (piece_of pieces l.b)) u ∙ ap (λ z. max (piece_of pieces m.b) z) v ∙ max_turned _ _ ∙ sym g.high,
)

other_ties : (s : Scene) (pieces : List ℕ) (weights : PlainWeights) (bonds : List (ℕ × ℕ)) (cuts : List Cut) (links : List Link)
    → AreClashes s pieces links → AllPairs (AreOther pieces) (ties_of weights bonds cuts links)
other_ties s pieces weights bonds cuts links c = pairs_behind (AreOther pieces)
    (map bond_tie bonds ++ map (stitch_tie weights.stitch) cuts) (map (clash_tie weights) links)
    (All-append (λ (t : Tie). (u : Tie) → AreOther pieces t u) (map bond_tie bonds) (map (stitch_tie weights.stitch) cuts)
    (All-map (λ (t : Tie). (u : Tie) → AreOther pieces t u) bond_tie bonds (λ k d l u e f. absurd (no_bond f)))
    (All-map (λ (t : Tie). (u : Tie) → AreOther pieces t u) (stitch_tie weights.stitch) cuts (λ k d l u e f. absurd (no_stitch f))))
    (all_pairs_map (clash_tie weights) (AreOther pieces) links
    (λ i j d h l e f t. c.one i j d h l (ends_alike s pieces (get_or links i d) (get_or links j d) (c.each i d (omega arith)).link (c.each j d l).link t)))

one_clash : (f : Fragments) (weights : PlainWeights) (space : ℕ) (net : Net) → IsNet f weights space net
    → AllPairs (λ (d : Edge) (e : Edge). e.kind ≡ Clash → ¬ IsClashOf net.pieces e.a e.b d) net.graph.edges
one_clash f weights space net n i j d h l e c =
    let ties : AllPairs (AreOther net.pieces) (map tie_of net.graph.edges) = let P : List Tie → Type 0 =
    AllPairs (AreOther net.pieces) in subst P (sym (net_ties f weights space net n))
    (other_ties (scene f space) net.pieces weights n.bonds f.cuts n.links n.are_clashes) in
    all_pairs_of_map tie_of (AreOther net.pieces) net.graph.edges ties i j d h l e c.kind c.ends

-- ---- all of it

pub net_within_shapes : (keep : List Corners) (space over : ℕ) (tiles : List Corners) (label : List ℕ)
    → (count' : ℕ) (f : Fragments) (weights : PlainWeights) (net : Net) → 2 ≤ over
    → AreShapes tiles label count' → AreFragments keep space over tiles label f → IsNet f weights space net
    → AreWithinShapes net.pieces f.shape
net_within_shapes keep space over tiles label count' f weights net wide s a n = within_shapes tiles f weights space net
    (hold_layer keep space over tiles label (map corners_of f.rects) f.tile f.shape wide a.parts)
    (tell_shapes keep space over tiles label count' (map corners_of f.rects) f.tile f.shape wide s a.parts) n

pub net_clashes : (keep : List Corners) (space over : ℕ) (tiles : List Corners) (label : List ℕ)
    → (count' : ℕ) (f : Fragments) (weights : PlainWeights) (net : Net) → 2 ≤ over
    → AreShapes tiles label count' → AreFragments keep space over tiles label f → IsNet f weights space net
    → AreAllClashes tiles (map corners_of f.rects) space net.pieces net.graph.edges
net_clashes keep space over tiles label count' f weights net wide s a n =
    let h = hold_layer keep space over tiles label (map corners_of f.rects) f.tile f.shape wide a.parts in
    let t = tell_shapes keep space over tiles label count' (map corners_of f.rects) f.tile f.shape wide s a.parts in
    record {
      each = each_clash tiles f weights space net h t n;
      all = all_clashes tiles f weights space net t n;
      one = one_clash f weights space net n;
    }
