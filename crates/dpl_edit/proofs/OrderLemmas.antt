-- The fragments and the edges of a layer stand in order.
use Rattle.std.proofs.Common.{arith, ◌≡◌, inl, inr, ◌<◌, ◌*◌, ℕ, zero, suc, true, List, [], ◌∷◌, ◌++◌, length, map, refl, sym, subst, slice_index_or}
use Rattle.std.specs.Prelude.{All, AllPairs}
use Rattle.std.proofs.lemmas.List.Elements.{All-append, All-map}
use Rattle.std.proofs.lemmas.List.Kept.{AllPairs-cons}
use Rattle.dpl_cell.specs.Places.{corners_of}
use Rattle.dpl_cell.specs.Tiles.{IsBefore}
use Rattle.dpl_near.specs.Joins.{IsFirst}
use Rattle.dpl_cuts.specs.declared.types.Cut.{Cut}
use Rattle.dpl_cuts.specs.declared.types.Fragments.{Fragments}
use Rattle.dpl_sign.specs.declared.nets.Net.{Net}
use Rattle.dpl_options.specs.Options.{PlainOptions, PlainWeights}
use Rattle.dpl_links.specs.declared.linking.Link.{Link}
use Rattle.dpl_links.specs.Nets.{Tie, tie_of, bond_tie, stitch_tie, clash_tie, ties_of}
use Rattle.dpl_links.proofs.NetLemmas.{net_ties}
use Rattle.dpl_layer.specs.Drawings.{Cells}
use Rattle.dpl_layer.specs.Layers.{IsLayerOf}
use Rattle.dpl_stay.specs.declared.finding.Key.{Key}
use Rattle.dpl_stay.specs.Order.{rank_of, key_before, AreRectsInOrder, AreEdgesInOrder}
use Rattle.dpl_stay.proofs.OrderLemmas.{key_to}
use Rattle.dpl_list.proofs.Lists.{all_pairs_of_map, all_pairs_map}

-- ---- pairs of a list

pairs_join : {A : Type 0} (R : A → A → Type 0) (xs ys : List A) → AllPairs R xs → AllPairs R ys → All (λ x. All (R x) ys) xs → AllPairs R (xs ++ ys)
pairs_join R [] ys a b c = b
pairs_join R (x ∷ xs) ys a b c =
    AllPairs-cons R x (xs ++ ys)
    (All-append (R x) xs ys (λ k d l. a zero (suc k) d (omega arith) (omega (arith, l))) (c zero x (omega arith)))
    (pairs_join R xs ys (λ i j d low l. a (suc i) (suc j) d (omega (arith, low)) (omega (arith, l))) b (λ k d l. c (suc k) d (omega (arith, l))))

-- ---- the edges

key_tie : Tie → Key
key_tie t = record { rank = rank_of t.kind; a = t.a; b = t.b }

IsTieBefore : Tie → Tie → Type 0
IsTieBefore s t = key_before (key_tie s) (key_tie t) ≡ true

-- all of the first stand before all of the second, by their kinds
ranks_apart : (r s : ℕ) (xs ys : List Tie) → r < s → All (λ t. rank_of t.kind ≡ r) xs → All (λ t. rank_of t.kind ≡ s) ys → All (λ x. All (IsTieBefore x) ys) xs
unfolding IsTieBefore key_tie
ranks_apart r s xs ys low a b i d l j e m =
    let p : (key_tie (slice_index_or xs i d)).rank ≡ r = a i d l in
    let q : (key_tie (slice_index_or ys j e)).rank ≡ s = b j e m in
    let less : (key_tie (slice_index_or xs i d)).rank < (key_tie (slice_index_or ys j e)).rank = omega (arith, low, p, q) in
    key_to (key_tie (slice_index_or xs i d)) (key_tie (slice_index_or ys j e)) (inl less)

ties_in_order : (w : PlainWeights) (bonds : List (ℕ × ℕ)) (cuts : List Cut) (links : List Link)
    → AllPairs IsFirst bonds → AllPairs (λ (c d : Cut). c.a < d.a) cuts
    → AllPairs (λ (l m : Link). IsFirst (l.a, l.b) (m.a, m.b)) links
    → AllPairs IsTieBefore (ties_of w bonds cuts links)
unfolding IsTieBefore key_tie
ties_in_order w bonds cuts links a b c =
    let x = map bond_tie bonds in
    let y = map (stitch_tie w.stitch) cuts in
    let z = map (clash_tie w) links in
    let bonds_in = all_pairs_map bond_tie IsTieBefore bonds
    (λ i j d low l. key_to (key_tie (bond_tie (slice_index_or bonds i d)))
    (key_tie (bond_tie (slice_index_or bonds j d))) (inr (refl, a i j d low l))) in
    let cuts_in = all_pairs_map (stitch_tie w.stitch) IsTieBefore cuts
    (λ i j d low l. key_to (key_tie (stitch_tie w.stitch (slice_index_or cuts i d)))
    (key_tie (stitch_tie w.stitch (slice_index_or cuts j d))) (inr (refl, inl (b i j d low l)))) in
    let links_in = all_pairs_map (clash_tie w) IsTieBefore links
    (λ i j d low l. key_to (key_tie (clash_tie w (slice_index_or links i d)))
    (key_tie (clash_tie w (slice_index_or links j d))) (inr (refl, c i j d low l))) in
    let rx : All (λ (t : Tie). rank_of t.kind ≡ 0) x = All-map (λ (t : Tie). rank_of t.kind ≡ 0) bond_tie bonds (λ k d l. refl) in
    let ry : All (λ (t : Tie). rank_of t.kind ≡ 1) y = All-map (λ (t : Tie). rank_of t.kind ≡ 1) (stitch_tie w.stitch) cuts (λ k d l. refl) in
    let rz : All (λ (t : Tie). rank_of t.kind ≡ 2) z = All-map (λ (t : Tie). rank_of t.kind ≡ 2) (clash_tie w) links (λ k d l. refl) in
    pairs_join IsTieBefore (x ++ y) z (pairs_join IsTieBefore x y bonds_in cuts_in (ranks_apart 0 1 x y (omega arith) rx ry)) links_in
    (All-append (λ t. All (IsTieBefore t) z) x y (ranks_apart 0 2 x z (omega arith) rx rz) (ranks_apart 1 2 y z (omega arith) ry rz))

-- ---- of a layer

pub rects_in_order : (o : PlainOptions) (cells kept : Cells) (f : Fragments) (n : Net) → IsLayerOf o cells kept f n → AreRectsInOrder f.rects
rects_in_order o cells kept f n h = all_pairs_of_map corners_of IsBefore f.rects h.fragments.are_fragments.parts.ordered

pub edges_in_order : (o : PlainOptions) (cells kept : Cells) (f : Fragments) (n : Net) → IsLayerOf o cells kept f n → AreEdgesInOrder n.graph.edges
unfolding IsTieBefore key_tie
edges_in_order o cells kept f n h =
    all_pairs_of_map tie_of IsTieBefore n.graph.edges (subst (AllPairs IsTieBefore)
    (sym (net_ties f o.weights (2 * o.space) n h.net))
    (ties_in_order o.weights h.net.bonds f.cuts h.net.links h.net.are_bonds.ordered h.fragments.are_fragments.cuts.ordered h.net.are_clashes.ordered))

pub nodes_are : (o : PlainOptions) (cells kept : Cells) (f : Fragments) (n : Net) → IsLayerOf o cells kept f n → n.graph.nodes ≡ length f.rects
nodes_are o cells kept f n h = h.net.nodes
