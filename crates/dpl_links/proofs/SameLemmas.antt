-- Fragments have one net.
use Rattle.std.proofs.Common.{arith, ◌≡◌, ◌<◌, ◌≤◌, ◌+◌, ◌^◌, ◌⊎◌, inl, inr, ℕ, suc, ◌==◌, Bool, true, false, List, []}
use Rattle.std.proofs.Common.{◌∷◌, length, map, refl, sym, ap, ◌∙◌, subst, All, Contains, if◌then◌else◌, Equal}
use Rattle.std.proofs.Props.{props}
use Rattle.std.specs.List.{AllZip}
use Rattle.std.specs.Ordering.{nat_cmp}
use Rattle.std.proofs.lemmas.Cmp.{ranked}
use Rattle.std.proofs.lemmas.List.{get_or_default, length-map}
use Rattle.std.proofs.lemmas.List.Elements.{All-contains}
use Rattle.dpl_cell.specs.Places.{Corners, corners_of}
use Rattle.dpl_classes.specs.Classes.{AreClasses}
use Rattle.dpl_sign.specs.declared.edges.Edge.{Edge}
use Rattle.dpl_sign.specs.declared.nets.Net.{Net}
use Rattle.dpl_sign.specs.declared.ports.Port.{Port}
use Rattle.dpl_sign.specs.Kinds.{EndsBelow, BondsFirst}
use Rattle.dpl_sign.proofs.Equal.{same_edge}
use Rattle.dpl_cuts.specs.declared.types.Fragments.{Fragments}
use Rattle.dpl_cuts.specs.Positions.{nowhere, rect_at}
use Rattle.dpl_options.specs.Options.{PlainWeights}
use Rattle.dpl_links.specs.declared.linking.Link.{Link}
use Rattle.dpl_near.specs.Joins.{IsFirst, ArePairs}
use Rattle.dpl_links.specs.Pairs.{Scene, IsBond}
use Rattle.dpl_links.specs.Links.{IsUpTo, IsLeast, AreClashes}
use Rattle.dpl_links.specs.Nets.{scene, Tie, tie_of, ties_of, HasPorts, IsNet, HasMoreEdges}
use Rattle.dpl_links.proofs.HeadLemmas.{rank_equal}
use Rattle.dpl_cell.proofs.BoxLemmas.{HasCell, rects_have}
use Rattle.dpl_links.proofs.GatherLemmas.{same_link}
use Rattle.dpl_links.proofs.FacedLemmas.{port_same}
use Rattle.dpl_links.proofs.NetLemmas.{edges_length, not_more_edges, net_ties}
use Rattle.dpl_list.proofs.Ordered.{maps_same, ordered_same}
use Rattle.dpl_classes.proofs.NumberLemmas.{numbers_same, count_same}
use Rattle.dpl_cuts.proofs.SortLemmas.{both_equal}

-- ---- bonds and pieces

first_once : (p q : ℕ × ℕ) → IsFirst p q → IsFirst q p → ⊥
first_once p q (inl h) (inl k) = absurd (omega (arith, h, k))
first_once p q (inl h) (inr k) = absurd (omega (arith, h, k.0))
first_once p q (inr h) (inl k) = absurd (omega (arith, h.0, k))
first_once p q (inr h) (inr k) = absurd (omega (arith, h.1, k.1))

-- a property has one list of pairs
pub pairs_same : (has : ℕ → ℕ → Type 0) (a b : List (ℕ × ℕ)) → ArePairs has a → ArePairs has b → a ≡ b
pairs_same has a b s t = ordered_same IsFirst first_once a b s.ordered t.ordered
    (λ z c. t.all z.0 z.1 (All-contains (λ p. has p.0 p.1) a z s.each c))
    (λ z c. s.all z.0 z.1 (All-contains (λ p. has p.0 p.1) b z t.each c))

-- pairs have one list of classes
pub classes_same : (joins : List (ℕ × ℕ)) (n : ℕ) (a b : List ℕ) (m k : ℕ) → AreClasses joins n a m → AreClasses joins n b k → a ≡ b
classes_same joins n a b m k s t = numbers_same a b m k (s.long ∙ sym t.long)
    (λ i j h l.
    let p : i < n = let e = s.long in omega arith in
    let q : j < n = let e = s.long in omega arith in
    let f = s.same i j p q in
    let g = t.same i j p q in
    ((λ e. g.1 (f.0 e)), (λ e. f.1 (g.0 e))))
    s.numbered t.numbered

-- ---- clashes

nat_equal : (x y : ℕ) → nat_cmp x y ≡ Equal → x ≡ y
nat_equal x y e = ranked x y Equal (sym e)

upto_same : (l m : Link) → IsUpTo l m → IsUpTo m l → (l.a ≡ m.a) × (l.b ≡ m.b)
upto_same l m f g =
    let p = both_equal _ _ (rank_equal l m f g) in
    let q = both_equal _ _ p.1 in
    let r = both_equal _ _ q.1 in
    (nat_equal l.a m.a r.0, nat_equal l.b m.b r.1)

clash_found : (s : Scene) (pieces : List ℕ) (a b : List Link) → AreClashes s pieces a → AreClashes s pieces b → (l : Link) → Contains a l → Contains b l
clash_found s pieces a b f g l c =
    let x : IsLeast s pieces l = All-contains (IsLeast s pieces) a l f.each c in
    let (k, m, h, e, alike) = g.all l x.link in
    let y : IsLeast s pieces m = let P : Link → Type 0 = IsLeast s pieces in subst P e (g.each k m h) in
    let (u, v) = upto_same m l (y.least l x.link alike) (x.least m y.link (sym alike.0, sym alike.1)) in
    let r : m ≡ l = same_link s pieces m l y.link x.link u v in
    (k, h, get_or_default b k l m h ∙ e ∙ r)

-- pieces have one list of clashes
pub clashes_same : (s : Scene) (pieces : List ℕ) (a b : List Link) → AreClashes s pieces a → AreClashes s pieces b → a ≡ b
clashes_same s pieces a b f g = ordered_same (λ (l m : Link). IsFirst (l.a, l.b) (m.a, m.b)) (λ x y. first_once (x.a, x.b) (y.a, y.b)) a b f.ordered g.ordered
    (clash_found s pieces a b f g) (clash_found s pieces b a g f)

-- ---- edges

tie_fields : (s t : Tie) → s ≡ t → (s.a ≡ t.a) × ((s.b ≡ t.b) × ((s.kind ≡ t.kind) × (s.weight ≡ t.weight)))
tie_fields s t e = (ap (λ (x : Tie). x.a) e, (ap (λ (x : Tie). x.b) e, (ap (λ (x : Tie). x.kind) e, ap (λ (x : Tie). x.weight) e)))

tie_same : (d e : Edge) → tie_of d ≡ tie_of e → d ≡ e
tie_same d e t = let (a, (b, (k, w))) = tie_fields (tie_of d) (tie_of e) t in same_edge d e a b k w

-- ---- ports

ports_same : (rects : List Corners) (edges : List Edge) (a b : List (Port × Port)) → All HasCell rects
    → All (λ e. e.b < length rects) edges → AllZip (HasPorts rects) edges a → AllZip (HasPorts rects) edges b
    → a ≡ b
ports_same rects [] [] [] full in_it s t = refl
ports_same rects [] [] (y ∷ ys) full in_it s t = elim t [ ]
ports_same rects [] (x ∷ xs) b full in_it s t = elim s [ ]
ports_same rects (e ∷ es) [] b full in_it s t = elim s [ ]
ports_same rects (e ∷ es) (x ∷ xs) [] full in_it s t = elim t [ ]
ports_same rects (e ∷ es) (x ∷ xs) (y ∷ ys) full in_it s t =
    let r = e.ordered in
    let l : e.b < length rects = in_it 0 e (omega arith) in
    let f : HasCell (rect_at rects e.a) = full e.a nowhere (omega arith) in
    let g : HasCell (rect_at rects e.b) = full e.b nowhere l in
    let h : x.0 ≡ y.0 = port_same (rect_at rects e.a) (rect_at rects e.b) x.0 y.0 f g s.0.first t.0.first in
    let i : x.1 ≡ y.1 = port_same (rect_at rects e.b) (rect_at rects e.a) x.1 y.1 g f s.0.second t.0.second in
    let p : x ≡ y = pair x y h i in
    let rest : xs ≡ ys = ports_same rects es xs ys full (λ k d m. in_it (suc k) d (omega arith)) s.1 t.1 in
    cc where
      pair : (p q : Port × Port) → p.0 ≡ q.0 → p.1 ≡ q.1 → p ≡ q
      pair p q e f = let g : ◌≡◌ {A = Port × Port} (p.0, p.1) (q.0, q.1) = cc in g

-- ---- nets

-- what the ghost fields of a net say
record NetFacts (nodes : ℕ) (edges : List Edge) (ports : List (Port × Port)) (pieces : List ℕ) (count' : ℕ) : Type 0 where
  few_nodes : nodes < 2 ^ 31
  few_edges : length edges < 2 ^ 30
  inside : EndsBelow nodes edges
  bonds_first : BondsFirst edges
  ports_per_edge : length ports ≡ length edges
  piece_per_node : length pieces ≡ nodes
  piece_numbers : All (λ p. p < count') pieces

NetFacts-prop : (nodes : ℕ) (edges : List Edge) (ports : List (Port × Port)) (pieces : List ℕ) (count' : ℕ) (p q : NetFacts nodes edges ports pieces count')
    → p ≡ q
NetFacts-prop nodes edges ports pieces count' = hlevel props

record NetParts : Type 0 where
  nodes : ℕ
  edges : List Edge
  ports : List (Port × Port)
  pieces : List ℕ
  count' : ℕ

make_net : (c : NetParts) → NetFacts c.nodes c.edges c.ports c.pieces c.count' → Net
make_net c p = record {
  graph = record { nodes = c.nodes; edges = c.edges; few_nodes = p.few_nodes; few_edges = p.few_edges; inside = p.inside; bonds_first = p.bonds_first };
  ports = c.ports;
  pieces = c.pieces;
  piece_count = c.count';
  ports_per_edge = p.ports_per_edge;
  piece_per_node = p.piece_per_node;
  piece_numbers = p.piece_numbers;
}

net_facts : (n : Net) → NetFacts n.graph.nodes n.graph.edges n.ports n.pieces n.piece_count
net_facts n = record {
  few_nodes = n.graph.few_nodes;
  few_edges = n.graph.few_edges;
  inside = n.graph.inside;
  bonds_first = n.graph.bonds_first;
  ports_per_edge = n.ports_per_edge;
  piece_per_node = n.piece_per_node;
  piece_numbers = n.piece_numbers;
}

net_parts : Net → NetParts
net_parts n = record { nodes = n.graph.nodes; edges = n.graph.edges; ports = n.ports; pieces = n.pieces; count' = n.piece_count }

-- nets with the same lists are the same
pub same_net : (m n : Net) → m.graph.nodes ≡ n.graph.nodes → m.graph.edges ≡ n.graph.edges → m.ports ≡ n.ports
    → m.pieces ≡ n.pieces → m.piece_count ≡ n.piece_count → m ≡ n
unfolding make_net net_facts net_parts
same_net m n a b c d e =
    let parts : net_parts m ≡ net_parts n = cc in
    let P : NetParts → Type 0 = λ x. (f : NetFacts x.nodes x.edges x.ports x.pieces x.count') → m ≡ make_net x f in
    subst P parts (λ f. ap (make_net (net_parts m)) (NetFacts-prop m.graph.nodes m.graph.edges m.ports m.pieces m.piece_count (net_facts m) f)) (net_facts n)

-- fragments have one net
pub net_same : (f : Fragments) (weights : PlainWeights) (space : ℕ) (m n : Net) → IsNet f weights space m → IsNet f weights space n → m ≡ n
net_same f weights space m n s t =
    let bonds : s.bonds ≡ t.bonds = pairs_same (IsBond (scene f space)) s.bonds t.bonds s.are_bonds t.are_bonds in
    let B : List (ℕ × ℕ) → Type 0 = λ z. AreClasses z (length f.rects) n.pieces n.piece_count in
    let pieces' : AreClasses s.bonds (length f.rects) n.pieces n.piece_count = subst B (sym bonds) t.are_pieces in
    let pieces : m.pieces ≡ n.pieces = classes_same s.bonds (length f.rects) m.pieces n.pieces m.piece_count n.piece_count s.are_pieces pieces' in
    let count' : m.piece_count ≡ n.piece_count = count_same m.pieces n.pieces m.piece_count n.piece_count pieces s.are_pieces.numbered t.are_pieces.numbered in
    let C : List ℕ → Type 0 = λ z. AreClashes (scene f space) z t.links in
    let links : s.links ≡ t.links = clashes_same (scene f space) m.pieces s.links t.links s.are_clashes (subst C (sym pieces) t.are_clashes) in
    let ties : map tie_of m.graph.edges ≡ map tie_of n.graph.edges = net_ties f weights space m s ∙
    ap (λ z. ties_of weights z f.cuts s.links) bonds ∙ ap (λ z. ties_of weights t.bonds f.cuts z) links ∙
    sym (net_ties f weights space n t) in
    let edges : m.graph.edges ≡ n.graph.edges = maps_same tie_of tie_same m.graph.edges n.graph.edges ties in
    let nodes : m.graph.nodes ≡ n.graph.nodes = s.nodes ∙ sym t.nodes in
    let rects = map corners_of f.rects in
    let long : length rects ≡ length f.rects = length-map f.rects corners_of in
    let below : All (λ (e : Edge). e.b < length rects) m.graph.edges = let P : ℕ → Type 0 =
    λ z. All (λ (e : Edge). e.b < z) m.graph.edges in subst P (s.nodes ∙ sym long) m.graph.inside in
    let D : List Edge → Type 0 = λ z. AllZip (HasPorts rects) z n.ports in
    let ports : m.ports ≡ n.ports = ports_same rects m.graph.edges m.ports n.ports (rects_have f.rects) below s.ports (subst D (sym edges) t.ports) in
    same_net m n nodes edges ports pieces count'

-- where the net has no more than n edges, there are no more
pub no_more_edges : (f : Fragments) (weights : PlainWeights) (space : ℕ) (net : Net) (n : ℕ)
    → IsNet f weights space net → length net.graph.edges ≤ n → ¬ HasMoreEdges f space n
no_more_edges f weights space net n s few =
    let e = edges_length weights s.bonds f.cuts s.links net.graph.edges (net_ties f weights space net s) in
    not_more_edges f space s.bonds net.pieces net.piece_count s.links n s.are_bonds s.are_pieces s.are_clashes (omega arith)
