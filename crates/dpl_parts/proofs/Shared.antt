-- What the parts that share out a net sum to.
use Rattle.std.proofs.Common.{arith, ◌≡◌, ◌≢◌, ℕ, zero, suc, ◌+◌, ◌*◌, ◌/◌, ◌%◌, ◌<◌, ◌==◌, ◌&&◌, refl, sym, ap, ◌∙◌}
use Rattle.std.proofs.Common.{Bool, false, inl, inr, List, [], ◌∷◌, length}
use Rattle.std.specs.Prelude.{if◌then◌else◌, All, sum_by, slice_index_or}
use Rattle.std.proofs.lemmas.Bool.{cases_eq, cases_Bool, ne_eqb}
use Rattle.std.proofs.lemmas.List.Sums.{sum_by-cons}
use Rattle.std.proofs.lemmas.List.Elements.{All-contains}
use Rattle.dpl_cycle.specs.Sums.{count_on}
use Rattle.dpl_cycle.proofs.SumLemmas.{count_on_same}
use Rattle.dpl_sign.specs.declared.nets.Net.{Net}
use Rattle.dpl_sign.specs.declared.graphs.Signed.{Signed}
use Rattle.dpl_sign.specs.Colourings.{breaks, broken_weight, colour_of, cost_of}
use Rattle.dpl_sign.specs.Walks.{edge_at, no_edge}
use Rattle.dpl_sign.specs.Drawings.{is_in, is_bare, bare_count, dart_count, face_of, face_count}
use Rattle.dpl_sign.specs.Components.{component_of, component_count}
use Rattle.dpl_sign.specs.Excess.{edge_count, excess, kept_edges}
use Rattle.dpl_sign.specs.Parity.{passages_on_face, is_clash_edge, is_odd_face}
use Rattle.dpl_sign.proofs.Loads.{sum_by_places, sum_to_zero, sum_to_same, sum_to}
use Rattle.dpl_sign.proofs.ComponentLemmas.{start_below, end_below}
use Rattle.dpl_sign.proofs.ExcessLemmas.{excess_euler}
use Rattle.dpl_sign.proofs.Rotation.{face_below}
use Rattle.dpl_parts.specs.Parts.{IsPartOf, dart, broken_on}
use Rattle.dpl_parts.specs.Shares.{Part, ShareOut, AgreeWith}
use Rattle.dpl_parts.proofs.Sums.{sums_to}
use Rattle.dpl_parts.proofs.Places.{AreShares, IsHeld, sum_shared}
use Rattle.dpl_parts.proofs.Darts.{dart_below, dart_apart, edge_apart}
use Rattle.dpl_parts.proofs.Kept.{keeps_alike}
use Rattle.dpl_parts.proofs.Counted.{odd_alike}
use Rattle.dpl_sign.proofs.OddCounts.{face_twice}
use Rattle.dpl_parts.proofs.FaceNames.{names_face, faces_counted, names_alike, face_up}
use Rattle.dpl_parts.proofs.PartCounts.{names_counted, bare_alike, components_alike}
use Rattle.dpl_list.proofs.Sums.{sum_by_alike, sum_by_two}

-- ---- sums over lists

pub sum_by_twice : {X : Type 0} (f : X → ℕ) (xs : List X) → sum_by (λ x. 2 * f x) xs ≡ 2 * sum_by f xs
sum_by_twice f [] = refl
sum_by_twice f (x ∷ xs) =
    let a = sum_by-cons (λ z. 2 * f z) x xs in
    let b = sum_by-cons f x xs in
    let r = sum_by_twice f xs in
    omega (arith, a, b, r)

ones : (n : ℕ) → sum_to (λ x. 1) n ≡ n
ones zero = refl
ones (suc n) = let r = ones n in omega (arith, r)

-- ---- odd faces

-- what is not the least dart of a face is no odd face
pub not_odd : (net : Net) (set : ℕ → Bool) (f : ℕ) → face_of net set f ≢ f → is_odd_face net set f ≡ false
not_odd net set f n =
    let m = dart_count net in
    let none : passages_on_face net set (is_clash_edge net) f ≡ 0 =
    count_on_same m (λ d. set (d / 2) && (face_of net set d == f) && is_clash_edge net (d / 2)) (λ d. false) (λ d l.
    let r = ne_eqb (face_of net set d) f (λ e. n (ap (face_of net set) (sym e) ∙ face_twice net set d l ∙ e)) in
    elim (cases_Bool (set (d / 2))) [ inl t ↦ rw (t, r) refl | inr t ↦ rw t refl ]) ∙ sums_to (λ d. false) (λ x. 1) m ∙ sum_to_zero m in
    ap (λ z. z % 2 == 1) none

pub odd_up : (part whole : Net) (node edge : ℕ → ℕ) → IsPartOf part whole node edge → (p q : ℕ → Bool)
    → ((e : ℕ) → e < length part.graph.edges → q (edge e) ≡ p e) → (c : ℕ) → c < dart_count part
    → is_odd_face whole q (dart edge c) ≡ is_odd_face part p c
odd_up part whole node edge h p q alike c l =
    let up = face_up part whole node edge h p q alike c l in
    elim (cases_eq (face_of part p c) c) [
      | inl e ↦ ap (is_odd_face whole q) (sym (up ∙ ap (dart edge) e)) ∙ odd_alike part whole node edge h p q alike c l ∙ ap (is_odd_face part p) e
      | inr e ↦
          let away : face_of whole q (dart edge c) ≢ dart edge c =
          λ s. e (dart_apart part whole node edge h (face_of part p c) c (face_below part p c l) l (sym up ∙ s)) in
          not_odd whole q (dart edge c) away ∙ sym (not_odd part p c e)
    ]

-- ---- edges of a part

module _ (part whole : Net) (node edge : ℕ → ℕ) (h : IsPartOf part whole node edge) (colours own : List Bool)
    (agree : (v : ℕ) → v < part.graph.nodes → colour_of colours (node v) ≡ colour_of own v) where
  weight_alike : (e : ℕ) → e < length part.graph.edges → broken_weight colours (edge_at whole.graph (edge e)) ≡ broken_weight own (edge_at part.graph e)
  weight_alike e l =
      let kind = h.kind e l in
      let weight = h.weight e l in
      let a : colour_of colours (edge_at whole.graph (edge e)).a ≡ colour_of own (edge_at part.graph e).a =
      ap (colour_of colours) (h.first e l) ∙ agree _ (start_below part.graph e l) in
      let b : colour_of colours (edge_at whole.graph (edge e)).b ≡ colour_of own (edge_at part.graph e).b =
      ap (colour_of colours) (h.second e l) ∙ agree _ (end_below part.graph e l) in
      rw (kind, weight, a, b) refl

  kept_weight_alike : (e : ℕ) → e < length part.graph.edges →
      (if is_in (kept_edges whole) (edge e) && breaks colours (edge_at whole.graph (edge e)) then
      (edge_at whole.graph (edge e)).weight else 0)
      ≡ (if is_in (kept_edges part) e && breaks own (edge_at part.graph e) then (edge_at part.graph e).weight else 0)
  kept_weight_alike e l =
      let k = keeps_alike part whole node edge h e l in
      let kind = h.kind e l in
      let weight = h.weight e l in
      let a : colour_of colours (edge_at whole.graph (edge e)).a ≡ colour_of own (edge_at part.graph e).a =
      ap (colour_of colours) (h.first e l) ∙ agree _ (start_below part.graph e l) in
      let b : colour_of colours (edge_at whole.graph (edge e)).b ≡ colour_of own (edge_at part.graph e).b =
      ap (colour_of colours) (h.second e l) ∙ agree _ (end_below part.graph e l) in
      rw (k, kind, weight, a, b) refl

cost_by_places : (g : Signed) (colours : List Bool) → cost_of g colours ≡ sum_to (λ e. broken_weight colours (edge_at g e)) (length g.edges)
cost_by_places g colours = sum_by_places (broken_weight colours) g.edges no_edge

-- ---- parts that share out a net

abbrev pub edges_in : Part → ℕ
edges_in p = length p.net.graph.edges

abbrev pub nodes_in : Part → ℕ
nodes_in p = p.net.graph.nodes

abbrev pub darts_in : Part → ℕ
darts_in p = dart_count p.net

-- the edges of a set of the whole are those of a set for each part
abbrev pub AreAlikeIn : (ℕ → Bool) → (Part → ℕ → Bool) → List Part → Type 0
AreAlikeIn q set parts = All (λ p. (e : ℕ) → e < edges_in p → q (p.edge e) ≡ set p e) parts

module _ (whole : Net) (parts : List Part) (h : ShareOut whole parts) where
  node_shares : AreShares nodes_in (λ p. p.node) whole.graph.nodes parts
  node_shares = record { inside = λ k d l. (h.are k d l).nodes; one = λ k d l. (h.are k d l).apart; apart = h.apart }

  node_held : (y : ℕ) → y < whole.graph.nodes → IsHeld nodes_in (λ p. p.node) parts y
  node_held y l = let s = h.all y l in record { holder = s.part; among = s.among; own = s.own; below = s.below; is = s.is }

  pub edge_shares : AreShares edges_in (λ p. p.edge) (length whole.graph.edges) parts
  edge_shares = record {
    inside = λ k d l. (h.are k d l).edges;
    one = λ k d l. edge_apart (slice_index_or parts k d).net whole (slice_index_or parts k d).node (slice_index_or parts k d).edge (h.are k d l);
    apart = λ i j d l m e f a b r.
        let p = slice_index_or parts i d in
        let q = slice_index_or parts j d in
        let hp = h.are i d (omega (arith, l, m)) in
        let hq = h.are j d m in
        h.apart i j d l m _ _ (start_below p.net.graph e a) (start_below q.net.graph f b)
        (sym (hp.first e a) ∙ ap (λ z. (edge_at whole.graph z).a) r ∙ hq.first f b);
  }

  pub edge_held : (y : ℕ) → y < length whole.graph.edges → IsHeld edges_in (λ p. p.edge) parts y
  edge_held y l =
      let s = h.all (edge_at whole.graph y).a (start_below whole.graph y l) in
      let hp = All-contains (λ p. IsPartOf p.net whole p.node p.edge) parts s.part h.are s.among in
      let (e, le, re) = hp.closed y s.own l s.below (inl (sym s.is)) in
      record { holder = s.part; among = s.among; own = e; below = le; is = re }

  dart_shares : AreShares darts_in (λ p. dart p.edge) (dart_count whole) parts
  dart_shares = record {
    inside = λ k d l. dart_below (slice_index_or parts k d).net whole (slice_index_or parts k d).node (slice_index_or parts k d).edge (h.are k d l);
    one = λ k d l. dart_apart (slice_index_or parts k d).net whole (slice_index_or parts k d).node (slice_index_or parts k d).edge (h.are k d l);
    apart = λ i j d l m c x a b r. edge_shares.apart i j d l m (c / 2) (x / 2) (omega arith) (omega arith) (omega arith);
  }

  pub dart_held : (y : ℕ) → y < dart_count whole → IsHeld darts_in (λ p. dart p.edge) parts y
  dart_held y l =
      let s = edge_held (y / 2) (omega arith) in
      let half : (2 * s.own + y % 2) / 2 ≡ s.own = omega arith in
      let side : (2 * s.own + y % 2) % 2 ≡ y % 2 = omega arith in
      let at : s.holder.edge ((2 * s.own + y % 2) / 2) ≡ y / 2 = ap s.holder.edge half ∙ s.is in
      let b = s.below in
      record { holder = s.holder; among = s.among; own = 2 * s.own + y % 2; below = omega (arith, b); is = omega (arith, at, side) }

  node_sum : (f : ℕ → ℕ) → sum_to f whole.graph.nodes ≡ sum_by (λ p. sum_to (λ i. f (p.node i)) (nodes_in p)) parts
  node_sum f = sum_shared nodes_in (λ p. p.node) whole.graph.nodes parts f node_shares (λ y l. inr (node_held y l))

  edge_sum : (f : ℕ → ℕ) → sum_to f (length whole.graph.edges) ≡ sum_by (λ p. sum_to (λ i. f (p.edge i)) (edges_in p)) parts
  edge_sum f = sum_shared edges_in (λ p. p.edge) (length whole.graph.edges) parts f edge_shares (λ y l. inr (edge_held y l))

  dart_sum : (f : ℕ → ℕ) → sum_to f (dart_count whole) ≡ sum_by (λ p. sum_to (λ i. f (dart p.edge i)) (darts_in p)) parts
  dart_sum f = sum_shared darts_in (λ p. dart p.edge) (dart_count whole) parts f dart_shares (λ y l. inr (dart_held y l))

  pub nodes_sum : whole.graph.nodes ≡ sum_by nodes_in parts
  nodes_sum = sym (ones whole.graph.nodes) ∙ node_sum (λ x. 1) ∙
      sum_by_alike (λ p. sum_to (λ i. 1) (nodes_in p)) nodes_in parts
      (λ k d l. ones (nodes_in (slice_index_or parts k d)))

  -- ---- costs

  pub cost_sum : (colours : List Bool) → AgreeWith colours parts → cost_of whole.graph colours ≡ sum_by (λ p. cost_of p.net.graph p.colours) parts
  cost_sum colours agree =
      cost_by_places whole.graph colours
      ∙ edge_sum (λ e. broken_weight colours (edge_at whole.graph e))
      ∙ sum_by_alike (λ p. sum_to (λ i. broken_weight colours (edge_at whole.graph (p.edge i))) (edges_in p))
      (λ p. cost_of p.net.graph p.colours) parts (λ k d l.
      let p = slice_index_or parts k d in
      sum_to_same (λ i. broken_weight colours (edge_at whole.graph (p.edge i)))
      (λ e. broken_weight p.colours (edge_at p.net.graph e)) (edges_in p)
      (weight_alike p.net whole p.node p.edge (h.are k d l) colours p.colours (agree k d l))
      ∙ sym (cost_by_places p.net.graph p.colours))

  pub broken_sum : (colours : List Bool) → AgreeWith colours parts → broken_on whole colours ≡ sum_by (λ p. broken_on p.net p.colours) parts
  broken_sum colours agree =
      sums_to (λ e. is_in (kept_edges whole) e && breaks colours (edge_at whole.graph e)) (λ e. (edge_at whole.graph e).weight) (length whole.graph.edges)
      ∙ edge_sum (λ e. if is_in (kept_edges whole) e && breaks colours (edge_at whole.graph e) then (edge_at whole.graph e).weight else 0)
      ∙ sum_by_alike (λ p. sum_to (λ i. if is_in (kept_edges whole) (p.edge i) &&
      breaks colours (edge_at whole.graph (p.edge i)) then (edge_at whole.graph (p.edge i)).weight else 0)
      (edges_in p)) (λ p. broken_on p.net p.colours) parts (λ k d l.
      let p = slice_index_or parts k d in
      sum_to_same _ (λ e. if is_in (kept_edges p.net) e &&
      breaks p.colours (edge_at p.net.graph e) then (edge_at p.net.graph e).weight else 0) (edges_in p)
      (kept_weight_alike p.net whole p.node p.edge (h.are k d l) colours p.colours (agree k d l))
      ∙ sym (sums_to (λ e. is_in (kept_edges p.net) e && breaks p.colours (edge_at p.net.graph e)) (λ e. (edge_at p.net.graph e).weight) (edges_in p)))

  -- ---- faces

  dart_count_sum : (t : ℕ → Bool) (own : Part → ℕ → Bool) →
      All (λ p. (c : ℕ) → c < darts_in p → t (dart p.edge c) ≡ own p c) parts →
      count_on t (dart_count whole) ≡ sum_by (λ p. count_on (own p) (darts_in p)) parts
  dart_count_sum t own same =
      sums_to t (λ x. 1) (dart_count whole)
      ∙ dart_sum (λ d. if t d then 1 else 0)
      ∙ sum_by_alike (λ p. sum_to (λ i. if t (dart p.edge i) then 1 else 0) (darts_in p)) (λ p. count_on (own p) (darts_in p)) parts (λ k d l.
      let p = slice_index_or parts k d in
      sum_to_same (λ i. if t (dart p.edge i) then 1 else 0) (λ i. if own p i then 1 else 0) (darts_in p)
      (λ c m. ap (λ b. if b then 1 else 0) (same k d l c m)) ∙ sym (sums_to (own p) (λ x. 1) (darts_in p)))

  node_count_sum : (t : ℕ → Bool) (own : Part → ℕ → Bool) →
      All (λ p. (c : ℕ) → c < nodes_in p → t (p.node c) ≡ own p c) parts →
      count_on t whole.graph.nodes ≡ sum_by (λ p. count_on (own p) (nodes_in p)) parts
  node_count_sum t own same =
      sums_to t (λ x. 1) whole.graph.nodes
      ∙ node_sum (λ d. if t d then 1 else 0)
      ∙ sum_by_alike (λ p. sum_to (λ i. if t (p.node i) then 1 else 0) (nodes_in p)) (λ p. count_on (own p) (nodes_in p)) parts (λ k d l.
      let p = slice_index_or parts k d in
      sum_to_same (λ i. if t (p.node i) then 1 else 0) (λ i. if own p i then 1 else 0) (nodes_in p)
      (λ c m. ap (λ b. if b then 1 else 0) (same k d l c m)) ∙ sym (sums_to (own p) (λ x. 1) (nodes_in p)))

  edge_count_sum : (t : ℕ → Bool) (own : Part → ℕ → Bool) → AreAlikeIn t own parts → edge_count whole t ≡ sum_by (λ p. edge_count p.net (own p)) parts
  edge_count_sum t own same =
      sums_to t (λ x. 1) (length whole.graph.edges)
      ∙ edge_sum (λ d. if t d then 1 else 0)
      ∙ sum_by_alike (λ p. sum_to (λ i. if t (p.edge i) then 1 else 0) (edges_in p)) (λ p. count_on (own p) (edges_in p)) parts (λ k d l.
      let p = slice_index_or parts k d in
      sum_to_same (λ i. if t (p.edge i) then 1 else 0) (λ i. if own p i then 1 else 0) (edges_in p)
      (λ c m. ap (λ b. if b then 1 else 0) (same k d l c m)) ∙ sym (sums_to (own p) (λ x. 1) (edges_in p)))

  module _ (q : ℕ → Bool) (set : Part → ℕ → Bool) (alike : AreAlikeIn q set parts) where
    pub faces_sum : face_count whole q ≡ sum_by (λ p. face_count p.net (set p)) parts
    faces_sum =
        let darts = dart_count_sum (names_face whole q) (λ p. names_face p.net (set p))
        (λ k d l. let p = slice_index_or parts k d in
        names_alike p.net whole p.node p.edge (h.are k d l) (set p) q (alike k d l)) in
        let bare : bare_count whole.graph q ≡ sum_by (λ p. bare_count p.net.graph (set p)) parts =
        node_count_sum (is_bare whole.graph q) (λ p. is_bare p.net.graph (set p))
        (λ k d l. let p = slice_index_or parts k d in
        bare_alike p.net whole p.node p.edge (h.are k d l) (set p) q (alike k d l)) in
        let two = sum_by_two (λ p. count_on (names_face p.net (set p)) (darts_in p)) (λ p. bare_count p.net.graph (set p)) parts in
        let each = sum_by_alike (λ p. face_count p.net (set p))
        (λ p. count_on (names_face p.net (set p)) (darts_in p) + bare_count p.net.graph (set p)) parts
        (λ k d l. let p = slice_index_or parts k d in faces_counted p.net (set p)) in
        let all = faces_counted whole q in
        omega (arith, darts, bare, two, each, all)

    pub odd_sum : count_on (is_odd_face whole q) (dart_count whole) ≡ sum_by (λ p. count_on (is_odd_face p.net (set p)) (dart_count p.net)) parts
    odd_sum = dart_count_sum (is_odd_face whole q) (λ p. is_odd_face p.net (set p))
        (λ k d l. let p = slice_index_or parts k d in odd_up p.net whole p.node p.edge (h.are k d l) (set p) q
        (alike k d l))

    components_sum : component_count whole.graph q ≡ sum_by (λ p. component_count p.net.graph (set p)) parts
    components_sum =
        names_counted (component_of whole.graph q) whole.graph.nodes
        ∙ node_sum (λ v. if component_of whole.graph q v == v then 1 else 0)
        ∙ sum_by_alike (λ p. sum_to (λ i. if component_of whole.graph q (p.node i) == p.node i then 1 else 0)
        (nodes_in p)) (λ p. component_count p.net.graph (set p)) parts (λ k d l.
        let p = slice_index_or parts k d in
        sym (components_alike p.net whole p.node p.edge (h.are k d l) (set p) q (alike k d l)))

    pub excess_sum : excess whole q ≡ sum_by (λ p. excess p.net (set p)) parts
    excess_sum =
        let all = excess_euler whole q in
        let nodes = nodes_sum in
        let faces = faces_sum in
        let joined = components_sum in
        let edges = edge_count_sum q set alike in
        let each = sum_by_alike (λ p. nodes_in p + face_count p.net (set p) + excess p.net (set p))
        (λ p. 2 * component_count p.net.graph (set p) + edge_count p.net (set p)) parts
        (λ k d l. let p = slice_index_or parts k d in excess_euler p.net (set p)) in
        let a = sum_by_two (λ p. nodes_in p + face_count p.net (set p)) (λ p. excess p.net (set p)) parts in
        let b = sum_by_two nodes_in (λ p. face_count p.net (set p)) parts in
        let c = sum_by_two (λ p. 2 * component_count p.net.graph (set p)) (λ p. edge_count p.net (set p)) parts in
        let d = sum_by_twice (λ p. component_count p.net.graph (set p)) parts in
        omega (arith, all, nodes, faces, joined, edges, each, a, b, c, d)

-- the whole keeps the edges that the parts keep
pub kept_alike : (whole : Net) (parts : List Part) → ShareOut whole parts → AreAlikeIn (is_in (kept_edges whole)) (λ p. is_in (kept_edges p.net)) parts
kept_alike whole parts h = λ k d l. let p = slice_index_or parts k d in keeps_alike p.net whole p.node p.edge (h.are k d l)
