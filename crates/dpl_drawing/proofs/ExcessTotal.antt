-- The excess over all edges, from the faces of all edges and those of the kept ones.
use Rattle.std.proofs.Common.{arith, ◌≡◌, ◌≢◌, ℕ, zero, suc, ◌+◌, ◌/◌, ◌<◌, ◌==◌, ◌&&◌, refl, sym, ap, ◌∙◌, Bool, true, not, inl, inr, length}
use Rattle.std.proofs.lemmas.Bool.{cases_Bool, cond-true, not-false}
use Rattle.std.specs.Cmp.{both_ways}
use Rattle.dpl_cycle.specs.Cycles.{least}
use Rattle.dpl_cycle.specs.Sums.{count_on}
use Rattle.dpl_cycle.proofs.Shorter.{least_same}
use Rattle.dpl_cycle.proofs.NameCounts.{AreAlike, count_alike}
use Rattle.dpl_cycle.proofs.SumLemmas.{count_on_same}
use Rattle.dpl_sign.specs.declared.nets.Net.{Net}
use Rattle.dpl_sign.specs.Walks.{edge_at}
use Rattle.dpl_sign.specs.Drawings.{is_in, twin_of, dart_count, next_in_face, bare_count, is_bare, is_met_below}
use Rattle.dpl_sign.specs.Components.{component_of, component_count}
use Rattle.dpl_sign.specs.Excess.{excess, all_edges, kept_before, kept_edges, aside_edges, raises_excess}
use Rattle.dpl_sign.proofs.Same.{next_same}
use Rattle.dpl_sign.proofs.ComponentLemmas.{component_joined, components_are, component_label, bare_component}
use Rattle.dpl_sign.proofs.BareLemmas.{EndsAt, met_from, met_is, bare_edges}
use Rattle.dpl_sign.proofs.ExcessLemmas.{excess_euler, kept_plane, kept_length, raises_joined}
use Rattle.dpl_drawing.specs.Faces.{is_first, drawn_faces}
use Rattle.dpl_sign.proofs.KeptLemmas.{kept_at, kept_early, kept_inside}
use Rattle.dpl_drawing.proofs.KeptLemmas.{aside_count}
use Rattle.dpl_drawing.proofs.FaceLists.{face_count_is}

-- kept edges join the ends of every edge
pub ends_kept : (net : Net) (e : ℕ) → e < length net.graph.edges
    → component_of net.graph (is_in (kept_edges net)) (edge_at net.graph e).a ≡ component_of net.graph (is_in (kept_edges net)) (edge_at net.graph e).b
ends_kept net e h =
    let g = net.graph in
    let label = component_of g (is_in (kept_edges net)) in
    elim (cases_Bool (is_in (kept_edges net) e)) [
      | inl t ↦ component_joined g (is_in (kept_edges net)) e h t
      | inr t ↦
          let kept = kept_before net e in
          let size = kept_length net e in
          let raises : raises_excess net kept ≡ true = not-false _ (sym (kept_at net (length g.edges) e h) ∙ t) in
          let joined : component_of g (is_in kept) (edge_at g (length kept)).a ≡ component_of g (is_in kept)
          (edge_at g (length kept)).b = raises_joined net kept (omega (arith, size)) raises in
          let here : component_of g (is_in kept) (edge_at g e).a ≡ component_of g (is_in kept) (edge_at g e).b =
          ap (λ x. component_of g (is_in kept) (edge_at g x).a) (sym size) ∙ joined ∙ ap (λ x. component_of g (is_in kept) (edge_at g x).b) size in
          let old : (v : ℕ) → label (component_of g (is_in kept) v) ≡ label v =
          λ v. component_label g (is_in kept) label (λ x l q. component_joined g (is_in (kept_edges net)) x l
          (sym (kept_early net e (length g.edges) x (kept_inside net e x q) l) ∙ q)) v in
          sym (old (edge_at g e).a) ∙ ap label here ∙ old (edge_at g e).b
    ]

-- all edges have the components of the kept ones
pub components_all : (net : Net) → component_count net.graph all_edges ≡ component_count net.graph (is_in (kept_edges net))
components_all net =
    let g = net.graph in
    let alike : AreAlike g.nodes (component_of g all_edges) (component_of g (is_in (kept_edges net))) = record {
      first = components_are g all_edges;
      second = components_are g (is_in (kept_edges net));
      here = λ v h. component_label g (is_in (kept_edges net)) (component_of g all_edges) (λ e l t. component_joined g all_edges e l refl) v;
      there = λ v h. component_label g all_edges (component_of g (is_in (kept_edges net))) (λ e l t. ends_kept net e l) v;
    } in
    count_alike g.nodes (component_of g all_edges) (component_of g (is_in (kept_edges net))) alike

bare_alone : (net : Net) (e v : ℕ) → e < length net.graph.edges → EndsAt net.graph e v → is_bare net.graph (is_in (kept_edges net)) v ≡ true → ⊥
bare_alone net e v h ends bare =
    let g = net.graph in
    let none : (x : ℕ) → x < length g.edges → is_in (kept_edges net) x ≡ true → ((edge_at g x).a ≢ v) ×
    ((edge_at g x).b ≢ v) = λ x l t. (
      λ r. bare_edges g (is_in (kept_edges net)) v bare x l t (inl r),
      λ r. bare_edges g (is_in (kept_edges net)) v bare x l t (inr r),
    ) in
    let order = (edge_at g e).ordered in
    let label = component_of g (is_in (kept_edges net)) in
    elim ends [
      | inl r ↦ omega (arith, order, r, bare_component g (is_in (kept_edges net)) v (edge_at g e).b none (sym (ends_kept net e h) ∙ ap label r))
      | inr r ↦ omega (arith, order, r, bare_component g (is_in (kept_edges net)) v (edge_at g e).a none (ends_kept net e h ∙ ap label r))
    ]

-- the nodes without an edge are those without a kept edge
pub bare_all : (net : Net) → bare_count net.graph all_edges ≡ bare_count net.graph (is_in (kept_edges net))
bare_all net =
    let g = net.graph in
    let n = length g.edges in
    count_on_same g.nodes (is_bare g all_edges) (is_bare g (is_in (kept_edges net)))
    (λ v l. ap not (both_ways (is_met_below g all_edges n v) (is_met_below g (is_in (kept_edges net)) n v)
    (λ h. let m = met_is g all_edges n v h in elim (cases_Bool (is_met_below g (is_in (kept_edges net)) n v)) [
      | inl t ↦ t
      | inr t ↦ absurd (bare_alone net m.edge v m.inside m.ends (ap not t))
    ])
    (λ h. let m = met_is g (is_in (kept_edges net)) n v h in met_from g all_edges n m.edge v m.inside refl m.ends)))

all_count : (n : ℕ) → count_on all_edges n ≡ n
all_count zero = refl
all_count (suc n) = omega (arith, all_count n, cond-true {A = ℕ} (all_edges n) 1 0 refl)

-- what each edge set aside adds, less the faces that it takes
pub excess_total : (net : Net) → excess net all_edges + drawn_faces net all_edges ≡ length (aside_edges net) + drawn_faces net (is_in (kept_edges net))
excess_total net =
    let n = length net.graph.edges in
    omega (
      arith,
      excess_euler net all_edges,
      excess_euler net (is_in (kept_edges net)),
      kept_plane net n (omega arith),
      components_all net,
      bare_all net,
      face_count_is net all_edges,
      face_count_is net (is_in (kept_edges net)),
      all_count n,
      aside_count net n,
    )

-- sets that agree on the edges of a net have as many faces with darts
pub drawn_faces_same : (net : Net) (p q : ℕ → Bool) → ((e : ℕ) → e < length net.graph.edges → p e ≡ q e) → drawn_faces net p ≡ drawn_faces net q
drawn_faces_same net p q same =
    let n = dart_count net in
    let half : (z : ℕ) → z < n → p (z / 2) ≡ q (z / 2) = λ z h. same (z / 2) (omega arith) in
    let next : (z : ℕ) → z < n → next_in_face net p z ≡ next_in_face net q z =
    λ z h. rw (half z h, next_same net p q (length net.graph.edges) (twin_of z) same) refl in
    let low : (z : ℕ) → least (next_in_face net p) n z ≡ least (next_in_face net q) n z = λ z. least_same n _ _ next z in
    count_on_same n (is_first (next_in_face net p) p n) (is_first (next_in_face net q) q n)
    (λ z h. ap (λ b. b && (least (next_in_face net p) n z == z)) (half z h) ∙
    ap (λ y. q (z / 2) && (y == z)) (low z))
