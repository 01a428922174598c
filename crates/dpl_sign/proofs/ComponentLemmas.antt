-- Components of the edges of a set, and how one edge more joins them.
use Rattle.std.proofs.Common.{arith, ◌≡◌, ◌≢◌, ℕ, zero, suc, ◌+◌, ◌*◌, ◌/◌, ◌<◌, ◌≤◌, refl, sym, ap, ◌∙◌, Bool, true, inl, inr, length}
use Rattle.std.proofs.lemmas.Bool.{cases_eq, cases_Bool, both_ways}
use Rattle.std.proofs.lemmas.List.Elements.{All-get_or}
use Rattle.dpl_cycle.specs.Names.{AreNames, join}
use Rattle.dpl_cycle.proofs.NameLemmas.{join_hit, join_miss, join_less, join_names, name_count_same}
use Rattle.dpl_cycle.proofs.NameCounts.{AreAlike, count_alike}
use Rattle.dpl_cycle.proofs.Fixed.{mark, mark_here, mark_elsewhere}
use Rattle.dpl_cycle.proofs.Least.{label_least}
use Rattle.dpl_sign.specs.declared.graphs.Signed.{Signed}
use Rattle.dpl_sign.specs.declared.nets.Net.{Net}
use Rattle.dpl_sign.specs.Walks.{edge_at, no_edge}
use Rattle.dpl_sign.specs.Drawings.{tail_of, twin_of, dart_count, next_in_face, face_of}
use Rattle.dpl_sign.specs.Components.{names_below, component_of, component_count}
use Rattle.dpl_sign.proofs.Unfold.{names_in, names_out}
use Rattle.dpl_sign.proofs.DartLemmas.{dart_cases, first_tail, second_tail}
use Rattle.dpl_sign.proofs.Rotation.{InSet, face_out, face_tail, face_permutes}
use Rattle.dpl_sign.proofs.Insert.{IsOneMore}

-- the second end of an edge is a node
pub end_below : (g : Signed) (e : ℕ) → e < length g.edges → (edge_at g e).b < g.nodes
end_below g e h = All-get_or (λ x. x.b < g.nodes) g.edges e no_edge h g.inside

-- the first end of an edge is a node
pub start_below : (g : Signed) (e : ℕ) → e < length g.edges → (edge_at g e).a < g.nodes
start_below g e h = omega (arith, end_below g e h, (edge_at g e).ordered)

-- both ends of an edge are nodes
pub ends_below : (g : Signed) (e : ℕ) → e < length g.edges → ((edge_at g e).a < g.nodes) × ((edge_at g e).b < g.nodes)
ends_below g e h = (start_below g e h, end_below g e h)

names_are : (g : Signed) (p : ℕ → Bool) (k : ℕ) → k ≤ length g.edges → AreNames g.nodes (names_below g p k)
names_are g p zero h = record { inside = λ v l. l; twice = λ v l. refl }
names_are g p (suc k) h =
    let rest = names_are g p k (omega arith) in
    elim (cases_Bool (p k)) [
      | inl t ↦
          let more = join_names g.nodes (names_below g p k) rest (edge_at g k).a (edge_at g k).b
          (start_below g k (omega arith)) (end_below g k (omega arith)) in
          record {
            inside = λ v l. omega (arith, names_in g p k v t, more.inside v l);
            twice = λ v l. ap (names_below g p (suc k)) (names_in g p k v t) ∙ names_in g p k _ t ∙ more.twice v l ∙ sym (names_in g p k v t);
          }
      | inr t ↦ record {
        inside = λ v l. omega (arith, names_out g p k v t, rest.inside v l);
        twice = λ v l. ap (names_below g p (suc k)) (names_out g p k v t) ∙ names_out g p k _ t ∙ rest.twice v l ∙ sym (names_out g p k v t);
      }
    ]

-- what the ends of each edge share, the nodes of a component share
names_label : (g : Signed) (p : ℕ → Bool) (label : ℕ → ℕ) (k : ℕ)
    → ((j : ℕ) → j < k → p j ≡ true → label (edge_at g j).a ≡ label (edge_at g j).b) → (v : ℕ)
    → label (names_below g p k v) ≡ label v
names_label g p label zero h v = refl
names_label g p label (suc k) h v =
    let rest = names_label g p label k (λ j l t. h j (omega arith) t) in
    let s = names_below g p k in
    let a = (edge_at g k).a in
    let b = (edge_at g k).b in
    elim (cases_Bool (p k)) [
      | inl t ↦ ap label (names_in g p k v t) ∙ (elim (cases_eq (s v) (s b)) [
        | inl q ↦ ap label (join_hit s a b v q) ∙ rest a ∙ h k (omega arith) t ∙ sym (rest b) ∙ ap label (sym q) ∙ rest v
        | inr q ↦ ap label (join_miss s a b v q) ∙ rest v
      ])
      | inr t ↦ ap label (names_out g p k v t) ∙ rest v
    ]

join_first : (s : ℕ → ℕ) (a b : ℕ) → join s a b a ≡ s a
join_first s a b = elim (cases_eq (s a) (s b)) [ inl q ↦ join_hit s a b a q | inr q ↦ join_miss s a b a q ]

join_second : (s : ℕ → ℕ) (a b : ℕ) → join s a b b ≡ s a
join_second s a b = join_hit s a b b refl

-- joining two components keeps together what was together
pub join_of : (s : ℕ → ℕ) (a b v w : ℕ) → s v ≡ s w → join s a b v ≡ join s a b w
join_of s a b v w e = elim (cases_eq (s v) (s b)) [
  | inl q ↦ join_hit s a b v q ∙ sym (join_hit s a b w (sym e ∙ q))
  | inr q ↦ join_miss s a b v q ∙ e ∙ sym (join_miss s a b w (λ r. q (e ∙ r)))
]

-- the ends of an edge of the set are of one component
names_joined : (g : Signed) (p : ℕ → Bool) (k j : ℕ) → j < k → p j ≡ true → names_below g p k (edge_at g j).a ≡ names_below g p k (edge_at g j).b
names_joined g p zero j h t = absurd (omega arith)
names_joined g p (suc k) j h t = elim (cases_eq j k) [
  | inl e ↦
      let s = names_below g p k in
      let here : p k ≡ true = ap p (sym e) ∙ t in
      let a = (edge_at g k).a in
      let b = (edge_at g k).b in
      ap (λ x. names_below g p (suc k) (edge_at g x).a) e ∙ names_in g p k a here ∙ join_first s a b ∙
      sym (join_second s a b) ∙ sym (names_in g p k b here) ∙
      ap (λ x. names_below g p (suc k) (edge_at g x).b) (sym e)
  | inr e ↦
      let rest = names_joined g p k j (omega arith) t in
      elim (cases_Bool (p k)) [
        | inl q ↦ names_in g p k _ q ∙ join_of (names_below g p k) (edge_at g k).a (edge_at g k).b _ _ rest ∙ sym (names_in g p k _ q)
        | inr q ↦ names_out g p k _ q ∙ rest ∙ sym (names_out g p k _ q)
      ]
]

-- the ends of an edge of the set are of one component
pub component_joined : (g : Signed) (p : ℕ → Bool) (e : ℕ) → e < length g.edges → p e ≡ true
    → component_of g p (edge_at g e).a ≡ component_of g p (edge_at g e).b
component_joined g p e h t = names_joined g p (length g.edges) e h t

-- components are named by their members
pub components_are : (g : Signed) (p : ℕ → Bool) → AreNames g.nodes (component_of g p)
components_are g p = names_are g p (length g.edges) (omega arith)

-- a label that agrees at the ends of each edge of the set is the same throughout a component
pub component_label : (g : Signed) (p : ℕ → Bool) (label : ℕ → ℕ)
    → ((e : ℕ) → e < length g.edges → p e ≡ true → label (edge_at g e).a ≡ label (edge_at g e).b) → (v : ℕ)
    → label (component_of g p v) ≡ label v
component_label g p label h v = names_label g p label (length g.edges) h v

-- ---- one edge more

with_more : (net : Net) (p q : ℕ → Bool) (e : ℕ) → IsOneMore net p q e → (j : ℕ) → j < length net.graph.edges → p j ≡ true → q j ≡ true
with_more net p q e k j h t = elim (cases_eq j e) [ inl r ↦ absurd (both_ways _ k.out (ap p (sym r) ∙ t)) | inr r ↦ sym (k.same j h r) ∙ t ]

-- with one edge more the components are those before, the two of its ends joined
pub more_alike : (net : Net) (p q : ℕ → Bool) (e : ℕ) → IsOneMore net p q e
    → AreAlike net.graph.nodes (component_of net.graph q) (join (component_of net.graph p) (edge_at net.graph e).a (edge_at net.graph e).b)
more_alike net p q e k =
    let g = net.graph in
    let s = component_of g q in
    let r = component_of g p in
    let a = (edge_at g e).a in
    let b = (edge_at g e).b in
    let t = join r a b in
    let old : (v : ℕ) → s (r v) ≡ s v = component_label g p s (λ j h u. component_joined g q j h (with_more net p q e k j h u)) in
    record {
      first = components_are g q;
      second = join_names g.nodes r (components_are g p) a b (start_below g e k.inside) (end_below g e k.inside);
      here = λ v h. elim (cases_eq (r v) (r b)) [
        | inl u ↦ ap s (join_hit r a b v u) ∙ old a ∙ component_joined g q e k.inside k.chosen ∙ sym (old b) ∙ ap s (sym u) ∙ old v
        | inr u ↦ ap s (join_miss r a b v u) ∙ old v
      ];
      there = λ v h. component_label g q t (λ j l u. elim (cases_eq j e) [
        | inl w ↦ ap (λ x. t (edge_at g x).a) w ∙ join_first r a b ∙ sym (join_second r a b) ∙ ap (λ x. t (edge_at g x).b) (sym w)
        | inr w ↦ join_of r a b _ _ (component_joined g p j l (k.same j l w ∙ u))
      ]) v;
    }

-- one edge more between two components leaves one component less
pub components_join : (net : Net) (p q : ℕ → Bool) (e : ℕ) → IsOneMore net p q e
    → component_of net.graph p (edge_at net.graph e).a ≢ component_of net.graph p (edge_at net.graph e).b
    → component_count net.graph q + 1 ≡ component_count net.graph p
components_join net p q e k ne =
    let g = net.graph in
    omega (
      arith,
      count_alike g.nodes _ _ (more_alike net p q e k),
      join_less g.nodes (component_of g p) (components_are g p) (edge_at g e).a (edge_at g e).b
          (start_below g e k.inside) (end_below g e k.inside) ne,
    )

-- one edge more within a component leaves as many components
pub components_stay : (net : Net) (p q : ℕ → Bool) (e : ℕ) → IsOneMore net p q e
    → component_of net.graph p (edge_at net.graph e).a ≡ component_of net.graph p (edge_at net.graph e).b
    → component_count net.graph q ≡ component_count net.graph p
components_stay net p q e k same =
    let g = net.graph in
    let r = component_of g p in
    let a = (edge_at g e).a in
    let b = (edge_at g e).b in
    count_alike g.nodes _ _ (more_alike net p q e k) ∙ name_count_same g.nodes (join r a b) r (λ v h. elim (cases_eq (r v) (r b)) [
      | inl u ↦ join_hit r a b v u ∙ same ∙ sym u
      | inr u ↦ join_miss r a b v u
    ])

-- ---- bare nodes, and faces

-- a node without an edge is a component of its own
pub bare_component : (g : Signed) (p : ℕ → Bool) (u w : ℕ)
    → ((e : ℕ) → e < length g.edges → p e ≡ true → ((edge_at g e).a ≢ u) × ((edge_at g e).b ≢ u))
    → component_of g p w ≡ component_of g p u → w ≡ u
bare_component g p u w none same =
    let label = component_label g p (mark u) (λ e h t. mark_elsewhere u _ (none e h t).0 ∙ sym (mark_elsewhere u _ (none e h t).1)) in
    elim (cases_eq w u) [
      | inl r ↦ r
      | inr r ↦ absurd (omega (arith, label w, label u, ap (mark u) same, mark_here u u refl, mark_elsewhere u w r))
    ]

-- the two ends of a dart of the set are of one component
dart_component : (net : Net) (p : ℕ → Bool) (d : ℕ) → InSet net p d
    → component_of net.graph p (tail_of net.graph (twin_of d)) ≡ component_of net.graph p (tail_of net.graph d)
dart_component net p d h =
    let g = net.graph in
    let e = d / 2 in
    let joined : component_of g p (edge_at g e).a ≡ component_of g p (edge_at g e).b = component_joined g p e (omega (arith, h.inside)) h.chosen in
    let first : tail_of g (2 * e) ≡ (edge_at g e).a = first_tail g e in
    let second : tail_of g (suc (2 * e)) ≡ (edge_at g e).b = ap (tail_of g) (omega arith) ∙ second_tail g e in
    elim (dart_cases d) [
      | inl c ↦ ap (λ x. component_of g p (tail_of g x)) c.1 ∙ ap (component_of g p) second ∙ sym joined ∙
          ap (component_of g p) (sym first) ∙ ap (λ x. component_of g p (tail_of g x)) (sym c.0)
      | inr c ↦ ap (λ x. component_of g p (tail_of g x)) c.1 ∙ ap (component_of g p) first ∙ joined ∙
          ap (component_of g p) (sym second) ∙ ap (λ x. component_of g p (tail_of g x)) (sym c.0)
    ]

-- all nodes of a face are of one component
pub face_component : (net : Net) (p : ℕ → Bool) (c d : ℕ) → c < dart_count net → d < dart_count net
    → face_of net p c ≡ face_of net p d
    → component_of net.graph p (tail_of net.graph c) ≡ component_of net.graph p (tail_of net.graph d)
face_component net p c d hc hd e =
    let n = dart_count net in
    let f = next_in_face net p in
    let label : ℕ → ℕ = λ z. component_of net.graph p (tail_of net.graph z) in
    let along : (z : ℕ) → z < n → label (f z) ≡ label z = λ z h. elim (cases_Bool (p (z / 2))) [
      | inl t ↦
          let k : InSet net p z = record { inside = h; chosen = t } in
          ap (component_of net.graph p) (face_tail net p z k) ∙ dart_component net p z k
      | inr t ↦ ap label (face_out net p z t)
    ] in
    sym (label_least n f _ (face_permutes net p) label along c hc) ∙ ap label e ∙ label_least n f _ (face_permutes net p) label along d hd
