-- A drawing before and after the next edge.
use Rattle.std.proofs.Common.{arith, ◌≡◌, ◌≢◌, ℕ, zero, suc, ◌+◌, ◌-◌, ◌*◌, ◌/◌, ◌<◌, ◌≤◌, refl, sym, ap, ◌∙◌, Bool}
use Rattle.std.proofs.Common.{true, false, not, inl, inr, List, [], ◌∷◌, ◌++◌, length, get_or}
use Rattle.std.specs.Prelude.{◌↔◌, swap, slice_index}
use Rattle.std.proofs.lemmas.Bool.{cases_eq, cases_Bool}
use Rattle.dpl_cycle.proofs.NameLemmas.{name_count_same}
use Rattle.dpl_cycle.proofs.Fixed.{least_fixed}
use Rattle.dpl_cycle.proofs.Shorter.{least_same}
use Rattle.dpl_cycle.specs.Cycles.{least}
use Rattle.dpl_ring.specs.Rings.{IsRing, least_of}
use Rattle.dpl_sign.specs.declared.graphs.Signed.{Signed}
use Rattle.dpl_sign.specs.declared.nets.Net.{Net}
use Rattle.dpl_sign.specs.declared.edges.Edge.{Edge}
use Rattle.std.proofs.lemmas.List.{get_or_read}
use Rattle.dpl_sign.proofs.ComponentLemmas.{start_below, end_below}
use Rattle.dpl_sign.specs.Walks.{edge_at, no_edge}
use Rattle.dpl_sign.specs.Drawings.{is_in, dart_count, next_around, next_in_face, face_of, is_bare, twin_of}
use Rattle.dpl_sign.specs.Components.{names_below, component_of, component_count}
use Rattle.dpl_sign.specs.Excess.{AreEndsJoined, LiesInFace, raises_excess}
use Rattle.dpl_sign.proofs.Same.{next_same, names_same}
use Rattle.dpl_sign.proofs.DartLemmas.{first_half, second_half}
use Rattle.dpl_sign.proofs.Rotation.{face_out}
use Rattle.dpl_sign.proofs.Insert.{IsOneMore}
use Rattle.dpl_sign.proofs.EdgeEffect.{effect, news, between_first, none_first}
use Rattle.dpl_sign.proofs.ExcessLemmas.{kept_more, in_front, at_end, past_end, raises_from, raises_joined, raises_far, own_names}
use Rattle.dpl_drawing.specs.Faces.{AreFaces}
use Rattle.dpl_drawing.specs.Drawn.{AreParts, IsDrawn, IsInserted}
use Rattle.dpl_drawing.proofs.InsertLemmas.{faces_more, bare_next, used_next}
use Rattle.dpl_drawing.proofs.PartSteps.{parts_stay, parts_join}

-- ---- no edge

nothing_joined : (g : Signed) (k v : ℕ) → names_below g (is_in []) k v ≡ v
nothing_joined g zero v = refl
nothing_joined g (suc k) v = nothing_joined g k v

-- before the first edge each dart leads to itself, and each node is a component of its own
pub drawn_empty : (net : Net) (faces parts : List ℕ) (components : ℕ) → length faces ≡ dart_count net
    → length parts ≡ net.graph.nodes → components ≡ net.graph.nodes
    → ((k : ℕ) → k < length faces → get_or faces k 0 ≡ k)
    → ((k : ℕ) → k < length parts → get_or parts k 0 ≡ k) → IsDrawn net (is_in []) faces parts components
drawn_empty net faces parts components lf lp lc f p =
    let alone : (v : ℕ) → component_of net.graph (is_in []) v ≡ v = λ v. nothing_joined net.graph (length net.graph.edges) v in
    let low : (v : ℕ) → v < net.graph.nodes → least_of parts v ≡ v = λ v h. least_fixed (length parts) (slice_index parts) v (p v (omega (arith, lp))) in
    record {
      are_faces = record { darts = lf; next = λ d h. f d (omega (arith, lf)) ∙ sym (face_out net (is_in []) d refl) };
      are_parts = record {
        nodes = lp;
        joined = λ u v hu hv. (λ e. alone u ∙ sym (low u hu) ∙ e ∙ low v hv ∙ sym (alone v), λ e. low u hu ∙ sym (alone u) ∙ e ∙ alone v ∙ sym (low v hv));
      };
      counted = lc ∙ sym (name_count_same net.graph.nodes _ (λ v. v) (λ v h. alone v) ∙ own_names net.graph.nodes);
    }

-- ---- sets that agree

-- a drawing is that of each set with the same edges
pub drawn_same : (net : Net) (p q : ℕ → Bool) (faces parts : List ℕ) (components : ℕ)
    → ((e : ℕ) → e < length net.graph.edges → p e ≡ q e) → IsDrawn net p faces parts components
    → IsDrawn net q faces parts components
drawn_same net p q faces parts components same k =
    let names : (v : ℕ) → component_of net.graph p v ≡ component_of net.graph q v = λ v. names_same net.graph p q (length net.graph.edges) v same in
    let next : (d : ℕ) → d < dart_count net → next_in_face net p d ≡ next_in_face net q d =
    λ d h. rw (same (d / 2) (omega arith), next_same net p q (length net.graph.edges) (twin_of d) same) refl in
    record {
      are_faces = record { darts = k.are_faces.darts; next = λ d h. k.are_faces.next d h ∙ next d h };
      are_parts = record {
        nodes = k.are_parts.nodes;
        joined = λ u v hu hv.
            let both = k.are_parts.joined u v hu hv in
            (λ e. sym (names u) ∙ both.0 e ∙ names v, λ e. both.1 (names u ∙ e ∙ sym (names v)));
      };
      counted = k.counted ∙ name_count_same net.graph.nodes _ _ (λ v h. names v);
    }

-- the list that ends with false is the set as it was
pub kept_false : (kept : List Bool) (x : ℕ) → is_in kept x ≡ is_in (kept ++ false ∷ []) x
kept_false kept x = elim (cases_eq x (length kept)) [
  | inl r ↦ ap (is_in kept) r ∙ past_end kept ∙ sym (ap (is_in (kept ++ false ∷ [])) r ∙ at_end kept false)
  | inr r ↦ sym (in_front kept false x r)
]

-- ---- the next edge

-- the new darts of an edge do not follow one another before it is put in
pub next_apart : (net : Net) (p q : ℕ → Bool) (e : ℕ) → IsOneMore net p q e → next_around net p (2 * e) ≢ 2 * e + 1
next_apart net p q e k = elim (cases_Bool (is_bare net.graph p (edge_at net.graph e).a)) [
  | inl ha ↦ λ r. omega (arith, sym (bare_next net p (2 * e) (omega (arith, k.inside)) (none_first net p e ha)) ∙ r)
  | inr ha ↦ used_next net p q e (2 * e) (2 * e + 1) (news net p q e k).second (between_first net p q e k ha)
]

-- a dart of an edge that is not drawn leads to itself
pub alone_first : (net : Net) (kept : List Bool) (faces : List ℕ) → length kept < length net.graph.edges
    → AreFaces net (is_in kept) faces → get_or faces (2 * length kept) 0 ≡ 2 * length kept
alone_first net kept faces h k = k.next (2 * length kept) (omega arith) ∙
    face_out net (is_in kept) (2 * length kept) (ap (is_in kept) (first_half (length kept)) ∙ past_end kept)

-- the second dart of the next edge leads to itself
pub alone_second : (net : Net) (kept : List Bool) (faces : List ℕ) → length kept < length net.graph.edges
    → AreFaces net (is_in kept) faces → get_or faces (2 * length kept + 1) 0 ≡ 2 * length kept + 1
alone_second net kept faces h k = k.next (2 * length kept + 1) (omega arith) ∙
    face_out net (is_in kept) (2 * length kept + 1) (ap (is_in kept) (second_half (length kept)) ∙ past_end kept)

-- the cycles of the list are the faces
pub least_faces : (net : Net) (p : ℕ → Bool) (faces : List ℕ) (z : ℕ) → AreFaces net p faces → least_of faces z ≡ face_of net p z
least_faces net p faces z k = ap (λ n. least (slice_index faces) n z) k.darts ∙ least_same (dart_count net) _ _ k.next z

-- what is known when it is decided whether the next edge is drawn
pub record IsLooked (net : Net) (kept : List Bool) (faces parts : List ℕ) (components u v : ℕ) : Type 0 where
  pub edge : length kept < length net.graph.edges
  pub drawn : IsDrawn net (is_in kept) faces parts components
  pub first : u ≡ next_around net (is_in kept) (2 * length kept)
  pub second : v ≡ next_around net (is_in kept) (2 * length kept + 1)

-- all of it at once
pub looked : (net : Net) (kept : List Bool) (faces parts : List ℕ) (components u v : ℕ)
    → length kept < length net.graph.edges → IsDrawn net (is_in kept) faces parts components
    → u ≡ next_around net (is_in kept) (2 * length kept)
    → v ≡ next_around net (is_in kept) (2 * length kept + 1) → IsLooked net kept faces parts components u v
looked net kept faces parts components u v l d a b = record { edge = l; drawn = d; first = a; second = b }

one_face : (net : Net) (kept : List Bool) (faces parts : List ℕ) (components u v : ℕ)
    → IsLooked net kept faces parts components u v
    → (least_of faces u ≡ least_of faces v ↔ LiesInFace net (is_in kept) (length kept))
one_face net kept faces parts components u v k =
    let at : (z y : ℕ) → z ≡ y → least_of faces z ≡ face_of net (is_in kept) y =
    λ z y e. least_faces net (is_in kept) faces z k.drawn.are_faces ∙ ap (face_of net (is_in kept)) e in
    let a = at u _ k.first in
    let b = at v _ k.second in
    (λ e. sym a ∙ e ∙ b, λ e. a ∙ e ∙ sym b)

-- the edge is set aside
pub aside_next : (net : Net) (kept : List Bool) (faces parts : List ℕ) (components u v : ℕ)
    → IsLooked net kept faces parts components u v → AreEndsJoined net (is_in kept) (length kept)
    → least_of faces u ≢ least_of faces v
    → (false ≡ not (raises_excess net kept)) × IsDrawn net (is_in (kept ++ false ∷ [])) faces parts components
aside_next net kept faces parts components u v k joined far = (
  sym (ap not (raises_from net kept k.edge joined (λ r. far ((one_face net kept faces parts components u v k).1 r)))),
  drawn_same net (is_in kept) (is_in (kept ++ false ∷ [])) faces parts components (λ e h. kept_false kept e) k.drawn,
)

stays_low : (net : Net) (kept : List Bool) → (raises_excess net kept ≡ true → ⊥) → true ≡ not (raises_excess net kept)
stays_low net kept h = elim (cases_Bool (raises_excess net kept)) [ inl t ↦ absurd (h t) | inr t ↦ sym (ap not t) ]

-- the edge splits a face
pub split_next : (net : Net) (kept : List Bool) (faces parts : List ℕ) (components u v : ℕ) (new : List ℕ)
    → IsLooked net kept faces parts components u v → AreEndsJoined net (is_in kept) (length kept)
    → least_of faces u ≡ least_of faces v → IsInserted faces (length kept) u v new
    → (true ≡ not (raises_excess net kept)) × IsDrawn net (is_in (kept ++ true ∷ [])) new parts components
split_next net kept faces parts components u v new k joined near put =
    let more = kept_more net kept k.edge in
    let lies = (one_face net kept faces parts components u v k).0 near in
    let counts = ((effect net _ _ (length kept) more).splits joined lies).1 in (
      stays_low net kept (λ r. raises_far net kept k.edge r lies),
      record {
        are_faces = faces_more net _ _ (length kept) faces new u v more k.drawn.are_faces k.first k.second put;
        are_parts = parts_stay net _ _ (length kept) parts more k.drawn.are_parts joined;
        counted = k.drawn.counted ∙ sym counts;
      },
    )

-- the edge joins two components
pub join_next : (net : Net) (kept : List Bool) (faces parts : List ℕ) (components u v : ℕ) (new joined : List ℕ)
    → IsLooked net kept faces parts components u v → (AreEndsJoined net (is_in kept) (length kept) → ⊥)
    → IsRing parts → IsInserted faces (length kept) u v new
    → joined ≡ swap parts (edge_at net.graph (length kept)).a (edge_at net.graph (length kept)).b
    → (true ≡ not (raises_excess net kept)) × IsDrawn net (is_in (kept ++ true ∷ [])) new joined (components - 1)
join_next net kept faces parts components u v new joined k apart ring put e =
    let more = kept_more net kept k.edge in
    let counts = ((effect net _ _ (length kept) more).joins apart).1 in (
      stays_low net kept (λ r. apart (raises_joined net kept k.edge r)),
      record {
        are_faces = faces_more net _ _ (length kept) faces new u v more k.drawn.are_faces k.first k.second put;
        are_parts = parts_join net _ _ (length kept) parts joined more ring k.drawn.are_parts apart e;
        counted = omega (arith, k.drawn.counted, counts);
      },
    )

-- where the next edge joins two components there is at least one
pub some_component : (net : Net) (kept : List Bool) (components : ℕ) → length kept < length net.graph.edges
    → (AreEndsJoined net (is_in kept) (length kept) → ⊥) → components ≡ component_count net.graph (is_in kept)
    → 1 ≤ components
some_component net kept components h apart e = omega (arith, e, ((effect net _ _ (length kept) (kept_more net kept h)).joins apart).1)

-- the ends of an edge are on one cycle of the list exactly where they are joined
pub ends_joined : (net : Net) (p : ℕ → Bool) (parts : List ℕ) (e : ℕ) (edge : Edge) → AreParts net p parts
    → e < length net.graph.edges → edge ≡ edge_at net.graph e
    → (least_of parts edge.a ≡ least_of parts edge.b ↔ AreEndsJoined net p e)
ends_joined net p parts e edge k h same =
    let both = k.joined (edge_at net.graph e).a (edge_at net.graph e).b (start_below net.graph e h) (end_below net.graph e h) in
    let a : least_of parts edge.a ≡ least_of parts (edge_at net.graph e).a = ap (λ (x : Edge). least_of parts x.a) same in
    let b : least_of parts edge.b ≡ least_of parts (edge_at net.graph e).b = ap (λ (x : Edge). least_of parts x.b) same in
    (λ r. both.0 (sym a ∙ r ∙ b), λ r. a ∙ both.1 r ∙ sym b)

-- the edge that is read is that of its number
pub edge_read : (g : Signed) (edges : List Edge) (e : ℕ) (edge : Edge) → edges ≡ g.edges → e < length edges → edge ≡ get_or edges e edge → edge ≡ edge_at g e
edge_read g edges e edge same h is = get_or_read edges e edge h is no_edge ∙ ap (λ (xs : List Edge). get_or xs e no_edge) same

-- the ring of components is exchanged at the ends of the edge that was read
pub swap_read : (g : Signed) (e : ℕ) (edge : Edge) (parts joined : List ℕ) → edge ≡ edge_at g e
    → joined ≡ swap parts edge.a edge.b → joined ≡ swap parts (edge_at g e).a (edge_at g e).b
swap_read g e edge parts joined same h = h ∙ ap (λ (x : Edge). swap parts x.a x.b) same
