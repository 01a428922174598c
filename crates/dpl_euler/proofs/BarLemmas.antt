-- An edge that is set aside leads from one face of the kept edges to another.
use Rattle.std.proofs.Common.{arith, ◌≡◌, ℕ, zero, suc, ◌+◌, ◌*◌, ◌/◌, ◌<◌, sym, ap, ◌∙◌, Bool, true, false, inl, inr}
use Rattle.std.proofs.Common.{List, [], ◌∷◌, ◌++◌, length, get_or, ◌-◌, subst, eq-eqb, ◌==◌}
use Rattle.std.specs.Prelude.{slice_index, All, Contains}
use Rattle.std.proofs.lemmas.Bool.{cases_eq, cases_Bool, not-false, ltb-true, or_left, or_right}
use Rattle.std.proofs.lemmas.List.Elements.{All-weaker, All-from_get_or}
use Rattle.std.proofs.lemmas.List.{get_or_default, get_or_read}
use Rattle.dpl_cycle.specs.Cycles.{Permutes, least}
use Rattle.dpl_cycle.proofs.Least.{least_step}
use Rattle.dpl_sign.specs.declared.nets.Net.{Net}
use Rattle.dpl_sign.specs.Walks.{edge_at, IsPath}
use Rattle.dpl_sign.specs.Drawings.{is_bare, is_in, dart_count, next_in_face, next_around, face_of}
use Rattle.dpl_sign.specs.Components.{AreJoined}
use Rattle.dpl_sign.specs.Excess.{excess, with_edge, kept_before, kept_edges, aside_edges, raises_excess, AreEndsJoined, LiesInFace}
use Rattle.dpl_sign.proofs.ExcessLemmas.{excess_effect, one_more, kept_plane, kept_length, in_front}
use Rattle.dpl_sign.proofs.KeptLemmas.{kept_at, kept_early, kept_inside}
use Rattle.dpl_sign.proofs.MonotoneLemmas.{excess_rises}
use Rattle.dpl_sign.proofs.PathLemmas.{component_is}
use Rattle.dpl_sign.proofs.Rotation.{face_permutes, next_member, around_set}
use Rattle.dpl_sign.proofs.Insert.{IsBetween}
use Rattle.dpl_sign.proofs.EdgeEffect.{first_apart, between_first, at_corner}
use Rattle.dpl_map.specs.Maps.{is_kept}
use Rattle.dpl_drawing.proofs.FaceLists.{face_stays}
use Rattle.dpl_map.proofs.AsideLemmas.{joined_below}
use Rattle.dpl_euler.specs.Bars.{corner_at, IsBar, IsFirstAside}
use Rattle.dpl_euler.specs.Cycles.{IsCycleFrom}
use Rattle.dpl_sign.specs.declared.edges.Edge.{Edge}
use Rattle.dpl_euler.proofs.FirstLemmas.{first_aside}

-- the kept edges join its ends
pub ends_joined : (net : Net) (e : ℕ) → e < length net.graph.edges → is_kept net e ≡ false → AreEndsJoined net (is_kept net) e
ends_joined net e h aside =
    let way = joined_below net e h aside in
    (component_is net.graph (is_kept net) (edge_at net.graph e).a (edge_at net.graph e).b).1 (
      way.0,
      way.1,
      All-weaker (λ x. (x < e) × (is_kept net x ≡ true)) (λ x. is_kept net x ≡ true) (λ x p. p.1) way.0
          way.2,
    )

-- with it the excess is not 0
pub excess_with : (net : Net) (e : ℕ) → e < length net.graph.edges → is_kept net e ≡ false → 0 < excess net (with_edge (is_kept net) e)
excess_with net e h aside =
    let kept = kept_before net e in
    let size = kept_length net e in
    let raises : raises_excess net kept ≡ true = not-false _ (sym (kept_at net (length net.graph.edges) e h) ∙ aside) in
    let more = kept ++ true ∷ [] in
    omega (
      arith,
      ltb-true _ _ raises,
      excess_rises net (is_in more) (with_edge (is_kept net) e) (λ x l s.
          elim (cases_eq x e) [
            | inl t ↦ or_left (x == e) (is_kept net x) (eq-eqb x e t)
            | inr t ↦
                let early : is_in kept x ≡ true = sym (in_front kept true x (λ q. t (q ∙ size))) ∙ s in
                or_right (x == e) (is_kept net x) (sym (kept_early net e (length net.graph.edges) x (kept_inside net e x early) l) ∙ early)
          ]),
    )

-- its corners are on two faces
pub corners_apart : (net : Net) (e : ℕ) → e < length net.graph.edges → is_kept net e ≡ false → ¬ LiesInFace net (is_kept net) e
corners_apart net e h aside lies =
    let effect = excess_effect net (is_kept net) (with_edge (is_kept net) e) e (one_more net (is_kept net) e h aside) in
    omega (arith, effect.splits (ends_joined net e h aside) lies, excess_with net e h aside, kept_plane net (length net.graph.edges) (omega arith))

pub excess_two : (net : Net) (e : ℕ) → e < length net.graph.edges → is_kept net e ≡ false → excess net (with_edge (is_kept net) e) ≡ 2
excess_two net e h aside =
    let effect = excess_effect net (is_kept net) (with_edge (is_kept net) e) e (one_more net (is_kept net) e h aside) in
    omega (arith, effect.crosses (ends_joined net e h aside) (corners_apart net e h aside), kept_plane net (length net.graph.edges) (omega arith))

-- the kept edges lead from its larger end to its smaller one
pub ends_led : (net : Net) (e : ℕ) → e < length net.graph.edges → is_kept net e ≡ false
    → AreJoined net.graph (is_kept net) (edge_at net.graph e).b (edge_at net.graph e).a
ends_led net e h aside = (component_is net.graph (is_kept net) (edge_at net.graph e).b (edge_at net.graph e).a).0 (sym (ends_joined net e h aside))

-- ---- the face at its first corner

-- all numbers of a cycle have one least number
pub on_cycle : (n : ℕ) (f g : ℕ → ℕ) (start : ℕ) (cycle : List ℕ) → Permutes n f g → start < n
    → IsCycleFrom f start cycle → (i : ℕ) → i < length cycle
    → (get_or cycle i 0 < n) × (least f n (get_or cycle i 0) ≡ least f n start)
on_cycle n f g start cycle p h c zero l = (omega (arith, c.first, h), ap (least f n) c.first)
on_cycle n f g start cycle p h c (suc i) l =
    let before = on_cycle n f g start cycle p h c i (omega (arith, l)) in
    let step : get_or cycle (suc i) 0 ≡ f (get_or cycle i 0) = ap (λ z. get_or cycle z 0) (omega arith) ∙ c.next i (omega (arith, l)) in
    (omega (arith, step, p.to (get_or cycle i 0) before.0), ap (least f n) step ∙ least_step n f g p (get_or cycle i 0) before.0 ∙ before.1)

-- it does not have the other corner
pub face_apart : (net : Net) (e : ℕ) (face : List ℕ) → e < length net.graph.edges → is_kept net e ≡ false
    → corner_at net (2 * e) < dart_count net
    → IsCycleFrom (next_in_face net (is_kept net)) (corner_at net (2 * e)) face
    → ¬ Contains face (corner_at net (2 * e + 1))
face_apart net e face h aside inside c has =
    let at : get_or face has.0 0 ≡ corner_at net (2 * e + 1) = get_or_default face has.0 0 (corner_at net (2 * e + 1)) has.1 ∙ has.2 in
    let one = (on_cycle (dart_count net) (next_in_face net (is_kept net)) _ _ face (face_permutes net (is_kept net)) inside c has.0 has.1).1 in
    corners_apart net e h aside (sym one ∙ ap (face_of net (is_kept net)) at)

-- its darts are all of kept edges, as the first is
pub face_drawn : (net : Net) (start : ℕ) (face : List ℕ) → start < dart_count net
    → is_kept net (start / 2) ≡ true → IsCycleFrom (next_in_face net (is_kept net)) start face
    → All (λ d. is_kept net (d / 2) ≡ true) face
face_drawn net start face inside kept c = All-from_get_or (λ d. is_kept net (d / 2) ≡ true) face 0 (λ i l. at i l)
  where
    at : (i : ℕ) → i < length face → is_kept net (get_or face i 0 / 2) ≡ true
    at zero l = ap (λ d. is_kept net (d / 2)) c.first ∙ kept
    at (suc i) l =
        let f = next_in_face net (is_kept net) in
        let low = (on_cycle (dart_count net) f _ start face (face_permutes net (is_kept net)) inside c i (omega (arith, l))).0 in
        let step : get_or face (suc i) 0 ≡ f (get_or face i 0) = ap (λ z. get_or face z 0) (omega arith) ∙ c.next i (omega (arith, l)) in
        ap (λ d. is_kept net (d / 2)) step ∙ face_stays net (is_kept net) (get_or face i 0) low ∙ at i (omega (arith, l))

-- a permutation that is the same below n has the same cycles
pub cycle_same : (n : ℕ) (f h g : ℕ → ℕ) (start : ℕ) (cycle : List ℕ) → Permutes n f g
    → ((x : ℕ) → x < n → h x ≡ f x) → start < n → IsCycleFrom h start cycle → IsCycleFrom f start cycle
cycle_same n f h g start cycle p same low c =
    record {
      some = c.some;
      first = c.first;
      next = λ i l. c.next i l ∙ same _ (below i (omega (arith, l)));
      last = sym (same _ (below (length cycle - 1) (omega (arith, c.some)))) ∙ c.last;
      once = c.once;
    }
  where
    below : (i : ℕ) → i < length cycle → get_or cycle i 0 < n
    below zero l = omega (arith, c.first, low)
    below (suc i) l =
        let step : get_or cycle (suc i) 0 ≡ h (get_or cycle i 0) = ap (λ z. get_or cycle z 0) (omega arith) ∙ c.next i (omega (arith, l)) in
        let before = below i (omega (arith, l)) in
        omega (arith, step, same (get_or cycle i 0) before, p.to (get_or cycle i 0) before)

at_first : (net : Net) (e : ℕ) → e < length net.graph.edges → is_kept net e ≡ false → IsBetween net (is_kept net) (with_edge (is_kept net) e) (2 * e)
at_first net e h aside = elim (cases_Bool (is_bare net.graph (is_kept net) (edge_at net.graph e).a)) [
  | inl t ↦ absurd (first_apart net (is_kept net) e t (ends_joined net e h aside))
  | inr t ↦ between_first net (is_kept net) (with_edge (is_kept net) e) e (one_more net (is_kept net) e h aside) t
]

-- the corner is a dart of a kept edge, since kept edges lead from its node
pub corner_kept : (net : Net) (e : ℕ) → e < length net.graph.edges → is_kept net e ≡ false → is_kept net (corner_at net (2 * e) / 2) ≡ true
corner_kept net e h aside =
    let b = at_first net e h aside in
    let m = next_member net (is_kept net) _ _ b.prev_in b.prev_tail in
    ap (λ d. is_kept net (d / 2)) b.corner ∙ (around_set net (is_kept net) _ _ m).chosen

pub corner_inside : (net : Net) (e : ℕ) → e < length net.graph.edges → is_kept net e ≡ false → corner_at net (2 * e) < dart_count net
corner_inside net e h aside = (at_corner net (is_kept net) (with_edge (is_kept net) e) (2 * e) (at_first net e h aside)).inside

-- a walk from one end to the other has an edge
pub walk_some : (net : Net) (e : ℕ) (es : List ℕ) → IsPath net.graph (edge_at net.graph e).a es (edge_at net.graph e).b → 0 < length es
walk_some net e [] p = absurd (omega (arith, p, (edge_at net.graph e).ordered))
walk_some net e (x ∷ xs) p = omega arith

-- ---- what `bar` hands out

pub edge_first : (net : Net) (aside : List ℕ) (e : ℕ) → aside ≡ aside_edges net → 0 < length (aside_edges net) → e ≡ get_or aside 0 e → IsFirstAside net e
edge_first net aside e same some at =
    let P : ℕ → Type 0 = λ z. IsFirstAside net z in
    let first : e ≡ get_or (aside_edges net) 0 0 = get_or_read aside 0 e (omega (arith, some, ap length same)) at 0 ∙
    ap (λ (xs : List ℕ). get_or xs 0 0) same in
    subst P (sym first) (first_aside net some)

pub joined_in : (net : Net) (kept : List Bool) (e : ℕ) (ends : Edge) → kept ≡ kept_edges net
    → ends ≡ edge_at net.graph e → e < length net.graph.edges → is_kept net e ≡ false
    → AreJoined net.graph (is_in kept) ends.b ends.a
joined_in net kept e ends same at h aside =
    let P : List Bool → Edge → Type 0 = λ ks z. AreJoined net.graph (is_in ks) z.b z.a in
    subst (λ ks. P ks ends) (sym same) (subst (P (kept_edges net)) (sym at) (ends_led net e h aside))

pub bar_is : (net : Net) (kept : List Bool) (corners : List ℕ) (e corner : ℕ) (ends : Edge) (face walk : List ℕ)
    → kept ≡ kept_edges net → length corners ≡ dart_count net
    → ((d : ℕ) → d < dart_count net → get_or corners d 0 ≡ next_in_face net (is_kept net) d)
    → ends ≡ edge_at net.graph e → IsFirstAside net e → corner ≡ next_around net (is_in kept) (2 * e)
    → IsCycleFrom (slice_index corners) corner face → IsPath net.graph ends.a walk ends.b
    → All (λ x. is_in kept x ≡ true) walk → IsBar net (record { edge = e; face = face; walk = walk })
bar_is net kept corners e corner ends face walk same size next at first ec cycle path all =
    let P : ℕ → Type 0 = λ z. IsCycleFrom (next_in_face net (is_kept net)) z face in
    let Q : Edge → Type 0 = λ z. IsPath net.graph z.a walk z.b in
    let R : List Bool → Type 0 = λ ks. All (λ x. is_in ks x ≡ true) walk in
    let here : corner ≡ corner_at net (2 * e) = ec ∙ ap (λ ks. next_around net (is_in ks) (2 * e)) same in
    let inside = corner_inside net e first.inside first.aside in
    let around : IsCycleFrom (next_in_face net (is_kept net)) (corner_at net (2 * e)) face =
    subst P here (cycle_same (dart_count net) (next_in_face net (is_kept net)) (slice_index corners) _ corner face
    (face_permutes net (is_kept net)) next (omega (arith, here, inside)) cycle) in
    let way : IsPath net.graph (edge_at net.graph e).a walk (edge_at net.graph e).b = subst Q at path in
    record {
      inside = first.inside;
      aside = first.aside;
      face = around;
      drawn = face_drawn net (corner_at net (2 * e)) face inside (corner_kept net e first.inside first.aside) around;
      apart = face_apart net e face first.inside first.aside inside around;
      some = walk_some net e walk way;
      walk = way;
      kept = subst R same all;
    }
