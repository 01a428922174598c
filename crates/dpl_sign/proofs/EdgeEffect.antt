-- What one edge more does to the faces and the components, by its cases.
use Rattle.std.proofs.Common.{arith, ◌≡◌, ◌≢◌, ℕ, ◌+◌, ◌*◌, ◌/◌, ◌<◌, ◌==◌, refl, sym, ap, ◌∙◌, Bool, true, false, cond, inl, inr, length, eq-eqb}
use Rattle.std.proofs.lemmas.Bool.{cases_eq, cases_Bool, cond-true, cond-false, ne_eqb}
use Rattle.dpl_cycle.specs.Cycles.{cycles}
use Rattle.dpl_cycle.specs.Among.{cycles_among, members, others_count}
use Rattle.dpl_cycle.proofs.AmongLemmas.{cycles_members}
use Rattle.dpl_cycle.proofs.MemberLemmas.{others_less, count_more}
use Rattle.dpl_sign.specs.declared.nets.Net.{Net}
use Rattle.dpl_sign.specs.Walks.{edge_at}
use Rattle.dpl_sign.specs.Drawings.{tail_of, twin_of, dart_count, next_around, next_in_face, is_bare, face_count}
use Rattle.dpl_sign.specs.Components.{component_of, component_count}
use Rattle.dpl_sign.specs.Excess.{edge_count, AreEndsJoined, LiesInFace}
use Rattle.dpl_sign.proofs.DartLemmas.{first_half, second_half, first_tail, second_tail, twin_first, twin_twin}
use Rattle.dpl_sign.proofs.Rotation.{face_permutes, face_out, next_member, around_set, around_tail}
use Rattle.dpl_sign.proofs.Insert.{IsOneMore, IsBetween, between}
use Rattle.dpl_sign.proofs.FaceSteps.{AreNew, NoneAt, turned_new}
use Rattle.dpl_sign.proofs.FaceCounts.{both_bare, one_bare, none_bare}
use Rattle.dpl_sign.proofs.ComponentLemmas.{components_join, components_stay, bare_component, face_component}
use Rattle.dpl_sign.proofs.BareLemmas.{has_dart, bare_edges, bare_darts, bare_none, bare_first, bare_second, bare_both}

-- ---- the darts of the new edge

-- the two darts of the edge that is new
pub news : (net : Net) (p q : ℕ → Bool) (e : ℕ) → IsOneMore net p q e → AreNew net p q e (2 * e) (2 * e + 1)
news net p q e k = record {
  first = record { more = k; inside = omega (arith, k.inside); half = first_half e };
  second = record { more = k; inside = omega (arith, k.inside); half = second_half e };
  twin = sym (twin_first e);
  back = sym (twin_twin (2 * e)) ∙ ap twin_of (twin_first e);
}

-- the set of darts with one dart more
put : (ℕ → Bool) → ℕ → ℕ → Bool
put p c z = cond (z == c) true (p z)

put_here : (p : ℕ → Bool) (c z : ℕ) → z ≡ c → put p c z ≡ true
unfolding put
put_here p c z h = cond-true (z == c) true (p z) (eq-eqb z c h)

put_other : (p : ℕ → Bool) (c z : ℕ) → z ≢ c → put p c z ≡ p z
unfolding put
put_other p c z h = cond-false (z == c) true (p z) (ne_eqb z c h)

-- the cycles of the face rule through the set
abbrev face_cycles : Net → (ℕ → Bool) → ℕ
face_cycles net p = cycles_among (next_in_face net p) (members (λ d. p (d / 2)) (dart_count net))

others_two : (net : Net) (p q : ℕ → Bool) (e : ℕ) → IsOneMore net p q e
    → others_count (λ d. q (d / 2)) (dart_count net) + 2 ≡ others_count (λ d. p (d / 2)) (dart_count net)
others_two net p q e k =
    let n = dart_count net in
    let old : ℕ → Bool = λ d. p (d / 2) in
    let new : ℕ → Bool = λ d. q (d / 2) in
    let c = 2 * e in
    let d = 2 * e + 1 in
    let mid = put old c in
    let one = others_less n old mid c (omega (arith, k.inside)) (ap p (first_half e) ∙ k.out) (put_here old c c refl) (λ z h ne. sym (put_other old c z ne)) in
    let two = others_less n mid new d (omega (arith, k.inside))
    (put_other old c d (λ r. omega (arith, r)) ∙ ap p (second_half e) ∙ k.out) (ap q (second_half e) ∙ k.chosen)
    (λ z h ne. elim (cases_eq z c) [
      | inl r ↦ put_here old c z r ∙ sym (ap (λ x. q (x / 2)) r ∙ ap q (first_half e) ∙ k.chosen)
      | inr r ↦ put_other old c z r ∙ k.same (z / 2) (omega arith) (λ s. omega (arith, s))
    ]) in
    omega (arith, one, two)

cycles_split : (net : Net) (p : ℕ → Bool) → cycles (next_in_face net p) (dart_count net) ≡ face_cycles net p + others_count (λ d. p (d / 2)) (dart_count net)
cycles_split net p = cycles_members (dart_count net) (λ d. p (d / 2)) _ _ (face_permutes net p) (λ x h t. face_out net p x t)

-- ---- the cases

-- what one edge more does to faces and components: it joins components, splits a face, or leads between two faces
pub record Effect (net : Net) (p q : ℕ → Bool) (e : ℕ) : Type 0 where
  pub joins : (AreEndsJoined net p e → ⊥) → (face_count net q + 1 ≡ face_count net p) × (component_count net.graph q + 1 ≡ component_count net.graph p)
  pub splits : AreEndsJoined net p e → LiesInFace net p e → (face_count net q ≡ face_count net p + 1) ×
      (component_count net.graph q ≡ component_count net.graph p)
  pub crosses : AreEndsJoined net p e → (LiesInFace net p e → ⊥) → (face_count net q + 1 ≡ face_count net p) ×
      (component_count net.graph q ≡ component_count net.graph p)

-- the ends are of two components
apart_effect : (net : Net) (p q : ℕ → Bool) (e : ℕ) → IsOneMore net p q e → (AreEndsJoined net p e → ⊥)
    → face_count net q + 1 ≡ face_count net p → Effect net p q e
apart_effect net p q e k ne faces = record {
  joins = λ h. (faces, components_join net p q e k ne);
  splits = λ h r. absurd (ne h);
  crosses = λ h r. absurd (ne h);
}

-- where the first end of an edge is bare, the set does not join its ends
pub first_apart : (net : Net) (p : ℕ → Bool) (e : ℕ) → is_bare net.graph p (edge_at net.graph e).a ≡ true → AreEndsJoined net p e → ⊥
first_apart net p e bare h =
    let same : (edge_at net.graph e).b ≡ (edge_at net.graph e).a =
    bare_component net.graph p _ _ (λ x l t. (λ r. bare_edges net.graph p _ bare x l t (inl r), λ r. bare_edges net.graph p _ bare x l t (inr r))) (sym h) in
    omega (arith, same, (edge_at net.graph e).ordered)

-- the same where the second end is bare
pub second_apart : (net : Net) (p : ℕ → Bool) (e : ℕ) → is_bare net.graph p (edge_at net.graph e).b ≡ true → AreEndsJoined net p e → ⊥
second_apart net p e bare h =
    let same : (edge_at net.graph e).a ≡ (edge_at net.graph e).b =
    bare_component net.graph p _ _ (λ x l t. (λ r. bare_edges net.graph p _ bare x l t (inl r), λ r. bare_edges net.graph p _ bare x l t (inr r))) h in
    omega (arith, same, (edge_at net.graph e).ordered)

-- no dart of the set leaves the first end where it is bare
pub none_first : (net : Net) (p : ℕ → Bool) (e : ℕ) → is_bare net.graph p (edge_at net.graph e).a ≡ true → NoneAt net p (2 * e)
none_first net p e bare = λ y h t. bare_darts net p _ bare y h (t ∙ first_tail net.graph e)

-- no dart of the set leaves the second end where it is bare
pub none_second : (net : Net) (p : ℕ → Bool) (e : ℕ) → is_bare net.graph p (edge_at net.graph e).b ≡ true → NoneAt net p (2 * e + 1)
none_second net p e bare = λ y h t. bare_darts net p _ bare y h (t ∙ second_tail net.graph e)

-- where the first end is not bare, the new dart there comes after a dart of the set
pub between_first : (net : Net) (p q : ℕ → Bool) (e : ℕ) → IsOneMore net p q e → is_bare net.graph p (edge_at net.graph e).a ≡ false → IsBetween net p q (2 * e)
between_first net p q e k h =
    let d = has_dart net p _ h in
    between net p q e (2 * e) d.dart (news net p q e k).first d.set (d.tail ∙ sym (first_tail net.graph e))

-- where the second end is not bare, the new dart there comes after a dart of the set
pub between_second : (net : Net) (p q : ℕ → Bool) (e : ℕ) → IsOneMore net p q e
    → is_bare net.graph p (edge_at net.graph e).b ≡ false → IsBetween net p q (2 * e + 1)
between_second net p q e k h =
    let d = has_dart net p _ h in
    between net p q e (2 * e + 1) d.dart (news net p q e k).second d.set (d.tail ∙ sym (second_tail net.graph e))

-- the first dart at a corner leaves the same node
pub record AtCorner (net : Net) (p : ℕ → Bool) (c : ℕ) : Type 0 where
  pub inside : next_around net p c < dart_count net
  pub tail : tail_of net.graph (next_around net p c) ≡ tail_of net.graph c

-- the dart of the set that comes next after the new dart leaves the same node
pub at_corner : (net : Net) (p q : ℕ → Bool) (c : ℕ) → IsBetween net p q c → AtCorner net p c
at_corner net p q c b =
    let m = next_member net p _ _ b.prev_in b.prev_tail in
    record { inside = omega (arith, b.corner, (around_set net p _ _ m).inside); tail = ap (tail_of net.graph) b.corner ∙ around_tail net p _ _ m }

-- corners on one face are of one component
face_joined : (net : Net) (p q : ℕ → Bool) (e : ℕ) → IsBetween net p q (2 * e) → IsBetween net p q (2 * e + 1) → LiesInFace net p e → AreEndsJoined net p e
face_joined net p q e bc bd h =
    let g = net.graph in
    let c = at_corner net p q (2 * e) bc in
    let d = at_corner net p q (2 * e + 1) bd in
    let same = face_component net p (next_around net p (2 * e)) (next_around net p (2 * e + 1)) c.inside d.inside h in
    ap (component_of g p) (sym (c.tail ∙ first_tail g e)) ∙ same ∙ ap (component_of g p) (d.tail ∙ second_tail g e)

both_used : (net : Net) (p q : ℕ → Bool) (e : ℕ) → IsOneMore net p q e
    → is_bare net.graph p (edge_at net.graph e).a ≡ false
    → is_bare net.graph p (edge_at net.graph e).b ≡ false → Effect net p q e
both_used net p q e k ha hb =
    let n = news net p q e k in
    let bc = between_first net p q e k ha in
    let bd = between_second net p q e k hb in
    let meets = none_bare net p q e (2 * e) (2 * e + 1) n bc bd in
    let bare = bare_none net p q e k ha hb in
    let others = others_two net p q e k in
    let one = cycles_split net p in
    let two = cycles_split net q in
    let less : (LiesInFace net p e → ⊥) → face_count net q + 1 ≡ face_count net p = λ r. omega (arith, meets.merges r, bare, others, one, two) in
    record {
      joins = λ h. (less (λ r. h (face_joined net p q e bc bd r)), components_join net p q e k h);
      splits = λ h r. (omega (arith, meets.splits r, bare, others, one, two), components_stay net p q e k h);
      crosses = λ h r. (less r, components_stay net p q e k h);
    }

-- one edge more has that effect
pub effect : (net : Net) (p q : ℕ → Bool) (e : ℕ) → IsOneMore net p q e → Effect net p q e
effect net p q e k =
    let n = news net p q e k in
    let others = others_two net p q e k in
    let one = cycles_split net p in
    let two = cycles_split net q in
    elim (cases_Bool (is_bare net.graph p (edge_at net.graph e).a)) [
      | inl ha ↦ elim (cases_Bool (is_bare net.graph p (edge_at net.graph e).b)) [
        | inl hb ↦
            let count = both_bare net p q e (2 * e) (2 * e + 1) n (none_first net p e ha) (none_second net p e hb) in
            apart_effect net p q e k (first_apart net p e ha) (omega (arith, count, bare_both net p q e k ha hb, others, one, two))
        | inr hb ↦
            let count = one_bare net p q e (2 * e + 1) (2 * e) (turned_new net p q e _ _ n) (between_second net p q e k hb) (none_first net p e ha) in
            apart_effect net p q e k (first_apart net p e ha) (omega (arith, count, bare_first net p q e k ha hb, others, one, two))
      ]
      | inr ha ↦ elim (cases_Bool (is_bare net.graph p (edge_at net.graph e).b)) [
        | inl hb ↦
            let count = one_bare net p q e (2 * e) (2 * e + 1) n (between_first net p q e k ha) (none_second net p e hb) in
            apart_effect net p q e k (second_apart net p e hb) (omega (arith, count, bare_second net p q e k ha hb, others, one, two))
        | inr hb ↦ both_used net p q e k ha hb
      ]
    ]

-- one edge more raises the number of edges by 1
pub edges_more : (net : Net) (p q : ℕ → Bool) (e : ℕ) → IsOneMore net p q e → edge_count net q ≡ edge_count net p + 1
edges_more net p q e k = count_more (length net.graph.edges) p q e k.inside k.out k.chosen k.same
