-- The whole keeps the edges of a part that the part keeps by itself.
use Rattle.std.proofs.Common.{arith, ◌≡◌, ℕ, zero, suc, ◌+◌, ◌*◌, ◌<◌, sym, ap, ◌∙◌, Bool, true, false, not, inl, inr, length, subst}
use Rattle.std.proofs.lemmas.Bool.{cases_lt, cases_eq, cases_Bool, both_ways, false_from_ne_true}
use Rattle.dpl_sign.specs.declared.nets.Net.{Net}
use Rattle.dpl_sign.specs.Drawings.{is_in, dart_count, next_around, face_of}
use Rattle.dpl_sign.specs.Components.{component_of}
use Rattle.dpl_sign.specs.Excess.{raises_excess, kept_before, kept_edges, AreEndsJoined, LiesInFace}
use Rattle.dpl_sign.proofs.ComponentLemmas.{start_below, end_below}
use Rattle.dpl_sign.proofs.ExcessLemmas.{raises_from, raises_joined, raises_far, kept_length}
use Rattle.dpl_sign.proofs.KeptLemmas.{kept_at, kept_inside}
use Rattle.dpl_parts.specs.Parts.{IsPartOf, dart}
use Rattle.dpl_parts.proofs.Darts.{dart_first, dart_second, around_same, around_below}
use Rattle.dpl_parts.proofs.Faces.{face_there, face_here, joined_there, joined_here}

-- the whole keeps an edge of the part where the part by itself keeps it
abbrev pub KeepsAlike : Net → Net → (ℕ → ℕ) → Type 0
KeepsAlike part whole edge = (e : ℕ) → e < length part.graph.edges →
    is_in (kept_edges whole) (edge e) ≡ is_in (kept_edges part) e

-- ---- when the next edge is set aside

raises_crosses : (net : Net) (e : ℕ) → e < length net.graph.edges
    → raises_excess net (kept_before net e) ≡ true
    → AreEndsJoined net (is_in (kept_before net e)) e × (LiesInFace net (is_in (kept_before net e)) e → ⊥)
raises_crosses net e l r =
    let kept = kept_before net e in
    let size : length kept ≡ e = kept_length net e in
    let low : length kept < length net.graph.edges = omega arith in (
      subst (AreEndsJoined net (is_in kept)) size (raises_joined net kept low r),
      λ f. raises_far net kept low r (subst (LiesInFace net (is_in kept)) (sym size) f),
    )

crosses_raises : (net : Net) (e : ℕ) → e < length net.graph.edges
    → AreEndsJoined net (is_in (kept_before net e)) e → (LiesInFace net (is_in (kept_before net e)) e → ⊥)
    → raises_excess net (kept_before net e) ≡ true
crosses_raises net e l j far =
    let kept = kept_before net e in
    let size : length kept ≡ e = kept_length net e in
    let low : length kept < length net.graph.edges = omega arith in
    raises_from net kept low (subst (AreEndsJoined net (is_in kept)) (sym size) j) (λ f. far (subst (LiesInFace net (is_in kept)) size f))

module _ (part whole : Net) (node edge : ℕ → ℕ) (h : IsPartOf part whole node edge) where
  module _ (p q : ℕ → Bool) (alike : (e : ℕ) → e < length part.graph.edges → q (edge e) ≡ p e) where
    ends_there : (e : ℕ) → e < length part.graph.edges → AreEndsJoined part p e → AreEndsJoined whole q (edge e)
    ends_there e l j = ap (component_of whole.graph q) (h.first e l) ∙
        joined_there part whole node edge h p q alike _ _ j ∙ ap (component_of whole.graph q) (sym (h.second e l))

    ends_here : (e : ℕ) → e < length part.graph.edges → AreEndsJoined whole q (edge e) → AreEndsJoined part p e
    ends_here e l j = joined_here part whole node edge h p q alike _ _ (start_below part.graph e l)
        (end_below part.graph e l) (ap (component_of whole.graph q) (sym (h.first e l)) ∙ j ∙
        ap (component_of whole.graph q) (h.second e l))

    corner_first : (e : ℕ) → e < length part.graph.edges → next_around whole q (2 * edge e) ≡ dart edge (next_around part p (2 * e))
    corner_first e l = ap (next_around whole q) (sym (dart_first edge e)) ∙ around_same part whole node edge h p q alike (2 * e) (omega arith)

    corner_second : (e : ℕ) → e < length part.graph.edges → next_around whole q (2 * edge e + 1) ≡ dart edge (next_around part p (2 * e + 1))
    corner_second e l = ap (next_around whole q) (sym (dart_second edge e)) ∙ around_same part whole node edge h p q alike (2 * e + 1) (omega arith)

    low : (d : ℕ) → d < dart_count part → next_around part p d < dart_count part
    low = around_below part whole node edge h p q alike

    lies_there : (e : ℕ) → e < length part.graph.edges → LiesInFace part p e → LiesInFace whole q (edge e)
    lies_there e l f = ap (face_of whole q) (corner_first e l) ∙
        face_there part whole node edge h p q alike _ _ (low (2 * e) (omega arith)) (low (2 * e + 1) (omega arith)) f ∙
        ap (face_of whole q) (sym (corner_second e l))

    lies_here : (e : ℕ) → e < length part.graph.edges → LiesInFace whole q (edge e) → LiesInFace part p e
    lies_here e l f = face_here part whole node edge h p q alike _ _ (low (2 * e) (omega arith))
        (low (2 * e + 1) (omega arith)) (ap (face_of whole q) (sym (corner_first e l)) ∙ f ∙
        ap (face_of whole q) (corner_second e l))

  -- the same edges are set aside, up to any one
  raise_alike : (k e : ℕ) → e < k → e < length part.graph.edges → raises_excess whole (kept_before whole (edge e)) ≡ raises_excess part (kept_before part e)
  raise_alike zero e s l = absurd (omega arith)
  raise_alike (suc k) e s l =
      let p = is_in (kept_before part e) in
      let q = is_in (kept_before whole (edge e)) in
      let alike : (x : ℕ) → x < length part.graph.edges → q (edge x) ≡ p x = λ x m. elim (cases_lt x e) [
        | inl r ↦ kept_at whole (edge e) (edge x) (h.order x e r l) ∙ ap not (raise_alike k x (omega arith) m) ∙ sym (kept_at part e x r)
        | inr r ↦
            let first : q (edge x) ≡ false = false_from_ne_true _
            (λ t. let i = kept_inside whole (edge e) (edge x) t in
            elim (cases_eq x e) [
              | inl z ↦ let w : edge x ≡ edge e = ap edge z in omega arith
              | inr z ↦ let w =
                  h.order e x (omega arith) m in omega arith
            ]) in
            let second : p x ≡ false = false_from_ne_true _ (λ t. let i = kept_inside part e x t in omega arith) in
            first ∙ sym second
      ] in
      let m = h.edges e l in
      elim (cases_Bool (raises_excess part (kept_before part e))) [
        | inl t ↦
            let (j, far) = raises_crosses part e l t in
            crosses_raises whole (edge e) m (ends_there p q alike e l j) (λ f. far (lies_here p q alike e l f)) ∙ sym t
        | inr t ↦ false_from_ne_true _ (λ r.
            let (j, far) = raises_crosses whole (edge e) m r in
            both_ways _ t (crosses_raises part e l (ends_here p q alike e l j) (λ f. far (lies_there p q alike e l f)))) ∙ sym t
      ]

pub keeps_alike : (part whole : Net) (node edge : ℕ → ℕ) → IsPartOf part whole node edge → KeepsAlike part whole edge
keeps_alike part whole node edge h e l =
    kept_at whole (length whole.graph.edges) (edge e) (h.edges e l) ∙
    ap not (raise_alike part whole node edge h (suc e) e (omega arith) l) ∙
    sym (kept_at part (length part.graph.edges) e l)
