-- A face of a part passes in the whole what it passes in the part.
use Rattle.std.proofs.Common.{arith, ◌≡◌, ◌↔◌, ◌≢◌, ℕ, suc, ◌/◌, ◌%◌, ◌<◌, ◌==◌, ◌&&◌, refl, sym, ap, ◌∙◌, Bool, inl, inr, length, eq-eqb}
use Rattle.std.specs.Prelude.{if◌then◌else◌}
use Rattle.std.proofs.lemmas.Bool.{cases_eq, cases_Bool, ne_eqb}
use Rattle.dpl_cycle.proofs.Least.{label_least}
use Rattle.dpl_sign.specs.declared.nets.Net.{Net}
use Rattle.dpl_sign.specs.Drawings.{is_in, dart_count, next_in_face, face_of}
use Rattle.dpl_sign.specs.Excess.{kept_edges}
use Rattle.dpl_sign.specs.Kinds.{is_clash}
use Rattle.dpl_sign.specs.Parity.{passages_on_face, is_clash_edge, is_odd_face}
use Rattle.dpl_sign.proofs.Rotation.{face_back, face_permutes}
use Rattle.dpl_sign.proofs.Loads.{sum_to_zero, sum_to_same}
use Rattle.dpl_parts.specs.Parts.{IsPartOf, dart, face_at}
use Rattle.dpl_parts.proofs.Kept.{keeps_alike}
use Rattle.dpl_parts.proofs.Darts.{dart_half, dart_below, dart_apart}
use Rattle.dpl_parts.proofs.Faces.{seek, seek_hit, seek_miss, label_along, face_there, face_here}
use Rattle.dpl_parts.proofs.Sums.{sums_to, sum_part}

module _ (part whole : Net) (node edge : ℕ → ℕ) (h : IsPartOf part whole node edge) (p q : ℕ → Bool)
    (alike : (e : ℕ) → e < length part.graph.edges → q (edge e) ≡ p e) where
  -- a dart on the face of a dart of the part is one of the part's
  pub not_away : (c y : ℕ) → c < dart_count part → y < dart_count whole →
      ((x : ℕ) → x < dart_count part → dart edge x ≢ y) → face_of whole q y ≢ face_of whole q (dart edge c)
  not_away c y l m none e =
      let n = dart_count part in
      let label : ℕ → ℕ = seek (dart edge) (face_of part p) n in
      let all = label_least (dart_count whole) (next_in_face whole q) (face_back whole q) (face_permutes whole q) label
      (label_along part whole node edge h p q alike) in
      let a : label (dart edge c) ≡ suc (face_of part p c) = seek_hit (dart edge) (face_of part p) n c (dart_apart part whole node edge h) l in
      let b : label y ≡ 0 = seek_miss (dart edge) (face_of part p) n y none in
      let s : label y ≡ label (dart edge c) = sym (all y m) ∙ ap label e ∙ all (dart edge c) (dart_below part whole node edge h c l) in
      omega (arith, a, b, s)

  pub dart_order : (c d : ℕ) → c < d → d < dart_count part → dart edge c < dart edge d
  dart_order c d l m = elim (cases_eq (c / 2) (d / 2)) [
    | inl e ↦ let s : edge (c / 2) ≡ edge (d / 2) = ap edge e in omega arith
    | inr e ↦ let s = h.order (c / 2) (d / 2) (omega arith) (omega arith) in omega arith
  ]

  pub passages_alike : (test test' : ℕ → Bool) → ((e : ℕ) → e < length part.graph.edges → test' (edge e) ≡ test e) → (c : ℕ) → c < dart_count part
      → passages_on_face whole q test' (face_of whole q (dart edge c)) ≡ passages_on_face part p test (face_of part p c)
  passages_alike test test' tests c l =
      let m = dart_count part in
      let n = dart_count whole in
      let f : ℕ → ℕ = λ d. if q (d / 2) && (face_of whole q d == face_of whole q (dart edge c)) && test' (d / 2) then 1 else 0 in
      let k : ℕ → ℕ = λ d. if p (d / 2) && (face_of part p d == face_of part p c) && test (d / 2) then 1 else 0 in
      let same : (d : ℕ) → d < n → ((x : ℕ) → x < m → dart edge x ≢ d) → f d ≡ 0 = λ d b none.
      let r = ne_eqb (face_of whole q d) (face_of whole q (dart edge c)) (not_away c d l b none) in
      elim (cases_Bool (q (d / 2))) [ inl t ↦ rw (t, r) refl | inr t ↦ rw t refl ] in
      let s = sum_part (dart edge) m n (record { inside = dart_below part whole node edge h; order = dart_order }) f (λ e. 0) same in
      let on : (d : ℕ) → d < m → f (dart edge d) ≡ k d = λ d b.
      let e = dart_half edge d in
      let t : q (dart edge d / 2) ≡ p (d / 2) = ap q e ∙ alike (d / 2) (omega arith) in
      let u : test' (dart edge d / 2) ≡ test (d / 2) = ap test' e ∙ tests (d / 2) (omega arith) in
      let v : (face_of whole q (dart edge d) == face_of whole q (dart edge c)) ≡ (face_of part p d == face_of part p c)
      = elim (cases_eq (face_of part p d) (face_of part p c)) [
        | inl r ↦ eq-eqb _ _ (face_there part whole node edge h p q alike d c b l r) ∙ sym (eq-eqb _ _ r)
        | inr r ↦ ne_eqb _ _ (λ w. r (face_here part whole node edge h p q alike d c b l w)) ∙ sym (ne_eqb _ _ r)
      ] in
      rw (t, u, v) refl in
      let a = sums_to (λ d. q (d / 2) && (face_of whole q d == face_of whole q (dart edge c)) && test' (d / 2)) (λ x. 1) n in
      let b = sums_to (λ d. p (d / 2) && (face_of part p d == face_of part p c) && test (d / 2)) (λ x. 1) m in
      let w = sum_to_same (λ d. f (dart edge d)) k m on in
      let z = sum_to_zero n in
      let y = sum_to_zero m in
      omega (arith, s, a, b, w, z, y)

  -- so it is odd there where it is odd in the part
  pub odd_alike : (c : ℕ) → c < dart_count part → is_odd_face whole q (face_of whole q (dart edge c)) ≡ is_odd_face part p (face_of part p c)
  odd_alike c l = ap (λ z. z % 2 == 1) (passages_alike (is_clash_edge part) (is_clash_edge whole) (λ e k. ap is_clash (h.kind e k)) c l)

-- ---- of the kept edges

pub faces_alike : (part whole : Net) (node edge : ℕ → ℕ) → IsPartOf part whole node edge → (c d : ℕ)
    → c < dart_count part → d < dart_count part
    → face_at whole (dart edge c) ≡ face_at whole (dart edge d) ↔ face_at part c ≡ face_at part d
faces_alike part whole node edge h c d l m =
    let p = is_in (kept_edges part) in
    let q = is_in (kept_edges whole) in
    let alike = keeps_alike part whole node edge h in
    (face_here part whole node edge h p q alike c d l m, face_there part whole node edge h p q alike c d l m)

pub odd_faces_alike : (part whole : Net) (node edge : ℕ → ℕ) → IsPartOf part whole node edge → (c : ℕ)
    → c < dart_count part
    → is_odd_face whole (is_in (kept_edges whole)) (face_at whole (dart edge c)) ≡ is_odd_face part (is_in (kept_edges part)) (face_at part c)
odd_faces_alike part whole node edge h c l = odd_alike part whole node edge h (is_in (kept_edges part))
    (is_in (kept_edges whole)) (keeps_alike part whole node edge h) c l
