-- Faces that neighbours link in a part they link in the whole, and no others.
use Rattle.std.proofs.Common.{arith, ◌≡◌, ℕ, ◌+◌, ◌*◌, ◌/◌, ◌<◌, refl, sym, ap, ◌∙◌, Bool, true, inl, inr, List, [], ◌∷◌, length, map, subst}
use Rattle.dpl_cycle.proofs.Least.{least_step, label_least}
use Rattle.dpl_sign.specs.declared.nets.Net.{Net}
use Rattle.dpl_sign.specs.Drawings.{is_in, dart_count, next_in_face, face_of}
use Rattle.dpl_sign.specs.Excess.{kept_edges}
use Rattle.dpl_sign.specs.Parity.{Separates, AreAdjacentFaces, IsFacePath, AreOfOnePart, is_crossable}
use Rattle.dpl_sign.proofs.OddCounts.{face_twice}
use Rattle.dpl_sign.proofs.Rotation.{face_back, face_permutes, face_below}
use Rattle.dpl_parts.specs.Parts.{IsPartOf, dart, face_at, AreOfOneKeptPart}
use Rattle.dpl_parts.proofs.Darts.{dart_first, dart_second}
use Rattle.dpl_parts.proofs.Faces.{found, face_there, face_here}
use Rattle.dpl_parts.proofs.Kept.{keeps_alike}
use Rattle.dpl_parts.proofs.Counted.{not_away}

module _ (part whole : Net) (node edge : ℕ → ℕ) (h : IsPartOf part whole node edge) (p q : ℕ → Bool)
    (alike : (e : ℕ) → e < length part.graph.edges → q (edge e) ≡ p e) where
  pub up_is : (c : ℕ) → c < dart_count part → face_of whole q (dart edge (face_of part p c)) ≡ face_of whole q (dart edge c)
  up_is c l = face_there part whole node edge h p q alike (face_of part p c) c (face_below part p c l) l (face_twice part p c l)

  first_up : (e f : ℕ) → e < length part.graph.edges → face_of part p (2 * e) ≡ f → face_of whole q (2 * edge e) ≡ face_of whole q (dart edge f)
  first_up e f l r = ap (face_of whole q) (sym (dart_first edge e)) ∙ sym (up_is (2 * e) (omega arith)) ∙ ap (λ z. face_of whole q (dart edge z)) r

  second_up : (e f : ℕ) → e < length part.graph.edges → face_of part p (2 * e + 1) ≡ f → face_of whole q (2 * edge e + 1) ≡ face_of whole q (dart edge f)
  second_up e f l r = ap (face_of whole q) (sym (dart_second edge e)) ∙ sym (up_is (2 * e + 1) (omega arith)) ∙ ap (λ z. face_of whole q (dart edge z)) r

  crossable_alike : (e : ℕ) → e < length part.graph.edges → is_crossable whole q (edge e) ≡ is_crossable part p e
  crossable_alike e l = let a = alike e l in let k = h.kind e l in rw (a, k) refl

  neighbours_there : (f g : ℕ) → AreAdjacentFaces part p f g → AreAdjacentFaces whole q (face_of whole q (dart edge f)) (face_of whole q (dart edge g))
  neighbours_there f g (e, s) = (
    edge e,
    record {
      edge = h.edges e s.edge;
      crossable = crossable_alike e s.edge ∙ s.crossable;
      sides = elim s.sides [
        | inl (a, b) ↦ inl (first_up e f s.edge a, second_up e g s.edge b)
        | inr (a, b) ↦ inr (first_up e g s.edge a, second_up e f s.edge b)
      ];
    },
  )

  path_there : (f : ℕ) (hs : List ℕ) (g : ℕ) → IsFacePath part p f hs g →
      IsFacePath whole q (face_of whole q (dart edge f)) (map (λ z. face_of whole q (dart edge z)) hs)
      (face_of whole q (dart edge g))
  path_there f [] g r = ap (λ z. face_of whole q (dart edge z)) r
  path_there f (k ∷ hs) g (n, r) = (neighbours_there f k n, path_there k hs g r)

  pub one_part_there : (f g : ℕ) → AreOfOnePart part p f g → AreOfOnePart whole q (face_of whole q (dart edge f)) (face_of whole q (dart edge g))
  one_part_there f g (hs, r) = (map (λ z. face_of whole q (dart edge z)) hs, path_there f hs g r)

  -- ---- back

  pub from_dart : (f y : ℕ) → f < dart_count part → y < dart_count whole →
      face_of whole q y ≡ face_of whole q (dart edge f) → (x : ℕ) × (x < dart_count part) × (dart edge x ≡ y)
  from_dart f y l m r = elim (found (dart edge) (dart_count part) y)
      [ inl k ↦ k | inr none ↦ absurd (not_away part whole node edge h p q alike f y l m none r) ]

  -- the face of the part over the other side of an edge
  step_first : (f k d : ℕ) → f < dart_count part → face_of part p f ≡ f → d < length whole.graph.edges →
      is_crossable whole q d ≡ true → face_of whole q (2 * d) ≡ face_of whole q (dart edge f) →
      face_of whole q (2 * d + 1) ≡ k
      → (g : ℕ) × (g < dart_count part) × (face_of part p g ≡ g) × AreAdjacentFaces part p f g × (face_of whole q (dart edge g) ≡ k)
  step_first f k d l name low cross a b =
      let (x, lx, rx) = from_dart f (2 * d) l (omega arith) a in
      let e = x / 2 in
      let same : edge e ≡ d = omega arith in
      let in_part : e < length part.graph.edges = omega arith in
      let one : dart edge (2 * e) ≡ 2 * d = let t = dart_first edge e in omega arith in
      let two : dart edge (2 * e + 1) ≡ 2 * d + 1 = let t = dart_second edge e in omega arith in
      let here : face_of part p (2 * e) ≡ f = face_here part whole node edge h p q alike (2 * e) f (omega arith) l (ap (face_of whole q) one ∙ a) ∙ name in
      let g = face_of part p (2 * e + 1) in (
        g,
        face_below part p (2 * e + 1) (omega arith),
        face_twice part p (2 * e + 1) (omega arith),
        (
          e,
          record {
            edge = in_part;
            crossable = sym (crossable_alike e in_part) ∙ ap (is_crossable whole q) same ∙ cross;
            sides = inl (here, refl);
          },
        ),
        up_is (2 * e + 1) (omega arith) ∙ ap (face_of whole q) two ∙ b,
      )

  step_second : (f k d : ℕ) → f < dart_count part → face_of part p f ≡ f → d < length whole.graph.edges →
      is_crossable whole q d ≡ true → face_of whole q (2 * d) ≡ k →
      face_of whole q (2 * d + 1) ≡ face_of whole q (dart edge f)
      → (g : ℕ) × (g < dart_count part) × (face_of part p g ≡ g) × AreAdjacentFaces part p f g × (face_of whole q (dart edge g) ≡ k)
  step_second f k d l name low cross a b =
      let (x, lx, rx) = from_dart f (2 * d + 1) l (omega arith) b in
      let e = x / 2 in
      let same : edge e ≡ d = omega arith in
      let in_part : e < length part.graph.edges = omega arith in
      let one : dart edge (2 * e) ≡ 2 * d = let t = dart_first edge e in omega arith in
      let two : dart edge (2 * e + 1) ≡ 2 * d + 1 = let t = dart_second edge e in omega arith in
      let here : face_of part p (2 * e + 1) ≡ f = face_here part whole node edge h p q alike (2 * e + 1) f (omega arith)
      l (ap (face_of whole q) two ∙ b) ∙ name in
      let g = face_of part p (2 * e) in (
        g,
        face_below part p (2 * e) (omega arith),
        face_twice part p (2 * e) (omega arith),
        (
          e,
          record {
            edge = in_part;
            crossable = sym (crossable_alike e in_part) ∙ ap (is_crossable whole q) same ∙ cross;
            sides = inr (refl, here);
          },
        ),
        up_is (2 * e) (omega arith) ∙ ap (face_of whole q) one ∙ a,
      )

  one_step : (f k d : ℕ) → f < dart_count part → face_of part p f ≡ f → Separates whole q d (face_of whole q (dart edge f)) k
      → (g : ℕ) × (g < dart_count part) × (face_of part p g ≡ g) × AreAdjacentFaces part p f g × (face_of whole q (dart edge g) ≡ k)
  one_step f k d l name s = elim s.sides [
    | inl (a, b) ↦ step_first f k d l name s.edge s.crossable a b
    | inr (a, b) ↦ step_second f k d l name s.edge s.crossable a b
  ]

  path_back : (hs : List ℕ) (f k : ℕ) → f < dart_count part → face_of part p f ≡ f → IsFacePath whole q (face_of whole q (dart edge f)) hs k
      → (g : ℕ) × (g < dart_count part) × (face_of part p g ≡ g) × AreOfOnePart part p f g × (face_of whole q (dart edge g) ≡ k)
  path_back [] f k l name r = (f, l, name, ([], refl), r)
  path_back (j ∷ hs) f k l name ((d, s), r) =
      let (g, lg, ng, near, at) = one_step f j d l name s in
      let (z, lz, nz, way, there) = path_back hs g k lg ng (subst (λ y. IsFacePath whole q y hs k) (sym at) r) in
      (z, lz, nz, (g ∷ way.0, (near, way.1)), there)

pub links_alike : (part whole : Net) (node edge : ℕ → ℕ) → IsPartOf part whole node edge → (f g : ℕ)
    → AreOfOneKeptPart part f g
    → AreOfOneKeptPart whole (face_at whole (dart edge f)) (face_at whole (dart edge g))
links_alike part whole node edge h f g r = one_part_there part whole node edge h (is_in (kept_edges part))
    (is_in (kept_edges whole)) (keeps_alike part whole node edge h) f g r

pub links_stay : (part whole : Net) (node edge : ℕ → ℕ) → IsPartOf part whole node edge → (f k : ℕ)
    → f < dart_count part → face_at part f ≡ f → AreOfOneKeptPart whole (face_at whole (dart edge f)) k
    → (g : ℕ) × (g < dart_count part) × (face_at part g ≡ g) × AreOfOneKeptPart part f g × (face_at whole (dart edge g) ≡ k)
links_stay part whole node edge h f k l name r = path_back part whole node edge h (is_in (kept_edges part))
    (is_in (kept_edges whole)) (keeps_alike part whole node edge h) r.0 f k l name r.1
