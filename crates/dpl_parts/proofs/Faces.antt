-- Which darts of a part lie on one face of the whole, and which nodes are joined there.
use Rattle.std.proofs.Common.{arith, ◌≡◌, ◌≢◌, ◌⊎◌, ℕ, zero, suc, ◌<◌, ◌==◌, refl, sym, ap, ◌∙◌, Bool, true, inl, inr, length, eq-eqb}
use Rattle.std.specs.Prelude.{if◌then◌else◌}
use Rattle.std.proofs.lemmas.Bool.{cases_eq, ne_eqb, cond-true, cond-false}
use Rattle.dpl_cycle.proofs.Least.{least_step, label_least}
use Rattle.dpl_sign.specs.declared.nets.Net.{Net}
use Rattle.dpl_sign.specs.Walks.{edge_at}
use Rattle.dpl_sign.specs.Drawings.{dart_count, next_in_face, face_of}
use Rattle.dpl_sign.specs.Components.{component_of}
use Rattle.dpl_sign.proofs.ComponentLemmas.{component_joined, component_label, start_below, end_below}
use Rattle.dpl_sign.proofs.Rotation.{face_back, face_permutes}
use Rattle.dpl_parts.specs.Parts.{IsPartOf, dart}
use Rattle.dpl_parts.proofs.Darts.{dart_below, dart_apart, face_same}

-- one more than the label of the number below n whose image this is, and 0 where there is none
abbrev pub seek : (ℕ → ℕ) → (ℕ → ℕ) → ℕ → ℕ → ℕ
seek image label zero y = 0
seek image label (suc n) y = if image n == y then suc (label n) else seek image label n y

pub seek_hit : (image label : ℕ → ℕ) (n x : ℕ) → ((a b : ℕ) → a < n → b < n → image a ≡ image b → a ≡ b) → x < n → seek image label n (image x) ≡ suc (label x)
seek_hit image label zero x one l = absurd (omega arith)
seek_hit image label (suc n) x one l = elim (cases_eq (image n) (image x)) [
  | inl e ↦ cond-true _ (suc (label n)) _ (eq-eqb (image n) (image x) e) ∙ ap (λ z. suc (label z)) (one n x (omega arith) l e)
  | inr e ↦ cond-false _ (suc (label n)) _ (ne_eqb (image n) (image x) e) ∙
      seek_hit image label n x (λ a b k m. one a b (omega arith) (omega arith))
      (elim (cases_eq x n) [ inl r ↦ absurd (e (ap image (sym r))) | inr r ↦ omega arith ])
]

pub seek_miss : (image label : ℕ → ℕ) (n y : ℕ) → ((x : ℕ) → x < n → image x ≢ y) → seek image label n y ≡ 0
seek_miss image label zero y none = refl
seek_miss image label (suc n) y none = cond-false _ (suc (label n)) _ (ne_eqb (image n) y (none n (omega arith))) ∙
    seek_miss image label n y (λ x l. none x (omega arith))

pub found : (image : ℕ → ℕ) (n y : ℕ) → ((x : ℕ) × (x < n) × (image x ≡ y)) ⊎ ((x : ℕ) → x < n → image x ≢ y)
found image zero y = inr (λ x l. absurd (omega arith))
found image (suc n) y = elim (cases_eq (image n) y) [
  | inl e ↦ inl (n, omega arith, e)
  | inr e ↦ elim (found image n y) [
    | inl k ↦ inl (k.0, omega (arith, k.1), k.2)
    | inr k ↦ inr (λ x l q. elim (cases_eq x n) [ inl r ↦ e (ap image (sym r) ∙ q) | inr r ↦ k x (omega arith) q ])
  ]
]

module _ (part whole : Net) (node edge : ℕ → ℕ) (h : IsPartOf part whole node edge) (p q : ℕ → Bool)
    (alike : (e : ℕ) → e < length part.graph.edges → q (edge e) ≡ p e) where
  -- what is on one face of the part is on one face of the whole
  pub face_there : (c d : ℕ) → c < dart_count part → d < dart_count part → face_of part p c ≡ face_of part p d →
      face_of whole q (dart edge c) ≡ face_of whole q (dart edge d)
  face_there c d l m e =
      let label : ℕ → ℕ = λ x. face_of whole q (dart edge x) in
      let along : (x : ℕ) → x < dart_count part → label (next_in_face part p x) ≡ label x =
      λ x k. ap (face_of whole q) (sym (face_same part whole node edge h p q alike x k)) ∙
      least_step (dart_count whole) (next_in_face whole q) (face_back whole q) (face_permutes whole q) (dart edge x)
      (dart_below part whole node edge h x k) in
      let all = label_least (dart_count part) (next_in_face part p) (face_back part p) (face_permutes part p) label along in
      sym (all c l) ∙ ap label e ∙ all d m

  one_dart : (a b : ℕ) → a < dart_count part → b < dart_count part → dart edge a ≡ dart edge b → a ≡ b
  one_dart = dart_apart part whole node edge h

  pub label_along : (y : ℕ) → y < dart_count whole → seek (dart edge) (face_of part p) (dart_count part)
      (next_in_face whole q y) ≡ seek (dart edge) (face_of part p) (dart_count part) y
  label_along y k =
      let n = dart_count part in
      let label : ℕ → ℕ = seek (dart edge) (face_of part p) n in
      let here = face_permutes part p in
      let there = face_permutes whole q in
      elim (found (dart edge) n y) [
        | inl (x, l, e) ↦
            let s = face_same part whole node edge h p q alike x l in
            let one : label (next_in_face whole q y) ≡ suc (face_of part p (next_in_face part p x)) =
            ap (λ z. label (next_in_face whole q z)) (sym e) ∙ ap label s ∙
            seek_hit (dart edge) (face_of part p) n (next_in_face part p x) one_dart (here.to x l) in
            let two : label y ≡ suc (face_of part p x) = ap label (sym e) ∙ seek_hit (dart edge) (face_of part p) n x one_dart l in
            one ∙ ap suc (least_step n (next_in_face part p) (face_back part p) here x l) ∙ sym two
        | inr none ↦
            let away : (x : ℕ) → x < n → dart edge x ≢ next_in_face whole q y = λ x l e.
            let z = face_back part p x in
            let low = here.from x l in
            let s : next_in_face whole q (dart edge z) ≡ next_in_face whole q y =
            face_same part whole node edge h p q alike z low ∙ ap (dart edge) (here.forth x l) ∙ e in
            none z low (sym (there.back (dart edge z) (dart_below part whole node edge h z low)) ∙ ap (face_back whole q) s ∙ there.back y k) in
            seek_miss (dart edge) (face_of part p) n (next_in_face whole q y) away ∙ sym (seek_miss (dart edge) (face_of part p) n y none)
      ]

  -- and the other way round
  pub face_here : (c d : ℕ) → c < dart_count part → d < dart_count part →
      face_of whole q (dart edge c) ≡ face_of whole q (dart edge d) → face_of part p c ≡ face_of part p d
  face_here c d l m e =
      let n = dart_count part in
      let label : ℕ → ℕ = seek (dart edge) (face_of part p) n in
      let all = label_least (dart_count whole) (next_in_face whole q) (face_back whole q) (face_permutes whole q) label label_along in
      let hit = λ (x : ℕ) (k : x < n). seek_hit (dart edge) (face_of part p) n x one_dart k in
      let s : suc (face_of part p c) ≡ suc (face_of part p d) = sym (hit c l) ∙
      sym (all (dart edge c) (dart_below part whole node edge h c l)) ∙ ap label e ∙
      all (dart edge d) (dart_below part whole node edge h d m) ∙ hit d m in
      omega arith

  -- ---- components

  pub joined_there : (u v : ℕ) → component_of part.graph p u ≡ component_of part.graph p v →
      component_of whole.graph q (node u) ≡ component_of whole.graph q (node v)
  joined_there u v e =
      let label : ℕ → ℕ = λ x. component_of whole.graph q (node x) in
      let all = component_label part.graph p label (λ x l t. ap (component_of whole.graph q) (sym (h.first x l)) ∙
      component_joined whole.graph q (edge x) (h.edges x l) (alike x l ∙ t) ∙
      ap (component_of whole.graph q) (h.second x l)) in
      sym (all u) ∙ ap label e ∙ all v

  pub one_label : (f : ℕ) → f < length whole.graph.edges → q f ≡ true →
      seek node (component_of part.graph p) part.graph.nodes (edge_at whole.graph f).a ≡ seek node
      (component_of part.graph p) part.graph.nodes (edge_at whole.graph f).b
  one_label f l t =
      let n = part.graph.nodes in
      let own = component_of part.graph p in
      let label : ℕ → ℕ = seek node own n in
      let a = (edge_at whole.graph f).a in
      let b = (edge_at whole.graph f).b in
      let inside : (e : ℕ) → e < length part.graph.edges → edge e ≡ f → label a ≡ label b = λ e k r.
      let x = (edge_at part.graph e).a in
      let y = (edge_at part.graph e).b in
      let ax : a ≡ node x = ap (λ z. (edge_at whole.graph z).a) (sym r) ∙ h.first e k in
      let by : b ≡ node y = ap (λ z. (edge_at whole.graph z).b) (sym r) ∙ h.second e k in
      let s = component_joined part.graph p e k (sym (alike e k) ∙ ap q r ∙ t) in
      ap label ax ∙ seek_hit node own n x h.apart (start_below part.graph e k) ∙ ap suc s ∙
      sym (seek_hit node own n y h.apart (end_below part.graph e k)) ∙ ap label (sym by) in
      elim (found node n a) [
        | inl (x, k, e) ↦ let c = h.closed f x l k (inl (sym e)) in inside c.0 c.1 c.2
        | inr none ↦ elim (found node n b) [
          | inl (x, k, e) ↦ let c = h.closed f x l k (inr (sym e)) in inside c.0 c.1 c.2
          | inr no_end ↦ seek_miss node own n a none ∙ sym (seek_miss node own n b no_end)
        ]
      ]

  pub joined_here : (u v : ℕ) → u < part.graph.nodes → v < part.graph.nodes →
      component_of whole.graph q (node u) ≡ component_of whole.graph q (node v) →
      component_of part.graph p u ≡ component_of part.graph p v
  joined_here u v l m e =
      let n = part.graph.nodes in
      let own = component_of part.graph p in
      let label : ℕ → ℕ = seek node own n in
      let all = component_label whole.graph q label one_label in
      let s : suc (own u) ≡ suc (own v) = sym (seek_hit node own n u h.apart l) ∙ sym (all (node u)) ∙ ap label e ∙
      all (node v) ∙ seek_hit node own n v h.apart m in
      omega arith
