-- Darts and their twins.
use Rattle.std.proofs.Common.{arith, ◌≡◌, ◌≢◌, ℕ, suc, ◌+◌, ◌-◌, ◌*◌, ◌/◌, ◌%◌, ◌<◌, refl, sym, ap, ◌∙◌, inl, inr, ◌⊎◌, eq-eqb}
use Rattle.std.proofs.lemmas.Bool.{ne_eqb, cases_eq}
use Rattle.dpl_sign.specs.declared.graphs.Signed.{Signed}
use Rattle.dpl_sign.specs.Walks.{edge_at}
use Rattle.dpl_sign.specs.Drawings.{tail_of, twin_of}

-- the twin of an even dart is the next number
pub twin_even : (d : ℕ) → d % 2 ≡ 0 → twin_of d ≡ d + 1
twin_even d h = rw (eq-eqb (d % 2) 0 h, twin_of)

-- the twin of an odd dart is the number before it
pub twin_odd : (d : ℕ) → d % 2 ≢ 0 → twin_of d ≡ d - 1
twin_odd d h = rw (ne_eqb (d % 2) 0 h, twin_of)

-- a dart as one of the two of its edge
pub dart_cases : (d : ℕ) → ((d ≡ 2 * (d / 2)) × (twin_of d ≡ suc (2 * (d / 2)))) ⊎ ((d ≡ suc (2 * (d / 2))) × (twin_of d ≡ 2 * (d / 2)))
dart_cases d = elim (cases_eq (d % 2) 0) [ inl h ↦ inl (omega arith, omega (arith, twin_even d h)) | inr h ↦ inr (omega arith, omega (arith, twin_odd d h)) ]

-- a dart and its twin are of one edge
pub twin_half : (d : ℕ) → twin_of d / 2 ≡ d / 2
twin_half d = elim (dart_cases d) [ inl h ↦ omega (arith, h.0, h.1) | inr h ↦ omega (arith, h.0, h.1) ]

-- the twin of a dart of n edges is one of them too
pub twin_below : (d n : ℕ) → d < 2 * n → twin_of d < 2 * n
twin_below d n l = elim (dart_cases d) [ inl h ↦ omega (arith, h.0, h.1) | inr h ↦ omega (arith, h.0, h.1) ]

-- the twin of the twin is the dart itself
pub twin_twin : (d : ℕ) → twin_of (twin_of d) ≡ d
twin_twin d = elim (cases_eq (d % 2) 0) [
  | inl h ↦
      let e = twin_even d h in
      omega (arith, e, twin_odd (twin_of d) (λ q. omega (arith, e)))
  | inr h ↦
      let e = twin_odd d h in
      omega (arith, e, twin_even (twin_of d) (omega (arith, e)))
]

-- the twin of the first dart of an edge is its second
pub twin_first : (e : ℕ) → twin_of (2 * e) ≡ 2 * e + 1
twin_first e = twin_even (2 * e) (omega arith)

-- an even dart leaves the first end of its edge
pub tail_first : (g : Signed) (d : ℕ) → d % 2 ≡ 0 → tail_of g d ≡ (edge_at g (d / 2)).a
tail_first g d h = rw (eq-eqb (d % 2) 0 h, tail_of)

-- an odd dart leaves the second end of its edge
pub tail_second : (g : Signed) (d : ℕ) → d % 2 ≢ 0 → tail_of g d ≡ (edge_at g (d / 2)).b
tail_second g d h = rw (ne_eqb (d % 2) 0 h, tail_of)

-- the first dart of an edge is of that edge
pub first_half : (e : ℕ) → (2 * e) / 2 ≡ e
first_half e = omega arith

-- the second dart of an edge is of that edge
pub second_half : (e : ℕ) → (2 * e + 1) / 2 ≡ e
second_half e = omega arith

-- the first dart of an edge leaves its first end
pub first_tail : (g : Signed) (e : ℕ) → tail_of g (2 * e) ≡ (edge_at g e).a
first_tail g e = tail_first g (2 * e) (omega arith) ∙ ap (λ k. (edge_at g k).a) (first_half e)

-- the second dart of an edge leaves its second end
pub second_tail : (g : Signed) (e : ℕ) → tail_of g (2 * e + 1) ≡ (edge_at g e).b
second_tail g e = tail_second g (2 * e + 1) (λ q. omega arith) ∙ ap (λ k. (edge_at g k).b) (second_half e)

-- the two darts of an edge
pub of_edge : (d e : ℕ) → d / 2 ≡ e → (d ≡ 2 * e) ⊎ (d ≡ 2 * e + 1)
of_edge d e h = elim (cases_eq (d % 2) 0) [ inl q ↦ inl (omega (arith, h)) | inr q ↦ inr (omega (arith, h)) ]

-- they leave two nodes
pub tails_apart : (g : Signed) (d c : ℕ) → d / 2 ≡ c / 2 → tail_of g d ≡ tail_of g c → d ≡ c
tails_apart g d c h t =
    let e = c / 2 in
    let order : (edge_at g e).a < (edge_at g e).b = (edge_at g e).ordered in
    elim (of_edge d e h) [
      | inl p ↦ elim (of_edge c e refl) [
        | inl q ↦ p ∙ sym q
        | inr q ↦ absurd (omega (arith, ap (tail_of g) p, first_tail g e, ap (tail_of g) q, second_tail g e, t, order))
      ]
      | inr p ↦ elim (of_edge c e refl) [
        | inl q ↦ absurd (omega (arith, ap (tail_of g) p, second_tail g e, ap (tail_of g) q, first_tail g e, t, order))
        | inr q ↦ p ∙ sym q
      ]
    ]
