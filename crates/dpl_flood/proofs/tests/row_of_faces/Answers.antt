use Rattle.std.proofs.Common.{arith, ◌≡◌, ℕ, zero, suc, ◌<◌, refl, sym, ap, ◌∙◌, subst, inl, List, [], ◌∷◌, length, get_or}
use Rattle.std.proofs.Math.Path.{subst₂}
use Rattle.std.specs.Prelude.{All, ◌%◌, ◌≤◌, ◌^◌}
use Rattle.dpl_dual.specs.declared.crosses.Cross.{Cross}
use Rattle.dpl_dual.specs.declared.crosses.Dual.{Dual}
use Rattle.dpl_dual.specs.Chains.{Leads, length_of}
use Rattle.dpl_flood.specs.Starts.{AreSeats}
use Rattle.dpl_flood.specs.States.{IsGround}
use Rattle.dpl_flood.proofs.tests.row_of_faces.Goals as goal

all_two : (P : ℕ → Type 0) (a b : ℕ) → P a → P b → All P (a ∷ b ∷ [])
all_two P a b p q zero e h = p
all_two P a b p q (suc zero) e h = q
all_two P a b p q (suc (suc j)) e h = absurd (omega (arith, h))

all_three : (P : Cross → Type 0) (a b c : Cross) → P a → P b → P c → All P (a ∷ b ∷ c ∷ [])
all_three P a b c p q r zero e h = p
all_three P a b c p q r (suc zero) e h = q
all_three P a b c p q r (suc (suc zero)) e h = r
all_three P a b c p q r (suc (suc (suc j))) e h = absurd (omega (arith, h))

row_ground : (d : Dual) (a b c : Cross) → d.crosses ≡ a ∷ b ∷ c ∷ [] → d.faces ≡ 4 → d.part ≡ 0 ∷ 0 ∷ 0 ∷ 0 ∷ []
    → (a.f ≡ 0) × (a.g ≡ 1) × (a.length ≡ 2) → (b.f ≡ 1) × (b.g ≡ 2) × (b.length ≡ 4) → (c.f ≡ 2) × (c.g ≡ 3) × (c.length ≡ 2)
    → IsGround d
row_ground d a b c is faces part p q r =
    let in_part : (f g : ℕ) → f < 4 → g < 4 → get_or d.part f 0 ≡ get_or d.part g 0 = λ f g hf hg.
    ap (λ z. get_or z f 0) part ∙ none f ∙ sym (ap (λ z. get_or z g 0) part ∙ none g) in
    record {
      inside = subst (All (λ (x : Cross). (x.f < d.faces) × (x.g < d.faces))) (sym is)
          (all_three (λ (x : Cross). (x.f < d.faces) × (x.g < d.faces)) a b c
          (omega (arith, p.0, faces), omega (arith, p.1, faces)) (omega (arith, q.0, faces), omega (arith, q.1, faces))
          (omega (arith, r.0, faces), omega (arith, r.1, faces)));
      part = subst (All (λ (x : Cross). get_or d.part x.f 0 ≡ get_or d.part x.g 0)) (sym is)
          (all_three (λ (x : Cross). get_or d.part x.f 0 ≡ get_or d.part x.g 0) a b c
          (in_part a.f a.g (omega (arith, p.0)) (omega (arith, p.1))) (in_part b.f b.g (omega (arith, q.0)) (omega (arith, q.1)))
          (in_part c.f c.g (omega (arith, r.0)) (omega (arith, r.1))));
      even = subst (All (λ (x : Cross). x.length % 2 ≡ 0)) (sym is) (all_three (λ (x : Cross). x.length % 2 ≡ 0) a b c
          (omega (arith, p.2)) (omega (arith, q.2)) (omega (arith, r.2)));
      short = subst (All (λ (x : Cross). x.length ≤ 2 ^ 50)) (sym is) (all_three (λ (x : Cross). x.length ≤ 2 ^ 50) a b c
          (omega (arith, p.2)) (omega (arith, q.2)) (omega (arith, r.2)));
      few = omega (arith, ap length is);
    }
  where
    none : (j : ℕ) → get_or {A = ℕ} (0 ∷ 0 ∷ 0 ∷ 0 ∷ []) j 0 ≡ 0
    none zero = refl
    none (suc zero) = refl
    none (suc (suc zero)) = refl
    none (suc (suc (suc zero))) = refl
    none (suc (suc (suc (suc j)))) = refl

row_seats : (d : Dual) (xs : List ℕ) → xs ≡ 0 ∷ 3 ∷ [] → d.faces ≡ 4 → d.part ≡ 0 ∷ 0 ∷ 0 ∷ 0 ∷ [] → AreSeats d xs
row_seats d xs is faces part =
    let first : get_or xs 0 0 ≡ 0 = ap (λ z. get_or z 0 0) is in
    let second : get_or xs 1 0 ≡ 3 = ap (λ z. get_or z 1 0) is in
    let at_first : get_or d.part 0 0 ≡ get_or d.part (get_or xs 0 0) 0 = ap (λ z. get_or d.part z 0) (sym first) in
    record {
      few = omega (arith, ap length is);
      inside = subst (All (λ g. g < d.faces)) (sym is) (all_two (λ g. g < d.faces) 0 3 (omega (arith, faces)) (omega (arith, faces)));
      part = subst (All (λ g. get_or d.part g 0 ≡ get_or d.part (get_or xs 0 0) 0)) (sym is)
          (all_two (λ g. get_or d.part g 0 ≡ get_or d.part (get_or xs 0 0) 0) 0 3 at_first
          (ap (λ z. get_or z 3 0) part ∙ sym (ap (λ z. get_or z 0 0) part) ∙ at_first));
      once = λ i j a b e.
          let i_is : i ≡ 0 = omega (arith, a, b, ap length is) in
          let j_is : j ≡ 1 = omega (arith, a, b, ap length is) in
          omega (arith, e, ap (λ z. get_or xs z 0) i_is, ap (λ z. get_or xs z 0) j_is, first, second);
    }

abbrev first_way : Cross
first_way = record { f = 0; g = 1; edge = 0; length = 2 }

abbrev second_way : Cross
second_way = record { f = 1; g = 2; edge = 1; length = 4 }

abbrev third_way : Cross
third_way = record { f = 2; g = 3; edge = 2; length = 2 }

abbrev three_ways : List Cross
three_ways = first_way ∷ second_way ∷ third_way ∷ []

-- they lead from the first face to the last
row_chain : (crosses : List Cross) (odd : List ℕ) → crosses ≡ three_ways → odd ≡ 0 ∷ 3 ∷ []
    → (xs : List Cross) × Leads crosses (get_or odd 0 0) xs (get_or odd 1 0) × (length_of xs ≤ 2 ^ 51)
row_chain crosses odd is ends =
    let leads : Leads three_ways 0 three_ways 3 =
    ((0, omega arith, refl), inl refl, ((1, omega arith, refl), inl refl, ((2, omega arith, refl), inl refl, refl))) in (
      three_ways,
      subst₂ (λ z e. Leads z (get_or e 0 0) three_ways (get_or e 1 0)) (sym is) (sym ends) leads,
      omega arith,
    )

pub returns-clause-ground : goal.returns-clause-ground
returns-clause-ground c = row_ground _ _ _ _ (c.new-crosses.ensures ∙ c.in_ok-from_slice.ensures.items) refl
    (c.new-part.ensures ∙ c.in_ok-from_slice-3.ensures.items) (refl, refl, refl) (refl, refl, refl) (refl, refl, refl)

pub returns-clause-seats : goal.returns-clause-seats
returns-clause-seats c = row_seats _ _ (c.new-odd.ensures ∙ c.in_ok-from_slice-2.ensures.items) refl
    (c.new-part.ensures ∙ c.in_ok-from_slice-3.ensures.items)

pub returns-clause-chain : goal.returns-clause-chain
returns-clause-chain c = row_chain _ _ (c.new-crosses.ensures ∙ c.in_ok-from_slice.ensures.items) (c.new-odd.ensures ∙ c.in_ok-from_slice-2.ensures.items)
