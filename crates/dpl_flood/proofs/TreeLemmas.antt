-- A tree in which each number is the lesser of the two below it: its root is the least, and what a number that is set anew asks for.
use Rattle.std.proofs.Common.{arith, ◌≡◌, ℕ, zero, suc, ◌+◌, ◌*◌, ◌<◌, ◌≤◌, min, refl, sym, ap}
use Rattle.std.proofs.Common.{subst, inl, inr, ◌⊎◌}
use Rattle.std.proofs.lemmas.Bool.{cases_eq}
use Rattle.dpl_flood.specs.Queues.{IsLeast, IsLeastBut, IsSet}

-- a number is twice another one, or one more
halves : (j : ℕ) → (h : ℕ) × ((j ≡ 2 * h) ⊎ (j ≡ 2 * h + 1))
halves zero = (0, inl refl)
halves (suc j) =
    let a = halves j in
    elim a.1 [
      | inl e ↦ (a.0, inr (omega (arith, e)))
      | inr e ↦ (a.0 + 1, inl (omega (arith, e)))
    ]

-- the root is at most each number, counted from below by a bound
root_by : (bound count : ℕ) (x : ℕ → ℕ) → IsLeast count x → (j : ℕ) → j < bound → 0 < j → j < 2 * count → x 1 ≤ x j
root_by zero count x p j lb h1 h2 = absurd (omega (arith, lb))
root_by (suc b) count x p j lb h1 h2 = elim (cases_eq j 1) [
  | inl e ↦ omega (arith, ap x e)
  | inr ne ↦
      let a = halves j in
      let h = a.0 in
      let low : 0 < h = elim a.1 [ inl e ↦ omega (arith, e, h1) | inr e ↦ omega (arith, e, ne, h1) ] in
      let up : h < count = elim a.1 [ inl e ↦ omega (arith, e, h2) | inr e ↦ omega (arith, e, h2) ] in
      let less : h < b = elim a.1 [ inl e ↦ omega (arith, e, lb, low) | inr e ↦ omega (arith, e, lb, low) ] in
      let above : x 1 ≤ x h = root_by b count x p h less low (omega (arith, up)) in
      let is = p h low up in
      elim a.1 [
        | inl e ↦ omega (arith, above, is, ap x e)
        | inr e ↦ omega (arith, above, is, ap x e)
      ]
]

-- the root is at most the key of each place
pub root_least : (count : ℕ) (x : ℕ → ℕ) → IsLeast count x → (i : ℕ) → i < count → x 1 ≤ x (count + i)
root_least count x p i h = root_by (count + i + 1) count x p (count + i) (omega arith) (omega (arith, h)) (omega (arith, h))

-- A key was set: all is well but at the number above. (2 * h or 2 * h + 1 is where it stands.)
pub set_below : (count : ℕ) (x y : ℕ → ℕ) (k h : ℕ) → IsLeast count x → IsSet x y k → count ≤ k → (k ≡ 2 * h) ⊎ (k ≡ 2 * h + 1) → IsLeastBut count y h
set_below count x y k h p s leaf e j j1 jc ne =
    let own : y j ≡ x j = s.others j (omega (arith, leaf, jc)) in
    let left : y (2 * j) ≡ x (2 * j) = s.others (2 * j) (elim e [ inl q ↦ omega (arith, q, ne) | inr q ↦ omega (arith, q, ne) ]) in
    let right : y (2 * j + 1) ≡ x (2 * j + 1) = s.others (2 * j + 1) (elim e [ inl q ↦ omega (arith, q, ne) | inr q ↦ omega (arith, q, ne) ]) in
    omega (arith, p j j1 jc, own, left, right)

-- where the number above is right already, all is well
pub climbed : (count : ℕ) (x : ℕ → ℕ) (h : ℕ) → IsLeastBut count x h → x h ≡ min (x (2 * h)) (x (2 * h + 1)) → IsLeast count x
climbed count x h p e j j1 jc = elim (cases_eq j h) [
  | inl q ↦ subst (λ z. x z ≡ min (x (2 * z)) (x (2 * z + 1))) (sym q) e
  | inr ne ↦ p j j1 jc ne
]

-- otherwise it is set, and all is well but at the next one above
pub climbs : (count : ℕ) (x y : ℕ → ℕ) (h up : ℕ) → IsLeastBut count x h → IsSet x y h → 0 < h → h < count → y h ≡ min (x (2 * h)) (x (2 * h + 1))
    → (h ≡ 2 * up) ⊎ (h ≡ 2 * up + 1) → IsLeastBut count y up
climbs count x y h up p s h1 hc is e j j1 jc ne = elim (cases_eq j h) [
  | inl q ↦
      let left : y (2 * h) ≡ x (2 * h) = s.others (2 * h) (omega (arith, h1)) in
      let right : y (2 * h + 1) ≡ x (2 * h + 1) = s.others (2 * h + 1) (omega (arith, h1)) in
      subst (λ z. y z ≡ min (y (2 * z)) (y (2 * z + 1))) (sym q) (omega (arith, is, left, right))
  | inr n ↦
      let own : y j ≡ x j = s.others j n in
      let left : y (2 * j) ≡ x (2 * j) = s.others (2 * j) (elim e [ inl q ↦ omega (arith, q, ne) | inr q ↦ omega (arith, q, ne) ]) in
      let right : y (2 * j + 1) ≡ x (2 * j + 1) = s.others (2 * j + 1) (elim e [ inl q ↦ omega (arith, q, ne) | inr q ↦ omega (arith, q, ne) ]) in
      omega (arith, p j j1 jc n, own, left, right)
]

-- at the root nothing stands above
pub climbed_all : (count : ℕ) (x : ℕ → ℕ) → IsLeastBut count x 0 → IsLeast count x
climbed_all count x p j j1 jc = p j j1 jc (omega (arith, j1))
