-- The load of an edge, by the walks that pass it.
use Rattle.std.proofs.Common.{arith, ◌≡◌, ℕ, ◌+◌, ◌*◌, ◌==◌, cond, inl, inr, List, [], ◌∷◌, map, refl, eq-eqb}
use Rattle.std.specs.Prelude.{sum_by, count_by}
use Rattle.std.proofs.lemmas.List.Sums.{sum_by-cons}
use Rattle.std.proofs.lemmas.Bool.{ne_eqb, cases_eq, cond-true, cond-false}
use Rattle.dpl_sign.specs.declared.walks.Cycle.{Cycle}
use Rattle.dpl_sign.specs.Packings.{load, passages, passages_of}
use Rattle.dpl_sign.proofs.Loads.{at, at_same, at_other, load_cons, load_append}

once_more : (h n : ℕ) → h * (1 + n) ≡ h + h * n
once_more h n = omega arith

walk_load : (h : ℕ) (es : List ℕ) (e : ℕ) → load (map (λ x. (x, h)) es) e ≡ h * count_by (λ x. x == e) es
walk_load h [] e = omega arith
walk_load h (x ∷ es) e =
    let n : ℕ = count_by (λ y. y == e) es in
    let c : count_by (λ y. y == e) (x ∷ es) ≡ cond (x == e) 1 0 + n = sum_by-cons (λ y. cond (y == e) 1 0) x es in
    let l : load (map (λ y. (y, h)) (x ∷ es)) e ≡ at x h e + load (map (λ y. (y, h)) es) e = load_cons (x, h) (map (λ y. (y, h)) es) e in
    let rest : load (map (λ y. (y, h)) es) e ≡ h * n = walk_load h es e in
    elim (cases_eq x e) [
      | inl t ↦
          let one : count_by (λ y. y == e) (x ∷ es) ≡ 1 + n =
          (let z : cond (x == e) 1 0 ≡ 1 = cond-true {A = ℕ} (x == e) 1 0 (eq-eqb x e t) in omega (arith, c, z)) in
          rw one (omega (arith, l, rest, at_same x h e t, once_more h n))
      | inr t ↦
          let none : count_by (λ y. y == e) (x ∷ es) ≡ n =
          (let z : cond (x == e) 1 0 ≡ 0 = cond-false {A = ℕ} (x == e) 1 0 (ne_eqb x e t) in omega (arith, c, z)) in
          rw none (omega (arith, l, rest, at_other x h e t))
    ]

-- the load of an edge is the sum of half weights, each as often as its walk passes the edge
pub loads_counted : (cs : List Cycle) (e : ℕ) → load (passages cs) e ≡ sum_by (λ c. c.half * count_by (λ x. x == e) c.walk.edges) cs
loads_counted [] e = refl
loads_counted (c ∷ cs) e =
    let first : load (passages_of c) e ≡ c.half * count_by (λ x. x == e) c.walk.edges = walk_load c.half c.walk.edges e in
    let split : load (passages (c ∷ cs)) e ≡ load (passages_of c) e + load (passages cs) e = load_append (passages_of c) (passages cs) e in
    omega (arith, split, first, loads_counted cs e, sum_by-cons (λ (z : Cycle). z.half * count_by (λ x. x == e) z.walk.edges) c cs)
