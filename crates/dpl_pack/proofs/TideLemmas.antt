-- How far points are apart while the tops grow and fall.
use Rattle.std.proofs.Common.{arith, ◌≡◌, ◌≢◌, ℕ, ◌+◌, ◌-◌, ◌*◌, ◌<◌, ◌≤◌, ◌==◌, ◌&&◌, min, refl, sym, ap, ◌∙◌}
use Rattle.std.proofs.Common.{true, cond, inl, inr, ◌⊎◌, eq-eqb, None}
use Rattle.std.proofs.lemmas.Bool.{cases_eq, cases_Bool, cond-true, cond-false, ne_eqb, and_parts, true≢false}
use Rattle.dpl_laminar.specs.Families.{Sets, IsFamily}
use Rattle.dpl_laminar.proofs.Sums.{sum_same, sum_added, sum_zero}
use Rattle.dpl_laminar.proofs.Numbers.{cases_Option}
use Rattle.dpl_laminar.proofs.Released.{child_misses}
use Rattle.dpl_pack.specs.Nests.{inner_of, comes_before}
use Rattle.dpl_pack.specs.Depths.{gap}
use Rattle.dpl_pack.specs.Points.{Point, water, on, depth_in, apart}
use Rattle.dpl_pack.specs.Tides.{with_values, AreTurned, place_of, share, Stays}
use Rattle.dpl_pack.proofs.NestLemmas.{value_in, is_inside, before_self, before_either, before_within, holds_live}

-- ---- a top is the outermost set of its members

-- another set that holds a member comes before its top
pub top_last : (f : Sets) → IsFamily f → (t k : ℕ) → t < f.size → k < 2 * f.size → f.holds k t ≡ true → k ≢ f.top t
    → comes_before f (f.top t) k ≡ true → ⊥
top_last f p t k ht hk h ne b =
    let top = f.top t in
    let range = p.laminar.tops.top_range t ht in
    let here = p.laminar.tops.top_holds t ht in
    let live : f.live k ≡ true = elim (cases_Bool (f.live k)) [ inl y ↦ y | inr y ↦ absurd (holds_live f p k t hk ht y h) ] in
    elim (cases_Option (f.parent k)) [
      | inl n ↦ ne (sym (p.laminar.tops.top_alone k t hk ht n h))
      | inr s ↦
          let q = p.laminar.children.parent_range k s.0 hk live s.1 in
          let x = child_misses f.size f p.laminar s.0 k q.0 q.1 q.2 q.3 in
          let held = p.laminar.children.child_holds s.0 k t q.1 ht q.3 h in
          let same : f.top x.0 ≡ top = p.laminar.tops.top_shared s.0 x.0 t q.1 x.1 ht x.2 held in
          let mine : f.holds top x.0 ≡ true = ap (λ z. f.holds z x.0) (sym same) ∙ p.laminar.tops.top_holds x.0 x.1 in
          true≢false (sym (before_within f p top k t range hk ht here h b x.0 x.1 mine) ∙ x.3)
    ]

-- a set that holds a member and is not its top has a parent
has_parent : (f : Sets) → IsFamily f → (t k : ℕ) → t < f.size → k < 2 * f.size → f.holds k t ≡ true → k ≢ f.top t
    → f.parent k ≡ None → ⊥
has_parent f p t k ht hk h ne n = ne (sym (p.laminar.tops.top_alone k t hk ht n h))

-- its value rests
rests : (f : Sets) (gain loss v : ℕ → ℕ) → IsFamily f → AreTurned f gain loss v → (t k : ℕ) → t < f.size → k < 2 * f.size
    → f.holds k t ≡ true → k ≢ f.top t → v k ≡ f.value k
rests f gain loss v p w t k ht hk h ne =
    let none : (x : ℕ → ℕ) → (x k ≡ 0) ⊎ (f.parent k ≡ None) → x k ≡ 0 = λ x c. elim c as (λ _. x k ≡ 0) [
      | inl z ↦ z
      | inr n ↦ absurd (has_parent f p t k ht hk h ne n)
    ] in
    omega (arith, w.each k hk, none gain (w.gains k hk), none loss (w.losses k hk))

-- what is inside a set rests as well
pub inner_rests : (f : Sets) (gain loss v : ℕ → ℕ) → IsFamily f → AreTurned f gain loss v → (t k : ℕ) → t < f.size
    → k < 2 * f.size → f.holds k t ≡ true → inner_of (with_values f v) k t ≡ inner_of f k t
inner_rests f gain loss v p w t k ht hk h = sum_same (2 * f.size)
    (λ j. cond (comes_before f j k && f.holds j t) (v j) 0) (λ j. cond (comes_before f j k && f.holds j t) (f.value j) 0)
    (λ j hj. elim (cases_Bool (comes_before f j k && f.holds j t)) [
      | inr y ↦ cond-false (comes_before f j k && f.holds j t) (v j) 0 y ∙ sym (cond-false (comes_before f j k && f.holds j t) (f.value j) 0 y)
      | inl y ↦
          let b = and_parts (comes_before f j k) (f.holds j t) y in
          let ne : j ≢ f.top t = λ e. elim (cases_eq k (f.top t)) [
            | inl q ↦ true≢false (sym b.0 ∙ ap (λ z. comes_before f z k) (e ∙ sym q) ∙ before_self f k)
            | inr q ↦ top_last f p t k ht hk h q (ap (λ z. comes_before f z k) (sym e) ∙ b.0)
          ] in
          ap (λ z. cond (comes_before f j k && f.holds j t) z 0) (rests f gain loss v p w t j ht hj b.1 ne)
    ])

-- ---- one point

-- in a set other than its own top a point is not, or it and the set rest
pub record Turns (f : Sets) (v : ℕ → ℕ) (p : Point) (k : ℕ) : Type 0 where
  pub is : ((depth_in (with_values f v) p k ≡ v k) × (depth_in f p k ≡ f.value k)) ⊎
      ((v k ≡ f.value k) × (depth_in (with_values f v) p k ≡ depth_in f p k))

-- in its own top it lies as deep as before
pub record Holds (f : Sets) (v : ℕ → ℕ) (p : Point) (k : ℕ) : Type 0 where
  pub same : depth_in (with_values f v) p k ≡ depth_in f p k
  pub before : depth_in f p k ≤ f.value k
  pub after : depth_in f p k ≤ v k

turns : (f : Sets) (gain loss v : ℕ → ℕ) → IsFamily f → AreTurned f gain loss v → (p : Point) → Stays f v p → (k : ℕ)
    → k < 2 * f.size → place_of f p ≢ k → Turns f v p k
turns f gain loss v fam w water s k hk ne = record { is = inl (refl, refl) }
turns f gain loss v fam w (on t far) s k hk ne =
    let a = s.0 in
    let g = with_values f v in
    elim (cases_Bool (f.holds k t)) [
      | inr y ↦ record {
        is = inl (
          cond-false {A = ℕ} (f.holds k t) (min (v k) (far - inner_of g k t)) (v k) y,
          cond-false {A = ℕ} (f.holds k t) (min (f.value k) (far - inner_of f k t)) (f.value k) y,
        );
      }
      | inl y ↦
          let same = rests f gain loss v fam w t k a.member hk y (λ e. ne (sym e)) in
          let inner = inner_rests f gain loss v fam w t k a.member hk y in
          record {
            is = inr (
              same,
              omega (
                arith,
                cond-true {A = ℕ} (f.holds k t) (min (v k) (far - inner_of g k t)) (v k) y,
                cond-true {A = ℕ} (f.holds k t) (min (f.value k) (far - inner_of f k t)) (f.value k) y,
                same,
                inner,
              ),
            );
          }
    ]

holds : (f : Sets) (gain loss v : ℕ → ℕ) → IsFamily f → AreTurned f gain loss v → (p : Point) → Stays f v p
    → place_of f p < 2 * f.size → Holds f v p (place_of f p)
holds f gain loss v fam w water s hk = absurd (omega (arith, hk))
holds f gain loss v fam w (on t far) s hk =
    let a = s.0 in
    let b = s.1 in
    let g = with_values f v in
    let k = f.top t in
    let y = fam.laminar.tops.top_holds t a.member in
    let inner = inner_rests f gain loss v fam w t k a.member hk y in
    let new = cond-true {A = ℕ} (f.holds k t) (min (v k) (far - inner_of g k t)) (v k) y in
    let old = cond-true {A = ℕ} (f.holds k t) (min (f.value k) (far - inner_of f k t)) (f.value k) y in
    record {
      same = omega (arith, new, old, inner, a.reached, b.reached);
      before = omega (arith, old);
      after = omega (arith, old, b.reached);
    }

-- ---- two points

-- in each set two points on one top are as far apart as before
pub record Gap (f : Sets) (gain loss v : ℕ → ℕ) (p q : Point) (k : ℕ) : Type 0 where
  pub is : gap (depth_in (with_values f v) p k) (depth_in (with_values f v) q k) +
      (cond (place_of f p == k) (loss k) 0 + cond (place_of f q == k) (loss k) 0)
      ≡ gap (depth_in f p k) (depth_in f q k) + (cond (place_of f p == k) (gain k) 0 + cond (place_of f q == k) (gain k) 0)

gap_of : (f : Sets) (gain loss v : ℕ → ℕ) → IsFamily f → AreTurned f gain loss v → (p q : Point) → Stays f v p
    → Stays f v q → place_of f p ≢ place_of f q → (k : ℕ) → k < 2 * f.size → Gap f gain loss v p q k
gap_of f gain loss v fam w p q sp sq ne k hk = elim (cases_eq (place_of f p) k) [
  | inl e ↦
      let h = holds f gain loss v fam w p sp (omega (arith, e, hk)) in
      let other : place_of f q ≢ k = λ x. ne (e ∙ sym x) in
      let out = turns f gain loss v fam w q sq k hk other in
      let same = ap (depth_in (with_values f v) p) (sym e) ∙ h.same ∙ ap (depth_in f p) e in
      record {
        is = elim out.is [
          | inl o ↦ omega (
            arith,
            w.each k hk,
            same,
            h.before,
            h.after,
            ap (depth_in f p) e,
            ap f.value e,
            ap v e,
            o.0,
            o.1,
            cond-true {A = ℕ} (place_of f p == k) (loss k) 0 (eq-eqb (place_of f p) k e),
            cond-true {A = ℕ} (place_of f p == k) (gain k) 0 (eq-eqb (place_of f p) k e),
            cond-false {A = ℕ} (place_of f q == k) (loss k) 0 (ne_eqb (place_of f q) k other),
            cond-false {A = ℕ} (place_of f q == k) (gain k) 0 (ne_eqb (place_of f q) k other),
          )
          | inr o ↦ omega (
            arith,
            w.each k hk,
            same,
            o.0,
            o.1,
            cond-true {A = ℕ} (place_of f p == k) (loss k) 0 (eq-eqb (place_of f p) k e),
            cond-true {A = ℕ} (place_of f p == k) (gain k) 0 (eq-eqb (place_of f p) k e),
            cond-false {A = ℕ} (place_of f q == k) (loss k) 0 (ne_eqb (place_of f q) k other),
            cond-false {A = ℕ} (place_of f q == k) (gain k) 0 (ne_eqb (place_of f q) k other),
          )
        ];
      }
  | inr np ↦ elim (cases_eq (place_of f q) k) [
    | inl e ↦
        let h = holds f gain loss v fam w q sq (omega (arith, e, hk)) in
        let out = turns f gain loss v fam w p sp k hk np in
        let same = ap (depth_in (with_values f v) q) (sym e) ∙ h.same ∙ ap (depth_in f q) e in
        record {
          is = elim out.is [
            | inl o ↦ omega (
              arith,
              w.each k hk,
              same,
              h.before,
              h.after,
              ap (depth_in f q) e,
              ap f.value e,
              ap v e,
              o.0,
              o.1,
              cond-true {A = ℕ} (place_of f q == k) (loss k) 0 (eq-eqb (place_of f q) k e),
              cond-true {A = ℕ} (place_of f q == k) (gain k) 0 (eq-eqb (place_of f q) k e),
              cond-false {A = ℕ} (place_of f p == k) (loss k) 0 (ne_eqb (place_of f p) k np),
              cond-false {A = ℕ} (place_of f p == k) (gain k) 0 (ne_eqb (place_of f p) k np),
            )
            | inr o ↦ omega (
              arith,
              w.each k hk,
              same,
              o.0,
              o.1,
              cond-true {A = ℕ} (place_of f q == k) (loss k) 0 (eq-eqb (place_of f q) k e),
              cond-true {A = ℕ} (place_of f q == k) (gain k) 0 (eq-eqb (place_of f q) k e),
              cond-false {A = ℕ} (place_of f p == k) (loss k) 0 (ne_eqb (place_of f p) k np),
              cond-false {A = ℕ} (place_of f p == k) (gain k) 0 (ne_eqb (place_of f p) k np),
            )
          ];
        }
    | inr nq ↦
        let a = turns f gain loss v fam w p sp k hk np in
        let b = turns f gain loss v fam w q sq k hk nq in
        let z0 = cond-false {A = ℕ} (place_of f p == k) (loss k) 0 (ne_eqb (place_of f p) k np) in
        let z1 = cond-false {A = ℕ} (place_of f p == k) (gain k) 0 (ne_eqb (place_of f p) k np) in
        let z2 = cond-false {A = ℕ} (place_of f q == k) (loss k) 0 (ne_eqb (place_of f q) k nq) in
        let z3 = cond-false {A = ℕ} (place_of f q == k) (gain k) 0 (ne_eqb (place_of f q) k nq) in
        record {
          is = elim a.is [
            | inl x ↦ elim b.is [ inl y ↦ omega (arith, z0, z1, z2, z3, x.0, x.1, y.0, y.1) | inr y ↦ omega (arith, z0, z1, z2, z3, x.0, x.1, y.0, y.1) ]
            | inr x ↦ elim b.is [ inl y ↦ omega (arith, z0, z1, z2, z3, x.0, x.1, y.0, y.1) | inr y ↦ omega (arith, z0, z1, z2, z3, x.0, x.1, y.0, y.1) ]
          ];
        }
  ]
]

-- the points of different tops move apart by what the tops gain, and together by what they lose
pub turned_apart : (f : Sets) (gain loss v : ℕ → ℕ) → IsFamily f → AreTurned f gain loss v → (p q : Point) → Stays f v p
    → Stays f v q → place_of f p ≢ place_of f q
    → apart (with_values f v) p q + (share f loss (place_of f p) + share f loss (place_of f q))
    ≡ apart f p q + (share f gain (place_of f p) + share f gain (place_of f q))
turned_apart f gain loss v fam w p q sp sq ne =
    let new : ℕ → ℕ = λ k. gap (depth_in (with_values f v) p k) (depth_in (with_values f v) q k) in
    let old : ℕ → ℕ = λ k. gap (depth_in f p k) (depth_in f q k) in
    let pl : ℕ → ℕ = λ k. cond (place_of f p == k) (loss k) 0 in
    let ql : ℕ → ℕ = λ k. cond (place_of f q == k) (loss k) 0 in
    let pg : ℕ → ℕ = λ k. cond (place_of f p == k) (gain k) 0 in
    let qg : ℕ → ℕ = λ k. cond (place_of f q == k) (gain k) 0 in
    omega (
      arith,
      sum_same (2 * f.size) (λ k. new k + (pl k + ql k)) (λ k. old k + (pg k + qg k))
          (λ k hk. (gap_of f gain loss v fam w p q sp sq ne k hk).is),
      sum_added (2 * f.size) new (λ k. pl k + ql k),
      sum_added (2 * f.size) pl ql,
      sum_added (2 * f.size) old (λ k. pg k + qg k),
      sum_added (2 * f.size) pg qg,
    )

same_gap : (f : Sets) (gain loss v : ℕ → ℕ) → IsFamily f → AreTurned f gain loss v → (p q : Point) → Stays f v p
    → Stays f v q → place_of f p ≡ place_of f q → (k : ℕ) → k < 2 * f.size
    → gap (depth_in (with_values f v) p k) (depth_in (with_values f v) q k) ≡ gap (depth_in f p k) (depth_in f q k)
same_gap f gain loss v fam w p q sp sq same k hk = elim (cases_eq (place_of f p) k) [
  | inl e ↦
      let e' : place_of f q ≡ k = sym same ∙ e in
      let hp = holds f gain loss v fam w p sp (omega (arith, e, hk)) in
      let hq = holds f gain loss v fam w q sq (omega (arith, e', hk)) in
      let ip = ap (depth_in (with_values f v) p) (sym e) ∙ hp.same ∙ ap (depth_in f p) e in
      let iq = ap (depth_in (with_values f v) q) (sym e') ∙ hq.same ∙ ap (depth_in f q) e' in
      omega (arith, ip, iq)
  | inr ne ↦
      let a = turns f gain loss v fam w p sp k hk ne in
      let b = turns f gain loss v fam w q sq k hk (λ x. ne (same ∙ x)) in
      elim a.is [
        | inl x ↦ elim b.is [ inl y ↦ omega (arith, x.0, x.1, y.0, y.1) | inr y ↦ omega (arith, x.0, x.1, y.0, y.1) ]
        | inr x ↦ elim b.is [ inl y ↦ omega (arith, x.0, x.1, y.0, y.1) | inr y ↦ omega (arith, x.0, x.1, y.0, y.1) ]
      ]
]

-- the points of one top stay as far apart as they were
pub turned_together : (f : Sets) (gain loss v : ℕ → ℕ) → IsFamily f → AreTurned f gain loss v → (p q : Point) → Stays f v p
    → Stays f v q → place_of f p ≡ place_of f q → apart (with_values f v) p q ≡ apart f p q
turned_together f gain loss v fam w p q sp sq same = sum_same (2 * f.size)
    (λ k. gap (depth_in (with_values f v) p k) (depth_in (with_values f v) q k)) (λ k. gap (depth_in f p k) (depth_in f q k))
    (λ k hk. same_gap f gain loss v fam w p q sp sq same k hk)

-- a way that has room for what its tops gain is not overloaded by the turn
pub turned_way : (f : Sets) (gain loss v : ℕ → ℕ) → IsFamily f → AreTurned f gain loss v → (p q : Point) (l : ℕ) → Stays f v p
    → Stays f v q → apart f p q ≤ l
    → (place_of f p ≢ place_of f q → apart f p q + (share f gain (place_of f p) + share f gain (place_of f q))
    ≤ l + (share f loss (place_of f p) + share f loss (place_of f q)))
    → apart (with_values f v) p q ≤ l
turned_way f gain loss v fam w p q l sp sq within room = elim (cases_eq (place_of f p) (place_of f q)) [
  | inl same ↦ omega (arith, within, turned_together f gain loss v fam w p q sp sq same)
  | inr ne ↦ omega (arith, room ne, turned_apart f gain loss v fam w p q sp sq ne)
]

-- ---- the shore

-- where a top ends there is open water: what a growing top takes, and what a falling one leaves, does not move
pub shore_is_water : (f : Sets) → IsFamily f → (t far : ℕ) → t < f.size → far ≡ inner_of f (f.top t) t + f.value (f.top t)
    → apart f (on t far) water ≡ 0
shore_is_water f fam t far ht e = sum_same (2 * f.size) (λ k. gap (depth_in f (on t far) k) (f.value k)) (λ k. 0)
    (λ k hk. elim (cases_Bool (f.holds k t)) [
      | inr y ↦ omega (arith, cond-false {A = ℕ} (f.holds k t) (min (f.value k) (far - inner_of f k t)) (f.value k) y)
      | inl y ↦
          let is = cond-true {A = ℕ} (f.holds k t) (min (f.value k) (far - inner_of f k t)) (f.value k) y in
          elim (cases_eq k (f.top t)) [
            | inl q ↦ omega (arith, is, e, ap (λ z. inner_of f z t) q, ap f.value q)
            | inr ne ↦ elim (before_either f k (f.top t) ne) [
              | inr b ↦ absurd (top_last f fam t k ht hk y ne b)
              | inl b ↦
                  let i = is_inside f fam k (f.top t) t hk (fam.laminar.tops.top_range t ht) ht y (fam.laminar.tops.top_holds t ht) b t ht y in
                  omega (arith, is, e, i.1, value_in f k hk)
            ]
          ]
    ]) ∙ sum_zero (2 * f.size)
