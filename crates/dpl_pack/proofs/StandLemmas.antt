-- Where no load is above any chain, each face has a point at which it lies as deep in each set as its distances say.
use Rattle.std.proofs.Common.{arith, ◌≡◌, ◌≢◌, ℕ, zero, suc, ◌+◌, ◌-◌, ◌*◌, ◌<◌, min, refl, sym, ap, ◌∙◌}
use Rattle.std.proofs.Common.{Bool, true, false, cond, inl, inr, ◌⊎◌, List, [], ◌∷◌, length, get_or}
use Rattle.std.specs.Prelude.{nat_le, nat_lt, Contains, slice_index}
use Rattle.std.proofs.lemmas.Bool.{cases_eq, cases_lt, cases_Bool, cond-true, cond-false, lt-ltb, ltb-true}
use Rattle.std.proofs.lemmas.Bool.{le-leb, leb-true, true≢false, false_from_ne_true}
use Rattle.std.proofs.lemmas.List.Elements.{Contains-get_or}
use Rattle.dpl_laminar.specs.Families.{Sets, IsFamily, has, total_of}
use Rattle.dpl_laminar.proofs.Sums.{sum_same, sum_zero}
use Rattle.dpl_dual.specs.declared.crosses.Cross.{Cross}
use Rattle.dpl_dual.specs.declared.crosses.Dual.{Dual}
use Rattle.dpl_dual.specs.Chains.{Leads}
use Rattle.dpl_dual.specs.Duals.{CameFromDual}
use Rattle.dpl_dual.proofs.ChainLemmas.{beyond_first, crosses_inside}
use Rattle.dpl_pack.specs.Levels.{AreNested, IsPoint}
use Rattle.dpl_pack.specs.Nests.{layers_of, inner_of, comes_before}
use Rattle.dpl_pack.specs.Depths.{depth, gap}
use Rattle.dpl_pack.specs.Moats.{AreTerminals, AreWithin}
use Rattle.dpl_pack.specs.Points.{Point, water, on, depth_in, apart}
use Rattle.dpl_pack.specs.Floods.{IsFlood}
use Rattle.dpl_pack.proofs.NestLemmas.{value_in, is_inside, before_self, before_through, before_either, before_within, are_nested, level_members}
use Rattle.dpl_pack.proofs.DepthLemmas.{below_each, below_some, depth_most, depth_level}
use Rattle.dpl_pack.proofs.MoatLemmas.{IsPart, terminal_dist, loaded, own, pointed, has_linked, same_part, terminal_has, spread_short, part_faces, part_of, points_of, parts_linked, at_terminal, part_has}
use Rattle.dpl_pack.proofs.PointLemmas.{apart_self, seat_depth, water_on, same_member, on_water}

-- ---- the first of the sets that pass a test

-- the first set below a number that passes a test
pub record IsFirst (f : Sets) (p : ℕ → Bool) (n k : ℕ) : Type 0 where
  pub below : k < n
  pub here : p k ≡ true
  pub none : (j : ℕ) → j < n → p j ≡ true → comes_before f j k ≡ true → ⊥

first_of : (f : Sets) (p : ℕ → Bool) (n : ℕ) → ((k : ℕ) → k < n → p k ≡ false) ⊎ ((k : ℕ) × IsFirst f p n k)
first_of f p zero = inl (λ k l. absurd (omega (arith, l)))
first_of f p (suc n) = elim (cases_Bool (p n)) [
  | inr off ↦ elim (first_of f p n) [
    | inl a ↦ inl (λ k l. elim (cases_eq k n) [ inl e ↦ ap p e ∙ off | inr ne ↦ a k (omega (arith, l, ne)) ])
    | inr b ↦ inr (
      b.0,
      record {
        below = omega (arith, b.1.below);
        here = b.1.here;
        none = λ j l q c. elim (cases_eq j n) [
          | inl e ↦ true≢false (sym q ∙ ap p e ∙ off)
          | inr ne ↦ b.1.none j (omega (arith, l, ne)) q c
        ];
      },
    )
  ]
  | inl on_here ↦ elim (first_of f p n) [
    | inl a ↦ inr (
      n,
      record {
        below = omega arith;
        here = on_here;
        none = λ j l q c. elim (cases_eq j n) [
          | inl e ↦ true≢false (sym c ∙ ap (λ z. comes_before f z n) e ∙ before_self f n)
          | inr ne ↦ true≢false (sym q ∙ a j (omega (arith, l, ne)))
        ];
      },
    )
    | inr b ↦ elim (cases_Bool (comes_before f n b.0)) [
      | inl c0 ↦ inr (
        n,
        record {
          below = omega arith;
          here = on_here;
          none = λ j l q c. elim (cases_eq j n) [
            | inl e ↦ true≢false (sym c ∙ ap (λ z. comes_before f z n) e ∙ before_self f n)
            | inr ne ↦ b.1.none j (omega (arith, l, ne)) q (before_through f j n b.0 c c0)
          ];
        },
      )
      | inr c0 ↦ inr (
        b.0,
        record {
          below = omega (arith, b.1.below);
          here = b.1.here;
          none = λ j l q c. elim (cases_eq j n) [
            | inl e ↦ true≢false (sym c ∙ ap (λ z. comes_before f z b.0) e ∙ c0)
            | inr ne ↦ b.1.none j (omega (arith, l, ne)) q c
          ];
        },
      )
    ]
  ]
]

-- ---- the point of a face

-- a point at which a face lies as deep in each set as by these distances
pub record StandsIn (f : Sets) (d : ℕ → ℕ) (p : Point) : Type 0 where
  pub members : (t far : ℕ) → p ≡ on t far → t < f.size
  pub depths : (k : ℕ) → k < 2 * f.size → depth_in f p k ≡ depth (layers_of f) d k

is_deep : Sets → (ℕ → ℕ) → ℕ → Bool
is_deep f d k = nat_lt (depth (layers_of f) d k) (f.value k)

deep_from : (f : Sets) (d : ℕ → ℕ) (k : ℕ) → depth (layers_of f) d k < f.value k → is_deep f d k ≡ true
unfolding is_deep
deep_from f d k h = lt-ltb (depth (layers_of f) d k) (f.value k) h

deep_to : (f : Sets) (d : ℕ → ℕ) (k : ℕ) → is_deep f d k ≡ true → depth (layers_of f) d k < f.value k
unfolding is_deep
deep_to f d k h = ltb-true (depth (layers_of f) d k) (f.value k) h

-- what is not deep in a set is as deep as its value
not_deep : (f : Sets) (d : ℕ → ℕ) (k : ℕ) → k < 2 * f.size → (is_deep f d k ≡ true → ⊥) → depth (layers_of f) d k ≡ f.value k
not_deep f d k hk h = elim (cases_lt (depth (layers_of f) d k) (f.value k)) [
  | inl l ↦ absurd (h (deep_from f d k l))
  | inr l ↦ omega (arith, l, depth_most (layers_of f) d k, value_in f k hk)
]

-- the member by which a face is deep in a set
pub record IsReachedBy (f : Sets) (d : ℕ → ℕ) (k t : ℕ) : Type 0 where
  pub below : t < f.size
  pub held : f.holds k t ≡ true
  pub depth : depth (layers_of f) d k ≡ d t - inner_of f k t

deep_member : (f : Sets) (d : ℕ → ℕ) (k : ℕ) → k < 2 * f.size → depth (layers_of f) d k < f.value k → (t : ℕ) × IsReachedBy f d k t
deep_member f d k hk h = elim (below_some (layers_of f) d k f.size) [
  | inl a ↦ absurd (omega (arith, a, h, value_in f k hk))
  | inr b ↦ (b.0, record { below = b.1; held = b.2; depth = b.3 })
]

-- some point has the depths of a face
pub stands : (f : Sets) (dist : ℕ → ℕ → ℕ) (d : ℕ → ℕ) → IsFamily f → AreNested (layers_of f) dist
    → IsPoint (layers_of f) dist d → (p : Point) × StandsIn f d p
stands f dist d family nested point = elim (first_of f (is_deep f d) (2 * f.size)) [
  | inl a ↦ (
    water,
    record {
      members = λ t far e. absurd (water_on t far e);
      depths = λ k hk. sym (not_deep f d k hk (λ q. true≢false (sym q ∙ a k hk)));
    },
  )
  | inr b ↦
      let s = layers_of f in
      let k : ℕ = b.0 in
      let hk = b.1.below in
      let less = deep_to f d k b.1.here in
      let m = deep_member f d k hk less in
      let t : ℕ = m.0 in
      let ht = m.1.below in
      let far : ℕ = inner_of f k t + depth s d k in (
        on t far,
        record {
          members = λ u x e. omega (arith, ht, same_member t u far x e);
          depths = λ j hj.
              let out : depth s d j ≡ f.value j → f.holds j t ≡ false → depth_in f (on t far) j ≡ depth s d j =
              λ a q. cond-false {A = ℕ} (f.holds j t) (min (f.value j) (far - inner_of f j t)) (f.value j) q ∙ sym a in
              elim (cases_Bool (f.holds j t)) [
                | inl y ↦
                    let is = cond-true {A = ℕ} (f.holds j t) (min (f.value j) (far - inner_of f j t)) (f.value j) y in
                    elim (cases_eq j k) [
                      | inl e ↦ omega (arith, is, ap (λ z. inner_of f z t) e, ap f.value e, ap (depth s d) e, less)
                      | inr ne ↦ elim (before_either f j k ne) [
                        | inl c ↦
                            let i = is_inside f family j k t hj hk ht y m.1.held c t ht y in
                            let whole = not_deep f d j hj (λ q. b.1.none j hj q c) in
                            omega (arith, is, i.1, value_in f j hj, whole)
                        | inr c ↦
                            let i = is_inside f family k j t hk hj ht m.1.held y c t ht m.1.held in
                            omega (arith, is, i.1, value_in f k hk, less, m.1.depth, below_each s d j f.size t ht y)
                      ]
                    ]
                | inr y ↦ out (not_deep f d j hj (λ q.
                    let lj = deep_to f d j q in
                    let u = deep_member f d j hj lj in
                    elim (nested j k (omega (arith, lj, value_in f j hj)) (omega (arith, less, value_in f k hk))) [
                      | inl e ↦ true≢false (sym m.1.held ∙ ap (λ z. f.holds z t) (sym e) ∙ y)
                      | inr o ↦ elim o [
                        | inl i ↦
                            let w = i u.0 u.1.below u.1.held in
                            let ne : j ≢ k = λ e. true≢false (sym m.1.held ∙ ap (λ z. f.holds z t) (sym e) ∙ y) in
                            elim (before_either f j k ne) [
                              | inl c ↦ b.1.none j hj q c
                              | inr c ↦ true≢false (sym (before_within f family k j u.0 hk hj u.1.below w.0 u.1.held c t ht m.1.held) ∙ y)
                            ]
                        | inr o' ↦ elim o' [
                          | inl i ↦ true≢false (sym (i t ht m.1.held).0 ∙ y)
                          | inr away ↦
                              omega (
                                arith,
                                away u.0 t u.1.below ht u.1.held m.1.held,
                                point u.0 t u.1.below ht,
                                u.1.depth,
                                m.1.depth,
                                lj,
                                less,
                                value_in f j hj,
                                value_in f k hk,
                              )
                        ]
                      ]
                    ])) y
              ];
        },
      )
]

-- ---- the points of all faces

-- a face of the part stands at its point, and the others in open water
pub record IsPointOf (f : Sets) (points : ℕ → ℕ → ℕ) (faces : List ℕ) (g : ℕ) (q : Point) : Type 0 where
  pub inside : has faces g ≡ true → StandsIn f (points g) q
  pub outside : has faces g ≡ false → q ≡ water

-- each face of the part with a point at which it stands
abbrev pub AllStand : Sets → (ℕ → ℕ → ℕ) → List ℕ → Type 0
AllStand f points faces = (g : ℕ) → has faces g ≡ true → (q : Point) × StandsIn f (points g) q

found : (f : Sets) (points : ℕ → ℕ → ℕ) (faces : List ℕ) → AllStand f points faces → (g : ℕ)
    → (q : Point) × IsPointOf f points faces g q
found f points faces all g = elim (cases_Bool (has faces g)) [
  | inl y ↦
      let s = all g y in
      (s.0, record { inside = λ _. s.1; outside = λ n. absurd (true≢false (sym y ∙ n)) })
  | inr n ↦ (water, record { inside = λ y. absurd (true≢false (sym y ∙ n)); outside = λ _. refl })
]

-- a seat is at the bottom of the sets that hold its member
seat_level : (d : Dual) (terminals : List ℕ) (f : Sets) (points : ℕ → ℕ → ℕ) (faces : List ℕ)
    → IsPart d terminals f points faces → (t k : ℕ) → t < f.size → k < 2 * f.size
    → depth (layers_of f) (points (get_or terminals t 0)) k ≡ cond (f.holds k t) 0 (f.value k)
unfolding terminal_dist
seat_level d terminals f points faces p t k ht hk =
    let s = layers_of f in
    let dist = terminal_dist terminals points in
    let at : ℕ → ℕ = points (get_or terminals t 0) in
    let v = value_in f k hk in
    let most = depth_most s at k in
    let level : (r : ℕ) → r < s.value k → nat_le (depth s at k) r ≡ f.holds k t = λ r hr.
    sym (depth_level s at k r hr) ∙
    level_members f dist p.family (loaded d terminals f points faces p) (own d terminals f points faces p) k r hr t ht in
    elim (cases_Bool (f.holds k t)) [
      | inl y ↦
          let is = cond-true {A = ℕ} (f.holds k t) 0 (f.value k) y in
          elim (cases_eq (f.value k) 0) [
            | inl e ↦ omega (arith, most, v, e, is)
            | inr ne ↦ omega (arith, leb-true (depth s at k) 0 (level 0 (omega (arith, ne, v)) ∙ y), is)
          ]
      | inr y ↦
          let is = cond-false {A = ℕ} (f.holds k t) 0 (f.value k) y in
          elim (cases_lt (depth s at k) (f.value k)) [
            | inr l ↦ omega (arith, l, most, v, is)
            | inl l ↦
                let r : ℕ = depth s at k in
                absurd (true≢false (sym (le-leb r r (omega arith)) ∙ level r (omega (arith, l, v)) ∙ y))
          ]
    ]

-- points at which all faces of the part stand as deep as their distances say, and the others in open water, are a flood
pub flood_at : (d : Dual) (terminals : List ℕ) (f : Sets) (points : ℕ → ℕ → ℕ) (faces : List ℕ) (point : ℕ → Point)
    → IsPart d terminals f points faces → ((g : ℕ) → IsPointOf f points faces g (point g)) → IsFlood d terminals f point
flood_at d terminals f points faces point p is =
    let s = layers_of f in
    let dry : (g : ℕ) → point g ≢ water → has faces g ≡ true = λ g w. elim (cases_Bool (has faces g)) [
      | inl y ↦ y
      | inr n ↦ absurd (w ((is g).outside n))
    ] in
    let across : (x : Cross) → Contains d.crosses x → x.f < d.faces → x.g < d.faces →
    slice_index d.part x.f ≡ slice_index d.part x.g = λ x c lf lg.
    let leads : Leads d.crosses x.f (x ∷ []) x.g = (c, inl refl, beyond_first x) in
    parts_linked d p.came x.f x.g lf lg (x ∷ [], leads) in
    let z = at_terminal d terminals f points faces p 0 p.terms.some in
    record {
      members = λ g t far e. ((is g).inside (dry g (λ w. on_water t far (sym e ∙ w)))).members t far e;
      seats = λ t ht.
          let g = get_or terminals t 0 in
          let here = (is g).inside (terminal_has d terminals f points faces p t ht) in
          sum_same (2 * f.size) (λ k. gap (depth_in f (point g) k) (depth_in f (on t 0) k)) (λ k. 0) (λ k hk.
          omega (arith, here.depths k hk, seat_level d terminals f points faces p t k ht hk, seat_depth f t k)) ∙
          sum_zero (2 * f.size);
      ways = λ k e l.
          let x : Cross = get_or d.crosses k e in
          let c = Contains-get_or d.crosses k e l in
          let b = crosses_inside d p.came k e l in
          let same = across x c b.0 b.1 in
          elim (cases_Bool (has faces x.f)) [
            | inl y ↦
                let y' = part_has d terminals f points faces p x.g b.1 (sym same ∙ same_part d terminals f points faces p x.f y ∙ z.1) in
                let first = (is x.f).inside y in
                let second = (is x.g).inside y' in
                omega (
                  arith,
                  spread_short d terminals f points faces p x c y y',
                  sum_same (2 * f.size) (λ j. gap (depth_in f (point x.f) j) (depth_in f (point x.g) j))
                      (λ j. gap (depth s (points x.f) j) (depth s (points x.g) j))
                      (λ j hj. omega (arith, first.depths j hj, second.depths j hj)),
                )
            | inr n ↦
                let n' : has faces x.g ≡ false = false_from_ne_true (has faces x.g) (λ q. true≢false
                (sym (part_has d terminals f points faces p x.f b.0 (same ∙ same_part d terminals f points faces p x.g q ∙ z.1)) ∙ n)) in
                omega (
                  arith,
                  ap (λ q. apart f q (point x.g)) ((is x.f).outside n),
                  ap (λ q. apart f water q) ((is x.g).outside n'),
                  apart_self f water,
                )
          ];
      home = λ g w.
          let y = dry g w in
          ((has_linked d terminals f points faces p g y).0, same_part d terminals f points faces p g y);
    }

-- points at which all faces of the part stand are there
pub flood_by : (d : Dual) (terminals : List ℕ) (f : Sets) (points : ℕ → ℕ → ℕ) (faces : List ℕ)
    → IsPart d terminals f points faces → AllStand f points faces → (point : ℕ → Point) × IsFlood d terminals f point
flood_by d terminals f points faces p all =
    let point : ℕ → Point = λ g. (found f points faces all g).0 in
    (point, flood_at d terminals f points faces point p (λ g. (found f points faces all g).1))

-- what has no load above any chain is a flood
pub flood_of : (d : Dual) (terminals : List ℕ) (f : Sets) (points : ℕ → ℕ → ℕ) (faces : List ℕ)
    → IsPart d terminals f points faces → (point : ℕ → Point) × IsFlood d terminals f point
flood_of d terminals f points faces p =
    let dist = terminal_dist terminals points in
    flood_by d terminals f points faces p (λ g y. stands f dist (points g) p.family
    (are_nested f dist p.family (loaded d terminals f points faces p)) (pointed d terminals f points faces p g y))

-- the other way round of flood_within
pub within_flood : (d : Dual) (terminals : List ℕ) (f : Sets) → CameFromDual d → AreTerminals d terminals → IsFamily f
    → f.size ≡ length terminals → AreWithin d terminals f → (point : ℕ → Point) × IsFlood d terminals f point
within_flood d terminals f came terms family size within =
    flood_of d terminals f (points_of d came terminals (total_of f)) (part_faces d (slice_index d.part (slice_index terminals 0)))
    (part_of d terminals f (total_of f) refl came terms family size within)
