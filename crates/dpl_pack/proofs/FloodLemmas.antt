-- Faces as points in the tree of a family: no load is above any chain, and what is stacked by the depths of the points are
-- moats.
use Rattle.std.proofs.Common.{arith, ◌≡◌, ◌≢◌, ℕ, zero, suc, ◌-◌, ◌*◌, ◌%◌, ◌<◌, ◌≤◌, ◌==◌, min, refl, sym, ap, ◌∙◌}
use Rattle.std.proofs.Common.{Bool, true, false, cond, inl, inr, List, [], ◌∷◌, length, get_or, eq-eqb}
use Rattle.std.specs.Prelude.{nat_le, nat_lt, count_by, filter, Contains, All, slice_index}
use Rattle.std.proofs.lemmas.Bool.{cases_eq, cases_Bool, cond-true, cond-false, eqb-true, ne_eqb, ltb-true}
use Rattle.std.proofs.lemmas.Bool.{and_parts, leb-true, le-leb, true≢false, false_from_ne_true}
use Rattle.std.proofs.lemmas.List.{get_or_default}
use Rattle.std.proofs.lemmas.List.Sums.{sum_by-cons}
use Rattle.std.proofs.lemmas.List.Elements.{All-contains, Contains-get_or}
use Rattle.std.proofs.lemmas.List.Sorted.{sum_by-IsPermutation}
use Rattle.dpl_laminar.specs.Loads.{sum_below, size_of}
use Rattle.dpl_laminar.specs.Families.{Sets, IsFamily, has, total_of}
use Rattle.dpl_laminar.proofs.Sums.{sum_same, sum_most_each}
use Rattle.dpl_laminar.proofs.Numbers.{has_at}
use Rattle.dpl_dual.specs.declared.crosses.Cross.{Cross}
use Rattle.dpl_dual.specs.declared.crosses.Dual.{Dual}
use Rattle.dpl_dual.specs.Chains.{Leads, IsAt, beyond, length_of}
use Rattle.dpl_dual.specs.Duals.{CameFromDual}
use Rattle.dpl_dual.proofs.ChainLemmas.{beyond_first, crosses_inside}
use Rattle.dpl_map.proofs.RowLemmas.{stands_chosen, chosen_stands}
use Rattle.dpl_pack.specs.declared.moat.Moat.{Moat}
use Rattle.dpl_pack.specs.Nests.{layers_of, inner_of}
use Rattle.dpl_pack.specs.Depths.{depth, gap, is_between}
use Rattle.dpl_pack.specs.Moats.{AreTerminals, AreWithin, moat_load, part_size, AreMoats}
use Rattle.dpl_pack.specs.Stacks.{IsRound, betweens, AreStacked}
use Rattle.dpl_pack.specs.Points.{Point, water, on, depth_in, apart, far_in, fars}
use Rattle.dpl_pack.specs.Floods.{IsFlood}
use Rattle.dpl_pack.proofs.NestLemmas.{value_in, value_below, is_inside, before_either, inner_within}
use Rattle.dpl_pack.proofs.DepthLemmas.{below_each, below_some, count_one, depth_most, depth_level}
use Rattle.dpl_pack.proofs.MoatLemmas.{terminal_facts, part_faces, part_count, parts_linked, load_none, count_kept, count_places, passed_none}
use Rattle.dpl_pack.proofs.PointLemmas.{apart_self, apart_back, apart_over, seat_depth, load_apart}

-- ---- no load is above any chain

one_way : (f : Sets) (point : ℕ → Point) (ways : List Cross) → All (λ x. apart f (point x.f) (point x.g) ≤ x.length) ways
    → (x : Cross) → Contains ways x → (a : ℕ) → IsAt x a → apart f (point a) (point (beyond x a)) ≤ x.length
one_way f point ways all x c a at =
    let here = All-contains (λ (z : Cross). apart f (point z.f) (point z.g) ≤ z.length) ways x all c in
    elim (cases_eq x.f a) [
      | inl e ↦ omega (
        arith,
        here,
        ap (λ z. apart f (point z) (point x.g)) e,
        ap (λ z. apart f (point a) (point z)) (cond-true (x.f == a) x.g x.f (eq-eqb x.f a e)),
      )
      | inr ne ↦ elim at [
        | inl e ↦ absurd (ne e)
        | inr e ↦ omega (
          arith,
          here,
          apart_back f (point x.f) (point x.g),
          ap (λ z. apart f (point z) (point x.f)) e,
          ap (λ z. apart f (point a) (point z)) (cond-false (x.f == a) x.g x.f (ne_eqb x.f a ne)),
        )
      ]
    ]

-- the points of two faces are no farther apart than a chain between them is long
pub along : (f : Sets) (point : ℕ → Point) (ways : List Cross) → All (λ x. apart f (point x.f) (point x.g) ≤ x.length) ways
    → (a : ℕ) (xs : List Cross) (b : ℕ) → Leads ways a xs b → apart f (point a) (point b) ≤ length_of xs
along f point ways all a [] b l = omega (arith, apart_self f (point a), ap (λ z. apart f (point a) (point z)) l)
along f point ways all a (x ∷ xs) b l =
    omega (
      arith,
      apart_over f (point a) (point (beyond x a)) (point b),
      one_way f point ways all x l.0 a l.1,
      along f point ways all (beyond x a) xs b l.2,
      sum_by-cons (λ z. z.length) x xs,
    )

-- in a flood no load is above any chain
pub flood_within : (d : Dual) (terminals : List ℕ) (f : Sets) (point : ℕ → Point) → IsFlood d terminals f point
    → AreWithin d terminals f
flood_within d terminals f point w t u ht hu ne xs l =
    let a = get_or terminals t 0 in
    let b = get_or terminals u 0 in
    omega (
      arith,
      load_apart f t u,
      apart_over f (on t 0) (point a) (on u 0),
      apart_over f (point a) (point b) (on u 0),
      apart_back f (on t 0) (point a),
      w.seats t ht,
      w.seats u hu,
      along f point d.crosses w.ways a xs b l,
    )

-- ---- depths by distances

beyond_all : (f : Sets) (k u x : ℕ) → k < 2 * f.size → x ≡ total_of f - inner_of f k u → f.value k ≤ x
beyond_all f k u x hk e = omega (arith, e, inner_within f k u hk)

depth_on : (f : Sets) (t far k : ℕ) → t < f.size → k < 2 * f.size
    → depth (layers_of f) (far_in f (on t far)) k ≡ depth_in f (on t far) k
depth_on f t far k ht hk =
    let s = layers_of f in
    let d = far_in f (on t far) in
    let v = value_in f k hk in
    let most = depth_most s d k in
    let own : d t ≡ far = cond-true {A = ℕ} (t == t) far (total_of f) (eq-eqb t t refl) in
    let other : (u : ℕ) → t ≢ u → d u ≡ total_of f = λ u ne. cond-false {A = ℕ} (t == u) far (total_of f) (ne_eqb t u ne) in
    elim (cases_Bool (f.holds k t)) [
      | inl y ↦
          let least = below_each s d k s.members t ht y in
          let is = cond-true {A = ℕ} (f.holds k t) (min (f.value k) (far - inner_of f k t)) (f.value k) y in
          elim (below_some s d k s.members) [
            | inl a ↦ omega (arith, a, v, least, own, is)
            | inr b ↦ elim (cases_eq t b.0) [
              | inl e ↦ omega (arith, b.3, v, most, own, is, ap d e, ap (inner_of f k) e)
              | inr ne ↦ omega (arith, b.3, v, most, least, own, is, other b.0 ne, beyond_all f k b.0 (total_of f - inner_of f k b.0) hk refl)
            ]
          ]
      | inr y ↦
          let is = cond-false {A = ℕ} (f.holds k t) (min (f.value k) (far - inner_of f k t)) (f.value k) y in
          elim (below_some s d k s.members) [
            | inl a ↦ omega (arith, a, v, is)
            | inr b ↦ elim (cases_eq t b.0) [
              | inl e ↦ absurd (true≢false (sym b.2 ∙ ap (f.holds k) (sym e) ∙ y))
              | inr ne ↦ omega (arith, b.3, v, most, is, other b.0 ne, beyond_all f k b.0 (total_of f - inner_of f k b.0) hk refl)
            ]
          ]
    ]

depth_water : (f : Sets) (k : ℕ) → k < 2 * f.size → depth (layers_of f) (far_in f water) k ≡ depth_in f water k
depth_water f k hk =
    let s = layers_of f in
    let d = far_in f water in
    let v = value_in f k hk in
    let most = depth_most s d k in
    elim (below_some s d k s.members) [
      | inl a ↦ omega (arith, a, v)
      | inr b ↦ omega (arith, b.3, v, most, beyond_all f k b.0 (total_of f - inner_of f k b.0) hk refl)
    ]

-- the depth of a point in a set is the least distance beyond the sets inside, as of any layers
pub depth_is : (f : Sets) (p : Point) → ((t far : ℕ) → p ≡ on t far → t < f.size) → (k : ℕ) → k < 2 * f.size
    → depth (layers_of f) (far_in f p) k ≡ depth_in f p k
depth_is f water m k hk = depth_water f k hk
depth_is f (on t far) m k hk = depth_on f t far k (m t far refl) hk

-- ---- seats

zero_each : (n : ℕ) (g : ℕ → ℕ) → sum_below n g ≡ 0 → (k : ℕ) → k < n → g k ≡ 0
zero_each zero g e k l = absurd (omega arith)
zero_each (suc n) g e k l = elim (cases_eq k n) [
  | inl t ↦ omega (arith, e, ap g t)
  | inr t ↦ zero_each n g (omega (arith, e)) k (omega arith)
]

-- an odd face lies at the bottom of the sets that hold its member, and in no other
pub seat_in : (d : Dual) (terminals : List ℕ) (f : Sets) (point : ℕ → Point) → IsFlood d terminals f point → (t k : ℕ)
    → t < f.size → k < 2 * f.size → depth_in f (point (get_or terminals t 0)) k ≡ cond (f.holds k t) 0 (f.value k)
seat_in d terminals f point w t k ht hk =
    let at : ℕ → ℕ = λ j. gap (depth_in f (point (get_or terminals t 0)) j) (depth_in f (on t 0) j) in
    omega (arith, zero_each (2 * f.size) at (w.seats t ht) k hk, seat_depth f t k)

-- ---- all that is known of a part

-- a flood of the part of the odd faces, over the list of its faces
pub record IsFlooded (d : Dual) (terminals : List ℕ) (f : Sets) (point : ℕ → Point) (faces : List ℕ) : Type 0 where
  pub came : CameFromDual d
  pub terms : AreTerminals d terminals
  pub family : IsFamily f
  pub size : f.size ≡ length terminals
  pub flood : IsFlood d terminals f point
  pub faces_are : faces ≡ part_faces d (slice_index d.part (get_or terminals 0 0))

at_terminal : (d : Dual) (terminals : List ℕ) (f : Sets) (point : ℕ → Point) (faces : List ℕ)
    → (p : IsFlooded d terminals f point faces) (t : ℕ) → t < length terminals
    → (get_or terminals t 0 < d.faces) × (slice_index d.part (get_or terminals t 0) ≡ p.terms.part)
at_terminal d terminals f point faces p t h =
    let k = terminal_facts d terminals p.came p.terms t 0 h in
    (k.0, eqb-true (slice_index d.part (get_or terminals t 0)) p.terms.part k.1)

in_part : (d : Dual) (terminals : List ℕ) (f : Sets) (point : ℕ → Point) (faces : List ℕ)
    → IsFlooded d terminals f point faces → (g : ℕ) → has faces g ≡ true
    → (g < d.faces) × (slice_index d.part g ≡ slice_index d.part (get_or terminals 0 0))
in_part d terminals f point faces p g h =
    let q = slice_index d.part (get_or terminals 0 0) in
    let r = stands_chosen (λ x. slice_index d.part x == q) d.faces g (ap (λ z. has z g) (sym p.faces_are) ∙ h) in
    (r.0, eqb-true (slice_index d.part g) q r.1)

-- a face whose part is that of the odd faces is in the list
pub part_has : (d : Dual) (terminals : List ℕ) (f : Sets) (point : ℕ → Point) (faces : List ℕ)
    → IsFlooded d terminals f point faces → (g : ℕ) → g < d.faces
    → slice_index d.part g ≡ slice_index d.part (get_or terminals 0 0) → has faces g ≡ true
part_has d terminals f point faces p g hg e =
    let q = slice_index d.part (get_or terminals 0 0) in
    ap (λ z. has z g) p.faces_are ∙ chosen_stands (λ x. slice_index d.part x == q) d.faces g hg (eq-eqb (slice_index d.part g) q e)

terminal_has : (d : Dual) (terminals : List ℕ) (f : Sets) (point : ℕ → Point) (faces : List ℕ)
    → IsFlooded d terminals f point faces → (t : ℕ) → t < f.size → has faces (get_or terminals t 0) ≡ true
terminal_has d terminals f point faces p t ht =
    let z = at_terminal d terminals f point faces p t (omega (arith, ht, p.size)) in
    let o = at_terminal d terminals f point faces p 0 p.terms.some in
    part_has d terminals f point faces p (get_or terminals t 0) z.0 (z.1 ∙ sym o.1)

deep : (d : Dual) (terminals : List ℕ) (f : Sets) (point : ℕ → Point) (faces : List ℕ)
    → IsFlooded d terminals f point faces → (g k : ℕ) → k < 2 * f.size
    → depth (layers_of f) (fars f point g) k ≡ depth_in f (point g) k
deep d terminals f point faces p g k hk = depth_is f (point g) (λ t far e. p.flood.members g t far e) k hk

-- ---- a way

-- how far the depths are apart is how far the points are
spread_is : (d : Dual) (terminals : List ℕ) (f : Sets) (point : ℕ → Point) (faces : List ℕ)
    → IsFlooded d terminals f point faces → (a b : ℕ)
    → sum_below (2 * f.size) (λ j. gap (depth (layers_of f) (fars f point a) j) (depth (layers_of f) (fars f point b) j))
    ≡ apart f (point a) (point b)
spread_is d terminals f point faces p a b =
    let s = layers_of f in
    sum_same (2 * f.size) (λ j. gap (depth s (fars f point a) j) (depth s (fars f point b) j))
    (λ j. gap (depth_in f (point a) j) (depth_in f (point b) j)) (λ j l.
    ap (λ z. gap z (depth s (fars f point b) j)) (deep d terminals f point faces p a j l) ∙
    ap (gap (depth_in f (point a) j)) (deep d terminals f point faces p b j l))

-- the moats on a way between faces of the part weigh exactly how far apart their points are
pub load_is : (d : Dual) (terminals : List ℕ) (f : Sets) (point : ℕ → Point) (faces : List ℕ) (moats : List Moat)
    → IsFlooded d terminals f point faces → AreStacked (layers_of f) (fars f point) faces (2 * f.size) 0 moats → (a b : ℕ)
    → has faces a ≡ true → has faces b ≡ true → moat_load moats a b ≡ apart f (point a) (point b)
load_is d terminals f point faces moats p w a b ha hb =
    omega (arith, w.loads a b ha hb, spread_is d terminals f point faces p a b)

way_load : (d : Dual) (terminals : List ℕ) (f : Sets) (point : ℕ → Point) (faces : List ℕ) (moats : List Moat)
    → IsFlooded d terminals f point faces → AreStacked (layers_of f) (fars f point) faces (2 * f.size) 0 moats
    → (x : Cross) → Contains d.crosses x → x.f < d.faces → x.g < d.faces → moat_load moats x.f x.g ≤ x.length
way_load d terminals f point faces moats p w x c lf lg =
    let leads : Leads d.crosses x.f (x ∷ []) x.g = (c, inl refl, beyond_first x) in
    let same = parts_linked d p.came x.f x.g lf lg (x ∷ [], leads) in
    elim (cases_Bool (has faces x.f)) [
      | inl y ↦
          let z = part_has d terminals f point faces p x.g lg (sym same ∙ (in_part d terminals f point faces p x.f y).1) in
          omega (
            arith,
            load_is d terminals f point faces moats p w x.f x.g y z,
            All-contains (λ (v : Cross). apart f (point v.f) (point v.g) ≤ v.length) d.crosses x p.flood.ways c,
          )
      | inr n ↦
          let n' : has faces x.g ≡ false = false_from_ne_true (has faces x.g) (λ q.
          true≢false (sym (part_has d terminals f point faces p x.f lf (same ∙ (in_part d terminals f point faces p x.g q).1)) ∙ n)) in
          omega (
            arith,
            load_none moats x.f x.g (λ k e l. (
              false_from_ne_true (has (get_or moats k e).faces x.f) (λ q. true≢false (sym ((w.each k e l).only x.f q) ∙ n)),
              false_from_ne_true (has (get_or moats k e).faces x.g) (λ q. true≢false (sym ((w.each k e l).only x.g q) ∙ n')),
            )),
          )
    ]

-- ---- odd faces

-- each level of a set has just the seats of its members
level_seats : (d : Dual) (terminals : List ℕ) (f : Sets) (point : ℕ → Point) (faces : List ℕ)
    → IsFlooded d terminals f point faces → (k r : ℕ) → r < (layers_of f).value k → (t : ℕ) → t < f.size
    → nat_le (depth (layers_of f) (fars f point (get_or terminals t 0)) k) r ≡ f.holds k t
level_seats d terminals f point faces p k r hr t ht =
    let hk = value_below f k (omega (arith, hr)) in
    let x = depth (layers_of f) (fars f point (get_or terminals t 0)) k in
    let at : x ≡ cond (f.holds k t) 0 (f.value k) =
    deep d terminals f point faces p (get_or terminals t 0) k hk ∙ seat_in d terminals f point p.flood t k ht hk in
    elim (cases_Bool (f.holds k t)) [
      | inl y ↦ le-leb x r (omega (arith, at, cond-true {A = ℕ} (f.holds k t) 0 (f.value k) y)) ∙ sym y
      | inr y ↦ false_from_ne_true (nat_le x r) (λ q.
          omega (arith, leb-true x r q, at, cond-false {A = ℕ} (f.holds k t) 0 (f.value k) y, hr, value_in f k hk)) ∙ sym y
    ]

odd_moat : (d : Dual) (terminals : List ℕ) (f : Sets) (point : ℕ → Point) (faces : List ℕ) (m : Moat)
    → IsFlooded d terminals f point faces → IsRound (layers_of f) (fars f point) faces m
    → count_by (has m.faces) d.odd % 2 ≡ 1
odd_moat d terminals f point faces m p r =
    let s = layers_of f in
    let part : ℕ → Bool = λ g. slice_index d.part g == p.terms.part in
    let z = at_terminal d terminals f point faces p 0 p.terms.some in
    let kept = count_kept (has m.faces) part d.odd (λ k e l q. eq-eqb (slice_index d.part (get_or d.odd k e))
    p.terms.part ((in_part d terminals f point faces p (get_or d.odd k e) (r.only (get_or d.odd k e) q)).1 ∙ z.1)) in
    let moved = sum_by-IsPermutation (λ g. cond {A = ℕ} (has m.faces g) 1 0) (filter part d.odd) terminals p.terms.are in
    let places = count_places (has m.faces) (f.holds r.set) terminals (λ i l.
    let hi : i < f.size = omega (arith, l, p.size) in
    let g = get_or terminals i 0 in
    r.inside g (terminal_has d terminals f point faces p i hi) ∙
    depth_level s (fars f point g) r.set r.level r.below ∙
    level_seats d terminals f point faces p r.set r.level r.below i hi) in
    let below = value_below f r.set (omega (arith, r.below)) in
    let live : f.live r.set ≡ true = elim (cases_Bool (f.live r.set)) [
      | inl y ↦ y
      | inr y ↦ absurd (omega (arith, r.below, value_in f r.set below, p.family.value_dead r.set y))
    ] in
    omega (arith, kept, moved, places, p.family.laminar.sets.odd r.set below live, ap (λ n. size_of n (f.holds r.set)) p.size)

-- ---- how many

-- a point lies strictly between the ends of one set at most
between_one : (f : Sets) → IsFamily f → (p : Point) → ((t far : ℕ) → p ≡ on t far → t < f.size) → (j k : ℕ)
    → j < 2 * f.size → k < 2 * f.size → 0 < depth_in f p j → depth_in f p j < f.value j → 0 < depth_in f p k
    → depth_in f p k < f.value k → j ≡ k
between_one f family water m j k hj hk aj bj ak bk = absurd (omega (arith, bj))
between_one f family (on t far) m j k hj hk aj bj ak bk =
    let ht = m t far refl in
    let held : (i : ℕ) → depth_in f (on t far) i < f.value i → f.holds i t ≡ true = λ i b. elim (cases_Bool (f.holds i t)) [
      | inl y ↦ y
      | inr y ↦ absurd (omega (arith, b, cond-false {A = ℕ} (f.holds i t) (min (f.value i) (far - inner_of f i t)) (f.value i) y))
    ] in
    let is : (i : ℕ) → f.holds i t ≡ true → depth_in f (on t far) i ≡ min (f.value i) (far - inner_of f i t) =
    λ i y. cond-true {A = ℕ} (f.holds i t) (min (f.value i) (far - inner_of f i t)) (f.value i) y in
    let jt = held j bj in
    let kt = held k bk in
    elim (cases_eq j k) [
      | inl e ↦ e
      | inr ne ↦ elim (before_either f j k ne) [
        | inl b ↦
            let i = is_inside f family j k t hj hk ht jt kt b t ht jt in
            absurd (omega (arith, i.1, value_in f j hj, is j jt, is k kt, bj, ak))
        | inr b ↦
            let i = is_inside f family k j t hk hj ht kt jt b t ht kt in
            absurd (omega (arith, i.1, value_in f k hk, is j jt, is k kt, bk, aj))
      ]
    ]

between_two : (d : Dual) (terminals : List ℕ) (f : Sets) (point : ℕ → Point) (faces : List ℕ)
    → IsFlooded d terminals f point faces → (g j k : ℕ) → is_between (layers_of f) (fars f point g) j ≡ true
    → is_between (layers_of f) (fars f point g) k ≡ true → j ≡ k
between_two d terminals f point faces p g j k hj hk =
    let s = layers_of f in
    let x : ℕ → ℕ = depth s (fars f point g) in
    let pj = and_parts (nat_lt 0 (x j)) (nat_lt (x j) (s.value j)) hj in
    let pk = and_parts (nat_lt 0 (x k)) (nat_lt (x k) (s.value k)) hk in
    let aj = ltb-true 0 (x j) pj.0 in
    let bj = ltb-true (x j) (s.value j) pj.1 in
    let ak = ltb-true 0 (x k) pk.0 in
    let bk = ltb-true (x k) (s.value k) pk.1 in
    let lj = value_below f j (omega (arith, bj)) in
    let lk = value_below f k (omega (arith, bk)) in
    let dj = deep d terminals f point faces p g j lj in
    let dk = deep d terminals f point faces p g k lk in
    between_one f p.family (point g) (λ t far e. p.flood.members g t far e) j k lj lk (omega (arith, dj, aj))
    (omega (arith, dj, bj, value_in f j lj)) (omega (arith, dk, ak)) (omega (arith, dk, bk, value_in f k lk))

few_betweens : (d : Dual) (terminals : List ℕ) (f : Sets) (point : ℕ → Point) (faces : List ℕ)
    → IsFlooded d terminals f point faces → betweens (layers_of f) (fars f point) faces (2 * f.size) ≤ length faces
few_betweens d terminals f point faces p =
    let s = layers_of f in
    let at : ℕ → ℕ → Bool = λ i j. is_between s (fars f point (get_or faces i 0)) j in
    omega (
      arith,
      sum_most_each (length faces) (λ i. sum_below (2 * f.size) (λ j. cond {A = ℕ} (at i j) 1 0)) 1
          (λ i l. count_one (at i) (2 * f.size) (between_two d terminals f point faces p (get_or faces i 0))),
    )

-- ---- the moats

-- what is stacked by the depths of the points is moats
pub flooded_moats : (d : Dual) (terminals : List ℕ) (f : Sets) (point : ℕ → Point) (faces : List ℕ) (moats : List Moat)
    → IsFlooded d terminals f point faces → AreStacked (layers_of f) (fars f point) faces (2 * f.size) 0 moats
    → AreMoats d terminals f moats
flooded_moats d terminals f point faces moats p w =
    let s = layers_of f in
    let start = get_or terminals 0 0 in
    record {
      halves = λ k e l. (w.each k e l).half;
      total = omega (arith, w.total, sum_same (2 * f.size) s.value f.value (λ j h. value_in f j h));
      loads = λ k e l.
          let b = crosses_inside d p.came k e l in
          way_load d terminals f point faces moats p w (get_or d.crosses k e) (Contains-get_or d.crosses k e l) b.0 b.1;
      odd = λ k e l. odd_moat d terminals f point faces (get_or moats k e) p (w.each k e l);
      inside = λ k e l i y h.
          let m : Moat = get_or moats k e in
          let g = get_or m.faces i y in
          let in_m : has m.faces g ≡ true = ap (has m.faces) (get_or_default m.faces i y 0 h) ∙ has_at m.faces i h in
          in_part d terminals f point faces p g ((w.each k e l).only g in_m);
      few =
          let size : length faces ≡ part_size d (slice_index d.part start) = ap length p.faces_are ∙
          part_count (λ g. slice_index d.part g == slice_index d.part start) d.faces in
          omega (arith, w.few, few_betweens d terminals f point faces p, passed_none s (fars f point) faces (2 * f.size), size, p.size);
    }
