-- Nets that are drawn in opposite orders have as many odd faces.
use Rattle.std.proofs.Common.{arith, ◌≡◌, ℕ, zero, suc, ◌+◌, ◌*◌, ◌/◌, ◌%◌, ◌==◌, ◌<◌, ◌&&◌, refl, sym, ap, ◌∙◌, inl, inr}
use Rattle.std.proofs.Common.{Bool, true, false, not, length, eq-eqb, cond}
use Rattle.std.proofs.lemmas.Bool.{cases_Bool, cases_eq, ne_eqb, cond-true, cond-false}
use Rattle.dpl_cycle.specs.Sums.{count_on}
use Rattle.dpl_cycle.specs.Names.{AreNames, name_count}
use Rattle.dpl_cycle.proofs.Least.{least_step, least_le, label_least}
use Rattle.dpl_cycle.proofs.SumLemmas.{count_on_same}
use Rattle.dpl_cycle.proofs.NameLemmas.{count_in, count_out}
use Rattle.dpl_cycle.proofs.NameCounts.{AreAlike, count_alike}
use Rattle.dpl_sign.specs.declared.nets.Net.{Net}
use Rattle.dpl_sign.specs.Drawings.{dart_count, twin_of, next_in_face, face_of}
use Rattle.dpl_sign.specs.Parity.{is_clash_edge, is_odd_face}
use Rattle.dpl_sign.specs.Redrawn.{AreOpposite}
use Rattle.dpl_sign.proofs.DartLemmas.{twin_below, twin_twin}
use Rattle.dpl_sign.proofs.Rotation.{face_back, face_permutes, face_below}
use Rattle.dpl_sign.proofs.RedrawnNets.{same_darts}
use Rattle.dpl_sign.proofs.OppositeNets.{faces_opposite, odd_opposite, count_twins}

-- ---- classes with a property, counted by either of two names

-- names of the classes with the property; what is without it names itself
named : (ℕ → Bool) → (ℕ → ℕ) → ℕ → ℕ
named q s x = cond (q x) (s x) x

named_in : (q : ℕ → Bool) (s : ℕ → ℕ) (x : ℕ) → q x ≡ true → named q s x ≡ s x
unfolding named
named_in q s x h = cond-true (q x) (s x) x h

named_out : (q : ℕ → Bool) (s : ℕ → ℕ) (x : ℕ) → q x ≡ false → named q s x ≡ x
unfolding named
named_out q s x h = cond-false (q x) (s x) x h

named_twice : (n : ℕ) (q : ℕ → Bool) (s t : ℕ → ℕ) → ((x : ℕ) → x < n → s (t x) ≡ s x)
    → ((x : ℕ) → x < n → q (t x) ≡ q x) → (x : ℕ) → x < n → named q s (named q t x) ≡ named q s x
named_twice n q s t twice stays x h = elim (cases_Bool (q x)) [
  | inl a ↦ ap (named q s) (named_in q t x a) ∙ named_in q s (t x) (stays x h ∙ a) ∙ twice x h ∙ sym (named_in q s x a)
  | inr a ↦ ap (named q s) (named_out q t x a)
]

names_of : (n : ℕ) (q : ℕ → Bool) (s : ℕ → ℕ) → AreNames n s → ((x : ℕ) → x < n → q (s x) ≡ q x) → AreNames n (named q s)
names_of n q s a stays = record {
  inside = λ x h. elim (cases_Bool (q x)) [
    | inl b ↦ omega (arith, named_in q s x b, a.inside x h)
    | inr b ↦ omega (arith, named_out q s x b, h)
  ];
  twice = named_twice n q s s a.twice stays;
}

-- a class has the property and is named by this number
abbrev pub heads : (ℕ → Bool) → (ℕ → ℕ) → ℕ → Bool
heads q s x = q x && (s x == x)

abbrev one_if : Bool → ℕ
one_if b = cond b 1 0

heads_count : (q : ℕ → Bool) (s : ℕ → ℕ) (n : ℕ) → name_count (named q s) n ≡ count_on (heads q s) n + count_on (λ x. not (q x)) n
heads_count q s zero = refl
heads_count q s (suc n) =
    let rest = heads_count q s n in
    elim (cases_Bool (q n)) [
      | inl a ↦
          let none : one_if (not (q n)) ≡ 0 = ap (λ b. one_if (not b)) a in
          elim (cases_eq (s n) n) [
            | inl e ↦
                let one : one_if (heads q s n) ≡ 1 = ap one_if (ap (λ b. b && (s n == n)) a ∙ eq-eqb (s n) n e) in
                omega (arith, count_in (named q s) n (named_in q s n a ∙ e), rest, none, one)
            | inr e ↦
                let no_one : one_if (heads q s n) ≡ 0 = ap one_if (ap (λ b. b && (s n == n)) a ∙ ne_eqb (s n) n e) in
                omega (arith, count_out (named q s) n (λ k. e (sym (named_in q s n a) ∙ k)), rest, none, no_one)
          ]
      | inr a ↦
          let one : one_if (not (q n)) ≡ 1 = ap (λ b. one_if (not b)) a in
          let none : one_if (heads q s n) ≡ 0 = ap (λ b. one_if (b && (s n == n))) a in
          omega (arith, count_in (named q s) n (named_out q s n a), rest, none, one)
    ]

-- two ways to name classes count those with a property alike
classes_alike : (n : ℕ) (q : ℕ → Bool) (s t : ℕ → ℕ) → AreAlike n s t → ((x : ℕ) → x < n → q (s x) ≡ q x)
    → ((x : ℕ) → x < n → q (t x) ≡ q x) → count_on (heads q s) n ≡ count_on (heads q t) n
classes_alike n q s t a by_s by_t =
    let alike : AreAlike n (named q s) (named q t) = record {
      first = names_of n q s a.first by_s;
      second = names_of n q t a.second by_t;
      here = named_twice n q s t a.here by_t;
      there = named_twice n q t s a.there by_s;
    } in
    omega (arith, count_alike n (named q s) (named q t) alike, heads_count q s n, heads_count q t n)

-- ---- odd faces

-- a face is named by a dart on it
pub face_twice : (net : Net) (set : ℕ → Bool) (d : ℕ) → d < dart_count net → face_of net set (face_of net set d) ≡ face_of net set d
face_twice net set d l =
    let p = face_permutes net set in
    label_least (dart_count net) (next_in_face net set) (face_back net set) p (face_of net set)
    (least_step (dart_count net) (next_in_face net set) (face_back net set) p) d l

count_none : (p : ℕ → Bool) (n : ℕ) → ((x : ℕ) → x < n → p x ≡ false) → count_on p n ≡ 0
count_none p zero h = refl
count_none p (suc n) h = omega (arith, ap one_if (h n (omega arith)), count_none p n (λ x l. h x (omega arith)))

-- the face of the dart is odd
abbrev pub odd_at : Net → (ℕ → Bool) → ℕ → Bool
odd_at net set d = is_odd_face net set (face_of net set d)

-- what is no name of a face is no odd face
odd_head : (net : Net) (set : ℕ → Bool) (x : ℕ) → x < dart_count net → is_odd_face net set x ≡ heads (odd_at net set) (face_of net set) x
odd_head net set x l = elim (cases_eq (face_of net set x) x) [
  | inl e ↦ sym (ap (λ b. odd_at net set x && b) (eq-eqb (face_of net set x) x e) ∙ and_true (odd_at net set x) ∙ ap (is_odd_face net set) e)
  | inr e ↦
      let test = λ (d : ℕ). set (d / 2) && (face_of net set d == x) && is_clash_edge net (d / 2) in
      let none : count_on test (dart_count net) ≡ 0 = count_none test (dart_count net) (λ d h.
      ap (λ b. set (d / 2) && b && is_clash_edge net (d / 2))
      (ne_eqb (face_of net set d) x (λ k. e (ap (face_of net set) (sym k) ∙ face_twice net set d h ∙ k))) ∙
      and_false (set (d / 2)) (is_clash_edge net (d / 2))) in
      ap (λ z. z % 2 == 1) none ∙ sym (ap (λ b. odd_at net set x && b) (ne_eqb (face_of net set x) x e) ∙ no_and (odd_at net set x))
] where
  and_true : (b : Bool) → (b && true) ≡ b
  and_true true = refl
  and_true false = refl

  no_and : (b : Bool) → (b && false) ≡ false
  no_and true = refl
  no_and false = refl

  and_false : (a c : Bool) → (a && false && c) ≡ false
  and_false true c = refl
  and_false false c = refl

-- they have as many odd faces
pub odd_counts : (n m : Net) → AreOpposite n m → (set : ℕ → Bool)
    → count_on (is_odd_face m set) (dart_count m) ≡ count_on (is_odd_face n set) (dart_count n)
odd_counts n m o set =
    let k = length n.graph.edges in
    let size = same_darts n m o.graph in
    let s = face_of n set in
    let t = λ (x : ℕ). twin_of (face_of m set (twin_of x)) in
    let below = λ (x : ℕ) (l : x < 2 * k). twin_below x k l in
    let at_m : (x : ℕ) → x < 2 * k → face_of m set (twin_of x) < 2 * k = λ x l.
    let b = below x l in
    let h = face_below m set (twin_of x) (omega arith) in
    omega arith in
    let twice_m : (x : ℕ) → x < 2 * k → face_of m set (face_of m set (twin_of x)) ≡ face_of m set (twin_of x) = λ x l.
    let b = below x l in
    face_twice m set (twin_of x) (omega arith) in
    let s_of_t : (x : ℕ) → x < 2 * k → s (t x) ≡ s x = λ x l.
    (faces_opposite n m o set (t x) x (below (face_of m set (twin_of x)) (at_m x l)) l).1
    (ap (face_of m set) (twin_twin (face_of m set (twin_of x))) ∙ twice_m x l) in
    let t_of_s : (x : ℕ) → x < 2 * k → t (s x) ≡ t x = λ x l.
    ap twin_of ((faces_opposite n m o set (s x) x (face_below n set x l) l).0 (face_twice n set x l)) in
    let alike : AreAlike (2 * k) s t = record {
      first = record { inside = λ x l. face_below n set x l; twice = λ x l. face_twice n set x l };
      second = record {
        inside = λ x l. below (face_of m set (twin_of x)) (at_m x l);
        twice = λ x l. ap twin_of (ap (face_of m set) (twin_twin (face_of m set (twin_of x))) ∙ twice_m x l);
      };
      here = s_of_t;
      there = t_of_s;
    } in
    let q = odd_at n set in
    let classes = classes_alike (2 * k) q s t alike (λ x l. ap (is_odd_face n set) (face_twice n set x l)) (λ x l. ap (is_odd_face n set) (s_of_t x l)) in
    let head_m = heads (odd_at m set) (face_of m set) in
    let turned : (x : ℕ) → x < 2 * k → heads q t x ≡ head_m (twin_of x) = λ x l.
    ap (λ b. b && (t x == x)) (sym (odd_opposite n m o set x l)) ∙
    ap (λ b. odd_at m set (twin_of x) && b) (turned_test x (face_of m set (twin_of x))) in
    ap (count_on (is_odd_face m set)) size ∙
    count_on_same (2 * k) (is_odd_face m set) head_m (λ x l. odd_head m set x (omega arith)) ∙
    sym (count_twins head_m k) ∙ sym (count_on_same (2 * k) (heads q t) (λ x. head_m (twin_of x)) turned) ∙ sym classes ∙
    sym (count_on_same (2 * k) (is_odd_face n set) (heads q s) (odd_head n set)) where
      turned_test : (x y : ℕ) → (twin_of y == x) ≡ (y == twin_of x)
      turned_test x y = elim (cases_eq y (twin_of x)) [
        | inl e ↦ eq-eqb (twin_of y) x (ap twin_of e ∙ twin_twin x) ∙ sym (eq-eqb y (twin_of x) e)
        | inr e ↦ ne_eqb (twin_of y) x (λ h. e (sym (twin_twin y) ∙ ap twin_of h)) ∙ sym (ne_eqb y (twin_of x) e)
      ]
