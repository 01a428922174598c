-- The darts of one node in the order of their ports, and what is met first when turning.
use Rattle.std.proofs.Common.{arith, ◌≡◌, ◌≢◌, ℕ, zero, suc, ◌+◌, ◌*◌, ◌/◌, ◌<◌, ◌≤◌, ◌==◌, ◌&&◌, ◌||◌, refl, sym, ap}
use Rattle.std.proofs.Common.{◌∙◌, Bool, true, false, inl, inr, List, ◌∷◌, ltb, nat_lt, eq-eqb, length, subst}
use Rattle.std.proofs.lemmas.Bool.{cases_lt, cases_eq, cases_Bool, lt-ltb, le-ltb, ne_eqb, eqb-true, cond-true, cond-false, and_from, true≢false, false≢true}
use Rattle.std.specs.Ordering.{is_lt}
use Rattle.std.specs.declared.cmp.Ordering.{Ordering}
use Rattle.std.specs.declared.cmp.Ordering.TheVariants.{Less, Equal, Greater}
use Rattle.dpl_cycle.specs.Among.{members}
use Rattle.dpl_cycle.proofs.AmongLemmas.{members_in, members_out}
use Rattle.dpl_cycle.proofs.MemberLemmas.{member_from, member_is}
use Rattle.dpl_cycle.proofs.Turns.{turn, next, nearer, Mem}
use Rattle.dpl_cycle.proofs.TurnLemmas.{turn_forms}
use Rattle.dpl_cycle.proofs.Ranks.{IsStrict, rank, rank_bound, rank_order, rank_apart}
use Rattle.dpl_sign.specs.declared.nets.Net.{Net}
use Rattle.dpl_sign.specs.Drawings.{tail_of, dart_count, port_of, is_before, is_met_before, first_met, next_below}
use Rattle.dpl_sign.proofs.PortOrderLemmas.{not_itself, before_trans, before_total}
use Rattle.dpl_sign.proofs.DartLemmas.{tails_apart, first_half, second_half}
use Rattle.dpl_sign.proofs.Unfold.{next_in, next_out}

-- r gives each dart of a node a place in the order of the ports
pub record IsRanked (net : Net) (v m : ℕ) (r : ℕ → ℕ) : Type 0 where
  pub below : (d : ℕ) → d < dart_count net → tail_of net.graph d ≡ v → r d < m
  pub order : (d c : ℕ) → d < dart_count net → c < dart_count net → tail_of net.graph d ≡ v → tail_of net.graph c ≡ v → is_before net d c ≡ nat_lt (r d) (r c)
  pub apart : (d c : ℕ) → d < dart_count net → c < dart_count net → tail_of net.graph d ≡ v → tail_of net.graph c ≡ v → r d ≡ r c → d ≡ c

-- all darts of a node
abbrev pub darts_of : Net → ℕ → List ℕ
darts_of net v = members (λ d. tail_of net.graph d == v) (dart_count net)

-- the place of a dart among those that leave the node, in the order of their ports
abbrev pub rank_of : Net → ℕ → ℕ → ℕ
rank_of net v d = rank (is_before net) (darts_of net v) d

-- one more than the number of darts that leave the node
abbrev pub rank_end : Net → ℕ → ℕ
rank_end net v = suc (length (darts_of net v))

is_lt_less : (o : Ordering) → is_lt o ≡ true → o ≡ Less
is_lt_less Less h = refl
is_lt_less Equal h = absurd (false≢true h)
is_lt_less Greater h = absurd (false≢true h)

no_less : (o : Ordering) → (o ≡ Less → ⊥) → is_lt o ≡ false
no_less Less h = absurd (h refl)
no_less Equal h = refl
no_less Greater h = refl

strict : (net : Net) (v : ℕ) → IsStrict (is_before net) (darts_of net v)
strict net v =
    let at = λ (d : ℕ) (h : Mem d (darts_of net v)). eqb-true (tail_of net.graph d) v (member_is (λ x. tail_of net.graph x == v) (dart_count net) d h).1 in
    record {
      irrefl = λ d h. no_less _ (not_itself (port_of net d) (d / 2));
      trans = λ a b c ha hb hc s t. ap is_lt (before_trans (port_of net a) (port_of net b) (port_of net c) (a / 2)
          (b / 2) (c / 2) (is_lt_less _ s) (is_lt_less _ t));
      total = λ a b ha hb ne s.
          let apart : a / 2 ≢ b / 2 = λ q. ne (tails_apart net.graph a b q (at a ha ∙ sym (at b hb))) in
          elim (before_total (port_of net a) (port_of net b) (a / 2) (b / 2) apart) [
            | inl q ↦ absurd (true≢false (sym (ap is_lt q) ∙ s))
            | inr q ↦ ap is_lt q
          ];
    }

-- these places are in the order of the ports
pub ranked : (net : Net) (v : ℕ) → IsRanked net v (rank_end net v) (rank_of net v)
ranked net v =
    let inside : (d : ℕ) → d < dart_count net → tail_of net.graph d ≡ v → Mem d (darts_of net v) = λ d h t.
    member_from (λ x. tail_of net.graph x == v) (dart_count net) d h (eq-eqb (tail_of net.graph d) v t) in
    record {
      below = λ d h t. omega (arith, rank_bound (is_before net) d (darts_of net v));
      order = λ d c hd hc td tc. rank_order (is_before net) (darts_of net v) (strict net v) d c (inside d hd td) (inside c hc tc);
      apart = λ d c hd hc td tc e. rank_apart (is_before net) (darts_of net v) (strict net v) d c (inside d hd td) (inside c hc tc) e;
    }

both_tests : (a b c d x y : ℕ) → (a < b → c < d → x < y) → (x < y → (a < b) × (c < d)) → (ltb a b && ltb c d) ≡ ltb x y
both_tests a b c d x y to from = elim (cases_lt x y) [
  | inl h ↦ rw (lt-ltb a b (from h).0, lt-ltb c d (from h).1, lt-ltb x y h) refl
  | inr h ↦ elim (cases_lt a b) [
    | inl p ↦ elim (cases_lt c d) [ inl q ↦ absurd (omega (arith, to p q)) | inr q ↦ rw (lt-ltb a b p, le-ltb c d q, le-ltb x y h) refl ]
    | inr p ↦ rw (le-ltb a b p, le-ltb x y h) refl
  ]
]

either_test : (a b c d x y : ℕ) → (a < b → x < y) → (c < d → x < y) → (b ≤ a → d ≤ c → y ≤ x) → (ltb a b || ltb c d) ≡ ltb x y
either_test a b c d x y one two none = elim (cases_lt a b) [
  | inl p ↦ rw (lt-ltb a b p, lt-ltb x y (one p)) refl
  | inr p ↦ elim (cases_lt c d) [
    | inl q ↦ rw (le-ltb a b p, lt-ltb c d q, lt-ltb x y (two q)) refl
    | inr q ↦ rw (le-ltb a b p, le-ltb c d q, le-ltb x y (none p q)) refl
  ]
]

-- a dart of a node
pub record IsAt (net : Net) (v d : ℕ) : Type 0 where
  pub inside : d < dart_count net
  pub tail : tail_of net.graph d ≡ v

-- a dart is met before another exactly where the turn to it is less
pub met_turn : (net : Net) (v m : ℕ) (r : ℕ → ℕ) → IsRanked net v m r → (d c e : ℕ) → IsAt net v d
    → IsAt net v c → IsAt net v e → is_met_before net d c e ≡ nat_lt (turn m r d c) (turn m r d e)
met_turn net v m r k d c e hd hc he =
    let dc = k.order d c hd.inside hc.inside hd.tail hc.tail in
    let ce = k.order c e hc.inside he.inside hc.tail he.tail in
    let de = k.order d e hd.inside he.inside hd.tail he.tail in
    let lc = k.below c hc.inside hc.tail in
    let le = k.below e he.inside he.tail in
    let ld = k.below d hd.inside hd.tail in
    let to_c = turn_forms m r d c in
    let to_e = turn_forms m r d e in
    elim (cases_lt (r d) (r e)) [
      | inl a ↦ rw (de, is_met_before) (rw (lt-ltb (r d) (r e) a, dc, ce)
          (both_tests (r d) (r c) (r c) (r e) (turn m r d c) (turn m r d e) (λ p q. grind arith) (λ h. (grind arith, grind arith))))
      | inr a ↦ rw (de, is_met_before) (rw (le-ltb (r d) (r e) a, dc, ce)
          (either_test (r d) (r c) (r c) (r e) (turn m r d c) (turn m r d e) (λ p. grind arith) (λ p. grind arith) (λ p q. grind arith)))
    ]

-- a dart of the set that leaves the node
abbrev pub is_near : Net → (ℕ → Bool) → ℕ → ℕ → Bool
is_near net set v d = set (d / 2) && (tail_of net.graph d == v)

at_same : (net : Net) (v d c : ℕ) → c ≡ d → IsAt net v c → IsAt net v d
at_same net v d c e h = let P : ℕ → Type 0 = λ x. IsAt net v x in subst P e h

first_near : (net : Net) (set : ℕ → Bool) (v m : ℕ) (r : ℕ → ℕ) → IsRanked net v m r → (d c n : ℕ)
    → IsAt net v d → IsAt net v n → c < dart_count net → set (c / 2) ≡ true
    → n ≡ next m r d (members (is_near net set v) c)
    → (first_met net d c n ≡ next m r d (members (is_near net set v) (suc c))) × IsAt net v (first_met net d c n)
first_near net set v m r k d c n hd hn lc sc e = elim (cases_eq (tail_of net.graph c) v) [
  | inl t ↦
      let hc : IsAt net v c = record { inside = lc; tail = t } in
      let here : (tail_of net.graph c == tail_of net.graph d) ≡ true = eq-eqb _ _ (t ∙ sym hd.tail) in
      let near : is_near net set v c ≡ true = and_from _ _ sc (eq-eqb (tail_of net.graph c) v t) in
      let more : members (is_near net set v) (suc c) ≡ c ∷ members (is_near net set v) c = members_in (is_near net set v) c near in
      let b : is_met_before net d c n ≡ nat_lt (turn m r d c) (turn m r d n) = met_turn net v m r k d c n hd hc hn in
      elim (cases_lt (turn m r d c) (turn m r d n)) [
        | inl lt ↦
            let pick : first_met net d c n ≡ c = cond-true _ c n (and_from _ _ here (b ∙ lt-ltb _ _ lt)) in
            let same : nearer m r d c (next m r d (members (is_near net set v) c)) ≡ c =
            rw (
              lt-ltb (turn m r d c) (turn m r d (next m r d (members (is_near net set v) c)))
                  (omega (arith, lt, ap (turn m r d) e)),
              nearer,
            ) in
            (pick ∙ sym same ∙ ap (next m r d) (sym more), at_same net v _ c (sym pick) hc)
        | inr ge ↦
            let pick : first_met net d c n ≡ n = cond-false _ c n (rw (here, b, le-ltb (turn m r d c) (turn m r d n) ge) refl) in
            let same : nearer m r d c (next m r d (members (is_near net set v) c)) ≡ next m r d
            (members (is_near net set v) c) = rw (
              le-ltb (turn m r d c)
                  (turn m r d (next m r d (members (is_near net set v) c))) (omega (arith, ge, ap (turn m r d) e)),
              nearer,
            ) in
            (pick ∙ e ∙ sym same ∙ ap (next m r d) (sym more), at_same net v _ n (sym pick) hn)
      ]
  | inr t ↦
      let here : (tail_of net.graph c == tail_of net.graph d) ≡ false = ne_eqb _ _ (λ q. t (q ∙ hd.tail)) in
      let near : is_near net set v c ≡ false = rw (sc, ne_eqb (tail_of net.graph c) v t) refl in
      let pick : first_met net d c n ≡ n = cond-false _ c n (rw here refl) in
      (pick ∙ e ∙ ap (next m r d) (sym (members_out (is_near net set v) c near)), at_same net v _ n (sym pick) hn)
]

near_out : (net : Net) (set : ℕ → Bool) (v d : ℕ) → set (d / 2) ≡ false → is_near net set v d ≡ false
near_out net set v d h = rw h refl

-- the program of the definition finds what is met first among the darts of the set
pub next_near : (net : Net) (set : ℕ → Bool) (v m : ℕ) (r : ℕ → ℕ) → IsRanked net v m r → (d : ℕ)
    → IsAt net v d → (k : ℕ) → k ≤ length net.graph.edges
    → (next_below net set k d ≡ next m r d (members (is_near net set v) (2 * k))) × IsAt net v (next_below net set k d)
next_near net set v m r q d hd zero h = (refl, hd)
next_near net set v m r q d hd (suc k) h =
    let rest = next_near net set v m r q d hd k (omega arith) in
    let size : 2 * suc k ≡ suc (suc (2 * k)) = omega arith in
    let odd : 2 * k + 1 ≡ suc (2 * k) = omega arith in
    elim (cases_Bool (set k)) [
      | inl t ↦
          let one = first_near net set v m r q d (2 * k) (next_below net set k d) hd rest.1 (omega arith) (ap set (first_half k) ∙ t) rest.0 in
          let two = first_near net set v m r q d (2 * k + 1) (first_met net d (2 * k) (next_below net set k d)) hd one.1
          (omega arith) (ap set (second_half k) ∙ t)
          (one.0 ∙ ap (λ n. next m r d (members (is_near net set v) n)) (sym odd)) in (
            next_in net set k d t ∙ two.0 ∙ ap (λ n. next m r d (members (is_near net set v) n)) (ap suc odd ∙ sym size),
            at_same net v _ _ (sym (next_in net set k d t)) two.1,
          )
      | inr t ↦
          let none : members (is_near net set v) (2 * suc k) ≡ members (is_near net set v) (2 * k) =
          ap (members (is_near net set v)) size ∙ members_out (is_near net set v) (suc (2 * k))
          (near_out net set v (suc (2 * k)) (ap set (omega arith) ∙ t)) ∙
          members_out (is_near net set v) (2 * k) (near_out net set v (2 * k) (ap set (first_half k) ∙ t)) in
          (next_out net set k d t ∙ rest.0 ∙ ap (next m r d) (sym none), at_same net v _ _ (sym (next_out net set k d t)) rest.1)
    ]
