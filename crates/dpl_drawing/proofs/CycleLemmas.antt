-- Rings with names before and after an exchange.
use Rattle.std.proofs.Common.{arith, ◌≡◌, ◌≢◌, ℕ, ◌+◌, ◌<◌, sym, ap, ◌∙◌, inl, inr, ◌⊎◌, List, length, get_or, subst}
use Rattle.std.specs.Prelude.{slice_index, swap}
use Rattle.std.proofs.lemmas.Bool.{cases_eq}
use Rattle.dpl_cycle.specs.Cycles.{least, exchange}
use Rattle.dpl_cycle.proofs.Fixed.{least_fixed}
use Rattle.dpl_cycle.proofs.Shorter.{least_same}
use Rattle.dpl_ring.specs.Rings.{IsRing, least_of}
use Rattle.dpl_ring.proofs.RingLemmas.{swap_value, length_swap}
use Rattle.dpl_drawing.specs.Named.{AreNames, IsNamed}
use Rattle.dpl_drawing.specs.Marks.{MarksCycle}
use Rattle.dpl_drawing.proofs.ExchangeNames.{AreNamesOf, IsPair, names_split, names_merge}

-- each number alone, named by itself
pub named_alone : (nexts names : List ℕ) (n : ℕ) → length nexts ≡ n → length names ≡ n
    → ((k : ℕ) → k < length nexts → get_or nexts k 0 ≡ k)
    → ((k : ℕ) → k < length names → get_or names k 0 ≡ k) → IsNamed nexts names n
named_alone nexts names n l m alone own =
    let low : (x : ℕ) → x < length nexts → least_of nexts x ≡ x = λ x h. least_fixed (length nexts) (slice_index nexts) x (alone x h) in
    record {
      lengths = m ∙ sym l;
      below = λ x h. omega (arith, own x (omega (arith, l, m)), l);
      named = λ x y hx hy.
          let ox = own x (omega (arith, l, m)) in
          let oy = own y (omega (arith, l, m)) in
          (λ e. low x hx ∙ sym ox ∙ e ∙ oy ∙ sym (low y hy), λ e. ox ∙ sym (low x hx) ∙ e ∙ low y hy ∙ sym oy);
    }

-- the cycles of the list after an exchange are those of the exchanged permutation
pub least_swap : (xs : List ℕ) (i j x : ℕ) → i < length xs → j < length xs → i ≢ j
    → least_of (swap xs i j) x ≡ least (exchange (slice_index xs) i j) (length xs) x
least_swap xs i j x hi hj ne = ap (λ n. least (slice_index (swap xs i j)) n x) (length_swap xs i j hi hj) ∙
    least_same (length xs) _ _ (λ z h. swap_value xs i j hi hj ne z) x

names_at : (xs names : List ℕ) (i j : ℕ) → i < length xs → j < length xs → i ≢ j
    → AreNamesOf (length xs) (exchange (slice_index xs) i j) (slice_index names)
    → AreNames (swap xs i j) names
names_at xs names i j hi hj ne k x y hx hy =
    let l = length_swap xs i j hi hj in
    let both = k x y (omega (arith, l)) (omega (arith, l)) in
    let ex = least_swap xs i j x hi hj ne in
    let ey = least_swap xs i j y hi hj ne in
    (λ e. ex ∙ both.0 e ∙ sym ey, λ e. both.1 (sym ex ∙ e ∙ ey))

-- where an exchange splits a cycle and one half takes a new name, the names are those of the cycles
pub named_split : (xs ys names next : List ℕ) (i j s fresh : ℕ) → IsRing xs → IsNamed xs names fresh
    → i < length xs → j < length xs → i ≢ j → least_of xs i ≡ least_of xs j → ys ≡ swap xs i j
    → (s ≡ i) ⊎ (s ≡ j) → MarksCycle ys s fresh names next → IsNamed ys next (fresh + 1)
named_split xs ys names next i j s fresh ring named hi hj ne together e side marks =
    let l : length ys ≡ length xs = ap length e ∙ length_swap xs i j hi hj in
    let low : (z : ℕ) → least_of ys z ≡ least (exchange (slice_index xs) i j) (length xs) z =
    λ z. ap (λ (zs : List ℕ). least_of zs z) e ∙ least_swap xs i j z hi hj ne in
    let marked : (z : ℕ) → z < length xs → least (exchange (slice_index xs) i j) (length xs) z ≡ least
    (exchange (slice_index xs) i j) (length xs) s → get_or next z 0 ≡ fresh = λ z h q.
    marks.marked z (omega (arith, l)) (low z ∙ q ∙ sym (low s)) in
    let others : (z : ℕ) → z < length xs → least (exchange (slice_index xs) i j) (length xs) z ≢ least
    (exchange (slice_index xs) i j) (length xs) s → get_or next z 0 ≡ get_or names z 0 = λ z h q.
    marks.others z (omega (arith, l)) (λ r. q (sym (low z) ∙ r ∙ low s)) in
    let all = names_at xs next i j hi hj ne (names_split (length xs) _ _ ring.2 i j hi hj ne together
    (slice_index names) (slice_index next) fresh s named.named (λ z h r. omega (arith, named.below z h, r)) side
    marked others) in
    record {
      lengths = marks.lengths ∙ named.lengths ∙ sym l;
      below = λ z h. elim (cases_eq (least_of ys z) (least_of ys s)) [
        | inl q ↦ omega (arith, marks.marked z h q)
        | inr q ↦ omega (arith, marks.others z h q, named.below z (omega (arith, l)))
      ];
      named = λ x y hx hy.
          let both = all x y (omega (arith, ap length e)) (omega (arith, ap length e)) in
          let at : (z : ℕ) → least_of ys z ≡ least_of (swap xs i j) z = λ z. ap (λ (zs : List ℕ). least_of zs z) e in
          (λ q. at x ∙ both.0 q ∙ sym (at y), λ q. both.1 (sym (at x) ∙ q ∙ at y));
    }

-- where an exchange joins two cycles and one takes the name of the other, the names are those of the cycles
pub named_merge : (xs ys names next : List ℕ) (i j s t fresh : ℕ) → IsRing xs → IsNamed xs names fresh
    → i < length xs → j < length xs → s < length xs → t < length xs → least_of xs i ≢ least_of xs j
    → ys ≡ swap xs i j → IsPair i j s t → MarksCycle xs s (get_or names t 0) names next
    → IsNamed ys next fresh
named_merge xs ys names next i j s t fresh ring named hi hj hs ht apart e side marks =
    let ne : i ≢ j = λ q. apart (ap (least_of xs) q) in
    let l : length ys ≡ length xs = ap length e ∙ length_swap xs i j hi hj in
    let all = names_at xs next i j hi hj ne (names_merge (length xs) _ _ ring.2 i j hi hj ne apart (slice_index names)
    (slice_index next) s t named.named hs ht side marks.marked marks.others) in
    record {
      lengths = marks.lengths ∙ named.lengths ∙ sym l;
      below = λ z h. elim (cases_eq (least_of xs z) (least_of xs s)) [
        | inl q ↦ omega (arith, marks.marked z (omega (arith, l)) q, named.below t ht)
        | inr q ↦ omega (arith, marks.others z (omega (arith, l)) q, named.below z (omega (arith, l)))
      ];
      named = λ x y hx hy.
          let both = all x y (omega (arith, ap length e)) (omega (arith, ap length e)) in
          let at : (z : ℕ) → least_of ys z ≡ least_of (swap xs i j) z = λ z. ap (λ (zs : List ℕ). least_of zs z) e in
          (λ q. at x ∙ both.0 q ∙ sym (at y), λ q. both.1 (sym (at x) ∙ q ∙ at y));
    }

-- the same names name the same cycles
pub named_at : (nexts names next : List ℕ) (fresh : ℕ) → next ≡ names → IsNamed nexts names fresh → IsNamed nexts next fresh
named_at nexts names next fresh e k = let P : List ℕ → Type 0 = λ xs. IsNamed nexts xs fresh in subst P (sym e) k

-- the first of a pair is one of its two numbers
pub first_of : (i j s t : ℕ) → IsPair i j s t → (s ≡ i) ⊎ (s ≡ j)
first_of i j s t side = elim side [ inl q ↦ inl q.0 | inr q ↦ inr q.0 ]

-- both of a pair are numbers of the ring
pub pair_below : (n i j s t : ℕ) → IsPair i j s t → i < n → j < n → (s < n) × (t < n)
pair_below n i j s t side hi hj = elim side [ inl q ↦ (omega (arith, q.0), omega (arith, q.1)) | inr q ↦ (omega (arith, q.0), omega (arith, q.1)) ]

-- a cycle is marked with an equal label too
pub mark_at : (ring : List ℕ) (start label other : ℕ) (old new : List ℕ) → label ≡ other
    → MarksCycle ring start label old new → MarksCycle ring start other old new
mark_at ring start label other old new e k = let P : ℕ → Type 0 = λ x. MarksCycle ring start x old new in subst P e k
