use Rattle.std.proofs.Common.{arith, ◌+◌, ◌≡◌, ◌≢◌, ℕ, ◌<◌, sym, ap, ◌∙◌, inl, inr, List, length, get_or, set, length-set, get_or-set_same, get_or-set_other}
use Rattle.std.proofs.lemmas.Bool.{cases_eq}
use Rattle.std.specs.Prelude.{swap, slice_index}
use Rattle.std.proofs.lemmas.List.Edits.{swap_is}
use Rattle.dpl_cycle.specs.Cycles.{cycles, exchange}
use Rattle.dpl_ring.specs.Rings.{IsKept, cycle_count, least_of}
use Rattle.dpl_cycle.proofs.Shorter.{cycles_same}
use Rattle.dpl_cycle.proofs.Steps.{exchange_first, exchange_second, exchange_other}
use Rattle.dpl_cycle.proofs.Exchange.{exchange_law}

-- ---- a list after two writes

pub at_second : (xs : List ℕ) (i j b a : ℕ) → j < length xs → get_or (set (set xs i b) j a) j 0 ≡ a
at_second xs i j b a h = get_or-set_same (set xs i b) j a 0 (omega (arith, length-set xs i b))

pub at_first : (xs : List ℕ) (i j b a : ℕ) → i < length xs → i ≢ j → get_or (set (set xs i b) j a) i 0 ≡ b
at_first xs i j b a h k = get_or-set_other (set xs i b) j i a 0 k ∙ get_or-set_same xs i b 0 h

pub at_neither : (xs : List ℕ) (i j b a x : ℕ) → x ≢ i → x ≢ j → get_or (set (set xs i b) j a) x 0 ≡ get_or xs x 0
at_neither xs i j b a x h k = get_or-set_other (set xs i b) j x a 0 k ∙ get_or-set_other xs i x b 0 h

-- the two halves of an exchange: where f leads from i to a and from j to b, the lists lead there and back
half : (xs ys : List ℕ) (i j a b : ℕ) → IsKept xs ys → i < length xs → j < length xs → get_or xs i 0 ≡ a
    → get_or xs j 0 ≡ b → (x : ℕ) → x < length xs
    → (get_or (set (set xs i b) j a) x 0 < length xs) × (get_or (set (set ys b i) a j) (get_or (set (set xs i b) j a) x 0) 0 ≡ x)
half xs ys i j a b p hi hj ea eb x h =
    let la : a < length ys = omega (arith, p.inverse.to i hi, ea, p.lengths) in
    let lb : b < length ys = omega (arith, p.inverse.to j hj, eb, p.lengths) in
    elim (cases_eq x j) [
      | inl s ↦
          let e : get_or (set (set xs i b) j a) x 0 ≡ a = ap (λ y. get_or (set (set xs i b) j a) y 0) s ∙ at_second xs i j b a hj in
          (omega (arith, e, la, p.lengths), ap (λ y. get_or (set (set ys b i) a j) y 0) e ∙ at_second ys b a i j la ∙ sym s)
      | inr s ↦ elim (cases_eq x i) [
        | inl t ↦
            let e : get_or (set (set xs i b) j a) x 0 ≡ b = ap (λ y. get_or (set (set xs i b) j a) y 0) t ∙ at_first xs i j b a hi (λ k. s (t ∙ k)) in
            let ne : b ≢ a = λ k. s (t ∙ sym (p.inverse.back i hi) ∙ ap (λ y. get_or ys y 0) (ea ∙ sym k ∙ sym eb) ∙ p.inverse.back j hj) in
            (omega (arith, e, lb, p.lengths), ap (λ y. get_or (set (set ys b i) a j) y 0) e ∙ at_first ys b a i j lb ne ∙ sym t)
        | inr t ↦
            let e : get_or (set (set xs i b) j a) x 0 ≡ get_or xs x 0 = at_neither xs i j b a x t s in
            let na : get_or xs x 0 ≢ a = λ k. t (sym (p.inverse.back x h) ∙ ap (λ y. get_or ys y 0) (k ∙ sym ea) ∙ p.inverse.back i hi) in
            let nb : get_or xs x 0 ≢ b = λ k. s (sym (p.inverse.back x h) ∙ ap (λ y. get_or ys y 0) (k ∙ sym eb) ∙ p.inverse.back j hj) in (
              omega (arith, e, p.inverse.to x h),
              ap (λ y. get_or (set (set ys b i) a j) y 0) e ∙
                  at_neither ys b a i j (get_or xs x 0) nb na ∙ p.inverse.back x h,
            )
      ]
    ]

turned_kept : (xs ys : List ℕ) → IsKept xs ys → IsKept ys xs
turned_kept xs ys p = record {
  lengths = sym p.lengths;
  small = omega (arith, p.lengths, p.small);
  inverse = record {
    to = λ x h. omega (arith, p.lengths, p.inverse.from x (omega (arith, p.lengths)));
    from = λ x h. omega (arith, p.lengths, p.inverse.to x (omega (arith, p.lengths)));
    back = λ x h. p.inverse.forth x (omega (arith, p.lengths));
    forth = λ x h. p.inverse.back x (omega (arith, p.lengths));
  };
}

pub spliced : (xs ys : List ℕ) (i j a b : ℕ) → IsKept xs ys → i < length xs → j < length xs
    → get_or xs i 0 ≡ a → get_or xs j 0 ≡ b → IsKept (set (set xs i b) j a) (set (set ys b i) a j)
spliced xs ys i j a b p hi hj ea eb =
    let l : length (set (set xs i b) j a) ≡ length xs = length-set (set xs i b) j a ∙ length-set xs i b in
    let l' : length (set (set ys b i) a j) ≡ length ys = length-set (set ys b i) a j ∙ length-set ys b i in
    let la : a < length ys = omega (arith, p.inverse.to i hi, ea, p.lengths) in
    let lb : b < length ys = omega (arith, p.inverse.to j hj, eb, p.lengths) in
    let one = half xs ys i j a b p hi hj ea eb in
    let two = half ys xs b a j i (turned_kept xs ys p) lb la (ap (λ y. get_or ys y 0) (sym eb) ∙ p.inverse.back j hj)
    (ap (λ y. get_or ys y 0) (sym ea) ∙ p.inverse.back i hi) in
    record {
      lengths = l' ∙ p.lengths ∙ sym l;
      small = omega (arith, l, p.small);
      inverse = record {
        to = λ x h. omega (arith, l, (one x (omega (arith, l))).0);
        from = λ x h. omega (arith, l, p.lengths, (two x (omega (arith, l, p.lengths))).0);
        back = λ x h. (one x (omega (arith, l))).1;
        forth = λ x h. (two x (omega (arith, l, p.lengths))).1;
      };
    }

-- ---- the list of an exchange is the exchange

pub swap_value : (xs : List ℕ) (i j : ℕ) → i < length xs → j < length xs → i ≢ j → (x : ℕ) → get_or (swap xs i j) x 0 ≡ exchange (slice_index xs) i j x
swap_value xs i j hi hj ne x =
    let f = slice_index xs in
    let written = ap (λ (l : List ℕ). get_or l x 0) (sym (swap_is xs i j 0 hi hj)) in
    elim (cases_eq x i) [
      | inl t ↦ written ∙ ap (λ y. get_or (set (set xs i (get_or xs j 0)) j (get_or xs i 0)) y 0) t ∙
          at_first xs i j _ _ hi ne ∙ sym (ap (exchange f i j) t ∙ exchange_first f i j)
      | inr t ↦ elim (cases_eq x j) [
        | inl s ↦ written ∙ ap (λ y. get_or (set (set xs i (get_or xs j 0)) j (get_or xs i 0)) y 0) s ∙
            at_second xs i j _ _ hj ∙ sym (ap (exchange f i j) s ∙ exchange_second f i j (λ k. ne (sym k)))
        | inr s ↦ written ∙ at_neither xs i j _ _ x t s ∙ sym (exchange_other f i j x t s)
      ]
    ]

pub length_swap : (xs : List ℕ) (i j : ℕ) → i < length xs → j < length xs → length (swap xs i j) ≡ length xs
length_swap xs i j hi hj = ap length (sym (swap_is xs i j 0 hi hj)) ∙ length-set (set xs i (get_or xs j 0)) j _ ∙ length-set xs i _

pub cycle_count_swap : (xs ys zs : List ℕ) (i j : ℕ) → IsKept xs ys → i < length xs → j < length xs → i ≢ j
    → zs ≡ swap xs i j → cycle_count zs ≡ cycles (exchange (slice_index xs) i j) (length xs)
cycle_count_swap xs ys zs i j p hi hj ne e =
    ap cycle_count e ∙ ap (cycles (slice_index (swap xs i j))) (length_swap xs i j hi hj) ∙ cycles_same (length xs) _ _ (λ x h. swap_value xs i j hi hj ne x)

pub swap_splits : (xs ys zs : List ℕ) (i j : ℕ) → IsKept xs ys → i < length xs → j < length xs → zs ≡ swap xs i j →
    i ≢ j → least_of xs i ≡ least_of xs j → cycle_count zs ≡ cycle_count xs + 1
swap_splits xs ys zs i j p hi hj e ne k =
    cycle_count_swap xs ys zs i j p hi hj ne e ∙ (exchange_law (length xs) _ _ p.inverse i j hi hj ne).splits k

pub swap_merges : (xs ys zs : List ℕ) (i j : ℕ) → IsKept xs ys → i < length xs → j < length xs → zs ≡ swap xs i j →
    i ≢ j → (least_of xs i ≡ least_of xs j → ⊥) → cycle_count zs + 1 ≡ cycle_count xs
swap_merges xs ys zs i j p hi hj e ne k =
    ap (λ n. n + 1) (cycle_count_swap xs ys zs i j p hi hj ne e) ∙ (exchange_law (length xs) _ _ p.inverse i j hi hj ne).merges k

pub written_swap : (xs : List ℕ) (i j a b : ℕ) → i < length xs → j < length xs → get_or xs i 0 ≡ a → get_or xs j 0 ≡ b → set (set xs i b) j a ≡ swap xs i j
written_swap xs i j a b hi hj ea eb = rw (← ea, ← eb) (swap_is xs i j 0 hi hj)
