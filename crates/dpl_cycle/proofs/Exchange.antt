-- An exchange of two successors.
use Rattle.std.proofs.Common.{arith, ◌≡◌, ◌≢◌, ℕ, zero, suc, ◌<◌, ◌≤◌, sym, ap, ◌∙◌, inl, inr, subst}
use Rattle.std.proofs.lemmas.Bool.{cases_eq}
use Rattle.dpl_cycle.specs.Cycles.{without, cycles, least, exchange, Permutes, SplitsOrMerges}
use Rattle.dpl_cycle.proofs.Steps.{without_hit, without_miss, cycles_alone, cycles_more, least_alone, least_top}
use Rattle.dpl_cycle.proofs.Steps.{least_under, exchange_first, exchange_second, exchange_other}
use Rattle.dpl_cycle.proofs.Shorter.{shorter, cycles_same}
use Rattle.dpl_cycle.proofs.Least.{least_step, least_le}

-- neither is the greatest number
exchange_below : (n : ℕ) (f g : ℕ → ℕ) → Permutes (suc n) f g → (i j : ℕ) → i < n → j < n → i ≢ j
    → SplitsOrMerges n (without n f) i j → SplitsOrMerges (suc n) f i j
exchange_below n f g p i j hi hj ne law =
    let top : exchange f i j n ≡ f n = exchange_other f i j n (λ k. omega arith) (λ k. omega arith) in
    let same : cycles (without n (exchange f i j)) n ≡ cycles (exchange (without n f) i j) n =
    cycles_same n _ _ (λ x h. elim (cases_eq x i) [
      | inl a ↦ elim (cases_eq (f j) n) [
        | inl q ↦ without_hit n (exchange f i j) x (ap (exchange f i j) a ∙ exchange_first f i j ∙ q) ∙ top ∙
            sym (ap (exchange (without n f) i j) a ∙ exchange_first (without n f) i j ∙ without_hit n f j q)
        | inr q ↦ without_miss n (exchange f i j) x (λ k. q (sym (ap (exchange f i j) a ∙ exchange_first f i j) ∙ k)) ∙
            ap (exchange f i j) a ∙ exchange_first f i j ∙
            sym (ap (exchange (without n f) i j) a ∙ exchange_first (without n f) i j ∙ without_miss n f j q)
      ]
      | inr a ↦ elim (cases_eq x j) [
        | inl b ↦
            let to : exchange f i j x ≡ f i = ap (exchange f i j) b ∙ exchange_second f i j (λ k. ne (sym k)) in
            let to' : exchange (without n f) i j x ≡ without n f i = ap (exchange (without n f) i j) b ∙ exchange_second (without n f) i j (λ k. ne (sym k)) in
            elim (cases_eq (f i) n) [
              | inl q ↦ without_hit n (exchange f i j) x (to ∙ q) ∙ top ∙ sym (to' ∙ without_hit n f i q)
              | inr q ↦ without_miss n (exchange f i j) x (λ k. q (sym to ∙ k)) ∙ to ∙ sym (to' ∙ without_miss n f i q)
            ]
        | inr b ↦
            let to : exchange f i j x ≡ f x = exchange_other f i j x a b in
            let to' : exchange (without n f) i j x ≡ without n f x = exchange_other (without n f) i j x a b in
            elim (cases_eq (f x) n) [
              | inl q ↦ without_hit n (exchange f i j) x (to ∙ q) ∙ top ∙ sym (to' ∙ without_hit n f x q)
              | inr q ↦ without_miss n (exchange f i j) x (λ k. q (sym to ∙ k)) ∙ to ∙ sym (to' ∙ without_miss n f x q)
            ]
      ]
    ]) in
    let li : least f (suc n) i ≡ least (without n f) n i = least_under f n i (λ k. omega arith) in
    let lj : least f (suc n) j ≡ least (without n f) n j = least_under f n j (λ k. omega arith) in
    elim (cases_eq (f n) n) [
      | inl q ↦
          let a : cycles f (suc n) ≡ suc (cycles (without n f) n) = cycles_alone f n q in
          let b : cycles (exchange f i j) (suc n) ≡ suc (cycles (without n (exchange f i j)) n) = cycles_alone (exchange f i j) n (top ∙ q) in
          record {
            splits = λ k. omega (arith, a, b, same, law.splits (sym li ∙ k ∙ lj));
            merges = λ k. omega (arith, a, b, same, law.merges (λ m. k (li ∙ m ∙ sym lj)));
          }
      | inr q ↦
          let a : cycles f (suc n) ≡ cycles (without n f) n = cycles_more f n q in
          let b : cycles (exchange f i j) (suc n) ≡ cycles (without n (exchange f i j)) n = cycles_more (exchange f i j) n (λ k. q (sym top ∙ k)) in
          record {
            splits = λ k. omega (arith, a, b, same, law.splits (sym li ∙ k ∙ lj));
            merges = λ k. omega (arith, a, b, same, law.merges (λ m. k (li ∙ m ∙ sym lj)));
          }
    ]

-- the second is the greatest number
exchange_top : (n : ℕ) (f g : ℕ → ℕ) → Permutes (suc n) f g → (i : ℕ) → i < n
    → ((m : ℕ) → m < n → i ≢ m → SplitsOrMerges n (without n f) i m) → SplitsOrMerges (suc n) f i n
exchange_top n f g p i hi law =
    let e = exchange f i n in
    let first : e i ≡ f n = exchange_first f i n in
    let second : e n ≡ f i = exchange_second f i n (λ k. omega arith) in
    let other = λ (x : ℕ) (a : x ≢ i) (b : x ≢ n). exchange_other f i n x a b in
    let li : least f (suc n) i ≡ least (without n f) n i = least_under f n i (λ k. omega arith) in
    let q = shorter n f g p in
    elim (cases_eq (f n) n) [
      | inl alone ↦
          let fi : f i ≢ n = λ k. omega (arith, sym (p.back n (omega arith)) ∙ ap g (alone ∙ sym k) ∙ p.back i (omega arith)) in
          let same : cycles (without n e) n ≡ cycles (without n f) n = cycles_same n _ _ (λ x h. elim (cases_eq x i) [
            | inl a ↦ ap (without n e) a ∙ without_hit n e i (first ∙ alone) ∙ second ∙ sym (ap (without n f) a ∙ without_miss n f i fi)
            | inr a ↦
                let to : e x ≡ f x = other x a (λ k. omega arith) in
                let fx : f x ≢ n = λ k. omega (arith, sym (p.back n (omega arith)) ∙ ap g (alone ∙ sym k) ∙ p.back x (omega arith)) in
                without_miss n e x (λ k. fx (sym to ∙ k)) ∙ to ∙ sym (without_miss n f x fx)
          ]) in
          let a : cycles f (suc n) ≡ suc (cycles (without n f) n) = cycles_alone f n alone in
          let b : cycles e (suc n) ≡ cycles (without n e) n = cycles_more e n (λ k. fi (sym second ∙ k)) in
          let lower : least (without n f) n i ≤ i = least_le n (without n f) (without n g) q i hi in
          record {
            splits = λ k. absurd (omega (arith, sym li ∙ k ∙ least_alone f n alone));
            merges = λ k. omega (arith, a, b, same);
          }
      | inr ne ↦ elim (cases_eq (f i) n) [
        | inl hit ↦
            let same : cycles (without n e) n ≡ cycles (without n f) n = cycles_same n _ _ (λ x h. elim (cases_eq x i) [
              | inl a ↦ ap (without n e) a ∙ without_miss n e i (λ k. ne (sym first ∙ k)) ∙ first ∙ sym (ap (without n f) a ∙ without_hit n f i hit)
              | inr a ↦
                  let to : e x ≡ f x = other x a (λ k. omega arith) in
                  let fx : f x ≢ n = λ k. a (sym (p.back x (omega arith)) ∙ ap g (k ∙ sym hit) ∙ p.back i (omega arith)) in
                  without_miss n e x (λ k. fx (sym to ∙ k)) ∙ to ∙ sym (without_miss n f x fx)
            ]) in
            let a : cycles f (suc n) ≡ cycles (without n f) n = cycles_more f n ne in
            let b : cycles e (suc n) ≡ suc (cycles (without n e) n) = cycles_alone e n (second ∙ hit) in
            let ln : least f (suc n) n ≡ least (without n f) n i =
            least_top f n ne ∙ ap (least (without n f) n) (sym (without_hit n f i hit)) ∙ least_step n (without n f) (without n g) q i hi in
            record {
              splits = λ k. omega (arith, a, b, same);
              merges = λ k. absurd (k (li ∙ sym ln));
            }
        | inr miss ↦
            let m = g n in
            let fm : f m ≡ n = p.forth n (omega arith) in
            let mn : m ≢ n = λ k. ne (sym (ap f k) ∙ fm) in
            let mi : i ≢ m = λ k. miss (ap f k ∙ fm) in
            let lt : m < n = omega (arith, p.from n (omega arith)) in
            let same : cycles (without n e) n ≡ cycles (exchange (without n f) i m) n = cycles_same n _ _ (λ x h. elim (cases_eq x i) [
              | inl a ↦ ap (without n e) a ∙ without_miss n e i (λ k. ne (sym first ∙ k)) ∙ first ∙
                  sym (ap (exchange (without n f) i m) a ∙ exchange_first (without n f) i m ∙ without_hit n f m fm)
              | inr a ↦
                  let to : e x ≡ f x = other x a (λ k. omega arith) in
                  elim (cases_eq x m) [
                    | inl b ↦ without_hit n e x (to ∙ ap f b ∙ fm) ∙ second ∙
                        sym (ap (exchange (without n f) i m) b ∙ exchange_second (without n f) i m (λ k. mi (sym k)) ∙
                        without_miss n f i miss)
                    | inr b ↦
                        let fx : f x ≢ n = λ k. b (sym (p.back x (omega arith)) ∙ ap g k) in
                        without_miss n e x (λ k. fx (sym to ∙ k)) ∙ to ∙ sym (exchange_other (without n f) i m x a b ∙ without_miss n f x fx)
                  ]
            ]) in
            let a : cycles f (suc n) ≡ cycles (without n f) n = cycles_more f n ne in
            let b : cycles e (suc n) ≡ cycles (without n e) n = cycles_more e n (λ k. miss (sym second ∙ k)) in
            let ln : least f (suc n) n ≡ least (without n f) n m =
            least_top f n ne ∙ ap (least (without n f) n) (sym (without_hit n f m fm)) ∙ least_step n (without n f) (without n g) q m lt in
            let l = law m lt mi in
            record {
              splits = λ k. omega (arith, a, b, same, l.splits (sym li ∙ k ∙ ln));
              merges = λ k. omega (arith, a, b, same, l.merges (λ t. k (li ∙ t ∙ sym ln)));
            }
      ]
    ]

pub exchange_turned : (f : ℕ → ℕ) (i j x : ℕ) → i ≢ j → exchange f i j x ≡ exchange f j i x
exchange_turned f i j x ne = elim (cases_eq x i) [
  | inl a ↦ ap (exchange f i j) a ∙ exchange_first f i j ∙ sym (ap (exchange f j i) a ∙ exchange_second f j i ne)
  | inr a ↦ elim (cases_eq x j) [
    | inl b ↦ ap (exchange f i j) b ∙ exchange_second f i j (λ k. ne (sym k)) ∙ sym (ap (exchange f j i) b ∙ exchange_first f j i)
    | inr b ↦ exchange_other f i j x a b ∙ sym (exchange_other f j i x b a)
  ]
]

turned_law : (n : ℕ) (f : ℕ → ℕ) (i j : ℕ) → i ≢ j → SplitsOrMerges n f i j → SplitsOrMerges n f j i
turned_law n f i j ne law =
    let same : cycles (exchange f i j) n ≡ cycles (exchange f j i) n = cycles_same n _ _ (λ x h. exchange_turned f i j x ne) in
    record {
      splits = λ k. omega (arith, same, law.splits (sym k));
      merges = λ k. omega (arith, same, law.merges (λ t. k (sym t)));
    }

-- an exchange splits one cycle or merges two
pub exchange_law : (n : ℕ) (f g : ℕ → ℕ) → Permutes n f g → (i j : ℕ) → i < n → j < n → i ≢ j → SplitsOrMerges n f i j
exchange_law zero f g p i j hi hj ne = absurd (omega arith)
exchange_law (suc n) f g p i j hi hj ne =
    let more = λ (a b : ℕ) (ha : a < n) (hb : b < n) (k : a ≢ b). exchange_law n (without n f) (without n g) (shorter n f g p) a b ha hb k in
    elim (cases_eq j n) [
      | inl t ↦
          let hi' : i < n = omega arith in
          let P : ℕ → Type 0 = λ y. SplitsOrMerges (suc n) f i y in
          subst P (sym t) (exchange_top n f g p i hi' (λ m h k. more i m hi' h k))
      | inr t ↦
          let hj' : j < n = omega arith in
          elim (cases_eq i n) [
            | inl s ↦
                let P : ℕ → Type 0 = λ y. SplitsOrMerges (suc n) f y j in
                subst P (sym s) (turned_law (suc n) f j n t (exchange_top n f g p j hj' (λ m h k. more j m hj' h k)))
            | inr s ↦
                let hi' : i < n = omega arith in
                exchange_below n f g p i j hi' hj' ne (more i j hi' hj' ne)
          ]
    ]

pub cycles_le : (f : ℕ → ℕ) (n : ℕ) → cycles f n ≤ n
cycles_le f zero = omega arith
cycles_le f (suc n) = elim (cases_eq (f n) n) [
  | inl q ↦ omega (arith, cycles_alone f n q, cycles_le (without n f) n)
  | inr q ↦ omega (arith, cycles_more f n q, cycles_le (without n f) n)
]
