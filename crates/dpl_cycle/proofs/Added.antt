-- A new pair of numbers put into the cycles of two others.
use Rattle.std.proofs.Common.{arith, ◌≡◌, ◌≢◌, ℕ, ◌+◌, ◌<◌, ◌==◌, refl, sym, ap, ◌∙◌, true, false, inl, inr, ◌⊎◌, eq-eqb}
use Rattle.std.proofs.lemmas.Bool.{ne_eqb, cases_eq}
use Rattle.dpl_cycle.specs.Cycles.{cycles, least, exchange, Permutes}
use Rattle.dpl_cycle.proofs.Steps.{exchange_first, exchange_second, exchange_other}
use Rattle.dpl_cycle.proofs.Least.{least_step, label_least}
use Rattle.dpl_cycle.proofs.Exchange.{exchange_law}
use Rattle.dpl_cycle.proofs.Classes.{exchange_permutes, merged_together, merge_keeps, merge_only, joined_hit, joined_miss, one_to_one}

-- a cycle of two numbers has no other
pair_label : ℕ → ℕ → ℕ → ℕ
pair_label c d z = elim (z == c) [ true ↦ 0 | false ↦ elim (z == d) [ true ↦ 0 | false ↦ 1 ] ]

pair_in : (c d z : ℕ) → (z ≡ c) ⊎ (z ≡ d) → pair_label c d z ≡ 0
unfolding pair_label
pair_in c d z h = elim (cases_eq z c) [
  | inl a ↦ rw (eq-eqb z c a, pair_label)
  | inr a ↦ elim h [ inl b ↦ absurd (a b) | inr b ↦ rw (ne_eqb z c a, eq-eqb z d b, pair_label) ]
]

pair_out : (c d z : ℕ) → z ≢ c → z ≢ d → pair_label c d z ≡ 1
unfolding pair_label
pair_out c d z a b = rw (ne_eqb z c a, ne_eqb z d b, pair_label)

pub pair_apart : (n : ℕ) (f g : ℕ → ℕ) → Permutes n f g → (c d : ℕ) → c < n → d < n → f c ≡ d → f d ≡ c → (z : ℕ) →
    z < n → z ≢ c → z ≢ d → least f n z ≢ least f n d
pair_apart n f g p c d hc hd fc fd z hz zc zd e =
    let label = pair_label c d in
    let along : (x : ℕ) → x < n → label (f x) ≡ label x = λ x h. elim (cases_eq x c) [
      | inl a ↦ pair_in c d (f x) (inr (ap f a ∙ fc)) ∙ sym (pair_in c d x (inl a))
      | inr a ↦ elim (cases_eq x d) [
        | inl b ↦ pair_in c d (f x) (inl (ap f b ∙ fd)) ∙ sym (pair_in c d x (inr b))
        | inr b ↦ pair_out c d (f x) (λ k. b (one_to_one n f g p x d h hd (k ∙ sym fd)))
            (λ k. a (one_to_one n f g p x c h hc (k ∙ sym fc))) ∙ sym (pair_out c d x a b)
      ]
    ] in
    omega (
      arith,
      sym (label_least n f g p label along z hz) ∙ ap label e ∙ label_least n f g p label along d hd,
      pair_out c d z zc zd,
      pair_in c d d (inr refl),
    )

-- Two darts of a new edge, which were a cycle of their own, are put after i and after j. Where i and j were on one
-- face it falls into two, and the count with the edge's own face stays; otherwise two faces become one.
pub edge_added : (n : ℕ) (f g : ℕ → ℕ) → Permutes n f g → (i j c d : ℕ) → i < n → j < n → c < n → d < n → f c ≡ d →
    f d ≡ c → c ≢ d → i ≢ c → i ≢ d → j ≢ c → j ≢ d →
    (least f n i ≡ least f n j → cycles (exchange (exchange f i d) j c) n ≡ cycles f n) ×
    ((least f n i ≢ least f n j) → cycles (exchange (exchange f i d) j c) n + 2 ≡ cycles f n)
edge_added n f g p i j c d hi hj hc hd fc fd cd ic id jc jd =
    let f1 = exchange f i d in
    let p1 = exchange_permutes n f g p i d hi hd id in
    let apart : least f n i ≢ least f n d = pair_apart n f g p c d hc hd fc fd i hi ic id in
    let japart : least f n j ≢ least f n d = pair_apart n f g p c d hc hd fc fd j hj jc jd in
    let together : least f n c ≡ least f n d = sym (least_step n f g p c hc) ∙ ap (least f n) fc in
    let one = (exchange_law n f g p i d hi hd id).merges apart in
    let two = exchange_law n f1 _ p1 j c hj hc jc in (
      λ e.
          let q : least f1 n j ≡ least f1 n c =
          sym (merge_keeps n f g p i d hi hd id apart i j hi hj e) ∙ merged_together n f g p i d hi hd id apart ∙
          sym (merge_keeps n f g p i d hi hd id apart c d hc hd together) in
          omega (arith, one, two.splits q),
      λ k.
          let q : least f1 n j ≢ least f1 n c = λ e.
          k (sym (joined_hit f n i d c together) ∙ sym (merge_only n f g p i d hi hd id j c hj hc e) ∙ joined_miss f n i d j japart) in
          omega (arith, one, two.merges q),
    )

-- a new edge's darts c and d, which were a cycle of their own, put after i and after j
abbrev pub added : (ℕ → ℕ) → ℕ → ℕ → ℕ → ℕ → ℕ → ℕ
added f i j c d = exchange (exchange f i d) j c

pub record IsNew (n : ℕ) (f : ℕ → ℕ) (i j c d : ℕ) : Type 0 where
  pub i_in : i < n
  pub j_in : j < n
  pub c_in : c < n
  pub d_in : d < n
  pub there : f c ≡ d
  pub again : f d ≡ c
  pub cd : c ≢ d
  pub ij : i ≢ j
  pub ic : i ≢ c
  pub id : i ≢ d
  pub jc : j ≢ c
  pub jd : j ≢ d

-- where the four lead now
pub added_i : (n : ℕ) (f : ℕ → ℕ) (i j c d : ℕ) → IsNew n f i j c d → added f i j c d i ≡ c
added_i n f i j c d q = exchange_other (exchange f i d) j c i q.ij q.ic ∙ exchange_first f i d ∙ q.again

pub added_j : (n : ℕ) (f : ℕ → ℕ) (i j c d : ℕ) → IsNew n f i j c d → added f i j c d j ≡ d
added_j n f i j c d q = exchange_first (exchange f i d) j c ∙ exchange_other f i d c (λ k. q.ic (sym k)) q.cd ∙ q.there

pub added_c : (n : ℕ) (f : ℕ → ℕ) (i j c d : ℕ) → IsNew n f i j c d → added f i j c d c ≡ f j
added_c n f i j c d q = exchange_second (exchange f i d) j c (λ k. q.jc (sym k)) ∙ exchange_other f i d j (λ k. q.ij (sym k)) q.jd

pub added_d : (n : ℕ) (f : ℕ → ℕ) (i j c d : ℕ) → IsNew n f i j c d → added f i j c d d ≡ f i
added_d n f i j c d q = exchange_other (exchange f i d) j c d (λ k. q.jd (sym k)) (λ k. q.cd (sym k)) ∙ exchange_second f i d (λ k. q.id (sym k))

pub added_other : (f : ℕ → ℕ) (i j c d z : ℕ) → z ≢ i → z ≢ j → z ≢ c → z ≢ d → added f i j c d z ≡ f z
added_other f i j c d z zi zj zc zd = exchange_other (exchange f i d) j c z zj zc ∙ exchange_other f i d z zi zd
