-- What is not taken out.
use Rattle.std.proofs.Common.{arith, ◌≡◌, ◌≢◌, ℕ, zero, suc, ◌<◌, inl, inr, Bool, true, false, List, length}
use Rattle.std.proofs.Common.{refl, sym, ap, subst, ◌∙◌, slice_index_or, slice_set}
use Rattle.std.specs.Prelude.{Option, Some, None, is_none, if◌then◌else◌}
use Rattle.std.proofs.lemmas.Bool.{cases_eq, cases_lt, both_ways}
use Rattle.std.proofs.lemmas.List.{get_or-set_same, get_or-set_other, get_or_past, length-set}
use Rattle.std.proofs.lemmas.Option.{same_Some}
use Rattle.dpl_sign.specs.declared.edges.Edge.{Edge}
use Rattle.dpl_stay.specs.Pairs.{at}
use Rattle.dpl_stay.specs.Marks.{edge_in, without_ends, unset, without_partners, without_spoiled}

-- ---- one number taken out

set_here : (xs : List Bool) (i : ℕ) → slice_index_or (slice_set xs i false) i false ≡ false
set_here xs i = elim (cases_lt i (length xs)) [
  | inl low ↦ get_or-set_same xs i false false low
  | inr past ↦ get_or_past (slice_set xs i false) i false (let n = length-set xs i false in omega (arith, past, n))
]

set_there : (xs : List Bool) (i v : ℕ) → i ≢ v → slice_index_or (slice_set xs i false) v false ≡ slice_index_or xs v false
set_there xs i v other = get_or-set_other xs i v false false (λ e. other (sym e))

pub set_keeps : (xs : List Bool) (i v : ℕ) → slice_index_or (slice_set xs i false) v false ≡ true → (slice_index_or xs v false ≡ true) × (i ≢ v)
set_keeps xs i v t = elim (cases_eq i v) [
  | inl same ↦ absurd (both_ways _ (ap (λ w. slice_index_or (slice_set xs i false) w false) (sym same) ∙ set_here xs i) t)
  | inr other ↦ (sym (set_there xs i v other) ∙ t, other)
]

pub set_stays : (xs : List Bool) (i v : ℕ) → slice_index_or xs v false ≡ true → i ≢ v → slice_index_or (slice_set xs i false) v false ≡ true
set_stays xs i v t other = set_there xs i v other ∙ t

unset_keeps : (xs : List Bool) (o : Option ℕ) (v : ℕ) → slice_index_or (unset xs o) v false ≡ true → (slice_index_or xs v false ≡ true) × (o ≢ Some v)
unset_keeps xs None v t = (t, λ e. absurd (cc))
unset_keeps xs (Some i) v t = let (u, other) = set_keeps xs i v t in (u, λ e. other (same_Some i v e))

unset_stays : (xs : List Bool) (o : Option ℕ) (v : ℕ) → slice_index_or xs v false ≡ true → o ≢ Some v → slice_index_or (unset xs o) v false ≡ true
unset_stays xs None v t other = t
unset_stays xs (Some i) v t other = set_stays xs i v t (λ e. other (ap Some e))

-- ---- the ends of edges without a twin

pub ends_keep : (edges : List Edge) (twins : List (Option ℕ)) (fine : List Bool) (k v : ℕ) → slice_index_or (without_ends edges twins fine k) v false ≡ true
    → (slice_index_or fine v false ≡ true) × ((e : ℕ) → e < k → is_none (at twins e) ≡ true → ((edge_in edges e).a ≢ v) × ((edge_in edges e).b ≢ v))
ends_keep edges twins fine zero v t = (t, λ e l. absurd (omega (arith, l)))
ends_keep edges twins fine (suc k) v t = by_test (ends_keep edges twins fine k v) (is_none (at twins k)) refl t where
  Answer : Type 0
  Answer = (slice_index_or fine v false ≡ true) × ((e : ℕ) → e < suc k → is_none (at twins e) ≡ true → ((edge_in edges e).a ≢ v) × ((edge_in edges e).b ≢ v))

  Earlier : Type 0
  Earlier = slice_index_or (without_ends edges twins fine k) v false ≡ true → (slice_index_or fine v false ≡ true) ×
      ((e : ℕ) → e < k → is_none (at twins e) ≡ true → ((edge_in edges e).a ≢ v) × ((edge_in edges e).b ≢ v))

  by_test : Earlier → (b : Bool) → is_none (at twins k) ≡ b
      → slice_index_or (if b then slice_set (slice_set (without_ends edges twins fine k) (edge_in edges k).a false)
      (edge_in edges k).b false else without_ends edges twins fine k) v false ≡ true → Answer
  by_test earlier true is u =
      let (w, second) = set_keeps _ (edge_in edges k).b v u in
      let (x, first) = set_keeps _ (edge_in edges k).a v w in
      let (y, rest) = earlier x in (
        y,
        λ e l n. elim (cases_eq e k) [
          | inl same ↦ subst (λ z. ((edge_in edges z).a ≢ v) × ((edge_in edges z).b ≢ v)) (sym same) (first, second)
          | inr other ↦ rest e (omega (arith, l, other)) n
        ],
      )
  by_test earlier false is u =
      let (y, rest) = earlier u in (
        y,
        λ e l n. elim (cases_eq e k) [
          | inl same ↦ absurd (both_ways _ is (ap (λ z. is_none (at twins z)) (sym same) ∙ n))
          | inr other ↦ rest e (omega (arith, l, other)) n
        ],
      )

pub ends_stay : (edges : List Edge) (twins : List (Option ℕ)) (fine : List Bool) (k v : ℕ)
    → slice_index_or fine v false ≡ true
    → ((e : ℕ) → e < k → is_none (at twins e) ≡ true → ((edge_in edges e).a ≢ v) × ((edge_in edges e).b ≢ v))
    → slice_index_or (without_ends edges twins fine k) v false ≡ true
ends_stay edges twins fine zero v t h = t
ends_stay edges twins fine (suc k) v t h = by_test (ends_stay edges twins fine k v t (λ e l. h e (omega (arith, l)))) (is_none (at twins k)) refl where
  by_test : slice_index_or (without_ends edges twins fine k) v false ≡ true → (b : Bool) → is_none (at twins k) ≡ b
      → slice_index_or (if b then slice_set (slice_set (without_ends edges twins fine k) (edge_in edges k).a false)
      (edge_in edges k).b false else without_ends edges twins fine k) v false ≡ true
  by_test before true is = let (first, second) = h k (omega arith) is in set_stays _ _ v (set_stays _ _ v before first) second
  by_test before false is = before

-- ---- the partners of such ends

pub partners_keep : (edges : List Edge) (twins partners : List (Option ℕ)) (fine : List Bool) (k v : ℕ) →
    slice_index_or (without_partners edges twins partners fine k) v false ≡ true
    → (slice_index_or fine v false ≡ true) × ((e : ℕ) → e < k → is_none (at twins e) ≡ true →
    (at partners (edge_in edges e).a ≢ Some v) × (at partners (edge_in edges e).b ≢ Some v))
partners_keep edges twins partners fine zero v t = (t, λ e l. absurd (omega (arith, l)))
partners_keep edges twins partners fine (suc k) v t = by_test (partners_keep edges twins partners fine k v) (is_none (at twins k)) refl t where
  Answer : Type 0
  Answer = (slice_index_or fine v false ≡ true) × ((e : ℕ) → e < suc k → is_none (at twins e) ≡ true →
      (at partners (edge_in edges e).a ≢ Some v) × (at partners (edge_in edges e).b ≢ Some v))

  Earlier : Type 0
  Earlier = slice_index_or (without_partners edges twins partners fine k) v false ≡ true →
      (slice_index_or fine v false ≡ true) × ((e : ℕ) → e < k → is_none (at twins e) ≡ true →
      (at partners (edge_in edges e).a ≢ Some v) × (at partners (edge_in edges e).b ≢ Some v))

  by_test : Earlier → (b : Bool) → is_none (at twins k) ≡ b
      → slice_index_or (if b then unset (unset (without_partners edges twins partners fine k)
      (at partners (edge_in edges k).a)) (at partners (edge_in edges k).b) else without_partners edges twins
      partners fine k) v false ≡ true → Answer
  by_test earlier true is u =
      let (w, second) = unset_keeps _ (at partners (edge_in edges k).b) v u in
      let (x, first) = unset_keeps _ (at partners (edge_in edges k).a) v w in
      let (y, rest) = earlier x in (
        y,
        λ e l n. elim (cases_eq e k) [
          | inl same ↦ subst (λ z. (at partners (edge_in edges z).a ≢ Some v) × (at partners (edge_in edges z).b ≢ Some v)) (sym same) (first, second)
          | inr other ↦ rest e (omega (arith, l, other)) n
        ],
      )
  by_test earlier false is u =
      let (y, rest) = earlier u in (
        y,
        λ e l n. elim (cases_eq e k) [
          | inl same ↦ absurd (both_ways _ is (ap (λ z. is_none (at twins z)) (sym same) ∙ n))
          | inr other ↦ rest e (omega (arith, l, other)) n
        ],
      )

pub partners_stay : (edges : List Edge) (twins partners : List (Option ℕ)) (fine : List Bool) (k v : ℕ)
    → slice_index_or fine v false ≡ true
    → ((e : ℕ) → e < k → is_none (at twins e) ≡ true → (at partners (edge_in edges e).a ≢ Some v) × (at partners (edge_in edges e).b ≢ Some v))
    → slice_index_or (without_partners edges twins partners fine k) v false ≡ true
partners_stay edges twins partners fine zero v t h = t
partners_stay edges twins partners fine (suc k) v t h =
    by_test (partners_stay edges twins partners fine k v t (λ e l. h e (omega (arith, l)))) (is_none (at twins k)) refl
  where
    by_test : slice_index_or (without_partners edges twins partners fine k) v false ≡ true → (b : Bool) → is_none (at twins k) ≡ b
        → slice_index_or (if b then unset (unset (without_partners edges twins partners fine k)
        (at partners (edge_in edges k).a)) (at partners (edge_in edges k).b) else without_partners edges twins
        partners fine k) v false ≡ true
    by_test before true is = let (first, second) = h k (omega arith) is in unset_stays _ _ v (unset_stays _ _ v before first) second
    by_test before false is = before

-- ---- the numbers of components

pub spoiled_keep : (fine : List Bool) (number : List ℕ) (whole : List Bool) (k c : ℕ) → slice_index_or (without_spoiled fine number whole k) c false ≡ true
    → (v : ℕ) → v < k → slice_index_or number v 0 ≡ c → slice_index_or fine v false ≡ true
spoiled_keep fine number whole zero c t v l of = absurd (omega (arith, l))
spoiled_keep fine number whole (suc k) c t v l of = by_test (spoiled_keep fine number whole k c) (slice_index_or fine k false) refl t where
  Earlier : Type 0
  Earlier = slice_index_or (without_spoiled fine number whole k) c false ≡ true → (v : ℕ) → v < k →
      slice_index_or number v 0 ≡ c → slice_index_or fine v false ≡ true

  by_test : Earlier → (b : Bool) → slice_index_or fine k false ≡ b
      → slice_index_or (if b then without_spoiled fine number whole k else slice_set
      (without_spoiled fine number whole k) (slice_index_or number k 0) false) c false ≡ true →
      slice_index_or fine v false ≡ true
  by_test earlier true is u = elim (cases_eq v k) [
    | inl same ↦ ap (λ z. slice_index_or fine z false) same ∙ is
    | inr other ↦ earlier u v (omega (arith, l, other)) of
  ]
  by_test earlier false is u =
      let (w, far) = set_keeps _ (slice_index_or number k 0) c u in
      elim (cases_eq v k) [
        | inl same ↦ absurd (far (ap (λ z. slice_index_or number z 0) (sym same) ∙ of))
        | inr other ↦ earlier w v (omega (arith, l, other)) of
      ]

pub spoiled_stay : (fine : List Bool) (number : List ℕ) (whole : List Bool) (k c : ℕ)
    → slice_index_or whole c false ≡ true
    → ((v : ℕ) → v < k → slice_index_or number v 0 ≡ c → slice_index_or fine v false ≡ true)
    → slice_index_or (without_spoiled fine number whole k) c false ≡ true
spoiled_stay fine number whole zero c t h = t
spoiled_stay fine number whole (suc k) c t h = by_test
    (spoiled_stay fine number whole k c t (λ v l. h v (omega (arith, l)))) (slice_index_or fine k false) refl where
      by_test : slice_index_or (without_spoiled fine number whole k) c false ≡ true → (b : Bool) → slice_index_or fine k false ≡ b
          → slice_index_or (if b then without_spoiled fine number whole k else slice_set
          (without_spoiled fine number whole k) (slice_index_or number k 0) false) c false ≡ true
      by_test before true is = before
      by_test before false is = set_stays _ _ c before (λ e. both_ways _ is (h k (omega arith) e))
