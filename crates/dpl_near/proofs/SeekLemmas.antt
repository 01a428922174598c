-- Places among rising numbers.
use Rattle.std.proofs.Common.{arith, ◌≡◌, ◌∙◌, ℕ, ◌+◌, ◌-◌, ◌<◌, ◌≤◌, ℤ, ◌<ℤ◌, ◌≤ℤ◌, pos, List, length, get_or, take, drop}
use Rattle.std.proofs.Common.{inl, inr, subst, int_le, true, false}
use Rattle.std.specs.List.Sorted.{IsPartitionedBy, IsPartitionPoint}
use Rattle.std.proofs.lemmas.Bool.{cases_lt}
use Rattle.std.proofs.lemmas.List.{get_or-take, get_or-drop, get_or_default, length-take, length-drop}
use Rattle.dpl_list.proofs.Integers.{signed, at_most_test, is_at_most, not_at_most}
use Rattle.dpl_near.specs.Seeking.{AreRising, IsPlacePast}

not_above : (numbers : List ℤ) → AreRising numbers → (i j : ℕ) (d : ℤ) → i ≤ j → j < length numbers → get_or numbers i d ≤ℤ get_or numbers j d
not_above numbers up i j d h l = elim (cases_lt i j) [
  | inl g ↦ less _ _ (up i j d g l)
  | inr g ↦ let e : i ≡ j = omega arith in rw e (same _)
] where
  less : (y z : ℤ) → y <ℤ z → y ≤ℤ z
  less y z h = omega signed

  same : (z : ℤ) → z ≤ℤ z
  same z = omega signed

-- what is not greater at one place is not greater at any place up to it
pub low_up_to : (numbers : List ℤ) (x : ℤ) (to n : ℕ) → AreRising numbers → to < length numbers → n ≤ to + 1
    → get_or numbers to (pos 0) ≤ℤ x → (k : ℕ) (d : ℤ) → k < n → get_or numbers k d ≤ℤ x
low_up_to numbers x to n up within upper low k d h =
    on _ _ (not_above numbers up k to d (omega arith) within) (subst (λ z. z ≤ℤ x) (get_or_default numbers to (pos 0) d within) low)
  where
    on : (v w : ℤ) → v ≤ℤ w → w ≤ℤ x → v ≤ℤ x
    on v w h g = omega signed

-- what is greater at one place is greater at each from it on
pub high_from : (numbers : List ℤ) (x : ℤ) (from : ℕ) → AreRising numbers → from < length numbers → x <ℤ get_or numbers from (pos 0)
    → (k : ℕ) (d : ℤ) → from ≤ k → k < length numbers → x <ℤ get_or numbers k d
high_from numbers x from up within high k d h l =
    on _ _ (not_above numbers up from k d h l) (subst (λ z. x <ℤ z) (get_or_default numbers from (pos 0) d within) high)
  where
    on : (v w : ℤ) → w ≤ℤ v → x <ℤ w → x <ℤ v
    on v w h g = omega signed

-- ---- a place in a part

part_length : (numbers : List ℤ) (from to : ℕ) → to ≤ length numbers → length (take (to - from) (drop from numbers)) ≡ to - from
part_length numbers from to within = let n = length-take (to - from) (drop from numbers) in let m = length-drop from numbers in omega arith

part_at : (numbers : List ℤ) (from to k : ℕ) (d : ℤ) → k < to - from
    → get_or (take (to - from) (drop from numbers)) k d ≡ get_or numbers (from + k) d
part_at numbers from to k d h = get_or-take (to - from) (drop from numbers) k d h ∙ get_or-drop from numbers k d

pub part_parted : (numbers : List ℤ) (x : ℤ) (from to : ℕ) → AreRising numbers → from ≤ to → to ≤ length numbers
    → IsPartitionedBy (λ z. int_le z x) (take (to - from) (drop from numbers))
part_parted numbers x from to up order within i j d le l t =
    let n = part_length numbers from to within in
    let e = part_at numbers from to i d (omega arith) in
    let f = part_at numbers from to j d (omega arith) in
    at_most_test _ _ (on _ _ _ _ e f (not_above numbers up (from + i) (from + j) d (omega arith) (omega arith)) (is_at_most _ _ t))
  where
    on : (y z v w : ℤ) → y ≡ v → z ≡ w → v ≤ℤ w → z ≤ℤ x → y ≤ℤ x
    on y z v w e f h g = omega signed

pub past_in_part : (numbers : List ℤ) (x : ℤ) (from to at : ℕ) → from ≤ to → to ≤ length numbers
    → ((k : ℕ) (d : ℤ) → k < from → get_or numbers k d ≤ℤ x)
    → ((k : ℕ) (d : ℤ) → to ≤ k → k < length numbers → x <ℤ get_or numbers k d)
    → at ≤ length (take (to - from) (drop from numbers))
    → IsPartitionPoint (λ z. int_le z x ≡ true) (λ z. int_le z x ≡ false) (take (to - from) (drop from numbers)) at
    → IsPlacePast numbers x (from + at)
past_in_part numbers x from to at order within low high bound point = let n = part_length numbers from to within in record {
  within = omega arith;
  low = λ k d h. elim (cases_lt k from) [
    | inl g ↦ low k d g
    | inr g ↦ let e : from + (k - from) ≡ k = omega arith in
        let f = part_at numbers from to (k - from) d (omega arith) in
        let p = is_at_most _ _ (point.0 (k - from) d (omega arith) (omega arith)) in
        subst (λ i. get_or numbers i d ≤ℤ x) e (subst (λ z. z ≤ℤ x) f p)
  ];
  high = λ k d h l. elim (cases_lt k to) [
    | inr g ↦ high k d g l
    | inl g ↦ let e : from + (k - from) ≡ k = omega arith in
        let f = part_at numbers from to (k - from) d (omega arith) in
        let p = not_at_most _ _ (point.1 (k - from) d (omega arith) (omega arith)) in
        subst (λ i. x <ℤ get_or numbers i d) e (subst (λ z. x <ℤ z) f p)
  ];
}
