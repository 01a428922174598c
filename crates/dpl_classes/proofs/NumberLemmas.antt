-- Classes have one numbering in order.
use Rattle.std.proofs.Common.{arith, ◌≡◌, ◌↔◌, ℕ, zero, suc, ◌+◌, ◌<◌, ◌≤◌, List, length, get_or, take, take-suc, ◌∙◌, sym, ap, inl, inr, ◌∷◌, [], ◌++◌, max}
use Rattle.std.proofs.lemmas.Bool.{cases_lt}
use Rattle.std.proofs.lemmas.List.{take_all, length-take-le, get_or-take, ext_get_or}
use Rattle.std.proofs.lemmas.List.Sums.{fold-append}
use Rattle.std.proofs.Common.{fold, All, subst}
use Rattle.dpl_classes.specs.Classes.{IsNumbered, next_label, AreClasses}

-- a number before place i is this one
pub record IsUsed (label : List ℕ) (i v : ℕ) : Type 0 where
  place : ℕ
  before : place < i
  within : place < length label
  is : get_or label place 0 ≡ v

pub next_take : (label : List ℕ) (i : ℕ) → i < length label → next_label (take (suc i) label) ≡ max (next_label (take i label)) (get_or label i 0 + 1)
next_take label i l =
    let e : take (suc i) label ≡ take i label ++ get_or label i 0 ∷ [] = take-suc label i 0 l in
    ap next_label e ∙ fold-append _ 0 (take i label) (get_or label i 0 ∷ [])

pub later : (label : List ℕ) (i v : ℕ) → IsUsed label i v → IsUsed label (suc i) v
later label i v u = let b = u.before in record { place = u.place; before = omega arith; within = u.within; is = u.is }

-- all numbers below the next one are used
pub used : (label : List ℕ) (n : ℕ) → IsNumbered label n → (i v : ℕ) → v < next_label (take i label) → IsUsed label i v
used label n h zero v l = absurd (omega arith)
used label n h (suc i) v l = elim (cases_lt i (length label)) [
  | inl w ↦
      let e = next_take label i w in
      let g = h.grows i w in
      elim (cases_lt v (next_label (take i label))) [
        | inl m ↦ later label i v (used label n h i v m)
        | inr m ↦ record { place = i; before = omega arith; within = w; is = omega arith }
      ]
  | inr w ↦
      let a : take (suc i) label ≡ label = take_all (suc i) label (omega arith) in
      let b : take i label ≡ label = take_all i label w in
      let m : v < next_label (take i label) = rw b (rw a at l) in
      later label i v (used label n h i v m)
]

-- the next label grows with each label
label_grows : (xs : List ℕ) (m : ℕ) → m ≤ fold (λ m l. max m (l + 1)) m xs
label_grows [] m = omega arith
label_grows (x ∷ xs) m = omega (arith, label_grows xs (max m (x + 1)))

label_below : (xs : List ℕ) (m : ℕ) → All (λ l. l < fold (λ m l. max m (l + 1)) m xs) xs
label_below [] m k d l = absurd (omega (arith, l))
label_below (x ∷ xs) m zero d l = omega (arith, label_grows xs (max m (x + 1)))
label_below (x ∷ xs) m (suc k) d l = label_below xs (max m (x + 1)) k d (omega (arith, l))

-- each label of classes is below their number
pub labels_below : (pairs : List (ℕ × ℕ)) (n : ℕ) (label : List ℕ) (count' : ℕ) → AreClasses pairs n label count' → All (λ l. l < count') label
labels_below pairs n label count' a = subst (λ m. All (λ (l : ℕ). l < m) label) (sym a.numbered.count) (label_below label 0)

-- two lists of numbers are equal at the same places
abbrev pub AreTied : List ℕ → List ℕ → Type 0
AreTied a b = (i j : ℕ) → i < length a → j < length a → (get_or a i 0 ≡ get_or a j 0) ↔ (get_or b i 0 ≡ get_or b j 0)

pub takes_same : (a b : List ℕ) (i : ℕ) → length a ≡ length b → i ≤ length a → ((k : ℕ) → k < i → get_or a k 0 ≡ get_or b k 0) → take i a ≡ take i b
takes_same a b i n l f =
    let p : length (take i a) ≡ i = length-take-le i a l in
    let q : length (take i b) ≡ i = length-take-le i b (omega arith) in
    ext_get_or 0 (take i a) (take i b) (p ∙ sym q) (λ k m. let c : k < i = omega arith in get_or-take i a k 0 c ∙ f k c ∙ sym (get_or-take i b k 0 c))

pub number_same : (a b : List ℕ) (m n i : ℕ) → length a ≡ length b → i < length a → AreTied a b
    → IsNumbered a m → IsNumbered b n → ((k : ℕ) → k < i → get_or a k 0 ≡ get_or b k 0)
    → get_or a i 0 ≡ get_or b i 0
number_same a b m n i long l tied g h f =
    let e : next_label (take i a) ≡ next_label (take i b) = ap next_label (takes_same a b i long (omega arith) f) in
    let u = g.grows i l in
    let v = h.grows i (omega arith) in
    elim (cases_lt (get_or a i 0) (next_label (take i a))) [
      | inl c ↦
          let w = used a m g i (get_or a i 0) c in
          let s : get_or b w.place 0 ≡ get_or b i 0 = (tied w.place i w.within l).0 w.is in
          sym w.is ∙ f w.place w.before ∙ s
      | inr c ↦ elim (cases_lt (get_or b i 0) (next_label (take i b))) [
        | inl d ↦
            let w = used b n h i (get_or b i 0) d in
            let k = w.within in
            let s : get_or a w.place 0 ≡ get_or a i 0 = (tied w.place i (omega arith) l).1 w.is in
            sym s ∙ f w.place w.before ∙ w.is
        | inr d ↦ omega arith
      ]
    ]

pub numbers_before : (a b : List ℕ) (m n : ℕ) → length a ≡ length b → AreTied a b → IsNumbered a m
    → IsNumbered b n → (i : ℕ) → i ≤ length a → (k : ℕ) → k < i → get_or a k 0 ≡ get_or b k 0
numbers_before a b m n long tied g h zero l k c = absurd (omega arith)
numbers_before a b m n long tied g h (suc i) l k c =
    let f = numbers_before a b m n long tied g h i (omega arith) in
    elim (cases_lt k i) [
      | inl d ↦ f k d
      | inr d ↦ let e : k ≡ i = omega arith in rw e (number_same a b m n i long (omega arith) tied g h f)
    ]

pub numbers_same : (a b : List ℕ) (m n : ℕ) → length a ≡ length b → AreTied a b → IsNumbered a m → IsNumbered b n → a ≡ b
numbers_same a b m n long tied g h = ext_get_or 0 a b long (numbers_before a b m n long tied g h (length a) (omega arith))

pub count_same : (a b : List ℕ) (m n : ℕ) → a ≡ b → IsNumbered a m → IsNumbered b n → m ≡ n
count_same a b m n e g h = g.count ∙ ap next_label e ∙ sym h.count

-- pairs have one list of classes
pub classes_same : (pairs : List (ℕ × ℕ)) (n : ℕ) (a b : List ℕ) (m k : ℕ) → AreClasses pairs n a m → AreClasses pairs n b k → (a ≡ b) × (m ≡ k)
classes_same pairs n a b m k g h =
    let p = g.long in
    let tied : AreTied a b = λ i j l r.
    let s = g.same i j (omega arith) (omega arith) in
    let t = h.same i j (omega arith) (omega arith) in ((λ e. t.1 (s.0 e)), (λ e. s.1 (t.0 e))) in
    let e = numbers_same a b m k (g.long ∙ sym h.long) tied g.numbered h.numbered in
    (e, count_same a b m k e g.numbered h.numbered)
