-- Cycles numbered in the order of their least darts.
use Rattle.std.proofs.Common.{arith, ◌≡◌, ◌≢◌, ℕ, zero, suc, ◌+◌, ◌/◌, ◌<◌, ◌≤◌, refl, sym, ap, ◌∙◌, Bool, true, false}
use Rattle.std.proofs.Common.{inl, inr, List, length, get_or, eq-eqb, subst}
use Rattle.std.specs.Prelude.{slice_index}
use Rattle.std.proofs.lemmas.Bool.{cases_eq, cases_Bool, and_from, and_left, and_right, ne_eqb}
use Rattle.dpl_cycle.specs.Cycles.{least, Permutes}
use Rattle.dpl_cycle.specs.Sums.{count_on}
use Rattle.dpl_cycle.proofs.Least.{least_step, least_le, label_least}
use Rattle.dpl_cycle.proofs.SumLemmas.{count_on_le, count_on_yes, count_on_no}
use Rattle.dpl_ring.specs.Rings.{least_of}
use Rattle.dpl_drawing.specs.Marks.{MarksCycle}
use Rattle.dpl_drawing.specs.Faces.{is_first, cycle_number}

-- a chosen number counts: there are fewer before it than in all
pub count_lt : (p : ℕ → Bool) (n x : ℕ) → x < n → p x ≡ true → count_on p x < count_on p n
count_lt p zero x h t = absurd (omega arith)
count_lt p (suc n) x h t = elim (cases_eq x n) [
  | inl e ↦
      let here : count_on p x ≡ count_on p n = ap (count_on p) e in
      omega (arith, here, count_on_yes p n (ap p (sym e) ∙ t))
  | inr e ↦ elim (cases_Bool (p n)) [
    | inl q ↦ omega (arith, count_on_yes p n q, count_lt p n x (omega arith) t)
    | inr q ↦ omega (arith, count_on_no p n q, count_lt p n x (omega arith) t)
  ]
]

-- the least of a cycle is its own least
pub least_least : (n : ℕ) (f g : ℕ → ℕ) → Permutes n f g → (x : ℕ) → x < n → least f n (least f n x) ≡ least f n x
least_least n f g p x h = label_least n f g p (least f n) (λ y k. least_step n f g p y k) x h

abbrev bit : Bool → ℕ
bit true = 1
bit false = 0

bit_same : (a b : Bool) → bit a ≡ bit b → a ≡ b
bit_same true true e = refl
bit_same false false e = refl
bit_same true false e = absurd (omega arith)
bit_same false true e = absurd (omega arith)

-- what stays along the cycles is that of the least
pub stays_least : (n : ℕ) (f g : ℕ → ℕ) → Permutes n f g → (kept : ℕ → Bool)
    → ((d : ℕ) → d < n → kept (f d) ≡ kept d) → (x : ℕ) → x < n → kept (least f n x) ≡ kept x
stays_least n f g p kept stays x h =
    bit_same _ _ (label_least n f g p (λ z. bit (kept z)) (λ y k. ap bit (stays y k)) x h)

-- the cycles of which the least is below a place have their numbers
pub record AreNumbered (nexts : List ℕ) (set : ℕ → Bool) (numbers : List ℕ) (none count place : ℕ) : Type 0 where
  pub lengths : length numbers ≡ length nexts
  pub counted : count ≡ count_on (is_first (slice_index nexts) set (length nexts)) place
  pub done : (z : ℕ) → z < length nexts → set (z / 2) ≡ true → least_of nexts z < place →
      get_or numbers z 0 ≡ cycle_number (slice_index nexts) set (length nexts) z
  pub left : (z : ℕ) → z < length nexts → set (z / 2) ≡ true → place ≤ least_of nexts z → get_or numbers z 0 ≡ none

-- at first nothing is numbered
pub none_numbered : (nexts : List ℕ) (set : ℕ → Bool) (numbers : List ℕ) (none : ℕ)
    → length numbers ≡ length nexts → ((z : ℕ) → z < length numbers → get_or numbers z 0 ≡ none)
    → AreNumbered nexts set numbers none 0 0
none_numbered nexts set numbers none l h = record {
  lengths = l;
  counted = refl;
  done = λ z k t q. absurd (omega (arith, q));
  left = λ z k t q. h z (omega (arith, l));
}

-- a place with a number, or outside the set, is not the least of its cycle
pub numbered_skip : (nexts : List ℕ) (g : ℕ → ℕ) (set : ℕ → Bool) (numbers : List ℕ) (none count place : ℕ)
    → Permutes (length nexts) (slice_index nexts) g
    → ((d : ℕ) → d < length nexts → set (get_or nexts d 0 / 2) ≡ set (d / 2)) → place < length nexts
    → AreNumbered nexts set numbers none count place
    → (set (place / 2) ≡ true → get_or numbers place 0 ≢ none)
    → AreNumbered nexts set numbers none count (suc place)
numbered_skip nexts g set numbers none count place p stays h k passed =
    let n = length nexts in
    let f = slice_index nexts in
    let over : set (place / 2) ≡ true → least f n place ≢ place = λ t e. passed t (k.left place h t (omega (arith, e))) in
    let off : is_first f set n place ≡ false = elim (cases_Bool (set (place / 2))) [
      | inl t ↦ and_right (set (place / 2)) _ (ne_eqb (least f n place) place (over t))
      | inr t ↦ and_left (set (place / 2)) _ t
    ] in
    let no : (z : ℕ) → z < n → set (z / 2) ≡ true → least f n z ≢ place = λ z hz t e.
    let there : set (place / 2) ≡ true = ap (λ y. set (y / 2)) (sym e) ∙ stays_least n f g p (λ d. set (d / 2)) stays z hz ∙ t in
    over there (ap (least f n) (sym e) ∙ least_least n f g p z hz ∙ e) in
    record {
      lengths = k.lengths;
      counted = omega (arith, k.counted, count_on_no (is_first f set n) place off);
      done = λ z hz t q. k.done z hz t (omega (arith, no z hz t));
      left = λ z hz t q. k.left z hz t (omega (arith, q));
    }

-- the least of a cycle gives it its number
pub numbered_more : (nexts : List ℕ) (g : ℕ → ℕ) (set : ℕ → Bool) (numbers next : List ℕ) (none count place : ℕ)
    → Permutes (length nexts) (slice_index nexts) g → place < length nexts → length nexts < none
    → AreNumbered nexts set numbers none count place → set (place / 2) ≡ true → get_or numbers place 0 ≡ none
    → MarksCycle nexts place count numbers next → AreNumbered nexts set next none (count + 1) (suc place)
numbered_more nexts g set numbers next none count place p h big k t fresh marks =
    let n = length nexts in
    let f = slice_index nexts in
    let first = is_first f set n in
    let low : least f n place ≡ place = elim (cases_eq (least f n place) place) [
      | inl e ↦ e
      | inr e ↦
          let below : least f n place < place = omega (arith, least_le n f g p place h) in
          absurd (omega (arith, k.done place h t below, fresh, count_on_le first (least f n place), big))
    ] in
    let on : first place ≡ true = and_from _ _ t (eq-eqb (least f n place) place low) in
    record {
      lengths = marks.lengths ∙ k.lengths;
      counted = omega (arith, k.counted, count_on_yes first place on);
      done = λ z hz tz q. elim (cases_eq (least f n z) (least f n place)) [
        | inl e ↦ marks.marked z hz e ∙ k.counted ∙ ap (count_on first) (sym (e ∙ low))
        | inr e ↦ marks.others z hz e ∙ k.done z hz tz (omega (arith, q, low))
      ];
      left = λ z hz tz q. marks.others z hz (λ e. omega (arith, q, e, low)) ∙ k.left z hz tz (omega (arith, q));
    }

-- a place of the set that is the least of its cycle is fresh
pub count_below : (nexts : List ℕ) (set : ℕ → Bool) (numbers : List ℕ) (none count place : ℕ) → AreNumbered nexts set numbers none count place → count ≤ place
count_below nexts set numbers none count place k = omega (arith, k.counted, count_on_le (is_first (slice_index nexts) set (length nexts)) place)

-- a fresh place of the set is the least of its cycle
fresh_low : (nexts : List ℕ) (g : ℕ → ℕ) (set : ℕ → Bool) (numbers : List ℕ) (none count place : ℕ)
    → Permutes (length nexts) (slice_index nexts) g → place < length nexts → length nexts < none
    → AreNumbered nexts set numbers none count place → set (place / 2) ≡ true → get_or numbers place 0 ≡ none
    → least_of nexts place ≡ place
fresh_low nexts g set numbers none count place p h big k t fresh =
    let n = length nexts in
    let f = slice_index nexts in
    elim (cases_eq (least f n place) place) [
      | inl e ↦ e
      | inr e ↦
          let below : least f n place < place = omega (arith, least_le n f g p place h) in
          absurd (omega (arith, k.done place h t below, fresh, count_on_le (is_first f set n) (least f n place), big))
    ]

-- and none on its cycle has a number yet
pub numbered_fresh : (nexts : List ℕ) (g : ℕ → ℕ) (set : ℕ → Bool) (numbers : List ℕ) (none count place : ℕ)
    → Permutes (length nexts) (slice_index nexts) g
    → ((d : ℕ) → d < length nexts → set (get_or nexts d 0 / 2) ≡ set (d / 2)) → place < length nexts
    → length nexts < none → AreNumbered nexts set numbers none count place → set (place / 2) ≡ true
    → get_or numbers place 0 ≡ none → (z : ℕ) → z < length nexts → least_of nexts z ≡ least_of nexts place
    → get_or numbers z 0 ≢ count
numbered_fresh nexts g set numbers none count place p stays h big k t fresh z hz e same =
    let n = length nexts in
    let f = slice_index nexts in
    let test : ℕ → Bool = λ d. set (d / 2) in
    let low = fresh_low nexts g set numbers none count place p h big k t fresh in
    let tz : set (z / 2) ≡ true = sym (stays_least n f g p test stays z hz) ∙ ap test e ∙ stays_least n f g p test stays place h ∙ t in
    omega (arith, k.left z hz tz (omega (arith, e, low)), same, count_below nexts set numbers none count place k, h, big)

-- past the end the least number of each cycle is behind the place
pub low_below : (nexts : List ℕ) (g : ℕ → ℕ) (place z : ℕ) → Permutes (length nexts) (slice_index nexts) g
    → z < length nexts → length nexts ≤ place → least_of nexts z < place
low_below nexts g place z p h l = omega (arith, least_le (length nexts) _ g p z h)

-- the same numbers in an equal list
pub numbered_at : (nexts : List ℕ) (set : ℕ → Bool) (numbers other : List ℕ) (none count place : ℕ)
    → other ≡ numbers → AreNumbered nexts set numbers none count place
    → AreNumbered nexts set other none count place
numbered_at nexts set numbers other none count place e k = let P : List ℕ → Type 0 = λ xs. AreNumbered nexts set xs none count place in subst P (sym e) k
