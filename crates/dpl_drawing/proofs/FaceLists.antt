-- How many faces with darts there are, and lists that tell them.
use Rattle.std.proofs.Common.{arith, ◌≡◌, ℕ, zero, suc, ◌+◌, ◌/◌, ◌<◌, ◌==◌, ◌&&◌, refl, sym, ap, ◌∙◌, Bool, false, inl, inr, List, length, get_or, eq-eqb}
use Rattle.std.specs.Prelude.{slice_index}
use Rattle.std.proofs.lemmas.Bool.{cases_eq, cases_Bool, cond-true, cond-false, and_from, and_left, and_right, ne_eqb}
use Rattle.dpl_cycle.specs.Cycles.{cycles, least, without, Permutes}
use Rattle.dpl_cycle.specs.Among.{others_count, members, cycles_among}
use Rattle.dpl_cycle.specs.Names.{name_count}
use Rattle.dpl_cycle.specs.Sums.{count_on}
use Rattle.dpl_cycle.proofs.Steps.{cycles_alone, cycles_more, least_alone, least_top, least_under}
use Rattle.dpl_cycle.proofs.Shorter.{shorter, least_same}
use Rattle.dpl_cycle.proofs.Least.{least_le}
use Rattle.dpl_cycle.proofs.Fixed.{least_fixed}
use Rattle.dpl_cycle.proofs.NameLemmas.{count_in, count_out, name_count_same}
use Rattle.dpl_cycle.proofs.AmongLemmas.{cycles_members, others_in, others_out}
use Rattle.dpl_cycle.proofs.SumLemmas.{count_on_same}
use Rattle.dpl_sign.specs.declared.nets.Net.{Net}
use Rattle.dpl_sign.specs.Drawings.{is_in, dart_count, next_in_face, face_count, bare_count}
use Rattle.dpl_sign.proofs.Rotation.{face_permutes, face_back, face_out, face_set}
use Rattle.dpl_drawing.specs.Marks.{LeadsBack}
use Rattle.dpl_drawing.specs.Faces.{is_first, cycle_number, drawn_faces}

-- the cycles are as many as their least numbers
pub cycles_least : (n : ℕ) (f g : ℕ → ℕ) → Permutes n f g → cycles f n ≡ name_count (least f n) n
cycles_least zero f g p = refl
cycles_least (suc n) f g p =
    let rest : cycles (without n f) n ≡ name_count (least f (suc n)) n =
    cycles_least n (without n f) (without n g) (shorter n f g p) ∙
    name_count_same n (least (without n f) n) (least f (suc n)) (λ v h. sym (least_under f n v (λ e. omega arith)))
    in
    elim (cases_eq (f n) n) [
      | inl e ↦ cycles_alone f n e ∙ ap suc rest ∙ sym (count_in (least f (suc n)) n (least_alone f n e))
      | inr e ↦
          let lt : f n < n = omega (arith, p.to n (omega arith)) in
          let low = least_le n (without n f) (without n g) (shorter n f g p) (f n) lt in
          cycles_more f n e ∙ rest ∙ sym (count_out (least f (suc n)) n (λ q. omega (arith, sym (least_top f n e) ∙ q, low)))
    ]

-- names that tell themselves outside a set
own_split : (n : ℕ) (s : ℕ → ℕ) (p : ℕ → Bool) → ((d : ℕ) → d < n → p d ≡ false → s d ≡ d)
    → name_count s n ≡ count_on (λ d. p d && (s d == d)) n + others_count p n
own_split zero s p h = refl
own_split (suc n) s p h =
    let rest = own_split n s p (λ d k. h d (omega arith)) in
    let test : ℕ → Bool = λ d. p d && (s d == d) in
    elim (cases_Bool (p n)) [
      | inl t ↦ elim (cases_eq (s n) n) [
        | inl e ↦ omega (arith, rest, count_in s n e, others_in p n t, cond-true {A = ℕ} (test n) 1 0 (and_from (p n) _ t (eq-eqb (s n) n e)))
        | inr e ↦ omega (arith, rest, count_out s n e, others_in p n t, cond-false {A = ℕ} (test n) 1 0 (and_right (p n) _ (ne_eqb (s n) n e)))
      ]
      | inr t ↦ omega (arith, rest, count_in s n (h n (omega arith) t), others_out p n t, cond-false {A = ℕ} (test n) 1 0 (and_left (p n) _ t))
    ]

-- the faces with darts are the cycles through the darts of the set
pub drawn_faces_are : (net : Net) (p : ℕ → Bool) → drawn_faces net p ≡ cycles_among (next_in_face net p) (members (λ d. p (d / 2)) (dart_count net))
drawn_faces_are net p =
    let n = dart_count net in
    let f = next_in_face net p in
    let test : ℕ → Bool = λ d. p (d / 2) in
    let split = cycles_members n test f _ (face_permutes net p) (λ x h t. face_out net p x t) in
    let low = cycles_least n f _ (face_permutes net p) in
    let own = own_split n (least f n) test (λ d h t. least_fixed n f d (face_out net p d t)) in
    omega (arith, split, low, own)

-- the faces are those with darts, and one for each bare node
pub face_count_is : (net : Net) (p : ℕ → Bool) → face_count net p ≡ drawn_faces net p + bare_count net.graph p
face_count_is net p = omega (arith, drawn_faces_are net p)

-- permutations that agree number their cycles alike
pub number_same : (n : ℕ) (f f' : ℕ → ℕ) (set : ℕ → Bool) (d : ℕ) → ((x : ℕ) → x < n → f x ≡ f' x) → cycle_number f set n d ≡ cycle_number f' set n d
number_same n f f' set d same =
    let low : (x : ℕ) → least f n x ≡ least f' n x = λ x. least_same n f f' same x in
    ap (count_on (is_first f set n)) (low d) ∙ count_on_same (least f' n d) (is_first f set n) (is_first f' set n)
    (λ z h. ap (λ y. set (z / 2) && (y == z)) (low z))

-- faces that agree have as many first darts in the set
pub drawn_same_count : (n : ℕ) (f f' : ℕ → ℕ) (set : ℕ → Bool) → ((x : ℕ) → x < n → f x ≡ f' x) → count_on (is_first f set n) n ≡ count_on (is_first f' set n) n
drawn_same_count n f f' set same = count_on_same n (is_first f set n) (is_first f' set n) (λ z h. ap (λ y. set (z / 2) && (y == z)) (least_same n f f' same z))

-- a set stays along its faces
pub face_stays : (net : Net) (p : ℕ → Bool) (d : ℕ) → d < dart_count net → p (next_in_face net p d / 2) ≡ p (d / 2)
face_stays net p d h = elim (cases_Bool (p (d / 2))) [
  | inl t ↦ (face_set net p d (record { inside = h; chosen = t })).chosen ∙ sym t
  | inr t ↦ ap (λ x. p (x / 2)) (face_out net p d t)
]

-- ---- the list of the corners

-- a list that tells the next dart of each in its face is a permutation
pub leads_back : (net : Net) (p : ℕ → Bool) (nexts : List ℕ) → length nexts ≡ dart_count net
    → ((d : ℕ) → d < dart_count net → get_or nexts d 0 ≡ next_in_face net p d) → LeadsBack nexts
leads_back net p nexts l same =
    let q = face_permutes net p in (
      face_back net p,
      record {
        to = λ x h. omega (arith, same x (omega (arith, l)), q.to x (omega (arith, l)), l);
        from = λ x h. omega (arith, q.from x (omega (arith, l)), l);
        back = λ x h. ap (face_back net p) (same x (omega (arith, l))) ∙ q.back x (omega (arith, l));
        forth = λ x h. same (face_back net p x) (q.from x (omega (arith, l))) ∙ q.forth x (omega (arith, l));
      },
    )

-- the count of the cycles of a list that tells the faces
pub count_is : (net : Net) (p : ℕ → Bool) (corners read : List ℕ) (set_read : List Bool) (r : ℕ)
    → length corners ≡ dart_count net
    → ((z : ℕ) → z < dart_count net → get_or corners z 0 ≡ next_in_face net p z) → read ≡ corners
    → ((x : ℕ) → is_in set_read x ≡ p x)
    → r ≡ count_on (is_first (slice_index read) (is_in set_read) (length read)) (length read)
    → r ≡ drawn_faces net p
count_is net p corners read set_read r l same er es h =
    let n = dart_count net in
    h ∙ ap (λ (xs : List ℕ). count_on (is_first (slice_index xs) (is_in set_read) (length xs)) (length xs)) er ∙
    ap (λ m. count_on (is_first (slice_index corners) (is_in set_read) m) m) l ∙
    count_on_same n (is_first (slice_index corners) (is_in set_read) n) (is_first (slice_index corners) p n)
    (λ z k. ap (λ b. b && (least (slice_index corners) n z == z)) (es (z / 2))) ∙
    drawn_same_count n (slice_index corners) (next_in_face net p) p same
