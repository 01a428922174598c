-- Each odd face has a name of its own.
use Rattle.std.proofs.Common.{arith, ◌≡◌, ◌≢◌, ℕ, zero, suc, ◌/◌, ◌%◌, ◌<◌, ◌≤◌, ◌==◌, ◌&&◌, refl, sym, ap}
use Rattle.std.proofs.Common.{◌∙◌, subst, Bool, true, false, cond, inl, inr, List, [], length, get_or, map, eq-eqb}
use Rattle.std.specs.Prelude.{All, AllPairs, filter, nat_eq, ◌↔◌}
use Rattle.std.specs.List.{range_with_len}
use Rattle.std.proofs.lemmas.Bool.{cases_eq, cases_Bool, cond-true, cond-false, eqb-true, ne_eqb, and_parts, and_from, false≢true}
use Rattle.std.proofs.lemmas.Bool.Decides.{Decides-eqb}
use Rattle.std.proofs.lemmas.List.{get_or-map, length-map}
use Rattle.std.proofs.lemmas.List.Elements.{All-contains, All-map, filter_passes}
use Rattle.std.proofs.lemmas.List.FromFn.{get_or-range_with_len, length-range_with_len}
use Rattle.std.proofs.lemmas.Map.Made.{IsDistinct-from_AllPairs, length-le_from_is_member, is_member-Decides, is_member-filter}
use Rattle.std.specs.Set.{is_member}
use Rattle.std.specs.Cmp.{nat_eq_equiv}
use Rattle.dpl_cycle.specs.Sums.{sum_on, count_on}
use Rattle.dpl_sign.specs.declared.nets.Net.{Net}
use Rattle.dpl_sign.specs.Drawings.{dart_count, face_of}
use Rattle.dpl_sign.specs.Parity.{is_odd_face as is_odd_named}
use Rattle.dpl_cycle.proofs.Least.{least_le}
use Rattle.dpl_sign.proofs.Rotation.{face_permutes}
use Rattle.dpl_map.specs.Maps.{face_at}
use Rattle.dpl_map.specs.Views.{view_of}
use Rattle.dpl_map.specs.Sides.{clash_bit, is_odd_face}
use Rattle.dpl_map.proofs.ViewLemmas.{is_built}
use Rattle.dpl_dual.specs.declared.crosses.Dual.{Dual}
use Rattle.dpl_dual.specs.Duals.{IsDual}
use Rattle.dpl_dual.proofs.NameLemmas.{odd_by_name}
use Rattle.dpl_solve.specs.Named.{keeps, odd_faces}
use Rattle.dpl_solve.proofs.TerminalLemmas.{odd_apart}

-- ---- lists

-- the least number below n that passes a test
first : (ℕ → Bool) → ℕ → ℕ
first p zero = 0
first p (suc n) = cond (count_on p n == 0) n (first p n)

first_passes : (p : ℕ → Bool) (n : ℕ) → 1 ≤ count_on p n → (first p n < n) × (p (first p n) ≡ true)
unfolding first
first_passes p zero h = absurd (omega (arith, h))
first_passes p (suc n) h = elim (cases_eq (count_on p n) 0) [
  | inl z ↦
      let here : first p (suc n) ≡ n = cond-true (count_on p n == 0) n (first p n) (eq-eqb (count_on p n) 0 z) in
      let passes : p n ≡ true = elim (cases_Bool (p n)) [
        | inl t ↦ t
        | inr t ↦ absurd (omega (arith, h, z, cond-false {A = ℕ} (p n) 1 0 t))
      ] in
      (omega (arith, here), ap p here ∙ passes)
  | inr z ↦
      let here : first p (suc n) ≡ first p n = cond-false (count_on p n == 0) n (first p n) (ne_eqb (count_on p n) 0 z) in
      let rest = first_passes p n (omega (arith, z)) in
      (omega (arith, here, rest.0), ap p here ∙ rest.1)
]

-- a map that keeps the numbers of a list apart leads into no shorter list
same_into : (h : ℕ → ℕ) (xs ys : List ℕ) → AllPairs (λ x y. h x ≢ h y) xs → All (λ x. is_member nat_eq ys (h x) ≡ true) xs → length xs ≤ length ys
same_into h xs ys apart inside =
    let images = map h xs in
    let count = length-map xs h in
    let distinct = IsDistinct-from_AllPairs Decides-eqb images (λ i j d l m e.
    let hi : i < length xs = omega (arith, l, m, count) in
    let hj : j < length xs = omega (arith, m, count) in
    apart i j 0 l hj (sym (get_or-map h xs i 0 d hi) ∙ e ∙ get_or-map h xs j 0 d hj)) in
    let all = All-map (λ q. is_member nat_eq ys q ≡ true) h xs inside in
    omega (
      arith,
      count,
      length-le_from_is_member nat_eq_equiv images ys distinct
          (λ q m. All-contains (λ z. is_member nat_eq ys z ≡ true) images q all
          ((is_member-Decides Decides-eqb images q).0 m)),
    )

member_range : (n q : ℕ) → q < n → is_member nat_eq (range_with_len 0 n) q ≡ true
member_range n q h =
    let at : get_or (range_with_len 0 n) q q ≡ q = omega (arith, get_or-range_with_len 0 n q q h) in
    (is_member-Decides Decides-eqb (range_with_len 0 n) q).1 (q, omega (arith, h, length-range_with_len 0 n), at)

member_filter : (p : ℕ → Bool) (xs : List ℕ) (q : ℕ) → is_member nat_eq xs q ≡ true → p q ≡ true → is_member nat_eq (filter p xs) q ≡ true
member_filter p xs q m t = is_member-filter nat_eq_equiv p q (λ x e. ap p (eqb-true q x e)) xs ∙ and_from (is_member nat_eq xs q) (p q) m t

-- ---- a dart of a face

none_on : (p : ℕ → Bool) (w : ℕ → ℕ) (n : ℕ) → count_on p n ≡ 0 → sum_on p w n ≡ 0
none_on p w zero h = refl
none_on p w (suc n) h = elim (cases_Bool (p n)) [
  | inl t ↦ absurd (omega (arith, h, cond-true {A = ℕ} (p n) 1 0 t))
  | inr t ↦ omega (arith, cond-false {A = ℕ} (p n) (w n) 0 t, none_on p w n (omega (arith, h)))
]

odd_some : (k : ℕ) → (k % 2 == 1) ≡ true → 1 ≤ k
odd_some k h = omega (arith, eqb-true (k % 2) 1 h)

pub record IsDart (net : Net) (d : ℕ) : Type 0 where
  pub below : d < dart_count net
  pub kept : keeps net (d / 2) ≡ true

-- the least dart of a face by its number
numbered_dart : Net → ℕ → ℕ
numbered_dart net k = first (λ d. keeps net (d / 2) && (face_at net d == k)) (dart_count net)

dart_of_number : (net : Net) (k : ℕ) → is_odd_face net.graph (view_of net) k ≡ true → IsDart net (numbered_dart net k) × (face_at net (numbered_dart net k) ≡ k)
unfolding numbered_dart
dart_of_number net k h =
    let p : ℕ → Bool = λ d. keeps net (d / 2) && (face_at net d == k) in
    let d = first p (dart_count net) in
    let some : 1 ≤ count_on p (dart_count net) = elim (cases_eq (count_on p (dart_count net)) 0) [
      | inl z ↦ absurd (omega (arith, odd_some _ h, none_on p (clash_bit net.graph) (dart_count net) z))
      | inr z ↦ omega (arith, z)
    ] in
    let r = first_passes p (dart_count net) some in
    let parts = and_parts (keeps net (d / 2)) (face_at net d == k) r.1 in
    (record { below = r.0; kept = parts.0 }, eqb-true (face_at net d) k parts.1)

-- ---- names and numbers

pub name : Net → ℕ → ℕ
name net k = face_of net (keeps net) (numbered_dart net k)

-- two darts have one number where their faces have one name
same_face : (net : Net) (c d : ℕ) → IsDart net c → IsDart net d → ((face_at net c ≡ face_at net d) ↔ (face_of net (keeps net) c ≡ face_of net (keeps net) d))
same_face net c d hc hd = (is_built net).drawn.numbered c d hc.below hd.below hc.kept hd.kept

odd_face : (net : Net) (d : ℕ) → IsDart net d → is_odd_face net.graph (view_of net) (face_at net d) ≡ is_odd_named net (keeps net) (face_of net (keeps net) d)
odd_face net d h = odd_by_name net (view_of net) (is_built net) d h.below h.kept

-- ---- the odd faces

-- where no number passes a test, each fails it
pub none_odd : (p : ℕ → Bool) (n : ℕ) → filter p (range_with_len 0 n) ≡ [] → (f : ℕ) → f < n → p f ≡ false
none_odd p n e f l = elim (cases_Bool (p f)) [
  | inr t ↦ t
  | inl t ↦
      let is : is_member nat_eq [] f ≡ true = subst (λ z. is_member nat_eq z f ≡ true) e (member_filter p (range_with_len 0 n) f (member_range n f l) t) in
      absurd (false≢true is)
]

odd_all : (net : Net) (d : Dual) → IsDual net.graph (view_of net) d → All (λ x. is_odd_face net.graph (view_of net) x ≡ true) d.odd
odd_all net d k = subst (All (λ x. is_odd_face net.graph (view_of net) x ≡ true)) (sym k.odd)
    (filter_passes (is_odd_face net.graph (view_of net)) (range_with_len 0 (view_of net).faces))

name_odd : (net : Net) (x : ℕ) → is_odd_face net.graph (view_of net) x ≡ true → is_odd_named net (keeps net) (name net x) ≡ true
unfolding name
name_odd net x h =
    let r = dart_of_number net x h in
    sym (odd_face net (numbered_dart net x) r.0) ∙ ap (is_odd_face net.graph (view_of net)) r.1 ∙ h

name_apart : (net : Net) (x y : ℕ) → is_odd_face net.graph (view_of net) x ≡ true
    → is_odd_face net.graph (view_of net) y ≡ true → name net x ≡ name net y → x ≡ y
unfolding name
name_apart net x y hx hy e =
    let rx = dart_of_number net x hx in
    let ry = dart_of_number net y hy in
    sym rx.1 ∙ (same_face net (numbered_dart net x) (numbered_dart net y) rx.0 ry.0).1 e ∙ ry.1

name_below : (net : Net) (x : ℕ) → is_odd_face net.graph (view_of net) x ≡ true → name net x < dart_count net
unfolding name
name_below net x h =
    let below = (dart_of_number net x h).0.below in
    omega (arith, least_le _ _ _ (face_permutes net (keeps net)) (numbered_dart net x) below, below)

-- all odd faces have names
pub odd_named_most : (net : Net) (d : Dual) → IsDual net.graph (view_of net) d → length d.odd ≤ length (odd_faces net)
odd_named_most net d k =
    let odd = odd_all net d k in
    let apart = odd_apart net.graph (view_of net) d k in
    same_into (name net) d.odd (odd_faces net)
    (λ i j e l m same. apart i j e l m (name_apart net (get_or d.odd i e) (get_or d.odd j e) (odd i e (omega (arith, l, m))) (odd j e m) same))
    (λ i e l.
    let x = get_or d.odd i e in
    member_filter (is_odd_named net (keeps net)) (range_with_len 0 (dart_count net)) (name net x)
    (member_range (dart_count net) (name net x) (name_below net x (odd i e l))) (name_odd net x (odd i e l)))
