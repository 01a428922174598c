-- Faces in the order of their depths, and the marks of the first ones.
use Rattle.std.proofs.Common.{arith, ◌≡◌, ℕ, ◌+◌, ◌<◌, ◌≤◌, refl, sym, ap, ◌∙◌, Bool, true, false, inl, inr}
use Rattle.std.proofs.Common.{min, List, [], ◌∷◌, zero, suc, length, get_or, take, map, set, length-set}
use Rattle.std.specs.List.Sorted.{IsPermutation, IsNonDecreasingBy}
use Rattle.std.proofs.lemmas.Bool.{cases_lt}
use Rattle.std.proofs.lemmas.List.{length-map, length-take, get_or_default, get_or-take}
use Rattle.std.proofs.lemmas.List.Elements.{All-more}
use Rattle.std.proofs.lemmas.List.Sorted.{Contains-permutation, IsPermutation-sym}
use Rattle.dpl_laminar.specs.Families.{has}
use Rattle.dpl_laminar.proofs.Numbers.{has_at, place_in}
use Rattle.dpl_pack.specs.Moats.{IsWritten}
use Rattle.dpl_pack.specs.Marks.{AreClear, AreCleared}
use Rattle.dpl_pack.specs.Laid.{up_to}
use Rattle.dpl_pack.specs.Ranks.{entry_at, depth_at, first_faces, AreListed, AreRanked, AreMarkedFirst}
use Rattle.dpl_pack.proofs.CodeLemmas.{written_more}
use Rattle.dpl_pack.proofs.LaidLemmas.{up_to_chosen}
use Rattle.dpl_pack.proofs.AroundLemmas.{cleared_more}

-- ---- the order

pub ranked_from : (faces depths : List ℕ) (old new : List (ℕ × ℕ)) → AreListed faces depths (length faces) old
    → IsPermutation old new → IsNonDecreasingBy (λ e. e.0) new → AreRanked faces depths new
ranked_from faces depths old new l p up = record {
  ascending = λ i j h k. up i j (0, 0) h k;
  all = λ j h.
      let x : ℕ × ℕ = (get_or depths j 0, get_or faces j 0) in
      let inside : j < length old = omega (arith, h, l.size) in
      let c = Contains-permutation old new x p (j, inside, get_or_default old j x (0, 0) inside ∙ l.each j h) in
      (c.0, c.1, get_or_default new c.0 (0, 0) x c.1 ∙ c.2);
  only = λ i h.
      let x = entry_at new i in
      let c = Contains-permutation new old x (IsPermutation-sym old new p) (i, h, get_or_default new i x (0, 0) h) in
      let j : c.0 < length faces = omega (arith, c.1, l.size) in
      (c.0, j, sym (get_or_default old c.0 (0, 0) x c.1 ∙ c.2) ∙ l.each c.0 j);
}

-- ---- the first faces

pub face_is : (order : List (ℕ × ℕ)) (i : ℕ) → get_or (map (λ e. e.1) order) i 0 ≡ (entry_at order i).1
face_is [] i = refl
face_is (e ∷ order) zero = refl
face_is (e ∷ order) (suc i) = face_is order i

pub face_count : (order : List (ℕ × ℕ)) → length (map (λ e. e.1) order) ≡ length order
face_count order = length-map order (λ e. e.1)

first_has : (order : List (ℕ × ℕ)) (n i : ℕ) → i < n → i < length order → has (first_faces order n) (entry_at order i).1 ≡ true
first_has order n i h l =
    let faces : List ℕ = map (λ (e : ℕ × ℕ). e.1) order in
    let size : i < length (take n faces) = omega (arith, h, l, face_count order, length-take n faces) in
    ap (has (take n faces)) (sym (get_or-take n faces i 0 h ∙ face_is order i)) ∙ has_at (take n faces) i size

first_place : (order : List (ℕ × ℕ)) (n f : ℕ) → has (first_faces order n) f ≡ true
    → (i : ℕ) × (i < n) × (i < length order) × ((entry_at order i).1 ≡ f)
first_place order n f h =
    let faces : List ℕ = map (λ (e : ℕ × ℕ). e.1) order in
    let p = place_in (take n faces) f h in
    let size : p.0 < min n (length faces) = omega (arith, p.1, length-take n faces) in
    let early : p.0 < n = omega (arith, size) in
    (p.0, early, omega (arith, size, face_count order), sym (get_or-take n faces p.0 0 early ∙ face_is order p.0) ∙ p.2)

-- so many first ones are those up to a level
first_up_to : (faces depths : List ℕ) (order : List (ℕ × ℕ)) (n level : ℕ) → length depths ≡ length faces
    → AreRanked faces depths order → n ≤ length order → ((j : ℕ) → j < n → depth_at order j ≤ level)
    → (n < length order → level < depth_at order n) → (f : ℕ) → has (first_faces order n) f ≡ has (up_to level faces depths) f
first_up_to faces depths order n level size r l before beyond f = same (has (first_faces order n) f) (has (up_to level faces depths) f)
    (λ h.
    let p = first_place order n f h in
    let o = r.only p.0 p.2 in
    let c = up_to_chosen level faces depths size in
    let low : get_or depths o.0 0 ≤ level = omega (arith, before p.0 p.1, ap (λ e. e.0) o.2) in
    ap (has (up_to level faces depths)) (sym p.3 ∙ ap (λ e. e.1) o.2) ∙ c.inside o.0 o.1 low)
    (λ h.
    let c = (up_to_chosen level faces depths size).only f h in
    let a = r.all c.0 c.1 in
    let low : depth_at order a.0 ≤ level = omega (arith, c.3, ap (λ e. e.0) a.2) in
    let early : a.0 < n = elim (cases_lt a.0 n) [
      | inl q ↦ q
      | inr q ↦ absurd (omega (arith, low, beyond (omega (arith, q, a.1)), r.ascending n a.0 q a.1))
    ] in
    ap (has (first_faces order n)) (sym c.2 ∙ sym (ap (λ e. e.1) a.2)) ∙ first_has order n a.0 early a.1)
  where
    same : (a b : Bool) → (a ≡ true → b ≡ true) → (b ≡ true → a ≡ true) → a ≡ b
    same true b p q = sym (p refl)
    same false true p q = q refl
    same false false p q = refl

pub marked_up_to : (faces depths : List ℕ) (order : List (ℕ × ℕ)) (n level : ℕ) (inside : List Bool) → length depths ≡ length faces
    → AreRanked faces depths order → AreMarkedFirst order n inside → ((j : ℕ) → j < n → depth_at order j ≤ level)
    → (n < length order → level < depth_at order n) → IsWritten (up_to level faces depths) inside
marked_up_to faces depths order n level inside size r m before beyond f h =
    m.written f h ∙ first_up_to faces depths order n level size r m.few before beyond f

-- ---- marks

pub nothing_marked : (order : List (ℕ × ℕ)) (inside : List Bool) → AreClear inside → AreMarkedFirst order 0 inside
nothing_marked order inside c = record { few = omega arith; below = λ k d h. absurd (omega (arith, h)); written = λ f h. c f }

pub marked_more : (order : List (ℕ × ℕ)) (i x : ℕ) (inside : List Bool) → i < length order → x ≡ (entry_at order i).1
    → x < length inside → AreMarkedFirst order i inside → AreMarkedFirst order (i + 1) (set inside x true)
marked_more order i x inside h e l m =
    let here : i < length (map (λ (z : ℕ × ℕ). z.1) order) = omega (arith, h, face_count order) in
    let at : x ≡ get_or (map (λ (z : ℕ × ℕ). z.1) order) i 0 = e ∙ sym (face_is order i) in
    let P : ℕ → Type 0 = λ f. f < length (set inside x true) in
    let same = length-set inside x true in
    record {
      few = omega (arith, h);
      below = All-more P (map (λ (z : ℕ × ℕ). z.1) order) i 0 here (λ k d q. omega (arith, m.below k d q, same)) (omega (arith, l, at, same));
      written = written_more (map (λ (z : ℕ × ℕ). z.1) order) inside i x here at l m.written;
    }

pub marked_below : (order : List (ℕ × ℕ)) (n i : ℕ) (inside : List Bool) → AreMarkedFirst order n inside → i < n → (entry_at order i).1 < length inside
marked_below order n i inside m h =
    let faces : List ℕ = map (λ (e : ℕ × ℕ). e.1) order in
    let size : i < length (take n faces) = omega (arith, h, m.few, face_count order, length-take n faces) in
    omega (arith, m.below i 0 size, get_or-take n faces i 0 h, face_is order i)

pub cleared_first : (order : List (ℕ × ℕ)) (i x : ℕ) (old now : List Bool) → i < length order → x < length now
    → x ≡ (entry_at order i).1 → AreCleared (first_faces order i) old now → AreCleared (first_faces order (i + 1)) old (set now x false)
cleared_first order i x old now h l e c =
    cleared_more (map (λ (z : ℕ × ℕ). z.1) order) old now i x (omega (arith, h, face_count order)) (e ∙ sym (face_is order i)) l c
