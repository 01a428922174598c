-- Walks around a list of faces, whose marks are cleared again.
use Rattle.std.proofs.Common.{arith, ◌≡◌, ℕ, zero, suc, ◌+◌, ◌*◌, ◌/◌, ◌%◌, ◌<◌, ◌&&◌, refl, sym, ap}
use Rattle.std.proofs.Common.{◌∙◌, Bool, true, false, cond, inl, inr, List, [], ◌∷◌, length, get_or, take, set}
use Rattle.std.proofs.Common.{◌++◌, All, subst, length-set, get_or-set_same, get_or-set_other}
use Rattle.std.proofs.lemmas.List.Elements.{All-append, All-cons, All-nil}
use Rattle.std.specs.Prelude.{not, count_by, filter}
use Rattle.std.specs.List.{range_with_len}
use Rattle.std.proofs.lemmas.Bool.{cases_eq, cases_lt, cases_Bool, cond-true, cond-false, and_parts}
use Rattle.std.proofs.lemmas.Bool.{and_right, not-true, true≢false, false≢true, false_from_ne_true}
use Rattle.std.proofs.lemmas.List.{get_or_past}
use Rattle.std.proofs.lemmas.List.Sums.{sum_by-cons, sum_by-append}
use Rattle.dpl_sign.specs.declared.graphs.Signed.{Signed}
use Rattle.dpl_sign.specs.declared.walks.Walk.{Walk}
use Rattle.dpl_sign.specs.Drawings.{is_in}
use Rattle.dpl_cycle.specs.Sums.{sum_on}
use Rattle.dpl_laminar.specs.Families.{has}
use Rattle.dpl_laminar.proofs.Numbers.{has_head, has_tail, taken_has, not_taken}
use Rattle.dpl_map.specs.Views.{MapView}
use Rattle.dpl_map.specs.Sides.{IsMap, is_kept, face, is_odd_face, odd_faces_in}
use Rattle.dpl_pack.specs.Moats.{IsWritten}
use Rattle.dpl_pack.specs.Marks.{AreClear, AreCleared, AreMarksNoted}
use Rattle.dpl_pack.specs.Traces.{IsRoundWalk, IsAround, odd_list}
use Rattle.dpl_map.proofs.RowLemmas.{chosen_split}

-- ---- marks

pub cleared_more : (places : List ℕ) (old now : List Bool) (i x : ℕ) → i < length places
    → x ≡ get_or places i 0 → x < length now → AreCleared (take i places) old now
    → AreCleared (take (i + 1) places) old (set now x false)
cleared_more places old now i x h e l c z = elim (cases_eq x z) [
  | inl t ↦
      let here : has (take (i + 1) places) z ≡ true = ap (has (take (i + 1) places)) (sym t ∙ e) ∙ taken_has places i h in
      ap (λ y. get_or (set now x false) y false) (sym t) ∙ get_or-set_same now x false false l ∙
      sym (and_right (get_or old z false) (not (has (take (i + 1) places) z)) (ap not here))
  | inr t ↦ get_or-set_other now x z false false (λ q. t (sym q)) ∙ c z ∙ ap (λ b. get_or old z false && not b) (sym (not_taken places i z h (λ q. t (e ∙ q))))
]

-- ---- the odd faces of a list

pub count_odd : (P Q : ℕ → Bool) (n : ℕ) → count_by P (filter Q (range_with_len 0 n)) ≡ sum_on (λ f. P f && Q f) (λ f. 1) n
count_odd P Q zero = refl
count_odd P Q (suc n) =
    let e : n + 1 ≡ suc n = omega arith in
    let split = ap (λ z. filter Q (range_with_len 0 z)) (sym e) ∙ chosen_split Q n in
    let more = count_odd P Q n in
    let two = ap (count_by P) split ∙ sum_by-append (λ z. cond {A = ℕ} (P z) 1 0) (filter Q (range_with_len 0 n)) (cond (Q n) (n ∷ []) []) in
    elim (cases_Bool (Q n)) [
      | inl t ↦ omega (
        arith,
        more,
        two,
        ap (count_by P) (cond-true (Q n) (n ∷ []) [] t),
        sum_by-cons (λ z. cond {A = ℕ} (P z) 1 0) n [],
        ap (λ b. cond {A = ℕ} (P n && b) 1 0) t,
        last (P n),
      )
      | inr t ↦ omega (arith, more, two, ap (count_by P) (cond-false (Q n) (n ∷ []) [] t), ap (λ b. cond {A = ℕ} (P n && b) 1 0) t, none (P n))
    ]
  where
    last : (b : Bool) → cond {A = ℕ} (b && true) 1 0 ≡ cond b 1 0
    last true = refl
    last false = refl

    none : (b : Bool) → cond {A = ℕ} (b && false) 1 0 ≡ 0
    none true = refl
    none false = refl

pub sum_alike : (n : ℕ) (p q : ℕ → Bool) → ((f : ℕ) → f < n → p f ≡ q f) → sum_on p (λ f. 1) n ≡ sum_on q (λ f. 1) n
sum_alike zero p q h = refl
sum_alike (suc n) p q h = omega (arith, sum_alike n p q (λ f l. h f (omega arith)), ap (λ b. cond {A = ℕ} b 1 0) (h n (omega arith)))

pub odd_inside : (g : Signed) (m : MapView) (faces : List ℕ) (inside : List Bool) → length inside ≡ m.faces
    → IsWritten faces inside → count_by (has faces) (odd_list g m) % 2 ≡ 1 → odd_faces_in g m inside % 2 ≡ 1
odd_inside g m faces inside size w h =
    omega (
      arith,
      h,
      count_odd (has faces) (is_odd_face g m) m.faces,
      sum_alike m.faces (λ f. is_in inside f && is_odd_face g m f) (λ f. has faces f && is_odd_face g m f)
          (λ f l. ap (λ b. b && is_odd_face g m f) (w f (omega (arith, l, size)))),
    )

-- ---- a walk around what was written

pub around_of : (g : Signed) (m : MapView) → IsMap g m → (faces : List ℕ) (inside : List Bool) (w : Walk)
    → length inside ≡ m.faces → IsWritten faces inside → IsRoundWalk g m inside w → IsAround g m faces w
around_of g m k faces inside w size written r = record {
  odd = r.odd;
  leaves = λ i d l.
      let b = r.border i d l in
      let e = get_or w.edges i d in
      let inside_at : (f : ℕ) → f < m.faces → is_in inside f ≡ has faces f = λ f hf. written f (omega (arith, hf, size)) in
      let small : e < length g.edges = kept_small e b.0 in
      let first = inside_at (face m (2 * e)) (k.inside (2 * e) (omega (arith, small)) b.0) in
      let second = inside_at (face m (2 * e + 1)) (k.inside (2 * e + 1) (omega (arith, small)) (kept_second e ∙ b.0)) in
      (b.0, λ q. b.1 (first ∙ q ∙ sym second));
  once = r.once;
}
  where
    kept_second : (e : ℕ) → is_kept m (2 * e + 1) ≡ is_kept m (2 * e)
    kept_second e =
        let h : (2 * e + 1) / 2 ≡ 2 * e / 2 = omega arith in
        ap (λ z. get_or m.kept z false) h

    kept_small : (e : ℕ) → is_kept m (2 * e) ≡ true → e < length g.edges
    kept_small e h = elim (cases_lt e (length g.edges)) [
      | inl a ↦ a
      | inr a ↦
          let half : 2 * e / 2 ≡ e = omega arith in
          absurd (true≢false (sym h ∙ ap (λ z. get_or m.kept z false) half ∙ get_or_past m.kept e false (omega (arith, a, k.edges))))
    ]

-- ---- marks that are noted

has_more : (xs ys : List ℕ) (x : ℕ) → has xs x ≡ true → has (xs ++ ys) x ≡ true
has_more [] ys x h = absurd (false≢true h)
has_more (c ∷ cs) ys x h = elim (cases_eq c x) [
  | inl e ↦ has_head c x (cs ++ ys) e
  | inr ne ↦ has_tail c x (cs ++ ys) ne ∙ has_more cs ys x (sym (has_tail c x cs ne) ∙ h)
]

has_last : (xs : List ℕ) (x : ℕ) → has (xs ++ x ∷ []) x ≡ true
has_last [] x = has_head x x [] refl
has_last (c ∷ cs) x = elim (cases_eq c x) [
  | inl e ↦ has_head c x (cs ++ x ∷ []) e
  | inr ne ↦ has_tail c x (cs ++ x ∷ []) ne ∙ has_last cs x
]

pub noted_none : (marks : List Bool) → AreClear marks → AreMarksNoted [] marks
noted_none marks c = record {
  each = λ x t. absurd (false≢true (sym (c x) ∙ t));
  below = λ k d h. absurd (omega (arith, h));
}

pub noted_more : (places new : List ℕ) (marks : List Bool) (p : ℕ) → p < length marks → new ≡ places ++ p ∷ []
    → AreMarksNoted places marks → AreMarksNoted new (set marks p true)
noted_more places new marks p h e n = record {
  each = λ x t. ap (λ z. has z x) e ∙ elim (cases_eq x p) [
    | inl q ↦ ap (λ z. has (places ++ p ∷ []) z) q ∙ has_last places p
    | inr ne ↦ has_more places (p ∷ []) x (n.each x (sym (get_or-set_other marks p x true false ne) ∙ t))
  ];
  below = subst (All (λ x. x < length (set marks p true))) (sym e) (All-append (λ x. x < length (set marks p true)) places (p ∷ [])
      (λ k d l. omega (arith, n.below k d l, length-set marks p true))
      (All-cons (λ x. x < length (set marks p true)) p [] (omega (arith, h, length-set marks p true))
      (All-nil (λ x. x < length (set marks p true)))));
}

pub noted_cleared : (places : List ℕ) (marks new : List Bool) → AreMarksNoted places marks → AreCleared places marks new → AreClear new
noted_cleared places marks new n c x = false_from_ne_true (get_or new x false) (λ t.
    let parts = and_parts (get_or marks x false) (not (has places x)) (sym (c x) ∙ t) in
    true≢false (sym (n.each x parts.0) ∙ not-true (has places x) parts.1))
