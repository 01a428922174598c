-- Odd faces that are together in the whole are together in one part.
use Rattle.std.proofs.Common.{arith, ◌≡◌, ℕ, zero, suc, ◌+◌, ◌/◌, ◌%◌, ◌<◌, ◌≤◌, ◌==◌, ◌&&◌, refl, sym, ap, subst, ◌∙◌}
use Rattle.std.proofs.Common.{Bool, true, false, cond, inl, inr, List, [], ◌∷◌, length, map}
use Rattle.std.specs.Prelude.{All, filter, slice_index_or}
use Rattle.std.specs.List.{range_with_len}
use Rattle.std.proofs.lemmas.Bool.{cases_eq, cases_lt, cases_Bool, cond-true, cond-false, ne_eqb, both_ways}
use Rattle.std.proofs.lemmas.List.{get_or-map, length-map}
use Rattle.std.proofs.lemmas.List.Elements.{All-contains}
use Rattle.dpl_cycle.specs.Sums.{count_on}
use Rattle.dpl_cycle.proofs.SumLemmas.{count_on_same}
use Rattle.dpl_sign.specs.declared.nets.Net.{Net}
use Rattle.dpl_sign.specs.Drawings.{dart_count, face_of}
use Rattle.dpl_sign.specs.Parity.{passages_on_face, is_clash_edge, is_odd_face, AreOfOnePart}
use Rattle.dpl_sign.proofs.Rotation.{face_below}
use Rattle.dpl_sign.proofs.Loads.{sum_to_zero}
use Rattle.dpl_parts.specs.Parts.{IsPartOf, dart, face_at}
use Rattle.dpl_parts.specs.Shares.{Part, ShareOut}
use Rattle.dpl_parts.proofs.Darts.{dart_apart}
use Rattle.dpl_parts.proofs.Kept.{keeps_alike}
use Rattle.dpl_parts.proofs.Linked.{links_stay}
use Rattle.dpl_parts.proofs.Shared.{dart_held, not_odd, odd_up}
use Rattle.dpl_parts.proofs.Sums.{sums_to}
use Rattle.dpl_parts.proofs.Together.{face_name_up, face_name_down}
use Rattle.dpl_solve.specs.Named.{keeps, odd_faces}
use Rattle.dpl_sum.specs.Solved.{AreOddTogether, AreInOne}

-- ---- how many odd faces there are

filter_count : (p : ℕ → Bool) (a n : ℕ) → count_on p (a + n) ≡ count_on p a + length (filter p (range_with_len a n))
filter_count p a zero = let e : count_on p (a + 0) ≡ count_on p a = ap (count_on p) (omega arith) in omega (arith, e)
filter_count p a (suc n) =
    let r = filter_count p (a + 1) n in
    let along : a + 1 + n ≡ a + suc n = omega arith in
    let up : a + 1 ≡ suc a = omega arith in
    let at = ap (count_on p) along in
    let one = ap (count_on p) up in
    elim (cases_Bool (p a)) [
      | inl t ↦
          let w : cond (p a) 1 0 ≡ 1 = cond-true {A = ℕ} (p a) 1 0 t in
          let f = ap length (cond-true (p a) (a ∷ filter p (range_with_len (a + 1) n)) (filter p (range_with_len (a + 1) n)) t) in
          omega (arith, r, at, one, w, f)
      | inr t ↦
          let w : cond (p a) 1 0 ≡ 0 = cond-false {A = ℕ} (p a) 1 0 t in
          let f = ap length (cond-false (p a) (a ∷ filter p (range_with_len (a + 1) n)) (filter p (range_with_len (a + 1) n)) t) in
          omega (arith, r, at, one, w, f)
    ]

pub odd_counted : (net : Net) → length (odd_faces net) ≡ count_on (is_odd_face net (keeps net)) (dart_count net)
odd_counted net =
    let p : ℕ → Bool = is_odd_face net (keeps net) in
    let n = dart_count net in
    let c = filter_count p 0 n in
    let e : count_on p (0 + n) ≡ count_on p n = ap (count_on p) (omega arith) in
    omega (arith, c, e)

-- ---- the names of odd faces

odd_name : (net : Net) (set : ℕ → Bool) (f : ℕ) → is_odd_face net set f ≡ true → face_of net set f ≡ f
odd_name net set f t = elim (cases_eq (face_of net set f) f) [ inl e ↦ e | inr n ↦ absurd (both_ways _ (not_odd net set f n) t) ]

past_odd : (net : Net) (set : ℕ → Bool) (f : ℕ) → dart_count net ≤ f → is_odd_face net set f ≡ false
past_odd net set f far =
    let m = dart_count net in
    let none : passages_on_face net set (is_clash_edge net) f ≡ 0 =
    count_on_same m (λ d. set (d / 2) && (face_of net set d == f) && is_clash_edge net (d / 2)) (λ d. false) (λ d l.
    let r = ne_eqb (face_of net set d) f (λ e. let low = face_below net set d l in omega (arith, e, low, far)) in
    elim (cases_Bool (set (d / 2))) [ inl t ↦ rw (t, r) refl | inr t ↦ rw t refl ]) ∙ sums_to (λ d. false) (λ x. 1) m ∙ sum_to_zero m in
    ap (λ z. z % 2 == 1) none

odd_low : (net : Net) (set : ℕ → Bool) (f : ℕ) → is_odd_face net set f ≡ true → f < dart_count net
odd_low net set f t = elim (cases_lt f (dart_count net)) [ inl l ↦ l | inr far ↦ absurd (both_ways _ (past_odd net set f (omega (arith, far))) t) ]

-- ---- between a part and the whole

module _ (p : Part) (whole : Net) (h : IsPartOf p.net whole p.node p.edge) where
  odd_is : (c : ℕ) → c < dart_count p.net → is_odd_face whole (keeps whole) (dart p.edge c) ≡ is_odd_face p.net (keeps p.net) c
  odd_is c l = odd_up p.net whole p.node p.edge h (keeps p.net) (keeps whole) (keeps_alike p.net whole p.node p.edge h) c l

  -- what is linked in the whole is linked in the part
  link_down : (c d : ℕ) → c < dart_count p.net → d < dart_count p.net → face_at p.net c ≡ c →
      AreOfOnePart whole (keeps whole) (dart p.edge c) (dart p.edge d) → AreOfOnePart p.net (keeps p.net) c d
  link_down c d l m name linked =
      let up : face_at whole (dart p.edge c) ≡ dart p.edge c = face_name_up p whole h c l ∙ ap (dart p.edge) name in
      let (x, lx, nx, way, at) = links_stay p.net whole p.node p.edge h c (dart p.edge d) l name
      (subst (λ z. AreOfOnePart whole (keeps whole) z (dart p.edge d)) (sym up) linked) in
      let there : dart p.edge x ≡ dart p.edge d = ap (dart p.edge) (sym nx) ∙ sym (face_name_up p whole h x lx) ∙ at in
      subst (AreOfOnePart p.net (keeps p.net) c) (dart_apart p.net whole p.node p.edge h x d lx m there) way

  -- odd faces of the whole that are together, and darts of the part, are so in it
  pub together_down : (own : List ℕ) → All (λ c. c < dart_count p.net) own → AreOddTogether whole (map (dart p.edge) own) → AreOddTogether p.net own
  together_down own low o =
      let f : ℕ → ℕ = dart p.edge in
      let size = length-map own f in
      let odd : (k d : ℕ) → k < length own → is_odd_face p.net (keeps p.net) (slice_index_or own k d) ≡ true = λ k d l.
      sym (odd_is (slice_index_or own k d) (low k d l)) ∙
      ap (is_odd_face whole (keeps whole)) (sym (get_or-map f own k d (f d) l)) ∙
      o.odd k (f d) (omega (arith, l, size)) in record {
        odd = odd;
        apart = λ i j d s l.
            let n : i < length own = omega (arith, l, s) in
            λ e. o.apart i j (f d) s (omega (arith, l, size)) (get_or-map f own i d (f d) n ∙ ap f e ∙ sym (get_or-map f own j d (f d) l));
        linked = λ i j d s l.
            let n : i < length own = omega (arith, l, s) in
            let there = o.linked i j (f d) s (omega (arith, l, size)) in
            link_down (slice_index_or own i d) (slice_index_or own j d) (low i d n) (low j d l)
            (odd_name p.net (keeps p.net) (slice_index_or own i d) (odd i d n))
            (subst (λ z. AreOfOnePart whole (keeps whole) z (f (slice_index_or own j d))) (get_or-map f own i d (f d) n)
            (subst (AreOfOnePart whole (keeps whole) (slice_index_or (map f own) i (f d)))
            (get_or-map f own j d (f d) l) there));
      }

-- ---- the part that has them

-- darts of the part that are these darts of the whole
record AreLowered (p : Part) (faces : List ℕ) : Type 0 where
  own : List ℕ
  low : All (λ c. c < dart_count p.net) own
  are : map (dart p.edge) own ≡ faces

lowered : (p : Part) (faces : List ℕ) → All (λ g. (x : ℕ) × (x < dart_count p.net) × (dart p.edge x ≡ g)) faces → AreLowered p faces
lowered p [] each = record { own = []; low = λ k d l. absurd (omega (arith, l)); are = refl }
lowered p (g ∷ faces) each =
    let (x, l, e) = each 0 g (omega arith) in
    let rest = lowered p faces (λ k d m. each (suc k) d (omega (arith, m))) in
    let low : All (λ c. c < dart_count p.net) (x ∷ rest.own) = low_more x l rest.own rest.low in
    record { own = x ∷ rest.own; low = low; are = ap (λ z. z ∷ map (dart p.edge) rest.own) e ∙ ap (λ zs. g ∷ zs) rest.are } where
      low_more : (x : ℕ) → x < dart_count p.net → (xs : List ℕ) → All (λ c. c < dart_count p.net) xs → All (λ c. c < dart_count p.net) (x ∷ xs)
      low_more x l xs all zero d m = l
      low_more x l xs all (suc k) d m = all k d (omega (arith, m))

pub in_one : (whole : Net) (parts : List Part) → ShareOut whole parts → (f : ℕ) (faces : List ℕ) → AreOddTogether whole (f ∷ faces) → AreInOne parts (f ∷ faces)
in_one whole parts h f faces o =
    let odd = o.odd 0 f (omega arith) in
    let low = odd_low whole (keeps whole) f odd in
    let name = odd_name whole (keeps whole) f odd in
    let s = dart_held whole parts h f low in
    let p = s.holder in
    let c = s.own in
    let hp = All-contains (λ p. IsPartOf p.net whole p.node p.edge) parts p h.are s.among in
    let there : face_at whole (dart p.edge c) ≡ f = ap (face_at whole) s.is ∙ name in
    let own : face_at p.net c ≡ c = face_name_down p whole hp c s.below (there ∙ sym s.is) in
    let rest = lowered p faces (λ k d l.
    let g = slice_index_or faces k d in
    let linked = o.linked 0 (suc k) d (omega arith) (omega (arith, l)) in
    let (x, lx, nx, way, at) = links_stay p.net whole p.node p.edge hp c g s.below own (subst (λ z. AreOfOnePart whole (keeps whole) z g) (sym there) linked) in
    (x, lx, ap (dart p.edge) (sym nx) ∙ sym (face_name_up p whole hp x lx) ∙ at)) in
    let low_all : All (λ z. z < dart_count p.net) (c ∷ rest.own) = first_low p c s.below rest.own rest.low in
    let are : map (dart p.edge) (c ∷ rest.own) ≡ f ∷ faces = ap (λ z. z ∷ map (dart p.edge) rest.own) s.is ∙ ap (λ zs. f ∷ zs) rest.are in
    record {
      part = p;
      among = s.among;
      own = c ∷ rest.own;
      together = together_down p whole hp (c ∷ rest.own) low_all (subst (AreOddTogether whole) (sym are) o);
      are = are;
    } where
      first_low : (p : Part) (x : ℕ) → x < dart_count p.net → (xs : List ℕ) → All (λ c. c < dart_count p.net) xs → All (λ c. c < dart_count p.net) (x ∷ xs)
      first_low p x l xs all zero d m = l
      first_low p x l xs all (suc k) d m = all k d (omega (arith, m))
