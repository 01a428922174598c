-- The faces that the members of a set hold are those near it.
use Rattle.std.proofs.Common.{arith, ◌≡◌, ◌≢◌, ℕ, zero, suc, ◌+◌, ◌-◌, ◌*◌, ◌<◌, ◌≤◌, ◌==◌, min, refl, sym, ap, ◌∙◌, subst}
use Rattle.std.proofs.Common.{true, false, inl, inr, List, [], ◌∷◌, ◌++◌, length, map, take, get_or, eq-eqb}
use Rattle.std.specs.Prelude.{nat_lt, All, Contains}
use Rattle.std.specs.List.{flat_map, range_with_len}
use Rattle.std.proofs.lemmas.Bool.{cases_eq, cases_lt, cases_Bool, cond-true, cond-false, lt-ltb, le-ltb, ne_eqb, true≢false}
use Rattle.std.proofs.lemmas.List.{length-map, get_or-map, get_or_default, take_more, take_all, append-nil, append_assoc}
use Rattle.std.proofs.lemmas.List.FromFn.{length-range_with_len}
use Rattle.std.proofs.lemmas.List.Concat.{flat_map-append}
use Rattle.std.proofs.lemmas.List.Elements.{All-nil, All-cons, All-head, All-tail, All-append, Contains-append_left, Contains-append_right}
use Rattle.dpl_list.specs.Rows.{of_key, rows_by}
use Rattle.dpl_list.proofs.Grouping.{rows_by_at}
use Rattle.dpl_laminar.specs.Families.{Sets, has}
use Rattle.dpl_laminar.proofs.Numbers.{has_at, place_in}
use Rattle.dpl_pack.specs.declared.held.Held.{Held}
use Rattle.dpl_pack.specs.Nests.{layers_of, inner_of}
use Rattle.dpl_pack.specs.Depths.{depth, AreEnds}
use Rattle.dpl_pack.specs.Stacks.{ends_at, AreDepths}
use Rattle.dpl_pack.specs.Points.{Point, water, on, depth_in, fars}
use Rattle.dpl_pack.specs.Floods.{AreHeld}
use Rattle.dpl_pack.specs.Spots.{spot_of, AreSpots, near_one, near_held}
use Rattle.dpl_pack.proofs.NestLemmas.{value_in}
use Rattle.dpl_pack.proofs.FloodLemmas.{depth_is}
use Rattle.dpl_pack.proofs.PointLemmas.{on_water, same_member, same_far}
use Rattle.dpl_list.proofs.Lists.{in_tail}

-- ---- lists of lists

contains_first : {X : Type 0} (x : X) (xs : List X) → Contains (x ∷ xs) x
contains_first x xs = (0, omega arith, refl)

-- what all items of all lists are, all items of the lists together are
pub flat_map_all : {X Y : Type 0} (P : Y → Type 0) (g : X → List Y) (xs : List X) → All (λ x. All P (g x)) xs → All P (flat_map g xs)
flat_map_all P g [] a = All-nil P
flat_map_all P g (x ∷ xs) a = All-append P (g x) (flat_map g xs) (All-head (λ z. All P (g z)) x xs a)
    (flat_map_all P g xs (All-tail (λ z. All P (g z)) x xs a))

-- what is in the list of one item is in the lists together
pub flat_map_has : {X Y : Type 0} (g : X → List Y) (xs : List X) (k : ℕ) (d : X) (y : Y) → k < length xs
    → Contains (g (get_or xs k d)) y → Contains (flat_map g xs) y
flat_map_has g [] k d y l c = absurd (omega (arith, l))
flat_map_has g (x ∷ xs) zero d y l c = Contains-append_left (g x) (flat_map g xs) y c
flat_map_has g (x ∷ xs) (suc k) d y l c = Contains-append_right (g x) (flat_map g xs) y (flat_map_has g xs k d y (omega (arith, l)) c)

-- one list more of the lists together
pub flat_map_taken : {X Y : Type 0} (g : X → List Y) (xs : List X) (i : ℕ) (d : X) → i < length xs
    → flat_map g (take (i + 1) xs) ≡ flat_map g (take i xs) ++ g (get_or xs i d)
flat_map_taken g xs i d l =
    ap (flat_map g) (take_more xs i d l) ∙ flat_map-append g (take i xs) (get_or xs i d ∷ []) ∙
    ap (λ z. flat_map g (take i xs) ++ z) (append-nil (g (get_or xs i d)))

-- ---- member by member

spots_each : (point : ℕ → Point) (t : ℕ) (held : List Held) → All (λ h. point h.face ≡ on h.member h.far) held
    → All (λ (s : ℕ × ℕ). point s.0 ≡ on t s.1) (of_key t (map (λ h. h.member) held) (map spot_of held))
spots_each point t [] a = All-nil (λ (s : ℕ × ℕ). point s.0 ≡ on t s.1)
spots_each point t (h ∷ held) a =
    let P : ℕ × ℕ → Type 0 = λ s. point s.0 ≡ on t s.1 in
    let Q : Held → Type 0 = λ z. point z.face ≡ on z.member z.far in
    let R : List (ℕ × ℕ) → Type 0 = λ z. All P z in
    let more = spots_each point t held (All-tail Q h held a) in
    let rest = of_key t (map (λ z. z.member) held) (map spot_of held) in
    elim (cases_eq h.member t) [
      | inl e ↦ subst R (sym (cond-true (h.member == t) (spot_of h ∷ rest) rest (eq-eqb h.member t e)))
          (All-cons P (spot_of h) rest (All-head Q h held a ∙ ap (λ z. on z h.far) e) more)
      | inr ne ↦ subst R (sym (cond-false (h.member == t) (spot_of h ∷ rest) rest (ne_eqb h.member t ne))) more
    ]

spot_has : (point : ℕ → Point) (held : List Held) → All (λ h. point h.face ≡ on h.member h.far) held → (g t far k : ℕ)
    → point g ≡ on t far → k < length held → get_or (map (λ h. h.face) held) k g ≡ g
    → Contains (of_key t (map (λ h. h.member) held) (map spot_of held)) (g, far)
spot_has point [] a g t far k e l c = absurd (omega (arith, l))
spot_has point (h ∷ held) a g t far zero e l c =
    let Q : Held → Type 0 = λ z. point z.face ≡ on z.member z.far in
    let is : on h.member h.far ≡ on t far = sym (All-head Q h held a) ∙ ap point c ∙ e in
    let rest = of_key t (map (λ z. z.member) held) (map spot_of held) in
    let spot : spot_of h ≡ (g, far) = λ i. (c i, same_far h.member t h.far far is i) in
    let R : List (ℕ × ℕ) → Type 0 = λ z. Contains z (g, far) in
    subst R (sym (cond-true (h.member == t) (spot_of h ∷ rest) rest (eq-eqb h.member t (same_member h.member t h.far far is))))
    (subst (λ (z : ℕ × ℕ). Contains (z ∷ rest) (g, far)) (sym spot) (contains_first (g, far) rest))
spot_has point (h ∷ held) a g t far (suc k) e l c =
    let Q : Held → Type 0 = λ z. point z.face ≡ on z.member z.far in
    let more = spot_has point held (All-tail Q h held a) g t far k e (omega (arith, l)) c in
    let rest = of_key t (map (λ z. z.member) held) (map spot_of held) in
    let R : List (ℕ × ℕ) → Type 0 = λ z. Contains z (g, far) in
    elim (cases_Bool (h.member == t)) [
      | inl y ↦ subst R (sym (cond-true (h.member == t) (spot_of h ∷ rest) rest y)) (in_tail (spot_of h) (g, far) rest more)
      | inr y ↦ subst R (sym (cond-false (h.member == t) (spot_of h ∷ rest) rest y)) more
    ]

-- the faces that are held, member by member, are the spots
pub are_spots : (f : Sets) (point : ℕ → Point) (held : List Held) (spots : List (List (ℕ × ℕ))) (n : ℕ) → AreHeld held point
    → ((g t far : ℕ) → point g ≡ on t far → t < f.size) → n ≡ f.size
    → spots ≡ rows_by (map (λ h. h.member) held) (map spot_of held) n → AreSpots f point spots
are_spots f point held spots n are members size e =
    let keys = map (λ (h : Held). h.member) held in
    let items = map spot_of held in
    let row : (t : ℕ) → t < f.size → ends_at spots t ≡ of_key t keys items = λ t h.
    ap (λ z. ends_at z t) e ∙ rows_by_at keys items n t (omega (arith, h, size)) in
    record {
      rows = ap length e ∙ rows_length keys items n ∙ size;
      each = λ t h.
          let P : List (ℕ × ℕ) → Type 0 = λ z. All (λ (s : ℕ × ℕ). point s.0 ≡ on t s.1) z in
          subst P (sym (row t h)) (spots_each point t held are.each);
      all = λ g t far h.
          let P : List (ℕ × ℕ) → Type 0 = λ z. Contains z (g, far) in
          let c = are.all g (λ w. not_water g t far h w) in
          subst P (sym (row t (members g t far h))) (spot_has point held are.each g t far c.0 h (omega (arith, c.1, length-map held (λ x. x.face))) c.2);
    }
  where
    rows_length : (keys : List ℕ) (items : List (ℕ × ℕ)) (n : ℕ) → length (rows_by keys items n) ≡ n
    rows_length keys items n = length-map (range_with_len 0 n) (λ k. of_key k keys items) ∙ length-range_with_len 0 n

    not_water : (g t far : ℕ) → point g ≡ on t far → point g ≡ water → ⊥
    not_water g t far a b = on_water t far (sym a ∙ b)

-- ---- the faces near a set

-- a face with its depth in a set, which is less than the value
pub record IsNearAt (f : Sets) (point : ℕ → Point) (k : ℕ) (p : ℕ × ℕ) : Type 0 where
  pub depth : depth_in f (point p.0) k ≡ p.1
  pub dry : point p.0 ≢ water

near_one_is : (f : Sets) (point : ℕ → Point) (k : ℕ) (e s : ℕ × ℕ) → f.holds k e.0 ≡ true → e.1 ≡ inner_of f k e.0
    → point s.0 ≡ on e.0 s.1 → All (IsNearAt f point k) (near_one (f.value k) e s)
near_one_is f point k e s h i is =
    let P : List (ℕ × ℕ) → Type 0 = λ z. All (IsNearAt f point k) z in
    let one : List (ℕ × ℕ) = (s.0, s.1 - e.1) ∷ [] in
    elim (cases_lt s.1 (e.1 + f.value k)) [
      | inl l ↦ subst P (sym (cond-true (nat_lt s.1 (e.1 + f.value k)) one [] (lt-ltb s.1 (e.1 + f.value k) l)))
          (All-cons (IsNearAt f point k) (s.0, s.1 - e.1) [] (record {
            depth =
                let v = cond-true {A = ℕ} (f.holds k e.0) (min (f.value k) (s.1 - inner_of f k e.0)) (f.value k) h in
                ap (λ z. depth_in f z k) is ∙ omega (arith, v, i, l);
            dry = λ w. on_water e.0 s.1 (sym is ∙ w);
          }) (All-nil (IsNearAt f point k)))
      | inr l ↦ subst P (sym (cond-false (nat_lt s.1 (e.1 + f.value k)) one [] (le-ltb s.1 (e.1 + f.value k) l))) (All-nil (IsNearAt f point k))
    ]

near_are : (f : Sets) (point : ℕ → Point) (k : ℕ) (ends : List (ℕ × ℕ)) (spots : List (List (ℕ × ℕ)))
    → AreEnds (layers_of f) k ends → AreSpots f point spots → All (IsNearAt f point k) (near_held (f.value k) ends spots)
near_are f point k ends spots e s =
    let P = IsNearAt f point k in
    flat_map_all P (λ x. flat_map (near_one (f.value k) x) (ends_at spots x.0)) ends (λ j d l.
    let x : ℕ × ℕ = get_or ends j (0, 0) in
    let Q : ℕ × ℕ → Type 0 = λ z. All P (flat_map (near_one (f.value k) z) (ends_at spots z.0)) in
    let m = e.members j l in
    subst Q (get_or_default ends j (0, 0) d l) (flat_map_all P (near_one (f.value k) x) (ends_at spots x.0)
    (λ y c h. near_one_is f point k x (get_or (ends_at spots x.0) y c) m.1 m.2 (s.each x.0 m.0 y c h))))

near_has : (f : Sets) (point : ℕ → Point) (k : ℕ) (ends : List (ℕ × ℕ)) (spots : List (List (ℕ × ℕ)))
    → AreEnds (layers_of f) k ends → AreSpots f point spots → (g t far : ℕ) → point g ≡ on t far → t < f.size
    → f.holds k t ≡ true → far < inner_of f k t + f.value k
    → Contains (near_held (f.value k) ends spots) (g, far - inner_of f k t)
near_has f point k ends spots e s g t far is ht h l =
    let w = e.all t ht h in
    let x : ℕ × ℕ = get_or ends w.0 (0, 0) in
    let m = e.members w.0 w.1 in
    let same : x.1 ≡ inner_of f k t = m.2 ∙ ap (inner_of f k) w.2 in
    let c = s.all g t far is in
    let one : List (ℕ × ℕ) = (g, far - inner_of f k t) ∷ [] in
    let R : List (ℕ × ℕ) → Type 0 = λ z. Contains z (g, far - inner_of f k t) in
    let less : nat_lt far (x.1 + f.value k) ≡ true = lt-ltb far (x.1 + f.value k) (omega (arith, l, same)) in
    let put : near_one (f.value k) x (g, far) ≡ one =
    cond-true (nat_lt far (x.1 + f.value k)) ((g, far - x.1) ∷ []) [] less ∙ ap (λ z. (g, far - z) ∷ []) same in
    let here : Contains (near_one (f.value k) x (g, far)) (g, far - inner_of f k t) =
    subst R (sym put) (contains_first (g, far - inner_of f k t) []) in
    let row : ends_at spots t ≡ ends_at spots x.0 = ap (ends_at spots) (sym w.2) in
    let Q : ℕ × ℕ → Type 0 = λ z. Contains (near_one (f.value k) x z) (g, far - inner_of f k t) in
    let P : List (ℕ × ℕ) → Type 0 = λ z. Contains (flat_map (near_one (f.value k) x) z) (g, far - inner_of f k t) in
    flat_map_has (λ z. flat_map (near_one (f.value k) z) (ends_at spots z.0)) ends w.0 (0, 0) (g, far - inner_of f k t) w.1
    (subst P row (flat_map_has (near_one (f.value k) x) (ends_at spots t) c.0 (g, far) (g, far - inner_of f k t) c.1
    (subst Q (sym c.2) here)))

-- what is held near a set are the faces that are less deep in it than its value
pub held_depths : (f : Sets) (point : ℕ → Point) (faces : List ℕ) (k : ℕ) (ends : List (ℕ × ℕ)) (spots : List (List (ℕ × ℕ)))
    (value : ℕ) (near : List (ℕ × ℕ)) → AreEnds (layers_of f) k ends → AreSpots f point spots
    → ((g t far : ℕ) → point g ≡ on t far → t < f.size) → ((g : ℕ) → point g ≢ water → has faces g ≡ true)
    → k < 2 * f.size → value ≡ f.value k → near ≡ near_held value ends spots
    → AreDepths (layers_of f) (fars f point) faces (map (λ p. p.0) near) k (map (λ p. p.1) near)
held_depths f point faces k ends spots value near e s members home hk v is =
    let near_is : near ≡ near_held (f.value k) ends spots = is ∙ ap (λ z. near_held z ends spots) v in
    let all : All (IsNearAt f point k) near = subst (λ (z : List (ℕ × ℕ)). All (IsNearAt f point k) z) (sym near_is) (near_are f point k ends spots e s) in
    let size : length (map (λ (p : ℕ × ℕ). p.0) near) ≡ length near = length-map near (λ p. p.0) in
    let deep : (g : ℕ) → depth (layers_of f) (fars f point g) k ≡ depth_in f (point g) k = λ g.
    depth_is f (point g) (λ t far q. members g t far q) k hk in
    let face : (i : ℕ) → i < length near → get_or (map (λ (p : ℕ × ℕ). p.0) near) i 0 ≡ (get_or near i (0, 0)).0 = λ i l.
    get_or-map (λ (p : ℕ × ℕ). p.0) near i (0, 0) 0 l in
    record {
      sizes = length-map near (λ p. p.1) ∙ sym size;
      each = λ i l.
          let h : i < length near = omega (arith, l, size) in
          get_or-map (λ (p : ℕ × ℕ). p.1) near i (0, 0) 0 h ∙ sym (all i (0, 0) h).depth ∙
          ap (λ z. depth_in f (point z) k) (sym (face i h)) ∙ sym (deep (get_or (map (λ (p : ℕ × ℕ). p.0) near) i 0));
      inside = λ g q.
          let p = place_in (map (λ (p : ℕ × ℕ). p.0) near) g q in
          let h : p.0 < length near = omega (arith, p.1, size) in
          let at : (get_or near p.0 (0, 0)).0 ≡ g = sym (face p.0 h) ∙ p.2 in
          home g (λ w. (all p.0 (0, 0) h).dry (ap point at ∙ w));
      rest = λ g h off. deep g ∙ outside g off (point g) refl ∙ sym (value_in f k hk);
    }
  where
    outside : (g : ℕ) → has (map (λ (p : ℕ × ℕ). p.0) near) g ≡ false → (p : Point) → point g ≡ p → depth_in f (point g) k ≡ f.value k
    outside g off water at = ap (λ z. depth_in f z k) at
    outside g off (on t far) at = ap (λ z. depth_in f z k) at ∙ elim (cases_Bool (f.holds k t)) [
      | inr y ↦ cond-false {A = ℕ} (f.holds k t) (min (f.value k) (far - inner_of f k t)) (f.value k) y
      | inl y ↦
          let is_min = cond-true {A = ℕ} (f.holds k t) (min (f.value k) (far - inner_of f k t)) (f.value k) y in
          elim (cases_lt far (inner_of f k t + f.value k)) [
            | inr l ↦ omega (arith, is_min, l)
            | inl l ↦
                let c = near_has f point k ends spots e s g t far at (members g t far at) y l in
                let near_is : near ≡ near_held (f.value k) ends spots = is ∙ ap (λ z. near_held z ends spots) v in
                let R : List (ℕ × ℕ) → Type 0 = λ z. Contains z (g, far - inner_of f k t) in
                let d = subst R (sym near_is) c in
                let x : ℕ × ℕ = (g, far - inner_of f k t) in
                let face : get_or (map (λ (p : ℕ × ℕ). p.0) near) d.0 0 ≡ g =
                get_or-map (λ (p : ℕ × ℕ). p.0) near d.0 x 0 d.1 ∙ ap (λ (p : ℕ × ℕ). p.0) d.2 in
                let here = has_at (map (λ (p : ℕ × ℕ). p.0) near) d.0 (omega (arith, d.1, length-map near (λ (p : ℕ × ℕ). p.0))) in
                absurd (true≢false (sym here ∙ ap (has (map (λ (p : ℕ × ℕ). p.0) near)) face ∙ off))
          ]
    ]

-- ---- one more

-- a list of lists with what comes of one more
pub more_of : {X Y : Type 0} (g : X → List Y) (xs : List X) (i : ℕ) (d : X) (first old new : List Y) → i < length xs
    → old ≡ first ++ flat_map g (take i xs) → new ≡ old ++ g (get_or xs i d) → new ≡ first ++ flat_map g (take (i + 1) xs)
more_of g xs i d first old new l a b =
    b ∙ ap (λ z. z ++ g (get_or xs i d)) a ∙ append_assoc first (flat_map g (take i xs)) (g (get_or xs i d)) ∙
    ap (λ z. first ++ z) (sym (flat_map_taken g xs i d l))

-- after the last item all lists are there
pub all_of : {X Y : Type 0} (g : X → List Y) (xs : List X) (i : ℕ) (first new : List Y) → length xs ≤ i
    → new ≡ first ++ flat_map g (take i xs) → new ≡ first ++ flat_map g xs
all_of g xs i first new l a = a ∙ ap (λ z. first ++ flat_map g z) (take_all i xs l)

-- and from nothing they are the lists together
pub flat_all : {X Y : Type 0} (g : X → List Y) (xs : List X) (i : ℕ) (new : List Y) → length xs ≤ i
    → new ≡ flat_map g (take i xs) → new ≡ flat_map g xs
flat_all g xs i new l a = a ∙ ap (flat_map g) (take_all i xs l)
