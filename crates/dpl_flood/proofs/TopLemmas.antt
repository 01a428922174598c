-- Keys around all faces of a top while they are set anew.
use Rattle.std.proofs.Common.{arith, ◌≡◌, ℕ, ◌+◌, ◌*◌, ◌<◌, ◌⊎◌, refl, sym, ap, ◌∙◌, ◌-◌, suc, subst, inl, inr, true, false, Bool, eq-eqb, List, [], ◌∷◌, length, get_or}
use Rattle.std.specs.Prelude.{reverse, All}
use Rattle.std.proofs.lemmas.Bool.{cases_eq, cases_lt, cases_Bool, true≢false}
use Rattle.std.proofs.lemmas.List.{get_or-reverse, length-reverse, get_or_default, get_or_past}
use Rattle.dpl_laminar.proofs.Numbers.{has_tail, has_at, place_in}
use Rattle.dpl_pack.proofs.PointLemmas.{on_water}
use Rattle.dpl_laminar.specs.Families.{has}
use Rattle.dpl_laminar.specs.Storing.{sets_of}
use Rattle.dpl_dual.specs.declared.crosses.Dual.{Dual}
use Rattle.dpl_pack.specs.Tides.{place_of}
use Rattle.dpl_flood.specs.declared.state.State.{State}
use Rattle.dpl_flood.specs.Holdings.{stack_of}
use Rattle.dpl_flood.specs.Seas.{Sea}
use Rattle.dpl_flood.specs.States.{sea_of, IsState, IsWayFrom, AreKeyedAround, AreKeyedOn, AreKeyedFor, IsStackedOn, SeatsOf, StacksOf, SeatsAmong, StacksAmong, stands_among}
use Rattle.dpl_flood.proofs.LookLemmas.{around_either}
use Rattle.dpl_flood.proofs.ShoreLemmas.{cases_point}

-- no face is looked at
pub for_none : (d : Dual) (s : Sea) (faces : ℕ → Type 0) (old : List ℕ) → ((g : ℕ) → faces g → ⊥) → AreKeyedFor d s faces old old
for_none d s faces old none = record {
  sizes = refl;
  at = λ g w f. absurd (none g f);
  others = λ p. inl refl;
}

-- one face more
pub for_around : (d : Dual) (s : Sea) (less more : ℕ → Type 0) (f : ℕ) (old between new : List ℕ) → AreKeyedFor d s less old between
    → AreKeyedAround d s f between new → ((g : ℕ) → more g → less g ⊎ (g ≡ f)) → AreKeyedFor d s more old new
for_around d s less more f old between new k around parts = record {
  sizes = around.sizes ∙ k.sizes;
  at = λ g w m from. elim (parts g m) [
    | inr e ↦ around.at w (subst (λ z. IsWayFrom d z w) e from)
    | inl l ↦ elim (around_either d s f between new around w) [
      | inl same ↦ same ∙ k.at g w l from
      | inr due ↦ due.1
    ]
  ];
  others = λ p. elim (around_either d s f between new around p) [
    | inr due ↦ inr (due.0.inside, due.1)
    | inl same ↦ elim (k.others p) [
      | inl e ↦ inl (same ∙ e)
      | inr due ↦ inr (due.0, same ∙ due.1)
    ]
  ];
}

-- more faces
pub for_more : (d : Dual) (s : Sea) (one two all : ℕ → Type 0) (old between new : List ℕ) → AreKeyedFor d s one old between
    → AreKeyedFor d s two between new → ((g : ℕ) → all g → one g ⊎ two g) → AreKeyedFor d s all old new
for_more d s one two all old between new a b parts = record {
  sizes = b.sizes ∙ a.sizes;
  at = λ g w m from. elim (parts g m) [
    | inr y ↦ b.at g w y from
    | inl y ↦ elim (b.others w) [
      | inl same ↦ same ∙ a.at g w y from
      | inr due ↦ due.1
    ]
  ];
  others = λ p. elim (b.others p) [
    | inr due ↦ inr due
    | inl same ↦ elim (a.others p) [
      | inl e ↦ inl (same ∙ e)
      | inr due ↦ inr (due.0, same ∙ due.1)
    ]
  ];
}

-- fewer faces
pub for_fewer : (d : Dual) (s : Sea) (more less : ℕ → Type 0) (old new : List ℕ) → AreKeyedFor d s more old new
    → ((g : ℕ) → less g → more g) → AreKeyedFor d s less old new
for_fewer d s more less old new k part = record {
  sizes = k.sizes;
  at = λ g w m. k.at g w (part g m);
  others = k.others;
}

-- The faces that one set took stand on one top.
pub stack_together : (d : Dual) (x : State) (k g h : ℕ) → IsState d x → k < 2 * (sets_of x.family).size → has (stack_of x.held k) g ≡ true
    → has (stack_of x.held k) h ≡ true → place_of (sets_of x.family) ((sea_of x).point g) ≡ place_of (sets_of x.family) ((sea_of x).point h)
stack_together d x k g h st hk yg yh =
    let f = sets_of x.family in
    let a = st.held.each k g hk yg in
    let b = st.held.each k h hk yh in
    ap (place_of f) a.at
    ∙ st.sea.family.laminar.tops.top_shared k a.member b.member hk (st.sea.flood.members g a.member a.far a.at)
    (st.sea.flood.members h b.member b.far b.at) a.holds b.holds
    ∙ sym (ap (place_of f) b.at)

-- Each face of a top is the seat of one of its members, or one that a set of it took.
pub on_top : (d : Dual) (x : State) (top g : ℕ) → IsState d x → top < 2 * (sets_of x.family).size
    → place_of (sets_of x.family) ((sea_of x).point g) ≡ top
    → ((t : ℕ) × ((t < (sets_of x.family).size) × (((sets_of x.family).top t ≡ top) × (get_or x.seats t 0 ≡ g))))
    ⊎ ((k : ℕ) × ((k < 2 * (sets_of x.family).size) × IsStackedOn (sea_of x) (stack_of x.held) top k g))
on_top d x top g st ht e =
    let s = sea_of x in
    elim (cases_point (s.point g)) [
      | inl a ↦ absurd (omega (arith, ht, e, ap (place_of s.sets) a))
      | inr a ↦
          let hm = st.sea.flood.members g a.0 a.1.0 a.1.1 in
          elim (st.held.all g a.0 a.1.0 a.1.1) [
            | inl q ↦ inl (a.0, (hm, (sym (ap (place_of s.sets) a.1.1) ∙ e, sym q.1)))
            | inr q ↦ inr (q.0, (q.1.0, (q.1.1.1, e)))
          ]
    ]

-- Where a set took a face that stands on a top, the members of the set are among those of the top.
name_on_row : (d : Dual) (x : State) (top k g m : ℕ) (members : List ℕ) → IsState d x
    → ((t : ℕ) → has members t ≡ (sets_of x.family).holds top t) → k < 2 * (sets_of x.family).size
    → IsStackedOn (sea_of x) (stack_of x.held) top k g → m < (sets_of x.family).size → (sets_of x.family).holds k m ≡ true
    → has members m ≡ true
name_on_row d x top k g m members st row hk on hm holds =
    let f = sets_of x.family in
    let at = st.held.each k g hk on.0 in
    let inside = st.sea.flood.members g at.member at.far at.at in
    let same : f.top m ≡ top = st.sea.family.laminar.tops.top_shared k m at.member hk hm inside holds at.holds
    ∙ sym (ap (place_of f) at.at) ∙ on.1 in
    row m ∙ ap (λ z. f.holds z m) (sym same) ∙ st.sea.family.laminar.tops.top_holds m hm

-- The number of a set that took a face of a top is that of a member of the top, or behind those of the singles the same.
stack_on_row : (d : Dual) (x : State) (top k g : ℕ) (members : List ℕ) → IsState d x
    → ((t : ℕ) → has members t ≡ (sets_of x.family).holds top t) → k < 2 * (sets_of x.family).size
    → IsStackedOn (sea_of x) (stack_of x.held) top k g
    → StacksOf (sea_of x) (stack_of x.held) top members (length members) g
stack_on_row d x top k g members st row hk on =
    let s = sea_of x in
    let f = sets_of x.family in
    let stack = stack_of x.held in
    let sets = st.sea.family.laminar.sets in
    let at = st.held.each k g hk on.0 in
    let inside = st.sea.flood.members g at.member at.far at.at in
    elim (cases_lt k f.size) [
      | inl low ↦
          let own : f.holds k k ≡ true = sets.single k k low low ∙ eq-eqb k k refl in
          let found = place_in members k (name_on_row d x top k g k members st row hk on low own) in
          (found.0, (found.1, inl (subst (λ z. IsStackedOn s stack top z g) (sym found.2) on)))
      | inr high ↦
          let name = k - f.size in
          let below : name < f.size = omega (arith, high, hk) in
          let sum : k ≡ f.size + name = omega (arith, high) in
          let live : f.live k ≡ true = elim (cases_Bool (f.live k)) [
            | inl t ↦ t
            | inr q ↦ absurd (true≢false (sym at.holds ∙ sets.dead k at.member hk inside q))
          ] in
          let own : f.holds k name ≡ true = ap (λ z. f.holds z name) sum
          ∙ (sets.named name below (ap f.live (sym sum) ∙ live)).0 in
          let found = place_in members name (name_on_row d x top k g name members st row hk on below own) in (
            found.0,
            (
              found.1,
              inr (subst (λ z. IsStackedOn s stack top (f.size + z) g) (sym found.2)
                  (subst (λ z. IsStackedOn s stack top z g) sum on)),
            ),
          )
    ]

-- All faces of a top are looked at.
pub all_on : (d : Dual) (x : State) (top : ℕ) (members old between new : List ℕ) → IsState d x → top < 2 * (sets_of x.family).size
    → ((t : ℕ) → has members t ≡ (sets_of x.family).holds top t)
    → AreKeyedFor d (sea_of x) (SeatsOf x.seats members (length members)) old between
    → AreKeyedFor d (sea_of x) (StacksOf (sea_of x) (stack_of x.held) top members (length members)) between new
    → AreKeyedOn d (sea_of x) top d.faces old new
all_on d x top members old between new st ht row a b =
    let f = sets_of x.family in
    let k = for_more d (sea_of x) (SeatsOf x.seats members (length members))
    (StacksOf (sea_of x) (stack_of x.held) top members (length members))
    (λ g. place_of f ((sea_of x).point g) ≡ top) old between new a b (λ g e. elim (on_top d x top g st ht e) [
      | inl q ↦
          let holds : f.holds top q.0 ≡ true = ap (λ z. f.holds z q.0) (sym q.1.1.0)
          ∙ st.sea.family.laminar.tops.top_holds q.0 q.1.0 in
          let found = place_in members q.0 (row q.0 ∙ holds) in
          inl (found.0, (found.1, ap (λ z. get_or x.seats z 0) found.2 ∙ q.1.1.1))
      | inr q ↦ inr (stack_on_row d x top q.0 g members st row q.1.0 q.1.1)
    ]) in
    record { sizes = k.sizes; at = λ g w _ is from. k.at g w is from; others = k.others }

-- ---- the faces of a stack, the first one first

-- the place of a number in a list that has it
find_at : (xs : List ℕ) (g : ℕ) → has xs g ≡ true → (k : ℕ) × ((k < length xs) × (get_or xs k 0 ≡ g))
find_at [] g y = absurd (true≢false (sym y))
find_at (x ∷ xs) g y = elim (cases_eq x g) [
  | inl e ↦ (0, (omega arith, e))
  | inr ne ↦ let r = find_at xs g (sym (has_tail x g xs ne) ∙ y) in (suc r.0, (omega (arith, r.1.0), r.1.1))
]

pub has_reversed : (xs : List ℕ) (i : ℕ) → i < length xs → has (reverse xs) (get_or xs i 0) ≡ true
has_reversed xs i h =
    let k = length xs - 1 - i in
    let low : k < length xs = omega (arith, h) in
    let same : length xs - 1 - k ≡ i = omega (arith, h) in
    subst (λ z. has (reverse xs) z ≡ true) (get_or-reverse xs k 0 low ∙ ap (λ z. get_or xs z 0) same) (has_at (reverse xs) k (omega (arith, low, length-reverse xs)))

pub find_reversed : (xs : List ℕ) (g : ℕ) → has (reverse xs) g ≡ true → (k : ℕ) × ((k < length xs) × (get_or xs k 0 ≡ g))
find_reversed xs g y =
    let r = find_at (reverse xs) g y in
    let low : r.0 < length xs = omega (arith, r.1.0, length-reverse xs) in
    (length xs - 1 - r.0, (omega (arith, low), sym (get_or-reverse xs r.0 0 low) ∙ r.1.1))

-- The faces that a set took are faces.
pub faces_inside : (d : Dual) (x : State) (k : ℕ) (xs : List ℕ) → IsState d x → k < 2 * (sets_of x.family).size
    → reverse xs ≡ stack_of x.held k → All (λ g. g < d.faces) xs
faces_inside d x k xs st hk e i dflt h =
    let y : has (stack_of x.held k) (get_or xs i 0) ≡ true = ap (λ z. has z (get_or xs i 0)) (sym e) ∙ has_reversed xs i h in
    let on = st.held.each k (get_or xs i 0) hk y in
    omega (arith, get_or_default xs i dflt 0 h, (st.sea.flood.home (get_or xs i 0) (λ w. on_water on.member on.far (sym on.at ∙ w))).0)

-- one more of these faces
pub one_face_more : (xs : List ℕ) (i g : ℕ) → (j : ℕ) × ((j < i + 1) × (get_or xs j 0 ≡ g)) → ((j : ℕ) × ((j < i) × (get_or xs j 0 ≡ g))) ⊎ (g ≡ get_or xs i 0)
one_face_more xs i g m = elim (cases_lt m.0 i) [
  | inl l ↦ inl (m.0, (l, m.1.1))
  | inr h ↦ inr (sym m.1.1 ∙ ap (λ z. get_or xs z 0) (let e : m.0 ≡ i = omega (arith, h, m.1.0) in e))
]

-- one seat more
pub one_seat_more : (seats members : List ℕ) (i g : ℕ) → SeatsOf seats members (i + 1) g
    → SeatsOf seats members i g ⊎ (g ≡ get_or seats (get_or members i 0) 0)
one_seat_more seats members i g m = elim (cases_lt m.0 i) [
  | inl l ↦ inl (m.0, (l, m.1.1))
  | inr h ↦
      let e : m.0 ≡ i = omega (arith, h, m.1.0) in
      inr (sym m.1.1 ∙ ap (λ z. get_or seats (get_or members z 0) 0) e)
]

-- the stacks of one member more
pub one_stack_more : (s : Sea) (stack : ℕ → List ℕ) (top : ℕ) (members : List ℕ) (i g : ℕ) → StacksOf s stack top members (i + 1) g
    → StacksOf s stack top members i g ⊎ (IsStackedOn s stack top (get_or members i 0) g
    ⊎ IsStackedOn s stack top (s.sets.size + get_or members i 0) g)
one_stack_more s stack top members i g m = elim (cases_lt m.0 i) [
  | inl l ↦ inl (m.0, (l, m.1.1))
  | inr h ↦
      let e : m.0 ≡ i = omega (arith, h, m.1.0) in
      inr (subst (λ z. IsStackedOn s stack top (get_or members z 0) g ⊎ IsStackedOn s stack top (s.sets.size + get_or members z 0) g) e m.1.1)
]

-- ---- the faces of some tops

-- Each face of these tops is the seat of a member of theirs, or one that a set of theirs took.
pub on_tops : (d : Dual) (x : State) (tops : List Bool) (g : ℕ) → IsState d x → length tops ≡ 2 * (sets_of x.family).size
    → stands_among (sea_of x) tops g ≡ true
    → SeatsAmong (sea_of x) x.seats tops (sets_of x.family).size g ⊎ StacksAmong (sea_of x) (stack_of x.held) tops (2 * (sets_of x.family).size) g
on_tops d x tops g st many y =
    let s = sea_of x in
    let f = sets_of x.family in
    let top = place_of f (s.point g) in
    elim (cases_lt top (2 * f.size)) [
      | inr high ↦ absurd (true≢false (sym y ∙ get_or_past tops top false (omega (arith, high, many))))
      | inl low ↦ elim (on_top d x top g st low refl) [
        | inl a ↦ inl (a.0, (a.1.0, (ap (λ z. get_or tops z false) a.1.1.0 ∙ y, a.1.1.1)))
        | inr b ↦ inr (b.0, (b.1.0, (b.1.1.0, y)))
      ]
    ]

-- All faces of these tops are looked at.
pub all_among : (d : Dual) (x : State) (tops : List Bool) (old between new : List ℕ) → IsState d x → length tops ≡ 2 * (sets_of x.family).size
    → AreKeyedFor d (sea_of x) (SeatsAmong (sea_of x) x.seats tops (sets_of x.family).size) old between
    → AreKeyedFor d (sea_of x) (StacksAmong (sea_of x) (stack_of x.held) tops (2 * (sets_of x.family).size)) between new
    → AreKeyedFor d (sea_of x) (λ g. stands_among (sea_of x) tops g ≡ true) old new
all_among d x tops old between new st many a b =
    for_more d (sea_of x) (SeatsAmong (sea_of x) x.seats tops (sets_of x.family).size)
    (StacksAmong (sea_of x) (stack_of x.held) tops (2 * (sets_of x.family).size))
    (λ g. stands_among (sea_of x) tops g ≡ true) old between new a b (λ g. on_tops d x tops g st many)

-- one seat more, if its member has one of these tops
pub one_seat_among : (s : Sea) (seats : List ℕ) (tops : List Bool) (i g : ℕ) → SeatsAmong s seats tops (i + 1) g
    → SeatsAmong s seats tops i g ⊎ ((get_or tops (s.sets.top i) false ≡ true) × (g ≡ get_or seats i 0))
one_seat_among s seats tops i g m = elim (cases_lt m.0 i) [
  | inl l ↦ inl (m.0, (l, m.1.1))
  | inr h ↦
      let e : m.0 ≡ i = omega (arith, h, m.1.0) in
      inr (ap (λ z. get_or tops (s.sets.top z) false) (sym e) ∙ m.1.1.0, sym m.1.1.1 ∙ ap (λ z. get_or seats z 0) e)
]

-- one stack more, if it stands on one of them
pub one_stack_among : (s : Sea) (stack : ℕ → List ℕ) (tops : List Bool) (i g : ℕ) → StacksAmong s stack tops (i + 1) g
    → StacksAmong s stack tops i g ⊎ ((has (stack i) g ≡ true) × (stands_among s tops g ≡ true))
one_stack_among s stack tops i g m = elim (cases_lt m.0 i) [
  | inl l ↦ inl (m.0, (l, m.1.1))
  | inr h ↦
      let e : m.0 ≡ i = omega (arith, h, m.1.0) in
      inr (sym (ap (λ z. has (stack z) g) e) ∙ m.1.1.0, m.1.1.1)
]
