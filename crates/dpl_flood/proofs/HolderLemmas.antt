-- The faces that are held, noted one after another.
use Rattle.std.proofs.Common.{arith, ◌≡◌, ℕ, ◌+◌, ◌*◌, ◌⊎◌, sym, ap, ◌∙◌, subst, inl, inr, map, List, [], ◌∷◌, ◌++◌, length}
use Rattle.std.specs.Prelude.{Contains, reverse}
use Rattle.std.proofs.lemmas.Bool.{cases_lt}
use Rattle.std.proofs.lemmas.List.{map-append}
use Rattle.std.proofs.lemmas.List.Elements.{All-nil, All-push, Contains-append_left, Contains-push}
use Rattle.dpl_laminar.specs.Families.{has}
use Rattle.dpl_laminar.specs.Storing.{sets_of}
use Rattle.dpl_dual.specs.declared.crosses.Dual.{Dual}
use Rattle.dpl_pack.specs.declared.held.Held.{Held}
use Rattle.dpl_pack.specs.Points.{Point, on}
use Rattle.dpl_pack.specs.Floods.{AreHeld, IsFloodOf}
use Rattle.dpl_flood.specs.declared.state.State.{State}
use Rattle.dpl_flood.specs.Holdings.{stack_of}
use Rattle.dpl_flood.specs.Listings.{IsOneOf, IsStacked, AreNoted}
use Rattle.dpl_flood.specs.States.{IsState, sea_of}
use Rattle.dpl_flood.proofs.ShoreLemmas.{cases_point}
use Rattle.dpl_flood.proofs.TopLemmas.{find_reversed}

-- a face that is held is noted
pub noted_one : (point : ℕ → Point) (face : ℕ) (x : Held) (old new : List Held) → x.face ≡ face → point face ≡ on x.member x.far
    → new ≡ old ++ x ∷ [] → AreNoted point (λ g. g ≡ face) old new
noted_one point face x old new is at n = subst (AreNoted point (λ g. g ≡ face) old) (sym n) (record {
  each = λ h. All-push (λ y. point y.face ≡ on y.member y.far) old x h (ap point is ∙ at);
  kept = λ g h. longer g (Contains-append_left faces (x.face ∷ []) g h);
  all = λ g e ne. longer g (subst (Contains (faces ++ x.face ∷ [])) (is ∙ sym e) (Contains-push faces x.face));
})
  where
    faces : List ℕ
    faces = map (λ h. h.face) old

    longer : (g : ℕ) → Contains (faces ++ x.face ∷ []) g → Contains (map (λ h. h.face) (old ++ x ∷ [])) g
    longer g h = subst (λ z. Contains z g) (sym (map-append (λ h. h.face) old (x ∷ []))) h

-- more faces
pub noted_more : (point : ℕ → Point) (one two all : ℕ → Type 0) (old between new : List Held) → AreNoted point one old between
    → AreNoted point two between new → ((g : ℕ) → all g → one g ⊎ two g) → AreNoted point all old new
noted_more point one two all old between new a b parts = record {
  each = λ h. b.each (a.each h);
  kept = λ g h. b.kept g (a.kept g h);
  all = λ g f ne. elim (parts g f) [
    | inl y ↦ b.kept g (a.all g y ne)
    | inr y ↦ b.all g y ne
  ];
}

-- one stack more, whose faces are these from the last one
pub stack_more : (stack : ℕ → List ℕ) (faces : List ℕ) (i g : ℕ) → reverse faces ≡ stack i → IsStacked stack (i + 1) g
    → IsStacked stack i g ⊎ IsOneOf faces (length faces) g
stack_more stack faces i g is m = elim (cases_lt m.0 i) [
  | inl l ↦ inl (m.0, (l, m.1.1))
  | inr h ↦
      let e : m.0 ≡ i = omega (arith, h, m.1.0) in
      inr (find_reversed faces g (ap (λ z. has z g) is ∙ sym (ap (λ z. has (stack z) g) e) ∙ m.1.1))
]

-- each face that is held is a seat, or one that a set took
pub all_held : (d : Dual) (x : State) (between held : List Held) → IsState d x
    → AreNoted (sea_of x).point (IsOneOf x.seats (length x.seats)) [] between
    → AreNoted (sea_of x).point (IsStacked (stack_of x.held) (2 * (sets_of x.family).size)) between held → AreHeld held (sea_of x).point
all_held d x between held st a b = record {
  each = b.each (a.each (All-nil (λ h. (sea_of x).point h.face ≡ on h.member h.far)));
  all = λ g ne. elim (cases_point ((sea_of x).point g)) [
    | inl open_water ↦ absurd (ne open_water)
    | inr at ↦ elim (st.held.all g at.0 at.1.0 at.1.1) [
      | inl seat ↦ b.kept g (a.all g (at.0, (omega (arith, st.sea.flood.members g at.0 at.1.0 at.1.1, st.sized.seats), sym seat.1)) ne)
      | inr took ↦ b.all g (took.0, (took.1.0, took.1.1.1)) ne
    ]
  ];
}

pub held_flood : (d : Dual) (x : State) (held : List Held) → IsState d x → AreHeld held (sea_of x).point
    → IsFloodOf d x.seats (sets_of x.family) held
held_flood d x held st are = record { point = (sea_of x).point; are = are; flood = st.sea.flood }
