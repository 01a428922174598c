-- Parts of the faces, named while edge after edge joins the faces on its two sides.
use Rattle.std.proofs.Common.{arith, ◌≡◌, ℕ, suc, ◌<◌, ◌≤◌, ◌+◌, ◌*◌, refl, sym, ap, ◌∙◌, Bool, true, false, inl, inr, List, [], ◌∷◌, ◌++◌, length}
use Rattle.std.specs.Prelude.{if◌then◌else◌, ◌⊎◌, ◌↔◌, IsTrue, slice_index}
use Rattle.std.proofs.lemmas.Bool.{cases_eq, cases_Bool, both_ways, cond-true, cond-false}
use Rattle.dpl_cycle.specs.Names.{join}
use Rattle.dpl_cycle.proofs.NameLemmas.{join_hit, join_miss}
use Rattle.dpl_sign.specs.declared.nets.Net.{Net}
use Rattle.dpl_sign.specs.Drawings.{dart_count, face_of}
use Rattle.dpl_sign.specs.Parity.{is_crossable, AreAdjacentFaces, IsFacePath, AreOfOnePart}
use Rattle.dpl_sign.proofs.Rotation.{face_below}
use Rattle.dpl_sign.proofs.ComponentLemmas.{join_of}

-- ---- parts are classes

neighbours_back : (net : Net) (set : ℕ → Bool) (f g : ℕ) → AreAdjacentFaces net set f g → AreAdjacentFaces net set g f
neighbours_back net set f g n = (
  n.0,
  record {
    edge = n.1.edge;
    crossable = n.1.crossable;
    sides = elim n.1.sides [ inl s ↦ inr s | inr s ↦ inl s ];
  },
)

path_join : (net : Net) (set : ℕ → Bool) (hs ks : List ℕ) (f g h : ℕ) → IsFacePath net set f hs g
    → IsFacePath net set g ks h → IsFacePath net set f (hs ++ ks) h
path_join net set [] ks f g h p q = rw p q
path_join net set (x ∷ xs) ks f g h p q = (p.0, path_join net set xs ks x g h p.1 q)

part_join : (net : Net) (set : ℕ → Bool) (f g h : ℕ) → AreOfOnePart net set f g → AreOfOnePart net set g h → AreOfOnePart net set f h
part_join net set f g h p q = (p.0 ++ q.0, path_join net set p.0 q.0 f g h p.1 q.1)

part_of_neighbours : (net : Net) (set : ℕ → Bool) (f g : ℕ) → AreAdjacentFaces net set f g → AreOfOnePart net set f g
part_of_neighbours net set f g n = (g ∷ [], (n, refl))

-- ---- names of the parts

-- faces of one name are of one part, and the edges below k have one name on both sides
pub record ArePartNames (net : Net) (set : ℕ → Bool) (names : ℕ → ℕ) (k : ℕ) : Type 0 where
  pub one_part : (x y : ℕ) → x < dart_count net → y < dart_count net → names x ≡ names y → AreOfOnePart net set x y
  pub one_name : (e : ℕ) → e < k → is_crossable net set e ≡ true → names (face_of net set (2 * e)) ≡ names (face_of net set (2 * e + 1))

pub names_alone : (net : Net) (set : ℕ → Bool) (names : ℕ → ℕ) → ((v : ℕ) → v < dart_count net → names v ≡ v) → ArePartNames net set names 0
names_alone net set names h = record {
  one_part = λ x y hx hy e. ([], sym (h x hx) ∙ e ∙ h y hy);
  one_name = λ e l t. absurd (omega (arith, l));
}

sides_of : (net : Net) (set : ℕ → Bool) (e : ℕ) → e < length net.graph.edges → is_crossable net set e ≡ true
    → AreAdjacentFaces net set (face_of net set (2 * e)) (face_of net set (2 * e + 1))
sides_of net set e h t = (e, record { edge = h; crossable = t; sides = inl (refl, refl) })

joined_part : (net : Net) (set : ℕ → Bool) (names : ℕ → ℕ) (k : ℕ) → ArePartNames net set names k
    → k < length net.graph.edges → is_crossable net set k ≡ true → (x y : ℕ) → x < dart_count net
    → y < dart_count net
    → join names (face_of net set (2 * k)) (face_of net set (2 * k + 1)) x ≡ join names (face_of net set (2 * k)) (face_of net set (2 * k + 1)) y
    → AreOfOnePart net set x y
joined_part net set names k c h t x y hx hy e =
    let a = face_of net set (2 * k) in
    let b = face_of net set (2 * k + 1) in
    let ha : a < dart_count net = face_below net set (2 * k) (omega (arith, h)) in
    let hb : b < dart_count net = face_below net set (2 * k + 1) (omega (arith, h)) in
    let forth : AreOfOnePart net set a b = part_of_neighbours net set a b (sides_of net set k h t) in
    let back : AreOfOnePart net set b a = part_of_neighbours net set b a (neighbours_back net set a b (sides_of net set k h t)) in
    elim (cases_eq (names x) (names b)) [
      | inl p ↦ elim (cases_eq (names y) (names b)) [
        | inl q ↦ c.one_part x y hx hy (p ∙ sym q)
        | inr q ↦
            let over : names a ≡ names y = sym (join_hit names a b x p) ∙ e ∙ join_miss names a b y q in
            part_join net set x b y (c.one_part x b hx hb p) (part_join net set b a y back (c.one_part a y ha hy over))
      ]
      | inr p ↦ elim (cases_eq (names y) (names b)) [
        | inl q ↦
            let over : names x ≡ names a = sym (join_miss names a b x p) ∙ e ∙ join_hit names a b y q in
            part_join net set x a y (c.one_part x a hx ha over) (part_join net set a b y forth (c.one_part b y hb hy (sym q)))
        | inr q ↦ c.one_part x y hx hy (sym (join_miss names a b x p) ∙ e ∙ join_miss names a b y q)
      ]
    ]

joined_sides : (s : ℕ → ℕ) (a b : ℕ) → join s a b a ≡ join s a b b
joined_sides s a b = elim (cases_eq (s a) (s b)) [
  | inl q ↦ join_of s a b a b q
  | inr q ↦ join_miss s a b a q ∙ sym (join_hit s a b b refl)
]

names_join : (net : Net) (set : ℕ → Bool) (names next : ℕ → ℕ) (k : ℕ) → ArePartNames net set names k
    → k < length net.graph.edges → is_crossable net set k ≡ true
    → ((v : ℕ) → v < dart_count net → next v ≡ join names (face_of net set (2 * k)) (face_of net set (2 * k + 1)) v)
    → ArePartNames net set next (suc k)
names_join net set names next k c h t w =
    let a = face_of net set (2 * k) in
    let b = face_of net set (2 * k + 1) in
    let below : (d : ℕ) → d < dart_count net → face_of net set d < dart_count net = face_below net set in
    record {
      one_part = λ x y hx hy e. joined_part net set names k c h t x y hx hy (sym (w x hx) ∙ e ∙ w y hy);
      one_name = λ e l u.
          let first : face_of net set (2 * e) < dart_count net = below (2 * e) (omega (arith, h, l)) in
          let second : face_of net set (2 * e + 1) < dart_count net = below (2 * e + 1) (omega (arith, h, l)) in
          w _ first ∙ (elim (cases_eq e k) [
            | inl q ↦ ap (λ i. join names a b (face_of net set (2 * i))) q ∙ joined_sides names a b ∙
                ap (λ i. join names a b (face_of net set (2 * i + 1))) (sym q)
            | inr q ↦ join_of names a b _ _ (c.one_name e (omega (arith, l, q)) u)
          ]) ∙ sym (w _ second);
    }

names_stay : (net : Net) (set : ℕ → Bool) (names next : ℕ → ℕ) (k : ℕ) → ArePartNames net set names k
    → k < length net.graph.edges → is_crossable net set k ≡ false
    → ((v : ℕ) → v < dart_count net → next v ≡ names v) → ArePartNames net set next (suc k)
names_stay net set names next k c h t w = record {
  one_part = λ x y hx hy e. c.one_part x y hx hy (sym (w x hx) ∙ e ∙ w y hy);
  one_name = λ e l u.
      let first : face_of net set (2 * e) < dart_count net = face_below net set (2 * e) (omega (arith, h, l)) in
      let second : face_of net set (2 * e + 1) < dart_count net = face_below net set (2 * e + 1) (omega (arith, h, l)) in
      elim (cases_eq e k) [
        | inl q ↦ absurd (both_ways _ t (ap (is_crossable net set) (sym q) ∙ u))
        | inr q ↦ w _ first ∙ c.one_name e (omega (arith, l, q)) u ∙ sym (w _ second)
      ];
}

pub names_cross : (net : Net) (set : ℕ → Bool) (names next : ℕ → ℕ) (k : ℕ) → ArePartNames net set names k → k < length net.graph.edges →
    ((v : ℕ) → v < dart_count net → next v ≡ (if is_crossable net set k then join names (face_of net set (2 * k))
    (face_of net set (2 * k + 1)) v else names v)) → ArePartNames net set next (suc k)
names_cross net set names next k c h w = elim (cases_Bool (is_crossable net set k)) [
  | inl t ↦ names_join net set names next k c h t (λ v l. w v l ∙ cond-true (is_crossable net set k) _ _ t)
  | inr t ↦ names_stay net set names next k c h t (λ v l. w v l ∙ cond-false (is_crossable net set k) _ _ t)
]

-- ---- with all edges

first_below : (net : Net) (set : ℕ → Bool) (f g : ℕ) → AreAdjacentFaces net set f g → f < dart_count net
first_below net set f g n =
    let h = n.1.edge in
    let one = face_below net set (2 * n.0) (omega (arith, h)) in
    let two = face_below net set (2 * n.0 + 1) (omega (arith, h)) in
    elim n.1.sides [ inl s ↦ omega (arith, s.0, one) | inr s ↦ omega (arith, s.1, two) ]

neighbours_named : (net : Net) (set : ℕ → Bool) (names : ℕ → ℕ)
    → ArePartNames net set names (length net.graph.edges) → (f g : ℕ) → AreAdjacentFaces net set f g
    → names f ≡ names g
neighbours_named net set names c f g n =
    let same = c.one_name n.0 n.1.edge n.1.crossable in
    elim n.1.sides [
      | inl s ↦ ap names (sym s.0) ∙ same ∙ ap names s.1
      | inr s ↦ ap names (sym s.1) ∙ sym same ∙ ap names s.0
    ]

path_named : (net : Net) (set : ℕ → Bool) (names : ℕ → ℕ)
    → ArePartNames net set names (length net.graph.edges) → (hs : List ℕ) (f g : ℕ)
    → IsFacePath net set f hs g → names f ≡ names g
path_named net set names c [] f g p = ap names p
path_named net set names c (x ∷ xs) f g p = neighbours_named net set names c f x p.0 ∙ path_named net set names c xs x g p.1

pub parts_named : (net : Net) (set : ℕ → Bool) (names : ℕ → ℕ) (k : ℕ) → ArePartNames net set names k
    → length net.graph.edges ≤ k → (x y : ℕ) → x < dart_count net → y < dart_count net
    → (names x ≡ names y ↔ AreOfOnePart net set x y)
parts_named net set names k c h x y hx hy =
    let all : ArePartNames net set names (length net.graph.edges) =
    record { one_part = c.one_part; one_name = λ e l t. c.one_name e (omega (arith, h, l)) t } in
    (λ e. c.one_part x y hx hy e, λ p. path_named net set names all p.0 x y p.1)

path_below : (net : Net) (set : ℕ → Bool) (hs : List ℕ) (f g : ℕ) → f < dart_count net → IsFacePath net set f hs g → g < dart_count net
path_below net set [] f g h p = omega (arith, h, p)
path_below net set (x ∷ xs) f g h p = path_below net set xs x g (first_below net set x f (neighbours_back net set f x p.0)) p.1

-- one number is of its own part, and otherwise there are neighbours of both
path_cases : (net : Net) (set : ℕ → Bool) (hs : List ℕ) (f g : ℕ) → IsFacePath net set f hs g → (f ≡ g) ⊎ ((f < dart_count net) × (g < dart_count net))
path_cases net set [] f g p = inl p
path_cases net set (x ∷ xs) f g p =
    let h = first_below net set f x p.0 in
    inr (h, path_below net set (x ∷ xs) f g h p)

pub part_test : (net : Net) (set : ℕ → Bool) (names items : List ℕ) (r : Bool) (f g : ℕ) → names ≡ items
    → length items ≡ dart_count net
    → ((x y : ℕ) → x < dart_count net → y < dart_count net → (slice_index items x ≡ slice_index items y ↔ AreOfOnePart net set x y))
    → (IsTrue r ↔ ((f ≡ g) ⊎ ((f < length names) × ((g < length names) × (slice_index names f ≡ slice_index names g)))))
    → (IsTrue r ↔ AreOfOnePart net set f g)
part_test net set names items r f g e l each t =
    let size : length names ≡ dart_count net = ap (λ (xs : List ℕ). length xs) e ∙ l in
    let at : (x : ℕ) → slice_index names x ≡ slice_index items x = λ x. ap (λ (xs : List ℕ). slice_index xs x) e in (
      λ h. elim (t.0 h) [
        | inl q ↦ ([], q)
        | inr s ↦ (each f g (omega (arith, size, s.0)) (omega (arith, size, s.1.0))).0 (sym (at f) ∙ s.1.1 ∙ at g)
      ],
      λ p. t.1 (elim (path_cases net set p.0 f g p.1) [
        | inl q ↦ inl q
        | inr s ↦ inr (omega (arith, size, s.0), (omega (arith, size, s.1), at f ∙ (each f g s.0 s.1).1 p ∙ sym (at g)))
      ]),
    )
