-- What members have after a join was noted.
use Rattle.std.proofs.Common.{arith, ◌≡◌, ◌≢◌, ℕ, ◌+◌, ◌*◌, ◌<◌, ◌≤◌, refl, sym, ap, ◌∙◌, subst, inl, inr, ◌⊎◌, Bool, true, false, cond, ◌&&◌, ◌==◌, Option, Some, None, List}
use Rattle.std.specs.Prelude.{option_map, nat_lt}
use Rattle.std.proofs.lemmas.Bool.{cases_eq, cases_lt, cond-true, cond-false, lt-ltb, le-ltb, eq-eqb, ne_eqb}
use Rattle.std.proofs.Math.Bool.{and-false}
use Rattle.std.specs.Map.{lookup}
use Rattle.std.specs.Option.{option_map_or}
use Rattle.dpl_laminar.specs.Families.{Sets, load_of}
use Rattle.dpl_laminar.specs.Loads.{differ}
use Rattle.dpl_laminar.proofs.Sums.{sum_same}
use Rattle.dpl_dual.specs.declared.crosses.Cross.{Cross}
use Rattle.dpl_flood.specs.declared.nodes.Node.{Node}
use Rattle.dpl_flood.specs.declared.nodes.Join.{Join}
use Rattle.dpl_flood.specs.Arenas.{node_at, IsLonger, IsJoin, start_of, end_of, turned, join_length}
use Rattle.dpl_flood.specs.Joins.{Entries, is_pair, join_at, IsBetween, AreJoins, IsNoted, IsTied, HaveSeats, dist_in}
use Rattle.dpl_flood.proofs.ArenaLemmas.{over_back, same_node, length_longer}
use Rattle.dpl_flood.proofs.JoinLemmas.{join_stays}

-- what stands at a pair is set, and all else stays
abbrev pub Puts : Entries → Entries → ℕ × ℕ → Join → Type 0
Puts old new p j = (q : ℕ × ℕ) → lookup (is_pair q) new ≡ cond (is_pair p q) (Some j) (lookup (is_pair q) old)

same_pair : (a b : ℕ) → is_pair (a, b) (a, b) ≡ true
same_pair a b = ap (λ z. z && (b == b)) (eq-eqb a a refl) ∙ eq-eqb b b refl

other_pair : (a b c d : ℕ) → (c ≢ a) ⊎ (d ≢ b) → is_pair (a, b) (c, d) ≡ false
other_pair a b c d (inl p) = ap (λ z. z && (b == d)) (ne_eqb a c (λ e. p (sym e)))
other_pair a b c d (inr p) = ap (λ z. (a == c) && z) (ne_eqb b d (λ e. p (sym e))) ∙ and-false (a == c)

-- the smaller member comes first
low_at : (joins : Entries) (c d : ℕ) → c ≤ d → join_at joins c d ≡ lookup (is_pair (c, d)) joins
low_at joins c d h = cond-false (nat_lt d c) (option_map turned (lookup (is_pair (d, c)) joins)) (lookup (is_pair (c, d)) joins) (le-ltb d c h)

high_at : (joins : Entries) (c d : ℕ) → d < c → join_at joins c d ≡ option_map turned (lookup (is_pair (d, c)) joins)
high_at joins c d h = cond-true (nat_lt d c) (option_map turned (lookup (is_pair (d, c)) joins)) (lookup (is_pair (c, d)) joins) (lt-ltb d c h)

swap : (a b c d : ℕ) → (a ≢ b) ⊎ (c ≢ d) → (c ≢ d) ⊎ (a ≢ b)
swap a b c d (inl p) = inr p
swap a b c d (inr p) = inl p

-- a join of two members was noted, of which the smaller one comes first
pub noted_low : (old new : Entries) (a b : ℕ) (j : Join) → a < b → Puts old new (a, b) j → IsNoted old new a b j
noted_low old new a b j h puts =
    let here : lookup (is_pair (a, b)) new ≡ Some j =
    puts (a, b) ∙ cond-true (is_pair (a, b) (a, b)) (Some j) (lookup (is_pair (a, b)) old) (same_pair a b) in
    let there = λ (c d : ℕ) (p : (c ≢ a) ⊎ (d ≢ b)).
    puts (c, d) ∙ cond-false (is_pair (a, b) (c, d)) (Some j) (lookup (is_pair (c, d)) old) (other_pair a b c d p) in
    record {
      there = low_at new a b (omega (arith, h)) ∙ here;
      back = high_at new b a h ∙ ap (option_map turned) here;
      others = λ c d p q. elim (cases_lt d c) [
        | inl l ↦ high_at new c d l ∙ ap (option_map turned) (there d c (swap c b d a q)) ∙ sym (high_at old c d l)
        | inr l ↦ low_at new c d l ∙ there c d p ∙ sym (low_at old c d l)
      ];
    }

-- and where the greater one comes first it is turned
pub noted_high : (old new : Entries) (a b : ℕ) (j : Join) → b < a → Puts old new (b, a) (turned j) → IsNoted old new a b j
noted_high old new a b j h puts =
    let low = noted_low old new b a (turned j) h puts in
    record {
      there = low.back;
      back = low.there;
      others = λ c d p q. low.others c d q p;
    }

-- the same join from the other end
pub back_at : (joins : Entries) (a b : ℕ) → a ≢ b → join_at joins b a ≡ option_map turned (join_at joins a b)
back_at joins a b ne = elim (cases_lt a b) [
  | inl l ↦ high_at joins b a l ∙ ap (option_map turned) (sym (low_at joins a b (omega (arith, l))))
  | inr l ↦ low_at joins b a l ∙ twice (lookup (is_pair (b, a)) joins) ∙ ap (option_map turned) (sym (high_at joins a b (omega (arith, l, ne))))
] where
  twice : (o : Option Join) → o ≡ option_map turned (option_map turned o)
  twice None = refl
  twice (Some j) = refl

turned_join : (ways : List Cross) (nodes : List Node) (j : Join) → IsJoin ways nodes j → IsJoin ways nodes (turned j)
turned_join ways nodes j is = record {
  first = is.second;
  second = is.first;
  over = over_back ways (node_at nodes j.first).face j.way (node_at nodes j.second).face is.over;
}

same_join : (x j : Join) → Some x ≡ Some j → x ≡ j
same_join x j e = cc

-- what two members have leads between their seats after a join was noted
pub noted_joins : (ways : List Cross) (nodes : List Node) (old new : Entries) (j : Join) → IsNoted old new (start_of nodes j) (end_of nodes j) j
    → IsJoin ways nodes j → AreJoins ways nodes old → AreJoins ways nodes new
noted_joins ways nodes old new j n is all c d x e =
    let a : ℕ = start_of nodes j in
    let b : ℕ = end_of nodes j in
    let other = λ (p : (c ≢ a) ⊎ (d ≢ b)) (q : (c ≢ b) ⊎ (d ≢ a)). all c d x (sym (n.others c d p q) ∙ e) in
    let forth = λ (p : c ≡ a) (q : d ≡ b). (
    let same : j ≡ x = same_join j x (sym n.there ∙ ap (λ z. join_at new z b) (sym p) ∙ ap (join_at new c) (sym q) ∙ e) in
    subst (IsBetween ways nodes c d) same (record { join = is; start = sym p; end = sym q })) in
    let back = λ (p : c ≡ b) (q : d ≡ a). (
    let same : turned j ≡ x = same_join (turned j) x (sym n.back ∙ ap (λ z. join_at new z a) (sym p) ∙ ap (join_at new c) (sym q) ∙ e) in
    subst (IsBetween ways nodes c d) same (record { join = turned_join ways nodes j is; start = sym p; end = sym q })) in
    let rest = λ (p : (c ≢ a) ⊎ (d ≢ b)). (elim (cases_eq c b) as (λ _. IsBetween ways nodes c d x) [
      | inr ne ↦ other p (inl ne)
      | inl f ↦ elim (cases_eq d a) [
        | inr ne ↦ other p (inr ne)
        | inl g ↦ back f g
      ]
    ]) in
    elim (cases_eq c a) [
      | inr ne ↦ rest (inl ne)
      | inl f ↦ elim (cases_eq d b) [
        | inr ne ↦ rest (inr ne)
        | inl g ↦ forth f g
      ]
    ]

-- and where nodes are added
pub joins_longer : (ways : List Cross) (old new : List Node) (joins : Entries) → IsLonger old new → AreJoins ways old joins → AreJoins ways new joins
joins_longer ways old new joins more all a b j e =
    let was = all a b j e in
    record {
      join = join_stays ways old new j more was.join;
      start = ap (λ z. z.member) (same_node old new j.first more was.join.first) ∙ was.start;
      end = ap (λ z. z.member) (same_node old new j.second more was.join.second) ∙ was.end;
    }

-- ---- how far members are

-- the loads of two members are the same from both
load_back : (f : Sets) (a b : ℕ) → load_of f a b ≡ load_of f b a
load_back f a b = sum_same (2 * f.size) _ _ (λ k h. ap (λ z. cond z (f.value k) 0) (either (f.holds k a) (f.holds k b))) where
  either : (x y : Bool) → differ x y ≡ differ y x
  either true true = refl
  either true false = refl
  either false true = refl
  either false false = refl

pub far_back : (ways : List Cross) (nodes : List Node) (joins : Entries) (f : Sets) (a b : ℕ) → dist_in ways nodes joins f a b ≡ dist_in ways nodes joins f b a
far_back ways nodes joins f a b = elim (cases_eq a b) [
  | inl e ↦ ap (dist_in ways nodes joins f a) (sym e) ∙ ap (λ z. dist_in ways nodes joins f z a) e
  | inr ne ↦
      let more : load_of f a b + 1 ≡ load_of f b a + 1 = ap (λ z. z + 1) (load_back f a b) in
      ap (option_map_or (join_length ways nodes) (join_at joins a b)) more
      ∙ turned_long (join_at joins a b) (load_of f b a + 1)
      ∙ ap (λ z. option_map_or (join_length ways nodes) z (load_of f b a + 1)) (sym (back_at joins a b ne))
] where
  turned_long : (o : Option Join) (more : ℕ) → option_map_or (join_length ways nodes) o more ≡ option_map_or (join_length ways nodes) (option_map turned o) more
  turned_long None more = refl
  turned_long (Some j) more = omega arith

pub far_longer : (ways : List Cross) (old new : List Node) (joins : Entries) (f : Sets) (a b : ℕ) → IsLonger old new → AreJoins ways old joins
    → dist_in ways new joins f a b ≡ dist_in ways old joins f a b
far_longer ways old new joins f a b more all = by (join_at joins a b) refl where
  by : (o : Option Join) → join_at joins a b ≡ o → option_map_or (join_length ways new) o (load_of f a b + 1) ≡ option_map_or (join_length ways old) o (load_of f a b + 1)
  by None e = refl
  by (Some j) e =
      let is = (all a b j e).join in
      omega (
        arith,
        ap (λ z. z.far) (same_node old new j.first more is.first),
        ap (λ z. z.far) (same_node old new j.second more is.second),
      )

-- who are as far from each other as their load have a join
pub tied : (ways : List Cross) (nodes : List Node) (joins : Entries) (f : Sets) (a b : ℕ) → load_of f a b ≡ dist_in ways nodes joins f a b
    → IsTied ways nodes joins f a b
tied ways nodes joins f a b e = by (join_at joins a b) refl e where
  by : (o : Option Join) → join_at joins a b ≡ o → load_of f a b ≡ option_map_or (join_length ways nodes) o (load_of f a b + 1) → IsTied ways nodes joins f a b
  by None is h = absurd (omega (arith, h))
  by (Some j) is h = record { join = j; there = is; long = sym h }

pub seats_longer : (old new : List Node) (seats : List ℕ) → IsLonger old new → HaveSeats old seats → HaveSeats new seats
seats_longer old new seats more have t h =
    let was = have t h in
    (omega (arith, was.0, length_longer old new more), ap (λ z. z.face) (same_node old new t more was.0) ∙ was.1)
