-- The excess is even and never negative, and one edge more never lowers it.
use Rattle.std.proofs.Common.{arith, ◌≡◌, ◌≢◌, ℕ, zero, suc, ◌+◌, ◌*◌, ◌/◌, ◌%◌, ◌<◌, ◌≤◌, refl, sym, ap, ◌∙◌, Bool}
use Rattle.std.proofs.Common.{true, false, not, cond, inl, inr, ◌⊎◌, List, [], ◌∷◌, ◌++◌, length, ltb, eq-eqb}
use Rattle.std.proofs.Common.{length-append}
use Rattle.std.proofs.lemmas.Bool.{cases_eq, cases_Bool, cases_lt, cond-true, cond-false, lt-ltb, le-ltb, ltb-true, ltb-false, ne_eqb}
use Rattle.dpl_cycle.specs.Among.{cycles_among, members}
use Rattle.dpl_cycle.specs.Names.{name_count}
use Rattle.dpl_cycle.specs.Sums.{count_on}
use Rattle.dpl_cycle.proofs.NameLemmas.{count_in, name_count_same}
use Rattle.dpl_cycle.proofs.SumLemmas.{count_on_same}
use Rattle.dpl_sign.specs.declared.graphs.Signed.{Signed}
use Rattle.dpl_sign.specs.declared.nets.Net.{Net}
use Rattle.dpl_sign.specs.Drawings.{is_in, is_met_below, is_bare, bare_count, face_count, next_in_face, dart_count}
use Rattle.dpl_sign.specs.Components.{names_below, component_count}
use Rattle.dpl_sign.specs.Excess.{edge_count, excess, with_edge, AreEndsJoined, LiesInFace, raises_excess, kept_before}
use Rattle.dpl_sign.proofs.Same.{faces_same, names_same, excess_same}
use Rattle.dpl_sign.proofs.Insert.{IsOneMore}
use Rattle.dpl_sign.proofs.EdgeEffect.{effect, edges_more}

-- Euler's formula, where half is half the excess
pub record Balanced (net : Net) (p : ℕ → Bool) (half : ℕ) : Type 0 where
  pub euler : net.graph.nodes + face_count net p + 2 * half ≡ 2 * component_count net.graph p + edge_count net p

-- a balanced set has that excess
pub excess_is : (net : Net) (p : ℕ → Bool) (half : ℕ) → Balanced net p half → excess net p ≡ 2 * half
excess_is net p half b = omega (arith, b.euler)

-- ---- no edge

none : ℕ → Bool
none e = false

no_members : (n : ℕ) → members (λ d. none (d / 2)) n ≡ []
unfolding none
no_members zero = refl
no_members (suc n) = no_members n

never_met : (g : Signed) (n v : ℕ) → is_met_below g none n v ≡ false
unfolding none
never_met g zero v = refl
never_met g (suc n) v = never_met g n v

count_all : (p : ℕ → Bool) (n : ℕ) → ((v : ℕ) → p v ≡ true) → count_on p n ≡ n
count_all p zero h = refl
count_all p (suc n) h = omega (arith, cond-true {A = ℕ} (p n) 1 0 (h n), count_all p n h)

count_none : (p : ℕ → Bool) (n : ℕ) → ((v : ℕ) → p v ≡ false) → count_on p n ≡ 0
count_none p zero h = refl
count_none p (suc n) h = omega (arith, cond-false {A = ℕ} (p n) 1 0 (h n), count_none p n h)

-- where each number names itself there are as many names as numbers
pub own_names : (n : ℕ) → name_count (λ v. v) n ≡ n
own_names zero = refl
own_names (suc n) = count_in (λ v. v) n refl ∙ ap suc (own_names n)

none_joined : (g : Signed) (k v : ℕ) → names_below g none k v ≡ v
unfolding none
none_joined g zero v = refl
none_joined g (suc k) v = none_joined g k v

none_is : (e : ℕ) → none e ≡ false
unfolding none
none_is e = refl

none_balanced : (net : Net) → Balanced net none 0
none_balanced net =
    let g = net.graph in
    let cycles : cycles_among (next_in_face net none) (members (λ d. none (d / 2)) (dart_count net)) ≡ 0 =
    ap (cycles_among (next_in_face net none)) (no_members (dart_count net)) in
    let bare : bare_count g none ≡ g.nodes = count_all (is_bare g none) g.nodes (λ v. ap not (never_met g (length g.edges) v)) in
    let parts : component_count g none ≡ g.nodes = name_count_same g.nodes _ (λ v. v) (λ v h. none_joined g (length g.edges) v) ∙ own_names g.nodes in
    let edges : edge_count net none ≡ 0 = count_none none (length g.edges) none_is in
    record { euler = omega (arith, cycles, bare, parts, edges) }

balanced_same : (net : Net) (p q : ℕ → Bool) (half : ℕ) → ((e : ℕ) → e < length net.graph.edges → p e ≡ q e) → Balanced net p half → Balanced net q half
balanced_same net p q half h b =
    let faces : face_count net p ≡ face_count net q = faces_same net p q h in
    let edges : edge_count net p ≡ edge_count net q = count_on_same (length net.graph.edges) p q h in
    let parts : component_count net.graph p ≡ component_count net.graph q =
    name_count_same net.graph.nodes _ _ (λ v l. names_same net.graph p q (length net.graph.edges) v h) in
    record { euler = omega (arith, b.euler, faces, edges, parts) }

-- ---- one edge more

-- the ends of an edge are of one component, or they are not
pub same_component : (net : Net) (p : ℕ → Bool) (e : ℕ) → AreEndsJoined net p e ⊎ (AreEndsJoined net p e → ⊥)
same_component net p e = cases_eq _ _

-- an edge lies in one face, or it does not
pub one_face : (net : Net) (p : ℕ → Bool) (e : ℕ) → LiesInFace net p e ⊎ (LiesInFace net p e → ⊥)
one_face net p e = cases_eq _ _

abbrev Grows : Net → (ℕ → Bool) → ℕ → Type 0
Grows net q half = Balanced net q half ⊎ Balanced net q (half + 1)

balanced_more : (net : Net) (p q : ℕ → Bool) (e half : ℕ) → IsOneMore net p q e → Balanced net p half → Grows net q half
balanced_more net p q e half k b =
    let f = effect net p q e k in
    let edges = edges_more net p q e k in
    elim (same_component net p e) [
      | inr h ↦ inl (record { euler = omega (arith, b.euler, edges, (f.joins h).0, (f.joins h).1) })
      | inl h ↦ elim (one_face net p e) [
        | inl r ↦ inl (record { euler = omega (arith, b.euler, edges, (f.splits h r).0, (f.splits h r).1) })
        | inr r ↦ inr (record { euler = omega (arith, b.euler, edges, (f.crosses h r).0, (f.crosses h r).1) })
      ]
    ]

-- the edges of the set below k
below : (ℕ → Bool) → ℕ → ℕ → Bool
below p k e = cond (ltb e k) (p e) false

below_in : (p : ℕ → Bool) (k e : ℕ) → e < k → below p k e ≡ p e
unfolding below
below_in p k e h = cond-true (ltb e k) (p e) false (lt-ltb e k h)

below_out : (p : ℕ → Bool) (k e : ℕ) → k ≤ e → below p k e ≡ false
unfolding below
below_out p k e h = cond-false (ltb e k) (p e) false (le-ltb e k h)

below_more : (p : ℕ → Bool) (k e : ℕ) → e ≢ k → below p k e ≡ below p (suc k) e
below_more p k e ne = elim (cases_lt e k) [
  | inl h ↦ below_in p k e h ∙ sym (below_in p (suc k) e (omega arith))
  | inr h ↦ below_out p k e h ∙ sym (below_out p (suc k) e (omega arith))
]

-- the set is balanced, with some half of the excess
pub record HasBalance (net : Net) (p : ℕ → Bool) : Type 0 where
  pub half : ℕ
  pub balance : Balanced net p half

from_grows : (net : Net) (q : ℕ → Bool) (half : ℕ) → Grows net q half → HasBalance net q
from_grows net q half h = elim h [ inl b ↦ record { half = half; balance = b } | inr b ↦ record { half = half + 1; balance = b } ]

balanced_below : (net : Net) (p : ℕ → Bool) (k : ℕ) → k ≤ length net.graph.edges → HasBalance net (below p k)
balanced_below net p zero h = record {
  half = 0;
  balance =
      balanced_same net none (below p 0) 0 (λ e l. none_is e ∙ sym (below_out p 0 e (omega arith))) (none_balanced net);
}
balanced_below net p (suc k) h =
    let rest = balanced_below net p k (omega arith) in
    elim (cases_Bool (p k)) [
      | inl t ↦
          let more : IsOneMore net (below p k) (below p (suc k)) k =
          record {
            inside = omega arith;
            out = below_out p k k (omega arith);
            chosen =
                below_in p (suc k) k (omega arith) ∙ t;
            same = λ x l ne. below_more p k x ne;
          } in
          from_grows net _ _ (balanced_more net _ _ k _ more rest.balance)
      | inr t ↦ record {
        half = rest.half;
        balance = balanced_same net (below p k) (below p (suc k)) rest.half (λ e l. elim (cases_eq e k) [
          | inl r ↦ below_out p k e (omega (arith, r)) ∙ sym (below_in p (suc k) e (omega (arith, r)) ∙ ap p r ∙ t)
          | inr r ↦ below_more p k e r
        ]) rest.balance;
      }
    ]

-- each set is balanced
pub balanced : (net : Net) (p : ℕ → Bool) → HasBalance net p
balanced net p =
    let all = balanced_below net p (length net.graph.edges) (omega arith) in
    record {
      half = all.half;
      balance = balanced_same net (below p (length net.graph.edges)) p all.half
          (λ e l. below_in p (length net.graph.edges) e l) all.balance;
    }

-- ---- the laws

-- the excess is even
pub excess_even : (net : Net) (p : ℕ → Bool) → excess net p % 2 ≡ 0
excess_even net p =
    let b = balanced net p in
    omega (arith, excess_is net p b.half b.balance)

-- the excess is what Euler's formula lacks
pub excess_euler : (net : Net) (p : ℕ → Bool) → net.graph.nodes + face_count net p + excess net p ≡ 2 * component_count net.graph p + edge_count net p
excess_euler net p =
    let b = balanced net p in
    omega (arith, b.balance.euler)

-- a set with an edge put in has that edge more
pub one_more : (net : Net) (p : ℕ → Bool) (e : ℕ) → e < length net.graph.edges → p e ≡ false → IsOneMore net p (with_edge p e) e
one_more net p e h out = record {
  inside = h;
  out = out;
  chosen = rw (eq-eqb e e refl) refl;
  same = λ x l ne. rw (ne_eqb x e ne) refl;
}

-- one edge more keeps the excess where it joins components or splits a face, and raises it by 2 otherwise
pub record ExcessEffect (net : Net) (p q : ℕ → Bool) (e : ℕ) : Type 0 where
  pub joins : (AreEndsJoined net p e → ⊥) → excess net q ≡ excess net p
  pub splits : AreEndsJoined net p e → LiesInFace net p e → excess net q ≡ excess net p
  pub crosses : AreEndsJoined net p e → (LiesInFace net p e → ⊥) → excess net q ≡ excess net p + 2

-- one edge more does that to the excess
pub excess_effect : (net : Net) (p q : ℕ → Bool) (e : ℕ) → IsOneMore net p q e → ExcessEffect net p q e
excess_effect net p q e k =
    let b = balanced net p in
    let f = effect net p q e k in
    let edges = edges_more net p q e k in
    record {
      joins = λ h. omega (arith, b.balance.euler, edges, (f.joins h).0, (f.joins h).1);
      splits = λ h r. omega (arith, b.balance.euler, edges, (f.splits h r).0, (f.splits h r).1);
      crosses = λ h r. omega (arith, b.balance.euler, edges, (f.crosses h r).0, (f.crosses h r).1);
    }

-- ---- which edges are set aside

-- an entry at the end of a list changes nothing for the edges before it
pub in_front : (xs : List Bool) (b : Bool) (x : ℕ) → x ≢ length xs → is_in (xs ++ b ∷ []) x ≡ is_in xs x
in_front [] b zero ne = absurd (ne refl)
in_front [] b (suc x) ne = refl
in_front (y ∷ ys) b zero ne = refl
in_front (y ∷ ys) b (suc x) ne = in_front ys b x (λ r. ne (ap suc r))

-- an entry at the end tells whether the edge of that number is in
pub at_end : (xs : List Bool) (b : Bool) → is_in (xs ++ b ∷ []) (length xs) ≡ b
at_end [] b = refl
at_end (y ∷ ys) b = at_end ys b

-- the edge behind the last entry is not in
pub past_end : (xs : List Bool) → is_in xs (length xs) ≡ false
past_end [] = refl
past_end (y ∷ ys) = past_end ys

-- to keep the next edge gives the set that edge more
pub kept_more : (net : Net) (kept : List Bool) → length kept < length net.graph.edges → IsOneMore net (is_in kept) (is_in (kept ++ true ∷ [])) (length kept)
kept_more net kept h = record {
  inside = h;
  out = past_end kept;
  chosen = at_end kept true;
  same = λ x l ne. sym (in_front kept true x ne);
}

-- the next edge raises the excess where it leads between two faces of one component
pub raises_from : (net : Net) (kept : List Bool) → length kept < length net.graph.edges
    → AreEndsJoined net (is_in kept) (length kept) → (LiesInFace net (is_in kept) (length kept) → ⊥)
    → raises_excess net kept ≡ true
raises_from net kept h joined far = lt-ltb _ _ (omega (arith, (excess_effect net _ _ (length kept) (kept_more net kept h)).crosses joined far))

-- an edge that raises the excess has its ends in one component
pub raises_joined : (net : Net) (kept : List Bool) → length kept < length net.graph.edges
    → raises_excess net kept ≡ true → AreEndsJoined net (is_in kept) (length kept)
raises_joined net kept h r = elim (same_component net (is_in kept) (length kept)) [
  | inl j ↦ j
  | inr j ↦ absurd (omega (arith, ltb-true _ _ r, (excess_effect net _ _ (length kept) (kept_more net kept h)).joins j))
]

-- an edge that raises the excess lies in no face
pub raises_far : (net : Net) (kept : List Bool) → length kept < length net.graph.edges
    → raises_excess net kept ≡ true → LiesInFace net (is_in kept) (length kept) → ⊥
raises_far net kept h r f =
    let j = raises_joined net kept h r in
    omega (arith, ltb-true _ _ r, (excess_effect net _ _ (length kept) (kept_more net kept h)).splits j f)

-- what is kept of the edges before e is a list with an entry for each of them
pub kept_length : (net : Net) (e : ℕ) → length (kept_before net e) ≡ e
kept_length net zero = refl
kept_length net (suc e) = omega (arith, length-append (kept_before net e) (not (raises_excess net (kept_before net e)) ∷ []), kept_length net e)

-- what is kept of the first edges is drawn plane
pub kept_plane : (net : Net) (e : ℕ) → e ≤ length net.graph.edges → excess net (is_in (kept_before net e)) ≡ 0
kept_plane net zero h = excess_same net (is_in []) none (λ x l. sym (none_is x)) ∙ excess_is net none 0 (none_balanced net)
kept_plane net (suc e) h =
    let kept = kept_before net e in
    let rest : excess net (is_in kept) ≡ 0 = kept_plane net e (omega arith) in
    elim (cases_Bool (raises_excess net kept)) [
      | inl t ↦ excess_same net (is_in (kept ++ not (raises_excess net kept) ∷ [])) (is_in kept) (λ x l. elim (cases_eq x (length kept)) [
        | inl r ↦ ap (λ b. is_in (kept ++ not b ∷ []) x) t ∙ ap (is_in (kept ++ false ∷ [])) r ∙ at_end kept false ∙ sym (ap (is_in kept) r ∙ past_end kept)
        | inr r ↦ in_front kept _ x r
      ]) ∙ rest
      | inr t ↦
          let same : excess net (is_in (kept ++ not (raises_excess net kept) ∷ [])) ≡ excess net
          (is_in (kept ++ true ∷ [])) = ap (λ b. excess net (is_in (kept ++ not b ∷ []))) t in
          omega (arith, same, ltb-false _ _ t, rest)
    ]
