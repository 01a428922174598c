-- Components and the paths that join their nodes.
use Rattle.std.proofs.Common.{arith, ◌≡◌, ℕ, zero, suc, ◌<◌, ◌≤◌, ◌==◌, ◌||◌, refl, sym, ap, ◌∙◌, Bool, true, false}
use Rattle.std.proofs.Common.{inl, inr, List, [], ◌∷◌, ◌++◌, length, eq-eqb, subst}
use Rattle.std.specs.Prelude.{◌↔◌}
use Rattle.std.proofs.lemmas.Bool.{cases_eq, cases_Bool, ne_eqb, lt-ltb, ltb-true, eqb-true, and_from, and_parts}
use Rattle.std.proofs.lemmas.Bool.{cond-true, cond-false, true≢false, or_left, or_right}
use Rattle.std.specs.List.{AllByRecursion}
use Rattle.std.proofs.lemmas.List.Elements.{All-from_recursion, recursion_from_All}
use Rattle.dpl_cycle.proofs.JoinLemmas.{joined_merged}
use Rattle.dpl_sign.specs.declared.graphs.Signed.{Signed}
use Rattle.dpl_sign.specs.Walks.{edge_at, across, leaves, IsPath}
use Rattle.dpl_sign.specs.Components.{names_below, component_of, AreJoined}
use Rattle.dpl_sign.proofs.Unfold.{names_in, names_out}
use Rattle.dpl_sign.proofs.ComponentLemmas.{component_joined}

-- a path over edges that have a property
pub record IsWay (g : Signed) (P : ℕ → Type 0) (u v : ℕ) : Type 1 where
  pub edges : List ℕ
  pub path : IsPath g u edges v
  pub each : AllByRecursion P edges

way_none : (g : Signed) (P : ℕ → Type 0) (u v : ℕ) → u ≡ v → IsWay g P u v
way_none g P u v e = record { edges = []; path = e; each = tt }

path_join : (g : Signed) (es fs : List ℕ) (u v w : ℕ) → IsPath g u es v → IsPath g v fs w → IsPath g u (es ++ fs) w
path_join g [] fs u v w p q = rw p q
path_join g (e ∷ es) fs u v w p q = (p.0, path_join g es fs (across (edge_at g e) u) v w p.1 q)

-- a path goes on over an edge that leaves its last node
pub path_more : (g : Signed) (v : ℕ) (es : List ℕ) (u e : ℕ) → IsPath g v es u → leaves g e u ≡ true → IsPath g v (es ++ e ∷ []) (across (edge_at g e) u)
path_more g v [] u e p h =
    let P : ℕ → Type 0 = λ z. leaves g e z ≡ true in
    (subst P (sym p) h, ap (across (edge_at g e)) p)
path_more g v (x ∷ es) u e p h = (p.0, path_more g (across (edge_at g x) v) es u e p.1 h)

each_join : (P : ℕ → Type 0) (es fs : List ℕ) → AllByRecursion P es → AllByRecursion P fs → AllByRecursion P (es ++ fs)
each_join P [] fs p q = q
each_join P (e ∷ es) fs p q = (p.0, each_join P es fs p.1 q)

way_join : (g : Signed) (P : ℕ → Type 0) (u v w : ℕ) → IsWay g P u v → IsWay g P v w → IsWay g P u w
way_join g P u v w s t = record {
  edges = s.edges ++ t.edges;
  path = path_join g s.edges t.edges u v w s.path t.path;
  each = each_join P s.edges t.edges s.each t.each;
}

-- one edge, in both directions
way_there : (g : Signed) (P : ℕ → Type 0) (e : ℕ) → e < length g.edges → P e → IsWay g P (edge_at g e).a (edge_at g e).b
way_there g P e h p =
    let a = (edge_at g e).a in
    let here : (a == a) ≡ true = eq-eqb a a refl in
    record { edges = e ∷ []; path = (and_from _ _ (lt-ltb e (length g.edges) h) (or_left _ _ here), cond-true (a == a) _ a here); each = (p, tt) }

way_back : (g : Signed) (P : ℕ → Type 0) (e : ℕ) → e < length g.edges → P e → IsWay g P (edge_at g e).b (edge_at g e).a
way_back g P e h p =
    let a = (edge_at g e).a in
    let b = (edge_at g e).b in
    let there : (b == b) ≡ true = eq-eqb b b refl in
    let other : (a == b) ≡ false = ne_eqb a b (λ r. omega (arith, (edge_at g e).ordered, r)) in
    record { edges = e ∷ []; path = (and_from _ _ (lt-ltb e (length g.edges) h) (or_right _ _ there), cond-false (a == b) b a other); each = (p, tt) }

-- nodes of one component are joined
pub component_way : (g : Signed) (p : ℕ → Bool) (P : ℕ → Type 0) (k : ℕ) → k ≤ length g.edges
    → ((e : ℕ) → e < k → p e ≡ true → P e) → (u v : ℕ) → names_below g p k u ≡ names_below g p k v
    → IsWay g P u v
component_way g p P zero h all u v e = way_none g P u v e
component_way g p P (suc k) h all u v e =
    let rest : (x y : ℕ) → names_below g p k x ≡ names_below g p k y → IsWay g P x y =
    λ x y q. component_way g p P k (omega arith) (λ j l t. all j (omega arith) t) x y q in
    elim (cases_Bool (p k)) [
      | inl t ↦
          let r = names_below g p k in
          let a = (edge_at g k).a in
          let b = (edge_at g k).b in
          let there = way_there g P k (omega arith) (all k (omega arith) t) in
          let back = way_back g P k (omega arith) (all k (omega arith) t) in
          elim ((joined_merged r a b u v).0 (sym (names_in g p k u t) ∙ e ∙ names_in g p k v t)) [
            | inl q ↦ rest u v q
            | inr q ↦ elim q.0 [
              | inl s ↦ elim q.1 [ inl w ↦ rest u v (s ∙ sym w) | inr w ↦ way_join g P u a v (rest u a s) (way_join g P a b v there (rest b v (sym w))) ]
              | inr s ↦ elim q.1 [ inl w ↦ way_join g P u b v (rest u b s) (way_join g P b a v back (rest a v (sym w))) | inr w ↦ rest u v (s ∙ sym w) ]
            ]
          ]
      | inr t ↦ rest u v (sym (names_out g p k u t) ∙ e ∙ names_out g p k v t)
    ]

-- ---- what a path joins is of one component

other_of : (x y : Bool) → x ≡ false → (x || y) ≡ true → y ≡ true
other_of true y h k = absurd (true≢false h)
other_of false y h k = k

step_joins : (g : Signed) (p : ℕ → Bool) (e u : ℕ) → leaves g e u ≡ true → p e ≡ true → component_of g p u ≡ component_of g p (across (edge_at g e) u)
step_joins g p e u l t =
    let a = (edge_at g e).a in
    let b = (edge_at g e).b in
    let parts = and_parts _ _ l in
    let one : component_of g p a ≡ component_of g p b = component_joined g p e (ltb-true e (length g.edges) parts.0) t in
    elim (cases_eq a u) [
      | inl r ↦
          let there : across (edge_at g e) u ≡ b = cond-true (a == u) b a (eq-eqb a u r) in
          ap (component_of g p) (sym r) ∙ one ∙ ap (component_of g p) (sym there)
      | inr r ↦
          let no : (a == u) ≡ false = ne_eqb a u r in
          let there : across (edge_at g e) u ≡ a = cond-false (a == u) b a no in
          let end : b ≡ u = eqb-true b u (other_of (a == u) (b == u) no parts.1) in
          ap (component_of g p) (sym end) ∙ sym one ∙ ap (component_of g p) (sym there)
    ]

path_joins : (g : Signed) (p : ℕ → Bool) (es : List ℕ) (u v : ℕ) → IsPath g u es v
    → AllByRecursion (λ e. p e ≡ true) es → component_of g p u ≡ component_of g p v
path_joins g p [] u v h all = ap (component_of g p) h
path_joins g p (e ∷ es) u v h all = step_joins g p e u h.0 all.0 ∙ path_joins g p es (across (edge_at g e) u) v h.1 all.1

-- two nodes are of one component exactly where edges of the set lead from one to the other
pub component_is : (g : Signed) (p : ℕ → Bool) (u v : ℕ) → (component_of g p u ≡ component_of g p v ↔ AreJoined g p u v)
component_is g p u v = (
  λ e.
      let way = component_way g p (λ x. p x ≡ true) (length g.edges) (omega arith) (λ x l t. t) u v e in
      (way.edges, way.path, All-from_recursion _ _ way.each),
  λ j. path_joins g p j.0 u v j.1 (recursion_from_All _ _ j.2),
)
