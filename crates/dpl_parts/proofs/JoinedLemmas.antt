-- Fragments that a chain of pairs of ends joins are those that edges join.
use Rattle.std.proofs.Common.{arith, ◌≡◌, ◌<◌, ◌==◌, ◌⊎◌, inl, inr, ℕ, true, false, List, [], ◌∷◌}
use Rattle.std.proofs.Common.{length, map, refl, sym, ap, subst, ◌∙◌, All, Contains, get_or}
use Rattle.std.proofs.lemmas.Bool.{cases_Bool, eq-eqb, eqb-true, ne_eqb, and_from, and_parts, or_left, or_right}
use Rattle.std.proofs.lemmas.Bool.{or_cases, lt-ltb, ltb-true, cond-true, cond-false, both_ways}
use Rattle.std.proofs.lemmas.List.{get_or-map, length-map}
use Rattle.std.proofs.lemmas.List.Elements.{All-map, All-weaker}
use Rattle.dpl_classes.specs.Chains.{IsChain}
use Rattle.dpl_classes.specs.Classes.{AreClasses}
use Rattle.dpl_sign.specs.declared.edges.Edge.{Edge}
use Rattle.dpl_sign.specs.declared.graphs.Signed.{Signed}
use Rattle.dpl_sign.specs.declared.nets.Net.{Net}
use Rattle.dpl_sign.specs.Walks.{no_edge, edge_at, across, leaves, IsPath}
use Rattle.dpl_sign.specs.Excess.{all_edges}
use Rattle.dpl_sign.proofs.PathLemmas.{component_is}
use Rattle.dpl_parts.specs.Components.{are_one_component, AreComponents}

-- the two ends of an edge
abbrev pub ends_of : Edge → ℕ × ℕ
ends_of e = (e.a, e.b)

abbrev pub pairs_of : Signed → List (ℕ × ℕ)
pairs_of g = map ends_of g.edges

pub ends_within : (g : Signed) → All (λ (p : ℕ × ℕ). (p.0 < g.nodes) × (p.1 < g.nodes)) (pairs_of g)
ends_within g = All-map (λ (p : ℕ × ℕ). (p.0 < g.nodes) × (p.1 < g.nodes)) ends_of g.edges
    (All-weaker (λ (e : Edge). e.b < g.nodes) (λ (e : Edge). (e.a < g.nodes) × (e.b < g.nodes)) (λ e l. let o = e.ordered in (omega arith, l)) g.edges g.inside)

-- ---- from a pair to its edge

-- an edge of which these are the ends
record HasEnds (g : Signed) (i j : ℕ) (k : ℕ) : Type 0 where
  within : k < length g.edges
  first : (edge_at g k).a ≡ i
  second : (edge_at g k).b ≡ j

has_ends : (g : Signed) (i j : ℕ) → Contains (pairs_of g) (i, j) → (k : ℕ) × HasEnds g i j k
has_ends g i j (k, l, e) =
    let m : k < length g.edges = let n = length-map g.edges ends_of in omega arith in
    let f : ends_of (edge_at g k) ≡ (i, j) = sym (get_or-map ends_of g.edges k no_edge (i, j) m) ∙ e in
    (k, record { within = m; first = ap (λ (p : ℕ × ℕ). p.0) f; second = ap (λ (p : ℕ × ℕ). p.1) f })

pair_there : (g : Signed) (k : ℕ) → k < length g.edges → Contains (pairs_of g) ((edge_at g k).a, (edge_at g k).b)
pair_there g k l = (k, (let n = length-map g.edges ends_of in omega arith), get_or-map ends_of g.edges k no_edge _ l)

-- the edge leads from i to j
abbrev LeadsTo : Signed → ℕ → ℕ → ℕ → Type 0
LeadsTo g i j k = (leaves g k i ≡ true) × (across (edge_at g k) i ≡ j)

forth : (g : Signed) (i j k : ℕ) → HasEnds g i j k → LeadsTo g i j k
forth g i j k h =
    let here : ((edge_at g k).a == i) ≡ true = eq-eqb _ _ h.first in
    (and_from _ _ (lt-ltb _ _ h.within) (or_left _ ((edge_at g k).b == i) here), cond-true _ (edge_at g k).b (edge_at g k).a here ∙ h.second)

back : (g : Signed) (i j k : ℕ) → HasEnds g j i k → LeadsTo g i j k
back g i j k h =
    let o = (edge_at g k).ordered in
    let there : ((edge_at g k).b == i) ≡ true = eq-eqb _ _ h.second in
    let away : ((edge_at g k).a == i) ≡ false = ne_eqb _ _ (λ e. let f = h.second in omega (arith, o, e, f)) in
    (and_from _ _ (lt-ltb _ _ h.within) (or_right ((edge_at g k).a == i) _ there), cond-false _ (edge_at g k).b (edge_at g k).a away ∙ h.first)

step_edge : (g : Signed) (i j : ℕ) → Contains (pairs_of g) (i, j) ⊎ Contains (pairs_of g) (j, i) → (k : ℕ) × LeadsTo g i j k
step_edge g i j (inl c) = let (k, h) = has_ends g i j c in (k, forth g i j k h)
step_edge g i j (inr c) = let (k, h) = has_ends g j i c in (k, back g i j k h)

chain_path : (g : Signed) (i : ℕ) (js : List ℕ) (w : ℕ) → IsChain (pairs_of g) i js w → (es : List ℕ) × IsPath g i es w
chain_path g i [] w e = ([], e)
chain_path g i (j ∷ js) w (c, more) =
    let (k, lead) = step_edge g i j c in
    let (es, path) = chain_path g j js w more in
    let P : ℕ → Type 0 = λ v. IsPath g v es w in
    (k ∷ es, (lead.0, subst P (sym lead.1) path))

-- ---- from an edge to its pair

edge_step : (g : Signed) (k v : ℕ) → leaves g k v ≡ true → Contains (pairs_of g) (v, across (edge_at g k) v) ⊎ Contains (pairs_of g) (across (edge_at g k) v, v)
edge_step g k v l =
    let parts = and_parts _ _ l in
    let m : k < length g.edges = ltb-true _ _ parts.0 in
    elim (cases_Bool ((edge_at g k).a == v)) [
      | inl here ↦
          let far : across (edge_at g k) v ≡ (edge_at g k).b = cond-true _ (edge_at g k).b (edge_at g k).a here in
          let P : ℕ → Type 0 = λ x. Contains (pairs_of g) (v, x) in
          let Q : ℕ → Type 0 = λ x. Contains (pairs_of g) (x, (edge_at g k).b) in
          inl (subst P (sym far) (subst Q (eqb-true _ _ here) (pair_there g k m)))
      | inr away ↦
          let far : across (edge_at g k) v ≡ (edge_at g k).a = cond-false _ (edge_at g k).b (edge_at g k).a away in
          let there : ((edge_at g k).b == v) ≡ true = elim (or_cases _ _ parts.1) [ inl e ↦ absurd (both_ways _ away e) | inr e ↦ e ] in
          let P : ℕ → Type 0 = λ x. Contains (pairs_of g) (x, v) in
          let Q : ℕ → Type 0 = λ x. Contains (pairs_of g) ((edge_at g k).a, x) in
          inr (subst P (sym far) (subst Q (eqb-true _ _ there) (pair_there g k m)))
    ]

path_chain : (g : Signed) (v : ℕ) (es : List ℕ) (w : ℕ) → IsPath g v es w → (js : List ℕ) × IsChain (pairs_of g) v js w
path_chain g v [] w e = ([], e)
path_chain g v (k ∷ es) w (l, more) =
    let (js, chain) = path_chain g (across (edge_at g k) v) es w more in
    (across (edge_at g k) v ∷ js, (edge_step g k v l, chain))

-- ---- the classes of the pairs are the components

pub are_components : (net : Net) (label : List ℕ) (count' : ℕ) → AreClasses (pairs_of net.graph) net.graph.nodes label count' → AreComponents net label
are_components net label count' a = record {
  long = a.long;
  same = λ u v l m. (
    λ e. let c = (a.same u v l m).0 e in let (es, path) = chain_path net.graph u c.chain v c.is in (es, path, λ k d h. refl),
    λ (es, path, each). (a.same u v l m).1 (let (js, chain) = path_chain net.graph u es v path in record { chain = js; is = chain }),
  );
  numbered = record { grows = a.numbered.grows; count = refl };
}

-- fragments have one number exactly where their component has one name
pub one_number : (net : Net) (label : List ℕ) → AreComponents net label → (u v : ℕ) → u < net.graph.nodes
    → v < net.graph.nodes → (get_or label v 0 == get_or label u 0) ≡ are_one_component net u v
one_number net label a u v l m = elim (cases_Bool (are_one_component net u v)) [
  | inl t ↦ eq-eqb _ _ ((a.same v u m l).1 ((component_is net.graph all_edges v u).0 (eqb-true _ _ t))) ∙ sym t
  | inr f ↦ ne_eqb _ _ (λ e. both_ways _ f (eq-eqb _ _ ((component_is net.graph all_edges v u).1 ((a.same v u m l).0 e)))) ∙ sym f
]

-- an edge joins its ends
pub edge_joins : (net : Net) (k : ℕ) → k < length net.graph.edges → are_one_component net (edge_at net.graph k).a (edge_at net.graph k).b ≡ true
edge_joins net k l =
    let g = net.graph in
    let lead = forth g (edge_at g k).a (edge_at g k).b k (record { within = l; first = refl; second = refl }) in
    eq-eqb _ _ (sym ((component_is g all_edges (edge_at g k).a (edge_at g k).b).1 (k ∷ [], (lead.0, lead.1), λ i d m. refl)))
