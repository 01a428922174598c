-- Edges of which only bonds stand before a bond.
use Rattle.std.proofs.Common.{arith, suc, ◌≡◌, ℕ, ◌<◌, ◌-◌, sym, ap, ◌∙◌, true, inl, inr, List, length, get_or}
use Rattle.std.proofs.lemmas.Bool.{cases_eq, and_parts, and_from, ltb-true, lt-ltb}
use Rattle.dpl_sign.specs.declared.edges.Edge.{Edge}
use Rattle.std.specs.Prelude.{IsTrue, ◌↔◌, nat_lt, ◌&&◌, Bool}
use Rattle.dpl_sign.specs.Kinds.{is_bond, BondsFirst, EndsBelow, IsGraph}

-- among the first edges
abbrev pub FirstBelow : List Edge → ℕ → Type 0
FirstBelow edges n = (j k : ℕ) (d : Edge) → j < k → k < n → is_bond (get_or edges k d).kind ≡ true → is_bond (get_or edges j d).kind ≡ true

-- the next edge is no bond, or one after another
pub first_more : (edges : List Edge) (n : ℕ) → FirstBelow edges n → 0 < n
    → ((d : Edge) → is_bond (get_or edges n d).kind ≡ true → is_bond (get_or edges (n - 1) d).kind ≡ true)
    → FirstBelow edges (suc n)
first_more edges n first h next j k d jk kn bond = elim (cases_eq k n) [
  | inl e ↦
      let before : is_bond (get_or edges (n - 1) d).kind ≡ true = next d (ap (λ i. is_bond (get_or edges i d).kind) (sym e) ∙ bond) in
      elim (cases_eq j (n - 1)) [
        | inl q ↦ ap (λ i. is_bond (get_or edges i d).kind) q ∙ before
        | inr q ↦ first j (n - 1) d (omega arith) (omega arith) before
      ]
  | inr e ↦ first j k d jk (omega arith) bond
]

-- the test of nodes and edges tells exactly whether they are those of a graph
pub graph_test : (nodes : ℕ) (edges : List Edge) (inside first : Bool)
    → (IsTrue inside ↔ EndsBelow nodes edges) → (IsTrue first ↔ BondsFirst edges)
    → (IsTrue (((nat_lt nodes 2147483648 && nat_lt (length edges) 1073741824) && inside) && first) ↔ IsGraph nodes edges)
graph_test nodes edges inside first below bonds = (
  λ t.
      let all = and_parts _ _ t in
      let three = and_parts _ _ all.0 in
      let two = and_parts _ _ three.0 in
      record { few_nodes = ltb-true _ _ two.0; few_edges = ltb-true _ _ two.1; inside = below.0 three.1; bonds_first = bonds.0 all.1 },
  λ g. and_from _ _ (and_from _ _ (and_from _ _ (lt-ltb _ _ g.few_nodes) (lt-ltb _ _ g.few_edges)) (below.1 g.inside)) (bonds.1 g.bonds_first),
)
