-- Edges and ports are the same where their numbers are: the facts that they carry have one proof.
use Rattle.std.proofs.Common.{◌≡◌, ℕ, ℤ, pos, ◌+◌, ◌<◌, ◌≤◌, true, false, ap, subst}
use Rattle.std.proofs.Props.{props}
use Rattle.dpl_sign.specs.declared.edges.Kind.{Kind}
use Rattle.dpl_sign.specs.declared.edges.Edge.{Edge}
use Rattle.dpl_sign.specs.declared.ports.Port.{Port}
use Rattle.dpl_sign.specs.Weights.{least_weight, most_weight}
use Rattle.dpl_sign.specs.Sides.{is_corner}

-- what the ghost fields of an edge say
record EdgeFacts (a b : ℕ) (kind : Kind) (weight : ℕ) : Type 0 where
  ordered : a < b
  least : least_weight kind ≤ weight
  most : weight ≤ most_weight kind

EdgeFacts-prop : (a b : ℕ) (kind : Kind) (weight : ℕ) (p q : EdgeFacts a b kind weight) → p ≡ q
EdgeFacts-prop a b kind weight = hlevel props

make_edge : (c : ℕ × ℕ × Kind × ℕ) → EdgeFacts c.0 c.1 c.2 c.3 → Edge
make_edge c p = record { a = c.0; b = c.1; kind = c.2; weight = c.3; ordered = p.ordered; least = p.least; most = p.most }

edge_facts : (e : Edge) → EdgeFacts e.a e.b e.kind e.weight
edge_facts e = record { ordered = e.ordered; least = e.least; most = e.most }

edge_parts : Edge → ℕ × ℕ × Kind × ℕ
edge_parts e = (e.a, e.b, e.kind, e.weight)

-- edges with the same ends, kind and weight are the same
pub same_edge : (d e : Edge) → d.a ≡ e.a → d.b ≡ e.b → d.kind ≡ e.kind → d.weight ≡ e.weight → d ≡ e
unfolding make_edge edge_facts edge_parts
same_edge d e a b k w =
    let parts : edge_parts d ≡ edge_parts e = cc in
    let P : ℕ × ℕ × Kind × ℕ → Type 0 = λ c. (p : EdgeFacts c.0 c.1 c.2 c.3) → d ≡ make_edge c p in
    subst P parts (λ p. ap (make_edge (edge_parts d)) (EdgeFacts-prop d.a d.b d.kind d.weight (edge_facts d) p)) (edge_facts e)

-- what the ghost fields of a port say
record PortFacts (side : ℕ) (key : ℤ) (dx dy : ℕ) : Type 0 where
  eight : side ≤ 7
  no_key : is_corner side ≡ true → key ≡ pos 0
  direction : is_corner side ≡ true → 0 < dx + dy
  no_direction : is_corner side ≡ false → dx + dy ≡ 0

PortFacts-prop : (side : ℕ) (key : ℤ) (dx dy : ℕ) (p q : PortFacts side key dx dy) → p ≡ q
PortFacts-prop side key dx dy = hlevel props

make_port : (c : ℕ × ℤ × ℕ × ℕ) → PortFacts c.0 c.1 c.2 c.3 → Port
make_port c p = record { side = c.0; key = c.1; dx = c.2; dy = c.3; eight = p.eight; no_key = p.no_key; direction = p.direction; no_direction = p.no_direction }

port_facts : (p : Port) → PortFacts p.side p.key p.dx p.dy
port_facts p = record { eight = p.eight; no_key = p.no_key; direction = p.direction; no_direction = p.no_direction }

port_parts : Port → ℕ × ℤ × ℕ × ℕ
port_parts p = (p.side, p.key, p.dx, p.dy)

-- ports with the same side, key and direction are the same
pub same_port : (p q : Port) → p.side ≡ q.side → p.key ≡ q.key → p.dx ≡ q.dx → p.dy ≡ q.dy → p ≡ q
unfolding make_port port_facts port_parts
same_port p q s k x y =
    let parts : port_parts p ≡ port_parts q = cc in
    let P : ℕ × ℤ × ℕ × ℕ → Type 0 = λ c. (f : PortFacts c.0 c.1 c.2 c.3) → p ≡ make_port c f in
    subst P parts (λ f. ap (make_port (port_parts p)) (PortFacts-prop p.side p.key p.dx p.dy (port_facts p) f)) (port_facts q)
