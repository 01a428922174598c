-- A graph that is drawn once more: with moved ports, or as a mirror image. What the two drawings
-- then have in common.
use Rattle.std.specs.Prelude.{◌≡◌, ◌≢◌, ℕ, ◌-◌, ◌%◌, ◌<◌, ℤ, ◌+ℤ◌, neg_ℤ}
use Rattle.std.specs.List.{AllZip}
use Rattle.std.specs.declared.cmp.Ordering.TheVariants.{Equal}
use Rattle.dpl_sign.specs.declared.ports.Port.{Port}
use Rattle.dpl_sign.specs.declared.nets.Net.{Net}
use Rattle.dpl_sign.specs.PortOrder.{slope_cmp}
use Rattle.dpl_sign.specs.Drawings.{dart_count, tail_of, port_of, is_before, is_met_before}

-- ---- ports

-- the same port, where the keys of each side are moved by one number for that side
pub record IsMovedPort (shift : ℕ → ℤ) (p q : Port) : Type 0 where
  pub side : q.side ≡ p.side
  pub key : q.key ≡ p.key +ℤ shift p.side
  pub dx : q.dx ≡ p.dx
  pub dy : q.dy ≡ p.dy

-- the port in the mirror image at the upright axis: east and west are exchanged, and keys are
-- negated
pub record IsMirroredPort (p q : Port) : Type 0 where
  pub side : q.side ≡ (10 - p.side) % 8
  pub key : q.key ≡ neg_ℤ p.key
  pub dx : q.dx ≡ p.dx
  pub dy : q.dy ≡ p.dy

-- the port where columns and rows are exchanged, and keys are negated
pub record IsTransposedPort (p q : Port) : Type 0 where
  pub side : q.side ≡ (8 - p.side) % 8
  pub key : q.key ≡ neg_ℤ p.key
  pub dx : q.dx ≡ p.dy
  pub dy : q.dy ≡ p.dx

-- two edges leave a node at one place: only their numbers tell which stands first
pub record AreAtOnePlace (p q : Port) : Type 0 where
  pub side : p.side ≡ q.side
  pub key : p.key ≡ q.key
  pub slope : slope_cmp p q ≡ Equal

-- ---- nets

-- the second net is the first but for the ports, which stand so to each other
pub record IsRedrawn (has : Port → Port → Type 0) (n m : Net) : Type 0 where
  pub graph : m.graph ≡ n.graph
  pub pieces : m.pieces ≡ n.pieces
  pub piece_count : m.piece_count ≡ n.piece_count
  pub ports : AllZip (λ (p : Port × Port) (q : Port × Port). has p.0 q.0 × has p.1 q.1) n.ports
      m.ports

-- two darts that leave one node
pub record AreAround (net : Net) (d c : ℕ) : Type 0 where
  pub first : d < dart_count net
  pub second : c < dart_count net
  pub tail : tail_of net.graph d ≡ tail_of net.graph c

-- no two edges leave a node at one place
abbrev pub HasNoTies : Net → Type 0
HasNoTies net = (d c : ℕ) → AreAround net d c → d ≢ c
    → ¬ AreAtOnePlace (port_of net d) (port_of net c)

-- around each node the darts stand in the same order
pub record AreDrawnAlike (n m : Net) : Type 0 where
  pub graph : m.graph ≡ n.graph
  pub order : (d c : ℕ) → AreAround n d c → is_before m d c ≡ is_before n d c

-- three different darts that leave one node
pub record AreThreeAround (net : Net) (d c e : ℕ) : Type 0 where
  pub one : AreAround net d c
  pub two : AreAround net d e
  pub apart : d ≢ c
  pub far : d ≢ e
  pub other : c ≢ e

-- Around each node the darts stand in the opposite order: what is met first when turning from a
-- dart in the one net is met last in the other.
pub record AreOpposite (n m : Net) : Type 0 where
  pub graph : m.graph ≡ n.graph
  pub order : (d c e : ℕ) → AreThreeAround n d c e → is_met_before m d c e ≡ is_met_before n d e c
