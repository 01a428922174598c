-- The faces of a drawing of some of the edges of a net: the face rule of rotation systems, as in Mohar and Thomassen,
-- "Graphs on Surfaces", 2001, chapter 3. Dart 2e goes from a to b of edge e, and dart 2e + 1 goes back.
-- A set of edges is a test of their numbers.
use Rattle.std.specs.Prelude.{ℕ, ◌+◌, ◌-◌, ◌*◌, ◌/◌, ◌%◌, ◌==◌, ◌&&◌, ◌||◌, zero, suc, Bool, true, false, not, List, length, slice_index_or, if◌then◌else◌, pos}
use Rattle.std.proofs.Common.{refl, lit≤}
use Rattle.std.proofs.lemmas.Bool.{false≢true}
use Rattle.std.specs.Ordering.{is_lt}
use Rattle.dpl_sign.specs.declared.ports.Port.{Port}
use Rattle.dpl_sign.specs.declared.graphs.Signed.{Signed}
use Rattle.dpl_sign.specs.declared.nets.Net.{Net}
use Rattle.dpl_sign.specs.PortOrder.{port_cmp}
use Rattle.dpl_sign.specs.Walks.{edge_at}
use Rattle.dpl_cycle.specs.Cycles.{least}
use Rattle.dpl_cycle.specs.Sums.{count_on}
use Rattle.dpl_cycle.specs.Among.{cycles_among, members}

-- the edges whose place in the list holds true
abbrev pub is_in : List Bool → ℕ → Bool
is_in set e = slice_index_or set e false

-- the node that a dart leaves
abbrev pub tail_of : Signed → ℕ → ℕ
tail_of g d = elim (d % 2 == 0) [ true ↦ (edge_at g (d / 2)).a | false ↦ (edge_at g (d / 2)).b ]

-- the other dart of the same edge
abbrev pub twin_of : ℕ → ℕ
twin_of d = elim (d % 2 == 0) [ true ↦ d + 1 | false ↦ d - 1 ]

abbrev pub dart_count : Net → ℕ
dart_count net = 2 * length net.graph.edges

-- what stands where there is no port
abbrev pub no_port : Port
no_port = record {
  side = 1;
  key = pos 0;
  dx = 0;
  dy = 0;
  eight = lit≤ tt;
  no_key = λ e. refl;
  direction = λ e. absurd (false≢true e);
  no_direction = λ e. refl;
}

-- the port at which a dart leaves its node
abbrev pub port_of : Net → ℕ → Port
port_of net d = elim (d % 2 == 0) [
  | true ↦ (slice_index_or net.ports (d / 2) (no_port, no_port)).0
  | false ↦ (slice_index_or net.ports (d / 2) (no_port, no_port)).1
]

-- one dart of a node stands before another in the order of their ports
abbrev pub is_before : Net → ℕ → ℕ → Bool
is_before net d c = is_lt (port_cmp (port_of net d) (d / 2) (port_of net c) (c / 2))

-- Turning counterclockwise from d, one meets c before e. After a whole turn one meets d itself.
abbrev pub is_met_before : Net → ℕ → ℕ → ℕ → Bool
is_met_before net d c e =
    elim (is_before net d e) [
      | true ↦ is_before net d c && is_before net c e
      | false ↦ is_before net d c || is_before net c e
    ]

-- of the dart c, if it leaves the node of d, and a dart e of that node, the one that is met first
abbrev pub first_met : Net → ℕ → ℕ → ℕ → ℕ
first_met net d c e = if (tail_of net.graph c == tail_of net.graph d) && is_met_before net d c e
    then c else e

-- the same among the darts of the edges below k that are in the set
abbrev pub next_below : Net → (ℕ → Bool) → ℕ → ℕ → ℕ
next_below net set zero d = d
next_below net set (suc k) d =
    elim (set k) [
      | true ↦ first_met net d (2 * k
          + 1) (first_met net d (2 * k) (next_below net set k d))
      | false ↦ next_below net set k d
    ]

-- the next dart of the set counterclockwise around the node that d leaves
abbrev pub next_around : Net → (ℕ → Bool) → ℕ → ℕ
next_around net set d = next_below net set (length net.graph.edges) d

-- turn back, then take the next edge counterclockwise; a dart outside the set leads to itself
abbrev pub next_in_face : Net → (ℕ → Bool) → ℕ → ℕ
next_in_face net set d = if set (d / 2) then next_around net set (twin_of d) else d

-- an edge of the set ends at v, among the edges below k
abbrev pub is_met_below : Signed → (ℕ → Bool) → ℕ → ℕ → Bool
is_met_below g set zero v = false
is_met_below g set (suc k) v =
    (set k && (((edge_at g k).a == v) || ((edge_at g k).b == v))) || is_met_below g set k v

-- no edge of the set ends at v
abbrev pub is_bare : Signed → (ℕ → Bool) → ℕ → Bool
is_bare g set v = not (is_met_below g set (length g.edges) v)

abbrev pub bare_count : Signed → (ℕ → Bool) → ℕ
bare_count g set = count_on (is_bare g set) g.nodes

-- the cycles of the face rule, and one face for each bare node
abbrev pub face_count : Net → (ℕ → Bool) → ℕ
face_count net set = cycles_among (next_in_face net set) (members (λ d.
    set (d / 2)) (dart_count net)) + bare_count net.graph set

-- the face of a dart, named by its least dart
abbrev pub face_of : Net → (ℕ → Bool) → ℕ → ℕ
face_of net set d = least (next_in_face net set) (dart_count net) d

-- the face at the corner where a dart leaves its node: that of the next dart of the set there
abbrev pub corner_face : Net → (ℕ → Bool) → ℕ → ℕ
corner_face net set d = face_of net set (next_around net set d)
