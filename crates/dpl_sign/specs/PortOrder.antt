-- The counterclockwise order of the ports of one node: a rotation system, as in Mohar and Thomassen,
-- "Graphs on Surfaces", 2001, chapter 3.
use Rattle.std.specs.Prelude.{◌≡◌, ℕ, ◌*◌, ◌%◌, ◌==◌, if◌then◌else◌}
use Rattle.std.specs.Ordering.{ordering_then, nat_cmp, int_cmp}
use Rattle.std.specs.declared.cmp.Ordering.{Ordering}
use Rattle.std.specs.declared.cmp.Ordering.TheVariants.{Less}
use Rattle.dpl_sign.specs.declared.ports.Port.{Port}

-- the fractions a / b and c / d, of which the greatest is that with denominator 0
abbrev pub fraction_cmp : ℕ → ℕ → ℕ → ℕ → Ordering
fraction_cmp a b c d = nat_cmp (a * d) (c * b)

-- Turning counterclockwise at a corner, the slope rise / run rises: dy/dx at south-west and
-- north-east, dx/dy at south-east and north-west.
abbrev pub rise : Port → ℕ
rise p = if p.side % 4 == 0 then p.dy else p.dx

abbrev pub run : Port → ℕ
run p = if p.side % 4 == 0 then p.dx else p.dy

abbrev pub slope_cmp : Port → Port → Ordering
slope_cmp p q = fraction_cmp (rise p) (run p) (rise q) (run q)

-- counterclockwise from south-west: by the side, the place on it, and ties by the edge's number
abbrev pub port_cmp : Port → ℕ → Port → ℕ → Ordering
port_cmp p e q f = ordering_then (nat_cmp p.side q.side)
    (ordering_then (int_cmp p.key q.key) (ordering_then (slope_cmp p q) (nat_cmp e f)))

-- edge e leaves at p before edge f leaves at q
abbrev pub StandsBefore : Port → ℕ → Port → ℕ → Type 0
StandsBefore p e q f = port_cmp p e q f ≡ Less
