use Rattle.std.proofs.Common.{◌≡◌, ◌<◌, ℕ, length}
use Rattle.dpl_sign.specs.Walks.{edge_at}
use Rattle.dpl_stay.specs.Same.{ports_at}
use Rattle.dpl_stay.specs.Pairs.{at, IsTwinBy}
use Rattle.dpl_stay.proofs.pairing.twins.Given as goal

abbrev pub invariant-loop-e : goal.invariant-loop-e
invariant-loop-e l = (length l.found.items ≡ l.e) × ((e : ℕ) → e < l.e →
    IsTwinBy l.partners l.other (edge_at l.net.graph e) (ports_at l.net e) (at l.found.items e))
