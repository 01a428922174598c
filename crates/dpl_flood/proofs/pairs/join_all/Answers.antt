use Rattle.std.proofs.Common.{arith, ◌≡◌, Some, length, subst, sym}
use Rattle.std.specs.Prelude.{slice_index}
use Rattle.std.proofs.Math.Path.{subst₂}
use Rattle.dpl_laminar.specs.Pairings.{IsPairing}
use Rattle.dpl_laminar.specs.Storing.{sets_of}
use Rattle.dpl_tree.specs.Views.{mate_in}
use Rattle.dpl_tree.specs.steps.Parted.{IsDone}
use Rattle.dpl_flood.specs.declared.nodes.Join.{Join}
use Rattle.dpl_flood.specs.Flips.{ArePairsJoined}
use Rattle.dpl_flood.specs.Joins.{AreJoins, dist_in, join_at}
use Rattle.dpl_flood.proofs.PairLemmas.{rest_by, pairs_tied, pairs_tight, pairs_are_joined, pairs_least}
use Rattle.dpl_flood.proofs.pairs.join_all.Goals as goal

pub pair_inside-requires-clause-rest : goal.pair_inside-requires-clause-rest
pair_inside-requires-clause-rest c =
    let f = sets_of c.args.family.now in (
      dist_in c.args.dual.now.crosses c.args.arena.now c.args.joins.now f,
      rest_by c.args.dual.now.crosses c.args.arena.now c.args.joins.now f (mate_in c.args.mates.now) c.requires.rest,
    )

pub join_pairs-requires-clause-joins : goal.join_pairs-requires-clause-joins
join_pairs-requires-clause-joins c = subst (λ z. AreJoins z c.args.arena.now c.args.joins.now) (sym c.as_slice.ensures) c.requires.joins

pub join_pairs-requires-clause-pairing : goal.join_pairs-requires-clause-pairing
join_pairs-requires-clause-pairing c =
    let f = sets_of c.args.family.now in
    let far = dist_in c.args.dual.now.crosses c.args.arena.now c.args.joins.now f in
    let done : IsDone f.size f far (slice_index c.in_ok-mate.mate.items) =
    c.in_ok-mate.ensures.done far (rest_by c.args.dual.now.crosses c.args.arena.now c.args.joins.now f (mate_in c.args.mates.now) c.requires.rest) in
    subst₂ (λ n z. IsPairing n (slice_index z)) c.requires.members (sym c.deref.ensures.value) done.pairs

pub join_pairs-requires-clause-some : goal.join_pairs-requires-clause-some
join_pairs-requires-clause-some c =
    let f = sets_of c.args.family.now in
    let ways = c.args.dual.now.crosses in
    let far = dist_in ways c.args.arena.now c.args.joins.now f in
    let mate = slice_index c.in_ok-mate.mate.items in
    let done : IsDone f.size f far mate =
    c.in_ok-mate.ensures.done far (rest_by ways c.args.arena.now c.args.joins.now f (mate_in c.args.mates.now) c.requires.rest) in
    λ m h.
    let tied = pairs_tied ways c.args.arena.now c.args.joins.now f mate done m (omega (arith, h, c.requires.members)) in
    subst (λ z. (j : Join) × (join_at c.args.joins.now m (slice_index z m) ≡ Some j)) (sym c.deref.ensures.value) (tied.join, tied.there)

pub returns-clause-tight : goal.returns-clause-tight
returns-clause-tight c =
    let f = sets_of c.args.family.now in
    let ways = c.args.dual.now.crosses in
    let far = dist_in ways c.args.arena.now c.args.joins.now f in
    let mate = slice_index c.in_ok-mate.mate.items in
    let done : IsDone f.size f far mate =
    c.in_ok-mate.ensures.done far (rest_by ways c.args.arena.now c.args.joins.now f (mate_in c.args.mates.now) c.requires.rest) in
    pairs_tight c.args.dual.now c.args.seats.now c.args.arena.now c.args.joins.now f mate c.requires.rest.family c.requires.nodes c.requires.joins
    c.requires.seats c.requires.members done

pub returns-clause-joined : goal.returns-clause-joined
returns-clause-joined c =
    let f = sets_of c.args.family.now in
    let ways = c.args.dual.now.crosses in
    let far = dist_in ways c.args.arena.now c.args.joins.now f in
    let mate = slice_index c.in_ok-mate.mate.items in
    let done : IsDone f.size f far mate =
    c.in_ok-mate.ensures.done far (rest_by ways c.args.arena.now c.args.joins.now f (mate_in c.args.mates.now) c.requires.rest) in
    pairs_are_joined c.args.dual.now c.args.seats.now c.args.arena.now c.args.joins.now f c.requires.flood.0 mate c.args.joined.now c.join_pairs.new.joined
    c.requires.flood.1 (returns-clause-tight c) c.requires.members done
    (subst₂ (λ w z. ArePairsJoined w c.args.seats.now (slice_index z) (dist_in w c.args.arena.now c.args.joins.now f) (length c.args.seats.now)
    c.args.joined.now c.join_pairs.new.joined) c.as_slice.ensures c.deref.ensures.value (c.in_ok-join_pairs.ensures f))

pub returns-clause-least : goal.returns-clause-least
returns-clause-least c = λ other long pairing chains.
    pairs_least c.args.dual.now c.args.seats.now (sets_of c.args.family.now) c.requires.flood.0 (slice_index c.in_ok-mate.mate.items) other long
    c.requires.rest.family c.requires.flood.1 (returns-clause-tight c) c.requires.members pairing chains
