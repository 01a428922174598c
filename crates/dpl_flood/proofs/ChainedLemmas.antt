-- Pairs that are joined along chains, one after another.
use Rattle.std.proofs.Common.{arith, ◌≡◌, ℕ, suc, ◌+◌, ◌<◌, ◌≤◌, ◌==◌, refl, sym, ap, ◌∙◌}
use Rattle.std.proofs.Common.{Bool, cond, Some, List, [], ◌∷◌, length}
use Rattle.std.specs.Prelude.{slice_index, nat_lt}
use Rattle.std.specs.Option.{option_map_or}
use Rattle.std.proofs.Math.Path.{subst₂}
use Rattle.std.proofs.lemmas.Bool.{cond-true, cond-false, lt-ltb, le-ltb}
use Rattle.std.proofs.lemmas.List.Sums.{sum_by-cons, sum_by-append}
use Rattle.std.proofs.lemmas.List.Elements.{All-nil, All-cons}
use Rattle.dpl_laminar.specs.Families.{Sets, load_of}
use Rattle.dpl_laminar.specs.Pairings.{pairs_sum}
use Rattle.dpl_dual.specs.declared.crosses.Cross.{Cross}
use Rattle.dpl_dual.specs.Chains.{Leads, length_of}
use Rattle.dpl_flood.specs.declared.nodes.Node.{Node}
use Rattle.dpl_flood.specs.declared.nodes.Join.{Join}
use Rattle.dpl_flood.specs.Arenas.{AreNodes, seat_of, join_chain, join_length}
use Rattle.dpl_flood.specs.Joins.{Entries, AreJoins, HaveSeats, dist_in, join_at}
use Rattle.dpl_flood.specs.Flips.{Chain, all_ways, ends_of, AreFlipped, ArePairsJoined}
use Rattle.dpl_flood.proofs.JoinLemmas.{join_leads, join_long}

-- before the first pair nothing is joined
pub pairs_none : (ways : List Cross) (terminals : List ℕ) (mate : ℕ → ℕ) (long : ℕ → ℕ → ℕ) (old : List Bool) → ArePairsJoined ways terminals mate long 0 old old
pairs_none ways terminals mate long old = record {
  chains = [];
  leads = All-nil (λ c. Leads ways c.from c.ways c.to);
  ends = λ f. refl;
  together = refl;
  places = refl;
  each = λ e l. omega arith;
}

-- a member whose mate came before it is passed over
pub pairs_skip : (ways : List Cross) (terminals : List ℕ) (mate : ℕ → ℕ) (long : ℕ → ℕ → ℕ) (i : ℕ) (old new : List Bool)
    → mate i ≤ i → ArePairsJoined ways terminals mate long i old new → ArePairsJoined ways terminals mate long (i + 1) old new
pairs_skip ways terminals mate long i old new le p =
    let skip : (w : ℕ → ℕ → ℕ) → pairs_sum (i + 1) mate w ≡ pairs_sum i mate w = λ w.
    let one : i + 1 ≡ suc i = omega arith in
    omega (arith, ap (λ z. pairs_sum z mate w) one, cond-false {A = ℕ} (nat_lt i (mate i)) (w i (mate i)) 0 (le-ltb i (mate i) le)) in
    record {
      chains = p.chains;
      leads = p.leads;
      ends = λ f. p.ends f ∙ sym (skip (λ s t. cond {A = ℕ} (slice_index terminals s == f) 1 0 + cond {A = ℕ} (slice_index terminals t == f) 1 0));
      together = p.together ∙ sym (skip long);
      places = p.places;
      each = p.each;
    }

-- one pair more is joined
pub pairs_more : (ways : List Cross) (terminals : List ℕ) (mate : ℕ → ℕ) (long : ℕ → ℕ → ℕ) (i : ℕ) (old now new : List Bool) (chain : List Cross)
    → i < mate i → Leads ways (slice_index terminals i) chain (slice_index terminals (mate i)) → length_of chain ≡ long i (mate i)
    → AreFlipped chain now new → ArePairsJoined ways terminals mate long i old now → ArePairsJoined ways terminals mate long (i + 1) old new
pairs_more ways terminals mate long i old now new chain lt leads is c p =
    let one : i + 1 ≡ suc i = omega arith in
    let more : (w : ℕ → ℕ → ℕ) → pairs_sum (i + 1) mate w ≡ w i (mate i) + pairs_sum i mate w = λ w.
    omega (arith, ap (λ z. pairs_sum z mate w) one, cond-true {A = ℕ} (nat_lt i (mate i)) (w i (mate i)) 0 (lt-ltb i (mate i) lt)) in
    let from = slice_index terminals i in
    let to = slice_index terminals (mate i) in
    let first : Chain = record { from = from; to = to; ways = chain } in
    record {
      chains = first ∷ p.chains;
      leads = All-cons (λ z. Leads ways z.from z.ways z.to) first p.chains leads p.leads;
      ends = λ f.
          omega (
            arith,
            p.ends f,
            more (λ s t. cond {A = ℕ} (slice_index terminals s == f) 1 0 + cond {A = ℕ} (slice_index terminals t == f) 1 0),
            sum_by-cons (λ y. cond {A = ℕ} (y == f) 1 0) from (to ∷ ends_of p.chains),
            sum_by-cons (λ y. cond {A = ℕ} (y == f) 1 0) to (ends_of p.chains),
          );
      together = omega (arith, p.together, more long, sum_by-append (λ z. z.length) chain (all_ways p.chains), is);
      places = c.places ∙ p.places;
      each = λ e l. omega (
        arith,
        p.each e l,
        c.each e (omega (arith, l, p.places)),
        sum_by-append (λ z. cond {A = ℕ} (z.edge == e) 1 0) chain (all_ways p.chains),
      );
    }

-- and its chain is that of their join
pub pairs_joined : (ways : List Cross) (nodes : List Node) (joins : Entries) (seats : List ℕ) (mate : ℕ → ℕ) (f : Sets) (i : ℕ) (old now new : List Bool) (j : Join)
    → AreNodes ways nodes → AreJoins ways nodes joins → HaveSeats nodes seats → i < mate i → mate i < length seats → join_at joins i (mate i) ≡ Some j
    → AreFlipped (join_chain ways nodes j) now new → ArePairsJoined ways seats mate (dist_in ways nodes joins f) i old now
    → ArePairsJoined ways seats mate (dist_in ways nodes joins f) (i + 1) old new
pairs_joined ways nodes joins seats mate f i old now new j are all have lt inside there flip p =
    let b = all i (mate i) j there in
    let from = ap (seat_of nodes) b.start ∙ (have i (omega (arith, lt, inside))).1 in
    let to = ap (seat_of nodes) b.end ∙ (have (mate i) inside).1 in
    let leads = subst₂ (λ x y. Leads ways x (join_chain ways nodes j) y) from to (join_leads ways nodes j are b.join) in
    let long = join_long ways nodes j are b.join ∙ sym (ap (λ z. option_map_or (join_length ways nodes) z (load_of f i (mate i) + 1)) there) in
    pairs_more ways seats mate (dist_in ways nodes joins f) i old now new (join_chain ways nodes j) lt leads long flip p
