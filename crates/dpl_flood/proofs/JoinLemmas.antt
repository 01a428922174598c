-- Joins: chains from seat to seat, drawn to one end and put one behind another.
use Rattle.std.proofs.Common.{arith, ◌≡◌, ℕ, zero, suc, ◌+◌, ◌<◌, ◌≤◌, ◌^◌, refl, sym, ap, ◌∙◌, subst, Option, Some, None}
use Rattle.std.proofs.Common.{List, [], ◌∷◌, ◌++◌, length, append_assoc, map}
use Rattle.std.specs.Prelude.{reverse, MatchOption, All}
use Rattle.std.proofs.Math.Path.{subst₂}
use Rattle.std.proofs.lemmas.List.{reverse-append, reverse-reverse, map-append}
use Rattle.std.proofs.lemmas.List.Sums.{sum_by-cons, sum_by_push}
use Rattle.std.proofs.lemmas.List.Elements.{All-head, All-tail, All-push}
use Rattle.dpl_dual.specs.declared.crosses.Cross.{Cross}
use Rattle.dpl_dual.specs.Chains.{Leads, beyond, length_of}
use Rattle.dpl_dual.specs.Duals.{way_at}
use Rattle.dpl_dual.proofs.ChainLemmas.{leads_more, leads_on}
use Rattle.dpl_flood.specs.declared.nodes.Last.{Last}
use Rattle.dpl_flood.specs.declared.nodes.Node.{Node}
use Rattle.dpl_flood.specs.declared.nodes.Join.{Join}
use Rattle.dpl_flood.specs.Arenas.{node_at, seat_of, chain_of, chain_by, and_last, IsBacking, IsOver, IsBeyond, IsSeat, AreNodes, IsLonger, IsThere}
use Rattle.dpl_flood.specs.Arenas.{IsJoin, start_of, end_of, join_chain, join_length, IsDrawn, IsDrawing}
use Rattle.dpl_flood.proofs.ArenaLemmas.{longer_refl, longer_trans, length_longer, same_node, in_ways, chain_is, over_back, back_one}

-- ---- a chain backwards

reverse_cons : (x : Cross) (xs : List Cross) → reverse (x ∷ xs) ≡ reverse xs ++ x ∷ []
reverse_cons x xs = reverse-append (x ∷ []) xs

-- a chain leads back the other way
pub leads_reverse : (ways : List Cross) (f : ℕ) (xs : List Cross) (h : ℕ) → Leads ways f xs h → Leads ways h (reverse xs) f
leads_reverse ways f [] h a = sym a
leads_reverse ways f (x ∷ xs) h a =
    let rest = leads_reverse ways (beyond x f) xs h a.2 in
    let b = back_one x f a.1 in
    let more = leads_more ways h (reverse xs) (beyond x f) x rest a.0 b.0 in
    subst₂ (λ ys z. Leads ways h ys z) (sym (reverse_cons x xs)) b.1 more

-- and is as long
pub length_reverse : (xs : List Cross) → length_of (reverse xs) ≡ length_of xs
length_reverse [] = refl
length_reverse (x ∷ xs) = omega (
  arith,
  ap length_of (reverse_cons x xs),
  sum_by_push (λ z. z.length) (reverse xs) x,
  sum_by-cons (λ z. z.length) x xs,
  length_reverse xs,
)

length_on : (xs ys : List Cross) → length_of (xs ++ ys) ≡ length_of xs + length_of ys
length_on [] ys = omega arith
length_on (x ∷ xs) ys = omega (arith, sum_by-cons (λ z. z.length) x (xs ++ ys), sum_by-cons (λ z. z.length) x xs, length_on xs ys)

-- ---- a join is a chain from seat to seat

-- a join leads from the seat of its first member to that of its second one
pub join_leads : (ways : List Cross) (nodes : List Node) (j : Join) → AreNodes ways nodes → IsJoin ways nodes j
    → Leads ways (seat_of nodes (start_of nodes j)) (join_chain ways nodes j) (seat_of nodes (end_of nodes j))
join_leads ways nodes j p is =
    let one = chain_is ways nodes j.first j.first p is.first (omega arith) in
    let two = chain_is ways nodes j.second j.second p is.second (omega arith) in
    let f = (node_at nodes j.first).face in
    let back = leads_reverse ways (seat_of nodes (end_of nodes j)) (chain_of ways nodes j.second) (node_at nodes j.second).face two.leads in
    let x = way_at ways j.way in
    let on : Leads ways f (x ∷ reverse (chain_of ways nodes j.second)) (seat_of nodes (end_of nodes j)) =
    (in_ways ways j.way is.over.inside, is.over.at, subst (λ z. Leads ways z (reverse (chain_of ways nodes j.second)) (seat_of nodes (end_of nodes j))) (sym is.over.leads) back) in
    leads_on ways (seat_of nodes (start_of nodes j)) (chain_of ways nodes j.first) f (x ∷ reverse (chain_of ways nodes j.second)) (seat_of nodes (end_of nodes j)) one.leads on

-- and is as long as its parts
pub join_long : (ways : List Cross) (nodes : List Node) (j : Join) → AreNodes ways nodes → IsJoin ways nodes j → length_of (join_chain ways nodes j) ≡ join_length ways nodes j
join_long ways nodes j p is =
    let one = chain_is ways nodes j.first j.first p is.first (omega arith) in
    let two = chain_is ways nodes j.second j.second p is.second (omega arith) in
    let x = way_at ways j.way in
    let back = reverse (chain_of ways nodes j.second) in
    omega (
      arith,
      length_on (chain_of ways nodes j.first) (x ∷ back),
      sum_by-cons (λ z. z.length) x back,
      length_reverse (chain_of ways nodes j.second),
      one.long,
      two.long,
    )

-- a join stays where nodes are added
pub join_stays : (ways : List Cross) (old new : List Node) (j : Join) → IsLonger old new → IsJoin ways old j → IsJoin ways new j
join_stays ways old new j p is = record {
  first = omega (arith, is.first, length_longer old new p);
  second = omega (arith, is.second, length_longer old new p);
  over = subst₂ (λ x y. IsOver ways x.face j.way y.face) (sym (same_node old new j.first p is.first)) (sym (same_node old new j.second p is.second)) is.over;
}

-- ---- a join is drawn to its first seat

-- before it is drawn a join is itself
pub drawing : (ways : List Cross) (nodes : List Node) (x : Join) → AreNodes ways nodes → IsJoin ways nodes x → IsDrawing ways nodes nodes x x
drawing ways nodes x p is = record { nodes = p; longer = longer_refl nodes; join = is; start = refl; end = refl; long = refl }

-- it is drawn when its first node is at its seat
pub drawn : (ways : List Cross) (old new : List Node) (x j : Join) → IsDrawing ways old new x j → (node_at new j.first).last ≡ None → IsDrawn ways old new x j
drawn ways old new x j d e =
    let seat : IsSeat j.first (node_at new j.first) =
    subst (λ z. MatchOption z (IsSeat j.first (node_at new j.first)) (λ l. (l.before < j.first) × IsBeyond ways (node_at new l.before) l.way (node_at new j.first))) e (d.nodes j.first d.join.first) in
    record {
      join = d.join;
      seat = sym seat.member ∙ d.start;
      first = seat.far;
      end = d.end;
      long = d.long;
    }

-- the last way of the node
pub last_of : (ways : List Cross) (nodes : List Node) (a : ℕ) (l : Last) → AreNodes ways nodes → a < length nodes → (node_at nodes a).last ≡ Some l
    → (l.before < a) × IsBeyond ways (node_at nodes l.before) l.way (node_at nodes a)
last_of ways nodes a l p h e = subst (λ z. MatchOption z (IsSeat a (node_at nodes a)) (λ l. (l.before < a) × IsBeyond ways (node_at nodes l.before) l.way (node_at nodes a))) e (p a h)

-- the way over which it goes on
pub drawing_over : (ways : List Cross) (old new : List Node) (x j : Join) → IsDrawing ways old new x j → IsOver ways (node_at new j.second).face j.way (node_at new j.first).face
drawing_over ways old new x j d = over_back ways (node_at new j.first).face j.way (node_at new j.second).face d.join.over

-- what is drawn stays as long as it was
pub drawing_fits : (ways : List Cross) (old new : List Node) (x j : Join) → IsDrawing ways old new x j → join_length ways old x < 2 ^ 64
    → (node_at new j.second).far + (way_at ways j.way).length < 2 ^ 64
drawing_fits ways old new x j d h = omega (arith, d.long, h)

-- a way goes from the first chain of a join to the second one
pub drawing_on : (ways : List Cross) (old new next : List Node) (x j : Join) (l : Last) (b : ℕ) → IsDrawing ways old new x j → (node_at new j.first).last ≡ Some l
    → IsThere next b (node_at new j.first).face (node_at new j.second).member ((node_at new j.second).far + (way_at ways j.way).length)
    → IsLonger new next → AreNodes ways next → IsDrawing ways old next x (record { first = l.before; way = l.way; second = b })
drawing_on ways old new next x j l b d e there more p =
    let last = last_of ways new j.first l d.nodes d.join.first e in
    let h : l.before < length new = omega (arith, last.0, d.join.first) in
    let same : node_at next l.before ≡ node_at new l.before = same_node new next l.before more h in
    record {
      nodes = p;
      longer = longer_trans old new next d.longer more;
      join = record {
        first = omega (arith, h, length_longer new next more);
        second = there.inside;
        over = subst₂ (λ y f. IsOver ways y.face l.way f) (sym same) (sym there.face) last.1.over;
      };
      start = ap (λ y. y.member) same ∙ sym last.1.member ∙ d.start;
      end = there.member ∙ d.end;
      long = omega (arith, ap (λ y. y.far) same, there.far, last.1.far, d.long);
    }

-- ---- the ways of a chain, back from its end

-- how many ways are allowed changes nothing, once they are enough
by_enough : (ways : List Cross) (nodes : List Node) (n m a : ℕ) → AreNodes ways nodes → a < length nodes → a ≤ n → a ≤ m → chain_by ways nodes n a ≡ chain_by ways nodes m a
by_enough ways nodes zero zero a p h b c = refl
by_enough ways nodes zero (suc m) a p h b c = sym (none (node_at nodes a).last (p a h)) where
  none : (l : Option Last) → MatchOption l (IsSeat a (node_at nodes a)) (λ l. (l.before < a) × IsBeyond ways (node_at nodes l.before) l.way (node_at nodes a))
      → and_last ways (chain_by ways nodes m) l ≡ []
  none None q = refl
  none (Some l) q = absurd (omega (arith, q.0, b))
by_enough ways nodes (suc n) zero a p h b c = none (node_at nodes a).last (p a h) where
  none : (l : Option Last) → MatchOption l (IsSeat a (node_at nodes a)) (λ l. (l.before < a) × IsBeyond ways (node_at nodes l.before) l.way (node_at nodes a))
      → and_last ways (chain_by ways nodes n) l ≡ []
  none None q = refl
  none (Some l) q = absurd (omega (arith, q.0, c))
by_enough ways nodes (suc n) (suc m) a p h b c = on (λ k k1. by_enough ways nodes n m k p (omega (arith, k1, h)) (omega (arith, k1, b)) (omega (arith, k1, c))) (node_at nodes a).last (p a h) where
  on : ((k : ℕ) → k < a → chain_by ways nodes n k ≡ chain_by ways nodes m k) → (l : Option Last)
      → MatchOption l (IsSeat a (node_at nodes a)) (λ l. (l.before < a) × IsBeyond ways (node_at nodes l.before) l.way (node_at nodes a))
      → and_last ways (chain_by ways nodes n) l ≡ and_last ways (chain_by ways nodes m) l
  on same None q = refl
  on same (Some l) q = ap (λ z. z ++ way_at ways l.way ∷ []) (same l.before q.0)

-- the chain to a node is that to the node before, and its last way
pub chain_step : (ways : List Cross) (nodes : List Node) (a : ℕ) (l : Last) → AreNodes ways nodes → a < length nodes → (node_at nodes a).last ≡ Some l
    → chain_of ways nodes a ≡ chain_of ways nodes l.before ++ way_at ways l.way ∷ []
chain_step ways nodes a l p h e =
    let last = last_of ways nodes a l p h e in
    by_enough ways nodes a (suc a) a p h (omega arith) (omega arith)
    ∙ ap (and_last ways (chain_by ways nodes a)) e
    ∙ ap (λ z. z ++ way_at ways l.way ∷ []) (by_enough ways nodes a l.before l.before p (omega (arith, last.0, h)) (omega (arith, last.0)) (omega arith))

-- the ways that were listed, and those that are left
pub backing : (ways : List Cross) (nodes : List Node) (out : List ℕ) (a : ℕ) → a < length nodes → IsBacking ways nodes out out a a
backing ways nodes out a h = record { inside = h; left = refl; numbers = λ all. all }

-- one way more is listed, and one less is left
pub backing_on : (ways : List Cross) (nodes : List Node) (old out next : List ℕ) (a here : ℕ) (l : Last) → AreNodes ways nodes → IsBacking ways nodes old out a here
    → (node_at nodes here).last ≡ Some l → next ≡ out ++ l.way ∷ [] → IsBacking ways nodes old next a l.before
backing_on ways nodes old out next a here l p b e n =
    let last = last_of ways nodes here l p b.inside e in
    let x : Cross = way_at ways l.way in
    let rest : List Cross = reverse (chain_of ways nodes l.before) in
    let is : reverse (chain_of ways nodes here) ≡ x ∷ rest = ap reverse (chain_step ways nodes here l p b.inside e) ∙ reverse-append (chain_of ways nodes l.before) (x ∷ []) in
    record {
      inside = omega (arith, last.0, b.inside);
      left = ap (λ z. map (way_at ways) z ++ rest) n ∙ ap (λ z. z ++ rest) (map-append (way_at ways) out (l.way ∷ []))
          ∙ append_assoc (map (way_at ways) out) (x ∷ []) rest ∙ ap (λ z. map (way_at ways) out ++ z) (sym is) ∙ b.left;
      numbers = λ all. subst (All (λ w. w < length ways)) (sym n) (All-push (λ w. w < length ways) out l.way (b.numbers all) last.1.over.inside);
    }

-- what is listed back on both sides of a way is the chain of the join
pub ways_are : (ways : List Cross) (nodes : List Node) (j : Join) (none one two three four : List ℕ) → none ≡ []
    → map (way_at ways) one ≡ map (way_at ways) none ++ reverse (chain_of ways nodes j.first) → two ≡ reverse one → three ≡ two ++ j.way ∷ []
    → map (way_at ways) four ≡ map (way_at ways) three ++ reverse (chain_of ways nodes j.second)
    → map (way_at ways) four ≡ join_chain ways nodes j
ways_are ways nodes j none one two three four e0 e1 e2 e3 e4 =
    let first : map (way_at ways) one ≡ reverse (chain_of ways nodes j.first) = e1 ∙ ap (λ z. map (way_at ways) z ++ reverse (chain_of ways nodes j.first)) e0 in
    let second : map (way_at ways) two ≡ chain_of ways nodes j.first = ap (map (way_at ways)) e2 ∙ map_reverse one ∙ ap reverse first ∙ reverse-reverse (chain_of ways nodes j.first) in
    e4 ∙ ap (λ z. map (way_at ways) z ++ reverse (chain_of ways nodes j.second)) e3
    ∙ ap (λ z. z ++ reverse (chain_of ways nodes j.second)) (map-append (way_at ways) two (j.way ∷ []) ∙ ap (λ z. z ++ way_at ways j.way ∷ []) second)
    ∙ append_assoc (chain_of ways nodes j.first) (way_at ways j.way ∷ []) (reverse (chain_of ways nodes j.second))
  where
    map_reverse : (xs : List ℕ) → map (way_at ways) (reverse xs) ≡ reverse (map (way_at ways) xs)
    map_reverse [] = refl
    map_reverse (x ∷ xs) = ap (map (way_at ways)) (reverse-append (x ∷ []) xs) ∙ map-append (way_at ways) (reverse xs) (x ∷ [])
        ∙ ap (λ z. z ++ way_at ways x ∷ []) (map_reverse xs) ∙ sym (reverse-append (way_at ways x ∷ []) (map (way_at ways) xs))

-- and they are numbers of ways
pub ways_inside : (ways : List Cross) (one two three four : List ℕ) (w : ℕ) → w < length ways → All (λ x. x < length ways) one → two ≡ reverse one
    → three ≡ two ++ w ∷ [] → (All (λ x. x < length ways) three → All (λ x. x < length ways) four) → All (λ x. x < length ways) four
ways_inside ways one two three four w h all e2 e3 last =
    let P : ℕ → Type 0 = λ x. x < length ways in
    let back : All P two = subst (All P) (sym e2) (turned one all) in
    last (subst (All P) (sym e3) (All-push P two w back h))
  where
    turned : (xs : List ℕ) → All (λ x. x < length ways) xs → All (λ x. x < length ways) (reverse xs)
    turned [] a = a
    turned (x ∷ xs) a =
        let P : ℕ → Type 0 = λ z. z < length ways in
        subst (All P) (sym (reverse-append (x ∷ []) xs)) (All-push P (reverse xs) x (turned xs (All-tail P x xs a)) (All-head P x xs a))
