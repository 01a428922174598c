-- Nodes and their chains.
use Rattle.std.proofs.Common.{arith, ◌≡◌, ℕ, zero, suc, ◌+◌, ◌<◌, ◌≤◌, refl, sym, ap, ◌∙◌, subst, inl, inr, Option, Some, None}
use Rattle.std.proofs.Common.{List, [], ◌∷◌, ◌++◌, length, length-append, append_assoc, ◌==◌, eq-eqb}
use Rattle.std.specs.Prelude.{MatchOption, Contains, All, ◌%◌}
use Rattle.std.proofs.Math.Path.{subst₂}
use Rattle.std.proofs.lemmas.Bool.{cases_eq, cond-true, cond-false, ne_eqb}
use Rattle.std.proofs.lemmas.List.{get_or_append_left, get_or_default}
use Rattle.std.proofs.lemmas.List.Sums.{sum_by_push}
use Rattle.dpl_dual.specs.declared.crosses.Cross.{Cross}
use Rattle.dpl_dual.specs.Chains.{Leads, IsAt, beyond, length_of, no_cross}
use Rattle.dpl_dual.specs.Duals.{way_at}
use Rattle.dpl_dual.proofs.ChainLemmas.{leads_more}
use Rattle.dpl_flood.specs.declared.nodes.Last.{Last}
use Rattle.dpl_flood.specs.declared.nodes.Node.{Node}
use Rattle.dpl_flood.specs.Arenas.{no_node, node_at, seat_of, and_last, chain_by, IsOver, IsBeyond, IsSeat, IsNode, AreNodes, IsLonger}

-- ---- what stands stays

-- nothing was added
pub longer_refl : (nodes : List Node) → IsLonger nodes nodes
longer_refl nodes = ([], sym (append_nil nodes)) where
  append_nil : (xs : List Node) → xs ++ [] ≡ xs
  append_nil [] = refl
  append_nil (x ∷ xs) = ap (λ z. x ∷ z) (append_nil xs)

-- what was added twice was added
pub longer_trans : (a b c : List Node) → IsLonger a b → IsLonger b c → IsLonger a c
longer_trans a b c p q = (p.0 ++ q.0, q.1 ∙ ap (λ z. z ++ q.0) p.1 ∙ append_assoc a p.0 q.0)

-- there are no fewer nodes than before
pub length_longer : (a b : List Node) → IsLonger a b → length a ≤ length b
length_longer a b p = omega (arith, ap length p.1, length-append a p.0)

-- a node stays where nodes are added
pub same_node : (old new : List Node) (a : ℕ) → IsLonger old new → a < length old → node_at new a ≡ node_at old a
same_node old new a p h = ap (λ z. node_at z a) p.1 ∙ get_or_append_left old p.0 no_node a h

-- a node stands, and so does all that is said of it
pub same_is : (ways : List Cross) (old new : List Node) (a : ℕ) → IsLonger old new → a < length old → IsNode ways old a → IsNode ways new a
same_is ways old new a p h is =
    let same : node_at new a ≡ node_at old a = same_node old new a p h in
    subst (λ x. MatchOption x.last (IsSeat a x) (λ l. (l.before < a) × IsBeyond ways (node_at new l.before) l.way x)) (sym same)
    (moved (node_at old a).last is)
  where
    moved : (l : Option Last) → MatchOption l (IsSeat a (node_at old a)) (λ l. (l.before < a) × IsBeyond ways (node_at old l.before) l.way (node_at old a))
        → MatchOption l (IsSeat a (node_at old a)) (λ l. (l.before < a) × IsBeyond ways (node_at new l.before) l.way (node_at old a))
    moved None q = q
    moved (Some l) q = (q.0, subst (λ x. IsBeyond ways x l.way (node_at old a)) (sym (same_node old new l.before p (omega (arith, q.0, h)))) q.1)

-- ---- chains

-- the chain to a node, counted by a bound, leads there from the seat of its member, and is as long as the node says
pub record IsChain (ways : List Cross) (nodes : List Node) (a : ℕ) (chain : List Cross) : Type 0 where
  pub leads : Leads ways (seat_of nodes (node_at nodes a).member) chain (node_at nodes a).face
  pub long : length_of chain ≡ (node_at nodes a).far

-- the way of a number is one of the ways
pub in_ways : (ways : List Cross) (w : ℕ) → w < length ways → Contains ways (way_at ways w)
in_ways ways w h = (w, h, get_or_default ways w (way_at ways w) no_cross h)

-- the chain to a node is one, by any bound that its number does not pass
pub chain_is : (ways : List Cross) (nodes : List Node) (n a : ℕ) → AreNodes ways nodes → a < length nodes → a ≤ n → IsChain ways nodes a (chain_by ways nodes n a)
chain_is ways nodes zero a p h b = first (node_at nodes a).last (p a h) where
  first : (l : Option Last) → MatchOption l (IsSeat a (node_at nodes a)) (λ l. (l.before < a) × IsBeyond ways (node_at nodes l.before) l.way (node_at nodes a))
      → IsChain ways nodes a []
  first None q = record {
    leads = ap (seat_of nodes) q.member;
    long = sym q.far;
  }
  first (Some l) q = absurd (omega (arith, q.0, b))
chain_is ways nodes (suc n) a p h b = last (λ k m. chain_is ways nodes n k p (omega (arith, m, h)) (omega (arith, m, b))) (node_at nodes a).last (p a h) where
  last : ((k : ℕ) → k < a → IsChain ways nodes k (chain_by ways nodes n k)) → (l : Option Last)
      → MatchOption l (IsSeat a (node_at nodes a)) (λ l. (l.before < a) × IsBeyond ways (node_at nodes l.before) l.way (node_at nodes a))
      → IsChain ways nodes a (and_last ways (chain_by ways nodes n) l)
  last earlier None q = record {
    leads = ap (seat_of nodes) q.member;
    long = sym q.far;
  }
  last earlier (Some l) q =
      let e = earlier l.before q.0 in
      let over = q.1.over in
      let chain = chain_by ways nodes n l.before in
      let all = leads_more ways (seat_of nodes (node_at nodes l.before).member) chain (node_at nodes l.before).face (way_at ways l.way) e.leads (in_ways ways l.way over.inside) over.at in
      record {
        leads = subst₂ (λ t f. Leads ways (seat_of nodes t) (chain ++ way_at ways l.way ∷ []) f) (sym q.1.member) over.leads all;
        long = sum_by_push (λ x. x.length) chain (way_at ways l.way) ∙ ap (λ z. z + (way_at ways l.way).length) e.long ∙ sym q.1.far;
      }

-- the chain to a node stays
pub same_by : (ways : List Cross) (old new : List Node) (n a : ℕ) → AreNodes ways old → IsLonger old new → a < length old → chain_by ways new n a ≡ chain_by ways old n a
same_by ways old new zero a p q h = refl
same_by ways old new (suc n) a p q h =
    let same : node_at new a ≡ node_at old a = same_node old new a q h in
    ap (λ x. and_last ways (chain_by ways new n) x.last) same ∙ on (λ k m. same_by ways old new n k p q (omega (arith, m, h))) (node_at old a).last (p a h)
  where
    on : ((k : ℕ) → k < a → chain_by ways new n k ≡ chain_by ways old n k) → (l : Option Last)
        → MatchOption l (IsSeat a (node_at old a)) (λ l. (l.before < a) × IsBeyond ways (node_at old l.before) l.way (node_at old a))
        → and_last ways (chain_by ways new n) l ≡ and_last ways (chain_by ways old n) l
    on earlier None z = refl
    on earlier (Some l) z = ap (λ c. c ++ way_at ways l.way ∷ []) (earlier l.before z.0)

-- ---- a way more

-- from its far face a way leads back
pub back_one : (x : Cross) (f : ℕ) → IsAt x f → IsAt x (beyond x f) × (beyond x (beyond x f) ≡ f)
back_one x f m = elim (cases_eq x.f f) [
  | inl p ↦
      let to : beyond x f ≡ x.g = cond-true (x.f == f) x.g x.f (eq-eqb x.f f p) in (
        inr (sym to),
        elim (cases_eq x.f x.g) [
          | inl q ↦ ap (beyond x) to ∙ cond-true (x.f == x.g) x.g x.f (eq-eqb x.f x.g q) ∙ sym q ∙ p
          | inr q ↦ ap (beyond x) to ∙ cond-false (x.f == x.g) x.g x.f (ne_eqb x.f x.g q) ∙ p
        ],
      )
  | inr p ↦
      let to : beyond x f ≡ x.f = cond-false (x.f == f) x.g x.f (ne_eqb x.f f p) in
      let at : x.g ≡ f = elim m [ inl q ↦ absurd (p q) | inr q ↦ q ] in
      (inl (sym to), ap (beyond x) to ∙ cond-true (x.f == x.f) x.g x.f (eq-eqb x.f x.f refl) ∙ at)
]

-- a way from its other side
pub over_back : (ways : List Cross) (f w h : ℕ) → IsOver ways f w h → IsOver ways h w f
over_back ways f w h o =
    let x = way_at ways w in
    let b = back_one x f o.at in
    record {
      inside = o.inside;
      at = subst (IsAt x) o.leads b.0;
      leads = subst (λ z. beyond x z ≡ f) o.leads b.1;
    }

-- where the lengths of all ways are even, each node is an even number far
pub far_even : (ways : List Cross) (nodes : List Node) → All (λ x. x.length % 2 ≡ 0) ways → (n a : ℕ) → AreNodes ways nodes → a < length nodes → a ≤ n → (node_at nodes a).far % 2 ≡ 0
far_even ways nodes even zero a p h b = first (node_at nodes a).last (p a h) where
  first : (l : Option Last) → MatchOption l (IsSeat a (node_at nodes a)) (λ l. (l.before < a) × IsBeyond ways (node_at nodes l.before) l.way (node_at nodes a))
      → (node_at nodes a).far % 2 ≡ 0
  first None q = ap (λ z. z % 2) q.far
  first (Some l) q = absurd (omega (arith, q.0, b))
far_even ways nodes even (suc n) a p h b = last (λ k m. far_even ways nodes even n k p (omega (arith, m, h)) (omega (arith, m, b))) (node_at nodes a).last (p a h) where
  last : ((k : ℕ) → k < a → (node_at nodes k).far % 2 ≡ 0) → (l : Option Last)
      → MatchOption l (IsSeat a (node_at nodes a)) (λ l. (l.before < a) × IsBeyond ways (node_at nodes l.before) l.way (node_at nodes a))
      → (node_at nodes a).far % 2 ≡ 0
  last earlier None q = ap (λ z. z % 2) q.far
  last earlier (Some l) q =
      let one : (way_at ways l.way).length % 2 ≡ 0 = even l.way no_cross q.1.over.inside in
      omega (arith, earlier l.before q.0, one, q.1.far)
