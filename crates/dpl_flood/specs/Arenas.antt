-- Chains from the seats of members, kept for good: each is the chain of an earlier node and one way more.
use Rattle.std.specs.Prelude.{◌≡◌, ℕ, zero, suc, ◌+◌, ◌<◌, List, [], ◌∷◌, ◌++◌, length, map, reverse, slice_index_or, Option, Some, None, MatchOption, All}
use Rattle.dpl_dual.specs.declared.crosses.Cross.{Cross}
use Rattle.dpl_dual.specs.Chains.{IsAt, beyond}
use Rattle.dpl_dual.specs.Duals.{way_at}
use Rattle.dpl_flood.specs.declared.nodes.Last.{Last}
use Rattle.dpl_flood.specs.declared.nodes.Node.{Node}
use Rattle.dpl_flood.specs.declared.nodes.Join.{Join}

-- what stands where there is no node
abbrev pub no_node : Node
no_node = record { last = None; face = 0; member = 0; far = 0 }

abbrev pub node_at : List Node → ℕ → Node
node_at nodes a = slice_index_or nodes a no_node

-- the face where a member has its seat, which its first node has
abbrev pub seat_of : List Node → ℕ → ℕ
seat_of nodes t = (node_at nodes t).face

-- what leads to the node before, and then the last way
abbrev pub and_last : List Cross → (ℕ → List Cross) → Option Last → List Cross
and_last ways chain None = []
and_last ways chain (Some l) = chain l.before ++ way_at ways l.way ∷ []

-- the last ways, so many at most, on the chain to a node, in their order
abbrev pub chain_by : List Cross → List Node → ℕ → ℕ → List Cross
chain_by ways nodes zero a = []
chain_by ways nodes (suc n) a = and_last ways (chain_by ways nodes n) (node_at nodes a).last

-- the chain to a node from the seat of its member: a node before has a smaller number, so there are no more ways than that
abbrev pub chain_of : List Cross → List Node → ℕ → List Cross
chain_of ways nodes a = chain_by ways nodes a a

-- a way leads from one face to another
pub record IsOver (ways : List Cross) (f w h : ℕ) : Type 0 where
  pub inside : w < length ways
  pub at : IsAt (way_at ways w) f
  pub leads : beyond (way_at ways w) f ≡ h

-- a node is one way beyond another one
pub record IsBeyond (ways : List Cross) (b : Node) (w : ℕ) (x : Node) : Type 0 where
  pub over : IsOver ways b.face w x.face
  pub member : x.member ≡ b.member
  pub far : x.far ≡ b.far + (way_at ways w).length

-- it is the first of its member
pub record IsSeat (a : ℕ) (x : Node) : Type 0 where
  pub member : x.member ≡ a
  pub far : x.far ≡ 0

-- a node stands at its seat, or one way beyond an earlier node
abbrev pub IsNode : List Cross → List Node → ℕ → Type 0
IsNode ways nodes a = MatchOption (node_at nodes a).last (IsSeat a (node_at nodes a))
    (λ l. (l.before < a) × IsBeyond ways (node_at nodes l.before) l.way (node_at nodes a))

abbrev pub AreNodes : List Cross → List Node → Type 0
AreNodes ways nodes = (a : ℕ) → a < length nodes → IsNode ways nodes a

-- nodes were added, and those before stay
abbrev pub IsLonger : List Node → List Node → Type 0
IsLonger old new = (more : List Node) × (new ≡ old ++ more)

-- a node at a face, whose chain is that of a member and so long
pub record IsThere (nodes : List Node) (a f t long : ℕ) : Type 0 where
  pub inside : a < length nodes
  pub face : (node_at nodes a).face ≡ f
  pub member : (node_at nodes a).member ≡ t
  pub far : (node_at nodes a).far ≡ long

-- ---- joins

pub record IsJoin (ways : List Cross) (nodes : List Node) (j : Join) : Type 0 where
  pub first : j.first < length nodes
  pub second : j.second < length nodes
  pub over : IsOver ways (node_at nodes j.first).face j.way (node_at nodes j.second).face

-- the members from whose seats it leads, one to the other
abbrev pub start_of : List Node → Join → ℕ
start_of nodes j = (node_at nodes j.first).member

abbrev pub end_of : List Node → Join → ℕ
end_of nodes j = (node_at nodes j.second).member

abbrev pub join_chain : List Cross → List Node → Join → List Cross
join_chain ways nodes j = chain_of ways nodes j.first ++ way_at ways j.way ∷ reverse (chain_of ways nodes j.second)

abbrev pub join_length : List Cross → List Node → Join → ℕ
join_length ways nodes j = (node_at nodes j.first).far + (way_at ways j.way).length + (node_at nodes j.second).far

-- the same from the other end
abbrev pub turned : Join → Join
turned j = record { first = j.second; way = j.way; second = j.first }

-- a join that leads between the same seats and is as long, whose first node is at its seat
pub record IsDrawn (ways : List Cross) (old new : List Node) (x j : Join) : Type 0 where
  pub join : IsJoin ways new j
  pub seat : j.first ≡ start_of old x
  pub first : (node_at new j.first).far ≡ 0
  pub end : end_of new j ≡ end_of old x
  pub long : join_length ways new j ≡ join_length ways old x

-- two joins, of which the second one begins at the seat where the first one ends, as one
pub record IsThrough (ways : List Cross) (old new : List Node) (x y j : Join) : Type 0 where
  pub join : IsJoin ways new j
  pub start : start_of new j ≡ start_of old x
  pub end : end_of new j ≡ end_of old y
  pub long : join_length ways new j ≡ join_length ways old x + join_length ways old y

-- while it is drawn: the join so far
pub record IsDrawing (ways : List Cross) (old new : List Node) (x j : Join) : Type 0 where
  pub nodes : AreNodes ways new
  pub longer : IsLonger old new
  pub join : IsJoin ways new j
  pub start : start_of new j ≡ start_of old x
  pub end : end_of new j ≡ end_of old x
  pub long : join_length ways new j ≡ join_length ways old x

-- while the ways of a chain are listed back from its end: those that are left
pub record IsBacking (ways : List Cross) (nodes : List Node) (old out : List ℕ) (a here : ℕ) : Type 0 where
  pub inside : here < length nodes
  pub left : map (way_at ways) out ++ reverse (chain_of ways nodes here) ≡ map (way_at ways) old ++ reverse (chain_of ways nodes a)
  pub numbers : All (λ w. w < length ways) old → All (λ w. w < length ways) out
