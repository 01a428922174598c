-- What two members have in common: a join between their seats, one for an unordered pair.
use Rattle.std.specs.Prelude.{◌≡◌, ◌≢◌, ℕ, ◌+◌, ◌<◌, ◌⊎◌, ◌&&◌, ◌==◌, Bool, Option, Some, List, length, option_map, slice_index, if◌then◌else◌, nat_lt}
use Rattle.std.specs.Option.{option_map_or}
use Rattle.std.specs.Map.{lookup}
use Rattle.dpl_laminar.specs.Families.{Sets, load_of}
use Rattle.dpl_dual.specs.declared.crosses.Cross.{Cross}
use Rattle.dpl_flood.specs.declared.nodes.Node.{Node}
use Rattle.dpl_flood.specs.declared.nodes.Join.{Join}
use Rattle.dpl_flood.specs.Arenas.{IsJoin, start_of, end_of, turned, seat_of, join_length}

-- members and the join from the first to the second one, the smaller member first
abbrev pub Entries : Type 0
Entries = List ((ℕ × ℕ) × Join)

abbrev pub is_pair : ℕ × ℕ → ℕ × ℕ → Bool
is_pair p q = (p.0 == q.0) && (p.1 == q.1)

-- the join from one member to another: the entry is turned where the first one is the greater
abbrev pub join_at : Entries → ℕ → ℕ → Option Join
join_at joins a b =
    if nat_lt b a then option_map turned (lookup (is_pair (b, a)) joins)
    else lookup (is_pair (a, b)) joins

-- a join leads from the seat of one member to that of another
pub record IsBetween (ways : List Cross) (nodes : List Node) (a b : ℕ) (j : Join) : Type 0 where
  pub join : IsJoin ways nodes j
  pub start : start_of nodes j ≡ a
  pub end : end_of nodes j ≡ b

-- what two members have leads between their seats
abbrev pub AreJoins : List Cross → List Node → Entries → Type 0
AreJoins ways nodes joins = (a b : ℕ) (j : Join) → join_at joins a b ≡ Some j → IsBetween ways nodes a b j

-- how far two members are: their join if they have one, else more than their load, so that it is not tight
abbrev pub dist_in : List Cross → List Node → Entries → Sets → ℕ → ℕ → ℕ
dist_in ways nodes joins f a b = option_map_or (join_length ways nodes) (join_at joins a b) (load_of f a b + 1)

-- the node of each member that has its number stands at its seat
abbrev pub HaveSeats : List Node → List ℕ → Type 0
HaveSeats nodes seats = (t : ℕ) → t < length seats → (t < length nodes) × (seat_of nodes t ≡ slice_index seats t)

-- a join of two members, as long as their load
pub record IsTied (ways : List Cross) (nodes : List Node) (joins : Entries) (f : Sets) (a b : ℕ) : Type 0 where
  pub join : Join
  pub there : join_at joins a b ≡ Some join
  pub long : join_length ways nodes join ≡ load_of f a b

-- two members have a join, and what all others have stays
pub record IsNoted (old new : Entries) (a b : ℕ) (j : Join) : Type 0 where
  pub there : join_at new a b ≡ Some j
  pub back : join_at new b a ≡ Some (turned j)
  pub others : (c d : ℕ) → (c ≢ a) ⊎ (d ≢ b) → (c ≢ b) ⊎ (d ≢ a) → join_at new c d ≡ join_at old c d
