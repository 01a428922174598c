-- Odd walks around moats as they are laid.
use Rattle.std.specs.Prelude.{◌≡◌, ℕ, ◌%◌, ◌<◌, ◌≤◌, ◌==◌, Bool, List, [], ◌∷◌, ◌++◌, length, take, slice_index, slice_index_or, count_by, All}
use Rattle.dpl_sign.specs.declared.graphs.Signed.{Signed}
use Rattle.dpl_sign.specs.declared.walks.Cycle.{Cycle}
use Rattle.dpl_sign.specs.declared.walks.Walk.{Walk}
use Rattle.dpl_sign.specs.Walks.{IsOddWalk}
use Rattle.dpl_map.specs.Views.{MapView, view_of}
use Rattle.dpl_map.specs.Built.{IsMapOf}
use Rattle.dpl_laminar.specs.Families.{has}
use Rattle.dpl_pack.specs.declared.moat.Moat.{Moat}
use Rattle.dpl_pack.specs.declared.laid.Level.{Level}
use Rattle.dpl_pack.specs.declared.walks.Around.{Around}
use Rattle.dpl_pack.specs.declared.rounds.Course.{Course}
use Rattle.dpl_pack.specs.Moats.{IsWritten}
use Rattle.dpl_pack.specs.Laid.{up_to, moats_of, AreLaid}
use Rattle.dpl_pack.specs.Traces.{Leaves, AreWhole, AreSearched, IsRoundWalk, odd_list}

-- an odd walk over edges that leave the moat, each passed once, with the moat's half weight
pub record IsRoundMoat (g : Signed) (m : MapView) (moat : Moat) (c : Cycle) : Type 0 where
  pub half : c.half ≡ moat.half
  pub odd : IsOddWalk g c.walk
  pub leaves : All (Leaves m moat.faces) c.walk.edges
  pub once : (e : ℕ) → count_by (λ x. x == e) c.walk.edges ≤ 1

-- one around each
abbrev pub AreRound : Signed → MapView → List Moat → List Cycle → Type 0
AreRound g m [] [] = Unit {0}
AreRound g m (moat ∷ ms) (c ∷ cs) = IsRoundMoat g m moat c × AreRound g m ms cs
AreRound g m [] (c ∷ cs) = ⊥
AreRound g m (moat ∷ ms) [] = ⊥

-- walks have been put round some moats
pub record AreGoing (g : Signed) (m : MapView) (moats : List Moat)
    (old new : List Cycle) : Type 0 where
  pub done : List Cycle
  pub cycles : new ≡ old ++ done
  pub round : AreRound g m moats done

-- the faces of a moat, among those near its set
abbrev pub enclosed : Around → List ℕ
enclosed a = up_to a.level a.faces.now a.depths.now

-- the faces of a moat are marked, and no others
pub record IsMarked (a : Around) : Type 0 where
  pub map : IsMapOf a.graph.now a.map.now
  pub places : length a.inside.now ≡ (view_of a.map.now).faces
  pub sizes : length a.depths.now ≡ length a.faces.now
  pub below : All (λ f. f < (view_of a.map.now).faces) (enclosed a)
  pub written : IsWritten (enclosed a) a.inside.now

-- the darts seen are whole walks along its border
abbrev pub AreWholeAround : Around → List Bool → Type 0
AreWholeAround a seen = AreWhole a.graph.now (view_of a.map.now) a.inside.now seen

-- those of these faces are seen, and the walks found so far are even
abbrev pub AreSearchedAround : Around → List Bool → List ℕ → Type 0
AreSearchedAround a seen faces = AreSearched a.graph.now (view_of a.map.now) a.inside.now seen faces

-- whatever was searched before, the near face at a place is searched too, if it is of the moat
abbrev pub IsSearchedAt : Around → ℕ → List Bool → List Bool → Type 0
IsSearchedAt a i old new = (faces : List ℕ) → AreSearchedAround a old faces → AreSearchedAround a new
    (faces ++ up_to a.level (slice_index a.faces.now i ∷ []) (slice_index a.depths.now i ∷ []))

-- an odd walk along its border
abbrev pub IsWalkAround : Around → Walk → Type 0
IsWalkAround a w = IsRoundWalk a.graph.now (view_of a.map.now) a.inside.now w

-- stands where there is no level
abbrev pub no_level : Level
no_level = record { place = 0; most = 0; half = 0 }

abbrev pub level_at : List Level → ℕ → Level
level_at levels i = slice_index_or levels i no_level

abbrev pub moats_on : Course → List Moat
moats_on c = moats_of c.sets.now c.levels.now

-- moats of a map with an odd number of odd faces each
pub record IsCourse (c : Course) : Type 0 where
  pub map : IsMapOf c.graph.now c.map.now
  pub laid : AreLaid c.sets.now c.levels.now
  pub below : All (λ m. All (λ f. f < (view_of c.map.now).faces) m.faces) (moats_on c)
  pub odd : All (λ m. count_by (has m.faces) (odd_list c.graph.now (view_of c.map.now)) % 2 ≡ 1)
      (moats_on c)

-- walks have been put round the moats before a place
abbrev pub IsGoneTo : Course → ℕ → List Cycle → List Cycle → Type 0
IsGoneTo c i old new = AreGoing c.graph.now (view_of c.map.now) (take i (moats_on c)) old new

-- levels that stand in a row, round one set, and none less than one before
pub record IsRun (levels : List Level) (from to : ℕ) : Type 0 where
  pub more : from < to
  pub within : to ≤ length levels
  pub place : (i : ℕ) → from ≤ i → i < to → (level_at levels i).place
      ≡ (level_at levels from).place
  pub ascending : (i j : ℕ) → from ≤ i → i ≤ j → j < to → (level_at levels i).most
      ≤ (level_at levels j).most
