-- A single that has come to nothing lies between two members of tops that grow, and these are tight through its seat.
use Rattle.std.specs.Prelude.{◌≡◌, ℕ, ◌+◌}
use Rattle.dpl_laminar.specs.Families.{load_of}
use Rattle.dpl_laminar.specs.Storing.{sets_of}
use Rattle.dpl_dual.specs.declared.crosses.Dual.{Dual}
use Rattle.dpl_tree.specs.steps.Forests.{IsPair, outer}
use Rattle.dpl_flood.specs.declared.state.State.{State}
use Rattle.dpl_flood.specs.Forested.{IsTied, dist_of, trees_of}
use Rattle.dpl_flood.specs.States.{sea_of}

-- the members on both sides of a single, in one tree: each is tight to it, and what lies between them has no value
pub record AreSides (d : Dual) (x : State) (single : ℕ) (p : ℕ × ℕ) : Type 0 where
  pub pair : IsPair (sets_of x.family).size (sets_of x.family) (trees_of x).place outer p.0 p.1
  pub same : (trees_of x).tree ((sets_of x.family).top p.0) ≡ (trees_of x).tree ((sets_of x.family).top p.1)
  pub first : load_of (sets_of x.family) p.0 single ≡ dist_of d x p.0 single
  pub second : load_of (sets_of x.family) single p.1 ≡ dist_of d x single p.1
  pub between : load_of (sets_of x.family) p.0 single + load_of (sets_of x.family) single p.1 ≡ load_of (sets_of x.family) p.0 p.1

-- What they have through its seat is noted: they are tight by the joins that members have now. Chains may have been added,
-- and nothing else is new.
pub record HasTiedThrough (d : Dual) (x y : State) (p : ℕ × ℕ) : Type 0 where
  pub tied : IsTied d y p
  pub rest : y ≡ record x { arena = y.arena; joins = y.joins }
  pub sea : sea_of y ≡ sea_of x
