-- Which reports have a text.
use Rattle.std.specs.Prelude.{◌+◌, ◌≡◌, ◌≤◌, ◌<◌, ℕ, true, List, length, Option, None, Some, IfSome}
use Rattle.std.specs.List.{AllByRecursion}
use Rattle.dpl_cell.specs.Ranges.{IsRectangle}
use Rattle.dpl_lex.specs.Name.{is_name}
use Rattle.dpl_sign.specs.declared.walks.Cycle.{Cycle}
use Rattle.dpl_options.specs.Options.{IsSplitLayer}
use Rattle.dpl_form.specs.Readers.{FitFrom}
use Rattle.dpl_report.specs.declared.marks.Broken.{Broken}
use Rattle.dpl_report.specs.declared.params.Params.{Params}
use Rattle.dpl_report.specs.declared.params.Counts.{Counts}
use Rattle.dpl_report.specs.Plain.{PlainZone, PlainHead, PlainLists, PlainReport}

-- a number of an edge or a fragment
abbrev pub IsIdentifier : ℕ → Type 0
IsIdentifier n = n ≤ 4294967295

-- a number of any other kind
abbrev pub IsCount : ℕ → Type 0
IsCount n = n ≤ 1000000000000

-- a name of a layer, and another where there is one
pub record AreNames (layer : List ℕ) (keep : Option (List ℕ)) : Type 0 where
  pub layer_is : is_name layer ≡ true
  pub keep_is : IfSome keep (λ name. is_name name ≡ true)

-- a keep layer stands behind a corner weight alone
abbrev pub AreMore : Option ℕ → Option (List ℕ) → Type 0
AreMore None keep = keep ≡ None
AreMore (Some corner) keep = IsCount corner × IfSome keep IsSplitLayer

pub record IsParams (p : Params) : Type 0 where
  pub layer : IsSplitLayer p.layer
  pub space : IsCount p.space
  pub overlap : IsCount p.overlap
  pub stitch : IsCount p.stitch
  pub conflict : IsCount p.conflict
  pub more : AreMore p.corner p.keep

pub record IsCounts (k : Counts) : Type 0 where
  pub pieces : IsCount k.pieces
  pub fragments : IsCount k.fragments
  pub bonds : IsCount k.bonds
  pub stitches : IsCount k.stitches
  pub clashes : IsCount k.clashes
  pub excess : IsCount k.excess

-- one mask for each fragment
pub record IsHead (h : PlainHead) : Type 0 where
  pub params : IsParams h.params
  pub counts : IsCounts h.counts
  pub cost : IsCount h.cost
  pub bound : IsCount h.bound
  pub colours : length h.colours ≡ h.counts.fragments

pub record IsBroken (at : Broken) : Type 0 where
  pub edge : IsIdentifier at.edge
  pub a : IsIdentifier at.a
  pub b : IsIdentifier at.b

pub record IsZone (z : PlainZone) : Type 0 where
  pub ends : IsBroken z.at
  pub corners : IsRectangle z.corners

-- a half weight of at least 1, and at least one edge
pub record IsCycle (c : Cycle) : Type 0 where
  pub some : 1 ≤ c.half
  pub half : IsCount c.half
  pub start : IsIdentifier c.walk.start
  pub edges : AllByRecursion IsIdentifier c.walk.edges
  pub not_empty : 0 < length c.walk.edges

-- such items, from an edge number on, ascending by edge and each edge once
abbrev pub CutFits : ℕ → PlainZone → Type 0
CutFits least z = (least ≤ z.at.edge) × IsZone z

abbrev pub ClashFits : ℕ → Broken → Type 0
ClashFits least b = (least ≤ b.edge) × IsBroken b

abbrev pub AsideFits : ℕ → ℕ → Type 0
AsideFits least e = (least ≤ e) × IsIdentifier e

pub record IsLists (l : PlainLists) : Type 0 where
  pub cuts : FitFrom CutFits (λ z. z.at.edge + 1) 0 l.cuts
  pub clashes : FitFrom ClashFits (λ b. b.edge + 1) 0 l.clashes
  pub aside : FitFrom AsideFits (λ e. e + 1) 0 l.aside
  pub cycles : AllByRecursion IsCycle l.cycles

pub record IsReport (r : PlainReport) : Type 0 where
  pub head : IsHead r.head
  pub lists : IsLists r.lists
  pub on_a : AllByRecursion IsRectangle r.on_a
  pub on_b : AllByRecursion IsRectangle r.on_b
