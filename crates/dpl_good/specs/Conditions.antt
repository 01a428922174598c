-- The conditions of a good report, each as the first place at which it fails.
use Rattle.std.specs.Prelude.{◌≡◌, ℕ, ◌+◌, ◌*◌, ℤ, pos, ◌==◌, ◌||◌, ◌&&◌, nat_lt, Bool, true, false, not, List, [], ◌∷◌, ◌++◌, length, Option, None, Some, if◌then◌else◌}
use Rattle.dpl_cell.specs.Places.{Corners, corners_of}
use Rattle.dpl_rules.specs.Readers.{or_else}
use Rattle.dpl_sign.specs.declared.edges.Kind.{Kind}
use Rattle.dpl_sign.specs.declared.edges.Edge.{Edge}
use Rattle.dpl_sign.specs.declared.graphs.Signed.{Signed}
use Rattle.dpl_sign.specs.declared.nets.Net.{Net}
use Rattle.dpl_sign.specs.declared.walks.Cycle.{Cycle}
use Rattle.dpl_sign.specs.Kinds.{is_bond, is_clash}
use Rattle.dpl_sign.specs.Walks.{edge_at, across, leaves}
use Rattle.dpl_sign.specs.Colourings.{agree, colour_of, breaks, cost_of}
use Rattle.dpl_sign.specs.Packings.{load, passages, bound_of}
use Rattle.dpl_report.specs.declared.marks.Broken.{Broken}
use Rattle.dpl_report.specs.declared.params.Params.{Params}
use Rattle.dpl_report.specs.declared.params.Counts.{Counts}
use Rattle.dpl_report.specs.Plain.{PlainZone, PlainReport}
use Rattle.dpl_cuts.specs.declared.types.Cut.{Cut}
use Rattle.dpl_cuts.specs.declared.types.Fragments.{Fragments}
use Rattle.dpl_options.specs.Options.{PlainOptions, name_or_nothing}
use Rattle.dpl_good.specs.declared.refusals.Miss.{Miss}
use Rattle.dpl_good.specs.Misses.{miss, number_miss, name_miss, numbers_miss}

-- ---- 2: lines 2 to 6, and 16 and 17 where they are there, are the options' values

-- the weight of a clash between corners: without a line of its own that of every clash
abbrev pub corner_weight : Option ℕ → ℕ → ℕ
corner_weight None conflict = conflict
corner_weight (Some corner) conflict = corner

-- the corner weight and the keep layer
abbrev pub more_miss : Params → PlainOptions → Option Miss
more_miss p o = or_else (number_miss 16 (corner_weight p.corner p.conflict) o.weights.corner)
    (name_miss 17 (name_or_nothing p.keep) (name_or_nothing o.keep))

abbrev pub params_miss : Params → PlainOptions → Option Miss
params_miss p o =
    or_else (name_miss 2 p.layer o.layer) (or_else (number_miss 3 p.space o.space)
    (or_else (number_miss 4 p.overlap o.overlap)
    (or_else (number_miss 5 p.stitch o.weights.stitch)
    (or_else (number_miss 6 p.conflict o.weights.conflict) (more_miss p o)))))

-- The values are those that the options ask for.
pub record AreAsked (p : Params) (o : PlainOptions) : Type 0 where
  pub layer : p.layer ≡ o.layer
  pub space : p.space ≡ o.space
  pub overlap : p.overlap ≡ o.overlap
  pub stitch : p.stitch ≡ o.weights.stitch
  pub conflict : p.conflict ≡ o.weights.conflict
  pub corner : corner_weight p.corner p.conflict ≡ o.weights.corner
  pub keep : p.keep ≡ o.keep

-- the values that a new report has
abbrev pub params_of_options : PlainOptions → Params
params_of_options o = record {
  layer = o.layer;
  space = o.space;
  overlap = o.overlap;
  stitch =
      o.weights.stitch;
  conflict = o.weights.conflict;
  corner = Some o.weights.corner;
  keep = o.keep;
}

-- ---- 3: lines 7 to 12 are the counts of the layout

abbrev pub counts_miss : Counts → Counts → Option Miss
counts_miss k w =
    or_else (number_miss 7 k.pieces w.pieces) (or_else (number_miss 8 k.fragments w.fragments)
    (or_else (number_miss 9 k.bonds w.bonds)
    (or_else (number_miss 10 k.stitches w.stitches)
    (or_else (number_miss 11 k.clashes w.clashes) (number_miss 12 k.excess w.excess)))))

-- ---- 4: the ends of each bond have the same mask

-- 0 for A and 1 for B
abbrev pub mask_number : Bool → ℤ
mask_number on_b = if on_b then pos 1 else pos 0

abbrev pub bond_miss : List Bool → ℕ → Edge → Option Miss
bond_miss colours e edge =
    if is_bond edge.kind && not (agree (colour_of colours edge.a) (colour_of colours edge.b))
    then Some (miss e (mask_number (colour_of colours edge.b))
    (mask_number (colour_of colours edge.a))) else None

-- of the edges from a number on
abbrev pub bonds_miss : List Bool → ℕ → List Edge → Option Miss
bonds_miss colours e [] = None
bonds_miss colours e (edge ∷ edges) =
    or_else (bond_miss colours e edge) (bonds_miss colours (e + 1) edges)

-- ---- 5 and 6: lines are exactly the edges that they have to list

-- the edge of a line that is not wanted, or of an edge that is not listed
abbrev pub edge_miss : ℕ → ℕ → Option Miss
edge_miss x w = if nat_lt x w then Some (miss x (pos 1) (pos 0))
    else (if nat_lt w x then Some (miss w (pos 0) (pos 1)) else None)

-- Two ascending lists, seen by the edge: the least edge that differs. An edge that is listed and not wanted is found 1 and wanted 0,
-- one that is wanted and not listed is found 0 and wanted 1, and one that is both differs where its two lines do.
abbrev pub lists_miss : {X : Type 0} → (X → ℕ) → (X → X → Option Miss) → List X → List X →
    Option Miss
lists_miss edge line_miss [] [] = None
lists_miss edge line_miss [] (w ∷ ws) = Some (miss (edge w) (pos 0) (pos 1))
lists_miss edge line_miss (x ∷ xs) [] = Some (miss (edge x) (pos 1) (pos 0))
lists_miss edge line_miss (x ∷ xs) (w ∷ ws) =
    or_else (edge_miss (edge x) (edge w)) (or_else (line_miss x w)
    (lists_miss edge line_miss xs ws))

abbrev pub is_broken_clash : List Bool → Edge → Bool
is_broken_clash colours edge = is_clash edge.kind && breaks colours edge

abbrev pub where_broken : Bool → Broken → List Broken → List Broken
where_broken holds b bs = if holds then b ∷ bs else bs

-- the broken clashes with their ends, smaller first
abbrev pub clashes_from : List Bool → ℕ → List Edge → List Broken
clashes_from colours e [] = []
clashes_from colours e (edge ∷ edges) =
    where_broken (is_broken_clash colours edge) (record {
      edge = e;
      a = edge.a;
      b =
          edge.b;
    }) (clashes_from colours (e + 1) edges)

abbrev pub is_stitch : Edge → Bool
is_stitch edge = not (is_bond edge.kind || is_clash edge.kind)

abbrev pub is_broken_stitch : List Bool → Edge → Bool
is_broken_stitch colours edge = is_stitch edge && breaks colours edge

abbrev pub where_zone : Bool → PlainZone → List PlainZone → List PlainZone
where_zone holds z zs = if holds then z ∷ zs else zs

-- the cuts behind an edge: a stitch takes the next one
abbrev pub cuts_after : Edge → List Cut → List Cut
cuts_after edge [] = []
cuts_after edge (cut ∷ cuts) = if is_stitch edge then cuts else cut ∷ cuts

-- an edge with the zone of the next cut, where it is a broken stitch
abbrev pub zone_here : List Bool → ℕ → Edge → List Cut → List PlainZone → List PlainZone
zone_here colours e edge [] others = others
zone_here colours e edge (cut ∷ cuts) others =
    where_zone (is_broken_stitch colours edge) (record {
      at =
          record { edge = e; a = edge.a; b = edge.b };
      corners = corners_of cut.zone;
    }) others

-- The broken stitches with their ends and zones. The stitches stand in the order of the cuts.
abbrev pub cuts_from : List Bool → ℕ → List Edge → List Cut → List PlainZone
cuts_from colours e [] cuts = []
cuts_from colours e (edge ∷ edges) cuts =
    zone_here colours e edge cuts (cuts_from colours (e + 1) edges (cuts_after edge cuts))

abbrev pub ends_numbers : Broken → List ℤ
ends_numbers b = pos b.a ∷ pos b.b ∷ []

abbrev pub corner_numbers : Corners → List ℤ
corner_numbers c = c.x1 ∷ c.y1 ∷ c.x2 ∷ c.y2 ∷ []

-- of two lines of one edge the first numbers that differ
abbrev pub ends_miss : Broken → Broken → Option Miss
ends_miss b w = numbers_miss b.edge (ends_numbers b) (ends_numbers w)

abbrev pub zone_miss : PlainZone → PlainZone → Option Miss
zone_miss z w = or_else (ends_miss z.at w.at) (numbers_miss z.at.edge (corner_numbers z.corners)
    (corner_numbers w.corners))

abbrev pub cut_lines_miss : List PlainZone → List PlainZone → Option Miss
cut_lines_miss listed wanted = lists_miss (λ z. z.at.edge) zone_miss listed wanted

abbrev pub clash_lines_miss : List Broken → List Broken → Option Miss
clash_lines_miss listed wanted = lists_miss (λ b. b.edge) ends_miss listed wanted

-- line 13 is the cost
abbrev pub cost_miss : Net → ℕ → List Bool → Option Miss
cost_miss net cost colours = number_miss (length net.graph.edges) cost (cost_of net.graph colours)

abbrev pub broken_miss : Fragments → Net → PlainReport → Option Miss
broken_miss f net r =
    or_else (cut_lines_miss r.lists.cuts (cuts_from r.head.colours 0 net.graph.edges f.cuts))
    (or_else (clash_lines_miss r.lists.clashes (clashes_from r.head.colours 0 net.graph.edges))
    (cost_miss net r.head.cost r.head.colours))

abbrev pub aside_miss : List ℕ → List ℕ → Option Miss
aside_miss listed wanted = lists_miss (λ e. e) (λ e w. None) listed wanted

-- ---- 7: each cycle line is an odd walk from its start

-- Where a walk ends: one past the last place where it is empty or does not end at its start, and else that it passes clashes an even number of times.
abbrev pub miss_at_end : Bool → Bool → Bool → ℕ → ℕ → Option Miss
miss_at_end empty closed odd cycle place = if empty || not closed
    then Some (miss cycle (pos place) (pos 0))
    else (if odd then None else Some (miss cycle (pos 0) (pos 1)))

abbrev pub end_miss : ℕ → ℕ → ℕ → ℕ → Bool → Option Miss
end_miss cycle start place v odd = miss_at_end (place == 1) (v == start) odd cycle place

-- the node is one of the ends
abbrev pub meets : Edge → ℕ → Bool
meets edge v = (edge.a == v) || (edge.b == v)

-- an odd number of clashes so far, with one edge more
abbrev pub parity_after : Kind → Bool → Bool
parity_after kind odd = not (agree (is_clash kind) odd)

-- Of the walk from v on, whose next place is this: the first edge that does not leave its node, and else what its end says.
abbrev pub walk_miss : Signed → ℕ → ℕ → List ℕ → ℕ → ℕ → Bool → Option Miss
walk_miss g cycle start [] place v odd = end_miss cycle start place v odd
walk_miss g cycle start (e ∷ es) place v odd =
    elim (leaves g e v) [
      | true ↦ walk_miss g cycle start es (place
          + 1) (across (edge_at g e) v) (parity_after (edge_at g e).kind odd)
      | false ↦ Some (miss cycle (pos place) (pos 0))
    ]

abbrev pub walks_miss : Signed → ℕ → List Cycle → Option Miss
walks_miss g cycle [] = None
walks_miss g cycle (c ∷ cs) =
    or_else (walk_miss g cycle c.walk.start c.walk.edges 1 c.walk.start false) (walks_miss g (cycle
    + 1) cs)

-- ---- 8: nothing is loaded beyond twice its weight, and the half weights sum to the bound

-- the first passage after which its edge, that is no bond, is loaded too much
abbrev pub loads_miss : Signed → List (ℕ × ℕ) → List (ℕ × ℕ) → Option Miss
loads_miss g before [] = None
loads_miss g before (p ∷ ps) =
    let carried = load before p.0 + p.1 in
    let limit = 2 * (edge_at g p.0).weight in
    or_else (if not (is_bond (edge_at g p.0).kind) && nat_lt limit carried
    then Some (miss p.0 (pos carried) (pos limit)) else None) (loads_miss g (before ++ p ∷ []) ps)

abbrev pub packing_miss : Signed → ℕ → List Cycle → Option Miss
packing_miss g bound cs =
    or_else (loads_miss g [] (passages cs)) (number_miss (length g.edges) (bound_of cs) bound)

-- ---- 9: the boxes of each mask are those of the colouring, in order

abbrev pub boxes_miss : ℕ → List Corners → List Corners → Option Miss
boxes_miss place [] ws = None
boxes_miss place (x ∷ xs) [] = None
boxes_miss place (x ∷ xs) (w ∷ ws) =
    or_else (numbers_miss place (corner_numbers x) (corner_numbers w)) (boxes_miss (place
    + 1) xs ws)

-- the counts of A and of B, and then the boxes, whose places go on from A to B
abbrev pub drawing_miss : List Corners → List Corners → List Corners → List Corners → Option Miss
drawing_miss on_a on_b wanted_a wanted_b =
    or_else (number_miss 4294967296 (length on_a) (length wanted_a))
    (or_else (number_miss 4294967297 (length on_b) (length wanted_b))
    (or_else (boxes_miss 0 on_a wanted_a) (boxes_miss (length on_a) on_b wanted_b)))
