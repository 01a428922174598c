-- One broken stitch more.
use Rattle.std.proofs.Common.{◌≡◌, ◌+◌, ◌<◌, length, get_or, drop, drop-cons, add-one, ℕ, Bool, true, false, List, [], ◌∷◌, ◌++◌, refl, ap, ◌∙◌, append_assoc}
use Rattle.dpl_sign.specs.declared.edges.Edge.{Edge}
use Rattle.dpl_report.specs.Plain.{PlainZone}
use Rattle.dpl_cuts.specs.declared.types.Cut.{Cut}
use Rattle.dpl_good.specs.Conditions.{where_zone, zone_here, is_broken_stitch, cuts_from, cuts_after}
use Rattle.dpl_cell.specs.Places.{corners_of}

where-append : (t : Bool) (z : PlainZone) (zs : List PlainZone) → where_zone t z [] ++ zs ≡ where_zone t z zs
where-append true z zs = refl
where-append false z zs = refl

here-append : (colours : List Bool) (e : ℕ) (edge : Edge) (cuts : List Cut) (zs : List PlainZone)
    → zone_here colours e edge cuts [] ++ zs ≡ zone_here colours e edge cuts zs
here-append colours e edge [] zs = refl
here-append colours e edge (cut ∷ cuts) zs = where-append (is_broken_stitch colours edge)
    (record { at = record { edge = e; a = edge.a; b = edge.b }; corners = corners_of cut.zone }) zs

-- a zone put at the end where its stitch is broken, and what follows it
pub one_zone : (front : List PlainZone) (colours : List Bool) (e : ℕ) (edge : Edge) (cuts : List Cut) (zs : List PlainZone)
    → (front ++ zone_here colours e edge cuts []) ++ zs ≡ front ++ zone_here colours e edge cuts zs
one_zone front colours e edge cuts zs = append_assoc front (zone_here colours e edge cuts []) zs ∙ ap (λ xs. front ++ xs) (here-append colours e edge cuts zs)

-- one edge more
pub one_edge : (front new : List PlainZone) (colours : List Bool) (e i : ℕ) (edges : List Edge) (edge : Edge) (left after : List Cut) (total : List PlainZone)
    → i < length edges → edge ≡ get_or edges i edge → new ≡ front ++ zone_here colours e edge left []
    → after ≡ cuts_after edge left → front ++ cuts_from colours e (drop i edges) left ≡ total
    → new ++ cuts_from colours (e + 1) (drop (i + 1) edges) after ≡ total
one_edge front new colours e i edges edge left after total l at n a h =
    let parts : drop i edges ≡ edge ∷ drop (i + 1) edges = rw (drop-cons edges i edge, ← at, add-one) refl in
    let k : front ++ zone_here colours e edge left (cuts_from colours (e + 1) (drop (i + 1) edges) (cuts_after edge left)) ≡ total = rw parts at h in
    rw (n, a) (one_zone front colours e edge left (cuts_from colours (e + 1) (drop (i + 1) edges) (cuts_after edge left)) ∙ k)
