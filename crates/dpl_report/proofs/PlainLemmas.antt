-- Reports that say the same are the same.
use Rattle.std.proofs.Common.{◌≡◌, List, refl, ap, ◌∙◌}
use Rattle.dpl_cell.specs.declared.rect.Rect.{Rect}
use Rattle.dpl_cell.specs.Places.{corners_of}
use Rattle.dpl_cell.proofs.Same.{same_corners}
use Rattle.dpl_report.specs.declared.marks.Broken.{Broken}
use Rattle.dpl_report.specs.declared.marks.Zone.{Zone}
use Rattle.dpl_report.specs.declared.reports.Report.{Report}
use Rattle.dpl_report.specs.Plain.{PlainZone, PlainReport, plain_zone, plain_report}
use Rattle.dpl_list.proofs.Ordered.{maps_same}

zone_with : Broken → Rect → Zone
zone_with b r = record { at = b; rect = r }

same_zone : (a b : Zone) → plain_zone a ≡ plain_zone b → a ≡ b
unfolding zone_with
same_zone a b e =
    let ends = ap (λ (z : PlainZone). z.at) e in
    let rects = same_corners a.rect b.rect (ap (λ (z : PlainZone). z.corners) e) in
    let h : zone_with a.at a.rect ≡ zone_with b.at b.rect = rw (ends, rects) refl in
    h

report_with : PlainReport → List Zone → List Rect → List Rect → Report
report_with p cuts on_a on_b = record {
  params = p.head.params;
  counts = p.head.counts;
  cost = p.head.cost;
  bound = p.head.bound;
  colours = p.head.colours;
  cuts = cuts;
  clashes = p.lists.clashes;
  aside = p.lists.aside;
  cycles = p.lists.cycles;
  on_a = on_a;
  on_b = on_b;
}

-- reports that say the same are the same
pub same_report : (r s : Report) → plain_report r ≡ plain_report s → r ≡ s
unfolding report_with
same_report r s e =
    let cuts = maps_same plain_zone same_zone r.cuts s.cuts (ap (λ (p : PlainReport). p.lists.cuts) e) in
    let on_a = maps_same corners_of same_corners r.on_a s.on_a (ap (λ (p : PlainReport). p.on_a) e) in
    let on_b = maps_same corners_of same_corners r.on_b s.on_b (ap (λ (p : PlainReport). p.on_b) e) in
    ap (λ (p : PlainReport). report_with p r.cuts r.on_a r.on_b) e ∙ ap (λ (c : List Zone). report_with (plain_report s) c r.on_a r.on_b) cuts
    ∙ ap (λ (b : List Rect). report_with (plain_report s) s.cuts b r.on_b) on_a ∙ ap (λ (b : List Rect). report_with (plain_report s) s.cuts s.on_a b) on_b
