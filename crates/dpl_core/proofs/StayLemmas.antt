-- A report that breaks the same edges stays tight and the least.
use Rattle.std.proofs.Common.{arith, ◌≡◌, ◌+◌, ◌*◌, ◌<◌, ◌≤◌, ◌↔◌, ℕ, Bool, true, List, [], length, refl, sym, ap, subst, ◌∙◌}
use Rattle.std.specs.Prelude.{◌&&◌, is_some}
use Rattle.dpl_cycle.proofs.SumLemmas.{sum_same}
use Rattle.dpl_sign.specs.declared.nets.Net.{Net}
use Rattle.dpl_sign.specs.Colourings.{breaks}
use Rattle.dpl_sign.specs.Walks.{no_edge, edge_at}
use Rattle.dpl_sign.specs.Drawings.{face_count}
use Rattle.dpl_sign.specs.Excess.{excess, all_edges, is_aside}
use Rattle.dpl_report.specs.declared.reports.Report.{Report}
use Rattle.dpl_report.specs.Plain.{plain_report}
use Rattle.dpl_solve.specs.Named.{keeps, odd_faces}
use Rattle.dpl_solve.specs.Solved.{kept_cost, aside_cost, KeepToKept, PassOnce}
use Rattle.dpl_balance.specs.Balance.{BreakTheSame}
use Rattle.dpl_balance.specs.Rest.{IsRestOf}
use Rattle.dpl_core.specs.Reports.{IsTight, CostsLeast}

same_weight : (net : Net) (test : ℕ → Bool) (old new : List Bool) → BreakTheSame net old new → (e : ℕ)
    → e < length net.graph.edges
    → (test e && breaks new (edge_at net.graph e)) ≡ (test e && breaks old (edge_at net.graph e))
same_weight net test old new b e l = ap (λ t. test e && t) (b e no_edge l)

kept_same : (net : Net) (old new : List Bool) → BreakTheSame net old new → kept_cost net new ≡ kept_cost net old
kept_same net old new b = sum_same (length net.graph.edges) (λ e. keeps net e && breaks new (edge_at net.graph e))
    (λ e. keeps net e && breaks old (edge_at net.graph e)) (λ e. (edge_at net.graph e).weight)
    (λ e. (edge_at net.graph e).weight) (same_weight net (keeps net) old new b) (λ e l. refl)

aside_same : (net : Net) (old new : List Bool) → BreakTheSame net old new → aside_cost net new ≡ aside_cost net old
aside_same net old new b = sum_same (length net.graph.edges) (λ e. is_aside net e && breaks new (edge_at net.graph e))
    (λ e. is_aside net e && breaks old (edge_at net.graph e)) (λ e. (edge_at net.graph e).weight)
    (λ e. (edge_at net.graph e).weight) (same_weight net (is_aside net) old new b) (λ e l. refl)

-- a tight report stays tight with colours that break the same edges
pub still_tight : (net : Net) (old new : Report) → IsRestOf old new → BreakTheSame net old.colours new.colours
    → IsTight net (plain_report old) → IsTight net (plain_report new)
still_tight net old new r b t = record {
  corner = subst (λ p. is_some p.corner ≡ true) (sym r.params) t.corner;
  kept = subst (KeepToKept net) (sym r.cycles) t.kept;
  once = subst PassOnce (sym r.cycles) t.once;
  few = subst (λ z. length z ≤ face_count net (keeps net) + 2 * length (odd_faces net)) (sym r.cycles) t.few;
  tight = r.bound ∙ t.tight ∙ ap (λ k. 2 * k) (sym (kept_same net old.colours new.colours b));
  rest = r.cost ∙ t.rest ∙ ap (λ k. k + aside_cost net old.colours) (sym (kept_same net old.colours new.colours b)) ∙
      ap (λ k. kept_cost net new.colours + k) (sym (aside_same net old.colours new.colours b));
}

-- what the report's bound and cost say of all colourings stays true with colours that break the same edges
pub still_least : (net : Net) (old new : Report) → IsRestOf old new → BreakTheSame net old.colours new.colours
    → CostsLeast net (plain_report old).head old.aside → CostsLeast net (plain_report new).head new.aside
still_least net old new r b t = record {
  half = λ others k. let h = t.half others k in let e = r.bound in omega arith;
  kept = λ others k. let h = t.kept others k in let e = kept_same net old.colours new.colours b in omega arith;
  plane = let P : List ℕ → Type 0 = λ z. (z ≡ []) ↔ (excess net all_edges ≡ 0) in subst P (sym r.aside) t.plane;
  all = λ plane others k. let h = t.all plane others k in let e = r.cost in omega arith;
}
