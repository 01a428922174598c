use Rattle.std.proofs.Common.{◌≡◌, ◌++◌, drop, map, pos}
use Rattle.dpl_report.specs.ReportLines.{numbered}
use Rattle.dpl_report.proofs.writing.push_edges.Given as goal

abbrev pub invariant-loop-edge : goal.invariant-loop-edge
invariant-loop-edge l = l.out.items ++ numbered (map pos (drop l.edge-index l.edges)) l.end ≡ l.initial.out.items ++ numbered (map pos l.edges) l.end
