use Rattle.std.proofs.Common.{◌≡◌, ◌+◌, ◌≤◌, ℕ, List, ◌++◌, length, take}
use Rattle.dpl_lex.specs.Cutting.{cut, after, IsNoDeeper}
use Rattle.dpl_lex.proofs.cutting.pass.Given as goal

abbrev pub invariant-bytes : goal.invariant-bytes
invariant-bytes l =
    record {
      cut : (more : List ℕ) → after l.spans.items (cut l.place l.at (l.rest ++ more)) ≡ after l.fn.spans.items (cut l.fn.place l.fn.at (l.fn.piece ++ more));
      shallow : IsNoDeeper l.at l.place;
      passed : l.at + length l.rest ≡ l.fn.at + length l.fn.piece;
      longer : length l.fn.spans.items ≤ length l.spans.items;
      kept : take (length l.fn.spans.items) l.spans.items ≡ l.fn.spans.items;
    }

abbrev pub decreases-bytes : goal.decreases-bytes
decreases-bytes l = length l.rest

abbrev pub invariant-within : goal.invariant-within
invariant-within l =
    record {
      cut : (more : List ℕ) → after l.spans.items (cut l.place l.at (l.rest ++ more)) ≡ after l.fn.spans.items (cut l.fn.place l.fn.at (l.fn.piece ++ more));
      shallow : IsNoDeeper l.at l.place;
      passed : l.at + length l.rest ≡ l.fn.at + length l.fn.piece;
      longer : length l.fn.spans.items ≤ length l.spans.items;
      kept : take (length l.fn.spans.items) l.spans.items ≡ l.fn.spans.items;
      behind : l.behind ≤ l.at;
    }

abbrev pub decreases-within : goal.decreases-within
decreases-within l = length l.rest
