use Rattle.std.proofs.Common.{◌≡◌, ◌+◌, ◌≤◌, length}
use Rattle.dpl_rules.specs.Forms.{comment_of}
use Rattle.dpl_rules.proofs.forms.comment.Given as goal

abbrev pub invariant-bytes : goal.invariant-bytes
invariant-bytes l =
    record {
      read : comment_of l.depth l.rest ≡ comment_of 0 l.bytes;
      small : l.depth + length l.rest ≤ length l.bytes;
    }

abbrev pub decreases-bytes : goal.decreases-bytes
decreases-bytes l = length l.rest
