use Rattle.std.proofs.Common.{arith, length}
use Rattle.std.proofs.lemmas.List.Sorted.{length_permutation}
use Rattle.dpl_links.proofs.GatherLemmas.{gathered_heads, more_clashes, settled_all, sorted_clashes}
use Rattle.dpl_links.proofs.linking.clashes_of.Goals as goal

pub returns-in-Err-clause-many : goal.returns-in-Err-clause-many
returns-in-Err-clause-many c = λ s pieces each e.
    more_clashes s pieces c.args.found.items c.args.room each (c.in-Err.ensures.many (let f = e in cc))

pub returns-in-Ok-clause-links : goal.returns-in-Ok-clause-links
returns-in-Ok-clause-links c = λ s pieces g.
    sorted_clashes s pieces c.in-Ok.links.items c.sort.new.links.items
    (settled_all s pieces (length s.rects) c.in-Ok.links.items (omega arith)
    (gathered_heads s pieces (length s.rects) c.args.found.items c.in-Ok.links.items g c.in-Ok.ensures.heads) c.in-Ok.ensures.heads.one)
    c.sort.ensures.same c.sort.ensures.sorted

pub returns-in-Ok-clause-few : goal.returns-in-Ok-clause-few
returns-in-Ok-clause-few c = rw (length_permutation _ _ c.sort.ensures.same) c.in-Ok.ensures.few
