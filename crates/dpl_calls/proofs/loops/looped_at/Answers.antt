use Rattle.std.proofs.Common.{All, subst, arith}
use Rattle.dpl_calls.specs.declared.entry.Entry.{Entry}
use Rattle.dpl_calls.specs.declared.entry.Entry.TheVariants.{Called}
use Rattle.dpl_calls.specs.Table.{bodies_of}
use Rattle.dpl_calls.specs.Found.{IsSite, call_in}
use Rattle.dpl_calls.proofs.loops.looped_at.Goals as goal

pub is_looped-requires-clause-site : goal.is_looped-requires-clause-site
is_looped-requires-clause-site c =
    let own : All (IsSite (bodies_of c.args.table.now))
    (call_in c.args.definition (Called c.in-Called.at c.in-Called.number c.in-Called.moves)) =
    subst (λ (e : Entry). All (IsSite (bodies_of c.args.table.now)) (call_in c.args.definition e)) c.in-Called.is
    c.requires.entry in
    own 0 (record { at = c.in-Called.at; definition = c.args.definition; called = c.in-Called.number }) (omega arith)
