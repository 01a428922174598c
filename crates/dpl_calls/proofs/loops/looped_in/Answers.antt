use Rattle.std.proofs.Common.{◌<◌, List, All, length, subst, sym, get_or}
use Rattle.dpl_calls.specs.declared.entry.Entry.{Entry}
use Rattle.dpl_calls.specs.Table.{bodies_of}
use Rattle.dpl_calls.specs.Found.{IsSite, call_in}
use Rattle.dpl_calls.proofs.CallEntries.{entry_fits}
use Rattle.dpl_calls.proofs.loops.looped_in.Goals as goal

pub looped_at-looped-requires-clause-entry : goal.looped_at-looped-requires-clause-entry
looped_at-looped-requires-clause-entry c =
    let here = entry_fits c.args.table.now c.args.definition c.loop-entry.entry-index c.entry-item.result
    (subst (λ (es : List Entry). c.loop-entry.entry-index < length es) c.requires.entries c.loop-entry-test.true) in
    let fits : All (IsSite (bodies_of c.args.table.now)) (call_in c.args.definition (get_or c.args.entries.now c.loop-entry.entry-index c.entry-item.result)) =
    subst (λ (es : List Entry). All (IsSite (bodies_of c.args.table.now))
    (call_in c.args.definition (get_or es c.loop-entry.entry-index c.entry-item.result))) (sym c.requires.entries)
    here in
    subst (λ (e : Entry). All (IsSite (bodies_of c.args.table.now)) (call_in c.args.definition e)) (sym c.entry-item.is) fits
