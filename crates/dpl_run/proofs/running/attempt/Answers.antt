use Rattle.std.proofs.Common.{map, sym, subst}
use Rattle.std.specs.Prelude.{string_bytes, Ok}
use Rattle.dpl_words.specs.Commands.{asked_by}
use Rattle.dpl_run.specs.Answer.{Answers, IsDue, IsStatusOf}
use Rattle.dpl_run.specs.Devices.{AskForAbsent, Reads}
use Rattle.dpl_run.proofs.AbsentLemmas.{told_unread}
use Rattle.dpl_run.specs.declared.status.Status.TheVariants.{Usage}
use Rattle.dpl_run.proofs.SteadyLemmas.{memory_reads, told_reads, told_steady, usage_reads}
use Rattle.dpl_run.proofs.ToldLemmas.{attempt_answers, usage_answers, told_quiet, told_write, told_status, usage_status, memory_status}
use Rattle.dpl_run.proofs.running.attempt.Goals as goal

pub returns-in-Err-Usage-clause-answer : goal.returns-in-Err-Usage-clause-answer
returns-in-Err-Usage-clause-answer g c = λ text report told.
    subst (λ z. Answers (IsDue (map string_bytes c.args.words.now) text report) (g.O.Sink.taken c.args.out.now)
    (g.O.Sink.taken c.args.out.now) (Usage z)) (sym c.in-Err-Usage.kind-is)
    (usage_answers (map string_bytes c.args.words.now) c.in-Err-Usage.kind (g.O.Sink.taken c.args.out.now) text report
    (rw c.in-Err-Usage.field-0-is at c.in-Err-Usage.ensures.answer))

pub returns-clause-answer : goal.returns-clause-answer
returns-clause-answer g c =
    attempt_answers (map string_bytes c.args.words.now) (Ok c.in-Ok.command)
    (g.S.Source.seen c.args.layout.now).left (g.F.Shelf.texts c.args.second.now) (g.O.Sink.taken c.args.out.now)
    (g.O.Sink.taken c.tell.new.out) (g.O.Sink.faults c.args.out.now) (g.O.Sink.faults c.tell.new.out)
    c.due_for-due.result.status c.due_for-due.result.output.items c.tell.result c.in-Ok.ensures.answer c.due_for-due.ensures.due c.tell.ensures

pub returns-clause-quiet : goal.returns-clause-quiet
returns-clause-quiet g c =
    told_quiet c.due_for-due.result.status c.due_for-due.result.output.items (g.O.Sink.taken c.args.out.now)
    (g.O.Sink.taken c.tell.new.out) (g.O.Sink.faults c.args.out.now) (g.O.Sink.faults c.tell.new.out) c.tell.result
    c.due_for-due.ensures.bare c.tell.ensures

pub returns-clause-write : goal.returns-clause-write
returns-clause-write g c =
    told_write c.due_for-due.result.status c.due_for-due.result.output.items (g.O.Sink.taken c.args.out.now)
    (g.O.Sink.taken c.tell.new.out) (g.O.Sink.faults c.args.out.now) (g.O.Sink.faults c.tell.new.out) c.tell.result
    c.due_for-due.ensures.bare c.tell.ensures

pub returns-clause-steady : goal.returns-clause-steady
returns-clause-steady g c =
    told_steady _ _ c.due_for-due.result.status c.due_for-due.result.output.items (g.O.Sink.taken c.args.out.now)
    (g.O.Sink.taken c.tell.new.out) (g.O.Sink.faults c.args.out.now) (g.O.Sink.faults c.tell.new.out) c.tell.result
    c.tell.ensures c.due_for-due.ensures.steady

pub returns-clause-of_words : goal.returns-clause-of_words
returns-clause-of_words g c =
    told_status (map string_bytes c.args.words.now) c.in-Ok.command c.due_for-due.result.status
    c.due_for-due.result.output.items (g.O.Sink.taken c.args.out.now) (g.O.Sink.taken c.tell.new.out)
    (g.O.Sink.faults c.args.out.now) (g.O.Sink.faults c.tell.new.out) c.tell.result
    c.in-Ok.ensures.answer c.due_for-due.ensures.of_words c.tell.ensures

pub returns-in-Err-Usage-clause-of_words : goal.returns-in-Err-Usage-clause-of_words
returns-in-Err-Usage-clause-of_words g c =
    subst (λ z. IsStatusOf (asked_by (map string_bytes c.args.words.now)) (Usage z)) (sym c.in-Err-Usage.kind-is)
    (usage_status (map string_bytes c.args.words.now) c.in-Err-Usage.kind (rw c.in-Err-Usage.field-0-is at c.in-Err-Usage.ensures.answer))

pub returns-in-Err-NoMemory-clause-of_words : goal.returns-in-Err-NoMemory-clause-of_words
returns-in-Err-NoMemory-clause-of_words g c = memory_status (asked_by (map string_bytes c.args.words.now))

pub returns-clause-absent : goal.returns-clause-absent
returns-clause-absent g c = λ a.
    told_unread c.due_for-due.result.status c.due_for-due.result.output.items (g.O.Sink.taken c.args.out.now)
    (g.O.Sink.taken c.tell.new.out) (g.O.Sink.faults c.args.out.now) (g.O.Sink.faults c.tell.new.out) c.tell.result
    c.due_for-due.ensures.bare c.tell.ensures
    (c.due_for-due.ensures.absent (subst (λ z. AskForAbsent z (g.F.Shelf.texts c.args.second.now)) c.in-Ok.ensures.answer a))

pub returns-clause-reads : goal.returns-clause-reads
returns-clause-reads g c =
    subst (λ z. Reads z c.tell.result (g.S.Source.seen c.args.layout.now) (g.S.Source.seen c.due_for-due.new.layout)
    (g.F.Source.seen c.args.second.now) (g.F.Source.seen c.due_for-due.new.second)) (sym c.in-Ok.ensures.answer)
    (told_reads (Ok c.in-Ok.command) c.due_for-due.result.status c.due_for-due.result.output.items
    (g.O.Sink.taken c.args.out.now) (g.O.Sink.taken c.tell.new.out) (g.O.Sink.faults c.args.out.now)
    (g.O.Sink.faults c.tell.new.out) c.tell.result _ _ _ _ c.tell.ensures (record {
      read = c.due_for-due.ensures.read;
      limit = c.due_for-due.ensures.limit;
      report_limit = c.due_for-due.ensures.report_limit;
      script_limit = c.due_for-due.ensures.script_limit;
      touched = c.due_for-due.ensures.touched;
    }))

pub returns-in-Err-Usage-clause-reads : goal.returns-in-Err-Usage-clause-reads
returns-in-Err-Usage-clause-reads g c =
    let l = g.S.Source.seen c.args.layout.now in
    let p = g.F.Source.seen c.args.second.now in
    subst (λ z. Reads (asked_by (map string_bytes c.args.words.now)) (Usage z) l l p p) (sym c.in-Err-Usage.kind-is)
    (usage_reads (asked_by (map string_bytes c.args.words.now)) c.in-Err-Usage.kind l p)

pub returns-in-Err-NoMemory-clause-reads : goal.returns-in-Err-NoMemory-clause-reads
returns-in-Err-NoMemory-clause-reads g c =
    memory_reads (asked_by (map string_bytes c.args.words.now)) (g.S.Source.seen c.args.layout.now)
    (g.F.Source.seen c.args.second.now)
