use Rattle.std.proofs.Common.{arith, ◌∙◌, ap, refl, Err}
use Rattle.std.proofs.lemmas.Result.{err_from_is_err_and}
use Rattle.dpl_ext.proofs.GivenLemmas.{HandsOn-nothing, HandsOn-more, HandsWhole-end, Refuses-stop, TookFront-stop, long_refused}
use Rattle.dpl_ext.proofs.reading.read_each.Goals as goal

pub loop-turn-init : goal.loop-turn-init
loop-turn-init g c = record {
  turns = omega arith;
  reads = omega arith;
  within = omega arith;
  hands = HandsOn-nothing _ _;
  room = refl;
}

pub returns-in_err-count-clause-refused : goal.returns-in_err-count-clause-refused
returns-in_err-count-clause-refused g c =
    let p = err_from_is_err_and c.from_residual.result c.from_residual.ensures.1 in
    rw (p.1, p.2) (Refuses-stop _ _ _ _ _ _ _ _ c.loop-turn.invariant.hands c.in_err-count.ensures.err)

pub returns-in_err-count-clause-long : goal.returns-in_err-count-clause-long
returns-in_err-count-clause-long g c =
    let p = err_from_is_err_and c.from_residual.result c.from_residual.ensures.1 in
    let refused = Refuses-stop _ _ _ _ _ _ _ _ c.loop-turn.invariant.hands c.in_err-count.ensures.err in
    long_refused _ _ _ _ _ (p.1 ∙ ap Err p.2) refused

pub returns-in_err-count-clause-front : goal.returns-in_err-count-clause-front
returns-in_err-count-clause-front g c =
    let p = err_from_is_err_and c.from_residual.result c.from_residual.ensures.1 in
    rw p.1 (TookFront-stop _ _ _ _ _ _ _ _ _ c.loop-turn.invariant.hands c.in_err-count.ensures.err c.in_err-count.ensures.kept c.loop-turn.invariant.within)

pub returns-then-count-eq0-clause-whole : goal.returns-then-count-eq0-clause-whole
returns-then-count-eq0-clause-whole g c =
    HandsWhole-end _ _ _ _ _ _ _ _ _ c.loop-turn.invariant.hands c.in_ok-count.ensures.ok c.loop-turn.invariant.within c.if-count-eq0.true

pub loop-turn-preserved : goal.loop-turn-preserved
loop-turn-preserved g c =
    let piece = c.in_ok-count.ensures.ok in
    record {
      turns = omega (arith, c.if-count-eq0.false);
      reads = omega (arith, c.loop-turn.invariant.reads, c.in_ok-count.ensures.reads);
      within = omega (arith, piece.within);
      hands = HandsOn-more _ _ _ _ _ _ _ _ _ c.loop-turn.invariant.hands piece;
      room = c.in_ok-count.ensures.same ∙ c.loop-turn.invariant.room;
    }
