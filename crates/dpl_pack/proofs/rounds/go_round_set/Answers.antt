use Rattle.std.proofs.Common.{arith, refl, sym, subst, ◌∙◌, ◌<◌, ◌≤◌, List, ℕ, length}
use Rattle.std.specs.Prelude.{All}
use Rattle.dpl_pack.specs.Rounds.{level_at}
use Rattle.dpl_pack.proofs.CourseLemmas.{here_of, here_below, here_odd, ranked_below, gone_on}
use Rattle.dpl_pack.proofs.RankLemmas.{nothing_marked, marked_up_to}
use Rattle.dpl_pack.proofs.rounds.go_round_set.Goals as goal

pub loop-i-init : goal.loop-i-init
loop-i-init c = record {
  here = λ k l h. here_of c.args.course.now c.requires.course c.args.from c.run_end-to.result k c.index-course-course.result _ _
      c.run_end-to.ensures l h c.as_slice-faces.ensures c.as_slice-depths.ensures;
  marked = nothing_marked c.rank.new.order.items c.args.inside.now c.requires.inside;
  before = λ j k h. absurd (omega (arith, h));
  seen = c.requires.seen;
  going = λ old g. g;
}

pub mark_up_to-marked-requires-clause-faces : goal.mark_up_to-marked-requires-clause-faces
mark_up_to-marked-requires-clause-faces c =
    let level : ℕ = (level_at c.args.course.now.levels.now c.loop-i.i).most in
    let P : List (ℕ × ℕ) → Type 0 = λ z. All (λ e. e.0 ≤ level → e.1 < length c.loop-i.inside) z in
    subst P (sym c.deref.ensures.value) (ranked_below c.args.course.now c.requires.course c.loop-i.i _ _ _ _
    (c.loop-i.invariant.here c.loop-i.i c.loop-i.auto.i c.loop-i-test.true) c.in_ok-rank.ensures
    (c.loop-i.auto.inside ∙ c.requires.places))

pub walk_around-requires-clause-around : goal.walk_around-requires-clause-around
walk_around-requires-clause-around c =
    let here = c.loop-i.invariant.here c.loop-i.i c.loop-i.auto.i c.loop-i-test.true in
    let done = rw c.deref.ensures.value at c.mark_up_to-marked.ensures in
    record {
      map = c.requires.course.map;
      places = c.mark_up_to-marked.auto.inside ∙ c.loop-i.auto.inside ∙ c.requires.places;
      sizes = here.sizes;
      below = here_below c.args.course.now c.requires.course c.loop-i.i _ _ here;
      written = marked_up_to _ _ _ _ _ _ here.sizes c.in_ok-rank.ensures done.marked done.before done.beyond;
    }

pub walk_around-requires-clause-odd : goal.walk_around-requires-clause-odd
walk_around-requires-clause-odd c = here_odd c.args.course.now c.requires.course c.loop-i.i _ _
    (c.loop-i.invariant.here c.loop-i.i c.loop-i.auto.i c.loop-i-test.true)

pub loop-i-preserved : goal.loop-i-preserved
loop-i-preserved c =
    let done = rw c.deref.ensures.value at c.mark_up_to-marked.ensures in
    record {
      here = c.loop-i.invariant.here;
      marked = done.marked;
      before = λ j k h l m. omega (
        arith,
        done.before j h,
        c.run_end-to.ensures.ascending c.loop-i.i k c.loop-i.auto.i (omega (arith, l)) m,
      );
      seen = c.in_ok-walk.ensures.seen;
      going = λ old g. gone_on c.args.course.now c.loop-i.i _ _ old _ _ _
          (c.loop-i.invariant.here c.loop-i.i c.loop-i.auto.i c.loop-i-test.true) refl c.in_ok-walk.ensures.walk
          c.in_ok-push.ensures.items (c.loop-i.invariant.going old g);
    }
