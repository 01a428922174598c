use Rattle.std.proofs.Common.{arith, ◌∙◌, length}
use Rattle.dpl_flood.proofs.SweepLemmas.{first_early, has_turned, swept_more, two_swept, fewer_early}
use Rattle.dpl_flood.proofs.sweeping.next_later.Goals as goal

pub advance-requires-clause-early : goal.advance-requires-clause-early
advance-requires-clause-early g c key first =
    let i = c.times.invariant in
    first_early c.args.dual.now c.times.state c.times.queue key i.state i.keys i.awake i.two first

pub returns-in-Some-clause-swept : goal.returns-in-Some-clause-swept
returns-in-Some-clause-swept g c =
    let i = c.times.invariant in
    let t = has_turned c.args.dual.now c.times.state c.advance.new.state c.times.queue i.state i.keys i.awake (omega (arith, i.some, i.places))
    c.advance.ensures.time c.advance.ensures.values c.advance.ensures.over c.advance.ensures.state in
    swept_more c.args.state.now c.times.state c.advance.new.state i.swept t.swept

pub returns-in-Some-clause-faces : goal.returns-in-Some-clause-faces
returns-in-Some-clause-faces g c =
    let i = c.times.invariant in
    let t = has_turned c.args.dual.now c.times.state c.advance.new.state c.times.queue i.state i.keys i.awake (omega (arith, i.some, i.places))
    c.advance.ensures.time c.advance.ensures.values c.advance.ensures.over c.advance.ensures.state in
    t.faces ∙ i.faces

pub times-smaller : goal.times-smaller
times-smaller g c =
    let i = c.times.invariant in
    let t = has_turned c.args.dual.now c.times.state c.advance.new.state c.times.queue i.state i.keys i.awake (omega (arith, i.some, i.places))
    c.advance.ensures.time c.advance.ensures.values c.advance.ensures.over c.advance.ensures.state in
    fewer_early c.args.dual.now c.times.state c.advance.new.state (length c.args.queue.now) c.times.queue c.next_now.new.queue i.places
    (omega (arith, c.next_now.ensures.keys.places, c.advance.ensures.keys.places, i.places))
    (c.next_now.ensures.less t.key c.in-None.is t.first t.up) t.early

pub times-preserved : goal.times-preserved
times-preserved g c =
    let i = c.times.invariant in
    let d = c.args.dual.now in
    let x = c.times.state in
    let y = c.advance.new.state in
    let t = has_turned d x y c.times.queue i.state i.keys i.awake (omega (arith, i.some, i.places))
    c.advance.ensures.time c.advance.ensures.values c.advance.ensures.over c.advance.ensures.state in
    record {
      state = c.advance.ensures.state;
      keys = c.next_now.ensures.keys;
      places = omega (arith, c.next_now.ensures.keys.places, c.advance.ensures.keys.places, i.places);
      some = i.some;
      two = two_swept d x y t.swept i.two;
      awake = λ k. t.swept.awake k (i.awake k);
      quiet = c.in-None.ensures.come;
      swept = swept_more c.args.state.now x y i.swept t.swept;
      forest = λ f. c.advance.ensures.forest (i.forest f);
      faces = t.faces ∙ i.faces;
    }
