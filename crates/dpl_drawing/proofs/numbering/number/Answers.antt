use Rattle.std.proofs.Common.{arith, rules, ◌≡◌, ◌<◌, sym, ap, ◌∙◌, length, get_or, add-one}
use Rattle.std.proofs.lemmas.Bool.{both_ways, and_parts, and_from, eqb-true}
use Rattle.std.proofs.Common.{eq-eqb}
use Rattle.std.proofs.lemmas.List.{get_or_read}
use Rattle.dpl_drawing.proofs.NumberLemmas.{numbered_skip, numbered_more, numbered_fresh, numbered_at, count_below, low_below}
use Rattle.dpl_drawing.proofs.numbering.number.Goals.{then-is_in-fresh, else-is_in-fresh}
use Rattle.dpl_drawing.proofs.numbering.number.Goals as goal
use Rattle.dpl_list.proofs.Lists.{refilled}

pub overflow_add-count : goal.overflow_add-count
overflow_add-count c =
    let low = count_below _ _ _ _ _ _ c.loop-dart.invariant in
    search (rules, low)

pub mark-requires-clause-fresh : goal.mark-requires-clause-fresh
mark-requires-clause-fresh c =
    let parts = and_parts _ _ c.if-is_in-fresh.true in
    let t = sym c.is_in.ensures ∙ parts.0 in
    let here : c.loop-dart.dart < length c.args.nexts.now = omega arith in
    let big : length c.args.nexts.now < 4294967295 = omega arith in
    let inside : c.loop-dart.dart < length c.loop-dart.numbers.items = omega (arith, here, c.loop-dart.invariant.lengths) in
    let read : c.index.result.now ≡ get_or c.loop-dart.numbers.items c.loop-dart.dart 0 = get_or_read _ _ _ inside c.index.ensures 0 in
    let size = c.loop-dart.invariant.lengths in
    λ z hz e. rw c.deref_mut.ensures.value (numbered_fresh _ _ _ _ _ _ _ c.requires.ring.1 c.requires.stays here big
    c.loop-dart.invariant t (sym read ∙ eqb-true _ _ parts.1) z
    (omega (arith, size, ap length c.deref_mut.ensures.value)) e)

pub loop-dart-preserved : goal.loop-dart-preserved
loop-dart-preserved c =
    let here : c.loop-dart.dart < length c.args.nexts.now = omega arith in
    let big : length c.args.nexts.now < 4294967295 = omega arith in
    let inside : c.loop-dart.dart < length c.loop-dart.numbers.items = omega (arith, here, c.loop-dart.invariant.lengths) in
    let read : c.index.result.now ≡ get_or c.loop-dart.numbers.items c.loop-dart.dart 0 = get_or_read _ _ _ inside c.index.ensures 0 in
    rw add-one (elim c.if-is_in-fresh.branch [
      | then-is_in-fresh w ↦
          let parts = and_parts _ _ w.if-is_in-fresh.true in
          let t = sym c.is_in.ensures ∙ parts.0 in
          let marks = rw w.deref_mut.ensures.value at w.mark.ensures in
          let whole = refilled c.loop-dart.numbers.len w.mark.new.labels c.loop-dart.numbers.items
          c.loop-dart.numbers.ok.0 (w.mark.ensures.lengths ∙ ap length w.deref_mut.ensures.value) in
          rw (w.numbers-is, w.count-is) (numbered_at _ _ _ _ _ _ _ whole
          (numbered_more _ _ _ _ _ _ _ _ c.requires.ring.1 here big c.loop-dart.invariant t
          (sym read ∙ eqb-true _ _ parts.1) marks))
      | else-is_in-fresh w ↦ rw (w.numbers-is, w.count-is)
          (numbered_skip _ _ _ _ _ _ _ c.requires.ring.1 c.requires.stays here c.loop-dart.invariant
          (λ t e. both_ways _ w.if-is_in-fresh.false (and_from _ _ (c.is_in.ensures ∙ t) (eq-eqb _ _ (read ∙ e)))))
    ])

pub returns-clause-numbers : goal.returns-clause-numbers
returns-clause-numbers c = λ z hz t.
    let size = c.loop-dart.invariant.lengths in
    let inside : z < length c.args.nexts.now = omega arith in
    c.loop-dart.invariant.done z inside t (low_below _ _ _ z c.requires.ring.1 inside (omega arith))
