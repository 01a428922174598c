use Rattle.std.proofs.Common.{◌≡◌, ◌++◌, sym, ap, ◌∙◌}
use Rattle.std.proofs.lemmas.Bool.{both_ways}
use Rattle.dpl_cell.specs.Places.{corners_of}
use Rattle.dpl_words.specs.Scripts.{line_text}
use Rattle.dpl_words.specs.Scripts.PlainLine.{add}
use Rattle.dpl_words.specs.ScriptReading.{corners_read}
use Rattle.dpl_words.proofs.ScriptLemmas.{behind_box, corners_are_read, one_box, bytes_same}
use Rattle.dpl_words.proofs.scripts.added.Goals as goal

pub returns-in-None-rect_in : goal.returns-in-None-rect_in
returns-in-None-rect_in c = λ d h e.
    let r = behind_box d c.args.line.now c.in-Some.rest.now c.in-Some.ensures e in
    c.in-None-rect_in.ensures d (ap corners_read r ∙ corners_are_read d h) h

pub returns-then-not-same : goal.returns-then-not-same
returns-then-not-same c = λ d h e.
    let r = behind_box d c.args.line.now c.in-Some.rest.now c.in-Some.ensures e in
    let same : corners_of c.in-Some-rect_in.rect ≡ d = one_box _ _ (sym c.in-Some-rect_in.ensures ∙ ap corners_read r ∙ corners_are_read d h) in
    let here : c.as_slice.result.now ≡ c.args.line.now = c.as_slice.ensures.value ∙ c.in_ok-push_add.ensures
    ∙ ap (λ z. z ++ line_text (add (corners_of c.in-Some-rect_in.rect))) c.new-again.ensures.items ∙ ap (λ z. line_text (add z)) same ∙ e in
    both_ways _ c.if-not-same.true (c.eq-same.ensures ∙ bytes_same _ _ here)
