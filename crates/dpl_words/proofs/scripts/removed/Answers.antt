use Rattle.std.proofs.Common.{◌≡◌, ◌++◌, sym, ap, ◌∙◌}
use Rattle.std.proofs.lemmas.Bool.{both_ways}
use Rattle.dpl_words.specs.Scripts.{line_text}
use Rattle.dpl_words.specs.Scripts.PlainLine.{remove}
use Rattle.dpl_words.specs.ScriptReading.{number_read}
use Rattle.dpl_words.proofs.ScriptLemmas.{behind_number, number_is_read, one_number, bytes_same}
use Rattle.dpl_words.proofs.scripts.removed.Goals as goal

pub returns-in-None-number_in : goal.returns-in-None-number_in
returns-in-None-number_in c = λ n l e.
    let r = behind_number n c.args.line.now c.in-Some.rest.now c.in-Some.ensures e in
    c.in-None-number_in.ensures n l (ap number_read r ∙ number_is_read n l)

pub returns-then-not-same : goal.returns-then-not-same
returns-then-not-same c = λ n l e.
    let r = behind_number n c.args.line.now c.in-Some.rest.now c.in-Some.ensures e in
    let same : c.in-Some-number_in.number ≡ n = one_number _ _ (sym c.in-Some-number_in.ensures.0 ∙ ap number_read r ∙ number_is_read n l) in
    let here : c.as_slice.result.now ≡ c.args.line.now = c.as_slice.ensures.value ∙ c.in_ok-push_remove.ensures
    ∙ ap (λ z. z ++ line_text (remove c.in-Some-number_in.number)) c.new-again.ensures.items ∙ ap (λ z. line_text (remove z)) same ∙ e in
    both_ways _ c.if-not-same.true (c.eq-same.ensures ∙ bytes_same _ _ here)
