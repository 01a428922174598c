use Rattle.std.proofs.Common.{◌≡◌, ◌∙◌, ℕ, zero, suc, ◌+◌, List, [], length, Option, None, map, ap, subst, sym, arith}
use Rattle.dpl_lex.specs.Cutting.{commands_of}
use Rattle.dpl_rules.specs.Rules.{Fault, at_first, rule_fault}
use Rattle.dpl_cell.specs.Outlines.{Outline}
use Rattle.dpl_calls.specs.Unfolding.{figures_of}
use Rattle.dpl_calls.specs.Loops.{numbers_from}
use Rattle.dpl_calls.proofs.Few.{all_fit}
use Rattle.dpl_calls.proofs.CleanParts.{bodies_kept}
use Rattle.dpl_cif.specs.Drawn.{drawn}
use Rattle.dpl_cif.specs.Reading.{forms_of, ending_of, first_fault, bodies_in, depth_of, primitives_of}
use Rattle.dpl_cif.specs.Laws.{drawn_in_order}
use Rattle.dpl_cif.proofs.InOrder.{first_none, all_drawn}
use Rattle.dpl_cif.proofs.reading.drawing_rules.Goals as goal

one_more : (n : ℕ) → n + 1 ≡ suc n
one_more n = omega arith

pub returns : goal.returns
returns c = λ layer text short clean calm.
    let kept = bodies_kept layer at_first [] 1 (forms_of text) (ending_of text)
    (first_none (rule_fault layer at_first [] 1 (forms_of text) (ending_of text)) _ clean)
    (record { some = omega arith; times = omega arith; over = omega arith })
    (all_fit text (commands_of text).spans short) None in
    ap (λ (n : ℕ). map drawn (figures_of n (bodies_in layer text) (λ c. c) (bodies_in layer text None)))
    (one_more (length (numbers_from [] (forms_of text)))) ∙
    all_drawn layer text (length (numbers_from [] (forms_of text))) kept calm
