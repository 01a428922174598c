use Rattle.dpl_lex.proofs.CuttingRules.{blanks_are_skipped, end_ends, empty_is_cut, plain_is_cut, comment_is_cut}
use Rattle.dpl_lex.proofs.CuttingRules.{blanks_end, plain_rests, comment_rests, open_comment_rests}
use Rattle.dpl_lex.proofs.Within.{commands_within, commands_few}
use Rattle.dpl_lex.proofs.cutting.cutting_rules.Goals as goal

pub returns-clause-blanks : goal.returns-clause-blanks
returns-clause-blanks c = blanks_are_skipped

pub returns-clause-end : goal.returns-clause-end
returns-clause-end c = end_ends

pub returns-clause-empty : goal.returns-clause-empty
returns-clause-empty c = empty_is_cut

pub returns-clause-plain : goal.returns-clause-plain
returns-clause-plain c = plain_is_cut

pub returns-clause-comment : goal.returns-clause-comment
returns-clause-comment c = comment_is_cut

pub returns-clause-nothing_left : goal.returns-clause-nothing_left
returns-clause-nothing_left c = blanks_end

pub returns-clause-plain_rest : goal.returns-clause-plain_rest
returns-clause-plain_rest c = plain_rests

pub returns-clause-comment_rest : goal.returns-clause-comment_rest
returns-clause-comment_rest c = comment_rests

pub returns-clause-open_comment : goal.returns-clause-open_comment
returns-clause-open_comment c = open_comment_rests

pub returns-clause-within : goal.returns-clause-within
returns-clause-within c = commands_within

pub returns-clause-few : goal.returns-clause-few
returns-clause-few c = commands_few
