use Rattle.std.proofs.Common.{◌≡◌, length, true, false, rules}
use Rattle.std.specs.List.{list_all}
use Rattle.dpl_parse.specs.Blocks.{is_mask_letter}
use Rattle.dpl_parse.proofs.LetterLemmas.{letters_read, no_letters}
use Rattle.dpl_parse.proofs.letters.letters_in.Goals as goal

pub returns-then-not-are_mask_letters : goal.returns-then-not-are_mask_letters
returns-then-not-are_mask_letters c =
    let a : list_all is_mask_letter c.in-Some-before.letters.now ≡ false = search rules in
    no_letters c.args.fragments c.in-Some-before.letters.now c.in-Some.others.now c.args.line.now c.in-Some.ensures c.in-Some-before.ensures a

pub returns : goal.returns
returns c =
    let l : length c.in-Some-before.letters.now ≡ c.args.fragments = search rules in
    let a : list_all is_mask_letter c.in-Some-before.letters.now ≡ true = search rules in
    letters_read c.args.fragments c.in-Some-before.letters.now c.in-Some.others.now c.args.line.now c.in-Some.ensures c.in-Some-before.ensures l a
