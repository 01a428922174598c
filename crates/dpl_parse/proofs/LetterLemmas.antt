-- A masks line and its letters.
use Rattle.std.proofs.Common.{◌≡◌, ℕ, Bool, true, false, ◌||◌, ◌==◌, List, [], ◌∷◌, ◌++◌, length, map, drop, refl, sym, ap, ◌∙◌, codes, Option, None, Some}
use Rattle.std.specs.List.{list_all}
use Rattle.std.proofs.lemmas.Bool.{eqb-true, and_parts}
use Rattle.std.proofs.lemmas.List.{append_cancel_right, length-map}
use Rattle.dpl_report.specs.ReportLines.{mask_letter, masks_line}
use Rattle.dpl_report.specs.Reading.{colours_from, item_masks}
use Rattle.dpl_report.proofs.NameItems.{masks_item}
use Rattle.dpl_parse.specs.Blocks.{is_mask_letter}

letter_by : (b : ℕ) (on_a on_b : Bool) → (on_a ≡ true → b ≡ 65) → (on_b ≡ true → b ≡ 66) → (on_a || on_b) ≡ true → mask_letter on_b ≡ b
letter_by b on_a true a c e = sym (c refl)
letter_by b true false a c e = sym (a refl)
letter_by b false false a c e = absurd (cc)

letter_again : (b : ℕ) → is_mask_letter b ≡ true → mask_letter (b == 66) ≡ b
letter_again b e = letter_by b (b == 65) (b == 66) (eqb-true b 65) (eqb-true b 66) e

letters_again : (letters : List ℕ) → list_all is_mask_letter letters ≡ true → map mask_letter (colours_from letters) ≡ letters
letters_again [] e = refl
letters_again (b ∷ bs) e =
    let p = and_parts (is_mask_letter b) (list_all is_mask_letter bs) e in
    rw (letter_again b p.0, letters_again bs p.1) refl

letters_are : (colours : List Bool) → list_all is_mask_letter (map mask_letter colours) ≡ true
letters_are [] = refl
letters_are (true ∷ cs) = letters_are cs
letters_are (false ∷ cs) = letters_are cs

-- such a line is read as its letters
pub letters_read : (n : ℕ) (letters others line : List ℕ) → line ≡ codes "(masks " ++ others → others ≡ letters ++ codes ");\n"
    → length letters ≡ n → list_all is_mask_letter letters ≡ true → Some (colours_from letters) ≡ item_masks n line
letters_read n letters others line f e l a =
    let colours = colours_from letters in
    let whole : line ≡ masks_line colours =
    f ∙ ap (λ t. codes "(masks " ++ t) (e ∙ ap (λ t. t ++ codes ");\n") (sym (letters_again letters a))) in
    sym (ap (item_masks n) whole ∙ (masks_item n).again colours (length-map letters (λ b. b == 66) ∙ l))

no_letters_by : (o : Option (List Bool)) (n : ℕ) (letters others line : List ℕ) → item_masks n line ≡ o → line ≡ codes "(masks " ++ others
    → others ≡ letters ++ codes ");\n" → list_all is_mask_letter letters ≡ false → None ≡ o
no_letters_by None n letters others line t f e a = refl
no_letters_by (Some x) n letters others line t f e a =
    let whole : line ≡ masks_line x = ((masks_item n).takes line x t).1 in
    let same : letters ++ codes ");\n" ≡ map mask_letter x ++ codes ");\n" = sym e ∙ ap (λ t. drop 7 t) (sym f ∙ whole) in
    let is : letters ≡ map mask_letter x = append_cancel_right letters (map mask_letter x) (codes ");\n") same in
    let good : list_all is_mask_letter letters ≡ true = ap (list_all is_mask_letter) is ∙ letters_are x in
    absurd (cc)

-- a line with another letter is none
pub no_letters : (n : ℕ) (letters others line : List ℕ) → line ≡ codes "(masks " ++ others → others ≡ letters ++ codes ");\n"
    → list_all is_mask_letter letters ≡ false → None ≡ item_masks n line
no_letters n letters others line f e a = no_letters_by (item_masks n line) n letters others line refl f e a
