-- The lines of a name, of the masks, and lines that are always the same.
use Rattle.std.proofs.Common.{arith, ◌≡◌, ℕ, ◌-◌, cond, Bool, true, false, ◌&&◌, ◌==◌, nat_le, List, [], ◌∷◌}
use Rattle.std.proofs.Common.{length, map, replicate, refl, sym, ap, ◌∙◌, length-append, Option, None, Some}
use Rattle.std.proofs.Common.{codes}
use Rattle.std.specs.Str.{bytes_eq}
use Rattle.std.proofs.lemmas.Option.{cond_some}
use Rattle.std.proofs.lemmas.Slice.Eq.{bytes_eq-Decides}
use Rattle.std.proofs.lemmas.Bool.Decides.{Decides-eqb}
use Rattle.std.proofs.lemmas.Bool.{leb-true, le-leb, eqb-true, and_parts}
use Rattle.std.proofs.lemmas.List.{take_at, length-replicate}
use Rattle.dpl_lex.specs.Name.{is_name}
use Rattle.dpl_form.proofs.Formats.{IsItem}
use Rattle.dpl_report.specs.ReportLines.{mask_letter, layer_line, keep_line, version_line, masks_line}
use Rattle.dpl_options.specs.Options.{IsSplitLayer}
use Rattle.dpl_report.specs.Reading.{if_written, between, layer_from, item_layer, item_keep, item_version, colours_from, of_length, item_masks, item_line}
use Rattle.dpl_report.proofs.ItemLemmas.{bind_some, if_written_some, if_written_same}

between-layer : (name : List ℕ) → between 7 (layer_line name) ≡ name
between-layer name = take_at name (codes ");\n") (length (layer_line name) - 10) (omega (arith, length-append name (codes ");\n")))

between-masks : (colours : List Bool) → between 7 (masks_line colours) ≡ map mask_letter colours
between-masks colours = take_at (map mask_letter colours) (codes ");\n") (length (masks_line colours) - 10)
    (omega (arith, length-append (map mask_letter colours) (codes ");\n")))

between-keep : (name : List ℕ) → between 6 (keep_line name) ≡ name
between-keep name = take_at name (codes ");\n") (length (keep_line name) - 9) (omega (arith, length-append name (codes ");\n")))

layer_fits : (name found : List ℕ) → layer_from name ≡ Some found → IsSplitLayer found
layer_fits name found e =
    let c = cond_some (is_name name && nat_le (length name) 31) name found e in
    let d = and_parts (is_name name) (nat_le (length name) 31) c.0 in
    rw (← c.1) (d.0, leb-true (length name) 31 d.1)

layer_again : (name : List ℕ) → IsSplitLayer name → layer_from name ≡ Some name
layer_again name f = rw (f.0, le-leb (length name) 31 f.1) refl

-- the name of the layer is read from its line alone
pub layer_item : IsItem item_layer layer_line IsSplitLayer
layer_item = record {
  some = codes "M";
  some_fits = (refl, omega arith);
  takes = λ l x e.
      let a = bind_some (layer_from (between 7 l)) (if_written layer_line l) x e in
      let b = if_written_some layer_line l a.0 x a.2 in
      (rw (← b.0) (layer_fits (between 7 l) a.0 a.1), b.1);
  again = λ x f. rw (between-layer x, layer_again x f) (if_written_same layer_line x);
}

-- the name of the layer where nothing is cut is read from its line alone
pub keep_item : IsItem item_keep keep_line IsSplitLayer
keep_item = record {
  some = codes "K";
  some_fits = (refl, omega arith);
  takes = λ l x e.
      let a = bind_some (layer_from (between 6 l)) (if_written keep_line l) x e in
      let b = if_written_some keep_line l a.0 x a.2 in
      (rw (← b.0) (layer_fits (between 6 l) a.0 a.1), b.1);
  again = λ x f. rw (between-keep x, layer_again x f) (if_written_same keep_line x);
}

version_by : (first second : Bool) (l : List ℕ) (x : Bool) → (second ≡ true → l ≡ version_line true) → (first ≡ true → l ≡ version_line false)
    → ◌≡◌ {A = Option Bool} (cond second (Some true) (cond first (Some false) None)) (Some x) → l ≡ version_line x
version_by first true l x s f e = let d : true ≡ x = cc in s refl ∙ ap version_line d
version_by true false l x s f e = let d : false ≡ x = cc in f refl ∙ ap version_line d
version_by false false l x s f e = absurd (cc)

-- the version is read from its line alone
pub version_item : IsItem item_version version_line (λ _. Unit {0})
version_item = record {
  some = true;
  some_fits = tt;
  takes = λ l x e. (
    tt,
    version_by (bytes_eq (version_line false) l) (bytes_eq (version_line true) l) l x
        (λ t. sym ((bytes_eq-Decides (version_line true) l).0 t)) (λ t. sym ((bytes_eq-Decides (version_line false) l).0 t)) e,
  );
  again = λ x f. version_again x;
} where
  version_again : (x : Bool) → item_version (version_line x) ≡ Some x
  version_again true = refl
  version_again false = refl

colours_again : (colours : List Bool) → colours_from (map mask_letter colours) ≡ colours
colours_again [] = refl
colours_again (true ∷ cs) = ap (λ xs. true ∷ xs) (colours_again cs)
colours_again (false ∷ cs) = ap (λ xs. false ∷ xs) (colours_again cs)

-- so many colours are read from the line of the masks alone
pub masks_item : (n : ℕ) → IsItem (item_masks n) masks_line (λ colours. length colours ≡ n)
masks_item n = record {
  some = replicate n false;
  some_fits = length-replicate n false;
  takes = λ l x e.
      let a = bind_some (of_length n (colours_from (between 7 l))) (if_written masks_line l) x e in
      let b = if_written_some masks_line l a.0 x a.2 in
      let c = cond_some (length (colours_from (between 7 l)) == n) (colours_from (between 7 l)) a.0 a.1 in
      (rw (← b.0, ← c.1) (eqb-true (length (colours_from (between 7 l))) n c.0), b.1);
  again = λ x f. rw (between-masks x, colours_again x, f, (Decides-eqb n n).1 refl) (if_written_same masks_line x);
}

-- a line that is always the same is read as itself alone
pub line_item : (wanted : List ℕ) → IsItem (item_line wanted) (λ _. wanted) (λ _. Unit {0})
line_item wanted = record {
  some = tt;
  some_fits = tt;
  takes = λ l x e. let c = cond_some (bytes_eq wanted l) tt x e in (tt, sym ((bytes_eq-Decides wanted l).0 c.0));
  again = λ x f. rw ((bytes_eq-Decides wanted wanted).1 refl) refl;
}
