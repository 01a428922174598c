-- The lines before the drawing are comments, each in one line.
use Rattle.std.proofs.Common.{arith, ◌≡◌, ℕ, ◌+◌, ◌==◌, Bool, true, false, List, [], ◌∷◌, ◌++◌, map, refl, sym, ap, ◌∙◌}
use Rattle.std.proofs.Common.{append_assoc, codes, Option, None, Some}
use Rattle.std.specs.Prelude.{ℤ, pos, is_some, not}
use Rattle.std.specs.List.{list_all, AllByRecursion}
use Rattle.std.specs.Fmt.{signed_decimal}
use Rattle.std.proofs.lemmas.List.Folds.{list_all-append}
use Rattle.std.proofs.lemmas.Bool.{and_from}
use Rattle.std.proofs.lemmas.Bool.Decides.{nat_tests}
use Rattle.dpl_lex.specs.Classes.{is_name_byte}
use Rattle.dpl_boxes.specs.Lines.{is_flat}
use Rattle.dpl_boxes.proofs.NumberLemmas.{list_all-weaker}
use Rattle.dpl_boxes.proofs.ReadingLemmas.{name_bytes}
use Rattle.dpl_form.specs.Readers.{FitFrom}
use Rattle.dpl_options.specs.Options.{IsSplitLayer}
use Rattle.dpl_report.specs.Plain.{PlainHead, PlainLists}
use Rattle.dpl_report.specs.ReportLines.{numbered, bracketed, mask_letter, count_line, layer_line, keep_line, version_line}
use Rattle.dpl_report.specs.ReportLines.{more_lines, masks_line, broken_numbers, zone_numbers, cycle_numbers, cut_line}
use Rattle.dpl_report.specs.ReportLines.{clash_line, aside_line, cycle_line, head_lines, lists_lines}
use Rattle.dpl_report.specs.Valid.{IsCount, AreMore, IsHead, IsCycle, IsLists, CutFits, ClashFits, AsideFits}
use Rattle.dpl_report.proofs.LineLemmas.{IsNear, is_comment_byte, comment_bytes-signed}
use Rattle.dpl_report.proofs.ItemLemmas.{near, zone_near, cycle_near}

-- ---- what holds of each line

pub each-append : (P : List ℕ → Type 0) (xs ys : List (List ℕ)) → AllByRecursion P xs → AllByRecursion P ys
    → AllByRecursion P (xs ++ ys)
each-append P [] ys a b = b
each-append P (x ∷ xs) ys a b = (a.0, each-append P xs ys a.1 b)

pub each-weaker : (P Q : List ℕ → Type 0) → ((l : List ℕ) → P l → Q l) → (ls : List (List ℕ))
    → AllByRecursion P ls → AllByRecursion Q ls
each-weaker P Q w [] a = tt
each-weaker P Q w (l ∷ ls) a = (w l a.0, each-weaker P Q w ls a.1)

pub each-map : {X : Type 0} (P : List ℕ → Type 0) (Fits : X → Type 0) (line : X → List ℕ)
    → ((x : X) → Fits x → P (line x)) → (xs : List X) → AllByRecursion Fits xs → AllByRecursion P (map line xs)
each-map P Fits line h [] f = tt
each-map P Fits line h (x ∷ xs) f = (h x f.0, each-map P Fits line h xs f.1)

-- ---- comments

-- a line with one comment and nothing else
pub record IsComment (l : List ℕ) : Type 0 where
  pub inner : List ℕ
  pub bytes : list_all is_comment_byte inner ≡ true
  pub line : l ≡ 40 ∷ (inner ++ (41 ∷ 59 ∷ 10 ∷ []))

comment_bytes-numbered : (zs : List ℤ) → AllByRecursion IsNear zs → list_all is_comment_byte (numbered zs []) ≡ true
comment_bytes-numbered [] a = refl
comment_bytes-numbered (z ∷ zs) a =
    rw (
      list_all-append is_comment_byte (signed_decimal z) (numbered zs []),
      comment_bytes-signed z a.0,
      comment_bytes-numbered zs a.1,
    ) refl

numbered-end : (zs : List ℤ) (end : List ℕ) → numbered zs end ≡ numbered zs [] ++ end
numbered-end [] end = refl
numbered-end (z ∷ zs) end = ap (λ t. 32 ∷ t) (ap (λ t. signed_decimal z ++ t) (numbered-end zs end) ∙
    sym (append_assoc (signed_decimal z) (numbered zs []) end))

bracketed_is_comment : (word : List ℕ) (zs : List ℤ) → list_all is_comment_byte word ≡ true
    → AllByRecursion IsNear zs → IsComment (bracketed word zs)
bracketed_is_comment word zs h a = record {
  inner = word ++ numbered zs [];
  bytes = rw (list_all-append is_comment_byte word (numbered zs []), h, comment_bytes-numbered zs a) refl;
  line = ap (λ t. 40 ∷ t) (ap (λ t. word ++ t) (numbered-end zs (41 ∷ 59 ∷ 10 ∷ [])) ∙
      sym (append_assoc word (numbered zs []) (41 ∷ 59 ∷ 10 ∷ [])));
}

count_is_comment : (word : List ℕ) (n : ℕ) → list_all is_comment_byte word ≡ true → IsCount n
    → IsComment (count_line word n)
count_is_comment word n h l = bracketed_is_comment word (pos n ∷ []) h (l, tt)

name_byte_is_comment_byte : (b : ℕ) → is_name_byte b ≡ true → is_comment_byte b ≡ true
name_byte_is_comment_byte b h =
    and_from (is_flat b) (not (b == 10)) (grind (arith, nat_tests)) (grind (arith, nat_tests))

pub comment_bytes-name : (name : List ℕ) → IsSplitLayer name → list_all is_comment_byte name ≡ true
comment_bytes-name name f =
    list_all-weaker is_name_byte is_comment_byte name_byte_is_comment_byte name (name_bytes name f.0)

layer_is_comment : (name : List ℕ) → IsSplitLayer name → IsComment (layer_line name)
layer_is_comment name f = record { inner = codes "layer " ++ name; bytes = comment_bytes-name name f; line = refl }

comment_bytes-letters : (colours : List Bool) → list_all is_comment_byte (map mask_letter colours) ≡ true
comment_bytes-letters [] = refl
comment_bytes-letters (true ∷ cs) = comment_bytes-letters cs
comment_bytes-letters (false ∷ cs) = comment_bytes-letters cs

masks_is_comment : (colours : List Bool) → IsComment (masks_line colours)
masks_is_comment colours = record {
  inner = codes "masks " ++ map mask_letter colours;
  bytes = comment_bytes-letters colours;
  line = refl;
}

version_is_comment : (second : Bool) → IsComment (version_line second)
version_is_comment true = record { inner = codes "dpl 2"; bytes = refl; line = refl }
version_is_comment false = record { inner = codes "dpl 1"; bytes = refl; line = refl }

keep_is_comment : (name : List ℕ) → IsSplitLayer name → IsComment (keep_line name)
keep_is_comment name f = record { inner = codes "keep " ++ name; bytes = comment_bytes-name name f; line = refl }

more_are_comments : (c : Option ℕ) (k : Option (List ℕ)) → AreMore c k → AllByRecursion IsComment (more_lines c k)
more_are_comments None k m = tt
more_are_comments (Some n) None m = (count_is_comment (codes "corner") n refl m.0, tt)
more_are_comments (Some n) (Some name) m =
    (count_is_comment (codes "corner") n refl m.0, (keep_is_comment name m.1, tt))

-- ---- the lines before the drawing

pub head_are_comments : (h : PlainHead) → IsHead h → AllByRecursion IsComment (head_lines h)
head_are_comments h f =
    let p = f.params in
    let k = f.counts in (
      version_is_comment (is_some h.params.corner),
      (
        layer_is_comment h.params.layer p.layer,
        (
          count_is_comment (codes "space") h.params.space refl p.space,
          (
            count_is_comment (codes "overlap") h.params.overlap refl p.overlap,
            (
              count_is_comment (codes "stitch") h.params.stitch refl p.stitch,
              (
                count_is_comment (codes "conflict") h.params.conflict refl p.conflict,
                (
                  count_is_comment (codes "pieces") h.counts.pieces refl k.pieces,
                  (
                    count_is_comment (codes "fragments") h.counts.fragments refl k.fragments,
                    (
                      count_is_comment (codes "bonds") h.counts.bonds refl k.bonds,
                      (
                        count_is_comment (codes "stitches") h.counts.stitches refl k.stitches,
                        (
                          count_is_comment (codes "clashes") h.counts.clashes refl k.clashes,
                          (
                            count_is_comment (codes "excess") h.counts.excess refl k.excess,
                            (
                              count_is_comment (codes "cost") h.cost refl f.cost,
                              (
                                count_is_comment (codes "bound") h.bound refl f.bound,
                                (masks_is_comment h.colours, more_are_comments h.params.corner h.params.keep p.more),
                              ),
                            ),
                          ),
                        ),
                      ),
                    ),
                  ),
                ),
              ),
            ),
          ),
        ),
      ),
    )

comments-fit : {X : Type 0} (Fits : ℕ → X → Type 0) (after : X → ℕ) (line : X → List ℕ)
    → ((s : ℕ) (x : X) → Fits s x → IsComment (line x)) → (s : ℕ) (xs : List X) → FitFrom Fits after s xs
    → AllByRecursion IsComment (map line xs)
comments-fit Fits after line h s [] f = tt
comments-fit Fits after line h s (x ∷ xs) f = (h s x f.0, comments-fit Fits after line h (after x) xs f.1)

pub lists_are_comments : (l : PlainLists) → IsLists l → AllByRecursion IsComment (lists_lines l)
lists_are_comments l f =
    let cuts = map cut_line l.cuts in
    let clashes = map clash_line l.clashes in
    let asides = map aside_line l.aside in
    let cycles = map cycle_line l.cycles in
    each-append IsComment cuts (clashes ++ (asides ++ cycles))
    (comments-fit CutFits (λ z. z.at.edge + 1) cut_line
    (λ s z g. bracketed_is_comment (codes "cut") (zone_numbers z) refl (zone_near z g.1)) 0 l.cuts f.cuts)
    (each-append IsComment clashes (asides ++ cycles)
    (comments-fit ClashFits (λ b. b.edge + 1) clash_line
    (λ s b g. bracketed_is_comment (codes "clash") (broken_numbers b) refl
    (near b.edge g.1.edge, (near b.a g.1.a, (near b.b g.1.b, tt)))) 0 l.clashes f.clashes)
    (each-append IsComment asides cycles
    (comments-fit AsideFits (λ e. e + 1) aside_line
    (λ s e g. bracketed_is_comment (codes "aside") (pos e ∷ []) refl (near e g.1, tt)) 0 l.aside f.aside)
    (each-map IsComment IsCycle cycle_line
    (λ c g. bracketed_is_comment (codes "cycle") (cycle_numbers c) refl (cycle_near c g)) l.cycles f.cycles)))
