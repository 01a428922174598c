-- `edit` is done exactly where a script is followed to its end.
use Rattle.std.proofs.Common.{◌≡◌, ◌↔◌, ◌+◌, ℕ, List, [], ◌∷◌, fold, refl, inl, inr}
use Rattle.dpl_options.specs.Options.{PlainOptions}
use Rattle.dpl_layer.specs.declared.drawing.Drawing.{Drawing}
use Rattle.dpl_layer.specs.Reasons.{NoneOf}
use Rattle.dpl_layer.specs.Drawings.{IsDrawingOf}
use Rattle.dpl_words.specs.declared.edits.Line.{Line}
use Rattle.dpl_run.specs.declared.status.Status.{Status}
use Rattle.dpl_run.specs.declared.status.Status.TheVariants.{Done}
use Rattle.dpl_run.specs.due.Edit.{Edits, begun_with, edited, edits_reasons, Reports, StopsAt, AreEditsDue, AreTaken, IsScriptDue, IsEditDue, IsFollowed}
use Rattle.dpl_run.specs.due.Edit.StopsAt.{missing, over}
use Rattle.dpl_run.specs.due.Edit.IsScriptDue.{bad_line, applied}
use Rattle.dpl_run.specs.due.Edit.IsEditDue.{unread, too_much, begun}
use Rattle.dpl_run.proofs.EndLemmas.{refused_not_done}

stop_not_done : (s : Edits) (n : ℕ) (l : Line) (a : Status) (x : List ℕ) → StopsAt s n l a x → a ≡ Done → ⊥
stop_not_done s n l _ _ (missing p) e = absurd (cc)
stop_not_done s n l _ _ (over f there p) e = refused_not_done f e

-- the edits after all lines
abbrev pub after : Edits → List Line → Edits
after s ls = fold (λ t l. edited l t) s ls

taken_first : (s : Edits) (ls : List Line) → AreTaken s ls → NoneOf (edits_reasons s)
taken_first s [] t = t
taken_first s (l ∷ ls) t = t.0

-- lines that are done were all taken
lines_taken : (ls : List Line) (s : Edits) (n : ℕ) (a : Status) (x : List ℕ) → NoneOf (edits_reasons s) → AreEditsDue s n ls a x → a ≡ Done
    → AreTaken s ls × Reports (after s ls) x
lines_taken [] s n a x within d e = (within, d.1)
lines_taken (l ∷ ls) s n a x within (inl p) e = absurd (stop_not_done s n l a x p e)
lines_taken (l ∷ ls) s n a x within (inr q) e =
    let r = lines_taken ls (edited l s) (n + 1) a x q.0.within q.1 e in ((within, q.0.there, r.0), r.1)

-- and lines that are all taken are done
taken_due : (ls : List Line) (s : Edits) (n : ℕ) (x : List ℕ) → AreTaken s ls → Reports (after s ls) x → AreEditsDue s n ls Done x
taken_due [] s n x t r = (refl, r)
taken_due (l ∷ ls) s n x t r =
    inr (record { there = t.1; within = taken_first (edited l s) ls t.2 }, taken_due ls (edited l s) (n + 1) x t.2 r)

script_taken : (o : PlainOptions) (text script : List ℕ) (d : Drawing) → IsDrawingOf o text d → NoneOf (edits_reasons (begun_with o d))
    → (a : Status) (x : List ℕ) → IsScriptDue (begun_with o d) script a x → a ≡ Done → IsFollowed o text script x
script_taken o text script d is within _ _ (bad_line n p) e = absurd (cc)
script_taken o text script d is within _ _ (applied ls written a x due) e =
    let r = lines_taken ls (begun_with o d) 1 a x within due e in
    record { drawing = d; lines = ls; drawn = is; written = written; taken = r.0; reports = r.1 }

edit_followed : (o : PlainOptions) (text script : List ℕ) (a : Status) (x : List ℕ) → IsEditDue o text script a x → a ≡ Done → IsFollowed o text script x
edit_followed o text script _ _ (unread f p) e = absurd (refused_not_done f e)
edit_followed o text script _ _ (too_much d is f p) e = absurd (refused_not_done f e)
edit_followed o text script _ _ (begun d is within a x due) e = script_taken o text script d is within a x due e

followed_due : (o : PlainOptions) (text script x : List ℕ) → IsFollowed o text script x → IsEditDue o text script Done x
followed_due o text script x f =
    begun f.drawing f.drawn (taken_first (begun_with o f.drawing) f.lines f.taken) Done x
    (applied f.lines f.written Done x (taken_due f.lines (begun_with o f.drawing) 1 x f.taken f.reports))

-- `edit` is done exactly where the script is followed
pub followed : (o : PlainOptions) (text script output : List ℕ) → IsEditDue o text script Done output ↔ IsFollowed o text script output
followed o text script output = (λ d. edit_followed o text script Done output d refl, λ f. followed_due o text script output f)
