-- What is due for `edit`: one answer at most, and the end of its work.
use Rattle.std.proofs.Common.{arith, ◌≡◌, ◌⊎◌, ◌∙◌, ◌+◌, ◌≤◌, ℕ, List, [], ◌∷◌, ◌++◌, append-nil, length, map, Option, true, refl, sym, ap, subst, inl, inr}
use Rattle.std.specs.Prelude.{Result, Ok, Err}
use Rattle.dpl_cell.specs.declared.rect.Rect.{Rect}
use Rattle.dpl_cell.specs.declared.layout.Primitive.{Primitive}
use Rattle.dpl_options.specs.Options.{PlainOptions, PlainWeights}
use Rattle.dpl_layer.specs.declared.drawing.Drawing.{Drawing}
use Rattle.dpl_layer.specs.declared.error.LayerError.{LayerError}
use Rattle.dpl_layer.specs.declared.error.LayerError.TheVariants as refusal
use Rattle.dpl_layer.specs.Reasons.{FirstOf, NoneOf}
use Rattle.dpl_layer.specs.Drawings.{IsDrawingOf, drawing_reasons}
use Rattle.dpl_layer.proofs.ReasonLemmas.{IsOnce, first_has}
use Rattle.dpl_layer.proofs.RefusalLemmas.{HasKind, drawing_kinds, one_drawing_refusal}
use Rattle.dpl_edit.specs.declared.placed.Placed.{Placed}
use Rattle.dpl_edit.specs.declared.errors.RemoveError.{RemoveError}
use Rattle.dpl_edit.specs.declared.errors.RemoveError.TheVariants as removal
use Rattle.dpl_edit.specs.Contents.{content, boxes_without, content_reasons, HasBox, Refuses}
use Rattle.dpl_edit.specs.Sessions.{State, IsBegun, IsEdited, RefusesRemoval}
use Rattle.dpl_edit.proofs.RefusalLemmas.{content_kind, content_once}
use Rattle.dpl_words.specs.declared.command.Command.{Command}
use Rattle.dpl_words.specs.declared.edits.Line.{Line}
use Rattle.dpl_words.specs.declared.edits.Line.TheVariants.{Add, Remove}
use Rattle.dpl_words.specs.declared.edits.ScriptError.{ScriptError}
use Rattle.dpl_words.specs.declared.edits.ScriptError.TheVariants as script
use Rattle.dpl_words.specs.Scripts.{plain_line, IsScript, IsFirstBad}
use Rattle.dpl_words.proofs.ScriptLemmas.{bad_once, script_free}
use Rattle.dpl_run.specs.declared.status.Status.{Status}
use Rattle.dpl_run.specs.declared.status.Status.TheVariants.{Done, Rejected, Usage, Layout, Limit, Script, ReadFault, WriteFault, NoMemory}
use Rattle.dpl_run.specs.Inputs.{follows}
use Rattle.dpl_run.specs.due.Edit.{Edits, begun_with, edits_of, edited, edits_reasons, Reports, StopsAt, IsTaken, AreEditsDue, IsScriptDue, IsEditDue}
use Rattle.dpl_run.specs.due.Edit.StopsAt.{missing, over}
use Rattle.dpl_run.specs.due.Edit.IsScriptDue.{bad_line, applied}
use Rattle.dpl_run.specs.due.Edit.IsEditDue.{unread, too_much, begun}
use Rattle.dpl_run.specs.Errors.{status_of, of_removal, of_script}
use Rattle.dpl_run.specs.Telling.{IsWorked}
use Rattle.dpl_run.proofs.EndLemmas.{AllEnd, Ends, error_ends}
use Rattle.dpl_run.proofs.LineLemmas.{one_script, prims_same}

-- ---- one answer at most

one_over : (s : Edits) → IsOnce (FirstOf (edits_reasons s))
one_over s = content_once s.options (content s.begun s.boxes) s.keep

one_stop : (s : Edits) (n : ℕ) (l : Line) (a b : Status) (x y : List ℕ) → StopsAt s n l a x → StopsAt s n l b y → a ≡ b
one_stop s n l _ _ _ _ (missing p) (missing q) = refl
one_stop s n l _ _ _ _ (missing p) (over e there q) = absurd (there p)
one_stop s n l _ _ _ _ (over e there p) (missing q) = absurd (there q)
one_stop s n l _ _ _ _ (over e there p) (over f here q) = ap status_of (one_over (edited l s) e f p q)

stops_alone : (s : Edits) (n : ℕ) (l : Line) (a : Status) (x : List ℕ) → StopsAt s n l a x → IsTaken s l → ⊥
stops_alone s n l _ _ (missing p) g = g.there p
stops_alone s n l _ _ (over e there p) g = g.within e p

one_edits : (ls : List Line) (s : Edits) (n : ℕ) (a b : Status) (x y : List ℕ) → AreEditsDue s n ls a x → AreEditsDue s n ls b y → a ≡ b
one_edits [] s n a b x y p q = p.0 ∙ sym q.0
one_edits (l ∷ ls) s n a b x y (inl p) (inl q) = one_stop s n l a b x y p q
one_edits (l ∷ ls) s n a b x y (inl p) (inr q) = absurd (stops_alone s n l a x p q.0)
one_edits (l ∷ ls) s n a b x y (inr p) (inl q) = absurd (stops_alone s n l b y q p.0)
one_edits (l ∷ ls) s n a b x y (inr p) (inr q) = one_edits ls (edited l s) (n + 1) a b x y p.1 q.1

one_script_due : (s : Edits) (text : List ℕ) (a b : Status) (x y : List ℕ) → IsScriptDue s text a x → IsScriptDue s text b y → a ≡ b
one_script_due s text _ _ _ _ (bad_line m p) (bad_line n q) = ap (λ (z : ℕ). Script z 1) (bad_once text m n p q)
one_script_due s text _ _ _ _ (bad_line m p) (applied ls is b y d) = absurd (script_free text (map plain_line ls) m is p)
one_script_due s text _ _ _ _ (applied ls is a x d) (bad_line n q) = absurd (script_free text (map plain_line ls) n is q)
one_script_due s text _ _ _ _ (applied ls is a x d) (applied ms also b y g) =
    one_edits ls s 1 a b x y d (subst (λ z. AreEditsDue s 1 z b y) (sym (one_script text ls ms is also)) g)

same_start : (o : PlainOptions) (text : List ℕ) (d e : Drawing) → IsDrawingOf o text d → IsDrawingOf o text e → begun_with o e ≡ begun_with o d
same_start o text d e a b =
    let l : e.layer.prims ≡ d.layer.prims = prims_same e.layer.prims d.layer.prims (b.layer ∙ sym a.layer) in
    let k : e.keep.prims ≡ d.keep.prims = prims_same e.keep.prims d.keep.prims (b.keep ∙ sym a.keep) in
    rw (l, k) refl

-- at most one status is due for edit
pub one_edit : (o : PlainOptions) (text second : List ℕ) (a b : Status) (x y : List ℕ) → IsEditDue o text second a x → IsEditDue o text second b y → a ≡ b
one_edit o text second _ _ _ _ (unread e r) (unread f q) = ap status_of (one_drawing_refusal o text e f r q)
one_edit o text second _ _ _ _ (unread e r) (too_much d is f p) = absurd (is.taken e r)
one_edit o text second _ _ _ _ (unread e r) (begun d is w b y due) = absurd (is.taken e r)
one_edit o text second _ _ _ _ (too_much d is e p) (unread f q) = absurd (is.taken f q)
one_edit o text second _ _ _ _ (too_much d is e p) (too_much g also f q) =
    ap status_of (one_over (begun_with o d) e f p (subst (λ z. FirstOf (edits_reasons z) f) (same_start o text d g is also) q))
one_edit o text second _ _ _ _ (too_much d is e p) (begun g also w b y due) =
    absurd (subst (λ z. NoneOf (edits_reasons z)) (same_start o text d g is also) w e p)
one_edit o text second _ _ _ _ (begun d is w a x due) (unread f q) = absurd (is.taken f q)
one_edit o text second _ _ _ _ (begun d is w a x due) (too_much g also f q) =
    absurd (w f (subst (λ z. FirstOf (edits_reasons z) f) (same_start o text d g is also) q))
one_edit o text second _ _ _ _ (begun d is w a x due) (begun g also v b y other) =
    one_script_due (begun_with o d) second a b x y due (subst (λ z. IsScriptDue z second b y) (same_start o text d g is also) other)

-- ---- the end of the work

over_ends : (c : Command) → (s : Edits) (e : LayerError) → FirstOf (edits_reasons s) e → Ends c (status_of e) []
over_ends c s e r = by_kind e (content_kind s.options (content s.begun s.boxes) s.keep e r) where
  by_kind : (e : LayerError) → HasKind ⊥ 7 e → Ends c (status_of e) []
  by_kind (refusal.Limit k n) h = (h, refl)
  by_kind (refusal.Layout command what) h = absurd h
  by_kind refusal.NoMemory h = absurd h

stop_ends : (c : Command) → follows c ≡ true → (s : Edits) (n : ℕ) (l : Line) (a : Status) (x : List ℕ) → StopsAt s n l a x → Ends c a x
stop_ends c following s n l _ _ (missing p) = (following, refl)
stop_ends c following s n l _ _ (over e there p) = over_ends c (edited l s) e p

edits_end : (c : Command) → follows c ≡ true
    → (ls : List Line) (s : Edits) (n : ℕ) (a : Status) (x : List ℕ) → AreEditsDue s n ls a x → Ends c a x
edits_end c following [] s n a x d = subst (λ z. Ends c z x) (sym d.0) tt
edits_end c following (l ∷ ls) s n a x (inl p) = stop_ends c following s n l a x p
edits_end c following (l ∷ ls) s n a x (inr q) = edits_end c following ls (edited l s) (n + 1) a x q.1

script_ends : (c : Command) → follows c ≡ true
    → (s : Edits) (text : List ℕ) (a : Status) (x : List ℕ) → IsScriptDue s text a x → Ends c a x
script_ends c following s text _ _ (bad_line n b) = (following, refl)
script_ends c following s text _ _ (applied ls is a x d) = edits_end c following ls s 1 a x d

-- what is due for edit ends the work of a command that follows a script
pub edit_ends : (c : Command) → follows c ≡ true → (o : PlainOptions) (text second : List ℕ) → AllEnd c (IsEditDue o text second)
edit_ends c following o text second _ _ (unread e r) =
    let K : (f : LayerError) → FirstOf (drawing_reasons o text) f → HasKind (Unit {0}) 7 f =
    λ f q. first_has (HasKind (Unit {0}) 7) (drawing_reasons o text) f (drawing_kinds 7 (omega arith) o text) q in
    error_ends c (FirstOf (drawing_reasons o text)) (K refusal.NoMemory) (λ k n p. K (refusal.Limit k n) p) e r
edit_ends c following o text second _ _ (too_much d is e p) = over_ends c (begun_with o d) e p
edit_ends c following o text second _ _ (begun d is w a x due) = script_ends c following (begun_with o d) second a x due

-- ---- a session

-- after an edit the session has its new boxes and count, and all else as before
pub of_edited : (old new : State) (boxes : List Placed) (count : ℕ) → IsEdited old new boxes count
    → edits_of new ≡ record { options = old.options; begun = old.begun; keep = old.keep; boxes = boxes; count = count }
of_edited old new boxes count e = rw (e.options, e.begun, e.keep, e.boxes_are, e.count_is) refl

-- a session that was begun is that of the drawing
pub of_begun : (o : PlainOptions) (d : Drawing) (s : State) → IsBegun o d s → edits_of s ≡ begun_with o d
of_begun o d s b = rw (b.options, b.begun, b.keep, b.boxes, b.count) refl

-- a content that was taken is not refused
taken_within : {T : Type 0} (o : PlainOptions) (prims keep : List Primitive) (result : Result T LayerError) (v : T) → result ≡ Ok v
    → ((e : LayerError) → Refuses o prims keep e → (result ≡ Err e) ⊎ (result ≡ Err refusal.NoMemory)) → NoneOf (content_reasons o prims keep)
taken_within o prims keep result v is exact = λ e p. elim (exact e p) [
  | inl a ↦ absurd (cc)
  | inr a ↦ absurd (cc)
]

-- a session that was begun passes no limit
pub begun_within : {T : Type 0} (o : PlainOptions) (d : Drawing) (result : Result T LayerError) (v : T) → result ≡ Ok v
    → ((e : LayerError) → Refuses o d.layer.prims d.keep.prims e → (result ≡ Err e) ⊎ (result ≡ Err refusal.NoMemory)) → NoneOf (edits_reasons (begun_with o d))
begun_within o d result v is exact =
    taken_within o (d.layer.prims ++ []) d.keep.prims result v is
    (subst (λ z. (e : LayerError) → Refuses o z d.keep.prims e → (result ≡ Err e) ⊎ (result ≡ Err refusal.NoMemory))
    (sym (append-nil d.layer.prims)) exact)

-- a line is taken where its box was added
pub added_goes_on : {T : Type 0} (s : State) (rect : Rect) (result : Result T LayerError) (v : T) → result ≡ Ok v
    → ((e : LayerError) → Refuses s.options (content s.begun (s.boxes ++ record { number = s.count; rect = rect } ∷ []))
    s.keep e → (result ≡ Err e) ⊎ (result ≡ Err refusal.NoMemory))
    → IsTaken (edits_of s) (Add rect)
added_goes_on s rect result v is exact = record {
  there = λ p. p;
  within = taken_within s.options (content s.begun (s.boxes ++ record { number = s.count; rect = rect } ∷ [])) s.keep result v is exact;
}

-- the script stops at a line whose box is refused, but for want of memory
pub add_stops : (s : State) (rect : Rect) (e : LayerError) (status : Status) → status ≡ status_of e
    → (e ≡ refusal.NoMemory) ⊎ Refuses s.options (content s.begun (s.boxes ++ record { number = s.count; rect = rect } ∷ [])) s.keep e
    → (n : ℕ) → (status ≡ NoMemory) ⊎ StopsAt (edits_of s) n (Add rect) status []
add_stops s rect e status is (inl m) n = inl (is ∙ ap status_of m)
add_stops s rect e status is (inr r) n = inr (subst (λ z. StopsAt (edits_of s) n (Add rect) z []) (sym is) (over e (λ p. p) r))

removed_within : {T : Type 0} (s : State) (number : ℕ) (result : Result T RemoveError) (v : T) → result ≡ Ok v
    → HasBox number s.boxes
    → ((e : RemoveError) → RefusesRemoval s number e → (result ≡ Err e) ⊎ (result ≡ Err (removal.Refused refusal.NoMemory)))
    → NoneOf (content_reasons s.options (content s.begun (boxes_without number s.boxes)) s.keep)
removed_within s number result v is there exact = λ e p. elim (exact (removal.Refused e) (there, p)) [
  | inl a ↦ absurd (cc)
  | inr a ↦ absurd (cc)
]

-- a line is taken where its box was there and was removed
pub removed_goes_on : {T : Type 0} (s : State) (number : ℕ) (result : Result T RemoveError) (v : T) → result ≡ Ok v → HasBox number s.boxes
    → ((e : RemoveError) → RefusesRemoval s number e → (result ≡ Err e) ⊎ (result ≡ Err (removal.Refused refusal.NoMemory))) → IsTaken (edits_of s) (Remove number)
removed_goes_on s number result v is there exact = record { there = λ p. p there; within = removed_within s number result v is there exact }

-- the script stops at a line whose removal is refused, but for want of memory
pub removal_stops : (s : State) (number n : ℕ) (e : RemoveError) (status : Status) → status ≡ of_removal n e
    → (e ≡ removal.Refused refusal.NoMemory) ⊎ RefusesRemoval s number e
    → (status ≡ NoMemory) ⊎ StopsAt (edits_of s) n (Remove number) status []
removal_stops s number n e status is (inl m) = inl (is ∙ ap (of_removal n) m)
removal_stops s number n (removal.NoBox m) status is (inr r) = inr (subst (λ z. StopsAt (edits_of s) n (Remove number) z []) (sym is) (missing r.1))
removal_stops s number n (removal.Refused e) status is (inr r) =
    inr (subst (λ z. StopsAt (edits_of s) n (Remove number) z []) (sym is) (over e (λ p. p r.0) r.1))

-- ---- the lines in order

-- what is due for the lines that are left is due for all
abbrev pub LeadsTo : Edits → List Line → Edits → ℕ → List Line → Type 0
LeadsTo s ls t n rest = (status : Status) (output : List ℕ) → AreEditsDue t n rest status output → AreEditsDue s 1 ls status output

-- a line that is taken leads one line further
pub leads_on : (s t u : Edits) (ls rest others : List Line) (n m : ℕ) (line : Line) → LeadsTo s ls t n rest
    → rest ≡ line ∷ others → IsTaken t line → u ≡ edited line t → m ≡ n + 1 → LeadsTo s ls u m others
leads_on s t u ls rest others n m line lead r g a e status output d =
    let here : AreEditsDue (edited line t) (n + 1) others status output =
    subst (λ z. AreEditsDue z (n + 1) others status output) a
    (subst (λ z. AreEditsDue u z others status output) e d) in
    lead status output (subst (λ z. AreEditsDue t n z status output) (sym r) (inr (g, here)))

-- the status of the line at which a script stops is due, but for want of memory
pub leads_stop : (s t : Edits) (ls rest others : List Line) (n : ℕ) (line : Line) (status : Status) → LeadsTo s ls t n rest → rest ≡ line ∷ others
    → (status ≡ NoMemory) ⊎ StopsAt t n line status [] → (status ≡ NoMemory) ⊎ AreEditsDue s 1 ls status []
leads_stop s t ls rest others n line status lead r (inl m) = inl m
leads_stop s t ls rest others n line status lead r (inr p) = inr (lead status [] (subst (λ z. AreEditsDue t n z status []) (sym r) (inl p)))

none_left : (ls : List Line) → length ls ≡ 0 → ls ≡ []
none_left [] e = refl
none_left (l ∷ ls) e = absurd (omega (arith, e))

-- after the last line the report of the session is due
pub leads_end : (s t : Edits) (ls rest : List Line) (n : ℕ) → LeadsTo s ls t n rest → length rest ≡ 0
    → (output : List ℕ) → Reports t output → AreEditsDue s 1 ls Done output
leads_end s t ls rest n lead none output p = lead Done output (subst (λ z. AreEditsDue t n z Done output) (sym (none_left rest none)) (refl, p))

-- a line adds one box at most
pub count_after : (line : Line) (s t : Edits) → t ≡ edited line s → t.count ≤ s.count + 1
count_after (Add rect) s t e = let a = ap (λ (z : Edits). z.count) e in omega (arith, a)
count_after (Remove number) s t e = let a = ap (λ (z : Edits). z.count) e in omega (arith, a)

-- ---- what the work answers

-- what was worked for one thing that is due was worked for all that follows from it
pub worked_as : (Due Other : Status → List ℕ → Type 0) → ((a : Status) (x : List ℕ) → Due a x → Other a x)
    → (a : Status) (x : List ℕ) → IsWorked Due a x → IsWorked Other a x
worked_as Due Other f Done x p = f Done x p
worked_as Due Other f (Rejected reason place found wanted) x p = f (Rejected reason place found wanted) x p
worked_as Due Other f (Usage kind) x p = f (Usage kind) x p
worked_as Due Other f (Layout command what) x p = f (Layout command what) x p
worked_as Due Other f (Limit kind count) x p = f (Limit kind count) x p
worked_as Due Other f (Script line kind) x p = f (Script line kind) x p
worked_as Due Other f ReadFault x p = f ReadFault x p
worked_as Due Other f WriteFault x p = f WriteFault x p
worked_as Due Other f NoMemory x p = p

or_due : (Due : Status → List ℕ → Type 0) (a : Status) → (a ≡ NoMemory) ⊎ Due a [] → IsWorked Due a []
or_due Due a (inl m) = subst (λ z. IsWorked Due z []) (sym m) refl
or_due Due Done (inr d) = d
or_due Due (Rejected reason place found wanted) (inr d) = d
or_due Due (Usage kind) (inr d) = d
or_due Due (Layout command what) (inr d) = d
or_due Due (Limit kind count) (inr d) = d
or_due Due (Script line kind) (inr d) = d
or_due Due ReadFault (inr d) = d
or_due Due WriteFault (inr d) = d
or_due Due NoMemory (inr d) = refl

-- a refusal with nothing written
pub worked_bare_at : (Due : Status → List ℕ → Type 0) (a s : Status) (x : List ℕ) → (a ≡ NoMemory) ⊎ Due a [] → s ≡ a → x ≡ [] → IsWorked Due s x
worked_bare_at Due a s x h is none = subst (λ z. IsWorked Due z x) (sym is) (subst (IsWorked Due a) (sym none) (or_due Due a h))

-- a session that was begun is followed
pub begun_worked : {T : Type 0} (o p : PlainOptions) (text second : List ℕ) (d : Drawing)
    → (result : Result T LayerError) (v : T) (s : State) (a : Status) (x : List ℕ) → p ≡ o
    → IsDrawingOf o text d → result ≡ Ok v
    → ((e : LayerError) → Refuses p d.layer.prims d.keep.prims e → (result ≡ Err e) ⊎ (result ≡ Err refusal.NoMemory))
    → IsBegun p d s → IsWorked (IsScriptDue (edits_of s) second) a x → IsWorked (IsEditDue o text second) a x
begun_worked o p text second d result v s a x same is ok exact b w =
    let within : NoneOf (edits_reasons (begun_with o d)) = subst (λ z. NoneOf (edits_reasons (begun_with z d))) same (begun_within p d result v ok exact) in
    let begins : IsBegun o d s = subst (λ z. IsBegun z d s) same b in
    worked_as (IsScriptDue (edits_of s) second) (IsEditDue o text second)
    (λ c y due. begun d is within c y (subst (λ z. IsScriptDue z second c y) (of_begun o d s begins) due)) a x w

too_much_due : (o : PlainOptions) (text second : List ℕ) (d : Drawing) (e : LayerError) (a : Status) (x : List ℕ)
    → IsDrawingOf o text d → (e ≡ refusal.NoMemory) ⊎ Refuses o d.layer.prims d.keep.prims e → a ≡ status_of e
    → x ≡ [] → IsWorked (IsEditDue o text second) a x
too_much_due o text second d e a x is (inl m) s none = worked_bare_at (IsEditDue o text second) NoMemory a x (inl refl) (s ∙ ap status_of m) none
too_much_due o text second d e a x is (inr r) s none =
    worked_bare_at (IsEditDue o text second) (status_of e) a x
    (inr (too_much d is e (subst (λ z. Refuses o z d.keep.prims e) (sym (append-nil d.layer.prims)) r))) s none

-- where the drawing is refused, that status ends the work
pub too_much_worked : (o p : PlainOptions) (text second : List ℕ) (d : Drawing) (e : LayerError) (a : Status) (x : List ℕ) → p ≡ o → IsDrawingOf o text d
    → (e ≡ refusal.NoMemory) ⊎ Refuses p d.layer.prims d.keep.prims e → a ≡ status_of e → x ≡ [] → IsWorked (IsEditDue o text second) a x
too_much_worked o p text second d e a x same is h = too_much_due o text second d e a x is
    (subst (λ z. (e ≡ refusal.NoMemory) ⊎ Refuses z d.layer.prims d.keep.prims e) same h)

-- where the text is no script, its first bad line ends the work
pub no_script_worked : {T : Type 0} (s : Edits) (text : List ℕ) (result : Result T ScriptError) (e : ScriptError) (a : Status) (x : List ℕ) → result ≡ Err e
    → ((n : ℕ) → result ≡ Err (script.Bad n) → IsFirstBad text n) → a ≡ of_script e → x ≡ [] → IsWorked (IsScriptDue s text) a x
no_script_worked s text result (script.Bad n) a x is bad e none = worked_bare_at (IsScriptDue s text) (Script n 1) a x (inr (bad_line n (bad n is))) e none
no_script_worked s text result script.NoMemory a x is bad e none = worked_bare_at (IsScriptDue s text) NoMemory a x (inl refl) e none

-- what ends the work on the lines of a script ends that on its text
pub script_worked : (s : Edits) (text : List ℕ) (ls lines : List Line) (a : Status) (x : List ℕ)
    → IsScript text (map plain_line ls) → lines ≡ ls → IsWorked (AreEditsDue s 1 lines) a x
    → IsWorked (IsScriptDue s text) a x
script_worked s text ls lines a x is same w =
    worked_as (AreEditsDue s 1 lines) (IsScriptDue s text) (λ b y d. applied ls is b y (subst (λ z. AreEditsDue s 1 z b y) same d)) a x w

-- ---- options by their values

-- options with the same parts are the same
pub same_plain : (o : PlainOptions) (layer : List ℕ) (space overlap : ℕ) (weights : PlainWeights) (keep : Option (List ℕ))
    → layer ≡ o.layer → space ≡ o.space → overlap ≡ o.overlap → weights ≡ o.weights → keep ≡ o.keep
    → ◌≡◌ {A = PlainOptions} (record { layer = layer; space = space; overlap = overlap; weights = weights; keep = keep }) o
same_plain o layer space overlap weights keep a b c d e = rw (a, b, c, d, e) refl
