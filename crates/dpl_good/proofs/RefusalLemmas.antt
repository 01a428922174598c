-- A text has at most one refusal, and none where it is good.
use Rattle.std.proofs.Common.{arith, ◌≡◌, ◌≢◌, ◌∙◌, ◌≤◌, ℕ, List, sym, ap, subst, inl, inr}
use Rattle.std.specs.Prelude.{Option, Some, None, pos}
use Rattle.dpl_rules.specs.Readers.{or_else}
use Rattle.dpl_form.specs.Lines.{lines_in}
use Rattle.dpl_sign.specs.declared.nets.Net.{Net}
use Rattle.dpl_cuts.specs.declared.types.Fragments.{Fragments}
use Rattle.dpl_options.specs.Options.{PlainOptions}
use Rattle.dpl_report.specs.Plain.{PlainReport}
use Rattle.dpl_report.specs.ReportLines.{report_lines, report_text}
use Rattle.dpl_report.specs.Valid.{IsReport}
use Rattle.dpl_report.proofs.TextFormat.{same_text}
use Rattle.dpl_good.specs.declared.refusals.Miss.{Miss}
use Rattle.dpl_good.specs.declared.refusals.Refusal.{Refusal}
use Rattle.dpl_good.specs.Misses.{miss}
use Rattle.dpl_good.specs.Verdicts.{IsNoReport, FailsLater, IsRefusal, IsGood, refused, refusal_of}
use Rattle.dpl_good.proofs.FirstWrong.{one_first_wrong}

-- a text is that of one report
pub one_report : (text : List ℕ) (r s : PlainReport) → IsReport r → text ≡ report_text r → IsReport s
    → text ≡ report_text s → r ≡ s
one_report text r s f d g e = same_text r s f g (sym d ∙ e)

-- condition 1 at this line
abbrev at_line : ℕ → Refusal
at_line n = record { reason = 1; at = miss n (pos 0) (pos 0) }

-- a text that is no report's is refused at condition 1
pub unread_at_one : (text : List ℕ) (x : Refusal) → IsNoReport text x
    → (x.reason ≡ 1) × ((r : PlainReport) → IsReport r → text ≢ report_text r)
unread_at_one text x p = (ap (λ (y : Refusal). y.reason) p.told, p.none)

-- ---- the number of a condition that fails

-- where there is a refusal, it is at one of the conditions 2 to 9
abbrev IsLater : Option Refusal → Type 0
IsLater o = (x : Refusal) → o ≡ Some x → (2 ≤ x.reason) × (x.reason ≤ 9)

-- of two, the first that is there is so
either_later : (a b : Option Refusal) → IsLater a → IsLater b → IsLater (or_else a b)
either_later None b p q = q
either_later (Some y) b p q = p

abbrev reason_in : Option Refusal → ℕ
reason_in None = 0
reason_in (Some x) = x.reason

one_later : (n : ℕ) (m : Option Miss) → 2 ≤ n → n ≤ 9 → IsLater (refused n m)
one_later n None low high x e = absurd (cc)
one_later n (Some m) low high x e =
    let is : n ≡ x.reason = ap reason_in e in
    (subst (λ k. 2 ≤ k) is low, subst (λ k. k ≤ 9) is high)

refusal_later : (o : PlainOptions) (f : Fragments) (net : Net) (r : PlainReport) → IsLater (refusal_of o f net r)
refusal_later o f net r =
    either_later _ _ (one_later 2 _ (omega arith) (omega arith))
    (either_later _ _ (one_later 3 _ (omega arith) (omega arith))
    (either_later _ _ (one_later 4 _ (omega arith) (omega arith))
    (either_later _ _ (one_later 5 _ (omega arith) (omega arith))
    (either_later _ _ (one_later 6 _ (omega arith) (omega arith))
    (either_later _ _ (one_later 7 _ (omega arith) (omega arith))
    (either_later _ _ (one_later 8 _ (omega arith) (omega arith))
    (one_later 9 _ (omega arith) (omega arith))))))))

-- the text of a report is refused at a later condition
pub read_at_later : (o : PlainOptions) (f : Fragments) (net : Net) (text : List ℕ) (x : Refusal) → FailsLater o f net text x
    → (2 ≤ x.reason) × (x.reason ≤ 9) × ((r : PlainReport) × IsReport r × (text ≡ report_text r))
read_at_later o f net text x p =
    let l = refusal_later o f net p.report x p.fails in
    (l.0, l.1, (p.report, p.valid, p.written))

-- ---- at most one

-- a text has at most one refusal
pub one_refusal : (o : PlainOptions) (f : Fragments) (net : Net) (text : List ℕ) (x y : Refusal)
    → IsRefusal o f net text x → IsRefusal o f net text y → x ≡ y
one_refusal o f net text x y (inl p) (inl q) =
    p.told ∙ ap at_line (one_first_wrong report_lines IsReport (lines_in text) p.place q.place p.first q.first) ∙
    sym q.told
one_refusal o f net text x y (inl p) (inr q) = absurd (p.none q.report q.valid q.written)
one_refusal o f net text x y (inr p) (inl q) = absurd (q.none p.report p.valid p.written)
one_refusal o f net text x y (inr p) (inr q) =
    let same : p.report ≡ q.report = one_report text p.report q.report p.valid p.written q.valid q.written in
    let both : ◌≡◌ {A = Option Refusal} (Some x) (Some y) = sym p.fails ∙ ap (refusal_of o f net) same ∙ q.fails in
    cc

-- a good text has none
pub good_is_kept : (o : PlainOptions) (f : Fragments) (net : Net) (text : List ℕ) (x : Refusal) → IsGood o f net text → ¬ IsRefusal o f net text x
good_is_kept o f net text x g (inl p) = p.none g.report g.valid g.written
good_is_kept o f net text x g (inr p) =
    let same : p.report ≡ g.report = one_report text p.report g.report p.valid p.written g.valid g.written in
    let both : ◌≡◌ {A = Option Refusal} (Some x) None = sym p.fails ∙ ap (refusal_of o f net) same ∙ g.good in
    absurd (cc)
