-- A layout and a report have one verdict, and a layout that is refused has none.
use Rattle.std.proofs.Common.{◌≡◌, ◌⊎◌, ℕ, List, ap, sym, subst, inl, inr}
use Rattle.std.specs.Prelude.{ℤ, Result, Ok, Err, IfOk, IfErr}
use Rattle.dpl_cuts.specs.declared.types.Fragments.{Fragments}
use Rattle.dpl_sign.specs.declared.nets.Net.{Net}
use Rattle.dpl_options.specs.Options.{PlainOptions}
use Rattle.dpl_good.specs.declared.refusals.Refusal.{Refusal}
use Rattle.dpl_layer.specs.declared.error.LayerError.{LayerError}
use Rattle.dpl_layer.specs.declared.error.LayerError.TheVariants.{NoMemory}
use Rattle.dpl_cell.specs.Layers.{is_cell}
use Rattle.dpl_cif.specs.Reading.{primitives_of}
use Rattle.dpl_layer.specs.Reasons.{FirstOf, NoneOf}
use Rattle.dpl_layer.specs.Drawings.{Cells, kept_of, drawing_reasons}
use Rattle.dpl_layer.specs.Layers.{IsCutLayer, IsLayerOfText}
use Rattle.dpl_layer.specs.Refusals.{cells_reasons, layer_reasons}
use Rattle.dpl_layer.proofs.LayerLemmas.{same_layer}
use Rattle.dpl_layer.proofs.TextLemmas.{on_layer, with_layer}
use Rattle.dpl_layer.proofs.ReasonLemmas.{none_both}
use Rattle.dpl_layer.proofs.RefusalLemmas.{cells_free}
use Rattle.dpl_check.specs.declared.verdicts.Verdict.{Verdict}
use Rattle.dpl_check.specs.declared.verdicts.Verdict.TheVariants.{Yes, No}
use Rattle.dpl_check.specs.Judged.{IsVerdict}
use Rattle.dpl_check.specs.Checked.{IsVerdictOf, IsVerdictOfCells}
use Rattle.dpl_good.proofs.RefusalLemmas.{one_refusal}
use Rattle.dpl_check.proofs.GoodLemmas.{good_only}

-- the verdict that a refusal is
abbrev verdict_from : Refusal → Verdict
verdict_from r = No r.reason r.at.place r.at.found r.at.wanted

abbrev refusal_at : ℕ → ℕ → ℤ → ℤ → Refusal
refusal_at k p x y = record { reason = k; at = record { place = p; found = x; wanted = y } }

same_verdict : (o : PlainOptions) (f : Fragments) (n : Net) (text : List ℕ) (v w : Verdict) → IsVerdict o f n text v → IsVerdict o f n text w → v ≡ w
same_verdict o f n text (Yes cost bound) w a b = sym (good_only o f n text cost bound w a b)
same_verdict o f n text (No k p x y) (Yes cost bound) a b = good_only o f n text cost bound (No k p x y) b a
same_verdict o f n text (No k p x y) (No l q u z) a b =
    ap verdict_from (one_refusal o f n text (refusal_at k p x y) (refusal_at l q u z) a b)

one_of_cells : (o : PlainOptions) (report : List ℕ) (v w : Verdict) (cells kept : Cells)
    → IsVerdictOfCells o report v cells kept → IsVerdictOfCells o report w cells kept → v ≡ w
one_of_cells o report v w cells kept a b =
    let e = same_layer o cells kept b.fragments a.fragments b.net a.net b.layer.layer a.layer.layer in
    let p = subst (λ z. IsVerdict o z b.net report w) e.0 b.verdict in
    let q = subst (λ z. IsVerdict o a.fragments z report w) e.1 p in
    same_verdict o a.fragments a.net report v w a.verdict q

-- a layout and a report have at most one verdict
pub one_verdict : (o : PlainOptions) (text report : List ℕ) (v w : Verdict) → IsVerdictOf o text report v → IsVerdictOf o text report w → v ≡ w
one_verdict o text report v w a b = with_layer o text (IsVerdictOfCells o report v) (IsVerdictOfCells o report w)
    (λ cells kept p q. one_of_cells o report v w cells kept p q) a b

-- a layout with a verdict is not refused
pub verdict_free : (o : PlainOptions) (text report : List ℕ) (v : Verdict) → IsVerdictOf o text report v → NoneOf (layer_reasons o text)
verdict_free o text report v a =
    let cells = is_cell (primitives_of o.layer text) in
    let kept = is_cell (kept_of o.keep text) in
    none_both (drawing_reasons o text) (cells_reasons o cells kept) a.0 (cells_free o cells kept a.1.fragments a.1.net a.1.layer)

-- a layout that is refused has no verdict
pub verdict_not_refused : (o : PlainOptions) (text report : List ℕ) (e : LayerError) (v : Verdict)
    → FirstOf (layer_reasons o text) e → IsVerdictOf o text report v → ⊥
verdict_not_refused o text report e v r a = verdict_free o text report v a e r

-- the verdict for the layer of a text is that on the text
pub verdict_of_text : (o : PlainOptions) (text report : List ℕ) (f : Fragments) (n : Net) (v : Verdict)
    → IsLayerOfText o text f n → IsVerdict o f n report v → IsVerdictOf o text report v
verdict_of_text o text report f n v l is = on_layer o text (λ cells kept. IsCutLayer o cells kept f n)
    (IsVerdictOfCells o report v) (λ cells kept k. record { fragments = f; net = n; layer = k.is; verdict = is }) l

-- ---- what an answer says of each due one

-- the answer is the verdict on the layout and the report, but for want of memory
pub verdict_comes : (o : PlainOptions) (text report : List ℕ) (result : Result Verdict LayerError)
    → IfOk result (λ v. IsVerdictOf o text report v)
    → IfErr result (λ e. (e ≡ NoMemory) ⊎ FirstOf (layer_reasons o text) e) → (v : Verdict)
    → IsVerdictOf o text report v → (result ≡ Ok v) ⊎ (result ≡ Err NoMemory)
verdict_comes o text report (Ok w) a b v d = inl (ap Ok (one_verdict o text report w v a d))
verdict_comes o text report (Err f) a (inl n) v d = inr (ap Err n)
verdict_comes o text report (Err f) a (inr q) v d = absurd (verdict_not_refused o text report f v q d)
