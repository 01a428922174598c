use Rattle.std.proofs.Common.{arith, rules, ◌≡◌, ◌++◌, ◌∷◌, [], ℕ, inl, ap, Err, None, length-append}
use Rattle.dpl_form.specs.Lines.{lines_in}
use Rattle.dpl_words.specs.declared.edits.ScriptError.TheVariants.{Bad}
use Rattle.dpl_words.specs.Scripts.{IsNoLine}
use Rattle.dpl_words.proofs.ScriptLemmas.{line_more, fits_more, is_script, is_bad, bad_once, script_free}
use Rattle.dpl_words.proofs.scripts.script.Goals as goal

pub lines-preserved : goal.lines-preserved
lines-preserved c =
    let (e, (f, (n, b))) = c.lines.invariant in
    let first = c.in-Some.ensures in
    let m = rw c.in-Some-read.is at c.in-Ok.ensures in
    let items : c.push.new.self.items ≡ c.lines.found.items ++ c.in-Some-read.edit ∷ [] = search rules in
    let size = length-append c.lines.found.items (c.in-Some-read.edit ∷ []) in
    let less = first.1 in
    rw items (
      line_more _ c.lines.found.items c.in-Some-read.edit c.in-Some.line.now (lines_in c.lines.rest.now) (lines_in c.in-Some.others.now) e first.0 m.1,
      (fits_more c.lines.found.items c.in-Some-read.edit f m.0, (omega (arith, n, size), omega (arith, b, size, less))),
    )

pub returns-in_default-read-clause-exact : goal.returns-in_default-read-clause-exact
returns-in_default-read-clause-exact c = λ n h.
    let (e, (f, (k, b))) = c.lines.invariant in
    let none : c.in-Ok.read ≡ None = search rules in
    let bad : IsNoLine c.in-Some.line.now = rw none at c.in-Ok.ensures in
    let here = is_bad c.args.text.now c.lines.found.items c.lines.number c.in-Some.line.now (lines_in c.lines.rest.now)
    (lines_in c.in-Some.others.now) e c.in-Some.ensures.0 f k bad in
    inl (ap (λ (z : ℕ). Err (Bad z)) (bad_once c.args.text.now c.lines.number n here h))

pub returns-clause-exact : goal.returns-clause-exact
returns-clause-exact c = λ n h.
    let (e, (f, (k, b))) = c.lines.invariant in
    let empty : lines_in c.lines.rest.now ≡ [] = search rules in
    absurd (script_free c.args.text.now _ n (is_script c.args.text.now c.lines.found.items (lines_in c.lines.rest.now) e empty f) h)
