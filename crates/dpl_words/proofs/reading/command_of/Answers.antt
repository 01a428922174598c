use Rattle.std.proofs.Common.{◌≡◌, ◌∙◌, sym, ap, ap₂, subst, [], Option}
use Rattle.std.specs.Prelude.{IfOk}
use Rattle.clap.specs.Simple.{App, app_of}
use Rattle.dpl_words.specs.Grammar.{file_options, free_options, options_of, split_options}
use Rattle.dpl_words.specs.Reading.{app, with_rules}
use Rattle.dpl_words.specs.Works.{file_of}
use Rattle.dpl_words.specs.declared.mode.Mode.{Mode}
use Rattle.dpl_words.specs.declared.work.FileOption.{FileOption}
use Rattle.dpl_words.proofs.ClapLemmas.{layout_rules}
use Rattle.dpl_words.proofs.reading.command_of.Goals as goal

pub returns-in_ok-command-in-Layout-2 : goal.returns-in_ok-command-in-Layout-2
returns-in_ok-command-in-Layout-2 c =
    let file = file_of c.in-Layout.work in
    let first : app_of c.in_ok-command-in-Layout.command ≡ with_rules (app []) free_options =
    c.in_ok-command-in-Layout.ensures ∙ ap (λ (a : App). with_rules a free_options) c.no_options-command.ensures in
    let second : app_of c.in_ok-command-in-Layout-2.command ≡ with_rules (with_rules (app []) free_options) (file_options file) =
    c.in_ok-command-in-Layout-2.ensures ∙ ap₂ (λ (a : App) (f : Option FileOption). with_rules a (file_options f)) first c.file_option.ensures in
    let all = ap (λ (a : App). with_rules a split_options) second ∙ layout_rules file ∙
    ap (λ (m : Mode). app (options_of m)) (sym c.in-Layout.is) in
    subst (λ (z : App). IfOk c.with_split_options.result (λ r. app_of r ≡ z)) all c.with_split_options.ensures
