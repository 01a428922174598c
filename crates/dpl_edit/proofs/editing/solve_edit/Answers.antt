use Rattle.dpl_edit.specs.Optima.{solved_of}
use Rattle.dpl_edit.proofs.RecallLemmas.{known_of}
use Rattle.dpl_edit.proofs.editing.solve_edit.Goals as goal

pub solve_content-requires : goal.solve_content-requires
solve_content-requires c =
    known_of c.args.options.now (solved_of c.args.old.now) c.args.old.now.parts.items _ _
    c.as_slice-old_rects.ensures c.as_slice-known.ensures.value c.requires.old c.requires.known

pub returns-in-Ok-keep_masks-clause-solved : goal.returns-in-Ok-keep_masks-clause-solved
returns-in-Ok-keep_masks-clause-solved c = record {
  few = c.in-Ok.ensures.solved.few;
  solved = c.in-Ok-keep_masks.ensures.solved _ _ c.in-Ok.ensures.solved.solved;
}
