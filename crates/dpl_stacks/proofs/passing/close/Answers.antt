use Rattle.std.proofs.Common.{◌∙◌, ap, reverse, Vec}
use Rattle.std.specs.declared.alloc.Global.{Global}
use Rattle.dpl_cell.specs.declared.rect.Rect.{Rect}
use Rattle.dpl_stacks.specs.Stacks.{joined}
use Rattle.dpl_stacks.proofs.BlockLemmas.{closed_whole}
use Rattle.dpl_stacks.proofs.passing.close.Goals as goal

pub returns-clause-whole : goal.returns-clause-whole
returns-clause-whole c = closed_whole (joined c.args.stacks.now.far_left.items) c.args.stacks.now.left.items
    c.args.stacks.now.right.items _ c.move_back.new.from.items c.replace-all.result.items
    (joined (reverse c.args.stacks.now.far_right.items)) c.push_blocks.new.blocks.items c.in_ok-move_back.ensures.from
    (ap (λ (v : Vec Rect Global). v.items) c.replace-all.ensures.value ∙ c.in_ok-move_back.ensures.to)
    (ap (λ (v : Vec Rect Global). v.items) c.replace-all.ensures.after ∙ c.new.ensures.items) c.in_ok-push_blocks.ensures
