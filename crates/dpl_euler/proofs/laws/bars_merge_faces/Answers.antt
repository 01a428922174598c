use Rattle.dpl_euler.proofs.MergeLemmas.{whole_face, bar_joins, bar_apart, bar_merges, bar_raises}
use Rattle.dpl_euler.proofs.laws.bars_merge_faces.Goals as goal

pub returns-clause-whole : goal.returns-clause-whole
returns-clause-whole c bar b d l = whole_face c.args.net.now bar b d l

pub returns-clause-apart : goal.returns-clause-apart
returns-clause-apart c bar b lies = bar_apart c.args.net.now bar b lies

pub returns-clause-faces : goal.returns-clause-faces
returns-clause-faces c bar b =
    ((bar_merges c.args.net.now bar b).crosses (bar_joins c.args.net.now bar b) (bar_apart c.args.net.now bar b)).0

pub returns-clause-components : goal.returns-clause-components
returns-clause-components c bar b =
    ((bar_merges c.args.net.now bar b).crosses (bar_joins c.args.net.now bar b) (bar_apart c.args.net.now bar b)).1

pub returns-clause-excess : goal.returns-clause-excess
returns-clause-excess c bar b = bar_raises c.args.net.now bar b
