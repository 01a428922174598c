use Rattle.dpl_ext.proofs.TakenLemmas.{front_by_count, count_by_front}
use Rattle.dpl_ext.proofs.laws.fronts_are_taken.Goals as goal

pub returns : goal.returns
returns c taken taken_now bytes = (front_by_count taken taken_now bytes, count_by_front taken taken_now bytes)
