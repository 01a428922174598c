use Rattle.std.proofs.Common.{refl}
use Rattle.std.proofs.Math.IntN.{neg_ℤ-neg_ℤ}
use Rattle.dpl_calls.proofs.TurnLaws.{mirrored_sense}
use Rattle.dpl_calls.proofs.laws.mirrors_undo.Goals as goal

pub returns-clause-x_twice : goal.returns-clause-x_twice
returns-clause-x_twice c p = rw (neg_ℤ-neg_ℤ p.x) refl

pub returns-clause-y_twice : goal.returns-clause-y_twice
returns-clause-y_twice c p = rw (neg_ℤ-neg_ℤ p.y) refl

pub returns-clause-x_axis : goal.returns-clause-x_axis
returns-clause-x_axis c y = refl

pub returns-clause-y_axis : goal.returns-clause-y_axis
returns-clause-y_axis c x = refl

pub returns-clause-x_sense : goal.returns-clause-x_sense
returns-clause-x_sense c p = mirrored_sense p.x p.y

pub returns-clause-y_sense : goal.returns-clause-y_sense
returns-clause-y_sense c p = refl
