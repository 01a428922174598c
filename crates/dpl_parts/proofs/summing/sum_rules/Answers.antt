use Rattle.std.proofs.Common.{refl}
use Rattle.dpl_sign.specs.Drawings.{is_in}
use Rattle.dpl_sign.specs.Excess.{all_edges, kept_edges}
use Rattle.dpl_parts.proofs.Shared.{nodes_sum, cost_sum, broken_sum, faces_sum, odd_sum, excess_sum, kept_alike}
use Rattle.dpl_parts.proofs.Packed.{packing_sum, bound_sum, count_sum}
use Rattle.dpl_parts.proofs.Together.{colouring_sum, face_name_up, are_together}
use Rattle.dpl_parts.proofs.summing.sum_rules.Goals as goal

pub returns-clause-nodes : goal.returns-clause-nodes
returns-clause-nodes c = nodes_sum

pub returns-clause-faces : goal.returns-clause-faces
returns-clause-faces c = λ whole parts h. faces_sum whole parts h (is_in (kept_edges whole)) (λ p. is_in (kept_edges p.net)) (kept_alike whole parts h)

pub returns-clause-odd_faces : goal.returns-clause-odd_faces
returns-clause-odd_faces c = λ whole parts h. odd_sum whole parts h (is_in (kept_edges whole)) (λ p. is_in (kept_edges p.net)) (kept_alike whole parts h)

pub returns-clause-excess : goal.returns-clause-excess
returns-clause-excess c = λ whole parts h. excess_sum whole parts h all_edges (λ p. all_edges) (λ k d l e m. refl)

pub returns-clause-cost : goal.returns-clause-cost
returns-clause-cost c = cost_sum

pub returns-clause-broken : goal.returns-clause-broken
returns-clause-broken c = broken_sum

pub returns-clause-colouring : goal.returns-clause-colouring
returns-clause-colouring c = colouring_sum

pub returns-clause-packing : goal.returns-clause-packing
returns-clause-packing c = packing_sum

pub returns-clause-bound : goal.returns-clause-bound
returns-clause-bound c = bound_sum

pub returns-clause-count : goal.returns-clause-count
returns-clause-count c = count_sum

pub returns-clause-names : goal.returns-clause-names
returns-clause-names c = face_name_up

pub returns-clause-together : goal.returns-clause-together
returns-clause-together c = are_together
