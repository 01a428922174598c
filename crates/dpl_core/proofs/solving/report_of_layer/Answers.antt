use Rattle.dpl_core.proofs.solving.report_of_layer.Goals as goal

pub solve-requires : goal.solve-requires
solve-requires c = record { edges = c.requires.layer.is.few_edges }
