use Rattle.ring_crew.proofs.crew.+crew+fn-crew-join_mut+arg3.Given as goal

abbrev pub decreases-crew : goal.decreases-crew
decreases-crew g l = l.job.makers

abbrev pub decreases-join_mut+arg3 : goal.decreases-join_mut+arg3
decreases-join_mut+arg3 g l = l.rest.makers
