use Rattle.block_target.proofs.opened.begin_logs.Goals as goal

pub new-requires-clause-opening : goal.new-requires-clause-opening
new-requires-clause-opening g c =
    c.an_opening_is_a_past.ensures.opening _ _ _ c.args.found.now c.requires.opens.accepted c.requires.opens.fit c.requires.opens.armed c.requires.found
