use Rattle.block_target.proofs.opened.make_parts.Goals as goal

pub new-requires-2-clause-fit : goal.new-requires-2-clause-fit
new-requires-2-clause-fit g c =
    c.an_opening_is_a_past.ensures.fit c.args.shape.now _ _ c.args.found c.requires.opens.accepted c.requires.opens.fit c.requires.found
