use Rattle.pblk_engine.proofs.engine_author.EngineAuthor.new.Goals as goal

pub invariant_of-result : goal.invariant_of-result
invariant_of-result c = record { engine = c.requires.engine; counts = c.requires.stops }
