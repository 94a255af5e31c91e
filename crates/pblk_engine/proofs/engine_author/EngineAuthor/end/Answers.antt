use Rattle.pblk_engine.proofs.engine_author.EngineAuthor.end.Goals as goal

pub returns-clause-engine : goal.returns-clause-engine
returns-clause-engine c = c.self.invariant.engine
