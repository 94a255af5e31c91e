use Rattle.pblk_cli.proofs.laws.a_thread_alone_is_refused_for_its_own.Goals as goal

pub returns : goal.returns
returns c = λ found left options commands t run few. run.worn.alone few
