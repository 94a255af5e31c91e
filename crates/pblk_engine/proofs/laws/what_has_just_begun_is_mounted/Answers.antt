use Rattle.pblk_engine.proofs.Beginnings.{first_early, first_legal}
use Rattle.pblk_engine.proofs.OpenedPasts.{is_mounted}
use Rattle.pblk_engine.proofs.laws.what_has_just_begun_is_mounted.Goals as goal

pub returns-clause-legal : goal.returns-clause-legal
returns-clause-legal c past f is = first_legal past f is

pub returns-clause-early : goal.returns-clause-early
returns-clause-early c past f is = first_early past f is

pub returns-clause-mounted : goal.returns-clause-mounted
returns-clause-mounted c past f key handed wear is fit image armed worn ring first = is_mounted past f key handed wear is fit image armed worn ring first
