use denote.Param.Send.{sendable}
use Rattle.command_words.specs.Words.{seen}
use Rattle.pblk_cli.proofs.Limits.{within_limits}
use Rattle.pblk_cli.proofs.main_call.pblk_main.Goals as goal

pub do_command-requires : goal.do_command-requires
do_command-requires g c = (search sendable depth 20, within_limits _ (seen c.in-Some.command) c.in-Some.ensures.found)
