use Rattle.run_script.proofs.LinesLeft.{read_well}
use Rattle.run_script.proofs.judge.Goals as goal

pub returns-clause-memory : goal.returns-clause-memory
returns-clause-memory c = λ out. let read = c.in_ok-read_lines.ensures.read in read_well c.args.capacity c.args.bytes.now read.0 read.2
