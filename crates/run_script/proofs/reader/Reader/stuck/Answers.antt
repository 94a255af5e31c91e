use Rattle.run_script.proofs.RunOn.{last_stuck, none_stuck}
use Rattle.run_script.proofs.reader.Reader.stuck.Goals as goal

pub returns-in-Some-clause-stuck : goal.returns-in-Some-clause-stuck
returns-in-Some-clause-stuck c = λ heard read known.
    last_stuck c.args.self.now heard c.as_slice.result.now c.in-Some.last c.stuck_among.result read known c.as_slice.ensures.value c.in-Some.is
    (rw c.as_slice-in-Some.ensures at c.stuck_among.ensures)

pub returns-in-None-clause-stuck : goal.returns-in-None-clause-stuck
returns-in-None-clause-stuck c = λ heard read known. none_stuck c.args.self.now heard read c.in-None.is
