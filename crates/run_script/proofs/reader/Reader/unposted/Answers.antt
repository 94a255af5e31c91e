use Rattle.run_script.proofs.RunOn.{current_unposted, ended_unposted, no_current_unposted}
use Rattle.run_script.proofs.reader.Reader.unposted.Goals as goal

pub returns-in-Some : goal.returns-in-Some
returns-in-Some c = λ heard read. ended_unposted c.args.self.now heard c.as_slice.result.now c.unposted.result c.in-Some.line read c.as_slice.ensures.value
    c.unposted.ensures c.in-Some.is

pub returns-in-Some-current : goal.returns-in-Some-current
returns-in-Some-current c = λ heard read.
    current_unposted c.args.self.now heard c.as_slice.result.now c.unposted.result read c.as_slice.ensures.value c.unposted.ensures c.in-None.is
    c.in-Some-current.thread c.unposted_in.result c.in-Some-current.is (rw c.as_slice-in-Some-current.ensures at c.unposted_in.ensures)

pub returns-in-None-current : goal.returns-in-None-current
returns-in-None-current c = λ heard read. no_current_unposted c.args.self.now heard c.as_slice.result.now c.unposted.result read c.as_slice.ensures.value
    c.unposted.ensures c.in-None.is c.in-None-current.is
