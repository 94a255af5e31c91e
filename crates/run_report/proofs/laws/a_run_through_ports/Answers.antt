use Rattle.run_report.proofs.Ports.{ports_events, ports_history, ports_kept, ports_run, ports_told}
use Rattle.run_report.proofs.laws.a_run_through_ports.Goals as goal

pub returns : goal.returns
returns c = record { told = ports_told; run = ports_run; history = ports_history; kept = ports_kept; events = ports_events }
