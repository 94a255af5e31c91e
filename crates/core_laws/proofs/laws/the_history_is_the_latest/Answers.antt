use Rattle.core_laws.proofs.HistorySectors.{first_sector, history_count, latest_sector, unwritten_sector, written_sector}
use Rattle.core_laws.proofs.laws.the_history_is_the_latest.Goals as goal

pub returns : goal.returns
returns c = record { latest = latest_sector; found = first_sector; written = written_sector; unwritten = unwritten_sector; count = history_count }
