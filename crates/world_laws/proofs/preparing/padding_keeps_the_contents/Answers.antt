use Rattle.world_laws.proofs.EarlyLogs.{early_padded}
use Rattle.world_laws.proofs.FoundImages.{early_lines, early_sealed, early_holds, early_before}
use Rattle.world_laws.proofs.preparing.padding_keeps_the_contents.Goals as goal

pub returns : goal.returns
returns c = record { padded = early_padded; lines = early_lines; sealed = early_sealed; holds = early_holds; before = early_before }
