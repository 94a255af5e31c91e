use Rattle.step_laws.proofs.SlotBlocks.{on_the_drive}
use Rattle.step_laws.proofs.looks.a_slot_on_the_drive_is_readable.Goals as goal

pub returns : goal.returns
returns c = on_the_drive
