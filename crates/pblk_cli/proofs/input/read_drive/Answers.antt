use Rattle.std.proofs.lemmas.Result.{IfOk-weaker}
use Rattle.pblk_cli.proofs.Reading.{refused_drive, unread_drive}
use Rattle.pblk_cli.proofs.input.read_drive.Goals as goal

pub returns-in-Ok-clause-drive : goal.returns-in-Ok-clause-drive
returns-in-Ok-clause-drive g c = IfOk-weaker c.drive_of.result _ _ (λ d is. record {
  bytes = c.in-Ok.bytes.items;
  read = c.in-Ok.ensures.read.0;
  is = is;
}) c.drive_of.ensures.drive

pub returns-in-Ok-clause-refused : goal.returns-in-Ok-clause-refused
returns-in-Ok-clause-refused g c =
    refused_drive c.args.image.now c.in-Ok.bytes.items _ _ c.in-Ok.ensures.read c.drive_of.result c.drive_of.ensures.refused

pub returns-in-Err-clause-refused : goal.returns-in-Err-clause-refused
returns-in-Err-clause-refused g c = unread_drive c.args.image.now _ _ c.in-Err.refusal c.in-Err.ensures.refused
