use Rattle.std.proofs.Common.{◌∙◌}
use Rattle.ocssd_drive.specs.Drive.{stored}
use Rattle.pblk_cli.proofs.Certifying.{image_refuses, unlike_refuses, unread_refuses}
use Rattle.pblk_cli.proofs.certificates.checked.Goals as goal

pub returns-in-Err-clause-refused : goal.returns-in-Err-clause-refused
returns-in-Err-clause-refused c = image_refuses c.args.bytes.items c.args.text.now c.in-Err.refusal c.in-Err.ensures.refused

pub returns-in-Err-read-clause-refused : goal.returns-in-Err-read-clause-refused
returns-in-Err-read-clause-refused c =
    unread_refuses c.in-Ok.drive c.in-Ok.ensures.whole c.args.bytes.items c.args.text.now c.in-Ok.ensures.drive c.in-Err-read.e c.unread.result
    c.in-Err-read.ensures.refused c.in-Err-read.ensures.only (record { memory = c.unread.ensures.memory; form = c.unread.ensures.form })

pub returns-in-Err-check-clause-refused : goal.returns-in-Err-check-clause-refused
returns-in-Err-check-clause-refused c =
    unlike_refuses c.in-Ok.drive c.in-Ok.ensures.whole c.args.bytes.items c.args.text.now c.in-Ok.ensures.drive c.in-Ok-read.certificate c.in-Err-check.e
    c.unlike.result c.in-Ok-read.ensures.fits c.in-Ok-read.ensures.spelled c.in-Err-check.ensures.refused c.in-Err-check.ensures.complete
    (record { memory = c.unlike.ensures.memory; check = c.unlike.ensures.check })

pub returns-in-Ok-checked_text-clause-checked : goal.returns-in-Ok-checked_text-clause-checked
returns-in-Ok-checked_text-clause-checked c = record {
  drive = stored c.in-Ok.drive;
  drive_is = c.in-Ok.ensures.drive;
  checked = record {
    is = record {
      certificate = c.in-Ok-read.certificate;
      right = c.in-Ok-check.ensures.right;
      order = c.in-Ok-read.ensures.order;
      spelled = c.in-Ok-read.ensures.spelled;
    };
    contents = c.in-Ok-check.ensures.contents;
    tidy = c.in-Ok-check.tidy;
    tidy_is = c.in-Ok-check.ensures.tidy;
    status_is = c.done.ensures.status;
    text_is = c.done.ensures.text ∙ c.in-Ok-checked_text.ensures;
  };
}
