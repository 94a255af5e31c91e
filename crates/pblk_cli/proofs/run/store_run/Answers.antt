use Rattle.pblk_model.specs.Contents.{end}
use Rattle.pblk_model.specs.ImageFile.{image_of}
use Rattle.ocssd_drive.specs.Drive.{stored}
use Rattle.pblk_cli.proofs.run.store_run.Goals as goal

pub returns : goal.returns
returns c = record {
  text_is = c.in_ok-text.ensures;
  status_is = c.status_of-status.ensures c.args.script.now (end (image_of (stored c.args.drive)));
  bytes_are = c.in_ok-bytes.ensures.image;
  spelled = c.in_ok-bytes.ensures.read_back;
}
