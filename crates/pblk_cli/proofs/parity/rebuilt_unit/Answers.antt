use Rattle.std.proofs.Common.{◌∙◌, ap, codes}
use Rattle.std.proofs.lemmas.Result.{err_from_is_err_and}
use Rattle.pblk_model.specs.CommandText.{number_line}
use Rattle.ocssd_drive.specs.Drive.{stored}
use Rattle.pblk_cli.proofs.ParityComes.{anew_is, refused_is}
use Rattle.pblk_cli.proofs.parity.rebuilt_unit.Goals as goal

pub returns-in_err-stored-in-Ok-clause-refused : goal.returns-in_err-stored-in-Ok-clause-refused
returns-in_err-stored-in-Ok-clause-refused c =
    let r = c.from_residual-in_err-stored-in-Ok in
    let e = err_from_is_err_and r.result r.ensures.1 in
    rw (e.1, e.2) tt

pub returns-in-Ok-clause-made : goal.returns-in-Ok-clause-made
returns-in-Ok-clause-made c =
    let left = c.rebuild_from.new.drive in
    record {
      left = stored left;
      rebuilt = anew_is c.args.drive left c.args.bytes.now c.args.unit c.in-Ok.blocks c.done.result.text.items c.requires.whole c.in-Ok.ensures.anew
          c.requires.within (c.done.ensures.text ∙ c.in_ok-text-in-Ok.ensures ∙ ap (number_line (codes "rebuilt")) c.from.ensures)
          c.in_ok-stored-in-Ok.ensures.read_back;
      status_is = c.done.ensures.status;
      stored_is = c.in_ok-stored-in-Ok.ensures.image;
    }

pub returns-clause-refused : goal.returns-clause-refused
returns-clause-refused c =
    refused_is c.args.drive c.args.bytes.now c.args.unit c.in-Err.e c.refusal_of.result c.requires.whole c.requires.within c.in-Err.ensures.refused
    (record { memory = c.refusal_of.ensures.memory; parity = c.refusal_of.ensures.parity })
