use Rattle.std.proofs.Common.{◌∙◌, ap}
use Rattle.std.proofs.lemmas.Result.{IfOk-weaker}
use Rattle.serde_json.specs.Written.{compact_text, has_float}
use Rattle.ocssd_drive.specs.Drive.{stored}
use Rattle.run_report.proofs.Objects.{text_of_data, has_no_float}
use Rattle.run_report.proofs.numbers.object_text.Goals as goal

pub returns : goal.returns
returns c =
    let drive = stored c.args.drive.now in
    let summary = c.args.summary.now in
    let is = c.in_ok-object.ensures in
    IfOk-weaker c.to_string.result _ _ (λ text written. written (ap has_float is ∙ has_no_float drive summary) ∙ ap compact_text is
    ∙ text_of_data drive summary) c.to_string.ensures.text
