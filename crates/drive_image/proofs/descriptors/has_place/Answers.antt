use Rattle.std.proofs.Common.{sym, ap, ◌∙◌}
use Rattle.std.specs.Result.{is_ok}
use Rattle.ocssd_chunks.specs.Descriptor.{fields_of}
use Rattle.drive_image.proofs.ReadDescriptors.{ok_of_both, read_at_place}
use Rattle.drive_image.proofs.descriptors.has_place.Goals as goal

pub returns : goal.returns
returns c =
    let q = c.requires in
    c.is_ok.ensures.value ∙ (sym (ok_of_both fields_of c.read_descriptor.result) ∙ (ap is_ok c.read_descriptor.ensures
    ∙ read_at_place c.args.bytes.now c.args.clba q.size q.state q.kind q.blocks))
