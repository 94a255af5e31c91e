use Rattle.std.proofs.Common.{◌≡◌, ap, ◌∙◌}
use Rattle.std.specs.Prelude.{slice_set}
use Rattle.std.proofs.lemmas.Option.{get_or_from_slice_get}
use Rattle.pblk_meta.specs.Records.{start_numbers}
use Rattle.pblk_core.specs.LineRecords.{RecordsView}
use Rattle.pblk_core.specs.Slots.{records_of_start}
use Rattle.pblk_core.specs.declared.open_lines.OpenLine.{OpenLine}
use Rattle.pblk_core.proofs.open_lines.OpenLines.begin.Goals as goal

pub returns-clause-slots : goal.returns-clause-slots
returns-clause-slots c = λ line is.
    let same : c.index_mut-slot.result.now ≡ line = c.index_mut-slot.ensures.value
    ∙ get_or_from_slice_get c.args.self.now.slots.items c.args.self.now.count line c.index_mut-slot.result.now is in
    let opened : c.open.new.self ≡ records_of_start line.records (start_numbers c.args.start.now) =
    c.open.ensures ∙ ap (λ (l : OpenLine). records_of_start l.records (start_numbers c.args.start.now)) same in
    ap (λ (r : RecordsView). slice_set c.args.self.now.slots.items c.args.self.now.count
    (record { records = r; online = c.args.online; stripes_left = c.args.stripes_left })) opened
