use Rattle.pblk_core.proofs.records.write_once.Goals as goal

pub write_end-requires-clause-few : goal.write_end-requires-clause-few
write_end-requires-clause-few c =
    c.an_end_record_has_room.ensures.few c.args.layout (record { line = c.args.line; width = c.args.width; seq = c.args.seq; pairs = c.args.marks.now })
    c.shape.ensures.accepted c.requires.width c.requires.told
