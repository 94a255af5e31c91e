use Rattle.pblk_meta.specs.Records.{start_numbers}
use Rattle.scan_recovery.specs.Traces.{bare}
use Rattle.scan_recovery.proofs.Tables.{note_set}
use Rattle.scan_recovery.proofs.ending.note_position.Goals as goal

pub returns-then-place-borne : goal.returns-then-place-borne
returns-then-place-borne c = λ n rs table. note_set n rs (bare c.args.t.now)
    (start_numbers c.args.head.now) c.args.borne.now table c.if-head-t.true c.if-head-t-2.true c.if-place-borne.true
