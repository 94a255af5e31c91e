use Rattle.std.proofs.Common.{◌++◌, List, [], false, map, sym, ap, ◌∙◌, append-nil}
use Rattle.pblk_model.specs.declared.found.Winner.{Winner}
use Rattle.image_check.specs.declared.certificate.Bearer.{Bearer}
use Rattle.image_check.specs.declared.certificate.Certificate.{Certificate}
use Rattle.image_check.specs.declared.certificate.LineEntry.{LineEntry}
use Rattle.image_check.specs.declared.certificate.LiveCount.{LiveCount}
use Rattle.image_check.specs.declared.said.Said.{Said}
use Rattle.image_check.specs.declared.said.Said.TheVariants.{Bear, End, Head, Line, Live, Win}
use Rattle.image_check.specs.Text.{spelled, text_of}
use Rattle.image_check.proofs.Written.{kind_written, one_written, two_written}
use Rattle.image_check.proofs.certificate.Certificate.write.Goals as goal

abbrev no_row : LineEntry
no_row = record { line = 0; seq = 0; full = false }

abbrev no_bearer : Bearer
no_bearer = record { position = 0; line = 0; at = 0 }

abbrev no_win : Winner
no_win = record { lba = 0; position = 0; line = 0; at = 0 }

abbrev no_live : LiveCount
no_live = record { line = 0; count = 0 }

-- what is written behind the winners, the bearers, and the rows of lines
abbrev behind_wins : Certificate → List Said
behind_wins cert = map Live cert.lives

abbrev behind_bears : Certificate → List Said
behind_bears cert = map Win cert.wins ++ behind_wins cert

abbrev behind_lines : Certificate → List Said
behind_lines cert = map Bear cert.bears ++ behind_bears cert

pub loop-row-init : goal.loop-row-init
loop-row-init c =
    let cert = c.args.self.now in
    two_written c.args.out.now.items c.write.new.out.items c.write-2.new.out.items (Head cert.head) (End cert.end) (map Line cert.lines ++ behind_lines cert)
    c.in_ok-write.ensures c.in_ok-write-2.ensures

pub loop-row-preserved : goal.loop-row-preserved
loop-row-preserved c =
    let cert = c.args.self.now in
    one_written Line cert.lines c.as_slice-row-items.result.now c.as_slice-row-items.ensures c.loop-row.row-index (behind_lines cert)
    c.loop-row.out.items (c.args.out.now.items ++ text_of cert) c.loop-row.invariant
    no_row c.write-in-loop-row.new.out.items c.loop-row-test.true c.in_ok-write-3.ensures

pub loop-bearer-init : goal.loop-bearer-init
loop-bearer-init c =
    let cert = c.args.self.now in
    kind_written Line cert.lines c.as_slice-row-items.result.now c.as_slice-row-items.ensures c.loop-row.row-index (behind_lines cert)
    c.loop-row.out.items (c.args.out.now.items ++ text_of cert) c.loop-row.invariant c.loop-row-test.false

pub loop-bearer-preserved : goal.loop-bearer-preserved
loop-bearer-preserved c =
    let cert = c.args.self.now in
    one_written Bear cert.bears c.as_slice-bearer-items.result.now c.as_slice-bearer-items.ensures c.loop-bearer.bearer-index (behind_bears cert)
    c.loop-bearer.out.items (c.args.out.now.items ++ text_of cert) c.loop-bearer.invariant
    no_bearer c.write-in-loop-bearer.new.out.items c.loop-bearer-test.true c.in_ok-write-4.ensures

pub loop-win-init : goal.loop-win-init
loop-win-init c =
    let cert = c.args.self.now in
    kind_written Bear cert.bears c.as_slice-bearer-items.result.now c.as_slice-bearer-items.ensures c.loop-bearer.bearer-index (behind_bears cert)
    c.loop-bearer.out.items (c.args.out.now.items ++ text_of cert) c.loop-bearer.invariant c.loop-bearer-test.false

pub loop-win-preserved : goal.loop-win-preserved
loop-win-preserved c =
    let cert = c.args.self.now in
    one_written Win cert.wins c.as_slice-win-items.result.now c.as_slice-win-items.ensures c.loop-win.win-index (behind_wins cert)
    c.loop-win.out.items (c.args.out.now.items ++ text_of cert) c.loop-win.invariant
    no_win c.write-in-loop-win.new.out.items c.loop-win-test.true c.in_ok-write-5.ensures

pub loop-live-init : goal.loop-live-init
loop-live-init c =
    let cert = c.args.self.now in
    ap (λ ss. c.loop-win.out.items ++ spelled ss) (append-nil (behind_wins cert))
    ∙ kind_written Win cert.wins c.as_slice-win-items.result.now c.as_slice-win-items.ensures c.loop-win.win-index (behind_wins cert)
    c.loop-win.out.items (c.args.out.now.items ++ text_of cert) c.loop-win.invariant c.loop-win-test.false

pub loop-live-preserved : goal.loop-live-preserved
loop-live-preserved c =
    let cert = c.args.self.now in
    one_written Live cert.lives c.as_slice-live-items.result.now c.as_slice-live-items.ensures c.loop-live.live-index []
    c.loop-live.out.items (c.args.out.now.items ++ text_of cert) c.loop-live.invariant
    no_live c.write-in-loop-live.new.out.items c.loop-live-test.true c.in_ok-write-6.ensures

pub returns : goal.returns
returns c =
    let cert = c.args.self.now in
    sym (append-nil c.loop-live.out.items)
    ∙ kind_written Live cert.lives c.as_slice-live-items.result.now c.as_slice-live-items.ensures c.loop-live.live-index []
    c.loop-live.out.items (c.args.out.now.items ++ text_of cert) c.loop-live.invariant c.loop-live-test.false
