use Rattle.std.proofs.Common.{◌≡◌, ◌+◌, ◌++◌, ◌∷◌, [], length, take, sym, ap, ◌∙◌, subst, append_assoc, append-nil}
use Rattle.pblk_meta.specs.Records.{start_numbers}
use Rattle.pblk_model.proofs.Parts.{take_all}
use Rattle.image_check.specs.Makes.{bearer_behind}
use Rattle.pblk_model.specs.Tables.{IsTable}
use Rattle.pblk_model.proofs.TableLemmas.{take_one}
use Rattle.image_check.proofs.maker.note_all.Goals as goal

pub loop-record-init : goal.loop-record-init
loop-record-init c = λ rs h. rw (append-nil rs) h

pub loop-record-preserved : goal.loop-record-preserved
loop-record-preserved c = λ rs h.
    let hd = start_numbers c.args.newest.now in
    let n = length c.args.first.now in
    let k = c.loop-record.record-index in
    let before = rs ++ take k c.args.more.now in
    let table = c.loop-record.invariant rs h in
    let more : rs ++ take (k + 1) c.args.more.now ≡ before ++ c.record-item.result ∷ [] =
    ap (λ xs. rs ++ xs) (take_one c.args.more.now k c.record-item.result c.loop-record-test.true
    ∙ ap (λ r. take k c.args.more.now ++ r ∷ []) (sym c.record-item.is))
    ∙ sym (append_assoc rs (take k c.args.more.now) (c.record-item.result ∷ [])) in
    let own = subst (λ m. IsTable m (bearer_behind hd before) c.loop-record.first) (sym table.count) table in
    let noted = c.note.ensures before own in
    subst (λ xs. IsTable n (bearer_behind hd xs) c.note.new.first) (sym more)
    (subst (λ m. IsTable m (bearer_behind hd (before ++ c.record-item.result ∷ [])) c.note.new.first) table.count noted)

pub returns : goal.returns
returns c = λ rs h. rw (sym (take_all c.args.more.now c.loop-record.record-index c.loop-record-test.false)) (c.loop-record.invariant rs h)
