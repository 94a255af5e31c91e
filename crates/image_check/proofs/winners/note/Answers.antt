use Rattle.std.proofs.Common.{◌≡◌, ◌++◌, ◌∷◌, [], get_or, if◌then◌else◌, Some, sym, ap, ◌∙◌, subst}
use Rattle.std.specs.List.{slice_set}
use Rattle.std.proofs.lemmas.Option.{slice_get-get_or}
use Rattle.pblk_model.specs.Contents.{winner}
use Rattle.pblk_model.specs.Records.{Record}
use Rattle.pblk_model.specs.Tables.{IsTable}
use Rattle.image_check.proofs.WinnerLemmas.{noted_newer, noted_older, noted_past}
use Rattle.image_check.proofs.winners.note.Goals as goal
use Rattle.image_check.proofs.winners.note.Goals.{else-place-best-via-then-place-best+else-is_newest, else-place-best-via-else-place-best}

pub returns-then-is_newest : goal.returns-then-is_newest
returns-then-is_newest c = λ n rs h.
    let r = c.args.record.now in
    let best = c.args.best.now in
    let old = get_or best c.in-Some.lba c.index-best-place.result in
    let is : r.lba ≡ Some c.in-Some.lba = ap (λ (x : Record). x.lba) (sym c.record.view_is) ∙ c.in-Some.is in
    subst (λ x. IsTable n (winner (rs ++ r ∷ [])) (slice_set best c.in-Some.lba (Some x))) (sym c.again.ensures)
    (noted_newer n rs best r c.in-Some.lba old h is (slice_get-get_or best c.in-Some.lba c.index-best-place.result c.if-place-best.true) c.if-place-best.true
    (c.is_newest.ensures ∙ ap (λ b. if b then Some r else old) c.if-is_newest.true))

pub returns-else-place-best : goal.returns-else-place-best
returns-else-place-best c =
    let r = c.args.record.now in
    let best = c.args.best.now in
    let is : r.lba ≡ Some c.in-Some.lba = ap (λ (x : Record). x.lba) (sym c.record.view_is) ∙ c.in-Some.is in
    elim c.else-place-best.branch [
      | else-place-best-via-then-place-best+else-is_newest w ↦ λ n rs h.
          noted_older n rs best r c.in-Some.lba (get_or best c.in-Some.lba w.index-best-place.result) h is
          (slice_get-get_or best c.in-Some.lba w.index-best-place.result w.if-place-best.true) w.if-place-best.true
          (w.is_newest.ensures ∙ ap (λ b. if b then Some r else get_or best c.in-Some.lba w.index-best-place.result) w.if-is_newest.false)
      | else-place-best-via-else-place-best w ↦ λ n rs h. noted_past n rs best r c.in-Some.lba h is w.if-place-best.false
    ]
