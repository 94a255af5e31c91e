use Rattle.std.proofs.Common.{◌≡◌, map, sym, ap, ◌∙◌, subst}
use Rattle.std.specs.List.Sorted.{IsStrictlyIncreasing}
use Rattle.std.specs.Option.{option_map}
use Rattle.pblk_model.specs.StartRecord.{StartRecord}
use Rattle.pblk_model.specs.declared.found.Winner.{Winner}
use Rattle.image_check.specs.declared.certificate.LineEntry.{LineEntry}
use Rattle.image_check.specs.declared.certificate.LiveCount.{LiveCount}
use Rattle.image_check.specs.Right.{lives_of, live_in, wins_of}
use Rattle.image_check.proofs.DriveImage.{image}
use Rattle.image_check.proofs.EndLemmas.{end_right}
use Rattle.image_check.proofs.HeadLemmas.{head_numbers}
use Rattle.image_check.proofs.Orders.{entries_rise, lives_rise, wins_rise}
use Rattle.image_check.proofs.checker.check_all.Goals as goal

pub first_other-requires-clause-right : goal.first_other-requires-clause-right
first_other-requires-clause-right c =
    subst (λ xs. IsStrictlyIncreasing (map (λ (e : LineEntry). e.line) xs)) (sym (c.deref.ensures.value ∙ c.in_ok-survey.ensures.lines))
    (entries_rise (image c.args.drive.now))

pub wins_of-requires-clause-end : goal.wins_of-requires-clause-end
wins_of-requires-clause-end c = end_right (image c.args.drive.now) c.args.certificate.now c.in_ok-check_bearers.ensures.right

pub first_other-requires-2-clause-right : goal.first_other-requires-2-clause-right
first_other-requires-2-clause-right c =
    subst (λ xs. IsStrictlyIncreasing (map (λ (w : Winner). w.lba) xs)) (sym (c.deref-2.ensures.value ∙ c.in_ok-wins.ensures))
    (wins_rise (image c.args.drive.now))

pub first_other-requires-3-clause-right : goal.first_other-requires-3-clause-right
first_other-requires-3-clause-right c =
    let i = image c.args.drive.now in
    let is : c.in_ok-lives.lives.items ≡ lives_of i = c.in_ok-lives.ensures
    ∙ ap (λ ws. map (live_in ws) c.deref-3.result.now) (c.deref-4.ensures.value ∙ c.in_ok-wins.ensures)
    ∙ ap (map (live_in (wins_of i))) (c.deref-3.ensures.value ∙ c.in_ok-survey.ensures.lines) in
    subst (λ xs. IsStrictlyIncreasing (map (λ (l : LiveCount). l.line) xs)) (sym (c.deref-5.ensures.value ∙ is)) (lives_rise i)

pub returns-clause-right : goal.returns-clause-right
returns-clause-right c =
    let i = image c.args.drive.now in
    let is : c.in_ok-lives.lives.items ≡ lives_of i = c.in_ok-lives.ensures
    ∙ ap (λ ws. map (live_in ws) c.deref-3.result.now) (c.deref-4.ensures.value ∙ c.in_ok-wins.ensures)
    ∙ ap (map (live_in (wins_of i))) (c.deref-3.ensures.value ∙ c.in_ok-survey.ensures.lines) in
    record {
      lines = sym c.as_slice.ensures ∙ c.in_default.ensures.same ∙ c.deref.ensures.value ∙ c.in_ok-survey.ensures.lines;
      head_is = c.is_head.ensures.0 c.if-not-is_head.false ∙ head_numbers c.in_ok-survey.survey.head
          ∙ ap (option_map (λ (h : StartRecord). h.line)) c.in_ok-survey.ensures.head;
      bears = c.in_ok-check_bearers.ensures.bears;
      end_is = end_right i c.args.certificate.now c.in_ok-check_bearers.ensures.right;
      wins = sym c.as_slice-2.ensures ∙ c.in_default-first_other.ensures.same ∙ c.deref-2.ensures.value ∙ c.in_ok-wins.ensures;
      lives = sym c.as_slice-3.ensures ∙ c.in_default-first_other-2.ensures.same ∙ c.deref-5.ensures.value ∙ is;
    }
