use Rattle.std.proofs.Common.{◌≡◌, map, sym, ap, ◌∙◌, subst}
use Rattle.std.specs.List.Sorted.{IsStrictlyIncreasing}
use Rattle.pblk_model.specs.declared.found.Winner.{Winner}
use Rattle.image_check.specs.declared.certificate.Bearer.{Bearer}
use Rattle.image_check.specs.declared.certificate.LineEntry.{LineEntry}
use Rattle.image_check.specs.declared.certificate.LiveCount.{LiveCount}
use Rattle.image_check.specs.Right.{lives_of, live_in, wins_of}
use Rattle.image_check.proofs.Orders.{entries_rise, lives_rise, row_rises, wins_rise}
use Rattle.image_check.proofs.DriveImage.{image}
use Rattle.image_check.proofs.HeadLemmas.{head_low}
use Rattle.image_check.proofs.maker.certify.Goals as goal

pub end_behind-end-requires-clause-front : goal.end_behind-end-requires-clause-front
end_behind-end-requires-clause-front c = head_low (image c.args.drive.now) c.in_ok-survey.survey.head c.in_ok-survey.ensures.head

pub returns-clause-order : goal.returns-clause-order
returns-clause-order c =
    let i = image c.args.drive.now in
    let lives : c.in_ok-lives.lives.items ≡ lives_of i = c.in_ok-lives.ensures
    ∙ ap (λ ws. map (live_in ws) c.deref.result.now) (c.deref-2.ensures.value ∙ c.in_ok-wins.ensures)
    ∙ ap (map (live_in (wins_of i))) (c.deref.ensures.value ∙ c.in_ok-survey.ensures.lines) in
    record {
      lines = subst (λ xs. IsStrictlyIncreasing (map (λ (e : LineEntry). e.line) xs)) (sym (c.from_vec.ensures ∙ c.in_ok-survey.ensures.lines))
          (entries_rise i);
      bears = subst IsStrictlyIncreasing (sym (ap (map (λ (b : Bearer). b.position)) c.from_vec-2.ensures ∙ c.in_ok-bears.ensures.bears.positions))
          (row_rises _ _);
      wins = subst (λ xs. IsStrictlyIncreasing (map (λ (w : Winner). w.lba) xs)) (sym (c.from_vec-3.ensures ∙ c.in_ok-wins.ensures)) (wins_rise i);
      lives = subst (λ xs. IsStrictlyIncreasing (map (λ (l : LiveCount). l.line) xs)) (sym (c.from_vec-4.ensures ∙ lives)) (lives_rise i);
    }
