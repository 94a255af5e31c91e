use Rattle.std.proofs.Common.{sym, ap, ◌∙◌}
use Rattle.std.proofs.lemmas.Option.{same_Some, slice_get-get_or}
use Rattle.pblk_model.specs.Records.{Record}
use Rattle.image_check.specs.Right.{win_by}
use Rattle.image_check.proofs.RunLemmas.{last_none, last_some}
use Rattle.image_check.proofs.WinnerLemmas.{place_of}
use Rattle.image_check.proofs.winners.places_of.Goals as goal
use Rattle.image_check.proofs.winners.places_of.Goals.{in-Some+in_ok-push, in_default}

pub loop-lba-preserved : goal.loop-lba-preserved
loop-lba-preserved c = elim c.match-best-lba.branch [
  | in-Some+in_ok-push w ↦ rw w.wins-is (λ f h.
      (let k = c.loop-lba.lba in
      let there = h.each k c.loop-lba-test.true in
      let here = slice_get-get_or c.args.best.now k c.index-best-lba.result c.loop-lba-test.true in
      let is = same_Some _ _ (sym there ∙ here) ∙ sym c.index-best-lba.is ∙ w.in-Some.is in
      last_some (λ lba. win_by lba (f lba)) k c.loop-lba.wins.items w.push.new.self.items _
      (place_of k w.record.inside.position w.record.inside.line w.record.inside.at w.in-Some.record (ap (λ (r : Record). r.position) w.record.view_is)
      (ap (λ (r : Record). r.line) w.record.view_is) (ap (λ (r : Record). r.at) w.record.view_is) ∙ sym (ap (win_by k) is))
      w.in_ok-push.ensures.items (c.loop-lba.invariant f h)))
  | in_default w ↦ rw w.wins-is (λ f h.
      (let k = c.loop-lba.lba in
      let there = h.each k c.loop-lba-test.true in
      let here = slice_get-get_or c.args.best.now k c.index-best-lba.result c.loop-lba-test.true in
      let is = same_Some _ _ (sym there ∙ here) ∙ sym c.index-best-lba.is ∙ w.in_default.is in
      last_none (λ lba. win_by lba (f lba)) k c.loop-lba.wins.items (sym (ap (win_by k) is)) (c.loop-lba.invariant f h)))
]
