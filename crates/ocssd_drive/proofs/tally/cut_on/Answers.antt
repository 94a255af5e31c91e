use Rattle.std.proofs.Common.{◌<◌, ◌≤◌, ◌≢◌, refl, sym, arith}
use Rattle.ocssd_drive.specs.declared.tally.Fall.{Fall}
use Rattle.ocssd_drive.proofs.FallingOrder.{last_from_read, all_after, cut_of-absent, cut_of-at}
use Rattle.ocssd_drive.proofs.tally.cut_on.Goals as goal
use Rattle.pblk_model.proofs.Lists.{all_imply}
use Rattle.pblk_model.proofs.Parts.{all_get}

pub returns-in-Some : goal.returns-in-Some
returns-in-Some c all = sym (cut_of-at _ _ _ c.in-Some.fall.now c.requires (sym c.in-Some.ensures.value) (omega arith))

-- the last one is later than this command, so all are
pub returns-in_default : goal.returns-in_default
returns-in_default c all =
    let falls = c.args.falls.now in
    let fall = c.in-Some.fall.now in
    let last = last_from_read falls _ fall refl c.in-Some.ensures.value in
    let at_least : c.args.nth ≤ fall.nth = all_get (λ (f : Fall). c.args.nth ≤ f.nth) falls _ fall all last.at in
    let later = all_after falls _ c.args.nth fall c.requires last (omega arith) in
    sym (cut_of-absent falls _ (all_imply (λ (f : Fall). c.args.nth < f.nth) (λ (f : Fall). f.nth ≢ c.args.nth) (λ f after is. omega arith) falls later))
