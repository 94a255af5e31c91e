use Rattle.std.proofs.Common.{◌≡◌, ◌<◌, IfOk, length, refl, sym, ap, ◌∙◌, subst}
use Rattle.std.specs.List.{filter_map, range_with_len}
use Rattle.std.specs.Option.{option_map}
use Rattle.pblk_model.specs.Contents.{counted, winner}
use Rattle.pblk_meta.specs.Records.{start_numbers}
use Rattle.image_check.specs.Right.{win_by}
use Rattle.pblk_model.specs.Tables.{IsTable}
use Rattle.image_check.proofs.DriveImage.{image}
use Rattle.image_check.proofs.WinnerLemmas.{no_wins}
use Rattle.image_check.proofs.winners.wins_of.Goals as goal

pub returns-in-None : goal.returns-in-None
returns-in-None c = c.new.ensures.items ∙ no_wins (image c.args.drive.now) (sym (ap (option_map start_numbers) c.in-None.is) ∙ c.requires.head)

pub returns-in_ok-best-in-Some : goal.returns-in_ok-best-in-Some
returns-in_ok-best-in-Some c =
    let i = image c.args.drive.now in
    let table = subst (IsTable i.shape.capacity (winner (counted i))) (sym c.deref.ensures.value) c.in_ok-best-in-Some.ensures in
    let own : IsTable (length c.deref.result.now) (winner (counted i)) c.deref.result.now =
    record { count = refl; each = λ k below. table.each k (subst (λ n. k < n) table.count below) } in
    subst (λ n. IfOk c.places_of.result (λ v. v.items ≡ filter_map (λ lba. win_by lba (winner (counted i) lba)) (range_with_len 0 n))) table.count
    (c.places_of.ensures (winner (counted i)) own)
