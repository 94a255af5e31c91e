-- Where sectors are, by the winners that were found.
use Rattle.std.proofs.Common.{◌≡◌, ℕ, ◌<◌, ◌==◌, Some, None, Option, List, refl, sym, ap, ◌∙◌, arith}
use Rattle.std.specs.List.{find}
use Rattle.std.specs.Option.{option_map, option_map_or}
use Rattle.pblk_model.specs.declared.found.Found.{Found}
use Rattle.pblk_model.specs.declared.found.Winner.{Winner}
use Rattle.pblk_model.specs.Image.{Image}
use Rattle.pblk_model.specs.Records.{Record}
use Rattle.pblk_model.specs.Contents.{counted, winner}
use Rattle.pblk_world.specs.Events.{Logged}
use Rattle.pblk_world.specs.World.{Logs}
use Rattle.pblk_world.specs.Fronts.{last_take}
use Rattle.l2p_map.specs.declared.slot.Slot.TheVariants.{Unwritten}
use Rattle.core_laws.specs.SlotOf.{slot_of, slot_by, slot_of_winner}
use Rattle.world_laws.specs.Finding.{winner_of, winner_with}
use Rattle.world_laws.proofs.FoundWinners.{names_its_sector}
use Rattle.core_laws.specs.JustBegun.{HasJustBegun}
use Rattle.core_laws.specs.OpeningTables.{place_of_winner, slot_found}
use Rattle.core_laws.proofs.BegunImages.{named_image, found_at, named_found}
use Rattle.core_laws.proofs.MadeLists.{found_made}

by_winner : (lba : ℕ) (o : Option Record) → slot_of_winner o ≡ option_map_or place_of_winner (option_map (winner_with lba) o) Unwritten
by_winner lba None = refl
by_winner lba (Some r) = refl

-- by the winner of the image that was found
slot_as_found : (i : Image) (f : Found) (logs : Logs) (lba : ℕ) (is : HasJustBegun i f logs)
    → slot_of i logs lba ≡ option_map_or place_of_winner (winner_of (named_image i logs is.knows) lba) Unwritten
slot_as_found i f logs lba is =
    ap (slot_by i logs lba) (ap (λ (xs : List Logged). last_take xs lba) is.log)
    ∙ ap (λ (j : Image). slot_of_winner (winner (counted j) lba)) (found_at i f logs is)
    ∙ by_winner lba (winner (counted (named_image i logs is.knows)) lba)

pub slot_is : (i : Image) (f : Found) (logs : Logs) (lba : ℕ) → HasJustBegun i f logs → lba < i.shape.capacity → slot_of i logs lba ≡ slot_found f.winners lba
slot_is i f logs lba is inside =
    slot_as_found i f logs lba is
    ∙ ap (λ o. option_map_or place_of_winner o Unwritten)
    (sym (found_made (winner_of (named_image i logs is.knows)) (λ (w : Winner). w.lba) (names_its_sector (named_image i logs is.knows)) 0 i.shape.capacity lba
    (omega arith) (omega arith)))
    ∙ ap (λ ws. option_map_or place_of_winner (find (λ (w : Winner). w.lba == lba) ws) Unwritten) (sym (named_found i f logs is).winners_are)
