use Rattle.step_laws.proofs.LatestSectors.{unwritten_zeros, latest, cached_latest, media_latest}
use Rattle.step_laws.proofs.slots.a_slot_has_the_latest_sector.Goals as goal

pub returns : goal.returns
returns c = record { unwritten = unwritten_zeros; entry = latest; cached = cached_latest; media = media_latest }
