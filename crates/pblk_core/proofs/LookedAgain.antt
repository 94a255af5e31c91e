-- A core that looks again whether a line may be collected: what is told of the collection alone is
-- another.
use Rattle.std.proofs.Common.{◌≡◌, ◌<◌, Bool, sym, subst, ap, ◌∙◌}
use Rattle.std.specs.FinMap as fin
use Rattle.pblk_model.specs.Image.{Image}
use Rattle.pblk_world.specs.World.{Logs}
use Rattle.pblk_core.specs.declared.collecting.Collection.{Collection}
use Rattle.pblk_core.specs.declared.target_core.Core.{Core}
use Rattle.pblk_core.specs.Collecting.{HasEachLine, HasPassed}
use Rattle.pblk_core.specs.Stands.{Stands}
use Rattle.pblk_core.proofs.SmallCalls.{collecting_stands}

pub each_looked : (told looked : Core) (col : Collection) → looked ≡ record told { collection = col } → HasEachLine told → HasEachLine looked
each_looked told looked col look each =
    subst HasEachLine (sym look) (record { rows = each.rows; noted = each.noted; online = each.online; few = each.few })

pub looked_stands : (i : Image) (logs : Logs) (told looked : Core) (col : Collection) → looked ≡ record told { collection = col } → Stands i logs told
    → Stands i logs looked
looked_stands i logs told looked col look st = subst (Stands i logs) (sym look) (collecting_stands i logs told col st)

pub looked_passed : (told looked : Core) (barren : Bool) → looked ≡ record told { collection = record told.collection { barren = barren } }
    → HasPassed told → HasPassed looked
looked_passed told looked barren look was = λ lba line at position low at_work there. was lba line at position
    (subst (λ (x : Core). lba < x.collection.cursor) look low) (sym (ap (λ (x : Core). x.collection.victim) look) ∙ at_work)
    (sym (ap (λ (x : Core). fin.get x.map lba) look) ∙ there)
