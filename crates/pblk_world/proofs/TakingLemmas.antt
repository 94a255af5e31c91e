-- Lemmas on the words of Taking.
use Rattle.std.proofs.Common.{None, Option, Some, ap, true, ◌≡◌}
use Rattle.pblk_model.specs.Image.{Image}
use Rattle.pblk_model.specs.declared.chunk.Mark.{Mark}
use Rattle.pblk_world.specs.Events.{Entry, Source}
use Rattle.pblk_world.specs.Fronts.{is_users}
use Rattle.pblk_world.specs.Taking.{IsMarked}
use Rattle.pblk_world.specs.World.{Logs}

pub users_mark : (i : Image) (known : Logs) (entry : Entry) (mark : Mark) (source : Option Source) → is_users source ≡ true → IsMarked i known entry mark source
    → mark.lba ≡ entry.lba
users_mark i known entry mark None users is = ap (λ (m : Mark). m.lba) is
users_mark i known entry mark (Some source) users is = absurd cc
