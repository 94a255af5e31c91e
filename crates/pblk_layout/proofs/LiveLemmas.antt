-- Lemmas on the words of Live.
use Rattle.std.proofs.Common.{List, ap, false, length, ℕ, ◌≡◌, ◌≤◌}
use Rattle.std.proofs.lemmas.Option.{slice_get_past}
use Rattle.std.specs.Option.{option_map_or}
use Rattle.std.specs.Prelude.{slice_get}
use Rattle.pblk_layout.specs.Online.{is_online}
use Rattle.pblk_model.specs.Chunk.{Chunk}
use Rattle.pblk_model.specs.Image.{Image, is_online_in}

pub none_past : (i : Image) (line unit : ℕ) → length i.units ≤ unit → is_online i line unit ≡ false
none_past i line unit past =
    ap (λ o. option_map_or (λ (cs : List Chunk). option_map_or (λ (c : Chunk). is_online_in c.state) (slice_get cs line) false) o false)
    (slice_get_past i.units unit past)
