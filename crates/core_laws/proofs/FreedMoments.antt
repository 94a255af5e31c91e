-- The moment at which a line was freed.
use Rattle.std.proofs.Common.{◌≡◌, ◌<◌, List, length, sym, ap, ◌∙◌, arith}
use Rattle.std.specs.Prelude.{slice_index}
use Rattle.pblk_model.specs.Image.{Image}
use Rattle.pblk_world.specs.EngineLog.{life_of}
use Rattle.pblk_world.specs.Events.{Logged}
use Rattle.pblk_world.specs.Legal.{IsLegal}
use Rattle.pblk_world.specs.World.{World, known, log_of}
use Rattle.core_laws.specs.InOrder.{FreedBefore}
use Rattle.std.proofs.Math.Seq.{take-length}
use Rattle.world_laws.proofs.KeptChunks.{IsFreedSince, freed_since}
use Rattle.world_laws.proofs.NamedPrefixes.{IsByPrefixes, was_made}

-- the event that freed it names the engine's log as it then was
pub freed_before : (i : Image) (w : World) → IsLegal i w → FreedBefore (log_of w 0)
freed_before i w legal = λ line past knows is.
    let f : IsFreedSince (log_of w 0) line (length (log_of w 0)) past knows =
    freed_since (log_of w 0) (length (log_of w 0)) line past knows (omega arith)
    (ap (λ (log : List Logged). life_of log line) (take-length (log_of w 0)) ∙ is) in
    let made : IsByPrefixes i w 0 f.number f.logged = was_made i w 0 f.number f.logged legal f.there in
    let own : known f.logged 0 ≡ f.number = made.own in
    let same : slice_index knows 0 ≡ f.number = ap (λ ks. slice_index ks 0) (sym f.names) ∙ own in
    let low : f.number < length (log_of w 0) = f.before in
    omega arith
