-- A block that an arm fetched without the engine's lock: where its mark is that of the sector which
-- was looked up, it has what the sector held then.
use Rattle.std.proofs.Common.{◌≡◌, ℕ, ◌<◌, ◌≤◌, Some, List, [], ◌∷◌, length, take, sym, subst, ap, ap₂, ◌∙◌, arith}
use Rattle.std.specs.Prelude.{slice_get}
use Rattle.std.proofs.lemmas.Option.{none-some}
use Rattle.pblk_model.specs.Chunk.{Block}
use Rattle.pblk_model.specs.Contents.{contents}
use Rattle.pblk_model.specs.History as histories
use Rattle.pblk_model.specs.Image.{Image}
use Rattle.pblk_world.specs.EngineLog.{Begun, begun}
use Rattle.pblk_world.specs.Events.{Logged}
use Rattle.pblk_world.specs.Fronts.{history}
use Rattle.pblk_world.specs.Lines.{found_image}
use Rattle.pblk_world.specs.Victims.{engine_prefix}
use Rattle.pblk_world.specs.World.{World, Logs, log_of}
use Rattle.pblk_world.proofs.EngineLogLemmas.{begun_of_first}
use Rattle.world_laws.specs.EarlyLogs as early
use Rattle.world_laws.specs.SameTold.{AreSameNamed}
use Rattle.world_laws.proofs.EarlierLogs.{begun_now, found_same, is_earlier, named_earlier}
use Rattle.step_laws.specs.LookedUp.{IsLookedUp, IsMarkedBlock}
use Rattle.step_laws.proofs.LookedUp as looks
use Rattle.unit_port.specs.Unit.{ModelUnit}
use Rattle.chronicle.specs.Views.{Past}
use Rattle.chronicle.specs.Prefixes.{Prefixes, logs_of, ArePrefixes, AreLegalLogs}
use Rattle.chronicle.proofs.PrefixLemmas.{begins_length, begins_take}
use Rattle.write_ring.specs.declared.view.Key.{Key}
use Rattle.pblk_engine.specs.Looks.{latest_by}
use Rattle.pblk_engine.specs.Mounts.{IsMounted}
use Rattle.pblk_engine.proofs.ArmPrograms.{legal_mount}

-- what is known has begun as the mount did
pub begun_known : (past : Past) (key : Key) (handed : List ModelUnit) (wear : List (List ℕ)) (known : Prefixes)
    → (mounted : IsMounted past key handed wear) → ArePrefixes past.logs known → begun (logs_of known 0) ≡ Some mounted.beginning
begun_known past key handed wear known mounted more =
    begun_of_first (length (logs_of past.logs 0)) (logs_of known 0) mounted.beginning
    (ap begun (begins_take (logs_of past.logs 0) (logs_of known 0) (more.each 0)) ∙ mounted.has_begun)

-- a log that has begun isn't empty
pub begun_has_event : (log : List Logged) (b : Begun) → begun log ≡ Some b → 0 < length log
begun_has_event [] b is = absurd (none-some b is)
begun_has_event (l ∷ log) b is = omega arith

-- prefixes of known logs are those of a world
pub prefixes_of : (a b : Prefixes) (v w : World) → log_of v ≡ logs_of a → log_of w ≡ logs_of b → ArePrefixes a b → early.ArePrefixes w (log_of v)
prefixes_of a b v w first second more author = (
  length (logs_of a author),
  ap (λ (l : Logs). l author) first ∙ sym (begins_take (logs_of a author) (logs_of b author) (more.each author))
      ∙ ap (λ (l : Logs). take (length (logs_of a author)) (l author)) (sym second),
)

-- a block that is met by later logs, where a look met its sector's slot
pub accepted : (past : Past) (key : Key) (handed : List ModelUnit) (wear : List (List ℕ)) (looked now : Prefixes) → IsMounted past key handed wear
    → AreLegalLogs past.image looked → AreLegalLogs past.image now → ArePrefixes past.logs looked → ArePrefixes looked now
    → (lba line at position unit number : ℕ) → IsLookedUp past.image (logs_of looked) lba line at position unit number
    → (block : Block) → IsMarkedBlock past.image (logs_of now) lba line position unit number block
    → slice_get (latest_by past.image (logs_of looked)) lba ≡ Some block.sector
accepted past key handed wear looked now mounted then_ now_ begins more lba line at position unit number look block marked =
    let i : Image = past.image in
    let v : World = then_.world in
    let w : World = now_.world in
    let prefix : early.ArePrefixes w (log_of v) = prefixes_of looked now v w then_.logs now_.logs more in
    let b : Begun = mounted.beginning in
    let has : begun (log_of v 0) ≡ Some b = ap (λ (l : Logs). begun (l 0)) then_.logs ∙ begun_known past key handed wear looked mounted begins in
    let n : ℕ = length (log_of v 0) in
    let same : AreSameNamed (engine_prefix n (log_of w)) (log_of v) = named_earlier i v w then_.legal prefix in
    let within : length (log_of v 0) ≤ length (log_of w 0) =
    subst (λ (l : Logs). length (l 0) ≤ length (log_of w 0)) (sym then_.logs)
    (subst (λ (l : Logs). length (logs_of looked 0) ≤ length (l 0)) (sym now_.logs)
    (begins_length (logs_of looked 0) (logs_of now 0) (more.each 0))) in
    let there : IsLookedUp i (log_of v) lba line at position unit number =
    subst (λ (l : Logs). IsLookedUp i l lba line at position unit number) (sym then_.logs) look in
    let met : IsMarkedBlock i (log_of w) lba line position unit number block =
    subst (λ (l : Logs). IsMarkedBlock i l lba line position unit number block) (sym now_.logs) marked in
    let held : slice_get (histories.after (contents (found_image i (log_of w))) (history (take n (log_of w 0)))) lba ≡ Some block.sector =
    looks.accepted i w (log_of v) n lba line at position unit number block (legal_mount past key handed wear now mounted now_)
    (begun_has_event (log_of v 0) b has) within same there met in
    let image : found_image i (log_of w) ≡ found_image i (log_of v) =
    found_same i w b v (is_earlier i v w b then_.legal prefix has) (begun_now i v w b prefix has) in
    subst (λ (l : Logs). slice_get (latest_by i l) lba ≡ Some block.sector) then_.logs
    (sym (ap₂ (λ j log. slice_get (histories.after (contents j) (history log)) lba) image (sym same.own)) ∙ held)
