-- What was taken has positions in order.
use Rattle.std.proofs.Common.{◌≡◌, ℕ, ◌+◌, Some, List, [], ◌∷◌, ◌++◌, length, refl, sym, ap, ap₂, ◌∙◌, append-nil, length-append}
use Rattle.std.specs.List.{range_with_len}
use Rattle.std.proofs.lemmas.Option.{none-some}
use Rattle.pblk_model.specs.Image.{Image}
use Rattle.pblk_world.specs.Events.{EngineEvent, Begin, Take, Decides, Logged}
use Rattle.pblk_world.specs.World.{Logs}
use Rattle.pblk_world.specs.EngineLog.{Begun, begun, Taken, takes}
use Rattle.pblk_world.specs.Fronts.{first_position, taken}
use Rattle.pblk_world.specs.Legal.{IsDecision}
use Rattle.core_laws.specs.PlacerOf.{positions_of}
use Rattle.core_laws.specs.Positions.{AreNumbered}
use Rattle.core_laws.proofs.Taking.{positions_last}
use Rattle.pblk_model.proofs.Maps.{range_last}
use Rattle.pblk_world.proofs.EngineLogLemmas.{takes_more}
use Rattle.world_laws.proofs.Positions.{first_same}

pub begun_stays : (log : List Logged) (l : Logged) (b : Begun) → begun log ≡ Some b → begun (log ++ l ∷ []) ≡ begun log
begun_stays [] l b e = absurd (none-some b e)
begun_stays (m ∷ log) l b e = refl

pub first_stays : (log : List Logged) (l : Logged) (b : Begun) → begun log ≡ Some b → first_position (log ++ l ∷ []) ≡ first_position log
first_stays log l b e = first_same log (l ∷ []) b e

numbered_same : (a b : ℕ) (ts us : List Taken) → a ≡ b → ts ≡ us → positions_of us ≡ range_with_len b (length us)
    → positions_of ts ≡ range_with_len a (length ts)
numbered_same a b ts us p q is = ap positions_of q ∙ is ∙ ap₂ (λ n (vs : List Taken). range_with_len n (length vs)) (sym p) (sym q)

numbered_more : (a b : ℕ) (ts us : List Taken) (t : Taken) → a ≡ b → ts ≡ us ++ t ∷ [] → t.entry.position ≡ b + length us
    → positions_of us ≡ range_with_len b (length us) → positions_of ts ≡ range_with_len a (length ts)
numbered_more a b ts us t p q next is =
    ap positions_of q ∙ positions_last us t ∙ ap₂ (λ ks k. ks ++ k ∷ []) is next ∙ sym (range_last b (length us))
    ∙ ap₂ (λ n m. range_with_len n m) (sym p) (sym (length-append us (t ∷ [])) ∙ ap (λ (vs : List Taken). length vs) (sym q))

pub numbered_after : (i : Image) (known : Logs) (log : List Logged) (beginning : Begun) (e : EngineEvent) (knows : List ℕ) → begun log ≡ Some beginning
    → known 0 ≡ log → IsDecision i known beginning e
    → AreNumbered log → AreNumbered (log ++ record { event = Decides e; knows = knows } ∷ [])
numbered_after i known log beginning (Begin b) knows begins own may is = absurd may
numbered_after i known log beginning (Take entry mark) knows begins own may is =
    let l : Logged = record { event = Decides (Take entry mark); knows = knows } in
    numbered_more (first_position (log ++ l ∷ [])) (first_position log) (takes (log ++ l ∷ [])) (takes log) (record { entry = entry; mark = mark })
    (first_stays log l beginning begins) (takes_more log l)
    (may.position ∙ ap taken own) is
numbered_after i known log beginning e knows begins own may is =
    let l : Logged = record { event = Decides e; knows = knows } in
    numbered_same (first_position (log ++ l ∷ [])) (first_position log) (takes (log ++ l ∷ [])) (takes log) (first_stays log l beginning begins)
    (takes_more log l ∙ append-nil (takes log)) is
