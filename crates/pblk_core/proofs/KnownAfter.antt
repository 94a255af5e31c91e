-- What the engine knows of the chunks once one more event stands in its log.
use Rattle.std.proofs.Common.{◌≡◌, ◌≢◌, ℕ, zero, suc, Some, None, Option, List, [], ◌∷◌, ◌++◌, length, take, refl, sym, ap, ◌∙◌, arith, le_refl, take_all, length-append}
use Rattle.std.specs.Prelude.{slice_get}
use Rattle.std.specs.Option.{option_map}
use Rattle.std.proofs.lemmas.List.{take-append-le}
use Rattle.pblk_model.specs.Chunk.{Chunk}
use Rattle.pblk_model.specs.UnitLog.{UnitEvent, after_outcome}
use Rattle.pblk_model.specs.Image.{Image}
use Rattle.pblk_world.specs.Events.{EngineEvent, Landed, Lost, ResetDone, Decides, Logged}
use Rattle.pblk_world.specs.World.{Logs}
use Rattle.pblk_world.specs.EngineLog.{Begun, begun}
use Rattle.pblk_world.specs.Lines.{known_image, told_by}
use Rattle.pblk_world.specs.Victims.{engine_prefix}
use Rattle.core_laws.specs.Stepping.{after}
use Rattle.core_laws.proofs.Engine.{prefix_whole}
use Rattle.core_laws.proofs.KnownChunks.{chunk_in, chunk_untold, chunk_told, chunk_beside}
use Rattle.pblk_model.proofs.Numbers.{fun_same}

last_event : (logs : Logs) (e : EngineEvent) (knows : List ℕ)
    → slice_get (after logs e knows 0) (length (logs 0)) ≡ Some (record { event = Decides e; knows = knows })
last_event logs e knows = at_end (logs 0) (record { event = Decides e; knows = knows })
  where
    at_end : {X : Type 0} (xs : List X) (x : X) → slice_get (xs ++ x ∷ []) (length xs) ≡ Some x
    at_end [] x = refl
    at_end (y ∷ xs) x = at_end xs x

begun_then : (logs : Logs) (e : EngineEvent) (knows : List ℕ) (b : Begun) → begun (logs 0) ≡ Some b
    → begun (take (length (logs 0)) (after logs e knows 0)) ≡ Some b
begun_then logs e knows b begins =
    ap (λ (xs : List Logged). begun xs)
    (take-append-le (length (logs 0)) (logs 0) (record { event = Decides e; knows = knows } ∷ []) (le_refl (length (logs 0)))
    ∙ take_all (length (logs 0)) (logs 0) (le_refl (length (logs 0))))
    ∙ begins

prefix_all : (logs : Logs) (e : EngineEvent) (knows : List ℕ) → engine_prefix (suc (length (logs 0))) (after logs e knows) ≡ after logs e knows
prefix_all logs e knows = fun_same (engine_prefix (suc (length (logs 0))) (after logs e knows)) (after logs e knows) each
  where
    each : (author : ℕ) → engine_prefix (suc (length (logs 0))) (after logs e knows) author ≡ after logs e knows author
    each zero = take_all (suc (length (logs 0))) (logs 0 ++ record { event = Decides e; knows = knows } ∷ [])
        (omega (arith, length-append (logs 0) (record { event = Decides e; knows = knows } ∷ [])))
    each (suc unit) = refl

told_then : (logs : Logs) (e : EngineEvent) (knows : List ℕ) (n u : ℕ)
    → told_by (engine_prefix n (after logs e knows)) u (Decides e) ≡ told_by logs u (Decides e)
told_then logs (Landed other event) knows n u = refl
told_then logs (Lost other event) knows n u = refl
told_then logs (ResetDone other event) knows n u = refl
told_then logs e knows n u = refl

-- from the images at the two lengths to those of the logs
pub from_lengths : (i : Image) (logs : Logs) (e : EngineEvent) (knows : List ℕ) (u line : ℕ) (f : Option Chunk → Option Chunk)
    → chunk_in (known_image i (engine_prefix (suc (length (logs 0))) (after logs e knows))) u line ≡ f
    (chunk_in (known_image i (engine_prefix (length (logs 0)) (after logs e knows))) u line)
    → chunk_in (known_image i (after logs e knows)) u line ≡ f (chunk_in (known_image i logs) u line)
from_lengths i logs e knows u line f is =
    ap (λ (ls : Logs). chunk_in (known_image i ls) u line) (sym (prefix_all logs e knows)) ∙ is
    ∙ ap (λ (ls : Logs). f (chunk_in (known_image i ls) u line)) (prefix_whole logs e knows)

-- a unit of which the event tells nothing
pub untold_after : (i : Image) (logs : Logs) (e : EngineEvent) (knows : List ℕ) (u line : ℕ) (b : Begun) → begun (logs 0) ≡ Some b
    → told_by logs u (Decides e) ≡ None
    → chunk_in (known_image i (after logs e knows)) u line ≡ chunk_in (known_image i logs) u line
untold_after i logs e knows u line b begins none = from_lengths i logs e knows u line (λ o. o)
    (chunk_untold i (after logs e knows) (length (logs 0)) u line (record { event = Decides e; knows = knows }) b (last_event logs e knows)
    (begun_then logs e knows b begins) (told_then logs e knows (suc (length (logs 0))) u ∙ none))

-- the chunk of the unit event that it tells of
pub told_after : (i : Image) (logs : Logs) (e : EngineEvent) (knows : List ℕ) (u line : ℕ) (b : Begun) (x : UnitEvent) → begun (logs 0) ≡ Some b
    → told_by logs u (Decides e) ≡ Some x → x.chunk ≡ line
    → chunk_in (known_image i (after logs e knows)) u line ≡ option_map (λ (c : Chunk). after_outcome i.shape c x.command x.outcome)
    (chunk_in (known_image i logs) u line)
told_after i logs e knows u line b x begins told same =
    from_lengths i logs e knows u line (option_map (λ (c : Chunk). after_outcome i.shape c x.command x.outcome))
    (chunk_told i (after logs e knows) (length (logs 0)) u line (record { event = Decides e; knows = knows }) b x (last_event logs e knows)
    (begun_then logs e knows b begins) (told_then logs e knows (suc (length (logs 0))) u ∙ told) same)

-- another chunk of that unit
pub beside_after : (i : Image) (logs : Logs) (e : EngineEvent) (knows : List ℕ) (u line : ℕ) (b : Begun) (x : UnitEvent) → begun (logs 0) ≡ Some b
    → told_by logs u (Decides e) ≡ Some x → x.chunk ≢ line
    → chunk_in (known_image i (after logs e knows)) u line ≡ chunk_in (known_image i logs) u line
beside_after i logs e knows u line b x begins told other = from_lengths i logs e knows u line (λ o. o)
    (chunk_beside i (after logs e knows) (length (logs 0)) u line (record { event = Decides e; knows = knows }) b x (last_event logs e knows)
    (begun_then logs e knows b begins) (told_then logs e knows (suc (length (logs 0))) u ∙ told) other)
