-- Lemmas on the words of World.
use Rattle.std.proofs.Common.{Bool, List, [], ap, arith, false, if◌then◌else◌, length, refl, suc, true, ℕ, ◌++◌, ◌+◌, ◌<◌, ◌==◌, ◌∙◌, ◌∷◌, ◌≡◌, ◌≢◌}
use Rattle.std.specs.List.{enumerate_from, filter_map, slice_get}
use Rattle.std.specs.Option.{option_and_then, option_map}
use Rattle.pblk_model.proofs.Maps.{map_same, numbered_at, numbered_length}
use Rattle.pblk_model.proofs.Parts.{get_taken}
use Rattle.pblk_model.specs.Chunk.{Chunk}
use Rattle.pblk_model.specs.Image.{Image}
use Rattle.pblk_model.specs.UnitLog.{after_log}
use Rattle.pblk_world.specs.Events.{Logged, Step}
use Rattle.pblk_world.specs.World.{Logs, World, known, log_of, media, prefixes, unit_event_at, unit_event_of, unit_events}

pub media_at : (i : Image) (logs : Logs) (unit : ℕ)
    → slice_get (media i logs).units unit ≡ option_map (λ chunks. after_log i.shape chunks (unit_events logs unit)) (slice_get i.units unit)
media_at i logs unit =
    let same : 0 + unit ≡ unit = omega arith in
    numbered_at (λ (u : ℕ × List Chunk). after_log i.shape u.1 (unit_events logs u.0)) 0 i.units unit
    ∙ ap (λ m. option_map (λ chunks. after_log i.shape chunks (unit_events logs m)) (slice_get i.units unit)) same

pub log_here : (s : Step) (w : World) (author : ℕ) → s.author ≡ author → log_of (s ∷ w) author ≡ log_of w author ++ s.logged ∷ []
log_here s w author e = by (s.author == author) refl where
  by : (b : Bool) → (s.author == author) ≡ b → (if b then log_of w author ++ s.logged ∷ [] else log_of w author) ≡ log_of w author ++ s.logged ∷ []
  by true is = refl
  by false is = let other : s.author ≢ author = grind arith in absurd (other e)

pub log_elsewhere : (s : Step) (w : World) (author : ℕ) → s.author ≢ author → log_of (s ∷ w) author ≡ log_of w author
log_elsewhere s w author n = by (s.author == author) refl where
  by : (b : Bool) → (s.author == author) ≡ b → (if b then log_of w author ++ s.logged ∷ [] else log_of w author) ≡ log_of w author
  by true is = let same : s.author ≡ author = grind arith in absurd (n same)
  by false is = refl

pub length_media : (i : Image) (logs : Logs) → length (media i logs).units ≡ length i.units
length_media i logs = numbered_length _ 0 i.units

pub unit_event_cut : (logs : Logs) (l : Logged) (unit n : ℕ) → n < known l (suc unit) → unit_event_at (prefixes l logs) unit n ≡ unit_event_at logs unit n
unit_event_cut logs l unit n h = ap (option_and_then (λ (m : Logged). unit_event_of m.event)) (get_taken (known l (suc unit)) (logs (suc unit)) n h)

pub media_same : (i : Image) (a b : Logs) → ((unit : ℕ) → a (suc unit) ≡ b (suc unit)) → media i a ≡ media i b
media_same i a b same = ap (λ us. record { shape = i.shape; units = us })
    (map_same (λ (unit : ℕ × List Chunk). after_log i.shape unit.1 (unit_events a unit.0))
    (λ (unit : ℕ × List Chunk). after_log i.shape unit.1 (unit_events b unit.0))
    (λ unit. ap (λ (xs : List Logged). after_log i.shape unit.1 (filter_map (λ (l : Logged). unit_event_of l.event) xs)) (same unit.0))
    (enumerate_from 0 i.units))
