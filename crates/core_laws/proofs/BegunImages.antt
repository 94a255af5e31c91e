-- The image that a mount which has just begun found, and knows.
use Rattle.std.proofs.Common.{◌≡◌, ℕ, ◌+◌, ◌<◌, suc, Some, List, [], ◌∷◌, ◌++◌, length, take, sym, subst, ap, ◌∙◌, arith}
use Rattle.std.specs.Prelude.{map, slice_index}
use Rattle.std.specs.List.{filter_map, enumerate_from}
use Rattle.std.proofs.Math.Seq.{take-length}
use Rattle.pblk_model.specs.declared.found.Found.{Found}
use Rattle.pblk_model.specs.Accepted.{IsAccepted}
use Rattle.pblk_model.specs.Shape.{units}
use Rattle.pblk_model.specs.Chunk.{Chunk}
use Rattle.pblk_model.specs.UnitLog.{after_log}
use Rattle.pblk_model.specs.Image.{Image, IsFit}
use Rattle.pblk_world.specs.Events.{Beginning, Begin, Decides, Logged}
use Rattle.pblk_world.specs.World.{World, Logs, log_of, cut_logs, media, unit_events, unit_event_of}
use Rattle.pblk_world.specs.EngineLog.{begun, AsFound, life_of}
use Rattle.pblk_world.specs.Lines.{found_by, found_image, told_by, told_events, known_image}
use Rattle.pblk_world.specs.Legal.{IsLegal}
use Rattle.core_laws.specs.Stepping.{after}
use Rattle.world_laws.specs.Finding.{IsFoundOf}
use Rattle.world_laws.specs.MountBeginnings.{beginning_of}
use Rattle.world_laws.proofs.FitMedia.{prefixes_fit}
use Rattle.core_laws.specs.JustBegun.{HasJustBegun}
use Rattle.core_laws.proofs.MadeLists.{numbered_same, numbered_agree}

-- the image that the beginning names
abbrev pub named_image : Image → Logs → List ℕ → Image
named_image i logs knows = media i (cut_logs knows logs)

abbrev event : Beginning → List ℕ → Logged
event b knows = record { event = Decides (Begin b); knows = knows }

found_named : (i : Image) (logs : Logs) (b : Beginning) (knows : List ℕ) → logs 0 ≡ event b knows ∷ [] → found_image i logs ≡ named_image i logs knows
found_named i logs b knows log = ap (λ (xs : List Logged). found_by i logs (begun xs)) log

known_named : (i : Image) (logs : Logs) (b : Beginning) (knows : List ℕ) → logs 0 ≡ event b knows ∷ [] → known_image i logs ≡ named_image i logs knows
known_named i logs b knows log = λ k. record { shape = i.shape; units = same k }
  where
    told : (unit : ℕ) → told_events logs unit ≡ []
    told unit = ap (λ (xs : List Logged). filter_map (λ (m : Logged). told_by logs unit m.event) xs) log

    same : (known_image i logs).units ≡ (named_image i logs knows).units
    same =
        ap (λ (j : Image). map (λ unit. after_log i.shape unit.1 (told_events logs unit.0)) (enumerate_from 0 j.units)) (found_named i logs b knows log)
        ∙ numbered_same (λ unit. after_log i.shape unit.1 (told_events logs unit.0)) (λ e. ap (after_log i.shape e.1) (told e.0)) 0
        (named_image i logs knows).units

pub found_at : (i : Image) (f : Found) (logs : Logs) (is : HasJustBegun i f logs) → found_image i logs ≡ named_image i logs is.knows
found_at i f logs is = found_named i logs (beginning_of f) is.knows is.log

pub known_at : (i : Image) (f : Found) (logs : Logs) (is : HasJustBegun i f logs) → known_image i logs ≡ named_image i logs is.knows
known_at i f logs is = known_named i logs (beginning_of f) is.knows is.log

pub named_fit : (i : Image) (f : Found) (logs : Logs) (is : HasJustBegun i f logs) → IsFit (named_image i logs is.knows)
named_fit i f logs is = subst IsFit (found_at i f logs is) is.fit

pub named_found : (i : Image) (f : Found) (logs : Logs) (is : HasJustBegun i f logs) → IsFoundOf (named_image i logs is.knows) f
named_found i f logs is = subst (λ (j : Image). IsFoundOf j f) (found_at i f logs is) is.found

pub knows_found : (i : Image) (f : Found) (logs : Logs) → HasJustBegun i f logs → known_image i logs ≡ found_image i logs
knows_found i f logs is = known_at i f logs is ∙ sym (found_at i f logs is)

pub begun_is : (i : Image) (f : Found) (logs : Logs) (is : HasJustBegun i f logs)
    → begun (logs 0) ≡ Some (record { beginning = beginning_of f; knows = is.knows })
begun_is i f logs is = ap begun is.log

pub life_is : (i : Image) (f : Found) (logs : Logs) (line : ℕ) → HasJustBegun i f logs → life_of (logs 0) line ≡ AsFound
life_is i f logs line is = ap (λ (xs : List Logged). life_of xs line) is.log

-- ---- a world's first event

begun_log : (w : World) (b : Beginning) (knows : List ℕ) → log_of w 0 ≡ [] → after (log_of w) (Begin b) knows 0 ≡ event b knows ∷ []
begun_log w b knows none = ap (λ (xs : List Logged). xs ++ event b knows ∷ []) none

pub just_begun : (i : Image) (w : World) (f : Found) (knows : List ℕ) → IsAccepted i.shape → IsFit i → IsLegal i w → log_of w 0 ≡ []
    → IsFoundOf (found_image i (after (log_of w) (Begin (beginning_of f)) knows)) f → HasJustBegun i f (after (log_of w) (Begin (beginning_of f)) knows)
just_begun i w f knows accepted fit legal none found = record {
  accepted = accepted;
  knows = knows;
  log = begun_log w (beginning_of f) knows none;
  fit = subst IsFit (sym (found_named i (after (log_of w) (Begin (beginning_of f)) knows) (beginning_of f) knows (begun_log w (beginning_of f) knows none)))
      (prefixes_fit i w knows accepted fit legal);
  found = found;
}

whole_units : (i : Image) (w : World) (knows : List ℕ) → IsFit i
    → ((unit : ℕ) → unit < units i.shape → slice_index knows (suc unit) ≡ length (log_of w (suc unit)))
    → (media i (cut_logs knows (log_of w))).units ≡ (media i (log_of w)).units
whole_units i w knows fit whole =
    numbered_agree (λ (u : ℕ × List Chunk). after_log i.shape u.1 (unit_events (cut_logs knows (log_of w)) u.0))
    (λ (u : ℕ × List Chunk). after_log i.shape u.1 (unit_events (log_of w) u.0)) 0 i.units
    (λ k chunks below.
    let count : length i.units ≡ units i.shape = fit.units in
    let inside : 0 + k < units i.shape = omega arith in
    let all : take (slice_index knows (suc (0 + k))) (log_of w (suc (0 + k))) ≡ log_of w (suc (0 + k)) =
    ap (λ n. take n (log_of w (suc (0 + k)))) (whole (0 + k) inside) ∙ take-length (log_of w (suc (0 + k))) in
    ap (λ (xs : List Logged). after_log i.shape chunks (filter_map (λ (l : Logged). unit_event_of l.event) xs)) all)

pub found_whole : (i : Image) (w : World) (b : Beginning) (knows : List ℕ) → IsFit i → log_of w 0 ≡ []
    → ((unit : ℕ) → unit < units i.shape → slice_index knows (suc unit) ≡ length (log_of w (suc unit)))
    → found_image i (after (log_of w) (Begin b) knows) ≡ media i (log_of w)
found_whole i w b knows fit none whole =
    found_named i (after (log_of w) (Begin b) knows) b knows (begun_log w b knows none)
    ∙ (λ k. record { shape = i.shape; units = whole_units i w knows fit whole k })
