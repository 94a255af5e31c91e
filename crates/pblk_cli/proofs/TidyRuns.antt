-- A run on a tidy drive in which no command failed, and no line names an event, did all that it was
-- told to.
use Rattle.std.proofs.Common.{◌≡◌, ◌⊎◌, inl, inr, ℕ, ◌+◌, ◌<◌, ◌≤◌, zero, suc, false, Some, None, Option, List, [], ◌∷◌, length, refl, sym, subst, ap, ◌∙◌, arith}
use Rattle.std.specs.List.{AllByRecursion}
use Rattle.std.proofs.Math.Seq.{take-length}
use Rattle.block_port.specs.declared.rows.WornAnswer.{WornAnswer}
use Rattle.command_words.specs.Grammar.{RunOptions}
use Rattle.pblk_model.specs.declared.script.Command.{Command}
use Rattle.pblk_model.specs.Contents.{contents}
use Rattle.pblk_model.specs.Image.{Image}
use Rattle.pblk_model.specs.ImageFile.{Drive, image_of}
use Rattle.pblk_model.specs.Script.{ScriptFits}
use Rattle.pblk_model.specs.Sealed.{IsSealed}
use Rattle.pblk_model.specs.Text.{Transcript}
use Rattle.pblk_model.specs.Transcript.{IsRun, events}
use Rattle.pblk_world.specs.AtRest.{IsAtRest}
use Rattle.pblk_world.specs.EngineLog.{Begun, begun}
use Rattle.pblk_world.specs.Fronts.{taken}
use Rattle.pblk_world.specs.Space.{is_due, position_limit}
use Rattle.pblk_world.specs.World.{World, log_of, media}
use Rattle.pblk_world.proofs.EngineLogLemmas.{begun_knows}
use Rattle.pblk_world.proofs.VictimsLemmas.{whole_prefix}
use Rattle.pblk_world.specs.LegalMounts.{NoStripeLost}
use Rattle.pblk_world.specs.Reasons.{HasReasons}
use Rattle.rest_laws.specs.Tidy.{IsTidy}
use Rattle.rest_laws.specs.TidyMounts.{HasNoFailures, HasNumbersLeft, HasRoom, IsTidyMount}
use Rattle.rest_laws.proofs.ClaimedCopies.{begun_in_turn}
use Rattle.rest_laws.proofs.LeftTidy.{found_faultless, heard_faultless, left_tidy}
use Rattle.rest_laws.proofs.NothingFailed.{faultless_kept}
use Rattle.rest_laws.proofs.NearNumbers.{numbers_left, positions_left}
use Rattle.rest_laws.proofs.RestingThen.{due_over, left_before, no_worn_flush, no_worn_write, positions_before}
use Rattle.rest_laws.proofs.TakenNear.{taken_near_synced}
use Rattle.rest_laws.proofs.TidyRoom.{has_room}
use Rattle.pblk_cli.specs.Commands.{IsWorldBetween}
use Rattle.pblk_cli.specs.Complete.{HasSmallNumbers, IsComplete}
use Rattle.pblk_cli.specs.Stops.{HasBegun}
use Rattle.pblk_cli.specs.Worn.{IsRefusedFor, IsRefusedThen, worns_of}
use Rattle.pblk_cli.proofs.RefusedLines.{each_refused}
use Rattle.pblk_cli.proofs.CalmRuns.{closed, contents_of, opened, status_zero, worns_few}

-- ---- no cause of a refusal

none_refused : (i : Image) (w : World) (worns : List WornAnswer) → IsTidyMount i w → HasRoom i (log_of w) → HasNumbersLeft i.shape (log_of w 0)
    → taken (log_of w 0) + 16 ≤ position_limit (log_of w 0) → AllByRecursion (λ (a : WornAnswer). a.count ≤ 16) worns
    → AllByRecursion (λ (a : WornAnswer). (n : ℕ) × IsRefusedThen i (log_of w) n a) worns → worns ≡ []
none_refused i w [] is room left far few are = refl
none_refused i w (a ∷ worns) is room left far few are = absurd (one are.0.0 a.count few.0 are.0.1.cause)
  where
    one : (n count : ℕ) → count ≤ 16 → IsRefusedFor i (log_of w) n count a.wanted a.have → ⊥
    one n zero within worn =
        no_worn_flush i w n a.wanted a.have is room (left_before i.shape (log_of w 0) n worn.at_rest.has_begun left) worn
    one n (suc others) within worn =
        no_worn_write i w n (suc others) a.wanted a.have is room (left_before i.shape (log_of w 0) n worn.0.at_rest.has_begun left)
        (positions_before (log_of w 0) n 16 worn.0.at_rest.has_begun far) within worn.0

-- ---- a run

-- a run's world, and the transcript relation over a sealed image
module _ (found left : Drive) (options : RunOptions) (commands : List (List Command)) (t : Transcript)
    (world : IsWorldBetween found left options commands t)
    (relation : IsSealed (image_of found) → IsRun found.sector commands (contents (image_of found)) t (contents (image_of left)))
    (capacity : ℕ) (fits : ScriptFits capacity commands) (fine : HasNoFailures (log_of world.world)) (named : events t ≡ [])
    (tidy : IsTidy (image_of found)) (small : HasSmallNumbers (image_of left)) where
  abbrev i : Image
  i = image_of found

  abbrev w : World
  w = world.world

  unlost : NoStripeLost (log_of world.world 0)
  unlost = faultless_kept i w world.legal.legal (heard_faultless (log_of w) fine)

  mount : IsTidyMount (image_of found) world.world
  mount = record {
    mount = world.legal;
    tidy = tidy;
    found_faultless = found_faultless (log_of w) fine;
    faultless = heard_faultless (log_of w) fine;
    full = world.opened_full;
  }

  -- the mount has begun: opening answered nothing
  some : 0 < length (log_of world.world 0)
  some = by (opened t named) (begun (log_of w 0)) refl world.has_begun
    where
      by : t.opening ≡ None → (o : Option Begun) → begun (log_of world.world 0) ≡ o → HasBegun t.opening o → 0 < length (log_of world.world 0)
      by none None is h = absurd (subst (λ x. HasBegun x None) none h)
      by none (Some b) is h = begun_knows (length (log_of w 0)) (log_of w 0) b (ap begun (take-length (log_of w 0)) ∙ is)

  -- the numbers of the world are near those of the image left
  small_media : HasSmallNumbers (media (image_of found) (log_of world.world))
  small_media = subst HasSmallNumbers world.media_are small

  numbers : HasNumbersLeft (image_of found).shape (log_of world.world 0)
  numbers = numbers_left i w world.legal unlost tidy.sealed some small_media.low_end small_media.low_seq

  positions : taken (log_of world.world 0) + 16 ≤ position_limit (log_of world.world 0)
  positions = positions_left i w world.legal tidy.sealed small_media.low_end
      (taken_near_synced i w world.legal unlost world.granted (begun_in_turn i w world.legal world.begun))

  below : taken (log_of world.world 0) < position_limit (log_of world.world 0)
  below = by (taken (log_of w 0)) (position_limit (log_of w 0)) positions
    where
      by : (x y : ℕ) → x + 16 ≤ y → x < y
      by x y e = omega arith

  reasons : HasReasons (image_of found) (log_of world.world)
  reasons = record { granted = world.granted; begun = world.begun; urgent = world.urgent }

  room : HasRoom (image_of found) (log_of world.world)
  room = has_room i w mount world.after_resets reasons below

  refused : worns_of commands t ≡ []
  refused = none_refused i w (worns_of commands t) mount room numbers positions (worns_few capacity commands t fits)
      (each_refused i (log_of w) commands t world.worn)

  not_due : is_due (image_of found) (log_of world.world) ≡ false
  not_due = by (world.over (opened t named) (closed commands t named refused))
    where
      by : (is_due (image_of found) (log_of world.world) ≡ false)
          ⊎ IsAtRest (image_of found) (log_of world.world) 0 (length (log_of world.world 0))
          → is_due (image_of found) (log_of world.world) ≡ false
      by (inl over) = over
      by (inr rest) =
          ap (is_due i) (sym (whole_prefix (log_of w)))
          ∙ due_over i w (length (log_of w 0)) 0 mount room (left_before i.shape (log_of w 0) (length (log_of w 0)) rest.has_begun numbers)
          (subst (λ log. taken log < position_limit log) (sym (take-length (log_of w 0))) below) rest

  pub complete : IsComplete found left commands t
  complete = record {
    status = status_zero commands t named refused;
    closed = closed commands t named refused;
    kept = (relation tidy.sealed).closed (closed commands t named refused);
    written = λ apart. contents_of found.sector commands (contents i) (contents (image_of left)) t apart (relation tidy.sealed) named refused;
    tidy = subst IsTidy (sym world.media_are) (left_tidy i w world.legal some fine tidy not_due);
  }
