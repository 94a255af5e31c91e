-- What a heart stands for once the engine noted the answer to a stripe.
use Rattle.std.proofs.Common.{◌≡◌, ℕ, None, length, refl, sym, subst}
use Rattle.pblk_model.specs.Image.{Image}
use Rattle.pblk_world.specs.AtRest.{logs_at}
use Rattle.pblk_world.specs.EngineLog.{taken_by}
use Rattle.pblk_world.specs.Events.{Decides}
use Rattle.pblk_world.specs.Legal.{MayDecide}
use Rattle.pblk_world.specs.Orders.{IsInOrder, NoneToFree}
use Rattle.pblk_world.specs.World.{World, Logs, log_of}
use Rattle.step_laws.specs.Whole.{knows_all}
use Rattle.pblk_core.specs.Keeping.{KeepsFrames, KeepsOtherStripes}
use Rattle.pblk_core.specs.Mounts.{CollectsAfterAnswer, StandsAfterAnswer}
use Rattle.pblk_core.specs.declared.target_core.Core.{Core}
use Rattle.chronicle.specs.Prefixes.{logs_of}
use Rattle.pblk_engine.specs.Answers.{MayAnswer, answer_event}
use Rattle.pblk_engine.specs.Hearts.{IsBeating, Parts}
use Rattle.pblk_engine.specs.declared.commands.Ended.{Ended}
use Rattle.pblk_engine.specs.declared.commands.Ended.TheVariants as ended
use Rattle.pblk_engine.proofs.Decisions.{after_quiet, its_heart, its_mount, legal_next, none_to_free_then}
use Rattle.pblk_engine.proofs.HeartSteps.{IsAfter}
use Rattle.pblk_engine.proofs.Reasoned.{HasReason}

-- ---- no answer takes an entry, and none asks for a reason

takes_none : (how : Ended) (unit number : ℕ) → taken_by (Decides (answer_event how unit number)) ≡ None
takes_none ended.Done unit number = refl
takes_none (ended.Failed kept) unit number = refl
takes_none ended.Stopped unit number = refl

in_order : (i : Image) (logs : Logs) (how : Ended) (unit number : ℕ) → NoneToFree i logs → IsInOrder i logs (answer_event how unit number)
in_order i logs ended.Done unit number none = none
in_order i logs (ended.Failed kept) unit number none = none
in_order i logs ended.Stopped unit number none = none

has_reason : (i : Image) (logs : Logs) (how : Ended) (unit number : ℕ) → HasReason i logs (answer_event how unit number)
has_reason i logs ended.Done unit number = tt
has_reason i logs (ended.Failed kept) unit number = tt
has_reason i logs ended.Stopped unit number = tt

module _ (h : Parts) (b : IsBeating h) (how : Ended) (unit number : ℕ)
    (may : MayAnswer how unit h.author.past.image (logs_of h.author.known) number) where
  abbrev i : Image
  i = h.author.past.image

  abbrev w : World
  w = b.legal.world

  pub may_note : MayDecide h.author.past.image (logs_of h.author.known) (answer_event how unit number)
  may_note = go how may
    where
      go : (how : Ended) → MayAnswer how unit h.author.past.image (logs_of h.author.known) number
          → MayDecide h.author.past.image (logs_of h.author.known) (answer_event how unit number)
      go ended.Done may = (b.heart.stands.beginning, b.heart.stands.has_begun, may)
      go (ended.Failed kept) may = (b.heart.stands.beginning, b.heart.stands.has_begun, may.may)
      go ended.Stopped may = (b.heart.stands.beginning, b.heart.stands.has_begun, may)

  pub after_answer : NoneToFree h.author.past.image (logs_of h.author.known) → (new : Core)
      → StandsAfterAnswer h.core (answer_event how unit) (MayAnswer how unit) new
      → CollectsAfterAnswer h.core (answer_event how unit) (MayAnswer how unit) new → KeepsOtherStripes unit h.core new
      → KeepsFrames h.core.window new.window
      → IsAfter h.author.past.image b.legal.world (answer_event how unit number) h.core new h.intake h.intake
  after_answer none new stands collects kept frames =
      let here : MayAnswer how unit i (log_of w) number = subst (λ (logs : Logs). MayAnswer how unit i logs number) (sym b.legal.logs) may in
      let none_here : NoneToFree i (log_of w) = subst (NoneToFree i) (sym b.legal.logs) none in
      after_quiet i w (answer_event how unit number) (takes_none how unit number) h.core new h.intake (its_mount h b)
      (legal_next h b (answer_event how unit number) may_note) (its_heart h b)
      (stands i w number (knows_all i.shape w) (its_mount h b) (its_heart h b).stands here)
      (collects i w number (knows_all i.shape w) (its_mount h b) (its_heart h b).stands (its_heart h b).collects here)
      frames.own frames.count kept.pad.most kept.copying
      (in_order i (logs_at (length (log_of w 0)) (log_of w)) how unit number
      (none_to_free_then i w h.core h.intake (its_mount h b) (its_heart h b) none_here))
      (has_reason i (log_of w) how unit number)
