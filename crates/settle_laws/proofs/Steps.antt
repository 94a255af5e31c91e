-- What an event of the engine's log makes of the stripes that opened lines have still to get, and
-- of the chunks that are to be reset, by the logs at the lengths before it and after it.
use Rattle.std.proofs.Common.{◌≡◌, ℕ, ◌+◌, ◌*◌, ◌/◌, ◌≤◌, ◌<◌, suc, true, false, Some, ◌∷◌, take, refl, sym, subst, ap, ap₂, ◌∙◌, arith}
use Rattle.std.specs.Prelude.{slice_get}
use Rattle.std.specs.Option.{option_and_then}
use Rattle.pblk_model.specs.Image.{Image}
use Rattle.pblk_model.specs.Shape.{units}
use Rattle.pblk_model.specs.StartRecord.{StartRecord}
use Rattle.pblk_model.proofs.Parts.{all_taken}
use Rattle.pblk_world.specs.Answering.{MayNoteReset}
use Rattle.pblk_world.specs.EngineLog.{Begun, begun}
use Rattle.pblk_world.specs.Events.{Decides, EngineEvent, Free, Logged, Open, Place, ResetDone, Step, Stripe}
use Rattle.pblk_world.specs.LegalMounts.{IsLegalMount, NoStripeLost, decides, is_freeing, is_losing}
use Rattle.pblk_world.specs.Victims.{engine_prefix}
use Rattle.pblk_world.specs.World.{World, Logs, log_of, unit_event_at, unit_event_of}
use Rattle.world_laws.specs.SameTold.{AreSameTold}
use Rattle.world_laws.proofs.EarlierLogs.{some_begun}
use Rattle.world_laws.proofs.Made.{step_by}
use Rattle.core_laws.specs.OpenAddresses.{keeps_addresses}
use Rattle.rest_laws.specs.RoomRuns.{IsReasonedMount}
use Rattle.rest_laws.specs.RoomSteps.{keeps_unreset, stripes_left, unreset_chunks}
use Rattle.rest_laws.proofs.RoomChanges as room
use Rattle.rest_laws.proofs.RunLogs.{IsStep, step_at}
use Rattle.rest_laws.proofs.RunNumbers as numbers
use Rattle.rest_laws.proofs.StripeChanges.{engine_keeps_stripes, freeing_takes, opening_adds, stripe_leaves}
use Rattle.rest_laws.proofs.UnresetChanges.{engine_keeps_chunks, free_adds_chunks, reset_takes_chunk}
use Rattle.rest_laws.specs.Work.{is_work, work_of}
use Rattle.settle_laws.specs.Quiet.{line_stripes}
use Rattle.settle_laws.proofs.Counts.{chunks_told, count_next, frees, one_if, stripes_told}
use Rattle.settle_laws.proofs.Unfreed.{as_they_are}

module _ (i : Image) (w : World) (is : IsReasonedMount i w) (n : ℕ) (some : 0 < n) (l : Logged) (there : slice_get (log_of w 0) n ≡ Some l) where
  -- ---- events of a kind

  pub done_next : (e : EngineEvent) → l.event ≡ Decides e → work_of (take (suc n) (log_of w 0)) ≡ work_of (take n (log_of w 0)) + one_if (is_work e)
  done_next e its =
      count_next (λ m. decides is_work m.event) (log_of w 0) n l there
      ∙ ap (λ x. work_of (take n (log_of w 0)) + one_if (decides is_work x)) its

  pub frees_next : (e : EngineEvent) → l.event ≡ Decides e → frees (take (suc n) (log_of w 0)) ≡ frees (take n (log_of w 0)) + one_if (is_freeing e)
  frees_next e its =
      count_next (λ m. decides is_freeing m.event) (log_of w 0) n l there
      ∙ ap (λ x. frees (take n (log_of w 0)) + one_if (decides is_freeing x)) its

  -- ---- the event as a step

  abbrev old : Logs
  old = engine_prefix n (log_of w)

  abbrev new : Logs
  new = engine_prefix (suc n) (log_of w)

  abbrev st : IsStep i w n l
  st = step_at i w n l is.mount there

  abbrev v : World
  v = (step_at i w n l is.mount there).before

  abbrev s : Step
  s = step_by 0 l

  mount : IsLegalMount i (step_by 0 l ∷ (step_at i w n l is.mount there).before)
  mount = st.mount

  was : IsLegalMount i (step_at i w n l is.mount there).before
  was = room.before i s v mount

  b : (b : Begun) × (begun (log_of (step_at i w n l is.mount there).before 0) ≡ Some b)
  b = some_begun i v was.legal (numbers.has_one i w is n some l there)

  none_lost : NoStripeLost (log_of (step_at i w n l is.mount there).before 0)
  none_lost = subst NoStripeLost st.was.own (all_taken (λ m. decides is_losing m.event ≡ false) n (log_of w 0) is.none_lost)

  -- ---- numbers that what was told tells alone

  module _ (count : Logs → ℕ) (told : (a b : Logs) → AreSameTold i a b → count b ≡ count a) where
    now : count (engine_prefix (suc n) (log_of w)) ≡ count (log_of (step_by 0 l ∷ (step_at i w n l is.mount there).before))
    now = told (log_of (s ∷ v)) new st.is

    then_ : count (engine_prefix n (log_of w)) ≡ count (log_of (step_at i w n l is.mount there).before)
    then_ = told (log_of v) old st.was

    same : count (log_of (step_by 0 l ∷ (step_at i w n l is.mount there).before)) ≡ count (log_of (step_at i w n l is.mount there).before)
        → count (engine_prefix (suc n) (log_of w)) ≡ count (engine_prefix n (log_of w))
    same h = now ∙ h ∙ sym then_

    one_less : count (log_of (step_at i w n l is.mount there).before) ≡ count (log_of (step_by 0 l ∷ (step_at i w n l is.mount there).before)) + 1
        → count (engine_prefix n (log_of w)) ≡ count (engine_prefix (suc n) (log_of w)) + 1
    one_less h = then_ ∙ h ∙ ap (λ k. k + 1) (sym now)

    at_most : (more : ℕ)
        → count (log_of (step_by 0 l ∷ (step_at i w n l is.mount there).before)) ≤ count (log_of (step_at i w n l is.mount there).before) + more
        → count (engine_prefix (suc n) (log_of w)) ≤ count (engine_prefix n (log_of w)) + more
    at_most more h = omega (arith, now, then_, h)

  -- ---- stripes

  pub stripes_kept : (e : EngineEvent) → l.event ≡ Decides e → keeps_addresses e ≡ true
      → stripes_left i (engine_prefix (suc n) (log_of w)) ≡ stripes_left i (engine_prefix n (log_of w))
  stripes_kept e its keeps = same (stripes_left i) (stripes_told i) (engine_keeps_stripes i s v mount refl b.0 b.1 e its keeps)

  pub stripe_less : (stripe : Stripe) → l.event ≡ Decides (Place stripe)
      → stripes_left i (engine_prefix n (log_of w)) ≡ stripes_left i (engine_prefix (suc n) (log_of w)) + 1
  stripe_less stripe its = one_less (stripes_left i) (stripes_told i) (stripe_leaves i s v mount refl b.0 b.1 none_lost stripe its)

  pub stripes_freed : (line : ℕ) → l.event ≡ Decides (Free line)
      → stripes_left i (engine_prefix (suc n) (log_of w)) ≤ stripes_left i (engine_prefix n (log_of w))
  stripes_freed line its =
      let fewer : stripes_left i (log_of (s ∷ v)) ≤ stripes_left i (log_of v) = freeing_takes i s v mount refl b.0 b.1 line its in
      omega (arith, at_most (stripes_left i) (stripes_told i) 0 (omega (arith, fewer)))

  pub stripes_opened : (line : ℕ) (start : StartRecord) → l.event ≡ Decides (Open line start)
      → stripes_left i (engine_prefix (suc n) (log_of w)) ≡ stripes_left i (engine_prefix n (log_of w)) + line_stripes i.shape
  stripes_opened line start its =
      now (stripes_left i) (stripes_told i) ∙ opening_adds i s v mount refl b.0 b.1 line start its
      ∙ ap₂ (λ k g. k + g * i.shape.clba / i.shape.ws_opt) (sym (then_ (stripes_left i) (stripes_told i)))
      (numbers.start_wide i w is n some l there _ _ _ _ _ (as_they_are i w is n some l there) line start its)

  -- ---- chunks

  pub chunks_kept : (e : EngineEvent) → l.event ≡ Decides e → keeps_unreset e ≡ true
      → unreset_chunks i (engine_prefix (suc n) (log_of w)) ≡ unreset_chunks i (engine_prefix n (log_of w))
  chunks_kept e its keeps = same (unreset_chunks i) (chunks_told i) (engine_keeps_chunks i s v mount refl b.0 b.1 e its keeps)

  pub chunks_freed : (line : ℕ) → l.event ≡ Decides (Free line)
      → unreset_chunks i (engine_prefix (suc n) (log_of w)) ≤ unreset_chunks i (engine_prefix n (log_of w)) + units i.shape
  chunks_freed line its = at_most (unreset_chunks i) (chunks_told i) (units i.shape) (free_adds_chunks i s v mount refl b.0 b.1 line its)

  pub chunk_less : (unit number : ℕ) → l.event ≡ Decides (ResetDone unit number)
      → unreset_chunks i (engine_prefix n (log_of w)) ≡ unreset_chunks i (engine_prefix (suc n) (log_of w)) + 1
  chunk_less unit number its =
      let noted : MayNoteReset (log_of v) unit number =
      room.note_whole (log_of v) l unit number (room.whole i s v mount (ResetDone unit number) refl its b.0 b.1)
      (room.may i s v mount (ResetDone unit number) refl its b.0 b.1).2 in
      let at : unit_event_at (log_of v) unit number ≡ Some noted.reset =
      ap (option_and_then (λ (m : Logged). unit_event_of m.event)) noted.new.is_known ∙ noted.new.event in
      one_less (unreset_chunks i) (chunks_told i) (reset_takes_chunk i s v mount refl b.0 b.1 unit number noted.reset its at)
