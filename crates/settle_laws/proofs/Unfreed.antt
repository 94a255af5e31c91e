-- Events that a mount with reasons doesn't make: those of units, a second beginning, and a loss. And
-- what an event that frees no line makes of the lines that are Free or to be reset.
use Rattle.std.proofs.Common.{Bool, List, Some, ap, arith, false, inl, inr, length, length-take, refl, subst, suc, sym, take, true, ℕ, ◌<◌, ◌∙◌, ◌≡◌, ◌≤◌}
use Rattle.std.specs.Prelude.{slice_get}
use Rattle.std.proofs.lemmas.Option.{slice_get_within}
use Rattle.pblk_model.specs.Image.{Image}
use Rattle.pblk_model.proofs.Parts.{all_at}
use Rattle.pblk_model.proofs.Tests.{not_both}
use Rattle.pblk_world.specs.Events.{Again, Begin, Decides, Does, Event, Free, Landed, Logged, Lost, Open, Place, ResetDone, Stripe, Take}
use Rattle.pblk_world.specs.Fronts.{taken}
use Rattle.pblk_world.specs.Legal.{IsAllowed}
use Rattle.pblk_world.specs.LegalMounts.{decides, is_losing}
use Rattle.pblk_world.specs.Opening.{MayBegin}
use Rattle.pblk_world.specs.Space.{open_addresses, placed_front}
use Rattle.pblk_world.specs.Victims.{engine_prefix}
use Rattle.pblk_world.specs.World.{World, log_of, prefixes}
use Rattle.world_laws.proofs.Made.{IsMade, made}
use Rattle.world_laws.proofs.NextLives.{IsDecided, decided}
use Rattle.rest_laws.specs.RoomRuns.{IsReasonedMount}
use Rattle.rest_laws.specs.RoomSteps.{free_lines, has_entry, unreset_lines}
use Rattle.rest_laws.proofs.RunNumbers as numbers
use Rattle.rest_laws.proofs.RunNumbers.{AreNumbers}

module _ (i : Image) (w : World) (is : IsReasonedMount i w) where
  abbrev log : List Logged
  log = log_of w 0

  -- ---- an event that isn't

  module _ (n : ℕ) (some : 0 < n) (l : Logged) (there : slice_get (log_of w 0) n ≡ Some l) where
    inside : n < length (log_of w 0)
    inside = slice_get_within log n l there

    pub no_unit : (x : _) (maker : _) → l.event ≡ Does x maker → ⊥
    no_unit x maker its =
        let h : IsMade i w 0 n l = made i w 0 n l is.mount.legal there in
        subst (λ (e : Event). IsAllowed i 0 e (prefixes l (log_of h.before))) its h.step.allowed

    pub no_begin : (x : _) → l.event ≡ Decides (Begin x) → ⊥
    no_begin x its =
        let d : IsDecided i w is.mount.legal n (Begin x) l = decided i w is.mount.legal n (Begin x) l there its in
        let first : MayBegin i (prefixes l (log_of w)) x = d.allowed in
        let none : length (take n log) ≡ 0 = ap length (sym d.own ∙ first.is_first) in
        absurd (omega (arith, length-take n log, inside, some))

    pub no_loss : (unit event : ℕ) → l.event ≡ Decides (Lost unit event) → ⊥
    no_loss unit event its =
        let kept : decides is_losing l.event ≡ false = all_at (λ m. decides is_losing m.event ≡ false) log n l there is.none_lost in
        not_both (decides is_losing l.event) (ap (decides is_losing) its) kept

    -- the numbers before it
    pub as_they_are : AreNumbers i (engine_prefix n (log_of w)) (open_addresses i (engine_prefix n (log_of w))) (free_lines i (engine_prefix n (log_of w)))
        (unreset_lines i (engine_prefix n (log_of w))) (placed_front i.shape (take n (log_of w 0))) (taken (take n (log_of w 0)))
    as_they_are = record { left_is = refl; free_is = refl; resetting_is = refl; placed_is = refl; taken_is = refl }

    -- ---- where no line is freed

    module _ (not_freed : (line : ℕ) → l.event ≡ Decides (Free line) → ⊥) (reset : unreset_lines i (engine_prefix n (log_of w)) ≡ 0) where
      abbrev Stays : Type 0
      Stays = (unreset_lines i (engine_prefix (suc n) (log_of w)) ≡ 0)
          × (free_lines i (engine_prefix (suc n) (log_of w)) ≤ free_lines i (engine_prefix n (log_of w)))

      stay : {left free resetting placed taken_ : ℕ} → AreNumbers i (engine_prefix (suc n) (log_of w)) left free resetting placed taken_ → resetting ≡ 0
          → free ≤ free_lines i (engine_prefix n (log_of w)) → Stays
      stay now none few = (omega (arith, now.resetting_is, none), omega (arith, now.free_is, few))

      pub resets_stay : Stays
      resets_stay = go l.event refl
        where
          placed_by : (stripe : Stripe) → l.event ≡ Decides (Place stripe) → (b : Bool) → has_entry i.shape stripe ≡ b → Stays
          placed_by stripe its true has = stay (numbers.data_placed i w is n some l there _ _ _ _ _ as_they_are stripe its has).1 reset (omega arith)
          placed_by stripe its false none = stay (numbers.other_placed i w is n some l there _ _ _ _ _ as_they_are stripe its none) reset (omega arith)

          go : (e : Event) → l.event ≡ e → Stays
          go (Does x maker) its = absurd (no_unit x maker its)
          go (Decides (Begin x)) its = absurd (no_begin x its)
          go (Decides (Lost unit event)) its = absurd (no_loss unit event its)
          go (Decides (Free line)) its = absurd (not_freed line its)
          go (Decides (Take entry mark)) its = stay (numbers.entry_takes i w is n some l there _ _ _ _ _ as_they_are entry mark its) reset (omega arith)
          go (Decides (Open line start)) its = stay (numbers.opened i w is n some l there _ _ _ _ _ as_they_are line start its).1 reset (omega arith)
          go (Decides (Place stripe)) its = placed_by stripe its (has_entry i.shape stripe) refl
          go (Decides (ResetDone unit event)) its = elim (numbers.reset i w is n some l there _ _ _ _ _ as_they_are unit event its) [
            | inl now ↦ stay now reset (omega arith)
            | inr now ↦ absurd (omega (arith, now.0, reset))
          ]
          go (Decides (Landed unit event)) its =
              stay (numbers.quiet i w is n some l there _ _ _ _ _ as_they_are (Landed unit event) its refl refl refl refl) reset (omega arith)
          go (Decides (Again unit event)) its =
              stay (numbers.quiet i w is n some l there _ _ _ _ _ as_they_are (Again unit event) its refl refl refl refl) reset (omega arith)
