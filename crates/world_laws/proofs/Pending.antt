-- The line of a stripe whose program hasn't ended is opened, and is so since before the stripe was
-- placed.
use Rattle.std.proofs.Common.{◌≡◌, ℕ, ◌+◌, ◌<◌, ◌≤◌, ◌⊎◌, inl, inr, suc, Some, List, length, take, sym, ap, ◌∙◌, arith}
use Rattle.std.specs.Prelude.{slice_get}
use Rattle.std.proofs.Math.Seq.{take-length}
use Rattle.pblk_model.specs.Image.{Image}
use Rattle.pblk_world.specs.Events.{Logged}
use Rattle.pblk_world.specs.World.{World, log_of}
use Rattle.pblk_world.specs.EngineLog.{Opened, life_of, Placed, placed_on}
use Rattle.pblk_world.specs.Commanding.{ended_stripes}
use Rattle.pblk_world.specs.Legal.{IsLegal}
use Rattle.pblk_model.proofs.Parts.{get_below}
use Rattle.world_laws.proofs.NextLives.{IsPlacedIn, placed_in}
use Rattle.world_laws.proofs.StripeLines.{IsGone, open_or_gone}
use Rattle.world_laws.proofs.Tellings.{IsTold, IsToldBefore, ended_one, ended_within, ends}

module _ (i : Image) (w : World) (legal : IsLegal i w) (unit : ℕ) where
  abbrev log : List Logged
  log = log_of w 0

  -- what is told has ended
  told_ended : (j q : ℕ) → IsTold i w legal unit j q → j < ended_stripes (log_of w (suc unit))
  told_ended j q t =
      let own : List Logged = log_of w (suc unit) in
      let one : ended_stripes (take (suc t.number) own) ≡ ended_stripes (take t.number own) + 1 = ended_one own t.number t.logged t.there
      (ends t.logged t.event t.is_event t.program t.going t.knew) in
      let inside : t.number < length own = get_below own t.number t.logged t.there in
      let more : ended_stripes (take (suc t.number) own) ≤ ended_stripes (take (length own) own) = ended_within own (suc t.number) (length own) (omega arith) in
      let whole : ended_stripes (take (length own) own) ≡ ended_stripes own = ap ended_stripes (take-length own) in
      let turn : ended_stripes (take t.number own) ≡ j = t.turn in
      omega arith

  pub pending_is_open : (j : ℕ) (p : Placed) → slice_get (placed_on (log_of w 0) unit) j ≡ Some p → ended_stripes (log_of w (suc unit)) ≤ j
      → life_of (log_of w 0) p.stripe.line ≡ p.life
  pending_is_open j p there pending = go (open_or_gone i w legal unit j p there (length log) (get_below log p.number at.logged at.decided.there) (omega arith))
    where
      at : IsPlacedIn i w legal unit j p
      at = placed_in i w legal unit j p there

      go : (life_of (take (length log) log) p.stripe.line ≡ Opened (placed_in i w legal unit j p there).opening) ⊎ IsGone i w legal unit j p there (length log)
          → life_of log p.stripe.line ≡ p.life
      go (inl now) = ap (λ (xs : List Logged). life_of xs p.stripe.line) (sym (take-length log)) ∙ now ∙ sym (placed_in i w legal unit j p there).its_life
      go (inr gone) =
          let t : IsToldBefore i w legal unit j gone.freed.number = gone.told in
          let ended : j < ended_stripes (log_of w (suc unit)) = told_ended j t.at t.told in
          absurd (omega arith)
