-- A stripe whose turn is how many stripes of its unit have ended, by logs that know that it was
-- placed: it isn't answered, and all before it are.
use Rattle.std.proofs.Common.{◌≡◌, ℕ, zero, suc, ◌+◌, ◌-◌, ◌^◌, ◌<◌, ◌≤◌, Some, List, length, min, take, true, refl, sym, ap, ap₂, ◌∙◌, arith}
use Rattle.std.specs.Prelude.{is_some, slice_get}
use Rattle.std.proofs.Math.Seq.{take-length}
use Rattle.std.proofs.lemmas.Option.{slice_get_within}
use Rattle.pblk_model.specs.Image.{Image}
use Rattle.pblk_world.specs.Commanding.{ended_stripes}
use Rattle.pblk_world.specs.EngineLog.{Placed, answers, is_answered, placed_on, placements, turn}
use Rattle.pblk_world.specs.Events.{Logged}
use Rattle.pblk_world.specs.Legal.{IsLegal}
use Rattle.pblk_world.specs.LegalMounts.{IsLegalMount}
use Rattle.pblk_world.specs.World.{World, log_of}
use Rattle.pblk_world.proofs.Answered.{answers_fit}
use Rattle.pblk_model.proofs.Parts.{get_below, got_within, within_some}
use Rattle.world_laws.proofs.Tellings.{IsTold, IsToldBefore, answered_told, ended_one, ended_within, ends}
use Rattle.world_laws.proofs.UnitTurns.{turn_is, unit_is}
use Rattle.core_laws.specs.PlacerOf.{unanswered_on}
use Rattle.core_laws.proofs.OneStripe.{one_stripe}
use Rattle.core_laws.proofs.UnitTurns.{stands_at_turn}
use Rattle.pblk_core.specs.Stands.{turn_told}

module _ (i : Image) (w : World) (legal : IsLegal i w) (unit : ℕ) where
  abbrev log : List Logged
  log = log_of w 0

  -- what the engine was told has ended
  told_ended : (j q : ℕ) → IsTold i w legal unit j q → j < ended_stripes (log_of w (suc unit))
  told_ended j q t =
      let own : List Logged = log_of w (suc unit) in
      let one : ended_stripes (take (suc t.number) own) ≡ ended_stripes (take t.number own) + 1 = ended_one own t.number t.logged t.there
      (ends t.logged t.event t.is_event t.program t.going t.knew) in
      let inside : t.number < length own = get_below own t.number t.logged t.there in
      let more : ended_stripes (take (suc t.number) own) ≤ ended_stripes (take (length own) own) = ended_within own (suc t.number) (length own) (omega arith) in
      let whole : ended_stripes (take (length own) own) ≡ ended_stripes own = ap ended_stripes (take-length own) in
      let turn : ended_stripes (take t.number own) ≡ j = t.turn in
      omega arith

  pub answers_ended : length (answers log unit) ≤ ended_stripes (log_of w (suc unit))
  answers_ended = go (length (answers log unit)) refl
    where
      go : (n : ℕ) → length (answers log unit) ≡ n → n ≤ ended_stripes (log_of w (suc unit))
      go zero many = omega arith
      go (suc j) many =
          let most : length (answers log unit) ≤ length (placed_on log unit) = answers_fit i w unit legal in
          let p : (p : Placed) × (slice_get (placed_on log unit) j ≡ Some p) = got_within (placed_on log unit) j (omega arith) in
          let is : is_answered log p.0 ≡ true =
          ap₂ (λ u n. is_some (slice_get (answers log u) n)) (unit_is log unit j p.0 p.1) (turn_is log unit j p.0 p.1)
          ∙ within_some (answers log unit) j (omega arith) in
          let t : IsToldBefore i w legal unit j (length log) = answered_told i w legal unit (length log) j p.0
          (ap (λ (xs : List Logged). slice_get (placed_on xs unit) j) (take-length log) ∙ p.1)
          (ap (λ (xs : List Logged). is_answered xs p.0) (take-length log) ∙ is) in
          let ended : j < ended_stripes (log_of w (suc unit)) = told_ended j t.at t.told in
          omega arith

-- the stripe waits, and its unit has ended as many as were answered
pub waits_there : (i : Image) (w : World) (k : ℕ) (p : Placed) → IsLegalMount i w → slice_get (placements (log_of w 0)) k ≡ Some p
    → turn_told (log_of w 0) p ≡ min (ended_stripes (log_of w (suc p.stripe.unit))) (2 ^ 64 - 1) → turn_told (log_of w 0) p < 2 ^ 64 - 1
    → (unanswered_on (log_of w 0) p.stripe.unit ≡ Some p)
    × (ended_stripes (log_of w (suc p.stripe.unit)) ≡ length (answers (log_of w 0) p.stripe.unit))
    × (turn (log_of w 0) p ≡ ended_stripes (log_of w (suc p.stripe.unit)))
waits_there i w k p mount there same below =
    let unit : ℕ = p.stripe.unit in
    let log : List Logged = log_of w 0 in
    let turns : turn log p ≡ ended_stripes (log_of w (suc unit)) = omega (arith, same, below) in
    let few : length (answers log unit) ≤ ended_stripes (log_of w (suc unit)) = answers_ended i w mount.legal unit in
    let within : turn log p < length (placed_on log unit) =
    slice_get_within (placed_on log unit) (turn log p) p (stands_at_turn log p (k, there)) in
    let one : length (placed_on log unit) ≤ length (answers log unit) + 1 = one_stripe i w unit mount.legal in
    let level : ended_stripes (log_of w (suc unit)) ≡ length (answers log unit) = omega arith in (
      ap (slice_get (placed_on log unit)) (sym level ∙ sym turns) ∙ stands_at_turn log p (k, there),
      level,
      turns,
    )
