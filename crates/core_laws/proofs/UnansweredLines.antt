-- The line of a stripe that isn't answered is opened as it was when the stripe was placed: a line
-- is freed only once each of its stripes is answered.
use Rattle.std.proofs.Common.{◌≡◌, ◌⊎◌, inl, inr, ℕ, ◌<◌, true, false, Some, List, length, take, drop, sym, subst, ap, ◌∙◌, arith, length-take}
use Rattle.std.specs.List.{Contains}
use Rattle.std.specs.Option.{is_some}
use Rattle.pblk_model.specs.Image.{Image}
use Rattle.pblk_world.specs.Events.{Logged}
use Rattle.pblk_world.specs.World.{World, log_of}
use Rattle.pblk_world.specs.EngineLog.{Opened, Opening, is_answered, is_life, life_of, Placed, placements, stripes_of}
use Rattle.pblk_world.specs.Legal.{IsLegal}
use Rattle.pblk_model.proofs.Lists.{among_contained}
use Rattle.pblk_model.proofs.Maps.{in_filter}
use Rattle.pblk_model.proofs.Parts.{contained_among, take_and_drop}
use Rattle.pblk_model.proofs.Tests.{not_both, same_number}
use Rattle.world_laws.proofs.Freeing.{answered_when_freed}
use Rattle.world_laws.proofs.Later.{answered_later, placed_within}
use Rattle.world_laws.proofs.Lives.{IsFreedLife, standing_or_freed}
use Rattle.world_laws.proofs.Stripes.{life_of_stripe, opening_then, placed_before_freed}
use Rattle.core_laws.specs.PlacerOf.{unanswered_on}
use Rattle.core_laws.proofs.Answered.{IsFirst, first_unanswered}
use Rattle.core_laws.proofs.AnsweredUnits.{first_answer}

pub still_open : (i : Image) (w : World) (p : Placed) → IsLegal i w → Contains (placements (log_of w 0)) p → is_answered (log_of w 0) p ≡ false
    → life_of (log_of w 0) p.stripe.line ≡ p.life
still_open i w p legal there waits =
    let log : List Logged = log_of w 0 in
    let life = life_of_stripe i w p legal there in
    let was = opening_then log p.number p.stripe.line life.0 life.2 in
    go life.0 life.1 was.1 (standing_or_freed i w life.0 legal was.0)
  where
    go : (o : Opening) → p.life ≡ Opened o → o.line ≡ p.stripe.line → (life_of (log_of w 0) o.line ≡ Opened o) ⊎ IsFreedLife (log_of w 0) o
        → life_of (log_of w 0) p.stripe.line ≡ p.life
    go o life its (inl stands) = ap (life_of (log_of w 0)) (sym its) ∙ stands ∙ sym life
    go o life its (inr f) =
        let log : List Logged = log_of w 0 in
        let of_life : Contains (stripes_of log o) p = contained_among (stripes_of log o) p
        (in_filter (λ (q : Placed). is_life o.number q.life) (placements log) p (among_contained (placements log) p there)
        (ap (is_life o.number) life ∙ same_number o.number)) in
        let before : p.number < f.number = placed_before_freed i w o p f legal of_life in
        let inside : p.number < length log = placed_within log p there in
        let answered : is_answered log p ≡ true = subst (λ (xs : List Logged). is_answered xs p ≡ true) (take_and_drop f.number log)
        (answered_later (take f.number log) (drop f.number log) p (omega (arith, length-take f.number log)) (answered_when_freed i w o p legal f of_life)) in
        absurd (not_both (is_answered log p) answered waits)

-- so is that of the stripe that a unit is at work on
pub first_open : (i : Image) (w : World) (unit : ℕ) (p : Placed) → IsLegal i w → unanswered_on (log_of w 0) unit ≡ Some p
    → life_of (log_of w 0) p.stripe.line ≡ p.life
first_open i w unit p legal waits =
    let first : IsFirst (log_of w 0) unit p = first_unanswered (log_of w 0) unit p waits in
    still_open i w p legal (contained_among (placements (log_of w 0)) p first.among) (ap is_some (first_answer (log_of w 0) unit p waits))
