-- A line of which a stripe was lost has no data address left.
use Rattle.std.proofs.Common.{◌≡◌, ◌≢◌, ℕ, ◌+◌, ◌*◌, ◌<◌, ◌-◌, max, Bool, false, Some, List, length, refl, sym, subst, ap, ap₂, ◌∙◌, arith}
use Rattle.std.specs.Prelude.{if◌then◌else◌}
use Rattle.std.specs.List.{filter}
use Rattle.std.proofs.lemmas.Option.{same_Some}
use Rattle.pblk_model.specs.declared.shape.Shape.{Shape}
use Rattle.pblk_model.specs.LineOrder.{start_len}
use Rattle.pblk_model.specs.Image.{Image}
use Rattle.pblk_world.specs.Events.{Lost, Decides}
use Rattle.pblk_world.specs.World.{Logs}
use Rattle.pblk_world.specs.EngineLog.{LineLife, AsFound, Opened, Freed, life_of, is_life, Opening, Placed, placements}
use Rattle.pblk_world.specs.Placing.{end_address}
use Rattle.pblk_world.specs.Space.{unplaced_in, open_addresses}
use Rattle.pblk_world.proofs.Appending.{life_more}
use Rattle.core_laws.specs.Stepping.{after}
use Rattle.core_laws.specs.PlacerOf.{unanswered_on}
use Rattle.core_laws.proofs.LostRows.{fails_now, fails_beside}
use Rattle.core_laws.proofs.LostStripe.{IsOneLost, one_lost}
use Rattle.core_laws.proofs.OpeningNumbers.{opens_at, life_at}
use Rattle.core_laws.proofs.RangeSums.{sum_more}
use Rattle.pblk_model.proofs.Tests.{other_number}

abbrev unplaced_by : Shape → Opening → Bool → ℕ → ℕ
unplaced_by s o failed n = if failed then 0 else end_address s o - max (start_len s) (n * s.ws_opt)

-- its addresses left are none any more; all others stay
pub addresses_lost : (i : Image) (logs : Logs) (unit event : ℕ) (knows : List ℕ) (p : Placed) (o : Opening) → p.stripe.line < i.shape.chunks
    → unanswered_on (logs 0) unit ≡ Some p → p.life ≡ Opened o → life_of (logs 0) p.stripe.line ≡ Opened o
    → open_addresses i logs ≡ open_addresses i (after logs (Lost unit event) knows) + unplaced_in i.shape (logs 0) (Opened o)
addresses_lost i logs unit event knows p o inside waits its opened =
    let here : 0 + p.stripe.line ≡ p.stripe.line = omega arith in
    let gone : unplaced_in i.shape (new 0) (life_of (new 0) p.stripe.line) ≡ 0 =
    ap (unplaced_in i.shape (new 0)) (lives p.stripe.line ∙ opened)
    ∙ ap (λ b. unplaced_by i.shape o b (length (filter (λ (r : Placed). is_life o.number r.life) (placements (new 0)))))
    (fails_now (logs 0) (after logs (Lost unit event) knows 0) p o is its) in
    let was : unplaced_in i.shape (logs 0) (life_of (logs 0) p.stripe.line) ≡ unplaced_in i.shape (logs 0) (Opened o) =
    ap (unplaced_in i.shape (logs 0)) opened in
    let falls : unplaced_in i.shape (logs 0) (life_of (logs 0) p.stripe.line) ≡ unplaced_in i.shape (new 0) (life_of (new 0) p.stripe.line) +
    unplaced_in i.shape (logs 0) (Opened o) = omega arith in
    sum_more (λ m. unplaced_in i.shape (new 0) (life_of (new 0) m)) (λ m. unplaced_in i.shape (logs 0) (life_of (logs 0) m)) i.shape.chunks 0 p.stripe.line
    (unplaced_in i.shape (logs 0) (Opened o)) inside
    (subst (λ m. unplaced_in i.shape (logs 0) (life_of (logs 0) m) ≡ unplaced_in i.shape (new 0) (life_of (new 0) m) +
    unplaced_in i.shape (logs 0) (Opened o)) (sym here) falls)
    (λ m other. sym (ap (unplaced_in i.shape (new 0)) (lives m) ∙ beside m (λ e. other (e ∙ sym here)) (life_of (logs 0) m) refl))
  where
    new : Logs
    new = after logs (Lost unit event) knows

    is : IsOneLost (logs 0) (after logs (Lost unit event) knows 0) p
    is = one_lost (logs 0) unit event knows p waits

    lives : (line : ℕ) → life_of (after logs (Lost unit event) knows 0) line ≡ life_of (logs 0) line
    lives line = life_more (logs 0) (record { event = Decides (Lost unit event); knows = knows }) line

    beside : (m : ℕ) → m ≢ p.stripe.line → (life : LineLife) → life_of (logs 0) m ≡ life
        → unplaced_in i.shape (after logs (Lost unit event) knows 0) life ≡ unplaced_in i.shape (logs 0) life
    beside m other AsFound e = refl
    beside m other (Opened q) e =
        let apart : is_life q.number p.life ≡ false =
        ap (is_life q.number) its ∙ other_number o.number q.number (λ same.
        other (same_Some m p.stripe.line
        (sym (life_at (logs 0) m q e).0 ∙ ap (opens_at (logs 0)) (sym same) ∙ (life_at (logs 0) p.stripe.line o opened).0))) in
        ap₂ (unplaced_by i.shape q) (fails_beside (logs 0) (after logs (Lost unit event) knows 0) p q is apart)
        (ap (λ (ps : List Placed). length (filter (λ (r : Placed). is_life q.number r.life) ps)) is.stripes)
    beside m other (Freed past ks) e = refl
