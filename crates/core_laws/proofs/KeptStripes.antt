-- Events that place nothing and tell of no loss, and those that leave the lines as they were.
use Rattle.std.proofs.Common.{◌≡◌, ℕ, ◌==◌, ◌&&◌, zero, suc, nat_lt, nat_le, Bool, true, false, Some, None, Option, List, [], ◌∷◌, ◌++◌, length, take, refl, ap, ap₂, ◌∙◌, append-nil}
use Rattle.std.specs.Prelude.{slice_get, if◌then◌else◌}
use Rattle.std.specs.List.{filter, list_all}
use Rattle.std.specs.Option.{option_to_list}
use Rattle.pblk_world.specs.Events.{EngineEvent, Open, Place, Landed, Lost, Free, Decides, Logged}
use Rattle.pblk_world.specs.EngineLog.{life_of, is_life, Opening, stripes_of, has_landed, Placed, placements, placed_by, Answer, DidLand, answer_by, answers, turn, is_loss, was_lost}
use Rattle.pblk_world.specs.Starts.{have_landed}
use Rattle.pblk_world.proofs.Appending.{life_more, placements_more}
use Rattle.core_laws.proofs.Steady.{AreAlike}
use Rattle.core_laws.proofs.TakenSlots.{landed_same}
use Rattle.core_laws.specs.OpenAddresses.{keeps_stripes, keeps_addresses}
use Rattle.pblk_model.proofs.Numbers.{fun_same}
use Rattle.pblk_world.proofs.EngineLogLemmas.{answers_more}

abbrev pub with_event : List Logged → EngineEvent → List ℕ → List Logged
with_event log e knows = log ++ record { event = Decides e; knows = knows } ∷ []

-- the same stripes are placed, and the same ones are lost
pub record KeepsStripes (log new : List Logged) : Type 0 where
  pub placements : placements new ≡ placements log
  pub losses : (p : Placed) → was_lost new p ≡ was_lost log p

loss_by : (unit : ℕ) (e : EngineEvent) → keeps_stripes e ≡ true → is_loss (answer_by unit (Decides e)) ≡ false
loss_by unit (Landed other event) keeps =
    elim (other == unit) as (λ b. is_loss (if b then Some (DidLand event) else None) ≡ false) [ true ↦ refl | false ↦ refl ]
loss_by unit (Lost other event) keeps = absurd cc
loss_by unit e keeps = refl

none_placed : (log : List Logged) (n : ℕ) (e : EngineEvent) → keeps_stripes e ≡ true → placed_by log n (Decides e) ≡ None
none_placed log n (Place stripe) keeps = absurd cc
none_placed log n e keeps = refl

loss_more : (xs : List Answer) (o : Option Answer) (k : ℕ) → is_loss o ≡ false → is_loss (slice_get (xs ++ option_to_list o) k) ≡ is_loss (slice_get xs k)
loss_more [] None k e = refl
loss_more [] (Some a) zero e = e
loss_more [] (Some a) (suc k) e = refl
loss_more (x ∷ xs) o zero e = refl
loss_more (x ∷ xs) o (suc k) e = loss_more xs o k e

pub placements_kept : (log : List Logged) (e : EngineEvent) (knows : List ℕ) → keeps_stripes e ≡ true → placements (with_event log e knows) ≡ placements log
placements_kept log e knows keeps =
    placements_more log (record { event = Decides e; knows = knows })
    ∙ ap (λ o. placements log ++ option_to_list o) (none_placed log (length log) e keeps) ∙ append-nil (placements log)

pub stripes_kept : (log : List Logged) (e : EngineEvent) (knows : List ℕ) → keeps_stripes e ≡ true → KeepsStripes log (with_event log e knows)
stripes_kept log e knows keeps = record {
  placements = placements_kept log e knows keeps;
  losses = λ p.
      ap₂ (λ (xs : List Answer) k. is_loss (slice_get xs k)) (answers_more log (record { event = Decides e; knows = knows }) p.stripe.unit)
      (ap (λ ps. length (filter (λ (q : Placed). nat_lt q.number p.number) (filter (λ (q : Placed). q.stripe.unit == p.stripe.unit) ps)))
      (placements_kept log e knows keeps))
      ∙ loss_more (answers log p.stripe.unit) (answer_by p.stripe.unit (Decides e)) (turn log p) (loss_by p.stripe.unit e keeps);
}

pub also_stripes : (e : EngineEvent) → keeps_addresses e ≡ true → keeps_stripes e ≡ true
also_stripes (Open line start) keeps = refl
also_stripes (Place stripe) keeps = absurd cc
also_stripes (Lost unit event) keeps = absurd cc
also_stripes (Free line) keeps = refl
also_stripes e keeps = refl

pub lives_kept : (log : List Logged) (e : EngineEvent) (knows : List ℕ) (line : ℕ) → keeps_addresses e ≡ true
    → life_of (with_event log e knows) line ≡ life_of log line
lives_kept log (Open other start) knows line keeps = absurd cc
lives_kept log (Free other) knows line keeps = absurd cc
lives_kept log e knows line keeps = life_more log (record { event = Decides e; knows = knows }) line

-- and nothing is answered
pub alike_kept : (log : List Logged) (e : EngineEvent) (knows : List ℕ) → keeps_stripes e ≡ true → ((unit : ℕ) → answer_by unit (Decides e) ≡ None)
    → AreAlike log (with_event log e knows)
alike_kept log e knows keeps none = record {
  placements = placements_kept log e knows keeps;
  answers = fun_same (answers (with_event log e knows)) (answers log)
      (λ unit. answers_more log (record { event = Decides e; knows = knows }) unit ∙ ap (λ o. answers log unit ++ option_to_list o) (none unit)
      ∙ append-nil (answers log unit));
}

all_same : {X : Type 0} (f g : X → Bool) → ((x : X) → f x ≡ g x) → (xs : List X) → list_all f xs ≡ list_all g xs
all_same f g same [] = refl
all_same f g same (x ∷ xs) = ap₂ (λ a b. a && b) (same x) (all_same f g same xs)

pub have_landed_alike : (log new : List Logged) → AreAlike log new → (o : Opening) (n : ℕ) → have_landed new o n ≡ have_landed log o n
have_landed_alike log new same o n =
    ap (λ ps. nat_le n (length (filter (λ (p : Placed). is_life o.number p.life) ps)) && list_all (has_landed new)
    (take n (filter (λ (p : Placed). is_life o.number p.life) ps))) same.placements
    ∙ ap (λ b. nat_le n (length (stripes_of log o)) && b) (all_same (has_landed new) (has_landed log) (landed_same log new same) (take n (stripes_of log o)))
