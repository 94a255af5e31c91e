-- What the engine's log said before it goes on saying: answers, fronts and openings after more
-- events.
use Rattle.std.proofs.Common.{◌≡◌, ℕ, ◌+◌, ◌<◌, ◌≤◌, ◌==◌, nat_lt, Bool, true, false, Some, None, Option, List, [], ◌∷◌, ◌++◌, length, refl, sym, ap, ap₂, ◌∙◌, arith, append-nil, append_assoc, length-append}
use Rattle.std.specs.Prelude.{slice_get}
use Rattle.std.specs.List.{AllByRecursion, Contains, filter}
use Rattle.std.specs.Option.{is_some, option_to_list}
use Rattle.std.proofs.lemmas.List.Elements.{filter-append, filter_map-append}
use Rattle.std.proofs.lemmas.Option.{none-some, same_Some}
use Rattle.pblk_world.specs.Events.{Event, Logged, Decides, Place}
use Rattle.pblk_world.specs.EngineLog.{takes, taken_by, Placed, placed_by, placements, Answer, answers, answer_by, answer_of, turn, is_land, is_loss, has_landed, was_lost, is_answered}
use Rattle.pblk_world.proofs.Appending.{placements_more}
use Rattle.pblk_model.proofs.Lists.{all_append, all_contains, all_imply, among_contained}
use Rattle.pblk_model.proofs.Maps.{all_filter, filter_none, numbers_below}
use Rattle.pblk_model.proofs.Parts.{contained_among, get_more}
use Rattle.pblk_model.proofs.Tests.{not_before}

pub takes_joined : (log more : List Logged) → takes (log ++ more) ≡ takes log ++ takes more
takes_joined log more = filter_map-append (λ (l : Logged). taken_by l.event) log more

pub answers_joined : (log more : List Logged) (unit : ℕ) → answers (log ++ more) unit ≡ answers log unit ++ answers more unit
answers_joined log more unit = filter_map-append (λ (l : Logged). answer_by unit l.event) log more

-- ---- stripes: those of more events have greater numbers

placed_at : (log : List Logged) (n : ℕ) (e : Event) → AllByRecursion (λ (p : Placed). p.number ≡ n) (option_to_list (placed_by log n e))
placed_at log n (Decides (Place stripe)) = (refl, tt)
placed_at log n e = tt

pub placements_joined : (log more : List Logged)
    → (ps : List Placed) × (placements (log ++ more) ≡ placements log ++ ps) × AllByRecursion (λ (p : Placed). length log ≤ p.number) ps
placements_joined log [] = ([], ap placements (append-nil log) ∙ sym (append-nil (placements log)), tt)
placements_joined log (l ∷ more) =
    let rest = placements_joined (log ++ l ∷ []) more in
    let new : List Placed = option_to_list (placed_by log (length log) l.event) in
    let long : length (log ++ l ∷ []) ≡ length log + 1 = length-append log (l ∷ []) in (
      new ++ rest.0,
      ap placements (sym (append_assoc log (l ∷ []) more)) ∙ rest.1 ∙ ap (λ (ps : List Placed). ps ++ rest.0) (placements_more log l)
          ∙ append_assoc (placements log) new rest.0,
      all_append (λ (p : Placed). length log ≤ p.number) new rest.0
          (all_imply (λ (p : Placed). p.number ≡ length log) (λ (p : Placed). length log ≤ p.number) (λ p is. omega arith) new
          (placed_at log (length log) l.event))
          (all_imply (λ (p : Placed). length (log ++ l ∷ []) ≤ p.number) (λ (p : Placed). length log ≤ p.number) (λ p is. omega arith) rest.0 rest.2),
    )

pub its_number : (log : List Logged) (n : ℕ) (e : Event) (p : Placed) → placed_by log n e ≡ Some p → p.number ≡ n
its_number log n (Decides (Place stripe)) p h = ap (λ (x : Placed). x.number) (sym (same_Some _ p h))
its_number log n e p h = absurd (none-some p h)

-- the number of a stripe is that of an event
pub placed_within : (log : List Logged) (p : Placed) → Contains (placements log) p → p.number < length log
placed_within log p there = all_contains (λ (q : Placed). q.number < length log) (placements log) p
    (numbers_below (λ (e : ℕ × Logged). placed_by log e.0 e.1.event) (λ (q : Placed). q.number) (λ e q h. its_number log e.0 e.1.event q h)
    (length log) 0 log (omega arith)) there

-- ---- answers

pub turn_later : (log more : List Logged) (p : Placed) → p.number < length log → turn (log ++ more) p ≡ turn log p
turn_later log more p before =
    let joined = placements_joined log more in
    let its : Placed → Bool = λ q. q.stripe.unit == p.stripe.unit in
    let earlier : Placed → Bool = λ q. nat_lt q.number p.number in
    ap (λ (ps : List Placed). length (filter earlier (filter its ps))) joined.1
    ∙ ap (λ (ps : List Placed). length (filter earlier ps)) (filter-append its (placements log) joined.0)
    ∙ ap length (filter-append earlier (filter its (placements log)) (filter its joined.0)
    ∙ ap (λ (ps : List Placed). filter earlier (filter its (placements log)) ++ ps) (filter_none earlier (filter its joined.0)
    (all_filter (λ (q : Placed). nat_lt q.number p.number ≡ false) its joined.0
    (all_imply (λ (q : Placed). length log ≤ q.number) (λ (q : Placed). nat_lt q.number p.number ≡ false)
    (λ q after. not_before q.number p.number (omega arith)) joined.0 joined.2)))
    ∙ append-nil (filter earlier (filter its (placements log))))

pub answer_later : (log more : List Logged) (p : Placed) (a : Answer) → p.number < length log → answer_of log p ≡ Some a → answer_of (log ++ more) p ≡ Some a
answer_later log more p a before is =
    ap₂ (λ (given : List Answer) n. slice_get given n) (answers_joined log more p.stripe.unit) (turn_later log more p before)
    ∙ get_more (answers log p.stripe.unit) (answers more p.stripe.unit) (turn log p) a is

-- what holds of its answer goes on holding
by_answer : (test : Option Answer → Bool) → test None ≡ false → (log more : List Logged) (p : Placed) → p.number < length log → test (answer_of log p) ≡ true
    → test (answer_of (log ++ more) p) ≡ true
by_answer test none log more p before h = go (answer_of log p) refl h
  where
    go : (o : Option Answer) → answer_of log p ≡ o → test o ≡ true → test (answer_of (log ++ more) p) ≡ true
    go None e h = absurd cc
    go (Some a) e h = ap test (answer_later log more p a before e) ∙ h

pub landed_later : (log more : List Logged) (p : Placed) → p.number < length log → has_landed log p ≡ true → has_landed (log ++ more) p ≡ true
landed_later log more p before h = by_answer is_land refl log more p before h

pub lost_later : (log more : List Logged) (p : Placed) → p.number < length log → was_lost log p ≡ true → was_lost (log ++ more) p ≡ true
lost_later log more p before h = by_answer is_loss refl log more p before h

pub answered_later : (log more : List Logged) (p : Placed) → p.number < length log → is_answered log p ≡ true → is_answered (log ++ more) p ≡ true
answered_later log more p before h = by_answer is_some refl log more p before h

pub placed_later : (log more : List Logged) (p : Placed) → Contains (placements log) p → Contains (placements (log ++ more)) p
placed_later log more p there =
    let joined = placements_joined log more in
    let at = among_contained (placements log) p there in
    contained_among (placements (log ++ more)) p (at.0, ap (λ (ps : List Placed). slice_get ps at.0) joined.1 ∙ get_more (placements log) joined.0 at.0 p at.1)
