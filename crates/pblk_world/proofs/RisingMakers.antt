-- The commands of one worker have rising numbers.
use Rattle.std.proofs.Common.{◌≡◌, ℕ, ◌+◌, ◌<◌, ◌≤◌, zero, suc, true, false, cond, Some, [], ◌∷◌, length, subst, ap, ◌∙◌, arith}
use Rattle.std.specs.Prelude.{slice_get}
use Rattle.std.specs.List.{filter}
use Rattle.std.proofs.lemmas.Option.{same_Some, none-some}
use Rattle.pblk_model.specs.UnitLog.{UnitEvent}
use Rattle.pblk_world.specs.Events.{Maker, Event, Does, Step}
use Rattle.pblk_world.specs.World.{World}
use Rattle.pblk_world.specs.Makers.{is_made_by, commands_of, IsNumbered, HasMakers}
use Rattle.pblk_model.proofs.Tests.{same_number}

-- ---- one step more

-- of this worker or not
pub more_made : (worker : ℕ) (s : Step) (w : World) → commands_of worker w ≤ commands_of worker (s ∷ w)
more_made worker s w = elim (is_made_by worker s.logged.event) as (λ b. length (filter (λ (step : Step). is_made_by worker step.logged.event) w)
    ≤ length (cond b (s ∷ filter (λ (step : Step). is_made_by worker step.logged.event) w) (filter (λ (step : Step). is_made_by worker step.logged.event) w))) [
      | true ↦ omega arith
      | false ↦ omega arith
    ]

-- it isn't of this worker
pub others_count : (worker : ℕ) (s : Step) (w : World) → is_made_by worker s.logged.event ≡ false → commands_of worker (s ∷ w) ≡ commands_of worker w
others_count worker s w other =
    ap (λ b. length (cond b (s ∷ filter (λ (step : Step). is_made_by worker step.logged.event) w)
    (filter (λ (step : Step). is_made_by worker step.logged.event) w))) other

-- it is
pub own_count : (worker : ℕ) (s : Step) (w : World) → is_made_by worker s.logged.event ≡ true → commands_of worker (s ∷ w) ≡ commands_of worker w + 1
own_count worker s w own =
    ap (λ b. length (cond b (s ∷ filter (λ (step : Step). is_made_by worker step.logged.event) w)
    (filter (λ (step : Step). is_made_by worker step.logged.event) w))) own
    ∙ (let one : suc (commands_of worker w) ≡ commands_of worker w + 1 = omega arith in one)

-- ---- the numbers of its commands

-- the number of a command is below the count of its worker's commands
made_below : (w : World) (k : ℕ) (s : Step) (e : UnitEvent) (n : Maker) → HasMakers w → slice_get w k ≡ Some s → s.logged.event ≡ Does e n
    → n.made < commands_of n.worker w
unfolding HasMakers
made_below [] k s e n has at is = absurd (none-some s at)
made_below (t ∷ w) zero s e n has at is =
    let same : t.logged.event ≡ Does e n = ap (λ (x : Step). x.logged.event) (same_Some t s at) ∙ is in
    let own : is_made_by n.worker t.logged.event ≡ true = ap (is_made_by n.worker) same ∙ same_number n.worker in
    let count : commands_of n.worker (t ∷ w) ≡ commands_of n.worker w + 1 = own_count n.worker t w own in
    let number : n.made ≡ commands_of n.worker w = subst (λ (x : Event). IsNumbered x w) same has.0 in
    omega arith
made_below (t ∷ w) (suc k) s e n has at is =
    let rest : n.made < commands_of n.worker w = made_below w k s e n has.1 at is in
    let more : commands_of n.worker w ≤ commands_of n.worker (t ∷ w) = more_made n.worker t w in
    omega arith

pub rising : (w : World) (j k : ℕ) (late early : Step) (e f : UnitEvent) (m n : Maker) → HasMakers w → j < k → slice_get w j ≡ Some late
    → slice_get w k ≡ Some early
    → late.logged.event ≡ Does e m → early.logged.event ≡ Does f n → n.worker ≡ m.worker → n.made < m.made
unfolding HasMakers
rising [] j k late early e f m n has less a b is was same = absurd (none-some late a)
rising (t ∷ w) zero zero late early e f m n has less a b is was same = absurd (omega arith)
rising (t ∷ w) zero (suc k) late early e f m n has less a b is was same =
    let event : t.logged.event ≡ Does e m = ap (λ (x : Step). x.logged.event) (same_Some t late a) ∙ is in
    let number : m.made ≡ commands_of m.worker w = subst (λ (x : Event). IsNumbered x w) event has.0 in
    let below : n.made < commands_of n.worker w = made_below w k early f n has.1 b was in
    let alike : commands_of n.worker w ≡ commands_of m.worker w = ap (λ worker. commands_of worker w) same in
    omega arith
rising (t ∷ w) (suc j) zero late early e f m n has less a b is was same = absurd (omega arith)
rising (t ∷ w) (suc j) (suc k) late early e f m n has less a b is was same = rising w j k late early e f m n has.1 (omega arith) a b is was same
