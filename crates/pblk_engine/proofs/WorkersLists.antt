-- The commands of a world by their makers: each stands once, and in its worker's list.
use Rattle.std.proofs.Common.{◌≡◌, ◌⊎◌, inl, inr, ⊎_elim, ℕ, ◌+◌, ◌<◌, ◌≤◌, suc, true, Some, List, [], ◌∷◌, length, sym, subst, ap, ◌∙◌, arith}
use Rattle.std.specs.Prelude.{slice_get}
use Rattle.std.proofs.lemmas.Bool.{cases_eq}
use Rattle.std.proofs.lemmas.Option.{none-some}
use Rattle.pblk_model.specs.UnitLog.{UnitEvent}
use Rattle.pblk_model.proofs.Parts.{got_within}
use Rattle.pblk_model.proofs.Tests.{same_number}
use Rattle.pblk_world.specs.Events.{Decides, Does, Event, Logged, Maker, Step}
use Rattle.pblk_world.specs.Makers.{HasMakers, IsNumbered, commands_of, is_made_by}
use Rattle.pblk_world.specs.World.{World, log_of}
use Rattle.pblk_world.proofs.Growing.{at_end}
use Rattle.pblk_world.proofs.WorldLemmas.{log_elsewhere, log_here}
use Rattle.pblk_world.proofs.RisingMakers.{more_made, own_count}
use Rattle.pblk_engine.specs.Endings.{HasMadeAll}
use Rattle.pblk_engine.specs.Workers.{Made, WasMade, WorkerView}

-- ---- one step more

-- what stands in a log then: it stood there before, or is the step's own
abbrev pub StandsNewly : Step → World → ℕ → ℕ → Logged → Type 0
StandsNewly s w author n l = (s.author ≡ author) × (n ≡ length (log_of w author)) × (s.logged ≡ l)

pub stands : (s : Step) (w : World) (author n : ℕ) (l : Logged) → slice_get (log_of (s ∷ w) author) n ≡ Some l
    → (slice_get (log_of w author) n ≡ Some l) ⊎ StandsNewly s w author n l
stands s w author n l there = ⊎_elim
    (λ (own : s.author ≡ author).
    ⊎_elim (λ (old : slice_get (log_of w author) n ≡ Some l). inl old)
    (λ (new : (n ≡ length (log_of w author)) × (s.logged ≡ l)). inr (own, new.0, new.1))
    (at_end (log_of w author) s.logged l n (ap (λ (log : List Logged). slice_get log n) (sym (log_here s w author own)) ∙ there)))
    (λ other. inl (ap (λ (log : List Logged). slice_get log n) (sym (log_elsewhere s w author other)) ∙ there))
    (cases_eq s.author author)

its_number : (s : Step) (w : World) (e : UnitEvent) (m : Maker) → IsNumbered s.logged.event w → s.logged.event ≡ Does e m → m.made ≡ commands_of m.worker w
its_number s w e m is event = subst (λ (x : Event). IsNumbered x w) event is

-- ---- the commands that stand in logs

-- the number of a command is below the count of its worker's commands
pub number_below : (w : World) (author n : ℕ) (l : Logged) (e : UnitEvent) (m : Maker) → HasMakers w → slice_get (log_of w author) n ≡ Some l
    → l.event ≡ Does e m → m.made < commands_of m.worker w
unfolding HasMakers
number_below [] author n l e m has there is = absurd (none-some l there)
number_below (s ∷ w) author n l e m has there is = ⊎_elim
    (λ (old : slice_get (log_of w author) n ≡ Some l).
    let before : m.made < commands_of m.worker w = number_below w author n l e m has.1 old is in
    let more : commands_of m.worker w ≤ commands_of m.worker (s ∷ w) = more_made m.worker s w in
    omega arith)
    (λ (new : StandsNewly s w author n l).
    let event : s.logged.event ≡ Does e m = ap (λ (x : Logged). x.event) new.2 ∙ is in
    let own : is_made_by m.worker s.logged.event ≡ true = ap (is_made_by m.worker) event ∙ same_number m.worker in
    let count : commands_of m.worker (s ∷ w) ≡ commands_of m.worker w + 1 = own_count m.worker s w own in
    let number : m.made ≡ commands_of m.worker w = its_number s w e m has.0 event in
    omega arith)
    (stands s w author n l there)

-- a place in a log
abbrev IsPlace : ℕ → ℕ → Logged → ℕ → ℕ → Logged → Type 0
IsPlace author n l other k x = (author ≡ other) × (n ≡ k) × (l ≡ x)

-- two commands with one maker are the same
pub one_place : (w : World) (author n other k : ℕ) (l x : Logged) (e f : UnitEvent) (m : Maker) → HasMakers w
    → slice_get (log_of w author) n ≡ Some l → l.event ≡ Does e m → slice_get (log_of w other) k ≡ Some x → x.event ≡ Does f m
    → IsPlace author n l other k x
unfolding HasMakers
one_place [] author n other k l x e f m has there is at was = absurd (none-some l there)
one_place (s ∷ w) author n other k l x e f m has there is at was =
    elim (stands s w author n l there) [
      | inl old ↦ elim (stands s w other k x at) [
        | inl before ↦ one_place w author n other k l x e f m has.1 old is before was
        | inr new ↦
            let below : m.made < commands_of m.worker w = number_below w author n l e m has.1 old is in
            let number : m.made ≡ commands_of m.worker w = its_number s w f m has.0 (ap (λ (y : Logged). y.event) new.2 ∙ was) in
            absurd (omega arith)
      ]
      | inr new ↦ elim (stands s w other k x at) [
        | inl before ↦
            let below : m.made < commands_of m.worker w = number_below w other k x f m has.1 before was in
            let number : m.made ≡ commands_of m.worker w = its_number s w e m has.0 (ap (λ (y : Logged). y.event) new.2 ∙ is) in
            absurd (omega arith)
        | inr newer ↦
            let same : author ≡ other = sym new.0 ∙ newer.0 in
            (same, new.1 ∙ ap (λ a. length (log_of w a)) same ∙ sym newer.1, sym new.2 ∙ newer.2)
      ]
    ]

-- each command of a worker stands in its list
pub stands_in_list : (w : World) (v : WorkerView) → HasMakers w → HasMadeAll w v → (unit n : ℕ) (l : Logged) (e : UnitEvent) (made : ℕ)
    → slice_get (log_of w (suc unit)) n ≡ Some l → l.event ≡ Does e (record { worker = v.number; made = made })
    → slice_get v.made made ≡ Some (record { unit = unit; number = n; event = e })
stands_in_list w v has all unit n l e made there is =
    let maker : Maker = record { worker = v.number; made = made } in
    let below : made < commands_of v.number w = number_below w (suc unit) n l e maker has there is in
    let got = got_within v.made made (let count : length v.made ≡ commands_of v.number w = all.count in omega arith) in
    let was : WasMade (log_of w) v.number made got.0 = all.each made got.0 got.1 in
    let one = one_place w (suc unit) n (suc got.0.unit) got.0.number l was.logged e got.0.event maker has there is was.there was.event in
    got.1 ∙ ap Some (same_made got.0 unit n e (let u : suc unit ≡ suc got.0.unit = one.0 in omega arith) one.1
    (event_is e got.0.event maker (sym is ∙ ap (λ (y : Logged). y.event) one.2 ∙ was.event)))
  where
    same_made : (m : Made) (unit n : ℕ) (e : UnitEvent) → unit ≡ m.unit → n ≡ m.number → e ≡ m.event → m ≡ record { unit = unit; number = n; event = e }
    same_made m unit n e a b c = λ j. record { unit = sym a j; number = sym b j; event = sym c j }

    event_is : (e f : UnitEvent) (maker : Maker) → Does e maker ≡ Does f maker → e ≡ f
    event_is e f maker same = ap (done e) same
      where
        done : UnitEvent → Event → UnitEvent
        done other (Decides d) = other
        done other (Does x m) = x
