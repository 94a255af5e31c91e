-- Makers of unit commands. A worker numbers its commands in the order in which it makes them,
-- whatever their units.
use Rattle.std.specs.Prelude.{ℕ, ◌^◌, ◌==◌, ◌≡◌, ⊤, Bool, false, [], ◌∷◌, length}
use Rattle.std.specs.List.{filter}
use Rattle.pblk_world.specs.Events.{Maker, Event, Decides, Does}
use Rattle.pblk_world.specs.World.{World}

-- Workers have numbers of 64 bits. The opening is a worker of its own, with a number that none of
-- them has.
abbrev pub opening_worker : ℕ
opening_worker = 2 ^ 64

abbrev pub is_made_by : ℕ → Event → Bool
is_made_by worker (Decides e) = false
is_made_by worker (Does e maker) = maker.worker == worker

-- how many commands a worker made, of all units
abbrev pub commands_of : ℕ → World → ℕ
commands_of worker w = length (filter (λ step. is_made_by worker step.logged.event) w)

-- the maker of a worker's next command
abbrev pub maker_of : ℕ → World → Maker
maker_of worker w = record { worker = worker; made = commands_of worker w }

-- Each command says how many its worker had made before it.
abbrev pub IsNumbered : Event → World → Type 0
IsNumbered (Decides e) w = ⊤
IsNumbered (Does e maker) w = maker.made ≡ commands_of maker.worker w

unfoldable pub HasMakers : World → Type 0
HasMakers [] = ⊤
HasMakers (step ∷ w) = IsNumbered step.logged.event w × HasMakers w
