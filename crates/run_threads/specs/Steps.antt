-- How a seat's view changes at each kind of step.
use Rattle.std.specs.Prelude.{ℕ, zero, suc, ◌+◌, ◌-◌, [], ◌∷◌, ◌++◌}
use Rattle.run_threads.specs.Views.{View}

-- the first seat, which may post so many words
abbrev pub starting : ℕ → View
starting count = record { next = 0; past = count; known = [] }

-- what is left of a seat that went into another
abbrev pub spent : View
spent = record { next = 0; past = 0; known = [] }

-- its next word has this value now
abbrev pub posted : View → ℕ → View
posted v value = record { next = v.next + 1; past = v.past; known = (v.next, value - 1) ∷ v.known }

-- a word was found to have this value
abbrev pub heard : View → ℕ → ℕ → View
heard v word zero = v
heard v word (suc position) = record { next = v.next; past = v.past; known = (word, position) ∷ v.known }

-- a new seat has the words below this one, and the seat keeps the others
abbrev pub share_of : ℕ → View → View
share_of past v = record { next = v.next; past = past; known = [] }

abbrev pub rest_of : ℕ → View → View
rest_of past v = record { next = past; past = v.past; known = v.known }

-- another seat is taken in, with what it knows
abbrev pub joined : View → View → View
joined v w = record { next = v.next; past = v.past; known = v.known ++ w.known }
