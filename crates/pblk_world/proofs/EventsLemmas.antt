-- Lemmas on the words of Events.
use Rattle.std.proofs.Common.{Bool, List, [], arith, false, if◌then◌else◌, length, length-append, refl, take, true, ℕ, ◌++◌, ◌+◌, ◌-◌, ◌∷◌, ◌≡◌, ◌≤◌}
use Rattle.std.proofs.lemmas.List.{take-append-le}
use Rattle.pblk_world.specs.Events.{Logged}

pub one_less : (xs : List Logged) (x : Logged) → length (xs ++ x ∷ []) - 1 ≡ length xs
one_less xs x = let more : length (xs ++ x ∷ []) ≡ length xs + 1 = length-append xs (x ∷ []) in omega arith

pub still_within : (log : List Logged) (l : Logged) (b : Bool) (n : ℕ) → n ≤ length log → n ≤ length (if b then log ++ l ∷ [] else log)
still_within log l true n within = omega (arith, length-append log (l ∷ []))
still_within log l false n within = within

pub still_first : (log : List Logged) (l : Logged) (c : Bool) (k : ℕ) → k ≤ length log → take k (if c then log ++ l ∷ [] else log) ≡ take k log
still_first log l true k h = take-append-le k log (l ∷ []) h
still_first log l false k h = refl
