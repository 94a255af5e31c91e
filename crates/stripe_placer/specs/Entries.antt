-- The entries that wait to be placed, by their positions.
use Rattle.std.specs.Prelude.{ℕ, ◌-◌, ◌≤◌, ◌||◌, ⊤, max, nat_lt, nat_le, Bool, true, false, List, [], ◌∷◌, ◌++◌, length, drop}
use Rattle.std.specs.List.{filter, list_any, AllByRecursion}

-- The positions of those that were lost with a stripe and of the others, both rising, and the pad target.
pub record Entries : Type 0 where
  pub lost : List ℕ
  pub fresh : List ℕ
  pub pad : ℕ

-- All of them in the order in which they are placed: those that were lost come before the others.
abbrev pub waiting : Entries → List ℕ
waiting e = e.lost ++ e.fresh

-- none is above a later one
abbrev pub Rises : List ℕ → Type 0
Rises [] = ⊤
Rises (x ∷ xs) = AllByRecursion (λ y. x ≤ y) xs × Rises xs

-- Stripes of this many blocks.

-- as many wait as a stripe holds
abbrev pub fills_stripe : ℕ → Entries → Bool
fills_stripe blocks e = nat_le blocks (length (waiting e))

-- one of them lies below the pad target
abbrev pub asks_padding : Entries → Bool
asks_padding e = list_any (λ q. nat_lt q e.pad) (waiting e)

-- There are entries for a stripe: enough of them to fill it, or fewer and padding is asked for.
abbrev pub has_stripe : ℕ → Entries → Bool
has_stripe blocks e = fills_stripe blocks e || asks_padding e

-- What changes.

-- An entry waits: one that was lost by its position among the lost, another behind the others.
abbrev pub with_entry : Entries → ℕ → Bool → Entries
with_entry e position true = record {
  lost = filter (λ q. nat_lt q position) e.lost ++ position ∷ filter (λ q. nat_le position q) e.lost;
  fresh = e.fresh;
  pad = e.pad;
}
with_entry e position false = record { lost = e.lost; fresh = e.fresh ++ position ∷ []; pad = e.pad }

-- The pad target never falls.
abbrev pub with_pad : Entries → ℕ → Entries
with_pad e position = record { lost = e.lost; fresh = e.fresh; pad = max e.pad position }

-- So many of them, in their order, wait no more.
abbrev pub without_first : ℕ → Entries → Entries
without_first count e = record { lost = drop count e.lost; fresh = drop (count - length e.lost) e.fresh; pad = e.pad }
