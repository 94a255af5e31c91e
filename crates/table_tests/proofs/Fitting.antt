-- The findings on a small drive with lines of every kind fit it.
use Rattle.std.proofs.Common.{◌≡◌, ◌≢◌, ℕ, ◌<◌, ◌≤◌, ◌⊎◌, inl, inr, zero, suc, true, false, Option, Some, None, List, [], ◌∷◌, refl, sym, subst, ◌∙◌, arith}
use Rattle.std.proofs.lemmas.Option.{same_Some}
use Rattle.std.specs.Prelude.{⊤}
use Rattle.std.specs.List.{slice_get, slice_index_or, Contains}
use Rattle.pblk_model.specs.declared.chunk.ChunkState.{ChunkState}
use Rattle.pblk_model.specs.declared.chunk.ChunkState.TheVariants.{Free, Open, Closed, Offline}
use Rattle.pblk_model.specs.declared.found.Found.{Found}
use Rattle.pblk_model.specs.declared.found.LineRow.{LineRow}
use Rattle.pblk_model.specs.declared.found.Winner.{Winner}
use Rattle.pblk_model.specs.Shape.{units, small}
use Rattle.pblk_model.specs.Found.{IsFitFound, RowFits, WinnerFits, HasUsed, IsUsed, state_at}

-- something holds of each element and its place
abbrev Each : {X : Type 0} → (ℕ → X → Type 0) → List X → Type 0
Each P [] = ⊤
Each P (x ∷ xs) = P 0 x × Each (λ n. P (suc n)) xs

each : {X : Type 0} (P : ℕ → X → Type 0) (xs : List X) → Each P xs → (n : ℕ) (x : X) → slice_get xs n ≡ Some x → P n x
each P [] all n x h = absurd cc
each P (y ∷ xs) all zero x h = subst (P 0) (same_Some y x h) all.0
each P (y ∷ xs) all (suc n) x h = each (λ k. P (suc k)) xs all.1 n x h

abbrev unused : LineRow
unused = record { seq = None; bound = 0; top = 0; full = false; young = false }

abbrev first : LineRow
first = record { seq = Some 1; bound = 0; top = 2; full = true; young = true }

abbrev second : LineRow
second = record { seq = Some 2; bound = 0; top = 3; full = false; young = true }

abbrev earlier : Winner
earlier = record { lba = 3; position = 1; line = 0; at = 4 }

abbrev later : Winner
later = record { lba = 5; position = 0; line = 0; at = 8 }

abbrev pub used : Found
used = record {
  winners = earlier ∷ later ∷ [];
  head = Some 1;
  front = 0;
  end = 3;
  strays = 2 ∷ [];
  chunks = Closed ∷ Closed ∷ Closed ∷ Offline ∷ Free ∷ Free ∷ Free ∷ Free ∷ Closed ∷ Closed ∷ Free ∷ Offline ∷ Offline ∷ Free ∷ Free ∷ Free ∷ [];
  lines = first ∷ second ∷ unused ∷ unused ∷ unused ∷ unused ∷ unused ∷ unused ∷ [];
}

-- a line whose chunks are Free or Offline has none that is used
not_used : (line : ℕ) (a b : ChunkState) → state_at small used line 0 ≡ Some a → state_at small used line 1 ≡ Some b → (IsUsed a → ⊥) → (IsUsed b → ⊥)
    → HasUsed small used line → ⊥
not_used line a b a-is b-is a-not b-not has = by_unit has.0 has.1 has.2 has.3 has.4 where
  by_unit : (unit : ℕ) (state : ChunkState) → unit < units small → state_at small used line unit ≡ Some state → IsUsed state → ⊥
  by_unit zero state inside is u = a-not (subst IsUsed (same_Some state a (sym is ∙ a-is)) u)
  by_unit (suc zero) state inside is u = b-not (subst IsUsed (same_Some state b (sym is ∙ b-is)) u)
  by_unit (suc (suc unit)) state inside is u = omega arith

no_stray : (line : ℕ) → (HasUsed small used line → ⊥) → ◌≡◌ {A = Option ℕ} None None → HasUsed small used line → Contains used.strays line
no_stray line not none has = absurd (not has)

free : IsUsed Free → ⊥
free u = u

offline : IsUsed Offline → ⊥
offline u = u

has_first : HasUsed small used 0
has_first = (0, Closed, omega arith, refl, tt)

has_second : HasUsed small used 1
has_second = (0, Closed, omega arith, refl, tt)

has_stray : HasUsed small used 2
has_stray = (0, Closed, omega arith, refl, tt)

earlier_fits : WinnerFits small used earlier
earlier_fits = record {
  sector = omega arith;
  row = first;
  row_is = refl;
  seq = 1;
  seq_is = refl;
  below_top = omega arith;
  at = omega arith;
  unit = 1;
  unit_is = refl;
  closed = refl;
}

later_fits : WinnerFits small used later
later_fits = record {
  sector = omega arith;
  row = first;
  row_is = refl;
  seq = 1;
  seq_is = refl;
  below_top = omega arith;
  at = omega arith;
  unit = 0;
  unit_is = refl;
  closed = refl;
}

-- the head's line is the second
abbrev BeforeHead : ℕ → LineRow → Type 0
BeforeHead line row = (n : ℕ) → row.seq ≡ Some n → (n < 2) ⊎ ((n ≡ 2) × (1 ≤ line))

abbrev IsStray : ℕ → LineRow → Type 0
IsStray line row = row.seq ≡ None → HasUsed small used line → Contains used.strays line

abbrev IsAfter : ℕ → Winner → Type 0
IsAfter j v = (k : ℕ) (w : Winner) → slice_get used.winners k ≡ Some w → j < k → v.lba < w.lba

abbrev IsApart : ℕ → Winner → Type 0
IsApart j v = (k : ℕ) (w : Winner) → slice_get used.winners k ≡ Some w → v.line ≡ w.line → v.at ≡ w.at → j ≡ k

no_open : Each (λ _ state. state ≢ Open) used.chunks
no_open = (
  λ p. cc,
  (
    λ p. cc,
    (
      λ p. cc,
      (
        λ p. cc,
        (
          λ p. cc,
          (
            λ p. cc,
            (
              λ p. cc,
              (
                λ p. cc,
                (λ p. cc, (λ p. cc, (λ p. cc, (λ p. cc, (λ p. cc, (λ p. cc, (λ p. cc, (λ p. cc, tt)))))))),
              ),
            ),
          ),
        ),
      ),
    ),
  ),
)

rows_fit : Each (λ line row. RowFits small used line row row.seq) used.lines
rows_fit = (
  (omega arith, omega arith, has_first, omega arith, omega arith),
  (
    (omega arith, omega arith, has_second, omega arith, omega arith),
    ((refl, refl), ((refl, refl), ((refl, refl), ((refl, refl), ((refl, refl), ((refl, refl), tt)))))),
  ),
)

before_head : Each BeforeHead used.lines
before_head = (
  λ n e. inl (omega (arith, same_Some 1 n e)),
  (
    λ n e. inr (omega (arith, same_Some 2 n e), omega arith),
    (λ n e. absurd cc, (λ n e. absurd cc, (λ n e. absurd cc, (λ n e. absurd cc, (λ n e. absurd cc, (λ n e. absurd cc, tt)))))),
  ),
)

the_strays : Each IsStray used.lines
the_strays = (
  λ e has. absurd cc,
  (
    λ e has. absurd cc,
    (
      λ e has. (0, omega arith, refl),
      (
        no_stray 3 (not_used 3 Offline Offline refl refl offline offline),
        (
          no_stray 4 (not_used 4 Free Offline refl refl free offline),
          (
            no_stray 5 (not_used 5 Free Free refl refl free free),
            (no_stray 6 (not_used 6 Free Free refl refl free free), (no_stray 7 (not_used 7 Free Free refl refl free free), tt)),
          ),
        ),
      ),
    ),
  ),
)

after_earlier : Each (λ k w. 0 < k → 3 < w.lba) used.winners
after_earlier = (λ b. absurd (omega arith), (λ b. omega arith, tt))

after_later : Each (λ k w. 1 < k → 5 < w.lba) used.winners
after_later = (λ b. absurd (omega arith), (λ b. absurd (omega arith), tt))

at_earlier : Each (λ k w. 0 ≡ w.line → 4 ≡ w.at → 0 ≡ k) used.winners
at_earlier = (λ l a. refl, (λ l a. omega arith, tt))

at_later : Each (λ k w. 0 ≡ w.line → 8 ≡ w.at → 1 ≡ k) used.winners
at_later = (λ l a. omega arith, (λ l a. refl, tt))

only_stray : (line : ℕ) → Contains used.strays line → 2 ≡ line
only_stray line has = by_place has.0 has.1 has.2 where
  by_place : (k : ℕ) → k < 1 → slice_index_or used.strays k line ≡ line → 2 ≡ line
  by_place zero inside is = is
  by_place (suc k) inside is = omega arith

pub used_fits : IsFitFound small used
used_fits = record {
  lines = refl;
  chunks = refl;
  no_open = λ n e. each (λ _ state. state ≢ Open) used.chunks no_open n Open e refl;
  end = omega arith;
  front = omega arith;
  rows = each (λ line row. RowFits small used line row row.seq) used.lines rows_fit;
  head = (second, 2, refl, refl, λ line other n there is. each BeforeHead used.lines before_head line other there n is);
  strays_rise = tt;
  strays = λ line has. subst (λ l. (row : LineRow) × (slice_get used.lines l ≡ Some row) × (row.seq ≡ None) × HasUsed small used l) (only_stray line has)
      (unused, refl, refl, has_stray);
  all_strays = each IsStray used.lines the_strays;
  winners_rise = λ j k v w below v-is w-is. each IsAfter used.winners (
    each (λ k w. 0 < k → 3 < w.lba) used.winners after_earlier,
    (each (λ k w. 1 < k → 5 < w.lba) used.winners after_later, tt),
  ) j v v-is k w w-is below;
  winners = each (λ k w. WinnerFits small used w) used.winners (earlier_fits, (later_fits, tt));
  apart = λ j k v w v-is w-is. each IsApart used.winners (
    each (λ k w. 0 ≡ w.line → 4 ≡ w.at → 0 ≡ k) used.winners at_earlier,
    (each (λ k w. 0 ≡ w.line → 8 ≡ w.at → 1 ≡ k) used.winners at_later, tt),
  ) j v v-is k w w-is;
}

-- whatever lists are equal to these
abbrev pub found : List Winner → List ℕ → List ChunkState → List LineRow → Found
found winners strays chunks lines = record { winners = winners; head = Some 1; front = 0; end = 3; strays = strays; chunks = chunks; lines = lines }

pub fits_as : (winners : List Winner) (strays : List ℕ) (chunks : List ChunkState) (lines : List LineRow) → winners ≡ used.winners → strays ≡ used.strays
    → chunks ≡ used.chunks → lines ≡ used.lines → IsFitFound small (found winners strays chunks lines)
fits_as winners strays chunks lines p q r t =
    subst (λ ws. IsFitFound small (found ws strays chunks lines)) (sym p)
    (subst (λ ss. IsFitFound small (found used.winners ss chunks lines)) (sym q)
    (subst (λ cs. IsFitFound small (found used.winners used.strays cs lines)) (sym r)
    (subst (λ ls. IsFitFound small (found used.winners used.strays used.chunks ls)) (sym t) used_fits)))
