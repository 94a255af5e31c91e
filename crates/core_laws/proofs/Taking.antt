-- What a taken entry changes of a placer.
use Rattle.std.proofs.Common.{◌≡◌, ℕ, ◌&&◌, not, nat_lt, Bool, true, false, cond, List, [], ◌∷◌, ◌++◌, length, refl, ap, ap₂, ◌∙◌, append-nil}
use Rattle.std.specs.Prelude.{map}
use Rattle.std.specs.List.{AllByRecursion, filter, range_with_len}
use Rattle.std.proofs.lemmas.List.Elements.{filter-append}
use Rattle.pblk_model.specs.declared.shape.Shape.{Shape}
use Rattle.pblk_model.specs.Shape.{units}
use Rattle.pblk_model.specs.Image.{Image}
use Rattle.pblk_model.specs.declared.chunk.Mark.{Mark}
use Rattle.pblk_world.specs.Events.{Entry, Take, Decides, Logged}
use Rattle.pblk_world.specs.World.{Logs}
use Rattle.pblk_world.specs.EngineLog.{Taken, takes, placements, answers, openings, holds_position}
use Rattle.pblk_world.specs.Fronts.{was_placed, waits}
use Rattle.pblk_world.proofs.Appending.{life_more, openings_more, placements_more}
use Rattle.stripe_placer.specs.Entries.{Entries, with_entry}
use Rattle.stripe_placer.specs.OpenLines.{OpenLine}
use Rattle.stripe_placer.specs.Placing.{UnitRow, Placing}
use Rattle.stripe_placer.specs.Placing as placer
use Rattle.core_laws.specs.Stepping.{after}
use Rattle.core_laws.specs.OpenedLines.{open_lines}
use Rattle.core_laws.specs.PlacerOf.{positions_of, lost_entries, fresh_entries, entries_of, contains_unit, unit_row_in, placing_of}
use Rattle.core_laws.proofs.Engine.{stopped_more}
use Rattle.core_laws.proofs.Steady.{AreAlike, is_lost_same, is_fresh_same, standing_same, lines_same, row_same, unanswered_in}
use Rattle.pblk_model.proofs.Maps.{filter_none, filter_same, map_same}
use Rattle.pblk_model.proofs.Numbers.{fun_same}
use Rattle.pblk_model.proofs.Tests.{and_false}
use Rattle.pblk_world.proofs.EngineLogLemmas.{answers_more, takes_more}

pub same_placing : (s : Shape) (a b : Entries) (us vs : List UnitRow) (ls ms : List OpenLine) → a ≡ b → us ≡ vs → ls ≡ ms
    → ◌≡◌ {A = Placing} (record { shape = s; entries = a; units = us; lines = ls }) (record { shape = s; entries = b; units = vs; lines = ms })
same_placing s a b us vs ls ms p q r = λ i. record { shape = s; entries = p i; units = q i; lines = r i }

abbrev pub with_take : List Logged → Entry → Mark → List ℕ → List Logged
with_take log entry mark knows = log ++ record { event = Decides (Take entry mark); knows = knows } ∷ []

pub alike : (log : List Logged) (entry : Entry) (mark : Mark) (knows : List ℕ) → AreAlike log (with_take log entry mark knows)
alike log entry mark knows = record {
  placements = placements_more log (record { event = Decides (Take entry mark); knows = knows }) ∙ append-nil (placements log);
  answers = fun_same (answers (with_take log entry mark knows)) (answers log)
      (λ unit. answers_more log (record { event = Decides (Take entry mark); knows = knows }) unit ∙ append-nil (answers log unit));
}

never_placed : (s : Shape) (log : List Logged) (t : Taken) → AllByRecursion (λ p. holds_position s t.entry.position p ≡ false) (placements log)
    → was_placed s log t ≡ false
never_placed s log t none = ap (λ ps. nat_lt 0 (length ps)) (filter_none (holds_position s t.entry.position) (placements log) none)

-- a filter's list with one more element
pub filter_last : {X : Type 0} (f : X → Bool) (xs : List X) (x : X) (b : Bool) → f x ≡ b → filter f (xs ++ x ∷ []) ≡ filter f xs ++ cond b (x ∷ []) []
filter_last f xs x b e = filter-append f xs (x ∷ []) ∙ ap (λ c. filter f xs ++ cond c (x ∷ []) []) e

pub positions_last : (ts : List Taken) (t : Taken) → positions_of (ts ++ t ∷ []) ≡ positions_of ts ++ t.entry.position ∷ []
positions_last [] t = refl
positions_last (u ∷ ts) t = ap (λ xs. u.entry.position ∷ xs) (positions_last ts t)

pub same_entries : (a b : List ℕ) (c d : List ℕ) (pad : ℕ) → a ≡ b → c ≡ d
    → ◌≡◌ {A = Entries} (record { lost = a; fresh = c; pad = pad }) (record { lost = b; fresh = d; pad = pad })
same_entries a b c d pad p q = λ i. record { lost = p i; fresh = q i; pad = pad }

entries_taken : (s : Shape) (log : List Logged) (entry : Entry) (mark : Mark) (knows : List ℕ) (pad : ℕ)
    → AllByRecursion (λ p. holds_position s entry.position p ≡ false) (placements log)
    → entries_of s (with_take log entry mark knows) pad ≡ with_entry (entries_of s log pad) entry.position false
entries_taken s log entry mark knows pad none =
    let t : Taken = record { entry = entry; mark = mark } in
    let new : List Logged = with_take log entry mark knows in
    let more : takes new ≡ takes log ++ t ∷ [] = takes_more log (record { event = Decides (Take entry mark); knows = knows }) in
    let unplaced : was_placed s log t ≡ false = never_placed s log t none in
    let lost : lost_entries s new ≡ lost_entries s log =
    filter_same (λ u. waits s new u && was_placed s new u) (λ u. waits s log u && was_placed s log u) (is_lost_same s log new (alike log entry mark knows))
    (takes new)
    ∙ ap (filter (λ u. waits s log u && was_placed s log u)) more
    ∙ filter_last (λ u. waits s log u && was_placed s log u) (takes log) t false (and_false (waits s log t) (was_placed s log t) unplaced)
    ∙ append-nil (lost_entries s log) in
    let fresh : fresh_entries s new ≡ fresh_entries s log ++ t ∷ [] =
    filter_same (λ u. not (was_placed s new u)) (λ u. not (was_placed s log u)) (is_fresh_same s log new (alike log entry mark knows)) (takes new)
    ∙ ap (filter (λ u. not (was_placed s log u))) more
    ∙ filter_last (λ u. not (was_placed s log u)) (takes log) t true (ap not unplaced) in
    same_entries (positions_of (lost_entries s new)) (positions_of (lost_entries s log)) (positions_of (fresh_entries s new))
    (positions_of (fresh_entries s log) ++ entry.position ∷ []) pad
    (ap positions_of lost) (ap positions_of fresh ∙ positions_last (fresh_entries s log) t)

pub placing_taken : (i : Image) (logs : Logs) (entry : Entry) (mark : Mark) (knows : List ℕ) (pad : ℕ) (again : List ℕ)
    → AllByRecursion (λ p. holds_position i.shape entry.position p ≡ false) (placements (logs 0))
    → placing_of i (after logs (Take entry mark) knows) pad again ≡ placer.waits (placing_of i logs pad again) entry.position false
placing_taken i logs entry mark knows pad again none =
    let same : AreAlike (logs 0) (after logs (Take entry mark) knows 0) = alike (logs 0) entry mark knows in
    let l : Logged = record { event = Decides (Take entry mark); knows = knows } in
    same_placing i.shape (entries_of i.shape (after logs (Take entry mark) knows 0) pad) (with_entry (entries_of i.shape (logs 0) pad) entry.position false)
    (map (unit_row_in i (after logs (Take entry mark) knows) again) (range_with_len 0 (units i.shape)))
    (map (unit_row_in i logs again) (range_with_len 0 (units i.shape)))
    (open_lines i (after logs (Take entry mark) knows)) (open_lines i logs)
    (entries_taken i.shape (logs 0) entry mark knows pad none)
    (map_same (unit_row_in i (after logs (Take entry mark) knows) again) (unit_row_in i logs again)
    (λ unit. row_same i logs (Take entry mark) knows again again unit
    (ap₂ (λ ps ns. unanswered_in ps ns unit) same.placements same.answers)
    (ap (λ b. b && not (contains_unit again unit)) (stopped_more (logs 0) l unit))) (range_with_len 0 (units i.shape)))
    (lines_same i logs (Take entry mark) knows same
    (standing_same (logs 0) (after logs (Take entry mark) knows 0) (openings_more (logs 0) l ∙ append-nil (openings (logs 0)))
    (λ line. life_more (logs 0) l line)))
