-- The wrong steps of the engine that no stripe is placed in are refused.
use Rattle.std.proofs.Common.{◌≡◌, ◌+◌, ◌-◌, ◌^◌, ◌<◌, ◌⊎◌, Some, List, [], ◌∷◌, replicate, refl, sym, ap, ◌∙◌, arith, lit<, inl, inr}
use Rattle.std.specs.Prelude.{slice_index}
use Rattle.std.proofs.lemmas.Option.{none-some, same_Some}
use Rattle.pblk_model.specs.declared.chunk.Mark.{Mark}
use Rattle.pblk_model.specs.Chunk.{Block}
use Rattle.pblk_model.specs.Marks.{sector_mark, void_mark}
use Rattle.pblk_model.specs.StartRecord.{StartRecord, written_run}
use Rattle.pblk_model.specs.Contents.{least_missing}
use Rattle.pblk_world.specs.EngineLog.{Begun}
use Rattle.pblk_world.specs.Freeing.{MayFree}
use Rattle.pblk_world.specs.Taking.{Copies, CopiesStale}
use Rattle.pblk_world.specs.Legal.{IsLegal}
use Rattle.world_tests.specs.Steps.{image, sector, sector_block}
use Rattle.world_tests.specs.Collected.{copy, source, second_start, second_landed, reset_noted, copy_taken}
use Rattle.world_tests.specs.Wrong.{first_is_taken, seq_is_skipped, blank_line_is_stray, begins_twice, never_begins, open_image, position_is_skipped, lba_is_past_the_end, mark_is_anothers, stale_copy, stale_copy_wins, void_copy, latest_copy_is_void, changed_copy, copy_holds_another_sector, line_isnt_the_first, line_is_opened_twice, start_skips_a_seq, start_is_of_another_mount, front_isnt_synced, row_is_of_a_blank_line, width_isnt_the_lines, free_newest, newest_line_is_freed, freed_before_a_start_landed, line_is_freed_twice, blank_line_is_freed}
use Rattle.world_tests.specs.Simple.{begun_world}
use Rattle.world_tests.proofs.Knowing.{no_truth, named, differ}
use Rattle.world_tests.proofs.CollectedWorld.{copy_is_latest}
use Rattle.pblk_model.proofs.Lists.{nil_cons}

-- unequal things

some_item : {X : Type 0} (x : X) (xs : List X) → x ∷ xs ≡ [] → ⊥
some_item x xs e = nil_cons x xs (sym e)

other_lba : (a b : Mark) → a ≡ b → a.lba ≡ b.lba
other_lba a b e = ap (λ (m : Mark). m.lba) e

-- The beginning.

pub no_taken_first : ¬ IsLegal image first_is_taken
unfolding IsLegal written_run
no_taken_first h = differ 1 0 refl h.0.allowed.first

pub no_skipped_seq : ¬ IsLegal image seq_is_skipped
unfolding IsLegal written_run
no_skipped_seq h = differ 2 1 refl h.0.allowed.seq

pub no_blank_stray : ¬ IsLegal image blank_line_is_stray
unfolding IsLegal written_run
no_blank_stray h = some_item 3 [] h.0.allowed.strays

pub no_second_begin : ¬ IsLegal image begins_twice
unfolding IsLegal
no_second_begin h = some_item _ _ h.0.allowed.is_first

pub no_event_before : ¬ IsLegal image never_begins
unfolding IsLegal
no_event_before h = none-some h.0.allowed.0 h.0.allowed.1

pub no_open_chunk : ¬ IsLegal open_image begun_world
unfolding IsLegal
no_open_chunk h = h.0.allowed.no_open_chunk.0.0 refl

-- Taking.

pub no_skipped_position : ¬ IsLegal image position_is_skipped
unfolding IsLegal
no_skipped_position h = differ 1 0 refl h.0.allowed.2.position

pub no_lba_past : ¬ IsLegal image lba_is_past_the_end
unfolding IsLegal
no_lba_past h = let wrong : 64 < 64 = h.0.allowed.2.lba in omega arith

pub no_others_mark : ¬ IsLegal image mark_is_anothers
unfolding IsLegal
no_others_mark h = differ 6 5 refl (other_lba (sector_mark 6 0) (sector_mark 5 0) h.0.allowed.2.marked)

no_winner : Copies image (named stale_copy (copy_taken)) (copy 2) (sector_mark 5 2) source ⊎ CopiesStale image (named stale_copy copy_taken) (copy 2)
    (sector_mark 5 2) source → ⊥
no_winner (inl c) = differ 0 1 refl c.latest.place.position
no_winner (inr c) = differ 5 (2 ^ 64 - 2) refl (other_lba (sector_mark 5 2) (void_mark 2) c.names_none)

pub no_stale_winner : ¬ IsLegal image stale_copy_wins
unfolding IsLegal
no_stale_winner h = no_winner h.0.allowed.2.marked

no_void : Copies image (named void_copy reset_noted) (copy 1) (void_mark 1) source ⊎ CopiesStale image (named void_copy reset_noted) (copy 1)
    (void_mark 1) source → ⊥
no_void (inl c) = differ (2 ^ 64 - 2) 5 refl (other_lba (void_mark 1) (sector_mark 5 1) c.names_sector)
no_void (inr c) = c.stale (sector_block 0) copy_is_latest

pub no_void_latest : ¬ IsLegal image latest_copy_is_void
unfolding IsLegal
no_void_latest h = no_void h.0.allowed.2.marked

no_other : Copies image (named changed_copy reset_noted) (record { position = 1; lba = 5; source = Some source; sector = replicate 512 8 })
    (sector_mark 5 1) source
    ⊎ CopiesStale image (named changed_copy reset_noted) (record { position = 1; lba = 5; source = Some source; sector = replicate 512 8 })
    (sector_mark 5 1) source → ⊥
unfolding sector
no_other (inl c) = differ 8 7 refl (ap (λ xs. slice_index xs 0) (c.sector ∙ ap (λ (b : Block). b.sector)
    (sym (same_Some (sector_block 0) c.block c.latest.there))))
no_other (inr c) = differ 5 (2 ^ 64 - 2) refl (other_lba (sector_mark 5 1) (void_mark 1) c.names_none)

pub no_other_sector : ¬ IsLegal image copy_holds_another_sector
unfolding IsLegal
no_other_sector h = no_other h.0.allowed.2.marked

-- Opening.

pub no_later_line : ¬ IsLegal image line_isnt_the_first
unfolding IsLegal written_run
no_later_line h = no_truth (sym (h.0.allowed.2.is_first 0 (lit< tt)))

pub no_open_twice : ¬ IsLegal image line_is_opened_twice
unfolding IsLegal
no_open_twice h = no_truth h.0.allowed.2.is_free

pub no_seq_skipped : ¬ IsLegal image start_skips_a_seq
unfolding IsLegal
no_seq_skipped h = differ 2 1 refl (h.0.allowed.2.seq ∙ ap (λ (b : Begun). b.beginning.seq + 0) (sym (same_Some _ h.0.allowed.0 h.0.allowed.1)))

pub no_other_mount : ¬ IsLegal image start_is_of_another_mount
unfolding IsLegal
no_other_mount h = differ 0 1 refl (h.0.allowed.2.first_seq ∙ ap (λ (b : Begun). b.beginning.seq) (sym (same_Some _ h.0.allowed.0 h.0.allowed.1)))

pub no_other_front : ¬ IsLegal image front_isnt_synced
unfolding IsLegal least_missing
no_other_front h = differ 1 0 refl h.0.allowed.2.front

pub no_blank_row : ¬ IsLegal image row_is_of_a_blank_line
unfolding IsLegal written_run
no_blank_row h = some_item _ _ h.0.allowed.2.rows

pub no_other_width : ¬ IsLegal image width_isnt_the_lines
unfolding IsLegal
no_other_width h = differ 1 2 refl h.0.allowed.2.own_width

-- Freeing.

pub no_free_of_newest : ¬ IsLegal image newest_line_is_freed
unfolding IsLegal written_run
no_free_of_newest h = let f : MayFree image (named free_newest second_landed) 1 = h.0.allowed.2 in
    let seq : 2 ≡ f.seq = same_Some 2 f.seq f.has_seq in
    let newest : 2 ≡ f.newest.seq = ap (λ (r : StartRecord). r.seq) (same_Some second_start f.newest f.is_newest) in
    let older : f.seq < f.newest.seq = f.older in omega arith

pub no_free_before_start : ¬ IsLegal image freed_before_a_start_landed
unfolding IsLegal written_run
no_free_before_start h = none-some h.0.allowed.2.newest h.0.allowed.2.is_newest

pub no_free_twice : ¬ IsLegal image line_is_freed_twice
unfolding IsLegal
no_free_twice h = none-some h.0.allowed.2.seq h.0.allowed.2.has_seq

pub no_free_of_blank : ¬ IsLegal image blank_line_is_freed
unfolding IsLegal written_run
no_free_of_blank h = none-some h.0.allowed.2.seq h.0.allowed.2.has_seq
