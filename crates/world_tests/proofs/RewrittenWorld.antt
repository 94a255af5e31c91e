-- The world in which a sector is written to the very block that it had before: it is legal, and its blocks aren't told by
-- the sector alone.
use Rattle.std.proofs.Common.{◌≡◌, ℕ, ◌<◌, ◌==◌, ◌||◌, not, Bool, true, false, Some, List, [], ◌∷◌, length, refl, sym, ap, ◌∙◌, arith, lit<, lit≤, inl, inr}
use Rattle.std.specs.Prelude.{slice_get, take, IsTrue}
use Rattle.std.specs.List.{AllByRecursion}
use Rattle.std.proofs.lemmas.List.{length-replicate}
use Rattle.std.proofs.lemmas.Option.{same_Some}
use Rattle.pblk_model.specs.Shape.{small}
use Rattle.pblk_model.specs.Bytes.{zeros}
use Rattle.pblk_model.specs.Chunk.{IsBlock, free_chunk}
use Rattle.pblk_model.specs.ChunkStep.{Done}
use Rattle.pblk_model.specs.UnitLog.{Answered}
use Rattle.pblk_model.specs.Image.{block_at}
use Rattle.pblk_model.specs.Marks.{sector_mark}
use Rattle.pblk_model.specs.StartRecord.{StartRecord, written_run, rows_in, start_bytes, start_fits}
use Rattle.pblk_model.specs.Contents.{contents, least_missing}
use Rattle.pblk_model.specs.History.{after}
use Rattle.pblk_world.specs.AtRest.{logs_at}
use Rattle.pblk_world.specs.EngineLog.{Opening, placed_on, is_answered}
use Rattle.pblk_world.specs.Fronts.{history, last_take}
use Rattle.pblk_world.specs.Lines.{found_image, has_stripe_left}
use Rattle.pblk_world.specs.Opening.{MayOpen}
use Rattle.pblk_world.specs.Placing.{MayPlace}
use Rattle.pblk_world.specs.Taking.{IsPlaceOfLatest, MayTake}
use Rattle.pblk_world.specs.Commanding.{MayDo}
use Rattle.pblk_world.specs.Answering.{MayLand, MayNoteReset}
use Rattle.pblk_world.specs.Legal.{IsLegal}
use Rattle.pblk_world.specs.World.{log_of, media}
use Rattle.world_tests.specs.Steps.{meta_blocks, program_of, sector}
use Rattle.world_tests.specs.Simple.{spelling}
use Rattle.world_tests.specs.Collected.{reset_event}
use Rattle.world_tests.specs.Overwritten.{newer_sector}
use Rattle.world_tests.specs.Older.{older_image, older_world, start_with, rows, younger_spelling}
use Rattle.world_tests.specs.Rewritten.{reset_first, first_reset, note_first, first_noted, reset_second, second_reset, note_second, second_noted, next_entry, take_next, next_taken, again_start, again_spelling, open_again, again_opened, again_stripe, place_again, again_placed, write_again, again_written, land_again, again_landed, next_block, next_stripe, place_next, next_placed, write_next, rewritten_world, place_then, IsToldByLba}
use Rattle.world_tests.proofs.Knowing.{no_truth, differ, named, legal_on, all_in, all_below}
use Rattle.world_tests.proofs.Blocks.{pad_is, metas_are}
use Rattle.world_tests.proofs.CollectedWorld.{isnt_named}
use Rattle.world_tests.proofs.OlderWorld.{beginning, found_record, older_legal, younger_written_whole}
use Rattle.pblk_model.proofs.Lists.{all_replicated}

-- The resets.

resets_first : MayDo older_image (named reset_first older_world) 0 reset_event
resets_first = record {
  chunks = _;
  has_chunks = refl;
  event = record { found = _; there = refl; blocks = tt; outcome = (tt, (refl, refl)) };
  stopped = λ e. no_truth e;
  command = record { line = refl; used = inl tt };
}

notes_first : MayNoteReset (named note_first first_reset) 0 1
notes_first = record {
  reset = reset_event;
  new = record { logged = _; is_known = refl; event = refl; once = isnt_named 1 (0 ∷ []) refl };
  is_reset = refl;
  not_stopped = refl;
}

resets_second : MayDo older_image (named reset_second first_noted) 1 reset_event
resets_second = record {
  chunks = _;
  has_chunks = refl;
  event = record { found = _; there = refl; blocks = tt; outcome = (tt, (refl, refl)) };
  stopped = λ e. no_truth e;
  command = record { line = refl; used = inl tt };
}

notes_second : MayNoteReset (named note_second second_reset) 1 1
notes_second = record {
  reset = reset_event;
  new = record { logged = _; is_known = refl; event = refl; once = isnt_named 1 (0 ∷ []) refl };
  is_reset = refl;
  not_stopped = refl;
}

-- The next content.

next_is : IsBlock small next_block
unfolding newer_sector
next_is = record { size = length-replicate {A = ℕ} 512 8; bytes = all_replicated (λ x. x < 256) 512 8 (lit< tt); lba = lit< tt; position = lit< tt }

takes_next : MayTake older_image (named take_next second_noted) next_entry (sector_mark 5 2)
takes_next = record { position = refl; position_number = lit< tt; lba = lit< tt; marked = refl; block = next_is }

-- line 1 alone has a stripe left
is_it : (b : Bool) (n : ℕ) → (not b || (n == 1)) ≡ true → b ≡ true → n ≡ 1
is_it true n e f = grind arith
is_it false n e f = no_truth f

one_left : (line : ℕ) → line < 8 → has_stripe_left older_image (named open_again next_taken) line ≡ true → line ≡ 1
one_left line h = is_it (has_stripe_left older_image (named open_again next_taken) line) line
    (all_below (λ n. not (has_stripe_left older_image (named open_again next_taken) n) || (n == 1)) 8 refl line h)

opens_again : MayOpen older_image (named open_again next_taken) beginning 0 again_start
unfolding zeros rows_in written_run spelling least_missing
opens_again = record {
  in_range = lit< tt;
  is_free = refl;
  is_first = λ other h. absurd (omega arith);
  one_other = λ m n h k e f. one_left m h e ∙ sym (one_left n k f);
  own_line = refl;
  own_width = refl;
  own_capacity = refl;
  seq = refl;
  first_seq = refl;
  front = refl;
  rows = refl;
  seq_number = lit< tt;
  front_number = lit< tt;
}

abbrev opening : Opening
opening = record { number = 11; line = 0; start = again_start; knows = 11 ∷ 2 ∷ 2 ∷ [] }

places_again : MayPlace older_image (named place_again again_opened) again_stripe
unfolding again_spelling
places_again = record {
  in_range = lit< tt;
  chunk = refl;
  opening = opening;
  is_open = refl;
  idle = all_in (is_answered (named place_again again_opened 0)) (placed_on (named place_again again_opened 0) 0) refl;
  kind = inl (record { next = record { not_failed = refl; in_order = refl }; within = lit< tt; blocks = refl });
}

writes_again : AllByRecursion (IsBlock small) (meta_blocks 3 again_spelling) → MayDo older_image (named write_again again_placed) 0
    (program_of again_stripe (Answered Done))
writes_again metas = record {
  chunks = _;
  has_chunks = refl;
  event = record { found = free_chunk; there = refl; blocks = metas; outcome = (tt, (refl, refl)) };
  stopped = λ e. no_truth e;
  command = record { placed = _; earliest = refl; its_chunk = refl; its_place = refl; its_blocks = refl };
}

lands_again : MayLand (named land_again again_written) 0 2
lands_again = record {
  program = program_of again_stripe (Answered Done);
  new = record { logged = _; is_known = refl; event = refl; once = isnt_named 2 (0 ∷ 1 ∷ []) refl };
  stripe = record { program = refl; logged = _; is_logged = refl; after_begin = lit< tt; placed = lit< tt; its_turn = refl };
  done = refl;
}

places_next : MayPlace older_image (named place_next again_landed) next_stripe
places_next = record {
  in_range = lit< tt;
  chunk = refl;
  opening = opening;
  is_open = refl;
  idle = all_in (is_answered (named place_next again_landed 0)) (placed_on (named place_next again_landed 0) 1) refl;
  kind = inr (inl (record { next = record { not_failed = refl; in_order = refl }; within = lit< tt; start_landed = refl; has_entry = lit< tt; blocks = refl }));
}

writes_next : MayDo older_image (named write_next next_placed) 1 (program_of next_stripe (Answered Done))
writes_next = record {
  chunks = _;
  has_chunks = refl;
  event = record { found = free_chunk; there = refl; blocks = (next_is, (pad_is, (pad_is, (pad_is, tt)))); outcome = (tt, (refl, refl)) };
  stopped = λ e. no_truth e;
  command = record { placed = _; earliest = refl; its_chunk = refl; its_place = refl; its_blocks = refl };
}

-- It is legal by the prefixes that its steps name.

second_noted_legal : AllByRecursion (IsBlock small) (meta_blocks 2 younger_spelling) → IsLegal older_image second_noted
unfolding IsLegal
second_noted_legal metas = (
  legal_on older_image.units second_reset note_second (lit≤ tt) refl refl refl refl (beginning, refl, notes_second),
  (
    legal_on older_image.units first_noted reset_second (lit≤ tt) refl refl refl refl resets_second,
    (
      legal_on older_image.units first_reset note_first (lit≤ tt) refl refl refl refl (beginning, refl, notes_first),
      (
        legal_on older_image.units older_world reset_first (lit≤ tt) refl refl refl refl resets_first,
        older_legal metas,
      ),
    ),
  ),
)

rewritten_legal : AllByRecursion (IsBlock small) (meta_blocks 2 younger_spelling) → AllByRecursion (IsBlock small) (meta_blocks 3 again_spelling)
    → IsLegal older_image rewritten_world
unfolding IsLegal
rewritten_legal metas agains = (
  legal_on older_image.units next_placed write_next (lit≤ tt) refl refl refl refl writes_next,
  (
    legal_on older_image.units again_landed place_next (lit≤ tt) refl refl refl refl (beginning, refl, places_next),
    (
      legal_on older_image.units again_written land_again (lit≤ tt) refl refl refl refl (beginning, refl, lands_again),
      (
        legal_on older_image.units again_placed write_again (lit≤ tt) refl refl refl refl (writes_again agains),
        (
          legal_on older_image.units again_opened place_again (lit≤ tt) refl refl refl refl (beginning, refl, places_again),
          (
            legal_on older_image.units next_taken open_again (lit≤ tt) refl refl refl refl (beginning, refl, opens_again),
            (
              legal_on older_image.units second_noted take_next (lit≤ tt) refl refl refl refl (beginning, refl, takes_next),
              second_noted_legal metas,
            ),
          ),
        ),
      ),
    ),
  ),
)

agains_written : length (start_bytes small again_start) ≡ 2048 → AllByRecursion (λ x. x < 256) (start_bytes small again_start)
    → AllByRecursion (IsBlock small) (meta_blocks 3 again_spelling)
unfolding again_spelling
agains_written long each = metas_are 3 (lit< tt) (start_bytes small again_start) long each

pub legal_by : ((r : StartRecord) → IsTrue (start_fits small r.line 2 r) → length (start_bytes small r) ≡ 2048)
    → ((r : StartRecord) → AllByRecursion (λ x. x < 256) (start_bytes small r)) → IsLegal older_image rewritten_world
legal_by long each = rewritten_legal (younger_written_whole (long (start_with rows) refl) (each (start_with rows)))
    (agains_written (long again_start refl) (each again_start))

-- The read.

pub was_there : IsPlaceOfLatest older_image (logs_at 1 (log_of rewritten_world)) 5 place_then (last_take (take 1 (log_of rewritten_world 0)) 5)
unfolding zeros rows_in written_run spelling least_missing
was_there = record { winning = found_record; is_winner = refl; line = refl; at = refl; position = refl; not_freed = refl }

pub held_then : slice_get (after (contents (found_image older_image (log_of rewritten_world))) (history (take 1 (log_of rewritten_world 0)))) 5 ≡ Some sector
unfolding zeros rows_in written_run spelling least_missing
held_then = refl

pub is_there : block_at (media older_image (log_of rewritten_world)) 0 4 ≡ Some next_block
is_there = refl

first_byte : List ℕ → ℕ
first_byte [] = 0
first_byte (byte ∷ bytes) = byte

other_sector : sector ≡ newer_sector → ⊥
unfolding sector newer_sector first_byte
other_sector e = differ 7 8 refl (ap first_byte e)

pub not_told : ¬ IsToldByLba older_image rewritten_world
not_told told = other_sector (same_Some sector newer_sector
    (sym held_then ∙ told 5 1 place_then next_block (lit< tt) (lit≤ tt) (lit< tt) was_there is_there refl))
