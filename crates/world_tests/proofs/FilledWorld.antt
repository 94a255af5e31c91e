-- The world with a filled line is legal, what it leaves is read, and the wrong ones beside it aren't legal.
use Rattle.std.proofs.Common.{◌≡◌, ℕ, ◌-◌, ◌^◌, ◌<◌, Some, List, [], ◌∷◌, length, refl, sym, ap, subst, lit<, lit≤, inl, inr}
use Rattle.std.specs.List.{AllByRecursion}
use Rattle.pblk_model.specs.Shape.{small}
use Rattle.pblk_model.specs.Bytes.{zeros}
use Rattle.pblk_model.specs.Chunk.{Block, IsBlock}
use Rattle.pblk_model.specs.ChunkStep.{Done}
use Rattle.pblk_model.specs.UnitLog.{Answered}
use Rattle.pblk_model.specs.Marks.{sector_mark, pad_mark}
use Rattle.pblk_model.specs.StartRecord.{written_run, rows_in, start_of, start_bytes}
use Rattle.pblk_model.specs.EndRecord.{pairs_in, end_of, end_bytes}
use Rattle.pblk_model.specs.Contents.{least_missing, end, sector_of}
use Rattle.pblk_laws.specs.EndBlocks.{IsEndRecord, FitsBytes}
use Rattle.pblk_world.specs.Events.{Stripe}
use Rattle.pblk_world.specs.World.{log_of, media}
use Rattle.pblk_world.specs.EngineLog.{placed_on, is_answered}
use Rattle.pblk_world.specs.Placing.{MayPlace}
use Rattle.pblk_world.specs.Taking.{MayTake}
use Rattle.pblk_world.specs.Commanding.{MayDo}
use Rattle.pblk_world.specs.Answering.{MayLand}
use Rattle.pblk_world.specs.Legal.{IsLegal}
use Rattle.world_tests.specs.Steps.{meta_blocks, program_of, sector}
use Rattle.world_tests.specs.Filled.{narrow_image, narrow_start, narrow_spelling, narrow_end, end_spelling, stripe_from, entry_at, entry_blocks, end_before_data, after_late_take, place_data_at_end, data_at_the_end, take_two, place_two, write_two, land_two, take_three, place_three, write_three, land_three, place_end, write_end, land_end, after_land_one, after_take_two, after_place_two, after_write_two, after_land_two, after_take_three, after_place_three, after_write_three, after_land_three, after_place_end, after_write_end, after_land_end}
use Rattle.world_tests.proofs.Knowing.{no_truth, differ, named, legal_on, all_in}
use Rattle.world_tests.proofs.Blocks.{sector_is, pad_is, metas_are}
use Rattle.world_tests.proofs.CollectedWorld.{isnt_named}
use Rattle.world_tests.proofs.FillingWorld.{beginning, opening, half_legal}
use Rattle.world_tests.proofs.WrongStripes.{Kind, too_high}
use Rattle.pblk_world.proofs.EngineLogLemmas.{opened_same}

takes_two : MayTake narrow_image (named take_two after_land_one) (entry_at 2) (sector_mark 5 2)
takes_two = record { position = refl; position_number = lit< tt; lba = lit< tt; marked = refl; block = sector_is 2 (lit< tt) }

places_two : MayPlace narrow_image (named place_two after_take_two) (stripe_from 12 (entry_blocks 2))
places_two = record {
  in_range = lit< tt;
  chunk = refl;
  opening = opening;
  is_open = refl;
  idle = all_in (is_answered (named place_two after_take_two 0)) (placed_on (named place_two after_take_two 0) 0) refl;
  kind = inr (inl (record { next = record { not_failed = refl; in_order = refl }; within = lit< tt; start_landed = refl; has_entry = lit< tt; blocks = refl }));
}

writes_two : MayDo narrow_image (named write_two after_place_two) 0 (program_of (stripe_from 12 (entry_blocks 2)) (Answered Done))
writes_two = record {
  chunks = _;
  has_chunks = refl;
  event = record { found = _; there = refl; blocks = (sector_is 2 (lit< tt), (pad_is, (pad_is, (pad_is, tt)))); outcome = (tt, (refl, refl)) };
  stopped = λ e. no_truth e;
  command = record { placed = _; earliest = refl; its_chunk = refl; its_place = refl; its_blocks = refl };
}

lands_two : MayLand (named land_two after_write_two) 0 3
lands_two = record {
  program = program_of (stripe_from 12 (entry_blocks 2)) (Answered Done);
  new = record { logged = _; is_known = refl; event = refl; once = isnt_named 3 (0 ∷ 1 ∷ 2 ∷ []) refl };
  stripe = record { program = refl; logged = _; is_logged = refl; after_begin = lit< tt; placed = lit< tt; its_turn = refl };
  done = refl;
}

takes_three : MayTake narrow_image (named take_three after_land_two) (entry_at 3) (sector_mark 5 3)
takes_three = record { position = refl; position_number = lit< tt; lba = lit< tt; marked = refl; block = sector_is 3 (lit< tt) }

places_three : MayPlace narrow_image (named place_three after_take_three) (stripe_from 16 (entry_blocks 3))
places_three = record {
  in_range = lit< tt;
  chunk = refl;
  opening = opening;
  is_open = refl;
  idle = all_in (is_answered (named place_three after_take_three 0)) (placed_on (named place_three after_take_three 0) 0) refl;
  kind = inr (inl (record { next = record { not_failed = refl; in_order = refl }; within = lit< tt; start_landed = refl; has_entry = lit< tt; blocks = refl }));
}

writes_three : MayDo narrow_image (named write_three after_place_three) 0 (program_of (stripe_from 16 (entry_blocks 3)) (Answered Done))
writes_three = record {
  chunks = _;
  has_chunks = refl;
  event = record { found = _; there = refl; blocks = (sector_is 3 (lit< tt), (pad_is, (pad_is, (pad_is, tt)))); outcome = (tt, (refl, refl)) };
  stopped = λ e. no_truth e;
  command = record { placed = _; earliest = refl; its_chunk = refl; its_place = refl; its_blocks = refl };
}

lands_three : MayLand (named land_three after_write_three) 0 4
lands_three = record {
  program = program_of (stripe_from 16 (entry_blocks 3)) (Answered Done);
  new = record { logged = _; is_known = refl; event = refl; once = isnt_named 4 (0 ∷ 1 ∷ 2 ∷ 3 ∷ []) refl };
  stripe = record { program = refl; logged = _; is_logged = refl; after_begin = lit< tt; placed = lit< tt; its_turn = refl };
  done = refl;
}

places_end : MayPlace narrow_image (named place_end after_land_three) (stripe_from 20 (meta_blocks 1 end_spelling))
unfolding end_spelling
places_end = record {
  in_range = lit< tt;
  chunk = refl;
  opening = opening;
  is_open = refl;
  idle = all_in (is_answered (named place_end after_land_three 0)) (placed_on (named place_end after_land_three 0) 0) refl;
  kind = inr (inr (inl (record { next = record { not_failed = refl; in_order = refl }; from = lit≤ tt; within = lit< tt; data_landed = refl; blocks = refl })));
}

writes_end : AllByRecursion (IsBlock small) (meta_blocks 1 end_spelling) → MayDo narrow_image (named write_end after_place_end) 0
    (program_of (stripe_from 20 (meta_blocks 1 end_spelling)) (Answered Done))
writes_end ends = record {
  chunks = _;
  has_chunks = refl;
  event = record { found = _; there = refl; blocks = ends; outcome = (tt, (refl, refl)) };
  stopped = λ e. no_truth e;
  command = record { placed = _; earliest = refl; its_chunk = refl; its_place = refl; its_blocks = refl };
}

lands_end : MayLand (named land_end after_write_end) 0 5
lands_end = record {
  program = program_of (stripe_from 20 (meta_blocks 1 end_spelling)) (Answered Done);
  new = record { logged = _; is_known = refl; event = refl; once = isnt_named 5 (0 ∷ 1 ∷ 2 ∷ 3 ∷ 4 ∷ []) refl };
  stripe = record { program = refl; logged = _; is_logged = refl; after_begin = lit< tt; placed = lit< tt; its_turn = refl };
  done = refl;
}

filled_legal : AllByRecursion (IsBlock small) (meta_blocks 1 narrow_spelling) → AllByRecursion (IsBlock small) (meta_blocks 1 end_spelling)
    → IsLegal narrow_image after_land_end
unfolding IsLegal
filled_legal metas ends = (
  legal_on narrow_image.units after_write_end land_end (lit≤ tt) refl refl refl refl (beginning, refl, lands_end),
  (
    legal_on narrow_image.units after_place_end write_end (lit≤ tt) refl refl refl refl (writes_end ends),
    (
      legal_on narrow_image.units after_land_three place_end (lit≤ tt) refl refl refl refl (beginning, refl, places_end),
      (
        legal_on narrow_image.units after_write_three land_three (lit≤ tt) refl refl refl refl (beginning, refl, lands_three),
        (
          legal_on narrow_image.units after_place_three write_three (lit≤ tt) refl refl refl refl writes_three,
          (
            legal_on narrow_image.units after_take_three place_three (lit≤ tt) refl refl refl refl (beginning, refl, places_three),
            (
              legal_on narrow_image.units after_land_two take_three (lit≤ tt) refl refl refl refl (beginning, refl, takes_three),
              (
                legal_on narrow_image.units after_write_two land_two (lit≤ tt) refl refl refl refl (beginning, refl, lands_two),
                (
                  legal_on narrow_image.units after_place_two write_two (lit≤ tt) refl refl refl refl writes_two,
                  (
                    legal_on narrow_image.units after_take_two place_two (lit≤ tt) refl refl refl refl (beginning, refl, places_two),
                    (
                      legal_on narrow_image.units after_land_one take_two (lit≤ tt) refl refl refl refl (beginning, refl, takes_two),
                      half_legal metas,
                    ),
                  ),
                ),
              ),
            ),
          ),
        ),
      ),
    ),
  ),
)

metas_written : length (start_bytes small narrow_start) ≡ 2048 → AllByRecursion (λ x. x < 256) (start_bytes small narrow_start) → AllByRecursion
    (IsBlock small) (meta_blocks 1 narrow_spelling)
unfolding narrow_spelling
metas_written long each = metas_are 1 (lit< tt) (start_bytes small narrow_start) long each

ends_written : length (end_bytes small narrow_end) ≡ 2048 → AllByRecursion (λ x. x < 256) (end_bytes small narrow_end) → AllByRecursion (IsBlock small)
    (meta_blocks 1 end_spelling)
unfolding end_spelling
ends_written long each = metas_are 1 (lit< tt) (end_bytes small narrow_end) long each

pub legal_by : length (start_bytes small narrow_start) ≡ 2048 → AllByRecursion (λ x. x < 256) (start_bytes small narrow_start)
    → length (end_bytes small narrow_end) ≡ 2048 → AllByRecursion (λ x. x < 256) (end_bytes small narrow_end) → IsLegal narrow_image after_land_end
legal_by long each end_long end_each = filled_legal (metas_written long each) (ends_written end_long end_each)

-- Wrong ends.

pub no_early_end : ¬ IsLegal narrow_image end_before_data
unfolding IsLegal
no_early_end h = no_truth (h.0.allowed.2.idle _ (4, lit< tt, refl))

abbrev late : Stripe
late = stripe_from 20 (entry_blocks 4)

first_lba : List Block → ℕ
first_lba [] = 0
first_lba (b ∷ blocks) = b.mark.lba

no_data_there : Kind narrow_image (named place_data_at_end after_late_take) late opening → ⊥
unfolding first_lba
no_data_there (inl s) = too_high 20 4 refl s.within
no_data_there (inr (inl s)) = too_high 20 20 refl s.within
no_data_there (inr (inr (inl s))) = differ 5 (2 ^ 64 - 3) refl (ap first_lba s.blocks)
no_data_there (inr (inr (inr s))) = no_truth s.failed

pub no_data_at_end : ¬ IsLegal narrow_image data_at_the_end
unfolding IsLegal
no_data_at_end h = no_data_there (subst (λ o. Kind narrow_image (named place_data_at_end after_late_take) late o)
    (sym (opened_same opening h.0.allowed.2.opening h.0.allowed.2.is_open)) h.0.allowed.2.kind)

pub is_end_record : IsEndRecord small narrow_end
is_end_record =
    let pad : FitsBytes pad_mark = record { lba = lit< tt; position = lit< tt } in
    record {
      count = refl;
      marks = (
        record { lba = lit< tt; position = lit< tt },
        (
          pad,
          (
            pad,
            (
              pad,
              (
                record { lba = lit< tt; position = lit< tt },
                (
                  pad,
                  (
                    pad,
                    (
                      pad,
                      (
                        record { lba = lit< tt; position = lit< tt },
                        (
                          pad,
                          (pad, (pad, (record { lba = lit< tt; position = lit< tt }, (pad, (pad, (pad, tt)))))),
                        ),
                      ),
                    ),
                  ),
                ),
              ),
            ),
          ),
        ),
      );
    }

-- What it leaves.

pub starts : start_of (media narrow_image (log_of after_land_end)) 0 ≡ Some narrow_start
unfolding zeros rows_in written_run narrow_spelling
starts = refl

pub ends_with : end_of (media narrow_image (log_of after_land_end)) 0 narrow_start ≡ Some narrow_end
unfolding zeros pairs_in written_run end_spelling
ends_with = refl

pub ends_at : end (media narrow_image (log_of after_land_end)) ≡ 4
unfolding zeros rows_in pairs_in written_run narrow_spelling end_spelling least_missing
ends_at = refl

pub holds_sector : sector_of (media narrow_image (log_of after_land_end)) 5 ≡ sector
unfolding zeros rows_in pairs_in written_run narrow_spelling end_spelling least_missing
holds_sector = refl
