-- The world over an image of an older mount is legal, and the wrong ones beside it aren't.
use Rattle.std.proofs.Common.{◌≡◌, ℕ, ◌<◌, zero, suc, false, Some, List, [], ◌∷◌, length, replicate, refl, sym, ap, ◌∙◌, arith, lit<, lit≤, inl, inr}
use Rattle.std.specs.Prelude.{IsTrue}
use Rattle.std.specs.List.{AllByRecursion}
use Rattle.pblk_model.specs.declared.chunk.ChunkState.TheVariants as states
use Rattle.pblk_model.specs.Shape.{small}
use Rattle.pblk_model.specs.Bytes.{zeros}
use Rattle.pblk_model.specs.Chunk.{Chunk, IsBlock, free_chunk}
use Rattle.pblk_model.specs.ChunkStep.{Done}
use Rattle.pblk_model.specs.UnitLog.{Answered}
use Rattle.pblk_model.specs.Marks.{sector_mark}
use Rattle.pblk_model.specs.StartRecord.{StartRecord, Row, written_run, rows_in, start_bytes, start_fits}
use Rattle.pblk_model.specs.Records.{Record}
use Rattle.pblk_model.specs.Contents.{least_missing, IsNewer}
use Rattle.pblk_world.specs.World.{Logs}
use Rattle.pblk_world.specs.EngineLog.{Begun, Opening}
use Rattle.pblk_world.specs.Lines.{is_free_line}
use Rattle.pblk_world.specs.Opening.{MayBegin, MayOpen}
use Rattle.pblk_world.specs.Placing.{MayPlace}
use Rattle.pblk_world.specs.Taking.{IsLatest, MayTake}
use Rattle.pblk_world.specs.Commanding.{MayDo}
use Rattle.pblk_world.specs.Answering.{MayLand}
use Rattle.pblk_world.specs.Freeing.{IsCountedRecord, IsLandedRecord, IsReplaced, MayFree}
use Rattle.pblk_world.specs.Legal.{IsLegal}
use Rattle.world_tests.specs.Steps.{meta_blocks, program_of, sector, sector_block}
use Rattle.world_tests.specs.Simple.{spelling}
use Rattle.world_tests.specs.Older.{older_image, begin_older, older_begun, copy_of_found, take_found, found_taken, start_with, rows, younger_spelling, open_with, younger_opened, younger_stripe, place_younger, younger_placed, write_younger, younger_written, land_younger, younger_landed, copied_stripe, place_copied, copied_placed, write_copied, copied_written, land_copied, copied_landed, free_older, older_world, older_line_has_no_row, bound_isnt_the_end}
use Rattle.world_tests.proofs.Knowing.{no_truth, named, legal_on, differ}
use Rattle.world_tests.proofs.Blocks.{none_in, free_not_open, sector_is, pad_is, metas_are}
use Rattle.world_tests.proofs.OverwrittenWorld.{each_in}
use Rattle.pblk_model.proofs.Lists.{all_replicated, nil_cons}

closed_not_open : (c : Chunk) → c.state ≡ states.Closed → c.state ≡ states.Open → ⊥
closed_not_open c e f = closed (sym e ∙ f)
  where
    closed : states.Closed ≡ states.Open → ⊥
    closed g = grind arith

frees_all : AllByRecursion (λ (c : Chunk). c.state ≡ states.Open → ⊥) (replicate 7 free_chunk)
frees_all = all_replicated (λ (c : Chunk). c.state ≡ states.Open → ⊥) 7 free_chunk free_not_open

begins : MayBegin older_image (named begin_older []) (record { first = 1; seq = 2; strays = [] })
unfolding zeros rows_in written_run spelling least_missing
begins = record {
  is_first = refl;
  no_open_chunk = (
    (λ e. closed_not_open (record { state = states.Closed; blocks = [] }) refl e, frees_all),
    ((λ e. closed_not_open (record { state = states.Closed; blocks = [] }) refl e, frees_all), tt),
  );
  first = refl;
  seq = refl;
  strays = refl;
}

abbrev pub beginning : Begun
beginning = record { beginning = record { first = 1; seq = 2; strays = [] }; knows = 0 ∷ 0 ∷ 0 ∷ [] }

abbrev pub found_record : Record
found_record = record { line = 0; seq = 1; at = 4; position = 0; lba = Some 5; sector = sector }

found_is_latest : IsLatest older_image (named take_found older_begun) 5 (record { line = 0; at = 4; position = 0 }) (sector_block 0)
unfolding zeros rows_in written_run spelling least_missing
found_is_latest = record {
  place = record { winning = found_record; is_winner = refl; line = refl; at = refl; position = refl; not_freed = refl };
  there = refl;
  bears = tt;
}

takes_found : MayTake older_image (named take_found older_begun) copy_of_found (sector_mark 5 1)
takes_found = record {
  position = refl;
  position_number = lit< tt;
  lba = lit< tt;
  marked = inl (record { block = sector_block 0; latest = found_is_latest; sector = refl; names_sector = refl });
  block = sector_is 1 (lit< tt);
}

first_isnt_free : (line : ℕ) → line < 1 → is_free_line older_image (named (open_with rows) found_taken) line ≡ false
unfolding zeros rows_in written_run spelling
first_isnt_free zero h = refl
first_isnt_free (suc line) h = absurd (omega arith)

opens_younger : MayOpen older_image (named (open_with rows) found_taken) beginning 1 (start_with rows)
unfolding zeros rows_in written_run spelling least_missing
opens_younger = record {
  in_range = lit< tt;
  is_free = refl;
  is_first = first_isnt_free;
  one_other = λ m n _ _ e _. no_truth e;
  own_line = refl;
  own_width = refl;
  own_capacity = refl;
  seq = refl;
  first_seq = refl;
  front = refl;
  rows = refl;
  seq_number = lit< tt;
  front_number = lit< tt;
}

abbrev opening : Opening
opening = record { number = 2; line = 1; start = start_with rows; knows = 2 ∷ 0 ∷ 0 ∷ [] }

places_younger : MayPlace older_image (named place_younger younger_opened) younger_stripe
unfolding younger_spelling
places_younger = record {
  in_range = lit< tt;
  chunk = refl;
  opening = opening;
  is_open = refl;
  idle = λ p h. none_in p h;
  kind = inl (record { next = record { not_failed = refl; in_order = refl }; within = lit< tt; blocks = refl });
}

writes_younger : AllByRecursion (IsBlock small) (meta_blocks 2 younger_spelling) → MayDo older_image (named write_younger younger_placed) 0
    (program_of younger_stripe (Answered Done))
writes_younger metas = record {
  chunks = _;
  has_chunks = refl;
  event = record { found = free_chunk; there = refl; blocks = metas; outcome = (tt, (refl, refl)) };
  stopped = λ e. no_truth e;
  command = record { placed = _; earliest = refl; its_chunk = refl; its_place = refl; its_blocks = refl };
}

lands_younger : MayLand (named land_younger younger_written) 0 0
lands_younger = record {
  program = program_of younger_stripe (Answered Done);
  new = record { logged = _; is_known = refl; event = refl; once = λ h. none_in 0 h };
  stripe = record { program = refl; logged = _; is_logged = refl; after_begin = lit< tt; placed = lit< tt; its_turn = refl };
  done = refl;
}

places_copied : MayPlace older_image (named place_copied younger_landed) copied_stripe
places_copied = record {
  in_range = lit< tt;
  chunk = refl;
  opening = opening;
  is_open = refl;
  idle = λ p h. none_in p h;
  kind = inr (inl (record { next = record { not_failed = refl; in_order = refl }; within = lit< tt; start_landed = refl; has_entry = lit< tt; blocks = refl }));
}

writes_copied : MayDo older_image (named write_copied copied_placed) 1 (program_of copied_stripe (Answered Done))
writes_copied = record {
  chunks = _;
  has_chunks = refl;
  event = record { found = free_chunk; there = refl; blocks = (sector_is 1 (lit< tt), (pad_is, (pad_is, (pad_is, tt)))); outcome = (tt, (refl, refl)) };
  stopped = λ e. no_truth e;
  command = record { placed = _; earliest = refl; its_chunk = refl; its_place = refl; its_blocks = refl };
}

lands_copied : MayLand (named land_copied copied_written) 1 0
lands_copied = record {
  program = program_of copied_stripe (Answered Done);
  new = record { logged = _; is_known = refl; event = refl; once = λ h. none_in 0 h };
  stripe = record { program = refl; logged = _; is_logged = refl; after_begin = lit< tt; placed = lit< tt; its_turn = refl };
  done = refl;
}

-- The free of the found line.

abbrev freeing : Logs
freeing = named free_older copied_landed

record IsFoundSector (r : Record) : Type 0 where
  lba : r.lba ≡ Some 5
  position : r.position ≡ 0

counted_is : (r : Record) → IsCountedRecord older_image freeing 0 r → IsFoundSector r
unfolding zeros rows_in written_run spelling least_missing
counted_is r h = each_in IsFoundSector (found_record ∷ []) (record { lba = refl; position = refl }, tt) r h.counts

abbrev copied_record : Record
copied_record = record { line = 1; seq = 2; at = 4; position = 1; lba = Some 5; sector = sector }

copied_there : IsLandedRecord older_image freeing opening copied_record
copied_there = record { placed = _; of_opening = (1, lit< tt, refl); landed = refl; index = 0; block = _; is_block = refl; place = refl; bears = refl }

newer_than : (r : Record) → r.position ≡ 0 → IsNewer r copied_record
newer_than r e = inl (omega arith)

replaced : (r : Record) (lba : ℕ) → IsCountedRecord older_image freeing 0 r → r.lba ≡ Some lba → IsReplaced older_image freeing 0 lba r
unfolding least_missing
replaced r lba h e = record {
  other = 1;
  is_other = λ wrong. differ 1 0 refl wrong;
  by = copied_record;
  landed = copied_there;
  sector = sym (counted_is r h).lba ∙ e;
  newer = newer_than r (counted_is r h).position;
  below_synced = lit< tt;
}

low : (p : ℕ) → p ≡ 0 → p < 1
low p e = omega arith

frees_older : MayFree older_image freeing 0
unfolding zeros rows_in written_run spelling
frees_older = record {
  in_range = lit< tt;
  seq = 1;
  has_seq = refl;
  answered = tt;
  newest = start_with rows;
  is_newest = refl;
  older = lit< tt;
  below_front = λ r h. low r.position (counted_is r h).position;
  replaced = replaced;
  over = refl;
}

-- It is legal by the prefixes that its steps name.

pub older_legal : AllByRecursion (IsBlock small) (meta_blocks 2 younger_spelling) → IsLegal older_image older_world
unfolding IsLegal
older_legal metas = (
  legal_on older_image.units copied_landed free_older (lit≤ tt) refl refl refl refl (beginning, refl, frees_older),
  (
    legal_on older_image.units copied_written land_copied (lit≤ tt) refl refl refl refl (beginning, refl, lands_copied),
    (
      legal_on older_image.units copied_placed write_copied (lit≤ tt) refl refl refl refl writes_copied,
      (
        legal_on older_image.units younger_landed place_copied (lit≤ tt) refl refl refl refl (beginning, refl, places_copied),
        (
          legal_on older_image.units younger_written land_younger (lit≤ tt) refl refl refl refl (beginning, refl, lands_younger),
          (
            legal_on older_image.units younger_placed write_younger (lit≤ tt) refl refl refl refl (writes_younger metas),
            (
              legal_on older_image.units younger_opened place_younger (lit≤ tt) refl refl refl refl (beginning, refl, places_younger),
              (
                legal_on older_image.units found_taken (open_with rows) (lit≤ tt) refl refl refl refl (beginning, refl, opens_younger),
                (
                  legal_on older_image.units older_begun take_found (lit≤ tt) refl refl refl refl (beginning, refl, takes_found),
                  (legal_on older_image.units [] begin_older (lit≤ tt) refl refl refl refl begins, tt),
                ),
              ),
            ),
          ),
        ),
      ),
    ),
  ),
)

pub younger_written_whole : length (start_bytes small (start_with rows)) ≡ 2048 → AllByRecursion (λ x. x < 256) (start_bytes small (start_with rows))
    → AllByRecursion (IsBlock small) (meta_blocks 2 younger_spelling)
unfolding younger_spelling
younger_written_whole long each = metas_are 2 (lit< tt) (start_bytes small (start_with rows)) long each

pub legal_by : ((r : StartRecord) → IsTrue (start_fits small r.line 2 r) → length (start_bytes small r) ≡ 2048)
    → ((r : StartRecord) → AllByRecursion (λ x. x < 256) (start_bytes small r)) → IsLegal older_image older_world
legal_by long each = older_legal (younger_written_whole (long (start_with rows) refl) (each (start_with rows)))

-- Wrong rows.

pub no_missing_row : ¬ IsLegal older_image older_line_has_no_row
unfolding IsLegal zeros rows_in written_run spelling
no_missing_row h = nil_cons _ _ h.0.allowed.2.rows

first_bound : List Row → ℕ
first_bound [] = 0
first_bound (row ∷ more) = row.bound

pub no_low_bound : ¬ IsLegal older_image bound_isnt_the_end
unfolding IsLegal zeros rows_in written_run spelling first_bound
no_low_bound h = differ 0 1 refl (ap first_bound h.0.allowed.2.rows)
