-- The steps of the simple world, each legal.
use Rattle.std.proofs.Common.{◌≡◌, ◌<◌, ◌≢◌, [], ◌∷◌, length, replicate, refl, arith, lit<, lit≤, inl, inr}
use Rattle.std.specs.List.{AllByRecursion}
use Rattle.pblk_model.specs.declared.chunk.ChunkState.TheVariants as states
use Rattle.pblk_model.specs.Shape.{small}
use Rattle.pblk_model.specs.Chunk.{IsBlock, free_chunk}
use Rattle.pblk_model.specs.Marks.{sector_mark}
use Rattle.pblk_model.specs.StartRecord.{written_run, start_bytes}
use Rattle.pblk_model.specs.Contents.{least_missing}
use Rattle.pblk_world.specs.EngineLog.{Begun, Opening}
use Rattle.pblk_world.specs.Opening.{MayBegin, MayOpen}
use Rattle.pblk_world.specs.Placing.{MayPlace}
use Rattle.pblk_world.specs.Taking.{MayTake}
use Rattle.pblk_world.specs.Commanding.{MayDo}
use Rattle.pblk_world.specs.Answering.{MayLand}
use Rattle.pblk_world.specs.Legal.{IsLegal}
use Rattle.world_tests.proofs.Knowing.{no_truth, named, step_legal}
use Rattle.world_tests.proofs.Blocks.{none_in, free_not_open, sector_is, pad_is, metas_are}
use Rattle.pblk_model.specs.ChunkStep.{Done}
use Rattle.pblk_model.specs.UnitLog.{Answered}
use Rattle.world_tests.specs.Simple.{begin_step, begun_world, take_step, taken_world, open_step, opened_world, place_start, start_placed, write_start, start_written, land_start, start_landed, place_data, data_placed, write_data, data_written, land_data, simple_world, start, spelling, start_stripe, entry, data_stripe}
use Rattle.world_tests.specs.Steps.{image, meta_blocks, program_of}
use Rattle.pblk_model.proofs.Lists.{all_replicated}

-- Steps.

begins : MayBegin image (named begin_step []) (record { first = 0; seq = 1; strays = [] })
unfolding written_run
begins = record {
  is_first = refl;
  no_open_chunk = (
    all_replicated (λ c. c.state ≢ states.Open) 8 free_chunk free_not_open,
    (all_replicated (λ c. c.state ≢ states.Open) 8 free_chunk free_not_open, tt),
  );
  first = refl;
  seq = refl;
  strays = refl;
}

takes_sector : MayTake image (named take_step begun_world) entry (sector_mark 5 0)
takes_sector = record { position = refl; position_number = lit< tt; lba = lit< tt; marked = refl; block = sector_is 0 (lit< tt) }

abbrev pub beginning : Begun
beginning = record { beginning = record { first = 0; seq = 1; strays = [] }; knows = 0 ∷ 0 ∷ 0 ∷ [] }

opens : MayOpen image (named open_step taken_world) beginning 0 start
unfolding written_run least_missing
opens = record {
  in_range = lit< tt;
  is_free = refl;
  is_first = λ other h. absurd (omega arith);
  one_other = λ m n _ _ e _. no_truth e;
  own_line = refl;
  own_width = refl;
  own_capacity = refl;
  seq = refl;
  first_seq = refl;
  front = refl;
  rows = refl;
  seq_number = lit< tt;
  front_number = lit< tt;
}

opening : Opening
opening = record { number = 2; line = 0; start = start; knows = 2 ∷ 0 ∷ 0 ∷ [] }

places_start : MayPlace image (named place_start opened_world) start_stripe
unfolding opening spelling
places_start = record {
  in_range = lit< tt;
  chunk = refl;
  opening = opening;
  is_open = refl;
  idle = λ p h. none_in p h;
  kind = inl (record { next = record { not_failed = refl; in_order = refl }; within = lit< tt; blocks = refl });
}

writes_start : AllByRecursion (IsBlock small) (meta_blocks 1 spelling) → MayDo image (named write_start start_placed) 0
    (program_of start_stripe (Answered Done))
writes_start metas = record {
  chunks = replicate 8 free_chunk;
  has_chunks = refl;
  event = record { found = free_chunk; there = refl; blocks = metas; outcome = (tt, (refl, refl)) };
  stopped = λ e. no_truth e;
  command = record { placed = _; earliest = refl; its_chunk = refl; its_place = refl; its_blocks = refl };
}

lands_start : MayLand (named land_start start_written) 0 0
lands_start = record {
  program = program_of start_stripe (Answered Done);
  new = record { logged = _; is_known = refl; event = refl; once = λ h. none_in 0 h };
  stripe = record { program = refl; logged = _; is_logged = refl; after_begin = lit< tt; placed = lit< tt; its_turn = refl };
  done = refl;
}

places_data : MayPlace image (named place_data start_landed) data_stripe
unfolding opening
places_data = record {
  in_range = lit< tt;
  chunk = refl;
  opening = opening;
  is_open = refl;
  idle = λ p h. none_in p h;
  kind = inr (inl (record { next = record { not_failed = refl; in_order = refl }; within = lit< tt; start_landed = refl; has_entry = lit< tt; blocks = refl }));
}

writes_data : MayDo image (named write_data data_placed) 1 (program_of data_stripe (Answered Done))
writes_data = record {
  chunks = replicate 8 free_chunk;
  has_chunks = refl;
  event = record { found = free_chunk; there = refl; blocks = (sector_is 0 (lit< tt), (pad_is, (pad_is, (pad_is, tt)))); outcome = (tt, (refl, refl)) };
  stopped = λ e. no_truth e;
  command = record { placed = _; earliest = refl; its_chunk = refl; its_place = refl; its_blocks = refl };
}

lands_data : MayLand (named land_data data_written) 1 0
lands_data = record {
  program = program_of data_stripe (Answered Done);
  new = record { logged = _; is_known = refl; event = refl; once = λ h. none_in 0 h };
  stripe = record { program = refl; logged = _; is_logged = refl; after_begin = lit< tt; placed = lit< tt; its_turn = refl };
  done = refl;
}

-- They are legal by the prefixes that they name.

pub start_placed_legal : IsLegal image start_placed
unfolding IsLegal
start_placed_legal = (
  step_legal opened_world place_start (lit≤ tt) refl refl refl refl (beginning, refl, places_start),
  (
    step_legal taken_world open_step (lit≤ tt) refl refl refl refl (beginning, refl, opens),
    (
      step_legal begun_world take_step (lit≤ tt) refl refl refl refl (beginning, refl, takes_sector),
      (step_legal [] begin_step (lit≤ tt) refl refl refl refl begins, tt),
    ),
  ),
)

pub is_legal : AllByRecursion (IsBlock small) (meta_blocks 1 spelling) → IsLegal image simple_world
unfolding IsLegal
is_legal metas = (
  step_legal data_written land_data (lit≤ tt) refl refl refl refl (beginning, refl, lands_data),
  (
    step_legal data_placed write_data (lit≤ tt) refl refl refl refl writes_data,
    (
      step_legal start_landed place_data (lit≤ tt) refl refl refl refl (beginning, refl, places_data),
      (
        step_legal start_written land_start (lit≤ tt) refl refl refl refl (beginning, refl, lands_start),
        (
          step_legal start_placed write_start (lit≤ tt) refl refl refl refl (writes_start metas),
          start_placed_legal,
        ),
      ),
    ),
  ),
)

pub metas_written : length (start_bytes small start) ≡ 2048 → AllByRecursion (λ x. x < 256) (start_bytes small start) → AllByRecursion (IsBlock small)
    (meta_blocks 1 spelling)
unfolding spelling
metas_written long each = metas_are 1 (lit< tt) (start_bytes small start) long each

pub legal_by : length (start_bytes small start) ≡ 2048 → AllByRecursion (λ x. x < 256) (start_bytes small start) → IsLegal image simple_world
legal_by long each = is_legal (metas_written long each)
