-- The worlds in which a sector is written again before its stripe has landed are legal.
use Rattle.std.proofs.Common.{◌≡◌, ◌<◌, length, refl, lit<, lit≤}
use Rattle.std.specs.List.{AllByRecursion}
use Rattle.pblk_model.specs.Shape.{small}
use Rattle.pblk_model.specs.Chunk.{IsBlock}
use Rattle.pblk_model.specs.ChunkStep.{Done}
use Rattle.pblk_model.specs.UnitLog.{Answered, Failed}
use Rattle.pblk_model.specs.Marks.{sector_mark}
use Rattle.pblk_model.specs.StartRecord.{start_bytes}
use Rattle.pblk_world.specs.Taking.{MayTake}
use Rattle.pblk_world.specs.Commanding.{MayDo}
use Rattle.pblk_world.specs.Answering.{MayLand, MayLose}
use Rattle.pblk_world.specs.Legal.{IsLegal}
use Rattle.world_tests.specs.Steps.{image, meta_blocks, program_of}
use Rattle.world_tests.specs.Simple.{start, spelling, data_stripe, data_placed}
use Rattle.world_tests.specs.Overwritten.{newer_entry}
use Rattle.world_tests.specs.Takers.{take_between, between_taken, write_after, after_written, land_after, after_landed, fail_after, after_failed, lose_after, after_lost}
use Rattle.world_tests.proofs.Knowing.{no_truth, named, step_legal}
use Rattle.world_tests.proofs.Blocks.{none_in, sector_is, pad_is}
use Rattle.world_tests.proofs.SimpleWorld.{beginning, is_legal, metas_written}
use Rattle.world_tests.proofs.Overwriting.{newer_is}

takes_between : MayTake image (named take_between data_placed) (newer_entry 5) (sector_mark 5 1)
takes_between = record { position = refl; position_number = lit< tt; lba = lit< tt; marked = refl; block = newer_is }

writes_after : MayDo image (named write_after between_taken) 1 (program_of data_stripe (Answered Done))
writes_after = record {
  chunks = _;
  has_chunks = refl;
  event = record { found = _; there = refl; blocks = (sector_is 0 (lit< tt), (pad_is, (pad_is, (pad_is, tt)))); outcome = (tt, (refl, refl)) };
  stopped = λ e. no_truth e;
  command = record { placed = _; earliest = refl; its_chunk = refl; its_place = refl; its_blocks = refl };
}

lands_after : MayLand (named land_after after_written) 1 0
lands_after = record {
  program = program_of data_stripe (Answered Done);
  new = record { logged = _; is_known = refl; event = refl; once = λ h. none_in 0 h };
  stripe = record { program = refl; logged = _; is_logged = refl; after_begin = lit< tt; placed = lit< tt; its_turn = refl };
  done = refl;
}

fails_after : MayDo image (named fail_after between_taken) 1 (program_of data_stripe (Failed 1))
fails_after = record {
  chunks = _;
  has_chunks = refl;
  event = record { found = _; there = refl; blocks = (sector_is 0 (lit< tt), (pad_is, (pad_is, (pad_is, tt)))); outcome = (refl, lit< tt) };
  stopped = λ e. no_truth e;
  command = record { placed = _; earliest = refl; its_chunk = refl; its_place = refl; its_blocks = refl };
}

loses_after : MayLose (named lose_after after_failed) 1 0
loses_after = record {
  program = program_of data_stripe (Failed 1);
  new = record { logged = _; is_known = refl; event = refl; once = λ h. none_in 0 h };
  stripe = record { program = refl; logged = _; is_logged = refl; after_begin = lit< tt; placed = lit< tt; its_turn = refl };
  landed_before = 1;
  failed = refl;
}

between_legal : AllByRecursion (IsBlock small) (meta_blocks 1 spelling) → IsLegal image between_taken
unfolding IsLegal
between_legal metas = (step_legal data_placed take_between (lit≤ tt) refl refl refl refl (beginning, refl, takes_between), (is_legal metas).1.1)

pub landed_legal : length (start_bytes small start) ≡ 2048 → AllByRecursion (λ x. x < 256) (start_bytes small start) → IsLegal image after_landed
unfolding IsLegal
landed_legal long each = (
  step_legal after_written land_after (lit≤ tt) refl refl refl refl (beginning, refl, lands_after),
  (
    step_legal between_taken write_after (lit≤ tt) refl refl refl refl writes_after,
    between_legal (metas_written long each),
  ),
)

pub lost_legal : length (start_bytes small start) ≡ 2048 → AllByRecursion (λ x. x < 256) (start_bytes small start) → IsLegal image after_lost
unfolding IsLegal
lost_legal long each = (
  step_legal after_failed lose_after (lit≤ tt) refl refl refl refl (beginning, refl, loses_after),
  (
    step_legal between_taken fail_after (lit≤ tt) refl refl refl refl fails_after,
    between_legal (metas_written long each),
  ),
)
