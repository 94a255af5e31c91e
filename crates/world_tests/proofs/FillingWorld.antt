-- The first steps of the world with a filled line, each legal: up to the second entry's landing.
use Rattle.std.proofs.Common.{◌≡◌, [], ◌∷◌, refl, arith, lit<, lit≤, inl, inr}
use Rattle.std.specs.List.{AllByRecursion}
use Rattle.pblk_model.specs.declared.chunk.ChunkState.TheVariants as states
use Rattle.pblk_model.specs.Shape.{small}
use Rattle.pblk_model.specs.Chunk.{Chunk, IsBlock, free_chunk, offline_chunk}
use Rattle.pblk_model.specs.ChunkStep.{Done}
use Rattle.pblk_model.specs.UnitLog.{Answered}
use Rattle.pblk_model.specs.Marks.{sector_mark}
use Rattle.pblk_model.specs.StartRecord.{written_run}
use Rattle.pblk_model.specs.Contents.{least_missing}
use Rattle.pblk_world.specs.EngineLog.{Begun, Opening, placed_on, is_answered}
use Rattle.pblk_world.specs.Opening.{MayBegin, MayOpen}
use Rattle.pblk_world.specs.Placing.{MayPlace}
use Rattle.pblk_world.specs.Taking.{MayTake}
use Rattle.pblk_world.specs.Commanding.{MayDo}
use Rattle.pblk_world.specs.Answering.{MayLand}
use Rattle.pblk_world.specs.Legal.{IsLegal}
use Rattle.world_tests.specs.Steps.{meta_blocks, program_of}
use Rattle.world_tests.specs.Filled.{narrow_image, narrow_start, narrow_spelling, stripe_from, entry_at, entry_blocks, begin_mount, open_line, place_first, write_first, land_first, take_zero, place_zero, write_zero, land_zero, take_one, place_one, write_one, land_one, after_begin, after_open, after_place_first, after_write_first, after_land_first, after_take_zero, after_place_zero, after_write_zero, after_land_zero, after_take_one, after_place_one, after_write_one, after_land_one}
use Rattle.world_tests.proofs.Knowing.{no_truth, named, legal_on, all_in}
use Rattle.world_tests.proofs.Blocks.{free_not_open, sector_is, pad_is}
use Rattle.world_tests.proofs.CollectedWorld.{isnt_named}
use Rattle.pblk_model.proofs.Lists.{all_replicated}

offline_not_open : states.Offline ≡ states.Open → ⊥
offline_not_open e = grind arith

begins : MayBegin narrow_image (named begin_mount []) (record { first = 0; seq = 1; strays = [] })
unfolding written_run
begins = record {
  is_first = refl;
  no_open_chunk = (
    all_replicated (λ (c : Chunk). c.state ≡ states.Open → ⊥) 8 free_chunk free_not_open,
    (all_replicated (λ (c : Chunk). c.state ≡ states.Open → ⊥) 8 offline_chunk offline_not_open, tt),
  );
  first = refl;
  seq = refl;
  strays = refl;
}

abbrev pub beginning : Begun
beginning = record { beginning = record { first = 0; seq = 1; strays = [] }; knows = 0 ∷ 0 ∷ 0 ∷ [] }

opens : MayOpen narrow_image (named open_line after_begin) beginning 0 narrow_start
unfolding written_run least_missing
opens = record {
  in_range = lit< tt;
  is_free = refl;
  is_first = λ other h. absurd (omega arith);
  one_other = λ m n _ _ e _. no_truth e;
  own_line = refl;
  own_width = refl;
  own_capacity = refl;
  seq = refl;
  first_seq = refl;
  front = refl;
  rows = refl;
  seq_number = lit< tt;
  front_number = lit< tt;
}

abbrev pub opening : Opening
opening = record { number = 1; line = 0; start = narrow_start; knows = 1 ∷ 0 ∷ 0 ∷ [] }

places_first : MayPlace narrow_image (named place_first after_open) (stripe_from 0 (meta_blocks 1 narrow_spelling))
unfolding narrow_spelling
places_first = record {
  in_range = lit< tt;
  chunk = refl;
  opening = opening;
  is_open = refl;
  idle = all_in (is_answered (named place_first after_open 0)) (placed_on (named place_first after_open 0) 0) refl;
  kind = inl (record { next = record { not_failed = refl; in_order = refl }; within = lit< tt; blocks = refl });
}

writes_first : AllByRecursion (IsBlock small) (meta_blocks 1 narrow_spelling) → MayDo narrow_image (named write_first after_place_first) 0
    (program_of (stripe_from 0 (meta_blocks 1 narrow_spelling)) (Answered Done))
writes_first metas = record {
  chunks = _;
  has_chunks = refl;
  event = record { found = _; there = refl; blocks = metas; outcome = (tt, (refl, refl)) };
  stopped = λ e. no_truth e;
  command = record { placed = _; earliest = refl; its_chunk = refl; its_place = refl; its_blocks = refl };
}

lands_first : MayLand (named land_first after_write_first) 0 0
lands_first = record {
  program = program_of (stripe_from 0 (meta_blocks 1 narrow_spelling)) (Answered Done);
  new = record { logged = _; is_known = refl; event = refl; once = isnt_named 0 [] refl };
  stripe = record { program = refl; logged = _; is_logged = refl; after_begin = lit< tt; placed = lit< tt; its_turn = refl };
  done = refl;
}

takes_zero : MayTake narrow_image (named take_zero after_land_first) (entry_at 0) (sector_mark 5 0)
takes_zero = record { position = refl; position_number = lit< tt; lba = lit< tt; marked = refl; block = sector_is 0 (lit< tt) }

places_zero : MayPlace narrow_image (named place_zero after_take_zero) (stripe_from 4 (entry_blocks 0))
places_zero = record {
  in_range = lit< tt;
  chunk = refl;
  opening = opening;
  is_open = refl;
  idle = all_in (is_answered (named place_zero after_take_zero 0)) (placed_on (named place_zero after_take_zero 0) 0) refl;
  kind = inr (inl (record { next = record { not_failed = refl; in_order = refl }; within = lit< tt; start_landed = refl; has_entry = lit< tt; blocks = refl }));
}

writes_zero : MayDo narrow_image (named write_zero after_place_zero) 0 (program_of (stripe_from 4 (entry_blocks 0)) (Answered Done))
writes_zero = record {
  chunks = _;
  has_chunks = refl;
  event = record { found = _; there = refl; blocks = (sector_is 0 (lit< tt), (pad_is, (pad_is, (pad_is, tt)))); outcome = (tt, (refl, refl)) };
  stopped = λ e. no_truth e;
  command = record { placed = _; earliest = refl; its_chunk = refl; its_place = refl; its_blocks = refl };
}

lands_zero : MayLand (named land_zero after_write_zero) 0 1
lands_zero = record {
  program = program_of (stripe_from 4 (entry_blocks 0)) (Answered Done);
  new = record { logged = _; is_known = refl; event = refl; once = isnt_named 1 (0 ∷ []) refl };
  stripe = record { program = refl; logged = _; is_logged = refl; after_begin = lit< tt; placed = lit< tt; its_turn = refl };
  done = refl;
}

takes_one : MayTake narrow_image (named take_one after_land_zero) (entry_at 1) (sector_mark 5 1)
takes_one = record { position = refl; position_number = lit< tt; lba = lit< tt; marked = refl; block = sector_is 1 (lit< tt) }

places_one : MayPlace narrow_image (named place_one after_take_one) (stripe_from 8 (entry_blocks 1))
places_one = record {
  in_range = lit< tt;
  chunk = refl;
  opening = opening;
  is_open = refl;
  idle = all_in (is_answered (named place_one after_take_one 0)) (placed_on (named place_one after_take_one 0) 0) refl;
  kind = inr (inl (record { next = record { not_failed = refl; in_order = refl }; within = lit< tt; start_landed = refl; has_entry = lit< tt; blocks = refl }));
}

writes_one : MayDo narrow_image (named write_one after_place_one) 0 (program_of (stripe_from 8 (entry_blocks 1)) (Answered Done))
writes_one = record {
  chunks = _;
  has_chunks = refl;
  event = record { found = _; there = refl; blocks = (sector_is 1 (lit< tt), (pad_is, (pad_is, (pad_is, tt)))); outcome = (tt, (refl, refl)) };
  stopped = λ e. no_truth e;
  command = record { placed = _; earliest = refl; its_chunk = refl; its_place = refl; its_blocks = refl };
}

lands_one : MayLand (named land_one after_write_one) 0 2
lands_one = record {
  program = program_of (stripe_from 8 (entry_blocks 1)) (Answered Done);
  new = record { logged = _; is_known = refl; event = refl; once = isnt_named 2 (0 ∷ 1 ∷ []) refl };
  stripe = record { program = refl; logged = _; is_logged = refl; after_begin = lit< tt; placed = lit< tt; its_turn = refl };
  done = refl;
}

pub half_legal : AllByRecursion (IsBlock small) (meta_blocks 1 narrow_spelling) → IsLegal narrow_image after_land_one
unfolding IsLegal
half_legal metas = (
  legal_on narrow_image.units after_write_one land_one (lit≤ tt) refl refl refl refl (beginning, refl, lands_one),
  (
    legal_on narrow_image.units after_place_one write_one (lit≤ tt) refl refl refl refl writes_one,
    (
      legal_on narrow_image.units after_take_one place_one (lit≤ tt) refl refl refl refl (beginning, refl, places_one),
      (
        legal_on narrow_image.units after_land_zero take_one (lit≤ tt) refl refl refl refl (beginning, refl, takes_one),
        (
          legal_on narrow_image.units after_write_zero land_zero (lit≤ tt) refl refl refl refl (beginning, refl, lands_zero),
          (
            legal_on narrow_image.units after_place_zero write_zero (lit≤ tt) refl refl refl refl writes_zero,
            (
              legal_on narrow_image.units after_take_zero place_zero (lit≤ tt) refl refl refl refl (beginning, refl, places_zero),
              (
                legal_on narrow_image.units after_land_first take_zero (lit≤ tt) refl refl refl refl (beginning, refl, takes_zero),
                (
                  legal_on narrow_image.units after_write_first land_first (lit≤ tt) refl refl refl refl (beginning, refl, lands_first),
                  (
                    legal_on narrow_image.units after_place_first write_first (lit≤ tt) refl refl refl refl (writes_first metas),
                    (
                      legal_on narrow_image.units after_open place_first (lit≤ tt) refl refl refl refl (beginning, refl, places_first),
                      (
                        legal_on narrow_image.units after_begin open_line (lit≤ tt) refl refl refl refl (beginning, refl, opens),
                        (
                          legal_on narrow_image.units [] begin_mount (lit≤ tt) refl refl refl refl begins,
                          tt,
                        ),
                      ),
                    ),
                  ),
                ),
              ),
            ),
          ),
        ),
      ),
    ),
  ),
)
