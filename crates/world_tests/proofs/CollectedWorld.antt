-- The further steps of the world with a freed line, each legal.
use Rattle.std.proofs.Common.{◌≡◌, ℕ, ◌<◌, ◌==◌, not, zero, suc, Bool, true, false, Some, List, [], ◌∷◌, length, refl, sym, subst, arith, lit<, lit≤, inl, inr}
use Rattle.std.specs.Prelude.{slice_get, IsTrue}
use Rattle.std.specs.List.{AllByRecursion, Contains, list_all}
use Rattle.std.specs.Option.{option_and_then}
use Rattle.std.proofs.lemmas.Option.{none-some, same_Some}
use Rattle.pblk_model.specs.declared.chunk.ChunkState.TheVariants as states
use Rattle.pblk_model.specs.Shape.{small}
use Rattle.pblk_model.specs.Chunk.{Block, Chunk, IsBlock, free_chunk}
use Rattle.pblk_model.specs.ChunkStep.{Done}
use Rattle.pblk_model.specs.UnitLog.{Answered}
use Rattle.pblk_model.specs.Marks.{sector_mark, void_mark, pad_block}
use Rattle.pblk_model.specs.StartRecord.{StartRecord, written_run, start_bytes, start_fits}
use Rattle.pblk_model.specs.Records.{Record, bears}
use Rattle.pblk_model.specs.Contents.{least_missing}
use Rattle.pblk_world.specs.World.{Logs}
use Rattle.pblk_world.specs.EngineLog.{Opening, Placed, placed_on, stripes_of, has_landed, is_answered}
use Rattle.pblk_world.specs.Lines.{is_free_line, has_stripe_left}
use Rattle.pblk_world.specs.Opening.{MayOpen}
use Rattle.pblk_world.specs.Placing.{MayPlace}
use Rattle.pblk_world.specs.Taking.{IsLatest, MayTake}
use Rattle.pblk_world.specs.Commanding.{MayDo}
use Rattle.pblk_world.specs.Answering.{MayLand, MayNoteReset}
use Rattle.pblk_world.specs.Freeing.{IsCountedRecord, MayFree}
use Rattle.pblk_world.specs.Legal.{IsLegal}
use Rattle.world_tests.specs.Steps.{image, meta_blocks, program_of, sector, sector_block}
use Rattle.world_tests.specs.Simple.{start, spelling}
use Rattle.world_tests.specs.Collected.{pad_lost, second_start, second_spelling, open_second, second_opened, second_stripe, place_second, second_placed, write_second, second_written, land_second, second_landed, free_first, first_freed, second_data, place_sector, sector_placed, write_sector, sector_written, land_sector, sector_landed, reset_event, reset_chunk, chunk_reset, note_reset, reset_noted, source, copy, take_copy, copy_taken, take_stale, collected_world}
use Rattle.world_tests.proofs.Knowing.{no_truth, no_both, named, step_legal, all_in, all_below}
use Rattle.world_tests.proofs.Blocks.{sector_is, pad_is, metas_are}
use Rattle.world_tests.proofs.SimpleWorld.{beginning, metas_written}
use Rattle.world_tests.proofs.FailedWorld.{first_opening, pad_lost_legal}
use Rattle.pblk_model.proofs.Tests.{not_true}

first_isnt_free : (line : ℕ) → line < 1 → is_free_line image (named open_second pad_lost) line ≡ false
unfolding written_run
first_isnt_free zero h = refl
first_isnt_free (suc line) h = absurd (omega arith)

none_left : (line : ℕ) → line < 8 → has_stripe_left image (named open_second pad_lost) line ≡ false
none_left line h = not_true (has_stripe_left image (named open_second pad_lost) line)
    (all_below (λ n. not (has_stripe_left image (named open_second pad_lost) n)) 8 refl line h)

isnt : (n : ℕ) → not (n == n) ≡ true → ⊥
isnt n e = grind arith

opens_second : MayOpen image (named open_second pad_lost) beginning 1 second_start
unfolding written_run least_missing
opens_second = record {
  in_range = lit< tt;
  is_free = refl;
  is_first = first_isnt_free;
  one_other = λ m n h _ e _. no_both (has_stripe_left image (named open_second pad_lost) m) (none_left m h) e;
  own_line = refl;
  own_width = refl;
  own_capacity = refl;
  seq = refl;
  first_seq = refl;
  front = refl;
  rows = refl;
  seq_number = lit< tt;
  front_number = lit< tt;
}

abbrev second_opening : Opening
second_opening = record { number = 7; line = 1; start = second_start; knows = 7 ∷ 1 ∷ 1 ∷ [] }

places_second : MayPlace image (named place_second second_opened) second_stripe
unfolding second_spelling
places_second = record {
  in_range = lit< tt;
  chunk = refl;
  opening = second_opening;
  is_open = refl;
  idle = all_in (is_answered (named place_second second_opened 0)) (placed_on (named place_second second_opened 0) 0) refl;
  kind = inl (record { next = record { not_failed = refl; in_order = refl }; within = lit< tt; blocks = refl });
}

writes_second : AllByRecursion (IsBlock small) (meta_blocks 2 second_spelling) → MayDo image (named write_second second_placed) 0
    (program_of second_stripe (Answered Done))
writes_second metas = record {
  chunks = _;
  has_chunks = refl;
  event = record { found = free_chunk; there = refl; blocks = metas; outcome = (tt, (refl, refl)) };
  stopped = λ e. no_truth e;
  command = record { placed = _; earliest = refl; its_chunk = refl; its_place = refl; its_blocks = refl };
}

-- an event that isn't named
abbrev pub are_not : ℕ → List ℕ → Bool
are_not n xs = list_all (λ m. not (m == n)) xs

pub isnt_named : (n : ℕ) (xs : List ℕ) → are_not n xs ≡ true → ¬ Contains xs n
isnt_named n xs e h = isnt n (all_in (λ m. not (m == n)) xs e n h)

lands_second : MayLand (named land_second second_written) 0 1
lands_second = record {
  program = program_of second_stripe (Answered Done);
  new = record { logged = _; is_known = refl; event = refl; once = isnt_named 1 (0 ∷ []) refl };
  stripe = record { program = refl; logged = _; is_logged = refl; after_begin = lit< tt; placed = lit< tt; its_turn = refl };
  done = refl;
}

-- The free of line 0: nothing in it counts.

abbrev freeing : Logs
freeing = named free_first second_landed

pads_of : (column block : ℕ) (b : Block) → option_and_then (λ (c : Chunk). slice_get c.blocks block)
    (slice_get (record { state = states.Closed; blocks = [] } ∷ record { state = states.Closed; blocks = pad_block small ∷ pad_block small ∷ [] } ∷ [])
    column) ≡ Some b
    → pad_block small ≡ b
pads_of zero block b e = absurd (none-some b e)
pads_of (suc zero) zero b e = same_Some (pad_block small) b e
pads_of (suc zero) (suc zero) b e = same_Some (pad_block small) b e
pads_of (suc zero) (suc (suc block)) b e = absurd (none-some b e)
pads_of (suc (suc column)) block b e = absurd (none-some b e)

pads_bear_nothing : (seq a : ℕ) (r : Record) → bears small 0 seq a (pad_block small) (pad_block small).mark ≡ Some r → ⊥
pads_bear_nothing seq a r e = none-some r e

none_counts : {X : Type 0} (r : Record) → IsCountedRecord image freeing 0 r → X
none_counts r (inl h) = no_both (has_landed (freeing 0) h.placed) (none_lands h.placed h.of_opening) h.landed
  where
    none_lands : (p : Placed) → Contains (stripes_of (freeing 0) first_opening) p → has_landed (freeing 0) p ≡ false
    none_lands p there = not_true (has_landed (freeing 0) p) (all_in (λ q. not (has_landed (freeing 0) q)) (stripes_of (freeing 0) first_opening) refl p there)
none_counts r (inr h) = absurd (pads_bear_nothing 1 r.at r (subst (λ b. bears small 0 1 r.at b b.mark ≡ Some r) (sym (pads_of _ _ h.block h.written)) h.bears))

frees_first : MayFree image freeing 0
unfolding written_run
frees_first = record {
  in_range = lit< tt;
  seq = 1;
  has_seq = refl;
  answered = all_in (is_answered (freeing 0)) (stripes_of (freeing 0) first_opening) refl;
  newest = second_start;
  is_newest = refl;
  older = lit< tt;
  below_front = λ r h. none_counts r h;
  replaced = λ r lba h e. none_counts r h;
  over = refl;
}

places_sector : MayPlace image (named place_sector first_freed) second_data
places_sector = record {
  in_range = lit< tt;
  chunk = refl;
  opening = second_opening;
  is_open = refl;
  idle = all_in (is_answered (named place_sector first_freed 0)) (placed_on (named place_sector first_freed 0) 1) refl;
  kind = inr (inl (record { next = record { not_failed = refl; in_order = refl }; within = lit< tt; start_landed = refl; has_entry = lit< tt; blocks = refl }));
}

writes_sector : MayDo image (named write_sector sector_placed) 1 (program_of second_data (Answered Done))
writes_sector = record {
  chunks = _;
  has_chunks = refl;
  event = record { found = free_chunk; there = refl; blocks = (sector_is 0 (lit< tt), (pad_is, (pad_is, (pad_is, tt)))); outcome = (tt, (refl, refl)) };
  stopped = λ e. no_truth e;
  command = record { placed = _; earliest = refl; its_chunk = refl; its_place = refl; its_blocks = refl };
}

lands_sector : MayLand (named land_sector sector_written) 1 1
lands_sector = record {
  program = program_of second_data (Answered Done);
  new = record { logged = _; is_known = refl; event = refl; once = isnt_named 1 (0 ∷ []) refl };
  stripe = record { program = refl; logged = _; is_logged = refl; after_begin = lit< tt; placed = lit< tt; its_turn = refl };
  done = refl;
}

resets_chunk : MayDo image (named reset_chunk sector_landed) 0 reset_event
resets_chunk = record {
  chunks = _;
  has_chunks = refl;
  event = record { found = record { state = states.Closed; blocks = [] }; there = refl; blocks = tt; outcome = (tt, (refl, refl)) };
  stopped = λ e. no_truth e;
  command = record { line = refl; used = inl tt };
}

notes_reset : MayNoteReset (named note_reset chunk_reset) 0 2
notes_reset = record {
  reset = reset_event;
  new = record { logged = _; is_known = refl; event = refl; once = isnt_named 2 (0 ∷ 1 ∷ []) refl };
  is_reset = refl;
  not_stopped = refl;
}

pub copy_is_latest : IsLatest image (named take_copy reset_noted) 5 source (sector_block 0)
copy_is_latest = record {
  place = record {
    position = refl;
    placed = _;
    is_placed = (3, lit< tt, refl);
    landed = refl;
    line = refl;
    not_freed = refl;
    block = 0;
    entry = refl;
    place = refl;
  };
  there = refl;
  bears = refl;
}

takes_copy : MayTake image (named take_copy reset_noted) (copy 1) (sector_mark 5 1)
takes_copy = record {
  position = refl;
  position_number = lit< tt;
  lba = lit< tt;
  marked = inl (record { block = sector_block 0; latest = copy_is_latest; sector = refl; names_sector = refl });
  block = sector_is 1 (lit< tt);
}

void_is : IsBlock small (record { sector = sector; mark = void_mark 2 })
void_is = let b : IsBlock small (sector_block 0) = sector_is 0 (lit< tt) in record { size = b.size; bytes = b.bytes; lba = lit< tt; position = lit< tt }

takes_stale : MayTake image (named take_stale copy_taken) (copy 2) (void_mark 2)
takes_stale = record {
  position = refl;
  position_number = lit< tt;
  lba = lit< tt;
  marked = inr (record { stale = λ block h. let old : 0 ≡ 1 = h.place.position in omega arith; names_none = refl });
  block = void_is;
}

-- They are legal by the prefixes that they name.

first_freed_legal : AllByRecursion (IsBlock small) (meta_blocks 1 spelling) → AllByRecursion (IsBlock small) (meta_blocks 2 second_spelling)
    → IsLegal image first_freed
unfolding IsLegal
first_freed_legal metas seconds = (
  step_legal second_landed free_first (lit≤ tt) refl refl refl refl (beginning, refl, frees_first),
  (
    step_legal second_written land_second (lit≤ tt) refl refl refl refl (beginning, refl, lands_second),
    (
      step_legal second_placed write_second (lit≤ tt) refl refl refl refl (writes_second seconds),
      (
        step_legal second_opened place_second (lit≤ tt) refl refl refl refl (beginning, refl, places_second),
        (
          step_legal pad_lost open_second (lit≤ tt) refl refl refl refl (beginning, refl, opens_second),
          pad_lost_legal metas,
        ),
      ),
    ),
  ),
)

collected_legal : AllByRecursion (IsBlock small) (meta_blocks 1 spelling) → AllByRecursion (IsBlock small) (meta_blocks 2 second_spelling)
    → IsLegal image collected_world
unfolding IsLegal
collected_legal metas seconds = (
  step_legal copy_taken take_stale (lit≤ tt) refl refl refl refl (beginning, refl, takes_stale),
  (
    step_legal reset_noted take_copy (lit≤ tt) refl refl refl refl (beginning, refl, takes_copy),
    (
      step_legal chunk_reset note_reset (lit≤ tt) refl refl refl refl (beginning, refl, notes_reset),
      (
        step_legal sector_landed reset_chunk (lit≤ tt) refl refl refl refl resets_chunk,
        (
          step_legal sector_written land_sector (lit≤ tt) refl refl refl refl (beginning, refl, lands_sector),
          (
            step_legal sector_placed write_sector (lit≤ tt) refl refl refl refl writes_sector,
            (
              step_legal first_freed place_sector (lit≤ tt) refl refl refl refl (beginning, refl, places_sector),
              first_freed_legal metas seconds,
            ),
          ),
        ),
      ),
    ),
  ),
)

seconds_written : length (start_bytes small second_start) ≡ 2048 → AllByRecursion (λ x. x < 256) (start_bytes small second_start)
    → AllByRecursion (IsBlock small) (meta_blocks 2 second_spelling)
unfolding second_spelling
seconds_written long each = metas_are 2 (lit< tt) (start_bytes small second_start) long each

pub legal_by : ((r : StartRecord) → IsTrue (start_fits small r.line 2 r) → length (start_bytes small r) ≡ 2048)
    → ((r : StartRecord) → AllByRecursion (λ x. x < 256) (start_bytes small r)) → IsLegal image collected_world
legal_by long each = collected_legal (metas_written (long start refl) (each start)) (seconds_written (long second_start refl) (each second_start))
