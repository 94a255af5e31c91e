-- The worlds with a stray line and with a stop are legal, and the wrong ones beside them aren't.
use Rattle.std.proofs.Common.{◌≡◌, ℕ, ◌-◌, ◌^◌, ◌≢◌, ◌⊎◌, true, false, Some, List, [], ◌∷◌, replicate, refl, sym, ap, ◌∙◌, subst, arith, lit<, lit≤, inl, inr}
use Rattle.std.specs.Prelude.{slice_get}
use Rattle.std.specs.List.{AllByRecursion}
use Rattle.std.proofs.lemmas.Option.{same_Some}
use Rattle.pblk_model.specs.declared.chunk.ChunkState.TheVariants as states
use Rattle.pblk_model.specs.Shape.{small}
use Rattle.pblk_model.specs.Bytes.{zeros}
use Rattle.pblk_model.specs.Chunk.{Block, Chunk, IsBlock, free_chunk}
use Rattle.pblk_model.specs.UnitLog.{UnitOutcome, Answered, Failed, Stopped}
use Rattle.pblk_model.specs.Found.{IsUsed}
use Rattle.pblk_model.specs.Marks.{sector_mark, pad_block}
use Rattle.pblk_model.specs.StartRecord.{written_run}
use Rattle.pblk_model.specs.Contents.{least_missing}
use Rattle.pblk_world.specs.EngineLog.{Begun}
use Rattle.pblk_world.specs.Opening.{MayBegin, MayOpen}
use Rattle.pblk_world.specs.Taking.{MayTake}
use Rattle.pblk_world.specs.Commanding.{MayDo}
use Rattle.pblk_world.specs.Answering.{MayNoteReset, MayOfferAgain}
use Rattle.pblk_world.specs.Legal.{IsLegal}
use Rattle.world_tests.specs.Steps.{image, meta_blocks, program_of}
use Rattle.world_tests.specs.Simple.{entry, start, start_stripe, start_placed, spelling}
use Rattle.world_tests.specs.Stray.{stray_image, pad_event, pad_to_end, padded_world, begin_with, begun_stray, reset_of, reset_stray, stray_reset, note_stray, stray_noted, take_after, taken_after, open_after, stray_world, pads_part_of_a_stripe, pads_with_a_sector, leaves_a_stray_out, blank_line_is_reset, stray_is_reset_twice, stray_is_opened_before_its_reset}
use Rattle.world_tests.specs.Halted.{stop_start, start_stopped, offer_again, offered_again, stop_again, halted_world, stopped_program_lands_more, stripe_beside_a_stopped_one}
use Rattle.world_tests.proofs.Knowing.{no_truth, named, step_legal, legal_on, differ}
use Rattle.world_tests.proofs.Blocks.{none_in, free_not_open, sector_is, pad_is}
use Rattle.world_tests.proofs.SimpleWorld.{start_placed_legal, beginning as simple_beginning}
use Rattle.pblk_model.proofs.Lists.{all_replicated, nil_cons}

-- A stray line.

pads_to_end : MayDo stray_image (named pad_to_end []) 0 (pad_event (replicate 4 (pad_block small)))
pads_to_end = record {
  chunks = _;
  has_chunks = refl;
  event = record { found = _; there = refl; blocks = (pad_is, (pad_is, (pad_is, (pad_is, tt)))); outcome = (tt, (refl, refl)) };
  stopped = λ e. no_truth e;
  command = record { is_open = refl; at_pointer = refl; pads = (refl, (refl, (refl, (refl, tt)))); whole = refl };
}

closed_not_open : states.Closed ≢ states.Open
closed_not_open e = grind arith

begins : MayBegin stray_image (named (begin_with (0 ∷ [])) padded_world) (record { first = 0; seq = 1; strays = 0 ∷ [] })
unfolding written_run zeros
begins = record {
  is_first = refl;
  no_open_chunk = (
    (closed_not_open, all_replicated (λ c. c.state ≢ states.Open) 7 free_chunk free_not_open),
    (all_replicated (λ c. c.state ≢ states.Open) 8 free_chunk free_not_open, tt),
  );
  first = refl;
  seq = refl;
  strays = refl;
}

abbrev beginning : Begun
beginning = record { beginning = record { first = 0; seq = 1; strays = 0 ∷ [] }; knows = 0 ∷ 1 ∷ 0 ∷ [] }

resets_stray : MayDo stray_image (named reset_stray begun_stray) 0 (reset_of 0)
resets_stray = record {
  chunks = _;
  has_chunks = refl;
  event = record { found = record { state = states.Closed; blocks = replicate 24 (pad_block small) }; there = refl; blocks = tt; outcome = (tt, (refl, refl)) };
  stopped = λ e. no_truth e;
  command = record { line = refl; used = inl tt };
}

notes_stray : MayNoteReset (named note_stray stray_reset) 0 1
notes_stray = record {
  reset = reset_of 0;
  new = record { logged = _; is_known = refl; event = refl; once = λ h. none_in 1 h };
  is_reset = refl;
  not_stopped = refl;
}

takes_after : MayTake stray_image (named take_after stray_noted) entry (sector_mark 5 0)
takes_after = record { position = refl; position_number = lit< tt; lba = lit< tt; marked = refl; block = sector_is 0 (lit< tt) }

opens_after : MayOpen stray_image (named open_after taken_after) beginning 0 start
unfolding written_run least_missing zeros
opens_after = record {
  in_range = lit< tt;
  is_free = refl;
  is_first = λ other h. absurd (omega arith);
  one_other = λ m n _ _ e _. no_truth e;
  own_line = refl;
  own_width = refl;
  own_capacity = refl;
  seq = refl;
  first_seq = refl;
  front = refl;
  rows = refl;
  seq_number = lit< tt;
  front_number = lit< tt;
}

pub stray_legal : IsLegal stray_image stray_world
unfolding IsLegal
stray_legal = (
  legal_on stray_image.units taken_after open_after (lit≤ tt) refl refl refl refl (beginning, refl, opens_after),
  (
    legal_on stray_image.units stray_noted take_after (lit≤ tt) refl refl refl refl (beginning, refl, takes_after),
    (
      legal_on stray_image.units stray_reset note_stray (lit≤ tt) refl refl refl refl (beginning, refl, notes_stray),
      (
        legal_on stray_image.units begun_stray reset_stray (lit≤ tt) refl refl refl refl resets_stray,
        (
          legal_on stray_image.units padded_world (begin_with (0 ∷ [])) (lit≤ tt) refl refl refl refl begins,
          (legal_on stray_image.units [] pad_to_end (lit≤ tt) refl refl refl refl pads_to_end, tt),
        ),
      ),
    ),
  ),
)

pub no_part : ¬ IsLegal stray_image pads_part_of_a_stripe
unfolding IsLegal
no_part h = differ 2 0 refl h.0.allowed.command.whole

pub no_sector_pad : ¬ IsLegal stray_image pads_with_a_sector
unfolding IsLegal
no_sector_pad h = differ 5 (2 ^ 64 - 1) refl (ap (λ (b : Block). b.mark.lba) h.0.allowed.command.pads.0)

unused : IsUsed states.Free → ⊥
unused h = h

pub no_missing_stray : ¬ IsLegal stray_image leaves_a_stray_out
unfolding IsLegal written_run zeros
no_missing_stray h = nil_cons 0 [] h.0.allowed.strays

pub no_reset_of_blank : ¬ IsLegal stray_image blank_line_is_reset
unfolding IsLegal
no_reset_of_blank h = no_truth h.0.allowed.command.line

pub no_second_reset : ¬ IsLegal stray_image stray_is_reset_twice
unfolding IsLegal
no_second_reset h = go h.0.allowed.chunks h.0.allowed.event.found h.0.allowed.has_chunks h.0.allowed.event.there h.0.allowed.command.used
  where
    go : (chunks : List Chunk) (found : Chunk) → Some (replicate 8 free_chunk) ≡ Some chunks → slice_get chunks 0 ≡ Some found → IsUsed found.state ⊎
        (false ≡ true) → ⊥
    go chunks found e f (inl used) = unused (subst (λ (c : Chunk). IsUsed c.state)
        (sym (same_Some free_chunk found (ap (λ cs. slice_get cs 0) (same_Some (replicate 8 free_chunk) chunks e) ∙ f))) used)
    go chunks found e f (inr stopped) = no_truth stopped

pub no_open_of_used : ¬ IsLegal stray_image stray_is_opened_before_its_reset
unfolding IsLegal written_run zeros
no_open_of_used h = no_truth h.0.allowed.2.is_free

-- A stop.

stops_start : AllByRecursion (IsBlock small) (meta_blocks 1 spelling) → MayDo image (named stop_start start_placed) 0 (program_of start_stripe (Stopped 1))
stops_start metas = record {
  chunks = replicate 8 free_chunk;
  has_chunks = refl;
  event = record { found = free_chunk; there = refl; blocks = metas; outcome = (refl, lit≤ tt) };
  stopped = λ e. no_truth e;
  command = record { placed = _; earliest = refl; its_chunk = refl; its_place = refl; its_blocks = refl };
}

offers_again : MayOfferAgain (named offer_again start_stopped) 0 0
offers_again = record {
  program = program_of start_stripe (Stopped 1);
  new = record { logged = _; is_known = refl; event = refl; once = λ h. none_in 0 h };
  stripe = record { program = refl; logged = _; is_logged = refl; after_begin = lit< tt; placed = lit< tt; its_turn = refl };
  landed_before = 1;
  stopped = refl;
}

stops_again : AllByRecursion (IsBlock small) (meta_blocks 1 spelling) → MayDo image (named stop_again offered_again) 0 (program_of start_stripe (Stopped 0))
stops_again metas = record {
  chunks = _;
  has_chunks = refl;
  event = record { found = _; there = refl; blocks = metas; outcome = tt };
  stopped = λ e. refl;
  command = record { placed = _; earliest = refl; its_chunk = refl; its_place = refl; its_blocks = refl };
}

pub halted_legal : AllByRecursion (IsBlock small) (meta_blocks 1 spelling) → IsLegal image halted_world
unfolding IsLegal
halted_legal metas = (
  step_legal offered_again stop_again (lit≤ tt) refl refl refl refl (stops_again metas),
  (
    step_legal start_stopped offer_again (lit≤ tt) refl refl refl refl (simple_beginning, refl, offers_again),
    (
      step_legal start_placed stop_start (lit≤ tt) refl refl refl refl (stops_start metas),
      start_placed_legal,
    ),
  ),
)

-- how many multiples landed
landed_of : UnitOutcome → ℕ
landed_of (Answered answer) = 0
landed_of (Failed k) = k
landed_of (Stopped k) = k

pub no_more_lands : ¬ IsLegal image stopped_program_lands_more
unfolding IsLegal landed_of
no_more_lands h = differ 1 0 refl (ap landed_of (h.0.allowed.stopped refl))

pub no_stripe_beside : ¬ IsLegal image stripe_beside_a_stopped_one
unfolding IsLegal
no_stripe_beside h = no_truth (h.0.allowed.2.idle _ (0, lit< tt, refl))
