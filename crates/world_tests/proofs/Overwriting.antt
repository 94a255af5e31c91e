-- The steps of the world in which a sector is written again, up to the last landing, each legal.
use Rattle.std.proofs.Common.{◌≡◌, ℕ, ◌<◌, ◌==◌, ◌||◌, not, Bool, true, false, Some, None, Option, [], ◌∷◌, refl, sym, ◌∙◌, subst, arith, lit<, inl, inr}
use Rattle.std.specs.List.{AllByRecursion}
use Rattle.std.proofs.lemmas.List.{length-replicate}
use Rattle.pblk_model.specs.Shape.{small}
use Rattle.pblk_model.specs.Chunk.{IsBlock, free_chunk}
use Rattle.pblk_model.specs.ChunkStep.{Done}
use Rattle.pblk_model.specs.UnitLog.{Answered, Failed}
use Rattle.pblk_model.specs.Marks.{sector_mark}
use Rattle.pblk_model.specs.StartRecord.{written_run}
use Rattle.pblk_model.specs.Contents.{least_missing}
use Rattle.pblk_world.specs.EngineLog.{Opening, placed_on, is_answered}
use Rattle.pblk_world.specs.Lines.{known_image, place_of, is_free_line, has_stripe_left}
use Rattle.pblk_world.specs.Opening.{MayOpen}
use Rattle.pblk_world.specs.Placing.{MayPlace, next_block, is_done_with}
use Rattle.pblk_world.specs.Taking.{MayTake}
use Rattle.pblk_world.specs.Commanding.{MayDo}
use Rattle.pblk_world.specs.Answering.{MayLand, MayLose}
use Rattle.world_tests.specs.Steps.{image, meta_blocks, program_of}
use Rattle.world_tests.specs.Simple.{simple_world}
use Rattle.world_tests.specs.Overwritten.{newer_sector, newer_entry, newer_block, take_newer, newer_taken, newer_stripe, place_newer, newer_placed, fail_newer, newer_failed, lose_newer, newer_lost, last_pad, place_last, last_placed, fail_last, last_failed, lose_last, last_lost, next_start, next_spelling, open_next, next_opened, next_stripe, place_next, next_placed, write_next, next_written, land_next, next_landed, again_stripe, place_again, again_placed, write_again, again_written, land_again, again_landed, third_start, third_spelling, open_third, third_opened, third_stripe, place_third, third_placed, write_third, third_written, land_third}
use Rattle.world_tests.proofs.Knowing.{no_truth, no_both, named, all_in, all_below}
use Rattle.world_tests.proofs.Blocks.{pad_is}
use Rattle.world_tests.proofs.SimpleWorld.{beginning}
use Rattle.world_tests.proofs.FailedWorld.{first_opening}
use Rattle.world_tests.proofs.CollectedWorld.{isnt_named}
use Rattle.pblk_model.proofs.Lists.{all_replicated}
use Rattle.pblk_model.proofs.Tests.{not_true}

pub newer_is : IsBlock small (newer_block 5)
unfolding newer_sector
newer_is = record { size = length-replicate {A = ℕ} 512 8; bytes = all_replicated (λ x. x < 256) 512 8 (lit< tt); lba = lit< tt; position = lit< tt }

pub takes_newer : MayTake image (named (take_newer 5) simple_world) (newer_entry 5) (sector_mark 5 1)
takes_newer = record { position = refl; position_number = lit< tt; lba = lit< tt; marked = refl; block = newer_is }

pub places_newer : MayPlace image (named (place_newer 5) (newer_taken 5)) (newer_stripe 5)
places_newer = record {
  in_range = lit< tt;
  chunk = refl;
  opening = first_opening;
  is_open = refl;
  idle = all_in (is_answered (named (place_newer 5) (newer_taken 5) 0)) (placed_on (named (place_newer 5) (newer_taken 5) 0) 0) refl;
  kind = inr (inl (record { next = record { not_failed = refl; in_order = refl }; within = lit< tt; start_landed = refl; has_entry = lit< tt; blocks = refl }));
}

pub fails_newer : MayDo image (named (fail_newer 5) (newer_placed 5)) 0 (program_of (newer_stripe 5) (Failed 1))
fails_newer = record {
  chunks = _;
  has_chunks = refl;
  event = record { found = _; there = refl; blocks = (newer_is, (pad_is, (pad_is, (pad_is, tt)))); outcome = (refl, lit< tt) };
  stopped = λ e. no_truth e;
  command = record { placed = _; earliest = refl; its_chunk = refl; its_place = refl; its_blocks = refl };
}

pub loses_newer : MayLose (named lose_newer (newer_failed 5)) 0 1
loses_newer = record {
  program = program_of (newer_stripe 5) (Failed 1);
  new = record { logged = _; is_known = refl; event = refl; once = isnt_named 1 (0 ∷ []) refl };
  stripe = record { program = refl; logged = _; is_logged = refl; after_begin = lit< tt; placed = lit< tt; its_turn = refl };
  landed_before = 1;
  failed = refl;
}

-- at an address there isn't the next block of a chunk in which more may be placed
abbrev is_past_by : Option (ℕ × ℕ) → Bool
is_past_by None = true
is_past_by (Some p) = not (p.1 == next_block small (named place_last (newer_lost 5) 0) first_opening p.0) || is_done_with small
    (named place_last (newer_lost 5) 0) first_opening p.0

same_or : (n : ℕ) (b : Bool) → (not (n == n) || b) ≡ true → b ≡ true
same_or n true e = refl
same_or n false e = grind arith

before_last : (a unit : ℕ) → a < 12 → place_of (known_image image (named place_last (newer_lost 5))) 0 a ≡ Some
    (unit, next_block small (named place_last (newer_lost 5) 0) first_opening unit)
    → is_done_with small (named place_last (newer_lost 5) 0) first_opening unit ≡ true
before_last a unit h e = same_or (next_block small (named place_last (newer_lost 5) 0) first_opening unit)
    (is_done_with small (named place_last (newer_lost 5) 0) first_opening unit)
    (subst (λ o. is_past_by o ≡ true) e (all_below (λ n. is_past_by (place_of (known_image image (named place_last (newer_lost 5))) 0 n)) 12 refl a h))

pub places_last : MayPlace image (named place_last (newer_lost 5)) last_pad
places_last = record {
  in_range = lit< tt;
  chunk = refl;
  opening = first_opening;
  is_open = refl;
  idle = all_in (is_answered (named place_last (newer_lost 5) 0)) (placed_on (named place_last (newer_lost 5) 0) 1) refl;
  kind = inr (inr (inr (record { failed = refl; chunk_left = refl; at = refl; address = 12; place = refl; in_order = before_last; blocks = refl })));
}

pub fails_last : MayDo image (named fail_last (last_placed 5)) 1 (program_of last_pad (Failed 0))
fails_last = record {
  chunks = _;
  has_chunks = refl;
  event = record { found = _; there = refl; blocks = (pad_is, (pad_is, (pad_is, (pad_is, tt)))); outcome = (refl, lit< tt) };
  stopped = λ e. no_truth e;
  command = record { placed = _; earliest = refl; its_chunk = refl; its_place = refl; its_blocks = refl };
}

pub loses_last : MayLose (named lose_last (last_failed 5)) 1 1
loses_last = record {
  program = program_of last_pad (Failed 0);
  new = record { logged = _; is_known = refl; event = refl; once = isnt_named 1 (0 ∷ []) refl };
  stripe = record { program = refl; logged = _; is_logged = refl; after_begin = lit< tt; placed = lit< tt; its_turn = refl };
  landed_before = 0;
  failed = refl;
}

none_left : (line : ℕ) → line < 8 → has_stripe_left image (named open_next (last_lost 5)) line ≡ false
none_left line h = not_true (has_stripe_left image (named open_next (last_lost 5)) line)
    (all_below (λ n. not (has_stripe_left image (named open_next (last_lost 5)) n)) 8 refl line h)

pub opens_next : MayOpen image (named open_next (last_lost 5)) beginning 1 next_start
unfolding written_run least_missing
opens_next = record {
  in_range = lit< tt;
  is_free = refl;
  is_first = λ other h. not_true (is_free_line image (named open_next (last_lost 5)) other)
      (all_below (λ n. not (is_free_line image (named open_next (last_lost 5)) n)) 1 refl other h);
  one_other = λ m n h _ e _. no_both (has_stripe_left image (named open_next (last_lost 5)) m) (none_left m h) e;
  own_line = refl;
  own_width = refl;
  own_capacity = refl;
  seq = refl;
  first_seq = refl;
  front = refl;
  rows = refl;
  seq_number = lit< tt;
  front_number = lit< tt;
}

abbrev pub next_opening : Opening
next_opening = record { number = 12; line = 1; start = next_start; knows = 12 ∷ 2 ∷ 2 ∷ [] }

pub places_next : MayPlace image (named place_next (next_opened 5)) next_stripe
unfolding next_spelling
places_next = record {
  in_range = lit< tt;
  chunk = refl;
  opening = next_opening;
  is_open = refl;
  idle = all_in (is_answered (named place_next (next_opened 5) 0)) (placed_on (named place_next (next_opened 5) 0) 0) refl;
  kind = inl (record { next = record { not_failed = refl; in_order = refl }; within = lit< tt; blocks = refl });
}

pub writes_next : AllByRecursion (IsBlock small) (meta_blocks 2 next_spelling) → MayDo image (named write_next (next_placed 5)) 0
    (program_of next_stripe (Answered Done))
writes_next metas = record {
  chunks = _;
  has_chunks = refl;
  event = record { found = free_chunk; there = refl; blocks = metas; outcome = (tt, (refl, refl)) };
  stopped = λ e. no_truth e;
  command = record { placed = _; earliest = refl; its_chunk = refl; its_place = refl; its_blocks = refl };
}

pub lands_next : MayLand (named land_next (next_written 5)) 0 2
lands_next = record {
  program = program_of next_stripe (Answered Done);
  new = record { logged = _; is_known = refl; event = refl; once = isnt_named 2 (0 ∷ 1 ∷ []) refl };
  stripe = record { program = refl; logged = _; is_logged = refl; after_begin = lit< tt; placed = lit< tt; its_turn = refl };
  done = refl;
}

pub places_again : MayPlace image (named (place_again 5) (next_landed 5)) (again_stripe 5)
places_again = record {
  in_range = lit< tt;
  chunk = refl;
  opening = next_opening;
  is_open = refl;
  idle = all_in (is_answered (named (place_again 5) (next_landed 5) 0)) (placed_on (named (place_again 5) (next_landed 5) 0) 1) refl;
  kind = inr (inl (record { next = record { not_failed = refl; in_order = refl }; within = lit< tt; start_landed = refl; has_entry = lit< tt; blocks = refl }));
}

pub writes_again : MayDo image (named (write_again 5) (again_placed 5)) 1 (program_of (again_stripe 5) (Answered Done))
writes_again = record {
  chunks = _;
  has_chunks = refl;
  event = record { found = free_chunk; there = refl; blocks = (newer_is, (pad_is, (pad_is, (pad_is, tt)))); outcome = (tt, (refl, refl)) };
  stopped = λ e. no_truth e;
  command = record { placed = _; earliest = refl; its_chunk = refl; its_place = refl; its_blocks = refl };
}

pub lands_again : MayLand (named land_again (again_written 5)) 1 2
lands_again = record {
  program = program_of (again_stripe 5) (Answered Done);
  new = record { logged = _; is_known = refl; event = refl; once = isnt_named 2 (0 ∷ 1 ∷ []) refl };
  stripe = record { program = refl; logged = _; is_logged = refl; after_begin = lit< tt; placed = lit< tt; its_turn = refl };
  done = refl;
}

is_one : (n : ℕ) (b : Bool) → b ≡ true → (not b || (n == 1)) ≡ true → n ≡ 1
is_one n true e f = grind arith
is_one n false e f = no_truth e

next_is_left : (line : ℕ) → line < 8 → has_stripe_left image (named open_third (again_landed 5)) line ≡ true → line ≡ 1
next_is_left line h e = is_one line (has_stripe_left image (named open_third (again_landed 5)) line) e
    (all_below (λ n. not (has_stripe_left image (named open_third (again_landed 5)) n) || (n == 1)) 8 refl line h)

pub opens_third : MayOpen image (named open_third (again_landed 5)) beginning 2 third_start
unfolding written_run least_missing
opens_third = record {
  in_range = lit< tt;
  is_free = refl;
  is_first = λ other h. not_true (is_free_line image (named open_third (again_landed 5)) other)
      (all_below (λ n. not (is_free_line image (named open_third (again_landed 5)) n)) 2 refl other h);
  one_other = λ m n h g e f. next_is_left m h e ∙ sym (next_is_left n g f);
  own_line = refl;
  own_width = refl;
  own_capacity = refl;
  seq = refl;
  first_seq = refl;
  front = refl;
  rows = refl;
  seq_number = lit< tt;
  front_number = lit< tt;
}

abbrev pub third_opening : Opening
third_opening = record { number = 17; line = 2; start = third_start; knows = 17 ∷ 3 ∷ 3 ∷ [] }

pub places_third : MayPlace image (named place_third (third_opened 5)) third_stripe
unfolding third_spelling
places_third = record {
  in_range = lit< tt;
  chunk = refl;
  opening = third_opening;
  is_open = refl;
  idle = all_in (is_answered (named place_third (third_opened 5) 0)) (placed_on (named place_third (third_opened 5) 0) 0) refl;
  kind = inl (record { next = record { not_failed = refl; in_order = refl }; within = lit< tt; blocks = refl });
}

pub writes_third : AllByRecursion (IsBlock small) (meta_blocks 3 third_spelling) → MayDo image (named write_third (third_placed 5)) 0
    (program_of third_stripe (Answered Done))
writes_third metas = record {
  chunks = _;
  has_chunks = refl;
  event = record { found = free_chunk; there = refl; blocks = metas; outcome = (tt, (refl, refl)) };
  stopped = λ e. no_truth e;
  command = record { placed = _; earliest = refl; its_chunk = refl; its_place = refl; its_blocks = refl };
}

pub lands_third : MayLand (named land_third (third_written 5)) 0 3
lands_third = record {
  program = program_of third_stripe (Answered Done);
  new = record { logged = _; is_known = refl; event = refl; once = isnt_named 3 (0 ∷ 1 ∷ 2 ∷ []) refl };
  stripe = record { program = refl; logged = _; is_logged = refl; after_begin = lit< tt; placed = lit< tt; its_turn = refl };
  done = refl;
}
