-- The first steps of the world with a freed line, each legal: the start record of its line fails, and a pad of the other
-- chunk.
use Rattle.std.proofs.Common.{◌≡◌, ℕ, ◌<◌, zero, suc, true, Some, Option, [], ◌∷◌, replicate, refl, ap, subst, arith, lit<, lit≤, inr}
use Rattle.std.specs.List.{AllByRecursion}
use Rattle.std.specs.Option.{option_map_or}
use Rattle.pblk_model.specs.Shape.{small}
use Rattle.pblk_model.specs.Chunk.{IsBlock, free_chunk}
use Rattle.pblk_model.specs.UnitLog.{Failed}
use Rattle.pblk_world.specs.EngineLog.{Opening}
use Rattle.pblk_world.specs.Lines.{known_image, place_of}
use Rattle.pblk_world.specs.Placing.{MayPlace, next_block, is_done_with}
use Rattle.pblk_world.specs.Commanding.{MayDo}
use Rattle.pblk_world.specs.Answering.{MayLose}
use Rattle.pblk_world.specs.Legal.{IsLegal}
use Rattle.world_tests.specs.Steps.{image, meta_blocks, program_of}
use Rattle.world_tests.specs.Simple.{start, start_stripe, start_placed, spelling}
use Rattle.world_tests.specs.Collected.{fail_start, lose_start, start_lost, pad_stripe, place_pad, pad_placed, fail_pad, pad_failed, lose_pad, pad_lost}
use Rattle.world_tests.proofs.Knowing.{no_truth, named, step_legal}
use Rattle.world_tests.proofs.Blocks.{none_in, pad_is}
use Rattle.world_tests.proofs.SimpleWorld.{beginning, start_placed_legal}

fails_start : AllByRecursion (IsBlock small) (meta_blocks 1 spelling) → MayDo image (named fail_start start_placed) 0 (program_of start_stripe (Failed 0))
fails_start metas = record {
  chunks = replicate 8 free_chunk;
  has_chunks = refl;
  event = record { found = free_chunk; there = refl; blocks = metas; outcome = (refl, lit< tt) };
  stopped = λ e. no_truth e;
  command = record { placed = _; earliest = refl; its_chunk = refl; its_place = refl; its_blocks = refl };
}

loses_start : MayLose (named lose_start (fail_start ∷ start_placed)) 0 0
loses_start = record {
  program = program_of start_stripe (Failed 0);
  new = record { logged = _; is_known = refl; event = refl; once = λ h. none_in 0 h };
  stripe = record { program = refl; logged = _; is_logged = refl; after_begin = lit< tt; placed = lit< tt; its_turn = refl };
  landed_before = 0;
  failed = refl;
}

abbrev pub first_opening : Opening
first_opening = record { number = 2; line = 0; start = start; knows = 2 ∷ 0 ∷ 0 ∷ [] }

unit_of : Option (ℕ × ℕ) → ℕ
unit_of o = option_map_or (λ p. p.0) o 0

same_unit : (a b u v : ℕ) → ◌≡◌ {A = Option (ℕ × ℕ)} (Some (a, b)) (Some (u, v)) → a ≡ u
unfolding unit_of
same_unit a b u v e = ap unit_of e

-- the chunk of unit 0, whose address is below 4, is done with
before_pad : (a unit : ℕ) → a < 4 → place_of (known_image image (named place_pad start_lost)) 0 a ≡ Some
    (unit, next_block small (named place_pad start_lost 0) first_opening unit)
    → is_done_with small (named place_pad start_lost 0) first_opening unit ≡ true
before_pad zero unit h e = subst (λ u. is_done_with small (named place_pad start_lost 0) first_opening u ≡ true) (same_unit 0 0 unit _ e) refl
before_pad (suc zero) unit h e = subst (λ u. is_done_with small (named place_pad start_lost 0) first_opening u ≡ true) (same_unit 0 1 unit _ e) refl
before_pad (suc (suc zero)) unit h e = subst (λ u. is_done_with small (named place_pad start_lost 0) first_opening u ≡ true) (same_unit 0 2 unit _ e) refl
before_pad (suc (suc (suc zero))) unit h e = subst (λ u. is_done_with small (named place_pad start_lost 0) first_opening u ≡ true) (same_unit 0 3 unit _ e) refl
before_pad (suc (suc (suc (suc a)))) unit h e = absurd (omega arith)

places_pad : MayPlace image (named place_pad start_lost) pad_stripe
places_pad = record {
  in_range = lit< tt;
  chunk = refl;
  opening = first_opening;
  is_open = refl;
  idle = λ p h. none_in p h;
  kind = inr (inr (inr (record { failed = refl; chunk_left = refl; at = refl; address = 4; place = refl; in_order = before_pad; blocks = refl })));
}

fails_pad : MayDo image (named fail_pad pad_placed) 1 (program_of pad_stripe (Failed 1))
fails_pad = record {
  chunks = replicate 8 free_chunk;
  has_chunks = refl;
  event = record { found = free_chunk; there = refl; blocks = (pad_is, (pad_is, (pad_is, (pad_is, tt)))); outcome = (refl, lit< tt) };
  stopped = λ e. no_truth e;
  command = record { placed = _; earliest = refl; its_chunk = refl; its_place = refl; its_blocks = refl };
}

loses_pad : MayLose (named lose_pad pad_failed) 1 0
loses_pad = record {
  program = program_of pad_stripe (Failed 1);
  new = record { logged = _; is_known = refl; event = refl; once = λ h. none_in 0 h };
  stripe = record { program = refl; logged = _; is_logged = refl; after_begin = lit< tt; placed = lit< tt; its_turn = refl };
  landed_before = 1;
  failed = refl;
}

pub pad_lost_legal : AllByRecursion (IsBlock small) (meta_blocks 1 spelling) → IsLegal image pad_lost
unfolding IsLegal
pad_lost_legal metas = (
  step_legal pad_failed lose_pad (lit≤ tt) refl refl refl refl (beginning, refl, loses_pad),
  (
    step_legal pad_placed fail_pad (lit≤ tt) refl refl refl refl fails_pad,
    (
      step_legal start_lost place_pad (lit≤ tt) refl refl refl refl (beginning, refl, places_pad),
      (
        step_legal (fail_start ∷ start_placed) lose_start (lit≤ tt) refl refl refl refl (beginning, refl, loses_start),
        (
          step_legal start_placed fail_start (lit≤ tt) refl refl refl refl (fails_start metas),
          start_placed_legal,
        ),
      ),
    ),
  ),
)
