-- The first line of that world may be freed, and so the world is legal.
use Rattle.std.proofs.Common.{◌≡◌, ℕ, ◌<◌, ◌⊎◌, zero, suc, Some, None, List, [], ◌∷◌, length, refl, sym, ◌∙◌, subst, arith, lit<, lit≤, inl, inr}
use Rattle.std.specs.Prelude.{slice_get, IsTrue}
use Rattle.std.specs.List.{AllByRecursion, Contains}
use Rattle.std.specs.Option.{option_and_then}
use Rattle.std.proofs.lemmas.Option.{none-some, same_Some}
use Rattle.pblk_model.specs.Shape.{small}
use Rattle.pblk_model.specs.Chunk.{Block, Chunk, IsBlock}
use Rattle.pblk_model.specs.Image.{line_chunks}
use Rattle.pblk_model.specs.StartRecord.{StartRecord, written_run, start_bytes, start_fits}
use Rattle.pblk_model.specs.Records.{Record, bears}
use Rattle.pblk_model.specs.Contents.{least_missing, IsNewer}
use Rattle.pblk_world.specs.World.{Logs, media}
use Rattle.pblk_world.specs.EngineLog.{Placed, stripes_of, is_answered}
use Rattle.pblk_world.specs.Freeing.{IsCountedRecord, IsLandedRecord, IsReplaced, MayFree}
use Rattle.pblk_world.specs.Legal.{IsLegal}
use Rattle.world_tests.specs.Steps.{image, meta_blocks}
use Rattle.world_tests.specs.Simple.{start, spelling, simple_world}
use Rattle.world_tests.specs.Overwritten.{newer_sector, take_newer, newer_taken, place_newer, newer_placed, fail_newer, newer_failed, lose_newer, newer_lost, place_last, last_placed, fail_last, last_failed, lose_last, last_lost, next_start, next_spelling, open_next, next_opened, place_next, next_placed, write_next, next_written, land_next, next_landed, place_again, again_placed, write_again, again_written, land_again, again_landed, third_start, third_spelling, open_third, third_opened, place_third, third_placed, write_third, third_written, land_third, third_landed, free_old, overwritten_world}
use Rattle.world_tests.proofs.Knowing.{named, step_legal, all_in}
use Rattle.world_tests.proofs.Blocks.{metas_are}
use Rattle.world_tests.proofs.SimpleWorld.{beginning, is_legal, metas_written}
use Rattle.world_tests.proofs.FailedWorld.{first_opening}
use Rattle.world_tests.proofs.Overwriting.{takes_newer, places_newer, fails_newer, loses_newer, places_last, fails_last, loses_last, opens_next, next_opening, places_next, writes_next, lands_next, places_again, writes_again, lands_again, opens_third, places_third, writes_third, lands_third}

abbrev freeing : Logs
freeing = named free_old (third_landed 5)

-- A record of the sector 5 at a position below 2, of the first line.
record IsOfSector (r : Record) : Type 0 where
  lba : r.lba ≡ Some 5
  seq : r.seq ≡ 1
  position : (r.position ≡ 0) ⊎ (r.position ≡ 1)

abbrev BearsSector : Block → Type 0
BearsSector b = (a : ℕ) (r : Record) → bears small 0 1 a b b.mark ≡ Some r → IsOfSector r

pub each_get : {X : Type 0} (P : X → Type 0) (xs : List X) → AllByRecursion P xs → (k : ℕ) (x : X) → slice_get xs k ≡ Some x → P x
each_get P [] h k x e = absurd (none-some x e)
each_get P (y ∷ ys) h zero x e = subst P (same_Some y x e) h.0
each_get P (y ∷ ys) h (suc k) x e = each_get P ys h.1 k x e

pub each_in : {X : Type 0} (P : X → Type 0) (xs : List X) → AllByRecursion P xs → (x : X) → Contains xs x → P x
each_in P [] h x there = absurd (let past : there.0 < 0 = there.1 in omega arith)
each_in P (y ∷ ys) h x (zero, inside, is) = subst P is h.0
each_in P (y ∷ ys) h x (suc k, inside, is) = each_in P ys h.1 x (k, omega arith, is)

each_block : (P : Block → Type 0) (cs : List Chunk) → AllByRecursion (λ c. AllByRecursion P c.blocks) cs → (k m : ℕ) (b : Block)
    → option_and_then (λ (c : Chunk). slice_get c.blocks m) (slice_get cs k) ≡ Some b → P b
each_block P [] h k m b e = absurd (none-some b e)
each_block P (c ∷ cs) h zero m b e = each_get P c.blocks h.0 m b e
each_block P (c ∷ cs) h (suc k) m b e = each_block P cs h.1 k m b e

nothing : (r : Record) → None ≡ Some r → IsOfSector r
nothing r e = absurd (none-some r e)

something : (seq position : ℕ) (sector : List ℕ) (a : ℕ) (r : Record) → (seq ≡ 1) → (position ≡ 0) ⊎ (position ≡ 1)
    → Some (record { line = 0; seq = seq; at = a; position = position; lba = Some 5; sector = sector }) ≡ Some r → IsOfSector r
something seq position sector a r is_one is_low e = subst IsOfSector (same_Some
    (record { line = 0; seq = seq; at = a; position = position; lba = Some 5; sector = sector }) r e)
    (record { lba = refl; seq = is_one; position = is_low })

landed_blocks : AllByRecursion (λ (p : Placed). AllByRecursion BearsSector p.stripe.blocks) (stripes_of (freeing 0) first_opening)
landed_blocks = (
  ((λ a r e. nothing r e), ((λ a r e. nothing r e), ((λ a r e. nothing r e), ((λ a r e. nothing r e), tt)))),
  (
    ((λ a r e. something 1 0 _ a r refl (inl refl) e), ((λ a r e. nothing r e), ((λ a r e. nothing r e), ((λ a r e. nothing r e), tt)))),
    (
      ((λ a r e. something 1 1 _ a r refl (inr refl) e), ((λ a r e. nothing r e), ((λ a r e. nothing r e), ((λ a r e. nothing r e), tt)))),
      (
        ((λ a r e. nothing r e), ((λ a r e. nothing r e), ((λ a r e. nothing r e), ((λ a r e. nothing r e), tt)))),
        tt,
      ),
    ),
  ),
)

written_blocks : AllByRecursion (λ (c : Chunk). AllByRecursion BearsSector c.blocks) (line_chunks (media image freeing) 0)
written_blocks = (
  (
    (λ a r e. nothing r e),
    (
      (λ a r e. nothing r e),
      (
        (λ a r e. nothing r e),
        (
          (λ a r e. nothing r e),
          ((λ a r e. something 1 1 _ a r refl (inr refl) e), ((λ a r e. nothing r e), tt)),
        ),
      ),
    ),
  ),
  (
    ((λ a r e. something 1 0 _ a r refl (inl refl) e), ((λ a r e. nothing r e), ((λ a r e. nothing r e), ((λ a r e. nothing r e), tt)))),
    tt,
  ),
)

counted_is : (r : Record) → IsCountedRecord image freeing 0 r → IsOfSector r
counted_is r (inl h) = each_get BearsSector h.placed.stripe.blocks
    (each_in (λ (p : Placed). AllByRecursion BearsSector p.stripe.blocks) (stripes_of (freeing 0) first_opening) landed_blocks h.placed h.of_opening)
    h.index h.block h.is_block r.at r h.bears
counted_is r (inr h) = each_block BearsSector (line_chunks (media image freeing) 0) written_blocks _ _ h.block h.written r.at r h.bears

low : (p : ℕ) → (p ≡ 0) ⊎ (p ≡ 1) → p < 2
low p (inl e) = omega arith
low p (inr e) = omega arith

-- the second entry where it landed
abbrev newer_record : Record
newer_record = record { line = 1; seq = 2; at = 4; position = 1; lba = Some 5; sector = newer_sector }

newer_landed : IsLandedRecord image freeing next_opening newer_record
newer_landed = record { placed = _; of_opening = (1, lit< tt, refl); landed = refl; index = 0; block = _; is_block = refl; place = refl; bears = refl }

newer_than : (r : Record) → r.seq ≡ 1 → (r.position ≡ 0) ⊎ (r.position ≡ 1) → IsNewer r newer_record
newer_than r e (inl f) = inl (omega arith)
newer_than r e (inr f) = inr (f, inl (omega arith))

replaced : (r : Record) (lba : ℕ) → IsCountedRecord image freeing 0 r → r.lba ≡ Some lba → IsReplaced image freeing 0 lba r
unfolding least_missing
replaced r lba h e = record {
  other = 1;
  is_other = λ wrong. omega arith;
  by = newer_record;
  landed = newer_landed;
  sector = sym (counted_is r h).lba ∙ e;
  newer = newer_than r (counted_is r h).seq (counted_is r h).position;
  below_synced = lit< tt;
}

frees_old : MayFree image freeing 0
unfolding written_run
frees_old = record {
  in_range = lit< tt;
  seq = 1;
  has_seq = refl;
  answered = all_in (is_answered (freeing 0)) (stripes_of (freeing 0) first_opening) refl;
  newest = third_start;
  is_newest = refl;
  older = lit< tt;
  below_front = λ r h. low r.position (counted_is r h).position;
  replaced = replaced;
  over = refl;
}

-- It is legal by the prefixes that its steps name.

last_lost_legal : AllByRecursion (IsBlock small) (meta_blocks 1 spelling) → IsLegal image (last_lost 5)
unfolding IsLegal
last_lost_legal metas = (
  step_legal (last_failed 5) lose_last (lit≤ tt) refl refl refl refl (beginning, refl, loses_last),
  (
    step_legal (last_placed 5) fail_last (lit≤ tt) refl refl refl refl fails_last,
    (
      step_legal (newer_lost 5) place_last (lit≤ tt) refl refl refl refl (beginning, refl, places_last),
      (
        step_legal (newer_failed 5) lose_newer (lit≤ tt) refl refl refl refl (beginning, refl, loses_newer),
        (
          step_legal (newer_placed 5) (fail_newer 5) (lit≤ tt) refl refl refl refl fails_newer,
          (
            step_legal (newer_taken 5) (place_newer 5) (lit≤ tt) refl refl refl refl (beginning, refl, places_newer),
            (
              step_legal simple_world (take_newer 5) (lit≤ tt) refl refl refl refl (beginning, refl, takes_newer),
              is_legal metas,
            ),
          ),
        ),
      ),
    ),
  ),
)

again_landed_legal : AllByRecursion (IsBlock small) (meta_blocks 1 spelling) → AllByRecursion (IsBlock small) (meta_blocks 2 next_spelling)
    → IsLegal image (again_landed 5)
unfolding IsLegal
again_landed_legal metas seconds = (
  step_legal (again_written 5) land_again (lit≤ tt) refl refl refl refl (beginning, refl, lands_again),
  (
    step_legal (again_placed 5) (write_again 5) (lit≤ tt) refl refl refl refl writes_again,
    (
      step_legal (next_landed 5) (place_again 5) (lit≤ tt) refl refl refl refl (beginning, refl, places_again),
      (
        step_legal (next_written 5) land_next (lit≤ tt) refl refl refl refl (beginning, refl, lands_next),
        (
          step_legal (next_placed 5) write_next (lit≤ tt) refl refl refl refl (writes_next seconds),
          (
            step_legal (next_opened 5) place_next (lit≤ tt) refl refl refl refl (beginning, refl, places_next),
            (
              step_legal (last_lost 5) open_next (lit≤ tt) refl refl refl refl (beginning, refl, opens_next),
              last_lost_legal metas,
            ),
          ),
        ),
      ),
    ),
  ),
)

overwritten_legal : AllByRecursion (IsBlock small) (meta_blocks 1 spelling) → AllByRecursion (IsBlock small) (meta_blocks 2 next_spelling)
    → AllByRecursion (IsBlock small) (meta_blocks 3 third_spelling) → IsLegal image overwritten_world
unfolding IsLegal
overwritten_legal metas seconds thirds = (
  step_legal (third_landed 5) free_old (lit≤ tt) refl refl refl refl (beginning, refl, frees_old),
  (
    step_legal (third_written 5) land_third (lit≤ tt) refl refl refl refl (beginning, refl, lands_third),
    (
      step_legal (third_placed 5) write_third (lit≤ tt) refl refl refl refl (writes_third thirds),
      (
        step_legal (third_opened 5) place_third (lit≤ tt) refl refl refl refl (beginning, refl, places_third),
        (
          step_legal (again_landed 5) open_third (lit≤ tt) refl refl refl refl (beginning, refl, opens_third),
          again_landed_legal metas seconds,
        ),
      ),
    ),
  ),
)

seconds_written : length (start_bytes small next_start) ≡ 2048 → AllByRecursion (λ x. x < 256) (start_bytes small next_start)
    → AllByRecursion (IsBlock small) (meta_blocks 2 next_spelling)
unfolding next_spelling
seconds_written long each = metas_are 2 (lit< tt) (start_bytes small next_start) long each

thirds_written : length (start_bytes small third_start) ≡ 2048 → AllByRecursion (λ x. x < 256) (start_bytes small third_start)
    → AllByRecursion (IsBlock small) (meta_blocks 3 third_spelling)
unfolding third_spelling
thirds_written long each = metas_are 3 (lit< tt) (start_bytes small third_start) long each

pub legal_by : ((r : StartRecord) → IsTrue (start_fits small r.line 2 r) → length (start_bytes small r) ≡ 2048)
    → ((r : StartRecord) → AllByRecursion (λ x. x < 256) (start_bytes small r)) → IsLegal image overwritten_world
legal_by long each = overwritten_legal (metas_written (long start refl) (each start)) (seconds_written (long next_start refl) (each next_start))
    (thirds_written (long third_start refl) (each third_start))
