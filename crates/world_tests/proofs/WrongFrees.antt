-- A line isn't freed while it has the only record of a sector, nor while a position of it is above the newest front.
use Rattle.std.proofs.Common.{◌≡◌, ℕ, ◌<◌, ◌≢◌, ◌==◌, Bool, true, false, Some, None, List, [], ◌∷◌, refl, ap, ◌∙◌, arith, lit<, inl, inr, if◌then◌else◌}
use Rattle.std.specs.List.{AllByRecursion}
use Rattle.std.proofs.lemmas.Option.{none-some, same_Some}
use Rattle.pblk_model.specs.Shape.{small}
use Rattle.pblk_model.specs.Chunk.{Block}
use Rattle.pblk_model.specs.StartRecord.{StartRecord, written_run}
use Rattle.pblk_model.specs.Records.{Record, bears}
use Rattle.pblk_world.specs.World.{Logs}
use Rattle.pblk_world.specs.EngineLog.{Opening, LineLife, AsFound, Opened, life_of, Placed, stripes_of}
use Rattle.pblk_world.specs.Freeing.{IsLandedRecord, IsWrittenRecord, HasLandedIn, IsReplaced, MayFree}
use Rattle.pblk_world.specs.Legal.{IsLegal}
use Rattle.world_tests.specs.Steps.{image, sector}
use Rattle.world_tests.specs.Simple.{start}
use Rattle.world_tests.specs.Overwritten.{newer_sector, newer_block, next_start, third_start, next_landed, third_landed, free_old, free_early, last_record_is_freed, position_is_above_the_front}
use Rattle.world_tests.proofs.Knowing.{named, differ}
use Rattle.world_tests.proofs.Blocks.{none_in}
use Rattle.world_tests.proofs.FailedWorld.{first_opening}
use Rattle.world_tests.proofs.OverwrittenWorld.{each_get, each_in}

-- The second entry's position isn't below the front of the next line's start record.

abbrev early : Logs
early = named free_early (next_landed 5)

abbrev high_record : Record
high_record = record { line = 0; seq = 1; at = 8; position = 1; lba = Some 5; sector = newer_sector }

written_high : IsWrittenRecord image early first_opening high_record
written_high = record { block = newer_block 5; written = refl; bears = refl }

isnt_below : (a b : ℕ) → a ≡ b → a < b → ⊥
isnt_below a b e h = omega arith

pub no_high_position : ¬ IsLegal image position_is_above_the_front
unfolding IsLegal written_run
no_high_position h = let f : MayFree image early 0 = h.0.allowed.2 in
    isnt_below 1 f.newest.front (ap (λ (r : StartRecord). r.front) (same_Some next_start f.newest f.is_newest)) (f.below_front high_record (inr written_high))

-- The second entry is of another sector.

abbrev late : Logs
late = named free_old (third_landed 6)

abbrev only_record : Record
only_record = record { line = 0; seq = 1; at = 4; position = 0; lba = Some 5; sector = sector }

only_landed : IsLandedRecord image late first_opening only_record
only_landed = record { placed = _; of_opening = (1, lit< tt, refl); landed = refl; index = 0; block = _; is_block = refl; place = refl; bears = refl }

-- the block bears no record of the sector 5
abbrev BearsAnother : Block → Type 0
BearsAnother b = (line seq a : ℕ) (r : Record) → bears small line seq a b b.mark ≡ Some r → r.lba ≡ Some 5 → ⊥

bears_six : (line seq a : ℕ) (r : Record) → bears small line seq a (newer_block 6) (newer_block 6).mark ≡ Some r → r.lba ≡ Some 5 → ⊥
bears_six line seq a r e f = differ 6 5 refl (same_Some 6 5 (ap (λ (s : Record). s.lba) (same_Some _ r e) ∙ f))

abbrev opening_at : ℕ → ℕ → StartRecord → List ℕ → Opening
opening_at number line r knows = record { number = number; line = line; start = r; knows = knows }

abbrev life_by : ℕ → Bool → Bool → Bool → LineLife
life_by line first next third = if third then Opened (opening_at 17 line third_start (17 ∷ 3 ∷ 3 ∷ []))
    else (if next then Opened (opening_at 12 line next_start (12 ∷ 2 ∷ 2 ∷ []))
    else (if first then Opened (opening_at 2 line start (2 ∷ 0 ∷ 0 ∷ [])) else AsFound))

life_is : (line : ℕ) → life_of (late 0) line ≡ life_by line (0 == line) (1 == line) (2 == line)
life_is line = refl

abbrev Stripes : List Placed → Type 0
Stripes ps = AllByRecursion (λ (p : Placed). AllByRecursion BearsAnother p.stripe.blocks) ps

nothing : (line seq a : ℕ) (r : Record) → None ≡ Some r → r.lba ≡ Some 5 → ⊥
nothing line seq a r e x = none-some r e

third_stripes : (line : ℕ) → Stripes (stripes_of (late 0) (opening_at 17 line third_start (17 ∷ 3 ∷ 3 ∷ [])))
third_stripes line = ((nothing, (nothing, (nothing, (nothing, tt)))), tt)

next_stripes : (line : ℕ) → Stripes (stripes_of (late 0) (opening_at 12 line next_start (12 ∷ 2 ∷ 2 ∷ [])))
next_stripes line = ((nothing, (nothing, (nothing, (nothing, tt)))), ((bears_six, (nothing, (nothing, (nothing, tt)))), tt))

none_of : (o : Opening) (r : Record) → Stripes (stripes_of (late 0) o) → IsLandedRecord image late o r → r.lba ≡ Some 5 → ⊥
none_of o r each l e = each_get BearsAnother l.placed.stripe.blocks
    (each_in (λ (p : Placed). AllByRecursion BearsAnother p.stripe.blocks) (stripes_of (late 0) o) each l.placed l.of_opening)
    l.index l.block l.is_block o.line o.start.seq r.at r l.bears e

none_landed : (line : ℕ) (first next third : Bool) (r : Record) → (0 == line) ≡ first → line ≢ 0 → HasLandedIn image late
    (life_by line first next third) line r → r.lba ≡ Some 5 → ⊥
unfolding written_run
none_landed line first next true r b isnt l e = none_of _ r (third_stripes line) l e
none_landed line first true false r b isnt l e = none_of _ r (next_stripes line) l e
none_landed line true false false r b isnt l e = isnt (grind arith)
none_landed line false false false r b isnt l e = none_in r l.counts

pub no_only_record : ¬ IsLegal image last_record_is_freed
unfolding IsLegal
no_only_record h = go (h.0.allowed.2.replaced only_record 5 (inl only_landed) refl)
  where
    go : IsReplaced image late 0 5 only_record → ⊥
    go x = none_landed x.other (0 == x.other) (1 == x.other) (2 == x.other) x.by refl x.is_other x.landed x.sector
