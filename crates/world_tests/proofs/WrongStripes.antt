-- The wrong stripes are refused.
use Rattle.std.proofs.Common.{◌≡◌, ℕ, ◌-◌, ◌^◌, ◌<◌, ◌≤◌, ◌⊎◌, nat_lt, Bool, true, false, Some, None, Option, List, [], ◌∷◌, replicate, refl, sym, ap, subst, arith, lit<, inl, inr}
use Rattle.pblk_model.specs.Chunk.{Block}
use Rattle.pblk_model.specs.Shape.{small}
use Rattle.pblk_model.specs.Marks.{pad_block}
use Rattle.pblk_model.specs.Image.{Image}
use Rattle.pblk_world.specs.Events.{Stripe}
use Rattle.pblk_world.specs.World.{Logs}
use Rattle.pblk_world.specs.EngineLog.{Opening, LineLife, AsFound, Opened, Freed}
use Rattle.pblk_world.specs.Placing.{IsStart, IsData, IsEnd, IsPad, MayPlace}
use Rattle.pblk_world.specs.Legal.{IsLegal}
use Rattle.world_tests.specs.Steps.{image, sector_block}
use Rattle.world_tests.specs.Simple.{start_placed, start_landed, data_stripe}
use Rattle.world_tests.specs.Collected.{start_lost}
use Rattle.world_tests.specs.Wrong.{early_data, data_before_start, unit_is_busy, unordered_data, order_is_broken, dropped_data, entry_is_dropped, line_isnt_open, failed_data, data_in_failed_line, chunk_is_anothers}
use Rattle.world_tests.proofs.Knowing.{no_truth, named, differ}
use Rattle.world_tests.proofs.FailedWorld.{first_opening}
use Rattle.pblk_world.proofs.EngineLogLemmas.{opened_same}

abbrev pub opening_or : Opening → LineLife → Opening
opening_or d AsFound = d
opening_or d (Opened o) = o
opening_or d (Freed was knows) = d

-- one of the four kinds of stripe, in this opening
abbrev pub Kind : Image → Logs → Stripe → Opening → Type 0
Kind i logs stripe o = IsStart i logs o stripe ⊎ (IsData i logs o stripe ⊎ (IsEnd i logs o stripe ⊎ IsPad i logs o stripe))

kind_of : (logs : Logs) (stripe : Stripe) (p : MayPlace image logs stripe) → Opened first_opening ≡ Opened p.opening → Kind image logs stripe first_opening
kind_of logs stripe p e = subst (λ o. Kind image logs stripe o) (sym (opened_same first_opening p.opening e)) p.kind

pub too_low : (a b : ℕ) → nat_lt b a ≡ true → a ≤ b → ⊥
too_low a b e h = grind arith

pub too_high : (a b : ℕ) → nat_lt a b ≡ false → a < b → ⊥
too_high a b e h = grind arith

head_or : Block → List Block → Block
head_or d [] = d
head_or d (b ∷ bs) = b

no_early : Kind image (named early_data start_placed) data_stripe first_opening → ⊥
no_early (inl s) = too_high 4 4 refl s.within
no_early (inr (inl s)) = no_truth s.start_landed
no_early (inr (inr (inl s))) = too_low 44 4 refl s.from
no_early (inr (inr (inr s))) = no_truth s.failed

pub no_data_before_start : ¬ IsLegal image data_before_start
unfolding IsLegal
no_data_before_start h = no_early (kind_of (named early_data start_placed) data_stripe h.0.allowed.2 h.0.allowed.2.is_open)

pub no_busy_unit : ¬ IsLegal image unit_is_busy
unfolding IsLegal
no_busy_unit h = no_truth (h.0.allowed.2.idle _ (0, lit< tt, refl))

abbrev unordered : Stripe
unordered = record data_stripe { unit = 0; at = 4 }

unit_or : Option (ℕ × ℕ) → ℕ
unit_or None = 0
unit_or (Some p) = p.0

no_unordered : Kind image (named unordered_data start_landed) unordered first_opening → ⊥
unfolding unit_or
no_unordered (inl s) = too_high 4 4 refl s.within
no_unordered (inr (inl s)) = differ 1 0 refl (ap unit_or s.next.in_order)
no_unordered (inr (inr (inl s))) = too_low 44 4 refl s.from
no_unordered (inr (inr (inr s))) = no_truth s.failed

pub no_broken_order : ¬ IsLegal image order_is_broken
unfolding IsLegal
no_broken_order h = no_unordered (kind_of (named unordered_data start_landed) unordered h.0.allowed.2 h.0.allowed.2.is_open)

abbrev dropped : Stripe
dropped = record data_stripe { blocks = replicate 4 (pad_block small) }

pad_isnt_entry : {rest more : List Block} → pad_block small ∷ rest ≡ sector_block 0 ∷ more → ⊥
unfolding head_or
pad_isnt_entry e = differ (2 ^ 64 - 1) 5 refl (ap (λ (b : Block). b.mark.lba) (ap (head_or (pad_block small)) e))

no_dropped : Kind image (named dropped_data start_landed) dropped first_opening → ⊥
no_dropped (inl s) = too_high 4 4 refl s.within
no_dropped (inr (inl s)) = pad_isnt_entry s.blocks
no_dropped (inr (inr (inl s))) = too_low 44 4 refl s.from
no_dropped (inr (inr (inr s))) = no_truth s.failed

pub no_dropped_entry : ¬ IsLegal image entry_is_dropped
unfolding IsLegal
no_dropped_entry h = no_dropped (kind_of (named dropped_data start_landed) dropped h.0.allowed.2 h.0.allowed.2.is_open)

abbrev is_opened_life : LineLife → Bool
is_opened_life AsFound = false
is_opened_life (Opened o) = true
is_opened_life (Freed was knows) = false

pub no_closed_line : ¬ IsLegal image line_isnt_open
unfolding IsLegal
no_closed_line h = no_truth (ap is_opened_life h.0.allowed.2.is_open)

no_failed : Kind image (named failed_data start_lost) data_stripe first_opening → ⊥
no_failed (inl s) = no_truth (sym s.next.not_failed)
no_failed (inr (inl s)) = no_truth (sym s.next.not_failed)
no_failed (inr (inr (inl s))) = no_truth (sym s.next.not_failed)
no_failed (inr (inr (inr s))) = pad_isnt_entry (sym s.blocks)

pub no_data_in_failed : ¬ IsLegal image data_in_failed_line
unfolding IsLegal
no_data_in_failed h = no_failed (kind_of (named failed_data start_lost) data_stripe h.0.allowed.2 h.0.allowed.2.is_open)

pub no_other_chunk : ¬ IsLegal image chunk_is_anothers
unfolding IsLegal
no_other_chunk h = differ 1 0 refl h.0.allowed.2.chunk
