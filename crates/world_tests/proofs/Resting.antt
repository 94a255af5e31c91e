-- The world with a waiting sector is at rest, until its position is asked for.
use Rattle.std.proofs.Common.{◌≡◌, ℕ, ◌==◌, ◌<◌, ◌⊎◌, not, nat_lt, zero, suc, Bool, true, false, Some, None, Option, [], ◌∷◌, refl, sym, ap, ◌∙◌, subst, arith, lit<, lit≤, inl, inr, if◌then◌else◌}
use Rattle.std.proofs.lemmas.Option.{none-some, same_Some}
use Rattle.pblk_model.specs.Shape.{small}
use Rattle.pblk_model.specs.ChunkStep.{Done}
use Rattle.pblk_model.specs.UnitLog.{UnitEvent, Answered}
use Rattle.pblk_model.specs.StartRecord.{StartRecord, written_run}
use Rattle.pblk_world.specs.Events.{Stripe}
use Rattle.pblk_world.specs.World.{Logs, log_of}
use Rattle.pblk_world.specs.EngineLog.{Opening, LineLife, AsFound, Opened, Freed, life_of, placements, is_answered}
use Rattle.pblk_world.specs.Lines.{is_given_up}
use Rattle.pblk_world.specs.Starts.{seq_of}
use Rattle.pblk_world.specs.Placing.{IsStart, IsData, IsEnd, IsPad}
use Rattle.pblk_world.specs.Commanding.{is_reset}
use Rattle.pblk_world.specs.Freeing.{MayFree}
use Rattle.pblk_world.specs.Victims.{victim}
use Rattle.pblk_world.specs.AtRest.{logs_at, IsUrgent, IsDue, IsUnnotedReset, IsAtRest}
use Rattle.world_tests.specs.Steps.{image, program_of}
use Rattle.world_tests.specs.Simple.{start, start_stripe, start_landed, data_stripe}
use Rattle.world_tests.proofs.Knowing.{no_truth, no_both, differ, all_in, all_below}
use Rattle.world_tests.proofs.WrongStripes.{too_low, too_high}
use Rattle.pblk_model.proofs.Tests.{not_true}
use Rattle.pblk_world.proofs.EngineLogLemmas.{opened_same}

abbrev logs : Logs
logs = logs_at 5 (log_of start_landed)

-- Only line 0 was opened.

abbrev opening_of : ℕ → Opening
opening_of line = record { number = 2; line = line; start = start; knows = 2 ∷ 0 ∷ 0 ∷ [] }

abbrev life_by : ℕ → Bool → LineLife
life_by line b = if b then Opened (opening_of line) else AsFound

life_is : (line : ℕ) → life_of (logs 0) line ≡ life_by line (0 == line)
life_is line = refl

abbrev is_found : LineLife → Bool
is_found AsFound = true
is_found (Opened o) = false
is_found (Freed was knows) = false

its_opening : (line : ℕ) (b : Bool) (o : Opening) → life_by line b ≡ Opened o → opening_of line ≡ o
its_opening line true o e = opened_same (opening_of line) o e
its_opening line false o e = no_truth (sym (ap is_found e))

abbrev Kind : Stripe → Opening → Type 0
Kind stripe o = IsStart image logs o stripe ⊎ (IsEnd image logs o stripe ⊎
    (IsPad image logs o stripe ⊎ (IsData image logs o stripe × IsUrgent small (logs 0) 0)))

none_due : (line : ℕ) (stripe : Stripe) → Kind stripe (opening_of line) → ⊥
none_due line stripe (inl s) = too_high 4 4 refl s.within
none_due line stripe (inr (inl s)) = too_low 44 4 refl s.from
none_due line stripe (inr (inr (inl s))) = no_truth s.failed
none_due line stripe (inr (inr (inr s))) = few s.1
  where
    few : IsUrgent small (logs 0) 0 → ⊥
    few (inl many) = too_low 4 1 refl many
    few (inr t) = absurd (let below : t.0.entry.position < 0 = t.2 in omega arith)

no_stripe : (stripe : Stripe) → IsDue image logs 0 stripe → ⊥
no_stripe stripe d = none_due stripe.line stripe (subst (λ o. Kind stripe o) (sym (its_opening stripe.line (0 == stripe.line) d.opening d.is_open)) d.kind)

none_given_up : (line : ℕ) → line < 8 → is_given_up (logs 0) line ≡ false
none_given_up line h = not_true (is_given_up (logs 0) line) (all_below (λ n. not (is_given_up (logs 0) n)) 8 refl line h)

no_reset : (unit number : ℕ) → ¬ IsUnnotedReset logs unit number
no_reset zero zero r = no_truth (ap (λ (e : UnitEvent). is_reset e.command) (same_Some (program_of start_stripe (Answered Done)) r.event r.is_known) ∙ r.reset)
no_reset zero (suc number) r = none-some r.event r.is_known
no_reset (suc zero) number r = none-some r.event r.is_known
no_reset (suc (suc unit)) number r = none-some r.event r.is_known

-- No line with a sequence number is older than the one that was opened.

abbrev is_old : Option ℕ → Bool
is_old None = false
is_old (Some seq) = nat_lt seq 1

none_old : (line : ℕ) → line < 8 → is_old (seq_of image logs line) ≡ false
unfolding written_run
none_old line h = not_true (is_old (seq_of image logs line)) (all_below (λ n. not (is_old (seq_of image logs n))) 8 refl line h)

below_one : (a b : ℕ) → 1 ≡ b → nat_lt a 1 ≡ false → a < b → ⊥
below_one a b e f h = grind arith

none_free : (line : ℕ) → ¬ MayFree image logs line
unfolding written_run
none_free line f = below_one f.seq f.newest.seq (ap (λ (r : StartRecord). r.seq) (same_Some start f.newest f.is_newest))
    (ap is_old (sym f.has_seq) ∙ none_old line f.in_range) f.older

pub rests : IsAtRest image (log_of start_landed) 0 5
unfolding written_run victim
rests = record {
  has_begun = lit< tt;
  within = lit≤ tt;
  resting = record {
    no_work = record {
      no_reset = λ line h up. no_both (is_given_up (logs 0) line) (none_given_up line h) up;
      no_program = no_stripe;
      no_opening = λ beginning line record_ is_begun waits none may. differ 40 0 refl none;
      no_copy = λ c. no_truth c.due;
    };
    stripes = all_in (is_answered (logs 0)) (placements (logs 0)) refl;
    resets = no_reset;
    none_to_free = none_free;
  };
}

pub asked_for : ¬ IsAtRest image (log_of start_landed) 1 5
unfolding written_run victim
asked_for h = h.resting.no_work.no_program data_stripe (record {
  opening = opening_of 0;
  is_open = refl;
  kind = inr (inr (inr (
    record {
      next = record { not_failed = refl; in_order = refl };
      within = lit< tt;
      start_landed = refl;
      has_entry = lit< tt;
      blocks = refl;
    },
    inr (_, (0, lit< tt, refl), lit< tt),
  )));
})
