-- What a worker knew at a length of the engine's log: longer logs say the same of it.
use Rattle.std.proofs.Common.{◌≡◌, ℕ, ◌+◌, ◌-◌, ◌<◌, ◌≤◌, zero, suc, Option, List, take, refl, sym, subst, ap, ap₂, ◌∙◌, arith, le_trans}
use Rattle.std.specs.Prelude.{length, slice_get}
use Rattle.std.proofs.lemmas.List.{take-append-le}
use mathlib.Core.List.{IsPrefix}
use base.Growing.{prefix_trans}
use Rattle.pblk_model.specs.Image.{Image}
use Rattle.pblk_model.proofs.Numbers.{fun_same}
use Rattle.pblk_model.proofs.Parts.{get_first}
use Rattle.pblk_world.specs.AtRest.{knows_last, logs_at}
use Rattle.pblk_world.specs.Events.{Logged, Source}
use Rattle.pblk_world.specs.Legal.{IsLegal}
use Rattle.pblk_world.specs.Reasons.{WasBegun, WasRoom}
use Rattle.pblk_world.specs.Space.{room}
use Rattle.pblk_world.specs.World.{World, Logs, log_of}
use Rattle.world_laws.proofs.GrownLogs.{IsBegunIn}
use Rattle.pblk_engine.proofs.OnceRoom.{last_within}

module _ (i : Image) (u : World) (legal : IsLegal i u) where
  -- at each of its lengths the logs are the same
  pub same_at : (logs : Logs) → ((author : ℕ) → IsPrefix (log_of u author) (logs author)) → (n : ℕ) → 0 < n → n ≤ length (log_of u 0)
      → logs_at n logs ≡ logs_at n (log_of u)
  same_at logs grown n some within = fun_same (logs_at n logs) (logs_at n (log_of u)) each
    where
      last : slice_get (logs 0) (n - 1) ≡ slice_get (log_of u 0) (n - 1)
      last =
          let more = grown 0 in
          ap (λ (log : List Logged). slice_get log (n - 1)) (sym more.1) ∙ get_first (log_of u 0) more.0 (n - 1) (omega arith)

      each : (author : ℕ) → logs_at n logs author ≡ logs_at n (log_of u) author
      each zero = let more = grown 0 in ap (take n) (sym more.1) ∙ take-append-le n (log_of u 0) more.0 within
      each (suc unit) =
          let more = grown (suc unit) in
          ap₂ (λ (o : Option Logged) (log : List Logged). take (knows_last o (suc unit)) log) last (sym more.1)
          ∙ take-append-le (knows_last (slice_get (log_of u 0) (n - 1)) (suc unit)) (log_of u (suc unit)) more.0 (last_within i u (n - 1) (suc unit) legal)

  -- so they are in two longer ones
  module _ (a b : Logs) (in_a : (author : ℕ) → IsPrefix (log_of u author) (a author)) (in_b : (author : ℕ) → IsPrefix (a author) (b author)) where
    pub same_in : (n : ℕ) → 0 < n → n ≤ length (log_of u 0) → logs_at n a ≡ logs_at n b
    same_in n some within =
        same_at a in_a n some within
        ∙ sym (same_at b (λ author. prefix_trans (log_of u author) (a author) (b author) (in_a author) (in_b author)) n some within)

    at_before : (k : ℕ) → k < length (a 0) → slice_get (b 0) k ≡ slice_get (a 0) k
    at_before k low =
        let more = in_b 0 in ap (λ (log : List Logged). slice_get log k) (sym more.1) ∙ get_first (a 0) more.0 k low

    room_in : (n upto : ℕ) → n ≤ length (log_of u 0) → WasRoom i a n upto → WasRoom i b n upto
    room_in n upto within was = record {
      at = was.at;
      has_begun = was.has_begun;
      within = was.within;
      room = subst (λ (logs : Logs). upto ≤ room i logs) (same_in was.at was.has_begun (le_trans was.within within)) was.room;
    }

    -- a copy that was begun in the one at such a length was begun in the other
    pub begun_in : (n lba : ℕ) (source : Source) (was : WasBegun i a n lba source) → was.at ≤ length (log_of u 0) → n ≤ length (a 0)
        → (is : WasBegun i b n lba source) × (is.at ≡ was.at)
    begun_in n lba source was low within =
        let there : IsBegunIn i lba source (logs_at was.at b) =
        subst (IsBegunIn i lba source) (same_in was.at was.has_begun low) (was.due, was.line, was.latest) in (
          record {
            at = was.at;
            has_begun = was.has_begun;
            within = was.within;
            due = there.0;
            line = there.1;
            latest = there.2;
            alone = λ k l from below its. was.alone k l from below (sym (at_before k (omega arith)) ∙ its);
            granted = λ k knows entry mark from below its users.
                room_in was.at (entry.position + 1) low
                (was.granted k knows entry mark from below (sym (at_before k (omega arith)) ∙ its) users);
          },
          refl,
        )
