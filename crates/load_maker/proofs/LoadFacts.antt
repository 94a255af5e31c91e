-- What the commands of a load are.
use Rattle.std.proofs.Common.{◌≡◌, ℕ, zero, suc, ◌+◌, ◌-◌, ◌*◌, ◌/◌, ◌%◌, ◌^◌, ◌==◌, ◌<◌, ◌≤◌, if◌then◌else◌, Bool, true, false, Some, None, Option, List, length, refl, sym, ap, subst, ◌∙◌, arith}
use Rattle.std.specs.Prelude.{slice_get}
use Rattle.std.specs.List.{AllByRecursion}
use Rattle.std.specs.Option.{option_and_then}
use Rattle.std.proofs.lemmas.List.FromFn.{length-map-range_with_len}
use Rattle.std.proofs.lemmas.Option.{none-some}
use Rattle.pblk_model.proofs.Maps.{row_at}
use Rattle.pblk_model.proofs.Parts.{all_by_get}
use Rattle.pblk_model.specs.Script.{CommandFits, NeverStuck, ScriptFits, command_at}
use Rattle.pblk_model.specs.declared.script.Command.{Command}
use Rattle.pblk_model.specs.declared.script.Command.TheVariants.{Write, Read, Flush, Post, Await}
use Rattle.load_maker.specs.Loads.{command_of, drawn, load, load_command, next, seed, state, thread_load}

-- a command of a load fits, and neither posts nor awaits
pub record IsOfLoad (capacity : ℕ) (command : Command) : Type 0 where
  pub fits : CommandFits capacity command
  pub posts : (name : List ℕ) → command ≡ Post name → ⊥
  pub awaits : (name : List ℕ) → command ≡ Await name → ⊥

of_flush : (capacity : ℕ) → IsOfLoad capacity Flush
of_flush capacity = record { fits = tt; posts = λ name is. absurd cc; awaits = λ name is. absurd cc }

of_read : (capacity draw : ℕ) → 32 ≤ capacity → capacity < 2 ^ 64 → IsOfLoad capacity (Read (draw % (capacity - 7)) 8)
of_read capacity draw room small = record {
  fits = record {
    number = omega arith;
    some = omega arith;
    few = omega arith;
    within = omega arith;
  };
  posts = λ name is. absurd cc;
  awaits = λ name is. absurd cc;
}

-- four quarters are no more than the whole
times : (thread q : ℕ) → thread < 4 → thread * q ≤ 3 * q
times zero q low = omega arith
times (suc zero) q low = omega arith
times (suc (suc zero)) q low = omega arith
times (suc (suc (suc zero))) q low = omega arith
times (suc (suc (suc (suc n)))) q low = absurd (omega arith)

of_write : (capacity thread draw n : ℕ) → 32 ≤ capacity → capacity < 2 ^ 64 → thread < 4 → n < 2 ^ 32
    → IsOfLoad capacity (Write (thread * (capacity / 4) + draw % (capacity / 4 - 7)) 8 (thread * 2 ^ 32 + n))
of_write capacity thread draw n room small few low = record {
  fits = (
    record {
      number = let most = times thread (capacity / 4) few in omega arith;
      some = omega arith;
      few = omega arith;
      within = let most = times thread (capacity / 4) few in omega arith;
    },
    omega arith,
  );
  posts = λ name is. absurd cc;
  awaits = λ name is. absurd cc;
}

pub of_load : (capacity thread index draw : ℕ) → 32 ≤ capacity → capacity < 2 ^ 64 → thread < 4 → index < 50000
    → IsOfLoad capacity (load_command capacity thread index draw)
of_load capacity thread index draw room small few low = go (index % 16 == 15) (index % 16 % 2 == 1)
  where
    go : (flushes reads : Bool) → IsOfLoad capacity (if flushes then Flush else if reads then Read (draw % (capacity - 7)) 8
        else Write (thread * (capacity / 4) + draw % (capacity / 4 - 7)) 8 (thread * 2 ^ 32 + (index / 16 * 8 + index % 16 / 2 + 1)))
    go true reads = of_flush capacity
    go false true = of_read capacity draw room small
    go false false = of_write capacity thread draw (index / 16 * 8 + index % 16 / 2 + 1) room small few (omega arith)

-- the next state
pub state_on : (x n : ℕ) → state x (n + 1) ≡ next (state x n)
unfolding state
state_on x n = let same : n + 1 ≡ suc n = omega arith in ap (state x) same

module _ (number rounds capacity : ℕ) (room : 32 ≤ capacity) (small : capacity < 2 ^ 64) (few : rounds ≤ 3125) where
  thread_fits : (thread k : ℕ) (c : Command) → thread < 4 → slice_get (thread_load number rounds capacity thread) k ≡ Some c → IsOfLoad capacity c
  thread_fits thread k c low there =
      let row = row_at (command_of number capacity thread) (16 * rounds) 0 k c there in
      subst (IsOfLoad capacity) row.1
      (of_load capacity thread (0 + k) (drawn (state (seed number thread) (0 + k + 1))) room small low (let less = row.0 in omega arith))

  at : (i c : ℕ) (x : Command) → command_at (load number rounds capacity) i c ≡ Some x → IsOfLoad capacity x
  at i c x there = go (slice_get (load number rounds capacity) i) refl
    where
      go : (o : Option (List Command)) → slice_get (load number rounds capacity) i ≡ o → IsOfLoad capacity x
      go None is = absurd (none-some x (ap (option_and_then (λ (t : List Command). slice_get t c)) (sym is) ∙ there))
      go (Some t) is =
          let row = row_at (thread_load number rounds capacity) 4 0 i t is in
          let less : 0 + i < 4 = (let low = row.0 in omega arith) in
          thread_fits (0 + i) c x less
          (ap (λ (t : List Command). slice_get t c) row.1 ∙ ap (option_and_then (λ (t : List Command). slice_get t c)) (sym is) ∙ there)

  all_fit : AllByRecursion (AllByRecursion (CommandFits capacity)) (load number rounds capacity)
  all_fit = all_by_get (AllByRecursion (CommandFits capacity)) (load number rounds capacity) (λ i t there.
      let row = row_at (thread_load number rounds capacity) 4 0 i t there in
      let less : 0 + i < 4 = (let low = row.0 in omega arith) in
      subst (AllByRecursion (CommandFits capacity)) row.1
      (all_by_get (CommandFits capacity) (thread_load number rounds capacity (0 + i)) (λ k c at. (thread_fits (0 + i) k c less at).fits)))

  length_of : (thread : ℕ) → length (thread_load number rounds capacity thread) ≡ 16 * rounds
  length_of thread = length-map-range_with_len (command_of number capacity thread) 0 (16 * rounds)

  pub load_fits : ScriptFits capacity (load number rounds capacity)
  load_fits = record {
    threads = omega arith;
    commands =
        let a = length_of 0 in
        let b = length_of 1 in
        let c = length_of 2 in
        let d = length_of 3 in
        omega arith;
    each = all_fit;
    once = λ i c j d name one. absurd ((at i c (Post name) one).posts name refl);
    posted = λ j d name one. absurd ((at j d (Await name) one).awaits name refl);
  }

  pub load_flows : NeverStuck (load number rounds capacity)
  load_flows = (λ i c. c, λ i c. omega arith, λ i c j d name one. absurd ((at i c (Post name) one).posts name refl))
