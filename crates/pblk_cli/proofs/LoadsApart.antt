-- The threads of a load write no sector in common.
use Rattle.std.proofs.Common.{◌≡◌, ◌⊎◌, inl, inr, ℕ, ◌+◌, ◌-◌, ◌*◌, ◌/◌, ◌%◌, ◌^◌, ◌==◌, ◌<◌, ◌≤◌, if◌then◌else◌, Bool, true, false, Some, None, Option, List, refl, sym, ap, ◌∙◌, arith}
use Rattle.std.specs.Prelude.{slice_get}
use Rattle.std.specs.Option.{option_and_then}
use Rattle.std.proofs.lemmas.Bool.{cases_order}
use Rattle.std.proofs.lemmas.Option.{none-some}
use Rattle.pblk_model.proofs.Maps.{row_at}
use Rattle.pblk_model.specs.Script.{command_at}
use Rattle.pblk_model.specs.declared.script.Command.{Command}
use Rattle.pblk_model.specs.declared.script.Command.TheVariants.{Write, Read, Flush}
use Rattle.load_maker.specs.Loads.{command_of, drawn, load, load_command, seed, state, thread_load}
use Rattle.pblk_cli.specs.Complete.{AreApart}
use Rattle.pblk_engine.proofs.RunParts.{ends_before}

module _ (number rounds capacity : ℕ) (room : 32 ≤ capacity) where
  -- a command of the load, by what was drawn for it
  command_is : (i c : ℕ) (x : Command) → command_at (load number rounds capacity) i c ≡ Some x → (draw : ℕ) × (load_command capacity i c draw ≡ x)
  command_is i c x there = go (slice_get (load number rounds capacity) i) refl
    where
      go : (o : Option (List Command)) → slice_get (load number rounds capacity) i ≡ o → (draw : ℕ) × (load_command capacity i c draw ≡ x)
      go None is = absurd (none-some x (ap (option_and_then (λ (t : List Command). slice_get t c)) (sym is) ∙ there))
      go (Some t) is =
          let one : 0 + i ≡ i = omega arith in
          let two : 0 + c ≡ c = omega arith in
          let row = row_at (thread_load number rounds capacity) 4 0 i t is in
          let thread : thread_load number rounds capacity i ≡ t = (rw one at row.1) in
          let got : slice_get (thread_load number rounds capacity i) c ≡ Some x =
          ap (λ (t : List Command). slice_get t c) thread ∙ ap (option_and_then (λ (t : List Command). slice_get t c)) (sym is) ∙ there in
          let command = row_at (command_of number capacity i) (16 * rounds) 0 c x got in
          (drawn (state (seed number i) (c + 1)), (rw two at command.1))

  -- a write of a thread lies in its quarter
  in_quarter : (i c lba count tag : ℕ) → command_at (load number rounds capacity) i c ≡ Some (Write lba count tag)
      → (i * (capacity / 4) ≤ lba) × (lba + count ≤ i * (capacity / 4) + capacity / 4)
  in_quarter i c lba count tag there =
      let is = command_is i c (Write lba count tag) there in
      go is.0 (c % 16 == 15) (c % 16 % 2 == 1) is.1
    where
      go : (draw : ℕ) (flushes reads : Bool) → (if flushes then Flush else if reads then Read (draw % (capacity - 7)) 8
          else Write (i * (capacity / 4) + draw % (capacity / 4 - 7)) 8 (i * 2 ^ 32 + (c / 16 * 8 + c % 16 / 2 + 1))) ≡ Write lba count tag
          → (i * (capacity / 4) ≤ lba) × (lba + count ≤ i * (capacity / 4) + capacity / 4)
      go draw true reads e = absurd (cc e)
      go draw false true e = absurd (cc e)
      go draw false false e =
          let at : i * (capacity / 4) + draw % (capacity / 4 - 7) ≡ lba = cc e in
          let many : 8 ≡ count = cc e in
          (omega (arith, at), omega (arith, at, many, room))

  pub loads_apart : AreApart (load number rounds capacity)
  loads_apart i c j d lba count tag at many label other one two = by (cases_order i j)
    where
      by : (i ≡ j) ⊎ ((i < j) ⊎ (j < i)) → (lba + count ≤ at) ⊎ (at + many ≤ lba)
      by (inl same) = absurd (other same)
      by (inr (inl low)) = inl (
          let first = in_quarter i c lba count tag one in
          let second = in_quarter j d at many label two in
          omega (arith, first.1, second.0, ends_before i j (capacity / 4) low)
          )
      by (inr (inr high)) = inr (
          let first = in_quarter i c lba count tag one in
          let second = in_quarter j d at many label two in
          omega (arith, second.1, first.0, ends_before j i (capacity / 4) high)
          )
