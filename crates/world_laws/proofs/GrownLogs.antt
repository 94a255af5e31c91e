-- Logs that grew by what units did alone: each event of the engine still names the same of them. So
-- at each length of the engine's log they are the same, and with them each fact at such a length.
use Rattle.std.proofs.Common.{◌≡◌, ◌⊎◌, ℕ, ◌+◌, ◌-◌, ◌≤◌, zero, suc, Some, None, Option, List, ◌++◌, length, take, le_refl, refl, sym, subst, ap, ◌∙◌, arith, length-take}
use Rattle.std.specs.Prelude.{slice_get}
use Rattle.std.specs.List.{Contains}
use Rattle.std.proofs.Math.Seq.{take-length}
use Rattle.std.proofs.lemmas.List.{take-append-le, take-take}
use Rattle.pblk_model.specs.Image.{Image}
use Rattle.pblk_world.specs.AtRest.{IsAtRest, IsCopyDue, IsResting, IsUrgent, knows_last, logs_at, pad_target}
use Rattle.pblk_world.specs.Events.{Decides, Logged, Open, Place, Source, Take}
use Rattle.pblk_world.specs.Fronts.{last_take, taken}
use Rattle.pblk_world.specs.Legal.{IsLegal}
use Rattle.pblk_world.specs.Orders.{AreAfterResets, AreInOrder, AreOpenedFull, AreReset, IsInOrder, LacksAddress, NoneToFree, NoneWasLeft}
use Rattle.pblk_world.specs.Reasons.{AreBegun, AreGranted, AreUrgent, WasAsked, WasBegun, WasRoom, WasUrgent}
use Rattle.pblk_world.specs.Space.{room}
use Rattle.pblk_world.specs.Taking.{IsPlaceOfLatest}
use Rattle.pblk_world.specs.World.{World, Logs, log_of, known, prefixes}
use Rattle.pblk_world.proofs.Growing.{grows}
use Rattle.pblk_model.proofs.Numbers.{fun_same}
use Rattle.pblk_model.proofs.Parts.{is_in}
use Rattle.world_laws.specs.SameTold.{AreSameNamed, UnitsWentOn}
use Rattle.world_laws.proofs.Made.{known_within}

-- a world that goes on with steps of units alone
pub grown_later : (later w : World) → log_of (later ++ w) 0 ≡ log_of w 0 → UnitsWentOn (log_of w) (log_of (later ++ w))
grown_later later w own = record {
  own = own;
  units = λ unit.
      let more : (more : List Logged) × (log_of (later ++ w) (suc unit) ≡ log_of w (suc unit) ++ more) = grows later w (suc unit) in (
        length (log_of w (suc unit)),
        sym (ap (take (length (log_of w (suc unit)))) more.1
            ∙ take-append-le (length (log_of w (suc unit))) (log_of w (suc unit)) more.0 (le_refl (length (log_of w (suc unit))))
            ∙ take-length (log_of w (suc unit))),
      );
}

pub named_grown : (i : Image) (w : World) (other : Logs) → IsLegal i w → UnitsWentOn (log_of w) other → AreSameNamed (log_of w) other
named_grown i w other legal h = record { own = h.own; named = named }
  where
    named : (unit : ℕ) (l : Logged) → Contains (log_of w 0) l → prefixes l other (suc unit) ≡ prefixes l (log_of w) (suc unit)
    named unit l there =
        let part : (n : ℕ) × (log_of w (suc unit) ≡ take n (other (suc unit))) = h.units unit in
        let within : known l (suc unit) ≤ length (log_of w (suc unit)) = known_within i w 0 (suc unit) l legal there in
        let long : length (log_of w (suc unit)) ≡ length (take part.0 (other (suc unit))) = ap (λ (log : List Logged). length log) part.1 in
        let few : known l (suc unit) ≤ part.0 = omega (arith, length-take part.0 (other (suc unit))) in
        sym (ap (take (known l (suc unit))) part.1 ∙ take-take (known l (suc unit)) part.0 (other (suc unit)) few)

pub named_back : (a b : Logs) → AreSameNamed a b → AreSameNamed b a
named_back a b h = record {
  own = sym h.own;
  named = λ unit l there. sym (h.named unit l (subst (λ (log : List Logged). Contains log l) h.own there));
}

-- ---- at a length of the engine's log

pub at_named : (a b : Logs) (n : ℕ) → AreSameNamed a b → logs_at n b ≡ logs_at n a
at_named a b n h = fun_same (logs_at n b) (logs_at n a) each
  where
    by : (unit : ℕ) (o : Option Logged) → slice_get (a 0) (n - 1) ≡ o
        → take (knows_last o (suc unit)) (b (suc unit)) ≡ take (knows_last o (suc unit)) (a (suc unit))
    by unit None e = refl
    by unit (Some l) e = h.named unit l (is_in (a 0) (n - 1) l e)

    each : (author : ℕ) → logs_at n b author ≡ logs_at n a author
    each zero = ap (take n) h.own
    each (suc unit) =
        ap (λ (log : List Logged). take (knows_last (slice_get log (n - 1)) (suc unit)) (b (suc unit))) h.own
        ∙ by unit (slice_get (a 0) (n - 1)) refl

-- a copy is due there, of this sector from this source
abbrev pub IsBegunIn : Image → ℕ → Source → Logs → Type 0
IsBegunIn i lba source logs = (due : IsCopyDue i logs) × (source.line ≡ due.line) × IsPlaceOfLatest i logs lba source (last_take (logs 0) lba)

-- so far pads may be asked for, as these logs are
abbrev pub MayAsk : Image → ℕ → Logs → Type 0
MayAsk i upto logs = ((upto ≤ taken (logs 0)) × (¬ IsCopyDue i logs)) ⊎ (upto ≤ pad_target i logs 0)

module _ (i : Image) (a b : Logs) (h : AreSameNamed a b) where
  at : (P : Logs → Type 0) (n : ℕ) → P (logs_at n a) → P (logs_at n b)
  at P n = subst P (sym (at_named a b n h))

  was_there : (k : ℕ) (l : Logged) → slice_get (b 0) k ≡ Some l → slice_get (a 0) k ≡ Some l
  was_there k l e = ap (λ (log : List Logged). slice_get log k) (sym h.own) ∙ e

  -- ---- reasons

  pub room_named : (n upto : ℕ) → WasRoom i a n upto → WasRoom i b n upto
  room_named n upto was = record {
    at = was.at;
    has_begun = was.has_begun;
    within = was.within;
    room = at (λ logs. upto ≤ room i logs) was.at was.room;
  }

  pub granted_named : AreGranted i a → AreGranted i b
  granted_named were = record {
    each = λ k knows entry mark there users.
        room_named k (entry.position + 1)
        (were.each k knows entry mark (was_there k (record { event = Decides (Take entry mark); knows = knows }) there) users);
  }

  pub copy_named : (n lba : ℕ) (source : Source) → WasBegun i a n lba source → WasBegun i b n lba source
  copy_named n lba source was =
      let there : IsBegunIn i lba source (logs_at was.at b) = at (IsBegunIn i lba source) was.at (was.due, was.line, was.latest) in
      record {
        at = was.at;
        has_begun = was.has_begun;
        within = was.within;
        due = there.0;
        line = there.1;
        latest = there.2;
        alone = λ k l from below its. was.alone k l from below (was_there k l its);
        granted = λ k knows entry mark from below its users.
            room_named was.at (entry.position + 1)
            (was.granted k knows entry mark from below (was_there k (record { event = Decides (Take entry mark); knows = knows }) its) users);
      }

  pub copies_named : AreBegun i a → AreBegun i b
  copies_named were = record {
    each = λ k knows entry mark source there of.
        copy_named k entry.lba source
        (were.each k knows entry mark source (was_there k (record { event = Decides (Take entry mark); knows = knows }) there) of);
  }

  pub asked_named : (n upto : ℕ) → WasAsked i a n upto → WasAsked i b n upto
  asked_named n upto was = record {
    at = was.at;
    has_begun = was.has_begun;
    within = was.within;
    why = at (MayAsk i upto) was.at was.why;
  }

  pub urgent_named : (n : ℕ) → WasUrgent i a n → WasUrgent i b n
  urgent_named n was = record {
    upto = was.upto;
    urgent = subst (λ (log : List Logged). IsUrgent i.shape (take n log) was.upto) (sym h.own) was.urgent;
    asked = λ some. asked_named n was.upto (was.asked some);
  }

  pub stripes_named : AreUrgent i a → AreUrgent i b
  stripes_named were = record {
    each = λ k knows stripe position there bears.
        urgent_named k (were.each k knows stripe position (was_there k (record { event = Decides (Place stripe); knows = knows }) there) bears);
  }

  -- ---- orders

  pub resets_named : AreAfterResets i a → AreAfterResets i b
  resets_named were = record {
    stripes = λ k knows stripe there.
        at (AreReset i) k (were.stripes k knows stripe (was_there k (record { event = Decides (Place stripe); knows = knows }) there));
    lines = λ k knows line start there.
        at (AreReset i) k (were.lines k knows line start (was_there k (record { event = Decides (Open line start); knows = knows }) there));
  }

  pub full_named : AreOpenedFull i a → AreOpenedFull i b
  full_named were = record {
    each = λ k knows line start there.
        at (LacksAddress i) k (were.each k knows line start (was_there k (record { event = Decides (Open line start); knows = knows }) there));
  }

  pub freed_named : NoneWasLeft i a → NoneWasLeft i b
  freed_named were = record {
    each = λ k knows e some there apart.
        at (NoneToFree i) k (were.each k knows e some (was_there k (record { event = Decides e; knows = knows }) there) apart);
  }

  pub order_named : AreInOrder i a → AreInOrder i b
  order_named were = record {
    each = λ k knows e some there.
        at (λ logs. IsInOrder i logs e) k (were.each k knows e some (was_there k (record { event = Decides e; knows = knows }) there));
  }

  pub rest_named : (asked n : ℕ) → IsAtRest i a asked n → IsAtRest i b asked n
  rest_named asked n was = record {
    has_begun = was.has_begun;
    within = subst (λ (log : List Logged). n ≤ length log) (sym h.own) was.within;
    resting = at (λ logs. IsResting i logs asked) n was.resting;
  }
