-- Up to which position pads were asked for, at an earlier length of the engine's log: that stays so
-- as the world grows. The victim at work asks by a core's tables for no more than by the logs.
use Rattle.std.proofs.Common.{◌≡◌, ◌⊎◌, inl, inr, ℕ, ◌+◌, ◌-◌, ◌^◌, ◌<◌, ◌≤◌, ◌==◌, nat_lt, max, min, Bool, true, false, Some, None, Option, ◌++◌, length, refl, sym, subst, ap, ◌∙◌, arith, le_trans, le_refl, if◌then◌else◌}
use Rattle.std.specs.Prelude.{slice_get}
use Rattle.std.specs.List.{filter, last_or}
use Rattle.std.specs.Option.{option_and_then, option_map, option_map_or}
use Rattle.std.proofs.lemmas.Bool.{cases_lt}
use Rattle.pblk_model.specs.Image.{Image}
use Rattle.pblk_world.specs.AtRest.{asked_by, logs_at, pad_target, victim_now}
use Rattle.pblk_world.specs.EngineLog.{Taken, life_of, takes}
use Rattle.pblk_world.specs.Legal.{IsLegal}
use Rattle.pblk_world.specs.Space.{is_due}
use Rattle.pblk_world.specs.Victims.{live, taken_up_to, took_from}
use Rattle.pblk_world.specs.World.{World, Logs, log_of}
use Rattle.pblk_world.specs.LegalMounts.{IsLegalMount}
use Rattle.pblk_world.specs.Reasons.{WasAsked}
use Rattle.world_laws.proofs.GrownLogs.{MayAsk}
use Rattle.core_laws.specs.RowsOf.{row_of_line, taker_by}
use Rattle.core_laws.proofs.TakenRows.{taker_is}
use Rattle.core_laws.proofs.VictimsAtWork.{IsVictim, victim_is_closed}
use Rattle.pblk_core.specs.Collecting.{Collects}
use Rattle.pblk_core.specs.Copies.{asked_by_row, victim_asks, victim_row}
use Rattle.pblk_core.specs.Stands.{Stands}
use Rattle.pblk_core.specs.declared.target_core.Core.{Core}
use Rattle.pblk_core.proofs.CopiesDue.{victim_has_row}
use Rattle.pblk_core.proofs.SmallGrant.{due_is}
use Rattle.pblk_engine.proofs.OnceRoom.{same_lengths}
use Rattle.pblk_model.proofs.Tests.{le_of_lt_false}

-- ---- at an earlier length

less_far : (i : Image) (logs : Logs) (upto less : ℕ) → less ≤ upto → MayAsk i upto logs → MayAsk i less logs
less_far i logs upto less low (inl own) = inl (le_trans low own.0, own.1)
less_far i logs upto less low (inr victim) = inr (le_trans low victim)

pub asked_less : (i : Image) (logs : Logs) (n m upto less : ℕ) → WasAsked i logs n upto → n ≤ m → less ≤ upto → WasAsked i logs m less
asked_less i logs n m upto less was later low = record {
  at = was.at;
  has_begun = was.has_begun;
  within = le_trans was.within later;
  why = less_far i (logs_at was.at logs) upto less low was.why;
}

-- a longer world
pub asked_later : (i : Image) (later w : World) (n upto : ℕ) → IsLegal i w → n ≤ length (log_of w 0) → WasAsked i (log_of w) n upto
    → WasAsked i (log_of (later ++ w)) n upto
asked_later i later w n upto legal long was = record {
  at = was.at;
  has_begun = was.has_begun;
  within = was.within;
  why = subst (MayAsk i upto) (sym (same_lengths i later w was.at legal was.has_begun (le_trans was.within long))) was.why;
}

-- the greater of two
pub asked_greater : (i : Image) (logs : Logs) (n a b : ℕ) → (0 < a → WasAsked i logs n a) → (0 < b → WasAsked i logs n b)
    → 0 < max a b → WasAsked i logs n (max a b)
asked_greater i logs n a b x y some = go (cases_lt a b)
  where
    go : (a < b) ⊎ (b ≤ a) → WasAsked i logs n (max a b)
    go (inl less) = asked_less i logs n n b (max a b) (y (omega arith)) (le_refl n) (omega arith)
    go (inr more) = asked_less i logs n n a (max a b) (x (omega arith)) (le_refl n) (omega arith)

-- ---- what the victim asks for

taker_asks : (o : Option Taken) → option_map_or (λ taker. min (taker + 1) (2 ^ 64 - 1)) (option_map (λ (t : Taken). t.entry.position) o) 0
    ≤ option_map_or (λ (t : Taken). t.entry.position + 1) o 0
taker_asks None = omega arith
taker_asks (Some t) = omega arith

unless_live : (n a b : ℕ) → a ≤ b → (if nat_lt 0 n then 0 else a) ≤ (if n == 0 then b else 0)
unless_live n a b low = go (nat_lt 0 n) refl (n == 0) refl
  where
    go : (p : Bool) → nat_lt 0 n ≡ p → (q : Bool) → (n == 0) ≡ q → (if p then 0 else a) ≤ (if q then b else 0)
    go true e q f = omega arith
    go false e true f = low
    go false e false f =
        let none : n ≤ 0 = le_of_lt_false 0 n e in
        let is : n ≡ 0 = omega arith in
        let both : true ≡ false = sym (ap (λ k. k == 0) is) ∙ f in
        absurd cc

where_due : (due : Bool) (a b : ℕ) → a ≤ b → (if due then a else 0) ≤ max 0 (if due then b else 0)
where_due false a b low = omega arith
where_due true a b low = omega arith

module _ (i : Image) (w : World) (c : Core) (mount : IsLegalMount i w) (st : Stands i (log_of w) c) (col : Collects i (log_of w) c) where
  row_asks : (line : ℕ) → victim_now i (log_of w) ≡ Some line → asked_by_row (row_of_line i (log_of w) line) ≤ asked_by i (log_of w) (Some line)
  row_asks line at_work =
      let its : IsVictim i (log_of w) line = victim_is_closed i w line mount at_work in
      let last : Option Taken = last_or None (filter (took_from i (log_of w) line) (takes (log_of w 0))) in
      let low : option_map_or (λ taker. min (taker + 1) (2 ^ 64 - 1)) (taker_by i (log_of w) line) 0 ≤ taken_up_to i (log_of w) line = taker_asks last in
      subst (λ taker. (if nat_lt 0 (live i (log_of w) line) then 0 else option_map_or (λ (n : ℕ). min (n + 1) (2 ^ 64 - 1)) taker 0)
      ≤ (if live i (log_of w) line == 0 then taken_up_to i (log_of w) line else 0))
      (sym (taker_is i (log_of w) line (life_of (log_of w 0) line) its.not_freed))
      (unless_live (live i (log_of w) line) (option_map_or (λ (n : ℕ). min (n + 1) (2 ^ 64 - 1)) (taker_by i (log_of w) line) 0)
      (taken_up_to i (log_of w) line) low)

  by_victim : (o : Option ℕ) → c.collection.victim ≡ o
      → option_map_or asked_by_row (option_and_then (λ line. slice_get c.lines.rows line) o) 0 ≤ asked_by i (log_of w) o
  by_victim None e = omega arith
  by_victim (Some line) e =
      subst (λ row. option_map_or asked_by_row row 0 ≤ asked_by i (log_of w) (Some line)) (sym (victim_has_row i w c mount st col line e))
      (row_asks line (sym col.victim ∙ e))

  pub asks_at_most : victim_asks c ≤ pad_target i (log_of w) 0
  asks_at_most =
      subst (λ due. (if due then option_map_or asked_by_row (victim_row c) 0 else 0) ≤ pad_target i (log_of w) 0) (sym (due_is i (log_of w) c st))
      (where_due (is_due i (log_of w)) (option_map_or asked_by_row (victim_row c) 0) (asked_by i (log_of w) (victim_now i (log_of w)))
      (subst (λ o. option_map_or asked_by_row (victim_row c) 0 ≤ asked_by i (log_of w) o) col.victim (by_victim c.collection.victim refl)))
