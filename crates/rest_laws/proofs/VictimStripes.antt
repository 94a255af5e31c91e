-- No stripe is placed in the victim at work: it is over, so each of its stripes is answered, and a
-- stripe that was just placed isn't.
use Rattle.std.proofs.Common.{◌≡◌, ◌⊎◌, inl, inr, ℕ, ◌<◌, ◌≤◌, ◌==◌, zero, suc, true, false, Some, List, ◌++◌, length, take, refl, sym, subst, ap, ap₂, ◌∙◌, arith, append-nil, length-take}
use Rattle.std.specs.Prelude.{slice_get}
use Rattle.std.specs.List.{Contains}
use Rattle.std.specs.Option.{is_some, option_to_list}
use Rattle.std.proofs.lemmas.Bool.{cases_lt}
use Rattle.std.proofs.lemmas.List.{take-take}
use Rattle.std.proofs.lemmas.Option.{same_Some}
use Rattle.pblk_model.specs.Image.{Image}
use Rattle.pblk_world.specs.EngineLog.{answer_by, answers, is_answered, is_life, life_of, Opened, Placed, placed_on, placements, stripes_of, turn, turned_by}
use Rattle.pblk_world.specs.Events.{Event, Logged}
use Rattle.pblk_world.specs.Lines.{are_over}
use Rattle.pblk_world.specs.Victims.{engine_prefix, live, victim}
use Rattle.pblk_world.specs.World.{World, Logs, log_of}
use Rattle.pblk_world.proofs.Answered.{answers_fit}
use Rattle.pblk_world.proofs.EngineLogLemmas.{answers_more}
use Rattle.pblk_model.proofs.Lists.{IsAmong}
use Rattle.pblk_model.proofs.Maps.{in_filter, from_filter}
use Rattle.pblk_model.proofs.Numbers.{fun_same}
use Rattle.pblk_model.proofs.Parts.{contained_among, get_past, got_within, take_next}
use Rattle.pblk_model.proofs.Tests.{not_both, same_number}
use Rattle.pblk_world.specs.LegalMounts.{IsLegalMount}
use Rattle.world_laws.proofs.Later.{placed_within}
use Rattle.world_laws.proofs.NextLives.{life_next}
use Rattle.world_laws.proofs.Placements.{still_placed}
use Rattle.world_laws.proofs.Stripes.{IsPlaced, life_of_stripe, opening_then, placed_is}
use Rattle.world_laws.proofs.ToldImages.{told_then}
use Rattle.world_laws.proofs.ToldTables.{live_told, victim_told}
use Rattle.world_laws.proofs.UnitTurns.{turn_is}
use Rattle.core_laws.proofs.OverAnswered.{over_answered}
use Rattle.core_laws.proofs.PlacedAnew.{earlier_stripe}
use Rattle.core_laws.proofs.VictimsAtWork.{IsVictim, victim_is_closed}
use Rattle.rest_laws.proofs.LengthLogs.{IsWorldAt, victim_then, world_at}

-- ---- the world at a length

module _ (i : Image) (w : World) (mount : IsLegalMount i w) (n : ℕ) (within : n ≤ length (log_of w 0)) where
  abbrev pub then_ : IsWorldAt i w n
  then_ = world_at i w n mount.legal within

  pub mount_at : IsLegalMount i (world_at i w n mount.legal within).world
  mount_at = record { accepted = mount.accepted; fit = mount.fit; legal = then_.legal }

  -- of no length after it
  pub prefix_of : (a : ℕ) → a ≤ n → engine_prefix a (engine_prefix n (log_of w)) ≡ engine_prefix a (log_of w)
  prefix_of a low = fun_same (engine_prefix a (engine_prefix n (log_of w))) (engine_prefix a (log_of w)) each
    where
      each : (author : ℕ) → engine_prefix a (engine_prefix n (log_of w)) author ≡ engine_prefix a (log_of w) author
      each zero = take-take a n (log_of w 0) low
      each (suc unit) = refl

  pub victim_there : (a : ℕ) → a ≤ n → victim i (log_of (world_at i w n mount.legal within).world) a ≡ victim i (log_of w) a
  victim_there a low =
      sym (victim_told i (log_of then_.world) (engine_prefix n (log_of w)) then_.told a) ∙ victim_then i (log_of w) n a low

  pub live_there : (line a : ℕ) → a ≤ n
      → live i (engine_prefix a (log_of (world_at i w n mount.legal within).world)) line ≡ live i (engine_prefix a (log_of w)) line
  live_there line a low =
      sym (live_told i (engine_prefix a (log_of then_.world)) (engine_prefix a (engine_prefix n (log_of w)))
      (told_then i (log_of then_.world) (engine_prefix n (log_of w)) a then_.told) line)
      ∙ ap (λ (logs : Logs). live i logs line) (prefix_of a low)

  pub live_whole : (line : ℕ) → live i (log_of (world_at i w n mount.legal within).world) line ≡ live i (engine_prefix n (log_of w)) line
  live_whole line = sym (live_told i (log_of then_.world) (engine_prefix n (log_of w)) then_.told line)

-- ---- a stripe that was just placed

module _ (i : Image) (w : World) (mount : IsLegalMount i w) (p : Placed) (there : Contains (placements (log_of w 0)) p) where
  abbrev log : List Logged
  log = log_of w 0

  its : IsPlaced (log_of w 0) p
  its = placed_is log p there

  inside : p.number < length (log_of w 0)
  inside = placed_within log p there

  next_inside : suc p.number ≤ length (log_of w 0)
  next_inside = omega (arith, inside)

  -- no earlier stripe of its unit has its place in the list
  place_late : (k : ℕ) → slice_get (placed_on (log_of w 0) p.stripe.unit) k ≡ Some p → length (placed_on (take p.number (log_of w 0)) p.stripe.unit) ≤ k
  place_late k at = go (cases_lt k (length (placed_on (take p.number log) p.stripe.unit)))
    where
      go : (k < length (placed_on (take p.number (log_of w 0)) p.stripe.unit)) ⊎ (length (placed_on (take p.number (log_of w 0)) p.stripe.unit) ≤ k)
          → length (placed_on (take p.number (log_of w 0)) p.stripe.unit) ≤ k
      go (inr late) = late
      go (inl early) =
          let q = got_within (placed_on (take p.number log) p.stripe.unit) k early in
          let one : q.0 ≡ p = same_Some q.0 p (sym (still_placed p.number log p.stripe.unit k q.0 q.1) ∙ at) in
          let among = from_filter (λ (x : Placed). x.stripe.unit == p.stripe.unit) (placements (take p.number log)) q.0 (k, q.1) in
          let low : q.0.number < length (take p.number log) =
          placed_within (take p.number log) q.0 (contained_among (placements (take p.number log)) q.0 among) in
          let same : q.0.number ≡ p.number = ap (λ (x : Placed). x.number) one in
          absurd (omega (arith, length-take p.number log))

  -- the event adds no answer
  answers_same : answers (take (suc p.number) (log_of w 0)) p.stripe.unit ≡ answers (take p.number (log_of w 0)) p.stripe.unit
  answers_same =
      ap (λ (xs : List Logged). answers xs p.stripe.unit) (take_next log p.number its.logged its.there)
      ∙ answers_more (take p.number log) its.logged p.stripe.unit
      ∙ ap (λ (e : Event). answers (take p.number log) p.stripe.unit ++ option_to_list (answer_by p.stripe.unit e)) its.event
      ∙ append-nil (answers (take p.number log) p.stripe.unit)

  pub not_yet_answered : is_answered (take (suc p.number) (log_of w 0)) p ≡ false
  not_yet_answered =
      let among = in_filter (λ (x : Placed). x.stripe.unit == p.stripe.unit) (placements (take (suc p.number) log)) p
      (earlier_stripe i w mount p (suc p.number) there (omega arith)) (same_number p.stripe.unit) in
      let late : length (placed_on (take p.number log) p.stripe.unit) ≤ among.0 =
      place_late among.0 (still_placed (suc p.number) log p.stripe.unit among.0 p among.1) in
      let its_turn : turn (take (suc p.number) log) p ≡ among.0 = turn_is (take (suc p.number) log) p.stripe.unit among.0 p among.1 in
      let v : IsWorldAt i w p.number = world_at i w p.number mount.legal (omega (arith, inside)) in
      let fit : length (answers (take p.number log) p.stripe.unit) ≤ length (placed_on (take p.number log) p.stripe.unit) =
      subst (λ (xs : List Logged). length (answers xs p.stripe.unit) ≤ length (placed_on xs p.stripe.unit)) v.own
      (answers_fit i v.world p.stripe.unit v.legal) in
      let few : length (answers (take (suc p.number) log) p.stripe.unit) ≡ length (answers (take p.number log) p.stripe.unit) = ap length answers_same in
      ap is_some (get_past (answers (take (suc p.number) log) p.stripe.unit) (turn (take (suc p.number) log) p) (omega arith))

  -- its line isn't at work just after
  pub not_in_victim : (line : ℕ) → victim i (log_of w) (suc p.number) ≡ Some line → p.stripe.line ≡ line → ⊥
  not_in_victim line at_work in_line =
      let v : IsWorldAt i w (suc p.number) = world_at i w (suc p.number) mount.legal next_inside in
      let mount_v : IsLegalMount i v.world = mount_at i w mount (suc p.number) next_inside in
      let life = life_of_stripe i w p mount.legal there in
      let opened = opening_then log p.number p.stripe.line life.0 life.2 in
      let now : life_of (take (suc p.number) log) p.stripe.line ≡ Opened life.0 =
      life_next log p.number p.stripe.line its.logged its.there
      ∙ ap (turned_by p.stripe.line (life_of (take p.number log) p.stripe.line) p.number its.logged.knows) its.event ∙ life.2 in
      let is_open : life_of (log_of v.world 0) life.0.line ≡ Opened life.0 =
      ap₂ (λ (xs : List Logged) l. life_of xs l) v.own opened.1 ∙ now in
      let whole : length (log_of v.world 0) ≡ suc p.number =
      let count : length (log_of v.world 0) ≡ length (take (suc p.number) log) = ap length v.own in omega (arith, inside, length-take (suc p.number) log) in
      let is_victim : IsVictim i (log_of v.world) line = victim_is_closed i v.world line mount_v
      (ap (victim i (log_of v.world)) whole ∙ victim_there i w mount (suc p.number) next_inside (suc p.number) (omega arith) ∙ at_work) in
      let among : IsAmong (placements (log_of v.world 0)) p =
      subst (λ (xs : List Logged). IsAmong (placements xs) p) (sym v.own) (earlier_stripe i w mount p (suc p.number) there (omega arith)) in
      let of_life : Contains (stripes_of (log_of v.world 0) life.0) p = contained_among (stripes_of (log_of v.world 0) life.0) p
      (in_filter (λ (x : Placed). is_life life.0.number x.life) (placements (log_of v.world 0)) p among
      (ap (is_life life.0.number) life.1 ∙ same_number life.0.number)) in
      let answered : is_answered (log_of v.world 0) p ≡ true = over_answered i v.world mount_v life.0 is_open
      (ap (are_over i (log_of v.world)) (opened.1 ∙ in_line) ∙ is_victim.over) p of_life in
      not_both (is_answered (take (suc p.number) log) p) (ap (λ (xs : List Logged). is_answered xs p) (sym v.own) ∙ answered) not_yet_answered
