-- Where a copy was begun, all positions below its own were claimed: they were taken, or had been
-- granted.
use Rattle.std.proofs.Common.{◌≡◌, ◌⊎◌, inl, inr, ℕ, ◌+◌, ◌<◌, ◌≤◌, ◌++◌, zero, suc, Some, None, Option, List, [], ◌∷◌, length, take, refl, sym, subst, ap, ◌∙◌, arith, length-append, length-take}
use Rattle.std.specs.Prelude.{slice_get}
use Rattle.std.specs.Option.{option_to_list}
use Rattle.std.proofs.lemmas.Bool.{cases_lt}
use Rattle.std.proofs.lemmas.List.{take-take}
use Rattle.std.proofs.lemmas.Option.{slice_get_within}
use Rattle.pblk_model.specs.declared.chunk.Mark.{Mark}
use Rattle.pblk_model.specs.Image.{Image}
use Rattle.pblk_world.specs.EngineLog.{Taken, taken_by, takes}
use Rattle.pblk_world.specs.Events.{Decides, Entry, Event, Logged, Source, Take}
use Rattle.pblk_world.specs.Fronts.{first_position, taken}
use Rattle.pblk_world.specs.Taking.{MayTake}
use Rattle.pblk_world.specs.World.{World, log_of, prefixes}
use Rattle.pblk_world.proofs.EngineLogLemmas.{takes_more}
use Rattle.pblk_model.proofs.Parts.{get_whole_within, got_within, take_next}
use Rattle.pblk_world.specs.LegalMounts.{IsLegalMount}
use Rattle.pblk_world.specs.Reasons.{AreBegun, WasBegun, WasRoom}
use Rattle.world_laws.proofs.NextLives.{IsDecided, decided}
use Rattle.world_laws.proofs.Positions.{position_of}
use Rattle.world_laws.proofs.TakenEvents.{IsTakenAt, taken_at}
use Rattle.rest_laws.specs.Copies.{TookCopy}
use Rattle.rest_laws.specs.RoomRuns.{AreBegunInTurn, WasClaimed}
use Rattle.rest_laws.proofs.LengthLogs.{IsWorldAt, world_at, first_at, taken_rises}
use Rattle.rest_laws.proofs.OneCopy.{takes_copy}

module _ (i : Image) (w : World) (mount : IsLegalMount i w) (number : ℕ) (entry : Entry) (mark : Mark) (took : TookCopy (log_of w 0) number entry mark)
    (b : WasBegun i (log_of w) number entry.lba took.source) where
  abbrev log : List Logged
  log = log_of w 0

  inside : number < length (log_of w 0)
  inside = slice_get_within (log_of w 0) number (record { event = Decides (Take entry mark); knows = took.knows }) took.there

  position : entry.position ≡ taken (take number (log_of w 0))
  position =
      let l : Logged = record { event = Decides (Take entry mark); knows = took.knows } in
      let d : IsDecided i w mount.legal number (Take entry mark) l = decided i w mount.legal number (Take entry mark) l took.there refl in
      let may : MayTake i (prefixes l (log_of w)) entry mark = d.allowed.2 in
      may.position ∙ ap taken d.own

  abbrev v : IsWorldAt i w number
  v = world_at i w number mount.legal (omega (arith, inside))

  -- by the last entry before it
  by_last : (k : ℕ) (t : Taken) → slice_get (takes (take number (log_of w 0))) k ≡ Some t → length (takes (take number (log_of w 0))) ≡ suc k
      → WasClaimed i (log_of w) b.at entry.position
  by_last k t at long = go (cases_lt its.number b.at)
    where
      its : IsTakenAt (take number (log_of w 0)) k t
      its = taken_at (take number log) k t at

      place : (slice_get (log_of w 0) its.number ≡ Some its.logged) × (its.number < number)
      place = get_whole_within number log its.number its.logged its.there

      event : slice_get (log_of w 0) its.number ≡ Some (record { event = Decides (Take t.entry t.mark); knows = its.logged.knows })
      event = place.0 ∙ ap (λ (x : Event). Some (record { event = x; knows = its.logged.knows })) its.event

      t_position : t.entry.position ≡ first_position (log_of w 0) + k
      t_position =
          position_of i v.world k t v.legal (ap (λ (xs : List Logged). slice_get (takes xs) k) v.own ∙ at)
          ∙ ap (λ n. n + k) (ap first_position v.own ∙ first_at log number (omega (arith, b.has_begun, b.within)))

      last_one : t.entry.position + 1 ≡ entry.position
      last_one =
          let first : first_position (take number log) ≡ first_position log = first_at log number (omega (arith, b.has_begun, b.within)) in
          omega (arith, t_position, position, long)

      go : (its.number < b.at) ⊎ (b.at ≤ its.number) → WasClaimed i (log_of w) b.at entry.position
      go (inr late) = inr (subst (WasRoom i (log_of w) b.at) last_one (b.granted its.number its.logged.knows t.entry t.mark late place.1 event users))
        where
          users : t.entry.source ≡ None
          users = by t.entry.source refl
            where
              by : (o : Option Source) → t.entry.source ≡ o → t.entry.source ≡ None
              by None e = e
              by (Some source) e = absurd (b.alone its.number (record { event = Decides (Take t.entry t.mark); knows = its.logged.knows }) late place.1 event
                  (takes_copy t.entry t.mark its.logged.knows source e))
      go (inl early) =
          let rise : taken (take (suc its.number) log) ≤ taken (take b.at log) = taken_rises log (suc its.number) b.at (omega arith) early in
          let now : takes (take (suc its.number) log) ≡ takes (take its.number log) ++ option_to_list (taken_by its.logged.event) =
          ap takes (take_next log its.number its.logged place.0) ∙ takes_more (take its.number log) its.logged in
          let one : length (takes (take (suc its.number) log)) ≡ length (takes (take its.number log)) + 1 =
          ap length now ∙ ap (λ (e : Event). length (takes (take its.number log) ++ option_to_list (taken_by e))) its.event
          ∙ length-append (takes (take its.number log)) (t ∷ []) in
          let before : takes (take its.number log) ≡ take k (takes (take number log)) =
          ap takes (sym (take-take its.number number log (omega (arith, place.1)))) ∙ its.before in
          let count : length (takes (take its.number log)) ≡ k = ap length before ∙ omega (arith, length-take k (takes (take number log)), long) in
          let first : first_position (take (suc its.number) log) ≡ first_position log = first_at log (suc its.number) (omega arith) in
          let first_then : first_position (take number log) ≡ first_position log = first_at log number (omega (arith, b.has_begun, b.within)) in
          inl (omega (arith, position, long))

  pub was_claimed : WasClaimed i (log_of w) b.at entry.position
  was_claimed = go (length (takes (take number log))) refl
    where
      go : (n : ℕ) → length (takes (take number (log_of w 0))) ≡ n → WasClaimed i (log_of w) b.at entry.position
      go zero none =
          let first : first_position (take number log) ≡ first_position log = first_at log number (omega (arith, b.has_begun, b.within)) in
          let first_then : first_position (take b.at log) ≡ first_position log = first_at log b.at b.has_begun in
          inl (omega (arith, position, none))
      go (suc k) some = let last = got_within (takes (take number log)) k (omega arith) in by_last k last.0 last.1 some

pub begun_in_turn : (i : Image) (w : World) → IsLegalMount i w → AreBegun i (log_of w) → AreBegunInTurn i (log_of w)
begun_in_turn i w mount begun = record {
  each = λ number entry mark took.
      let b : WasBegun i (log_of w) number entry.lba took.source = begun.each number took.knows entry mark took.source took.there took.is_copy in
      record { begun = b; claimed = was_claimed i w mount number entry mark took b };
}
