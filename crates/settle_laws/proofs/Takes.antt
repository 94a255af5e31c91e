-- Entries that were taken, by the numbers of their events.
use Rattle.std.proofs.Common.{◌≡◌, ◌⊎◌, inl, inr, ℕ, ◌+◌, ◌<◌, ◌≤◌, zero, suc, Some, None, Option, List, [], ◌∷◌, ◌++◌, length, length-append, take, refl, sym, ap, ◌∙◌, arith, not, ◌&&◌}
use Rattle.std.specs.Prelude.{slice_get}
use Rattle.std.specs.List.{Contains, filter}
use Rattle.std.specs.Option.{option_to_list}
use Rattle.std.proofs.lemmas.Bool.{cases_lt}
use Rattle.std.proofs.lemmas.List.Elements.{Contains-append_cases}
use Rattle.std.proofs.lemmas.Option.{none-some, slice_get_within}
use Rattle.pblk_model.specs.declared.chunk.Mark.{Mark}
use Rattle.pblk_model.specs.declared.shape.Shape.{Shape}
use Rattle.pblk_model.specs.Image.{Image}
use Rattle.pblk_model.proofs.Lists.{IsAmong, among_contained}
use Rattle.pblk_model.proofs.Maps.{filtered_from}
use Rattle.pblk_model.proofs.Parts.{get_whole_within, got_within, take_next}
use Rattle.pblk_world.specs.EngineLog.{Taken, begun, taken_by, takes}
use Rattle.pblk_world.specs.Events.{Decides, Entry, Event, Logged, Source, Take}
use Rattle.pblk_world.specs.Fronts.{first_position, taken, waiting, waits, was_placed}
use Rattle.pblk_world.specs.LegalMounts.{IsLegalMount}
use Rattle.pblk_world.specs.World.{World, log_of}
use Rattle.pblk_world.proofs.EngineLogLemmas.{takes_more}
use Rattle.world_laws.proofs.NextLives.{IsDecided, decided}
use Rattle.world_laws.proofs.TakenEvents.{IsTakenAt, taken_at}
use Rattle.core_laws.specs.PlacerOf.{fresh_entries}
use Rattle.rest_laws.specs.Copies.{TookCopy}
use Rattle.rest_laws.specs.RoomRuns.{AreBegunAt}
use Rattle.rest_laws.proofs.BegunInTurn.{alone, position_is}
use Rattle.rest_laws.proofs.LengthLogs.{first_at, taken_rises}
use Rattle.settle_laws.specs.Quiet.{IsQuietFrom}

-- what waits was taken
pub waits_taken : (s : Shape) (log : List Logged) (t : Taken) → Contains (waiting s log) t → Contains (takes log) t
waits_taken s log t held = elim (Contains-append_cases (filter (λ u. waits s log u && was_placed s log u) (takes log)) (fresh_entries s log) t held) [
  | inl lost ↦ (filtered_from (λ u. waits s log u && was_placed s log u) (takes log) t lost).0
  | inr fresh ↦ (filtered_from (λ u. not (was_placed s log u)) (takes log) t fresh).0
]

module _ (i : Image) (w : World) (mount : IsLegalMount i w) where
  abbrev log : List Logged
  log = log_of w 0

  -- ---- the front taken before and after an event that takes an entry

  module _ (n : ℕ) (l : Logged) (there : slice_get (log_of w 0) n ≡ Some l) (t : Taken) (its : l.event ≡ Decides (Take t.entry t.mark)) where
    d : IsDecided i w mount.legal n (Take t.entry t.mark) l
    d = decided i w mount.legal n (Take t.entry t.mark) l there its

    pub position : t.entry.position ≡ taken (take n (log_of w 0))
    position = d.allowed.2.position ∙ ap taken d.own

    -- the mount had begun
    pub has_begun : 0 < n
    has_begun = go n refl
      where
        go : (m : ℕ) → n ≡ m → 0 < n
        go zero e =
            let b : begun (take n log) ≡ Some d.allowed.0 = sym (ap begun d.own) ∙ d.allowed.1 in
            absurd (none-some d.allowed.0 (sym (ap (λ k. begun (take k log)) e) ∙ b))
        go (suc m) e = omega arith

    one_more : taken (take (suc n) (log_of w 0)) ≡ taken (take n (log_of w 0)) + 1
    one_more =
        let now : takes (take (suc n) log) ≡ takes (take n log) ++ option_to_list (taken_by l.event) =
        ap takes (take_next log n l there) ∙ takes_more (take n log) l in
        let count : length (takes (take (suc n) log)) ≡ length (takes (take n log)) + 1 =
        ap length now ∙ ap (λ (e : Event). length (takes (take n log) ++ option_to_list (taken_by e))) its
        ∙ length-append (takes (take n log)) (t ∷ []) in
        let first : first_position (take n log) ≡ first_position log = first_at log n has_begun in
        let first_then : first_position (take (suc n) log) ≡ first_position log = first_at log (suc n) (omega arith) in
        omega arith

  -- a copy that was taken lies below the front taken
  pub below_front : (n m : ℕ) (entry : Entry) (mark : Mark) → TookCopy (log_of w 0) m entry mark → m < n → entry.position < taken (take n (log_of w 0))
  below_front n m entry mark took less =
      let own : entry.position ≡ taken (take m log) =
      position m (record { event = Decides (Take entry mark); knows = took.knows }) took.there (record { entry = entry; mark = mark }) refl in
      let next : taken (take (suc m) log) ≡ taken (take m log) + 1 =
      one_more m (record { event = Decides (Take entry mark); knows = took.knows }) took.there (record { entry = entry; mark = mark }) refl in
      let rise : taken (take (suc m) log) ≤ taken (take n log) = taken_rises log (suc m) n (omega arith) less in
      omega arith

  -- ---- the event that took an entry at or past the front of a length

  pub record IsTakenWhen (from n : ℕ) (t : Taken) : Type 0 where
    pub number : ℕ
    pub logged : Logged
    pub there : slice_get (log_of w 0) number ≡ Some logged
    pub event : logged.event ≡ Decides (Take t.entry t.mark)
    pub late : from ≤ number
    pub early : number < n

  pub taken_when : (from n : ℕ) (t : Taken) → 0 < from → Contains (takes (take n (log_of w 0))) t → taken (take from (log_of w 0)) ≤ t.entry.position
      → IsTakenWhen from n t
  taken_when from n t some held past = go (cases_lt its.number from)
    where
      among : IsAmong (takes (take n (log_of w 0))) t
      among = among_contained (takes (take n log)) t held

      its : IsTakenAt (take n (log_of w 0)) among.0 t
      its = taken_at (take n log) among.0 t among.1

      place : (slice_get (log_of w 0) its.number ≡ Some its.logged) × (its.number < n)
      place = get_whole_within n log its.number its.logged its.there

      go : (its.number < from) ⊎ (from ≤ its.number) → IsTakenWhen from n t
      go (inr late) = record { number = its.number; logged = its.logged; there = place.0; event = its.event; late = late; early = place.1 }
      go (inl low) =
          let rise : taken (take (suc its.number) log) ≤ taken (take from log) = taken_rises log (suc its.number) from (omega arith) low in
          absurd (omega (arith, position its.number its.logged place.0 t its.event, one_more its.number its.logged place.0 t its.event, past))

  -- ---- where no user's entry is taken

  module _ (from : ℕ) (quiet : IsQuietFrom (log_of w) from) where
    -- what is taken is a copy
    pub copied : (n : ℕ) (l : Logged) → slice_get (log_of w 0) n ≡ Some l → (t : Taken) → l.event ≡ Decides (Take t.entry t.mark) → from ≤ n
        → TookCopy (log_of w 0) n t.entry t.mark
    copied n l there t its late = go t.entry.source refl
      where
        event : slice_get (log_of w 0) n ≡ Some (record { event = Decides (Take t.entry t.mark); knows = l.knows })
        event = there ∙ ap (λ (x : Event). Some (record { event = x; knows = l.knows })) its

        go : (o : Option Source) → t.entry.source ≡ o → TookCopy (log_of w 0) n t.entry t.mark
        go None e = absurd (quiet.each n l.knows t.entry t.mark late event e)
        go (Some source) e = record { knows = l.knows; there = event; source = source; is_copy = e }

    module _ (at : ℕ → ℕ) (turns : AreBegunAt i (log_of w) at) where
      -- where a copy was begun before, none was taken since, and it has the position at the front
      first_position_then : (n : ℕ) (entry : Entry) (mark : Mark) (took : TookCopy (log_of w 0) n entry mark) → 0 < from → from ≤ n → at n < from
          → entry.position ≡ taken (take from (log_of w 0))
      first_position_then n entry mark took some late before =
          position_is i w mount at turns n entry mark took ∙ unmoved n late (omega arith)
        where
          unmoved : (k : ℕ) → from ≤ k → k ≤ n → taken (take k (log_of w 0)) ≡ taken (take from (log_of w 0))
          unmoved zero low high = absurd (omega arith)
          unmoved (suc k) low high = go (λ first upto. unmoved k first upto) (cases_lt k from)
            where
              inside : k < length (log_of w 0)
              inside = let upto : n < length log = slice_get_within log n (record { event = Decides (Take entry mark); knows = took.knows }) took.there in
                  omega arith

              l : (x : Logged) × (slice_get (log_of w 0) k ≡ Some x)
              l = got_within log k inside

              none : (from ≤ k → k ≤ n → taken (take k (log_of w 0)) ≡ taken (take from (log_of w 0))) → taken_by l.0.event ≡ None → from ≤ k
                  → taken (take (suc k) (log_of w 0)) ≡ taken (take from (log_of w 0))
              none before_k e first =
                  let now : takes (take (suc k) log) ≡ takes (take k log) ++ [] =
                  ap takes (take_next log k l.0 l.1) ∙ takes_more (take k log) l.0 ∙ ap (λ (o : Option Taken). takes (take k log) ++ option_to_list o) e in
                  let count : length (takes (take (suc k) log)) ≡ length (takes (take k log)) =
                  ap length now ∙ length-append (takes (take k log)) [] ∙ omega arith in
                  let first_k : first_position (take k log) ≡ first_position log = first_at log k (omega (arith, some)) in
                  let first_then : first_position (take (suc k) log) ≡ first_position log = first_at log (suc k) (omega arith) in
                  omega (arith, before_k first (omega arith))

              by : (from ≤ k → k ≤ n → taken (take k (log_of w 0)) ≡ taken (take from (log_of w 0))) → (e : Event) → l.0.event ≡ e → from ≤ k
                  → taken (take (suc k) (log_of w 0)) ≡ taken (take from (log_of w 0))
              by before_k (Decides (Take other other_mark)) its first =
                  absurd (alone i w mount at turns n entry mark took k other other_mark
                  (copied k l.0 l.1 (record { entry = other; mark = other_mark }) its first) (omega (arith, before)) (omega arith))
              by before_k e its first = none before_k (ap taken_by its) first

              go : (from ≤ k → k ≤ n → taken (take k (log_of w 0)) ≡ taken (take from (log_of w 0))) → (k < from) ⊎ (from ≤ k)
                  → taken (take (suc k) (log_of w 0)) ≡ taken (take from (log_of w 0))
              go before_k (inl less) = let same : suc k ≡ from = omega arith in ap (λ m. taken (take m log)) same
              go before_k (inr more) = by before_k l.0.event refl more

      -- a copy past that position was begun since
      pub begun_since : (n : ℕ) (entry : Entry) (mark : Mark) → TookCopy (log_of w 0) n entry mark → 0 < from
          → taken (take from (log_of w 0)) < entry.position → (from ≤ at n) × (from ≤ n)
      begun_since n entry mark took some past = (go (cases_lt (at n) from), late)
        where
          own : entry.position ≡ taken (take n (log_of w 0))
          own = position_is i w mount at turns n entry mark took

          late : from ≤ n
          late = by (cases_lt n from)
            where
              by : (n < from) ⊎ (from ≤ n) → from ≤ n
              by (inr low) = low
              by (inl less) =
                  let first : 0 < n = has_begun n (record { event = Decides (Take entry mark); knows = took.knows }) took.there
                  (record { entry = entry; mark = mark }) refl in
                  let rise : taken (take n log) ≤ taken (take from log) = taken_rises log n from first (omega arith) in
                  absurd (omega (arith, own))

          go : (at n < from) ⊎ (from ≤ at n) → from ≤ at n
          go (inr low) = low
          go (inl less) = absurd (omega (arith, first_position_then n entry mark took some late less, past))
