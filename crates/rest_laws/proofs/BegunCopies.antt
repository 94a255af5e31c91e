-- Copies that were begun of a line which was freed since, or which is the victim at work and may be
-- freed: all that was taken before one of them was begun is below the front synced.
use Rattle.std.proofs.Common.{◌≡◌, ◌⊎◌, inl, inr, ℕ, ◌+◌, ◌-◌, ◌<◌, ◌≤◌, zero, suc, false, Some, None, Option, List, length, take, refl, sym, subst, ap, ◌∙◌, arith, length-take, if◌then◌else◌}
use Rattle.std.specs.Prelude.{slice_get}
use Rattle.std.specs.List.{Contains}
use Rattle.std.proofs.lemmas.Option.{same_Some, slice_get_within}
use Rattle.std.proofs.Math.Seq.{take-length}
use Rattle.pblk_model.specs.declared.chunk.Mark.{Mark}
use Rattle.pblk_model.specs.Contents.{counted, winner}
use Rattle.pblk_model.specs.Image.{Image}
use Rattle.pblk_model.specs.Marks.{void_mark}
use Rattle.pblk_laws.proofs.Winners.{winner_is_winner}
use Rattle.pblk_world.specs.AtRest.{logs_at, victim_now}
use Rattle.pblk_world.specs.EngineLog.{AsFound, Freed, LineLife, life_of, Opened, placements, Taken, takes}
use Rattle.pblk_world.specs.Events.{Decides, Entry, Logged, Source, Take}
use Rattle.pblk_world.specs.Fronts.{last_take, synced, taken}
use Rattle.pblk_world.specs.Lines.{found_image}
use Rattle.pblk_world.specs.Taking.{Copies, CopiesStale, IsMarked, IsPlaceOfLatest, MayTake}
use Rattle.pblk_world.specs.Victims.{comes_to_work, engine_prefix, is_freed, stays_at_work, victim}
use Rattle.pblk_world.specs.World.{World, Logs, log_of, prefixes}
use Rattle.pblk_model.proofs.Lists.{IsAmong}
use Rattle.pblk_world.specs.LegalMounts.{IsLegalMount}
use Rattle.pblk_world.specs.Reasons.{AreBegun, WasBegun}
use Rattle.world_laws.proofs.KeptChunks.{found_before}
use Rattle.world_laws.proofs.NextLives.{IsDecided, IsOpenSince, decided, open_since}
use Rattle.world_laws.proofs.Positions.{position_below}
use Rattle.world_laws.proofs.Stripes.{life_of_stripe, opening_then}
use Rattle.world_laws.proofs.EarlierLogs.{some_begun}
use Rattle.core_laws.proofs.LandedNow.{found_below}
use Rattle.core_laws.proofs.LastTakes.{last_is, last_none}
use Rattle.rest_laws.proofs.LengthLogs.{IsWorldAt, found_then_at, victim_at, world_at}
use Rattle.rest_laws.proofs.Latest.{entry_after, overtaken_since}
use Rattle.rest_laws.proofs.Overtaken.{IsOutlived, IsOvertaken}

-- ---- the victim at work stays until it is freed

module _ (i : Image) (w : World) (mount : IsLegalMount i w) where
  abbrev log : List Logged
  log = log_of w 0

  -- a line that has the life that it had, and wasn't freed then, wasn't freed in between
  pub unfreed_since : (line a n m : ℕ) → n ≤ length (log_of w 0) → life_of (take n (log_of w 0)) line ≡ life_of (take a (log_of w 0)) line
      → is_freed (life_of (take a (log_of w 0)) line) ≡ false → a ≤ m → m ≤ n → is_freed (life_of (take m (log_of w 0)) line) ≡ false
  unfreed_since line a n m inside same stands low high = go (life_of (take a log) line) refl stands
    where
      go : (life : LineLife) → life_of (take a (log_of w 0)) line ≡ life → is_freed life ≡ false
          → is_freed (life_of (take m (log_of w 0)) line) ≡ false
      go (Freed was knows) is h = absurd cc
      go AsFound is h =
          let far : m + (n - m) ≡ n = omega arith in
          ap is_freed (found_before log line m (n - m) (omega arith) (ap (λ k. life_of (take k log) line) far ∙ same ∙ is))
      go (Opened o) is h =
          let since : IsOpenSince i w mount.legal line n o = open_since i w mount.legal n line o inside (same ∙ is) in
          let early : o.number < a = (opening_then log a line o is).2 in
          ap is_freed (since.since m (omega arith) high)

  stays : (line a d : ℕ) → victim i (log_of w) a ≡ Some line
      → ((m : ℕ) → a ≤ m → m ≤ a + d → is_freed (life_of (take m (log_of w 0)) line) ≡ false) → victim i (log_of w) (a + d) ≡ Some line
  unfolding victim
  stays line a zero at kept = let same : a + 0 ≡ a = omega arith in ap (victim i (log_of w)) same ∙ at
  stays line a (suc d) at kept =
      let next : a + suc d ≡ suc (a + d) = omega arith in
      let before : victim i (log_of w) (a + d) ≡ Some line = stays line a d at (λ m low high. kept m low (omega arith)) in
      let stands : is_freed (life_of (take (suc (a + d)) log) line) ≡ false = kept (suc (a + d)) (omega arith) (omega arith) in
      ap (victim i (log_of w)) next
      ∙ ap (stays_at_work i (engine_prefix (suc (a + d)) (log_of w))) before
      ∙ ap (λ b. if b then comes_to_work i (engine_prefix (suc (a + d)) (log_of w)) else Some line) stands

  pub stays_at : (line a n : ℕ) → a ≤ n → n ≤ length (log_of w 0) → victim i (log_of w) a ≡ Some line
      → life_of (take n (log_of w 0)) line ≡ life_of (take a (log_of w 0)) line → is_freed (life_of (take a (log_of w 0)) line) ≡ false
      → victim i (log_of w) n ≡ Some line
  stays_at line a n low inside at same stands =
      let far : a + (n - a) ≡ n = omega arith in
      ap (victim i (log_of w)) (sym far)
      ∙ stays line a (n - a) at (λ m from to. unfreed_since line a n m inside same stands from (omega arith))

  -- ---- the place of a sector's latest

  -- a line in which it is wasn't freed
  place_unfreed : (a lba : ℕ) (source : Source) → a ≤ length (log_of w 0) → (o : Option Taken)
      → IsPlaceOfLatest i (logs_at a (log_of w)) lba source o → is_freed (life_of (take a (log_of w 0)) source.line) ≡ false
  place_unfreed a lba source inside None its = ap is_freed its.not_freed
  place_unfreed a lba source inside (Some t) its =
      let v : IsWorldAt i w a = world_at i w a mount.legal inside in
      let life = life_of_stripe i v.world its.placed v.legal
      (subst (λ (xs : List Logged). Contains (placements xs) its.placed) (sym v.own) its.is_placed) in
      ap is_freed (its.not_freed ∙ life.1)

  -- its position was taken before, or stood in the image that was found
  source_before : (a lba : ℕ) (source : Source) → 0 < a → a ≤ length (log_of w 0) → (o : Option Taken) → last_take (take a (log_of w 0)) lba ≡ o
      → IsPlaceOfLatest i (logs_at a (log_of w)) lba source o → (t : Taken) → IsAmong (takes (log_of w 0)) t
      → taken (take a (log_of w 0)) ≤ t.entry.position → source.position < t.entry.position
  source_before a lba source some inside (Some u) last its t at after =
      let v : IsWorldAt i w a = world_at i w a mount.legal inside in
      let its_last = last_is i v.world v.legal lba u (ap (λ (xs : List Logged). last_take xs lba) v.own ∙ last) in
      let low : u.entry.position < taken (log_of v.world 0) = position_below i v.world its_last.0.0 u v.legal its_last.0.1 in
      let same : taken (log_of v.world 0) ≡ taken (take a log) = ap taken v.own in
      let position : source.position ≡ u.entry.position = its.position in
      omega arith
  source_before a lba source some inside None last its t at after =
      let wins : winner (counted (found_image i (log_of w))) lba ≡ Some its.winning =
      ap (λ (j : Image). winner (counted j) lba) (sym (found_then_at i w a mount.legal some inside)) ∙ its.is_winner in
      let b = some_begun i w mount.legal (omega arith) in
      let low : its.winning.position < t.entry.position = found_below i w mount b.0 its.winning t b.1
      (winner_is_winner (found_image i (log_of w)) lba its.winning wins).there at in
      let position : source.position ≡ its.winning.position = its.position in
      omega arith

  -- ---- a copy that isn't Void

  module _ (k : ℕ) (knows : List ℕ) (entry : Entry) (mark : Mark) (source : Source)
      (there : slice_get (log_of w 0) k ≡ Some (record { event = Decides (Take entry mark); knows = knows }))
      (b : WasBegun i (log_of w) k entry.lba source) where
    d : IsDecided i w mount.legal k (Take entry mark) (record { event = Decides (Take entry mark); knows = knows })
    d = decided i w mount.legal k (Take entry mark) (record { event = Decides (Take entry mark); knows = knows }) there refl

    abbrev known : Logs
    known = prefixes (record { event = Decides (Take entry mark); knows = knows }) (log_of w)

    pub may : MayTake i (prefixes (record { event = Decides (Take entry mark); knows = knows }) (log_of w)) entry mark
    may = d.allowed.2

    pub taken_inside : k < length (log_of w 0)
    taken_inside = slice_get_within (log_of w 0) k (record { event = Decides (Take entry mark); knows = knows }) there

    at : entry.position ≡ taken (take k (log_of w 0))
    at = may.position ∙ ap taken d.own

    -- nothing of its sector was taken since it was begun
    pub none_between : (t : Taken) → IsAmong (takes (log_of w 0)) t → t.mark.lba ≡ entry.lba → taken (take b.at (log_of w 0)) ≤ t.entry.position
        → Copies i (prefixes (record { event = Decides (Take entry mark); knows = knows }) (log_of w)) entry mark source
        → entry.position ≤ t.entry.position
    none_between t among its after c = go (entry_after i w k t mount (omega (arith, b.has_begun, b.within)) among)
      where
        v : IsWorldAt i w k
        v = world_at i w k mount.legal (omega (arith, taken_inside))

        by : IsAmong (takes (take k (log_of w 0))) t → (o : Option Taken) → last_take (take k (log_of w 0)) entry.lba ≡ o
            → IsPlaceOfLatest i (prefixes (record { event = Decides (Take entry mark); knows = knows }) (log_of w)) entry.lba source o
            → entry.position ≤ t.entry.position
        by before None last place = absurd (last_none i v.world v.legal entry.lba (ap (λ (xs : List Logged). last_take xs entry.lba) v.own ∙ last) t
            (subst (λ (xs : List Logged). IsAmong (takes xs) t) (sym v.own) before) its)
        by before (Some u) last place =
            let u_is = last_is i v.world v.legal entry.lba u (ap (λ (xs : List Logged). last_take xs entry.lba) v.own ∙ last) in
            let most : t.entry.position ≤ u.entry.position =
            u_is.2 t (subst (λ (xs : List Logged). IsAmong (takes xs) t) (sym v.own) before) its in
            let same : source.position ≡ u.entry.position = place.position in
            let low : source.position < t.entry.position = source_before b.at entry.lba source b.has_begun (omega (arith, b.within, taken_inside))
            (last_take (take b.at log) entry.lba) refl b.latest t among after in
            absurd (omega arith)

        go : IsAmong (takes (take k (log_of w 0))) t ⊎ (taken (take k (log_of w 0)) ≤ t.entry.position) → entry.position ≤ t.entry.position
        go (inr later) = omega (arith, at)
        go (inl before) = by before (last_take (take k log) entry.lba) refl
            (subst (λ (xs : List Logged). IsPlaceOfLatest i known entry.lba source (last_take xs entry.lba)) d.own c.latest.place)

  -- ---- a copy that was begun

  module _ (line : ℕ) (at_work : victim_now i (log_of w) ≡ Some line) (out : IsOutlived i w mount line) where
    -- where its line has its life still, it is the victim at work
    begun_dead : (n lba : ℕ) (source : Source) → n ≤ length (log_of w 0) → (b : WasBegun i (log_of w) n lba source)
        → life_of (log_of w 0) source.line ≡ life_of (take b.at (log_of w 0)) source.line → IsOutlived i w mount source.line
    begun_dead n lba source inside b same =
        let within : b.at ≤ n = b.within in
        let whole : length (take b.at log) ≡ b.at = omega (arith, length-take b.at log) in
        let then_ : victim i (log_of w) b.at ≡ Some source.line =
        sym (victim_at i w b.at mount.legal (omega arith)) ∙ ap (victim i (logs_at b.at (log_of w))) (sym whole) ∙ b.due.at_work
        ∙ ap (λ n. Some n) (sym b.line) in
        let now : victim i (log_of w) (length log) ≡ Some source.line =
        stays_at source.line b.at (length log) (omega arith) (omega arith) then_
        (ap (λ (xs : List Logged). life_of xs source.line) (take-length log) ∙ same)
        (place_unfreed b.at lba source (omega arith) (last_take (take b.at log) lba) b.latest) in
        subst (IsOutlived i w mount) (same_Some line source.line (sym at_work ∙ now)) out

    pub begun_overtaken : (n lba : ℕ) (source : Source) → n ≤ length (log_of w 0) → lba < i.shape.capacity → (b : WasBegun i (log_of w) n lba source)
        → IsOvertaken i w lba (taken (take b.at (log_of w 0)))
    begun_overtaken n lba source inside small b =
        let within : b.at ≤ n = b.within in
        overtaken_since i w mount b.at lba source b.has_begun (omega arith) small (begun_dead n lba source inside b) b.latest

    -- what was taken before is below the front synced
    pub before_begun : (n lba : ℕ) (source : Source) → n ≤ length (log_of w 0) → lba < i.shape.capacity → (b : WasBegun i (log_of w) n lba source)
        → taken (take b.at (log_of w 0)) < synced i.shape (log_of w 0)
    before_begun n lba source inside small b =
        let h : IsOvertaken i w lba (taken (take b.at log)) = begun_overtaken n lba source inside small b in
        let least : taken (take b.at log) ≤ h.t.entry.position = h.least in
        let below : h.t.entry.position < synced i.shape log = h.below in
        omega arith

    -- ---- a copy that was taken

    module _ (begun_all : AreBegun i (log_of w)) (k : ℕ) (knows : List ℕ) (entry : Entry) (mark : Mark) (source : Source)
        (there : slice_get (log_of w 0) k ≡ Some (record { event = Decides (Take entry mark); knows = knows })) (copy : entry.source ≡ Some source) where
      abbrev known_then : Logs
      known_then = prefixes (record { event = Decides (Take entry mark); knows = knows }) (log_of w)

      abbrev pub its : WasBegun i (log_of w) k entry.lba source
      its = begun_all.each k knows entry mark source there copy

      its_may : MayTake i (prefixes (record { event = Decides (Take entry mark); knows = knows }) (log_of w)) entry mark
      its_may = may k knows entry mark source there its

      inside : k < length (log_of w 0)
      inside = taken_inside k knows entry mark source there its

      pub copy_before : taken (take its.at (log_of w 0)) < synced i.shape (log_of w 0)
      copy_before = before_begun k entry.lba source (omega (arith, inside)) its_may.lba its

      -- a copy that isn't Void took the sector itself
      pub copy_synced_or_void : (entry.position < synced i.shape (log_of w 0)) ⊎ (mark ≡ void_mark entry.position)
      copy_synced_or_void = go (subst (IsMarked i known_then entry mark) copy its_may.marked)
        where
          go : Copies i (prefixes (record { event = Decides (Take entry mark); knows = knows }) (log_of w)) entry mark source
              ⊎ CopiesStale i (prefixes (record { event = Decides (Take entry mark); knows = knows }) (log_of w)) entry mark source
              → (entry.position < synced i.shape (log_of w 0)) ⊎ (mark ≡ void_mark entry.position)
          go (inr stale) = inr stale.names_none
          go (inl c) =
              let h : IsOvertaken i w entry.lba (taken (take its.at log)) = begun_overtaken k entry.lba source (omega (arith, inside)) its_may.lba its in
              let low : entry.position ≤ h.t.entry.position = none_between k knows entry mark source there its h.t h.there h.of_it h.least c in
              let below : h.t.entry.position < synced i.shape log = h.below in
              inl (omega arith)
