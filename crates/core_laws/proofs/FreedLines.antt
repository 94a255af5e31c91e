-- A line to which nothing more is written, once it is freed: no line of the placer's goes, and as
-- many addresses are left as before.
use Rattle.std.proofs.Common.{◌≡◌, ℕ, ◌+◌, ◌-◌, ◌*◌, ◌/◌, ◌^◌, ◌<◌, ◌&&◌, not, min, max, nat_eq, nat_le, nat_lt, Bool, true, false, cond, Some, None, Option, List, [], ◌∷◌, length, refl, sym, ap, ap₂, ◌∙◌, if◌then◌else◌}
use Rattle.std.specs.Prelude.{map}
use Rattle.std.specs.List.{filter, range_with_len}
use Rattle.std.specs.Option.{is_some, option_map}
use Rattle.std.proofs.lemmas.Bool.{eqb-true, eqb-false}
use Rattle.std.proofs.lemmas.Option.{none-some}
use Rattle.pblk_model.specs.Shape.{units}
use Rattle.pblk_model.specs.Image.{Image}
use Rattle.pblk_model.specs.StartRecord.{StartRecord, start_of}
use Rattle.pblk_world.specs.Events.{Decides, Free, Logged}
use Rattle.pblk_world.specs.World.{World, Logs, log_of}
use Rattle.pblk_world.specs.EngineLog.{AsFound, Begun, begun, Freed, is_life, LineLife, life_of, Opened, Opening, openings}
use Rattle.pblk_world.specs.Fronts.{first_position}
use Rattle.pblk_world.specs.Lines.{are_empty, are_over, found_image, has_number, is_free_line, known_image, line_data}
use Rattle.pblk_world.specs.Space.{free_addresses, freed, full_data, is_due, open_addresses, placed_front, room, unplaced_in}
use Rattle.pblk_world.specs.Starts.{seq_in, seq_of}
use Rattle.stripe_placer.specs.OpenLines.{has_left}
use Rattle.pblk_world.specs.LegalMounts.{IsLegalMount}
use Rattle.core_laws.specs.LeftOpenings.{left_openings}
use Rattle.core_laws.specs.OpenedLines.{open_line, open_lines}
use Rattle.core_laws.specs.PlacerOf.{contains_unit, entries_of, placing_of, unit_row_in}
use Rattle.core_laws.specs.Stepping.{after}
use Rattle.core_laws.proofs.DoneLines.{none_left, none_unplaced}
use Rattle.core_laws.proofs.Engine.{openings_before, stopped_more}
use Rattle.core_laws.proofs.FreedLives.{free_is_quiet, known_freed, life_beside, life_freed, openings_freed}
use Rattle.core_laws.proofs.FreedWidths.{numbered_used}
use Rattle.core_laws.proofs.KeptSlots.{first_kept}
use Rattle.core_laws.proofs.KeptStripes.{KeepsStripes, stripes_kept}
use Rattle.core_laws.proofs.LandedNow.{opened_now}
use Rattle.core_laws.proofs.LeftLines.{left_before, lines_of_left}
use Rattle.core_laws.proofs.OpenAddresses.{unplaced_kept}
use Rattle.core_laws.proofs.PlacedFront.{front_kept}
use Rattle.core_laws.proofs.QuietEvents.{quiet_alike, quiet_freed, quiet_takes}
use Rattle.core_laws.proofs.RangeSums.{sum_same}
use Rattle.core_laws.proofs.StandingOpenings.{alive_opened, opening_at, openings_there}
use Rattle.core_laws.proofs.Steady.{AreAlike, open_line_same, row_same, unanswered_in}
use Rattle.core_laws.proofs.SteppingLemmas.{found_kept}
use Rattle.core_laws.proofs.Stopping.{entries_same}
use Rattle.core_laws.proofs.Taking.{same_placing}
use Rattle.pblk_model.proofs.Lists.{zipped}
use Rattle.pblk_model.proofs.Maps.{filter_agree, map_agree, map_same}
use Rattle.pblk_model.proofs.Parts.{all_by_get}

-- one test after another is one test
filter_twice : {X : Type 0} (f g : X → Bool) (xs : List X) → filter f (filter g xs) ≡ filter (λ x. g x && f x) xs
filter_twice f g [] = refl
filter_twice f g (x ∷ xs) = go (g x) (filter_twice f g xs)
  where
    go : (b : Bool) → filter f (filter g xs) ≡ filter (λ x. g x && f x) xs
        → filter f (cond b (x ∷ filter g xs) (filter g xs)) ≡ cond (b && f x) (x ∷ filter (λ x. g x && f x) xs) (filter (λ x. g x && f x) xs)
    go true rest = ap (cond (f x) (x ∷ filter f (filter g xs))) rest ∙ ap (λ ys. cond (f x) (x ∷ ys) (filter (λ x. g x && f x) xs)) rest
    go false rest = rest

module _ (i : Image) (w : World) (mount : IsLegalMount i w) (line : ℕ) (knows : List ℕ) (over : are_over i (log_of w) line ≡ true) where
  abbrev log : List Logged
  log = log_of w 0

  abbrev new : Logs
  new = after (log_of w) (Free line) knows

  alike : AreAlike (log_of w 0) (after (log_of w) (Free line) knows 0)
  alike = quiet_alike (log_of w 0) (Free line) knows (free_is_quiet (log_of w 0) line knows)

  -- ---- openings

  -- an opening of the log
  record IsOpening (o : Opening) : Type 0 where
    before : o.number < length (log_of w 0)
    there : opening_at (log_of w 0) o.number ≡ Some o

  abbrev has_stripe : Logs → Opening → Bool
  has_stripe ls o = is_life o.number (life_of (ls 0) o.line) && has_left (open_line i ls o)

  same_stripes : (o : Opening) → IsOpening o → has_stripe (after (log_of w) (Free line) knows) o ≡ has_stripe (log_of w) o
  same_stripes o is = go (nat_eq o.line line) refl
    where
      stood : (b : Bool) → is_life o.number (life_of (log_of w 0) o.line) ≡ b → o.line ≡ line → (b && has_left (open_line i (log_of w) o)) ≡ false
      stood false e here = refl
      stood true e here = none_left i w mount o (alive_opened log o is.there e) (ap (are_over i (log_of w)) here ∙ over)

      go : (b : Bool) → nat_eq o.line line ≡ b → has_stripe (after (log_of w) (Free line) knows) o ≡ has_stripe (log_of w) o
      go true e =
          let here : o.line ≡ line = eqb-true o.line line e in
          ap (λ life. is_life o.number life && has_left (open_line i new o)) (ap (life_of (new 0)) here ∙ life_freed log line knows)
          ∙ sym (stood (is_life o.number (life_of log o.line)) refl here)
      go false e = ap₂ (λ life l. is_life o.number life && has_left l) (life_beside log line knows o.line (eqb-false o.line line e))
          (open_line_same i (log_of w) (Free line) knows alike o is.before)

  -- those whose lines have a stripe left
  pub left_freed : left_openings i (after (log_of w) (Free line) knows) ≡ left_openings i (log_of w)
  left_freed =
      filter_twice (λ o. has_left (open_line i new o)) (λ o. is_life o.number (life_of (new 0) o.line)) (openings (new 0))
      ∙ ap (filter (has_stripe new)) (openings_freed log line knows)
      ∙ filter_agree IsOpening (has_stripe new) (has_stripe (log_of w)) same_stripes (openings log)
      (zipped (λ (o : Opening). o.number < length log) (λ (o : Opening). opening_at log o.number ≡ Some o) IsOpening
      (λ o a b. record { before = a; there = b }) (openings log) (openings_before log) (openings_there log))
      ∙ sym (filter_twice (λ o. has_left (open_line i (log_of w) o)) (λ o. is_life o.number (life_of log o.line)) (openings log))

  pub lines_freed : open_lines i (after (log_of w) (Free line) knows) ≡ open_lines i (log_of w)
  lines_freed =
      lines_of_left i new ∙ ap (map (open_line i new)) left_freed
      ∙ map_agree (λ (o : Opening). o.number < length log) (open_line i new) (open_line i (log_of w))
      (open_line_same i (log_of w) (Free line) knows alike) (left_openings i (log_of w))
      (all_by_get (λ (o : Opening). o.number < length log) (left_openings i (log_of w)) (λ k o at. left_before i (log_of w) k o at))
      ∙ sym (lines_of_left i (log_of w))

  -- the placer is as it was
  pub placing_freed : (pad : ℕ) (again : List ℕ) → placing_of i (after (log_of w) (Free line) knows) pad again ≡ placing_of i (log_of w) pad again
  placing_freed pad again =
      same_placing i.shape (entries_of i.shape (new 0) pad) (entries_of i.shape log pad)
      (map (unit_row_in i new again) (range_with_len 0 (units i.shape))) (map (unit_row_in i (log_of w) again) (range_with_len 0 (units i.shape)))
      (open_lines i new) (open_lines i (log_of w))
      (entries_same i.shape log (new 0) pad alike (quiet_takes log (Free line) knows (free_is_quiet log line knows)))
      (map_same (unit_row_in i new again) (unit_row_in i (log_of w) again)
      (λ u. row_same i (log_of w) (Free line) knows again again u (ap₂ (λ ps ns. unanswered_in ps ns u) alike.placements alike.answers)
      (ap (λ b. b && not (contains_unit again u)) (stopped_more log (record { event = Decides (Free line); knows = knows }) u)))
      (range_with_len 0 (units i.shape))) lines_freed

  -- ---- addresses

  unplaced_was : unplaced_in i.shape (log_of w 0) (life_of (log_of w 0) line) ≡ 0
  unplaced_was = go (life_of log line) refl
    where
      go : (life : LineLife) → life_of (log_of w 0) line ≡ life → unplaced_in i.shape (log_of w 0) life ≡ 0
      go AsFound e = refl
      go (Freed was ks) e = refl
      go (Opened o) e =
          let its : o.line ≡ line = (opened_now i w mount line o e).1 in
          none_unplaced i w mount o (ap (life_of log) its ∙ e) (ap (are_over i (log_of w)) its ∙ over)

  pub open_freed : open_addresses i (after (log_of w) (Free line) knows) ≡ open_addresses i (log_of w)
  open_freed = sum_same (λ m. unplaced_in i.shape (new 0) (life_of (new 0) m)) (λ m. unplaced_in i.shape log (life_of log m)) (λ m. go m (nat_eq m line) refl)
      (range_with_len 0 i.shape.chunks)
    where
      kept : KeepsStripes (log_of w 0) (after (log_of w) (Free line) knows 0)
      kept = stripes_kept (log_of w 0) (Free line) knows refl

      go : (m : ℕ) (b : Bool) → nat_eq m line ≡ b
          → unplaced_in i.shape (after (log_of w) (Free line) knows 0) (life_of (after (log_of w) (Free line) knows 0) m)
          ≡ unplaced_in i.shape (log_of w 0) (life_of (log_of w 0) m)
      go m true e =
          let here : m ≡ line = eqb-true m line e in
          ap (λ k. unplaced_in i.shape (new 0) (life_of (new 0) k)) here ∙ ap (unplaced_in i.shape (new 0)) (life_freed log line knows)
          ∙ sym (ap (λ k. unplaced_in i.shape log (life_of log k)) here ∙ unplaced_was)
      go m false e = ap (unplaced_in i.shape (new 0)) (life_beside log line knows m (eqb-false m line e))
          ∙ unplaced_kept i.shape log (new 0) kept (life_of log m)

  module _ (b : Begun) (begins : begun (log_of w 0) ≡ Some b) (seq : ℕ) (has_seq : seq_of i (log_of w) line ≡ Some seq) where
    numbered : (life : LineLife) → seq_in i (log_of w) life line ≡ Some seq → has_number i (log_of w) life line ≡ true
    numbered AsFound e = some (start_of (found_image i (log_of w)) line) e
      where
        some : (x : Option StartRecord) → option_map (λ start. start.seq) x ≡ Some seq → is_some x ≡ true
        some None e = absurd cc
        some (Some start) e = refl
    numbered (Opened o) e = refl
    numbered (Freed was ks) e = absurd (none-some seq e)

    abbrev free_by : Bool → Image → ℕ → Bool
    free_by number j k = not number && are_empty j k && nat_lt 0 (line_data j k)

    free_same : (m : ℕ) → is_free_line i (after (log_of w) (Free line) knows) m ≡ is_free_line i (log_of w) m
    free_same m = go (nat_eq m line) refl
      where
        number_kept : (life : LineLife) → has_number i (after (log_of w) (Free line) knows) life m ≡ has_number i (log_of w) life m
        number_kept AsFound = ap (λ (f : Image). is_some (start_of f m)) (found_kept i (log_of w) (Free line) knows refl)
        number_kept (Opened o) = refl
        number_kept (Freed was ks) = refl

        go : (t : Bool) → nat_eq m line ≡ t → is_free_line i (after (log_of w) (Free line) knows) m ≡ is_free_line i (log_of w) m
        go true e =
            let here : m ≡ line = eqb-true m line e in
            ap (is_free_line i new) here
            ∙ ap₂ (λ life (j : Image). free_by (has_number i new life line) j line) (life_freed log line knows) (known_freed i (log_of w) line knows)
            ∙ ap (λ t. t && nat_lt 0 (line_data (known_image i (log_of w)) line)) (numbered_used i w mount line b begins seq has_seq over)
            ∙ sym (ap (is_free_line i (log_of w)) here
            ∙ ap (λ t. free_by t (known_image i (log_of w)) line) (numbered (life_of log line) has_seq))
        go false e =
            ap₂ (λ t (j : Image). free_by t j m)
            (ap (λ life. has_number i new life m) (life_beside log line knows m (eqb-false m line e)) ∙ number_kept (life_of log m))
            (known_freed i (log_of w) line knows)

    -- until its chunks are reset the line isn't Free
    pub free_freed : free_addresses i (after (log_of w) (Free line) knows) ≡ free_addresses i (log_of w)
    free_freed = sum_same (λ m. if is_free_line i new m then line_data (known_image i new) m else 0)
        (λ m. if is_free_line i (log_of w) m then line_data (known_image i (log_of w)) m else 0)
        (λ m. ap₂ (λ t (j : Image). if t then line_data j m else 0) (free_same m) (known_freed i (log_of w) line knows)) (range_with_len 0 i.shape.chunks)

    pub due_freed : is_due i (after (log_of w) (Free line) knows) ≡ is_due i (log_of w)
    due_freed = ap (λ n. nat_le n (3 * full_data i.shape)) free_freed

    pub room_freed : room i (after (log_of w) (Free line) knows) ≡ room i (log_of w)
    room_freed =
        let front : freed i.shape (new 0) ≡ freed i.shape log = quiet_freed i.shape log (Free line) knows (free_is_quiet log line knows) in
        let placed : placed_front i.shape (new 0) ≡ placed_front i.shape log = front_kept i.shape log (Free line) knows refl in
        let first : first_position (new 0) ≡ first_position log = first_kept log (Free line) knows refl in
        λ k. min (min (front k + i.shape.ring - units i.shape * i.shape.ws_opt)
        (placed k + (open_freed k + free_freed k - 2 * full_data i.shape) / i.shape.ws_opt)) (max (2 ^ 61 - 2) (first k))
