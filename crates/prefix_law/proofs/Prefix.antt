-- The contents of the media after a legal mount are those after a prefix of the history.
use Rattle.std.proofs.Common.{◌≡◌, ◌⊎◌, inl, inr, ℕ, ◌<◌, ◌≤◌, true, false, Some, None, Option, List, [], ◌∷◌, ◌++◌, map, take, length, refl, sym, subst, ap, ◌∙◌, arith}
use Rattle.std.specs.Prelude.{slice_get}
use Rattle.std.specs.List.{Contains}
use Rattle.std.proofs.Math.Seq.{take-length}
use Rattle.std.proofs.lemmas.Bool.{cases_lt, cases_order}
use Rattle.std.proofs.lemmas.List.{length-map}
use Rattle.std.proofs.lemmas.Option.{none-some, slice_get_past}
use Rattle.pblk_model.specs.declared.shape.Shape.{Shape}
use Rattle.pblk_model.specs.Image.{Image}
use Rattle.pblk_model.specs.StartRecord.{StartRecord}
use Rattle.pblk_model.specs.Records.{Record, line_records, records}
use Rattle.pblk_model.specs.Contents.{head, end, sector_of, contents}
use Rattle.pblk_model.specs.History.{after, users}
use Rattle.pblk_model.specs.Sealed.{IsSealed}
use Rattle.pblk_model.proofs.ContentsLemmas.{contents_count}
use Rattle.pblk_world.specs.Events.{Logged, Step}
use Rattle.pblk_world.specs.World.{World, log_of, media}
use Rattle.pblk_world.specs.EngineLog.{Begun, begun, life_of, Placed, placements, stripes_of, is_life, Taken, takes, holds_position}
use Rattle.pblk_world.specs.Fronts.{taken, synced, has_landed_at, history, user_positions}
use Rattle.pblk_world.specs.Lines.{found_image, next_seq}
use Rattle.pblk_world.proofs.SyncedFront.{synced_within, synced_missing}
use Rattle.pblk_laws.proofs.Ends.{end_is_end}
use Rattle.pblk_laws.proofs.FilledLists.{after_length}
use Rattle.world_laws.specs.EarlyLogs.{ArePrefixes}
use Rattle.world_laws.specs.SameImages.{HoldsTheSame}
use Rattle.world_laws.proofs.FoundImages.{found_holds, early_before, early_holds}
use Rattle.pblk_model.proofs.Lists.{among_contained}
use Rattle.pblk_model.proofs.Maps.{from_filter}
use Rattle.pblk_model.proofs.Parts.{contained_among, same_lists, take_nothing}
use Rattle.pblk_model.proofs.Tests.{not_both}
use Rattle.pblk_world.specs.LegalMounts.{IsLegalMount}
use Rattle.world_laws.proofs.Beginnings.{has_begun}
use Rattle.world_laws.proofs.NewLines.{IsTakenRecord}
use Rattle.world_laws.proofs.WinnerBlocks.{contents_at}
use Rattle.world_laws.proofs.SectorValues.{latest_is_held, found_is_held}
use Rattle.prefix_law.specs.Assembled.{IsAssembled}
use Rattle.prefix_law.specs.AfterMount.{HasNewHead}
use Rattle.prefix_law.specs.Cuts.{AreCuts}
use Rattle.prefix_law.specs.PlacedAgain.{ArePlacedAgain}
use Rattle.prefix_law.proofs.Answered.{AreAnswered, placed_has_landed}
use Rattle.prefix_law.proofs.Assembly as assembly
use Rattle.prefix_law.proofs.CutUnits.{cut_mount, engine_uncut}
use Rattle.prefix_law.proofs.LineFacts.{HasFacts, facts, sectors_below}
use Rattle.prefix_law.proofs.Mounted.{given_of, entries, after_mount, unopened_or_opened, old_line}
use Rattle.prefix_law.proofs.MountHead.{WhichHead, OfMount, AsBefore, which, AllOld, latest_entry, none_taken, none_landed, reduced}
use Rattle.prefix_law.proofs.NewHead.{assembled, old_below}
use Rattle.prefix_law.proofs.OpeningStarts.{first_found, found_shape}
use Rattle.prefix_law.proofs.RecordLines.{IsAt, record_is_at}
use Rattle.prefix_law.proofs.Reduced.{end_same, contents_same}
use Rattle.prefix_law.proofs.SectorValues.{AreSectors, contents_are_sectors}

pub whole : (w : World) → ArePrefixes w (log_of w)
whole w author = (length (log_of w author), sym (take-length (log_of w author)))

module _ (i : Image) (w : World) (b : Begun) (mount : IsLegalMount i w) (sealed : IsSealed i) (begins : begun (log_of w 0) ≡ Some b) where
  abbrev has : HasFacts i w
  has = facts i w b mount sealed begins

  abbrev now : Image
  now = media i (log_of w)

  abbrev found : Image
  found = found_image i (log_of w)

  abbrev front : ℕ
  front = synced i.shape (log_of w 0)

  made : (h : StartRecord) → HasNewHead found now (entries i w) front h → IsAssembled now h (entries i w) front (sector_of found)
  made h n = assembled found now (entries i w) front (after_mount i w b mount has begins) h n

  end_before : AllOld i w b mount has begins → end now ≡ front
  end_before all = end_same found now (reduced i w b mount has begins all) ∙ sym (none_landed i w b mount has begins all)

  -- ---- the end is between the fronts

  pub end_above : front ≤ end now
  end_above = go (which i w b mount has begins)
    where
      go : WhichHead i w b mount has begins → front ≤ end now
      go (OfMount h n) = assembly.end_above now h (entries i w) front (sector_of found) (made h n)
      go (AsBefore all) = let same : end now ≡ front = end_before all in omega arith

  pub end_within : end now ≤ taken (log_of w 0)
  end_within = go (which i w b mount has begins)
    where
      go : WhichHead i w b mount has begins → end now ≤ taken (log_of w 0)
      go (AsBefore all) =
          let same : end now ≡ front = end_before all in
          let most : front ≤ taken (log_of w 0) = synced_within i.shape (log_of w 0) in
          omega arith
      go (OfMount h n) =
          let most = assembly.end_within now h (entries i w) front (sector_of found) (made h n) in
          let count : length (map (given_of i.shape) (takes (log_of w 0))) ≡ length (takes (log_of w 0)) =
          length-map (takes (log_of w 0)) (given_of i.shape) in
          omega arith

  -- ---- the contents

  sector_count : (s : ℕ) → length (sectors_below i w s) ≡ i.shape.capacity
  sector_count s =
      after_length (contents found) (take (users (user_positions (log_of w 0)) s) (history (log_of w 0))) ∙ contents_count found
      ∙ ap (λ (x : Shape). x.capacity) (sym (found_shape i (log_of w)))

  found_at : (lba : ℕ) → lba < i.shape.capacity → slice_get (contents found) lba ≡ Some (sector_of found lba)
  found_at lba inside = contents_at found lba (subst (λ (s : Shape). lba < s.capacity) (found_shape i (log_of w)) inside)

  are_sectors : AreSectors (entries i w) (end now) (sector_of found) i.shape.capacity (sectors_below i w (end now))
  are_sectors = record {
    count = sector_count (end now);
    last = λ lba p inside last.
        let t = latest_entry i w b mount has begins lba (end now) p last in
        latest_is_held i w mount lba (end now) inside t.0 t.1 ∙ ap Some (sym t.3);
    none = λ lba inside none.
        found_is_held i w mount lba (end now) inside (none_taken i w b mount has begins lba (end now) inside none) ∙ found_at lba inside;
  }

  -- nothing was taken below the end that was found
  none_below : AllOld i w b mount has begins → contents found ≡ sectors_below i w (end now)
  none_below all = same_lists (contents found) (sectors_below i w (end now)) (λ k. at k (cases_lt k i.shape.capacity))
    where
      at : (k : ℕ) → (k < i.shape.capacity) ⊎ (i.shape.capacity ≤ k) → slice_get (contents found) k ≡ slice_get (sectors_below i w (end now)) k
      at k (inl inside) = sym (found_is_held i w mount k (end now) inside (none_taken i w b mount has begins k (end now) inside (λ p e low.
          let from : (entries i w).first ≤ p = e.entry.from in
          let first : (entries i w).first ≡ end found = first_found i w b mount.legal begins in
          let same : end now ≡ front = end_before all in
          let landed : front ≡ end found = none_landed i w b mount has begins all in
          omega arith)))
      at k (inr past) =
          let count : length (sectors_below i w (end now)) ≡ i.shape.capacity = sector_count (end now) in
          let was : length (contents found) ≡ i.shape.capacity = contents_count found ∙ ap (λ (x : Shape). x.capacity) (sym (found_shape i (log_of w))) in
          slice_get_past (contents found) k (omega arith) ∙ sym (slice_get_past (sectors_below i w (end now)) k (omega arith))

  contents_below : contents now ≡ sectors_below i w (end now)
  contents_below = go (which i w b mount has begins)
    where
      go : WhichHead i w b mount has begins → contents now ≡ sectors_below i w (end now)
      go (OfMount h n) = contents_are_sectors now h (entries i w) front (sector_of found) (sectors_below i w (end now)) (made h n) are_sectors
      go (AsBefore all) = contents_same found now (reduced i w b mount has begins all) ∙ none_below all

  pub begun_contents : contents now ≡ after (contents i) (take (users (user_positions (log_of w 0)) (end now)) (history (log_of w 0)))
  begun_contents =
      let held : HoldsTheSame i found = found_holds i w (log_of w) mount.accepted mount.fit sealed mount.legal (whole w) in
      contents_below ∙ ap (λ base. after base (take (users (user_positions (log_of w 0)) (end now)) (history (log_of w 0)))) held.contents

  -- ---- the end where the position at the front wasn't placed

  -- a record of a line of the mount is of an entry, and in a stripe that was placed
  record_placed : (x : Record) → Contains (records now) x → next_seq (head found) ≤ x.seq → IsTakenRecord i w x
      × ((p : Placed) × Contains (placements (log_of w 0)) p × (holds_position i.shape x.position p ≡ true))
  record_placed x there high =
      let at : IsAt now x = record_is_at now x there in
      elim (unopened_or_opened (life_of (log_of w 0) x.line)) [
        | inl unopened ↦
            let low : at.start.seq < next_seq (head found) =
            old_below found now (entries i w) front (after_mount i w b mount has begins) x.line at.start at.in_range
            (old_line i w x.line at.start has.old unopened at.whole) in
            let seq : x.seq ≡ at.start.seq = at.seq in
            absurd (omega arith)
        | inr opened ↦
            let its : Contains (line_records now x.line) x = contained_among (line_records now x.line) x at.there in
            let p = has.new.placed x.line opened.0 x opened.1 its in
            let among = from_filter (λ (q : Placed). is_life opened.0.number q.life) (placements (log_of w 0)) p.0
            (among_contained (stripes_of (log_of w 0) opened.0) p.0 p.1) in
            (has.new.entries x.line opened.0 x opened.1 its, (p.0, contained_among (placements (log_of w 0)) p.0 among, p.2))
      ]

  -- the entry at the front is in a stripe
  abbrev IsFrontPlaced : Taken → Placed → Type 0
  IsFrontPlaced t p =
      Contains (takes (log_of w 0)) t × (t.entry.position ≡ front) × Contains (placements (log_of w 0)) p × (holds_position i.shape front p ≡ true)

  past_front : front < end now → (h : StartRecord) → HasNewHead found now (entries i w) front h → (t : Taken) × (p : Placed) × IsFrontPlaced t p
  past_front more h n =
      let from : h.front ≤ front = n.start.within in
      let x = (end_is_end now h n.head).least front from more in
      let mount_seq : h.first_seq ≤ x.0.seq = x.2.mount in
      let first : h.first_seq ≡ next_seq (head found) = n.start.first_seq in
      let of = record_placed x.0 x.1 (omega arith) in (
        of.0.0,
        of.1.0,
        (
          contained_among (takes (log_of w 0)) of.0.0 of.0.1.there,
          of.0.1.position ∙ x.2.position,
          of.1.1,
          subst (λ q. holds_position i.shape q of.1.0 ≡ true) x.2.position of.1.2,
        ),
      )

  end_unless : (front < taken (log_of w 0) → (t : Taken) (p : Placed) → IsFrontPlaced t p → ⊥) → end now ≡ front
  end_unless none = go (which i w b mount has begins)
    where
      go : WhichHead i w b mount has begins → end now ≡ front
      go (AsBefore old) = end_before old
      go (OfMount h n) = elim (cases_order front (end now)) [
        | inl e ↦ sym e
        | inr (inl less) ↦
            let x = past_front less h n in
            let within : end now ≤ taken (log_of w 0) = end_within in
            absurd (none (omega arith) x.0 x.1 x.2)
        | inr (inr more) ↦ (let above : front ≤ end now = end_above in absurd (omega arith))
      ]

  pub end_at_unplaced : ((p : Placed) → Contains (placements (log_of w 0)) p → holds_position i.shape (synced i.shape (log_of w 0)) p ≡ false)
      → end now ≡ front
  end_at_unplaced none = end_unless (λ inside t p is. not_both (holds_position i.shape front p) is.3 (none p is.2))

  -- it wasn't, where each placed stripe is answered and what was lost was placed again
  pub end_where_answered : ArePlacedAgain i.shape (log_of w 0) → AreAnswered (log_of w 0) → end now ≡ front
  end_where_answered again answered = end_unless (λ inside t p is.
      let landed : has_landed_at i.shape (log_of w 0) t.entry.position ≡ true =
      placed_has_landed i.shape (log_of w 0) t p again answered is.0 is.2 (ap (λ q. holds_position i.shape q p) is.1 ∙ is.3) in
      not_both (has_landed_at i.shape (log_of w 0) front) (ap (has_landed_at i.shape (log_of w 0)) (sym is.1) ∙ landed)
      (synced_missing i.shape (log_of w 0) inside))

-- ---- with a beginning or without

-- a mount that didn't begin changes nothing
pub without_beginning : (i : Image) (w : World) → IsLegalMount i w → IsSealed i → begun (log_of w 0) ≡ None → HoldsTheSame i (media i (log_of w))
without_beginning i w mount sealed none =
    early_holds i w (log_of w) mount.accepted mount.fit sealed mount.legal (whole w) (early_before i w mount.legal none)

pub nothing_logged : (i : Image) (w : World) → IsLegalMount i w → begun (log_of w 0) ≡ None → log_of w 0 ≡ []
nothing_logged i w mount none = go (log_of w 0) refl
  where
    go : (log : List Logged) → log_of w 0 ≡ log → log ≡ []
    go [] e = refl
    go (l ∷ log) e = let begins = has_begun i w l log mount.legal e in absurd (none-some begins.0 (sym none ∙ begins.1))

pub prefix_contents : (i : Image) (w : World) → IsLegalMount i w → IsSealed i
    → contents (media i (log_of w)) ≡ after (contents i) (take (users (user_positions (log_of w 0)) (end (media i (log_of w)))) (history (log_of w 0)))
prefix_contents i w mount sealed = go (begun (log_of w 0)) refl
  where
    go : (o : Option Begun) → begun (log_of w 0) ≡ o
        → contents (media i (log_of w)) ≡ after (contents i) (take (users (user_positions (log_of w 0)) (end (media i (log_of w)))) (history (log_of w 0)))
    go (Some b) e = begun_contents i w b mount sealed e
    go None e =
        let count : ℕ = users (user_positions (log_of w 0)) (end (media i (log_of w))) in
        (without_beginning i w mount sealed e).contents
        ∙ sym (ap (after (contents i)) (ap (λ (log : List Logged). take count (history log)) (nothing_logged i w mount e) ∙ take_nothing count))

pub prefix_above : (i : Image) (w : World) → IsLegalMount i w → IsSealed i → synced i.shape (log_of w 0) ≤ end (media i (log_of w))
prefix_above i w mount sealed = go (begun (log_of w 0)) refl
  where
    go : (o : Option Begun) → begun (log_of w 0) ≡ o → synced i.shape (log_of w 0) ≤ end (media i (log_of w))
    go (Some b) e = end_above i w b mount sealed e
    go None e =
        let empty : taken (log_of w 0) ≡ 0 = ap taken (nothing_logged i w mount e) in
        let most : synced i.shape (log_of w 0) ≤ taken (log_of w 0) = synced_within i.shape (log_of w 0) in
        omega arith

-- ---- with cuts of units

-- the history and the fronts are those of the world that was cut
pub cut_contents : (i : Image) (w : World) (steps : List Step) → IsLegalMount i w → AreCuts i w steps → IsSealed i
    → contents (media i (log_of (steps ++ w)))
    ≡ after (contents i) (take (users (user_positions (log_of w 0)) (end (media i (log_of (steps ++ w))))) (history (log_of w 0)))
cut_contents i w steps mount cuts sealed =
    prefix_contents i (steps ++ w) (cut_mount i w steps mount cuts) sealed
    ∙ ap (λ (log : List Logged). after (contents i) (take (users (user_positions log) (end (media i (log_of (steps ++ w))))) (history log)))
    (engine_uncut i w steps cuts)

pub cut_above : (i : Image) (w : World) (steps : List Step) → IsLegalMount i w → AreCuts i w steps → IsSealed i
    → synced i.shape (log_of w 0) ≤ end (media i (log_of (steps ++ w)))
cut_above i w steps mount cuts sealed =
    subst (λ (log : List Logged). synced i.shape log ≤ end (media i (log_of (steps ++ w)))) (engine_uncut i w steps cuts)
    (prefix_above i (steps ++ w) (cut_mount i w steps mount cuts) sealed)

pub cut_within : (i : Image) (w : World) (steps : List Step) (b : Begun) → IsLegalMount i w → AreCuts i w steps → IsSealed i
    → begun (log_of w 0) ≡ Some b → end (media i (log_of (steps ++ w))) ≤ taken (log_of w 0)
cut_within i w steps b mount cuts sealed begins =
    subst (λ (log : List Logged). end (media i (log_of (steps ++ w))) ≤ taken log) (engine_uncut i w steps cuts)
    (end_within i (steps ++ w) b (cut_mount i w steps mount cuts) sealed (ap begun (engine_uncut i w steps cuts) ∙ begins))
