-- The head of the media after a legal mount, and what stands under it.
use Rattle.std.proofs.Common.{◌≡◌, ◌⊎◌, inl, inr, ℕ, ◌<◌, ◌≤◌, Bool, true, Some, None, Option, List, map, refl, sym, subst, ap, ◌∙◌, arith}
use Rattle.std.specs.List.{Contains, filter}
use Rattle.std.proofs.lemmas.Bool.{cases_lt, cases_order}
use Rattle.std.proofs.lemmas.Option.{none-some, same_Some}
use Rattle.pblk_model.specs.declared.shape.Shape.{Shape}
use Rattle.pblk_model.specs.Image.{Image}
use Rattle.pblk_model.specs.StartRecord.{StartRecord, start_of}
use Rattle.pblk_model.specs.Records.{Record, line_records, records}
use Rattle.pblk_model.specs.Contents.{IsHead, IsWinner, head, end, counted, winner}
use Rattle.pblk_world.specs.World.{World, log_of, media}
use Rattle.pblk_world.specs.EngineLog.{Begun, begun, Opening, openings, AsFound, Opened, last_opening, life_of, is_life, Placed, placements, stripes_of, Taken, takes, has_landed, holds_position}
use Rattle.pblk_world.specs.Fronts.{first_position, synced, has_landed_at}
use Rattle.pblk_world.specs.Lines.{found_image, next_seq}
use Rattle.pblk_world.specs.Starts.{has_landed_start, newest_start}
use Rattle.pblk_world.proofs.SyncedFront.{synced_is}
use Rattle.pblk_laws.proofs.Ends.{end_is_end}
use Rattle.pblk_laws.proofs.Heads.{head_is_head, head_is_only, no_head_no_start}
use Rattle.pblk_laws.proofs.Winners.{winner_is_winner}
use Rattle.pblk_model.proofs.Lists.{IsAmong, among_contained, last_in}
use Rattle.pblk_model.proofs.Maps.{all_mapped, all_passed, from_filter, in_filter}
use Rattle.pblk_model.proofs.Parts.{all_at, all_by_get, contained_among}
use Rattle.pblk_model.proofs.Tests.{same_number}
use Rattle.pblk_world.specs.LegalMounts.{IsLegalMount}
use Rattle.world_laws.proofs.Fronts.{IsLandedAt, landed_at, synced_from}
use Rattle.world_laws.proofs.LandedRecords.{freed_below_front}
use Rattle.world_laws.proofs.Latest.{IsLatestBelow, IsStandingAt, latest_stands}
use Rattle.world_laws.proofs.Lives.{life_is_known, standing_or_freed}
use Rattle.world_laws.proofs.FoundCounts.{front_low}
use Rattle.world_laws.proofs.Newest.{later_front, newest_stands, older_when_freed}
use Rattle.world_laws.proofs.Stripes.{life_of_stripe, opening_then}
use Rattle.world_laws.proofs.WinnerLines.{winner_stands}
use Rattle.world_laws.proofs.LifePlaces.{have_places}
use Rattle.prefix_law.specs.Assembled.{IsEntryOf, IsLastOf}
use Rattle.prefix_law.specs.AfterMount.{IsNewStart, IsOldLine, IsNewLine, IsAfterMount, IsBorneAnew, HasNewHead, IsReduced}
use Rattle.prefix_law.proofs.FreedLines.{found_or_freed}
use Rattle.prefix_law.proofs.LineFacts.{HasFacts}
use Rattle.prefix_law.proofs.Mounted.{entries, IsTakenAt, entry_taken, taken_entry, IsUnopened, unopened_or_opened, old_line, new_line, after_mount}
use Rattle.prefix_law.proofs.NewHead.{old_below}
use Rattle.prefix_law.proofs.OldRows.{counted_by_row}
use Rattle.prefix_law.proofs.OpeningStarts.{IsStarted, started, first_found, found_shape}
use Rattle.prefix_law.proofs.RecordLines.{IsAt, record_is_at, of_line, names_line, lba_inside}
use Rattle.prefix_law.proofs.Reduced.{counted_young}

-- ---- the newest start record

-- the head that was found, or that of an opening whose start record has landed
pub record IsLandedStart (i : Image) (w : World) (o : Opening) : Type 0 where
  pub there : Contains (openings (log_of w 0)) o
  pub landed : has_landed_start i.shape (log_of w 0) o ≡ true

abbrev pub IsNewestBy : Image → World → StartRecord → Type 0
IsNewestBy i w s = (head (found_image i (log_of w)) ≡ Some s) ⊎ ((o : Opening) × IsLandedStart i w o × (o.start ≡ s))

pub newest_is : (i : Image) (w : World) (s : StartRecord) → newest_start i (log_of w) ≡ Some s → IsNewestBy i w s
newest_is i w s is =
    let test : Opening → Bool = has_landed_start i.shape (log_of w 0) in
    last_in (IsNewestBy i w) (head (found_image i (log_of w))) (map (λ (o : Opening). o.start) (filter test (openings (log_of w 0)))) s
    (λ h e. inl e)
    (all_mapped (IsNewestBy i w) (λ (o : Opening). o.start) (filter test (openings (log_of w 0)))
    (all_by_get (λ (o : Opening). IsNewestBy i w o.start) (filter test (openings (log_of w 0))) (λ k o at. inr (
      o,
      record {
        there = contained_among (openings (log_of w 0)) o (from_filter test (openings (log_of w 0)) o (k, at));
        landed = all_at (λ (x : Opening). test x ≡ true) (filter test (openings (log_of w 0))) k o at (all_passed test (openings (log_of w 0)));
      },
      refl,
    ))))
    is

module _ (i : Image) (w : World) (b : Begun) (mount : IsLegalMount i w) (facts : HasFacts i w) (begins : begun (log_of w 0) ≡ Some b) where
  abbrev now : Image
  now = media i (log_of w)

  abbrev found : Image
  found = found_image i (log_of w)

  after : IsAfterMount found now (entries i w) (synced i.shape (log_of w 0))
  after = after_mount i w b mount facts begins

  -- a start record of the mount stands where it is the newest
  pub newest_there : (o : Opening) → IsLandedStart i w o → newest_start i (log_of w) ≡ Some o.start
      → (o.line < now.shape.chunks) × (start_of now o.line ≡ Some o.start)
  newest_there o is newest =
      let life : life_of (log_of w 0) o.line ≡ Opened o = newest_stands i w o mount.legal is.there newest in
      ((started i w o mount.legal is.there).in_range, facts.new.start_stands o.line o life is.landed)

  -- ---- the head is of the mount, or nothing of the mount has landed

  -- the head's opening, where it is of this mount
  record IsMountsHead (h : StartRecord) : Type 0 where
    is_head : head now ≡ Some h
    o : Opening
    there : Contains (openings (log_of w 0)) o
    start : h ≡ o.start

  -- no start record that has landed has a front above that of a head of the mount
  newest_below : (h s : StartRecord) → IsMountsHead h → newest_start i (log_of w) ≡ Some s → s.front ≤ h.front
  newest_below h s m newest = go (newest_is i w s newest)
    where
      go : IsNewestBy i w s → s.front ≤ h.front
      go (inl was) =
          let low : s.front ≤ end found = front_low found s was in
          let from : end found ≤ m.o.start.front = (started i w m.o mount.legal m.there).start.from in
          let same : h.front ≡ m.o.start.front = ap (λ (r : StartRecord). r.front) m.start in
          omega arith
      go (inr (o, landed, same_start)) =
          let stands = newest_there o landed (newest ∙ ap Some (sym same_start)) in
          let is = head_is_head now h m.is_head in
          let seqs : o.start.seq ≤ m.o.start.seq =
          subst (λ (r : StartRecord). o.start.seq ≤ r.seq) m.start (elim (is.1.greatest o.line o.start stands.0 stands.1) [
            | inl less ↦ omega arith
            | inr same ↦ (let e : o.start.seq ≡ h.seq = same.0 in omega arith)
          ]) in
          let fronts : o.start.front ≤ m.o.start.front =
          later_front i w o m.o mount.legal (among_contained (openings (log_of w 0)) o landed.there)
          (among_contained (openings (log_of w 0)) m.o m.there) seqs in
          let first : o.start.front ≡ s.front = ap (λ (r : StartRecord). r.front) same_start in
          let second : h.front ≡ m.o.start.front = ap (λ (r : StartRecord). r.front) m.start in
          omega arith

  -- ---- what has landed is borne, where its line stands

  -- the opening in whose life a stripe was placed
  record IsOfLife (p : Placed) : Type 0 where
    o : Opening
    opened : Contains (openings (log_of w 0)) o
    line : o.line ≡ p.stripe.line
    life : p.life ≡ Opened o
    of_opening : Contains (stripes_of (log_of w 0) o) p

  of_life : (p : Placed) → Contains (placements (log_of w 0)) p → IsOfLife p
  of_life p there =
      let life = life_of_stripe i w p mount.legal there in
      let opened = opening_then (log_of w 0) p.number p.stripe.line life.0 life.2 in
      let passes : is_life life.0.number p.life ≡ true = ap (is_life life.0.number) life.1 ∙ same_number life.0.number in record {
        o = life.0;
        opened = opened.0;
        line = opened.1;
        life = life.1;
        of_opening = contained_among (stripes_of (log_of w 0) life.0) p
            (in_filter (λ q. is_life life.0.number q.life) (placements (log_of w 0)) p (among_contained (placements (log_of w 0)) p there) passes);
      }

  standing_record : (o : Opening) (p : Placed) (q : ℕ) → Contains (stripes_of (log_of w 0) o) p → has_landed (log_of w 0) p ≡ true
      → life_of (log_of w 0) p.stripe.line ≡ Opened o → holds_position i.shape q p ≡ true → (x : Record) × IsBorneAnew found now q x
  standing_record o p q placed landed life holds =
      let r = facts.new.landed o p q placed landed life holds in
      let opened = life_is_known (log_of w 0) p.stripe.line o (ap last_opening life) in
      let its : IsStarted i w o = started i w o mount.legal opened.0 in
      let among : IsAmong (line_records now p.stripe.line) r.0 = among_contained (line_records now p.stripe.line) r.0 r.1 in
      let there : Contains (records now) r.0 = of_line now p.stripe.line r.0 (subst (λ n. n < i.shape.chunks) opened.1 its.in_range) among in
      let at : IsAt now r.0 = record_is_at now r.0 there in
      let last : last_opening (life_of (log_of w 0) r.0.line) ≡ Some o =
      ap (λ n. last_opening (life_of (log_of w 0) n)) (names_line now p.stripe.line r.0 among) ∙ ap last_opening life in
      let start : at.start.seq ≡ o.start.seq = ap (λ (s : StartRecord). s.seq) (facts.new.one_start r.0.line o at.start last at.whole) in
      let high : next_seq (head found) ≤ o.start.seq = its.start.seq in
      let seq : r.0.seq ≡ at.start.seq = at.seq in
      (r.0, record { there = there; seq = omega arith; position = r.2 })

  -- a position that has landed is borne, or is below the front of the newest start record
  pub landed_record : (q : ℕ) → has_landed_at i.shape (log_of w 0) q ≡ true
      → ((x : Record) × IsBorneAnew found now q x) ⊎ ((s : StartRecord) × (newest_start i (log_of w) ≡ Some s) × (q < s.front))
  landed_record q landed =
      let at : IsLandedAt i.shape (log_of w 0) q = landed_at i.shape (log_of w 0) q landed in
      let its : IsOfLife at.placed = of_life at.placed at.there in
      elim (standing_or_freed i w its.o mount.legal its.opened) [
        | inl stands ↦ inl (standing_record its.o at.placed q its.of_opening at.landed (ap (life_of (log_of w 0)) (sym its.line) ∙ stands) at.holds)
        | inr freed ↦
            let older = older_when_freed i w its.o mount.legal freed in
            inr (
              older.newest,
              older.is_newest,
              freed_below_front i w its.o at.placed q mount.legal (have_places i w mount.accepted mount.legal) freed its.of_opening at.landed at.holds,
            )
      ]

  -- ---- the latest entries stand, and so do the winners where there is none

  pub latest_entry : (lba below p : ℕ) (last : IsLastOf (entries i w) lba below p)
      → (t : Taken) × IsLatestBelow (log_of w 0) lba below t × IsTakenAt i w lba p t × (last.entry.given.sector ≡ t.entry.sector)
  latest_entry lba below p last =
      let t = entry_taken i w lba p mount.legal last.entry in
      let position : t.0.entry.position ≡ p = t.1.position in
      let under : p < below = last.under in (
        t.0,
        record {
          there = t.1.there;
          of_it = t.1.mark;
          below = omega arith;
          greatest = λ u among mark low.
              let most : u.entry.position ≤ p = last.last u.entry.position (taken_entry i w lba u mount.legal t.1.inside among mark) low in
              omega arith;
        },
        t.1,
        t.2,
      )

  kept_record : (lba p : ℕ) → IsLastOf (entries i w) lba (synced i.shape (log_of w 0)) p → (x : Record) × IsBorneAnew found now p x
  kept_record lba p last =
      let t = latest_entry lba (synced i.shape (log_of w 0)) p last in
      let stands : IsStandingAt i.shape (log_of w 0) t.0.entry.position =
      latest_stands i w lba t.0 mount.accepted mount.legal (have_places i w mount.accepted mount.legal) t.2.inside t.1 in
      let its : IsOfLife stands.placed = of_life stands.placed stands.there in
      let r = standing_record its.o stands.placed t.0.entry.position its.of_opening stands.landed (stands.stands ∙ its.life) stands.holds in
      (r.0, record { there = r.1.there; seq = r.1.seq; position = r.1.position ∙ t.2.position })

  pub none_taken : (lba below : ℕ) → lba < i.shape.capacity → ((p : ℕ) → IsEntryOf (entries i w) lba p → p < below → ⊥)
      → (u : Taken) → IsAmong (takes (log_of w 0)) u → u.mark.lba ≡ lba → below ≤ u.entry.position
  none_taken lba below inside none u among mark = elim (cases_lt u.entry.position below) [
    | inl low ↦ absurd (none u.entry.position (taken_entry i w lba u mount.legal inside among mark) low)
    | inr high ↦ high
  ]

  -- a record of a line that is as it was found is there
  found_there : (x : Record) → Contains (records found) x → life_of (log_of w 0) x.line ≡ AsFound → Contains (records now) x
  found_there x there life =
      let at : IsAt found x = record_is_at found x there in
      let same : line_records now x.line ≡ line_records found x.line = (facts.old.found x.line life).1 in
      of_line now x.line x (subst (λ (s : Shape). x.line < s.chunks) (sym (found_shape i (log_of w))) at.in_range)
      (subst (λ (rs : List Record). IsAmong rs x) (sym same) at.there)

  winner_there : (lba : ℕ) (x : Record) → winner (counted found) lba ≡ Some x
      → ((p : ℕ) → IsEntryOf (entries i w) lba p → p < synced i.shape (log_of w 0) → ⊥)
      → (life_of (log_of w 0) x.line ≡ AsFound) × Contains (records now) x
  winner_there lba x wins none =
      let is : IsWinner (counted found) lba x = winner_is_winner found lba x wins in
      let there : Contains (records found) x = (counted_by_row found x is.there).there in
      let inside : lba < i.shape.capacity =
      subst (λ (s : Shape). lba < s.capacity) (sym (found_shape i (log_of w))) (lba_inside found lba x there is.of_it) in
      let life : life_of (log_of w 0) x.line ≡ AsFound =
      winner_stands i w lba x mount.accepted mount.legal wins (none_taken lba (synced i.shape (log_of w 0)) inside none) in
      (life, found_there x there life)

  -- ---- where the head is of the mount

  new_head : (h : StartRecord) → IsMountsHead h → HasNewHead found now (entries i w) (synced i.shape (log_of w 0)) h
  new_head h m =
      let its : IsStarted i w m.o = started i w m.o mount.legal m.there in
      let start : IsNewStart found (synced i.shape (log_of w 0)) h = subst (IsNewStart found (synced i.shape (log_of w 0))) (sym m.start) its.start in record {
        head = m.is_head;
        start = start;
        borne = λ p from below.
            let first : first_position (log_of w 0) ≡ end found = first_found i w b mount.legal begins in
            let low : end found ≤ h.front = start.from in
            elim (landed_record p (synced_is i.shape (log_of w 0) p (omega arith) below)) [
              | inl r ↦ r
              | inr (s, newest, under) ↦ (let most : s.front ≤ h.front = newest_below h s m newest in absurd (omega arith))
            ];
        kept = λ lba p last. kept_record lba p last;
        under = λ lba x wins none.
            let stands = winner_there lba x wins none in record {
              there = stands.1;
              rows = λ row among line. subst (λ (r : StartRecord). Contains r.rows row) (sym m.start)
                  (its.rows row among (ap (life_of (log_of w 0)) line ∙ stands.0));
            };
      }

  -- ---- where it isn't

  abbrev pub AllOld : Type 0
  AllOld = (line : ℕ) (r : StartRecord) → line < now.shape.chunks → start_of now line ≡ Some r → IsOldLine found now line r

  module _ (all : AllOld) where
    newest_found : (s : StartRecord) → newest_start i (log_of w) ≡ Some s → head found ≡ Some s
    newest_found s newest = go (newest_is i w s newest)
      where
        go : IsNewestBy i w s → head found ≡ Some s
        go (inl was) = was
        go (inr (o, landed, same_start)) =
            let stands = newest_there o landed (newest ∙ ap Some (sym same_start)) in
            let low : o.start.seq < next_seq (head found) =
            old_below found now (entries i w) (synced i.shape (log_of w 0)) after o.line o.start stands.0 (all o.line o.start stands.0 stands.1) in
            let high : next_seq (head found) ≤ o.start.seq = (started i w o mount.legal landed.there).start.seq in
            absurd (omega arith)

    pub none_landed : synced i.shape (log_of w 0) ≡ end found
    none_landed = go (cases_order (synced i.shape (log_of w 0)) (first_position (log_of w 0)))
      where
        first : first_position (log_of w 0) ≡ end found
        first = first_found i w b mount.legal begins

        go : (synced i.shape (log_of w 0) ≡ first_position (log_of w 0)) ⊎ ((synced i.shape (log_of w 0) < first_position (log_of w 0))
            ⊎ (first_position (log_of w 0) < synced i.shape (log_of w 0))) → synced i.shape (log_of w 0) ≡ end found
        go (inl e) = e ∙ first
        go (inr (inl less)) = let from : first_position (log_of w 0) ≤ synced i.shape (log_of w 0) = synced_from i.shape (log_of w 0) in absurd (omega arith)
        go (inr (inr more)) =
            elim (landed_record (first_position (log_of w 0)) (synced_is i.shape (log_of w 0) (first_position (log_of w 0)) (omega arith) more)) [
              | inl (x, anew) ↦
                  let at : IsAt now x = record_is_at now x anew.there in
                  let low : at.start.seq < next_seq (head found) =
                  old_below found now (entries i w) (synced i.shape (log_of w 0)) after x.line at.start at.in_range
                  (all x.line at.start at.in_range at.whole) in
                  let high : next_seq (head found) ≤ x.seq = anew.seq in
                  let seq : x.seq ≡ at.start.seq = at.seq in
                  absurd (omega arith)
              | inr (s, newest, under) ↦
                  let low : s.front ≤ end found = front_low found s (newest_found s newest) in
                  let at = first in
                  absurd (omega arith)
            ]

    -- a line that was found stands, or what counted in it is below the head's front
    found_or_below : (h : StartRecord) (line : ℕ) (r : StartRecord) → head found ≡ Some h → start_of found line ≡ Some r
        → (life_of (log_of w 0) line ≡ AsFound)
        ⊎ ((r.seq < h.seq) × ((x : Record) → Contains (counted found) x → x.line ≡ line → x.position < h.front))
    found_or_below h line r is whole = elim (found_or_freed i w line r mount.legal whole) [
      | inl life ↦ inl life
      | inr freed ↦
          let same : freed.newest ≡ h = same_Some freed.newest h (sym (newest_found freed.newest freed.is_newest) ∙ is) in
          inr (
            subst (λ (s : StartRecord). r.seq < s.seq) same freed.seq,
            λ x counts line. subst (λ (s : StartRecord). x.position < s.front) same (freed.below x counts line),
          )
    ]

    pub reduced : IsReduced found now
    reduced = record {
      shape = found_shape i (log_of w);
      lines = all;
      head_stands = λ line h is. elim (found_or_below h line h (head_is_only found line h is) is.whole) [
        | inl life ↦ (facts.old.found line life).0 ∙ is.whole
        | inr older ↦ (let less : h.seq < h.seq = older.0 in absurd (omega arith))
      ];
      borne = λ h p is from below.
          let x = (end_is_end found h is).least p from below in
          let at : IsAt found x.0 = record_is_at found x.0 x.1 in
          let position : x.0.position ≡ p = x.2.position in
          elim (found_or_below h x.0.line at.start is at.whole) [
            | inl life ↦ (x.0, found_there x.0 x.1 life, x.2)
            | inr older ↦
                let under : x.0.position < h.front = older.1 x.0 (counted_young found h x.0 is x.1 x.2.mount (omega arith)) refl in
                absurd (omega arith)
          ];
      kept = λ lba x wins. (winner_there lba x wins (λ p e low.
          let from : first_position (log_of w 0) ≤ p = e.entry.from in
          let first : first_position (log_of w 0) ≡ end found = first_found i w b mount.legal begins in
          let none = none_landed in
          omega arith)).1;
    }

  -- ---- one or the other

  pub data WhichHead : Type 0 where
    OfMount : (h : StartRecord) → HasNewHead found now (entries i w) (synced i.shape (log_of w 0)) h → WhichHead
    AsBefore : AllOld → WhichHead

  pub which : WhichHead
  which = go (head now) refl
    where
      none_newer : (line : ℕ) (h : StartRecord) → IsHead now line h → IsUnopened (life_of (log_of w 0) line) → AllOld
      none_newer line h is unopened l r inside whole = elim (unopened_or_opened (life_of (log_of w 0) l)) [
        | inl old ↦ old_line i w l r facts.old old whole
        | inr opened ↦
            let new : IsNewLine found now (entries i w) (synced i.shape (log_of w 0)) l r = new_line i w l opened.0 r mount.legal facts.new opened.1 whole in
            let high : next_seq (head found) ≤ r.seq = new.start.seq in
            let low : h.seq < next_seq (head found) =
            old_below found now (entries i w) (synced i.shape (log_of w 0)) after line h is.here (old_line i w line h facts.old unopened is.whole) in
            absurd (elim (is.greatest l r inside whole) [ inl less ↦ omega arith | inr same ↦ (let e : r.seq ≡ h.seq = same.0 in omega arith) ])
      ]

      go : (o : Option StartRecord) → head now ≡ o → WhichHead
      go None e = AsBefore (λ line r inside whole. absurd (none-some r (sym (no_head_no_start now line e inside) ∙ whole)))
      go (Some h) e =
          let is = head_is_head now h e in
          elim (unopened_or_opened (life_of (log_of w 0) is.0)) [
            | inl unopened ↦ AsBefore (none_newer is.0 h is.1 unopened)
            | inr opened ↦ OfMount h (new_head h (record {
              is_head = e;
              o = opened.0;
              there = (life_is_known (log_of w 0) is.0 opened.0 opened.1).0;
              start = facts.new.one_start is.0 opened.0 h opened.1 is.1.whole;
            }))
          ]
