-- A line may be freed exactly where it is spent.
--
-- From the one to the other. Let a sector be live in the line, or let a position have taken one
-- from it. Then the sector's entry that landed in the line, or its winner there, is a record that
-- counts. So it has a newer one, landed, in another line, below synced. A position is in one stripe
-- at most that wasn't lost, so the newer record is of a later entry. Nothing that was latest has a
-- later one, and what took the sector isn't above that later entry.
--
-- And back. Let a record of a sector count in the line. Its position is below synced: below the
-- newest start record's front in a line of this mount, and below the mount's first position else.
-- The latest entry of the sector below synced has landed in a line that stands. It isn't this line:
-- there the entry would be live, or the next one of the sector would have taken it from the line at
-- a position below synced. Nor is the entry older than the record. Where it is the same entry, the
-- record's stripe was lost and the entry placed again, in a line that was opened later. Where no
-- entry is below synced, the sector's winner takes the entry's place.
use Rattle.std.proofs.Common.{◌≡◌, ◌≢◌, ◌⊎◌, inl, inr, ℕ, ◌*◌, ◌<◌, ◌≤◌, ◌==◌, nat_eq, nat_lt, Bool, true, false, Some, None, Option, List, take, refl, sym, subst, ap, ◌∙◌, arith, if◌then◌else◌}
use Rattle.std.specs.Prelude.{⊤}
use Rattle.std.specs.List.{AllByRecursion, Contains, filter, range_with_len}
use Rattle.std.specs.Option.{IfSome, is_some, option_and_then, option_map}
use Rattle.std.proofs.lemmas.Bool.{cases_lt, eqb-true}
use Rattle.std.proofs.lemmas.Option.{same_Some}
use Rattle.pblk_model.specs.declared.chunk.Mark.{Mark}
use Rattle.pblk_model.specs.Contents.{IsNewer, IsWinner, counted, counted_after, counts, end_after, head, is_of, winner}
use Rattle.pblk_model.specs.EndRecord.{end_of}
use Rattle.pblk_model.specs.Image.{Image, block_at, width}
use Rattle.pblk_model.specs.Records.{Record, line_records, mark_at, named, record_at, records, records_after}
use Rattle.pblk_model.specs.StartRecord.{StartRecord, start_of}
use Rattle.pblk_laws.proofs.MarkNames.{sector_exactly}
use Rattle.pblk_laws.proofs.Winners.{winner_is_winner}
use Rattle.pblk_world.specs.Events.{Logged}
use Rattle.pblk_world.specs.World.{World, log_of}
use Rattle.pblk_world.specs.EngineLog.{Answer, DidLand, WasLost, answer_of, AsFound, Freed, has_landed, holds_position, is_answered, is_as_found, is_land, is_life, is_loss, LineLife, life_of, Opened, Opening, Placed, placements, stripes_of, Taken, takes}
use Rattle.pblk_world.specs.Freeing.{HasLandedIn, IsAnswered, IsCountedIn, IsCountedRecord, IsReplaced, MayFree}
use Rattle.pblk_world.specs.Fronts.{last_take, synced}
use Rattle.pblk_world.specs.Lines.{found_image}
use Rattle.pblk_world.specs.Victims.{is_live_in, landed_line, landed_line_of, line_of, line_of_position, positions_in, take_before, took_from}
use Rattle.pblk_model.proofs.Lists.{IsAmong, all_contains, all_everywhere, among_contained}
use Rattle.pblk_model.proofs.Maps.{all_filter, all_filter_map, all_flat_map, all_mapped, all_passed, from_filter, in_filter}
use Rattle.pblk_model.proofs.Parts.{all_at, all_by_get, contained_among}
use Rattle.pblk_model.proofs.Tests.{below_of, first_of, same, same_number, second_of}
use Rattle.pblk_world.specs.LegalMounts.{IsLegalMount}
use Rattle.world_laws.proofs.Latest.{one_entry}
use Rattle.world_laws.proofs.LifePlaces.{began}
use Rattle.world_laws.proofs.Stripes.{life_of_stripe}
use Rattle.world_laws.proofs.WinnerLines.{if_then}
use Rattle.core_laws.specs.Spent.{IsSpent}
use Rattle.core_laws.proofs.LandedNow.{HasRecord, IsFrom, found_below, has_record, is_from, opened_now}
use Rattle.core_laws.proofs.LastTakes.{IsBefore, before_is, before_none, last_is, last_none, taken_within}
use Rattle.core_laws.proofs.OverLines.{positions_written}
use Rattle.world_laws.proofs.Latest.{not_older}
use Rattle.world_laws.proofs.WinnerLines.{never_both}
use Rattle.core_laws.proofs.PlacedAnew.{one_kept}
use Rattle.core_laws.proofs.StandingLines.{IsStanding, landed_in_line, live_none, stands_in_line}

-- ---- records

-- a record that counts is of a sector of the target
abbrev IsSmall : Image → Record → Type 0
IsSmall j r = (lba : ℕ) → r.lba ≡ Some lba → lba < j.shape.capacity

records_small : (j : Image) → AllByRecursion (IsSmall j) (records j)
records_small j = all_flat_map (IsSmall j) (line_records j) (range_with_len 0 j.shape.chunks) (λ line. of_line line (start_of j line))
  where
    of_mark : (m : Mark) (o : Option (Option ℕ)) (f : Option ℕ → Record) → ((x : Option ℕ) → (f x).lba ≡ x) → named j.shape m ≡ o
        → IfSome (option_map f o) (IsSmall j)
    of_mark m None f own e = tt
    of_mark m (Some x) f own e = λ lba is. ((sector_exactly j.shape m lba).0 (e ∙ ap (λ y. Some y) (sym (own x) ∙ is))).1

    of_line : (line : ℕ) (o : Option StartRecord) → AllByRecursion (IsSmall j) (records_after j line o)
    of_line line None = tt
    of_line line (Some start) =
        all_filter_map (IsSmall j) (λ (a : ℕ). ⊤) (record_at j line start) (range_with_len 0 (width j line * j.shape.clba))
        (λ a any. if_then (IsSmall j) _ (block_at j line a) (λ block. if_then (IsSmall j) _ (mark_at j.shape (end_of j line start) a block)
        (λ m. of_mark m (named j.shape m) _ (λ x. refl) refl)))
        (all_everywhere (λ (a : ℕ). ⊤) (range_with_len 0 (width j line * j.shape.clba)) (λ a. tt))

pub counted_small : (j : Image) (r : Record) (lba : ℕ) → Contains (counted j) r → r.lba ≡ Some lba → lba < j.shape.capacity
counted_small j r lba there = all_contains (IsSmall j) (counted j) r (go (head j)) there lba
  where
    go : (o : Option StartRecord) → AllByRecursion (IsSmall j) (counted_after (records j) o)
    go None = tt
    go (Some h) = all_filter (IsSmall j) (counts h (end_after (records j) (Some h))) (records j) (records_small j)

module _ (i : Image) (w : World) (mount : IsLegalMount i w) (line : ℕ) where
  abbrev log : List Logged
  log = log_of w 0

  -- the sector that a mark names
  pub lba_of : (t : Taken) (r : Record) (lba : ℕ) → named i.shape t.mark ≡ Some r.lba → r.lba ≡ Some lba → t.mark.lba ≡ lba
  lba_of t r lba names is = ((sector_exactly i.shape t.mark lba).0 (names ∙ ap (λ x. Some x) is)).0

  -- the sector of the record of an entry
  pub lba_in : (t u : Taken) (r : Record) (lba : ℕ) → IsAmong (takes (log_of w 0)) t → IsAmong (takes (log_of w 0)) u → t.entry.position ≡ u.entry.position
      → named i.shape u.mark ≡ Some r.lba → t.mark.lba ≡ lba → lba < i.shape.capacity → r.lba ≡ Some lba
  lba_in t u r lba a b positions names its small =
      let one : t ≡ u = one_entry i w t u mount.legal a b positions in
      same_Some r.lba (Some lba) (sym names ∙ ap (λ (x : Taken). named i.shape x.mark) (sym one) ∙ (sector_exactly i.shape t.mark lba).1 (its, small))

  -- ---- from MayFree

  -- a later entry of the sector, below synced
  record HasLater (lba position : ℕ) : Type 0 where
    t : Taken
    taken : IsAmong (takes (log_of w 0)) t
    of_it : t.mark.lba ≡ lba
    later : position < t.entry.position
    below : t.entry.position < synced i.shape (log_of w 0)

  -- what replaces the winner of a sector is such an entry
  after_winner : (lba : ℕ) (r : Record) → winner (counted (found_image i (log_of w))) lba ≡ Some r → IsReplaced i (log_of w) line lba r
      → HasLater lba r.position
  after_winner lba r wins rep = go (life_of log rep.other) refl rep.landed
    where
      is : IsWinner (counted (found_image i (log_of w))) lba r
      is = winner_is_winner (found_image i (log_of w)) lba r wins

      no_found : (rep.by ≡ r) ⊎ IsNewer rep.by r → ⊥
      no_found (inl one) = never_both r r (subst (IsNewer r) one rep.newer) (subst (IsNewer r) one rep.newer)
      no_found (inr newer) = never_both r rep.by rep.newer newer

      go : (life : LineLife) → life_of (log_of w 0) rep.other ≡ life → HasLandedIn i (log_of w) life rep.other rep.by → HasLater lba r.position
      go AsFound e landed = absurd (no_found (is.newest rep.by landed.counts rep.sector))
      go (Freed was knows) e landed = absurd landed
      go (Opened o) e landed =
          let from : IsFrom i w mount rep.other rep.by = is_from i w mount rep.other o rep.by e landed in
          let b = began i w rep.other o mount.legal e in
          let low : r.position < from.t.entry.position = found_below i w mount b.0 r from.t b.1 is.there from.taken in
          let its : from.t.entry.position ≡ rep.by.position = from.its in
          let below : rep.by.position < synced i.shape log = rep.below_synced in
          record { t = from.t; taken = from.taken; of_it = lba_of from.t rep.by lba from.names rep.sector; later = low; below = omega arith }

  -- and so is what replaces a record that landed in the line
  after_landed : (lba : ℕ) (r : Record) (p : Placed) → IsStanding i w mount r.position p → has_landed (log_of w 0) p ≡ true → p.stripe.line ≡ line
      → (t : Taken) → IsAmong (takes (log_of w 0)) t → t.entry.position ≡ r.position → IsReplaced i (log_of w) line lba r → HasLater lba r.position
  after_landed lba r p stands landed in_line t taken at rep = go (life_of log rep.other) refl rep.landed
    where
      above : r.position ≤ rep.by.position
      above = not_older r rep.by rep.newer

      go : (life : LineLife) → life_of (log_of w 0) rep.other ≡ life → HasLandedIn i (log_of w) life rep.other rep.by → HasLater lba r.position
      go (Freed was knows) e landed_by = absurd landed_by
      go AsFound e landed_by =
          let life = life_of_stripe i w p mount.legal stands.there in
          let b = began i w p.stripe.line life.0 mount.legal (stands.stands ∙ life.1) in
          let low : rep.by.position < t.entry.position = found_below i w mount b.0 rep.by t b.1 landed_by.counts taken in
          absurd (omega (arith, above))
      go (Opened o) e landed_by = by (is_from i w mount rep.other o rep.by e landed_by)
        where
          by : IsFrom i w mount rep.other rep.by → HasLater lba r.position
          by from = order (cases_lt r.position rep.by.position)
            where
              its : from.t.entry.position ≡ rep.by.position
              its = from.its

              below : rep.by.position < synced i.shape (log_of w 0)
              below = rep.below_synced

              order : (r.position < rep.by.position) ⊎ (rep.by.position ≤ r.position) → HasLater lba r.position
              order (inl less) = record {
                t = from.t;
                taken = from.taken;
                of_it = lba_of from.t rep.by lba from.names rep.sector;
                later = omega (arith, its);
                below = omega (arith, its, below);
              }
              order (inr most) =
                  let level : rep.by.position ≡ r.position = omega (arith, above) in
                  let one : from.placed ≡ p = one_kept i w mount from.placed p r.position from.standing.there stands.there
                  (ap (λ n. holds_position i.shape n from.placed) (sym level) ∙ from.standing.holds) stands.holds from.standing.kept stands.kept in
                  absurd (rep.is_other (sym from.its_line ∙ ap (λ (q : Placed). q.stripe.line) one ∙ in_line))

  module _ (may : MayFree i (log_of w) line) where
    -- the winner of a sector, where it is in the line as it was found
    winner_replaced : (lba : ℕ) (r : Record) → winner (counted (found_image i (log_of w))) lba ≡ Some r → r.line ≡ line → life_of (log_of w 0) line ≡ AsFound
        → HasLater lba r.position
    winner_replaced lba r wins its found =
        let is : IsWinner (counted (found_image i (log_of w))) lba r = winner_is_winner (found_image i (log_of w)) lba r wins in
        let counts_here : IsCountedRecord i (log_of w) line r =
        subst (λ life. IsCountedIn i (log_of w) life line r) (sym found) (record { counts = is.there; in_line = its }) in
        after_winner lba r wins (may.replaced r lba counts_here is.of_it)

    -- an entry that has landed in the line
    landed_replaced : (u : Taken) (p : Placed) → IsAmong (takes (log_of w 0)) u → u.mark.lba < i.shape.capacity → IsStanding i w mount u.entry.position p
        → has_landed (log_of w 0) p ≡ true → p.stripe.line ≡ line → HasLater u.mark.lba u.entry.position
    landed_replaced u p taken small stands landed in_line =
        let h : HasRecord i w mount u.entry.position p = has_record i w mount u.entry.position p stands landed in
        let sector : h.r.lba ≡ Some u.mark.lba = lba_in u h.t h.r u.mark.lba taken h.taken (sym h.its) h.names refl small in
        let is_open : life_of log line ≡ Opened h.o = ap (life_of log) (sym in_line) ∙ h.is_open in
        let counts_here : IsCountedRecord i (log_of w) line h.r =
        subst (λ life. IsCountedIn i (log_of w) life line h.r) (sym is_open) (inl h.landed) in
        subst (HasLater u.mark.lba) h.at
        (after_landed u.mark.lba h.r p (subst (λ n. IsStanding i w mount n p) (sym h.at) stands) landed in_line u taken (sym h.at)
        (may.replaced h.r u.mark.lba counts_here sector))

    -- what stands in the line has landed
    has_landed_there : (p : Placed) (position : ℕ) → IsStanding i w mount position p → p.stripe.line ≡ line → has_landed (log_of w 0) p ≡ true
    has_landed_there p position stands in_line = go (answer_of log p) answered stands.kept
      where
        life : (o : Opening) × (p.life ≡ Opened o) × (life_of (take p.number (log_of w 0)) p.stripe.line ≡ Opened o)
        life = life_of_stripe i w p mount.legal stands.there

        is_open : life_of (log_of w 0) line ≡ Opened life.0
        is_open = ap (life_of log) (sym in_line) ∙ stands.stands ∙ life.1

        all : (q : Placed) → Contains (stripes_of (log_of w 0) life.0) q → is_answered (log_of w 0) q ≡ true
        all = subst (IsAnswered (log_of w)) is_open may.answered

        answered : is_answered (log_of w 0) p ≡ true
        answered = all p (contained_among (stripes_of log life.0) p
            (in_filter (λ (q : Placed). is_life life.0.number q.life) (placements log) p
            (among_contained (placements log) p stands.there)
            (ap (is_life life.0.number) life.1 ∙ same_number life.0.number)))

        go : (a : Option Answer) → is_some a ≡ true → is_loss a ≡ false
            → is_land a ≡ true
        go None some kept = absurd cc
        go (Some (DidLand n)) some kept = refl
        go (Some (WasLost n)) some kept = absurd cc

    -- ---- no sector is live there

    not_live : (lba : ℕ) → lba < i.shape.capacity → is_live_in i (log_of w) line lba ≡ false
    not_live lba small = go (last_take log lba) refl
      where
        -- the winner's line
        of_winner : (o : Option Record) → winner (counted (found_image i (log_of w))) lba ≡ o
            → ((u : Taken) → IsAmong (takes (log_of w 0)) u → u.mark.lba ≢ lba)
            → is_of line (option_and_then (λ (r : Record). if is_as_found (life_of (log_of w 0) r.line) then Some r.line else None) o) ≡ false
        of_winner None wins none = refl
        of_winner (Some r) wins none = by (life_of log r.line) refl
          where
            by : (life : LineLife) → life_of (log_of w 0) r.line ≡ life → is_of line (if is_as_found life then Some r.line else None) ≡ false
            by (Opened o) e = refl
            by (Freed was knows) e = refl
            by AsFound e = which (nat_eq r.line line) refl
              where
                which : (t : Bool) → nat_eq r.line line ≡ t → (r.line == line) ≡ false
                which false f = f
                which true f =
                    let its : r.line ≡ line = eqb-true r.line line f in
                    let h : HasLater lba r.position = winner_replaced lba r wins its (ap (life_of log) (sym its) ∙ e) in
                    absurd (none h.t h.taken h.of_it)

        of_position : (t : Taken) → last_take (log_of w 0) lba ≡ Some t → (o : Option ℕ) → line_of_position i.shape (log_of w 0) t.entry.position ≡ o
            → is_of line o ≡ false
        of_position t last None e = refl
        of_position t last (Some other) e = which (nat_eq other line) refl
          where
            which : (x : Bool) → nat_eq other line ≡ x → (other == line) ≡ false
            which false f = f
            which true f =
                let t_is = last_is i w mount.legal lba t last in
                let p = stands_in_line i w mount t.entry.position other e in
                let in_line : p.0.stripe.line ≡ line = p.2 ∙ eqb-true other line f in
                let h : HasLater t.mark.lba t.entry.position =
                landed_replaced t p.0 t_is.0 (subst (λ n. n < i.shape.capacity) (sym t_is.1) small) p.1
                (has_landed_there p.0 t.entry.position p.1 in_line) in_line in
                let most : h.t.entry.position ≤ t.entry.position = t_is.2 h.t h.taken (h.of_it ∙ t_is.1) in
                let after : t.entry.position < h.t.entry.position = h.later in
                absurd (omega arith)

        go : (o : Option Taken) → last_take (log_of w 0) lba ≡ o → is_live_in i (log_of w) line lba ≡ false
        go None last = ap (λ x. is_of line (line_of i (log_of w) lba x)) last
            ∙ of_winner (winner (counted (found_image i (log_of w))) lba) refl (last_none i w mount.legal lba last)
        go (Some t) last = ap (λ x. is_of line (line_of i (log_of w) lba x)) last
            ∙ of_position t last (line_of_position i.shape log t.entry.position) refl

    -- ---- what took a sector is below synced

    taker_below : (t : Taken) → IsAmong (takes (log_of w 0)) t → took_from i (log_of w) line t ≡ true → t.entry.position < synced i.shape (log_of w 0)
    taker_below t taken took = go (take_before log t) refl (second_of (nat_lt t.mark.lba i.shape.capacity) _ took)
      where
        small : t.mark.lba < i.shape.capacity
        small = below_of t.mark.lba i.shape.capacity (first_of (nat_lt t.mark.lba i.shape.capacity) _ took)

        of_winner : (o : Option Record) → winner (counted (found_image i (log_of w))) t.mark.lba ≡ o
            → is_of line (option_and_then (λ (r : Record). if is_as_found (life_of (log_of w 0) r.line) then Some r.line else None) o) ≡ true
            → HasLater t.mark.lba 0 ⊎ ((r : Record) × HasLater t.mark.lba r.position)
        of_winner None wins e = absurd cc
        of_winner (Some r) wins e = by (life_of log r.line) refl e
          where
            by : (life : LineLife) → life_of (log_of w 0) r.line ≡ life → is_of line (if is_as_found life then Some r.line else None) ≡ true
                → HasLater t.mark.lba 0 ⊎ ((r : Record) × HasLater t.mark.lba r.position)
            by (Opened o) found f = absurd cc
            by (Freed was knows) found f = absurd cc
            by AsFound found f =
                let its : r.line ≡ line = same r.line line f in
                inr (r, winner_replaced t.mark.lba r wins its (ap (life_of log) (sym its) ∙ found))

        of_position : (u : Taken) → take_before (log_of w 0) t ≡ Some u → (o : Option ℕ) → landed_line i.shape (log_of w 0) u.entry.position ≡ o
            → is_of line o ≡ true → t.entry.position < synced i.shape (log_of w 0)
        of_position u before None e f = absurd cc
        of_position u before (Some other) e f =
            let b : IsBefore i w mount.legal t u = before_is i w mount.legal t u before in
            let p = landed_in_line i w mount u.entry.position other e in
            let in_line : p.0.stripe.line ≡ line = p.3 ∙ same other line f in
            let h : HasLater u.mark.lba u.entry.position =
            landed_replaced u p.0 b.there (subst (λ n. n < i.shape.capacity) (sym b.of_it) small) p.1 p.2 in_line in
            let below : h.t.entry.position < synced i.shape log = h.below in
            let later : u.entry.position < h.t.entry.position = h.later in
            order h (b.greatest h.t h.taken (h.of_it ∙ b.of_it)) (cases_lt h.t.entry.position t.entry.position) below later
          where
            order : (h : HasLater u.mark.lba u.entry.position) → (h.t.entry.position < t.entry.position → h.t.entry.position ≤ u.entry.position)
                → (h.t.entry.position < t.entry.position) ⊎ (t.entry.position ≤ h.t.entry.position) → h.t.entry.position < synced i.shape (log_of w 0)
                → u.entry.position < h.t.entry.position → t.entry.position < synced i.shape (log_of w 0)
            order h most (inl less) below later = let few : h.t.entry.position ≤ u.entry.position = most less in absurd (omega arith)
            order h most (inr above) below later = omega arith

        first_one : take_before (log_of w 0) t ≡ None → HasLater t.mark.lba 0 ⊎ ((r : Record) × HasLater t.mark.lba r.position)
            → t.entry.position < synced i.shape (log_of w 0)
        first_one none (inl h) =
            let most : t.entry.position ≤ h.t.entry.position = before_none i w mount.legal t none h.t h.taken h.of_it in
            let below : h.t.entry.position < synced i.shape log = h.below in
            omega arith
        first_one none (inr (r, h)) =
            let most : t.entry.position ≤ h.t.entry.position = before_none i w mount.legal t none h.t h.taken h.of_it in
            let below : h.t.entry.position < synced i.shape log = h.below in
            omega arith

        go : (o : Option Taken) → take_before (log_of w 0) t ≡ o → is_of line (landed_line_of i (log_of w) t.mark.lba (take_before (log_of w 0) t)) ≡ true
            → t.entry.position < synced i.shape (log_of w 0)
        go None before e = first_one before (of_winner (winner (counted (found_image i (log_of w))) t.mark.lba) refl
            (ap (λ x. is_of line (landed_line_of i (log_of w) t.mark.lba x)) (sym before) ∙ e))
        go (Some u) before e = of_position u before (landed_line i.shape log u.entry.position) refl
            (ap (λ x. is_of line (landed_line_of i (log_of w) t.mark.lba x)) (sym before) ∙ e)

    -- ---- the positions that count are below the front

    positions_below : AllByRecursion (λ position. position < may.newest.front) (positions_in i (log_of w) (life_of (log_of w 0) line) line)
    positions_below = go (life_of log line) refl may.below_front
      where
        go : (life : LineLife) → life_of (log_of w 0) line ≡ life → ((r : Record) → IsCountedIn i (log_of w) life line r → r.position < may.newest.front)
            → AllByRecursion (λ position. position < may.newest.front) (positions_in i (log_of w) life line)
        go (Freed was knows) e below = tt
        go AsFound e below =
            let mine : Record → Bool = λ r. r.line == line in
            all_mapped (λ position. position < may.newest.front) (λ (r : Record). r.position) (filter mine (counted (found_image i (log_of w))))
            (all_by_get (λ (r : Record). r.position < may.newest.front) (filter mine (counted (found_image i (log_of w)))) (λ k r at. below r (record {
              counts = contained_among (counted (found_image i (log_of w))) r (from_filter mine (counted (found_image i (log_of w))) r (k, at));
              in_line = same r.line line (all_at (λ x. mine x ≡ true) (filter mine (counted (found_image i (log_of w)))) k r at
                  (all_passed mine (counted (found_image i (log_of w)))));
            })))
        go (Opened o) e below =
            let its : o.line ≡ line = (opened_now i w mount line o e).1 in
            subst (λ n. AllByRecursion (λ position. position < may.newest.front) (positions_in i (log_of w) (Opened o) n)) its
            (positions_written i w mount o (ap (life_of log) its ∙ e) (λ position. position < may.newest.front) (λ r written. below r (inr written)))

    pub is_spent : IsSpent i (log_of w) line
    is_spent = record {
      in_range = may.in_range;
      over = may.over;
      seq = may.seq;
      has_seq = may.has_seq;
      newest = may.newest;
      is_newest = may.is_newest;
      older = may.older;
      below_front = positions_below;
      none_live = live_none i w line not_live;
      takers_synced = taken_within i w mount.legal line (synced i.shape log) taker_below;
    }
