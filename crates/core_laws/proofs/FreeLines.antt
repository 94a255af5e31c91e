-- A line that is spent may be freed.
use Rattle.std.proofs.Common.{◌≡◌, ◌≢◌, ◌⊎◌, inl, inr, ℕ, ◌<◌, ◌≤◌, ◌==◌, ◌&&◌, nat_eq, nat_lt, Bool, true, false, Some, None, Option, List, take, refl, sym, subst, ap, ◌∙◌, arith, if◌then◌else◌}
use Rattle.std.specs.List.{AllByRecursion, Contains, filter, last_or}
use Rattle.std.specs.Option.{option_and_then, option_map_or}
use Rattle.std.proofs.lemmas.Bool.{cases_lt, eqb-true, eqb-false}
use Rattle.std.proofs.lemmas.Option.{same_Some}
use Rattle.pblk_model.specs.Contents.{IsNewer, IsWinner, counted, end, is_of, winner}
use Rattle.pblk_model.specs.Image.{Image}
use Rattle.pblk_model.specs.Records.{Record}
use Rattle.pblk_laws.proofs.MarkNames.{sector_exactly}
use Rattle.pblk_laws.proofs.Winners.{no_winner_no_record, winner_is_winner}
use Rattle.pblk_world.specs.Events.{Logged}
use Rattle.pblk_world.specs.World.{World, log_of}
use Rattle.pblk_world.specs.EngineLog.{AsFound, Begun, begun, Freed, has_landed, holds_position, is_as_found, LineLife, life_of, Opened, Opening, Placed, placements, Taken, takes, was_lost}
use Rattle.pblk_world.specs.Freeing.{HasLandedIn, IsAnswered, IsCountedIn, IsFoundRecord, IsReplaced, IsWrittenRecord, MayFree}
use Rattle.pblk_world.specs.Fronts.{first_position, last_take, synced}
use Rattle.pblk_world.specs.Lines.{are_over, found_image}
use Rattle.pblk_world.specs.Starts.{seq_in}
use Rattle.pblk_world.specs.Victims.{is_live_in, landed_line_of, line_of, line_of_position, positions_in, take_before, took_from}
use Rattle.pblk_model.proofs.Lists.{IsAmong, among_contained}
use Rattle.pblk_model.proofs.Maps.{in_filter, map_at}
use Rattle.pblk_model.proofs.Parts.{all_at, contained_among}
use Rattle.pblk_model.proofs.Tests.{and_both, below_of, first_of, lt_true, not_both, same, same_number, second_of}
use Rattle.pblk_world.specs.LegalMounts.{IsLegalMount}
use Rattle.world_laws.proofs.Begun.{IsBegunWith, begun_with}
use Rattle.world_laws.proofs.FoundCounts.{counted_below}
use Rattle.world_laws.proofs.Fronts.{synced_from}
use Rattle.world_laws.proofs.KeptEntries.{latest_kept, winner_kept}
use Rattle.world_laws.proofs.Stripes.{stripe_is}
use Rattle.core_laws.specs.Spent.{IsSpent, OpensWhenFull}
use Rattle.core_laws.proofs.LandedNow.{HasRecord, found_below, front_within, has_record, opened_now}
use Rattle.core_laws.proofs.LastTakes.{HasFirst, HasNext, IsGreatest, greatest_of, has_first, has_next, last_is, last_none, none_of, took_below}
use Rattle.core_laws.proofs.LaterLines.{placed_again_later}
use Rattle.core_laws.proofs.OverAnswered.{over_answered}
use Rattle.core_laws.proofs.OverLines.{IsOfStripe, landed_is_written, of_stripe, written_counts}
use Rattle.core_laws.proofs.PlacedAnew.{landed_not_lost, one_kept}
use Rattle.world_laws.proofs.SectorValues.{found_capacity}
use Rattle.core_laws.proofs.SpentLines.{counted_small, lba_in}
use Rattle.core_laws.proofs.StandingLines.{IsStanding, landed_stands, line_stands, none_is_live}

module _ (i : Image) (w : World) (mount : IsLegalMount i w) (g : Begun) (begins : begun (log_of w 0) ≡ Some g) (full : OpensWhenFull i (log_of w)) (line : ℕ)
    (spent : IsSpent i (log_of w) line) where
  abbrev log : List Logged
  log = log_of w 0

  abbrev front : ℕ
  front = synced i.shape (log_of w 0)

  -- ---- the latest entry of a sector below synced

  record IsLatestOf (lba : ℕ) (m : Taken) : Type 0 where
    taken : IsAmong (takes (log_of w 0)) m
    of_it : m.mark.lba ≡ lba
    below : m.entry.position < synced i.shape (log_of w 0)
    greatest : (u : Taken) → IsAmong (takes (log_of w 0)) u → u.mark.lba ≡ lba → u.entry.position < synced i.shape (log_of w 0)
        → u.entry.position ≤ m.entry.position

  NoneBelow : ℕ → Type 0
  NoneBelow lba = (u : Taken) → IsAmong (takes (log_of w 0)) u → u.mark.lba ≡ lba → synced i.shape (log_of w 0) ≤ u.entry.position

  latest_or_none : (lba : ℕ) → ((m : Taken) × IsLatestOf lba m) ⊎ NoneBelow lba
  unfolding NoneBelow
  latest_or_none lba = go (last_or None (filter test (takes log))) refl
    where
      test : Taken → Bool
      test u = (u.mark.lba == lba) && nat_lt u.entry.position (synced i.shape (log_of w 0))

      passes : (u : Taken) → u.mark.lba ≡ lba → u.entry.position < synced i.shape (log_of w 0) → test u ≡ true
      passes u its below = and_both (u.mark.lba == lba) (nat_lt u.entry.position front) (ap (λ n. n == lba) its ∙ same_number lba)
          (lt_true u.entry.position front below)

      go : (o : Option Taken) → last_or None (filter test (takes (log_of w 0))) ≡ o
          → ((m : Taken) × IsLatestOf lba m)
          ⊎ ((u : Taken) → IsAmong (takes (log_of w 0)) u → u.mark.lba ≡ lba → synced i.shape (log_of w 0) ≤ u.entry.position)
      go None e = inr none
        where
          none : (u : Taken) → IsAmong (takes (log_of w 0)) u → u.mark.lba ≡ lba → synced i.shape (log_of w 0) ≤ u.entry.position
          none u at its = by (cases_lt u.entry.position front)
            where
              by : (u.entry.position < synced i.shape (log_of w 0)) ⊎ (synced i.shape (log_of w 0) ≤ u.entry.position)
                  → synced i.shape (log_of w 0) ≤ u.entry.position
              by (inr above) = above
              by (inl below) = absurd (not_both (test u) (passes u its below) (none_of i w mount.legal test e u at))
      go (Some m) e =
          let h : IsGreatest i w mount.legal test m = greatest_of i w mount.legal test m e in
          inl (
            m,
            record {
              taken = h.there;
              of_it = same m.mark.lba lba (first_of (m.mark.lba == lba) (nat_lt m.entry.position front) h.passes);
              below = below_of m.entry.position front (second_of (m.mark.lba == lba) (nat_lt m.entry.position front) h.passes);
              greatest = λ u at its below. h.greatest u at (passes u its below);
            },
          )

  -- where it stands
  record StandsAt (m : Taken) : Type 0 where
    placed : Placed
    standing : IsStanding i w mount m.entry.position placed
    landed : has_landed (log_of w 0) placed ≡ true

  stands_at : (lba : ℕ) (m : Taken) → IsLatestOf lba m → lba < i.shape.capacity → StandsAt m
  stands_at lba m h small =
      let p = latest_kept i w m mount (contained_among (takes log) m h.taken) (subst (λ n. n < i.shape.capacity) (sym h.of_it) small) h.below
      (λ u there its below. h.greatest u (among_contained (takes log) u there) (its ∙ h.of_it) below) in
      record {
        placed = p.0;
        standing = record { there = p.1; holds = p.3; kept = landed_not_lost log p.0 p.2; stands = p.4 };
        landed = p.2;
      }

  -- it isn't in the line
  stands_elsewhere : (lba : ℕ) (m : Taken) → IsLatestOf lba m → lba < i.shape.capacity → (s : StandsAt m) → s.placed.stripe.line ≢ line
  stands_elsewhere lba m h small s here = go (last_take log lba) refl
    where
      not_live : is_live_in i (log_of w) line lba ≡ false
      not_live = none_is_live i w line lba spent.none_live small

      go : (o : Option Taken) → last_take (log_of w 0) lba ≡ o → ⊥
      go None last = last_none i w mount.legal lba last m h.taken h.of_it
      go (Some t) last = order (cases_lt m.entry.position t.entry.position) (last_is i w mount.legal lba t last)
        where
          order : (m.entry.position < t.entry.position) ⊎ (t.entry.position ≤ m.entry.position)
              → IsAmong (takes (log_of w 0)) t × (t.mark.lba ≡ lba)
              × ((u : Taken) → IsAmong (takes (log_of w 0)) u → u.mark.lba ≡ lba → u.entry.position ≤ t.entry.position) → ⊥
          order (inr most) t_is =
              let least : m.entry.position ≤ t.entry.position = t_is.2 m h.taken h.of_it in
              let level : t.entry.position ≡ m.entry.position = omega arith in
              not_both (is_live_in i (log_of w) line lba)
              (ap (λ x. is_of line (line_of i (log_of w) lba x)) last
              ∙ ap (λ n. is_of line (line_of_position i.shape log n)) level
              ∙ ap (is_of line) (line_stands i w mount m.entry.position s.placed s.standing ∙ ap (λ n. Some n) here) ∙ same_number line) not_live
          order (inl later) t_is =
              let n : HasNext i w mount.legal m = has_next i w mount.legal m t h.taken t_is.0 (t_is.1 ∙ sym h.of_it) later in
              let took : took_from i (log_of w) line n.next ≡ true =
              and_both (nat_lt n.next.mark.lba i.shape.capacity) (is_of line (landed_line_of i (log_of w) n.next.mark.lba (take_before log n.next)))
              (lt_true n.next.mark.lba i.shape.capacity (subst (λ x. x < i.shape.capacity) (sym (n.of_it ∙ h.of_it)) small))
              (ap (λ x. is_of line (landed_line_of i (log_of w) n.next.mark.lba x)) n.before
              ∙ ap (is_of line) (landed_stands i w mount m.entry.position s.placed s.standing s.landed ∙ ap (λ x. Some x) here) ∙ same_number line) in
              let below : n.next.entry.position < synced i.shape log = took_below i w mount.legal line front n.next spent.takers_synced n.there took in
              let most : n.next.entry.position ≤ m.entry.position = h.greatest n.next n.there (n.of_it ∙ h.of_it) below in
              let after : m.entry.position < n.next.entry.position = n.later in
              absurd (omega arith)

  -- ---- what replaces a record

  -- the latest entry below synced, where it is newer
  replaced_by : (r : Record) (lba : ℕ) (m : Taken) (h : IsLatestOf lba m) → lba < i.shape.capacity → (s : StandsAt m)
      → ((x : HasRecord i w mount m.entry.position s.placed) → IsNewer r x.r) → IsReplaced i (log_of w) line lba r
  replaced_by r lba m h small s newer =
      let x : HasRecord i w mount m.entry.position s.placed = has_record i w mount m.entry.position s.placed s.standing s.landed in
      let at : x.r.position ≡ m.entry.position = x.at in
      let below : m.entry.position < synced i.shape log = h.below in record {
        other = s.placed.stripe.line;
        is_other = stands_elsewhere lba m h small s;
        by = x.r;
        landed = subst (λ life. HasLandedIn i (log_of w) life s.placed.stripe.line x.r) (sym x.is_open) x.landed;
        sector = lba_in i w mount line m x.t x.r lba h.taken x.taken (sym x.its) x.names h.of_it small;
        newer = newer x;
        below_synced = omega arith;
      }

  -- ---- a line as it was found

  found_replaced : life_of (log_of w 0) line ≡ AsFound → (r : Record) (lba : ℕ) → IsFoundRecord i (log_of w) line r → r.lba ≡ Some lba
      → IsReplaced i (log_of w) line lba r
  unfolding NoneBelow
  found_replaced found r lba counts_here sector = go (latest_or_none lba)
    where
      small : lba < i.shape.capacity
      small = subst (λ n. lba < n) (found_capacity i (log_of w) (begun (log_of w 0)))
          (counted_small (found_image i (log_of w)) r lba counts_here.counts sector)

      -- the winner
      by_winner : ((u : Taken) → IsAmong (takes (log_of w 0)) u → u.mark.lba ≡ lba → synced i.shape (log_of w 0) ≤ u.entry.position)
          → (o : Option Record) → winner (counted (found_image i (log_of w))) lba ≡ o → IsReplaced i (log_of w) line lba r
      by_winner none None wins = absurd (no_winner_no_record (counted (found_image i (log_of w))) lba r wins counts_here.counts sector)
      by_winner none (Some v) wins = by (nat_eq v.line line) refl
        where
          is : IsWinner (counted (found_image i (log_of w))) lba v
          is = winner_is_winner (found_image i (log_of w)) lba v wins

          stands : life_of (log_of w 0) v.line ≡ AsFound
          stands = winner_kept i w lba v mount wins (λ u there its. none u (among_contained (takes log) u there) its)

          -- a line of the winner
          its_line : v.line ≡ line → line_of i (log_of w) lba None ≡ Some line
          its_line here = ap (λ o. option_and_then
              (λ (x : Record). if is_as_found (life_of log x.line) then Some x.line else None) o) wins
              ∙ ap (λ life. if is_as_found life then Some v.line else None) stands ∙ ap (λ n. Some n) here

          not_here : v.line ≡ line → ⊥
          not_here here = which (last_take log lba) refl
            where
              which : (o : Option Taken) → last_take (log_of w 0) lba ≡ o → ⊥
              which None last = not_both (is_live_in i (log_of w) line lba)
                  (ap (λ x. is_of line (line_of i (log_of w) lba x)) last ∙ ap (is_of line) (its_line here) ∙ same_number line)
                  (none_is_live i w line lba spent.none_live small)
              which (Some t) last =
                  let t_is = last_is i w mount.legal lba t last in
                  let f : HasFirst i w mount.legal lba = has_first i w mount.legal lba t t_is.0 t_is.1 in
                  let took : took_from i (log_of w) line f.entry ≡ true =
                  and_both (nat_lt f.entry.mark.lba i.shape.capacity) (is_of line (landed_line_of i (log_of w) f.entry.mark.lba (take_before log f.entry)))
                  (lt_true f.entry.mark.lba i.shape.capacity (subst (λ x. x < i.shape.capacity) (sym f.of_it) small))
                  (ap (λ x. is_of line (landed_line_of i (log_of w) f.entry.mark.lba x)) f.before
                  ∙ ap (λ x. is_of line (landed_line_of i (log_of w) x None)) f.of_it ∙ ap (is_of line) (its_line here) ∙ same_number line) in
                  let below : f.entry.entry.position < synced i.shape log = took_below i w mount.legal line front f.entry spent.takers_synced f.there took in
                  let above : synced i.shape log ≤ f.entry.entry.position = none f.entry f.there f.of_it in
                  absurd (omega arith)

          newer : v.line ≢ line → (r ≡ v) ⊎ IsNewer r v → IsNewer r v
          newer apart (inr h) = h
          newer apart (inl one) = absurd (apart (ap (λ (x : Record). x.line) (sym one) ∙ counts_here.in_line))

          by : (t : Bool) → nat_eq v.line line ≡ t → IsReplaced i (log_of w) line lba r
          by true e = absurd (not_here (eqb-true v.line line e))
          by false e =
              let with_ : IsBegunWith i w g = begun_with i w g mount.legal begins in
              let low : v.position < end (found_image i (log_of w)) = counted_below (found_image i (log_of w)) v is.there in
              let first : first_position log ≡ end (found_image i (log_of w)) =
              ap (λ x. option_map_or (λ (b : Begun). b.beginning.first) x 0) begins ∙ with_.first in
              let from : first_position log ≤ synced i.shape log = synced_from i.shape log in record {
                other = v.line;
                is_other = eqb-false v.line line e;
                by = v;
                landed = subst (λ life. HasLandedIn i (log_of w) life v.line v) (sym stands) (record { counts = is.there; in_line = refl });
                sector = is.of_it;
                newer = newer (eqb-false v.line line e) (is.newest r counts_here.counts sector);
                below_synced = omega arith;
              }

      go : ((m : Taken) × IsLatestOf lba m) ⊎ ((u : Taken) → IsAmong (takes (log_of w 0)) u → u.mark.lba ≡ lba → synced i.shape (log_of w 0) ≤ u.entry.position)
          → IsReplaced i (log_of w) line lba r
      go (inr none) = by_winner none (winner (counted (found_image i (log_of w))) lba) refl
      go (inl (m, h)) =
          let s : StandsAt m = stands_at lba m h small in
          let low : r.position < m.entry.position = found_below i w mount g r m begins counts_here.counts h.taken in
          replaced_by r lba m h small s (λ x. let at : x.r.position ≡ m.entry.position = x.at in inl (omega arith))

  -- ---- a line of this mount

  module _ (o : Opening) (is_open : life_of (log_of w 0) line ≡ Opened o) where
    its : o.line ≡ line
    its = (opened_now i w mount line o is_open).1

    stands_open : life_of (log_of w 0) o.line ≡ Opened o
    stands_open = ap (life_of log) its ∙ is_open

    over_here : are_over i (log_of w) o.line ≡ true
    over_here = ap (are_over i (log_of w)) its ∙ spent.over

    older : o.start.seq < spent.newest.seq
    older =
        let number : o.start.seq ≡ spent.seq = same_Some o.start.seq spent.seq (sym (ap (λ life. seq_in i (log_of w) life line) is_open) ∙ spent.has_seq) in
        let less : spent.seq < spent.newest.seq = spent.older in
        omega arith

    position_below : (r : Record) → IsWrittenRecord i (log_of w) o r → r.position < spent.newest.front
    position_below r written = written_counts i w mount o stands_open over_here (λ position. position < spent.newest.front) r written
        (subst (λ n. AllByRecursion (λ position. position < spent.newest.front) (positions_in i (log_of w) (Opened o) n)) (sym its)
        (subst (λ life. AllByRecursion (λ position. position < spent.newest.front) (positions_in i (log_of w) life line)) is_open spent.below_front))

    written_replaced : (r : Record) (lba : ℕ) → IsWrittenRecord i (log_of w) o r → r.lba ≡ Some lba → IsReplaced i (log_of w) line lba r
    unfolding NoneBelow
    written_replaced r lba written sector = go (latest_or_none lba)
      where
        e : IsOfStripe i w mount o stands_open r
        e = of_stripe i w mount o stands_open r written

        names_it : (e.t.mark.lba ≡ lba) × (lba < i.shape.capacity)
        names_it = (sector_exactly i.shape e.t.mark lba).0 (e.names ∙ ap (λ x. Some x) sector)

        below : e.t.entry.position < synced i.shape (log_of w 0)
        below =
            let under : r.position < spent.newest.front = position_below r written in
            let within : spent.newest.front ≤ synced i.shape log =
            front_within i w mount o spent.newest (opened_now i w mount line o is_open).0 spent.is_newest older in
            let at : e.t.entry.position ≡ r.position = e.its in
            omega arith

        -- the entry is the record's own, which was placed again
        again : (m : Taken) (s : StandsAt m) → s.placed.stripe.line ≢ line → m.entry.position ≡ r.position
            → (x : HasRecord i w mount m.entry.position s.placed) → r.seq < x.r.seq
        again m s elsewhere level x = which (was_lost log e.placed) refl
          where
            is : Contains (placements (log_of w 0)) e.placed × (e.placed.life ≡ Opened o)
                × (life_of (take e.placed.number (log_of w 0)) e.placed.stripe.line ≡ Opened o) × (e.placed.stripe.line ≡ o.line)
            is = stripe_is i w o e.placed mount.legal (opened_now i w mount line o is_open).0 e.of_opening

            held : holds_position i.shape m.entry.position e.placed ≡ true
            held = ap (λ n. holds_position i.shape n e.placed) level ∙ e.holds

            which : (t : Bool) → was_lost (log_of w 0) e.placed ≡ t → r.seq < x.r.seq
            which false kept =
                let one : e.placed ≡ s.placed =
                one_kept i w mount e.placed s.placed m.entry.position is.0 s.standing.there held s.standing.holds kept s.standing.kept in
                absurd (elsewhere (ap (λ (q : Placed). q.stripe.line) (sym one) ∙ is.3 ∙ its))
            which true lost =
                let later : o.start.seq < x.o.start.seq =
                placed_again_later i w mount full o x.o e.placed s.placed m.entry.position is.0 s.standing.there is.1 (sym s.standing.stands ∙ x.is_open)
                held s.standing.holds lost s.standing.kept (λ same_line. elsewhere (sym same_line ∙ is.3 ∙ its)) in
                let first : r.seq ≡ o.start.seq = e.seq in
                let second : x.r.seq ≡ x.o.start.seq = x.seq in
                omega arith

        go : ((m : Taken) × IsLatestOf lba m)
            ⊎ ((u : Taken) → IsAmong (takes (log_of w 0)) u → u.mark.lba ≡ lba → synced i.shape (log_of w 0) ≤ u.entry.position)
            → IsReplaced i (log_of w) line lba r
        go (inr none) = let above : synced i.shape log ≤ e.t.entry.position = none e.t e.taken names_it.0 in absurd (omega (arith, below))
        go (inl (m, h)) = replaced_by r lba m h names_it.1 s (λ x. newer x (cases_lt r.position m.entry.position))
          where
            s : StandsAt m
            s = stands_at lba m h names_it.1

            newer : (x : HasRecord i w mount m.entry.position s.placed) → (r.position < m.entry.position) ⊎ (m.entry.position ≤ r.position) → IsNewer r x.r
            newer x (inl less) = let at : x.r.position ≡ m.entry.position = x.at in inl (omega arith)
            newer x (inr most) =
                let at : x.r.position ≡ m.entry.position = x.at in
                let own : e.t.entry.position ≡ r.position = e.its in
                let least : e.t.entry.position ≤ m.entry.position = h.greatest e.t e.taken names_it.0 below in
                let level : m.entry.position ≡ r.position = omega arith in
                inr (omega arith, inl (again m s (stands_elsewhere lba m h names_it.1 s) level x))

  -- ---- all of it

  all_answered : (life : LineLife) → life_of (log_of w 0) line ≡ life → IsAnswered (log_of w) life
  all_answered AsFound e = tt
  all_answered (Freed was knows) e = tt
  all_answered (Opened o) e = over_answered i w mount o (stands_open o e) (over_here o e)

  all_below : (life : LineLife) → life_of (log_of w 0) line ≡ life → (r : Record) → IsCountedIn i (log_of w) life line r → r.position < spent.newest.front
  all_below (Freed was knows) e r counts_here = absurd counts_here
  all_below (Opened o) e r (inr written) = position_below o e r written
  all_below (Opened o) e r (inl landed) = position_below o e r (landed_is_written i w mount o (stands_open o e) r landed)
  all_below AsFound e r counts_here =
      let mine : Record → Bool = λ x. x.line == line in
      let here : IsAmong (filter mine (counted (found_image i (log_of w)))) r =
      in_filter mine (counted (found_image i (log_of w))) r (among_contained (counted (found_image i (log_of w))) r counts_here.counts)
      (ap (λ n. n == line) counts_here.in_line ∙ same_number line) in
      all_at (λ position. position < spent.newest.front) (positions_in i (log_of w) AsFound line) here.0 r.position
      (map_at (λ (x : Record). x.position) (filter mine (counted (found_image i (log_of w)))) r here.0 here.1)
      (subst (λ life. AllByRecursion (λ position. position < spent.newest.front) (positions_in i (log_of w) life line)) e spent.below_front)

  all_replaced : (life : LineLife) → life_of (log_of w 0) line ≡ life → (r : Record) (lba : ℕ) → IsCountedIn i (log_of w) life line r → r.lba ≡ Some lba
      → IsReplaced i (log_of w) line lba r
  all_replaced (Freed was knows) e r lba counts_here sector = absurd counts_here
  all_replaced AsFound e r lba counts_here sector = found_replaced e r lba counts_here sector
  all_replaced (Opened o) e r lba (inr written) sector = written_replaced o e r lba written sector
  all_replaced (Opened o) e r lba (inl landed) sector =
      written_replaced o e r lba (landed_is_written i w mount o (stands_open o e) r landed) sector

  pub may_free : MayFree i (log_of w) line
  may_free = record {
    in_range = spent.in_range;
    seq = spent.seq;
    has_seq = spent.has_seq;
    answered = all_answered (life_of log line) refl;
    newest = spent.newest;
    is_newest = spent.is_newest;
    older = spent.older;
    below_front = all_below (life_of log line) refl;
    replaced = all_replaced (life_of log line) refl;
    over = spent.over;
  }
