-- What is latest in a line that may be freed was overtaken: a later entry of the sector has landed
-- below the front synced.
use Rattle.std.proofs.Common.{◌≡◌, ◌⊎◌, inl, inr, ℕ, ◌<◌, ◌≤◌, ◌==◌, nat_lt, zero, suc, true, Some, None, Option, List, [], ◌∷◌, ◌++◌, length, refl, sym, subst, ap, ◌∙◌, arith, if◌then◌else◌}
use Rattle.std.specs.Option.{option_and_then}
use Rattle.std.proofs.lemmas.Bool.{cases_lt}
use Rattle.pblk_model.specs.Contents.{IsNewer, IsWinner, counted, is_of, winner}
use Rattle.pblk_model.specs.Image.{Image}
use Rattle.pblk_model.specs.Records.{Record}
use Rattle.pblk_laws.proofs.Winners.{winner_is_winner}
use Rattle.pblk_world.specs.EngineLog.{AsFound, Freed, has_landed, holds_position, is_as_found, LineLife, life_of, Opened, Placed, Taken, takes}
use Rattle.pblk_world.specs.Events.{Decides, Free, Logged}
use Rattle.pblk_world.specs.Freeing.{HasLandedIn, IsReplaced}
use Rattle.pblk_world.specs.Fronts.{last_take, synced}
use Rattle.pblk_world.specs.Legal.{IsLegal}
use Rattle.pblk_world.specs.Lines.{found_image}
use Rattle.pblk_world.specs.Victims.{engine_prefix, is_live_in, landed_line_of, line_of, line_of_winner, live, take_before, taken_up_to}
use Rattle.pblk_world.specs.World.{World, log_of}
use Rattle.pblk_world.proofs.WorldLemmas.{log_elsewhere}
use Rattle.pblk_model.proofs.Lists.{IsAmong, among_more}
use Rattle.pblk_model.proofs.Numbers.{fun_same}
use Rattle.pblk_model.proofs.Parts.{get_last, take_front}
use Rattle.pblk_model.proofs.Tests.{and_both, lt_true, not_both, same_number}
use Rattle.pblk_world.specs.LegalMounts.{IsLegalMount}
use Rattle.world_laws.proofs.Freeing.{IsFreeable, freed_at}
use Rattle.world_laws.proofs.Fronts.{synced_later}
use Rattle.world_laws.proofs.Later.{takes_joined}
use Rattle.world_laws.proofs.Latest.{not_older, one_entry}
use Rattle.world_laws.proofs.LifePlaces.{began}
use Rattle.world_laws.proofs.Made.{IsMade, step_by}
use Rattle.world_laws.proofs.WinnerLines.{never_both}
use Rattle.core_laws.proofs.LandedNow.{HasRecord, IsFrom, found_below, has_record, is_from}
use Rattle.core_laws.proofs.LastTakes.{HasFirst, HasNext, has_first, has_next, last_is, last_none, took_below}
use Rattle.core_laws.proofs.PlacedAnew.{one_kept}
use Rattle.core_laws.proofs.SpentLines.{lba_in, lba_of}
use Rattle.core_laws.proofs.StandingLines.{IsStanding, landed_stands, line_stands, none_is_live}

-- an entry of the sector from a position on, below the front synced
pub record IsOvertaken (i : Image) (w : World) (lba from : ℕ) : Type 0 where
  pub t : Taken
  pub there : IsAmong (takes (log_of w 0)) t
  pub of_it : t.mark.lba ≡ lba
  pub least : from ≤ t.entry.position
  pub below : t.entry.position < synced i.shape (log_of w 0)

-- it is so later too
pub overtaken_later : (i : Image) (v w : World) (more : List Logged) (lba from : ℕ) → log_of w 0 ≡ log_of v 0 ++ more → IsOvertaken i v lba from
    → IsOvertaken i w lba from
overtaken_later i v w more lba from whole h =
    let grown : synced i.shape (log_of v 0) ≤ synced i.shape (log_of v 0 ++ more) = synced_later i.shape (log_of v 0) more in
    let same : synced i.shape (log_of w 0) ≡ synced i.shape (log_of v 0 ++ more) = ap (synced i.shape) whole in
    let below : h.t.entry.position < synced i.shape (log_of v 0) = h.below in
    record {
      t = h.t;
      there = subst (λ (ts : List Taken). IsAmong ts h.t) (sym (ap takes whole ∙ takes_joined (log_of v 0) more))
          (among_more (takes (log_of v 0)) (takes more) h.t h.there);
      of_it = h.of_it;
      least = h.least;
      below = omega arith;
    }

-- All that was latest in a line was overtaken: an entry that has landed there, or a sector's
-- winner.
pub record IsOutlived (i : Image) (w : World) (mount : IsLegalMount i w) (line : ℕ) : Type 0 where
  pub entry : (t : Taken) (p : Placed) (lba : ℕ) → IsStanding i w mount t.entry.position p → has_landed (log_of w 0) p ≡ true
      → p.stripe.line ≡ line → IsAmong (takes (log_of w 0)) t → t.mark.lba ≡ lba → lba < i.shape.capacity → IsOvertaken i w lba (suc t.entry.position)
  pub winner : (lba : ℕ) (r : Record) → winner (counted (found_image i (log_of w))) lba ≡ Some r → r.line ≡ line
      → life_of (log_of w 0) line ≡ AsFound → lba < i.shape.capacity → IsOvertaken i w lba 0

-- ---- in a line that may be freed

module _ (i : Image) (w : World) (mount : IsLegalMount i w) (line : ℕ) (free : IsFreeable i (log_of w) line) where
  abbrev log : List Logged
  log = log_of w 0

  -- an entry that has landed there
  entry_overtaken : (t : Taken) (p : Placed) (lba : ℕ) → IsStanding i w mount t.entry.position p → has_landed (log_of w 0) p ≡ true
      → p.stripe.line ≡ line → IsAmong (takes (log_of w 0)) t → t.mark.lba ≡ lba → lba < i.shape.capacity → IsOvertaken i w lba (suc t.entry.position)
  entry_overtaken t p lba stands landed in_line taken its small = go (life_of log rep.other) refl rep.landed
    where
      h : HasRecord i w mount t.entry.position p
      h = has_record i w mount t.entry.position p stands landed

      is_open : life_of (log_of w 0) line ≡ Opened h.o
      is_open = ap (life_of log) (sym in_line) ∙ h.is_open

      rep : IsReplaced i (log_of w) line lba h.r
      rep = free.replaced h.r lba (subst (λ life. HasLandedIn i (log_of w) life line h.r) (sym is_open) h.landed)
          (lba_in i w mount line t h.t h.r lba taken h.taken (sym h.its) h.names its small)

      at : h.r.position ≡ t.entry.position
      at = h.at

      above : h.r.position ≤ rep.by.position
      above = not_older h.r rep.by rep.newer

      go : (life : LineLife) → life_of (log_of w 0) rep.other ≡ life → HasLandedIn i (log_of w) life rep.other rep.by
          → IsOvertaken i w lba (suc t.entry.position)
      go (Freed was knows) e by = absurd by
      go AsFound e by =
          let b = began i w line h.o mount.legal is_open in
          let low : rep.by.position < t.entry.position = found_below i w mount b.0 rep.by t b.1 by.counts taken in
          absurd (omega (arith, above, at))
      go (Opened o) e by = from (is_from i w mount rep.other o rep.by e by)
        where
          from : IsFrom i w mount rep.other rep.by → IsOvertaken i w lba (suc t.entry.position)
          from f = order (cases_lt t.entry.position rep.by.position)
            where
              its_position : f.t.entry.position ≡ rep.by.position
              its_position = f.its

              below : rep.by.position < synced i.shape (log_of w 0)
              below = rep.below_synced

              order : (t.entry.position < rep.by.position) ⊎ (rep.by.position ≤ t.entry.position) → IsOvertaken i w lba (suc t.entry.position)
              order (inl less) = record {
                t = f.t;
                there = f.taken;
                of_it = lba_of i w mount line f.t rep.by lba f.names rep.sector;
                least = omega (arith, its_position);
                below = omega (arith, its_position, below);
              }
              order (inr most) =
                  let level : rep.by.position ≡ t.entry.position = omega (arith, above, at) in
                  let one : f.placed ≡ p = one_kept i w mount f.placed p t.entry.position f.standing.there stands.there
                  (ap (λ n. holds_position i.shape n f.placed) (sym level) ∙ f.standing.holds) stands.holds f.standing.kept stands.kept in
                  absurd (rep.is_other (sym f.its_line ∙ ap (λ (q : Placed). q.stripe.line) one ∙ in_line))

  -- a sector's winner there
  winner_overtaken : (lba : ℕ) (r : Record) → winner (counted (found_image i (log_of w))) lba ≡ Some r → r.line ≡ line
      → life_of (log_of w 0) line ≡ AsFound → IsOvertaken i w lba 0
  winner_overtaken lba r wins in_line found = go (life_of log rep.other) refl rep.landed
    where
      is : IsWinner (counted (found_image i (log_of w))) lba r
      is = winner_is_winner (found_image i (log_of w)) lba r wins

      rep : IsReplaced i (log_of w) line lba r
      rep = free.replaced r lba
          (subst (λ life. HasLandedIn i (log_of w) life line r) (sym found) (record { counts = is.there; in_line = in_line })) is.of_it

      no_found : (rep.by ≡ r) ⊎ IsNewer rep.by r → ⊥
      no_found (inl one) = never_both r r (subst (IsNewer r) one rep.newer) (subst (IsNewer r) one rep.newer)
      no_found (inr newer) = never_both r rep.by rep.newer newer

      go : (life : LineLife) → life_of (log_of w 0) rep.other ≡ life → HasLandedIn i (log_of w) life rep.other rep.by → IsOvertaken i w lba 0
      go AsFound e by = absurd (no_found (is.newest rep.by by.counts rep.sector))
      go (Freed was knows) e by = absurd by
      go (Opened o) e by =
          let f : IsFrom i w mount rep.other rep.by = is_from i w mount rep.other o rep.by e by in
          let its : f.t.entry.position ≡ rep.by.position = f.its in
          let below : rep.by.position < synced i.shape log = rep.below_synced in
          record {
            t = f.t;
            there = f.taken;
            of_it = lba_of i w mount line f.t rep.by lba f.names rep.sector;
            least = omega arith;
            below = omega arith;
          }

  pub outlived_where_freeable : IsOutlived i w mount line
  outlived_where_freeable = record { entry = entry_overtaken; winner = λ lba r wins its found small. winner_overtaken lba r wins its found }

-- ---- in a line without live sectors, whose takers are below synced

module _ (i : Image) (w : World) (mount : IsLegalMount i w) (line : ℕ) (none : live i (log_of w) line ≡ 0)
    (synced_takers : taken_up_to i (log_of w) line ≤ synced i.shape (log_of w 0)) where
  abbrev own : List Logged
  own = log_of w 0

  not_live : (lba : ℕ) → lba < i.shape.capacity → is_of line (line_of i (log_of w) lba (last_take (log_of w 0) lba)) ≡ true → ⊥
  not_live lba small is = not_both (is_live_in i (log_of w) line lba) is (none_is_live i w line lba none small)

  -- what took a sector from the line
  taker : (lba : ℕ) (u : Taken) → IsAmong (takes (log_of w 0)) u → u.mark.lba ≡ lba → lba < i.shape.capacity
      → is_of line (landed_line_of i (log_of w) u.mark.lba (take_before (log_of w 0) u)) ≡ true → u.entry.position < synced i.shape (log_of w 0)
  taker lba u there its small from = took_below i w mount.legal line (synced i.shape own) u synced_takers there
      (and_both (nat_lt u.mark.lba i.shape.capacity) (is_of line (landed_line_of i (log_of w) u.mark.lba (take_before own u)))
      (lt_true u.mark.lba i.shape.capacity (subst (λ n. n < i.shape.capacity) (sym its) small)) from)

  entry_taken : (t : Taken) (p : Placed) (lba : ℕ) → IsStanding i w mount t.entry.position p → has_landed (log_of w 0) p ≡ true
      → p.stripe.line ≡ line → IsAmong (takes (log_of w 0)) t → t.mark.lba ≡ lba → lba < i.shape.capacity → IsOvertaken i w lba (suc t.entry.position)
  entry_taken t p lba stands landed in_line taken its small = go (last_take own lba) refl
    where
      by_next : HasNext i w mount.legal t → IsOvertaken i w lba (suc t.entry.position)
      by_next h =
          let later : t.entry.position < h.next.entry.position = h.later in
          record {
            t = h.next;
            there = h.there;
            of_it = h.of_it ∙ its;
            least = omega arith;
            below = taker lba h.next h.there (h.of_it ∙ its) small
                (ap (λ o. is_of line (landed_line_of i (log_of w) h.next.mark.lba o)) h.before
                ∙ ap (is_of line) (landed_stands i w mount t.entry.position p stands landed)
                ∙ ap (λ n. n == line) in_line ∙ same_number line);
          }

      go : (o : Option Taken) → last_take (log_of w 0) lba ≡ o → IsOvertaken i w lba (suc t.entry.position)
      go None last = absurd (last_none i w mount.legal lba last t taken its)
      go (Some u) last = by (last_is i w mount.legal lba u last)
        where
          by : IsAmong (takes (log_of w 0)) u × (u.mark.lba ≡ lba)
              × ((x : Taken) → IsAmong (takes (log_of w 0)) x → x.mark.lba ≡ lba → x.entry.position ≤ u.entry.position)
              → IsOvertaken i w lba (suc t.entry.position)
          by u_is = order (cases_lt t.entry.position u.entry.position)
            where
              order : (t.entry.position < u.entry.position) ⊎ (u.entry.position ≤ t.entry.position) → IsOvertaken i w lba (suc t.entry.position)
              order (inl less) = by_next (has_next i w mount.legal t u taken u_is.0 (u_is.1 ∙ sym its) less)
              order (inr most) =
                  let least : t.entry.position ≤ u.entry.position = u_is.2 t taken its in
                  let level : t.entry.position ≡ u.entry.position = omega arith in
                  let one : t ≡ u = one_entry i w t u mount.legal taken u_is.0 level in
                  absurd (not_live lba small (ap (λ o. is_of line (line_of i (log_of w) lba o)) (last ∙ ap (λ x. Some x) (sym one))
                  ∙ ap (is_of line) (line_stands i w mount t.entry.position p stands) ∙ ap (λ n. n == line) in_line ∙ same_number line))

  winner_taken : (lba : ℕ) (r : Record) → winner (counted (found_image i (log_of w))) lba ≡ Some r → r.line ≡ line
      → life_of (log_of w 0) line ≡ AsFound → lba < i.shape.capacity → IsOvertaken i w lba 0
  winner_taken lba r wins in_line found small = go (last_take own lba) refl
    where
      here : is_of line (line_of_winner i (log_of w) lba) ≡ true
      here =
          ap (λ o. is_of line (option_and_then (λ (x : Record). if is_as_found (life_of own x.line) then Some x.line else None) o)) wins
          ∙ ap (λ b. is_of line (if b then Some r.line else None)) (ap (λ n. is_as_found (life_of own n)) in_line ∙ ap is_as_found found)
          ∙ ap (λ n. n == line) in_line ∙ same_number line

      go : (o : Option Taken) → last_take (log_of w 0) lba ≡ o → IsOvertaken i w lba 0
      go None last = absurd (not_live lba small (ap (λ o. is_of line (line_of i (log_of w) lba o)) last ∙ here))
      go (Some u) last =
          let u_is = last_is i w mount.legal lba u last in
          let h : HasFirst i w mount.legal lba = has_first i w mount.legal lba u u_is.0 u_is.1 in
          record {
            t = h.entry;
            there = h.there;
            of_it = h.of_it;
            least = omega arith;
            below = taker lba h.entry h.there h.of_it small
                (ap (λ o. is_of line (landed_line_of i (log_of w) h.entry.mark.lba o)) h.before
                ∙ ap (λ n. is_of line (line_of_winner i (log_of w) n)) h.of_it ∙ here);
          }

  pub outlived_where_spent : IsOutlived i w mount line
  outlived_where_spent = record { entry = entry_taken; winner = winner_taken }

-- ---- when a line was freed

-- just before that it might be freed
freeable_then : (i : Image) (w : World) (k line : ℕ) (l : Logged) (h : IsMade i w 0 k l) → l.event ≡ Decides (Free line)
    → IsFreeable i (log_of h.before) line
unfolding IsLegal
freeable_then i w k line l h frees = subst (λ logs. IsFreeable i logs line) same
    (freed_at i (step_by 0 l ∷ h.before) (length (log_of h.before 0)) line l legal (get_last (log_of h.before 0) l) frees)
  where
    legal : IsLegal i (step_by 0 l ∷ h.before)
    legal = (h.step, h.legal)

    each : (author : ℕ) → engine_prefix (length (log_of h.before 0)) (log_of (step_by 0 l ∷ h.before)) author ≡ log_of h.before author
    each zero = take_front (log_of h.before 0) (l ∷ []) (length (log_of h.before 0)) refl
    each (suc unit) = log_elsewhere (step_by 0 l) h.before (suc unit) (λ e. absurd (omega arith))

    same : engine_prefix (length (log_of h.before 0)) (log_of (step_by 0 l ∷ h.before)) ≡ log_of h.before
    same = fun_same (engine_prefix (length (log_of h.before 0)) (log_of (step_by 0 l ∷ h.before))) (log_of h.before) each

pub mount_then : (i : Image) (w : World) (k : ℕ) (l : Logged) → IsLegalMount i w → (h : IsMade i w 0 k l) → IsLegalMount i h.before
mount_then i w k l mount h = record { accepted = mount.accepted; fit = mount.fit; legal = h.legal }

pub outlived_then : (i : Image) (w : World) (k line : ℕ) (l : Logged) (mount : IsLegalMount i w) (h : IsMade i w 0 k l) → l.event ≡ Decides (Free line)
    → IsOutlived i h.before (mount_then i w k l mount h) line
outlived_then i w k line l mount h frees =
    outlived_where_freeable i h.before (mount_then i w k l mount h) line (freeable_then i w k line l h frees)
