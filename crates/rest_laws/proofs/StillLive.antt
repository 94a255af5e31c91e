-- While a line is at work as the victim, a sector that is live in it stays so until an entry of it
-- is taken. So its live sectors change by entries alone, each by one at most.
use Rattle.std.proofs.Common.{◌≡◌, ◌≢◌, ◌⊎◌, inl, inr, ℕ, ◌+◌, ◌<◌, ◌≤◌, zero, suc, Bool, true, false, Some, None, Option, List, ◌∷◌, ◌++◌, length, take, drop, refl, sym, subst, ap, ap₂, ◌∙◌, arith, append-nil, length-take, nat_eq, cond, if◌then◌else◌}
use Rattle.std.specs.Prelude.{slice_get}
use Rattle.std.specs.List.{Contains, filter, range_with_len}
use Rattle.std.specs.Option.{option_and_then, option_map_or, option_to_list}
use Rattle.std.proofs.lemmas.Bool.{cases_lt, eqb-false, eqb-true}
use Rattle.std.proofs.lemmas.List.{take-take}
use Rattle.std.proofs.lemmas.Option.{none-some, same_Some}
use Rattle.pblk_model.specs.Contents.{counted, is_of, winner}
use Rattle.pblk_model.specs.Image.{Image}
use Rattle.pblk_model.specs.Records.{Record}
use Rattle.pblk_world.specs.AtRest.{logs_at}
use Rattle.pblk_world.specs.EngineLog.{AsFound, Begun, Freed, has_landed, is_answered, is_as_found, is_life, LineLife, life_of, Opened, Placed, placements, stripes_of, Taken, taken_by, takes}
use Rattle.pblk_world.specs.Events.{Logged, Source}
use Rattle.pblk_world.specs.Fronts.{first_position, last_take, taken}
use Rattle.pblk_world.specs.Lines.{are_over, found_image}
use Rattle.pblk_world.specs.Taking.{IsPlaceOfLatest}
use Rattle.pblk_world.specs.Victims.{engine_prefix, is_live_in, line_of, line_of_position, live, victim}
use Rattle.pblk_world.specs.World.{World, Logs, log_of}
use Rattle.pblk_world.proofs.EngineLogLemmas.{begun_taken, takes_more}
use Rattle.pblk_model.proofs.Lists.{IsAmong, among_contained}
use Rattle.pblk_model.proofs.Maps.{in_filter}
use Rattle.pblk_model.proofs.Parts.{contained_among, from_last, get_last, take_and_drop, take_next}
use Rattle.pblk_model.proofs.Tests.{not_both, same, same_number}
use Rattle.pblk_world.specs.LegalMounts.{IsLegalMount}
use Rattle.world_laws.proofs.Later.{landed_later, placed_later, placed_within}
use Rattle.world_laws.proofs.Latest.{one_entry}
use Rattle.world_laws.proofs.NextPrograms.{landed_of_answered}
use Rattle.world_laws.proofs.Positions.{position_below, position_of}
use Rattle.world_laws.proofs.Stripes.{life_of_stripe, opening_then}
use Rattle.core_laws.proofs.LastTakes.{last_is, last_none}
use Rattle.core_laws.proofs.OverAnswered.{over_answered}
use Rattle.core_laws.proofs.PlacedAnew.{landed_not_lost}
use Rattle.core_laws.proofs.StandingLines.{IsStanding, stands_in_line}
use Rattle.core_laws.proofs.TakenRows.{count_less}
use Rattle.core_laws.proofs.VictimsAtWork.{IsVictim}
use Rattle.world_laws.proofs.ToldImages.{told_then}
use Rattle.world_laws.proofs.ToldTables.{live_in_told}
use Rattle.rest_laws.specs.AtWork.{IsAtWorkFrom, WasTakenSince}
use Rattle.rest_laws.proofs.FewerLive.{found_v, from_v, live_by_place, live_then, mount_v, not_live_now, stands_live, winner_live}
use Rattle.rest_laws.proofs.Latest.{entry_after}
use Rattle.rest_laws.proofs.LengthLogs.{IsWorldAt, world_at}
use Rattle.rest_laws.proofs.LivesAtWork.{is_victim, life_at_work}
use Rattle.rest_laws.proofs.VictimStripes.{live_there, live_whole, mount_at, prefix_of, victim_there}

-- ---- tests

same_test : (a b : Bool) → (a ≡ true → b ≡ true) → (b ≡ true → a ≡ true) → b ≡ a
same_test true true f g = refl
same_test true false f g = f refl
same_test false true f g = sym (g refl)
same_test false false f g = refl

module _ (i : Image) (w : World) (mount : IsLegalMount i w) (line a : ℕ) (some : 0 < a) (within : a ≤ length (log_of w 0))
    (at_work : IsAtWorkFrom i (log_of w) a line) where
  abbrev log : List Logged
  log = log_of w 0

  abbrev v : IsWorldAt i w a
  v = world_at i w a mount.legal within

  abbrev then_mount : IsLegalMount i (world_at i w a mount.legal within).world
  then_mount = mount_v i w mount line a some within at_work

  abbrev pub IsUntaken : ℕ → Type 0
  IsUntaken lba = (u : Taken) → IsAmong (takes (log_of w 0)) u → u.mark.lba ≡ lba → taken (take a (log_of w 0)) ≤ u.entry.position → ⊥

  to_v : (t : Taken) → IsAmong (takes (take a (log_of w 0))) t → IsAmong (takes (log_of (world_at i w a mount.legal within).world 0)) t
  to_v t at = subst (λ (xs : List Logged). IsAmong (takes xs) t) (sym v.own) at

  life_same : life_of (log_of w 0) line ≡ life_of (log_of (world_at i w a mount.legal within).world 0) line
  life_same = life_at_work i w mount line a at_work within ∙ ap (λ (xs : List Logged). life_of xs line) (sym v.own)

  -- a stripe that stood in the line stands there: it had landed
  stands_still : (p : Placed) (position : ℕ) → IsStanding i (world_at i w a mount.legal within).world then_mount position p → p.stripe.line ≡ line
      → IsStanding i w mount position p
  stands_still p position h in_line =
      let xs : List Logged = log_of v.world 0 in
      let life = life_of_stripe i v.world p v.legal h.there in
      let opened = opening_then xs p.number p.stripe.line life.0 life.2 in
      let is_open : life_of xs life.0.line ≡ Opened life.0 = ap (life_of xs) opened.1 ∙ h.stands ∙ life.1 in
      let is : IsVictim i (log_of v.world) line = is_victim i w mount line a within (at_work.each a (omega arith) within) in
      let of_life : Contains (stripes_of xs life.0) p = contained_among (stripes_of xs life.0) p
      (in_filter (λ (x : Placed). is_life life.0.number x.life) (placements xs) p (among_contained (placements xs) p h.there)
      (ap (is_life life.0.number) life.1 ∙ same_number life.0.number)) in
      let answered : is_answered xs p ≡ true = over_answered i v.world then_mount life.0 is_open
      (ap (are_over i (log_of v.world)) (opened.1 ∙ in_line) ∙ is.over) p of_life in
      let landed : has_landed xs p ≡ true = landed_of_answered xs p answered h.kept in
      let parts : xs ++ drop a log ≡ log = ap (λ ys. ys ++ drop a log) v.own ∙ take_and_drop a log in
      let landed_now : has_landed log p ≡ true =
      subst (λ ys. has_landed ys p ≡ true) parts (landed_later xs (drop a log) p (placed_within xs p h.there) landed) in
      record {
        there = subst (λ ys. Contains (placements ys) p) parts (placed_later xs (drop a log) p h.there);
        holds = h.holds;
        kept = landed_not_lost log p landed_now;
        stands = ap (life_of log) in_line ∙ life_same ∙ ap (life_of xs) (sym in_line) ∙ h.stands;
      }

  pub live_still : (lba : ℕ) → IsUntaken lba → is_live_in i (log_of (world_at i w a mount.legal within).world) line lba ≡ true
      → is_live_in i (log_of w) line lba ≡ true
  live_still lba none was = go (last_take (log_of v.world 0) lba) refl was
    where
      of_entry : (t : Taken) → last_take (log_of (world_at i w a mount.legal within).world 0) lba ≡ Some t → (o : Option ℕ)
          → line_of_position i.shape (log_of (world_at i w a mount.legal within).world 0) t.entry.position ≡ o → is_of line o ≡ true
          → is_live_in i (log_of w) line lba ≡ true
      of_entry t last None e f = absurd cc
      of_entry t last (Some other) e f = by (last_take log lba) refl
        where
          t_is : IsAmong (takes (log_of (world_at i w a mount.legal within).world 0)) t × (t.mark.lba ≡ lba)
              × ((u : Taken) → IsAmong (takes (log_of (world_at i w a mount.legal within).world 0)) u → u.mark.lba ≡ lba
              → u.entry.position ≤ t.entry.position)
          t_is = last_is i v.world v.legal lba t last

          now : IsAmong (takes (log_of w 0)) t
          now = from_v i w mount line a some within at_work t t_is.0

          p : (p : Placed) × IsStanding i (world_at i w a mount.legal within).world then_mount t.entry.position p × (p.stripe.line ≡ other)
          p = stands_in_line i v.world then_mount t.entry.position other e

          in_line : p.0.stripe.line ≡ line
          in_line = p.2 ∙ same other line f

          is : (u : Taken) → last_take (log_of w 0) lba ≡ Some u
              → IsAmong (takes (take a (log_of w 0))) u ⊎ (taken (take a (log_of w 0)) ≤ u.entry.position) → u ≡ t
          is u last_now (inr after) = let u_is = last_is i w mount.legal lba u last_now in absurd (none u u_is.0 u_is.1 after)
          is u last_now (inl before) =
              let u_is = last_is i w mount.legal lba u last_now in
              let most : t.entry.position ≤ u.entry.position = u_is.2 t now t_is.1 in
              let least : u.entry.position ≤ t.entry.position = t_is.2 u (to_v u before) u_is.1 in
              one_entry i w u t mount.legal u_is.0 now (omega arith)

          by : (o : Option Taken) → last_take (log_of w 0) lba ≡ o → is_live_in i (log_of w) line lba ≡ true
          by None last_now = absurd (last_none i w mount.legal lba last_now t now t_is.1)
          by (Some u) last_now =
              let one : u ≡ t = is u last_now (entry_after i w a u mount some (last_is i w mount.legal lba u last_now).0) in
              stands_live i w mount line a some within at_work w mount lba t p.0 (last_now ∙ ap (λ x. Some x) one)
              (stands_still p.0 t.entry.position p.1 in_line) in_line

      of_winner : last_take (log_of (world_at i w a mount.legal within).world 0) lba ≡ None → (o : Option Record)
          → winner (counted (found_image i (log_of (world_at i w a mount.legal within).world))) lba ≡ o
          → is_of line (option_and_then (λ (r : Record).
          if is_as_found (life_of (log_of (world_at i w a mount.legal within).world 0) r.line) then Some r.line else None) o) ≡ true
          → is_live_in i (log_of w) line lba ≡ true
      of_winner last None wins e = absurd cc
      of_winner last (Some r) wins e = by (life_of (log_of v.world 0) r.line) refl e
        where
          none_now : (o : Option Taken) → last_take (log_of w 0) lba ≡ o → last_take (log_of w 0) lba ≡ None
          none_now None f = f
          none_now (Some u) f =
              let u_is = last_is i w mount.legal lba u f in
              which u u_is.1 u_is.0 (entry_after i w a u mount some u_is.0)
            where
              which : (u : Taken) → u.mark.lba ≡ lba → IsAmong (takes (log_of w 0)) u
                  → IsAmong (takes (take a (log_of w 0))) u ⊎ (taken (take a (log_of w 0)) ≤ u.entry.position) → last_take (log_of w 0) lba ≡ None
              which u its at (inl before) = absurd (last_none i v.world v.legal lba last u (to_v u before) its)
              which u its at (inr after) = absurd (none u at its after)

          by : (life : LineLife) → life_of (log_of (world_at i w a mount.legal within).world 0) r.line ≡ life
              → is_of line (if is_as_found life then Some r.line else None) ≡ true → is_live_in i (log_of w) line lba ≡ true
          by (Opened o) found f = absurd cc
          by (Freed was knows) found f = absurd cc
          by AsFound found f =
              let its : r.line ≡ line = same r.line line f in
              winner_live i w mount line a some within at_work w lba r (none_now (last_take log lba) refl)
              (ap (λ (j : Image). winner (counted j) lba) (sym (found_v i w mount line a some within at_work)) ∙ wins)
              (ap (life_of log) its ∙ life_same ∙ ap (life_of (log_of v.world 0)) (sym its) ∙ found) its

      go : (o : Option Taken) → last_take (log_of (world_at i w a mount.legal within).world 0) lba ≡ o
          → is_of line (line_of i (log_of (world_at i w a mount.legal within).world) lba
          (last_take (log_of (world_at i w a mount.legal within).world 0) lba)) ≡ true → is_live_in i (log_of w) line lba ≡ true
      go None last e = of_winner last (winner (counted (found_image i (log_of v.world))) lba) refl
          (ap (λ o. is_of line (line_of i (log_of v.world) lba o)) (sym last) ∙ e)
      go (Some t) last e = of_entry t last (line_of_position i.shape (log_of v.world 0) t.entry.position) refl
          (ap (λ o. is_of line (line_of i (log_of v.world) lba o)) (sym last) ∙ e)

  -- where it wasn't taken it is live there exactly if it was
  live_same : (lba : ℕ) → IsUntaken lba → is_live_in i (log_of w) line lba ≡ is_live_in i (log_of (world_at i w a mount.legal within).world) line lba
  live_same lba none = same_test (is_live_in i (log_of v.world) line lba) (is_live_in i (log_of w) line lba) (live_still lba none)
      (live_then i w mount line a some within at_work lba)

  pub count_same : ((lba : ℕ) → lba < i.shape.capacity → is_live_in i (log_of w) line lba
      ≡ is_live_in i (log_of (world_at i w a mount.legal within).world) line lba)
      → live i (log_of w) line ≡ live i (log_of (world_at i w a mount.legal within).world) line
  count_same all = ap length (agree 0 i.shape.capacity (λ k small. let alike : 0 + k ≡ k = omega arith in
      subst (λ n. is_live_in i (log_of w) line n ≡ is_live_in i (log_of v.world) line n) (sym alike) (all k small)))
    where
      agree : (from n : ℕ) → ((k : ℕ) → k < n → is_live_in i (log_of w) line (from + k)
          ≡ is_live_in i (log_of (world_at i w a mount.legal within).world) line (from + k))
          → filter (is_live_in i (log_of w) line) (range_with_len from n)
          ≡ filter (is_live_in i (log_of (world_at i w a mount.legal within).world) line) (range_with_len from n)
      agree from zero h = refl
      agree from (suc n) h =
          let first : from + 0 ≡ from = omega arith in
          let rest = agree (from + 1) n (λ k small. let next : from + suc k ≡ from + 1 + k = omega arith in
          subst (λ m. is_live_in i (log_of w) line m ≡ is_live_in i (log_of v.world) line m) next (h (suc k) (omega arith))) in
          ap₂ (λ b ys. cond b (from ∷ ys) ys)
          (subst (λ m. is_live_in i (log_of w) line m ≡ is_live_in i (log_of v.world) line m) first (h 0 (omega arith))) rest

-- ---- by one event of the engine

module _ (i : Image) (w : World) (mount : IsLegalMount i w) (line k : ℕ) (some : 0 < k) (next : suc k ≤ length (log_of w 0))
    (was_at_work : victim i (log_of w) k ≡ Some line) (at_work : victim i (log_of w) (suc k) ≡ Some line) (l : Logged)
    (there : slice_get (log_of w 0) k ≡ Some l) where
  abbrev whole : List Logged
  whole = log_of w 0

  abbrev u : IsWorldAt i w (suc k)
  u = world_at i w (suc k) mount.legal next

  abbrev mount_u : IsLegalMount i (world_at i w (suc k) mount.legal next).world
  mount_u = mount_at i w mount (suc k) next

  long : length (log_of (world_at i w (suc k) mount.legal next).world 0) ≡ suc k
  long = let count : length (log_of u.world 0) ≡ length (take (suc k) whole) = ap length u.own in omega (arith, next, length-take (suc k) whole)

  low : k ≤ length (log_of (world_at i w (suc k) mount.legal next).world 0)
  low = omega (arith, long)

  work_u : IsAtWorkFrom i (log_of (world_at i w (suc k) mount.legal next).world) k line
  work_u = record {
    each = λ n from upto.
        let below : n ≤ suc k = omega (arith, long, upto) in
        victim_there i w mount (suc k) next n below ∙ at n from (cases_lt n (suc k)) below;
  }
    where
      at : (n : ℕ) → k ≤ n → (n < suc k) ⊎ (suc k ≤ n) → n ≤ suc k → victim i (log_of w) n ≡ Some line
      at n from (inl early) upto = let same : k ≡ n = omega arith in ap (victim i (log_of w)) (sym same) ∙ was_at_work
      at n from (inr late) upto = let same : suc k ≡ n = omega arith in ap (victim i (log_of w)) (sym same) ∙ at_work

  abbrev v_u : IsWorldAt i (world_at i w (suc k) mount.legal next).world k
  v_u = world_at i u.world k mount_u.legal low

  front : take k (log_of (world_at i w (suc k) mount.legal next).world 0) ≡ take k (log_of w 0)
  front = ap (take k) u.own ∙ take-take k (suc k) whole (omega arith)

  takes_u : takes (log_of (world_at i w (suc k) mount.legal next).world 0) ≡ takes (take k (log_of w 0)) ++ option_to_list (taken_by l.event)
  takes_u = ap takes (u.own ∙ take_next whole k l there) ∙ takes_more (take k whole) l

  -- what was taken since is what the event took
  old_below : (x : Taken) → IsAmong (takes (take k (log_of w 0))) x
      → taken (take k (log_of (world_at i w (suc k) mount.legal next).world 0)) ≤ x.entry.position → ⊥
  old_below x at after =
      let in_v : IsAmong (takes (log_of v_u.world 0)) x = subst (λ (xs : List Logged). IsAmong (takes xs) x) (sym (v_u.own ∙ front)) at in
      let below : x.entry.position < taken (log_of v_u.world 0) = position_below i v_u.world in_v.0 x v_u.legal in_v.1 in
      let same_front : taken (log_of v_u.world 0) ≡ taken (take k (log_of u.world 0)) = ap taken v_u.own in
      omega arith

  since_apart : (lba : ℕ) → ((t : Taken) → taken_by l.event ≡ Some t → t.mark.lba ≢ lba) → IsUntaken i u.world mount_u line k some low work_u lba
  since_apart lba apart x at its after = go (taken_by l.event) refl (subst (λ ts. IsAmong ts x) takes_u at)
    where
      by : (t : Taken) → taken_by l.event ≡ Some t → IsAmong (takes (take k (log_of w 0))) x ⊎ (t ≡ x) → ⊥
      by t one (inl old) = old_below x old after
      by t one (inr new) = apart t one (ap (λ (y : Taken). y.mark.lba) new ∙ its)

      go : (o : Option Taken) → taken_by l.event ≡ o → IsAmong (takes (take k (log_of w 0)) ++ option_to_list o) x → ⊥
      go None e among = old_below x (subst (λ ts. IsAmong ts x) (append-nil (takes (take k whole))) among) after
      go (Some t) e among = by t e (from_last (takes (take k whole)) t x among)

  since_none : taken_by l.event ≡ None → (lba : ℕ) → IsUntaken i u.world mount_u line k some low work_u lba
  since_none none lba = since_apart lba (λ t one. absurd (none-some t (sym none ∙ one)))

  since_one : (t : Taken) → taken_by l.event ≡ Some t → (lba : ℕ) → t.mark.lba ≢ lba → IsUntaken i u.world mount_u line k some low work_u lba
  since_one t one lba apart =
      since_apart lba (λ x other e. apart (ap (λ (y : Taken). y.mark.lba) (same_Some t x (sym one ∙ other)) ∙ e))

  -- the numbers at the two lengths
  live_now_is : live i (log_of (world_at i w (suc k) mount.legal next).world) line ≡ live i (engine_prefix (suc k) (log_of w)) line
  live_now_is = live_whole i w mount (suc k) next line

  live_was_is : live i (log_of (world_at i u.world k mount_u.legal low).world) line ≡ live i (engine_prefix k (log_of w)) line
  live_was_is = live_whole i u.world mount_u k low line ∙ live_there i w mount (suc k) next line k (omega arith)

  is_live_was : (lba : ℕ) → is_live_in i (engine_prefix k (log_of w)) line lba ≡ is_live_in i (log_of (world_at i u.world k mount_u.legal low).world) line lba
  is_live_was lba =
      ap (λ (logs : Logs). is_live_in i logs line lba) (sym (prefix_of i w mount (suc k) next k (omega arith)))
      ∙ live_in_told i (engine_prefix k (log_of u.world)) (engine_prefix k (engine_prefix (suc k) (log_of w)))
      (told_then i (log_of u.world) (engine_prefix (suc k) (log_of w)) k u.told) line lba
      ∙ live_in_told i (log_of v_u.world) (engine_prefix k (log_of u.world)) v_u.told line lba

  is_live_now : (lba : ℕ) → is_live_in i (engine_prefix (suc k) (log_of w)) line lba ≡ is_live_in i
      (log_of (world_at i w (suc k) mount.legal next).world) line lba
  is_live_now lba = live_in_told i (log_of u.world) (engine_prefix (suc k) (log_of w)) u.told line lba

  -- a sector that the event doesn't take stays live
  pub still : (lba : ℕ) → ((t : Taken) → taken_by l.event ≡ Some t → t.mark.lba ≢ lba) → is_live_in i (engine_prefix k (log_of w)) line lba ≡ true
      → is_live_in i (engine_prefix (suc k) (log_of w)) line lba ≡ true
  still lba apart was =
      is_live_now lba ∙ live_still i u.world mount_u line k some low work_u lba (since_apart lba apart) (sym (is_live_was lba) ∙ was)

  pub quiet : taken_by l.event ≡ None → live i (engine_prefix (suc k) (log_of w)) line ≡ live i (engine_prefix k (log_of w)) line
  quiet none = sym live_now_is ∙ count_same i u.world mount_u line k some low work_u
      (λ lba small. live_same i u.world mount_u line k some low work_u lba (since_none none lba)) ∙ live_was_is

  pub elsewhere : (t : Taken) → taken_by l.event ≡ Some t → is_live_in i (engine_prefix k (log_of w)) line t.mark.lba ≡ false
      → live i (engine_prefix (suc k) (log_of w)) line ≡ live i (engine_prefix k (log_of w)) line
  elsewhere t one fails = sym live_now_is ∙ count_same i u.world mount_u line k some low work_u (λ lba small. go lba (nat_eq t.mark.lba lba) refl) ∙ live_was_is
    where
      was : is_live_in i (log_of (world_at i u.world k mount_u.legal low).world) line t.mark.lba ≡ false
      was = sym (is_live_was t.mark.lba) ∙ fails

      now : (b : Bool) → is_live_in i (log_of u.world) line t.mark.lba ≡ b → is_live_in i (log_of u.world) line t.mark.lba ≡ false
      now false e = e
      now true e = absurd (not_both (is_live_in i (log_of v_u.world) line t.mark.lba)
          (live_then i u.world mount_u line k some low work_u t.mark.lba e) was)

      go : (lba : ℕ) → (b : Bool) → nat_eq t.mark.lba lba ≡ b
          → is_live_in i (log_of u.world) line lba ≡ is_live_in i (log_of (world_at i u.world k mount_u.legal low).world) line lba
      go lba true e = subst (λ n. is_live_in i (log_of u.world) line n ≡ is_live_in i (log_of v_u.world) line n) (eqb-true t.mark.lba lba e)
          (now (is_live_in i (log_of u.world) line t.mark.lba) refl ∙ sym was)
      go lba false e = live_same i u.world mount_u line k some low work_u lba (since_one t one lba (eqb-false t.mark.lba lba e))

  -- a Void one
  pub outside : (t : Taken) → taken_by l.event ≡ Some t → i.shape.capacity ≤ t.mark.lba
      → live i (engine_prefix (suc k) (log_of w)) line ≡ live i (engine_prefix k (log_of w)) line
  outside t one large = sym live_now_is ∙ count_same i u.world mount_u line k some low work_u
      (λ lba small. live_same i u.world mount_u line k some low work_u lba (since_one t one lba (λ e. absurd (omega arith)))) ∙ live_was_is

  module _ (t : Taken) (one : taken_by l.event ≡ Some t) where
    at : IsAmong (takes (log_of (world_at i w (suc k) mount.legal next).world 0)) t
    at = subst (λ ts. IsAmong ts t) (sym (takes_u ∙ ap (λ o. takes (take k whole) ++ option_to_list o) one))
        (length (takes (take k whole)), get_last (takes (take k whole)) t)

    after : IsAmong (takes (take k (log_of u.world 0))) t ⊎ (taken (take k (log_of u.world 0)) ≤ t.entry.position)
        → taken (take k (log_of u.world 0)) ≤ t.entry.position
    unfolding at
    after (inr late) = late
    after (inl early) =
        let position : t.entry.position ≡ first_position (log_of u.world 0) + length (takes (take k whole)) =
        position_of i u.world (length (takes (take k whole))) t mount_u.legal at.1 in
        let begun_same : first_position (take k (log_of u.world 0)) ≡ first_position (log_of u.world 0) =
        ap (λ o. option_map_or (λ (x : Begun). x.beginning.first) o 0) (begun_taken k (log_of u.world 0) some) in
        let counts : length (takes (take k (log_of u.world 0))) ≡ length (takes (take k whole)) = ap (λ (xs : List Logged). length (takes xs)) front in
        omega arith

    taken_now : WasTakenSince (log_of u.world 0) t.mark.lba k
    taken_now = record {
      t = t;
      there = contained_among (takes (log_of u.world 0)) t at;
      of_it = refl;
      since = after (entry_after i u.world k t mount_u some at);
    }

    gone_then : is_live_in i (log_of u.world) line t.mark.lba ≡ false
    gone_then = not_live_now i u.world mount_u line k some low work_u t.mark.lba taken_now (is_live_in i (log_of u.world) line t.mark.lba) refl

  pub lowered : (t : Taken) → taken_by l.event ≡ Some t → t.mark.lba < i.shape.capacity
      → is_live_in i (engine_prefix k (log_of w)) line t.mark.lba ≡ true
      → live i (engine_prefix k (log_of w)) line ≡ live i (engine_prefix (suc k) (log_of w)) line + 1
  lowered t one small passes =
      sym live_was_is
      ∙ count_less (is_live_in i (log_of v_u.world) line) (is_live_in i (log_of u.world) line) i.shape.capacity 0 t.mark.lba small
      (subst (λ n. is_live_in i (log_of v_u.world) line n ≡ true) (sym alike) (sym (is_live_was t.mark.lba) ∙ passes))
      (subst (λ n. is_live_in i (log_of u.world) line n ≡ false) (sym alike)
      (gone_then t one))
      (λ m other. live_same i u.world mount_u line k some low work_u m (since_one t one m (λ e. other (sym e ∙ sym alike))))
      ∙ ap (λ n. n + 1) live_now_is
    where
      alike : 0 + t.mark.lba ≡ t.mark.lba
      alike = omega arith

-- ---- a copy that is under way

-- where its source is the latest still, the sector is live in the line
pub fresh_is_live : (i : Image) (w : World) (line from lba : ℕ) (source : Source) → IsLegalMount i w → 0 < from → from ≤ length (log_of w 0)
    → IsAtWorkFrom i (log_of w) from line → lba < i.shape.capacity → source.line ≡ line
    → IsPlaceOfLatest i (logs_at from (log_of w)) lba source (last_take (take from (log_of w 0)) lba)
    → (WasTakenSince (log_of w 0) lba from → ⊥) → is_live_in i (log_of w) line lba ≡ true
fresh_is_live i w line from lba source mount some within at_work small in_line place none =
    live_still i w mount line from some within at_work lba
    (λ u at its after. none (record { t = u; there = contained_among (takes (log_of w 0)) u at; of_it = its; since = after }))
    (live_by_place i w mount line from some within at_work lba source small in_line place)

-- and once an entry of it was taken it isn't
pub stale_is_not_live : (i : Image) (w : World) (line from lba : ℕ) → IsLegalMount i w → 0 < from → from ≤ length (log_of w 0)
    → IsAtWorkFrom i (log_of w) from line → WasTakenSince (log_of w 0) lba from → is_live_in i (log_of w) line lba ≡ false
stale_is_not_live i w line from lba mount some within at_work since =
    not_live_now i w mount line from some within at_work lba since (is_live_in i (log_of w) line lba) refl
