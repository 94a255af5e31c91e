-- The live sectors of the victim at work are no more than they were: no stripe is placed in it. One
-- less is live where a sector whose latest was there has been taken since.
use Rattle.std.proofs.Common.{◌≡◌, ◌⊎◌, inl, inr, ℕ, ◌+◌, ◌-◌, ◌<◌, ◌≤◌, ◌==◌, zero, suc, Bool, true, false, cond, Some, None, Option, List, [], ◌∷◌, ◌++◌, length, take, drop, refl, sym, subst, ap, ap₂, ◌∙◌, arith, if◌then◌else◌}
use Rattle.std.specs.Prelude.{slice_get}
use Rattle.std.specs.List.{Contains, filter, range_with_len}
use Rattle.std.specs.Option.{is_some, option_and_then}
use Rattle.std.proofs.lemmas.Bool.{cases_lt}
use Rattle.std.proofs.lemmas.List.{take-take}
use Rattle.std.proofs.lemmas.Option.{same_Some}
use Rattle.std.proofs.Math.Seq.{take-length}
use Rattle.pblk_model.specs.Contents.{counted, is_of, winner}
use Rattle.pblk_model.specs.Image.{Image}
use Rattle.pblk_model.specs.Records.{Record, named}
use Rattle.pblk_laws.proofs.MarkNames.{sector_exactly}
use Rattle.pblk_world.specs.AtRest.{logs_at}
use Rattle.pblk_world.specs.EngineLog.{AsFound, bears_position, block_of_taken, Freed, has_landed, is_as_found, LineLife, life_of, Opened, Placed, placements, Taken, takes, was_lost}
use Rattle.pblk_world.specs.Events.{Logged, Source}
use Rattle.pblk_world.specs.Fronts.{last_take, taken}
use Rattle.pblk_world.specs.Lines.{found_image}
use Rattle.pblk_world.specs.Taking.{IsPlaceOfLatest}
use Rattle.pblk_world.specs.Victims.{engine_prefix, is_live_in, line_of, line_of_position, live}
use Rattle.pblk_world.specs.World.{World, log_of}
use Rattle.pblk_model.proofs.Lists.{IsAmong, among_contained, among_more}
use Rattle.pblk_model.proofs.Maps.{any_member, range_get}
use Rattle.pblk_model.proofs.Parts.{all_at, contained_among, take_and_drop}
use Rattle.pblk_model.proofs.Tests.{and_both, not_both, same, same_number}
use Rattle.pblk_world.specs.LegalMounts.{IsLegalMount}
use Rattle.world_laws.proofs.Entries.{marks_bear}
use Rattle.world_laws.proofs.KeptChunks.{found_before}
use Rattle.world_laws.proofs.Later.{lost_later, placed_within, takes_joined}
use Rattle.world_laws.proofs.Latest.{one_entry}
use Rattle.world_laws.proofs.NextLives.{IsOpenSince, open_since}
use Rattle.world_laws.proofs.Positions.{position_below}
use Rattle.world_laws.proofs.Stripes.{life_of_stripe, opening_then}
use Rattle.world_laws.proofs.ToldImages.{found_at}
use Rattle.core_laws.proofs.LastTakes.{last_is, last_none}
use Rattle.core_laws.proofs.PlacedAnew.{WasWaiting, earlier_stripe, landed_not_lost, was_waiting}
use Rattle.core_laws.proofs.StandingLines.{IsStanding, line_stands, stands_in_line}
use Rattle.rest_laws.specs.AtWork.{IsAtWorkFrom, WasTakenSince}
use Rattle.rest_laws.proofs.LengthLogs.{IsWorldAt, found_then_at, world_at}
use Rattle.rest_laws.proofs.VictimStripes.{live_whole, mount_at, not_in_victim}

-- ---- lists

-- what passes only where another test does passes no more often
fewer : (f g : ℕ → Bool) (xs : List ℕ) → ((x : ℕ) → f x ≡ true → g x ≡ true) → length (filter f xs) ≤ length (filter g xs)
fewer f g [] h = omega arith
fewer f g (x ∷ xs) h = go (f x) (g x) refl refl (fewer f g xs h)
  where
    go : (a b : Bool) → f x ≡ a → g x ≡ b → length (filter f xs) ≤ length (filter g xs)
        → length (cond a (x ∷ filter f xs) (filter f xs)) ≤ length (cond b (x ∷ filter g xs) (filter g xs))
    go true true p q rest = omega arith
    go true false p q rest = absurd (not_both (g x) (h x p) q)
    go false true p q rest = omega arith
    go false false p q rest = rest

-- and less often where one passes the other alone
fewer_by_one : (f g : ℕ → Bool) (xs : List ℕ) (k y : ℕ) → ((x : ℕ) → f x ≡ true → g x ≡ true) → slice_get xs k ≡ Some y → f y ≡ false → g y ≡ true
    → length (filter f xs) + 1 ≤ length (filter g xs)
fewer_by_one f g [] k y h at fails passes = absurd cc
fewer_by_one f g (x ∷ xs) zero y h at fails passes =
    let it : x ≡ y = same_Some x y at in
    let rest : length (filter f xs) ≤ length (filter g xs) = fewer f g xs h in
    let one : length (filter f (x ∷ xs)) ≡ length (filter f xs) =
    ap (λ b. length (cond b (x ∷ filter f xs) (filter f xs))) (ap f it ∙ fails) in
    let two : length (filter g (x ∷ xs)) ≡ suc (length (filter g xs)) =
    ap (λ b. length (cond b (x ∷ filter g xs) (filter g xs))) (ap g it ∙ passes) in
    omega arith
fewer_by_one f g (x ∷ xs) (suc k) y h at fails passes = go (f x) (g x) refl refl (fewer_by_one f g xs k y h at fails passes)
  where
    go : (a b : Bool) → f x ≡ a → g x ≡ b → length (filter f xs) + 1 ≤ length (filter g xs)
        → length (cond a (x ∷ filter f xs) (filter f xs)) + 1 ≤ length (cond b (x ∷ filter g xs) (filter g xs))
    go true true p q rest = omega arith
    go true false p q rest = absurd (not_both (g x) (h x p) q)
    go false true p q rest = omega arith
    go false false p q rest = rest

module _ (i : Image) (w : World) (mount : IsLegalMount i w) (line a : ℕ) (some : 0 < a) (within : a ≤ length (log_of w 0))
    (at_work : IsAtWorkFrom i (log_of w) a line) where
  abbrev log : List Logged
  log = log_of w 0

  abbrev v : IsWorldAt i w a
  v = world_at i w a mount.legal within

  abbrev pub mount_v : IsLegalMount i (world_at i w a mount.legal within).world
  mount_v = mount_at i w mount a within

  -- each stripe of the line was placed before
  placed_before : (p : Placed) → Contains (placements (log_of w 0)) p → p.stripe.line ≡ line → p.number < a
  placed_before p there in_line = go (cases_lt p.number a)
    where
      go : (p.number < a) ⊎ (a ≤ p.number) → p.number < a
      go (inl early) = early
      go (inr late) =
          let inside : p.number < length log = placed_within log p there in
          absurd (not_in_victim i w mount p there line (at_work.each (suc p.number) (omega arith) (omega arith)) in_line)

  -- what was taken at an earlier length was taken then
  among_then : (b : ℕ) (t : Taken) → b ≤ a → IsAmong (takes (take b (log_of w 0))) t → IsAmong (takes (take a (log_of w 0))) t
  among_then b t low at =
      let parts : take b log ++ drop b (take a log) ≡ take a log =
      ap (λ (xs : List Logged). xs ++ drop b (take a log)) (sym (take-take b a log low)) ∙ take_and_drop b (take a log) in
      subst (λ (ts : List Taken). IsAmong ts t) (sym (takes_joined (take b log) (drop b (take a log))) ∙ ap takes parts)
      (among_more (takes (take b log)) (takes (drop b (take a log))) t at)

  among_now : (t : Taken) → IsAmong (takes (take a (log_of w 0))) t → IsAmong (takes (log_of w 0)) t
  among_now t at =
      subst (λ (ts : List Taken). IsAmong ts t) (sym (takes_joined (take a log) (drop a log)) ∙ ap takes (take_and_drop a log))
      (among_more (takes (take a log)) (takes (drop a log)) t at)

  to_v : (t : Taken) → IsAmong (takes (take a (log_of w 0))) t → IsAmong (takes (log_of (world_at i w a mount.legal within).world 0)) t
  to_v t at = subst (λ (xs : List Logged). IsAmong (takes xs) t) (sym v.own) at

  pub from_v : (t : Taken) → IsAmong (takes (log_of (world_at i w a mount.legal within).world 0)) t → IsAmong (takes (log_of w 0)) t
  from_v t at = among_now t (subst (λ (xs : List Logged). IsAmong (takes xs) t) v.own at)

  -- the entry that a stripe of the line holds was taken before
  taken_before : (p : Placed) (t : Taken) → IsStanding i w mount t.entry.position p → p.stripe.line ≡ line → IsAmong (takes (log_of w 0)) t
      → IsAmong (takes (log_of (world_at i w a mount.legal within).world 0)) t
  taken_before p t stands in_line among =
      let early : p.number < a = placed_before p stands.there in_line in
      let h : WasWaiting i w mount p t.entry.position = was_waiting i w mount p t.entry.position stands.there stands.holds in
      let then_ : IsAmong (takes (take a log)) h.t = among_then p.number h.t (omega arith) h.there in
      let one : h.t ≡ t = one_entry i w h.t t mount.legal (among_now h.t then_) among h.at in
      to_v t (subst (λ (u : Taken). IsAmong (takes (take a log)) u) one then_)

  -- a stripe that stands in the line stood there then
  stood : (p : Placed) (position : ℕ) → IsStanding i w mount position p → p.stripe.line ≡ line
      → IsStanding i (world_at i w a mount.legal within).world mount_v position p
  stood p position stands in_line =
      let early : p.number < a = placed_before p stands.there in_line in
      let life = life_of_stripe i w p mount.legal stands.there in
      let opened = opening_then log p.number p.stripe.line life.0 life.2 in
      let since : IsOpenSince i w mount.legal p.stripe.line (length log) life.0 = open_since i w mount.legal (length log) p.stripe.line life.0 (omega arith)
      (ap (λ (xs : List Logged). life_of xs p.stripe.line) (take-length log) ∙ stands.stands ∙ life.1) in
      let low : life.0.number < p.number = opened.2 in
      record {
        there = contained_among (placements (log_of v.world 0)) p
            (subst (λ (xs : List Logged). IsAmong (placements xs) p) (sym v.own) (earlier_stripe i w mount p a stands.there early));
        holds = stands.holds;
        kept = not_lost (was_lost (log_of v.world 0) p) refl;
        stands = ap (λ (xs : List Logged). life_of xs p.stripe.line) v.own ∙ since.since a (omega arith) within ∙ sym life.1;
      }
    where
      not_lost : (b : Bool) → was_lost (log_of (world_at i w a mount.legal within).world 0) p ≡ b
          → was_lost (log_of (world_at i w a mount.legal within).world 0) p ≡ false
      not_lost false e = e
      not_lost true e =
          let there : Contains (placements (log_of v.world 0)) p = contained_among (placements (log_of v.world 0)) p
          (subst (λ (xs : List Logged). IsAmong (placements xs) p) (sym v.own)
          (earlier_stripe i w mount p a stands.there (placed_before p stands.there in_line))) in
          let lost : was_lost log p ≡ true = ap (λ (xs : List Logged). was_lost xs p) (sym (take_and_drop a log))
          ∙ lost_later (take a log) (drop a log) p
          (subst (λ (xs : List Logged). p.number < length xs) v.own (placed_within (log_of v.world 0) p there))
          (ap (λ (xs : List Logged). was_lost xs p) (sym v.own) ∙ e) in
          absurd (not_both (was_lost log p) lost stands.kept)

  pub found_v : found_image i (log_of (world_at i w a mount.legal within).world) ≡ found_image i (log_of w)
  found_v = sym v.told.found ∙ found_at i (log_of w) a some

  -- the line of a sector's latest
  pub stands_live : (u : World) (mount_u : IsLegalMount i u) (lba : ℕ) (t : Taken) (p : Placed) → last_take (log_of u 0) lba ≡ Some t
      → IsStanding i u mount_u t.entry.position p → p.stripe.line ≡ line → is_live_in i (log_of u) line lba ≡ true
  stands_live u mount_u lba t p last stands in_line =
      ap (λ o. is_of line (line_of i (log_of u) lba o)) last ∙ ap (is_of line) (line_stands i u mount_u t.entry.position p stands)
      ∙ ap (λ n. n == line) in_line ∙ same_number line

  pub winner_live : (u : World) (lba : ℕ) (r : Record) → last_take (log_of u 0) lba ≡ None → winner (counted (found_image i (log_of u))) lba ≡ Some r
      → life_of (log_of u 0) r.line ≡ AsFound → r.line ≡ line → is_live_in i (log_of u) line lba ≡ true
  winner_live u lba r last wins found in_line =
      ap (λ o. is_of line (line_of i (log_of u) lba o)) last
      ∙ ap (λ o. is_of line (option_and_then (λ (x : Record). if is_as_found (life_of (log_of u 0) x.line) then Some x.line else None) o)) wins
      ∙ ap (λ b. is_of line (if b then Some r.line else None)) (ap is_as_found found) ∙ ap (λ n. n == line) in_line ∙ same_number line

  -- what is live in the line now was so then
  pub live_then : (lba : ℕ) → is_live_in i (log_of w) line lba ≡ true → is_live_in i (log_of (world_at i w a mount.legal within).world) line lba ≡ true
  live_then lba now = go (last_take log lba) refl now
    where
      of_entry : (t : Taken) → last_take (log_of w 0) lba ≡ Some t → (o : Option ℕ) → line_of_position i.shape (log_of w 0) t.entry.position ≡ o
          → is_of line o ≡ true → is_live_in i (log_of (world_at i w a mount.legal within).world) line lba ≡ true
      of_entry t last None e f = absurd cc
      of_entry t last (Some other) e f = by (last_take (log_of v.world 0) lba) refl
        where
          t_is : IsAmong (takes (log_of w 0)) t × (t.mark.lba ≡ lba)
              × ((u : Taken) → IsAmong (takes (log_of w 0)) u → u.mark.lba ≡ lba → u.entry.position ≤ t.entry.position)
          t_is = last_is i w mount.legal lba t last

          p : (p : Placed) × IsStanding i w mount t.entry.position p × (p.stripe.line ≡ other)
          p = stands_in_line i w mount t.entry.position other e

          in_line : p.0.stripe.line ≡ line
          in_line = p.2 ∙ same other line f

          early : IsAmong (takes (log_of (world_at i w a mount.legal within).world 0)) t
          early = taken_before p.0 t p.1 in_line t_is.0

          by : (o : Option Taken) → last_take (log_of (world_at i w a mount.legal within).world 0) lba ≡ o
              → is_live_in i (log_of (world_at i w a mount.legal within).world) line lba ≡ true
          by None was = absurd (last_none i v.world v.legal lba was t early t_is.1)
          by (Some u) was =
              let u_is = last_is i v.world v.legal lba u was in
              let most : t.entry.position ≤ u.entry.position = u_is.2 t early t_is.1 in
              let least : u.entry.position ≤ t.entry.position = t_is.2 u (from_v u u_is.0) u_is.1 in
              let level : u.entry.position ≡ t.entry.position = omega arith in
              let one : u ≡ t = one_entry i w u t mount.legal (from_v u u_is.0) t_is.0 level in
              stands_live v.world mount_v lba t p.0 (was ∙ ap (λ x. Some x) one) (stood p.0 t.entry.position p.1 in_line) in_line

      of_winner : last_take (log_of w 0) lba ≡ None → (o : Option Record) → winner (counted (found_image i (log_of w))) lba ≡ o
          → is_of line (option_and_then (λ (r : Record). if is_as_found (life_of (log_of w 0) r.line) then Some r.line else None) o) ≡ true
          → is_live_in i (log_of (world_at i w a mount.legal within).world) line lba ≡ true
      of_winner last None wins e = absurd cc
      of_winner last (Some r) wins e = by (life_of log r.line) refl e
        where
          none_then : (o : Option Taken) → last_take (log_of (world_at i w a mount.legal within).world 0) lba ≡ o
              → last_take (log_of (world_at i w a mount.legal within).world 0) lba ≡ None
          none_then None f = f
          none_then (Some u) f =
              let u_is = last_is i v.world v.legal lba u f in
              absurd (last_none i w mount.legal lba last u (from_v u u_is.0) u_is.1)

          by : (life : LineLife) → life_of (log_of w 0) r.line ≡ life → is_of line (if is_as_found life then Some r.line else None) ≡ true
              → is_live_in i (log_of (world_at i w a mount.legal within).world) line lba ≡ true
          by (Opened o) found f = absurd cc
          by (Freed was knows) found f = absurd cc
          by AsFound found f =
              let far : a + (length log - a) ≡ length log = omega arith in
              winner_live v.world lba r (none_then (last_take (log_of v.world 0) lba) refl) (ap (λ (j : Image). winner (counted j) lba) found_v ∙ wins)
              (ap (λ (xs : List Logged). life_of xs r.line) v.own ∙ found_before log r.line a (length log - a) (omega arith)
              (ap (λ (xs : List Logged). life_of xs r.line) (ap (λ n. take n log) far ∙ take-length log) ∙ found))
              (same r.line line f)

      go : (o : Option Taken) → last_take (log_of w 0) lba ≡ o → is_of line (line_of i (log_of w) lba (last_take (log_of w 0) lba)) ≡ true
          → is_live_in i (log_of (world_at i w a mount.legal within).world) line lba ≡ true
      go None last e = of_winner last (winner (counted (found_image i (log_of w))) lba) refl
          (ap (λ o. is_of line (line_of i (log_of w) lba o)) (sym last) ∙ e)
      go (Some t) last e = of_entry t last (line_of_position i.shape log t.entry.position) refl
          (ap (λ o. is_of line (line_of i (log_of w) lba o)) (sym last) ∙ e)

  -- a sector that was taken since isn't live there
  pub not_live_now : (lba : ℕ) → WasTakenSince (log_of w 0) lba a → (b : Bool) → is_live_in i (log_of w) line lba ≡ b → is_live_in i (log_of w) line lba ≡ false
  not_live_now lba h false e = e
  not_live_now lba h true e = go (last_take log lba) refl e
    where
      at_h : IsAmong (takes (log_of w 0)) h.t
      at_h = among_contained (takes log) h.t h.there

      of_entry : (t : Taken) → last_take (log_of w 0) lba ≡ Some t → (o : Option ℕ) → line_of_position i.shape (log_of w 0) t.entry.position ≡ o
          → is_of line o ≡ true → ⊥
      of_entry t last None f g = absurd cc
      of_entry t last (Some other) f g =
          let t_is = last_is i w mount.legal lba t last in
          let p = stands_in_line i w mount t.entry.position other f in
          let early = taken_before p.0 t p.1 (p.2 ∙ same other line g) t_is.0 in
          let low : t.entry.position < taken (log_of v.world 0) = position_below i v.world early.0 t v.legal early.1 in
          let front : taken (log_of v.world 0) ≡ taken (take a log) = ap taken v.own in
          let most : h.t.entry.position ≤ t.entry.position = t_is.2 h.t at_h h.of_it in
          let since : taken (take a log) ≤ h.t.entry.position = h.since in
          absurd (omega arith)

      go : (o : Option Taken) → last_take (log_of w 0) lba ≡ o → is_of line (line_of i (log_of w) lba (last_take (log_of w 0) lba)) ≡ true
          → is_live_in i (log_of w) line lba ≡ false
      go None last f = absurd (last_none i w mount.legal lba last h.t at_h h.of_it)
      go (Some t) last f = absurd (of_entry t last (line_of_position i.shape log t.entry.position) refl
          (ap (λ o. is_of line (line_of i (log_of w) lba o)) (sym last) ∙ f))

  -- a sector whose latest was in the line was live there
  pub live_by_place : (lba : ℕ) (source : Source) → lba < i.shape.capacity → source.line ≡ line
      → IsPlaceOfLatest i (logs_at a (log_of w)) lba source (last_take (take a (log_of w 0)) lba)
      → is_live_in i (log_of (world_at i w a mount.legal within).world) line lba ≡ true
  live_by_place lba source small in_line place = go (last_take (take a log) lba) refl place
    where
      go : (o : Option Taken) → last_take (take a (log_of w 0)) lba ≡ o → IsPlaceOfLatest i (logs_at a (log_of w)) lba source o
          → is_live_in i (log_of (world_at i w a mount.legal within).world) line lba ≡ true
      go None last its = winner_live v.world lba its.winning (ap (λ (xs : List Logged). last_take xs lba) v.own ∙ last)
          (ap (λ (j : Image). winner (counted j) lba) (found_v ∙ sym (found_then_at i w a mount.legal some within)) ∙ its.is_winner)
          (ap₂ (λ (xs : List Logged) n. life_of xs n) v.own (sym its.line) ∙ its.not_freed) (sym its.line ∙ in_line)
      go (Some t) last its =
          let was : last_take (log_of v.world 0) lba ≡ Some t = ap (λ (xs : List Logged). last_take xs lba) v.own ∙ last in
          let t_is = last_is i v.world v.legal lba t was in
          let own : t.mark.position ≡ t.entry.position =
          all_at (λ (x : Taken). x.mark.position ≡ x.entry.position) (takes (log_of v.world 0)) t_is.0.0 t t_is.0.1 (marks_bear i v.world v.legal) in
          stands_live v.world mount_v lba t its.placed was (record {
            there = subst (λ (xs : List Logged). Contains (placements xs) its.placed) (sym v.own) its.is_placed;
            holds = any_member (bears_position i.shape t.entry.position) its.placed.stripe.blocks its.block (block_of_taken t) its.entry
                (and_both (is_some (named i.shape t.mark)) (t.mark.position == t.entry.position)
                (ap is_some ((sector_exactly i.shape t.mark lba).1 (t_is.1, small)))
                (ap (λ n. n == t.entry.position) own ∙ same_number t.entry.position));
            kept = landed_not_lost (log_of v.world 0) its.placed (ap (λ (xs : List Logged). has_landed xs its.placed) v.own ∙ its.landed);
            stands = ap₂ (λ (xs : List Logged) n. life_of xs n) v.own (sym its.line) ∙ its.not_freed;
          }) (sym its.line ∙ in_line)

  pub live_falls : live i (log_of w) line ≤ live i (engine_prefix a (log_of w)) line
  live_falls =
      let few : live i (log_of w) line ≤ live i (log_of v.world) line =
      fewer (is_live_in i (log_of w) line) (is_live_in i (log_of v.world) line) (range_with_len 0 i.shape.capacity) live_then in
      let same_count : live i (log_of v.world) line ≡ live i (engine_prefix a (log_of w)) line = live_whole i w mount a within line in
      omega arith

  pub live_falls_by_one : (lba : ℕ) (source : Source) → lba < i.shape.capacity → source.line ≡ line
      → IsPlaceOfLatest i (logs_at a (log_of w)) lba source (last_take (take a (log_of w 0)) lba) → WasTakenSince (log_of w 0) lba a
      → live i (log_of w) line + 1 ≤ live i (engine_prefix a (log_of w)) line
  live_falls_by_one lba source small in_line place since =
      let alike : 0 + lba ≡ lba = omega arith in
      let few : live i (log_of w) line + 1 ≤ live i (log_of v.world) line =
      fewer_by_one (is_live_in i (log_of w) line) (is_live_in i (log_of v.world) line) (range_with_len 0 i.shape.capacity) lba lba live_then
      (range_get 0 i.shape.capacity lba small ∙ ap (λ n. Some n) alike)
      (not_live_now lba since (is_live_in i (log_of w) line lba) refl) (live_by_place lba source small in_line place) in
      let same_count : live i (log_of v.world) line ≡ live i (engine_prefix a (log_of w)) line = live_whole i w mount a within line in
      omega arith
