-- The media by prefixes of the units' logs that have all events which the engine's log names. A
-- line that is opened has the same units there, and the blocks of its stripes that have landed. So
-- a source that is the latest of its sector is so by these prefixes too.
use Rattle.std.proofs.Common.{◌≡◌, ℕ, ◌+◌, ◌-◌, ◌<◌, ◌≤◌, ◌==◌, nat_eq, zero, suc, Bool, true, false, Some, None, Option, List, length, refl, sym, subst, ap, ap₂, ◌∙◌, arith}
use Rattle.std.specs.Prelude.{slice_get, slice_index, take}
use Rattle.std.specs.List.{Contains}
use Rattle.std.specs.Option.{is_some, option_and_then}
use Rattle.std.proofs.lemmas.Bool.{eqb-false, eqb-true}
use Rattle.std.proofs.lemmas.Option.{none-some, same_Some}
use Rattle.std.proofs.Math.Seq.{take-length}
use Rattle.pblk_model.specs.Chunk.{Block, Chunk}
use Rattle.pblk_model.specs.ChunkStep.{ChunkCommand, Read, Reset, Write}
use Rattle.pblk_model.specs.Image.{Image, line_units}
use Rattle.pblk_model.specs.UnitLog.{IsOutcome, UnitEvent, after_outcome}
use Rattle.pblk_laws.specs.LineBlocks.{chunk_in, written_at}
use Rattle.pblk_world.specs.Commanding.{ended_stripes, is_program}
use Rattle.pblk_world.specs.EngineLog.{Answer, Begun, Opened, Opening, Placed, answer_of, begun, has_landed, is_answered, is_land, life_of, placed_on, placements, stripes_of}
use Rattle.pblk_world.specs.Events.{Logged}
use Rattle.pblk_world.specs.Lines.{is_empty_state}
use Rattle.pblk_world.specs.World.{World, cut_logs, known, knows_engine, log_of, media}
use Rattle.pblk_world.proofs.WorldLemmas.{length_media}
use Rattle.pblk_model.proofs.Parts.{got_within, is_in}
use Rattle.pblk_world.specs.LegalMounts.{IsLegalMount}
use Rattle.world_laws.specs.UnitChunks.{chunk_after}
use Rattle.world_laws.specs.SameTold.{AreSameTold}
use Rattle.world_laws.proofs.FirstEvent.{IsBeginning, beginning_of}
use Rattle.world_laws.proofs.Deeds.{IsDeed, deed, fetch_leaves}
use Rattle.world_laws.proofs.LifeBlocks.{done_stands}
use Rattle.world_laws.proofs.LifePlaces.{began}
use Rattle.world_laws.proofs.LineBlocks.{IsLandedProgram, landed_program}
use Rattle.world_laws.proofs.MediaChunks.{chunk_of_cut, chunk_of_media}
use Rattle.world_laws.proofs.NamedPrefixes.{was_made}
use Rattle.world_laws.proofs.NextLives.{placed_in}
use Rattle.world_laws.proofs.OnlineUnits.{is_on, online_after_write, same_units}
use Rattle.world_laws.proofs.OpenedChunks.{empty_at_reset, named, since}
use Rattle.world_laws.proofs.Resets.{empty_stays, reset}
use Rattle.world_laws.proofs.Stripes.{opening_then, stripe_is}
use Rattle.world_laws.proofs.Tellings.{IsToldBefore, answered_told, last_program, named_known}
use Rattle.world_laws.proofs.UnitChunks.{still_there}
use Rattle.core_laws.proofs.LandedNow.{opened_now}
use Rattle.rest_laws.proofs.StaleSources.{HoldsTold, found_upto}
use Rattle.pblk_model.proofs.Lists.{among_contained}
use Rattle.pblk_model.proofs.Maps.{in_filter}
use Rattle.pblk_model.proofs.Tests.{same_number}

-- what has landed was answered
landed_answered : (log : List Logged) (p : Placed) → has_landed log p ≡ true → is_answered log p ≡ true
landed_answered log p landed = go (answer_of log p) landed
  where
    go : (a : Option Answer) → is_land a ≡ true → is_some a ≡ true
    go None e = absurd cc
    go (Some a) e = refl

module _ (i : Image) (w : World) (mount : IsLegalMount i w) (knows : List ℕ)
    (within : (unit : ℕ) → slice_index knows (suc unit) ≤ length (log_of w (suc unit)))
    (rising : (m : Logged) (unit : ℕ) → Contains (log_of w 0) m → known m (suc unit) ≤ slice_index knows (suc unit)) where
  abbrev log : List Logged
  log = log_of w 0

  -- ---- a line that is opened

  module _ (o : Opening) (is_open : life_of (log_of w 0) o.line ≡ Opened o) where
    b : (x : Begun) × (begun (log_of w 0) ≡ Some x)
    b = began i w o.line o mount.legal is_open

    from_base : (unit : ℕ) → slice_index o.knows (suc unit) ≤ slice_index knows (suc unit)
    from_base unit =
        let h = since i w mount.legal b.0 b.1 unit o.line o is_open in
        let same : known h.logged (suc unit) ≡ slice_index o.knows (suc unit) = named i w mount.legal b.0 b.1 unit o.line o is_open in
        let rise : known h.logged (suc unit) ≤ slice_index knows (suc unit) = rising h.logged unit (is_in log o.number h.logged h.there) in
        omega arith

    -- ---- none of its chunks goes Offline

    module _ (unit : ℕ) where
      one_more : (y : ℕ) → slice_index o.knows (suc unit) ≤ y → y < length (log_of w (suc unit))
          → is_on (chunk_after i (log_of w) o.line unit (suc y)) ≡ is_on (chunk_after i (log_of w) o.line unit y)
      one_more y from inside = go at.0 at.1 (chunk_after i (log_of w) o.line unit y) refl
        where
          at : (l : Logged) × (slice_get (log_of w (suc unit)) y ≡ Some l)
          at = got_within (log_of w (suc unit)) y inside

          go : (l : Logged) → slice_get (log_of w (suc unit)) y ≡ Some l → (x : Option Chunk) → chunk_after i (log_of w) o.line unit y ≡ x
              → is_on (chunk_after i (log_of w) o.line unit (suc y)) ≡ is_on (chunk_after i (log_of w) o.line unit y)
          go l there None now = by (chunk_after i (log_of w) o.line unit (suc y)) refl ∙ ap is_on (sym now)
            where
              by : (x : Option Chunk) → chunk_after i (log_of w) o.line unit (suc y) ≡ x → is_on (chunk_after i (log_of w) o.line unit (suc y)) ≡ false
              by None none = ap is_on none
              by (Some c) later =
                  let was = still_there i (log_of w) o.line unit (suc y) y c later in
                  absurd (none-some was.0 (sym now ∙ was.1))
          go l there (Some c) now = which (nat_eq d.event.chunk o.line) refl
            where
              d : IsDeed i w unit y l
              d = deed i w unit y l mount.legal there

              found_is : d.event.chunk ≡ o.line → d.found ≡ c
              found_is its = same_Some d.found c (sym d.there ∙ ap (λ k. chunk_after i (log_of w) k unit y) its ∙ now)

              by_command : d.event.chunk ≡ o.line → (command : ChunkCommand) → d.event.command ≡ command
                  → is_on (chunk_after i (log_of w) o.line unit (suc y)) ≡ is_on (chunk_after i (log_of w) o.line unit y)
              by_command its (Write at blocks) is =
                  let left : chunk_after i (log_of w) o.line unit (suc y) ≡ Some (after_outcome i.shape c (Write at blocks) d.event.outcome) =
                  ap (λ k. chunk_after i (log_of w) k unit (suc y)) (sym its) ∙ d.left
                  ∙ ap₂ (λ x command. Some (after_outcome i.shape x command d.event.outcome)) (found_is its) is in
                  ap is_on left
                  ∙ online_after_write i.shape c at blocks d.event.outcome
                  (subst (λ x. IsOutcome i.shape c x d.event.outcome) is
                  (subst (λ x. IsOutcome i.shape x d.event.command d.event.outcome) (found_is its) d.outcome))
                  ∙ ap is_on (sym now)
              by_command its (Read at) is = ap is_on (fetch_leaves i w unit y l d at is o.line)
              by_command its Reset is =
                  let empty : is_empty_state c.state ≡ true = empty_at_reset i w mount.legal b.0 b.1 unit o.line o is_open y l there d from c now
                  (reset i w mount.legal unit y l there d is) its in
                  ap is_on (empty_stays i w mount.legal unit y l there d (ap (λ (x : Chunk). is_empty_state x.state) (found_is its) ∙ empty)
                  (ap is_program is) o.line)

              which : (t : Bool) → nat_eq d.event.chunk o.line ≡ t
                  → is_on (chunk_after i (log_of w) o.line unit (suc y)) ≡ is_on (chunk_after i (log_of w) o.line unit y)
              which true same = by_command (eqb-true d.event.chunk o.line same) d.event.command refl
              which false other = ap is_on (d.others o.line (eqb-false d.event.chunk o.line other))

      on_until : (n : ℕ) → slice_index o.knows (suc unit) ≤ n → (more : ℕ) → n + more ≤ length (log_of w (suc unit))
          → is_on (chunk_after i (log_of w) o.line unit (n + more)) ≡ is_on (chunk_after i (log_of w) o.line unit n)
      on_until n from zero inside = let same : n + 0 ≡ n = omega arith in ap (λ k. is_on (chunk_after i (log_of w) o.line unit k)) same
      on_until n from (suc more) inside =
          let next : n + suc more ≡ suc (n + more) = omega arith in
          ap (λ k. is_on (chunk_after i (log_of w) o.line unit k)) next
          ∙ one_more (n + more) (omega arith) (omega arith) ∙ on_until n from more (omega arith)

      on_same : is_on (chunk_in (media i (cut_logs knows (log_of w))) o.line unit) ≡ is_on (chunk_in (media i (log_of w)) o.line unit)
      on_same =
          let low : slice_index knows (suc unit) ≤ length (log_of w (suc unit)) = within unit in
          let far : slice_index knows (suc unit) + (length (log_of w (suc unit)) - slice_index knows (suc unit)) ≡ length (log_of w (suc unit)) = omega arith in
          ap is_on (chunk_of_cut i (log_of w) knows o.line unit)
          ∙ sym (on_until (slice_index knows (suc unit)) (from_base unit) (length (log_of w (suc unit)) - slice_index knows (suc unit)) (omega arith))
          ∙ ap (λ k. is_on (chunk_after i (log_of w) o.line unit k)) far
          ∙ ap is_on (sym (chunk_of_media i (log_of w) o.line unit))

    pub units_known : line_units (media i (cut_logs knows (log_of w))) o.line ≡ line_units (media i (log_of w)) o.line
    units_known = same_units (media i (cut_logs knows (log_of w))) (media i (log_of w)) o.line
        (length_media i (cut_logs knows (log_of w)) ∙ sym (length_media i (log_of w))) (λ unit below. on_same unit)

    -- ---- the blocks of a stripe that has landed

    module _ (p : Placed) (there : Contains (stripes_of (log_of w 0) o) p) (landed : has_landed (log_of w 0) p ≡ true) where
      its : Contains (placements (log_of w 0)) p × (p.life ≡ Opened o) × (life_of (take p.number (log_of w 0)) p.stripe.line ≡ Opened o)
          × (p.stripe.line ≡ o.line)
      its = stripe_is i w o p mount.legal (opened_now i w mount o.line o is_open).0 there

      program : IsLandedProgram w p.stripe.unit p
      program = landed_program i w mount.legal p its.0 landed

      -- its program is among those that are named
      named_before : program.number < slice_index knows (suc p.stripe.unit)
      named_before =
          let unit : ℕ = p.stripe.unit in
          let j : ℕ = ended_stripes (take program.number (log_of w (suc unit))) in
          let t : IsToldBefore i w mount.legal unit j (length log) = answered_told i w mount.legal unit (length log) j p
          (ap (λ (xs : List Logged). slice_get (placed_on xs unit) j) (take-length log) ∙ program.in_order)
          (ap (λ (xs : List Logged). is_answered xs p) (take-length log) ∙ landed_answered log p landed) in
          let last : program.number ≤ t.told.number = last_program i w mount.legal unit j t.at program.number t.told refl in
          let low : t.told.number < known t.told.named.logged (suc unit) = named_known i w mount.legal unit t.at t.told.number t.told.named in
          let rise : known t.told.named.logged (suc unit) ≤ slice_index knows (suc unit) =
          rising t.told.named.logged unit (is_in log t.at t.told.named.logged t.told.named.there) in
          omega arith

      pub landed_known : (index : ℕ) (block : Block) → slice_get p.stripe.blocks index ≡ Some block
          → written_at (media i (cut_logs knows (log_of w))) o.line (p.stripe.unit, p.stripe.at + index) ≡ Some block
      landed_known index block is =
          let unit : ℕ = p.stripe.unit in
          let d : IsDeed i w unit program.number program.logged = deed i w unit program.number program.logged mount.legal program.there in
          let h = since i w mount.legal b.0 b.1 unit o.line o is_open in
          let later : o.number < p.number = (opening_then log p.number p.stripe.line o its.2).2 in
          let knew : p.number < knows_engine program.logged = program.knew in
          let low : known h.logged (suc unit) ≤ program.number =
          (was_made i w (suc unit) program.number program.logged mount.legal program.there).knew 0 o.number h.logged (omega arith) h.there in
          let same : known h.logged (suc unit) ≡ slice_index o.knows (suc unit) = named i w mount.legal b.0 b.1 unit o.line o is_open in
          let at = in_filter (λ (q : Placed). q.stripe.unit == p.stripe.unit) (placements log) p (among_contained (placements log) p its.0)
          (same_number p.stripe.unit) in
          let chunk : program.event.chunk ≡ o.line = program.chunk ∙ (placed_in i w mount.legal unit at.0 p at.1).chunk ∙ its.3 in
          let event : d.event ≡ program.event = same_Some d.event program.event (sym d.is_event ∙ program.is_event) in
          let was : chunk_after i (log_of w) o.line unit program.number ≡ Some d.found =
          ap (λ y. chunk_after i (log_of w) y unit program.number) (sym chunk ∙ ap (λ (e : UnitEvent). e.chunk) (sym event)) ∙ d.there in
          let c = still_there i (log_of w) o.line unit program.number (slice_index knows (suc unit)) d.found was in
          ap (option_and_then (λ (y : Chunk). slice_get y.blocks (p.stripe.at + index)))
          (chunk_of_cut i (log_of w) knows o.line unit ∙ c.1)
          ∙ done_stands i w mount.accepted mount.fit mount.legal b.0 b.1 unit o.line o is_open program.number (slice_index knows (suc unit))
          p.stripe.at index program.logged program.event
          p.stripe.blocks block c.0 (omega arith) program.there program.is_event chunk program.command program.done named_before (within unit) c.1 is

  -- ---- so all that the engine was told is there

  begins_low : (g : Begun) → begun (log_of w 0) ≡ Some g → (unit : ℕ) → slice_index g.knows (suc unit) ≤ slice_index knows (suc unit)
  begins_low g begins unit =
      let first : IsBeginning i w g = beginning_of i w g mount.legal begins in
      let same : known first.logged (suc unit) ≡ slice_index g.knows (suc unit) = ap (λ ks. slice_index ks (suc unit)) first.knows in
      let rise : known first.logged (suc unit) ≤ slice_index knows (suc unit) = rising first.logged unit (is_in log 0 first.logged first.there) in
      omega arith

  pub known_holds : AreSameTold i (log_of w) (cut_logs knows (log_of w)) → HoldsTold i w (cut_logs knows (log_of w))
  known_holds told = record {
    told = told;
    units = units_known;
    blocks = λ o is_open p there landed index block is. landed_known o is_open p there landed index block is;
    found = λ g begins line unit is_found no_stray.
        chunk_of_cut i (log_of w) knows line unit
        ∙ found_upto i w mount g begins line unit (slice_index knows (suc unit)) is_found no_stray (begins_low g begins unit) (within unit);
  }
