-- A chunk as the engine knows it is that of a prefix of its unit's log: the one just behind the
-- last change that the engine was told of.
use Rattle.std.proofs.Common.{◌≡◌, ◌↔◌, ◌⊎◌, inl, inr, ℕ, ◌+◌, ◌<◌, ◌≤◌, suc, true, Some, List, length, take, sym, subst, ap, ◌∙◌, arith}
use Rattle.std.specs.Prelude.{slice_get, slice_index}
use Rattle.std.specs.List.{Contains}
use Rattle.std.proofs.lemmas.Option.{same_Some}
use Rattle.std.proofs.Math.Seq.{take-length}
use Rattle.pblk_model.specs.Chunk.{Chunk}
use Rattle.pblk_model.specs.Image.{Image}
use Rattle.pblk_laws.specs.LineBlocks.{chunk_in}
use Rattle.pblk_world.specs.Events.{Logged}
use Rattle.pblk_world.specs.World.{World, Logs, log_of, knows_engine}
use Rattle.pblk_world.specs.EngineLog.{Begun, begun, named_by, named_events}
use Rattle.pblk_world.specs.Commanding.{is_program, is_reset}
use Rattle.pblk_world.specs.Legal.{IsLegal}
use Rattle.pblk_world.specs.Lines.{known_image}
use Rattle.pblk_world.proofs.EngineLogLemmas.{begun_knows}
use Rattle.pblk_world.proofs.LinesLemmas.{length_known}
use Rattle.pblk_world.proofs.VictimsLemmas.{whole_prefix}
use Rattle.pblk_model.proofs.Lists.{among_contained}
use Rattle.pblk_model.proofs.Maps.{from_given, given_at}
use Rattle.pblk_model.proofs.Options.{split_then}
use Rattle.pblk_model.proofs.Parts.{contained_among, get_below, get_taken, got_within}
use Rattle.pblk_model.proofs.Tests.{either}
use Rattle.world_laws.specs.KnownChunks.{IsChange}
use Rattle.world_laws.specs.UnitChunks.{chunk_after}
use Rattle.world_laws.proofs.KnownChunks.{IsKnownTo, known_first, known_later}
use Rattle.world_laws.proofs.LifeUnits.{begun_within, chunk_known}
use Rattle.world_laws.proofs.Tellings.{IsNamedAt}
use Rattle.world_laws.proofs.ToldBefore.{IsActive, IsNamedFor, all_named}

-- what is named stands among the engine's names, and the other way round
pub named_there : (log : List Logged) (unit q n : ℕ) (l : Logged) → slice_get log q ≡ Some l → named_by unit l.event ≡ Some n
    → Contains (named_events log unit) n
named_there log unit q n l there names =
    contained_among (named_events log unit) n (given_at (λ (x : Logged). named_by unit x.event) log l n q there names)

module _ (i : Image) (w : World) (legal : IsLegal i w) (b : Begun) (begins : begun (log_of w 0) ≡ Some b) (unit line : ℕ) where
  abbrev log : List Logged
  log = log_of w 0

  change_is : (n : ℕ) → slice_index b.knows (suc unit) ≤ n → (h : IsChange (log_of w) line unit n) → IsActive i w legal b begins unit line n h.logged h.event
  change_is n from h = go (either (is_program h.event.command) (is_reset h.event.command) h.kind)
    where
      go : (is_program h.event.command ≡ true) ⊎ (is_reset h.event.command ≡ true) → IsActive i w legal b begins unit line n h.logged h.event
      go (inl program) = inl (record {
        from = from;
        at = record { there = h.there; is_event = h.is_event; its_chunk = h.its_chunk; passes = program };
        going = h.going;
      })
      go (inr reset) = inr (record {
        from = from;
        at = record { there = h.there; is_event = h.is_event; its_chunk = h.its_chunk; passes = reset };
        going = h.going;
      })

  -- of two changes of a chunk the engine was told of the earlier one when the unit made the later
  -- one
  pub told_in_order : (n m : ℕ) (l : Logged) → slice_index b.knows (suc unit) ≤ n → n < m → IsChange (log_of w) line unit n
      → IsChange (log_of w) line unit m → slice_get (log_of w (suc unit)) m ≡ Some l → Contains (named_events (take (knows_engine l) (log_of w 0)) unit) n
  told_in_order n m l from below first second there =
      let h : IsNamedFor i w legal b begins unit line n second.logged =
      all_named i w legal b begins unit line (suc m) n m first.logged second.logged first.event second.event below (omega arith)
      (change_is n from first) (change_is m (omega arith) second) in
      let same : second.logged ≡ l = same_Some second.logged l (sym second.there ∙ there) in
      let named : Contains (named_events (take (knows_engine second.logged) log) unit) n =
      named_there (take (knows_engine second.logged) log) unit h.at n h.named.logged
      (get_taken (knows_engine second.logged) log h.at h.known ∙ h.named.there) h.named.names in
      subst (λ (x : Logged). Contains (named_events (take (knows_engine x) log) unit) n) same named

  -- what is known is the chunk after some first events of the unit, and these are the ones whose
  -- changes of the chunk the engine was told of
  pub known_prefix : (c : Chunk) → chunk_in (known_image i (log_of w)) line unit ≡ Some c
      → (n : ℕ) × (slice_index b.knows (suc unit) ≤ n) × (n ≤ length (log_of w (suc unit))) × (chunk_after i (log_of w) line unit n ≡ Some c)
      × ((m : ℕ) → slice_index b.knows (suc unit) ≤ m → IsChange (log_of w) line unit m → (m < n) ↔ Contains (named_events (log_of w 0) unit) m)
  known_prefix c known =
      let its = split_then (λ (cs : List Chunk). slice_get cs line) (slice_get (known_image i (log_of w)).units unit) c known in
      let inside : unit < length (known_image i (log_of w)).units = get_below (known_image i (log_of w)).units unit its.0 its.1 in
      let count : length (known_image i (log_of w)).units ≡ length i.units = length_known i (log_of w) in
      let has = got_within i.units unit (omega arith) in
      by has.0 has.1
    where
      by : (start_chunks : List Chunk) (has : slice_get i.units unit ≡ Some start_chunks)
          → (n : ℕ) × (slice_index b.knows (suc unit) ≤ n) × (n ≤ length (log_of w (suc unit))) × (chunk_after i (log_of w) line unit n ≡ Some c)
          × ((m : ℕ) → slice_index b.knows (suc unit) ≤ m → IsChange (log_of w) line unit m → (m < n) ↔ Contains (named_events (log_of w 0) unit) m)
      by start_chunks has =
          let some : 0 < length log = begun_knows (length log) log b (ap begun (take-length log) ∙ begins) in
          let all : 0 + length log ≡ length log = omega arith in
          let at = known_later i w legal b begins unit line start_chunks has 0 (length log) (slice_index b.knows (suc unit)) (omega arith)
          (known_first i w legal b begins unit line start_chunks has (begun_within i w legal b begins unit)) in
          let k : IsKnownTo i w legal b begins unit line start_chunks has (length log) at.0 =
          subst (λ x. IsKnownTo i w legal b begins unit line start_chunks has x at.0) all at.2 in (
            at.0,
            k.from,
            k.inside,
            sym k.same ∙ sym (chunk_known i w legal b begins unit line start_chunks has (length log) some)
                ∙ ap (λ (logs : Logs). chunk_in (known_image i logs) line unit) (whole_prefix (log_of w)) ∙ known,
            λ m from h. (named k m from h, within k m from h),
          )
        where
          named : {n : ℕ} → IsKnownTo i w legal b begins unit line start_chunks has (length (log_of w 0)) n → (m : ℕ) → slice_index b.knows (suc unit) ≤ m
              → IsChange (log_of w) line unit m → m < n → Contains (named_events (log_of w 0) unit) m
          named k m from h before =
              let at = k.named m h.logged h.event before (change_is m from h) in
              let x : IsNamedAt i w legal unit at.0 m = at.2 in named_there log unit at.0 m x.logged x.there x.names

          within : {n : ℕ} → IsKnownTo i w legal b begins unit line start_chunks has (length (log_of w 0)) n → (m : ℕ) → slice_index b.knows (suc unit) ≤ m
              → IsChange (log_of w) line unit m → Contains (named_events (log_of w 0) unit) m → m < n
          within k m from h there =
              let at = among_contained (named_events log unit) m there in
              let l = from_given (λ (x : Logged). named_by unit x.event) log m at.0 at.1 in
              k.within l.1.0 m h.logged h.event (get_below log l.1.0 l.0 l.1.1) (record { logged = l.0; there = l.1.1; names = l.2 }) (change_is m from h)
