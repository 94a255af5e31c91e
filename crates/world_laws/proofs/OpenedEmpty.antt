-- When a line is opened, each of its chunks is empty at the prefix of its unit's log that the
-- opening names.
use Rattle.std.proofs.Common.{◌≡◌, ℕ, ◌<◌, ◌≤◌, ◌⊎◌, inl, inr, suc, Bool, true, false, Some, List, length, take, refl, sym, ap, ◌∙◌, arith}
use Rattle.std.specs.Prelude.{slice_get, slice_index}
use Rattle.std.proofs.lemmas.Bool.{cases_order}
use Rattle.std.proofs.lemmas.Option.{same_Some}
use Rattle.pblk_model.specs.Chunk.{Chunk}
use Rattle.pblk_model.specs.StartRecord.{StartRecord}
use Rattle.pblk_model.specs.UnitLog.{UnitEvent, after_log}
use Rattle.pblk_model.specs.Image.{Image}
use Rattle.pblk_world.specs.Events.{Open, Logged}
use Rattle.pblk_world.specs.World.{World, log_of, known, knows_engine, unit_event_of}
use Rattle.pblk_world.specs.EngineLog.{Begun, begun, Opened, is_opened, life_of}
use Rattle.pblk_world.specs.Lines.{is_empty_state}
use Rattle.pblk_world.specs.Commanding.{is_program, was_stopped, ended_stripes}
use Rattle.pblk_world.specs.Legal.{IsLegal}
use Rattle.pblk_world.proofs.Growing.{knowledge_rises}
use Rattle.pblk_model.proofs.Parts.{get_below}
use Rattle.world_laws.specs.UnitChunks.{chunk_after, first_events}
use Rattle.world_laws.proofs.NamedPrefixes.{was_made}
use Rattle.world_laws.proofs.FoundEmpty.{empty_by_told, low}
use Rattle.world_laws.proofs.KnownEmpty.{IsToldReset}
use Rattle.world_laws.proofs.LastUses.{IsOfChunk}
use Rattle.world_laws.proofs.NextLives.{IsDecided, placed_in, unopened}
use Rattle.world_laws.proofs.StripeLines.{IsGone, open_or_gone}
use Rattle.world_laws.proofs.Tellings.{IsNamedAt, IsTold, last_program, named_known}
use Rattle.world_laws.proofs.ToldBefore.{IsCommandOf, IsFoundChunk, IsProgram, all_named, found_chunk, going_before, no_both, program, told_itself, told_later}

module _ (i : Image) (w : World) (legal : IsLegal i w) (b : Begun) (begins : begun (log_of w 0) ≡ Some b) (unit line : ℕ)
    (k : ℕ) (start : StartRecord) (l : Logged) (d : IsDecided i w legal k (Open line start) l) where
  abbrev log : List Logged
  log = log_of w 0

  abbrev own : List Logged
  own = log_of w (suc unit)

  -- a program of the chunk that the opening knew was answered before it
  pub early_gone : (y : ℕ) (x : Logged) (e : UnitEvent) (p : IsProgram i w legal b begins unit line y x e) → p.stripe.placed.number < k
      → IsGone i w legal unit (ended_stripes (take y (log_of w (suc unit)))) p.stripe.placed p.stripe.in_order k
  early_gone y x e p before = go (open_or_gone i w legal unit (ended_stripes (take y own)) p.stripe.placed p.stripe.in_order k before few)
    where
      few : k ≤ length log
      few = let inside : k < length log = get_below log k l d.there in omega arith

      go : (life_of (take k log) p.stripe.placed.stripe.line ≡ Opened
          (placed_in i w legal unit (ended_stripes (take y own)) p.stripe.placed p.stripe.in_order).opening)
          ⊎ IsGone i w legal unit (ended_stripes (take y own)) p.stripe.placed p.stripe.in_order k
          → IsGone i w legal unit (ended_stripes (take y own)) p.stripe.placed p.stripe.in_order k
      go (inl open_now) = no_both (ap (λ m. is_opened (life_of (take k log) m)) (sym p.its_line)
          ∙ ap is_opened open_now) (unopened i w legal k line start l d.there d.event)
      go (inr gone) = gone

  placed_early : (y : ℕ) (x : Logged) (e : UnitEvent) (p : IsProgram i w legal b begins unit line y x e) → slice_get own y ≡ Some x → y < known l (suc unit)
      → p.stripe.placed.number < k
  placed_early y x e p there below =
      let knew : knows_engine x ≤ k = (was_made i w 0 k l legal d.there).knew (suc unit) y x below there in
      let placed : p.stripe.placed.number < knows_engine x = p.stripe.was_known in
      omega arith

  pub early_going : (y : ℕ) (x : Logged) (e : UnitEvent) → slice_index b.knows (suc unit) ≤ y → y < known l (suc unit)
      → IsOfChunk i w legal unit line is_program y x e → was_stopped e.outcome ≡ false
  early_going y x e from below at =
      let p : IsProgram i w legal b begins unit line y x e = program i w legal b begins unit line y x e from at in
      go p (early_gone y x e p (placed_early y x e p at.there below))
    where
      go : (p : IsProgram i w legal b begins unit line y x e) → IsGone i w legal unit (ended_stripes (take y own)) p.stripe.placed p.stripe.in_order k
          → was_stopped e.outcome ≡ false
      go p gone = by gone.told.told (last_program i w legal unit (ended_stripes (take y own)) gone.told.at y gone.told.told refl)
        where
          by : (t : IsTold i w legal unit (ended_stripes (take y own)) gone.told.at) → y ≤ t.number → was_stopped e.outcome ≡ false
          by t within = which (cases_order y t.number)
            where
              which : (y ≡ t.number) ⊎ ((y < t.number) ⊎ (t.number < y)) → was_stopped e.outcome ≡ false
              which (inl same) =
                  let one : x ≡ t.logged = same_Some x t.logged (sym at.there ∙ ap (slice_get own) same ∙ t.there) in
                  let event : e ≡ t.event = same_Some e t.event (sym at.is_event ∙ ap (λ (z : Logged). unit_event_of z.event) one ∙ t.is_event) in
                  ap (λ (z : UnitEvent). was_stopped z.outcome) event ∙ t.going
              which (inr (inl later)) = going_before i w legal b begins unit line y t.number x t.logged e t.event later at.there at.is_event t.there t.is_event
                  t.going
              which (inr (inr above)) = absurd (omega arith)

  pub early_named : (y : ℕ) (x : Logged) (e : UnitEvent) → y < known l (suc unit) → IsCommandOf i w legal b begins unit line is_program y x e
      → (q : ℕ) × (q < k)
      × IsNamedAt i w legal unit q y
  early_named y x e below h =
      let p : IsProgram i w legal b begins unit line y x e = program i w legal b begins unit line y x e h.from h.at in
      let gone = early_gone y x e p (placed_early y x e p h.at.there below) in
      let first : gone.told.at < gone.freed.number = gone.told.before in
      let second : gone.freed.number < k = gone.freed.before in
      (gone.told.at, omega arith, told_itself i w legal b begins unit line y gone.freed.number x e h gone.told)

  pub opened_empty : (c : Chunk) → chunk_after i (log_of w) line unit (known l (suc unit)) ≡ Some c → is_empty_state c.state ≡ true
  opened_empty c there = go (is_empty_state c.state) refl
    where
      go : (t : Bool) → is_empty_state c.state ≡ t → is_empty_state c.state ≡ true
      go true is = is
      go false is =
          let n : ℕ = known l (suc unit) in
          let found : IsFoundChunk i w legal b begins unit line = found_chunk i w legal b begins unit line n c there in
          let later = told_later i w legal b begins unit line n k c (low i w legal b begins unit line k start l d (suc unit))
          ((was_made i w 0 k l legal d.there).within (suc unit)) there is found
          (all_named i w legal b begins unit line n) early_going early_named
          (empty_by_told i w legal b begins unit line k start l d found.chunks found.has found.chunk found.at) in
          let z : IsToldReset i w legal unit (after_log i.shape found.chunks
          (first_events (log_of w) unit (slice_index b.knows (suc unit)))) line k = later.told in
          let past : n ≤ z.number = later.past in
          let early : z.at < k = z.before in
          let near : z.number < known z.telling.named.logged (suc unit) = named_known i w legal unit z.at z.number z.telling.named in
          let more : known z.telling.named.logged (suc unit) ≤ n = knowledge_rises i w 0 (suc unit) z.at k z.telling.named.logged l legal
          (omega arith) z.telling.named.there d.there in
          absurd (omega arith)
