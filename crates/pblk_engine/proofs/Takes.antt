-- What a heart stands for once its core took an entry that the ring's intake took.
use Rattle.std.proofs.Common.{◌≡◌, ◌≢◌, ◌⊎◌, inl, inr, ℕ, ◌+◌, ◌^◌, ◌<◌, ◌≤◌, suc, Bool, true, false, None, Some, Option, List, [], ◌∷◌, ◌++◌, length, map, refl, sym, subst, ap, ap₂, ◌∙◌, arith, le_refl, length-append, if◌then◌else◌}
use Rattle.std.specs.Prelude.{slice_index}
use Rattle.std.specs.List.{AllByRecursion}
use Rattle.std.specs.Option.{is_some, option_map}
use Rattle.std.specs.FinMap as fin
use Rattle.std.proofs.lemmas.Bool.{cases_lt, cases_order}
use Rattle.std.proofs.lemmas.List.{map-append}
use Rattle.std.proofs.lemmas.Option.{none-some, same_Some}
use base.Growing.{prefix_trans}
use Rattle.pblk_model.specs.Chunk.{IsBlock}
use Rattle.pblk_model.specs.Image.{Image}
use Rattle.pblk_model.specs.Marks.{sector_mark, void_mark}
use Rattle.pblk_model.specs.declared.chunk.Mark.{Mark}
use Rattle.pblk_model.specs.declared.shape.Shape.{Shape}
use Rattle.pblk_model.proofs.Lists.{with_last}
use Rattle.pblk_world.specs.EngineLog.{takes}
use Rattle.pblk_world.specs.Events.{EngineEvent, Logged, Source, Take}
use Rattle.pblk_world.specs.Legal.{MayDecide}
use Rattle.pblk_world.specs.LegalMounts.{IsLegalMount}
use Rattle.pblk_world.specs.Orders.{NoneToFree}
use Rattle.pblk_world.specs.Reasons.{WasBegun, WasRoom}
use Rattle.pblk_world.specs.Taking.{IsLatest, MayTake}
use Rattle.pblk_world.specs.World.{World, Logs, log_of}
use Rattle.pblk_world.proofs.EngineLogLemmas.{takes_more}
use Rattle.l2p_map.specs.declared.slot.Slot.TheVariants.{Cached, Media}
use Rattle.core_laws.specs.SlotOf.{slot_of}
use Rattle.core_laws.proofs.SpentBy.{taking_spends_none}
use Rattle.core_laws.proofs.ToldSpent.{none_by_spent}
use Rattle.step_laws.specs.Whole.{engine_step, knows_all}
use Rattle.step_laws.proofs.EngineSteps.{engine_logs}
use Rattle.step_laws.proofs.KeptSources.{source_kept}
use Rattle.sector_pool.specs.declared.entry.Class.{Class}
use Rattle.sector_pool.specs.declared.entry.Class.TheVariants.{User, Copy}
use Rattle.sector_pool.specs.declared.entry.Entry.{Entry as FramedEntry}
use Rattle.sector_pool.specs.declared.entry.Source.{Source as EntrySource}
use Rattle.write_ring.specs.Frames.{HasSource, entry_row, is_copy}
use Rattle.write_ring.specs.Handles.{HasTaken}
use Rattle.write_ring.specs.Stock.{HasPut}
use Rattle.write_ring.specs.declared.view.Key.{Key}
use Rattle.write_ring.specs.declared.view.Part.{Part}
use Rattle.write_ring.specs.declared.view.Row.{Row}
use Rattle.write_ring.specs.declared.view.View.{View}
use Rattle.write_window.specs.Window as window
use Rattle.write_window.specs.declared.held.Held.{Held}
use Rattle.write_window.specs.declared.held.Progress.TheVariants.{Waiting}
use Rattle.pblk_core.specs.Copies.{is_copying}
use Rattle.pblk_core.specs.Keeping.{KeepsStripesTaking, still_copying}
use Rattle.pblk_core.specs.Collecting.{Collects}
use Rattle.pblk_core.specs.Mounts.{CollectsAfter, StandsAfter}
use Rattle.pblk_core.specs.Stands.{Stands}
use Rattle.pblk_core.specs.Taken.{HasItsSector, IsClassed, entry_of, is_latest_from, is_latest_in, is_source, mark_of}
use Rattle.pblk_core.specs.Taking.{CanTake, with_waiting}
use Rattle.pblk_core.specs.declared.target_core.Core.{Core}
use Rattle.pblk_core.proofs.StandsStale.{may_take_stale}
use Rattle.pblk_core.proofs.StandsTaken.{may_take, source_slot}
use Rattle.chronicle.specs.Prefixes.{logs_of}
use Rattle.chronicle.proofs.Parts.{log_grows}
use Rattle.chronicle.proofs.PrefixLemmas.{begins_take}
use Rattle.pblk_engine.specs.Hearts.{HasCopies, HasNoCopy, IsBeating, IsClaimedCopy, IsHeart, Parts, ring_row, ring_source}
use Rattle.pblk_engine.proofs.Decisions.{its_heart, its_mount, legal_next, none_to_free_then}
use Rattle.pblk_engine.proofs.GivenBack.{never_cached}
use Rattle.pblk_engine.proofs.HeartSteps.{IsAfter, begun_more, log_is, out_later}
use Rattle.pblk_engine.proofs.OnceRoom.{room_later, room_less}
use Rattle.pblk_engine.proofs.Reasoned.{TakesFor}

-- ---- rows

-- an entry's row, as the log has it, is its row in the ring
row_same : (class : Class) (source : Option EntrySource) (position lba : ℕ) (sector : List ℕ) → HasSource (is_copy class) source
    → ◌≡◌ {A = Row} (record {
      position = position;
      copy = is_some {T = Source} (option_map (λ (at : EntrySource). record { line = at.line; at = at.at; position = at.position }) source);
      lba = lba;
      source = ring_source (option_map (λ (at : EntrySource). record { line = at.line; at = at.at; position = at.position }) source);
      sector = sector;
    }) (record { position = position; copy = is_copy class; lba = lba; source = source; sector = sector })
row_same User None position lba sector has = refl
row_same User (Some s) position lba sector has = absurd (none-some s (sym has))
row_same Copy (Some s) position lba sector has = refl
row_same Copy None position lba sector has = let no : false ≡ true = has in absurd cc

pub row_of : (e : FramedEntry) (mark : Mark) → HasSource (is_copy e.class) e.source → ring_row (record { entry = entry_of e; mark = mark }) ≡ entry_row e
row_of e mark has = row_same e.class e.source e.position e.lba e.frame.bytes has

-- a source as the log has it
back : (o : Option EntrySource) (s : Source) → o ≡ ring_source (Some s)
    → option_map (λ (at : EntrySource). record { line = at.line; at = at.at; position = at.position }) o ≡ Some s
back o s is = ap (option_map (λ (at : EntrySource). record { line = at.line; at = at.at; position = at.position })) is

-- ---- blocks

all_bytes : (bytes : List ℕ) → ((k : ℕ) → slice_index bytes k < 256) → AllByRecursion (λ x. x < 256) bytes
all_bytes [] fit = tt
all_bytes (x ∷ bytes) fit = (fit 0, all_bytes bytes (λ k. fit (suc k)))

small_mark : (latest : Bool) (position lba : ℕ) → lba < 2 ^ 40 → (if latest then sector_mark lba position else void_mark position).lba < 2 ^ 64
small_mark true position lba low = omega arith
small_mark false position lba low = omega arith

its_position : (latest : Bool) (position lba : ℕ) → (if latest then sector_mark lba position else void_mark position).position ≡ position
its_position true position lba = refl
its_position false position lba = refl

module _ (h : Parts) (b : IsBeating h) (e : FramedEntry) (v : View) (t : HasTaken h.intake e v) where
  abbrev i : Image
  i = h.author.past.image

  abbrev w : World
  w = b.legal.world

  abbrev c : Core
  c = h.core

  abbrev event : EngineEvent
  event = Take (entry_of e) (mark_of c.map e)

  abbrev later : World
  later = engine_step i.shape event w ∷ w

  mount : IsLegalMount i w
  mount = its_mount h b

  heart : IsHeart i (log_of w) c h.intake
  heart = its_heart h b

  abbrev same_layout : c.layout ≡ i.shape
  same_layout = heart.stands.layout

  inside : e.lba < i.shape.capacity
  inside = subst (λ n. e.lba < n) b.fits.capacity t.fits.0

  next : e.position ≡ window.taken c.window
  next = t.position ∙ heart.taken

  room : length c.window.entries < c.window.size
  room = less h.intake.intake.taken h.intake.intake.freed h.intake.key.size i.shape.ring c.window.freed (length c.window.entries) c.window.size
      (subst (λ p. p < h.intake.intake.freed + h.intake.key.size) t.position t.room) heart.taken heart.freed b.fits.size heart.stands.size
    where
      less : (taken freed size ring front count wide : ℕ) → taken < freed + size → taken ≡ front + count → freed ≡ front → size ≡ ring → wide ≡ ring
          → count < wide
      less taken freed size ring front count wide low is same sized wide_is = omega arith

  -- ---- the copy under way

  -- a copy that is taken is the one that is under way
  record IsIts : Type 0 where
    copying : is_copying c ≡ true
    claimed : IsClaimedCopy i (log_of w) h.intake.pass h.intake.intake.taken
    row : entry_row e ≡ claimed.row

  its_copy : e.class ≡ Copy → IsIts
  its_copy copy = go (is_copying c) refl heart.copies
    where
      go : (under_way : Bool) → is_copying c ≡ under_way → HasCopies i (log_of w) under_way h.intake.pass h.intake.intake.taken → IsIts
      go true is claimed = record {
        copying = is;
        claimed = claimed;
        row = claimed.only_put (entry_row e) (t.copy copy) (subst (λ p. h.intake.intake.taken ≤ p) (sym t.position) (le_refl h.intake.intake.taken));
      }
      go false is none =
          let low : e.position < h.intake.intake.taken = none.puts (entry_row e) (t.copy copy) in
          let at : e.position ≡ h.intake.intake.taken = t.position in
          absurd (omega arith)

  its_source : (is : IsIts) → e.source ≡ ring_source (Some is.claimed.source)
  its_source is = ap (λ (r : Row). r.source) is.row ∙ is.claimed.is_source

  slot_is : fin.get c.map e.lba ≡ Some (slot_of i (log_of w) e.lba)
  slot_is = heart.stands.slots e.lba inside

  classed : IsClassed c.map e e.class e.source
  classed = go e.class refl t.fits.1
    where
      go : (class : Class) → e.class ≡ class → HasSource (is_copy class) e.source → IsClassed c.map e class e.source
      go User is has = has
      go Copy is has =
          let its : IsIts = its_copy is in
          let source = its.claimed.source in (
            record { line = source.line; at = source.at; position = source.position },
            its_source its,
            λ cached. never_cached i w e.lba source.position mount its.claimed.out
                (same_Some (slot_of i (log_of w) e.lba) (Cached source.position) (sym slot_is ∙ cached)),
          )

  pub can : CanTake c e
  can = record {
    next = next;
    position = t.small;
    room = room;
    class = classed;
    lba = subst (λ (s : Shape). e.lba < s.capacity) (sym same_layout) inside;
  }

  -- ---- it may be taken

  -- where its source is still the latest, it has its sector
  has_sector : is_latest_in c.map e ≡ true → HasItsSector i (log_of w) (entry_of e) (entry_of e).source
  has_sector latest = go e.class refl t.fits.1
    where
      go : (class : Class) → e.class ≡ class → HasSource (is_copy class) e.source → HasItsSector i (log_of w) (entry_of e) (entry_of e).source
      go User is has =
          subst (λ o. HasItsSector i (log_of w) (entry_of e) o)
          (sym (ap (option_map (λ (at : EntrySource). record { line = at.line; at = at.at; position = at.position })) has)) tt
      go Copy is has =
          let its : IsIts = its_copy is in
          let claimed = its.claimed in
          let source = claimed.source in
          let lba : e.lba ≡ claimed.row.lba = ap (λ (r : Row). r.lba) its.row in
          let named : slot_of i (log_of w) e.lba ≡ Media source.line source.at source.position =
          source_slot (slot_of i (log_of w) e.lba) (record { line = source.line; at = source.at; position = source.position })
          (sym (ap₂ (λ o s. is_latest_from o s) slot_is (its_source its)) ∙ latest) in
          let still : IsLatest i (log_of w) claimed.row.lba source claimed.block.block =
          source_kept i claimed.world w claimed.beginning claimed.row.lba source.line source.at source.position claimed.legal mount
          (λ author. (length (log_of claimed.world author), sym (begins_take (log_of claimed.world author) (log_of w author) (claimed.earlier author))))
          claimed.has_begun
          (subst (λ n. n < i.shape.capacity) lba inside) claimed.block
          (ap (slot_of i (log_of w)) (sym lba) ∙ named) in
          subst (λ o. HasItsSector i (log_of w) (entry_of e) o) (sym (back e.source source (its_source its))) (record {
            block = claimed.block.block;
            there = still.there;
            sector = ap (λ (r : Row). r.sector) its.row ∙ claimed.sector;
          })

  block : ((k : ℕ) → slice_index e.frame.bytes k < 256) → (latest : Bool)
      → IsBlock i.shape (record { sector = e.frame.bytes; mark = if latest then sector_mark e.lba e.position else void_mark e.position })
  block fit latest = record {
    size = t.fits.2 ∙ b.fits.sector;
    bytes = all_bytes e.frame.bytes fit;
    lba =
        let few : i.shape.capacity < 2 ^ 40 = mount.accepted.target.capacity_number in
        small_mark latest e.position e.lba (omega (arith, inside));
    position =
        let same : (if latest then sector_mark e.lba e.position else void_mark e.position).position ≡ e.position = its_position latest e.position e.lba in
        let low : e.position < 2 ^ 62 = t.small in
        omega arith;
  }

  may : ((k : ℕ) → slice_index e.frame.bytes k < 256) → MayTake i (log_of w) (entry_of e) (mark_of c.map e)
  may fit = go (is_latest_in c.map e) refl
    where
      go : (latest : Bool) → is_latest_in c.map e ≡ latest → MayTake i (log_of w) (entry_of e) (mark_of c.map e)
      go true is = subst (λ (m : Mark). MayTake i (log_of w) (entry_of e) m)
          (sym (ap (λ b. if b then sector_mark e.lba e.position else void_mark e.position) is))
          (may_take i w c e mount heart.stands next t.small inside is (block fit true) (has_sector is))
      go false is = subst (λ (m : Mark). MayTake i (log_of w) (entry_of e) m)
          (sym (ap (λ b. if b then sector_mark e.lba e.position else void_mark e.position) is))
          (may_take_stale i w c e mount heart.stands can t.small inside is (block fit false))

  pub may_append : ((k : ℕ) → slice_index e.frame.bytes k < 256) → MayDecide i (logs_of h.author.known) (Take (entry_of e) (mark_of c.map e))
  may_append fit = (
    b.heart.stands.beginning,
    b.heart.stands.has_begun,
    subst (λ (logs : Logs). MayTake i logs (entry_of e) (mark_of c.map e)) b.legal.logs (may fit),
  )

  -- ---- what follows

  module _ (fit : (k : ℕ) → slice_index e.frame.bytes k < 256) where
    legal : IsLegalMount i later
    legal = legal_next h b event (may_append fit)

    -- no line may be freed for it
    pub none_later : NoneToFree i (logs_of h.author.known) → NoneToFree i (log_of later)
    none_later none =
        none_by_spent i w later heart.stands.beginning mount legal heart.stands.has_begun heart.stands.full
        (λ line is. taking_spends_none i w heart.stands.beginning (engine_step i.shape event w) (entry_of e) (mark_of c.map e) line mount legal
        heart.stands.has_begun refl refl is) (subst (NoneToFree i) (sym b.legal.logs) none)

    reason : TakesFor i (log_of w) e.lba (entry_of e).source
    reason = go e.class refl t.fits.1
      where
        go : (class : Class) → e.class ≡ class → HasSource (is_copy class) e.source → TakesFor i (log_of w) e.lba (entry_of e).source
        go User is has =
            subst (TakesFor i (log_of w) e.lba)
            (sym (ap (option_map (λ (at : EntrySource). record { line = at.line; at = at.at; position = at.position })) has)) tt
        go Copy is has =
            let its : IsIts = its_copy is in
            subst (TakesFor i (log_of w) e.lba) (sym (back e.source its.claimed.source (its_source its)))
            (subst (λ n. WasBegun i (log_of w) (length (log_of w 0)) n its.claimed.source) (ap (λ (r : Row). r.lba) (sym its.row)) its.claimed.begun)

    grants : (entry_of e).source ≡ None → WasRoom i (log_of w) (length (log_of w 0)) (e.position + 1)
    grants none = go e.class refl t.fits.1
      where
        go : (class : Class) → e.class ≡ class → HasSource (is_copy class) e.source → WasRoom i (log_of w) (length (log_of w 0)) (e.position + 1)
        go User is has =
            let low : e.position < h.intake.intake.granted = t.user is in
            room_less i (log_of w) (length (log_of w 0)) (length (log_of w 0)) h.intake.intake.granted (e.position + 1) heart.once
            (le_refl (length (log_of w 0)))
            (omega arith)
        go Copy is has =
            let its : IsIts = its_copy is in
            absurd (none-some its.claimed.source (sym none ∙ back e.source its.claimed.source (its_source its)))

    -- what is under way then
    copies : (under_way : Bool) → under_way ≡ still_copying e.class (is_copying c)
        → HasCopies i (log_of later) under_way h.intake.pass (h.intake.intake.taken + 1)
    copies under_way is = subst (λ u. HasCopies i (log_of later) u h.intake.pass (h.intake.intake.taken + 1)) (sym is) (go e.class refl)
      where
        over : (claimed : IsClaimedCopy i (log_of w) h.intake.pass h.intake.intake.taken) → claimed.row.position ≡ h.intake.intake.taken
            → HasNoCopy h.intake.pass (h.intake.intake.taken + 1)
        over claimed at = record {
          claims = λ x from. claimed.only x (omega arith) (λ same. omega (arith, same, at));
          puts = λ r put. by_position r put (cases_lt r.position h.intake.intake.taken);
        }
          where
            by_position : (r : Row) → HasPut r h.intake.pass → (r.position < h.intake.intake.taken) ⊎ (h.intake.intake.taken ≤ r.position)
                → r.position < h.intake.intake.taken + 1
            by_position r put (inl below) = omega (arith, below)
            by_position r put (inr from) =
                let same : r.position ≡ claimed.row.position = ap (λ (x : Row). x.position) (claimed.only_put r put from) in
                omega (arith, same, at)

        users : e.class ≡ User → (u : Bool) → HasCopies i (log_of w) u h.intake.pass h.intake.intake.taken
            → HasCopies i (log_of later) u h.intake.pass (h.intake.intake.taken + 1)
        users user false none = record {
          claims = λ x from. none.claims x (omega arith);
          puts = λ r put. let low : r.position < h.intake.intake.taken = none.puts r put in omega arith;
        }
        users user true is =
            let other : is.row.position ≢ h.intake.intake.taken = λ same. t.apart user is.row is.put (same ∙ sym t.position) in
            let above : h.intake.intake.taken + 1 ≤ is.row.position = past h.intake.intake.taken is.row.position is.from other in
            let source : (entry_of e).source ≡ None =
            ap (option_map (λ (at : EntrySource). record { line = at.line; at = at.at; position = at.position }))
            (subst (λ (k : Class). HasSource (is_copy k) e.source) user t.fits.1) in
            let had : WasRoom i (log_of w) is.begun.at (e.position + 1) =
            subst (λ p. WasRoom i (log_of w) is.begun.at (p + 1)) (sym t.position)
            (is.granted h.intake.intake.taken (le_refl h.intake.intake.taken) (omega arith)) in
            let now = begun_more i w event is.row.lba is.source mount.legal is.begun (source, had) in
            record {
              row = is.row;
              put = is.put;
              from = above;
              only = λ x from apart. is.only x (omega arith) apart;
              only_put = λ r put from. is.only_put r put (omega arith);
              source = is.source;
              is_source = is.is_source;
              begun = now.0;
              granted = λ x from below. subst (λ at. WasRoom i (log_of later) at (x + 1)) (sym now.1)
                  (room_later i (engine_step i.shape event w ∷ []) w is.begun.at (x + 1) mount.legal is.begun.within (is.granted x (omega arith) below));
              world = is.world;
              legal = is.legal;
              beginning = is.beginning;
              has_begun = is.has_begun;
              earlier = λ author. prefix_trans (log_of is.world author) (log_of w author) (log_of later author) (is.earlier author)
                  (log_grows (engine_step i.shape event w) w author);
              block = is.block;
              out = out_later i w event is.source.position heart.stands mount legal is.out;
              sector = is.sector;
            }
          where
            past : (taken position : ℕ) → taken ≤ position → position ≢ taken → taken + 1 ≤ position
            past taken position low apart = go (cases_order taken position)
              where
                go : (taken ≡ position) ⊎ ((taken < position) ⊎ (position < taken)) → taken + 1 ≤ position
                go (inl same) = absurd (apart (sym same))
                go (inr (inl less)) = omega arith
                go (inr (inr more)) = omega arith

        go : (class : Class) → e.class ≡ class → HasCopies i (log_of later) (still_copying class (is_copying c)) h.intake.pass (h.intake.intake.taken + 1)
        go User is = users is (is_copying c) heart.copies
        go Copy is =
            let its : IsIts = its_copy is in
            over its.claimed (ap (λ (r : Row). r.position) (sym its.row) ∙ t.position)

    -- the core took it, and the intake passed no other entry
    pub after_take : (new : Core) → NoneToFree i (logs_of h.author.known) → StandsAfter c (Take (entry_of e) (mark_of c.map e)) new
        → CollectsAfter c (Take (entry_of e) (mark_of c.map e)) new → new.window ≡ with_waiting c.window e → KeepsStripesTaking e.class c new
        → v.key ≡ h.intake.key → v.pass ≡ h.intake.pass
        → IsAfter i w (Take (entry_of e) (mark_of c.map e)) c new h.intake v
    after_take new none stands collects pushed kept key pass = record {
      stands = subst (λ (logs : Logs). Stands i logs new) (sym (engine_logs i.shape event w)) (stands i w (knows_all i.shape w) mount heart.stands);
      collects = subst (λ (logs : Logs). Collects i logs new) (sym (engine_logs i.shape event w))
          (collects i w (knows_all i.shape w) mount heart.stands heart.collects);
      own =
          subst (λ (k : Key). window.AreOf k.origin.region new.window.entries) (sym key)
          (subst (λ (x : window.WindowView). window.AreOf h.intake.key.origin.region x.entries) (sym pushed)
          (with_last (λ (x : Held). x.entry.frame.region ≡ h.intake.key.origin.region) c.window.entries
          (record { entry = e; progress = Waiting }) heart.own t.own));
      took =
          t.took ∙ ap₂ (λ (xs : List Row) (r : Row). xs ++ r ∷ []) heart.took (sym (row_of e (mark_of c.map e) t.fits.1))
          ∙ sym (map-append ring_row (takes (log_of w 0)) (record { entry = entry_of e; mark = mark_of c.map e } ∷ []))
          ∙ ap (map ring_row) (sym takes_now);
      taken =
          t.next ∙ ap (λ n. n + 1) heart.taken
          ∙ sym (ap (λ (x : window.WindowView). window.taken x) pushed
          ∙ counted c.window.freed (length (c.window.entries ++ held ∷ [])) (length c.window.entries)
          (length-append c.window.entries (held ∷ [])));
      freed = t.freed ∙ heart.freed ∙ sym (ap (λ (x : window.WindowView). x.freed) pushed);
      same_freed = t.freed;
      same_granted = t.granted;
      pads = kept.pad.most;
      copies = subst (λ (p : Part). HasCopies i (log_of later) (is_copying new) p v.intake.taken) (sym pass)
          (subst (HasCopies i (log_of later) (is_copying new) h.intake.pass) (sym t.next) (copies (is_copying new) kept.copying));
      order = none_to_free_then i w c h.intake mount heart (subst (NoneToFree i) (sym b.legal.logs) none);
      reason = reason;
      grants = grants;
    }
      where
        held : Held
        held = record { entry = e; progress = Waiting }

        counted : (f n m : ℕ) → n ≡ m + 1 → f + n ≡ f + m + 1
        counted f n m is = omega arith

        takes_now : takes (log_of later 0) ≡ takes (log_of w 0) ++ record { entry = entry_of e; mark = mark_of c.map e } ∷ []
        takes_now = ap (λ (log : List Logged). takes log) (log_is i w event) ∙ takes_more (log_of w 0) (engine_step i.shape event w).logged
