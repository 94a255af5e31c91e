-- The copy that a heart begins next: it is due, its block can be read, and it gets a position.
use Rattle.std.proofs.Common.{◌≡◌, ◌≢◌, ◌⊎◌, inl, inr, ℕ, ◌+◌, ◌-◌, ◌*◌, ◌^◌, ◌<◌, ◌≤◌, zero, suc, max, Bool, true, false, Some, List, [], ◌∷◌, ◌++◌, length, refl, sym, subst, ap, ap₂, ◌∙◌, arith, le_refl, le_trans}
use Rattle.std.proofs.lemmas.Bool.{cases_lt}
use Rattle.std.proofs.lemmas.Bool.Decides.{nat_tests}
use Rattle.std.specs.Prelude.{slice_get}
use Rattle.std.proofs.lemmas.Option.{get_or_from_slice_get, same_Some}
use mathlib.Core.Option.{some}
use lib.ListN.{get_elem?}
use base.Growing.{prefix_refl}
use Rattle.atomic_table.proofs.Lists.{at_last}
use Rattle.pblk_model.specs.declared.ring.Claim.{Claim}
use Rattle.pblk_model.specs.declared.shape.Shape.{Shape}
use Rattle.pblk_model.specs.Accepted.{IsAccepted}
use Rattle.pblk_model.specs.Chunk.{Block, Chunk}
use Rattle.pblk_model.specs.Frames.{FrameView}
use Rattle.pblk_model.specs.LineOrder.{line_order}
use Rattle.pblk_layout.specs.Online.{units_in}
use Rattle.pblk_laws.specs.LineBlocks.{chunk_in}
use Rattle.pblk_model.specs.Image.{Image}
use Rattle.pblk_model.specs.RingState.{between, covers, covers_copy}
use Rattle.pblk_model.specs.Shape.{units}
use Rattle.pblk_world.specs.AtRest.{IsCopyDue, logs_at}
use Rattle.pblk_world.specs.Events.{Source}
use Rattle.pblk_world.specs.Fronts.{first_position, last_take, taken}
use Rattle.pblk_world.specs.LegalMounts.{IsLegalMount}
use Rattle.pblk_world.specs.Reasons.{WasAsked, WasBegun, WasRoom}
use Rattle.pblk_world.specs.Space.{room}
use Rattle.pblk_world.specs.Taking.{IsPlaceOfLatest}
use Rattle.pblk_world.specs.World.{World, Logs, log_of, media}
use Rattle.world_laws.specs.SameTold.{AreSameTold}
use Rattle.world_laws.proofs.GrownLogs.{IsBegunIn}
use Rattle.world_laws.proofs.ToldPads.{at_work_told}
use Rattle.l2p_map.specs.declared.slot.Slot.TheVariants.{Media}
use Rattle.core_laws.specs.OpenedLines.{online_now}
use Rattle.core_laws.specs.SlotOf.{slot_of}
use Rattle.core_laws.proofs.LatestSources.{named_is_place}
use Rattle.core_laws.proofs.ToldTables.{slot_told}
use Rattle.step_laws.specs.SlotBlocks.{IsBlockOfSlot}
use Rattle.step_laws.proofs.SlotBlocks.{on_the_drive}
use Rattle.step_laws.proofs.UnitSteps.{engine_longer}
use Rattle.write_window.specs.Window as window
use Rattle.write_ring.specs.Steps.{AreGrantedOrCopies}
use Rattle.sector_pool.specs.declared.entry.Class.TheVariants as class
use Rattle.write_ring.specs.Handles.{HasPlace}
use Rattle.write_ring.specs.declared.draft.Draft.{Draft}
use Rattle.write_ring.specs.declared.seats.Intake.{Intake}
use Rattle.write_ring.specs.declared.seats.Place.{Place}
use Rattle.write_ring.specs.declared.view.Desk.{Desk}
use Rattle.write_ring.specs.declared.view.Key.{Key}
use Rattle.write_ring.specs.declared.view.Part.{Part}
use Rattle.write_ring.specs.declared.view.View.{View}
use Rattle.write_ring.proofs.ClaimLists.{covers_both}
use Rattle.write_ring.proofs.SomeViews.{last_at}
use Rattle.write_ring.proofs.Users.{copies_among}
use Rattle.write_ring.specs.Stock.{HasPut}
use Rattle.write_ring.specs.declared.view.Row.{Row}
use Rattle.pblk_core.specs.Collecting.{Collects, IsCopyReady}
use Rattle.pblk_core.specs.Copies.{is_copying}
use Rattle.pblk_core.specs.Named.{pad_of}
use Rattle.pblk_core.specs.Stands.{Stands}
use Rattle.pblk_core.specs.declared.collecting.CopyJob.{CopyJob}
use Rattle.pblk_core.specs.declared.target_core.Core.{Core}
use Rattle.pblk_core.proofs.CopiesDue.{copy_by_test, copy_due_is}
use Rattle.pblk_core.proofs.StandsFacts.{window_taken_is}
use Rattle.pblk_core.proofs.StandsTold.{copies_told}
use Rattle.pblk_engine.specs.Copying.{HasClaimed, IsBegunNow, IsFetched, copy_row}
use Rattle.pblk_engine.specs.CopyPlaces.{copy_of}
use Rattle.pblk_engine.specs.Fetches.{IsReadableAt}
use Rattle.pblk_engine.specs.Hearts.{HasCopies, HasNoCopy, IsClaimedCopy, IsHeart, IsSettled}
use Rattle.pblk_engine.specs.declared.copying.CopyPlace.{CopyPlace}
use Rattle.pblk_engine.proofs.CopyPlaces.{place_is, ready_of}
use Rattle.pblk_engine.proofs.Decisions.{by_left, told_left}
use Rattle.pblk_engine.proofs.GivenBack.{media_is_out}
use Rattle.pblk_engine.proofs.OnceRoom.{room_less}
use Rattle.pblk_engine.proofs.SlotPlaces.{can_be_read, here, its_place}

-- ---- lists of claims

pub no_copy_there : (x : ℕ) (cs : List Claim) → covers x cs ≡ 0 → covers_copy x cs ≡ 0
no_copy_there x cs none = let low : covers_copy x cs ≤ covers x cs = copies_among x cs in omega arith

one_elsewhere : (x first : ℕ) → x ≢ first → between first (first + 1) x ≡ 0
one_elsewhere x first apart = go (cases_lt x first)
  where
    go : (x < first) ⊎ (first ≤ x) → between first (first + 1) x ≡ 0
    go (inl below) = grind (arith, nat_tests)
    go (inr above) = grind (arith, nat_tests)

-- ---- a copy that the core names

module _ (i : Image) (w : World) (c : Core) (v : View) (mount : IsLegalMount i w) (is : IsHeart i (log_of w) c v) (job : CopyJob)
    (ready : IsCopyReady c job) where
  pub inside : job.lba < i.shape.capacity
  inside = subst (λ (s : Shape). job.lba < s.capacity) is.stands.layout ready.inside

  pub slot : slot_of i (log_of w) job.lba ≡ Media job.line job.at job.position
  slot = same_Some (slot_of i (log_of w) job.lba) (Media job.line job.at job.position) (sym (is.stands.slots job.lba inside) ∙ ready.there)

  -- its block
  pub block : IsBlockOfSlot i (log_of w) job.lba job.line job.at job.position
  block = on_the_drive i w is.stands.beginning job.lba job.line job.at job.position mount is.stands.has_begun inside slot

  abbrev left : Logs
  left = log_of is.left.left

  told : AreSameTold i (log_of w) left
  told = told_left i w c v mount is

  due : IsCopyDue i left
  due = copy_by_test i left (copies_told i (log_of w) left told ∙ sym (copy_due_is i w c mount is.stands is.collects) ∙ ready.due)

  of_victim : job.line ≡ due.line
  of_victim = same_Some job.line due.line (sym ready.at_work ∙ is.collects.victim ∙ sym (at_work_told i (log_of w) left told) ∙ due.at_work)

  abbrev pub source : Source
  source = record { line = job.line; at = job.at; position = job.position }

  latest : IsPlaceOfLatest i left job.lba source (last_take (left 0) job.lba)
  latest = named_is_place i is.left.left is.left.legal job.lba job.line job.at job.position inside (slot_told i (log_of w) left told job.lba ∙ slot)

  pub begun : WasBegun i (log_of w) (length (log_of w 0)) job.lba (record { line = job.line; at = job.at; position = job.position })
  begun =
      let there : IsBegunIn i job.lba source (logs_at (length (log_of w 0)) (log_of w)) =
      by_left i w c v mount is (IsBegunIn i job.lba source) (due, of_victim, latest) in
      record {
        at = length (log_of w 0);
        has_begun = engine_longer w is.stands.beginning is.stands.has_begun;
        within = le_refl (length (log_of w 0));
        due = there.0;
        line = there.1;
        latest = there.2;
        alone = λ k l from below. absurd (omega arith);
        granted = λ k knows entry mark from below its users. absurd (omega arith);
      }

  pub begun_now : IsBegunNow i (log_of w) job
  unfolding begun
  begun_now = record { begun = begun; at = refl }

-- ---- how far claims have come

-- the ring's first position is at most that which is taken next
pub low_of : (intake : Intake) → intake.seat.me.0.key.first ≤ intake.seat.me.0.intake.taken
low_of intake = omega (arith, intake.low, intake.order, intake.taken_is)

-- each position from the front taken on that is claimed was granted, where no copy is under way
pub claimed_granted : (claimed : ℕ) (v : View) → v.key.first ≤ v.intake.taken → ((x : ℕ) → v.intake.taken ≤ x → covers x v.pass.claims ≡ 0)
    → AreGrantedOrCopies claimed v → (x : ℕ) → v.intake.taken ≤ x → x < claimed → x < v.intake.granted
claimed_granted claimed v low none reached x from below =
    reached x (le_trans low from) below (no_copy_there x v.pass.claims (none x from))

some_product : (a b : ℕ) → 0 < a → 0 < b → 0 < a * b
some_product zero b x y = absurd (omega arith)
some_product (suc a) zero x y = absurd (omega arith)
some_product (suc a) (suc b) x y = omega arith

-- a stripe of each unit is kept for copies
some_kept : (s : Shape) → IsAccepted s → 0 < units s * s.ws_opt
some_kept s accepted = some_product (units s) s.ws_opt (some_product s.groups s.pus accepted.drive.groups accepted.drive.pus) accepted.drive.ws_opt

module _ (i : Image) (w : World) (c : Core) (v : View) (accepted : IsAccepted i.shape) (is : IsHeart i (log_of w) c v) (low : v.key.first ≤ v.intake.taken)
    (none : (x : ℕ) → v.intake.taken ≤ x → covers x v.pass.claims ≡ 0) (claimed : ℕ) (from : v.intake.taken ≤ claimed)
    (reached : AreGrantedOrCopies claimed v) where
  granted_before : v.intake.taken < claimed → claimed ≤ v.intake.granted
  granted_before more =
      let last : claimed - 1 < v.intake.granted = claimed_granted claimed v low none reached (claimed - 1) (omega arith) (omega arith) in
      omega arith

  freed_before : v.intake.freed ≤ v.intake.taken
  freed_before =
      let f : v.intake.freed ≡ c.window.freed = is.freed in
      let t : v.intake.taken ≡ c.window.freed + length c.window.entries = is.taken in
      omega arith

  -- where the window doesn't hold the entry whose slot is next, there is room in the ring
  pub has_room : ((v.intake.freed ≤ claimed - i.shape.ring) → (claimed - i.shape.ring < v.intake.taken) → claimed < i.shape.ring)
      → claimed < v.intake.freed + i.shape.ring
  has_room lets = go (cases_lt claimed (v.intake.freed + i.shape.ring))
    where
      kept : 0 < units i.shape * i.shape.ws_opt
      kept = some_kept i.shape accepted

      above : (n : ℕ) → units i.shape * i.shape.ws_opt ≡ n → v.intake.freed + i.shape.ring ≤ claimed → claimed < v.intake.freed + i.shape.ring
      above n is_n full = by (cases_lt (claimed - i.shape.ring) v.intake.taken)
        where
          within : v.intake.granted + n ≤ v.intake.freed + i.shape.ring
          within = subst (λ m. v.intake.granted + m ≤ v.intake.freed + i.shape.ring) is_n is.within

          some : 0 < n
          some = subst (λ m. 0 < m) is_n kept

          by : (claimed - i.shape.ring < v.intake.taken) ⊎ (v.intake.taken ≤ claimed - i.shape.ring) → claimed < v.intake.freed + i.shape.ring
          by (inl held) = let short : claimed < i.shape.ring = lets (omega arith) held in absurd (omega arith)
          by (inr past) = one (cases_lt v.intake.taken claimed)
            where
              one : (v.intake.taken < claimed) ⊎ (claimed ≤ v.intake.taken) → claimed < v.intake.freed + i.shape.ring
              one (inl more) = let last : claimed ≤ v.intake.granted = granted_before more in absurd (omega (arith, within, some))
              one (inr same) = absurd (omega (arith, within, some))

      go : (claimed < v.intake.freed + i.shape.ring) ⊎ (v.intake.freed + i.shape.ring ≤ claimed) → claimed < v.intake.freed + i.shape.ring
      go (inl less) = less
      go (inr full) = above (units i.shape * i.shape.ws_opt) refl full

  -- and positions aren't at their end where a copy is due
  pub has_position : IsCopyDue i (log_of w) → claimed < 2 ^ 62
  has_position due =
      let below : taken (log_of w 0) < max (2 ^ 61 - 2) (first_position (log_of w 0)) = due.has_position in
      let same : window.taken c.window ≡ taken (log_of w 0) = window_taken_is i w c is.stands in
      let its : v.intake.taken ≡ window.taken c.window = is.taken in
      let last : v.intake.granted ≤ max (2 ^ 61 - 2) (first_position (log_of w 0)) = is.last in
      let first : first_position (log_of w 0) ≤ c.window.freed = is.stands.from_first in
      let t : v.intake.taken ≡ c.window.freed + length c.window.entries = is.taken in
      let few : c.first ≤ 2 ^ 62 = is.stands.fits.first in
      let c_first : c.first ≡ first_position (log_of w 0) = is.stands.first in
      go (cases_lt v.intake.taken claimed) (ends v.intake.taken (taken (log_of w 0)) (first_position (log_of w 0)) (its ∙ same) below (omega arith))
    where
      ends : (t u f : ℕ) → t ≡ u → u < max (2 ^ 61 - 2) f → f ≤ t → (t < 2 ^ 61 - 2) × (f ≤ 2 ^ 61 - 2)
      ends t u f same below low = (omega arith, omega arith)

      go : (v.intake.taken < claimed) ⊎ (claimed ≤ v.intake.taken) → (v.intake.taken < 2 ^ 61 - 2) × (first_position (log_of w 0) ≤ 2 ^ 61 - 2)
          → claimed < 2 ^ 62
      go (inl more) (t, f) =
          let g : claimed ≤ v.intake.granted = granted_before more in
          let last : v.intake.granted ≤ max (2 ^ 61 - 2) (first_position (log_of w 0)) = is.last in
          omega arith
      go (inr same) (t, f) = omega arith

-- ---- once it is claimed

module _ (i : Image) (w : World) (c : Core) (v v' : View) (mount : IsLegalMount i w) (is : IsHeart i (log_of w) c v) (job : CopyJob)
    (ready : IsCopyReady c job) (sector : List ℕ) (claim : HasClaimed job sector v v') (low : v.key.first ≤ v.intake.taken)
    (none : HasNoCopy v.pass v.intake.taken) (from : v.intake.taken ≤ v.found.claimed)
    (reached : AreGrantedOrCopies claim.first v) (same : sector ≡ (block i w c v mount is job ready).block.sector) where
  claims_are : v'.pass.claims ≡ v.pass.claims ++ record { first = claim.first; count = 1; copy = true } ∷ []
  claims_are = ap (λ (p : Part). p.claims) claim.put

  only_put : (r : Row) → HasPut r v'.pass → v.intake.taken ≤ r.position → r ≡ copy_row job claim.first sector
  only_put r put above = go (last_at v.pass.puts (copy_row job claim.first sector) r put.0 (sym (ap (λ (p : Part). get_elem? p.puts put.0) claim.put) ∙ put.1))
    where
      go : (get_elem? v.pass.puts put.0 ≡ some r) ⊎ ((put.0 ≡ length v.pass.puts) × (copy_row job claim.first sector ≡ r)) → r ≡ copy_row job claim.first sector
      go (inl before) = let below : r.position < v.intake.taken = none.puts r (put.0, before) in absurd (omega arith)
      go (inr last) = sym last.1

  pub claimed_copy : IsClaimedCopy i (log_of w) v'.pass v.intake.taken
  unfolding begun
  claimed_copy = record {
    row = copy_row job claim.first sector;
    put = (
      length v.pass.puts,
      ap (λ (p : Part). get_elem? p.puts (length v.pass.puts)) claim.put
          ∙ at_last v.pass.puts (copy_row job claim.first sector) (length v.pass.puts) refl,
    );
    from = le_trans from claim.past;
    only = λ x above apart.
        ap (covers x) claims_are ∙ covers_both x v.pass.claims (record { first = claim.first; count = 1; copy = true } ∷ [])
        ∙ ap₂ (λ a b. a + (b + 0)) (none.claims x above) (one_elsewhere x claim.first apart);
    only_put = λ r put above. only_put r put above;
    source = source i w c v mount is job ready;
    is_source = refl;
    beginning = is.stands.beginning;
    has_begun = is.stands.has_begun;
    begun = begun i w c v mount is job ready;
    granted = λ x above below.
        room_less i (log_of w) (length (log_of w 0)) (length (log_of w 0)) v.intake.granted (x + 1) is.once (le_refl (length (log_of w 0)))
        (let g : x < v.intake.granted = claimed_granted claim.first v low none.claims reached x above below in omega arith);
    world = w;
    legal = mount;
    earlier = λ author. prefix_refl (log_of w author);
    block = block i w c v mount is job ready;
    out = media_is_out i w is.stands.beginning job.lba job.line job.at job.position mount is.stands.has_begun (slot i w c v mount is job ready);
    sector = same;
  }

-- ---- where no copy is under way

pub none_under_way : (i : Image) (logs : Logs) (copying : Bool) (pass : Part) (front : ℕ) → copying ≡ false → HasCopies i logs copying pass front
    → HasNoCopy pass front
none_under_way i logs copying pass front idle has = subst (λ b. HasCopies i logs b pass front) idle has

pub none_claimed : (i : Image) (logs : Logs) (copying : Bool) (pass : Part) (front : ℕ) → copying ≡ false → HasCopies i logs copying pass front
    → (x : ℕ) → front ≤ x → covers x pass.claims ≡ 0
none_claimed i logs copying pass front idle has = (none_under_way i logs copying pass front idle has).claims

-- ---- what was fetched

module _ (i : Image) (w : World) (c : Core) (v : View) (mount : IsLegalMount i w) (is : IsHeart i (log_of w) c v) (of : CopyPlace)
    (named : copy_of c ≡ Some of) where
  pub ready : IsCopyReady c of.job
  ready = ready_of c of named is.collects.passed

  abbrev pub its : IsBlockOfSlot i (log_of w) of.job.lba of.job.line of.job.at of.job.position
  its = block i w c v mount is of.job ready

  online : slice_get c.online.items of.job.line ≡ Some (online_now i (log_of w) of.job.line)
  online = here i w c of.job.lba of.job.line of.job.at of.job.position mount is.stands its

  place : ◌≡◌ {A = ℕ × ℕ} (its.unit, its.number) (of.unit, of.block)
  place = its_place i w c of.job.lba of.job.line of.job.at of.job.position mount is.stands its (of.unit, of.block)
      (ap (λ n. slice_get (line_order c.layout (units_in n)) of.job.at)
      (sym (get_or_from_slice_get c.online.items of.job.line (online_now i (log_of w) of.job.line) 0 online)) ∙ place_is c of named)

  -- by these logs the block at its place can be read
  pub readable : IsReadableAt i (log_of w) of.unit of.job.line of.block
  readable = subst (λ (p : ℕ × ℕ). IsReadableAt i (log_of w) p.0 of.job.line p.1) place
      (can_be_read i w c of.job.lba of.job.line of.job.at of.job.position mount is.stands its)

  -- and it is the block to which the sector's slot leads
  pub its_sector : (bytes : List ℕ) → IsFetched i (log_of w) of bytes → bytes ≡ its.block.sector
  its_sector bytes fetched = fetched.sector ∙ ap (λ (b : Block). b.sector) (sym same_block)
    where
      there : chunk_in (media i (log_of w)) of.job.line its.unit ≡ Some fetched.there.chunk
      there = ap (λ (p : ℕ × ℕ). chunk_in (media i (log_of w)) of.job.line p.0) place ∙ fetched.there.there

      same_chunk : its.chunk ≡ fetched.there.chunk
      same_chunk = same_Some its.chunk fetched.there.chunk (sym its.there ∙ there)

      same_block : its.block ≡ fetched.there.block
      same_block = same_Some its.block fetched.there.block (sym its.written
          ∙ ap₂ (λ (x : Chunk) n. slice_get x.blocks n) same_chunk (ap (λ (p : ℕ × ℕ). p.1) place) ∙ fetched.there.written)

-- ---- a heart whose copy was claimed

pub settled_claimed : (i : Image) (logs : Logs) (old new : Core) (v v' : View) → IsSettled i logs old v → Stands i logs new → Collects i logs new
    → new ≡ record old { collection = new.collection } → is_copying new ≡ true → v'.key ≡ v.key → v'.intake ≡ v.intake
    → IsClaimedCopy i logs v'.pass v.intake.taken → IsSettled i logs new v'
settled_claimed i logs old new v v' is stands collects rest copying key desk claimed = record {
  heart = record {
    stands = stands;
    collects = collects;
    own = subst (λ (k : Key). window.AreOf k.origin.region new.window.entries) (sym key)
        (subst (λ (x : window.WindowView). window.AreOf v.key.origin.region x.entries) (sym same) is.heart.own);
    took = ap (λ (d : Desk). d.took) desk ∙ is.heart.took;
    taken = ap (λ (d : Desk). d.taken) desk ∙ is.heart.taken ∙ sym (ap window.taken same);
    freed = ap (λ (d : Desk). d.freed) desk ∙ is.heart.freed ∙ sym (ap (λ (x : window.WindowView). x.freed) same);
    within = subst (λ (d : Desk). d.granted + units i.shape * i.shape.ws_opt ≤ d.freed + i.shape.ring) (sym desk) is.heart.within;
    last = subst (λ (d : Desk). d.granted ≤ max (2 ^ 61 - 2) (first_position (logs 0))) (sym desk) is.heart.last;
    once = subst (λ (d : Desk). WasRoom i logs (length (logs 0)) d.granted) (sym desk) is.heart.once;
    pads = λ some. subst (λ n. WasAsked i logs (length (logs 0)) n) (sym (ap pad_of rest))
        (is.heart.pads (subst (λ n. 0 < n) (ap pad_of rest) some));
    copies = subst (λ b. HasCopies i logs b v'.pass v'.intake.taken) (sym copying)
        (subst (λ (d : Desk). IsClaimedCopy i logs v'.pass d.taken) (sym desk) claimed);
    noted = is.heart.noted;
    in_order = is.heart.in_order;
    reasons = is.heart.reasons;
    left = is.heart.left;
  };
  none_to_free = is.none_to_free;
  drained = ap (λ (x : window.WindowView). x.freed) same ∙ is.drained;
  room = subst (λ (d : Desk). room i logs ≤ d.granted) (sym desk) is.room;
}
  where
    same : new.window ≡ old.window
    same = ap (λ (c : Core). c.window) rest

-- ---- one frame, filled with a copy

pub one_draft : (drafts : List Draft) (d : Draft) → drafts ≡ [] → drafts ++ d ∷ [] ≡ d ∷ []
one_draft drafts d none = ap (λ (xs : List Draft). xs ++ d ∷ []) none

abbrev pub claim_of : (job : CopyJob) (sector : List ℕ) (place : Place) (drafts : List Draft) (f : FrameView) (v v' : View)
    → drafts ≡ record { lba = job.lba; source = Some (record { line = job.line; at = job.at; position = job.position }); frame = f } ∷ []
    → f.bytes ≡ sector → HasPlace class.Copy drafts place v v' → v.found.claimed ≤ place.first → HasClaimed job sector v v'
claim_of job sector place drafts f v v' are bytes has past =
    let is = subst (λ (ds : List Draft). HasPlace class.Copy ds place v v') are has in
    record {
      first = place.first;
      past = past;
      put = is.put ∙ ap (λ (xs : List ℕ). record v.pass {
        claims = v.pass.claims ++ record { first = place.first; count = 1; copy = true } ∷ [];
        puts = v.pass.puts ++ copy_row job place.first xs ∷ [];
        next = place.first + 1;
        until = place.first + 1;
        copy = true;
      }) bytes;
      own = is.own;
    }
