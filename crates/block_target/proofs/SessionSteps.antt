-- A session once a call of it has ended.
use Rattle.std.proofs.Common.{◌≡◌, ℕ, ◌+◌, ◌<◌, ◌≤◌, ◌^◌, cond, Some, List, [], ◌∷◌, ◌++◌, length, refl, sym, ap, ap₂, subst, ◌∙◌, arith, le_refl, le_trans, append-nil}
use Rattle.std.specs.Prelude.{map}
use Rattle.std.specs.List.{filter, flat_map}
use Rattle.std.proofs.lemmas.List.{map-append}
use Rattle.pblk_model.proofs.Maps.{filter_both}
use Rattle.std.proofs.Math.Seq.{take-length}
use Rattle.pblk_model.specs.Image.{Image}
use Rattle.pblk_world.specs.AtRest.{IsWornFlush}
use Rattle.pblk_world.specs.Events.{Logged}
use Rattle.pblk_world.specs.Fronts.{first_position, synced, taken}
use Rattle.pblk_world.specs.World.{Logs}
use Rattle.pblk_world.proofs.SyncedFront.{synced_within}
use Rattle.core_laws.specs.Positions.{AreNumbered}
use Rattle.pblk_core.proofs.SmallCalls.{numbered_in}
use Rattle.pblk_core.proofs.SmallPositions.{taken_bounded}
use Rattle.world_laws.proofs.Begun.{first_is as first_of}
use Rattle.pblk_model.specs.declared.run.Front.{Front}
use Rattle.scan_recovery.specs.DriveFaults.{is_drive_fault}
use Rattle.unit_port.specs.Unit.{ModelUnit}
use Rattle.write_ring.specs.Steps.{LieBelow}
use Rattle.write_ring.specs.declared.view.Key.{Key}
use Rattle.write_ring.specs.declared.view.Part.{Part}
use Rattle.chronicle.specs.Prefixes.{AreLegalLogs, ArePrefixes, Prefixes, logs_of}
use Rattle.chronicle.specs.Views.{Past}
use Rattle.pblk_engine.specs.Looks.{front_synced}
use Rattle.pblk_engine.specs.Mounts.{IsMounted}
use Rattle.pblk_engine.specs.Pumps.{IsFaultOf, NoFaults}
use Rattle.pblk_engine.specs.Workers.{Made, WorkerView}
use Rattle.pblk_engine.specs.declared.errors.DriveErr.{DriveErr}
use Rattle.pblk_engine.proofs.Accepted.{begun_known}
use Rattle.pblk_engine.proofs.Knowledge.{mount_of}
use Rattle.block_port.specs.Own.{OwnWrite, lines_of}
use Rattle.block_port.specs.Port.{IsFront, IsSameTarget, IsSeen, Learns}
use Rattle.block_port.specs.declared.rows.DriveAnswer.{DriveAnswer}
use Rattle.block_port.specs.declared.rows.WornAnswer.{WornAnswer}
use Rattle.block_target.specs.Refusals.{IsRefusal, IsWriteRefusal}
use Rattle.block_target.specs.Sessions.{EndBelow, IsPassOfOwn, IsSession, PlacesRise, SessionView, WasRefused, WereRefused, answer_to, claim_of, device, faults_of, row_of}
use Rattle.block_target.proofs.LogLines.{more_lines, synced_prefix, users_counted}
use Rattle.block_target.proofs.OwnClaims.{end_below, ends_later, ends_more, pass_more, rise_more, written_more}
use Rattle.block_target.proofs.WornAnswers.{all_claimed, all_later, all_written, refused_more, refused_now}

-- ---- what a worker knows

module _ (past : Past) (key : Key) (handed : List ModelUnit) (wear : List (List ℕ)) (m : IsMounted past key handed wear) where
  pub numbered : (known : Prefixes) → AreLegalLogs past.image known → AreNumbered (logs_of known 0)
  numbered known legal =
      subst (λ (logs : Logs). AreNumbered (logs 0)) legal.logs
      (numbered_in past.image legal.world (mount_of past.image known legal m.accepted m.fit))

  pub taken_small : (known : Prefixes) → AreLegalLogs past.image known → ArePrefixes past.logs known → key.first ≤ 2 ^ 62
      → taken (logs_of known 0) ≤ 2 ^ 62
  taken_small known legal since low =
      let first : first_position (logs_of known 0) ≡ m.beginning.beginning.first =
      first_of (logs_of known 0) m.beginning (begun_known past key handed wear known m since) in
      let key_first : key.first ≡ m.beginning.beginning.first = m.first in
      let below : first_position (logs_of known 0) ≤ 2 ^ 62 = omega arith in
      subst (λ (logs : Logs). taken (logs 0) ≤ 2 ^ 62) legal.logs
      (taken_bounded past.image legal.world (mount_of past.image known legal m.accepted m.fit)
      (subst (λ (logs : Logs). first_position (logs 0) ≤ 2 ^ 62) (sym legal.logs) below))

  -- what a session learns of the device
  pub learns : (old new : SessionView) → AreLegalLogs past.image new.worker.known → ArePrefixes past.logs old.worker.known
      → ArePrefixes old.worker.known new.worker.known → Learns (device past handed wear old) (device past handed wear new)
  learns old new legal since keeps =
      let more = more_lines (logs_of old.worker.known 0) (logs_of new.worker.known 0) m.beginning (keeps.each 0)
      (begun_known past key handed wear old.worker.known m since) (numbered new.worker.known legal) in
      record {
        more = more.more;
        known = more.lines;
        rise = more.rise;
        flushed = synced_prefix past.image.shape (logs_of old.worker.known 0) (logs_of new.worker.known 0) (keeps.each 0);
      }

  -- the front synced is one
  pub synced_front : (s : SessionView) → IsFront (device past handed wear s) (front_synced past.image.shape (logs_of s.worker.known 0))
  synced_front s = record {
    known = synced_within past.image.shape (logs_of s.worker.known 0);
    users = sym (users_counted (logs_of s.worker.known 0) (synced past.image.shape (logs_of s.worker.known 0)));
  }

  pub synced_seen : (old new : SessionView) (f : Front) (position : ℕ) → f ≡ front_synced past.image.shape (logs_of new.worker.known 0)
      → position ≤ f.position → old.seen ≤ position → new.seen ≡ f.position → IsSeen f (device past handed wear old) (device past handed wear new)
  synced_seen old new f position is enough holds seen = record {
    is = subst (IsFront (device past handed wear new)) (sym is) (synced_front new);
    holds = le_trans holds enough;
    seen = seen;
  }

  pub synced_small : (known : Prefixes) (f : Front) → AreLegalLogs past.image known → ArePrefixes past.logs known → key.first ≤ 2 ^ 62
      → f ≡ front_synced past.image.shape (logs_of known 0) → f.position < 2 ^ 63
  synced_small known f legal since low is =
      let at : f.position ≡ synced past.image.shape (logs_of known 0) = ap (λ (x : Front). x.position) is in
      let below : synced past.image.shape (logs_of known 0) ≤ taken (logs_of known 0) = synced_within past.image.shape (logs_of known 0) in
      let small : taken (logs_of known 0) ≤ 2 ^ 62 = taken_small known legal since low in
      omega arith

-- it stays a port of the same target, with its worker's number
pub same_target : (past : Past) (handed : List ModelUnit) (wear : List (List ℕ)) (old new : SessionView) → new.worker.number ≡ old.worker.number
    → IsSameTarget (device past handed wear old) (device past handed wear new)
same_target past handed wear old new same = record {
  start = refl;
  capacity = refl;
  sector = refl;
  footing = ap (λ n. Some (record { handed = handed; image = past.image; wear = wear; seat = n })) same;
}

-- ---- the commands that were lost

pub none_lost : (more : List Made) → NoFaults more → filter (λ (m : Made). is_drive_fault m.event) more ≡ []
none_lost [] none = refl
none_lost (m ∷ more) none =
    ap (λ b. cond b (m ∷ filter (λ (m : Made). is_drive_fault m.event) more) (filter (λ (m : Made). is_drive_fault m.event) more)) none.0
    ∙ none_lost more none.1

pub faults_both : (handed : List ModelUnit) (made more : List Made) → faults_of handed (made ++ more) ≡ faults_of handed made ++ faults_of handed more
faults_both handed made more =
    ap (map (answer_to handed)) (filter_both (λ (m : Made). is_drive_fault m.event) made more)
    ∙ map-append (answer_to handed) (filter (λ (m : Made). is_drive_fault m.event) made) (filter (λ (m : Made). is_drive_fault m.event) more)

faults_none : (handed : List ModelUnit) (made more : List Made) → NoFaults more → faults_of handed (made ++ more) ≡ faults_of handed made
faults_none handed made more none =
    faults_both handed made more
    ∙ ap (λ (ms : List Made). faults_of handed made ++ map (answer_to handed) ms) (none_lost more none)
    ∙ append-nil (faults_of handed made)

pub faults_one : (handed : List ModelUnit) (more : List Made) (e : DriveErr) → IsFaultOf handed more e
    → faults_of handed more ≡ record { unit = e.unit; event = e.event } ∷ []
faults_one handed more e is =
    ap (faults_of handed) is.all ∙ faults_both handed is.others (is.last ∷ [])
    ∙ ap₂ (λ (ms ns : List Made). map (answer_to handed) ms ++ map (answer_to handed) ns) (none_lost is.others is.none)
    (ap (λ b. cond b (is.last ∷ []) []) is.lost)
    ∙ ap₂ (λ u n. record { unit = u; event = n } ∷ []) (sym is.unit) (sym is.number)

faults_then : (handed : List ModelUnit) (made more : List Made) (e : DriveErr) → IsFaultOf handed more e
    → faults_of handed (made ++ more) ≡ faults_of handed made ++ record { unit = e.unit; event = e.event } ∷ []
faults_then handed made more e is =
    faults_both handed made more ∙ ap (λ (fs : List DriveAnswer). faults_of handed made ++ fs) (faults_one handed more e is)

-- ---- a session later

-- its worker went on
pub record IsStep (past : Past) (old new : WorkerView) (more : List Made) : Type 0 where
  pub legal : AreLegalLogs past.image old.known
  pub keeps : ArePrefixes old.known new.known
  pub made : new.made ≡ old.made ++ more

faults_kept : (past : Past) (handed : List ModelUnit) (old new : SessionView) (more : List Made) → IsStep past old.worker new.worker more → NoFaults more
    → old.faults ≡ faults_of handed old.worker.made → new.faults ≡ old.faults → new.faults ≡ faults_of handed new.worker.made
faults_kept past handed old new more step none were same =
    same ∙ were ∙ sym (ap (faults_of handed) step.made ∙ faults_none handed old.worker.made more none)

worns_kept : (past : Past) (old new : SessionView) (more : List Made) → IsStep past old.worker new.worker more
    → WereRefused past.image (logs_of old.worker.known) old.own old.found.claimed 0 old.worns → new.own ≡ old.own
    → old.found.claimed ≤ new.found.claimed → WereRefused past.image (logs_of new.worker.known) new.own new.found.claimed 0 old.worns
worns_kept past old new more step were own claimed =
    subst (λ (ws : List OwnWrite). WereRefused past.image (logs_of new.worker.known) ws new.found.claimed 0 old.worns) (sym own)
    (all_later past.image old.worker.known new.worker.known old.own old.found.claimed new.found.claimed 0 old.worns step.legal step.keeps claimed were)

part_kept : (old new : SessionView) → new.own ≡ old.own → new.part ≡ old.part → IsPassOfOwn old.own old.part → IsPassOfOwn new.own new.part
part_kept old new own part is =
    subst (λ (ws : List OwnWrite). IsPassOfOwn ws new.part) (sym own) (subst (λ (p : Part). IsPassOfOwn old.own p) (sym part) is)

-- no write more, and no command was lost
pub session_seen : (past : Past) (handed : List ModelUnit) (count : ℕ) (old new : SessionView) (more : List Made) → IsSession past handed count old
    → IsStep past old.worker new.worker more → NoFaults more → new.own ≡ old.own → new.part ≡ old.part → new.faults ≡ old.faults → new.worns ≡ old.worns
    → old.seen ≤ new.seen → new.seen < 2 ^ 63 → old.found.claimed ≤ new.found.claimed → IsSession past handed count new
session_seen past handed count old new more is step none own part faults worns rises small claimed = record {
  part = part_kept old new own part is.part;
  small = small;
  past_own = subst (EndBelow new.seen) (sym own) (ends_later old.seen new.seen old.own rises is.past_own);
  rising = subst PlacesRise (sym own) is.rising;
  written = is.written ∙ ap (λ (ws : List OwnWrite). length (flat_map lines_of ws)) (sym own);
  faults = faults_kept past handed old new more step none is.faults faults;
  worns = subst (WereRefused past.image (logs_of new.worker.known) new.own new.found.claimed 0) (sym worns)
      (worns_kept past old new more step is.worns own claimed);
}

-- a command was lost, which the call told
pub session_lost : (past : Past) (handed : List ModelUnit) (count : ℕ) (old new : SessionView) (more : List Made) (e : DriveErr)
    → IsSession past handed count old
    → IsStep past old.worker new.worker more → IsFaultOf handed more e → new.own ≡ old.own → new.part ≡ old.part
    → new.faults ≡ old.faults ++ record { unit = e.unit; event = e.event } ∷ [] → new.worns ≡ old.worns
    → new.seen ≡ old.seen → old.found.claimed ≤ new.found.claimed → IsSession past handed count new
session_lost past handed count old new more e is step lost own part faults worns seen claimed = record {
  part = part_kept old new own part is.part;
  small = (let small : old.seen < 2 ^ 63 = is.small in omega arith);
  past_own = subst (EndBelow new.seen) (sym own) (ends_later old.seen new.seen old.own (omega arith) is.past_own);
  rising = subst PlacesRise (sym own) is.rising;
  written = is.written ∙ ap (λ (ws : List OwnWrite). length (flat_map lines_of ws)) (sym own);
  faults = faults ∙ ap (λ (fs : List DriveAnswer). fs ++ record { unit = e.unit; event = e.event } ∷ []) is.faults
      ∙ sym (ap (faults_of handed) step.made ∙ faults_then handed old.worker.made more e lost);
  worns = subst (WereRefused past.image (logs_of new.worker.known) new.own new.found.claimed 0) (sym worns)
      (worns_kept past old new more step is.worns own claimed);
}

-- a call was refused for want of room
pub session_worn : (past : Past) (handed : List ModelUnit) (count : ℕ) (old new : SessionView) (more : List Made) (a : WornAnswer)
    → IsSession past handed count old
    → IsStep past old.worker new.worker more → NoFaults more → new.own ≡ old.own → new.part ≡ old.part
    → new.faults ≡ old.faults → new.worns ≡ old.worns ++ a ∷ [] → new.seen ≡ old.seen
    → a.written ≡ count → old.seen ≤ taken (logs_of new.worker.known 0)
    → IsRefusal past.image (logs_of new.worker.known) (length (logs_of new.worker.known 0)) a.count a.wanted a.have
    → old.found.claimed ≤ new.found.claimed → taken (logs_of new.worker.known 0) ≤ new.found.claimed → IsSession past handed count new
session_worn past handed count old new more a is step none own part faults worns seen written all cause claimed most = record {
  part = part_kept old new own part is.part;
  small = (let small : old.seen < 2 ^ 63 = is.small in omega arith);
  past_own = subst (EndBelow new.seen) (sym own) (ends_later old.seen new.seen old.own (omega arith) is.past_own);
  rising = subst PlacesRise (sym own) is.rising;
  written = is.written ∙ ap (λ (ws : List OwnWrite). length (flat_map lines_of ws)) (sym own);
  faults = faults_kept past handed old new more step none is.faults faults;
  worns = subst (WereRefused past.image (logs_of new.worker.known) new.own new.found.claimed 0) (sym worns)
      (refused_more past.image (logs_of new.worker.known) new.own new.found.claimed 0 old.worns a (omega arith)
      (worns_kept past old new more step is.worns own claimed) now);
}
  where
    now : WasRefused past.image (logs_of new.worker.known) new.own new.found.claimed (length (logs_of new.worker.known 0)) a
    now = refused_now past.image (logs_of new.worker.known) new.own new.found.claimed a
        (written ∙ is.written ∙ ap (λ (ws : List OwnWrite). length (flat_map lines_of ws)) (sym own))
        (subst (EndBelow (taken (logs_of new.worker.known 0))) (sym own)
        (ends_later old.seen (taken (logs_of new.worker.known 0)) old.own all is.past_own)) most cause

-- what a write that was placed leaves
pub record IsPlaced (old new : SessionView) (w : OwnWrite) : Type 0 where
  pub own : new.own ≡ old.own ++ w ∷ []
  pub some : 1 ≤ w.place.count
  pub whole : length w.sectors ≡ w.place.count
  pub apart : LieBelow w.place.first old.part.claims
  pub shares : new.part.shares ≡ old.part.shares
  pub claims : new.part.claims ≡ old.part.claims ++ claim_of w ∷ []
  pub puts : new.part.puts ≡ old.part.puts ++ map row_of (lines_of w)
  pub faults : new.faults ≡ old.faults
  pub worns : new.worns ≡ old.worns
  pub rises : old.seen ≤ new.seen
  pub passed : w.place.first + w.place.count ≤ new.seen
  pub small : new.seen < 2 ^ 63
  -- it lies past all that had been claimed
  pub claimed : old.found.claimed ≤ w.place.first
  pub finds : old.found.claimed ≤ new.found.claimed

pub session_written : (past : Past) (handed : List ModelUnit) (before count : ℕ) (old new : SessionView) (more : List Made) (w : OwnWrite)
    → IsSession past handed before old → IsStep past old.worker new.worker more → NoFaults more → IsPlaced old new w → count ≡ before + w.place.count
    → IsSession past handed count new
session_written past handed before count old new more w is step none p counted = record {
  part = subst (λ (ws : List OwnWrite). IsPassOfOwn ws new.part) (sym p.own)
      (pass_more old.own w old.part new.part is.part p.some p.whole p.shares p.claims p.puts);
  small = p.small;
  past_own = subst (EndBelow new.seen) (sym p.own)
      (ends_more new.seen old.own w (ends_later old.seen new.seen old.own p.rises is.past_own) p.passed);
  rising = subst PlacesRise (sym p.own)
      (rise_more old.own w is.rising (end_below w.place.first old.own is.part.whole
      (subst (λ cs. LieBelow w.place.first cs) is.part.claims p.apart)));
  written = counted ∙ ap (λ n. n + w.place.count) is.written ∙ sym (written_more old.own w w.place.count p.whole)
      ∙ ap (λ (ws : List OwnWrite). length (flat_map lines_of ws)) (sym p.own);
  faults = faults_kept past handed old new more step none is.faults p.faults;
  worns = subst (λ (rs : List WornAnswer). WereRefused past.image (logs_of new.worker.known) new.own new.found.claimed 0 rs) (sym p.worns)
      (subst (λ (ws : List OwnWrite). WereRefused past.image (logs_of new.worker.known) ws new.found.claimed 0 old.worns) (sym p.own)
      (all_claimed past.image (logs_of new.worker.known) (old.own ++ w ∷ []) old.found.claimed new.found.claimed 0 old.worns p.finds
      (all_written past.image (logs_of new.worker.known) old.own (w ∷ []) old.found.claimed 0 old.worns (p.claimed, tt)
      (all_later past.image old.worker.known new.worker.known old.own old.found.claimed old.found.claimed 0 old.worns step.legal step.keeps
      (le_refl old.found.claimed) is.worns))));
}

-- only how far positions are claimed was found anew
pub session_found : (past : Past) (handed : List ModelUnit) (count : ℕ) (old new : SessionView) → IsSession past handed count old
    → new ≡ record old { found = new.found } → old.found.claimed ≤ new.found.claimed → IsSession past handed count new
session_found past handed count old new is same claimed =
    subst (IsSession past handed count) (sym same) (record {
      part = is.part;
      small = is.small;
      past_own = is.past_own;
      rising = is.rising;
      written = is.written;
      faults = is.faults;
      worns = all_claimed past.image (logs_of old.worker.known) old.own old.found.claimed new.found.claimed 0 old.worns claimed is.worns;
    })

-- all that a flush wanted was taken, where it is refused
pub worn_taken : (i : Image) (known : Prefixes) (wanted have : ℕ) → IsWornFlush i (logs_of known) (length (logs_of known 0)) wanted have
    → wanted ≤ taken (logs_of known 0)
worn_taken i known wanted have is = subst (λ (log : List Logged). wanted ≤ taken log) (take-length (logs_of known 0)) is.all_taken

-- and all below what a write was to begin at, where that is all that was claimed
pub room_taken : (i : Image) (known : Prefixes) (count claimed wanted have : ℕ) → wanted ≡ claimed + count
    → IsWriteRefusal i (logs_of known) (length (logs_of known 0)) count wanted have → claimed ≡ taken (logs_of known 0)
room_taken i known count claimed wanted have same is =
    let most : wanted ≡ taken (logs_of known 0) + count =
    is.own_count ∙ ap (λ (log : List Logged). taken log + count) (take-length (logs_of known 0)) in
    omega arith
