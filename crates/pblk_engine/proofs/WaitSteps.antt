-- What a look answers that waits for entries or for room.
use Rattle.std.proofs.Common.{◌≡◌, ℕ, ◌+◌, ◌<◌, ◌≤◌, Bool, true, false, Result, Ok, Err, List, [], ◌++◌, length, max}
use Rattle.std.proofs.Common.{refl, sym, subst, ap, ◌∙◌, append_assoc, le_trans}
use Rattle.std.specs.Prelude.{IsErrAnd, IsTrue}
use Rattle.std.proofs.Math.Seq.{take-length}
use Rattle.pblk_model.specs.Image.{Image}
use Rattle.pblk_world.specs.AtRest.{IsAtRest, IsWornFlush, IsWornWrite, logs_at}
use Rattle.pblk_world.specs.Events.{Logged}
use Rattle.pblk_world.specs.Fronts.{synced, taken}
use Rattle.pblk_world.specs.Reasons.{WasRoom}
use Rattle.pblk_world.specs.Space.{room}
use Rattle.pblk_world.specs.World.{Logs}
use Rattle.unit_port.specs.Unit.{ModelUnit}
use Rattle.chronicle.specs.Prefixes.{Prefixes, AreLegalLogs, ArePrefixes, logs_of}
use Rattle.chronicle.proofs.Rests.{still_begun}
use Rattle.pblk_engine.specs.Pumps.{GoesOn, HasPumped}
use Rattle.pblk_engine.specs.Waits.{HasFlushed, HasRoomed, WasBehind, WasFull, WentOn}
use Rattle.pblk_engine.specs.Workers.{Made, WorkerView}
use Rattle.pblk_engine.specs.declared.errors.DriveErr.{DriveErr}
use Rattle.pblk_engine.specs.declared.errors.SettleErr.{SettleErr}
use Rattle.pblk_engine.specs.declared.errors.SettleErr.TheVariants as errors
use Rattle.pblk_engine.specs.declared.outcomes.Did.{Did}
use Rattle.pblk_engine.specs.declared.outcomes.Role.TheVariants as roles
use Rattle.pblk_engine.specs.declared.outcomes.Flushed.{Flushed}
use Rattle.pblk_engine.specs.declared.outcomes.Flushed.TheVariants as flushed
use Rattle.pblk_engine.specs.declared.outcomes.Roomed.{Roomed}
use Rattle.pblk_engine.specs.declared.outcomes.Roomed.TheVariants as roomed
use Rattle.pblk_engine.proofs.GoingOn.{goes_then}
use Rattle.pblk_engine.proofs.PumpSteps.{tells_since}

-- ---- a worker that asked for pads

pub asked_or_same : (b : Bool) (old new : WorkerView) (to : ℕ) → (IsTrue b → new ≡ record old { asked = max old.asked to }) → (b ≡ false → new ≡ old)
    → new ≡ record old { asked = new.asked }
asked_or_same true old new to asks keeps =
    let is = asks refl in is ∙ ap (λ n. record old { asked = n }) (sym (ap (λ (w : WorkerView). w.asked) is))
asked_or_same false old new to asks keeps =
    let is = keeps refl in is ∙ ap (λ n. record old { asked = n }) (sym (ap (λ (w : WorkerView). w.asked) is))

pub went_asked : (old told asks : WorkerView) → GoesOn old told [] → asks ≡ record told { asked = asks.asked } → WentOn old asks []
went_asked old told asks first is = record {
  number = ap (λ (w : WorkerView). w.number) is ∙ first.number;
  keeps = subst (ArePrefixes old.known) (sym (ap (λ (w : WorkerView). w.known) is)) first.keeps;
  made = ap (λ (w : WorkerView). w.made) is ∙ first.made;
}

went_then : (a b c : WorkerView) (xs : List Made) → WentOn a b [] → GoesOn b c xs → WentOn a c xs
went_then a b c xs first second = record {
  number = second.number ∙ first.number;
  keeps = still_begun a.known b.known c.known first.keeps second.keeps;
  made = second.made ∙ ap (λ ms. ms ++ xs) first.made ∙ append_assoc a.made [] xs;
}

-- ---- flushes

module _ (i : Image) (handed : List ModelUnit) (position : ℕ) (old mid : WorkerView) (on : WentOn old mid []) (k : Prefixes) (known : mid.known ≡ k) where
  pub worn_flush : (have : ℕ) → IsAtRest i (logs_of k) position (length (logs_of k 0)) → have < position → have ≡ synced i.shape (logs_of k 0)
      → position ≤ taken (logs_of k 0) → HasFlushed i handed position old mid (Err (errors.Worn position have))
  worn_flush have rest above is all = record {
    more = [];
    on = on;
    tells = (
      refl,
      refl,
      subst (λ (p : Prefixes). IsWornFlush i (logs_of p) (length (logs_of p 0)) position have) (sym known) (record {
        at_rest = rest;
        above = above;
        is_synced = is ∙ ap (synced i.shape) (sym (take-length (logs_of k 0)));
        all_taken = subst (λ (log : List Logged). position ≤ taken log) (sym (take-length (logs_of k 0))) all;
      }),
    );
  }

  module _ (legal : AreLegalLogs i k) (behind : synced i.shape (logs_of k 0) < position) (new : WorkerView) where
    was_behind : ArePrefixes mid.known new.known → WasBehind i position new.known
    was_behind keeps = record { looked = k; legal = legal; within = subst (λ (p : Prefixes). ArePrefixes p new.known) known keeps; behind = behind }

    pub flush_pumped : (did : Did) → HasPumped i handed roles.All mid new (Ok did) → HasFlushed i handed position old new (Ok (flushed.Pumped did))
    flush_pumped did is = record {
      more = is.more;
      on = went_then old mid new is.more on is.on;
      tells = (was_behind is.on.keeps, tells_since i handed roles.All old.known mid.known new.known is.more (Ok did) on.keeps is.tells);
    }

    pub flush_lost : (e : DriveErr) (result : Result Flushed SettleErr) → IsErrAnd result (λ w. w ≡ errors.Drive e.unit e.event)
        → HasPumped i handed roles.All mid new (Err e) → HasFlushed i handed position old new result
    flush_lost e (Ok x) made is = absurd made
    flush_lost e (Err w) made is = subst (λ (x : SettleErr). HasFlushed i handed position old new (Err x)) (sym made) (record {
      more = is.more;
      on = went_then old mid new is.more on is.on;
      tells = (was_behind is.on.keeps, is.tells);
    })

-- ---- room

room_less : (i : Image) (logs : Logs) (n upto less : ℕ) → less ≤ upto → WasRoom i logs n upto → WasRoom i logs n less
room_less i logs n upto less few is =
    record { at = is.at; has_begun = is.has_begun; within = is.within; room = le_trans few is.room }

module _ (i : Image) (handed : List ModelUnit) (wanted count : ℕ) (old mid : WorkerView) (on : GoesOn old mid []) (k : Prefixes) (known : mid.known ≡ k) where
  pub room_there : (granted : ℕ) → WasRoom i (logs_of k) (length (logs_of k 0)) granted → wanted ≤ granted
      → HasRoomed i handed wanted count old mid (Ok roomed.There)
  room_there granted once enough = record {
    more = [];
    on = on;
    tells = (
      refl,
      subst (λ (p : Prefixes). WasRoom i (logs_of p) (length (logs_of p 0)) wanted) (sym known)
          (room_less i (logs_of k) (length (logs_of k 0)) granted wanted enough once),
    );
  }

  pub worn_room : (have : ℕ) → IsAtRest i (logs_of k) 0 (length (logs_of k 0)) → have < wanted → room i (logs_at (length (logs_of k 0)) (logs_of k)) ≤ have
      → wanted ≤ taken (logs_of k 0) + count → WasRoom i (logs_of k) (length (logs_of k 0)) have
      → HasRoomed i handed wanted count old mid (Err (errors.Worn wanted have))
  worn_room have rest above full own once = record {
    more = [];
    on = on;
    tells = (
      refl,
      refl,
      subst (λ (p : Prefixes). IsWornWrite i (logs_of p) (length (logs_of p 0)) count wanted have) (sym known) (record {
        at_rest = rest;
        above = above;
        room = full;
        own_count = subst (λ (log : List Logged). wanted ≤ taken log + count) (sym (take-length (logs_of k 0))) own;
      }),
      subst (λ (p : Prefixes). WasRoom i (logs_of p) (length (logs_of p 0)) have) (sym known) once,
    );
  }

  module _ (legal : AreLegalLogs i k) (full : room i (logs_of k) < wanted) (new : WorkerView) where
    was_full : ArePrefixes mid.known new.known → WasFull i wanted new.known
    was_full keeps = record { looked = k; legal = legal; within = subst (λ (p : Prefixes). ArePrefixes p new.known) known keeps; full = full }

    pub room_pumped : (did : Did) → HasPumped i handed roles.All mid new (Ok did) → HasRoomed i handed wanted count old new (Ok (roomed.Pumped did))
    room_pumped did is = record {
      more = is.more;
      on = goes_then old mid new [] is.more on is.on;
      tells = (was_full is.on.keeps, tells_since i handed roles.All old.known mid.known new.known is.more (Ok did) on.keeps is.tells);
    }

    pub room_lost : (e : DriveErr) (result : Result Roomed SettleErr) → IsErrAnd result (λ w. w ≡ errors.Drive e.unit e.event)
        → HasPumped i handed roles.All mid new (Err e) → HasRoomed i handed wanted count old new result
    room_lost e (Ok x) made is = absurd made
    room_lost e (Err w) made is = subst (λ (x : SettleErr). HasRoomed i handed wanted count old new (Err x)) (sym made) (record {
      more = is.more;
      on = goes_then old mid new [] is.more on is.on;
      tells = (was_full is.on.keeps, is.tells);
    })
