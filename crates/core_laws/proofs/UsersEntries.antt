-- What a mount took: its positions are in order, and each mark names its own. Where no entry is a
-- copy, each is a user's with the mark of its sector.
use Rattle.std.proofs.Common.{◌≡◌, ℕ, ◌<◌, ◌≤◌, not, Bool, true, false, List, [], ◌∷◌, ◌++◌, refl, sym, subst, ap, ◌∙◌, append-nil}
use Rattle.std.specs.List.{AllByRecursion}
use Rattle.pblk_model.specs.declared.shape.Shape.{Shape}
use Rattle.pblk_model.specs.Image.{Image}
use Rattle.pblk_model.specs.Marks.{meta_lba}
use Rattle.pblk_world.specs.Events.{EngineEvent, Take, Event, Decides, Logged}
use Rattle.pblk_world.specs.World.{World, Logs, log_of}
use Rattle.pblk_world.specs.EngineLog.{Begun, Taken, takes}
use Rattle.pblk_world.specs.Fronts.{is_users}
use Rattle.pblk_world.specs.Legal.{IsLegal, IsDecision}
use Rattle.core_laws.specs.PlacedEntries.{AreSectorsOrVoid}
use Rattle.core_laws.specs.Positions.{AreNumbered, AreMarked, AreTaken}
use Rattle.pblk_world.specs.LegalMounts.{NoneCopied, decides, is_copying}
use Rattle.core_laws.proofs.TakenNumbers.{numbered_after}
use Rattle.core_laws.proofs.KeptPositions.{marked_after, named_after, taken_after}
use Rattle.core_laws.proofs.KeptByEvents.{IsKept, kept}
use Rattle.pblk_model.proofs.Lists.{all_append, all_imply, all_true}
use Rattle.pblk_world.proofs.EngineLogLemmas.{takes_more}
use Rattle.pblk_world.proofs.TakingLemmas.{users_mark}

-- the entry is a user's, with its sector's mark
pub record IsUsers (s : Shape) (t : Taken) : Type 0 where
  pub users : is_users t.entry.source ≡ true
  pub sector : t.mark.lba ≡ t.entry.lba
  pub lba : t.entry.lba < s.capacity

-- ---- positions are in order, and marks name them

pub record AreInOrder (s : Shape) (log : List Logged) : Type 0 where
  pub numbered : AreNumbered log
  pub marked : AreMarked log
  pub named : AreSectorsOrVoid s log
  pub taken : AreTaken s log

order_kept : (i : Image) → i.shape.capacity ≤ meta_lba → IsKept i (λ e. true) (AreInOrder i.shape)
order_kept i small = record {
  empty = record { numbered = refl; marked = tt; named = tt; taken = tt };
  first = λ known b knows may. record { numbered = refl; marked = tt; named = tt; taken = tt };
  next = λ known log beginning e knows begins own passes may was. record {
    numbered = numbered_after i known log beginning e knows begins own may was.numbered;
    marked = marked_after i known log beginning e knows may was.marked;
    named = named_after i known log beginning e knows may was.named;
    taken = taken_after i known log beginning e knows small begins own may was.numbered was.marked was.taken;
  };
}

pub in_order : (i : Image) (w : World) → i.shape.capacity ≤ meta_lba → IsLegal i w → AreInOrder i.shape (log_of w 0)
in_order i w small legal = kept i (λ e. true) (AreInOrder i.shape) (order_kept i small) w legal (all_true (log_of w 0))

-- ---- users' entries, where none is a copy

-- the event takes no copy
abbrev is_none : Event → Bool
is_none e = not (decides is_copying e)

users_next : (i : Image) (known : Logs) (log : List Logged) (beginning : Begun) (e : EngineEvent) (knows : List ℕ) → is_none (Decides e) ≡ true
    → IsDecision i known beginning e
    → AllByRecursion (IsUsers i.shape) (takes log) → AllByRecursion (IsUsers i.shape) (takes (log ++ record { event = Decides e; knows = knows } ∷ []))
users_next i known log beginning (Take entry mark) knows passes may was =
    let l : Logged = record { event = Decides (Take entry mark); knows = knows } in
    let users : is_users entry.source ≡ true = twice (is_users entry.source) passes in
    subst (AllByRecursion (IsUsers i.shape)) (sym (takes_more log l))
    (all_append (IsUsers i.shape) (takes log) (record { entry = entry; mark = mark } ∷ []) was
    (record { users = users; sector = users_mark i known entry mark entry.source users may.marked; lba = may.lba }, tt))
  where
    twice : (b : Bool) → not (not b) ≡ true → b ≡ true
    twice true e = refl
    twice false e = absurd cc
users_next i known log beginning e knows passes may was =
    let l : Logged = record { event = Decides e; knows = knows } in
    subst (AllByRecursion (IsUsers i.shape)) (sym (takes_more log l ∙ append-nil (takes log))) was

users_kept : (i : Image) → IsKept i is_none (λ log. AllByRecursion (IsUsers i.shape) (takes log))
users_kept i = record {
  empty = tt;
  first = λ known b knows may. tt;
  next = λ known log beginning e knows begins own passes may was. users_next i known log beginning e knows passes may was;
}

pub users_entries : (i : Image) (w : World) → IsLegal i w → NoneCopied (log_of w 0) → AllByRecursion (IsUsers i.shape) (takes (log_of w 0))
users_entries i w legal none = kept i is_none (λ log. AllByRecursion (IsUsers i.shape) (takes log)) (users_kept i) w legal
    (all_imply (λ (l : Logged). decides is_copying l.event ≡ false) (λ (l : Logged). is_none l.event ≡ true) (λ l e. ap not e) (log_of w 0) none)
