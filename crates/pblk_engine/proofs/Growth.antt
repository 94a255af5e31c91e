-- A heart stands for what its author knows, however much more of the units that is.
use Rattle.std.proofs.Common.{◌≡◌, ℕ, ◌+◌, ◌-◌, ◌^◌, ◌<◌, ◌≤◌, max, Bool, true, false, List, length, map, sym, subst, ap, ◌∙◌}
use Rattle.std.specs.Prelude.{slice_get}
use Rattle.std.specs.List.{Contains}
use mathlib.Core.List.{IsPrefix}
use base.Growing.{prefix_trans}
use Rattle.pblk_model.specs.Accepted.{IsAccepted}
use Rattle.pblk_model.specs.Image.{Image, IsFit}
use Rattle.pblk_world.specs.AtRest.{AreResetsNoted, logs_at}
use Rattle.pblk_world.specs.EngineLog.{takes}
use Rattle.pblk_world.specs.Events.{Logged}
use Rattle.pblk_world.specs.Fronts.{first_position}
use Rattle.pblk_world.specs.Reasons.{WasAsked, WasBegun, WasRoom}
use Rattle.pblk_world.specs.Space.{freed}
use Rattle.pblk_world.specs.World.{World, Logs, log_of}
use Rattle.pblk_world.specs.LegalMounts.{IsLegalMount}
use Rattle.world_laws.specs.SameTold.{AreSameNamed, AreSameTold}
use Rattle.world_laws.proofs.GrownLogs.{IsBegunIn, asked_named, at_named, copies_named, granted_named, order_named, room_named, stripes_named}
use Rattle.world_laws.proofs.ToldTables.{room_told}
use Rattle.core_laws.proofs.ToldSpent.{none_told}
use Rattle.write_ring.specs.declared.view.Part.{Part}
use Rattle.write_ring.specs.declared.view.View.{View}
use Rattle.pblk_core.specs.Copies.{is_copying}
use Rattle.pblk_core.specs.Named.{pad_of}
use Rattle.pblk_core.specs.declared.target_core.Core.{Core}
use Rattle.pblk_core.proofs.StandsTold.{collects_told, stands_told}
use Rattle.chronicle.specs.Prefixes.{Prefixes, AreLegalLogs, ArePrefixes, logs_of}
use Rattle.pblk_engine.proofs.HeartBut.{IsHeartBut, but_notes, with_notes}
use Rattle.pblk_engine.proofs.Knowledge.{grown_named, grown_told, mount_of}
use Rattle.pblk_engine.specs.Hearts.{HasCopies, IsHeart, IsLeft, IsOut, IsSettled, ring_row}

module _ (i : Image) (a b : Logs) (told : AreSameTold i a b) (named : AreSameNamed a b) (longer : (author : ℕ) → IsPrefix (a author) (b author)) where
  left_grows : IsLeft i a → IsLeft i b
  left_grows is = record {
    left = is.left;
    legal = is.legal;
    named = record {
      own = is.named.own ∙ sym named.own;
      named = λ unit l there.
          let before : Contains (a 0) l = subst (λ (log : List Logged). Contains log l) named.own there in
          is.named.named unit l before ∙ sym (named.named unit l before);
    };
    whole = ap (λ (log : List Logged). logs_at (length log) b) named.own ∙ at_named a b (length (a 0)) named ∙ is.whole;
  }

  pub copies_grow : (copying : Bool) (pass : Part) (taken : ℕ) → HasCopies i a copying pass taken → HasCopies i b copying pass taken
  copies_grow false pass taken none = none
  copies_grow true pass taken is =
      let was : WasBegun i a (length (a 0)) is.row.lba is.source = is.begun in
      let there : IsBegunIn i is.row.lba is.source (logs_at was.at b) =
      subst (IsBegunIn i is.row.lba is.source) (sym (at_named a b was.at named)) (was.due, was.line, was.latest) in
      record {
        row = is.row;
        put = is.put;
        from = is.from;
        only = is.only;
        only_put = is.only_put;
        source = is.source;
        is_source = is.is_source;
        begun = record {
          at = is.begun.at;
          has_begun = is.begun.has_begun;
          within = subst (λ (log : List Logged). is.begun.at ≤ length log) (sym named.own) is.begun.within;
          due = there.0;
          line = there.1;
          latest = there.2;
          alone = λ k l from below at.
              is.begun.alone k l from (subst (λ (log : List Logged). k < length log) named.own below)
              (ap (λ (log : List Logged). slice_get log k) (sym named.own) ∙ at);
          granted = λ k knows entry mark from below at users.
              room_named i a b named is.begun.at (entry.position + 1)
              (is.begun.granted k knows entry mark from (subst (λ (log : List Logged). k < length log) named.own below)
              (ap (λ (log : List Logged). slice_get log k) (sym named.own) ∙ at) users);
        };
        granted = λ x from below. room_named i a b named is.begun.at (x + 1) (is.granted x from below);
        world = is.world;
        legal = is.legal;
        beginning = is.beginning;
        has_begun = is.has_begun;
        earlier = λ author. prefix_trans (log_of is.world author) (a author) (b author) (is.earlier author) (longer author);
        block = is.block;
        out = subst (λ (log : List Logged). IsOut i.shape log is.source.position) (sym named.own) is.out;
        sector = is.sector;
      }

  -- whether or not each reset is noted
  pub but_grows : (c : Core) (v : View) → IsHeartBut i a c v → IsHeartBut i b c v
  but_grows c v is = record {
    stands = stands_told i a b told c is.stands;
    collects = collects_told i a b told c is.collects;
    own = is.own;
    took = is.took ∙ sym (ap (λ (log : List Logged). map ring_row (takes log)) named.own);
    taken = is.taken;
    freed = is.freed;
    within = is.within;
    last = subst (λ (log : List Logged). v.intake.granted ≤ max (2 ^ 61 - 2) (first_position log)) (sym named.own) is.last;
    once = subst (λ (log : List Logged). WasRoom i b (length log) v.intake.granted) (sym named.own)
        (room_named i a b named (length (a 0)) v.intake.granted is.once);
    pads = λ some. subst (λ (log : List Logged). WasAsked i b (length log) (pad_of c)) (sym named.own)
        (asked_named i a b named (length (a 0)) (pad_of c) (is.pads some));
    copies = copies_grow (is_copying c) v.pass v.intake.taken is.copies;
    in_order = order_named i a b named is.in_order;
    reasons = record {
      granted = granted_named i a b named is.reasons.granted;
      begun = copies_named i a b named is.reasons.begun;
      urgent = stripes_named i a b named is.reasons.urgent;
    };
    left = left_grows is.left;
  }

  pub heart_grows : AreResetsNoted b → (c : Core) (v : View) → IsHeart i a c v → IsHeart i b c v
  heart_grows noted c v is = with_notes i b c v (but_grows c v (but_notes i a c v is)) noted

-- by worlds
module _ (i : Image) (w other : World) (mount : IsLegalMount i w) (grown : IsLegalMount i other) (told : AreSameTold i (log_of w) (log_of other))
    (named : AreSameNamed (log_of w) (log_of other)) (longer : (author : ℕ) → IsPrefix (log_of w author) (log_of other author))
    (noted : AreResetsNoted (log_of other)) where
  pub settled_grows : (c : Core) (v : View) → IsSettled i (log_of w) c v → IsSettled i (log_of other) c v
  settled_grows c v is = record {
    heart = heart_grows i (log_of w) (log_of other) told named longer noted c v is.heart;
    none_to_free = none_told i w other is.heart.stands.beginning mount grown is.heart.stands.has_begun is.heart.stands.full told is.none_to_free;
    drained = is.drained ∙ sym (ap (λ (log : List Logged). freed i.shape log) named.own);
    room = subst (λ n. n ≤ v.intake.granted) (sym (room_told i (log_of w) (log_of other) told)) is.room;
  }

-- by what an author knows, and met
pub settled_met : (i : Image) (known more : Prefixes) → IsAccepted i.shape → IsFit i → AreLegalLogs i known → AreLegalLogs i more
    → ArePrefixes known more → logs_of more 0 ≡ logs_of known 0 → AreResetsNoted (logs_of more) → (c : Core) (v : View)
    → IsSettled i (logs_of known) c v → IsSettled i (logs_of more) c v
settled_met i known more accepted fit k l keeps own noted c v is =
    subst (λ (logs : Logs). IsSettled i logs c v) l.logs
    (settled_grows i k.world l.world (mount_of i known k accepted fit) (mount_of i more l accepted fit)
    (subst (λ (p : Logs × Logs). AreSameTold i p.0 p.1) both (grown_told i known more k keeps own))
    (subst (λ (p : Logs × Logs). AreSameNamed p.0 p.1) both (grown_named i known more k keeps own))
    (subst (λ (p : Logs × Logs). (author : ℕ) → IsPrefix (p.0 author) (p.1 author)) both keeps.each)
    (subst AreResetsNoted (sym l.logs) noted) c v (subst (λ (logs : Logs). IsSettled i logs c v) (sym k.logs) is))
  where
    both : ◌≡◌ {A = Logs × Logs} (logs_of known, logs_of more) (log_of k.world, log_of l.world)
    both = λ j. (sym k.logs j, sym l.logs j)
