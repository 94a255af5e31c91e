-- What a heart stands for once its core decided something and its author appended that.
use Rattle.std.proofs.Common.{◌≡◌, ℕ, ◌+◌, ◌≤◌, max, None, List, ◌∷◌, ◌++◌, length, map, refl, sym, subst, ap, ap₂, ◌∙◌, arith, le_refl, append-nil}
use Rattle.std.specs.Option.{option_to_list}
use Rattle.pblk_model.specs.Frames.{Region}
use Rattle.pblk_model.specs.Image.{Image}
use Rattle.pblk_model.specs.Shape.{units}
use Rattle.pblk_world.specs.AtRest.{logs_at, pad_target}
use Rattle.pblk_world.specs.EngineLog.{Taken, taken_by, takes}
use Rattle.pblk_world.specs.Events.{EngineEvent, Begin, Take, Open, Place, Landed, Lost, Again, ResetDone, Free, Decides, Logged}
use Rattle.pblk_world.specs.Legal.{MayDecide}
use Rattle.pblk_world.specs.LegalMounts.{IsLegalMount}
use Rattle.pblk_world.specs.Orders.{IsInOrder, NoneToFree}
use Rattle.pblk_world.specs.World.{World, Logs, log_of}
use Rattle.pblk_world.proofs.EngineLogLemmas.{takes_more}
use Rattle.core_laws.specs.Stepping.{after}
use Rattle.core_laws.proofs.ToldSpent.{none_told}
use Rattle.world_laws.specs.SameTold.{AreSameTold}
use Rattle.world_laws.proofs.ToldSince.{same_told}
use Rattle.step_laws.specs.Whole.{engine_step, knows_all}
use Rattle.step_laws.proofs.EngineSteps.{decided_legal, engine_logs}
use Rattle.write_window.specs.Window as window
use Rattle.write_ring.specs.declared.view.View.{View}
use Rattle.pblk_core.specs.Collecting.{Collects, IsCollecting}
use Rattle.pblk_core.specs.Copies.{is_copying, victim_asks}
use Rattle.pblk_core.specs.Named.{pad_of}
use Rattle.pblk_core.specs.Stands.{Stands}
use Rattle.pblk_core.specs.declared.target_core.Core.{Core}
use Rattle.pblk_core.proofs.StandsFacts.{window_taken_is}
use Rattle.chronicle.specs.Prefixes.{logs_of, with_event}
use Rattle.chronicle.proofs.Worlds.{more_legal}
use Rattle.pblk_engine.specs.Hearts.{HasCopies, IsBeating, IsHeart, IsRingFor, Parts, parts, ring_row}
use Rattle.pblk_engine.proofs.HeartBut.{IsHeartBut, but_notes}
use Rattle.pblk_engine.proofs.HeartSteps.{GrantsFor, IsAfter, copies_decided, first_is, heart_decided, log_is}
use Rattle.pblk_engine.proofs.Knowledge.{known_next, mount_of}
use Rattle.pblk_engine.proofs.PadsAsked.{asked_less, asks_at_most}
use Rattle.pblk_engine.proofs.Reasoned.{HasReason}

-- ---- the world that an author knows

module _ (h : Parts) (b : IsBeating h) where
  abbrev pub its_image : Image
  its_image = h.author.past.image

  abbrev pub its_world : World
  its_world = b.legal.world

  pub its_mount : IsLegalMount its_image its_world
  its_mount = mount_of its_image h.author.known b.legal b.fits.accepted b.fits.fit

  pub its_heart : IsHeart its_image (log_of its_world) h.core h.intake
  its_heart = subst (λ (logs : Logs). IsHeart its_image logs h.core h.intake) (sym b.legal.logs) b.heart

  pub collecting : IsCollecting h.core
  collecting = record { image = its_image; world = its_world; legal = its_mount; stands = its_heart.stands; collects = its_heart.collects }

-- ---- no line may be freed before the next event

module _ (i : Image) (w : World) (c : Core) (v : View) (mount : IsLegalMount i w) (is : IsHeart i (log_of w) c v) where
  pub told_left : AreSameTold i (log_of w) (log_of is.left.left)
  told_left = same_told i w (log_of is.left.left) mount.legal is.left.named

  -- what holds of logs of which the engine was told the same holds there too
  pub by_left : (P : Logs → Type 0) → P (log_of is.left.left) → P (logs_at (length (log_of w 0)) (log_of w))
  by_left P = subst P (sym is.left.whole)

  pub none_to_free_left : NoneToFree i (log_of w) → NoneToFree i (log_of is.left.left)
  none_to_free_left none = none_told i w is.left.left is.stands.beginning mount is.left.legal is.stands.has_begun is.stands.full told_left none

  pub none_to_free_then : NoneToFree i (log_of w) → NoneToFree i (logs_at (length (log_of w 0)) (log_of w))
  none_to_free_then none = by_left (NoneToFree i) (none_to_free_left none)

-- ---- an event that takes no entry

grants_none : (i : Image) (logs : Logs) (e : EngineEvent) → taken_by (Decides e) ≡ None → GrantsFor i logs e
grants_none i logs (Begin b) none = tt
grants_none i logs (Take entry mark) none = absurd cc
grants_none i logs (Open line start) none = tt
grants_none i logs (Place stripe) none = tt
grants_none i logs (Landed unit event) none = tt
grants_none i logs (Lost unit event) none = tt
grants_none i logs (Again unit event) none = tt
grants_none i logs (ResetDone unit event) none = tt
grants_none i logs (Free line) none = tt

module _ (i : Image) (w : World) (e : EngineEvent) (none : taken_by (Decides e) ≡ None) where
  abbrev next : World
  next = engine_step i.shape e w ∷ w

  takes_same : takes (log_of next 0) ≡ takes (log_of w 0)
  takes_same =
      ap (λ (log : List Logged). takes log) (log_is i w e) ∙ takes_more (log_of w 0) (engine_step i.shape e w).logged
      ∙ ap (λ o. takes (log_of w 0) ++ option_to_list o) none ∙ append-nil (takes (log_of w 0))

  -- whether or not each reset was noted before
  pub after_quiet_but : (old new : Core) (v : View) → IsLegalMount i w → IsLegalMount i next → IsHeartBut i (log_of w) old v
      → Stands i (after (log_of w) e (knows_all i.shape w)) new → Collects i (after (log_of w) e (knows_all i.shape w)) new
      → ((r : Region) → window.AreOf r old.window.entries → window.AreOf r new.window.entries)
      → length new.window.entries ≡ length old.window.entries → pad_of new ≤ max (pad_of old) (victim_asks new)
      → is_copying new ≡ is_copying old
      → IsInOrder i (logs_at (length (log_of w 0)) (log_of w)) e → HasReason i (log_of w) e
      → IsAfter i w e old new v v
  after_quiet_but old new v before mount was stands collects own count pads copying order reason = record {
    stands = now;
    collects = subst (λ (logs : Logs). Collects i logs new) (sym (engine_logs i.shape e w)) collects;
    own = own v.key.origin.region was.own;
    took = was.took ∙ ap (map ring_row) (sym takes_same);
    taken = was.taken ∙ sym same_taken;
    freed = was.freed ∙ same_freed (window.taken new.window) (window.taken old.window) (length new.window.entries) (length old.window.entries)
        new.window.freed old.window.freed refl refl same_taken count;
    same_freed = refl;
    same_granted = refl;
    pads = pads;
    copies = subst (λ b. HasCopies i (log_of next) b v.pass v.intake.taken) (sym copying)
        (copies_decided i w e (is_copying old) v.pass v.intake.taken before mount was.stands none was.copies);
    order = order;
    reason = reason;
    grants = grants_none i (log_of w) e none;
  }
    where
      now : Stands i (log_of next) new
      now = subst (λ (logs : Logs). Stands i logs new) (sym (engine_logs i.shape e w)) stands

      same_taken : window.taken new.window ≡ window.taken old.window
      same_taken =
          window_taken_is i next new now
          ∙ ap₂ (λ n (ts : List Taken). n + length ts) (first_is i w e was.stands) takes_same
          ∙ sym (window_taken_is i w old was.stands)

      same_freed : (a b n m x y : ℕ) → a ≡ x + n → b ≡ y + m → a ≡ b → n ≡ m → y ≡ x
      same_freed a b n m x y p q same count = omega arith

  pub after_quiet : (old new : Core) (v : View) → IsLegalMount i w → IsLegalMount i next → IsHeart i (log_of w) old v
      → Stands i (after (log_of w) e (knows_all i.shape w)) new → Collects i (after (log_of w) e (knows_all i.shape w)) new
      → ((r : Region) → window.AreOf r old.window.entries → window.AreOf r new.window.entries)
      → length new.window.entries ≡ length old.window.entries → pad_of new ≤ max (pad_of old) (victim_asks new)
      → is_copying new ≡ is_copying old
      → IsInOrder i (logs_at (length (log_of w 0)) (log_of w)) e → HasReason i (log_of w) e
      → IsAfter i w e old new v v
  after_quiet old new v before mount was = after_quiet_but old new v before mount (but_notes i (log_of w) old v was)

-- ---- by the author

module _ (h : Parts) (b : IsBeating h) (e : EngineEvent) where
  abbrev i : Image
  i = h.author.past.image

  abbrev w : World
  w = b.legal.world

  may_in : MayDecide i (logs_of h.author.known) e → MayDecide i (log_of w) e
  may_in = subst (λ (logs : Logs). MayDecide i logs e) (sym b.legal.logs)

  pub legal_next : MayDecide i (logs_of h.author.known) e → IsLegalMount i (engine_step i.shape e w ∷ w)
  legal_next may = decided_legal i w e (its_mount h b) (may_in may)

  -- The author appended what the core decided.
  pub beating_decided : (new : Core) (v : View) → MayDecide i (logs_of h.author.known) e → v.key ≡ h.intake.key
      → IsAfter i w e h.core new h.intake v
      → IsBeating (parts new (record h.author { known = with_event h.author.known 0 (Decides e) }) v)
  beating_decided new v may key is = record {
    engine = record { number = b.engine.number; owned = b.engine.owned };
    legal = more_legal i h.author.known 0 (Decides e) (let many : length h.author.known ≡ units i.shape + 1 = b.legal.authors in omega arith) may b.legal;
    fits = subst (IsRingFor i) (sym key) b.fits;
    heart = subst (λ (logs : Logs). IsHeart i logs new v) (sym (known_next i h.author.known b.legal e))
        (heart_decided i w e h.core new h.intake v (its_mount h b) (legal_next may) (its_heart h b) is);
  }

-- ---- where nothing was decided

-- the pad target holds already what the victim asks for
pub no_further : (i : Image) (w : World) (old new : Core) (v : View) → IsLegalMount i w → IsHeart i (log_of w) old v → Stands i (log_of w) new
    → Collects i (log_of w) new → pad_of new ≤ max (pad_of old) (victim_asks new) → pad_of new ≤ pad_of old
no_further i w old new v mount was stands collects pads =
    let asks : victim_asks new ≤ pad_target i (log_of w) 0 = asks_at_most i w new mount stands collects in
    let held : pad_target i (log_of w) 0 ≤ pad_of old = was.collects.asked in
    omega arith

-- the core did something that is no event: it stands for the same logs
pub heart_still : (i : Image) (w : World) (old new : Core) (v : View) → IsLegalMount i w → IsHeart i (log_of w) old v → Stands i (log_of w) new
    → Collects i (log_of w) new
    → new.window ≡ old.window → pad_of new ≤ max (pad_of old) (victim_asks new) → is_copying new ≡ is_copying old → IsHeart i (log_of w) new v
heart_still i w old new v mount was stands collects same pads copying = record {
  stands = stands;
  collects = collects;
  own = subst (λ (x : window.WindowView). window.AreOf v.key.origin.region x.entries) (sym same) was.own;
  took = was.took;
  taken = was.taken ∙ sym (ap window.taken same);
  freed = was.freed ∙ sym (ap (λ (x : window.WindowView). x.freed) same);
  within = was.within;
  last = was.last;
  once = was.once;
  pads = λ some. asked_less i (log_of w) (length (log_of w 0)) (length (log_of w 0)) (pad_of old) (pad_of new)
      (was.pads (let less : pad_of new ≤ pad_of old = further in omega arith)) (le_refl (length (log_of w 0))) further;
  copies = subst (λ b. HasCopies i (log_of w) b v.pass v.intake.taken) (sym copying) was.copies;
  noted = was.noted;
  in_order = was.in_order;
  reasons = was.reasons;
  left = was.left;
}
  where
    further : pad_of new ≤ pad_of old
    further = no_further i w old new v mount was stands collects pads
