-- Lines that are freed, frames that are given back, and positions that are granted.
use Rattle.std.proofs.Common.{◌≡◌, ℕ, ◌+◌, ◌-◌, ◌*◌, ◌^◌, ◌≤◌, ◌<◌, suc, max, Some, [], ◌∷◌, ◌++◌, length, drop, refl, sym, subst, ap, ◌∙◌, arith, le_refl, le_trans}
use base.Growing.{prefix_refl, prefix_trans}
use Rattle.pblk_model.specs.Frames.{FrameView}
use Rattle.pblk_model.specs.Image.{Image}
use Rattle.pblk_model.specs.Shape.{units}
use Rattle.pblk_world.specs.Events.{EngineEvent, Free, Decides}
use Rattle.pblk_world.specs.Freeing.{MayFree}
use Rattle.pblk_world.specs.Fronts.{first_position}
use Rattle.pblk_world.specs.Legal.{MayDecide}
use Rattle.pblk_world.specs.LegalMounts.{IsLegalMount}
use Rattle.pblk_world.specs.Orders.{NoneToFree}
use Rattle.pblk_world.specs.Reasons.{WasAsked, WasRoom}
use Rattle.pblk_world.specs.Space.{freed, room}
use Rattle.pblk_world.specs.World.{World, Logs, log_of}
use Rattle.world_laws.proofs.ToldTables.{room_told}
use Rattle.step_laws.specs.Whole.{knows_all}
use Rattle.step_laws.proofs.Knowing.{known_whole}
use Rattle.step_laws.proofs.UnitSteps.{engine_longer}
use Rattle.write_window.specs.Window as window
use Rattle.write_ring.specs.declared.view.Desk.{Desk}
use Rattle.write_ring.specs.declared.view.Key.{Key}
use Rattle.write_ring.specs.declared.view.Part.{Part}
use Rattle.write_ring.specs.declared.view.View.{View}
use Rattle.pblk_core.specs.Collecting.{Collects}
use Rattle.pblk_core.specs.Copies.{is_copying}
use Rattle.pblk_core.specs.Keeping.{KeepsStripes}
use Rattle.pblk_core.specs.Mounts.{CollectsAfterKnowing, CollectsStill, InItsMount, StandsAfterKnowing}
use Rattle.pblk_core.specs.Named.{pad_of}
use Rattle.pblk_core.specs.Stands.{Stands}
use Rattle.pblk_core.specs.declared.target_core.Core.{Core}
use Rattle.chronicle.specs.Handles.{AuthorView}
use Rattle.chronicle.specs.Prefixes.{logs_of, naming, with_event}
use Rattle.chronicle.proofs.PrefixLemmas.{others_same, own_more}
use Rattle.chronicle.proofs.Rests.{event_keeps}
use Rattle.pblk_engine.specs.Hearts.{HasCopies, HasDecided, IsBeating, IsHeart, IsRingFor, IsSettled, KeepsWork, Parts, parts}
use Rattle.pblk_engine.proofs.Decisions.{after_quiet, beating_decided, by_left, its_heart, its_mount, legal_next, told_left}
use Rattle.pblk_engine.proofs.HeartGrants.{grant_kept}
use Rattle.pblk_engine.proofs.HeartSteps.{IsAfter}
use Rattle.pblk_engine.proofs.OnceRoom.{greater}
use Rattle.pblk_engine.proofs.Windows.{IsFirstFrame, first_frame}

-- ---- what an author decides

pub decided_none : (a : AuthorView) → HasDecided a a
decided_none a = record { same = refl; keeps = record { each = λ author. prefix_refl (logs_of a.known author) }; units = λ unit. refl }

pub decided_then : (a b c : AuthorView) → HasDecided a b → HasDecided b c → HasDecided a c
decided_then a b c x y = record {
  same = y.same ∙ ap (λ (v : AuthorView). record v { known = c.known }) x.same;
  keeps = record {
    each = λ author. prefix_trans (logs_of a.known author) (logs_of b.known author) (logs_of c.known author) (x.keeps.each author) (y.keeps.each author);
  };
  units = λ unit. y.units unit ∙ x.units unit;
}

module _ (h : Parts) (b : IsBeating h) (e : EngineEvent) (a : AuthorView)
    (appended : a ≡ record h.author { known = with_event h.author.known h.author.number (Decides e) }) where
  pub is_zero : a ≡ record h.author { known = with_event h.author.known 0 (Decides e) }
  is_zero = appended ∙ ap (λ n. record h.author { known = with_event h.author.known n (Decides e) }) b.engine.number

  pub decided_one : HasDecided h.author a
  decided_one = subst (HasDecided h.author) (sym is_zero) (record {
    same = refl;
    keeps = event_keeps h.author.known 0 (Decides e)
        (let many : length h.author.known ≡ units h.author.past.image.shape + 1 = b.legal.authors in omega arith);
    units = λ unit. others_same h.author.known 0 (Decides e) (suc unit) (λ is. let no : suc unit ≡ 0 = is in absurd (omega arith));
  })

  -- it stands at the end of the engine's log
  pub own_decided : logs_of a.known 0 ≡ logs_of h.author.known 0 ++ naming h.author.known (Decides e) ∷ []
  own_decided = ap (λ (x : AuthorView). logs_of x.known 0) is_zero
      ∙ own_more h.author.known 0 (Decides e)
      (let many : length h.author.known ≡ units h.author.past.image.shape + 1 = b.legal.authors in omega arith)

  pub beating_appended : (new : Core) (v : View) → MayDecide h.author.past.image (logs_of h.author.known) e → v.key ≡ h.intake.key
      → IsAfter h.author.past.image b.legal.world e h.core new h.intake v
      → IsBeating (parts new a v)
  beating_appended new v may key is = subst (λ (x : AuthorView). IsBeating (parts new x v)) (sym is_zero) (beating_decided h b e new v may key is)

-- ---- lines

pub keeps_none : (c : Core) → KeepsWork c c
keeps_none c = record { rows = refl; copying = refl; pad = le_refl (pad_of c) }

pub keeps_then : (a b c : Core) → KeepsWork a b → KeepsWork b c → KeepsWork a c
keeps_then a b c x y = record { rows = y.rows ∙ x.rows; copying = y.copying ∙ x.copying; pad = le_trans x.pad y.pad }

pub keeps_of : (a b : Core) → KeepsStripes a b → KeepsWork a b
keeps_of a b is = record { rows = is.rows; copying = is.copying; pad = is.pad.least }

module _ (h : Parts) (b : IsBeating h) (line : ℕ) (may : InItsMount h.core (λ i w. MayFree i (log_of w) line)) where
  may_here : MayFree h.author.past.image (log_of b.legal.world) line
  may_here = may h.author.past.image b.legal.world (its_mount h b) (its_heart h b).stands

  pub may_free : MayDecide h.author.past.image (logs_of h.author.known) (Free line)
  may_free = (
    b.heart.stands.beginning,
    b.heart.stands.has_begun,
    subst (λ (logs : Logs). MayFree h.author.past.image logs line) b.legal.logs may_here,
  )

  pub after_free : (new : Core) → StandsAfterKnowing h.core (Free line) new → CollectsAfterKnowing h.core (Free line) new
      → new.window ≡ h.core.window → KeepsStripes h.core new
      → IsAfter h.author.past.image b.legal.world (Free line) h.core new h.intake h.intake
  after_free new stands collects same kept =
      let i : Image = h.author.past.image in
      let w : World = b.legal.world in
      let own = known_whole i w b.legal.legal 0 in
      after_quiet i w (Free line) refl h.core new h.intake (its_mount h b) (legal_next h b (Free line) may_free) (its_heart h b)
      (stands i w (knows_all i.shape w) (its_mount h b) (its_heart h b).stands own)
      (collects i w (knows_all i.shape w) (its_mount h b) (its_heart h b).stands (its_heart h b).collects own)
      (λ r all. subst (λ (x : window.WindowView). window.AreOf r x.entries) (sym same) all)
      (ap (λ (x : window.WindowView). length x.entries) same) kept.pad.most kept.copying tt tt

-- ---- the intake moves

-- the intake frees and grants more, and is else as it was
pub heart_moved : (i : Image) (logs : Logs) (old new : Core) (v v' : View) → IsHeart i logs old v → Stands i logs new → Collects i logs new
    → window.AreOf v.key.origin.region new.window.entries → v'.key ≡ v.key → v'.pass ≡ v.pass
    → v'.intake.took ≡ v.intake.took → v'.intake.taken ≡ v.intake.taken → window.taken new.window ≡ window.taken old.window
    → v'.intake.freed ≡ new.window.freed
    → v'.intake.granted + units i.shape * i.shape.ws_opt ≤ v'.intake.freed + i.shape.ring
    → v'.intake.granted ≤ max (2 ^ 61 - 2) (first_position (logs 0)) → WasRoom i logs (length (logs 0)) v'.intake.granted
    → pad_of new ≡ pad_of old → is_copying new ≡ is_copying old → IsHeart i logs new v'
heart_moved i logs old new v v' is stands collects own key pass took taken same freed within last once pad copying = record {
  stands = stands;
  collects = collects;
  own = subst (λ (k : Key). window.AreOf k.origin.region new.window.entries) (sym key) own;
  took = took ∙ is.took;
  taken = taken ∙ is.taken ∙ sym same;
  freed = freed;
  within = within;
  last = last;
  once = once;
  pads = λ some. subst (λ n. WasAsked i logs (length (logs 0)) n) (sym pad) (is.pads (subst (λ n. 0 < n) pad some));
  copies = subst (λ b. HasCopies i logs b v'.pass v'.intake.taken) (sym copying)
      (subst (λ (p : Part). HasCopies i logs (is_copying old) p v'.intake.taken) (sym pass)
      (subst (HasCopies i logs (is_copying old) v.pass) (sym taken) is.copies));
  noted = is.noted;
  in_order = is.in_order;
  reasons = is.reasons;
  left = is.left;
}

-- a frame goes back
module _ (h : Parts) (b : IsBeating h) (core : Core) (v : View) (frame : FrameView)
    (there : window.frame_at h.core.window h.core.window.freed ≡ Some frame)
    (stands : InItsMount h.core (λ i w. Stands i (log_of w) core)) (collects : CollectsStill h.core core)
    (rises : core.window.freed ≡ h.core.window.freed + 1) (entries : core.window.entries ≡ drop 1 h.core.window.entries)
    (rest : core ≡ record h.core { window = core.window }) where
  first : IsFirstFrame h.intake.key.origin.region h.core.window.entries frame
  first = first_frame h.core.window frame h.intake.key.origin.region b.heart.own there

  pub frame_own : frame.region ≡ h.intake.key.origin.region
  frame_own = first.region

  pub some_taken : h.intake.intake.freed < h.intake.intake.taken
  some_taken =
      let less : length (drop 1 h.core.window.entries) + 1 ≡ length h.core.window.entries = first.one_less in
      let taken : h.intake.intake.taken ≡ h.core.window.freed + length h.core.window.entries = b.heart.taken in
      let freed : h.intake.intake.freed ≡ h.core.window.freed = b.heart.freed in
      omega arith

  pub fewer_held : length core.window.entries < length h.core.window.entries
  fewer_held =
      let less : length (drop 1 h.core.window.entries) + 1 ≡ length h.core.window.entries = first.one_less in
      let same : length core.window.entries ≡ length (drop 1 h.core.window.entries) = ap length entries in
      omega arith

  taken_same : window.taken core.window ≡ window.taken h.core.window
  taken_same =
      let less : length (drop 1 h.core.window.entries) + 1 ≡ length h.core.window.entries = first.one_less in
      let same : length core.window.entries ≡ length (drop 1 h.core.window.entries) = ap length entries in
      sum core.window.freed (length core.window.entries) h.core.window.freed (length h.core.window.entries) rises (omega arith)
    where
      sum : (f n g m : ℕ) → f ≡ g + 1 → n + 1 ≡ m → f + n ≡ g + m
      sum f n g m p q = omega arith

  pub beating_freed : v.key ≡ h.intake.key → v.pass ≡ h.intake.pass → v.intake ≡ record h.intake.intake { freed = h.intake.intake.freed + 1 }
      → IsBeating (parts core h.author v)
  beating_freed key pass moved = record {
    engine = b.engine;
    legal = b.legal;
    fits = subst (IsRingFor h.author.past.image) (sym key) b.fits;
    heart = heart_moved h.author.past.image (logs_of h.author.known) h.core core h.intake v b.heart
        (subst (λ (logs : Logs). Stands h.author.past.image logs core) b.legal.logs
        (stands h.author.past.image b.legal.world (its_mount h b) (its_heart h b).stands))
        (collects h.author.past.image (logs_of h.author.known) b.heart.collects)
        (subst (window.AreOf h.intake.key.origin.region) (sym entries) first.rest) key pass
        (ap (λ (d : Desk). d.took) moved) (ap (λ (d : Desk). d.taken) moved) taken_same
        (ap (λ (d : Desk). d.freed) moved ∙ ap (λ n. n + 1) b.heart.freed ∙ sym rises)
        (let freed : v.intake.freed ≡ h.intake.intake.freed + 1 = ap (λ (d : Desk). d.freed) moved in
        subst (λ n. n + units h.author.past.image.shape * h.author.past.image.shape.ws_opt ≤ v.intake.freed + h.author.past.image.shape.ring)
        (sym grants) (further _ _ _ _ b.heart.within freed))
        (subst (λ n. n ≤ max (2 ^ 61 - 2) (first_position (logs_of h.author.known 0))) (sym grants) b.heart.last)
        (subst (WasRoom h.author.past.image (logs_of h.author.known) (length (logs_of h.author.known 0))) (sym grants) b.heart.once)
        (ap (λ (x : Core). pad_of x) rest) (ap (λ (x : Core). is_copying x) rest);
  }
    where
      grants : v.intake.granted ≡ h.intake.intake.granted
      grants = ap (λ (d : Desk). d.granted) moved

      further : (a f g r : ℕ) → a ≤ f + r → g ≡ f + 1 → a ≤ g + r
      further a f g r low is = omega arith

-- ---- what is granted

module _ (i : Image) (w : World) (c : Core) (v : View) (mount : IsLegalMount i w) (is : IsHeart i (log_of w) c v) where
  -- there is room for it now
  pub room_now : WasRoom i (log_of w) (length (log_of w 0)) (room i (log_of w))
  room_now = record {
    at = length (log_of w 0);
    has_begun = engine_longer w is.stands.beginning is.stands.has_begun;
    within = le_refl (length (log_of w 0));
    room = by_left i w c v mount is (λ logs. room i (log_of w) ≤ room i logs)
        (subst (λ n. room i (log_of w) ≤ n) (sym (room_told i (log_of w) (log_of is.left.left) (told_left i w c v mount is))) (le_refl (room i (log_of w))));
  }

  module _ (drained : c.window.freed ≡ freed i.shape (log_of w 0)) where
    both : (max v.intake.granted (room i (log_of w)) + units i.shape * i.shape.ws_opt ≤ v.intake.freed + i.shape.ring)
        × (max v.intake.granted (room i (log_of w)) ≤ max (2 ^ 61 - 2) (first_position (log_of w 0)))
    both = grant_kept i w v.intake.granted v.intake.freed (first_position (log_of w 0)) mount.accepted (is.freed ∙ drained) refl is.within is.last

    pub room_fits : room i (log_of w) + units i.shape * i.shape.ws_opt ≤ v.intake.freed + i.shape.ring
    room_fits = let x : max v.intake.granted (room i (log_of w)) + units i.shape * i.shape.ws_opt ≤ v.intake.freed + i.shape.ring = both.0 in omega arith

    pub room_most : room i (log_of w) ≤ 2 ^ 62
    room_most =
        let x : max v.intake.granted (room i (log_of w)) ≤ max (2 ^ 61 - 2) (first_position (log_of w 0)) = both.1 in
        let first : c.first ≡ first_position (log_of w 0) = is.stands.first in
        let low : c.first ≤ 2 ^ 62 = is.stands.fits.first in
        omega arith

    -- once that is granted which there is room for, where it is more
    pub settled_granted : (v' : View) → NoneToFree i (log_of w) → v'.key ≡ v.key → v'.pass ≡ v.pass
        → v'.intake ≡ record v.intake { granted = v'.intake.granted } → v'.intake.granted ≡ max v.intake.granted (room i (log_of w))
        → IsSettled i (log_of w) c v'
    settled_granted v' none key pass moved grants = record {
      heart = heart_moved i (log_of w) c c v v' is is.stands is.collects is.own key pass (ap (λ (d : Desk). d.took) moved)
          (ap (λ (d : Desk). d.taken) moved) refl (same_freed ∙ is.freed)
          (subst (λ n. n + units i.shape * i.shape.ws_opt ≤ v'.intake.freed + i.shape.ring) (sym grants)
          (subst (λ n. max v.intake.granted (room i (log_of w)) + units i.shape * i.shape.ws_opt ≤ n + i.shape.ring) (sym same_freed) both.0))
          (subst (λ n. n ≤ max (2 ^ 61 - 2) (first_position (log_of w 0))) (sym grants) both.1)
          (subst (WasRoom i (log_of w) (length (log_of w 0))) (sym grants)
          (greater i (log_of w) (length (log_of w 0)) v.intake.granted (room i (log_of w)) is.once room_now)) refl refl;
      none_to_free = none;
      drained = drained;
      room = let g : v'.intake.granted ≡ max v.intake.granted (room i (log_of w)) = grants in omega arith;
    }
      where
        same_freed : v'.intake.freed ≡ v.intake.freed
        same_freed = ap (λ (d : Desk). d.freed) moved

-- ---- by the parts of a heart whose window has given back all that it can

module _ (h : Parts) (b : IsBeating h) (drained : h.core.window.freed ≡ freed h.author.past.image.shape (logs_of h.author.known 0)) (to : ℕ)
    (is : to ≡ room h.author.past.image (log_of b.legal.world)) where
  abbrev image : Image
  image = h.author.past.image

  its_drained : h.core.window.freed ≡ freed h.author.past.image.shape (log_of b.legal.world 0)
  its_drained = drained ∙ ap (λ (logs : Logs). freed h.author.past.image.shape (logs 0)) (sym b.legal.logs)

  pub grant_fits : to + h.intake.key.reserve ≤ h.intake.intake.freed + h.intake.key.size
  grant_fits =
      let fits : room image (log_of b.legal.world) + units image.shape * image.shape.ws_opt ≤ h.intake.intake.freed + image.shape.ring =
      room_fits image b.legal.world h.core h.intake (its_mount h b) (its_heart h b) its_drained in
      sums _ _ _ _ _ fits is b.fits.reserve b.fits.size
    where
      sums : (r k f n t : ℕ) → r + k ≤ f + n → {a c : ℕ} → t ≡ r → a ≡ k → c ≡ n → t + a ≤ f + c
      sums r k f n t low same reserve size = omega arith

  pub grant_most : to ≤ 2 ^ 62
  grant_most =
      let low : room image (log_of b.legal.world) ≤ 2 ^ 62 = room_most image b.legal.world h.core h.intake (its_mount h b) (its_heart h b) its_drained in
      omega (arith, is)

  pub grant_settles : (v' : View) → NoneToFree image (logs_of h.author.known) → v'.key ≡ h.intake.key → v'.pass ≡ h.intake.pass
      → v'.intake ≡ record h.intake.intake { granted = v'.intake.granted } → v'.intake.granted ≡ max h.intake.intake.granted to
      → IsSettled image (logs_of h.author.known) h.core v'
  grant_settles v' none key pass moved grants = subst (λ (logs : Logs). IsSettled image logs h.core v') b.legal.logs
      (settled_granted image b.legal.world h.core h.intake (its_mount h b) (its_heart h b) its_drained v'
      (subst (NoneToFree image) (sym b.legal.logs) none) key pass moved (grants ∙ ap (max h.intake.intake.granted) is))
