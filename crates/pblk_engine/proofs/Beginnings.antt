-- How a mount begins: its world, and the heart that stands for that.
use Rattle.std.proofs.Common.{◌≡◌, ℕ, ◌+◌, ◌-◌, ◌*◌, ◌≤◌, min, zero, suc, Some, List, [], ◌∷◌, ◌++◌, length, map, replicate, refl, sym, subst, ap, ap₂, ◌∙◌, arith, le_refl}
use Rattle.std.specs.Prelude.{drop, slice_get}
use Rattle.std.specs.List.{AllByRecursion, range_with_len}
use Rattle.std.proofs.Math.Seq.{drop-nil}
use Rattle.std.proofs.lemmas.Option.{none-some}
use Rattle.atomic_table.specs.Seated.{TableId}
use Rattle.pblk_model.specs.declared.found.Found.{Found}
use Rattle.pblk_model.specs.declared.shape.Shape.{Shape}
use Rattle.pblk_model.specs.Contents.{least_missing}
use Rattle.pblk_model.specs.Image.{Image}
use Rattle.pblk_model.specs.Shape.{units}
use Rattle.pblk_world.specs.AtRest.{AreResetsNoted}
use Rattle.pblk_world.specs.EngineLog.{begun, takes}
use Rattle.pblk_world.specs.Events.{Begin, Beginning, Decides, EngineEvent, Logged, Place, Take}
use Rattle.pblk_world.specs.Fronts.{first_position}
use Rattle.pblk_world.specs.Lines.{found_image}
use Rattle.pblk_world.specs.LegalMounts.{IsLegalMount}
use Rattle.pblk_world.specs.Opening.{MayBegin}
use Rattle.pblk_world.specs.Orders.{AreInOrder}
use Rattle.pblk_world.specs.Reasons.{HasReasons, WasRoom}
use Rattle.pblk_world.specs.Space.{freed, position_limit, ring_limit, room, space_limit}
use Rattle.pblk_world.specs.World.{World, Logs, knows_engine, log_of, media}
use Rattle.world_laws.specs.EarlyLogs.{AreEarly}
use Rattle.world_laws.specs.Finding.{IsFoundOf, NoneOpen}
use Rattle.world_laws.specs.MountBeginnings.{beginning_of}
use Rattle.world_laws.proofs.FoundImages.{early_before}
use Rattle.world_laws.proofs.MayBegin.{may_begin}
use Rattle.world_laws.proofs.NotedResets.{noted_before}
use Rattle.core_laws.specs.Stepping.{after}
use Rattle.core_laws.specs.WindowOf.{HeldSectors, held_of, without_frame}
use Rattle.step_laws.specs.Whole.{after_begin, knows_all}
use Rattle.step_laws.proofs.Beginning.{begun_is, found_is, mount_begins}
use Rattle.step_laws.proofs.EngineSteps.{engine_logs}
use Rattle.step_laws.proofs.NotedSteps.{noted_decided}
use Rattle.write_window.specs.declared.held.Held.{Held}
use Rattle.write_window.specs.Window as window
use Rattle.write_ring.specs.declared.view.Key.{Key}
use Rattle.write_ring.specs.declared.view.View.{View}
use Rattle.pblk_core.specs.Collecting.{Collects}
use Rattle.pblk_core.specs.Named.{pad_of}
use Rattle.pblk_core.specs.Stands.{Stands}
use Rattle.pblk_core.specs.declared.target_core.Core.{Core}
use Rattle.pblk_core.proofs.SmallGrant.{ring_kept}
use Rattle.chronicle.specs.Handles.{AuthorView, first_author}
use Rattle.chronicle.specs.Prefixes.{AreLegalLogs, logs_of}
use Rattle.chronicle.specs.Views.{Past}
use Rattle.pblk_engine.specs.Beginnings.{IsFirstCore, IsFirstPast, first_intake}
use Rattle.pblk_engine.specs.Hearts.{HasCopies, IsBeating, IsHeart, IsRingFor, parts, ring_row}
use Rattle.pblk_engine.specs.Stops.{stop_count, stop_counts}
use Rattle.pblk_engine.proofs.HeartSteps.{granted_decided, left_decided, log_is, long, whole_decided}
use Rattle.pblk_engine.proofs.InOrder.{in_order_decided}
use Rattle.pblk_engine.proofs.Reasoned.{begun_decided, urgent_decided}

-- the log of an engine that began
abbrev first_log : Beginning → List ℕ → List Logged
first_log b knows = record { event = Decides (Begin b); knows = knows } ∷ []

nothing_freed : (s : Shape) (b : Beginning) (knows : List ℕ) → freed s (first_log b knows) ≡ b.first
unfolding least_missing
nothing_freed s b knows = refl

nothing_held : (xs : List Held) → map without_frame xs ≡ [] → xs ≡ []
nothing_held [] e = refl
nothing_held (x ∷ xs) e = absurd cc

between : (n low high at : ℕ) → low ≤ n → n ≤ high → low ≡ at → high ≡ at → n ≡ at
between n low high at a b c d = omega arith

least_three : (a b c n : ℕ) → n ≤ a → n ≤ b → n ≤ c → n ≤ min (min a b) c
least_three a b c n x y z = omega arith

past_ring : (f r k n : ℕ) → k ≤ r → f ≡ n → n ≤ f + r - k
past_ring f r k n low same = omega arith

-- no stop was noted
zeros_from : (log : List Logged) (from n : ℕ) → ((unit : ℕ) → stop_count log unit ≡ 0) → map (stop_count log) (range_with_len from n) ≡ replicate n 0
zeros_from log from zero none = refl
zeros_from log from (suc n) none = ap₂ (λ x (xs : List ℕ). x ∷ xs) (none from) (zeros_from log (from + 1) n none)

-- ---- the world

module _ (past : Past) (f : Found) (is : IsFirstPast past f) where
  abbrev i : Image
  i = past.image

  abbrev b : Beginning
  b = beginning_of f

  abbrev event : EngineEvent
  event = Begin (beginning_of f)

  abbrev before : World
  before = is.before

  abbrev pub first_world : World
  first_world = after_begin past.image.shape (beginning_of f) is.before

  may : MayBegin i (log_of before) b
  may = may_begin i (log_of before) f is.nothing is.closed is.found

  pub first_mount : IsLegalMount i first_world
  first_mount = mount_begins i before b is.legal may

  pub first_legal : AreLegalLogs i past.logs
  first_legal = record { authors = is.authors; world = first_world; legal = first_mount.legal; logs = sym is.logs }

  pub first_begun : begun (logs_of past.logs 0) ≡ Some (record { beginning = b; knows = knows_all i.shape before })
  first_begun = ap (λ (logs : Logs). begun (logs 0)) is.logs ∙ begun_is i.shape before b is.nothing

  -- no unit knew of it
  pub first_early : AreEarly (logs_of past.logs)
  first_early = subst AreEarly (sym is.logs) early
    where
      still : (unit : ℕ) → log_of first_world (suc unit) ≡ log_of before (suc unit)
      still unit = ap (λ (logs : Logs). logs (suc unit)) (engine_logs i.shape event before)

      early : AreEarly (log_of first_world)
      early unit = subst (AllByRecursion (λ (l : Logged). knows_engine l ≡ 0)) (sym (still unit))
          (early_before i before is.legal.legal (ap (λ (log : List Logged). begun log) is.nothing) unit)

  -- ---- a core that begins with it

  its_log : log_of first_world 0 ≡ first_log b (knows_all i.shape before)
  its_log = log_is i before event ∙ ap (λ (log : List Logged). log ++ first_log b (knows_all i.shape before)) is.nothing

  same_logs : log_of first_world ≡ after (log_of before) event (knows_all i.shape before)
  same_logs = engine_logs i.shape event before

  found_now : found_image i (log_of first_world) ≡ media i (log_of before)
  found_now = found_is i before b is.legal.legal is.nothing

  found_there : IsFoundOf (found_image i (after (log_of before) event (knows_all i.shape before))) f
  found_there = subst (λ (logs : Logs). IsFoundOf (found_image i logs) f) same_logs (subst (λ (j : Image). IsFoundOf j f) (sym found_now) is.found)

  closed_there : NoneOpen (found_image i (after (log_of before) event (knows_all i.shape before)))
  closed_there = subst (λ (logs : Logs). NoneOpen (found_image i logs)) same_logs (subst NoneOpen (sym found_now) is.closed)

  pub first_stops : stop_counts i.shape (logs_of past.logs 0) ≡ replicate (units i.shape) 0
  first_stops =
      ap (λ (logs : Logs). stop_counts i.shape (logs 0)) is.logs ∙ ap (λ (log : List Logged). stop_counts i.shape log) its_log
      ∙ zeros_from (first_log b (knows_all i.shape before)) 0 (units i.shape) (λ unit. refl)

  -- nothing is left to be noted, and all that the engine did had its order and its reason
  pub first_noted : AreResetsNoted (log_of first_world)
  first_noted = noted_decided i.shape event before (noted_before i before is.legal.legal is.nothing)

  first_order : AreInOrder i (log_of first_world)
  first_order = in_order_decided i before is.legal.legal event tt
      (record {
        each = λ k knows e some at. absurd (none-some (record { event = Decides e; knows = knows })
            (sym (ap (λ (log : List Logged). slice_get log k) is.nothing) ∙ at));
      })

  first_reasons : HasReasons i (log_of first_world)
  first_reasons = record {
    granted = granted_decided i before event is.legal.legal tt
        (record {
          each = λ k knows entry mark at users. absurd (none-some (record { event = Decides (Take entry mark); knows = knows })
              (sym (ap (λ (log : List Logged). slice_get log k) is.nothing) ∙ at));
        });
    begun = begun_decided i before is.legal.legal event tt
        (record {
          each = λ k knows entry mark source at of. absurd (none-some (record { event = Decides (Take entry mark); knows = knows })
              (sym (ap (λ (log : List Logged). slice_get log k) is.nothing) ∙ at));
        });
    urgent = urgent_decided i before is.legal.legal event tt
        (record {
          each = λ k knows stripe position at bears. absurd (none-some (record { event = Decides (Place stripe); knows = knows })
              (sym (ap (λ (log : List Logged). slice_get log k) is.nothing) ∙ at));
        });
  }

  -- there is room for all that is there already
  room_low : b.first ≤ room i (log_of first_world)
  room_low = least_three (ring_limit i.shape (log_of first_world 0)) (space_limit i (log_of first_world)) (position_limit (log_of first_world 0)) b.first
      (past_ring (freed i.shape (log_of first_world 0)) i.shape.ring (units i.shape * i.shape.ws_opt) b.first (ring_kept i.shape is.legal.accepted)
      (ap (freed i.shape) its_log ∙ nothing_freed i.shape b (knows_all i.shape before)))
      (let first : first_position (log_of first_world 0) ≡ b.first = ap first_position its_log in omega arith)
      (let first : first_position (log_of first_world 0) ≡ b.first = ap first_position its_log in omega arith)

  module _ (core : Core) (new : IsFirstCore past.image.shape f core) where
    stands_first : Stands i (log_of first_world) core
    stands_first = subst (λ (logs : Logs). Stands i logs core) (sym same_logs)
        (new.stands i before (knows_all i.shape before) refl is.legal is.nothing found_there closed_there)

    collects_first : Collects i (log_of first_world) core
    collects_first = subst (λ (logs : Logs). Collects i logs core) (sym same_logs)
        (new.collects i before (knows_all i.shape before) refl is.legal is.nothing found_there closed_there)

    freed_first : core.window.freed ≡ b.first
    freed_first = between core.window.freed (first_position (log_of first_world 0)) (freed i.shape (log_of first_world 0)) b.first
        stands_first.from_first stands_first.to_freed (ap first_position its_log)
        (ap (freed i.shape) its_log ∙ nothing_freed i.shape b (knows_all i.shape before))

    no_entries : core.window.entries ≡ []
    no_entries = nothing_held core.window.entries
        (ap (λ (h : HeldSectors). h.entries) stands_first.window
        ∙ ap (λ (log : List Logged). map (held_of i.shape log) (drop (core.window.freed - first_position log) (takes log))) its_log
        ∙ ap (map _) (drop-nil (core.window.freed - b.first)))

    module _ (key : Key) (first : key.first ≡ b.first) where
      once : WasRoom i (log_of first_world) (length (log_of first_world 0)) key.first
      once = record {
        at = length (log_of first_world 0);
        has_begun = let n : length (log_of first_world 0) ≡ length (log_of before 0) + 1 = long i before event in omega arith;
        within = le_refl (length (log_of first_world 0));
        room = subst (λ (logs : Logs). key.first ≤ room i logs) (sym (whole_decided i before event is.legal))
            (let low : b.first ≤ room i (log_of first_world) = room_low in omega arith);
      }

      -- the heart that it makes with a new ring
      pub heart_first : IsHeart i (log_of first_world) core (first_intake key)
      heart_first = record {
        stands = stands_first;
        collects = collects_first;
        own = subst (λ (hs : List Held). window.AreOf key.origin.region hs) (sym no_entries) tt;
        took = ap (λ (log : List Logged). map ring_row (takes log)) (sym its_log);
        taken =
            let entries : length core.window.entries ≡ 0 = ap (λ (hs : List Held). length hs) no_entries in
            let at : core.window.freed ≡ b.first = freed_first in
            omega arith;
        freed = first ∙ sym freed_first;
        within = let kept : units i.shape * i.shape.ws_opt ≤ i.shape.ring = ring_kept i.shape is.legal.accepted in omega arith;
        last = let at : first_position (log_of first_world 0) ≡ b.first = ap first_position its_log in omega arith;
        once = once;
        pads = λ some. absurd (let none : pad_of core ≡ 0 = new.unasked in omega arith);
        copies = subst (λ copying. HasCopies i (log_of first_world) copying (first_intake key).pass key.first) (sym new.idle)
            (record { claims = λ x from. refl; puts = λ r put. absurd cc });
        noted = first_noted;
        in_order = first_order;
        reasons = first_reasons;
        left = left_decided i before event is.legal first_mount;
      }

      module _ (logs : TableId) (fits : IsRingFor past.image key) where
        heart_known : IsHeart i (logs_of past.logs) core (first_intake key)
        heart_known = subst (λ (l : Logs). IsHeart i l core (first_intake key)) (sym is.logs) heart_first

        pub beating_first : (author : AuthorView) (intake : View) → author ≡ first_author logs past 0 → intake ≡ first_intake key
            → IsBeating (parts core author intake)
        beating_first author intake a v = subst (λ (x : AuthorView). IsBeating (parts core x intake)) (sym a)
            (subst (λ (w : View). IsBeating (parts core (first_author logs past 0) w)) (sym v)
            (record { engine = record { number = refl; owned = refl }; legal = first_legal; fits = fits; heart = heart_known }))
