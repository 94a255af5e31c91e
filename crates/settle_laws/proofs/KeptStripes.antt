-- What is kept where a stripe is placed: one without entries, a full one, or a padded one.
use Rattle.std.proofs.Common.{Bool, None, Some, ap, arith, false, inl, inr, length, min, refl, subst, suc, sym, take, true, ℕ, ◌+◌, ◌-◌, ◌<◌, ◌∙◌, ◌≡◌, ◌≤◌, ◌⊎◌}
use Rattle.std.specs.List.{Contains}
use Rattle.std.proofs.lemmas.Bool.{cases_lt}
use Rattle.std.proofs.lemmas.Option.{slice_get_within}
use Rattle.pblk_model.specs.Image.{Image}
use Rattle.pblk_model.proofs.Lists.{among_contained}
use Rattle.pblk_world.specs.AtRest.{IsUrgent}
use Rattle.pblk_world.specs.EngineLog.{Taken, taken_by}
use Rattle.pblk_world.specs.Events.{Decides, Event, Logged, Place, Stripe}
use Rattle.pblk_world.specs.Fronts.{waiting}
use Rattle.pblk_world.specs.Reasons.{WasAsked, WasUrgent}
use Rattle.pblk_world.specs.Victims.{engine_prefix, victim}
use Rattle.pblk_world.specs.World.{World, log_of}
use Rattle.rest_laws.specs.Copies.{TookCopy}
use Rattle.rest_laws.specs.RoomRuns.{IsVictimOf}
use Rattle.rest_laws.specs.RoomSteps.{has_entry, stripes_left}
use Rattle.rest_laws.proofs.RunEvents.{waiting_from}
use Rattle.rest_laws.proofs.RunNumbers as numbers
use Rattle.rest_laws.proofs.RunNumbers.{AreNumbers}
use Rattle.rest_laws.proofs.StripeEntries.{some_position}
use Rattle.settle_laws.proofs.Kept.{AreNumbersAt, Comes, IsKept, NoneFreed, Waits, are_sizes, early_end, kept_at, sizes_from, victim_works}
use Rattle.settle_laws.proofs.KeptEvents.{IsKeptBefore, are_before, before, chunks_same, comes_kept, done_more, earlier, frees_same, goes_on, inside, kept_by, some, victim_kept}
use Rattle.settle_laws.proofs.Steps as steps
use Rattle.settle_laws.proofs.Still.{none_live_there, run_at}
use Rattle.settle_laws.proofs.SumSteps as sums
use Rattle.settle_laws.proofs.SumSteps.{after_pad}
use Rattle.settle_laws.proofs.Sums.{Credits, Kept}
use Rattle.settle_laws.proofs.Takes.{IsTakenWhen, below_front, copied, taken_when, waits_taken}

module _ {i : Image} {w : World} {at : ℕ → ℕ} {from total n : ℕ} {l : Logged} (e : IsKeptBefore i w at from total n l)
    (stripe : Stripe) (its : l.event ≡ Decides (Place stripe)) where
  fewer : (before e).stripes ≡ stripes_left i (engine_prefix (suc n) (log_of w)) + 1
  fewer = steps.stripe_less i w e.q.is n (some e) l e.there stripe its

  takes_none : taken_by l.event ≡ None
  takes_none = ap taken_by its

  -- the numbers after it
  numbers_after : {left placed taken : ℕ}
      → AreNumbers i (engine_prefix (suc n) (log_of w)) left (before e).free (before e).resetting placed taken
      → AreNumbersAt i w (suc n) (record (before e) {
        done = (before e).done + 1;
        stripes = stripes_left i (engine_prefix (suc n) (log_of w));
        left = left;
        placed = placed;
        taken = taken;
      })
  numbers_after others = record {
    done = done_more e (Place stripe) its refl;
    stripes = refl;
    chunks = chunks_same e (Place stripe) its refl;
    others = others;
  }

  -- one without entries
  places_record : has_entry i.shape stripe ≡ false → IsKept i w at from total (suc n) (victim i (log_of w) n)
  places_record none =
      goes_on e (Place stripe) its refl takes_none
      (sums.one_less (are_sizes e.q) e.was.kept (stripes_left i (engine_prefix (suc n) (log_of w))) (before e).chunks (omega (arith, fewer)))
      (numbers_after (numbers.other_placed i w e.q.is n (some e) l e.there _ _ _ _ _ (are_before e) stripe its none)) refl refl (omega arith)
      e.was.left_low

  module _ (has : has_entry i.shape stripe ≡ true) where
    abbrev m : ℕ
    m = length (waiting i.shape (take n (log_of w 0)))

    waits_is : (before e).taken ≡ (before e).placed + m
    waits_is = numbers.waiting_is i w e.q.is n (some e) l e.there _ _ _ _ _ (are_before e)

    placed : (i.shape.ws_opt ≤ (before e).left)
        × AreNumbers i (engine_prefix (suc n) (log_of w)) ((before e).left - i.shape.ws_opt) (before e).free (before e).resetting
        ((before e).placed + min i.shape.ws_opt m) (before e).taken
    placed = numbers.data_placed i w e.q.is n (some e) l e.there _ _ _ _ _ (are_before e) stripe its has

    -- so many positions are placed
    placed_by : (front : ℕ) → (before e).placed + min i.shape.ws_opt m ≡ front
        → AreNumbers i (engine_prefix (suc n) (log_of w)) ((before e).left - i.shape.ws_opt) (before e).free (before e).resetting front (before e).taken
    placed_by front whole =
        subst (λ k. AreNumbers i (engine_prefix (suc n) (log_of w)) ((before e).left - i.shape.ws_opt) (before e).free (before e).resetting k
        (before e).taken) whole placed.1

    places_full : i.shape.ws_opt ≤ m → IsKept i w at from total (suc n) (victim i (log_of w) n)
    places_full full =
        goes_on e (Place stripe) its refl takes_none
        (sums.full_placed (are_sizes e.q) e.was.kept (stripes_left i (engine_prefix (suc n) (log_of w))) fewer placed.0 (omega (arith, waits_is, full)))
        (numbers_after (placed_by ((before e).placed + i.shape.ws_opt) (omega (arith, full)))) refl refl (omega arith) (omega (arith, e.was.left_low))

    -- ---- a padded one takes all that waits

    module _ (few : m < i.shape.ws_opt) (waits_one : (before e).placed < (before e).taken) where
      all_placed : AreNumbers i (engine_prefix (suc n) (log_of w)) ((before e).left - i.shape.ws_opt) (before e).free (before e).resetting
          (before e).taken (before e).taken
      all_placed = placed_by (before e).taken (omega (arith, waits_is, few))

      none_waits : (credit : ℕ) → Waits i w at from (suc n) credit
      none_waits credit k entry mark other past less above =
          let early : k < n = earlier e takes_none k entry mark other less in
          absurd (omega (arith, below_front i w e.q.is.mount n k entry mark other early, above, all_placed.placed_is))

      padded : (c : Credits) → c.coming ≡ e.was.c.coming
          → Kept (sizes_from i w from) (early_end w from) total c
          (after_pad (are_sizes e.q) e.was.kept (stripes_left i (engine_prefix (suc n) (log_of w))) fewer placed.0 waits_one)
          → IsKept i w at from total (suc n) (victim i (log_of w) n)
      padded c same_coming k = record {
        c = c;
        v = e.was.v;
        kept = kept_at e.was.v k (numbers_after all_placed) refl refl;
        at_it = victim_kept e takes_none (kept_by e (Place stripe) its refl);
        left_low = omega (arith, e.was.left_low, placed.1.left_is);
        waits = none_waits c.waiting;
        comes = subst (λ q. Comes w at from (suc n) q) (sym same_coming) (comes_kept e (frees_same e (Place stripe) its refl));
      }

      pads_early : (before e).placed < early_end w from → IsKept i w at from total (suc n) (victim i (log_of w) n)
      pads_early early = padded (record e.was.c { early = e.was.c.early - 1 }) refl
          (sums.padded_early (are_sizes e.q) e.was.kept (stripes_left i (engine_prefix (suc n) (log_of w))) fewer placed.0 waits_one early)

      -- with copies that were begun since
      module _ (past : early_end w from ≤ (before e).placed) (tk : Taken) (held : Contains (waiting i.shape (take n (log_of w 0))) tk) where
        of_it : (before e).placed ≤ tk.entry.position
        of_it = let run = run_at i w e.q.is at e.q.turns n (some e) (omega (arith, inside e)) in
            waiting_from i w e.q.is at e.q.turns n (some e) l e.there run.0 run.1 stripe its tk held

        it : IsTakenWhen i w e.q.is.mount from n tk
        it = taken_when i w e.q.is.mount from n tk e.q.first (waits_taken i.shape (take n (log_of w 0)) tk held) (omega (arith, past, of_it))

        copy : TookCopy (log_of w 0) it.number tk.entry tk.mark
        copy = copied i w e.q.is.mount from e.q.quiet it.number it.logged it.there tk it.event it.late

        pads_copies : (upto : ℕ) → tk.entry.position < upto → WasAsked i (log_of w) n upto → IsKept i w at from total (suc n) (victim i (log_of w) n)
        pads_copies upto below asked = go (e.was.waits it.number tk.entry tk.mark copy (omega (arith, past, of_it)) it.early of_it)
          where
            go : NoneFreed w (at it.number) n e.was.c.waiting → IsKept i w at from total (suc n) (victim i (log_of w) n)
            go (inr one) = padded (record e.was.c { waiting = e.was.c.waiting - 1 }) refl
                (sums.padded_waiting (are_sizes e.q) e.was.kept (stripes_left i (engine_prefix (suc n) (log_of w))) fewer placed.0 waits_one past one)
            go (inl none) =
                let dead = none_live_there i w e.q.is at e.q.turns from e.q.first e.q.quiet e.q.reset n it.number (omega (arith, inside e)) tk.entry tk.mark
                copy (omega (arith, past, of_it)) it.early none upto below asked in
                let v = victim_works i (engine_prefix n (log_of w)) copy.source.line e.was.v
                (subst (λ o. IsVictimOf i (engine_prefix n (log_of w)) o e.was.v) dead.0 e.was.at_it) in
                padded (record e.was.c { victim = e.was.c.victim - 1 }) refl
                (sums.padded_victim (are_sizes e.q) e.was.kept (stripes_left i (engine_prefix (suc n) (log_of w))) fewer placed.0 waits_one past
                (omega (arith, v.0)) (v.1 ∙ dead.1))

    -- ---- one with entries was full, or was asked for

    why : WasUrgent i (log_of w) n
    why = let bears = some_position i.shape stripe has in
        e.q.is.reasons.urgent.each n l.knows stripe bears.0
        (e.there ∙ ap (λ (x : Event). Some (record { event = x; knows = l.knows })) its) bears.1

    places_few : m < i.shape.ws_opt → IsUrgent i.shape (take n (log_of w 0)) why.upto → IsKept i w at from total (suc n) (victim i (log_of w) n)
    places_few few (inl full) = absurd (omega arith)
    places_few few (inr (tk, held, below)) = go (cases_lt (before e).placed (early_end w from))
      where
        waits_one : (before e).placed < (before e).taken
        waits_one =
            let among = among_contained (waiting i.shape (take n (log_of w 0))) tk held in
            let one : among.0 < m = slice_get_within (waiting i.shape (take n (log_of w 0))) among.0 tk among.1 in
            omega (arith, waits_is, one)

        go : ((before e).placed < early_end w from) ⊎ (early_end w from ≤ (before e).placed) → IsKept i w at from total (suc n) (victim i (log_of w) n)
        go (inl early) = pads_early few waits_one early
        go (inr past) = pads_copies few waits_one past tk held why.upto below (why.asked (omega (arith, below)))

    places_entries : IsKept i w at from total (suc n) (victim i (log_of w) n)
    places_entries = go (cases_lt m i.shape.ws_opt)
      where
        go : (m < i.shape.ws_opt) ⊎ (i.shape.ws_opt ≤ m) → IsKept i w at from total (suc n) (victim i (log_of w) n)
        go (inl few) = places_few few why.urgent
        go (inr full) = places_full full

  pub places : IsKept i w at from total (suc n) (victim i (log_of w) n)
  places = go (has_entry i.shape stripe) refl
    where
      go : (b : Bool) → has_entry i.shape stripe ≡ b → IsKept i w at from total (suc n) (victim i (log_of w) n)
      go true has = places_entries has
      go false none = places_record none
