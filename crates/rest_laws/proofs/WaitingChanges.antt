-- How the fronts taken and placed change with each step of the engine in a legal mount.
use Rattle.std.proofs.Common.{◌≡◌, ◌⊎◌, inl, inr, ℕ, ◌+◌, ◌||◌, min, Bool, true, false, Some, None, List, [], ◌∷◌, ◌++◌, length, refl, sym, subst, ap, ap₂, ◌∙◌, arith, append-nil, length-append, length-take, if◌then◌else◌}
use Rattle.std.specs.Prelude.{is_some}
use Rattle.std.specs.List.{cons_option, filter_map, flat_map, list_any}
use Rattle.std.specs.Option.{option_to_list}
use Rattle.std.proofs.lemmas.Grind.{flat_map-append}
use Rattle.std.proofs.lemmas.List.{length-map}
use Rattle.pblk_model.specs.declared.shape.Shape.{Shape}
use Rattle.pblk_model.specs.declared.chunk.Mark.{Mark}
use Rattle.pblk_model.specs.Chunk.{Block}
use Rattle.pblk_model.specs.Image.{Image}
use Rattle.pblk_model.specs.Records.{named}
use Rattle.pblk_world.specs.EngineLog.{Begun, begun, Placed, placed_by, placements, Taken, taken_by, takes}
use Rattle.pblk_world.specs.Events.{Decides, EngineEvent, Entry, Logged, Place, Step, Stripe, Take}
use Rattle.pblk_world.specs.Fronts.{first_position, taken, waiting}
use Rattle.pblk_world.specs.Placing.{IsData, IsEnd, IsPad, IsStart, MayPlace}
use Rattle.pblk_world.specs.Space.{placed_front}
use Rattle.pblk_world.specs.Taking.{MayTake}
use Rattle.pblk_world.specs.Victims.{position_in}
use Rattle.pblk_world.specs.World.{World, log_of, prefixes}
use Rattle.pblk_world.proofs.Appending.{placements_more}
use Rattle.pblk_world.proofs.EngineLogLemmas.{takes_more}
use Rattle.pblk_model.proofs.Lists.{all_append}
use Rattle.pblk_model.proofs.Tests.{not_both}
use Rattle.pblk_world.specs.LegalMounts.{IsLegalMount, NoStripeLost, decides, is_losing}
use Rattle.world_laws.proofs.ToldDecisions.{placing_told}
use Rattle.world_laws.proofs.ToldImages.{told_back}
use Rattle.core_laws.specs.OpenAddresses.{keeps_placed}
use Rattle.core_laws.specs.Placed.{placed_count, placed_positions}
use Rattle.core_laws.specs.PlacerOf.{positions_in_stripe, positions_of}
use Rattle.core_laws.specs.Positions.{IsUnplaced}
use Rattle.core_laws.proofs.LosslessMounts.{IsLosslessMount}
use Rattle.core_laws.specs.Stepping.{after}
use Rattle.core_laws.proofs.BlockPositions.{data_positions}
use Rattle.core_laws.proofs.LogOrders.{small_capacity}
use Rattle.core_laws.proofs.PlacedFront.{front_kept, front_taken}
use Rattle.core_laws.proofs.PlacedInOrder.{ordered}
use Rattle.core_laws.proofs.PlainLogs.{never_lost}
use Rattle.rest_laws.proofs.PlacedOnce.{placed_once}
use Rattle.core_laws.proofs.PlacedPositions.{taken_is_unplaced}
use Rattle.core_laws.proofs.TakenNumbers.{first_stays}
use Rattle.core_laws.proofs.UsersEntries as entries
use Rattle.rest_laws.specs.RoomSteps.{has_entry}
use Rattle.rest_laws.proofs.RoomChanges.{before, by_logs, may, told, whole}
use Rattle.rest_laws.proofs.StripeEntries.{data_have_one, others_have_none}

-- a stripe without an entry holds no position
none_held : (s : Shape) (bs : List Block) → list_any (λ (b : Block). is_some (named s b.mark)) bs ≡ false → filter_map (position_in s) bs ≡ []
none_held s [] none = refl
none_held s (b ∷ bs) none = go (is_some (named s b.mark)) refl none (none_held s bs)
  where
    go : (t : Bool) → is_some (named s b.mark) ≡ t → (is_some (named s b.mark) || list_any (λ (x : Block). is_some (named s x.mark)) bs) ≡ false
        → (list_any (λ (x : Block). is_some (named s x.mark)) bs ≡ false → filter_map (position_in s) bs ≡ [])
        → filter_map (position_in s) (b ∷ bs) ≡ []
    go true e any rest = absurd (not_both (is_some (named s b.mark) || list_any (λ (x : Block). is_some (named s x.mark)) bs)
        (ap (λ t. t || list_any (λ (x : Block). is_some (named s x.mark)) bs) e) any)
    go false e any rest = ap (λ t. cons_option (if t then Some b.mark.position else None) (filter_map (position_in s) bs)) e
        ∙ rest (ap (λ t. t || list_any (λ (x : Block). is_some (named s x.mark)) bs) (sym e) ∙ any)

module _ (i : Image) (s : Step) (w : World) (mount : IsLegalMount i (s ∷ w)) (own : s.author ≡ 0) (b : Begun) (begins : begun (log_of w 0) ≡ Some b) where
  abbrev knows : List ℕ
  knows = s.logged.knows

  abbrev log : List Logged
  log = log_of w 0

  was : IsLegalMount i w
  was = before i s w mount

  with_events : (e : EngineEvent) → s.logged.event ≡ Decides e
      → (taken (after (log_of w) e s.logged.knows 0) ≡ taken (log_of w 0))
      × (placed_front i.shape (after (log_of w) e s.logged.knows 0) ≡ placed_front i.shape (log_of w 0))
      → (taken (log_of (s ∷ w) 0) ≡ taken (log_of w 0)) × (placed_front i.shape (log_of (s ∷ w) 0) ≡ placed_front i.shape (log_of w 0))
  with_events e is = by_logs i s w mount e own is b begins
      (λ ls. (taken (ls 0) ≡ taken (log_of w 0)) × (placed_front i.shape (ls 0) ≡ placed_front i.shape (log_of w 0)))

  -- what is taken by an event
  taken_with : (e : EngineEvent) (ts : List Taken) → option_to_list (taken_by (Decides e)) ≡ ts
      → taken (after (log_of w) e s.logged.knows 0) ≡ taken (log_of w 0) + length ts
  taken_with e ts is =
      let l : Logged = record { event = Decides e; knows = knows } in
      let count : length (takes (log_of w 0 ++ l ∷ [])) ≡ length (takes (log_of w 0)) + length ts =
      ap (λ (us : List Taken). length us) (takes_more (log_of w 0) l ∙ ap (λ (us : List Taken). takes log ++ us) is) ∙ length-append (takes log) ts in
      let first : first_position (log_of w 0 ++ l ∷ []) ≡ first_position (log_of w 0) = first_stays (log_of w 0) l b begins in
      omega arith

  pub fronts_kept : (e : EngineEvent) → s.logged.event ≡ Decides e → keeps_placed e ≡ true
      → (taken (log_of (s ∷ w) 0) ≡ taken (log_of w 0)) × (placed_front i.shape (log_of (s ∷ w) 0) ≡ placed_front i.shape (log_of w 0))
  fronts_kept e is keeps =
      with_events e is (nothing (taken_with e [] (none e keeps)), front_kept i.shape (log_of w 0) e knows keeps)
    where
      nothing : {m n : ℕ} → m ≡ n + 0 → m ≡ n
      nothing x = omega (arith, x)

      none : (e : EngineEvent) → keeps_placed e ≡ true → option_to_list (taken_by (Decides e)) ≡ []
      none (Take entry mark) keeps = absurd cc
      none e keeps = refl

  pub entry_taken : (entry : Entry) (mark : Mark) → s.logged.event ≡ Decides (Take entry mark)
      → (taken (log_of (s ∷ w) 0) ≡ taken (log_of w 0) + 1) × (placed_front i.shape (log_of (s ∷ w) 0) ≡ placed_front i.shape (log_of w 0))
  entry_taken entry mark is =
      let small = small_capacity i was.accepted in
      let now : MayTake i (prefixes s.logged (log_of w)) entry mark = (may i s w mount (Take entry mark) own is b begins).2 in
      let at : entry.position ≡ taken (log_of w 0) = now.position ∙ ap taken (whole i s w mount (Take entry mark) own is b begins) in
      let free : IsUnplaced i.shape (log_of w 0) entry.position =
      subst (IsUnplaced i.shape (log_of w 0)) (sym at) (taken_is_unplaced i.shape (log_of w 0) (entries.in_order i w small was.legal).taken) in
      by_logs i s w mount (Take entry mark) own is b begins
      (λ ls. (taken (ls 0) ≡ taken (log_of w 0) + 1) × (placed_front i.shape (ls 0) ≡ placed_front i.shape (log_of w 0)))
      (taken_with (Take entry mark) (record { entry = entry; mark = mark } ∷ []) refl, front_taken i.shape (log_of w 0) entry mark knows free)

  module _ (none : NoStripeLost (log_of w 0)) (stripe : Stripe) (is : s.logged.event ≡ Decides (Place stripe)) where
    abbrev new : List Logged
    new = after (log_of w) (Place stripe) s.logged.knows 0

    lossless : IsLosslessMount i w
    lossless = record { mount = was; none_lost = none }

    new_is : log_of (s ∷ w) 0 ≡ after (log_of w) (Place stripe) s.logged.knows 0
    new_is = by_logs i s w mount (Place stripe) own is b begins (λ ls. ls 0 ≡ after (log_of w) (Place stripe) s.logged.knows 0) refl

    lossless_now : IsLosslessMount i (s ∷ w)
    lossless_now = record {
      mount = mount;
      none_lost = subst NoStripeLost (sym new_is) (all_append (λ (l : Logged). decides is_losing l.event ≡ false) (log_of w 0)
          (record { event = Decides (Place stripe); knows = s.logged.knows } ∷ []) none (refl, tt));
    }

    now : MayPlace i (log_of w) stripe
    now = placing_told i (prefixes s.logged (log_of w)) (log_of w)
        (told_back i (log_of w) (prefixes s.logged (log_of w)) (told i s w mount (Place stripe) own is b begins)) stripe
        (may i s w mount (Place stripe) own is b begins).2

    -- the positions that it holds
    held : length (positions_in_stripe i.shape stripe) ≡ (if has_entry i.shape stripe then min i.shape.ws_opt (length (waiting i.shape (log_of w 0))) else 0)
    held = by_kind now.kind
      where
        others : IsStart i (log_of w) now.opening stripe ⊎ (IsEnd i (log_of w) now.opening stripe ⊎ IsPad i (log_of w) now.opening stripe)
            → length (positions_in_stripe i.shape stripe) ≡ (if has_entry i.shape stripe then min i.shape.ws_opt (length (waiting i.shape (log_of w 0))) else 0)
        others kind =
            let no_entry : has_entry i.shape stripe ≡ false = others_have_none i (log_of w) now.opening stripe (small_capacity i was.accepted) kind in
            ap (λ (qs : List ℕ). length qs) (none_held i.shape stripe.blocks no_entry)
            ∙ ap (λ t. if t then min i.shape.ws_opt (length (waiting i.shape (log_of w 0))) else 0) (sym no_entry)

        by_kind : IsStart i (log_of w) now.opening stripe ⊎ (IsData i (log_of w) now.opening stripe
            ⊎ (IsEnd i (log_of w) now.opening stripe ⊎ IsPad i (log_of w) now.opening stripe))
            → length (positions_in_stripe i.shape stripe) ≡ (if has_entry i.shape stripe then min i.shape.ws_opt (length (waiting i.shape (log_of w 0))) else 0)
        by_kind (inl start) = others (inl start)
        by_kind (inr (inr rest)) = others (inr rest)
        by_kind (inr (inl data_is)) =
            ap (λ (bs : List Block). length (filter_map (position_in i.shape) bs)) data_is.blocks
            ∙ ap (λ (qs : List ℕ). length qs) (data_positions i w (small_capacity i was.accepted) was.legal)
            ∙ length-take i.shape.ws_opt (positions_of (waiting i.shape (log_of w 0)))
            ∙ ap (min i.shape.ws_opt) (length-map (waiting i.shape (log_of w 0)) (λ (t : Taken). t.entry.position))
            ∙ ap (λ t. if t then min i.shape.ws_opt (length (waiting i.shape (log_of w 0))) else 0)
            (sym (data_have_one i w now.opening stripe lossless data_is))

    count_of : (x : World) → IsLosslessMount i x → length (placed_positions i.shape (log_of x 0)) ≡ placed_count i.shape (log_of x 0)
    count_of x is =
        placed_once i.shape (log_of x 0) (never_lost (log_of x 0) is.none_lost) (ordered i x is.mount)

    counts : placed_count i.shape (log_of (s ∷ w) 0) ≡ placed_count i.shape (log_of w 0) + length (positions_in_stripe i.shape stripe)
    counts =
        sym (count_of (s ∷ w) lossless_now) ∙ ap (λ (xs : List Logged). length (placed_positions i.shape xs)) new_is
        ∙ ap (λ (ps : List Placed). length (flat_map (λ (p : Placed). positions_in_stripe i.shape p.stripe) ps))
        (placements_more (log_of w 0) (record { event = Decides (Place stripe); knows = knows }))
        ∙ ap (λ (qs : List ℕ). length qs) (flat_map-append (λ (p : Placed). positions_in_stripe i.shape p.stripe) (placements log)
        (option_to_list (placed_by log (length log) (Decides (Place stripe)))))
        ∙ length-append (placed_positions i.shape log) (flat_map (λ (p : Placed). positions_in_stripe i.shape p.stripe)
        (option_to_list (placed_by log (length log) (Decides (Place stripe)))))
        ∙ ap₂ (λ m n. m + n) (count_of w lossless) (ap (λ (qs : List ℕ). length qs) (append-nil (positions_in_stripe i.shape stripe)))

    pub stripe_placed : (taken (log_of (s ∷ w) 0) ≡ taken (log_of w 0))
        × (placed_front i.shape (log_of (s ∷ w) 0)
        ≡ placed_front i.shape (log_of w 0) + (if has_entry i.shape stripe then min i.shape.ws_opt (length (waiting i.shape (log_of w 0))) else 0))
    stripe_placed =
        let first : first_position (log_of (s ∷ w) 0) ≡ first_position (log_of w 0) =
        ap first_position new_is ∙ first_stays (log_of w 0) (record { event = Decides (Place stripe); knows = knows }) b begins in (
          ap taken new_is ∙ nothing (taken_with (Place stripe) [] refl),
          ap (λ n. first_position (log_of (s ∷ w) 0) + n) counts
              ∙ ap₂ (λ m n. m + (placed_count i.shape (log_of w 0) + n)) first held ∙ joined (first_position (log_of w 0)) (placed_count i.shape (log_of w 0))
              (if has_entry i.shape stripe then min i.shape.ws_opt (length (waiting i.shape (log_of w 0))) else 0),
        )
      where
        nothing : {m n : ℕ} → m ≡ n + 0 → m ≡ n
        nothing x = omega (arith, x)

        joined : (a c d : ℕ) → a + (c + d) ≡ a + c + d
        joined a c d = omega arith
