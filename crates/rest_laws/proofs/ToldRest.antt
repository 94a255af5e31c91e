-- What is left to be done, and which lines may be freed, by what the engine was told.
use Rattle.std.proofs.Common.{◌≡◌, ◌⊎◌, inl, inr, ℕ, ◌/◌, ◌<◌, ◌≤◌, ◌==◌, max, true, Some, None, Option, List, length, refl, sym, subst, subst₂, ap, ap₂, ◌∙◌, if◌then◌else◌}
use Rattle.std.specs.List.{Contains, list_all}
use Rattle.pblk_model.specs.Chunk.{Chunk}
use Rattle.pblk_model.specs.Image.{Image}
use Rattle.pblk_model.specs.LineOrder.{start_len}
use Rattle.pblk_model.specs.Records.{Record}
use Rattle.pblk_model.specs.StartRecord.{StartRecord}
use Rattle.pblk_world.specs.AtRest.{asked_by, HasNoWork, IsCopyDue, IsDue, IsUrgent, pad_target, victim_now}
use Rattle.pblk_world.specs.EngineLog.{AsFound, Begun, begun, Freed, has_failed, is_answered, is_as_found, life_of, LineLife, Opened, Opening, Placed, stripes_of}
use Rattle.pblk_world.specs.Events.{Logged, Stripe}
use Rattle.pblk_world.specs.Freeing.{HasLandedIn, IsAnswered, IsCountedIn, IsReplaced, IsWrittenRecord, MayFree}
use Rattle.pblk_world.specs.Fronts.{synced, taken, waiting}
use Rattle.pblk_world.specs.Lines.{are_empty, chunks_of, is_given_up, is_over_state, place_of}
use Rattle.pblk_world.specs.Placing.{data_blocks, end_address, end_blocks, IsData, IsEnd, is_done_with, IsNext, IsPad, IsStart, line_end, next_address, next_block, start_blocks, stripe_at}
use Rattle.pblk_world.specs.Opening.{MayOpen}
use Rattle.pblk_world.specs.Space.{open_addresses, position_limit}
use Rattle.pblk_world.specs.Starts.{has_landed_start, have_landed}
use Rattle.pblk_world.specs.Victims.{victim}
use Rattle.pblk_world.specs.World.{Logs}
use Rattle.world_laws.specs.SameTold.{AreSameTold}
use Rattle.world_laws.proofs.Freeing.{landed_in_told}
use Rattle.world_laws.proofs.ToldDecisions.{opening_told}
use Rattle.world_laws.proofs.ToldImages.{by_three, image_same, told_back}
use Rattle.world_laws.proofs.ToldTables.{addresses_told, due_told, live_told, newest_told, open_told, seq_told, takers_told, victim_told}

module _ (i : Image) (a b : Logs) (h : AreSameTold i a b) where
  -- ---- stripes

  next_told : (o : Opening) (stripe : Stripe) → IsNext i a o stripe → IsNext i b o stripe
  next_told o stripe its = record {
    not_failed = ap (λ (log : List Logged). has_failed log o) h.own ∙ its.not_failed;
    in_order = subst₂ (λ (log : List Logged) (j : Image). place_of j stripe.line (next_address i.shape log o) ≡ Some (stripe.unit, stripe.at))
        (sym h.own) (sym (image_same i a b h)) its.in_order;
  }

  start_told : (o : Opening) (stripe : Stripe) → IsStart i a o stripe → IsStart i b o stripe
  start_told o stripe its = record {
    next = next_told o stripe its.next;
    within = subst (λ (log : List Logged). next_address i.shape log o < start_len i.shape) (sym h.own) its.within;
    blocks = its.blocks ∙ ap (λ (log : List Logged). stripe_at i.shape (start_blocks i.shape o) 0 (next_address i.shape log o)) (sym h.own);
  }

  data_told : (o : Opening) (stripe : Stripe) → IsData i a o stripe → IsData i b o stripe
  data_told o stripe its = record {
    next = next_told o stripe its.next;
    within = subst (λ (log : List Logged). next_address i.shape log o < end_address i.shape o) (sym h.own) its.within;
    start_landed = ap (λ (log : List Logged). has_landed_start i.shape log o) h.own ∙ its.start_landed;
    has_entry = subst (λ (log : List Logged). 0 < length (waiting i.shape log)) (sym h.own) its.has_entry;
    blocks = its.blocks ∙ ap (data_blocks i.shape) (sym h.own);
  }

  end_told : (o : Opening) (stripe : Stripe) → IsEnd i a o stripe → IsEnd i b o stripe
  end_told o stripe its = record {
    next = next_told o stripe its.next;
    from = subst (λ (log : List Logged). end_address i.shape o ≤ next_address i.shape log o) (sym h.own) its.from;
    within = subst (λ (log : List Logged). next_address i.shape log o < line_end i.shape o) (sym h.own) its.within;
    data_landed = subst (λ (log : List Logged). have_landed log o (end_address i.shape o / i.shape.ws_opt) ≡ true) (sym h.own) its.data_landed;
    blocks = its.blocks
        ∙ ap (λ (log : List Logged). stripe_at i.shape (end_blocks i.shape log o) (end_address i.shape o) (next_address i.shape log o)) (sym h.own);
  }

  pad_told : (o : Opening) (stripe : Stripe) → IsPad i a o stripe → IsPad i b o stripe
  pad_told o stripe its = record {
    failed = ap (λ (log : List Logged). has_failed log o) h.own ∙ its.failed;
    chunk_left = ap (λ (log : List Logged). is_done_with i.shape log o stripe.unit) h.own ∙ its.chunk_left;
    at = its.at ∙ ap (λ (log : List Logged). next_block i.shape log o stripe.unit) (sym h.own);
    address = its.address;
    place = ap (λ (j : Image). place_of j stripe.line its.address) (image_same i a b h) ∙ its.place;
    in_order = subst₂ (λ (log : List Logged) (j : Image). (at unit : ℕ) → at < its.address
        → place_of j stripe.line at ≡ Some (unit, next_block i.shape log o unit) → is_done_with i.shape log o unit ≡ true)
        (sym h.own) (sym (image_same i a b h)) its.in_order;
    blocks = its.blocks;
  }

  -- ---- the pad target

  victim_now_told : victim_now i b ≡ victim_now i a
  victim_now_told = ap (λ (log : List Logged). victim i b (length log)) h.own ∙ victim_told i a b h (length (a 0))

  asked_told : (o : Option ℕ) → asked_by i b o ≡ asked_by i a o
  asked_told None = refl
  asked_told (Some line) = ap₂ (λ n t. if n == 0 then t else 0) (live_told i a b h line) (takers_told i a b h line)

  target_told : (asked : ℕ) → pad_target i b asked ≡ pad_target i a asked
  target_told asked = ap₂ (λ d n. max asked (if d then n else 0)) (due_told i a b h) (ap (asked_by i b) victim_now_told ∙ asked_told (victim_now i a))

  -- ---- work

  due_still : (asked : ℕ) (stripe : Stripe) → IsDue i a (pad_target i a asked) stripe → IsDue i b (pad_target i b asked) stripe
  due_still asked stripe is = record {
    opening = is.opening;
    is_open = ap (λ (log : List Logged). life_of log stripe.line) h.own ∙ is.is_open;
    kind = by is.kind;
  }
    where
      by : IsStart i a is.opening stripe ⊎ (IsEnd i a is.opening stripe ⊎ (IsPad i a is.opening stripe
          ⊎ (IsData i a is.opening stripe × IsUrgent i.shape (a 0) (pad_target i a asked))))
          → IsStart i b is.opening stripe ⊎ (IsEnd i b is.opening stripe ⊎ (IsPad i b is.opening stripe
          ⊎ (IsData i b is.opening stripe × IsUrgent i.shape (b 0) (pad_target i b asked))))
      by (inl its) = inl (start_told is.opening stripe its)
      by (inr (inl its)) = inr (inl (end_told is.opening stripe its))
      by (inr (inr (inl its))) = inr (inr (inl (pad_told is.opening stripe its)))
      by (inr (inr (inr its))) = inr (inr (inr (
        data_told is.opening stripe its.0,
        subst₂ (λ (log : List Logged) n. IsUrgent i.shape log n) (sym h.own) (sym (target_told asked)) its.1,
      )))

  copy_still : IsCopyDue i a → IsCopyDue i b
  copy_still is = record {
    due = due_told i a b h ∙ is.due;
    line = is.line;
    at_work = victim_now_told ∙ is.at_work;
    has_live = subst (λ n. 0 < n) (sym (live_told i a b h is.line)) is.has_live;
    has_position = subst (λ (log : List Logged). taken log < position_limit log) (sym h.own) is.has_position;
    has_address = subst₂ (λ (log : List Logged) n. length (waiting i.shape log) < n) (sym h.own) (sym (addresses_told i a b h)) is.has_address;
  }

  pub no_program_told : (asked : ℕ) → ((stripe : Stripe) → ¬ IsDue i b (pad_target i b asked) stripe)
      → (stripe : Stripe) → ¬ IsDue i a (pad_target i a asked) stripe
  no_program_told asked none stripe is = none stripe (due_still asked stripe is)

  pub no_opening_told : ((beginning : Begun) (line : ℕ) (start : StartRecord) → begun (b 0) ≡ Some beginning
      → 0 < length (waiting i.shape (b 0)) → open_addresses i b ≡ 0 → ¬ MayOpen i b beginning line start)
      → (beginning : Begun) (line : ℕ) (start : StartRecord) → begun (a 0) ≡ Some beginning
      → 0 < length (waiting i.shape (a 0)) → open_addresses i a ≡ 0 → ¬ MayOpen i a beginning line start
  no_opening_told none beginning line start begins waits full may =
      none beginning line start (ap begun h.own ∙ begins)
      (subst (λ (log : List Logged). 0 < length (waiting i.shape log)) (sym h.own) waits) (open_told i a b h ∙ full)
      (opening_told i a b h beginning line start may)

  pub no_work_told : (asked : ℕ) → HasNoWork i b asked → HasNoWork i a asked
  no_work_told asked none = record {
    no_reset = λ line range given. ap (λ (j : Image). are_empty j line) (sym (image_same i a b h))
        ∙ none.no_reset line range (ap (λ (log : List Logged). is_given_up log line) h.own ∙ given);
    no_program = no_program_told asked none.no_program;
    no_opening = no_opening_told none.no_opening;
    no_copy = λ is. none.no_copy (copy_still is);
  }

  -- ---- lines that may be freed

  answered_still : (life : LineLife) → IsAnswered a life → IsAnswered b life
  answered_still AsFound is = tt
  answered_still (Opened o) is =
      subst (λ (log : List Logged). (p : Placed) → Contains (stripes_of log o) p → is_answered log p ≡ true) (sym h.own) is
  answered_still (Freed was knows) is = tt

  pub answered_told : (line : ℕ) → IsAnswered a (life_of (a 0) line) → IsAnswered b (life_of (b 0) line)
  answered_told line is =
      subst (λ (log : List Logged). IsAnswered b (life_of log line)) (sym h.own) (answered_still (life_of (a 0) line) is)

  replaced_still : (line lba : ℕ) (r : Record) → IsReplaced i a line lba r → IsReplaced i b line lba r
  replaced_still line lba r is = record {
    other = is.other;
    is_other = is.is_other;
    by = is.by;
    landed = landed_in_told i a b h is.other is.by is.landed;
    sector = is.sector;
    newer = is.newer;
    below_synced = subst (λ (log : List Logged). is.by.position < synced i.shape log) (sym h.own) is.below_synced;
  }

  -- where each record that was written in the line counted in it before
  module _ (line : ℕ) (written : (o : Opening) → life_of (a 0) line ≡ Opened o → (r : Record) → IsWrittenRecord i b o r
      → IsCountedIn i a (Opened o) line r) where
    abbrev life : LineLife
    life = life_of (a 0) line

    its_life : life_of (b 0) line ≡ life_of (a 0) line
    its_life = ap (λ (log : List Logged). life_of log line) h.own

    landed_before : (its : LineLife) → life_of (a 0) line ≡ its → (r : Record) → HasLandedIn i b its line r → HasLandedIn i a its line r
    landed_before its e r is = subst (λ x. HasLandedIn i a x line r) e (landed_in_told i b a (told_back i a b h) line r
        (subst (λ x. HasLandedIn i b x line r) (sym e ∙ sym its_life) is))

    counted_before : (its : LineLife) → life_of (a 0) line ≡ its → (r : Record) → IsCountedIn i b its line r → IsCountedIn i a its line r
    counted_before AsFound e r is = landed_before AsFound e r is
    counted_before (Opened o) e r (inl landed) = inl (landed_before (Opened o) e r landed)
    counted_before (Opened o) e r (inr is) = written o e r is
    counted_before (Freed was knows) e r is = absurd is

    counts : (r : Record) → IsCountedIn i b (life_of (b 0) line) line r → IsCountedIn i a (life_of (a 0) line) line r
    counts r is = counted_before life refl r (subst (λ l. IsCountedIn i b l line r) its_life is)

    pub may_free_told : MayFree i a line → MayFree i b line
    may_free_told may = record {
      in_range = may.in_range;
      seq = may.seq;
      has_seq = seq_told i a b h line ∙ may.has_seq;
      answered = answered_told line may.answered;
      newest = may.newest;
      is_newest = newest_told i a b h ∙ may.is_newest;
      older = may.older;
      below_front = λ r is. may.below_front r (counts r is);
      replaced = λ r lba is sector. replaced_still line lba r (may.replaced r lba (counts r is) sector);
      over = by_three i a b (λ log found known. list_all (λ (c : Chunk). is_over_state (is_as_found (life_of log line)) c.state)
          (chunks_of known line)) h ∙ may.over;
    }
