-- What the blocks of the stripes of a line are.
use Rattle.std.proofs.Common.{replicate, refl, not, ◌≡◌, ◌≢◌, ◌⊎◌, ℕ, ◌+◌, ◌-◌, ◌*◌, ◌/◌, ◌<◌, ◌≤◌, ◌==◌, nat_lt, true, false, Bool, Some, None, List, ◌++◌, length, take, drop, sym, subst, ap, ◌∙◌, arith, inl, inr, if◌then◌else◌}
use Rattle.std.specs.Prelude.{slice_get, slice_range, is_some, nat_le}
use Rattle.std.specs.List.{AllByRecursion}
use Rattle.std.proofs.Math.Nat.{mul-le-mul_right}
use Rattle.pblk_model.specs.declared.shape.Shape.{Shape}
use Rattle.pblk_model.specs.declared.chunk.Mark.{Mark}
use Rattle.pblk_model.specs.Accepted.{IsAccepted}
use Rattle.pblk_model.specs.Chunk.{Block}
use Rattle.pblk_model.specs.Image.{Image}
use Rattle.pblk_model.specs.Marks.{pad_block, meta_mark, pad_lba, void_lba}
use Rattle.pblk_model.specs.Records.{named}
use Rattle.pblk_model.specs.LineOrder.{start_len, end_len}
use Rattle.pblk_model.specs.StartRecord.{start_bytes}
use Rattle.pblk_world.specs.Events.{Stripe, Logged}
use Rattle.pblk_world.specs.World.{World, Logs, log_of}
use Rattle.pblk_world.specs.EngineLog.{Placed, Opening, Taken, takes, stripes_of, has_failed}
use Rattle.pblk_world.specs.Placing.{IsNext, IsStart, IsData, IsEnd, IsPad, record_blocks, data_blocks, end_address}
use Rattle.stripe_placer.specs.Placing.{Program}
use Rattle.pblk_world.specs.LegalMounts.{IsLegalMount}
use Rattle.core_laws.specs.PlacedEntries.{AreSectorsOrVoid}
use Rattle.core_laws.proofs.LogOrders.{in_order}
use Rattle.core_laws.proofs.Followed.{follow}
use Rattle.core_laws.proofs.LandedNow.{opened_now}
use Rattle.core_laws.proofs.StripesInOrder.{its_stripes}
use Rattle.core_laws.proofs.FirstLanded.{first_passing}
use Rattle.core_laws.proofs.PartLengths.{IsStriped}
use Rattle.core_laws.proofs.UnitTurns.{filtered_is}
use Rattle.core_laws.proofs.WholePlaces.{was_whole, whole_first}
use Rattle.core_laws.proofs.PlainOpenings.{IsOpenedLine, opened_lines}
use Rattle.pblk_laws.proofs.MarkNames.{pad_none, meta_none}
use Rattle.pblk_world.specs.Victims.{engine_prefix}
use Rattle.world_laws.proofs.Later.{takes_joined}
use Rattle.world_laws.proofs.LineStarts.{cut_marks}
use Rattle.world_laws.proofs.LineStripes.{IsKind, stripe_kind, turn_of_stripe}
use Rattle.pblk_core.proofs.DataBlocks.{IsOfTaken, data_taken}
use Rattle.pblk_core.proofs.LineUnits.{now_units}
use Rattle.pblk_core.proofs.LandedWay.{IsOnWay}
use Rattle.pblk_core.specs.LineRecords.{placed_whole}
use Rattle.pblk_core.specs.Stands.{IsOpenLine}
use Rattle.pblk_core.specs.declared.open_lines.OpenLine.{OpenLine}
use Rattle.pblk_core.proofs.LandedReads.{IsChunkRead}
use Rattle.pblk_core.proofs.LandedChunk.{HasKind, AreKinds, chunk_read}
use Rattle.pblk_model.proofs.Lists.{IsAmong, all_front, all_replicated}
use Rattle.pblk_model.proofs.Parts.{all_at, all_dropped, all_taken, contained_among, get_more, get_whole, take_and_drop}
use Rattle.pblk_model.proofs.Tests.{not_both, not_true, first_of, within_is}

-- a block of a record has its mark
of_record : (s : Shape) (seq count : ℕ) (bytes : List ℕ) (from to : ℕ) (b : Block) → IsAccepted s
    → IsAmong (slice_range (record_blocks s seq count bytes) from to) b → is_some (named s b.mark) ≡ false
of_record s seq count bytes from to b accepted at =
    let all : AllByRecursion (λ (x : Block). x.mark ≡ meta_mark seq) (slice_range (record_blocks s seq count bytes) from to) =
    all_taken (λ (x : Block). x.mark ≡ meta_mark seq) (to - from) (drop from (record_blocks s seq count bytes))
    (all_dropped (λ (x : Block). x.mark ≡ meta_mark seq) from (record_blocks s seq count bytes) (cut_marks s.sector count bytes (meta_mark seq))) in
    ap (λ m. is_some (named s m)) (all_at (λ (x : Block). x.mark ≡ meta_mark seq) (slice_range (record_blocks s seq count bytes) from to) at.0 b at.1 all)
    ∙ ap is_some (meta_none s seq accepted)

abbrev by_lba : Shape → ℕ → Bool
by_lba s lba = is_some (if nat_lt lba s.capacity then Some (Some lba) else (if lba == void_lba then Some None else None))

-- ---- the stripe that is placed next

of_taken : (s : Shape) (log : List Logged) (b : Block) → IsAccepted s → AreSectorsOrVoid s log → IsOfTaken s (takes log) b
    → ((b.mark.lba ≡ pad_lba) × (is_some (named s b.mark) ≡ false))
    ⊎ ((b.mark.lba ≢ pad_lba) × (is_some (named s b.mark) ≡ true) × ((t : Taken) × IsAmong (takes log) t × (b.mark ≡ t.mark)))
of_taken s log b accepted names (inl pad) =
    inl (ap (λ (x : Block). x.mark.lba) pad, ap (λ (x : Block). is_some (named s x.mark)) pad ∙ ap is_some (pad_none s accepted))
of_taken s log b accepted names (inr (k, t, at, same)) =
    let mark : b.mark ≡ t.mark = ap (λ (x : Block). x.mark) same in
    let some : is_some (named s b.mark) ≡ true =
    ap (λ (m : Mark). is_some (named s m)) mark ∙ all_at (λ (t : Taken). is_some (named s t.mark) ≡ true) (takes log) k t at names in
    inr (λ pad. let clash : true ≡ false = sym some ∙ ap (by_lba s) pad ∙ ap is_some (pad_none s accepted) in absurd cc, some, (t, (k, at), mark))

module _ (i : Image) (ls : Logs) (o : Opening) (stripe : Stripe) (accepted : IsAccepted i.shape) (names : AreSectorsOrVoid i.shape (ls 0))
    (striped : IsStriped i.shape o.start.width) (sound : has_failed (ls 0) o ≡ false) where
  abbrev count : ℕ
  count = length (stripes_of (ls 0) o)

  abbrev Here : Type 0
  Here = HasKind i.shape (takes (ls 0)) o count stripe.blocks

  start_kind : IsStart i ls o stripe → Here
  start_kind is = record {
    outside = λ b at side. of_record i.shape o.start.seq (start_len i.shape) (start_bytes i.shape o.start) (count * i.shape.ws_opt - 0)
        (count * i.shape.ws_opt - 0 + i.shape.ws_opt) b accepted
        (at.0, ap (λ bs. slice_get bs at.0) (sym is.blocks) ∙ at.1);
    data_of = λ b at low high. let within : count * i.shape.ws_opt < start_len i.shape = is.within in absurd (omega arith);
  }

  end_kind : IsEnd i ls o stripe → Here
  end_kind is = record {
    outside = λ b at side. of_record i.shape o.start.seq (end_len i.shape o.start.width) _ (count * i.shape.ws_opt - end_address i.shape o)
        (count * i.shape.ws_opt - end_address i.shape o + i.shape.ws_opt) b accepted
        (at.0, ap (λ bs. slice_get bs at.0) (sym is.blocks) ∙ at.1);
    data_of = λ b at low high. let from : end_address i.shape o ≤ count * i.shape.ws_opt = is.from in absurd (omega arith);
  }

  behind_start : IsData i ls o stripe → start_len i.shape ≤ count * i.shape.ws_opt
  behind_start is =
      let enough : start_len i.shape / i.shape.ws_opt ≤ count =
      within_is (start_len i.shape / i.shape.ws_opt) count (first_of (nat_le (start_len i.shape / i.shape.ws_opt) count) _ is.start_landed) in
      let whole : start_len i.shape / i.shape.ws_opt * i.shape.ws_opt ≡ start_len i.shape = striped.start_is in
      let more : start_len i.shape / i.shape.ws_opt * i.shape.ws_opt ≤ count * i.shape.ws_opt = mul-le-mul_right i.shape.ws_opt enough in
      omega arith

  data_kind : IsData i ls o stripe → Here
  data_kind is = record {
    outside = λ b at side. absurd (between side);
    data_of = λ b at low high. of_taken i.shape (ls 0) b accepted names
        (all_at (IsOfTaken i.shape (takes (ls 0))) (data_blocks i.shape (ls 0)) at.0 b (ap (λ bs. slice_get bs at.0) (sym is.blocks) ∙ at.1)
        (data_taken i.shape (ls 0)));
  }
    where
      between : (count * i.shape.ws_opt < start_len i.shape) ⊎ (end_address i.shape o ≤ count * i.shape.ws_opt) → ⊥
      between (inl low) = let from : start_len i.shape ≤ count * i.shape.ws_opt = behind_start is in absurd (omega arith)
      between (inr high) = let within : count * i.shape.ws_opt < end_address i.shape o = is.within in absurd (omega arith)

  pub kind_of : IsStart i ls o stripe ⊎ (IsData i ls o stripe ⊎ (IsEnd i ls o stripe ⊎ IsPad i ls o stripe))
      → HasKind i.shape (takes (ls 0)) o (length (stripes_of (ls 0) o)) stripe.blocks
  kind_of (inl is) = start_kind is
  kind_of (inr (inl is)) = data_kind is
  kind_of (inr (inr (inl is))) = end_kind is
  kind_of (inr (inr (inr is))) = let failed : has_failed (ls 0) o ≡ true = is.failed in absurd cc

-- ---- each stripe

more_taken : (s : Shape) (log more : List Logged) (o : Opening) (j : ℕ) (blocks : List Block) → HasKind s (takes log) o j blocks
    → HasKind s (takes (log ++ more)) o j blocks
more_taken s log more o j blocks is = record {
  outside = is.outside;
  data_of = λ b at low high. go b (is.data_of b at low high);
}
  where
    go : (b : Block) → ((b.mark.lba ≡ pad_lba) × (is_some (named s b.mark) ≡ false))
        ⊎ ((b.mark.lba ≢ pad_lba) × (is_some (named s b.mark) ≡ true) × ((t : Taken) × IsAmong (takes log) t × (b.mark ≡ t.mark)))
        → ((b.mark.lba ≡ pad_lba) × (is_some (named s b.mark) ≡ false))
        ⊎ ((b.mark.lba ≢ pad_lba) × (is_some (named s b.mark) ≡ true) × ((t : Taken) × IsAmong (takes (log ++ more)) t × (b.mark ≡ t.mark)))
    go b (inl pad) = inl pad
    go b (inr e) =
        let at : slice_get (takes (log ++ more)) e.2.1.0 ≡ Some e.2.0 =
        ap (λ ts. slice_get ts e.2.1.0) (takes_joined log more) ∙ get_more (takes log) (takes more) e.2.1.0 e.2.0 e.2.1.1 in
        inr (e.0, e.1, (e.2.0, (e.2.1.0, at), e.2.2))

module _ (i : Image) (w : World) (unit : ℕ) (of : Program) (mount : IsLegalMount i w) (is : IsOnWay i w unit of) where
  abbrev log : List Logged
  log = log_of w 0

  abbrev o : Opening
  o = is.row.opening

  names : (first more : List Logged) → first ++ more ≡ log_of w 0 → AreSectorsOrVoid i.shape first
  names first more whole =
      (all_front (λ (t : Taken). is_some (named i.shape t.mark) ≡ true) (takes first) (takes more)
      (subst (AllByRecursion (λ (t : Taken). is_some (named i.shape t.mark) ≡ true)) (ap takes (sym whole) ∙ takes_joined first more)
      (in_order i w mount).named)).0

  -- what the stripe was when it was placed
  kind_then : (p : Placed) → IsAmong (stripes_of (log_of w 0) is.row.opening) p → IsKind i (engine_prefix p.number (log_of w)) is.row.opening p.stripe
  kind_then p among = stripe_kind i w o p mount.legal (opened_now i w mount is.row.stripe.stripe.line o is.stands).0
      (contained_among (stripes_of log o) p among)

  whole_kind : (j : ℕ) (p : Placed) → slice_get (placed_whole (log_of w 0) is.row.opening) j ≡ Some p
      → HasKind i.shape (takes (log_of w 0)) is.row.opening j p.stripe.blocks
  whole_kind j p there =
      let first = whole_first log o in
      let at : slice_get (stripes_of log o) j ≡ Some p = get_whole first.0 (stripes_of log o) j p
      (ap (λ (ps : List Placed). slice_get ps j) (sym (first_passing (was_whole log o) first.0 (stripes_of log o) first.1)) ∙ there) in
      let passes : was_whole log o p ≡ true = filtered_is (was_whole log o) (stripes_of log o) j p there in
      let well : IsOpenedLine i (now_units i w) is.row.stripe.stripe.line o =
      opened_lines i (now_units i w) w (follow i w mount) is.row.stripe.stripe.line o is.stands in
      let then_ : HasKind i.shape (takes (take p.number log)) o (length (stripes_of (take p.number log) o)) p.stripe.blocks =
      kind_of i (engine_prefix p.number (log_of w)) o p.stripe mount.accepted (names (take p.number log) (drop p.number log) (take_and_drop p.number log))
      (subst (IsStriped i.shape) (sym well.width)
      (its_stripes i (now_units i w) is.row.stripe.stripe.line o mount.accepted.drive.ws_opt mount.accepted.drive.whole_stripes well))
      (not_true (has_failed (take p.number log) o) passes) (kind_then p (j, at)) in
      subst (λ (xs : List Logged). HasKind i.shape (takes xs) o j p.stripe.blocks) (take_and_drop p.number log)
      (more_taken i.shape (take p.number log) (drop p.number log) o j p.stripe.blocks
      (subst (λ n. HasKind i.shape (takes (take p.number log)) o n p.stripe.blocks) (turn_of_stripe log o j p at) then_))

  pad_kind : (p : Placed) → IsAmong (stripes_of (log_of w 0) is.row.opening) p → was_whole (log_of w 0) is.row.opening p ≡ false
      → (b : Block) → IsAmong p.stripe.blocks b → is_some (named i.shape b.mark) ≡ false
  pad_kind p among fails b at = go (kind_then p among)
    where
      next_fails : IsNext i (engine_prefix p.number (log_of w)) is.row.opening p.stripe → ⊥
      next_fails next = not_both (was_whole log o p) (ap not next.not_failed) fails

      go : IsKind i (engine_prefix p.number (log_of w)) is.row.opening p.stripe → is_some (named i.shape b.mark) ≡ false
      go (inl start) = absurd (next_fails start.next)
      go (inr (inl data_is)) = absurd (next_fails data_is.next)
      go (inr (inr (inl end))) = absurd (next_fails end.next)
      go (inr (inr (inr pad))) =
          let same : b ≡ pad_block i.shape = all_at (λ (x : Block). x ≡ pad_block i.shape) (replicate i.shape.ws_opt (pad_block i.shape)) at.0 b
          (ap (λ bs. slice_get bs at.0) (sym pad.blocks) ∙ at.1)
          (all_replicated (λ (x : Block). x ≡ pad_block i.shape) i.shape.ws_opt (pad_block i.shape) refl) in
          ap (λ (x : Block). is_some (named i.shape x.mark)) same ∙ ap is_some (pad_none i.shape mount.accepted)

  are_kinds : AreKinds i w is.row.opening
  are_kinds = record { whole = whole_kind; pads = pad_kind }

pub chunk_is_read : (i : Image) (w : World) (unit : ℕ) (of : Program) (slot : OpenLine) → IsLegalMount i w → (is : IsOnWay i w unit of)
    → IsOpenLine i (log_of w) is.row.opening slot → IsChunkRead i w unit is.row.opening slot
chunk_is_read i w unit of slot mount is kept = chunk_read i w unit of slot mount is kept (are_kinds i w unit of mount is)
