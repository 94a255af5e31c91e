-- A block of a stripe that names a sector or is Void is the block of one entry that was taken.
use Rattle.std.proofs.Common.{◌≡◌, ◌⊎◌, inl, inr, ℕ, zero, suc, not, ◌&&◌, Some, None, Option, List, [], map, take, drop, replicate, refl, sym, subst, ap, ◌∙◌}
use Rattle.std.specs.List.{AllByRecursion, Contains, filter}
use Rattle.pblk_model.specs.declared.shape.Shape.{Shape}
use Rattle.pblk_model.specs.declared.chunk.Mark.{Mark}
use Rattle.pblk_model.specs.Accepted.{IsAccepted}
use Rattle.pblk_model.specs.Blocks.{blocks_of}
use Rattle.pblk_model.specs.Chunk.{Block}
use Rattle.pblk_model.specs.Image.{Image}
use Rattle.pblk_model.specs.Marks.{meta_mark, pad_block}
use Rattle.pblk_model.specs.Records.{named}
use Rattle.pblk_world.specs.Events.{Take, Stripe, Source, Entry, Decides, Logged}
use Rattle.pblk_world.specs.World.{World, Logs, log_of}
use Rattle.pblk_world.specs.EngineLog.{Opening, Placed, placements, Taken, takes, block_of_taken}
use Rattle.pblk_world.specs.Fronts.{waits, was_placed, waiting}
use Rattle.pblk_world.specs.Legal.{IsLegal}
use Rattle.pblk_world.specs.Placing.{record_blocks, stripe_at, data_blocks, IsStart, IsData, IsEnd, IsPad, MayPlace}
use Rattle.pblk_world.specs.Taking.{IsMarked}
use Rattle.pblk_world.specs.Victims.{engine_prefix}
use Rattle.pblk_world.proofs.EngineLogLemmas.{takes_more}
use Rattle.pblk_laws.proofs.MarkNames.{meta_none, pad_none}
use Rattle.pblk_model.proofs.Lists.{IsAmong, all_append, all_imply, all_replicated, among_all, among_more}
use Rattle.pblk_model.proofs.Maps.{all_filter, all_mapped}
use Rattle.pblk_model.proofs.Parts.{all_dropped, all_taken, take_and_drop}
use Rattle.world_laws.proofs.Engine.{Keeps, logged_as, of_engine}
use Rattle.world_laws.proofs.Later.{takes_joined}
use Rattle.world_laws.proofs.Openings.{placed_at}
use Rattle.world_laws.proofs.Stripes.{IsPlaced, placed_is}

-- the block of an entry of the log, or one that names nothing
abbrev pub IsEntryOrNone : Shape → List Logged → Block → Type 0
IsEntryOrNone s log b = (named s b.mark ≡ None) ⊎ ((t : Taken) × IsAmong (takes log) t × (block_of_taken t ≡ b))

pads_name_none : (s : Shape) (log : List Logged) (n : ℕ) → IsAccepted s → AllByRecursion (IsEntryOrNone s log) (replicate n (pad_block s))
pads_name_none s log n accepted = all_replicated (IsEntryOrNone s log) n (pad_block s) (inl (pad_none s accepted))

records_name_none : (s : Shape) (log : List Logged) (size seq n : ℕ) (bytes : List ℕ) → IsAccepted s
    → AllByRecursion (IsEntryOrNone s log) (blocks_of size bytes (replicate n (meta_mark seq)))
records_name_none s log size seq zero bytes accepted = tt
records_name_none s log size seq (suc n) bytes accepted = (inl (meta_none s seq accepted), records_name_none s log size seq n (drop size bytes) accepted)

parts_name_none : (s : Shape) (log : List Logged) (seq n : ℕ) (bytes : List ℕ) (begins a : ℕ) → IsAccepted s
    → AllByRecursion (IsEntryOrNone s log) (stripe_at s (record_blocks s seq n bytes) begins a)
parts_name_none s log seq n bytes begins a accepted =
    all_taken (IsEntryOrNone s log) _ (drop _ (record_blocks s seq n bytes))
    (all_dropped (IsEntryOrNone s log) _ (record_blocks s seq n bytes) (records_name_none s log s.sector seq n bytes accepted))

entries_are : (s : Shape) (k : ℕ) (log : List Logged) → AllByRecursion (λ t. IsEntryOrNone s log (block_of_taken t)) (takes (take k log))
entries_are s k log = all_imply (IsAmong (takes (take k log))) (λ t. IsEntryOrNone s log (block_of_taken t))
    (λ t at. inr (
      t,
      subst (λ ts. IsAmong ts t) (sym (takes_joined (take k log) (drop k log)) ∙ ap takes (take_and_drop k log))
          (among_more (takes (take k log)) (takes (drop k log)) t at),
      refl,
    ))
    (takes (take k log)) (among_all (takes (take k log)))

data_are : (s : Shape) (k : ℕ) (log : List Logged) → IsAccepted s → AllByRecursion (IsEntryOrNone s log) (data_blocks s (take k log))
data_are s k log accepted =
    let part : List Logged = take k log in
    let all = entries_are s k log in
    let wait : AllByRecursion (λ t. IsEntryOrNone s log (block_of_taken t)) (waiting s part) =
    all_append (λ t. IsEntryOrNone s log (block_of_taken t)) (filter (λ t. waits s part t && was_placed s part t) (takes part))
    (filter (λ t. not (was_placed s part t)) (takes part))
    (all_filter (λ t. IsEntryOrNone s log (block_of_taken t)) (λ t. waits s part t && was_placed s part t) (takes part) all)
    (all_filter (λ t. IsEntryOrNone s log (block_of_taken t)) (λ t. not (was_placed s part t)) (takes part) all) in
    all_append (IsEntryOrNone s log) (map block_of_taken (take s.ws_opt (waiting s part))) _
    (all_mapped (IsEntryOrNone s log) block_of_taken (take s.ws_opt (waiting s part))
    (all_taken (λ t. IsEntryOrNone s log (block_of_taken t)) s.ws_opt (waiting s part) wait))
    (pads_name_none s log _ accepted)

kind_has : (i : Image) (w : World) (k : ℕ) (o : Opening) (stripe : Stripe) → IsAccepted i.shape
    → IsStart i (engine_prefix k (log_of w)) o stripe ⊎ (IsData i (engine_prefix k (log_of w)) o stripe
    ⊎ (IsEnd i (engine_prefix k (log_of w)) o stripe ⊎ IsPad i (engine_prefix k (log_of w)) o stripe))
    → AllByRecursion (IsEntryOrNone i.shape (log_of w 0)) stripe.blocks
kind_has i w k o stripe accepted (inl is) =
    subst (AllByRecursion (IsEntryOrNone i.shape (log_of w 0))) (sym is.blocks) (parts_name_none i.shape (log_of w 0) o.start.seq _ _ _ _ accepted)
kind_has i w k o stripe accepted (inr (inl is)) =
    subst (AllByRecursion (IsEntryOrNone i.shape (log_of w 0))) (sym is.blocks) (data_are i.shape k (log_of w 0) accepted)
kind_has i w k o stripe accepted (inr (inr (inl is))) =
    subst (AllByRecursion (IsEntryOrNone i.shape (log_of w 0))) (sym is.blocks) (parts_name_none i.shape (log_of w 0) o.start.seq _ _ _ _ accepted)
kind_has i w k o stripe accepted (inr (inr (inr is))) =
    subst (AllByRecursion (IsEntryOrNone i.shape (log_of w 0))) (sym is.blocks) (pads_name_none i.shape (log_of w 0) i.shape.ws_opt accepted)

pub entries_of_stripe : (i : Image) (w : World) (p : Placed) → IsAccepted i.shape → IsLegal i w → Contains (placements (log_of w 0)) p
    → AllByRecursion (IsEntryOrNone i.shape (log_of w 0)) p.stripe.blocks
entries_of_stripe i w p accepted legal there =
    let is : IsPlaced (log_of w 0) p = placed_is (log_of w 0) p there in
    let may : MayPlace i (engine_prefix p.number (log_of w)) p.stripe = placed_at i w p.number p.stripe is.logged legal is.there is.event in
    kind_has i w p.number may.opening p.stripe accepted may.kind

-- ---- marks bear the positions of their entries

AreMarked : List Logged → Type 0
AreMarked log = AllByRecursion (λ (t : Taken). t.mark.position ≡ t.entry.position) (takes log)

pub marked : (i : Image) (logs : Logs) (entry : Entry) (mark : Mark) (source : Option Source) → IsMarked i logs entry mark source
    → mark.position ≡ entry.position
marked i logs entry mark None is = ap (λ (m : Mark). m.position) is
marked i logs entry mark (Some source) (inl is) = ap (λ (m : Mark). m.position) is.names_sector
marked i logs entry mark (Some source) (inr is) = ap (λ (m : Mark). m.position) is.names_none

keeps_marks : (i : Image) → Keeps i AreMarked
unfolding AreMarked
keeps_marks i logs (Decides (Take entry mark)) knows may h =
    subst (AllByRecursion (λ (t : Taken). t.mark.position ≡ t.entry.position)) (sym (takes_more (logs 0) (logged_as (Decides (Take entry mark)) knows)))
    (all_append (λ (t : Taken). t.mark.position ≡ t.entry.position) (takes (logs 0)) _ h (marked i logs entry mark entry.source may.2.marked, tt))
keeps_marks i logs e knows may h =
    subst (AllByRecursion (λ (t : Taken). t.mark.position ≡ t.entry.position)) (sym (takes_more (logs 0) (logged_as e knows)))
    (all_append (λ (t : Taken). t.mark.position ≡ t.entry.position) (takes (logs 0)) [] h tt)

pub marks_bear : (i : Image) (w : World) → IsLegal i w → AllByRecursion (λ (t : Taken). t.mark.position ≡ t.entry.position) (takes (log_of w 0))
unfolding AreMarked
marks_bear i w legal = of_engine i AreMarked tt (keeps_marks i) w legal
