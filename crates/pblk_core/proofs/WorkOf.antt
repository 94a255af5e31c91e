-- What a core names as its next work is what the logs name.
use Rattle.std.proofs.Common.{◌≡◌, ◌+◌, ◌==◌, ◌^◌, ◌&&◌, ◌||◌, not, nat_lt, Bool, true, false, None, Some, Option, length, refl, sym, ap, ap₂, ◌∙◌}
use Rattle.std.specs.Prelude.{position, slice_get}
use Rattle.std.specs.Option.{is_some, option_map_or}
use Rattle.std.proofs.lemmas.List.{length-map}
use Rattle.pblk_model.specs.Image.{Image}
use Rattle.pblk_model.specs.declared.run.Front.{Front}
use Rattle.pblk_world.specs.World.{World, log_of}
use Rattle.pblk_world.specs.EngineLog.{Begun, openings}
use Rattle.pblk_world.specs.Fronts.{synced, waiting}
use Rattle.line_table.specs.Rows.{is_free}
use Rattle.stripe_placer.specs.Entries.{waiting as entries_waiting}
use Rattle.stripe_placer.specs.Placing.{next_stripe}
use Rattle.write_window.specs.Window as view
use Rattle.core_laws.specs.OpenedLines.{open_line, open_lines}
use Rattle.core_laws.proofs.LeftLines.{lines_of_left}
use Rattle.pblk_core.specs.declared.target_core.Core.{Core}
use Rattle.pblk_world.specs.LegalMounts.{IsLegalMount}
use Rattle.pblk_core.specs.Collecting.{Collects}
use Rattle.pblk_core.specs.Copies.{is_copying}
use Rattle.pblk_core.specs.Stands.{Stands, left_openings}
use Rattle.pblk_core.specs.Named.{choice, reset_or, asks_line, has_free, may_open, may_copy, is_busy, named_beside, named, pad_of, work_beside, work_of, first_seq_of}
use Rattle.pblk_core.specs.Resets.{resets_left}
use Rattle.pblk_core.specs.declared.resets.LineChunk.{LineChunk}
use Rattle.pblk_core.specs.declared.work.Work.{Work}
use Rattle.pblk_core.specs.declared.work.Work.TheVariants.{Program}
use Rattle.pblk_core.proofs.CopiesDue.{copy_due_is, waiting_count}
use Rattle.pblk_core.proofs.StandsLemmas.{synced_stands}

pub synced_at : (i : Image) (w : World) (c : Core) → IsLegalMount i w → Stands i (log_of w) c → (view.synced c.window).position ≡ synced i.shape (log_of w 0)
synced_at i w c mount st = ap (λ (f : Front). f.position) (synced_stands i w c mount st)

-- how many lines have a stripe left
pub open_count : (i : Image) (w : World) (c : Core) → Stands i (log_of w) c → c.open.count ≡ length (open_lines i (log_of w))
open_count i w c st = st.open_lines.count ∙ sym (length-map (left_openings i (log_of w)) (open_line i (log_of w)))
    ∙ ap length (sym (lines_of_left i (log_of w)))

same_choice : (a b : Bool) (m n : Bool) (p q : Bool) (s t : Bool) (u v : Bool) (x y : Bool) → a ≡ b → m ≡ n → p ≡ q → s ≡ t → u ≡ v → x ≡ y
    → choice a m p s u x ≡ choice b n q t v y
same_choice a b m n p q s t u v x y e f g h l k = λ j. choice (e j) (f j) (g j) (h j) (l j) (k j)

beside_is : (i : Image) (w : World) (c : Core) → IsLegalMount i w → (st : Stands i (log_of w) c) → Collects i (log_of w) c
    → named_beside c ≡ work_beside i (log_of w) (pad_of c) st.again (is_copying c)
beside_is i w c mount st col = same_choice _ _ _ _ _ _ _ _ _ _ _ _
    (ap (λ p. is_some (next_stripe p 0)) st.placing)
    (ap₂ (λ a n. a && (n == 0)) waits st.left)
    (ap (λ t. is_some (position is_free t.rows)) st.table)
    (ap₂ (λ a b. nat_lt a 2 && b) (open_count i w c st) (ap₂ (λ m n. nat_lt m (2 ^ 61) && nat_lt n (2 ^ 61)) seq (synced_at i w c mount st)))
    (ap (λ b. b && not (is_copying c)) (copy_due_is i w c mount st col))
    (ap (λ n. nat_lt 0 n || is_copying c) st.in_flight)
  where
    waits : nat_lt 0 (length (entries_waiting c.placer.entries)) ≡ nat_lt 0 (length (waiting i.shape (log_of w 0)))
    waits = ap (nat_lt 0) (waiting_count i w c st)

    seq : c.start.seq ≡ first_seq_of (log_of w) + length (openings (log_of w 0))
    seq = st.next_seq ∙ ap (λ n. n + length (openings (log_of w 0))) (sym (ap (λ o. option_map_or (λ (b : Begun). b.beginning.seq) o 0) st.has_begun))

pub work_is : (i : Image) (w : World) (c : Core) → IsLegalMount i w → (st : Stands i (log_of w) c) → Collects i (log_of w) c
    → named c ≡ work_of i (log_of w) (pad_of c) st.again (is_copying c)
work_is i w c mount st col = ap₂ (λ rs otherwise. reset_or (slice_get rs 0) otherwise) st.resets (beside_is i w c mount st col)

-- what a program that is named tells
some_stripe : (a b c d e f : Bool) → choice a b c d e f ≡ Program → a ≡ true
some_stripe true b c d e f h = refl
some_stripe false true true true e f h = absurd cc
some_stripe false true true false true f h = absurd cc
some_stripe false true true false false f h = absurd cc
some_stripe false true false d true f h = absurd cc
some_stripe false true false d false f h = absurd cc
some_stripe false false c d true f h = absurd cc
some_stripe false false c d false f h = absurd cc

beside_reset : (o : Option LineChunk) (otherwise : Work) → reset_or o otherwise ≡ Program → otherwise ≡ Program
beside_reset None otherwise e = e
beside_reset (Some chunk) otherwise e = absurd cc

pub program_named : (c : Core) → named c ≡ Program → is_some (next_stripe c.placer 0) ≡ true
program_named c h = some_stripe (is_some (next_stripe c.placer 0)) (asks_line c) (has_free c) (may_open c) (may_copy c) (is_busy c)
    (beside_reset (slice_get (resets_left c.resets) 0) (named_beside c) h)
