-- The tables of a core have a row of each line, and the victim at work is one of the lines.
use Rattle.std.proofs.Common.{◌≡◌, ℕ, ◌+◌, ◌^◌, ◌<◌, Some, length, sym, subst, ap, ◌∙◌}
use Rattle.std.specs.Prelude.{slice_get}
use Rattle.pblk_model.specs.declared.shape.Shape.{Shape}
use Rattle.pblk_model.specs.Shape.{units}
use Rattle.pblk_model.specs.Image.{Image}
use Rattle.pblk_world.specs.World.{World, Logs}
use Rattle.pblk_world.specs.LegalMounts.{IsLegalMount}
use Rattle.line_table.specs.Rows.{Table}
use Rattle.core_laws.specs.OpenedLines.{online_now}
use Rattle.core_laws.specs.RowsOf.{row_of_line}
use Rattle.core_laws.proofs.VictimsAtWork.{victim_is_closed}
use Rattle.pblk_model.proofs.Maps.{length_mapped, row_at}
use Rattle.pblk_core.specs.declared.collecting.Collection.{Collection}
use Rattle.pblk_core.specs.declared.target_core.Core.{Core}
use Rattle.pblk_core.specs.Collecting.{HasEachLine, IsCollecting, IsTabled}
use Rattle.pblk_core.specs.Stands.{Stands}
use Rattle.pblk_core.proofs.LineBits.{known_bits}

pub each_line : {c : Core} (i : Image) (w : World) (logs : Logs) → IsLegalMount i w → Stands i logs c → HasEachLine c
each_line {c} i w logs mount st =
    let chunks : i.shape.chunks ≡ c.layout.chunks = ap (λ (s : Shape). s.chunks) (sym st.layout) in
    record {
      rows = ap (λ (t : Table). length t.rows) st.table ∙ length_mapped (row_of_line i logs) 0 i.shape.chunks ∙ chunks;
      noted = st.notes.count ∙ chunks;
      online = ap length st.units ∙ length_mapped (online_now i logs) 0 i.shape.chunks ∙ chunks;
      few = λ line live there.
          let row = row_at (online_now i logs) i.shape.chunks 0 line live (ap (λ us. slice_get us line) (sym st.units) ∙ there) in
          subst (λ (s : Shape). live < 2 ^ units s) (sym st.layout)
          (subst (λ n. n < 2 ^ units i.shape) row.1 (known_bits i w logs (0 + line) mount));
    }

-- where the tables have as many rows as they had
pub each_kept : (old new : Core) → HasEachLine old → new.layout ≡ old.layout → new.online ≡ old.online
    → length new.lines.rows ≡ length old.lines.rows → length new.notes.rows.items ≡ length old.notes.rows.items → HasEachLine new
each_kept old new each layout live rows notes =
    let chunks = ap (λ (s : Shape). s.chunks) (sym layout) in
    record {
      rows = rows ∙ each.rows ∙ chunks;
      noted = notes ∙ each.noted ∙ chunks;
      online = ap (λ us. length us.items) live ∙ each.online ∙ chunks;
      few = λ line units_there there. subst (λ (s : Shape). units_there < 2 ^ units s) (sym layout)
          (each.few line units_there (ap (λ us. slice_get us.items line) (sym live) ∙ there));
    }

victim_inside : {c : Core} (is : IsCollecting c) (line : ℕ) → c.collection.victim ≡ Some line → line < c.layout.chunks
victim_inside is line at_work =
    subst (λ (s : Shape). line < s.chunks) (sym is.stands.layout)
    (victim_is_closed is.image is.world line is.legal (sym is.collects.victim ∙ at_work)).in_range

-- After a step of the inner tables, where no other line came to work.
pub tabled : (old mid : Core) → IsCollecting old → HasEachLine mid → mid.layout ≡ old.layout
    → length mid.collection.lines ≡ length old.collection.lines
    → ((line : ℕ) → mid.collection.victim ≡ Some line → old.collection.victim ≡ Some line) → IsTabled mid
tabled old mid is each layout count victim =
    let chunks = ap (λ (s : Shape). s.chunks) is.stands.layout in
    let own = ap (λ (s : Shape). s.chunks) layout in
    record {
      each = each;
      count = count ∙ is.collects.count ∙ sym chunks ∙ sym own;
      in_range = λ line at_work. subst (λ n. line < n) (sym own) (victim_inside is line (victim line at_work));
    }

-- where it stands for some logs of the mount
pub tabled_by_logs : (old mid : Core) (is : IsCollecting old) (logs : Logs) → Stands is.image logs mid
    → length mid.collection.lines ≡ length old.collection.lines
    → ((line : ℕ) → mid.collection.victim ≡ Some line → old.collection.victim ≡ Some line) → IsTabled mid
tabled_by_logs old mid is logs st count victim =
    tabled old mid is (each_line is.image is.world logs is.legal st) (st.layout ∙ sym is.stands.layout) count victim

-- where what is collected is the same
pub tabled_kept : (old mid : Core) → IsCollecting old → HasEachLine mid → mid.layout ≡ old.layout → mid.collection ≡ old.collection → IsTabled mid
tabled_kept old mid is each layout same = tabled old mid is each layout (ap (λ (x : Collection). length x.lines) same)
    (λ line at_work. sym (ap (λ (x : Collection). x.victim) same) ∙ at_work)

-- and it stands for some logs of the mount
pub tabled_same : (old mid : Core) (is : IsCollecting old) (logs : Logs) → Stands is.image logs mid → mid.collection ≡ old.collection → IsTabled mid
tabled_same old mid is logs st same =
    tabled_kept old mid is (each_line is.image is.world logs is.legal st) (st.layout ∙ sym is.stands.layout) same
