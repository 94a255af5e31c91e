-- An image that lost records holds what it held, where its head, its end and the winners stand.
use Rattle.std.proofs.Common.{◌≡◌, ℕ, ◌<◌, ◌≤◌, Some, None, Option, List, refl, sym, subst, ap, ◌∙◌}
use Rattle.std.specs.Prelude.{map}
use Rattle.std.specs.List.{Contains, filter, range_with_len}
use Rattle.std.specs.Option.{option_map_or}
use Rattle.std.proofs.lemmas.Option.{none-some}
use Rattle.pblk_model.specs.declared.shape.Shape.{Shape}
use Rattle.pblk_model.specs.Bytes.{zeros}
use Rattle.pblk_model.specs.Image.{Image}
use Rattle.pblk_model.specs.StartRecord.{StartRecord}
use Rattle.pblk_model.specs.Records.{Record, line_records, records}
use Rattle.pblk_model.specs.Contents.{IsEnd, IsWinner, head, end, end_after, counts, counted, counted_after, winner, sector_of, contents}
use Rattle.pblk_laws.proofs.Ends.{end_is_end, end_is_only}
use Rattle.pblk_laws.proofs.Heads.{head_is_head, head_is_only, no_head_no_start}
use Rattle.pblk_laws.proofs.Winners.{winner_is_winner, winner_is_only, no_winner_no_record, no_winner}
use Rattle.pblk_model.proofs.Lists.{among_contained, contains_none}
use Rattle.pblk_model.proofs.Maps.{map_same, filtered_from, filtered_into}
use Rattle.pblk_model.proofs.Parts.{contained_among}
use Rattle.prefix_law.specs.AfterMount.{IsOldLine, IsReduced}
use Rattle.prefix_law.proofs.Assembly.{counts_young}
use Rattle.prefix_law.proofs.RecordLines.{IsAt, record_is_at, of_line}

-- a record of an old line is one that was found
pub old_record : (found now : Image) (x : Record) → now.shape ≡ found.shape → (at : IsAt now x) → IsOldLine found now x.line at.start
    → Contains (records found) x
old_record found now x shape at old =
    let there : Contains (line_records found x.line) x = old.bears x (contained_among (line_records now x.line) x at.there) in
    of_line found x.line x (subst (λ (s : Shape). x.line < s.chunks) shape at.in_range) (among_contained (line_records found x.line) x there)

counted_of : (i : Image) (h : StartRecord) → head i ≡ Some h → counted i ≡ filter (counts h (end i)) (records i)
counted_of i h is = ap (counted_after (records i)) is ∙ ap (λ p. filter (counts h p) (records i)) (sym (ap (end_after (records i)) is))

-- a record of the head's mount counts below the end
pub counted_young : (i : Image) (h : StartRecord) (x : Record) → head i ≡ Some h → Contains (records i) x → h.first_seq ≤ x.seq → x.position < end i
    → Contains (counted i) x
counted_young i h x is there mount below =
    subst (λ rs. Contains rs x) (sym (counted_of i h is)) (filtered_into (counts h (end i)) (records i) x there (counts_young h (end i) x mount below))

module _ (found now : Image) (c : IsReduced found now) where
  inside_found : (line : ℕ) → line < now.shape.chunks → line < found.shape.chunks
  inside_found line low = subst (λ (s : Shape). line < s.chunks) c.shape low

  was_found : (x : Record) → Contains (records now) x → Contains (records found) x
  was_found x there =
      let at : IsAt now x = record_is_at now x there in
      old_record found now x c.shape at (c.lines x.line at.start at.in_range at.whole)

  head_same : head now ≡ head found
  head_same = go (head found) refl
    where
      none : head found ≡ None → (o : Option StartRecord) → head now ≡ o → o ≡ None
      none e None is = refl
      none e (Some h) is =
          let at = head_is_head now h is in
          let low : at.0 < now.shape.chunks = at.1.here in
          absurd (none-some h (sym (no_head_no_start found at.0 e (inside_found at.0 low)) ∙ (c.lines at.0 h low at.1.whole).start))

      go : (o : Option StartRecord) → head found ≡ o → head now ≡ o
      go None e = none e (head now) refl
      go (Some h) e =
          let at = head_is_head found h e in
          head_is_only now at.0 h (record {
            here = subst (λ (s : Shape). at.0 < s.chunks) (sym c.shape) at.1.here;
            whole = c.head_stands at.0 h at.1;
            greatest = λ other r inside whole. at.1.greatest other r (inside_found other inside) (c.lines other r inside whole).start;
          })

  pub end_same : end now ≡ end found
  end_same = go (head found) refl
    where
      go : (o : Option StartRecord) → head found ≡ o → end now ≡ end found
      go None e = ap (end_after (records now)) (head_same ∙ e) ∙ sym (ap (end_after (records found)) e)
      go (Some h) e =
          let was : IsEnd (records found) h (end found) = end_is_end found h e in
          sym (end_is_only now h (end found) (head_same ∙ e) (record {
            from_front = was.from_front;
            missing = λ x there. was.missing x (was_found x there);
            least = λ p low high. c.borne h p e low high;
          }))

  -- ---- what counts

  counted_before : (x : Record) → Contains (counted now) x → Contains (counted found) x
  counted_before x there = go (head found) refl
    where
      go : (o : Option StartRecord) → head found ≡ o → Contains (counted found) x
      go None e = absurd (contains_none x (subst (λ rs. Contains rs x) (ap (counted_after (records now)) (head_same ∙ e)) there))
      go (Some h) e =
          let parts = filtered_from (counts h (end now)) (records now) x (subst (λ rs. Contains rs x) (counted_of now h (head_same ∙ e)) there) in
          subst (λ rs. Contains rs x) (sym (counted_of found h e))
          (filtered_into (counts h (end found)) (records found) x (was_found x parts.0) (ap (λ p. counts h p x) (sym end_same) ∙ parts.1))

  counted_still : (x : Record) → Contains (records now) x → Contains (counted found) x → Contains (counted now) x
  counted_still x there was = go (head found) refl
    where
      go : (o : Option StartRecord) → head found ≡ o → Contains (counted now) x
      go None e = absurd (contains_none x (subst (λ rs. Contains rs x) (ap (counted_after (records found)) e) was))
      go (Some h) e =
          let parts = filtered_from (counts h (end found)) (records found) x (subst (λ rs. Contains rs x) (counted_of found h e) was) in
          subst (λ rs. Contains rs x) (sym (counted_of now h (head_same ∙ e)))
          (filtered_into (counts h (end now)) (records now) x there (ap (λ p. counts h p x) end_same ∙ parts.1))

  sector_same : (lba : ℕ) → sector_of now lba ≡ sector_of found lba
  sector_same lba = go (winner (counted found) lba) refl
    where
      held : Image → Option Record → List ℕ
      held i o = option_map_or (λ (x : Record). x.sector) o (zeros i.shape.sector)

      go : (o : Option Record) → winner (counted found) lba ≡ o → sector_of now lba ≡ sector_of found lba
      go None e =
          let none : winner (counted now) lba ≡ None =
          (no_winner (counted now) lba).1 (λ x there of_it. no_winner_no_record (counted found) lba x e (counted_before x there) of_it) in
          ap (held now) none ∙ ap (λ (s : Shape). zeros s.sector) c.shape ∙ sym (ap (held found) e)
      go (Some x) e =
          let was : IsWinner (counted found) lba x = winner_is_winner found lba x e in
          let wins : IsWinner (counted now) lba x = record {
            there = counted_still x (c.kept lba x e) was.there;
            of_it = was.of_it;
            newest = λ other there of_it. was.newest other (counted_before other there) of_it;
          } in
          ap (held now) (winner_is_only (counted now) lba x wins) ∙ sym (ap (held found) e)

  pub contents_same : contents now ≡ contents found
  contents_same =
      map_same (sector_of now) (sector_of found) sector_same (range_with_len 0 now.shape.capacity)
      ∙ ap (λ (s : Shape). map (sector_of found) (range_with_len 0 s.capacity)) c.shape
