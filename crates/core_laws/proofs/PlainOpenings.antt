-- What is known of the lines that a mount has opened.
use Rattle.std.proofs.Common.{◌≡◌, ℕ, ◌<◌, ◌&&◌, Bool, true, false, List, length, subst, ap, ◌∙◌}
use Rattle.pblk_model.specs.LineOrder.{data_len}
use Rattle.pblk_model.specs.Image.{Image}
use Rattle.pblk_world.specs.World.{World, log_of}
use Rattle.pblk_world.specs.EngineLog.{is_opened, Opening, openings, Opened, life_of, is_life}
use Rattle.world_laws.proofs.LineStripes.{some_data}
use Rattle.world_laws.proofs.Openings.{opened_at}
use Rattle.world_laws.proofs.Stripes.{IsOpening, opening_is}
use Rattle.core_laws.specs.OpenedLines.{standing}
use Rattle.core_laws.proofs.Followed.{IsFollowed, units_width}
use Rattle.core_laws.proofs.FreedWidths.{opened_width}
use Rattle.core_laws.proofs.LandedNow.{opened_now}
use Rattle.pblk_model.proofs.Lists.{IsAmong, among_contained}
use Rattle.pblk_model.proofs.Maps.{in_filter}
use Rattle.pblk_model.proofs.Tests.{same_number}

pub record IsOpenedLine (i : Image) (us : ℕ → List ℕ) (line : ℕ) (o : Opening) : Type 0 where
  pub in_range : line < i.shape.chunks
  pub its_line : o.line ≡ line
  pub width : o.start.width ≡ length (us line)
  pub has_data : 0 < data_len i.shape (length (us line))

pub third : (a b c : Bool) → (a && b && c) ≡ true → c ≡ true
third true true c e = e
third true false c e = absurd cc
third false b c e = absurd cc

pub opened_lines : (i : Image) (us : ℕ → List ℕ) (w : World) → IsFollowed i us w → (line : ℕ) (o : Opening) → life_of (log_of w 0) line ≡ Opened o
    → IsOpenedLine i us line o
opened_lines i us w is line o life =
    let now = opened_now i w is.mount line o life in
    let at : IsAmong (openings (log_of w 0)) o = among_contained (openings (log_of w 0)) o now.0 in
    let event : IsOpening (log_of w 0) at.0 o = opening_is (log_of w 0) at.0 o at.1 in
    let may = opened_at i w o.number o.line o.start event.logged is.mount.legal event.there event.event in
    let wide : o.start.width ≡ length (us line) = opened_width i w is.mount line o life
    ∙ units_width i us (log_of w) line (is.keeps line (ap is_opened life)) in
    record {
      in_range = subst (λ n. n < i.shape.chunks) now.1 may.2.in_range;
      its_line = now.1;
      width = wide;
      has_data = subst (λ g. 0 < data_len i.shape g) wide (some_data i w o is.mount.legal now.0);
    }

-- its opening stands
pub life_stands : (i : Image) (us : ℕ → List ℕ) (w : World) → IsFollowed i us w → (line : ℕ) (o : Opening) → life_of (log_of w 0) line ≡ Opened o
    → IsAmong (standing (log_of w 0)) o
life_stands i us w is line o life =
    let now = opened_now i w is.mount line o life in
    in_filter (λ (p : Opening). is_life p.number (life_of (log_of w 0) p.line)) (openings (log_of w 0)) o (among_contained (openings (log_of w 0)) o now.0)
    (ap (λ n. is_life o.number (life_of (log_of w 0) n)) now.1 ∙ ap (is_life o.number) life ∙ same_number o.number)
