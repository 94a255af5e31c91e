-- What is found fits its shape.
use Rattle.std.proofs.Common.{◌^◌, ◌≤◌, sym, subst}
use Rattle.pblk_model.specs.declared.found.Found.{Found}
use Rattle.pblk_model.specs.Accepted.{IsAccepted}
use Rattle.pblk_model.specs.Found.{IsFitFound}
use Rattle.pblk_model.specs.Image.{Image, IsFit}
use Rattle.pblk_model.specs.StartRecord.{StartRecord}
use Rattle.pblk_model.specs.Contents.{head}
use Rattle.std.specs.Option.{option_map_or}
use Rattle.world_laws.specs.Finding.{IsFoundOf}
use Rattle.world_laws.proofs.FoundCounts.{end_fits, front_fits}
use Rattle.world_laws.proofs.FoundRows.{rows_count, row_fits, head_fits, strays_rise, stray_is, is_stray_line}
use Rattle.world_laws.proofs.FoundStates.{states_count, states_closed}
use Rattle.world_laws.proofs.FoundWinners.{winners_rise, winner_fits, winners_apart}

pub found_fits : (i : Image) (f : Found) → IsAccepted i.shape → IsFit i → IsFoundOf i f → IsFitFound i.shape f
found_fits i f accepted fit is = record {
  lines = rows_count i f is;
  chunks = states_count i f fit is;
  no_open = λ n. states_closed i f n is;
  end = subst (λ n. n ≤ 2 ^ 62) (sym is.end_is) (end_fits i accepted fit);
  front = subst (λ n. n ≤ f.end) (sym is.front_is) (subst (λ n. option_map_or (λ (h : StartRecord). h.front) (head i) 0 ≤ n) (sym is.end_is) (front_fits i));
  rows = λ line row there. row_fits i f line row accepted fit is there;
  head = head_fits i f is;
  strays_rise = strays_rise i f is;
  strays = λ line there. stray_is i f line fit is there;
  all_strays = λ line row there none used. is_stray_line i f line row fit is there none used;
  winners_rise = λ j k v w before a b. winners_rise i f j k v w is before a b;
  winners = λ k w there. winner_fits i f k w fit is there;
  apart = λ j k v w a b lines ats. winners_apart i f j k v w is a b lines ats;
}
