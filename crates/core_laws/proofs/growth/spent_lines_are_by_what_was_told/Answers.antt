use Rattle.world_laws.proofs.ToldImages.{told_back}
use Rattle.core_laws.proofs.ToldSpent.{full_told, may_back, may_told, none_told, spent_told}
use Rattle.core_laws.proofs.growth.spent_lines_are_by_what_was_told.Goals as goal

pub returns : goal.returns
returns c = record {
  spent = λ i logs other h line. (spent_told i logs other h line, spent_told i other logs (told_back i logs other h) line);
  full = full_told;
  free = λ i w other b mount legal begins full told line. (
    may_back i w other b mount legal begins full told line,
    may_told i w other b mount legal begins full told line,
  );
  none = λ i w other b mount legal begins full told. none_told i w other b mount legal begins full told;
}
