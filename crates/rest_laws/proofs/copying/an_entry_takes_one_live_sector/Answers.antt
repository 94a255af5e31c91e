use Rattle.std.proofs.lemmas.Option.{slice_get_within}
use Rattle.pblk_world.specs.World.{log_of}
use Rattle.rest_laws.proofs.StillLive.{elsewhere, lowered, outside, quiet}
use Rattle.rest_laws.proofs.copying.an_entry_takes_one_live_sector.Goals as goal

pub returns : goal.returns
returns c = record {
  one = λ i w line number l t is one small passes.
      lowered i w is.mount line number is.has_begun (slice_get_within (log_of w 0) number l is.there) is.before is.after l is.there t one small passes;
  elsewhere = λ i w line number l t is one fails.
      elsewhere i w is.mount line number is.has_begun (slice_get_within (log_of w 0) number l is.there) is.before is.after l is.there t one fails;
  void = λ i w line number l t is one large.
      outside i w is.mount line number is.has_begun (slice_get_within (log_of w 0) number l is.there) is.before is.after l is.there t one large;
  none = λ i w line number l is none.
      quiet i w is.mount line number is.has_begun (slice_get_within (log_of w 0) number l is.there) is.before is.after l is.there none;
}
