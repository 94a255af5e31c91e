use Rattle.chronicle.proofs.PrefixLemmas.{named_length}
use Rattle.chronicle.proofs.Worlds.{names_whole}
use Rattle.chronicle.proofs.laws.an_event_names_what_is_known.Goals as goal

pub returns : goal.returns
returns c = record { each = named_length; whole = names_whole }
