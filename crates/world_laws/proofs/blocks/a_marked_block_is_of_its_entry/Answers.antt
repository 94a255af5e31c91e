use Rattle.world_laws.proofs.MarkedBlocks.{as_it_was, of_entry, of_its_entry, past_found}
use Rattle.world_laws.proofs.blocks.a_marked_block_is_of_its_entry.Goals as goal

pub returns : goal.returns
returns c = record {
  taken = λ i w o line unit events at c block name is written names. of_entry i w o line unit events at c block is written name names;
  entry = λ i w o line unit events at c block name t is written names. of_its_entry i w o line unit events at c block is written name names t;
  past = λ i w o line unit events at c block name r is written names. past_found i w o line unit events at c block is written name names r;
  found = as_it_was;
}
