use Rattle.std.proofs.Common.{refl, ap, arith, [], ◌++◌, length}
use Rattle.pblk_model.specs.ScriptText.{threads_of}
use Rattle.run_script.proofs.reader.Reader.new.Goals as goal

pub returns-clause-nothing : goal.returns-clause-nothing
unfolding threads_of
returns-clause-nothing c = record {
  threads = ap (λ xs. xs ++ []) c.new.ensures.items;
  count = ap (λ xs. length (xs ++ [])) c.new.ensures.items;
  few = omega arith;
  opens = λ none. refl;
  commands = refl;
  names = c.new-2.ensures;
  begins = tt;
}
