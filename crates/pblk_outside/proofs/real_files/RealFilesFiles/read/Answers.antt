use Rattle.std.proofs.Common.{arith, refl, rules}
use Rattle.std.proofs.lemmas.Grind.{common_steps}
use Rattle.pblk_outside.proofs.real_files.RealFilesFiles.read.Goals as goal

pub returns-in_default : goal.returns-in_default
returns-in_default g c = record {
  appends = search rules;
  kept = tt;
  calm = refl;
  failed = search rules;
  missing = search rules;
  memory = search rules;
  memory_calm = search rules;
  same_files = λ name. refl;
  same_told = refl;
}

pub returns-in-OutOfMemory : goal.returns-in-OutOfMemory
returns-in-OutOfMemory g c = record {
  appends = tt;
  kept = grind (arith, common_steps);
  calm = tt;
  failed = search rules;
  missing = search rules;
  memory = search rules;
  memory_calm = λ _. refl;
  same_files = λ name. refl;
  same_told = refl;
}

pub returns : goal.returns
returns g c = record {
  appends = tt;
  kept = grind (arith, common_steps);
  calm = tt;
  failed = search rules;
  missing = search rules;
  memory = search rules;
  memory_calm = search rules;
  same_files = λ name. refl;
  same_told = refl;
}
