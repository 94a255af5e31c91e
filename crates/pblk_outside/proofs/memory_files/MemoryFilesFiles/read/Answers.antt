use Rattle.std.proofs.Common.{refl, rules}
use Rattle.pblk_outside.proofs.memory_files.MemoryFilesFiles.read.Goals as goal

pub returns-then-next_call_fails : goal.returns-then-next_call_fails
returns-then-next_call_fails c = record {
  planned = search rules;
  counted = c.next_call_fails.ensures.counted;
  same_plan = c.next_call_fails.ensures.failing;
  appends = tt;
  kept = refl;
  calm = tt;
  failed = search rules;
  missing = search rules;
  missing_calm = search rules;
  memory = search rules;
  memory_calm = search rules;
  same_files = λ name. refl;
  same_told = refl;
}

pub returns-in-Ok : goal.returns-in-Ok
returns-in-Ok c = record {
  planned = search rules;
  counted = c.next_call_fails.ensures.counted;
  same_plan = c.next_call_fails.ensures.failing;
  appends = search rules;
  kept = tt;
  calm = refl;
  failed = search rules;
  missing = search rules;
  missing_calm = search rules;
  memory = search rules;
  memory_calm = search rules;
  same_files = λ name. refl;
  same_told = refl;
}

pub returns-in-Err : goal.returns-in-Err
returns-in-Err c = record {
  planned = search rules;
  counted = c.next_call_fails.ensures.counted;
  same_plan = c.next_call_fails.ensures.failing;
  appends = tt;
  kept = search rules;
  calm = tt;
  failed = search rules;
  missing = search rules;
  missing_calm = search rules;
  memory = search rules;
  memory_calm = λ _. refl;
  same_files = λ name. refl;
  same_told = refl;
}

pub returns-in-None : goal.returns-in-None
returns-in-None c = record {
  planned = search rules;
  counted = c.next_call_fails.ensures.counted;
  same_plan = c.next_call_fails.ensures.failing;
  appends = tt;
  kept = refl;
  calm = tt;
  failed = search rules;
  missing = search rules;
  missing_calm = λ _. refl;
  memory = search rules;
  memory_calm = search rules;
  same_files = λ name. refl;
  same_told = refl;
}
