use Rattle.std.proofs.Common.{refl, rules}
use Rattle.pblk_outside.proofs.real_files.RealFilesFiles.write.Goals as goal

pub returns-in-Ok : goal.returns-in-Ok
returns-in-Ok g c = record {
  stored = search rules;
  calm = refl;
  only_failed = tt;
  failed = tt;
  same_others = λ other differs. refl;
  same_told = refl;
}

pub returns-in-Err : goal.returns-in-Err
returns-in-Err g c = record {
  stored = tt;
  calm = tt;
  only_failed = refl;
  failed = search rules;
  same_others = λ other differs. refl;
  same_told = refl;
}
