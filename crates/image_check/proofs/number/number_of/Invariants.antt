use Rattle.std.proofs.Common.{◌≡◌, ◌<◌, ◌^◌, drop}
use Rattle.pblk_model.specs.ScriptText.{digits_value}
use Rattle.image_check.proofs.Digits.{digits_from}
use Rattle.image_check.proofs.number.number_of.Given as goal

abbrev pub invariant-loop-byte : goal.invariant-loop-byte
invariant-loop-byte l = record {
  known : digits_from l.number (drop l.byte-index l.word) ≡ digits_value l.word;
  small : l.number < 2 ^ 64;
}
