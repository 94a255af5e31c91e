-- What is found of the first lines of an image.
use Rattle.std.specs.Prelude.{ℕ, ◌≡◌}
use Rattle.std.specs.List.{filter_map, range_with_len}
use Rattle.std.specs.Option.{option_map}
use Rattle.pblk_model.specs.Image.{Image}
use Rattle.pblk_model.specs.Contents.{head_to}
use Rattle.pblk_meta.specs.Records.{start_numbers}
use Rattle.image_check.specs.declared.survey.Survey.{Survey}
use Rattle.image_check.specs.Right.{entry_of}

pub record IsSurvey (i : Image) (n : ℕ) (s : Survey) : Type 0 where
  pub lines : s.lines.items ≡ filter_map (entry_of i) (range_with_len 0 n)
  pub head : option_map start_numbers s.head ≡ head_to i n
