use Rattle.rest_laws.proofs.LeftTidy.{answered_faultless, found_faultless, heard_faultless, left_tidy, left_whole}
use Rattle.rest_laws.proofs.answers.a_tidy_image_is_left_tidy.Goals as goal

pub returns : goal.returns
returns c = record { answered = answered_faultless; heard = heard_faultless; found = found_faultless; whole = left_whole; tidy = left_tidy }
