-- What `show` and `report` print of a drive.
use Rattle.std.specs.Prelude.{ℕ, List}
use Rattle.pblk_model.specs.Contents.{contents, end}
use Rattle.pblk_model.specs.ImageFile.{Drive, image_of}
use Rattle.run_report.specs.Listing.{listing_of}
use Rattle.run_report.specs.Numbers.{report_text}
use Rattle.scan_recovery.specs.Holding.{summary_in}

-- a line for each sector of its image that isn't all zeros, and one for the end and the number of sectors
abbrev pub show_text : Drive → List ℕ
show_text d = listing_of (contents (image_of d)) (end (image_of d))

-- one object of JSON: how many of its chunks are in each state, and the numbers of what its image holds
abbrev pub numbers_text : Drive → List ℕ
numbers_text d = report_text d (summary_in (image_of d))
