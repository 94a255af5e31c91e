-- Contents of an image as the model has them.
use Rattle.std.proofs.Common.{◌≡◌, List, ℕ, refl, ap, ◌∙◌}
use Rattle.pblk_model.specs.Contents.{contents}
use Rattle.pblk_model.specs.ImageFile.{Drive, image_of}
use Rattle.run_report.specs.Listing.{listing_of, listing_text}
use Rattle.run_report.specs.Numbers.{report_text}
use Rattle.scan_recovery.specs.declared.sectors.Contents.{Contents}
use Rattle.scan_recovery.specs.declared.sectors.Summary.{Summary}
use Rattle.scan_recovery.specs.Holding.{IsContentsOf, IsSummaryOf}
use Rattle.pblk_cli.specs.Contents.{numbers_text, show_text}

pub shows : (d : Drive) (c : Contents) (text : List ℕ) → text ≡ listing_text c → IsContentsOf (image_of d) c → text ≡ show_text d
shows d c text is h = is ∙ ap (λ s. listing_of s c.end) h.sectors ∙ ap (listing_of (contents (image_of d))) h.end

pub reports : (d : Drive) (s : Summary) (text : List ℕ) → text ≡ report_text d s → IsSummaryOf (image_of d) s → text ≡ numbers_text d
reports d s text is h = is ∙ rw (h.counted, h.end, h.head, h.live) refl
