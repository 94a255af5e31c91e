-- The text of the object that `report` prints.
use Rattle.std.proofs.Common.{◌≡◌, false, Option, None, Some, refl, codes, append_assoc}
use Rattle.serde_json.specs.Data.{Data, member, no_members, put}
use Rattle.serde_json.specs.Written.{compact_text, has_float}
use Rattle.serde_json.proofs.OnLiterals.{serde_json_on_literals}
use Rattle.pblk_model.specs.ImageFile.{Drive}
use Rattle.scan_recovery.specs.declared.sectors.Summary.{Summary}
use Rattle.scan_recovery.specs.declared.sectors.Head.{Head}
use Rattle.run_report.specs.Numbers.{report_object}
use Rattle.run_report.specs.Objects.{report_data}

abbrev with_head : Summary → Option Head → Summary
with_head c head = record { end = c.end; counted = c.counted; live = c.live; head = head }

text_with : (d : Drive) (c : Summary) (head : Option Head) → compact_text (report_data d (with_head c head)) ≡ report_object d (with_head c head)
unfolding serde_json_on_literals
text_with d c None = simp append_assoc
text_with d c (Some h) = simp append_assoc

pub text_of_data : (d : Drive) (c : Summary) → compact_text (report_data d c) ≡ report_object d c
text_of_data d c = text_with d c c.head

float_with : (d : Drive) (c : Summary) (head : Option Head) → has_float (report_data d (with_head c head)) ≡ false
float_with d c None = refl
float_with d c (Some h) = refl

pub has_no_float : (d : Drive) (c : Summary) → has_float (report_data d c) ≡ false
has_no_float d c = float_with d c c.head

-- Put one after another, the members stand in the order of their keys.
pub in_order : (capacity closed counted end free head live offline open_ seq : Data)
    → put (codes "seq") seq (put (codes "open") open_ (put (codes "offline") offline (put (codes "live") live (put (codes "head") head
    (put (codes "free") free (put (codes "end") end
    (put (codes "counted") counted (put (codes "closed") closed (put (codes "capacity") capacity no_members)))))))))
    ≡ member (codes "capacity") capacity (member (codes "closed") closed (member (codes "counted") counted (member (codes "end") end (member (codes "free") free
    (member (codes "head") head (member (codes "live") live
    (member (codes "offline") offline (member (codes "open") open_ (member (codes "seq") seq no_members)))))))))
in_order capacity closed counted end free head live offline open_ seq = refl
