-- What a mount began with: the end and the next sequence number of the image that it found.
use Rattle.std.proofs.Common.{◌≡◌, ℕ, suc, Some, Option, List, [], ◌∷◌, take, sym, ap, ◌∙◌}
use Rattle.std.specs.Prelude.{slice_get}
use Rattle.std.specs.Option.{option_map_or}
use Rattle.std.proofs.lemmas.List.{take-append-le}
use Rattle.std.proofs.lemmas.Option.{none-some, same_Some}
use Rattle.pblk_model.specs.Image.{Image}
use Rattle.pblk_model.specs.Contents.{head, end}
use Rattle.pblk_world.specs.Events.{Beginning, Begin, Decides, Logged}
use Rattle.pblk_world.specs.World.{World, log_of, known, prefixes, cut_logs, media}
use Rattle.pblk_world.specs.EngineLog.{Begun, begun_by, begun}
use Rattle.pblk_world.specs.Fronts.{first_position}
use Rattle.pblk_world.specs.Legal.{IsLegal}
use Rattle.pblk_world.specs.Lines.{found_by, found_image, next_seq}
use Rattle.pblk_world.proofs.EngineLogLemmas.{begun_first}
use Rattle.pblk_world.proofs.WorldLemmas.{media_same}
use Rattle.world_laws.proofs.Beginnings.{first_begins}
use Rattle.world_laws.proofs.Made.{IsMade, made, log_then}
use Rattle.world_laws.proofs.Openings.{allowed_by}

-- the first position is what the beginning names
pub first_is : (log : List Logged) (g : Begun) → begun log ≡ Some g → first_position log ≡ g.beginning.first
first_is log g is = ap (λ (o : Option Begun). option_map_or (λ (b : Begun). b.beginning.first) o 0) is

pub record IsBegunWith (i : Image) (w : World) (g : Begun) : Type 0 where
  pub first : g.beginning.first ≡ end (found_image i (log_of w))
  pub seq : g.beginning.seq ≡ next_seq (head (found_image i (log_of w)))

-- the media by the prefixes that the first event names
found_begun : (i : Image) (w : World) (l : Logged) (h : IsMade i w 0 0 l) → media i (prefixes l (log_of h.before)) ≡ media i (cut_logs l.knows (log_of w))
found_begun i w l h = media_same i (prefixes l (log_of h.before)) (cut_logs l.knows (log_of w))
    (λ unit. let more = log_then i w 0 0 l h (suc unit) in
    sym (ap (take (known l (suc unit))) more.1
    ∙ take-append-le (known l (suc unit)) (log_of h.before (suc unit)) more.0 (h.step.knowledge.within (suc unit))))

pub begun_with : (i : Image) (w : World) (g : Begun) → IsLegal i w → begun (log_of w 0) ≡ Some g → IsBegunWith i w g
begun_with i w g legal begins =
    let first = begun_first (log_of w 0) g begins in
    let event = first_begins i w first.0 legal first.1 in
    let h : IsMade i w 0 0 first.0 = made i w 0 0 first.0 legal first.1 in
    let may = allowed_by i w 0 first.0 (Decides (Begin event.0)) h event.1 in
    let its : event.0 ≡ g.beginning = beginning_of (log_of w 0) first.0 event.0 first.1 event.1 begins in
    let found : media i (prefixes first.0 (log_of h.before)) ≡ found_image i (log_of w) =
    found_begun i w first.0 h ∙ ap (λ (ks : List ℕ). media i (cut_logs ks (log_of w))) first.2 ∙ sym (ap (found_by i (log_of w)) begins) in record {
      first = ap (λ (b : Beginning). b.first) (sym its) ∙ may.first ∙ ap end found;
      seq = ap (λ (b : Beginning). b.seq) (sym its) ∙ may.seq ∙ ap (λ (j : Image). next_seq (head j)) found;
    }
  where
    beginning_of : (log : List Logged) (l : Logged) (b : Beginning) → slice_get log 0 ≡ Some l → l.event ≡ Decides (Begin b)
        → begun log ≡ Some g → b ≡ g.beginning
    beginning_of [] l b there is begins = absurd (none-some l there)
    beginning_of (m ∷ log) l b there is begins =
        let event : m.event ≡ Decides (Begin b) = ap (λ (x : Logged). x.event) (same_Some m l there) ∙ is in
        ap (λ (x : Begun). x.beginning) (same_Some (record { beginning = b; knows = m.knows }) g (sym (ap (begun_by m.knows) event) ∙ begins))
