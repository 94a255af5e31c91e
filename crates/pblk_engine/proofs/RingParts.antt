-- The intake's part of a ring, by what it claimed and what it put.
use Rattle.std.proofs.Common.{◌≡◌, ℕ, ◌+◌, ◌-◌, ◌*◌, ◌^◌, ◌≤◌, max, Bool, true, false, List, length, sym, subst, ap, ◌∙◌}
use lib.ListN.{get_elem?}
use Rattle.pblk_model.specs.Image.{Image}
use Rattle.pblk_model.specs.RingState.{covers}
use Rattle.pblk_model.specs.Shape.{units}
use Rattle.pblk_world.specs.Fronts.{first_position}
use Rattle.pblk_world.specs.Reasons.{WasRoom}
use Rattle.pblk_world.specs.Space.{room}
use Rattle.pblk_world.specs.World.{Logs}
use Rattle.write_window.specs.Window as window
use Rattle.write_ring.specs.declared.view.Desk.{Desk}
use Rattle.write_ring.specs.declared.view.Key.{Key}
use Rattle.write_ring.specs.declared.view.View.{View}
use Rattle.write_ring.specs.declared.view.Part.{Part}
use Rattle.write_ring.specs.declared.view.Row.{Row}
use Rattle.write_ring.specs.Handles.{IsSamePart}
use Rattle.write_ring.specs.Stock.{HasPut}
use Rattle.pblk_core.specs.Copies.{is_copying}
use Rattle.pblk_core.specs.declared.target_core.Core.{Core}
use Rattle.pblk_engine.specs.Hearts.{HasCopies, IsHeart, IsSettled}

pub has_put : (p q : Part) → q.puts ≡ p.puts → (r : Row) → HasPut r q → HasPut r p
has_put p q puts r is = (is.0, ap (λ (rows : List Row). get_elem? rows is.0) (sym puts) ∙ is.1)

-- a copy that it claimed is claimed still
pub copies_by : (i : Image) (logs : Logs) (copying : Bool) (p q : Part) (taken : ℕ) → IsSamePart p q → HasCopies i logs copying p taken
    → HasCopies i logs copying q taken
copies_by i logs false p q taken same none = record {
  claims = λ x from. ap (covers x) same.claims ∙ none.claims x from;
  puts = λ r put. none.puts r (has_put p q same.puts r put);
}
copies_by i logs true p q taken same is = record {
  row = is.row;
  put = has_put q p (sym same.puts) is.row is.put;
  from = is.from;
  only = λ x from apart. ap (covers x) same.claims ∙ is.only x from apart;
  only_put = λ r put. is.only_put r (has_put p q same.puts r put);
  source = is.source;
  is_source = is.is_source;
  begun = is.begun;
  granted = is.granted;
  world = is.world;
  legal = is.legal;
  beginning = is.beginning;
  has_begun = is.has_begun;
  earlier = is.earlier;
  block = is.block;
  out = is.out;
  sector = is.sector;
}

-- the heart stays settled where its intake has done nothing but look
module _ (i : Image) (logs : Logs) (c : Core) (v now : View) (key : now.key ≡ v.key) (desk : now.intake ≡ v.intake) (part : IsSamePart v.pass now.pass) where
  heart_by : IsHeart i logs c v → IsHeart i logs c now
  heart_by is = record {
    stands = is.stands;
    collects = is.collects;
    own = subst (λ (k : Key). window.AreOf k.origin.region c.window.entries) (sym key) is.own;
    took = ap (λ (d : Desk). d.took) desk ∙ is.took;
    taken = ap (λ (d : Desk). d.taken) desk ∙ is.taken;
    freed = ap (λ (d : Desk). d.freed) desk ∙ is.freed;
    within = subst (λ (d : Desk). d.granted + units i.shape * i.shape.ws_opt ≤ d.freed + i.shape.ring) (sym desk) is.within;
    last = subst (λ (d : Desk). d.granted ≤ max (2 ^ 61 - 2) (first_position (logs 0))) (sym desk) is.last;
    once = subst (λ (d : Desk). WasRoom i logs (length (logs 0)) d.granted) (sym desk) is.once;
    pads = is.pads;
    copies = subst (λ (d : Desk). HasCopies i logs (is_copying c) now.pass d.taken) (sym desk)
        (copies_by i logs (is_copying c) v.pass now.pass v.intake.taken part is.copies);
    noted = is.noted;
    in_order = is.in_order;
    reasons = is.reasons;
    left = is.left;
  }

  pub settled_by : IsSettled i logs c v → IsSettled i logs c now
  settled_by is = record {
    heart = heart_by is.heart;
    none_to_free = is.none_to_free;
    drained = is.drained;
    room = subst (λ (d : Desk). room i logs ≤ d.granted) (sym desk) is.room;
  }
