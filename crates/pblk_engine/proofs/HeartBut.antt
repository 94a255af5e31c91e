-- What a heart stands for, whether or not the engine has noted each reset. A heart that learnt of a
-- reset stands for that alone, until it notes the reset.
use Rattle.std.proofs.Common.{◌≡◌, ◌+◌, ◌-◌, ◌*◌, ◌^◌, ◌<◌, ◌≤◌, max, length, map}
use Rattle.pblk_model.specs.Image.{Image}
use Rattle.pblk_model.specs.Shape.{units}
use Rattle.pblk_world.specs.AtRest.{AreResetsNoted}
use Rattle.pblk_world.specs.EngineLog.{takes}
use Rattle.pblk_world.specs.Fronts.{first_position}
use Rattle.pblk_world.specs.Orders.{AreInOrder}
use Rattle.pblk_world.specs.Reasons.{HasReasons, WasAsked, WasRoom}
use Rattle.pblk_world.specs.World.{Logs}
use Rattle.write_window.specs.Window as window
use Rattle.write_ring.specs.declared.view.View.{View}
use Rattle.pblk_core.specs.Collecting.{Collects}
use Rattle.pblk_core.specs.Copies.{is_copying}
use Rattle.pblk_core.specs.Named.{pad_of}
use Rattle.pblk_core.specs.Stands.{Stands}
use Rattle.pblk_core.specs.declared.target_core.Core.{Core}
use Rattle.pblk_engine.specs.Hearts.{HasCopies, IsHeart, IsLeft, ring_row}

pub record IsHeartBut (i : Image) (logs : Logs) (c : Core) (v : View) : Type 0 where
  pub stands : Stands i logs c
  pub collects : Collects i logs c
  pub own : window.AreOf v.key.origin.region c.window.entries
  pub took : v.intake.took ≡ map ring_row (takes (logs 0))
  pub taken : v.intake.taken ≡ window.taken c.window
  pub freed : v.intake.freed ≡ c.window.freed
  pub within : v.intake.granted + units i.shape * i.shape.ws_opt ≤ v.intake.freed + i.shape.ring
  pub last : v.intake.granted ≤ max (2 ^ 61 - 2) (first_position (logs 0))
  pub once : WasRoom i logs (length (logs 0)) v.intake.granted
  pub pads : 0 < pad_of c → WasAsked i logs (length (logs 0)) (pad_of c)
  pub copies : HasCopies i logs (is_copying c) v.pass v.intake.taken
  pub in_order : AreInOrder i logs
  pub reasons : HasReasons i logs
  pub left : IsLeft i logs

pub but_notes : (i : Image) (logs : Logs) (c : Core) (v : View) → IsHeart i logs c v → IsHeartBut i logs c v
but_notes i logs c v is = record {
  stands = is.stands;
  collects = is.collects;
  own = is.own;
  took = is.took;
  taken = is.taken;
  freed = is.freed;
  within = is.within;
  last = is.last;
  once = is.once;
  pads = is.pads;
  copies = is.copies;
  in_order = is.in_order;
  reasons = is.reasons;
  left = is.left;
}

pub with_notes : (i : Image) (logs : Logs) (c : Core) (v : View) → IsHeartBut i logs c v → AreResetsNoted logs → IsHeart i logs c v
with_notes i logs c v is noted = record {
  stands = is.stands;
  collects = is.collects;
  own = is.own;
  took = is.took;
  taken = is.taken;
  freed = is.freed;
  within = is.within;
  last = is.last;
  once = is.once;
  pads = is.pads;
  copies = is.copies;
  noted = noted;
  in_order = is.in_order;
  reasons = is.reasons;
  left = is.left;
}
