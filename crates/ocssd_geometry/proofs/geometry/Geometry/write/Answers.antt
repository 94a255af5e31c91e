use Rattle.std.proofs.Common.{◌≡◌, length, refl, ap, ◌∙◌, arith}
use Rattle.pblk_model.specs.Bytes.{zeros}
use Rattle.ocssd_geometry.specs.Numbers.{numbers_of}
use Rattle.pblk_model.proofs.GeometryBytes.{FitsWords, geometry_back}
use Rattle.ocssd_geometry.proofs.Spelling.{all_written}
use Rattle.ocssd_geometry.proofs.geometry.Geometry.write.Goals as goal

pub returns-clause-spelling : goal.returns-clause-spelling
returns-clause-spelling c =
    let count : length c.args.self.now.lengths ≡ 4 = omega arith in
    all_written (numbers_of c.args.self.now) c.args.self.now.lengths _ _ _ _ _ _ _ _ _ _ _ _ _ _
    (c.clear.ensures ∙ ap zeros c.requires.size) count refl refl refl refl
    c.put.ensures c.put-2.ensures c.put_u32.ensures.placed c.put-3.ensures
    c.put_u16.ensures.placed c.put_u16-2.ensures.placed c.put_u32-2.ensures.placed c.put_u32-3.ensures.placed
    c.put_u32-4.ensures.placed c.put_u32-5.ensures.placed c.put_u32-6.ensures.placed c.put_u32-7.ensures.placed c.put_u32-8.ensures.placed

-- the numbers fit their fields, so the spelling reads back
pub returns-clause-again : goal.returns-clause-again
returns-clause-again c =
    let fits : FitsWords (numbers_of c.args.self.now) = record {
      mccap = c.put_u32.ensures.fits;
      groups = c.put_u16.ensures.fits;
      pus = c.put_u16-2.ensures.fits;
      chunks = c.put_u32-2.ensures.fits;
      clba = c.put_u32-3.ensures.fits;
      ws_min = c.put_u32-4.ensures.fits;
      ws_opt = c.put_u32-5.ensures.fits;
      mw_cunits = c.put_u32-6.ensures.fits;
      maxoc = c.put_u32-7.ensures.fits;
      maxocpu = c.put_u32-8.ensures.fits;
    } in
    rw (returns-clause-spelling c) (geometry_back (numbers_of c.args.self.now) fits c.requires.accepted)
