use Rattle.std.proofs.Common.{length, refl, ap, sym, subst, ◌∙◌}
use Rattle.std.specs.List.{filter}
use Rattle.std.specs.Option.{is_some, option_map}
use Rattle.pblk_model.specs.declared.shape.Shape.{Shape}
use Rattle.scan_recovery.specs.Holding.{head_of}
use Rattle.scan_recovery.specs.Starts.{line_start}
use Rattle.scan_recovery.proofs.Held.{live_is}
use Rattle.scan_recovery.proofs.Results.{few_here, finished, mount_of, within_here}
use Rattle.scan_recovery.proofs.holding.held_in.Goals as goal
use Rattle.pblk_model.specs.Tables.{IsTable}

pub new-requires : goal.new-requires
new-requires c = c.in_ok-starts.ensures.fits

pub count_of-requires-clause-starts : goal.count_of-requires-clause-starts
count_of-requires-clause-starts c =
    subst (IsTable c.args.media.now.shape.chunks (line_start c.args.media.now)) (sym c.deref.ensures.value) c.in_ok-starts.ensures.lines

pub count_of-requires-clause-mount : goal.count_of-requires-clause-mount
count_of-requires-clause-mount c =
    let i = c.args.media.now in
    mount_of i i.shape.chunks c.in_ok-starts.starts c.in_ok-mount.mount c.in_ok-starts.ensures refl c.in_ok-mount.ensures.mount
    (c.in_ok-mount.ensures.lines ∙ ap (λ (s : Shape). s.chunks) c.shape-shape.ensures.shape) c.in_ok-mount.ensures.head

pub finish-requires-clause-few : goal.finish-requires-clause-few
finish-requires-clause-few c =
    few_here c.args.media.now c.args.media.now.shape.chunks c.in_ok-count.count c.requires.accepted c.requires.fit refl c.in_ok-count.ensures

pub finish-requires-clause-within : goal.finish-requires-clause-within
finish-requires-clause-within c =
    within_here c.args.media.now.shape.chunks c.in_ok-count.count.late.items c.in_ok-count.count.tally.tops.items c.in_ok-count.ensures.tally.tops.count
    c.in_ok-count.ensures.within

pub returns : goal.returns
returns c =
    let i = c.args.media.now in
    let mount = mount_of i i.shape.chunks c.in_ok-starts.starts c.in_ok-mount.mount c.in_ok-starts.ensures refl c.in_ok-mount.ensures.mount
    (c.in_ok-mount.ensures.lines ∙ ap (λ (s : Shape). s.chunks) c.shape-shape.ensures.shape) c.in_ok-mount.ensures.head in
    let is = finished i i.shape.chunks c.in_ok-mount.mount c.in_ok-count.count c.in_ok-counted.counted c.requires.accepted c.requires.fit mount refl
    c.in_ok-count.ensures c.in_ok-counted.ensures.counted in
    record {
      winners = is.winners;
      summary = record {
        end = is.end;
        counted = is.named;
        live = c.live_in.ensures ∙ ap (λ ws. length (filter is_some ws)) c.deref-2.ensures.value
            ∙ live_is i c.in_ok-counted.counted.tally.winners.items is.winners;
        head = c.head_in.ensures ∙ ap (option_map head_of) mount.head_is;
      };
    }
