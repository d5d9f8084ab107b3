use Rattle.std.proofs.Common.{[], ◌∷◌, ◌++◌, false, refl, sym, subst, arith}
use Rattle.std.proofs.lemmas.Result.{err_from_is_err_and, IfErr-weaker}
use Rattle.zk_base.specs.Captured.{captured}
use Rattle.zk_outcome.specs.declared.stop.Stop.TheVariants.{NoMemory}
use Rattle.zk_top.specs.Line.{capture_lines, lines_of, list_options}
use Rattle.zk_top.specs.Listing.{HasListed}
use Rattle.zk_io.proofs.CaptureReading.{reading_on, read_capture, says_part, says_part_next, same_place, later_place}
use Rattle.zk_outcome.proofs.Doing.{out_of_memory, does_part_of, prefix_all}
use Rattle.zk_top.proofs.ItemLemmas.{next_at, no_items}
use Rattle.zk_top.proofs.ListingLemmas.{lines_begin, listed_on}
use Rattle.zk_io.proofs.Said.{on_ok_both, stopped_after}
use Rattle.zk_traffic.specs.Items.{items_of}
use Rattle.zk_top.proofs.listing.list_items.Goals as goal

pub returns-in_err-listing-clause-stopped : goal.returns-in_err-listing-clause-stopped
returns-in_err-listing-clause-stopped g c =
    let old = g.S.Shelf.outside c.args.shelf.now in
    let p = err_from_is_err_and c.from_residual.result c.from_residual.ensures.1 in
    rw (p.1, p.2) (λ whole bytes is. says_part whole bytes [] c.args.reader.now old (capture_lines) old NoMemory old is
    (λ others. out_of_memory [] (capture_lines others) [] old old refl))

pub packets-init : goal.packets-init
packets-init g c =
    let old = g.S.Shelf.outside c.args.shelf.now in
    record {
      under_way = c.requires.under_way;
      goes_on = λ whole bytes is.
          (bytes, [], is, subst (λ given. HasListed old [] given false c.in_ok-listing.listing old) (sym (no_items list_options)) (c.in_ok-listing.ensures old));
    }

pub returns-in_err-fill-clause-stopped : goal.returns-in_err-fill-clause-stopped
returns-in_err-fill-clause-stopped g c =
    let first = g.S.Shelf.outside c.args.shelf.now in
    let old = g.S.Shelf.outside c.packets.shelf in
    let new = g.S.Shelf.outside c.fill.new.shelf in
    let stop = c.in_err-fill.field-0.0 in
    let exit = c.from_residual-in_err-fill in
    let p = err_from_is_err_and exit.result exit.ensures.1 in
    rw (p.1, p.2) (λ whole bytes is.
    let (longer, packets, reading, listed) = c.packets.invariant.goes_on whole bytes is in
    let text = lines_of (items_of list_options packets false) in
    says_part whole longer packets c.packets.reader old (capture_lines) first stop new reading
    (λ others. stopped_after first text c.packets.listing.piece.items (capture_lines (packets ++ others)) old stop new listed.says
    (lines_begin c.items_stay.ensures packets others) c.in_err-fill.ensures.stopped))

pub take_packet-requires : goal.take_packet-requires
take_packet-requires g c = c.packet.ensures.limits c.link-in-packets.result

pub returns-in_err-take_packet-clause-stopped : goal.returns-in_err-take_packet-clause-stopped
returns-in_err-take_packet-clause-stopped g c =
    let first = g.S.Shelf.outside c.args.shelf.now in
    let old = g.S.Shelf.outside c.packets.shelf in
    let mid = g.S.Shelf.outside c.fill.new.shelf in
    let new = g.S.Shelf.outside c.take_packet.new.shelf in
    let stop = c.in_err-take_packet.field-0.0 in
    let packet = captured c.link-in-packets.result c.packet.result in
    let exit = c.from_residual-in_err-take_packet in
    let p = err_from_is_err_and exit.result exit.ensures.1 in
    rw (p.1, p.2) (λ whole bytes is.
    let (longer, packets, reading, listed) = c.packets.invariant.goes_on whole bytes is in
    let (further, filled) = c.in_ok-fill.ensures.goes_on whole longer packets reading in
    let at = next_at further c.fill.new.self c.packet.result c.link-in-packets.result c.link-in-packets.ensures.link (c.packet.ensures.captured whole further packets mid filled) in
    let part = c.in_err-take_packet.ensures.stopped first packets (listed_on first packets c.packets.listing old mid listed c.in_ok-fill.ensures.read) in
    let more = packets ++ packet ∷ [] in
    says_part_next whole further packets packet c.fill.new.self mid (capture_lines) first stop new filled at
    (λ others. does_part_of [] [] (lines_of (items_of list_options more false)) (capture_lines (more ++ others)) [] [] first stop new (prefix_all [])
    (lines_begin c.items_stay.ensures more others) (prefix_all []) part))

pub packets-smaller : goal.packets-smaller
packets-smaller g c =
    let old = g.S.Shelf.outside c.packets.shelf in
    let mid = g.S.Shelf.outside c.fill.new.shelf in
    let packet = captured c.link-in-packets.result c.packet.result in
    let (whole, bytes, packets, reading) = c.packets.invariant.under_way in
    let (further, filled) = c.in_ok-fill.ensures.goes_on whole bytes packets reading in
    let at = next_at further c.fill.new.self c.packet.result c.link-in-packets.result c.link-in-packets.ensures.link (c.packet.ensures.captured whole further packets mid filled) in
    let behind = c.advance.ensures.goes_on whole further packets packet mid filled at in
    let same = same_place whole bytes further packets c.packets.reader c.fill.new.self old mid reading filled in
    let later = later_place whole further packets packet c.fill.new.self c.advance.new.self mid filled behind in
    omega (arith, same, later.0, later.1)

pub packets-preserved : goal.packets-preserved
packets-preserved g c =
    let first = g.S.Shelf.outside c.args.shelf.now in
    let old = g.S.Shelf.outside c.packets.shelf in
    let mid = g.S.Shelf.outside c.fill.new.shelf in
    let new = g.S.Shelf.outside c.take_packet.new.shelf in
    let packet = captured c.link-in-packets.result c.packet.result in
    record {
      under_way =
          let (whole, bytes, packets, reading) = c.packets.invariant.under_way in
          let (further, filled) = c.in_ok-fill.ensures.goes_on whole bytes packets reading in
          let at = next_at further c.fill.new.self c.packet.result c.link-in-packets.result c.link-in-packets.ensures.link (c.packet.ensures.captured whole further packets mid filled) in
          let behind = c.advance.ensures.goes_on whole further packets packet mid filled at in
          (whole, further, packets ++ packet ∷ [], reading_on whole further (packets ++ packet ∷ []) c.advance.new.self mid new behind c.in_ok-take_packet.ensures.input);
      goes_on = λ whole bytes is.
          let (longer, packets, reading, listed) = c.packets.invariant.goes_on whole bytes is in
          let (further, filled) = c.in_ok-fill.ensures.goes_on whole longer packets reading in
          let at = next_at further c.fill.new.self c.packet.result c.link-in-packets.result c.link-in-packets.ensures.link (c.packet.ensures.captured whole further packets mid filled) in
          let behind = c.advance.ensures.goes_on whole further packets packet mid filled at in (
            further,
            packets ++ packet ∷ [],
            reading_on whole further (packets ++ packet ∷ []) c.advance.new.self mid new behind c.in_ok-take_packet.ensures.input,
            c.in_ok-take_packet.ensures.listed first packets (listed_on first packets c.packets.listing old mid listed c.in_ok-fill.ensures.read),
          );
    }

pub returns-clause-said : goal.returns-clause-said
returns-clause-said g c =
    let first = g.S.Shelf.outside c.args.shelf.now in
    let old = g.S.Shelf.outside c.packets.shelf in
    let mid = g.S.Shelf.outside c.fill.new.shelf in
    let new = g.S.Shelf.outside c.end.new.shelf in
    on_ok_both c.end.result c.end.ensures.said c.end.ensures.input (λ says same whole bytes is.
    let (longer, packets, reading, listed) = c.packets.invariant.goes_on whole bytes is in
    let (further, filled) = c.in_ok-fill.ensures.goes_on whole longer packets reading in
    record {
      bytes = further;
      records = packets;
      reading = reading_on whole further packets c.fill.new.self mid new filled same;
      through = c.in_ok-fill.ensures.through c.if-branch.false whole further packets filled;
      says = says first packets (listed_on first packets c.packets.listing old mid listed c.in_ok-fill.ensures.read);
    })

pub returns-clause-stopped : goal.returns-clause-stopped
returns-clause-stopped g c =
    let first = g.S.Shelf.outside c.args.shelf.now in
    let old = g.S.Shelf.outside c.packets.shelf in
    let mid = g.S.Shelf.outside c.fill.new.shelf in
    IfErr-weaker c.end.result _ _ (λ stop stopped whole bytes is.
    let (longer, packets, reading, listed) = c.packets.invariant.goes_on whole bytes is in
    let (further, filled) = c.in_ok-fill.ensures.goes_on whole longer packets reading in
    let through = c.in_ok-fill.ensures.through c.if-branch.false whole further packets filled in
    record {
      records = packets;
      ending = _;
      all = read_capture whole further packets c.fill.new.self mid filled through;
      there = stopped first packets (listed_on first packets c.packets.listing old mid listed c.in_ok-fill.ensures.read);
    }) c.end.ensures.stopped
