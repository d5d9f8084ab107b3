use Rattle.std.proofs.Common.{[], ◌∷◌, ◌++◌, false, refl}
use Rattle.std.proofs.lemmas.Result.{err_from_is_err_and, on_ok_weaker, IfErr-weaker}
use Rattle.zk_base.specs.Captured.{captured}
use Rattle.zk_top.specs.Line.{lines_of, list_options}
use Rattle.zk_top.proofs.ItemLemmas.{items_begin, bounded_moment}
use Rattle.zk_top.proofs.ListingLemmas.{lines_prefix}
use Rattle.zk_io.proofs.Said.{memory_after}
use Rattle.zk_traffic.specs.Items.{items_of}
use Rattle.zk_top.proofs.listing.Listing.take_packet.Goals as goal

pub packet-requires : goal.packet-requires
packet-requires g c = record {
  early = (bounded_moment (captured c.args.link c.args.packet) c.requires).0;
  late = (bounded_moment (captured c.args.link c.args.packet) c.requires).1;
  captured = c.requires.captured;
}

pub returns-in_err-packet-clause-stopped : goal.returns-in_err-packet-clause-stopped
returns-in_err-packet-clause-stopped g c =
    let old = g.S.Shelf.outside c.args.shelf.now in
    let packet = captured c.args.link c.args.packet in
    let p = err_from_is_err_and c.from_residual.result c.from_residual.ensures.1 in
    rw (p.1, p.2) (λ first packets listed.
    let given = items_of list_options packets false in
    let all = items_of list_options (packets ++ packet ∷ []) false in
    memory_after first (lines_of given) c.args.self.now.piece.items (lines_of all) old listed.says (lines_prefix given all (items_begin c.items_stay.ensures list_options packets (packet ∷ []) false)))

pub returns-clause-listed : goal.returns-clause-listed
returns-clause-listed g c =
    let packet = captured c.args.link c.args.packet in
    on_ok_weaker c.take_items.result (λ takes first packets listed.
    let given = items_of list_options packets false in
    takes first (packets ++ packet ∷ []) given false (record {
      link = c.args.link;
      stands = c.in_ok-packet.ensures.taken _ (c.set_link.ensures.stands _ listed.stands) refl;
      begins = items_begin c.items_stay.ensures list_options packets (packet ∷ []) false;
      says = listed.says;
    })) c.take_items.ensures.listed

pub returns-clause-stopped : goal.returns-clause-stopped
returns-clause-stopped g c =
    let packet = captured c.args.link c.args.packet in
    IfErr-weaker c.take_items.result _ _ (λ stop stopped first packets listed.
    let given = items_of list_options packets false in
    stopped first (packets ++ packet ∷ []) given false (record {
      link = c.args.link;
      stands = c.in_ok-packet.ensures.taken _ (c.set_link.ensures.stands _ listed.stands) refl;
      begins = items_begin c.items_stay.ensures list_options packets (packet ∷ []) false;
      says = listed.says;
    })) c.take_items.ensures.stopped
