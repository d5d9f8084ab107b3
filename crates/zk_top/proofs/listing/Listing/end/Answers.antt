use Rattle.std.proofs.Common.{[], true, false, refl, subst}
use Rattle.std.proofs.lemmas.Result.{err_from_is_err_and, IfErr-weaker, on_ok_weaker}
use Rattle.zk_top.specs.Line.{capture_lines, lines_of, list_options}
use Rattle.zk_outcome.specs.Parts.{DoesAll, DoesPart}
use Rattle.zk_outcome.proofs.Doing.{prefix_all}
use Rattle.zk_top.proofs.ItemLemmas.{items_end}
use Rattle.zk_top.proofs.ListingLemmas.{lines_prefix}
use Rattle.zk_io.proofs.Said.{said_all_of, said_part_of, memory_after}
use Rattle.zk_traffic.specs.Items.{items_of}
use Rattle.zk_top.proofs.listing.Listing.end.Goals as goal

pub returns-in_err-end-clause-stopped : goal.returns-in_err-end-clause-stopped
returns-in_err-end-clause-stopped g c =
    let old = g.S.Shelf.outside c.args.shelf.now in
    let p = err_from_is_err_and c.from_residual.result c.from_residual.ensures.1 in
    rw (p.1, p.2) (λ first packets listed.
    let given = items_of list_options packets false in
    memory_after first (lines_of given) c.args.self.now.piece.items (capture_lines packets) old listed.says
    (lines_prefix given (items_of list_options packets true) (items_end c.items_stay.ensures list_options packets)))

pub returns-in_err-take_items-clause-stopped : goal.returns-in_err-take_items-clause-stopped
returns-in_err-take_items-clause-stopped g c =
    let exit = c.from_residual-in_err-take_items in
    let p = err_from_is_err_and exit.result exit.ensures.1 in
    rw (p.1, p.2) (λ first packets listed.
    let given = items_of list_options packets false in
    c.in_err-take_items.ensures.stopped first packets given true (record {
      link = listed.link;
      stands = c.in_ok-end.ensures.ended _ listed.stands refl;
      begins = items_end c.items_stay.ensures list_options packets;
      says = listed.says;
    }))

pub returns-clause-said : goal.returns-clause-said
returns-clause-said g c =
    let mid = g.S.Shelf.outside c.take_items.new.shelf in
    let new = g.S.Shelf.outside c.say.new.shelf in
    on_ok_weaker c.say.result (λ says first packets listed.
    let given = items_of list_options packets false in
    let all = c.in_ok-take_items.ensures.listed first packets given true (record {
      link = listed.link;
      stands = c.in_ok-end.ensures.ended _ listed.stands refl;
      begins = items_end c.items_stay.ensures list_options packets;
      says = listed.says;
    }) in
    said_all_of first (capture_lines packets) c.take_items.new.self.piece.items mid new all.says (subst (λ text. DoesAll [] text [] mid new) c.deref.ensures.value says)) c.say.ensures.said

pub returns-clause-stopped : goal.returns-clause-stopped
returns-clause-stopped g c =
    let mid = g.S.Shelf.outside c.take_items.new.shelf in
    let new = g.S.Shelf.outside c.say.new.shelf in
    IfErr-weaker c.say.result (λ stop. DoesPart [] c.deref.result.now [] mid stop new) _ (λ stop part first packets listed.
    let given = items_of list_options packets false in
    let text = capture_lines packets in
    let all = c.in_ok-take_items.ensures.listed first packets given true (record {
      link = listed.link;
      stands = c.in_ok-end.ensures.ended _ listed.stands refl;
      begins = items_end c.items_stay.ensures list_options packets;
      says = listed.says;
    }) in
    said_part_of first text c.take_items.new.self.piece.items text mid stop new all.says (prefix_all text) (subst (λ piece. DoesPart [] piece [] mid stop new) c.deref.ensures.value part)) c.say.ensures.stopped
