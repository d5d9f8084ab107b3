use Rattle.std.proofs.Common.{[], ◌∷◌, ◌++◌, sym, subst, ◌∙◌}
use Rattle.std.proofs.lemmas.Result.{err_from_is_err_and}
use Rattle.zk_top.specs.Line.{line_of, lines_of, list_options}
use Rattle.zk_io.specs.Said.{HasSaid}
use Rattle.zk_top.specs.Listing.{HasListed}
use Rattle.zk_top.proofs.ItemLemmas.{prefix_next}
use Rattle.zk_top.proofs.ListingLemmas.{lines_prefix, next_line}
use Rattle.zk_io.proofs.Said.{said_over, said_more, said_part_of, memory_after}
use Rattle.zk_traffic.specs.Items.{items_of}
use Rattle.zk_top.proofs.listing.Listing.take_items.Goals as goal

pub returns-in_err-make_room-clause-stopped : goal.returns-in_err-make_room-clause-stopped
returns-in_err-make_room-clause-stopped g c =
    let old = g.S.Shelf.outside c.items.shelf in
    let new = g.S.Shelf.outside c.make_room.new.shelf in
    let stop = c.in_err-make_room.field-0.0 in
    let p = err_from_is_err_and c.from_residual.result c.from_residual.ensures.1 in
    rw (p.1, p.2) (λ first packets given ended listed.
    let (more, far) = c.items.invariant.listed first packets given ended listed in
    let all = items_of list_options packets ended in
    said_part_of first (lines_of more) c.items.self.piece.items (lines_of all) old stop new far.says (lines_prefix more all far.begins) c.in_err-make_room.ensures.stopped)

pub returns-in_err-push_item_line-clause-stopped : goal.returns-in_err-push_item_line-clause-stopped
returns-in_err-push_item_line-clause-stopped g c =
    let old = g.S.Shelf.outside c.items.shelf in
    let new = g.S.Shelf.outside c.make_room.new.shelf in
    let rest = c.make_room.new.piece.items in
    let exit = c.from_residual-in_err-push_item_line in
    let p = err_from_is_err_and exit.result exit.ensures.1 in
    rw (p.1, p.2) (λ first packets given ended listed.
    let (more, far) = c.items.invariant.listed first packets given ended listed in
    let all = items_of list_options packets ended in
    memory_after first (lines_of more) rest (lines_of all) new
    (said_over first (lines_of more) c.items.self.piece.items old new rest far.says c.in_ok-make_room.ensures.said) (lines_prefix more all far.begins))

pub items-preserved : goal.items-preserved
items-preserved g c =
    let old = g.S.Shelf.outside c.items.shelf in
    let new = g.S.Shelf.outside c.make_room.new.shelf in
    let rest = c.make_room.new.piece.items in
    let item = c.in-Some.item in
    let longer = c.push_item_line.new.out.items in
    record {
      listed = λ first packets given ended listed.
          let (more, far) = c.items.invariant.listed first packets given ended listed in
          let all = items_of list_options packets ended in
          let handed = said_over first (lines_of more) c.items.self.piece.items old new rest far.says c.in_ok-make_room.ensures.said in (
            more ++ item ∷ [],
            record {
              link = far.link;
              stands = c.in-Some.ensures.given _ far.stands;
              begins = prefix_next more all item far.begins (c.in-Some.ensures.item _ far.stands);
              says = subst (λ lines. HasSaid first lines longer new) (sym (next_line more item))
                  (said_more first (lines_of more) rest (line_of item) longer new handed c.in_ok-push_item_line.ensures.ok);
            },
          );
      input = (c.in_ok-make_room.ensures.input.0 ∙ c.items.invariant.input.0, c.in_ok-make_room.ensures.input.1 ∙ c.items.invariant.input.1);
    }

pub returns-clause-listed : goal.returns-clause-listed
returns-clause-listed g c first packets given ended listed =
    let now = g.S.Shelf.outside c.items.shelf in
    let (more, far) = c.items.invariant.listed first packets given ended listed in
    let (all, stands) = c.in_default.ensures.none _ far.stands in
    let here : HasListed first packets more ended (record { traffic = c.next.new.self; piece = c.items.self.piece }) now =
    record { link = far.link; stands = stands; begins = far.begins; says = far.says } in
    subst (λ items. HasListed first packets items ended (record { traffic = c.next.new.self; piece = c.items.self.piece }) now) all here
