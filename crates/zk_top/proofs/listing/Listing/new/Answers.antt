use Rattle.std.proofs.Common.{[], sym, subst}
use Rattle.zk_top.specs.Line.{list_options}
use Rattle.zk_io.specs.Said.{HasSaid}
use Rattle.zk_outcome.proofs.Doing.{prefix_none}
use Rattle.zk_io.proofs.Said.{said_nothing}
use Rattle.zk_traffic.specs.Items.{items_of}
use Rattle.zk_top.proofs.listing.Listing.new.Goals as goal

pub returns : goal.returns
returns c first = record {
  link = c.args.link;
  stands = c.in_ok-new.ensures.stands;
  begins = prefix_none (items_of list_options [] _);
  says = subst (λ piece. HasSaid first [] piece first) (sym c.in_ok-with_capacity.ensures.items) (said_nothing first);
}
