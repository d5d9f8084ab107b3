use Rattle.std.proofs.Common.{◌++◌, map, refl, ap, ◌∙◌}
use Rattle.zk_conn.specs.Segment.{key_of}
use Rattle.zk_traffic.specs.Conversation.{with_segment}
use Rattle.zk_traffic.specs.Instances.{joined_by, latest}
use Rattle.zk_traffic.specs.Items.{facts, segment_fresh, unit_item}
use Rattle.zk_traffic.specs.News.{runs_of}
use Rattle.zk_traffic.specs.Queue.{ending_items, gap_item, opening_items}
use Rattle.zk_traffic.specs.Taken.{segment_of}
use Rattle.zk_traffic.specs.Waiting.{items_in}
use Rattle.zk_traffic.proofs.GivenLemmas.{items_given, knows, on_ok, together}
use Rattle.zk_traffic.proofs.connections.Connections.take.Goals as goal

pub returns : goal.returns
unfolding runs_of
returns c = on_ok c.give_endings.result c.give_endings.ensures (λ endings limit segments current none_fresh no_gaps no_units.
    let s = segment_of c.args.t c.args.segment.now in
    let taken = c.in_ok-done.ensures limit segments current in
    let known = facts (with_segment limit (joined_by (latest limit (key_of s.view) segments) s) s) in
    let is_known = knows c.take.new.self limit segments s c.in_ok-done.done c.args.self.now.news c.take.new.news taken in (
      taken.current,
      together (items_in c.args.self.now.items) (items_in c.give_opening.new.items) (items_in c.give_gaps.new.items) (items_in c.give_units.new.items) (items_in c.give_endings.new.items)
          (opening_items c.args.t c.in_ok-done.done known) (map (gap_item c.args.t c.in_ok-done.done.conn known) c.take.new.news.gaps.items)
          (map (unit_item c.args.t c.in_ok-done.done.conn known) c.take.new.news.«units».items) (ending_items c.args.t c.in_ok-done.done known)
          (c.in_ok-give_opening.ensures known is_known) (c.in_ok-give_gaps.ensures known is_known ∙ ap (λ l. items_in c.give_opening.new.items ++ map (gap_item c.args.t c.in_ok-done.done.conn known) l) c.deref.ensures.value) (c.in_ok-give_units.ensures known is_known) (endings known is_known)
          ∙ ap (λ l. items_in c.args.self.now.items ++ l) (items_given c.take.new.self limit segments s c.in_ok-done.done c.args.self.now.news c.take.new.news taken no_gaps no_units known refl),
      taken.runs_are ∙ ap (λ l. l ++ segment_fresh limit segments s) none_fresh,
    ))
