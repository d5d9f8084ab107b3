use Rattle.std.proofs.Common.{sym, ◌∙◌}
use Rattle.zk_traffic.specs.Taken.{segment_of}
use Rattle.zk_traffic.proofs.StreamLemmas.{begins_new}
use Rattle.zk_traffic.proofs.streams.begin.Goals as goal

pub returns-then-has_syn : goal.returns-then-has_syn
returns-then-has_syn c = λ t d is.
    begins_new c.args.limit c.args.stops.resets c.args.stops.was_reset (segment_of t c.args.segment.now) d c.args.stream.now c.new.result is c.if-is_none.ensures
    (sym c.has_syn.ensures ∙ c.if-has_syn.true) c.new.ensures
