use Rattle.std.proofs.Common.{refl, ap, sym, ◌∙◌, Some}
use Rattle.zk_machine.proofs.StreamLemmas.{stream_is}
use Rattle.zk_machine.proofs.state.State.write_of.Goals as goal

pub returns : goal.returns
returns c = (stream_is c.args.log c.args.self.now.world.streams c.in_ok-stream.stream c.in_ok-filters.filters.items (sym c.in-Some.ensures ∙ ap Some (sym c.in_ok-stream.ensures)) c.in_ok-filters.ensures, refl, refl)
