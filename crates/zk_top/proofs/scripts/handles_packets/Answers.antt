use Rattle.std.proofs.Common.{◌≡◌, subst, ◌∙◌}
use Rattle.std.specs.Prelude.{◌==◌}
use Rattle.std.specs.List.{list_any}
use Rattle.zk_top.proofs.CompileLaws.{handled}
use Rattle.zk_top.proofs.scripts.handles_packets.Goals as goal

pub returns : goal.returns
returns c =
    subst (λ handlers. c.has_handler.result ≡ list_any (λ handler. handler.event.0 == 2) handlers) c.as_slice.ensures c.has_handler.ensures
    ∙ handled 2 c.args.program.now.handlers
