use Rattle.std.proofs.Common.{map, ap, ◌∙◌}
use Rattle.zk_typed.specs.View as view
use Rattle.zk_check.proofs.program.code_of.Goals as goal

pub returns : goal.returns
returns c = record {
  functions = ap (map view.function_of) c.code_with.ensures.functions ∙ c.in_ok-functions.ensures;
  hooks = ap (map view.hook_of) c.code_with.ensures.hooks ∙ c.in_ok-hooks.ensures;
  events = ap (map view.event_of) c.code_with.ensures.events ∙ c.in_ok-events.ensures;
  handlers = ap (map view.handler_of) c.code_with.ensures.handlers ∙ c.in_ok-handlers.ensures;
}
