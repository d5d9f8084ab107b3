use Rattle.std.proofs.Common.{ℕ, List, [], ap, sym, ◌∙◌}
use Rattle.zk_typed.specs.Checked.{both}
use Rattle.zk_typed.specs.Declarations.{local_rules, maybe_rules, nothing, param_rules}
use Rattle.zk_typed.specs.Errors.{body_made, function_head, result_wanted}
use Rattle.zk_typed.specs.Statements.{InFunction}
use Rattle.zk_scope.specs.Lent.{home_of}
use Rattle.zk_scope.specs.Scripted.{scripts_in}
use Rattle.zk_check_declarations.proofs.RuleLaws.{also_tells, five_parts, same_rules}
use Rattle.zk_check.proofs.rules.bodies.Bodied.function_rules.Goals as goal

pub returns : goal.returns
returns c = λ earlier named was.
    let scripts = scripts_in c.args.self.now.valued.ground.names.now in
    let body = c.args.body.now in
    let home = home_of body.home in
    let written = c.args.result_type.now in
    let params = param_rules scripts home [] body.params.now in
    let given = maybe_rules scripts home written in
    let head = function_head scripts earlier home body.place body.name.now body.params.now written c.args.whole.now in
    let locals = local_rules scripts home body.block.now in
    let stated = (body_made scripts home (InFunction (result_wanted scripts home written)) body.params.now body.block.now).made in
    same_rules c.also-4.result
    (ap (λ (whole : List ℕ). nothing (both (both params given) (both (function_head scripts earlier home body.place body.name.now body.params.now written whole) (both locals stated)))) (sym named) ∙
    sym (five_parts params given head locals stated))
    (also_tells c.also.result c.also-3.result c.also-4.result (nothing (both params given)) (nothing (both head (nothing (both locals (nothing stated)))))
    (also_tells c.param_rules-params.result c.maybe_rules-given.result c.also.result params given c.param_rules-params.ensures (same_rules c.maybe_rules-given.result (ap (maybe_rules scripts home) (sym c.as_ref.ensures.value)) c.maybe_rules-given.ensures) c.also.ensures)
    (also_tells c.function_head-head.result c.also-2.result c.also-3.result head (nothing (both locals (nothing stated))) (c.function_head-head.ensures earlier was)
    (also_tells c.local_rules-locals.result c.function_body-stated.result c.also-2.result locals (nothing stated) c.local_rules-locals.ensures c.function_body-stated.ensures c.also-2.ensures)
    c.also-3.ensures)
    c.also-4.ensures)
