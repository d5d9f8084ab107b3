use Rattle.std.proofs.Common.{[], ◌∷◌, None, codes, sym}
use Rattle.zk_typed.specs.Checked.{both}
use Rattle.zk_typed.specs.Declarations.{attr_rules, is_one_of, local_rules, nothing, param_rules, with_value}
use Rattle.zk_typed.specs.Errors.{body_made, head_rules, kind_of, priority_rules, within_of}
use Rattle.zk_typed.specs.Names.{look_up}
use Rattle.zk_scope.specs.Lent.{home_of}
use Rattle.zk_scope.specs.Scripted.{scripts_in}
use Rattle.zk_check_declarations.proofs.RuleLaws.{also_tells, five_parts, same_rules}
use Rattle.zk_check.proofs.rules.bodies.Bodied.event_rules.Goals as goal

pub returns : goal.returns
returns c =
    let scripts = scripts_in c.args.self.now.valued.ground.names.now in
    let body = c.args.body.now in
    let home = home_of body.home in
    let params = param_rules scripts home [] body.params.now in
    let head = head_rules scripts home body.place body.name.now (kind_of c.args.kind) body.params.now None (look_up scripts.names home.module_name body.name.now.text) in
    let marked = attr_rules home (is_one_of (codes "priority" ∷ [])) with_value (λ attr. priority_rules scripts home attr.value) [] c.args.attrs.now in
    let locals = local_rules scripts home body.block.now in
    let stated = (body_made scripts home (within_of c.args.kind) body.params.now body.block.now).made in
    same_rules c.also-4.result (sym (five_parts params head marked locals stated))
    (also_tells c.also.result c.also-3.result c.also-4.result (nothing (both params head)) (nothing (both marked (nothing (both locals (nothing stated)))))
    (also_tells c.param_rules-params.result c.body_head-head.result c.also.result params head c.param_rules-params.ensures c.body_head-head.ensures c.also.ensures)
    (also_tells c.body_attrs-marked.result c.also-2.result c.also-3.result marked (nothing (both locals (nothing stated))) c.body_attrs-marked.ensures
    (also_tells c.local_rules-locals.result c.body_rules-stated.result c.also-2.result locals (nothing stated) c.local_rules-locals.ensures c.body_rules-stated.ensures c.also-2.ensures)
    c.also-3.ensures)
    c.also-4.ensures)
