use Rattle.std.proofs.Common.{rules, ◌≡◌, ◌-◌, length, map, reverse, take, ap, ◌∙◌}
use Rattle.zk_value.specs.Plain.{value_of}
use Rattle.zk_machine.proofs.Stack.{without_are}
use Rattle.zk_machine.proofs.running.cut.Goals as goal

pub returns : goal.returns
returns c =
    let e : c.truncate.new.self.items ≡ take (length c.args.stack.now.items - c.args.count) c.args.stack.now.items = search rules in
    ap (λ l. map value_of (reverse l)) e ∙ without_are value_of c.args.stack.now.items c.args.count
