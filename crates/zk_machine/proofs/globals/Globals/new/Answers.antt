use Rattle.std.proofs.Common.{rules, ◌≡◌, None, Option, length, map, replicate}
use Rattle.zk_tree.specs.Value.{Value}
use Rattle.zk_value.specs.Plain.{field_of}
use Rattle.zk_machine.specs.Owners.{each_global, expires_in}
use Rattle.zk_machine.proofs.OwnerLemmas.{names-nothing, none-owned}
use Rattle.zk_machine.proofs.globals.Globals.new.Goals as goal

pub invariant_of-result : goal.invariant_of-result
invariant_of-result c =
    let nothing : Option Value = None in
    let named = map field_of c.add_locals.new.names.items in
    let none : map field_of c.add_locals.new.names.items ≡ replicate (length c.args.code.now) nothing = search rules in
    let all = c.in_ok-new.field-0 in
    let own = c.in_ok-new-2.field-0 in (
      none-owned each_global (length c.args.code.now) all.limit named all.list.items c.in_ok-new.ensures none,
      none-owned (expires_in c.in_ok-expiring.field-0.items) (length c.args.code.now) own.limit named own.list.items c.in_ok-new-2.ensures none,
    )

pub returns-clause-nothing : goal.returns-clause-nothing
returns-clause-nothing c =
    let nothing : Option Value = None in
    let none : map field_of c.add_locals.new.names.items ≡ replicate (length c.args.code.now) nothing = search rules in
    names-nothing (length c.args.code.now) (map field_of c.add_locals.new.names.items) none
