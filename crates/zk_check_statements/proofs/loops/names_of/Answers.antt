use Rattle.std.proofs.Common.{Option, sym, ap, ◌∙◌}
use Rattle.zk_tree.specs.declared.name.Name.{Name}
use Rattle.zk_typed.specs.Statements as spec
use Rattle.zk_check_statements.proofs.loops.names_of.Goals as goal

pub returns-in-Some : goal.returns-in-Some
returns-in-Some c = c.key_and_value_names.ensures c.in-Some.field-0 ∙ ap (λ (named : Option Name). spec.as_names named c.args.numbers.items) (sym c.in-Some.is)
