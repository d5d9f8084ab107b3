use Rattle.std.proofs.Common.{◌≡◌, ℕ, List, [], ◌∷◌, ◌++◌, Some, sym, ap, ◌∙◌}
use Rattle.zk_typed.specs.declared.script.stmt.Names.{Names}
use Rattle.zk_typed.specs.Statements as spec
use Rattle.zk_check_statements.proofs.Stated.{names_are}
use Rattle.zk_check_statements.proofs.made.key_and_value_names.Goals as goal

pub returns-in-Some : goal.returns-in-Some
returns-in-Some c name =
    let before : c.args.numbers.items ≡ c.pop.new.self.items ++ c.in-Some.last ∷ [] = c.in-Some.ensures.items in
    let names : List ℕ → Names = λ keys. record { keys = keys; value = Some c.in-Some.last } in
    ap names c.from.ensures ∙ sym (ap (spec.as_names (Some name)) before ∙ names_are name c.pop.new.self.items c.in-Some.last)
