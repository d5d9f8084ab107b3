use Rattle.std.proofs.Common.{List, ◌++◌, ap, sym, ◌∙◌}
use Rattle.zk_scope.specs.declared.field.FieldInfo.{FieldInfo as LentField}
use Rattle.zk_scope.specs.Fields.{fields_lent, own_of, predefined_fields}
use Rattle.zk_scope.specs.Scripted.{scripts_in}
use Rattle.zk_scope.proofs.FieldLaws.{own_is}
use Rattle.zk_scope.proofs.known.Names.own_fields.Goals as goal

pub returns : goal.returns
returns c =
    let scripts = scripts_in c.args.self.now in
    let number = c.args.number.0 in
    let own = own_of scripts number (predefined_fields number) in
    c.in_ok-add_own.ensures ∙ ap (λ (x : List LentField). fields_lent x ++ own) c.new-all.ensures.items ∙ sym (own_is scripts number)
