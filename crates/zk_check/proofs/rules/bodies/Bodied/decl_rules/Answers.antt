use Rattle.std.proofs.Common.{List, ◌&&◌, ◌||◌, ap, sym, ◌∙◌}
use Rattle.zk_tree.specs.declared.types.Field.{Field}
use Rattle.zk_typed.specs.Declarations.{is_one_of}
use Rattle.zk_typed.specs.Resolving.{is_that, type_named}
use Rattle.zk_scope.specs.Fields.{decl_fields}
use Rattle.zk_check_declarations.specs.Adding.{field_texts, has_field}
use Rattle.zk_tree.specs.declared.decl.Decl.{Decl, out-Decl}
use Rattle.zk_typed.specs.Errors.{decl_rules, field_names}
use Rattle.zk_scope.specs.Lent.{home_of}
use Rattle.zk_scope.specs.Scripted.{scripts_in}
use Rattle.zk_check.proofs.DeclLaws.{redef_texts, type_is}
use Rattle.zk_check_declarations.proofs.RuleLaws.{same_rules}
use Rattle.zk_check.proofs.rules.bodies.Bodied.decl_rules.Goals as goal

pub returns-in-Type-clause-rules : goal.returns-in-Type-clause-rules
returns-in-Type-clause-rules c = λ before known.
    let scripts = scripts_in c.args.self.now.valued.ground.names.now in
    let home = home_of c.args.one.home in
    same_rules c.type_decl.result (ap (λ (decl : Decl). decl_rules scripts before home (out-Decl decl)) c.in-Type.is ∙ type_is scripts before home c.in-Type.place c.in-Type.name c.in-Type.meant) c.type_decl.ensures

pub returns-in-RedefRecord-clause-fields : goal.returns-in-RedefRecord-clause-fields
returns-in-RedefRecord-clause-fields c = λ known number text.
    let scripts = scripts_in c.args.self.now.valued.ground.names.now in
    let home = home_of c.args.one.home in
    c.redef_record.ensures.known known number text ∙
    ap (λ more. has_field c.args.earlier.now.fields number text || more)
    (ap (λ (fields : List Field). is_that number (type_named scripts home c.in-RedefRecord.name) && is_one_of (field_texts fields) text) c.as_slice-in-RedefRecord.ensures ∙
    sym (redef_texts scripts home c.in-RedefRecord.place number c.in-RedefRecord.name c.in-RedefRecord.fields text) ∙
    ap (λ (decl : Decl). is_one_of (field_names (decl_fields scripts number home (out-Decl decl))) text) (sym c.in-RedefRecord.is))
