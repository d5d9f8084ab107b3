use Rattle.std.proofs.Common.{Option, None, Bor, ap, sym, ◌∙◌}
use Rattle.std.specs.Option.{option_map}
use Rattle.zk_tree.specs.declared.types.Type.{«Type»}
use Rattle.zk_typed.specs.Names.{Declared as DeclaredAs, look_up}
use Rattle.zk_typed.specs.Errors.{head_rules, kind_of}
use Rattle.zk_typed.specs.Names.{Signature}
use Rattle.zk_scope.specs.declared.declared.Declared.{Declared}
use Rattle.zk_scope.specs.Lent.{declared_of, home_of, meant_of, signature_of}
use Rattle.zk_scope.specs.Scripted.{scripts_in}
use Rattle.zk_check_declarations.specs.Signing.{of_kind}
use Rattle.zk_check_declarations.proofs.HeadLaws.{head_is}
use Rattle.zk_check_declarations.proofs.RuleLaws.{same_rules}
use Rattle.zk_check_declarations.proofs.ground.Ground.body_head.Goals as goal

pub returns-in-Some : goal.returns-in-Some
returns-in-Some c =
    let scripts = scripts_in c.args.self.now.names.now in
    let home = home_of c.args.home in
    let name = c.args.name.now in
    let params = c.args.params.now in
    let given : Option «Type» = None in
    same_rules c.of_kind.result
    (ap (λ (found : Option DeclaredAs). head_rules scripts home c.args.place name (kind_of c.args.kind) params given found) (ap (look_up scripts.names c.args.home.module_name.now) (sym c.as_slice-text.ensures) ∙ sym c.in_ok-one.ensures ∙ ap (option_map (λ (one : Bor Declared). declared_of one.now)) c.in-Some.is) ∙
    head_is scripts home c.args.place name (kind_of c.args.kind) params given (declared_of c.in-Some.one.now) ∙
    ap (λ (signature : Signature). of_kind scripts home c.args.place name signature ((kind_of c.args.kind) (meant_of c.in-Some.one.now.meant))) (sym c.written-given.ensures) ∙
    ap (of_kind scripts home c.args.place name (signature_of c.written-given.result)) (sym c.body_signature-declared.ensures))
    c.of_kind.ensures
