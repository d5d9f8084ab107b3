use Rattle.std.proofs.Common.{◌≡◌, Option, Some, None, slice_get, sym, ap, ◌∙◌}
use Rattle.std.specs.Option.{option_copied}
use Rattle.zk_check_expressions.specs.declared.env.GlobalType.{GlobalType}
use Rattle.zk_check_expressions.specs.declared.env.GlobalType.TheVariants.{Known, Unknown, Circular}
use Rattle.zk_check_expressions.proofs.KeyLaws.{simple_is}
use Rattle.zk_typed.specs.declared.script.types.SimpleType.TheVariants.{Bool}
use Rattle.zk_typed.specs.Declarations.{global_type}
use Rattle.zk_typed.specs.Predefined as type
use Rattle.zk_typed.specs.Programs.{checked_or}
use Rattle.zk_typed.specs.View.{type_of}
use Rattle.zk_check_declarations.specs.Sources.{scripts_from}
use Rattle.zk_check.proofs.PartLaws.{global_at, unknown_bool}
use Rattle.zk_check.proofs.program.globals.type_or_bool.Goals as goal

pub returns-in_ok-copied_type-in-Some-Known : goal.returns-in_ok-copied_type-in-Some-Known
returns-in_ok-copied_type-in-Some-Known c =
    let globals = c.args.source.now.globals in
    let known = global_type (scripts_from c.args.source.now) in
    let found : slice_get globals.types.now c.args.number ≡ Some (Known c.in-Some-Known.one) = sym c.at.ensures ∙ ap option_copied c.in-Some-Known.is ∙ ap Some c.in-Some-Known.field-0-is in
    ap type_of c.in_ok-copied_type-in-Some-Known.ensures
    ∙ sym (ap (checked_or type.bool) (global_at globals known c.args.number (Some (Known c.in-Some-Known.one)) c.requires.known found))

pub returns-in-Some-Unknown : goal.returns-in-Some-Unknown
returns-in-Some-Unknown c =
    let globals = c.args.source.now.globals in
    let known = global_type (scripts_from c.args.source.now) in
    let found : slice_get globals.types.now c.args.number ≡ Some Unknown = sym c.at.ensures ∙ ap option_copied c.in-Some-Unknown.is ∙ ap Some c.in-Some-Unknown.field-0-is in
    simple_is Bool ∙ sym (ap (checked_or type.bool) (global_at globals known c.args.number (Some Unknown) c.requires.known found))

pub returns-in-Some-Circular : goal.returns-in-Some-Circular
returns-in-Some-Circular c =
    let globals = c.args.source.now.globals in
    let known = global_type (scripts_from c.args.source.now) in
    let found : slice_get globals.types.now c.args.number ≡ Some Circular = sym c.at.ensures ∙ ap option_copied c.in-Some-Circular.is ∙ ap Some c.in-Some-Circular.field-0-is in
    simple_is Bool ∙ sym (ap (checked_or type.bool) (global_at globals known c.args.number (Some Circular) c.requires.known found))

pub returns-in-None : goal.returns-in-None
returns-in-None c =
    let globals = c.args.source.now.globals in
    let known = global_type (scripts_from c.args.source.now) in
    let nothing : Option GlobalType = None in
    simple_is Bool ∙ sym (ap (checked_or type.bool) (global_at globals known c.args.number nothing c.requires.known (sym c.at.ensures ∙ ap option_copied c.in-None.is)) ∙ unknown_bool globals.circular)
