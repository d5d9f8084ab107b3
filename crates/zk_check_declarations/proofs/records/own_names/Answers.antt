use Rattle.std.proofs.Common.{◌≤◌, ◌+◌, length, filter, ap, ◌∙◌, arith}
use Rattle.zk_typed.specs.Declarations.{is_one_of}
use Rattle.zk_typed.specs.Errors.{field_names}
use Rattle.zk_typed.specs.Names.{is_record}
use Rattle.zk_typed.specs.Resolving.{own_fields}
use Rattle.zk_scope.specs.Scripted.{scripts_in}
use Rattle.zk_check_declarations.specs.Adding.{has_field}
use Rattle.zk_check_declarations.proofs.AddedLaws.{named_all, named_turn}
use Rattle.zk_check_declarations.proofs.StatedLaws.{own_past}
use Rattle.zk_check_declarations.proofs.records.own_names.Goals as goal

pub loop-owner-preserved : goal.loop-owner-preserved
loop-owner-preserved c = λ number name.
    named_turn (λ one. is_one_of (field_names (own_fields (scripts_in c.args.names.now) one)) name) c.loop-owner.owner number (has_field c.loop-owner.known number name) (has_field c.add_own.new.known number name)
    (c.loop-owner.invariant number name) (c.in_ok-add_own.ensures number name)

pub returns : goal.returns
returns c = λ number name.
    let scripts = scripts_in c.args.names.now in
    c.loop-owner.invariant number name ∙
    named_all (λ one. is_one_of (field_names (own_fields scripts one)) name) c.loop-owner.owner number
    (λ past. let high : 8 + length (filter is_record scripts.nodes) ≤ number = omega (arith, c.in_ok-count.ensures) in ap (λ fields. is_one_of (field_names fields) name) (own_past scripts number high))
