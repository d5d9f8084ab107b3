use Rattle.std.proofs.Common.{ℕ, ◌+◌, List, drop, filter, map}
use Rattle.zk_scope.specs.Lent.{declared_lent, declared_of}
use Rattle.zk_typed.specs.Names.{Declared}
use Rattle.zk_typed.specs.Programs as spec
use Rattle.zk_typed.specs.Typing.{is_variable}
use Rattle.zk_typed.specs.View as view
use Rattle.zk_check_declarations.specs.Sources.{scripts_from}
use Rattle.zk_check.proofs.GivenLaws.{left_more}
use Rattle.zk_check.proofs.program.globals.globals_of.Goals as goal

pub loop-one-preserved : goal.loop-one-preserved
loop-one-preserved c =
    let scripts = scripts_from c.args.source.now in
    let names = c.declared-one-items.result.now in
    left_more declared_of (λ (number : ℕ) (left : List Declared). spec.globals_from scripts number (filter is_variable left)) (map view.global_of c.loop-one.all.items) _
    (spec.globals_from scripts 0 (filter is_variable (declared_lent names))) c.loop-one.number _ names c.loop-one.one-index c.one-item.result c.loop-one-test.true c.one-item.is
    (c.in_ok-next_global.ensures (drop (c.loop-one.one-index + 1) (declared_lent names))) c.loop-one.invariant
