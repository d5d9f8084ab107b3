use Rattle.std.proofs.Common.{◌≡◌, List, length, map, ap, ◌∙◌, arith}
use Rattle.zk_typed.specs.Declarations.{variables}
use Rattle.zk_typed.specs.Typing.{is_variable}
use Rattle.zk_scope.specs.Indexing.{passing}
use Rattle.zk_scope.specs.Scripted.{scripts_in}
use Rattle.zk_check_expressions.specs.declared.env.GlobalType.{GlobalType}
use Rattle.zk_check_expressions.specs.Envs.{global_of}
use Rattle.zk_check_declarations.specs.Rounds.{filled, types_at}
use Rattle.zk_check_declarations.proofs.RoundLaws.{last_globals, next_after, passing_many, same_lent, still_globals}
use Rattle.zk_check_declarations.proofs.rounds.told_types.Goals as goal

pub returns-then-same_globals : goal.returns-then-same_globals
returns-then-same_globals c =
    let scripts = scripts_in c.args.scripts.now.names in
    still_globals scripts c.loop-at.at c.tell_in_order.new.types.items c.in_ok-next.next.items
    (c.in_ok-next.ensures ∙ ap (λ (items : List GlobalType). filled scripts (types_at (map global_of items)) (variables scripts)) c.deref-in-loop-at.ensures.value)
    (same_lent c.tell_in_order.new.types.items c.in_ok-next.next.items c.deref-in-loop-at-2.result.now c.deref-in-loop-at-3.result.now c.deref-in-loop-at-2.ensures.value c.deref-in-loop-at-3.ensures.value c.if-same_globals.ensures)
    (c.in_ok-tell_in_order.ensures c.loop-at.at (c.deref.ensures.value ∙ c.in_ok-places.ensures ∙ ap (passing is_variable) c.declared.ensures) c.loop-at.invariant)

pub loop-at-preserved : goal.loop-at-preserved
loop-at-preserved c =
    let scripts = scripts_in c.args.scripts.now.names in
    next_after scripts c.loop-at.at c.tell_in_order.new.types.items c.in_ok-next.next.items
    (c.in_ok-next.ensures ∙ ap (λ (items : List GlobalType). filled scripts (types_at (map global_of items)) (variables scripts)) c.deref-in-loop-at.ensures.value)
    (c.in_ok-tell_in_order.ensures c.loop-at.at (c.deref.ensures.value ∙ c.in_ok-places.ensures ∙ ap (passing is_variable) c.declared.ensures) c.loop-at.invariant)

pub returns : goal.returns
returns c =
    let scripts = scripts_in c.args.scripts.now.names in
    let many : length c.in_ok-places.places.items ≡ length (variables scripts) = ap length (c.in_ok-places.ensures ∙ ap (passing is_variable) c.declared.ensures) ∙ passing_many is_variable scripts.names in
    let all : c.loop-at.at ≡ length (variables scripts) = omega arith in
    last_globals scripts c.loop-at.at c.loop-at.types.items all c.loop-at.invariant
