use Rattle.std.proofs.Common.{None, Some}
use Rattle.zk_scope.specs.Lent.{stated_of}
use Rattle.zk_scope.specs.Scripted.{scripts_in}
use Rattle.zk_scope.proofs.FieldPlaceLaws.{hold_added, hold_none}
use Rattle.zk_scope.proofs.fields.add_stated.Goals as goal

pub returns-in_ok-add_named-in-Some : goal.returns-in_ok-add_named-in-Some
returns-in_ok-add_named-in-Some c = λ places texts held.
    hold_added (scripts_in c.args.names.now) (stated_of c.args.one.now) c.args.place c.add_named.new.all.items places texts (Some (c.in-Some.name.now, c.in-Some.fields.now)) c.in-Some.ensures
    (c.in_ok-add_named-in-Some.ensures places texts held)

pub returns-in-None : goal.returns-in-None
returns-in-None c = λ places texts held.
    hold_added (scripts_in c.args.names.now) (stated_of c.args.one.now) c.args.place c.args.all.now.items places texts None c.in-None.ensures (hold_none c.args.all.now.items places texts held)
