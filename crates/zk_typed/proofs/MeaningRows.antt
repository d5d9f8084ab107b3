-- What the meaning gives for small programs of the whole language, computed by the checker.
use Rattle.std.proofs.Common.{◌≡◌, ℕ, ℤ, List, [], ◌∷◌, codes, pos, negsuc, refl, Some, None, Option, map, ◌*ℤ◌}
use Rattle.std.specs.Fmt.{digits}
use Rattle.zk_base.specs.declared.time.Moment.{Moment}
use Rattle.zk_text.specs.Span.{span_decimal}
use Rattle.zk_tree.specs.declared.expiry.Expiry.{Expiry}
use Rattle.zk_tree.specs.declared.expiry.Expiry.TheVariants.{Create}
use Rattle.zk_tree.specs.declared.place.Place.{Place}
use Rattle.zk_tree.specs.Table.{entry_at, entry_numbered, with_entry, without, moment_after, first_due}
use Rattle.zk_tree.specs.Value.{Value, Count, String, Interval, same}
use Rattle.zk_typed.specs.declared.script.action.Action.TheVariants as action
use Rattle.zk_typed.specs.declared.script.action.Left.TheVariants as left
use Rattle.zk_typed.specs.declared.script.primitive.Binary.TheVariants as binary
use Rattle.zk_typed.specs.declared.script.primitive.BuiltIn.TheVariants as built_in
use Rattle.zk_typed.specs.declared.script.primitive.Direction.TheVariants as direction
use Rattle.zk_typed.specs.declared.script.primitive.Primitive.{Primitive}
use Rattle.zk_typed.specs.declared.script.primitive.Primitive.TheVariants as primitive
use Rattle.zk_typed.specs.declared.script.primitive.Relation.TheVariants as relation
use Rattle.zk_typed.specs.declared.script.primitive.Shape.{Shape}
use Rattle.zk_typed.specs.Forms.{Expr, Constant, Local, Global, Apply, Hook, Exprs, NoExpr, AndExpr, Stmt, Block, Do, Evaluate, Perform, If, While, ForKeys, Return, Break, Stmts, NoStmt, AndStmt}
use Rattle.zk_typed.specs.Log.{Row, Cell, One, Text, Plain}
use Rattle.zk_typed.specs.Predefined as type
use Rattle.zk_typed.specs.Predefined.{events, record_types, zeek_init, zeek_done}
use Rattle.zk_typed.specs.Program as program
use Rattle.zk_typed.specs.Program.{Program, Handler, Function, HookBody}
use Rattle.zk_typed.specs.Running.{Item, Goes, Floods, run, drained, world_in, dispatches_max}
use Rattle.zk_typed.specs.State.{World, first_world, queued_behind}
use Rattle.zk_typed.specs.World.{queued}

-- Programs -----------------------------------------------------------------------------------------------------------

at : ℕ → Place
at byte = record { file = 0; byte = byte }

moment : ℕ → Moment
moment micros = record { 0 = pos micros }

exprs : List Expr → Exprs
exprs [] = NoExpr
exprs (one ∷ others) = AndExpr one (exprs others)

stmts : List Stmt → Stmts
stmts [] = NoStmt
stmts (one ∷ others) = AndStmt one (stmts others)

block : List Stmt → Stmt
block list = Block (stmts list)

apply : Primitive → List Expr → Expr
apply one list = Apply one (exprs list)

number : ℕ → Expr
number n = Constant (Count n)

print : ℕ → List Expr → Stmt
print byte list = Do (at byte) action.Print (exprs list)

-- t[k] = x;
set : ℕ → Expr → Expr → Expr → Stmt
set byte table key value = Do (at byte) (action.Assign left.Element) (exprs (value ∷ table ∷ key ∷ []))

plain : Shape
plain = record { keys = 1; expiry = None; default = None }

handler : ℤ → ℕ → List Stmt → Handler
handler priority locals list = record { event = record { 0 = 0 }; priority = priority; locals = locals; body = block list }

-- of these globals, functions, hooks and handlers of `zeek_init`, in the file s.zeek
script : List program.Global → List Function → List program.Hook → List Handler → Program
script globals functions hooks handlers = record {
  files = codes "s.zeek" ∷ [];
  records = record_types;
  logs = [];
  globals = globals;
  functions = functions;
  hooks = hooks;
  events = events;
  handlers = handlers;
}

said : Program → ℕ → List (List ℕ)
said one budget = (world_in (run one budget [] (moment 0))).lines

rows : Program → ℕ → List Row
rows one budget = (world_in (run one budget [] (moment 0))).rows

-- global t: table[count] of count;
table_global : program.Global
table_global = record {
  place = at 0;
  global_type = type.count;
  initial = Some (apply (primitive.NewTable plain) []);
  added = [];
  expiry = None;
  expire_func = None;
}

-- the cells of a row of `reporter` at time 0
cells : List ℕ → List ℕ → List Cell
cells message location =
    One (Plain (codes "0.000000")) ∷ One (Plain (codes "Reporter::ERROR")) ∷ One (Text message) ∷ One (Text location) ∷ []

-- Rows -----------------------------------------------------------------------------------------------------------------

-- function f(t: table[count] of count) { t[2] = 5; }
-- event zeek_init() { f(t); print |t|, t[2], 7 / 2; print 7 / 0; print 1; }
by_reference : Program
by_reference = script (table_global ∷ [])
    (record { params = type.count ∷ []; «result» = None; locals = 1; body = block (set 10 (Local 0) (number 2) (number 5) ∷ []) } ∷ [])
    []
    (handler (pos 0) 0 (
    Perform (at 20) 0 (exprs (Global 0 ∷ [])) ∷
    print 30 (apply primitive.Size (Global 0 ∷ []) ∷ apply primitive.Element (Global 0 ∷ number 2 ∷ []) ∷ apply (primitive.Binary binary.Over) (number 7 ∷ number 2 ∷ []) ∷ []) ∷
    print 40 (apply (primitive.Binary binary.Over) (number 7 ∷ number 0 ∷ []) ∷ []) ∷
    print 50 (number 1 ∷ []) ∷ []) ∷ [])

a_fault_ends_a_body_and_keeps_what_it_did : said by_reference 1000 ≡ codes "1, 5, 3" ∷ []
unfolding said by_reference script handler table_global set plain print number apply block stmts exprs moment at digits dispatches_max same entry_at with_entry
a_fault_ends_a_body_and_keeps_what_it_did = refl

-- event zeek_init() { local i = 0; while ( i < 3 ) ++i; print i; }
counting : Program
counting = script [] [] []
    (handler (pos 0) 1 (
    Do (at 20) (action.Assign (left.Local 0)) (exprs (number 0 ∷ [])) ∷
    While (at 33) (apply (primitive.Compare relation.Less) (Local 0 ∷ number 3 ∷ [])) (Evaluate (at 49) (apply (primitive.Step (left.Local 0) direction.Up) [])) ∷
    print 54 (Local 0 ∷ []) ∷ []) ∷ [])

statements_and_turns_cost_a_unit_each : said counting 9 ≡ codes "3" ∷ []
unfolding said counting script handler print number apply block stmts exprs moment at digits dispatches_max same
statements_and_turns_cost_a_unit_each = refl

a_unit_less_is_spent_at_the_print : map (λ row. row.cells) (rows counting 8) ≡ cells (codes "Spent") (codes "s.zeek, byte 54") ∷ []
unfolding rows cells counting script handler print number apply block stmts exprs moment at digits dispatches_max same span_decimal
a_unit_less_is_spent_at_the_print = refl

-- hook h(n: count) { print "h0"; }  hook h(n: count) &priority=1 { print "h1"; break; }
-- handlers of zeek_init: priority -5 print "d"; 0 print "b"; 5 print "a", hook h(1); 0 print "c";
text : ℕ → List ℕ → List Expr → Stmt
text byte bytes others = print byte (Constant (String bytes) ∷ others)

hook_body : ℤ → List Stmt → HookBody
hook_body priority list = record { priority = priority; locals = 1; body = block list }

priorities : Program
priorities = script [] []
    (record { params = type.count ∷ []; bodies = hook_body (pos 0) (text 1 (codes "h0") [] ∷ []) ∷ hook_body (pos 1) (text 2 (codes "h1") [] ∷ Break (at 3) ∷ []) ∷ [] } ∷ [])
    (handler (negsuc 4) 0 (text 4 (codes "d") [] ∷ []) ∷
    handler (pos 0) 0 (text 5 (codes "b") [] ∷ []) ∷
    handler (pos 5) 0 (text 6 (codes "a") (Hook (record { 0 = 0 }) (exprs (number 1 ∷ [])) ∷ []) ∷ []) ∷
    handler (pos 0) 0 (text 7 (codes "c") [] ∷ []) ∷ [])

bodies_run_by_priority_and_then_in_load_order : said priorities 1000 ≡ codes "h1" ∷ codes "a, F" ∷ codes "b" ∷ codes "c" ∷ codes "d" ∷ []
unfolding said priorities hook_body text script handler print number apply block stmts exprs moment at digits dispatches_max same
bodies_run_by_priority_and_then_in_load_order = refl

-- global t: table[count] of count;
-- event zeek_init() { t[1] = 2; print t[5]; }
-- event zeek_init() { print t[1]; }
element : ℕ → Expr
element key = apply primitive.Element (Global 0 ∷ number key ∷ [])

absent : Program
absent = script (table_global ∷ []) [] []
    (handler (pos 0) 0 (set 53 (Global 0) (number 1) (number 2) ∷ print 63 (element 5 ∷ []) ∷ []) ∷
    handler (pos 0) 0 (print 97 (element 1 ∷ []) ∷ []) ∷ [])

the_bodies_after_a_fault_run : said absent 1000 ≡ codes "2" ∷ []
unfolding said absent element table_global set plain script handler print number apply block stmts exprs moment at digits dispatches_max same entry_at with_entry
the_bodies_after_a_fault_run = refl

a_fault_is_reported : map (λ row. row.cells) (rows absent 1000) ≡ cells (codes "NoIndex") (codes "s.zeek, byte 63") ∷ []
unfolding rows cells absent element table_global set plain script handler print number apply block stmts exprs moment at digits dispatches_max same entry_at with_entry span_decimal
a_fault_is_reported = refl

-- global t: table[count] of count &create_expire=10 sec &expire_func=gone;
-- function gone(t: table[count] of count, k: count): interval {
--   print fmt("%d %s", k, network_time());
--   if ( k == 1 ) { delete t[2]; t[3] = 0; return 10 sec; }
--   return 0 sec; }
-- event zeek_init() { t[1] = 0; t[2] = 0; local s = set(5, 6, 7); for ( k in s ) { print k; delete s[6]; } }
seconds : ℕ → Value
seconds n = Interval (record { 0 = pos n *ℤ pos 1000000 })

ten_seconds : Option Expiry
ten_seconds = Some (Create (record { 0 = pos 10000000 }))

expiring : program.Global
expiring = record table_global {
  initial = Some (apply (primitive.NewTable (record { keys = 1; expiry = ten_seconds; default = None })) []);
  expiry = ten_seconds;
  expire_func = Some 0;
}

delete : ℕ → Expr → ℕ → Stmt
delete byte table key = Do (at byte) action.Delete (exprs (table ∷ number key ∷ []))

agenda : Program
agenda = script (expiring ∷ [])
    (record {
      params = type.count ∷ type.count ∷ [];
      «result» = Some type.interval;
      locals = 2;
      body = block (
          print 1 (apply (primitive.BuiltIn built_in.Fmt) (Constant (String (codes "%d %s")) ∷ Local 1 ∷ apply (primitive.BuiltIn built_in.NetworkTime) [] ∷ []) ∷ []) ∷
          If (at 2) (apply (primitive.Compare relation.Equal) (Local 1 ∷ number 1 ∷ []))
          (block (delete 3 (Local 0) 2 ∷ set 4 (Local 0) (number 3) (number 0) ∷ Return (at 5) (Some (Constant (seconds 10))) ∷ []))
          (block []) ∷
          Return (at 6) (Some (Constant (seconds 0))) ∷ []);
    } ∷ [])
    []
    (handler (pos 0) 2 (
    set 7 (Global 0) (number 1) (number 0) ∷
    set 8 (Global 0) (number 2) (number 0) ∷
    Do (at 9) (action.Assign (left.Local 0)) (exprs (apply (primitive.NewSet plain) (number 5 ∷ number 6 ∷ number 7 ∷ []) ∷ [])) ∷
    ForKeys (at 10) (record { keys = 1 ∷ []; value = None }) (Local 0) (block (print 11 (Local 1 ∷ []) ∷ delete 12 (Local 0) 6 ∷ [])) ∷ []) ∷ [])

-- an item at 25 s that raises no event
item : Item
item = record { moment = moment 25000000; raises = λ world. world }

entries_expire_at_their_own_moments : (world_in (run agenda 1000 (item ∷ []) (moment 25000000))).lines
    ≡ codes "5" ∷ codes "7" ∷ codes "1 10.000000" ∷ codes "1 20.000000" ∷ codes "3 20.000000" ∷ []
unfolding agenda item expiring ten_seconds seconds delete table_global set plain script handler print number apply block stmts exprs moment at digits dispatches_max same entry_at entry_numbered with_entry without moment_after first_due span_decimal
entries_expire_at_their_own_moments = refl

no_entry_expires_at_the_end : (world_in (run agenda 1000 [] (moment 25000000))).lines ≡ codes "5" ∷ codes "7" ∷ []
unfolding agenda item expiring ten_seconds seconds delete table_global set plain script handler print number apply block stmts exprs moment at digits dispatches_max same entry_at entry_numbered with_entry without moment_after first_due span_decimal
no_entry_expires_at_the_end = refl

-- Events that wait -----------------------------------------------------------------------------------------------------

-- a handler of `zeek_done`
at_the_end : List Stmt → Handler
at_the_end list = record { event = record { 0 = 1 }; priority = pos 0; locals = 0; body = block list }

-- print network_time();
tell_time : ℕ → Stmt
tell_time byte = print byte (apply (primitive.BuiltIn built_in.NetworkTime) [] ∷ [])

-- event zeek_init() { print network_time(); } event zeek_done() { print network_time(); }
times : Program
times = script [] [] [] (handler (pos 0) 0 (tell_time 20 ∷ []) ∷ at_the_end (tell_time 60 ∷ []) ∷ [])

a_run_begins_at_0_and_ends_at_the_last_network_time : (world_in (run times 2 [] (moment 1700000000020000))).lines ≡ codes "0.000000" ∷ codes "1700000000.020000" ∷ []
unfolding times at_the_end tell_time script handler print apply block stmts exprs moment at digits dispatches_max span_decimal
a_run_begins_at_0_and_ends_at_the_last_network_time = refl

-- a unit for the statement, and one for the call of the function
a_spent_print_prints_nothing : said times 1 ≡ []
unfolding said times at_the_end tell_time script handler print apply block stmts exprs moment at digits dispatches_max
a_spent_print_prints_nothing = refl

-- event zeek_init() { schedule 5 sec { zeek_done() }; } event zeek_done() { print network_time(); }
scheduling : Program
scheduling = script [] [] []
    (handler (pos 0) 0 (Do (at 20) (action.Schedule (record { 0 = 1 })) (exprs (Constant (seconds 5) ∷ [])) ∷ []) ∷
    at_the_end (tell_time 60 ∷ []) ∷ [])

a_scheduled_event_has_its_due_as_network_time : (world_in (run scheduling 1000 (item ∷ []) (moment 25000000))).lines ≡ codes "5.000000" ∷ codes "25.000000" ∷ []
unfolding scheduling at_the_end tell_time item seconds script handler print apply block stmts exprs moment at digits dispatches_max span_decimal moment_after
a_scheduled_event_has_its_due_as_network_time = refl

-- event zeek_init() { print "a"; } event zeek_done() { print "b"; }
two_words : Program
two_words = script [] [] [] (handler (pos 0) 0 (text 20 (codes "a") [] ∷ []) ∷ at_the_end (text 50 (codes "b") [] ∷ []) ∷ [])

-- `zeek_done` and then `zeek_init` wait to be dispatched
waiting : World
waiting = queued_behind (queued zeek_done [] ∷ queued zeek_init [] ∷ []) (first_world [])

events_leave_the_queue_first_in_first_out : (world_in (drained two_words 1 2 waiting)).lines ≡ codes "b" ∷ codes "a" ∷ []
unfolding two_words waiting at_the_end text script handler print block stmts exprs at digits
events_leave_the_queue_first_in_first_out = refl

-- no script at all
silent : Program
silent = script [] [] [] []

an_event_without_handlers_is_dispatched_too : drained silent 1 3 waiting ≡ Goes (first_world []) 1
unfolding silent waiting script
an_event_without_handlers_is_dispatched_too = refl

as_many_dispatches_as_may_come_do : drained silent 1 2 waiting ≡ Goes (first_world []) 0
unfolding silent waiting script
as_many_dispatches_as_may_come_do = refl

one_dispatch_more_is_a_flood : drained silent 1 1 waiting ≡ Floods (queued_behind (queued zeek_init [] ∷ []) (first_world []))
unfolding silent waiting script
one_dispatch_more_is_a_flood = refl
