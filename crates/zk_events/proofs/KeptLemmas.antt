-- What an item does before its events are dispatched tells nothing, and leaves network time, what was scheduled, tables and globals
-- as they were.
use Rattle.std.proofs.Common.{◌≡◌, ℕ, ◌+◌, ◌==◌, Bool, true, false, List, [], ◌∷◌, Option, Some, None, ◌++◌, fold, map, slice_get, zero, suc, refl, sym, ap, subst, ◌∙◌, append-nil, arith, if◌then◌else◌}
use Rattle.zk_base.specs.declared.network.Side.{Side}
use Rattle.zk_base.specs.declared.numbers.ObjectNo.{ObjectNo}
use Rattle.zk_base.specs.declared.numbers.RecordNo.{RecordNo}
use Rattle.zk_dns.specs.declared.record.Answer.{Answer}
use Rattle.zk_dns.specs.declared.record.AnswerKind.{AnswerKind}
use Rattle.zk_dns.specs.declared.record.AnswerKind.TheVariants as kind
use Rattle.zk_dns.specs.declared.record.DnsRecord.{DnsRecord}
use Rattle.zk_http.specs.declared.units.Start.{Start}
use Rattle.zk_http.specs.declared.units.Start.TheVariants as start
use Rattle.zk_http.specs.declared.units.UnitKind.{UnitKind}
use Rattle.zk_http.specs.declared.units.UnitKind.TheVariants as unit
use Rattle.zk_machine.specs.Made.{begins, default_in, fields_begin, fresh, nowhere, renewed, with_object}
use Rattle.zk_tree.specs.Store.{Object, Store}
use Rattle.zk_tree.specs.Store as object
use Rattle.zk_value.specs.Objects as change
use Rattle.zk_traffic.specs.declared.item.What.{What}
use Rattle.zk_traffic.specs.declared.item.What.TheVariants as what
use Rattle.zk_tree.specs.declared.place.Place.{Place}
use Rattle.zk_tree.specs.Value as plain
use Rattle.zk_tree.specs.Value.{Value}
use Rattle.zk_typed.specs.declared.script.literal.DefaultValue.{DefaultValue}
use Rattle.zk_typed.specs.declared.script.literal.DefaultValue.TheVariants.{EmptyTable, EmptyVector, Literal}
use Rattle.zk_typed.specs.declared.script.literal.Sign.{Sign}
use Rattle.zk_typed.specs.declared.script.literal.Sign.TheVariants.{Converted, Negated, Plain}
use Rattle.zk_typed.specs.declared.script.primitive.Unary.TheVariants.{Negate, ToInt}
use Rattle.zk_typed.specs.declared.ends.FaultKind.{FaultKind}
use Rattle.zk_typed.specs.Columns.{record_fields}
use Rattle.zk_typed.specs.Objects.{Given, empty_table, given_at, signed}
use Rattle.zk_typed.specs.Operators.{give_if, unary}
use Rattle.zk_typed.specs.Program.{Field, Program}
use Rattle.zk_typed.specs.Log.{Row}
use Rattle.zk_typed.specs.State.{World, with_store}
use Rattle.zk_typed.specs.World.{Scheduled}
use Rattle.zk_base.specs.declared.time.Moment.{Moment}
use Rattle.zk_agenda.specs.Onward.{IsBare, IsNoTable, KeepsTable, Raises}
use Rattle.zk_typed.specs.View.{literal_value}
use Rattle.zk_events.specs.Dns.{answer_fields, message_fields, soa_fields, answer_raises, content_raises, kind_raises, message_raises, name_raises, question_raises}
use Rattle.zk_events.specs.Http.{header_raises, start_raises, unit_raises}
use Rattle.zk_events.specs.Known.{Known}
use Rattle.zk_events.specs.Facts.{connection_fields, end_fields, id_fields}
use Rattle.zk_events.specs.Numbers as number
use Rattle.zk_events.specs.Raising.{is_orig, made, numbered_from, object as object_value, raised, with_fields}
use Rattle.zk_events.specs.declared.connections.Objects.{Objects}
use Rattle.zk_events.specs.Turns.{Subject, new_objects, no_object, objects_of, raises, raises_with, subject_of, what_raises, with_facts}

-- The lines and rows of one world are those of another.
pub record SameTold (before after : World) : Type 0 where
  pub lines : after.lines ≡ before.lines
  pub rows : after.rows ≡ before.rows

-- what no item changes before its events are dispatched
record Kept : Type 0 where
  lines : List (List ℕ)
  rows : List Row
  time : Moment
  is_ending : Bool
  scheduled : List Scheduled
  schedulings : ℕ
  globals : List (Option Value)

abbrev kept_in : World → Kept
kept_in world = record {
  lines = world.lines;
  rows = world.rows;
  time = world.time;
  is_ending = world.is_ending;
  scheduled = world.scheduled;
  schedulings = world.schedulings;
  globals = world.globals;
}

record IsKept (before after : World) : Type 0 where
  kept : kept_in after ≡ kept_in before
  tables : (number : ℕ) → KeepsTable (slice_get before.store number) (slice_get after.store number)

keeps-same : (one : Option Object) → KeepsTable one one
keeps-same None = tt
keeps-same (Some (object.Table table)) = refl
keeps-same (Some (object.Vector items)) = tt
keeps-same (Some (object.Record of fields)) = tt

no-table : (b c : Option Object) → IsNoTable b → KeepsTable b c → IsNoTable c
no-table None c none keeps = absurd none
no-table (Some (object.Table table)) c none keeps = absurd none
no-table (Some (object.Vector items)) c none keeps = keeps
no-table (Some (object.Record of fields)) c none keeps = keeps

no-table-bare : (one : Option Object) → IsNoTable one → IsBare one
no-table-bare None none = absurd none
no-table-bare (Some (object.Table table)) none = absurd none
no-table-bare (Some (object.Vector items)) none = tt
no-table-bare (Some (object.Record of fields)) none = tt

bare : (b c : Option Object) → IsBare b → KeepsTable b c → IsBare c
bare None c is keeps = keeps
bare (Some (object.Table table)) c is keeps = subst IsBare (sym keeps) is
bare (Some (object.Vector items)) c is keeps = no-table-bare c keeps
bare (Some (object.Record of fields)) c is keeps = no-table-bare c keeps

keeps-both : (a b c : Option Object) → KeepsTable a b → KeepsTable b c → KeepsTable a c
keeps-both None b c first second = bare b c first second
keeps-both (Some (object.Table table)) b c first second = subst (λ (one : Option Object). KeepsTable one c) first second
keeps-both (Some (object.Vector items)) b c first second = no-table b c first second
keeps-both (Some (object.Record of fields)) b c first second = no-table b c first second

same-objects : (before after : World) → kept_in after ≡ kept_in before → after.store ≡ before.store → IsKept before after
same-objects before after kept same = record {
  kept = kept;
  tables = λ number. subst (λ (store : Store). KeepsTable (slice_get before.store number) (slice_get store number)) (sym same) (keeps-same (slice_get before.store number));
}

still : (world : World) → IsKept world world
still world = same-objects world world refl refl

both : (a b c : World) → IsKept a b → IsKept b c → IsKept a c
both a b c first second = record {
  kept = second.kept ∙ first.kept;
  tables = λ number. keeps-both (slice_get a.store number) (slice_get b.store number) (slice_get c.store number) (first.tables number) (second.tables number);
}

folded-kept : {A : Type 0} (step : World → A → World) → ((world : World) (one : A) → IsKept world (step world one)) → (list : List A) (world : World)
    → IsKept world (fold step world list)
folded-kept step same [] world = still world
folded-kept step same (one ∷ others) world = both world (step world one) _ (same world one) (folded-kept step same others (step world one))

-- Objects ----------------------------------------------------------------------------------------------------------

field-keeps : (field : ℕ) (value : Option Value) (one : Object) → KeepsTable (Some one) (Some (change.with_field field value one))
field-keeps field value (object.Record of fields) = tt
field-keeps field value (object.Vector items) = tt
field-keeps field value (object.Table table) = refl

-- a field of the object of a number, among these objects
renewed-keeps : (field : ℕ) (value : Option Value) (world : World) (store : Store) (number place : ℕ)
    → KeepsTable (slice_get store place) (slice_get (renewed (record { 0 = number }) field value (with_store store world)).store place)
renewed-keeps field value world [] number place = tt
renewed-keeps field value world (first ∷ store) zero zero = field-keeps field value first
renewed-keeps field value world (first ∷ store) zero (suc place) = keeps-same (slice_get store place)
renewed-keeps field value world (first ∷ store) (suc number) zero = keeps-same (Some first)
renewed-keeps field value world (first ∷ store) (suc number) (suc place) = renewed-keeps field value world store number place

added-keeps : (one : Object) → IsBare (Some one) → (store : Store) (place : ℕ) → KeepsTable (slice_get store place) (slice_get (store ++ one ∷ []) place)
added-keeps one is [] zero = is
added-keeps one is [] (suc place) = tt
added-keeps one is (first ∷ store) zero = keeps-same (Some first)
added-keeps one is (first ∷ store) (suc place) = added-keeps one is store place

renewed-kept : (one : ObjectNo) (field : ℕ) (value : Option Value) (world : World) → IsKept world (renewed one field value world)
renewed-kept one field value world = record { kept = refl; tables = λ number. renewed-keeps field value world world.store one.0 number }

added-kept : (one : Object) → IsBare (Some one) → (world : World) → IsKept world (with_object one world)
added-kept one is world = record { kept = refl; tables = λ number. added-keeps one is world.store number }

fields-kept : (one : ObjectNo) (field : ℕ) (values : List (Option Value)) (world : World) → IsKept world (with_fields one field values world)
fields-kept one field [] world = still world
fields-kept one field (value ∷ values) world =
    both world (renewed one field value world) _ (renewed-kept one field value world) (fields-kept one (field + 1) values (renewed one field value world))

given-kept : (world : World) (place : Place) (test : Bool) (kind : FaultKind) (value : Value) (locals : List (Option Value)) (units : ℕ)
    → IsKept world (default_in (give_if test kind place value (record { world = world; locals = locals; units = units }))).1
given-kept world place true kind value locals units = still world
given-kept world place false kind value locals units = still world

negated-kept : (world : World) (value : Value) → IsKept world (default_in (unary nowhere Negate value (record { world = world; locals = []; units = 0 }))).1
negated-kept world (plain.Count n) = given-kept world nowhere _ _ _ [] 0
negated-kept world (plain.Int n) = given-kept world nowhere _ _ _ [] 0
negated-kept world (plain.Interval span) = given-kept world nowhere _ _ _ [] 0
negated-kept world (plain.Bool truth) = still world
negated-kept world (plain.String bytes) = still world
negated-kept world (plain.Time moment) = still world
negated-kept world (plain.Addr address) = still world
negated-kept world (plain.Port number proto) = still world
negated-kept world (plain.Subnet prefix width) = still world
negated-kept world (plain.Enum word) = still world
negated-kept world (plain.Object number) = still world

converted-kept : (world : World) (value : Value) → IsKept world (default_in (unary nowhere ToInt value (record { world = world; locals = []; units = 0 }))).1
converted-kept world (plain.Count n) = given-kept world nowhere _ _ _ [] 0
converted-kept world (plain.Int n) = still world
converted-kept world (plain.Interval span) = still world
converted-kept world (plain.Bool truth) = still world
converted-kept world (plain.String bytes) = still world
converted-kept world (plain.Time moment) = still world
converted-kept world (plain.Addr address) = still world
converted-kept world (plain.Port number proto) = still world
converted-kept world (plain.Subnet prefix width) = still world
converted-kept world (plain.Enum word) = still world
converted-kept world (plain.Object number) = still world

signed-kept : (world : World) (sign : Sign) (value : Value) → IsKept world (default_in (signed nowhere sign value (record { world = world; locals = []; units = 0 }))).1
signed-kept world Plain value = still world
signed-kept world Converted value = converted-kept world value
signed-kept world Negated value = negated-kept world value

begins-kept : (world : World) (given : Option Value) (default : Option DefaultValue) → IsKept world (begins world given default).1
begins-kept world (Some value) default = still world
begins-kept world None None = still world
begins-kept world None (Some (Literal literal sign)) = signed-kept world sign (literal_value literal)
begins-kept world None (Some EmptyTable) = added-kept (object.Table (empty_table None)) refl world
begins-kept world None (Some EmptyVector) = added-kept (object.Vector []) tt world

begin-kept : (given : List Given) (number : ℕ) (fields : List Field) (world : World) → IsKept world (fields_begin given number fields world).1
begin-kept given number [] world = still world
begin-kept given number (field ∷ fields) world =
    let first = begins world (given_at number given) field.begins in
    both world first.1 (fields_begin given (number + 1) fields first.1).1 (begins-kept world (given_at number given) field.begins) (begin-kept given (number + 1) fields first.1)

fresh-kept : (program : Program) (kind : RecordNo) (given : List Given) (world : World) → IsKept world (fresh program kind given world).world
fresh-kept program kind given world =
    let begun = fields_begin given 0 (record_fields program kind) world in
    both world begun.1 _ (begin-kept given 0 (record_fields program kind) world) (added-kept (object.Record kind begun.0) tt begun.1)

made-kept : (program : Program) (kind : RecordNo) (values : List Value) (world : World) → IsKept world (made program kind values world).world
made-kept program kind values world = fresh-kept program kind (numbered_from 0 values) world

-- Events -----------------------------------------------------------------------------------------------------------

start-kept : (c : ObjectNo) (one : Start) (world : World) → IsKept world (start_raises c one world)
start-kept c (start.Request method target minor) world = same-objects _ _ refl refl
start-kept c (start.Response minor code phrase) world = same-objects _ _ refl refl

unit-kept : (program : Program) (c : ObjectNo) (side : Side) (one : UnitKind) (world : World) → IsKept world (unit_raises program c side one world)
unit-kept program c side (unit.Head head) world =
    let begun = start_raises c head.start world in
    both world begun (fold (header_raises c side) begun head.headers) (start-kept c head.start world)
    (folded-kept (header_raises c side) (λ w header. same-objects _ _ refl refl) head.headers begun)
unit-kept program c side (unit.Done body head gap) world =
    let values = plain.Count body ∷ plain.Count head ∷ plain.Count gap ∷ [] in
    let stat = made program number.http_message_stat values world in
    both world stat.world _ (made-kept program number.http_message_stat values world) (same-objects stat.world _ refl refl)
unit-kept program c side unit.Tunnel world = same-objects _ _ refl refl
unit-kept program c side (unit.Violation why) world = same-objects _ _ refl refl

either-kept : (met : Bool) (one other : World → World) → ((world : World) → IsKept world (one world)) → ((world : World) → IsKept world (other world))
    → (world : World) → IsKept world ((if met then one else other) world)
either-kept true one other here there world = here world
either-kept false one other here there world = there world

name-kept : (rtype : ℕ) (name : List ℕ) (given : List Value) (world : World) → IsKept world (name_raises rtype name given world)
name-kept rtype name given =
    either-kept (rtype == 2) _ _ (λ w. same-objects _ _ refl refl)
    (either-kept (rtype == 5) _ _ (λ w. same-objects _ _ refl refl)
    (either-kept (rtype == 12) _ _ (λ w. same-objects _ _ refl refl) (λ w. same-objects _ _ refl refl)))

kind-kept : (program : Program) (rtype : ℕ) (one : AnswerKind) (given : List Value) (world : World) → IsKept world (kind_raises program rtype one given world)
kind-kept program rtype (kind.A address) given world = same-objects _ _ refl refl
kind-kept program rtype (kind.Aaaa address) given world = same-objects _ _ refl refl
kind-kept program rtype (kind.Name name) given world = name-kept rtype name given world
kind-kept program rtype (kind.Mx preference name) given world = same-objects _ _ refl refl
kind-kept program rtype (kind.Txt texts) given world =
    let strings = object.Vector (map plain.String texts) in
    both world (with_object strings world) _ (added-kept strings tt world) (same-objects (with_object strings world) _ refl refl)
kind-kept program rtype (kind.Soa mname rname serial refresh retry expire minimum) given world =
    let fields = soa_fields mname rname serial (refresh ∷ retry ∷ expire ∷ minimum ∷ []) in
    let soa = made program number.dns_soa fields world in
    both world soa.world _ (made-kept program number.dns_soa fields world) (same-objects soa.world _ refl refl)
kind-kept program rtype kind.Other given world = same-objects _ _ refl refl

answer-kept : (program : Program) (c message : ObjectNo) (world : World) (one : Answer) → IsKept world (answer_raises program c message world one)
answer-kept program c message world one =
    let ans = made program number.dns_answer (answer_fields one) world in
    both world ans.world (answer_raises program c message world one) (made-kept program number.dns_answer (answer_fields one) world)
    (kind-kept program one.rtype one.what (object_value c ∷ object_value message ∷ object_value ans.number ∷ []) ans.world)

content-kept : (program : Program) (c message : ObjectNo) (told : DnsRecord) (qr : Bool) (world : World) → IsKept world (content_raises program c message told qr world)
content-kept program c message told true world = folded-kept (answer_raises program c message) (λ w one. answer-kept program c message w one) told.answers world
content-kept program c message told false world = folded-kept (question_raises c message) (λ w one. same-objects _ _ refl refl) told.questions world

message-kept : (program : Program) (c : ObjectNo) (side : Side) (len : ℕ) (told : DnsRecord) (world : World) → IsKept world (message_raises program c side len told world)
message-kept program c side len told world =
    let msg = made program number.dns_msg (message_fields told) world in
    let first = made-kept program number.dns_msg (message_fields told) world in
    let begun = raised number.dns_message (object_value c ∷ is_orig side ∷ object_value msg.number ∷ plain.Count len ∷ []) msg.world in
    let after = content_raises program c msg.number told told.qr begun in
    both world msg.world _ first (both msg.world begun _ (same-objects msg.world begun refl refl)
    (both begun after _ (content-kept program c msg.number told told.qr begun) (same-objects after _ refl refl)))

what-kept : (program : Program) (c : ObjectNo) (one : What) (world : World) → IsKept world (what_raises program c one world)
what-kept program c (what.Seen own caplen len) world = same-objects _ _ refl refl
what-kept program c (what.Opened conn facts) world = same-objects _ _ refl refl
what-kept program c (what.Established conn facts) world = same-objects _ _ refl refl
what-kept program c (what.Gap conn facts side from length) world = same-objects _ _ refl refl
what-kept program c (what.Http conn facts side part) world = unit-kept program c side part.what world
what-kept program c (what.Dns conn facts side len message) world = message-kept program c side len message world
what-kept program c (what.DnsBad conn facts side fault len) world = same-objects _ _ refl refl
what-kept program c (what.Ended conn facts side) world = same-objects _ _ refl refl
what-kept program c (what.GaveUp conn facts side) world = same-objects _ _ refl refl
what-kept program c (what.Reset conn facts) world = same-objects _ _ refl refl
what-kept program c (what.Removed conn facts) world = same-objects _ _ refl refl

-- Items ------------------------------------------------------------------------------------------------------------

new-kept : (program : Program) (world : World) → IsKept world (new_objects program world).world
new-kept program world =
    let id = fresh program number.conn_id [] world in
    let orig = fresh program number.endpoint [] id.world in
    let resp = fresh program number.endpoint [] orig.world in
    let connection = fresh program number.connection [] resp.world in
    both world id.world connection.world (fresh-kept program number.conn_id [] world)
    (both id.world orig.world connection.world (fresh-kept program number.endpoint [] id.world)
    (both orig.world resp.world connection.world (fresh-kept program number.endpoint [] orig.world) (fresh-kept program number.connection [] resp.world)))

objects-kept : (program : Program) (objects : Option Objects) (world : World) → IsKept world (objects_of program objects world).world
objects-kept program None world = new-kept program world
objects-kept program (Some objects) world = still world

facts-kept : (subject : Subject) (objects : Objects) (world : World) → IsKept world (with_facts subject.conn subject.facts objects world)
facts-kept subject objects world =
    let first = with_fields objects.id 0 (id_fields subject.facts) world in
    let second = with_fields objects.orig 0 (end_fields subject.facts.orig) first in
    let third = with_fields objects.resp 0 (end_fields subject.facts.resp) second in
    let fields = connection_fields subject.conn objects subject.facts in
    let last = with_fields objects.connection 0 fields third in
    both world first last (fields-kept objects.id 0 (id_fields subject.facts) world)
    (both first second last (fields-kept objects.orig 0 (end_fields subject.facts.orig) first)
    (both second third last (fields-kept objects.resp 0 (end_fields subject.facts.resp) second) (fields-kept objects.connection 0 fields third)))

raises_with-kept : (program : Program) (known : Known) (one : What) (subject : Option Subject) (world : World) → IsKept world (raises_with program known one subject world)
raises_with-kept program known one None world = what-kept program no_object one world
raises_with-kept program known one (Some subject) world =
    let held = objects_of program (known subject.conn.0) world in
    let written = with_facts subject.conn subject.facts held.objects held.world in
    let last = what_raises program held.objects.connection one written in
    both world held.world last (objects-kept program (known subject.conn.0) world)
    (both held.world written last (facts-kept subject held.objects held.world) (what-kept program held.objects.connection one written))

raises-kept : (program : Program) (known : Known) (one : What) (world : World) → IsKept world (raises program known one world)
raises-kept program known one world = raises_with-kept program known one (subject_of one) world

pub raises-told : (program : Program) (known : Known) (one : What) (world : World) → SameTold world (raises program known one world)
raises-told program known one world =
    let same = (raises-kept program known one world).kept in
    record { lines = ap (λ (k : Kept). k.lines) same; rows = ap (λ (k : Kept). k.rows) same }

pub raises-go : (program : Program) (known : Known) (one : What) (world : World) → Raises world (raises program known one world)
raises-go program known one world =
    let goes = raises-kept program known one world in
    let same = goes.kept in
    record {
      onward = record {
        time = ap (λ (k : Kept). k.time) same;
        ending = ap (λ (k : Kept). k.is_ending) same;
        more = [];
        scheduled = ap (λ (k : Kept). k.scheduled) same ∙ sym (append-nil world.scheduled);
        schedulings = ap (λ (k : Kept). k.schedulings) same ∙ (let e : world.schedulings ≡ world.schedulings + 0 = omega arith in e);
        are_scheduled = tt;
        none = λ is. refl;
      };
      tables = goes.tables;
      globals = ap (λ (k : Kept). k.globals) same;
    }
