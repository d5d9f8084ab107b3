-- Nothing that a script does adds to the units that are left, or looks at what was printed and written before.
use Rattle.std.proofs.Common.{ℕ, zero, suc, ◌+◌, ◌-◌, ◌≤◌, Bool, true, false, List, [], ◌∷◌, length, Option, Some, None, arith, ◌≡◌, refl, ap, ◌∙◌}
use Rattle.std.specs.Prelude.{ℤ, pos, nat_lt, nat_le, ◌==◌, ◌^◌, if◌then◌else◌, slice_get}
use Rattle.std.specs.Ordering.{int_eq}
use Rattle.zk_base.specs.declared.numbers.RecordNo.{RecordNo}
use Rattle.zk_base.specs.declared.time.Moment.{Moment}
use Rattle.zk_tree.specs.declared.place.Place.{Place}
use Rattle.zk_tree.specs.Store.{Object}
use Rattle.zk_tree.specs.Store as object
use Rattle.zk_tree.specs.Table.{Table, Entry, insert}
use Rattle.zk_tree.specs.Value as value
use Rattle.zk_tree.specs.Value.{Value}
use Rattle.zk_typed.specs.declared.ends.FaultKind.{FaultKind}
use Rattle.zk_typed.specs.declared.ends.FaultKind.TheVariants.{NoIndex, NoField, Unset, ZeroDivisor, Overflow, TooLong}
use Rattle.zk_typed.specs.declared.script.literal.DefaultValue.{DefaultValue}
use Rattle.zk_typed.specs.declared.script.literal.DefaultValue.TheVariants.{Literal, EmptyTable, EmptyVector}
use Rattle.zk_typed.specs.declared.script.literal.Sign.{Sign}
use Rattle.zk_typed.specs.declared.script.literal.Sign.TheVariants.{Plain, Converted, Negated}
use Rattle.zk_typed.specs.declared.script.primitive.Binary.{Binary}
use Rattle.zk_typed.specs.declared.script.primitive.Binary.TheVariants.{Plus, Minus, Times, Over, Modulo}
use Rattle.zk_typed.specs.declared.script.primitive.Direction.{Direction}
use Rattle.zk_typed.specs.declared.script.primitive.Direction.TheVariants.{Up, Down}
use Rattle.zk_typed.specs.declared.script.primitive.Shape.{Shape}
use Rattle.zk_typed.specs.declared.script.primitive.Unary.{Unary}
use Rattle.zk_typed.specs.declared.script.primitive.Unary.TheVariants.{Not, Negate, ToInt}
use Rattle.zk_typed.specs.Does.{Does, Ran, Gives, Faults, Spent, and_then, ◌>>=◌, ◌>>◌, pure, fault, or_fault, misfit, tick, spend, read, local, set_local, global, set_global, object_in, object, set_object, new_object, named}
use Rattle.zk_typed.specs.Objects as objects
use Rattle.zk_typed.specs.Objects.{Given, table_in, vector_in, fields_in, in_field}
use Rattle.zk_typed.specs.Operators as operators
use Rattle.zk_typed.specs.Program.{Field}
use Rattle.zk_typed.specs.State.{State, World}
use Rattle.zk_lower.specs.Told.{Told, behind, state_behind, ran_behind}

-- an end with so many units at most
abbrev pub AtMost : {A : Type 0} → ℕ → Ran A → Type 0
AtMost most (Gives a state) = state.units ≤ most
AtMost most (Faults kind place world units) = units ≤ most
AtMost most (Spent place world) = Unit {0}

pub record Keeps {A : Type 0} (m : Does A) : Type 0 where
  pub by : (state : State) → AtMost state.units (m state)
  -- in a world where more was told before it does the same
  pub moves : (told : Told) (state : State) → m (state_behind told state) ≡ ran_behind told (m state)

pub at_most_more : {A : Type 0} → (n m : ℕ) → n ≤ m → (ran : Ran A) → AtMost n ran → AtMost m ran
at_most_more n m le (Gives a state) h = omega (arith, le, h)
at_most_more n m le (Faults kind place world units) h = omega (arith, le, h)
at_most_more n m le (Spent place world) h = tt

pub at_most_then : {A B : Type 0} → (most : ℕ) → (ran : Ran A) → (k : A → State → Ran B) → ((a : A) (state : State) → AtMost state.units (k a state)) → AtMost most ran → AtMost most (and_then ran k)
at_most_then most (Gives a state) k h le = at_most_more state.units most le (k a state) (h a state)
at_most_then most (Faults kind place world units) k h le = le
at_most_then most (Spent place world) k h le = tt

pub behind_then : {A B : Type 0} → (told : Told) (ran : Ran A) (k : A → State → Ran B) → ((a : A) (state : State) → k a (state_behind told state) ≡ ran_behind told (k a state)) → and_then (ran_behind told ran) k ≡ ran_behind told (and_then ran k)
behind_then told (Gives a state) k h = h a state
behind_then told (Faults kind place world units) k h = refl
behind_then told (Spent place world) k h = refl

pub keeps_bind : {A B : Type 0} {m : Does A} {k : A → Does B} → Keeps m → ((a : A) → Keeps (k a)) → Keeps (m >>= k)
keeps_bind {m = m} {k = k} first next = record {
  by = λ state. at_most_then state.units (m state) k (λ a t. (next a).by t) (first.by state);
  moves = λ told state. ap (λ ran. and_then ran k) (first.moves told state) ∙ behind_then told (m state) k (λ a t. (next a).moves told t);
}

pub keeps_then : {A B : Type 0} {m : Does A} {k : Does B} → Keeps m → Keeps k → Keeps (m >> k)
keeps_then first next = keeps_bind first (λ a. next)

pub keeps_pure : {A : Type 0} → (a : A) → Keeps (pure a)
keeps_pure a = record { by = λ state. omega arith; moves = λ told state. refl }

pub keeps_fault : {A : Type 0} → (kind : FaultKind) (place : Place) → Keeps (fault {A = A} kind place)
keeps_fault kind place = record { by = λ state. omega arith; moves = λ told state. refl }

pub keeps_misfit : {A : Type 0} → (place : Place) → Keeps (misfit {A = A} place)
keeps_misfit place = record { by = λ state. omega arith; moves = λ told state. refl }

pub keeps_or_fault : {A : Type 0} → (kind : FaultKind) (place : Place) (one : Option A) → Keeps (or_fault kind place one)
keeps_or_fault kind place None = keeps_fault kind place
keeps_or_fault kind place (Some a) = keeps_pure a

pub spend_at_most : (place : Place) (state : State) (units : ℕ) → AtMost units (spend place state units)
spend_at_most place state zero = tt
spend_at_most place state (suc units) = omega arith

spend_behind : (told : Told) (place : Place) (state : State) (units : ℕ) → spend place (state_behind told state) units ≡ ran_behind told (spend place state units)
spend_behind told place state zero = refl
spend_behind told place state (suc units) = refl

pub keeps_tick : (place : Place) → Keeps (tick place)
keeps_tick place = record { by = λ state. spend_at_most place state state.units; moves = λ told state. spend_behind told place state state.units }

-- a part of the world that isn't what was told
pub record Untold {A : Type 0} (part : World → A) : Type 0 where
  pub same : (told : Told) (world : World) → part (behind told world) ≡ part world

pub keeps_if : {A : Type 0} {a b : Does A} → (test : Bool) → Keeps a → Keeps b → Keeps (if test then a else b)
keeps_if true met otherwise = met
keeps_if false met otherwise = otherwise

-- Names and objects ------------------------------------------------------------------------------------------------

pub keeps_local : (place : Place) (number : ℕ) → Keeps (local place number)
keeps_local place number = record {
  by = λ state. (keeps_or_fault Unset place (named state.locals number)).by state;
  moves = λ told state. (keeps_or_fault Unset place (named state.locals number)).moves told state;
}

pub keeps_set_local : (number : ℕ) (one : Option Value) → Keeps (set_local number one)
keeps_set_local number one = record { by = λ state. omega arith; moves = λ told state. refl }

pub keeps_global : (place : Place) (number : ℕ) → Keeps (global place number)
keeps_global place number = record {
  by = λ state. (keeps_or_fault Unset place (named state.world.globals number)).by state;
  moves = λ told state. (keeps_or_fault Unset place (named state.world.globals number)).moves told state;
}

pub keeps_set_global : (number : ℕ) (one : Option Value) → Keeps (set_global number one)
keeps_set_global number one = record { by = λ state. omega arith; moves = λ told state. refl }

object_untold : (one : Value) → Untold (object_in one)
object_untold (value.Object number) = record { same = λ told world. refl }
object_untold one = record { same = λ told world. refl }

pub keeps_object : (place : Place) (one : Value) → Keeps (object place one)
keeps_object place one = record {
  by = λ state. (keeps_or_fault Unset place (object_in one state.world)).by state;
  moves = λ told state. ap (λ found. or_fault Unset place found (state_behind told state)) ((object_untold one).same told state.world) ∙ (keeps_or_fault Unset place (object_in one state.world)).moves told state;
}

pub keeps_set_object : (one : Value) (changed : Object) → Keeps (set_object one changed)
keeps_set_object (value.Object number) changed = record { by = λ state. omega arith; moves = λ told state. refl }
keeps_set_object one changed = keeps_pure tt

pub keeps_new_object : (made : Object) → Keeps (new_object made)
keeps_new_object made = record { by = λ state. omega arith; moves = λ told state. refl }

-- what is read first decides the rest
pub keeps_of : {A B : Type 0} → (part : World → A) {k : A → Does B} → Untold part → ((a : A) → Keeps (k a)) → Keeps (read part >>= k)
keeps_of part {k} untold next = record {
  by = λ state. (next (part state.world)).by state;
  moves = λ told state. ap (λ a. k a (state_behind told state)) (untold.same told state.world) ∙ (next (part state.world)).moves told state;
}

pub keeps_now : {B : Type 0} {k : Moment → Does B} → ((moment : Moment) → Keeps (k moment)) → Keeps (objects.now >>= k)
keeps_now next = record { by = λ state. (next state.world.time).by state; moves = λ told state. (next state.world.time).moves told state }

-- Operators --------------------------------------------------------------------------------------------------------

pub keeps_give_if : (holds : Bool) (kind : FaultKind) (place : Place) (one : Value) → Keeps (operators.give_if holds kind place one)
keeps_give_if true kind place one = keeps_pure one
keeps_give_if false kind place one = keeps_fault kind place

pub keeps_count : (place : Place) (n : ℕ) → Keeps (operators.count place n)
keeps_count place n = keeps_give_if (nat_lt n (2 ^ 64)) Overflow place (value.Count n)

pub keeps_int : (place : Place) (n : ℤ) → Keeps (operators.int place n)
keeps_int place n = keeps_give_if (operators.is_int n) Overflow place (value.Int n)

pub keeps_interval : (place : Place) (n : ℤ) → Keeps (operators.interval place n)
keeps_interval place n = keeps_give_if (operators.is_int n) Overflow place (value.Interval (record { 0 = n }))

pub keeps_time : (place : Place) (n : ℤ) → Keeps (operators.time place n)
keeps_time place n = keeps_give_if (operators.is_int n) Overflow place (value.Time (record { 0 = n }))

pub keeps_string : (place : Place) (bytes : List ℕ) → Keeps (operators.string place bytes)
keeps_string place bytes = keeps_give_if (nat_le (length bytes) operators.strings_max) TooLong place (value.String bytes)

pub keeps_unary : (place : Place) (operator : Unary) (one : Value) → Keeps (operators.unary place operator one)
keeps_unary place Not (value.Bool truth) = keeps_pure _
keeps_unary place Negate (value.Count n) = keeps_give_if _ _ place _
keeps_unary place Negate (value.Int n) = keeps_give_if _ _ place _
keeps_unary place Negate (value.Interval span) = keeps_give_if _ _ place _
keeps_unary place ToInt (value.Count n) = keeps_give_if _ _ place _
keeps_unary place operator one = keeps_misfit place

pub keeps_plus : (place : Place) (a b : Value) → Keeps (operators.plus place a b)
keeps_plus place (value.Count a) (value.Count b) = keeps_count place _
keeps_plus place (value.Int a) (value.Int b) = keeps_give_if _ _ place _
keeps_plus place (value.String a) (value.String b) = keeps_string place _
keeps_plus place (value.Interval a) (value.Interval b) = keeps_give_if _ _ place _
keeps_plus place (value.Time a) (value.Interval b) = keeps_give_if _ _ place _
keeps_plus place a b = keeps_misfit place

pub keeps_minus : (place : Place) (a b : Value) → Keeps (operators.minus place a b)
keeps_minus place (value.Count a) (value.Count b) = keeps_give_if (nat_le b a) Overflow place (value.Count (a - b))
keeps_minus place (value.Int a) (value.Int b) = keeps_give_if _ _ place _
keeps_minus place (value.Interval a) (value.Interval b) = keeps_give_if _ _ place _
keeps_minus place (value.Time a) (value.Interval b) = keeps_give_if _ _ place _
keeps_minus place (value.Time a) (value.Time b) = keeps_give_if _ _ place _
keeps_minus place a b = keeps_misfit place

pub keeps_times : (place : Place) (a b : Value) → Keeps (operators.times place a b)
keeps_times place (value.Count a) (value.Count b) = keeps_count place _
keeps_times place (value.Int a) (value.Int b) = keeps_give_if _ _ place _
keeps_times place (value.Interval a) (value.Count b) = keeps_give_if _ _ place _
keeps_times place (value.Interval a) (value.Int b) = keeps_give_if _ _ place _
keeps_times place a b = keeps_misfit place

pub keeps_divided : (place : Place) (by_zero : Bool) {quotient : Does Value} → Keeps quotient → Keeps (operators.divided place by_zero quotient)
keeps_divided place true one = keeps_fault ZeroDivisor place
keeps_divided place false one = one

pub keeps_over : (place : Place) (a b : Value) → Keeps (operators.over place a b)
keeps_over place (value.Count a) (value.Count b) = keeps_divided place (b == 0) (keeps_pure _)
keeps_over place (value.Int a) (value.Int b) = keeps_divided place (int_eq b (pos 0)) (keeps_give_if _ _ place _)
keeps_over place (value.Interval a) (value.Count b) = keeps_divided place (b == 0) (keeps_give_if _ _ place _)
keeps_over place (value.Interval a) (value.Int b) = keeps_divided place (int_eq b (pos 0)) (keeps_give_if _ _ place _)
keeps_over place a b = keeps_misfit place

pub keeps_modulo : (place : Place) (a b : Value) → Keeps (operators.modulo place a b)
keeps_modulo place (value.Count a) (value.Count b) = keeps_divided place (b == 0) (keeps_pure _)
keeps_modulo place (value.Int a) (value.Int b) = keeps_divided place (int_eq b (pos 0)) (keeps_give_if _ _ place _)
keeps_modulo place a b = keeps_misfit place

pub keeps_binary : (place : Place) (operator : Binary) (a b : Value) → Keeps (operators.binary place operator a b)
keeps_binary place Plus a b = keeps_plus place a b
keeps_binary place Minus a b = keeps_minus place a b
keeps_binary place Times a b = keeps_times place a b
keeps_binary place Over a b = keeps_over place a b
keeps_binary place Modulo a b = keeps_modulo place a b

pub keeps_stepped : (place : Place) (by : Direction) (one : Value) → Keeps (operators.stepped place by one)
keeps_stepped place Up (value.Count n) = keeps_count place _
keeps_stepped place Up (value.Int n) = keeps_give_if _ _ place _
keeps_stepped place Down (value.Count n) = keeps_minus place (value.Count n) (value.Count 1)
keeps_stepped place Down (value.Int n) = keeps_give_if _ _ place _
keeps_stepped place by one = keeps_misfit place

-- Tables -----------------------------------------------------------------------------------------------------------

pub keeps_signed : (place : Place) (sign : Sign) (one : Value) → Keeps (objects.signed place sign one)
keeps_signed place Plain one = keeps_pure one
keeps_signed place Converted one = keeps_unary place ToInt one
keeps_signed place Negated one = keeps_unary place Negate one

pub keeps_default_value : (place : Place) (default : DefaultValue) → Keeps (objects.default_value place default)
keeps_default_value place (Literal literal sign) = keeps_signed place sign _
keeps_default_value place EmptyTable = keeps_new_object _
keeps_default_value place EmptyVector = keeps_new_object _

pub keeps_table_in : (place : Place) (one : Object) → Keeps (table_in place one)
keeps_table_in place (object.Table table) = keeps_pure table
keeps_table_in place (object.Record number fields) = keeps_misfit place
keeps_table_in place (object.Vector items) = keeps_misfit place

pub keeps_table : (place : Place) (one : Value) → Keeps (objects.table place one)
keeps_table place one = keeps_bind (keeps_object place one) (λ found. keeps_table_in place found)

pub keeps_set_table : (one : Value) (table : Table) → Keeps (objects.set_table one table)
keeps_set_table one table = keeps_set_object one (object.Table table)

pub keeps_absent : (place : Place) (default : Option DefaultValue) → Keeps (objects.absent place default)
keeps_absent place None = keeps_fault NoIndex place
keeps_absent place (Some default) = keeps_default_value place default

default_untold : (one : Value) → Untold (objects.default_of one)
default_untold (value.Object number) = record { same = λ told world. refl }
default_untold one = record { same = λ told world. refl }

pub keeps_entry_value : (place : Place) (one : Value) (entry : Option Entry) → Keeps (objects.entry_value place one entry)
keeps_entry_value place one (Some entry) = keeps_pure _
keeps_entry_value place one None = keeps_of (objects.default_of one) (default_untold one) (λ default. keeps_absent place default)

pub keeps_element : (place : Place) (one : Value) (key : List Value) → Keeps (objects.element place one key)
keeps_element place one key = keeps_bind (keeps_table place one) (λ table. keeps_now (λ moment. keeps_then (keeps_set_table one _) (keeps_entry_value place one _)))

pub keeps_has_key : (place : Place) (one : Value) (key : List Value) → Keeps (objects.has_key place one key)
keeps_has_key place one key = keeps_bind (keeps_table place one) (λ table. keeps_now (λ moment. keeps_then (keeps_set_table one _) (keeps_pure _)))

pub keeps_change_table : (place : Place) (one : Value) (changed : Moment → Table → Table) → Keeps (objects.change_table place one changed)
keeps_change_table place one changed = keeps_bind (keeps_table place one) (λ table. keeps_now (λ moment. keeps_set_table one _))

pub keeps_keep_default : (default : Option DefaultValue) (one : Value) → Keeps (objects.keep_default default one)
keeps_keep_default (Some default) (value.Object number) = record { by = λ state. omega arith; moves = λ told state. refl }
keeps_keep_default default one = keeps_pure one

pub keeps_new_set : (shape : Shape) (values : List Value) → Keeps (objects.new_set shape values)
keeps_new_set shape values = keeps_now (λ moment. keeps_bind (keeps_new_object _) (λ made. keeps_keep_default shape.default made))

pub keeps_new_table : (shape : Shape) (values : List Value) → Keeps (objects.new_table shape values)
keeps_new_table shape values = keeps_now (λ moment. keeps_bind (keeps_new_object _) (λ made. keeps_keep_default shape.default made))

-- Vectors and records ----------------------------------------------------------------------------------------------

pub keeps_vector_in : (place : Place) (one : Object) → Keeps (vector_in place one)
keeps_vector_in place (object.Vector items) = keeps_pure items
keeps_vector_in place (object.Record number fields) = keeps_misfit place
keeps_vector_in place (object.Table table) = keeps_misfit place

pub keeps_vector : (place : Place) (one : Value) → Keeps (objects.vector place one)
keeps_vector place one = keeps_bind (keeps_object place one) (λ found. keeps_vector_in place found)

pub keeps_item : (place : Place) (one index : Value) → Keeps (objects.item place one index)
keeps_item place one (value.Count index) = keeps_bind (keeps_vector place one) (λ items. keeps_or_fault NoIndex place (slice_get items index))
keeps_item place one index = keeps_misfit place

pub keeps_with_item : (place : Place) (items : List Value) (index : ℕ) (item : Value) → Keeps (objects.with_item place items index item)
keeps_with_item place items index item = keeps_if (nat_lt index (length items)) (keeps_pure _) (keeps_if (index == length items) (keeps_pure _) (keeps_fault NoIndex place))

pub keeps_set_item : (place : Place) (one index item : Value) → Keeps (objects.set_item place one index item)
keeps_set_item place one (value.Count index) item =
    keeps_bind (keeps_vector place one) (λ items. keeps_bind (keeps_with_item place items index item) (λ changed. keeps_set_object one _))
keeps_set_item place one index item = keeps_misfit place

pub keeps_fields_in : (place : Place) (one : Object) → Keeps (fields_in place one)
keeps_fields_in place (object.Record number fields) = keeps_pure fields
keeps_fields_in place (object.Vector items) = keeps_misfit place
keeps_fields_in place (object.Table table) = keeps_misfit place

pub keeps_fields : (place : Place) (one : Value) → Keeps (objects.fields place one)
keeps_fields place one = keeps_bind (keeps_object place one) (λ found. keeps_fields_in place found)

pub keeps_field : (place : Place) (one : Value) (number : ℕ) → Keeps (objects.field place one number)
keeps_field place one number = keeps_bind (keeps_fields place one) (λ fields. keeps_or_fault NoField place (in_field number fields))

pub keeps_has_field : (place : Place) (one : Value) (number : ℕ) → Keeps (objects.has_field place one number)
keeps_has_field place one number = keeps_bind (keeps_fields place one) (λ fields. keeps_pure _)

pub keeps_set_field : (place : Place) (one : Value) (number : ℕ) (field : Value) → Keeps (objects.set_field place one number field)
keeps_set_field place one number field = keeps_bind (keeps_object place one) (λ changed. keeps_set_object one _)

pub keeps_not_given : (place : Place) (default : Option DefaultValue) → Keeps (objects.not_given place default)
keeps_not_given place None = keeps_pure None
keeps_not_given place (Some default) = keeps_bind (keeps_default_value place default) (λ one. keeps_pure (Some one))

pub keeps_first_value : (place : Place) (field : Field) (one : Option Value) → Keeps (objects.first_value place field one)
keeps_first_value place field (Some one) = keeps_pure (Some one)
keeps_first_value place field None = keeps_not_given place field.begins

pub keeps_first_values : (place : Place) (given : List Given) (number : ℕ) (fields : List Field) → Keeps (objects.first_values place given number fields)
keeps_first_values place given number [] = keeps_pure []
keeps_first_values place given number (field ∷ fields) =
    keeps_bind (keeps_first_value place field _) (λ one. keeps_bind (keeps_first_values place given (number + 1) fields) (λ others. keeps_pure (one ∷ others)))

pub keeps_new_record : (place : Place) (number : RecordNo) (fields : List Field) (given : List Given) → Keeps (objects.new_record place number fields given)
keeps_new_record place number fields given = keeps_bind (keeps_first_values place given 0 fields) (λ values. keeps_new_object _)

-- Sizes and copies -------------------------------------------------------------------------------------------------

pub keeps_size : (place : Place) (one : Value) → Keeps (objects.size place one)
keeps_size place (value.String bytes) = keeps_pure _
keeps_size place (value.Int n) = keeps_pure _
keeps_size place (value.Object number) = keeps_bind (keeps_object place (value.Object number)) (λ one. keeps_pure _)
keeps_size place one = keeps_misfit place

module _ (copied : Value → Does Value) (keeps : (one : Value) → Keeps (copied one)) where
  pub keeps_each_copied : (values : List Value) → Keeps (objects.each_copied copied values)
  keeps_each_copied [] = keeps_pure []
  keeps_each_copied (one ∷ values) = keeps_bind (keeps one) (λ first. keeps_bind (keeps_each_copied values) (λ others. keeps_pure (first ∷ others)))

  pub keeps_field_copied : (one : Option Value) → Keeps (objects.field_copied copied one)
  keeps_field_copied None = keeps_pure None
  keeps_field_copied (Some one) = keeps_bind (keeps one) (λ first. keeps_pure (Some first))

  pub keeps_fields_copied : (values : List (Option Value)) → Keeps (objects.fields_copied copied values)
  keeps_fields_copied [] = keeps_pure []
  keeps_fields_copied (one ∷ values) = keeps_bind (keeps_field_copied one) (λ first. keeps_bind (keeps_fields_copied values) (λ others. keeps_pure (first ∷ others)))

  pub keeps_entries_copied : (table : Table) (entries : List Entry) → Keeps (objects.entries_copied copied table entries)
  keeps_entries_copied table [] = keeps_pure table
  keeps_entries_copied table (entry ∷ entries) =
      keeps_bind (keeps entry.value) (λ one. keeps_now (λ moment. keeps_entries_copied (insert moment entry.key one table) entries))

  pub keeps_object_copied : (default : Option DefaultValue) (one : Object) → Keeps (objects.object_copied copied default one)
  keeps_object_copied default (object.Record number fields) = keeps_bind (keeps_fields_copied fields) (λ values. keeps_new_object _)
  keeps_object_copied default (object.Vector items) = keeps_bind (keeps_each_copied items) (λ values. keeps_new_object _)
  keeps_object_copied default (object.Table table) =
      keeps_bind (keeps_entries_copied (objects.empty_table None) table.entries) (λ one. keeps_bind (keeps_new_object _) (λ made. keeps_keep_default default made))

pub keeps_copied_to : (depth : ℕ) (place : Place) (one : Value) → Keeps (objects.copied_to depth place one)
keeps_copied_to zero place one = keeps_misfit place
keeps_copied_to (suc depth) place (value.Object number) = keeps_then (keeps_tick place) (keeps_bind (keeps_object place (value.Object number)) (λ one.
    keeps_of (objects.default_of (value.Object number)) (default_untold (value.Object number)) (λ default. keeps_object_copied (objects.copied_to depth place) (keeps_copied_to depth place) default one)))
keeps_copied_to (suc depth) place one = keeps_pure one
