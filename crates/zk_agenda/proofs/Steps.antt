-- Each step that a script takes goes onward.
use Rattle.std.proofs.Common.{ap, ◌∙◌, ℕ, zero, suc, ◌+◌, ◌-◌, Bool, true, false, List, [], ◌∷◌, fold, length, take, drop, Option, Some, None, is_some, ◌≡◌, subst, sym, refl}
use Rattle.std.specs.Prelude.{pos, nat_lt, nat_le, ◌==◌, ◌^◌, if◌then◌else◌, slice_get, slice_set}
use Rattle.std.specs.Ordering.{int_eq}
use Rattle.zk_base.specs.declared.numbers.RecordNo.{RecordNo}
use Rattle.zk_base.specs.declared.time.Moment.{Moment}
use Rattle.zk_tree.specs.declared.place.Place.{Place}
use Rattle.zk_tree.specs.Store.{Object}
use Rattle.zk_tree.specs.Store as object
use Rattle.zk_tree.specs.Table.{Table, Entry, entry_at, insert, renew}
use Rattle.zk_tree.specs.Value as value
use Rattle.zk_tree.specs.Value.{Value}
use Rattle.zk_typed.specs.declared.ends.FaultKind.{FaultKind}
use Rattle.zk_typed.specs.declared.ends.FaultKind.TheVariants.{NoIndex, NoField, Unset, ZeroDivisor, Overflow, TooLong}
use Rattle.zk_typed.specs.declared.script.literal.DefaultValue.{DefaultValue}
use Rattle.zk_typed.specs.declared.script.literal.DefaultValue.TheVariants.{Literal, EmptyTable, EmptyVector}
use Rattle.zk_typed.specs.declared.script.literal.Sign.{Sign}
use Rattle.zk_typed.specs.declared.script.literal.Sign.TheVariants.{Plain, Converted, Negated}
use Rattle.zk_typed.specs.declared.script.primitive.Binary.{Binary}
use Rattle.zk_typed.specs.declared.script.primitive.Binary.TheVariants.{Plus, Minus, Times, Over, Modulo}
use Rattle.zk_typed.specs.declared.script.primitive.Direction.{Direction}
use Rattle.zk_typed.specs.declared.script.primitive.Direction.TheVariants.{Up, Down}
use Rattle.zk_typed.specs.declared.script.primitive.Shape.{Shape}
use Rattle.zk_typed.specs.declared.script.primitive.Unary.{Unary}
use Rattle.zk_typed.specs.declared.script.primitive.Unary.TheVariants.{Not, Negate, ToInt}
use Rattle.zk_typed.specs.Does.{Does, Ran, Gives, Faults, Spent, and_then, ◌>>=◌, ◌>>◌, pure, fault, or_fault, misfit, tick, spend, read, local, set_local, global, set_global, object_in, object, set_object, new_object, named}
use Rattle.zk_typed.specs.Objects as objects
use Rattle.zk_typed.specs.Objects.{Given, table_in, vector_in, fields_in, in_field}
use Rattle.zk_typed.specs.Operators as operators
use Rattle.zk_typed.specs.Program.{Field}
use Rattle.zk_typed.specs.State.{State, World}
use Rattle.zk_agenda.proofs.Dues.{Becomes, Delays, IsUndue, add-moves, becomes-changed, becomes-new, becomes-record, becomes-same, becomes-vector, fold-delays, if-delays, insert-delays, insert-undue, renew-delays, set-moves}
use Rattle.zk_agenda.proofs.Dues.{alike, moves_both, Moves}
use Rattle.zk_agenda.specs.Sparing.{Numbers}

-- the world to which a computation comes, however it ends
abbrev pub reached : {A : Type 0} → Ran A → World
reached (Gives a state) = state.world
reached (Faults kind place world units) = world
reached (Spent place world) = world

-- a step that leaves globals of some numbers as they are
pub record Leaves (fixed : Numbers) (before after : World) : Type 0 where
  pub moves : Moves before after
  pub named : (number : ℕ) → fixed number → named after.globals number ≡ named before.globals number

pub leaves_both : {fixed : Numbers} (a b c : World) → Leaves fixed a b → Leaves fixed b c → Leaves fixed a c
leaves_both a b c first second = record { moves = moves_both a b c first.moves second.moves; named = λ number is. second.named number is ∙ first.named number is }

-- a step of other parts than globals
pub kept : {fixed : Numbers} (before after : World) → Moves before after → after.globals ≡ before.globals → Leaves fixed before after
kept before after moves globals = record { moves = moves; named = λ number is. ap (λ (values : List (Option Value)). named values number) globals }

pub same : {fixed : Numbers} (before after : World) → after.time ≡ before.time → after.is_ending ≡ before.is_ending → after.scheduled ≡ before.scheduled → after.schedulings ≡ before.schedulings
    → after.store ≡ before.store → after.globals ≡ before.globals → Leaves fixed before after
same before after time ending scheduled schedulings store globals = kept before after (alike before after time ending scheduled schedulings store) globals

-- another name is set
named-set : (values : List (Option Value)) (number place : ℕ) (one : Option Value) → (number ≡ place → ⊥) → named (slice_set values number one) place ≡ named values place
named-set [] number place one apart = refl
named-set (first ∷ values) zero zero one apart = absurd (apart refl)
named-set (first ∷ values) zero (suc place) one apart = refl
named-set (first ∷ values) (suc number) zero one apart = refl
named-set (first ∷ values) (suc number) (suc place) one apart = named-set values number place one (λ e. apart (ap suc e))

pub record Goes (fixed : Numbers) {A : Type 0} (m : Does A) : Type 0 where
  pub by : (state : State) → Leaves fixed state.world (reached (m state))

found-delays : (moment : Moment) (key : List Value) → Delays moment (objects.found moment key)
found-delays moment key = if-delays moment (λ table. objects.finds_renew table.expiry) (renew moment key) (renew-delays moment key)

pub members-delay : (moment : Moment) (keys : List (List Value)) → Delays moment (λ table. fold (objects.add_member moment) table keys)
members-delay moment keys = fold-delays moment (objects.add_member moment) (λ key. insert-delays moment key (value.Bool true)) keys

pairs-delay : (size : ℕ) (moment : Moment) (groups : List (List Value)) → Delays moment (λ table. fold (objects.with_pair size moment) table groups)
pairs-delay size moment groups = fold-delays moment (objects.with_pair size moment)
    (λ group. fold-delays moment (λ filled one. insert moment (take size group) one filled) (λ one. insert-delays moment (take size group) one) (drop size group)) groups

becomes-field : (now : Moment) (number : ℕ) (field : Value) (one : Object) → Becomes now (Some one) (Some (objects.with_field number field one))
becomes-field now number field (object.Record of fields) = record { dues = λ low le within from. tt; sound = λ sound. tt; past = λ order key past. tt }
becomes-field now number field (object.Vector items) = becomes-same now _
becomes-field now number field (object.Table table) = becomes-same now _

-- of a computation a value is known
abbrev Gave : {A : Type 0} → (A → Type 0) → Ran A → Type 0
Gave P (Gives a state) = P a
Gave P (Faults kind place world units) = Unit {0}
Gave P (Spent place world) = Unit {0}

pub record Makes (fixed : Numbers) {A : Type 0} (P : A → Type 0) (m : Does A) : Type 0 where
  pub by : (state : State) → Leaves fixed state.world (reached (m state))
  pub gives : (state : State) → Gave P (m state)

gave_then : {A B : Type 0} (P : B → Type 0) (ran : Ran A) (k : A → State → Ran B) → ((a : A) (state : State) → Gave P (k a state)) → Gave P (and_then ran k)
gave_then P (Gives a state) k h = h a state
gave_then P (Faults kind place world units) k h = tt
gave_then P (Spent place world) k h = tt

module _ {fixed : Numbers} where
  step_then : {A B : Type 0} → (before : World) → (ran : Ran A) → (k : A → State → Ran B) → ((a : A) (state : State) → Leaves fixed state.world (reached (k a state)))
      → Leaves fixed before (reached ran) → Leaves fixed before (reached (and_then ran k))
  step_then before (Gives a state) k h first = leaves_both before state.world (reached (k a state)) first (h a state)
  step_then before (Faults kind place world units) k h first = first
  step_then before (Spent place world) k h first = first

  pub goes_bind : {A B : Type 0} {m : Does A} {k : A → Does B} → Goes fixed m → ((a : A) → Goes fixed (k a)) → Goes fixed (m >>= k)
  goes_bind {m = m} {k = k} first next = record { by = λ state. step_then state.world (m state) k (λ a t. (next a).by t) (first.by state) }

  pub goes_then : {A B : Type 0} {m : Does A} {k : Does B} → Goes fixed m → Goes fixed k → Goes fixed (m >> k)
  goes_then first next = goes_bind first (λ a. next)

  pub goes_pure : {A : Type 0} → (a : A) → Goes fixed (pure a)
  goes_pure a = record { by = λ state. same _ _ refl refl refl refl refl refl }

  pub goes_fault : {A : Type 0} → (kind : FaultKind) (place : Place) → Goes fixed (fault {A = A} kind place)
  goes_fault kind place = record { by = λ state. same _ _ refl refl refl refl refl refl }

  pub goes_misfit : {A : Type 0} → (place : Place) → Goes fixed (misfit {A = A} place)
  goes_misfit place = record { by = λ state. same _ _ refl refl refl refl refl refl }

  pub goes_or_fault : {A : Type 0} → (kind : FaultKind) (place : Place) (one : Option A) → Goes fixed (or_fault kind place one)
  goes_or_fault kind place None = goes_fault kind place
  goes_or_fault kind place (Some a) = goes_pure a

  spend_onward : (place : Place) (state : State) (units : ℕ) → Leaves fixed state.world (reached (spend place state units))
  spend_onward place state zero = same _ _ refl refl refl refl refl refl
  spend_onward place state (suc units) = same _ _ refl refl refl refl refl refl

  pub goes_tick : (place : Place) → Goes fixed (tick place)
  goes_tick place = record { by = λ state. spend_onward place state state.units }

  pub goes_if : {A : Type 0} {a b : Does A} → (test : Bool) → Goes fixed a → Goes fixed b → Goes fixed (if test then a else b)
  goes_if true met otherwise = met
  goes_if false met otherwise = otherwise

  -- Names and objects ------------------------------------------------------------------------------------------------

  pub goes_local : (place : Place) (number : ℕ) → Goes fixed (local place number)
  goes_local place number = record { by = λ state. (goes_or_fault Unset place (named state.locals number)).by state }

  pub goes_set_local : (number : ℕ) (one : Option Value) → Goes fixed (set_local number one)
  goes_set_local number one = record { by = λ state. same _ _ refl refl refl refl refl refl }

  pub goes_global : (place : Place) (number : ℕ) → Goes fixed (global place number)
  goes_global place number = record { by = λ state. (goes_or_fault Unset place (named state.world.globals number)).by state }

  pub goes_set_global : (number : ℕ) (one : Option Value) → (fixed number → ⊥) → Goes fixed (set_global number one)
  goes_set_global number one spared = record {
    by = λ state. record {
      moves = alike _ _ refl refl refl refl refl;
      named = λ place is. named-set state.world.globals number place one (λ e. spared (subst fixed (sym e) is));
    };
  }

  pub goes_object : (place : Place) (one : Value) → Goes fixed (object place one)
  goes_object place one = record { by = λ state. (goes_or_fault Unset place (object_in one state.world)).by state }

  -- an object in the place of the one that a value names
  set_object-step : (state : State) (one : Value) (changed : Object)
      → Becomes state.world.time (object_in one state.world) (Some changed) → Leaves fixed state.world (reached (set_object one changed state))
  set_object-step state (value.Object number) changed here = kept _ _ (set-moves state.world number.0 changed here) refl
  set_object-step state one changed here = same _ _ refl refl refl refl refl refl

  -- what is done to the object that a value names
  goes_with_object : {B : Type 0} (place : Place) (one : Value) (k : Object → Does B)
      → ((state : State) (found : Object) → object_in one state.world ≡ Some found → Leaves fixed state.world (reached (k found state))) → Goes fixed (object place one >>= k)
  goes_with_object place one k next = record { by = λ state. by_object state (object_in one state.world) refl }
    where
      by_object : (state : State) (there : Option Object) → object_in one state.world ≡ there → Leaves fixed state.world (reached (and_then (or_fault Unset place there state) k))
      by_object state None is = same _ _ refl refl refl refl refl refl
      by_object state (Some found) is = next state found is

  pub goes_set_vector : (one : Value) (items : List Value) → Goes fixed (set_object one (object.Vector items))
  goes_set_vector one items = record { by = λ state. set_object-step state one (object.Vector items) (becomes-vector state.world.time (object_in one state.world) items) }

  pub goes_new_object : (made : Object) → ((now : Moment) → Becomes now None (Some made)) → Goes fixed (new_object made)
  goes_new_object made here = record { by = λ state. kept _ _ (add-moves state.world made (here state.world.time)) refl }

  -- an object that is made at a moment
  goes_new_at : {B : Type 0} (make : Moment → Object) {k : Value → Does B}
      → ((moment : Moment) → Becomes moment None (Some (make moment))) → ((one : Value) → Goes fixed (k one))
      → Goes fixed (objects.now >>= (λ moment. new_object (make moment) >>= k))
  goes_new_at make {k} here next = record {
    by = λ state. step_then state.world (new_object (make state.world.time) state) k (λ one after. (next one).by after) (kept _ _ (add-moves state.world (make state.world.time) (here state.world.time)) refl);
  }

  -- what is read first decides the rest
  pub goes_of : {A B : Type 0} → (part : World → A) {k : A → Does B} → ((a : A) → Goes fixed (k a)) → Goes fixed (read part >>= k)
  goes_of part {k} next = record { by = λ state. (next (part state.world)).by state }

  pub goes_now : {B : Type 0} {k : Moment → Does B} → ((moment : Moment) → Goes fixed (k moment)) → Goes fixed (objects.now >>= k)
  goes_now next = record { by = λ state. (next state.world.time).by state }

  -- Operators --------------------------------------------------------------------------------------------------------

  pub goes_give_if : (holds : Bool) (kind : FaultKind) (place : Place) (one : Value) → Goes fixed (operators.give_if holds kind place one)
  goes_give_if true kind place one = goes_pure one
  goes_give_if false kind place one = goes_fault kind place

  pub goes_count : (place : Place) (n : ℕ) → Goes fixed (operators.count place n)
  goes_count place n = goes_give_if (nat_lt n (2 ^ 64)) Overflow place (value.Count n)

  pub goes_string : (place : Place) (bytes : List ℕ) → Goes fixed (operators.string place bytes)
  goes_string place bytes = goes_give_if (nat_le (length bytes) operators.strings_max) TooLong place (value.String bytes)

  pub goes_unary : (place : Place) (operator : Unary) (one : Value) → Goes fixed (operators.unary place operator one)
  goes_unary place Not (value.Bool truth) = goes_pure _
  goes_unary place Negate (value.Count n) = goes_give_if _ _ place _
  goes_unary place Negate (value.Int n) = goes_give_if _ _ place _
  goes_unary place Negate (value.Interval span) = goes_give_if _ _ place _
  goes_unary place ToInt (value.Count n) = goes_give_if _ _ place _
  goes_unary place operator one = goes_misfit place

  pub goes_plus : (place : Place) (a b : Value) → Goes fixed (operators.plus place a b)
  goes_plus place (value.Count a) (value.Count b) = goes_count place _
  goes_plus place (value.Int a) (value.Int b) = goes_give_if _ _ place _
  goes_plus place (value.String a) (value.String b) = goes_string place _
  goes_plus place (value.Interval a) (value.Interval b) = goes_give_if _ _ place _
  goes_plus place (value.Time a) (value.Interval b) = goes_give_if _ _ place _
  goes_plus place a b = goes_misfit place

  pub goes_minus : (place : Place) (a b : Value) → Goes fixed (operators.minus place a b)
  goes_minus place (value.Count a) (value.Count b) = goes_give_if (nat_le b a) Overflow place (value.Count (a - b))
  goes_minus place (value.Int a) (value.Int b) = goes_give_if _ _ place _
  goes_minus place (value.Interval a) (value.Interval b) = goes_give_if _ _ place _
  goes_minus place (value.Time a) (value.Interval b) = goes_give_if _ _ place _
  goes_minus place (value.Time a) (value.Time b) = goes_give_if _ _ place _
  goes_minus place a b = goes_misfit place

  pub goes_times : (place : Place) (a b : Value) → Goes fixed (operators.times place a b)
  goes_times place (value.Count a) (value.Count b) = goes_count place _
  goes_times place (value.Int a) (value.Int b) = goes_give_if _ _ place _
  goes_times place (value.Interval a) (value.Count b) = goes_give_if _ _ place _
  goes_times place (value.Interval a) (value.Int b) = goes_give_if _ _ place _
  goes_times place a b = goes_misfit place

  pub goes_divided : (place : Place) (by_zero : Bool) {quotient : Does Value} → Goes fixed quotient → Goes fixed (operators.divided place by_zero quotient)
  goes_divided place true one = goes_fault ZeroDivisor place
  goes_divided place false one = one

  pub goes_over : (place : Place) (a b : Value) → Goes fixed (operators.over place a b)
  goes_over place (value.Count a) (value.Count b) = goes_divided place (b == 0) (goes_pure _)
  goes_over place (value.Int a) (value.Int b) = goes_divided place (int_eq b (pos 0)) (goes_give_if _ _ place _)
  goes_over place (value.Interval a) (value.Count b) = goes_divided place (b == 0) (goes_give_if _ _ place _)
  goes_over place (value.Interval a) (value.Int b) = goes_divided place (int_eq b (pos 0)) (goes_give_if _ _ place _)
  goes_over place a b = goes_misfit place

  pub goes_modulo : (place : Place) (a b : Value) → Goes fixed (operators.modulo place a b)
  goes_modulo place (value.Count a) (value.Count b) = goes_divided place (b == 0) (goes_pure _)
  goes_modulo place (value.Int a) (value.Int b) = goes_divided place (int_eq b (pos 0)) (goes_give_if _ _ place _)
  goes_modulo place a b = goes_misfit place

  pub goes_binary : (place : Place) (operator : Binary) (a b : Value) → Goes fixed (operators.binary place operator a b)
  goes_binary place Plus a b = goes_plus place a b
  goes_binary place Minus a b = goes_minus place a b
  goes_binary place Times a b = goes_times place a b
  goes_binary place Over a b = goes_over place a b
  goes_binary place Modulo a b = goes_modulo place a b

  pub goes_stepped : (place : Place) (by : Direction) (one : Value) → Goes fixed (operators.stepped place by one)
  goes_stepped place Up (value.Count n) = goes_count place _
  goes_stepped place Up (value.Int n) = goes_give_if _ _ place _
  goes_stepped place Down (value.Count n) = goes_minus place (value.Count n) (value.Count 1)
  goes_stepped place Down (value.Int n) = goes_give_if _ _ place _
  goes_stepped place by one = goes_misfit place

  -- Tables -----------------------------------------------------------------------------------------------------------

  pub goes_signed : (place : Place) (sign : Sign) (one : Value) → Goes fixed (objects.signed place sign one)
  goes_signed place Plain one = goes_pure one
  goes_signed place Converted one = goes_unary place ToInt one
  goes_signed place Negated one = goes_unary place Negate one

  pub goes_default_value : (place : Place) (default : DefaultValue) → Goes fixed (objects.default_value place default)
  goes_default_value place (Literal literal sign) = goes_signed place sign _
  goes_default_value place EmptyTable = goes_new_object _ (λ now. becomes-new now (objects.empty_table None) (record { among = tt }) (λ low le within. tt))
  goes_default_value place EmptyVector = goes_new_object _ (λ now. becomes-vector now None [])

  pub goes_table_in : (place : Place) (one : Object) → Goes fixed (table_in place one)
  goes_table_in place (object.Table table) = goes_pure table
  goes_table_in place (object.Record number fields) = goes_misfit place
  goes_table_in place (object.Vector items) = goes_misfit place

  pub goes_table : (place : Place) (one : Value) → Goes fixed (objects.table place one)
  goes_table place one = goes_bind (goes_object place one) (λ found. goes_table_in place found)

  -- what is done at the moment to the table that a value names
  goes_with_table : {B : Type 0} (place : Place) (one : Value) (k : Table → Moment → Does B)
      → ((state : State) (table : Table) → object_in one state.world ≡ Some (object.Table table) → Leaves fixed state.world (reached (k table state.world.time state)))
      → Goes fixed (objects.table place one >>= (λ table. objects.now >>= k table))
  goes_with_table place one k next = record { by = λ state. by_object state (object_in one state.world) refl }
    where
      by_object : (state : State) (there : Option Object) → object_in one state.world ≡ there
          → Leaves fixed state.world (reached (and_then (and_then (or_fault Unset place there state) (table_in place)) (λ table. objects.now >>= k table)))
      by_object state None is = same _ _ refl refl refl refl refl refl
      by_object state (Some (object.Table table)) is = next state table is
      by_object state (Some (object.Record number fields)) is = same _ _ refl refl refl refl refl refl
      by_object state (Some (object.Vector items)) is = same _ _ refl refl refl refl refl refl

  set_table-step : (state : State) (one : Value) (table : Table) (change : Table → Table) → Delays state.world.time change → object_in one state.world ≡ Some (object.Table table)
      → Leaves fixed state.world (reached (objects.set_table one (change table) state))
  set_table-step state one table change delays is =
      set_object-step state one (object.Table (change table)) (subst (λ (there : Option Object). Becomes state.world.time there (Some (object.Table (change table)))) (sym is)
      (becomes-changed state.world.time change table delays))

  pub goes_absent : (place : Place) (default : Option DefaultValue) → Goes fixed (objects.absent place default)
  goes_absent place None = goes_fault NoIndex place
  goes_absent place (Some default) = goes_default_value place default

  pub goes_entry_value : (place : Place) (one : Value) (entry : Option Entry) → Goes fixed (objects.entry_value place one entry)
  goes_entry_value place one (Some entry) = goes_pure _
  goes_entry_value place one None = goes_of (objects.default_of one) (λ default. goes_absent place default)

  pub goes_element : (place : Place) (one : Value) (key : List Value) → Goes fixed (objects.element place one key)
  goes_element place one key = goes_with_table place one (λ table moment. objects.set_table one (objects.found moment key table) >> objects.entry_value place one (entry_at key table.entries)) (λ state table is.
      step_then state.world (objects.set_table one (objects.found state.world.time key table) state) (λ a. objects.entry_value place one (entry_at key table.entries))
      (λ a after. (goes_entry_value place one (entry_at key table.entries)).by after)
      (set_table-step state one table (objects.found state.world.time key) (found-delays state.world.time key) is))

  pub goes_has_key : (place : Place) (one : Value) (key : List Value) → Goes fixed (objects.has_key place one key)
  goes_has_key place one key = goes_with_table place one (λ table moment. objects.set_table one (objects.found moment key table) >> pure (value.Bool (is_some (entry_at key table.entries)))) (λ state table is.
      step_then state.world (objects.set_table one (objects.found state.world.time key table) state) (λ a. pure (value.Bool (is_some (entry_at key table.entries))))
      (λ a after. (goes_pure (value.Bool (is_some (entry_at key table.entries)))).by after)
      (set_table-step state one table (objects.found state.world.time key) (found-delays state.world.time key) is))

  pub goes_change_table : (place : Place) (one : Value) (changed : Moment → Table → Table) → ((moment : Moment) → Delays moment (changed moment)) → Goes fixed (objects.change_table place one changed)
  goes_change_table place one changed delays = goes_with_table place one (λ table moment. objects.set_table one (changed moment table)) (λ state table is. set_table-step state one table (changed state.world.time) (delays state.world.time) is)

  pub goes_keep_default : (default : Option DefaultValue) (one : Value) → Goes fixed (objects.keep_default default one)
  goes_keep_default (Some default) (value.Object number) = record { by = λ state. same _ _ refl refl refl refl refl refl }
  goes_keep_default default one = goes_pure one

  pub goes_new_set : (shape : Shape) (values : List Value) → Goes fixed (objects.new_set shape values)
  goes_new_set shape values =
      let members : List (List Value) = objects.groups shape.keys values in
      goes_new_at (λ moment. object.Table (fold (objects.add_member moment) (objects.empty_table shape.expiry) members))
      (λ moment. let delays = members-delay moment members in
      becomes-new moment _ (delays.keeps.sound (objects.empty_table shape.expiry) (record { among = tt })) (λ low le within. delays.by low le within (objects.empty_table shape.expiry) tt))
      (λ made. goes_keep_default shape.default made)

  pub goes_new_table : (shape : Shape) (values : List Value) → Goes fixed (objects.new_table shape values)
  goes_new_table shape values =
      let pairs : List (List Value) = objects.groups (shape.keys + 1) values in
      goes_new_at (λ moment. object.Table (fold (objects.with_pair shape.keys moment) (objects.empty_table shape.expiry) pairs))
      (λ moment. let delays = pairs-delay shape.keys moment pairs in
      becomes-new moment _ (delays.keeps.sound (objects.empty_table shape.expiry) (record { among = tt })) (λ low le within. delays.by low le within (objects.empty_table shape.expiry) tt))
      (λ made. goes_keep_default shape.default made)

  -- Vectors and records ----------------------------------------------------------------------------------------------

  pub goes_vector_in : (place : Place) (one : Object) → Goes fixed (vector_in place one)
  goes_vector_in place (object.Vector items) = goes_pure items
  goes_vector_in place (object.Record number fields) = goes_misfit place
  goes_vector_in place (object.Table table) = goes_misfit place

  pub goes_vector : (place : Place) (one : Value) → Goes fixed (objects.vector place one)
  goes_vector place one = goes_bind (goes_object place one) (λ found. goes_vector_in place found)

  pub goes_item : (place : Place) (one index : Value) → Goes fixed (objects.item place one index)
  goes_item place one (value.Count index) = goes_bind (goes_vector place one) (λ items. goes_or_fault NoIndex place (slice_get items index))
  goes_item place one index = goes_misfit place

  pub goes_with_item : (place : Place) (items : List Value) (index : ℕ) (item : Value) → Goes fixed (objects.with_item place items index item)
  goes_with_item place items index item = goes_if (nat_lt index (length items)) (goes_pure _) (goes_if (index == length items) (goes_pure _) (goes_fault NoIndex place))

  pub goes_set_item : (place : Place) (one index item : Value) → Goes fixed (objects.set_item place one index item)
  goes_set_item place one (value.Count index) item =
      goes_bind (goes_vector place one) (λ items. goes_bind (goes_with_item place items index item) (λ changed. goes_set_vector one _))
  goes_set_item place one index item = goes_misfit place

  pub goes_fields_in : (place : Place) (one : Object) → Goes fixed (fields_in place one)
  goes_fields_in place (object.Record number fields) = goes_pure fields
  goes_fields_in place (object.Vector items) = goes_misfit place
  goes_fields_in place (object.Table table) = goes_misfit place

  pub goes_fields : (place : Place) (one : Value) → Goes fixed (objects.fields place one)
  goes_fields place one = goes_bind (goes_object place one) (λ found. goes_fields_in place found)

  pub goes_field : (place : Place) (one : Value) (number : ℕ) → Goes fixed (objects.field place one number)
  goes_field place one number = goes_bind (goes_fields place one) (λ fields. goes_or_fault NoField place (in_field number fields))

  pub goes_has_field : (place : Place) (one : Value) (number : ℕ) → Goes fixed (objects.has_field place one number)
  goes_has_field place one number = goes_bind (goes_fields place one) (λ fields. goes_pure _)

  pub goes_set_field : (place : Place) (one : Value) (number : ℕ) (field : Value) → Goes fixed (objects.set_field place one number field)
  goes_set_field place one number field = goes_with_object place one _ (λ state found is.
      set_object-step state one (objects.with_field number field found) (subst (λ (there : Option Object). Becomes state.world.time there (Some (objects.with_field number field found))) (sym is)
      (becomes-field state.world.time number field found)))

  pub goes_not_given : (place : Place) (default : Option DefaultValue) → Goes fixed (objects.not_given place default)
  goes_not_given place None = goes_pure None
  goes_not_given place (Some default) = goes_bind (goes_default_value place default) (λ one. goes_pure (Some one))

  pub goes_first_value : (place : Place) (field : Field) (one : Option Value) → Goes fixed (objects.first_value place field one)
  goes_first_value place field (Some one) = goes_pure (Some one)
  goes_first_value place field None = goes_not_given place field.begins

  pub goes_first_values : (place : Place) (given : List Given) (number : ℕ) (fields : List Field) → Goes fixed (objects.first_values place given number fields)
  goes_first_values place given number [] = goes_pure []
  goes_first_values place given number (field ∷ fields) =
      goes_bind (goes_first_value place field _) (λ one. goes_bind (goes_first_values place given (number + 1) fields) (λ others. goes_pure (one ∷ others)))

  pub goes_new_record : (place : Place) (number : RecordNo) (fields : List Field) (given : List Given) → Goes fixed (objects.new_record place number fields given)
  goes_new_record place number fields given = goes_bind (goes_first_values place given 0 fields) (λ values. goes_new_object _ (λ now. becomes-record now number values))

  -- Computations of which a value is known ---------------------------------------------------------------------------------------

  makes_then : {A B : Type 0} {P : B → Type 0} {m : Does A} {k : A → Does B} → Goes fixed m → ((a : A) → Makes fixed P (k a)) → Makes fixed P (m >>= k)
  makes_then {P = P} {m = m} {k = k} first next = record {
    by = λ state. step_then state.world (m state) k (λ a after. (next a).by after) (first.by state);
    gives = λ state. gave_then P (m state) k (λ a after. (next a).gives after);
  }

  makes_now : {B : Type 0} {P : B → Type 0} {k : Moment → Does B} → ((moment : Moment) → Makes fixed P (k moment)) → Makes fixed P (objects.now >>= k)
  makes_now next = record { by = λ state. (next state.world.time).by state; gives = λ state. (next state.world.time).gives state }

  known_then : {A B : Type 0} (P : A → Type 0) (before : World) (ran : Ran A) (k : A → State → Ran B) → Gave P ran → ((a : A) (state : State) → P a → Leaves fixed state.world (reached (k a state)))
      → Leaves fixed before (reached ran) → Leaves fixed before (reached (and_then ran k))
  known_then P before (Gives a state) k gave h first = leaves_both before state.world (reached (k a state)) first (h a state gave)
  known_then P before (Faults kind place world units) k gave h first = first
  known_then P before (Spent place world) k gave h first = first

  goes_makes : {A B : Type 0} {P : A → Type 0} {m : Does A} {k : A → Does B} → Makes fixed P m → ((a : A) → P a → Goes fixed (k a)) → Goes fixed (m >>= k)
  goes_makes {P = P} {m = m} {k = k} makes next = record { by = λ state. known_then P state.world (m state) k (makes.gives state) (λ a after known. (next a known).by after) (makes.by state) }

  -- Sizes and copies -------------------------------------------------------------------------------------------------

  pub goes_size : (place : Place) (one : Value) → Goes fixed (objects.size place one)
  goes_size place (value.String bytes) = goes_pure _
  goes_size place (value.Int n) = goes_pure _
  goes_size place (value.Object number) = goes_bind (goes_object place (value.Object number)) (λ one. goes_pure _)
  goes_size place one = goes_misfit place

  module _ (copied : Value → Does Value) (goes : (one : Value) → Goes fixed (copied one)) where
    pub goes_each_copied : (values : List Value) → Goes fixed (objects.each_copied copied values)
    goes_each_copied [] = goes_pure []
    goes_each_copied (one ∷ values) = goes_bind (goes one) (λ first. goes_bind (goes_each_copied values) (λ others. goes_pure (first ∷ others)))

    pub goes_field_copied : (one : Option Value) → Goes fixed (objects.field_copied copied one)
    goes_field_copied None = goes_pure None
    goes_field_copied (Some one) = goes_bind (goes one) (λ first. goes_pure (Some first))

    pub goes_fields_copied : (values : List (Option Value)) → Goes fixed (objects.fields_copied copied values)
    goes_fields_copied [] = goes_pure []
    goes_fields_copied (one ∷ values) = goes_bind (goes_field_copied one) (λ first. goes_bind (goes_fields_copied values) (λ others. goes_pure (first ∷ others)))

    -- a copy has no dues
    pub entries-copied : (table : Table) → IsUndue table → (entries : List Entry) → Makes fixed IsUndue (objects.entries_copied copied table entries)
    entries-copied table undue [] = record { by = λ state. same _ _ refl refl refl refl refl refl; gives = λ state. undue }
    entries-copied table undue (entry ∷ entries) =
        makes_then (goes entry.value) (λ one. makes_now (λ moment. entries-copied (insert moment entry.key one table) (insert-undue moment entry.key one table undue) entries))

    pub goes_object_copied : (default : Option DefaultValue) (one : Object) → Goes fixed (objects.object_copied copied default one)
    goes_object_copied default (object.Record number fields) = goes_bind (goes_fields_copied fields) (λ values. goes_new_object _ (λ now. becomes-record now number values))
    goes_object_copied default (object.Vector items) = goes_bind (goes_each_copied items) (λ values. goes_new_object _ (λ now. becomes-vector now None values))
    goes_object_copied default (object.Table table) =
        goes_makes (entries-copied (objects.empty_table None) (record { sound = record { among = tt }; expiry = refl; dues = λ low. tt }) table.entries)
        (λ one undue. goes_bind (goes_new_object _ (λ now. becomes-new now one undue.sound (λ low le within. undue.dues low))) (λ made. goes_keep_default default made))

  pub goes_copied_to : (depth : ℕ) (place : Place) (one : Value) → Goes fixed (objects.copied_to depth place one)
  goes_copied_to zero place one = goes_misfit place
  goes_copied_to (suc depth) place (value.Object number) = goes_then (goes_tick place) (goes_bind (goes_object place (value.Object number)) (λ one.
      goes_of (objects.default_of (value.Object number)) (λ default. goes_object_copied (objects.copied_to depth place) (goes_copied_to depth place) default one)))
  goes_copied_to (suc depth) place one = goes_pure one
