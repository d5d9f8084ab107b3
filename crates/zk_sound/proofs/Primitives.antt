-- Each primitive and each action takes operands of its types, gives a value of its type, and meets no value of another type.
use Rattle.std.proofs.Common.{◌≡◌, ℕ, zero, suc, Bool, true, false, List, [], ◌∷◌, ◌++◌, map, reverse, Option, Some, None, refl, sym, ap, ◌∙◌}
use Rattle.std.specs.Prelude.{if◌then◌else◌}
use Rattle.std.specs.List.{AllByRecursion}
use Rattle.std.proofs.lemmas.List.{reverse-append}
use Rattle.zk_base.specs.declared.numbers.EventNo.{EventNo}
use Rattle.zk_base.specs.declared.time.Span.{Span}
use Rattle.zk_tree.specs.declared.place.Place.{Place}
use Rattle.zk_tree.specs.Store.{Object}
use Rattle.zk_tree.specs.Store as object
use Rattle.zk_tree.specs.Table.{Table, moment_after}
use Rattle.zk_tree.specs.Value as value
use Rattle.zk_tree.specs.Value.{Value}
use Rattle.zk_typed.specs.declared.script.action.Action.{Action}
use Rattle.zk_typed.specs.declared.script.action.Action.TheVariants as action
use Rattle.zk_typed.specs.declared.script.action.Left.{Left}
use Rattle.zk_typed.specs.declared.script.action.Left.TheVariants as left
use Rattle.zk_typed.specs.declared.script.primitive.Binary.{Binary}
use Rattle.zk_typed.specs.declared.script.primitive.Binary.TheVariants.{Plus, Minus}
use Rattle.zk_typed.specs.declared.script.primitive.BuiltIn.{BuiltIn}
use Rattle.zk_typed.specs.declared.script.primitive.BuiltIn.TheVariants as built_in
use Rattle.zk_typed.specs.declared.script.primitive.Direction.{Direction}
use Rattle.zk_typed.specs.declared.script.primitive.Primitive.{Primitive}
use Rattle.zk_typed.specs.declared.script.primitive.Primitive.TheVariants as primitive
use Rattle.zk_typed.specs.declared.script.primitive.Shape.{Shape}
use Rattle.zk_typed.specs.declared.script.literal.DefaultValue.{DefaultValue}
use Rattle.zk_typed.specs.declared.script.types.SimpleType.{SimpleType}
use Rattle.zk_typed.specs.declared.script.types.SimpleType.TheVariants as simple
use Rattle.zk_typed.specs.BuiltIns.{address_counts}
use Rattle.zk_typed.specs.Does.{Does, pure, change}
use Rattle.zk_typed.specs.Operations.{arithmetic_of}
use Rattle.zk_typed.specs.Predefined as type
use Rattle.zk_typed.specs.Primitives.{left_value, assign, into_object, updated, called, perform, act, schedule}
use Rattle.zk_typed.specs.State.{World, scheduled_for, with_line}
use Rattle.zk_typed.specs.Types.{ValueType, Simple, Record, Table as TableType, Set, Vector}
use Rattle.zk_typed.specs.World.{queued}
use Rattle.zk_sound.specs.Holding.{Kinds, HasType, HaveTypes, ObjectFits, MayBegin, AbsentFits, key_types}
use Rattle.zk_sound.specs.Worlds.{type_of, global_names, QueuedFits, ScheduledFits, WorldFits}
use Rattle.zk_sound.specs.Having.{HasKeys, UpdateTakes, SideTakes, BuiltInTakes, Takes, ActionTakes, IsNoName, ReadsNoName, ActsOnNoName, repeated}
use Rattle.zk_sound.specs.Keeping.{Setting, Keeps, Any, Of}
use Rattle.zk_sound.proofs.Growth.{grows_on, all_append, has_later, have_later, object_later}
use Rattle.zk_sound.proofs.Core.{keeps_bind, keeps_then, keeps_pure, keeps_tick, keeps_change}
use Rattle.zk_sound.proofs.Places.{fits_some, fits_none, keeps_local, keeps_set_local, keeps_global, keeps_set_global, keeps_object, keeps_set_object, keeps_new_object}
use Rattle.zk_sound.proofs.Operators.{made, keeps_string, keeps_unary, keeps_binary, keeps_stepped}
use Rattle.zk_sound.proofs.Objects.{AllAre, keeps_field, keeps_has_field, keeps_set_field, keeps_vector, keeps_item, keeps_set_item}
use Rattle.zk_sound.proofs.Containers.{Filled, keeps_now, keeps_element, keeps_has_key, keeps_set_element, keeps_delete_key, keeps_add_member, keeps_add_all, keeps_remove_all, keeps_new_set, keeps_new_table}
use Rattle.zk_sound.proofs.Copies.{keeps_size, keeps_copy}
use Rattle.zk_sound.proofs.Logs.{keeps_log_call, keeps_queued, same_params}

-- Operands ---------------------------------------------------------------------------------------------------------

module _ (kinds : Kinds) where
  none_of : (types : List ValueType) (args : List Value) → types ≡ [] → HaveTypes kinds types args → args ≡ []
  none_of [] [] is h = refl
  none_of [] (one ∷ args) is h = absurd h
  none_of (of ∷ types) args is h = absurd cc

  pub first_of : (a : ValueType) (others types : List ValueType) (args : List Value) → types ≡ a ∷ others → HaveTypes kinds types args
      → (one : Value) × (rest : List Value) × (args ≡ one ∷ rest) × HasType kinds a one × HaveTypes kinds others rest
  first_of a others types args is h = by args (rw is at h)
    where
      by : (args : List Value) → HaveTypes kinds (a ∷ others) args → (one : Value) × (rest : List Value) × (args ≡ one ∷ rest) × HasType kinds a one × HaveTypes kinds others rest
      by [] h = absurd h
      by (one ∷ rest) h = (one, rest, refl, h.0, h.1)

  only_of : (a : ValueType) (types : List ValueType) (args : List Value) → types ≡ a ∷ [] → HaveTypes kinds types args → (one : Value) × (args ≡ one ∷ []) × HasType kinds a one
  only_of a types args is h =
      let (one, rest, e, first, others) = first_of a [] types args is h in
      (one, e ∙ ap (λ more. one ∷ more) (none_of [] rest refl others), first)

  two_of : (a b : ValueType) (types : List ValueType) (args : List Value) → types ≡ a ∷ b ∷ [] → HaveTypes kinds types args → (one : Value) × (other : Value) × (args ≡ one ∷ other ∷ []) × HasType kinds a one × HasType kinds b other
  two_of a b types args is h =
      let (one, rest, e, first, others) = first_of a (b ∷ []) types args is h in
      let (other, more, second) = only_of b (b ∷ []) rest refl others in
      (one, other, e ∙ ap (λ more. one ∷ more) more, first, second)

  -- values of one type, so many times over
  all_one : (item : ValueType) (count : ℕ) (ones : List Value) → HaveTypes kinds (repeated count (item ∷ [])) ones → AllByRecursion (HasType kinds item) ones
  all_one item zero [] h = tt
  all_one item zero (one ∷ ones) h = absurd h
  all_one item (suc count) [] h = absurd h
  all_one item (suc count) (one ∷ ones) (first, others) = (first, all_one item count ones others)

-- Left sides -------------------------------------------------------------------------------------------------------

-- a name may have no value
abbrev pub MayRead : Bool → Left → Type 0
MayRead strict (left.Local number) = strict ≡ false
MayRead strict (left.Global number) = strict ≡ false
MayRead strict other = Unit {0}

module _ {setting : Setting} {kinds : Kinds} where
  pub keeps_left : (place : Place) (side : Left) (types : List ValueType) (of : ValueType) (args : List Value) → MayRead setting.strict side → SideTakes setting.program setting.names side types of → HaveTypes kinds types args
      → Keeps setting (Of of) kinds (left_value place side args)
  keeps_left place (left.Local number) types of args may (is, typed) h = rw (none_of kinds types args is h) (keeps_local place number of may typed)
  keeps_left place (left.Global number) types of args may (is, typed) h = rw (none_of kinds types args is h) (keeps_global place number of may typed)
  keeps_left place (left.Field one) types of args may (is, typed) h = let (v, e, first) = only_of kinds (Record one.«record») types args is h in
      rw e (keeps_field place one.«record» one.field of v typed first)
  keeps_left place left.Element types of args may (keys, is) h = let (v, rest, e, first, others) = first_of kinds (TableType keys of) (key_types keys) types args is h in
      rw e (keeps_element place keys of v rest first)
  keeps_left place left.Item types of args may is h = let (v, w, e, first, second) = two_of kinds (Vector of) type.count types args is h in
      rw e (keeps_item place of v w first second)

  pub keeps_assign : (place : Place) (side : Left) (types : List ValueType) (of : ValueType) (args : List Value) (one : Value) → SideTakes setting.program setting.names side types of → HaveTypes kinds types args → HasType kinds of one
      → Keeps setting Any kinds (assign place side args one)
  keeps_assign place (left.Local number) types of args one (is, typed) h fit = rw (none_of kinds types args is h) (keeps_set_local number (Some one) (fits_some kinds of (type_of setting.names number) one typed fit))
  keeps_assign place (left.Global number) types of args one (is, typed) h fit = rw (none_of kinds types args is h) (keeps_set_global number (Some one) (fits_some kinds of (type_of (global_names setting.program) number) one typed fit))
  keeps_assign place (left.Field field) types of args one (is, typed) h fit = let (v, e, first) = only_of kinds (Record field.«record») types args is h in
      rw e (keeps_set_field place field.«record» field.field of v one typed first fit)
  keeps_assign place left.Element types of args one (keys, is) h fit = let (v, rest, e, first, others) = first_of kinds (TableType keys of) (key_types keys) types args is h in
      rw e (keeps_set_element place keys of v rest one first others fit)
  keeps_assign place left.Item types of args one is h fit = let (v, w, e, first, second) = two_of kinds (Vector of) type.count types args is h in
      rw e (keeps_set_item place of v w one first second fit)

-- Updates ----------------------------------------------------------------------------------------------------------

module _ {A : Type 0} {setting : Setting} {Q : Kinds → A → Type 0} {kinds : Kinds} where
  -- what is done to the set that an object is
  on_set : (next : Object → Does A) (keys : List SimpleType) → ((table : Table) → Filled (Set keys) kinds table → Keeps setting Q kinds (next (object.Table table)))
      → (one : Object) → ObjectFits setting.program kinds (Set keys) one → Keeps setting Q kinds (next one)
  on_set next keys keeps (object.Table table) fits = keeps table fits
  on_set next keys keeps (object.Vector items) fits = absurd fits
  on_set next keys keeps (object.Record r fields) fits = absurd fits

  on_vector : (next : Object → Does A) (item : ValueType) → ((items : List Value) → AllAre item kinds items → Keeps setting Q kinds (next (object.Vector items)))
      → (one : Object) → ObjectFits setting.program kinds (Vector item) one → Keeps setting Q kinds (next one)
  on_vector next item keeps (object.Vector items) fits = keeps items fits
  on_vector next item keeps (object.Table table) fits = absurd fits
  on_vector next item keeps (object.Record r fields) fits = absurd fits

module _ {setting : Setting} {kinds : Kinds} where
  added_to_set : (place : Place) (keys : List SimpleType) (one added : Value) → HasType kinds (Set keys) one → HasType kinds (Set keys) added → Keeps setting (Of (Set keys)) kinds (updated place Plus one added)
  added_to_set place keys (value.Object number) added named more = keeps_bind (keeps_object place (Set keys) (value.Object number) named) (λ later grows.
      on_set (into_object place Plus (value.Object number) added) keys (λ members all.
      keeps_bind (keeps_object place (Set keys) added (object_later grows (Set keys) added more)) (λ last on. on_set _ keys (λ others every.
      keeps_then {next = pure (value.Object number)} (keeps_add_all place keys (value.Object number) others (object_later (grows_on grows on) (Set keys) (value.Object number) named) every)
      (λ end further. keeps_pure (value.Object number) (object_later (grows_on grows (grows_on on further)) (Set keys) (value.Object number) named))))))
  added_to_set place keys one added named more = absurd named

  taken_from_set : (place : Place) (keys : List SimpleType) (one added : Value) → HasType kinds (Set keys) one → HasType kinds (Set keys) added → Keeps setting (Of (Set keys)) kinds (updated place Minus one added)
  taken_from_set place keys (value.Object number) added named more = keeps_bind (keeps_object place (Set keys) (value.Object number) named) (λ later grows.
      on_set (into_object place Minus (value.Object number) added) keys (λ members all.
      keeps_bind (keeps_object place (Set keys) added (object_later grows (Set keys) added more)) (λ last on. on_set _ keys (λ others every.
      keeps_then {next = pure (value.Object number)} (keeps_remove_all place keys (value.Object number) others (object_later (grows_on grows on) (Set keys) (value.Object number) named) every)
      (λ end further. keeps_pure (value.Object number) (object_later (grows_on grows (grows_on on further)) (Set keys) (value.Object number) named))))))
  taken_from_set place keys one added named more = absurd named

  appended : (place : Place) (item : ValueType) (one added : Value) → HasType kinds (Vector item) one → HasType kinds item added → Keeps setting (Of (Vector item)) kinds (updated place Plus one added)
  appended place item (value.Object number) added named more = keeps_bind (keeps_object place (Vector item) (value.Object number) named) (λ later grows.
      on_vector (into_object place Plus (value.Object number) added) item (λ items all.
      keeps_then {next = pure (value.Object number)} (keeps_set_object (Vector item) (value.Object number) (object.Vector (items ++ added ∷ [])) (object_later grows (Vector item) (value.Object number) named)
      (all_append (HasType later item) items (added ∷ []) all (has_later grows item added more, tt)))
      (λ last on. keeps_pure (value.Object number) (object_later (grows_on grows on) (Vector item) (value.Object number) named))))
  appended place item one added named more = absurd named

  simple_updated : (place : Place) (by : Binary) (a b : SimpleType) (one added : Value) → arithmetic_of by a b ≡ Some a → HasType kinds (Simple a) one → HasType kinds (Simple b) added → Keeps setting (Of (Simple a)) kinds (updated place by one added)
  simple_updated place by a b (value.Object number) added is h more = absurd (never a h)
    where
      never : (of : SimpleType) → HasType kinds (Simple of) (value.Object number) → ⊥
      never simple.Bool h = cc
      never of h = cc
  simple_updated place by a b one added is h more = keeps_binary setting kinds place by a b a one added is h more

  pub keeps_updated : (place : Place) (by : Binary) (of adds : ValueType) (one added : Value) → UpdateTakes by of adds → HasType kinds of one → HasType kinds adds added → Keeps setting (Of of) kinds (updated place by one added)
  keeps_updated place by (Simple a) adds one added (b, is, gives) h more = simple_updated place by a b one added gives h (rw is at more)
  keeps_updated place Plus (Set keys) adds one added is h more = added_to_set place keys one added h (rw is at more)
  keeps_updated place Minus (Set keys) adds one added is h more = taken_from_set place keys one added h (rw is at more)
  keeps_updated place Plus (Vector item) adds one added is h more = appended place item one added h (rw is at more)
  keeps_updated place by of adds one added is h more = absurd is

-- Built-in functions -----------------------------------------------------------------------------------------------

-- a row of built-in functions is this one
abbrev IsRow : List ValueType → ValueType → List ValueType → ValueType → Type 0
IsRow takes gives types of = let row : List ValueType × ValueType = (takes, gives) in Some row ≡ Some (types, of)

row_parts : (takes : List ValueType) (gives : ValueType) (types : List ValueType) (of : ValueType) → IsRow takes gives types of → (types ≡ takes) × (of ≡ gives)
row_parts takes gives types of is = (sym (ap first is), sym (ap second is))
  where
    first : Option (List ValueType × ValueType) → List ValueType
    first None = takes
    first (Some one) = one.0

    second : Option (List ValueType × ValueType) → ValueType
    second None = gives
    second (Some one) = one.1

all_counts : (kinds : Kinds) (counts : List ℕ) → AllByRecursion (HasType kinds type.count) (map value.Count counts)
all_counts kinds [] = tt
all_counts kinds (n ∷ counts) = (refl, all_counts kinds counts)

-- a copy may come to its depth
abbrev pub MayCall : Bool → BuiltIn → Type 0
MayCall strict built_in.Copy = strict ≡ false
MayCall strict other = Unit {0}

module _ {setting : Setting} {kinds : Kinds} where
  text_keeps : (place : Place) (function : BuiltIn) (types : List ValueType) (args : List Value) (gives of : ValueType) → IsRow (type.string ∷ []) gives types of → HaveTypes kinds types args
      → ((text : List ℕ) → Keeps setting (Of gives) kinds (called place function (value.String text ∷ []))) → Keeps setting (Of of) kinds (called place function args)
  text_keeps place function types args gives of is h keeps =
      let (takes, same) = row_parts (type.string ∷ []) gives types of is in
      let (v, e, first) = only_of kinds type.string types args takes h in
      let (text, made_of) = made simple.String v first in
      rw same (rw (e ∙ ap (λ one. one ∷ []) made_of) (keeps text))

  texts_keep : (place : Place) (function : BuiltIn) (types : List ValueType) (args : List Value) (gives of : ValueType) → IsRow (type.string ∷ type.string ∷ []) gives types of → HaveTypes kinds types args
      → ((text other : List ℕ) → Keeps setting (Of gives) kinds (called place function (value.String text ∷ value.String other ∷ []))) → Keeps setting (Of of) kinds (called place function args)
  texts_keep place function types args gives of is h keeps =
      let (takes, same) = row_parts (type.string ∷ type.string ∷ []) gives types of is in
      let (v, w, e, first, second) = two_of kinds type.string type.string types args takes h in
      let (text, made_of) = made simple.String v first in
      let (other, made_with) = made simple.String w second in
      rw same (rw (e ∙ (ap (λ one. one ∷ w ∷ []) made_of ∙ ap (λ one. value.String text ∷ one ∷ []) made_with)) (keeps text other))

  fmt_keeps : (place : Place) (types : List ValueType) (args : List Value) (of : ValueType) → BuiltInTakes built_in.Fmt types of → HaveTypes kinds types args → Keeps setting (Of of) kinds (called place built_in.Fmt args)
  fmt_keeps place types args of (others, is, all, same) h =
      let (v, rest, e, first, more) = first_of kinds type.string others types args is h in
      let (text, made_of) = made simple.String v first in
      rw same (rw (e ∙ ap (λ one. one ∷ rest) made_of) (keeps_string place _))

  sub_keeps : (place : Place) (types : List ValueType) (args : List Value) (of : ValueType) → BuiltInTakes built_in.SubBytes types of → HaveTypes kinds types args → Keeps setting (Of of) kinds (called place built_in.SubBytes args)
  sub_keeps place types args of is h =
      let (takes, same) = row_parts (type.string ∷ type.count ∷ type.int ∷ []) type.string types of is in
      let (v, rest, e, first, more) = first_of kinds type.string (type.count ∷ type.int ∷ []) types args takes h in
      let (w, x, k, second, third) = two_of kinds type.count type.int (type.count ∷ type.int ∷ []) rest refl more in
      let (text, made_text) = made simple.String v first in
      let (start, made_start) = made simple.Count w second in
      let (n, made_n) = made simple.Int x third in
      rw same (rw (e ∙ (ap (λ one. v ∷ one) k ∙ (ap (λ one. one ∷ w ∷ x ∷ []) made_text ∙ (ap (λ one. value.String text ∷ one ∷ x ∷ []) made_start ∙ ap (λ one. value.String text ∷ value.Count start ∷ one ∷ []) made_n)))) (keeps_pure _ refl))

  join_keeps : (place : Place) (types : List ValueType) (args : List Value) (of : ValueType) → BuiltInTakes built_in.JoinStringVec types of → HaveTypes kinds types args → Keeps setting (Of of) kinds (called place built_in.JoinStringVec args)
  join_keeps place types args of is h =
      let (takes, same) = row_parts (Vector type.string ∷ type.string ∷ []) type.string types of is in
      let (v, w, e, first, second) = two_of kinds (Vector type.string) type.string types args takes h in
      let (text, made_of) = made simple.String w second in
      rw same (rw (e ∙ ap (λ one. v ∷ one ∷ []) made_of) (keeps_bind (keeps_vector place type.string v first) (λ later grows items all. keeps_string place _)))

  counts_keep : (place : Place) (types : List ValueType) (args : List Value) (of : ValueType) → BuiltInTakes built_in.AddrToCounts types of → HaveTypes kinds types args → Keeps setting (Of of) kinds (called place built_in.AddrToCounts args)
  counts_keep place types args of is h =
      let (takes, same) = row_parts (type.addr ∷ []) (Vector type.count) types of is in
      let (v, e, first) = only_of kinds type.addr types args takes h in
      let (address, made_of) = made simple.Addr v first in
      rw same (rw (e ∙ ap (λ one. one ∷ []) made_of) (keeps_new_object (Vector type.count) (object.Vector (map value.Count (address_counts address))) (all_counts kinds (address_counts address))))

  time_keeps : (place : Place) (types : List ValueType) (args : List Value) (of : ValueType) → BuiltInTakes built_in.NetworkTime types of → HaveTypes kinds types args → Keeps setting (Of of) kinds (called place built_in.NetworkTime args)
  time_keeps place types args of is h =
      let (takes, same) = row_parts ([]) type.time types of is in
      rw same (rw (none_of kinds types args takes h) (keeps_now _ (λ moment. keeps_pure (value.Time moment) refl)))

  copy_keeps : (place : Place) (types : List ValueType) (args : List Value) (of : ValueType) → setting.strict ≡ false → BuiltInTakes built_in.Copy types of → HaveTypes kinds types args → Keeps setting (Of of) kinds (called place built_in.Copy args)
  copy_keeps place types args of may is h = let (v, e, first) = only_of kinds of types args is h in rw e (keeps_copy may 201 place kinds of v first)

  pub keeps_called : (place : Place) (function : BuiltIn) (types : List ValueType) (args : List Value) (of : ValueType) → MayCall setting.strict function → BuiltInTakes function types of → HaveTypes kinds types args
      → Keeps setting (Of of) kinds (called place function args)
  keeps_called place built_in.Fmt types args of may is h = fmt_keeps place types args of is h
  keeps_called place built_in.Cat types args of may (all, same) h = rw same (keeps_string place _)
  keeps_called place built_in.ToLower types args of may is h = text_keeps place built_in.ToLower types args type.string of is h (λ text. keeps_pure _ refl)
  keeps_called place built_in.ToUpper types args of may is h = text_keeps place built_in.ToUpper types args type.string of is h (λ text. keeps_pure _ refl)
  keeps_called place built_in.SubBytes types args of may is h = sub_keeps place types args of is h
  keeps_called place built_in.Strstr types args of may is h = texts_keep place built_in.Strstr types args type.count of is h (λ text other. keeps_pure _ refl)
  keeps_called place built_in.ToCount types args of may is h = text_keeps place built_in.ToCount types args type.count of is h (λ text. keeps_pure _ refl)
  keeps_called place built_in.StartsWith types args of may is h = texts_keep place built_in.StartsWith types args type.bool of is h (λ text other. keeps_pure _ refl)
  keeps_called place built_in.JoinStringVec types args of may is h = join_keeps place types args of is h
  keeps_called place built_in.AddrToCounts types args of may is h = counts_keep place types args of is h
  keeps_called place built_in.NetworkTime types args of may is h = time_keeps place types args of is h
  keeps_called place built_in.Copy types args of may is h = copy_keeps place types args of may is h

-- Primitives -------------------------------------------------------------------------------------------------------

-- what may be performed where no value may be missing
abbrev pub MayPerform : Bool → Primitive → Type 0
MayPerform strict (primitive.Step side by) = MayRead strict side
MayPerform strict (primitive.BuiltIn function) = MayCall strict function
MayPerform strict other = Unit {0}

reverse_first : (one : Value) (args : List Value) → reverse (one ∷ args) ≡ reverse args ++ one ∷ []
reverse_first one args = reverse-append (one ∷ []) args

-- the last of the operands is the container
last_of : (kinds : Kinds) (keys : List ValueType) (over : ValueType) (args : List Value) → HaveTypes kinds (keys ++ over ∷ []) args → (key : List Value) × (one : Value) × (reverse args ≡ one ∷ reverse key) × HasType kinds over one
last_of kinds [] over [] h = absurd h
last_of kinds [] over (one ∷ []) h = ([], one, refl, h.0)
last_of kinds [] over (one ∷ other ∷ args) h = absurd h.1
last_of kinds (k ∷ keys) over [] h = absurd h
last_of kinds (k ∷ keys) over (one ∷ args) (first, others) =
    let (key, last, e, fit) = last_of kinds keys over args others in
    (one ∷ key, last, reverse_first one args ∙ (ap (λ (more : List Value). more ++ one ∷ []) e ∙ ap (λ (more : List Value). last ∷ more) (sym (reverse_first one key))), fit)

module _ {setting : Setting} {kinds : Kinds} where
  has_key_keeps : (place : Place) (types : List ValueType) (args : List Value) (of : ValueType) → Takes setting.program setting.names primitive.HasKey types of → HaveTypes kinds types args → Keeps setting (Of of) kinds (perform place primitive.HasKey args)
  has_key_keeps place types args of (keys, over, is, same, gives) h = rw gives (by over same (last_of kinds (key_types keys) over args (rw is at h)))
    where
      by : (over : ValueType) → HasKeys over keys → ((key : List Value) × (one : Value) × (reverse args ≡ one ∷ reverse key) × HasType kinds over one) → Keeps setting (Of type.bool) kinds (perform place primitive.HasKey args)
      by (TableType others item) same (key, one, e, fit) = rw e (keeps_has_key (TableType others item) tt place one _ fit)
      by (Set others) same (key, one, e, fit) = rw e (keeps_has_key (Set others) tt place one _ fit)
      by over same found = absurd same

  has_text_keeps : (place : Place) (types : List ValueType) (args : List Value) (of : ValueType) → Takes setting.program setting.names primitive.HasText types of → HaveTypes kinds types args → Keeps setting (Of of) kinds (perform place primitive.HasText args)
  has_text_keeps place types args of (is, gives) h =
      let (v, w, e, first, second) = two_of kinds type.string type.string types args is h in
      let (little, made_little) = made simple.String v first in
      let (big, made_big) = made simple.String w second in
      rw gives (rw (e ∙ (ap (λ one. one ∷ w ∷ []) made_little ∙ ap (λ one. value.String little ∷ one ∷ []) made_big)) (keeps_pure _ refl))

  has_index_keeps : (place : Place) (types : List ValueType) (args : List Value) (of : ValueType) → Takes setting.program setting.names primitive.HasIndex types of → HaveTypes kinds types args → Keeps setting (Of of) kinds (perform place primitive.HasIndex args)
  has_index_keeps place types args of (item, is, gives) h =
      let (v, w, e, first, second) = two_of kinds type.count (Vector item) types args is h in
      let (n, made_n) = made simple.Count v first in
      rw gives (rw (e ∙ ap (λ one. one ∷ w ∷ []) made_n) (keeps_bind (keeps_vector place item w second) (λ later grows items all. keeps_pure _ refl)))

  step_keeps : (place : Place) (side : Left) (by : Direction) (types : List ValueType) (args : List Value) (of : ValueType) → MayRead setting.strict side → Takes setting.program setting.names (primitive.Step side by) types of → HaveTypes kinds types args
      → Keeps setting (Of of) kinds (perform place (primitive.Step side by) args)
  step_keeps place side by types args of may (takes, steps) h = keeps_bind (keeps_left place side types of args may takes h) (λ later grows before fit.
      keeps_bind (keeps_stepped setting later place by of before steps fit) (λ last more after fits.
      keeps_then (keeps_assign place side types of args after takes (have_later (grows_on grows more) types args h) fits)
      (λ end on. keeps_pure after (has_later on of after fits))))

  new_table_keeps : (place : Place) (shape : Shape) (types : List ValueType) (args : List Value) (of : ValueType) → Takes setting.program setting.names (primitive.NewTable shape) types of → HaveTypes kinds types args
      → Keeps setting (Of of) kinds (perform place (primitive.NewTable shape) args)
  new_table_keeps place shape types args of (keys, item, count, is, many, gives, begins) h = rw gives (keeps_new_table shape keys item count args (rw is at h) many (by shape.default begins))
    where
      by : (default : Option DefaultValue) → MayBegin item default → (given : DefaultValue) → default ≡ Some given → AbsentFits (TableType keys item) given
      by None fits given e = absurd cc
      by (Some one) fits given e = let same : one ≡ given = cc in rw same at fits

  pub keeps_perform : (place : Place) (one : Primitive) (types : List ValueType) (args : List Value) (of : ValueType) → MayPerform setting.strict one → Takes setting.program setting.names one types of → HaveTypes kinds types args
      → Keeps setting (Of of) kinds (perform place one args)
  keeps_perform place (primitive.Unary operator) types args of may (a, is, takes) h = let (v, e, first) = only_of kinds a types args is h in
      rw e (keeps_unary setting kinds place operator a of v takes first)
  keeps_perform place (primitive.Binary operator) types args of may (a, b, gives, is, row, same) h = let (v, w, e, first, second) = two_of kinds (Simple a) (Simple b) types args is h in
      rw same (rw e (keeps_binary setting kinds place operator a b gives v w row first second))
  keeps_perform place (primitive.Compare relation) types args of may (a, is, gives) h = let (v, w, e, first, second) = two_of kinds (Simple a) (Simple a) types args is h in
      rw gives (rw e (keeps_pure _ refl))
  keeps_perform place primitive.HasKey types args of may takes h = has_key_keeps place types args of takes h
  keeps_perform place primitive.HasText types args of may takes h = has_text_keeps place types args of takes h
  keeps_perform place primitive.HasAddress types args of may (is, gives) h = let (v, w, e, first, second) = two_of kinds type.addr type.subnet types args is h in
      rw gives (rw e (keeps_pure _ refl))
  keeps_perform place primitive.HasIndex types args of may takes h = has_index_keeps place types args of takes h
  keeps_perform place primitive.Size types args of may (a, is, sized, gives) h = let (v, e, first) = only_of kinds a types args is h in
      rw gives (rw e (keeps_size place a v sized first))
  keeps_perform place (primitive.Field one) types args of may (is, typed) h = let (v, e, first) = only_of kinds (Record one.«record») types args is h in
      rw e (keeps_field place one.«record» one.field of v typed first)
  keeps_perform place (primitive.HasField one) types args of may (is, gives) h = let (v, e, first) = only_of kinds (Record one.«record») types args is h in
      rw gives (rw e (keeps_has_field place one.«record» one.field v first))
  keeps_perform place primitive.Element types args of may (keys, is) h = let (v, rest, e, first, others) = first_of kinds (TableType keys of) (key_types keys) types args is h in
      rw e (keeps_element place keys of v rest first)
  keeps_perform place primitive.Item types args of may is h = let (v, w, e, first, second) = two_of kinds (Vector of) type.count types args is h in
      rw e (keeps_item place of v w first second)
  keeps_perform place (primitive.NewTable shape) types args of may takes h = new_table_keeps place shape types args of takes h
  keeps_perform place (primitive.NewSet shape) types args of may (keys, count, is, many, gives) h = rw gives (keeps_new_set shape keys count args (rw is at h) many)
  keeps_perform place primitive.NewVector types args of may (item, count, is, gives) h = rw gives (keeps_new_object (Vector item) (object.Vector args) (all_one kinds item count args (rw is at h)))
  keeps_perform place (primitive.Step side by) types args of may takes h = step_keeps place side by types args of may takes h
  keeps_perform place (primitive.BuiltIn function) types args of may takes h = keeps_then (keeps_tick place) (λ later grows. keeps_called place function types args of may takes (have_later grows types args h))
  keeps_perform place (primitive.Log call) types args of may (is, gives, fits) h = rw gives (rw (none_of kinds types args is h) (keeps_then (keeps_tick place) (λ later grows. keeps_log_call call fits)))

-- Actions ----------------------------------------------------------------------------------------------------------

may_read : {strict : Bool} (side : Left) → strict ≡ false → MayRead strict side
may_read (left.Local number) h = h
may_read (left.Global number) h = h
may_read side h = tt

-- what may be done where no value may be missing
abbrev pub MayAct : Bool → Action → Type 0
MayAct strict (action.Update side by) = MayRead strict side
MayAct strict other = Unit {0}

pub may_act : {strict : Bool} (one : Action) → strict ≡ false → MayAct strict one
may_act (action.Update side by) h = may_read side h
may_act one h = tt

may_call : {strict : Bool} (function : BuiltIn) → strict ≡ false → MayCall strict function
may_call built_in.Copy h = h
may_call function h = tt

pub may_perform : {strict : Bool} (one : Primitive) → strict ≡ false → MayPerform strict one
may_perform (primitive.Step side by) h = may_read side h
may_perform (primitive.BuiltIn function) h = may_call function h
may_perform one h = tt

-- what reads no name may always be performed
no_read : (strict : Bool) (side : Left) → IsNoName side → MayRead strict side
no_read strict (left.Local number) h = absurd h
no_read strict (left.Global number) h = absurd h
no_read strict side h = tt

no_copy : (strict : Bool) (function : BuiltIn) → ReadsNoName (primitive.BuiltIn function) → MayCall strict function
no_copy strict built_in.Copy h = absurd h
no_copy strict function h = tt

pub no_perform : (strict : Bool) (one : Primitive) → ReadsNoName one → MayPerform strict one
no_perform strict (primitive.Step side by) h = no_read strict side h
no_perform strict (primitive.BuiltIn function) h = no_copy strict function h
no_perform strict one h = tt

pub no_act : (strict : Bool) (one : Action) → ActsOnNoName one → MayAct strict one
no_act strict (action.Update side by) h = no_read strict side h
no_act strict one h = tt

module _ {setting : Setting} {kinds : Kinds} where
  scheduled_keeps : (event : EventNo) (delay : Span) (args : List Value) → QueuedFits setting.program kinds (queued event args) → Keeps setting Any kinds (change (schedule event delay args))
  scheduled_keeps event delay args fits = keeps_change _ (λ world holds. by world.is_ending world holds)
    where
      by : (ending : Bool) (world : World) → WorldFits setting.program kinds world → WorldFits setting.program kinds (if ending then world else scheduled_for (moment_after world.time delay) (queued event args) world)
      by true world holds = holds
      by false world holds = record {
        objects = holds.objects;
        defaults = holds.defaults;
        globals = holds.globals;
        streams = holds.streams;
        queue = holds.queue;
        scheduled = all_append (ScheduledFits setting.program kinds) world.scheduled _ holds.scheduled (fits, tt);
        rows = holds.rows;
      }

  printed_keeps : (line : List ℕ) → Keeps setting Any kinds (change (with_line line))
  printed_keeps line = keeps_change _ (λ world holds. record {
    objects = holds.objects;
    defaults = holds.defaults;
    globals = holds.globals;
    streams = holds.streams;
    queue = holds.queue;
    scheduled = holds.scheduled;
    rows = holds.rows;
  })

  timed_keeps : (place : Place) (event : EventNo) (types : List ValueType) (args : List Value) → ActionTakes setting.program setting.names (action.Schedule event) types → HaveTypes kinds types args → Keeps setting Any kinds (act place (action.Schedule event) args)
  timed_keeps place event types args (params, is, known) h =
      let (v, rest, e, first, others) = first_of kinds type.interval params types args is h in
      let (delay, made_of) = made simple.Interval v first in
      rw (e ∙ ap (λ one. one ∷ rest) made_of) (scheduled_keeps event delay rest (same_params setting.program kinds event params rest known others))

  deleted_keeps : (place : Place) (types : List ValueType) (args : List Value) → ActionTakes setting.program setting.names action.Delete types → HaveTypes kinds types args → Keeps setting Any kinds (act place action.Delete args)
  deleted_keeps place types args (keys, over, is, same) h = by over same (first_of kinds over (key_types keys) types args is h)
    where
      by : (over : ValueType) → HasKeys over keys → ((one : Value) × (rest : List Value) × (args ≡ one ∷ rest) × HasType kinds over one × HaveTypes kinds (key_types keys) rest) → Keeps setting Any kinds (act place action.Delete args)
      by (TableType others item) same (v, rest, e, first, more) = rw e (keeps_delete_key (TableType others item) tt place v rest first)
      by (Set others) same (v, rest, e, first, more) = rw e (keeps_delete_key (Set others) tt place v rest first)
      by over same found = absurd same

  updates_keep : (place : Place) (side : Left) (by : Binary) (types : List ValueType) (args : List Value) → MayRead setting.strict side → ActionTakes setting.program setting.names (action.Update side by) types → HaveTypes kinds types args
      → Keeps setting Any kinds (act place (action.Update side by) args)
  updates_keep place side by types args may (of, added, others, is, takes, update) h =
      let (v, rest, e, first, more) = first_of kinds added others types args is h in
      rw e (keeps_bind (keeps_left place side others of rest may takes more) (λ later grows before fit.
      keeps_bind (keeps_updated place by of added before v update fit (has_later grows added v first)) (λ last on after fits.
      keeps_assign place side others of rest after takes (have_later (grows_on grows on) others rest more) fits)))

  pub keeps_act : (place : Place) (one : Action) (types : List ValueType) (args : List Value) → MayAct setting.strict one → ActionTakes setting.program setting.names one types → HaveTypes kinds types args → Keeps setting Any kinds (act place one args)
  keeps_act place action.Print types args may takes h = printed_keeps _
  keeps_act place (action.Assign side) types args may (of, others, is, takes) h = let (v, rest, e, first, more) = first_of kinds of others types args is h in
      rw e (keeps_assign place side others of rest v takes more first)
  keeps_act place (action.Update side by) types args may takes h = updates_keep place side by types args may takes h
  keeps_act place (action.Forget number) types args may is h = rw (none_of kinds types args is h) (keeps_set_local number None (fits_none kinds (type_of setting.names number)))
  keeps_act place action.Add types args may (keys, is) h = let (v, rest, e, first, more) = first_of kinds (Set keys) (key_types keys) types args is h in
      rw e (keeps_add_member place keys v rest first more)
  keeps_act place action.Delete types args may takes h = deleted_keeps place types args takes h
  keeps_act place (action.Queue event) types args may known h = keeps_queued (queued event args ∷ []) (same_params setting.program kinds event types args known h, tt)
  keeps_act place (action.Schedule event) types args may takes h = timed_keeps place event types args takes h
