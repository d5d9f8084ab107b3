-- Bodies of handlers, initial values and expiry functions keep the types of a world.
use Rattle.std.proofs.Common.{◌≡◌, ℕ, codes, ◌==◌, Bool, true, false, cond, List, [], ◌∷◌, ◌++◌, map, filter, fold, Option, Some, None, refl, sym, ap, subst, ◌∙◌}
use Rattle.std.specs.Prelude.{slice_get, slice_set}
use Rattle.std.specs.List.{AllByRecursion}
use Rattle.std.proofs.lemmas.Bool.{eqb-true}
use Rattle.zk_base.specs.declared.numbers.EventNo.{EventNo}
use Rattle.zk_tree.specs.declared.place.Place.{Place}
use Rattle.zk_tree.specs.Store.{Object}
use Rattle.zk_tree.specs.Store as object
use Rattle.zk_tree.specs.Table.{Table, Entry, entry_numbered, expire, renew}
use Rattle.zk_tree.specs.Value as value
use Rattle.zk_tree.specs.Value.{Value}
use Rattle.zk_typed.specs.declared.ends.FaultKind.TheVariants.{Unset}
use Rattle.zk_typed.specs.declared.script.primitive.Binary.TheVariants.{Plus}
use Rattle.zk_typed.specs.declared.script.types.SimpleType.{SimpleType}
use Rattle.zk_typed.specs.declared.script.types.SimpleType.TheVariants as simple
use Rattle.zk_typed.specs.Dispatch.{all_calls, handler_body, with_added, initial_value, initial_body, interval_of, wait_for, expiry_body, world_after, reported, handlers_of, dispatch}
use Rattle.zk_typed.specs.Does.{Ran, Gives, Faults, Spent, ◌>>=◌, or_fault, named}
use Rattle.zk_typed.specs.Forms.{Expr}
use Rattle.zk_typed.specs.Meaning.{depth_max, in_order, function_body}
use Rattle.zk_typed.specs.Predefined as type
use Rattle.zk_typed.specs.Program.{Program, Global, Handler}
use Rattle.zk_typed.specs.Running.{table_of, table_behind, with_table, wait_of, expired, expire_in, expire_of}
use Rattle.zk_typed.specs.State.{World, with_store}
use Rattle.zk_typed.specs.Types.{ValueType, Simple, Record, Table as TableType, Set, Vector}
use Rattle.zk_typed.specs.World.{Queued}
use Rattle.zk_sound.specs.Holding.{Kinds, NamesObject, HasType, HaveTypes, ObjectFits, key_types}
use Rattle.zk_sound.specs.Worlds.{Names, type_of, global_names, event_params, QueuedFits, WorldFits}
use Rattle.zk_sound.specs.Rows.{RowFits}
use Rattle.zk_sound.specs.Having.{HasKeys, IsTable, AddedFits, InitialFits, ExpiryTakes, GlobalFits, HandlerFits, FunctionFits, ProgramFits}
use Rattle.zk_sound.specs.Keeping.{Stopped, Ends, Keeps, loose, Any, Of, FlowOf}
use Rattle.zk_sound.proofs.Growth.{grows_no, grows_on, all_append, all_get, has_later, have_later, object_later}
use Rattle.zk_sound.proofs.Core.{keeps_bind, keeps_pure}
use Rattle.zk_sound.proofs.Texts.{plain_span, plain_word}
use Rattle.zk_sound.proofs.Places.{first_names, fits_some, name_read, keeps_set_global, zip_get, zip_set}
use Rattle.zk_sound.proofs.Tables.{EntryOf, renew_fits, expire_fits, numbered_fits}
use Rattle.zk_sound.proofs.Operators.{of_one, made}
use Rattle.zk_sound.proofs.Objects.{got_map}
use Rattle.zk_sound.proofs.Containers.{Fit, mix, Filled, filled_object}
use Rattle.zk_sound.proofs.Primitives.{keeps_updated}
use Rattle.zk_sound.proofs.Meaning.{CallsKeep, calls_keep, value_keeps, does_keeps, function_keeps, given_back, all_in_order}

-- What a body leaves -----------------------------------------------------------------------------------------------

-- the row that tells a fault
row_told : {program : Program} {kinds : Kinds} {world : World} (message : List ℕ) (place : Place) → WorldFits program kinds world → WorldFits program kinds (reported program message place world)
row_told {world = world} message place fits = record {
  objects = fits.objects;
  defaults = fits.defaults;
  globals = fits.globals;
  streams = fits.streams;
  queue = fits.queue;
  scheduled = fits.scheduled;
  rows = all_append RowFits world.rows _ fits.rows ((plain_span world.time.0, (plain_word (codes "Reporter::ERROR") refl, (tt, (tt, tt)))), tt);
}

pub left_stopped : {A : Type 0} (program : Program) (names : Names) (Q : Kinds → A → Type 0) (kinds : Kinds) (ran : Ran A) → Ends (loose program names) Q kinds ran → Stopped program kinds (world_after program ran)
left_stopped program names Q kinds (Gives a state) h = record { later = h.later; grows = h.grows; fits = h.fits.world }
left_stopped program names Q kinds (Faults why place world units) (may, h) = record { later = h.later; grows = h.grows; fits = row_told _ place h.fits }
left_stopped program names Q kinds (Spent place world) h = record { later = h.later; grows = h.grows; fits = row_told _ place h.fits }

all_keep : (program : Program) → ProgramFits program → CallsKeep program (all_calls program)
all_keep program fits = calls_keep program fits depth_max

-- Handlers ---------------------------------------------------------------------------------------------------------

pub handler_keeps : (program : Program) (kinds : Kinds) (budget : ℕ) (world : World) (one : Handler) (params : List ValueType) (args : List Value) → ProgramFits program → event_params program one.event ≡ Some params
    → HandlerFits program one → WorldFits program kinds world → HaveTypes kinds params args → Stopped program kinds (world_after program (handler_body program one args world budget))
handler_keeps program kinds budget world one params args fits known (types, is, body) holds h =
    let same : params ≡ types = cc in
    let typed : HaveTypes kinds types args = rw same at h in
    let names : Names = map Some types ++ body.locals in
    left_stopped program names (FlowOf None) kinds (handler_body program one args world budget)
    ((does_keeps program fits (all_calls program) (all_keep program fits) names None kinds one.body body.fits).by _ (record { world = holds; locals = first_names kinds types body.locals args _ typed }))

module _ (program : Program) (fits : ProgramFits program) (budget : ℕ) (what : Queued) (params : List ValueType) (known : event_params program what.event ≡ Some params) where
  -- a handler of the event
  abbrev OfEvent : Handler → Type 0
  OfEvent one = HandlerFits program one × (one.event ≡ what.event)

  of_event : (handlers : List Handler) → AllByRecursion (HandlerFits program) handlers → AllByRecursion OfEvent (filter (λ one. one.event.0 == what.event.0) handlers)
  of_event [] all = tt
  of_event (one ∷ handlers) (first, others) = by (one.event.0 == what.event.0) refl (of_event handlers others)
    where
      by : (same : Bool) → (one.event.0 == what.event.0) ≡ same → AllByRecursion OfEvent (filter (λ one. one.event.0 == what.event.0) handlers)
          → AllByRecursion OfEvent (cond same (one ∷ filter (λ one. one.event.0 == what.event.0) handlers) (filter (λ one. one.event.0 == what.event.0) handlers))
      by true e rest = ((first, ap (λ (n : ℕ). let event : EventNo = record { 0 = n } in event) (eqb-true one.event.0 what.event.0 e)), rest)
      by false e rest = rest

  all_keep_types : (kinds : Kinds) (world : World) (handlers : List Handler) → AllByRecursion OfEvent handlers → WorldFits program kinds world → HaveTypes kinds params what.args
      → Stopped program kinds (fold (λ before one. world_after program (handler_body program one what.args before budget)) world handlers)
  all_keep_types kinds world [] all holds h = record { later = kinds; grows = grows_no kinds; fits = holds }
  all_keep_types kinds world (one ∷ handlers) (first, others) holds h =
      let after = handler_keeps program kinds budget world one params what.args fits (ap (event_params program) first.1 ∙ known) first.0 holds h in
      let last = all_keep_types after.later (world_after program (handler_body program one what.args world budget)) handlers others after.fits (have_later after.grows params what.args h) in
      record { later = last.later; grows = grows_on after.grows last.grows; fits = last.fits }

no_handler : (program : Program) (event : EventNo) → event_params program event ≡ None → (handlers : List Handler) → AllByRecursion (HandlerFits program) handlers → filter (λ one. one.event.0 == event.0) handlers ≡ []
no_handler program event none [] all = refl
no_handler program event none (one ∷ handlers) (first, others) = by (one.event.0 == event.0) refl (no_handler program event none handlers others)
  where
    by : (same : Bool) → (one.event.0 == event.0) ≡ same → filter (λ one. one.event.0 == event.0) handlers ≡ []
        → cond same (one ∷ filter (λ one. one.event.0 == event.0) handlers) (filter (λ one. one.event.0 == event.0) handlers) ≡ []
    by true e rest =
        let same : one.event ≡ event = ap (λ (n : ℕ). let event : EventNo = record { 0 = n } in event) (eqb-true one.event.0 event.0 e) in
        let known : event_params program event ≡ Some first.0 = ap (event_params program) (sym same) ∙ first.1 in absurd (apart (sym none ∙ known))
      where
        apart : {A : Type 0} {a : A} → None ≡ Some a → ⊥
        apart e = cc
    by false e rest = rest

pub dispatch_keeps : (program : Program) (kinds : Kinds) (budget : ℕ) (world : World) (what : Queued) → ProgramFits program → WorldFits program kinds world → QueuedFits program kinds what → Stopped program kinds (dispatch program budget world what)
dispatch_keeps program kinds budget world what fits holds queued = by (event_params program what.event) refl
  where
    by : (params : Option (List ValueType)) → event_params program what.event ≡ params → Stopped program kinds (dispatch program budget world what)
    by None none =
        let empty : filter (λ one. one.event.0 == what.event.0) program.handlers ≡ [] = no_handler program what.event none program.handlers fits.handlers in
        subst (λ handlers. Stopped program kinds (fold (λ before one. world_after program (handler_body program one what.args before budget)) world (in_order (λ one. one.priority) handlers))) (sym empty)
        (record { later = kinds; grows = grows_no kinds; fits = holds })
    by (Some params) known = all_keep_types program fits budget what params known kinds world (handlers_of program what.event)
        (all_in_order (OfEvent program fits budget what params known) (λ one. one.priority) _ (of_event program fits budget what params known program.handlers fits.handlers)) holds (queued.args params known)

-- Initial values ---------------------------------------------------------------------------------------------------

module _ (program : Program) (fits : ProgramFits program) where
  added_keeps : (kinds : Kinds) (place : Place) (of : ValueType) (added : List Expr) (given : Value) → AllByRecursion (AddedFits program of) added → HasType kinds of given → Keeps (loose program []) (Of of) kinds (with_added program place added given)
  added_keeps kinds place of [] given all h = keeps_pure given h
  added_keeps kinds place of (one ∷ added) given ((adds, update, have), others) h = keeps_bind (value_keeps program fits (all_calls program) (all_keep program fits) [] kinds place one adds have) (λ later grows more is.
      keeps_bind (keeps_updated place Plus of adds given more update (has_later grows of given h) is) (λ last on sum fit. added_keeps last place of added sum others fit))

  value_initial : (kinds : Kinds) (number : ℕ) (one : Global) (initial : Option Expr) → type_of (global_names program) number ≡ Some one.global_type → InitialFits program one.global_type initial → AllByRecursion (AddedFits program one.global_type) one.added
      → Keeps (loose program []) Any kinds (initial_value program number one initial)
  value_initial kinds number one None typed have all = keeps_pure tt tt
  value_initial kinds number one (Some initial) typed have all = keeps_bind (value_keeps program fits (all_calls program) (all_keep program fits) [] kinds one.place initial one.global_type have) (λ later grows first is.
      keeps_bind (added_keeps later one.place one.global_type one.added first all is) (λ last on whole fit.
      keeps_set_global number (Some whole) (fits_some last one.global_type (type_of (global_names program) number) whole typed fit)))

global_at : (program : Program) (number : ℕ) (one : Global) → slice_get program.globals number ≡ Some one → type_of (global_names program) number ≡ Some one.global_type
global_at program number one is = by (slice_get (global_names program) number) (got_map (λ one. Some one.global_type) program.globals number ∙ ap (Rattle.std.specs.Option.option_map (λ one. Some one.global_type)) is)
  where
    by : (found : Option (Option ValueType)) → slice_get (global_names program) number ≡ Some (Some one.global_type) → type_of (global_names program) number ≡ Some one.global_type
    by found e = rw e refl

pub initial_keeps : (program : Program) (kinds : Kinds) (budget number : ℕ) (world : World) (one : Global) → ProgramFits program → slice_get program.globals number ≡ Some one → WorldFits program kinds world
    → Stopped program kinds (world_after program (initial_body program number one world budget))
initial_keeps program kinds budget number world one fits is holds =
    let fit : GlobalFits program one = all_get (GlobalFits program) program.globals number one is fits.globals in
    left_stopped program [] Any kinds (initial_body program number one world budget)
    ((value_initial program fits kinds number one one.initial (global_at program number one is) fit.initial fit.added).by _ (record { world = holds; locals = tt }))

-- Entries that expire ----------------------------------------------------------------------------------------------

module _ (program : Program) (fits : ProgramFits program) where
  interval_keeps : {kinds : Kinds} (place : Place) (one : Value) → HasType kinds type.interval one → Keeps (loose program []) Any kinds (interval_of place one)
  interval_keeps {kinds = kinds} place one h = of_one value.Interval one (λ x. Keeps (loose program []) Any kinds (interval_of place x)) (made simple.Interval one h) (λ span. keeps_pure span tt)

  wait_keeps : (kinds : Kinds) (place : Place) (of : ValueType) (args : List Value) (function : Option ℕ) → ExpiryTakes program of function
      → ((keys : _) → HasKeys of keys → HaveTypes kinds (of ∷ key_types keys) args) → Keeps (loose program []) Any kinds (wait_for program place args function)
  wait_keeps kinds place of args None takes h = keeps_pure _ tt
  wait_keeps kinds place of args (Some function) (one, keys, known, keyed, takes, gives) h = subst
      (λ found. Keeps (loose program []) Any kinds (function_body program (all_calls program) args place found >>= (λ given. or_fault Unset place given >>= interval_of place))) (sym known) (keeps_bind
      (function_keeps program fits (all_calls program) (all_keep program fits) [] kinds one (of ∷ key_types keys) args place (all_get (FunctionFits program) program.functions function one known fits.functions) takes (h keys keyed))
      (λ later grows given back. keeps_bind (given_back place type.interval one.«result» given refl gives back) (λ last on v is. interval_keeps place v is)))

table_kept : (program : Program) (kinds : Kinds) (of : ValueType) (given : Value) (changed : Table → Table) (world : World) → IsTable of → NamesObject kinds of given → ((table : Table) → Filled of kinds table → Filled of kinds (changed table))
    → WorldFits program kinds world → WorldFits program kinds (with_table changed given world)
table_kept program kinds of (value.Object number) changed world is named keeps holds = by (slice_get world.store number.0) refl (zip_get (ObjectFits program kinds) kinds world.store number.0 of named holds.objects)
  where
    filled : (of : ValueType) (table : Table) → IsTable of → ObjectFits program kinds of (object.Table table) → Filled of kinds table
    filled (TableType keys item) table is fits = fits
    filled (Set keys) table is fits = fits
    filled of table is fits = absurd is

    put : (table : Table) → ObjectFits program kinds of (object.Table table) → WorldFits program kinds (with_store (slice_set world.store number.0 (object.Table (changed table))) world)
    put table fits = record {
      objects = zip_set (ObjectFits program kinds) kinds world.store number.0 of (object.Table (changed table)) named (filled_object program kinds of (changed table) is (keeps table (filled of table is fits))) holds.objects;
      defaults = holds.defaults;
      globals = holds.globals;
      streams = holds.streams;
      queue = holds.queue;
      scheduled = holds.scheduled;
      rows = holds.rows;
    }

    at : (there : Object) → slice_get world.store number.0 ≡ Some there → ObjectFits program kinds of there → WorldFits program kinds (with_table changed (value.Object number) world)
    at (object.Table table) e fits = rw e (put table fits)
    at (object.Record r fields) e fits = rw e holds
    at (object.Vector items) e fits = rw e holds

    by : (found : Option Object) → slice_get world.store number.0 ≡ found → ((there : Object) × (slice_get world.store number.0 ≡ Some there) × ObjectFits program kinds of there) → WorldFits program kinds (with_table changed (value.Object number) world)
    by found e (there, is, fits) = at there is fits
table_kept program kinds of given changed world is named keeps holds = absurd named

-- the table that a value of a type names
module _ (program : Program) (kinds : Kinds) (world : World) (holds : WorldFits program kinds world) (table : Table) where
  at_object : (of : ValueType) (one : Object) → ObjectFits program kinds of one → table_of (Some one) ≡ Some table → IsTable of × Filled of kinds table
  at_object (TableType keys item) (object.Table there) fits e = let same : there ≡ table = cc in (tt, rw same at fits)
  at_object (Set keys) (object.Table there) fits e = let same : there ≡ table = cc in (tt, rw same at fits)
  at_object (Record number) (object.Record r fields) fits e = absurd cc
  at_object (Vector item) (object.Vector items) fits e = absurd cc
  at_object of one fits e = absurd fits

  at_value : (of : ValueType) (given : Value) → NamesObject kinds of given → table_behind world (Some given) ≡ Some table → IsTable of × NamesObject kinds of given × Filled of kinds table
  at_value of (value.Object number) named e =
      let (one, there, fits) = zip_get (ObjectFits program kinds) kinds world.store number.0 of named holds.objects in
      let found = at_object of one fits (ap table_of (sym there) ∙ e) in
      (found.0, named, found.1)
  at_value of given named e = absurd named

  no_table : (of : _) (given : Value) → HasType kinds (Simple of) given → table_behind world (Some given) ≡ Some table → ⊥
  no_table of (value.Object number) h e = never of h
    where
      never : (of : _) → HasType kinds (Simple of) (value.Object number) → ⊥
      never simple.Bool h = cc
      never of h = cc
  no_table of given h e = cc

  behind_fits : (of : ValueType) (given : Value) → HasType kinds of given → table_behind world (Some given) ≡ Some table → IsTable of × NamesObject kinds of given × Filled of kinds table
  behind_fits (Simple of) given h e = absurd (no_table of given h e)
  behind_fits (Record number) given h e = at_value (Record number) given h e
  behind_fits (TableType keys item) given h e = at_value (TableType keys item) given h e
  behind_fits (Set keys) given h e = at_value (Set keys) given h e
  behind_fits (Vector item) given h e = at_value (Vector item) given h e

module _ (program : Program) (fits : ProgramFits program) (kinds : Kinds) (budget order : ℕ) (world : World) (one : Global) (fit : GlobalFits program one) (holds : WorldFits program kinds world) where
  -- the arguments of an expiry function are the table and the values of the key
  keyed : (of : ValueType) (given : Value) (entry : Entry) → IsTable of → NamesObject kinds of given → EntryOf (Fit kinds of) (mix kinds of) entry → (keys : List SimpleType) → HasKeys of keys → HaveTypes kinds (of ∷ key_types keys) (given ∷ entry.key)
  keyed (TableType others item) given entry tabled named key keys same = (named, rw same at key.0)
  keyed (Set others) given entry tabled named key keys same = (named, rw same at key.0)
  keyed of given entry tabled named key keys same = absurd tabled

  expired_keeps : (given : Value) (table : Table) (entry : Entry) → (IsTable one.global_type × NamesObject kinds one.global_type given × Filled one.global_type kinds table) → entry_numbered order table.entries ≡ Some entry
      → Stopped program kinds (expired program budget one given order world entry)
  expired_keeps given table entry (tabled, named, filled) there =
      let of : ValueType = one.global_type in
      let key : EntryOf (Fit kinds of) (mix kinds of) entry = numbered_fits (Fit kinds of) (mix kinds of) order table entry there filled in
      let kept = (wait_keeps program fits kinds one.place of (given ∷ entry.key) one.expire_func fit.expiry (keyed of given entry tabled named key)).by (record { world = world; locals = []; units = budget }) (record { world = holds; locals = tt }) in
      let left = left_stopped program [] Any kinds (expiry_body program one (given ∷ entry.key) world budget) kept in
      record {
        later = left.later;
        grows = left.grows;
        fits = table_kept program left.later of given (λ table. expire order (wait_of (expiry_body program one (given ∷ entry.key) world budget)) (renew world.time entry.key table)) (world_after program (expiry_body program one (given ∷ entry.key) world budget)) tabled (object_later left.grows of given named)
            (λ table all. expire_fits (Fit left.later of) (mix left.later of) order (wait_of (expiry_body program one (given ∷ entry.key) world budget)) (renew world.time entry.key table) (renew_fits (Fit left.later of) (mix left.later of) world.time entry.key table all)) left.fits;
      }

  stays : Stopped program kinds world
  stays = record { later = kinds; grows = grows_no kinds; fits = holds }

  expires_in : (given : Option Value) → ((v : Value) → given ≡ Some v → HasType kinds one.global_type v) → Stopped program kinds (expire_in program budget order world one given)
  expires_in None typed = stays
  expires_in (Some given) typed = by (table_behind world (Some given)) refl
    where
      at : (table : Table) → table_behind world (Some given) ≡ Some table → (found : Option Entry) → entry_numbered order table.entries ≡ found → Stopped program kinds (expire_in program budget order world one (Some given))
      at table e None there = rw e (rw there stays)
      at table e (Some entry) there = rw e (rw there (expired_keeps given table entry (behind_fits program kinds world holds table one.global_type given (typed given refl) e) there))

      by : (found : Option Table) → table_behind world (Some given) ≡ found → Stopped program kinds (expire_in program budget order world one (Some given))
      by None e = rw e stays
      by (Some table) e = at table e (entry_numbered order table.entries) refl

pub expiry_keeps : (program : Program) (kinds : Kinds) (budget number order : ℕ) (world : World) → ProgramFits program → WorldFits program kinds world → Stopped program kinds (expire_of program budget number order world (slice_get program.globals number))
expiry_keeps program kinds budget number order world fits holds = by (slice_get program.globals number) refl
  where
    by : (found : Option Global) → slice_get program.globals number ≡ found → Stopped program kinds (expire_of program budget number order world found)
    by None is = record { later = kinds; grows = grows_no kinds; fits = holds }
    by (Some one) is = expires_in program fits kinds budget order world one (all_get (GlobalFits program) program.globals number one is fits.globals) holds (named world.globals number)
        (λ v there. name_read kinds (global_names program) world.globals number one.global_type v (global_at program number one is) holds.globals there)
