-- Statements that the rules give typed forms have the types of their places.
use Rattle.std.proofs.Common.{◌≡◌, Bool, true, false, List, [], ◌∷◌, Option, Some, None, Ok, Err, refl, sym, ap, subst, ◌∙◌}
use Rattle.std.specs.Prelude.{if◌then◌else◌}
use Rattle.std.specs.List.{AllByRecursion}
use Rattle.zk_base.specs.declared.numbers.EventNo.{EventNo}
use Rattle.zk_tree.specs.declared.expr.Expr.{Expr, out-Expr}
use Rattle.zk_tree.specs.declared.expr.Expr.TheOpen.{Expr-F, Part-F}
use Rattle.zk_tree.specs.declared.expr.Expr.TheOpen as written
use Rattle.zk_tree.specs.declared.expr.Item.{Item}
use Rattle.zk_tree.specs.declared.expr.Link.{Link}
use Rattle.zk_tree.specs.declared.expr.Part.{Part}
use Rattle.zk_tree.specs.declared.name.Name.{Name}
use Rattle.zk_tree.specs.declared.operator.Assigning.{Assigning}
use Rattle.zk_tree.specs.declared.operator.Assigning.TheVariants as assigning
use Rattle.zk_tree.specs.declared.place.Place.{Place}
use Rattle.zk_typed.specs.declared.rule.Rule.TheVariants as rule
use Rattle.zk_typed.specs.declared.script.action.Action.TheVariants as action
use Rattle.zk_typed.specs.declared.script.action.Left.{Left}
use Rattle.zk_typed.specs.declared.script.action.Left.TheVariants as left
use Rattle.zk_typed.specs.declared.script.primitive.FieldNo.{FieldNo}
use Rattle.zk_typed.specs.declared.script.types.SimpleType.{SimpleType}
use Rattle.zk_typed.specs.declared.script.types.SimpleType.TheVariants as simple
use Rattle.zk_typed.specs.Checked.{Checked, broken, elsewhere, ◌>>=◌, both, each}
use Rattle.zk_typed.specs.Expressions.{Side, left_side, assignable, added_type, rest_of, expr_typed}
use Rattle.zk_typed.specs.Forms as form
use Rattle.zk_typed.specs.Making.{Called, Gives, Performs, arguments, argument, printed, keys_fit, post_typed, call_of, called_name, is_wire, wire_read}
use Rattle.zk_typed.specs.Names.{Declared, Meant, Event}
use Rattle.zk_typed.specs.Predefined as type
use Rattle.zk_typed.specs.Program.{Program}
use Rattle.zk_typed.specs.Resolving.{params_of}
use Rattle.zk_typed.specs.Statements as statements
use Rattle.zk_typed.specs.Statements.{Within, InFunction, InHook, InHandler, Context, Locals, env_of, Stated, stated, check_in, place_of, init_typed, empty_of, assigned, binary_of, added, assignment, indexed, keys_in, element_of, event_args, do_with, return_typed}
use Rattle.zk_typed.specs.Types.{ValueType, Simple, Record, Table, Set, Vector}
use Rattle.zk_typed.specs.Within.{depth_max}
use Rattle.zk_typed.specs.Typing.{Typed, Env, at, exprs, expr_place, Nothing, Wants, Unclear, found}
use Rattle.zk_sound.specs.Holding.{key_types}
use Rattle.zk_sound.specs.Worlds.{Names, event_params}
use Rattle.zk_sound.specs.Having.{IsSimple, HasKeys, HaveForms, SideTakes, UpdateTakes, StmtFits}
use Rattle.zk_sound.specs.Agreeing.{EnvAgrees, AllLogsFit, StmtLogsFit, WithinGives}
use Rattle.zk_sound.proofs.Checks.{Sound, sound_bind, sound_after, never_ok, sound_both, sound_each, sound_more}
use Rattle.zk_sound.proofs.Formed.{types_of, IsForm, Formed, ChecksWell, have_forms, at_type}
use Rattle.zk_sound.proofs.Constructed.{AreForms, given_arguments, keys_sound, wire_is, wire_form}
use Rattle.zk_sound.proofs.Called.{TextsWell, CalledForm, call_sound, post_sound, printed_sound, simples, found_is}
use Rattle.zk_sound.proofs.Judged.{SideForm, left_side_sound, text_is, expr_sound}

-- a typed statement fits its body, where what it says of logs fits
abbrev pub StmtForm : Program → Names → Option ValueType → form.Stmt → Type 0
StmtForm program names gives one = StmtLogsFit program one → StmtFits program names gives one

-- Assignments ------------------------------------------------------------------------------------------------------

-- what may be added to a value of a type is taken by the operator that adds it
pub update_takes : (by : Assigning) (of wanted : ValueType) → added_type by of ≡ Some wanted → UpdateTakes (binary_of by) of wanted
update_takes assigning.Add (Simple simple.Count) wanted is = (simple.Count, sym (one_of is), refl)
  where
    one_of : Some type.count ≡ Some wanted → type.count ≡ wanted
    one_of e = cc
update_takes assigning.Subtract (Simple simple.Count) wanted is = (simple.Count, sym (one_of is), refl)
  where
    one_of : Some type.count ≡ Some wanted → type.count ≡ wanted
    one_of e = cc
update_takes assigning.Set (Simple simple.Count) wanted is = (simple.Count, sym (one_of is), refl)
  where
    one_of : Some type.count ≡ Some wanted → type.count ≡ wanted
    one_of e = cc
update_takes assigning.Add (Simple simple.Int) wanted is = (simple.Int, sym (one_of is), refl)
  where
    one_of : Some type.int ≡ Some wanted → type.int ≡ wanted
    one_of e = cc
update_takes assigning.Subtract (Simple simple.Int) wanted is = (simple.Int, sym (one_of is), refl)
  where
    one_of : Some type.int ≡ Some wanted → type.int ≡ wanted
    one_of e = cc
update_takes assigning.Set (Simple simple.Int) wanted is = (simple.Int, sym (one_of is), refl)
  where
    one_of : Some type.int ≡ Some wanted → type.int ≡ wanted
    one_of e = cc
update_takes assigning.Add (Simple simple.Interval) wanted is = (simple.Interval, sym (one_of is), refl)
  where
    one_of : Some type.interval ≡ Some wanted → type.interval ≡ wanted
    one_of e = cc
update_takes assigning.Subtract (Simple simple.Interval) wanted is = (simple.Interval, sym (one_of is), refl)
  where
    one_of : Some type.interval ≡ Some wanted → type.interval ≡ wanted
    one_of e = cc
update_takes assigning.Set (Simple simple.Interval) wanted is = (simple.Interval, sym (one_of is), refl)
  where
    one_of : Some type.interval ≡ Some wanted → type.interval ≡ wanted
    one_of e = cc
update_takes assigning.Add (Simple simple.String) wanted is = (simple.String, sym (one_of is), refl)
  where
    one_of : Some type.string ≡ Some wanted → type.string ≡ wanted
    one_of e = cc
update_takes assigning.Add (Set keys) wanted is = sym (one_of is)
  where
    one_of : Some (Set keys) ≡ Some wanted → Set keys ≡ wanted
    one_of e = cc
update_takes assigning.Subtract (Set keys) wanted is = sym (one_of is)
  where
    one_of : Some (Set keys) ≡ Some wanted → Set keys ≡ wanted
    one_of e = cc
update_takes assigning.Set (Set keys) wanted is = sym (one_of is)
  where
    one_of : Some (Set keys) ≡ Some wanted → Set keys ≡ wanted
    one_of e = cc
update_takes assigning.Add (Vector item) wanted is = sym (one_of is)
  where
    one_of : Some item ≡ Some wanted → item ≡ wanted
    one_of e = cc
update_takes by of wanted is = absurd cc

module _ (program : Program) (names : Names) (gives : Option ValueType) where
  -- an assignment by its value and its left side
  pub plain_form : (place : Place) (side : Left) (operands : form.Exprs) (of : ValueType) (one : Typed) → (AllLogsFit program operands → (types : List ValueType) × HaveForms program names operands types × SideTakes program names side types of)
      → IsForm program names one → one.type ≡ of → StmtForm program names gives (form.Do place (action.Assign side) (form.AndExpr one.expr operands))
  plain_form place side operands of one h k is logs = let (types, have, takes) = h logs.1 in
      (of ∷ types, (at_type program names one of k is logs.0, have), (of, types, refl, takes))

  module _ (env : Env) (agree : EnvAgrees program names env) where
    assigned_form : (place : Place) (side : Side) (one : Typed) → SideForm program names env agree side → IsForm program names one → one.type ≡ side.type → StmtForm program names gives (assigned env place side one)
    assigned_form place side one h k is = by side.left side.operands (wire_read env one.expr) refl h
      where
        Sided : Left → form.Exprs → Type 0
        Sided l operands = AllLogsFit program operands → (types : List ValueType) × HaveForms program names operands types × SideTakes program names l types side.type

        moves : (field : FieldNo) (to : form.Expr) (read : form.Expr × FieldNo) → wire_read env one.expr ≡ Some read → (AllLogsFit program (form.AndExpr to form.NoExpr) → (types : List ValueType) × HaveForms program names (form.AndExpr to form.NoExpr) types × SideTakes program names (left.Field field) types side.type)
            → StmtForm program names gives (form.Move place to field read.0 read.1)
        moves field to read e h logs =
            let (types, have, takes) = h (logs.0, tt) in
            let target : HaveForms program names (form.AndExpr to form.NoExpr) (Record field.«record» ∷ []) = subst (λ ts. HaveForms program names (form.AndExpr to form.NoExpr) ts) takes.0 have in
            let source = wire_form program names env one read k (wire_is env one.expr read e) logs.1 in
            (side.type, takes.1, source.1 ∙ ap Some is, target.0, source.0)

        by : (l : Left) (operands : form.Exprs) (read : Option (form.Expr × FieldNo)) → wire_read env one.expr ≡ read → (AllLogsFit program operands → (types : List ValueType) × HaveForms program names operands types × SideTakes program names l types side.type)
            → StmtForm program names gives (assigned env place (record side { left = l; operands = operands }) one)
        by (left.Field field) (form.AndExpr to form.NoExpr) (Some read) e h = rw e (on (is_wire env field))
          where
            on : (wire : Bool) → StmtForm program names gives (if wire then form.Move place to field read.0 read.1 else form.Do place (action.Assign (left.Field field)) (form.AndExpr one.expr (form.AndExpr to form.NoExpr)))
            on true = moves field to read e h
            on false = plain_form place (left.Field field) (form.AndExpr to form.NoExpr) side.type one h k is
        by (left.Field field) (form.AndExpr to form.NoExpr) None e h = rw e (plain_form place (left.Field field) (form.AndExpr to form.NoExpr) side.type one h k is)
        by l operands read e h = plain_form place l operands side.type one h k is

-- Statements without parts -----------------------------------------------------------------------------------------

-- an expression that stands as a statement, by the call that it is
abbrev called_stmt : Place → Called → Checked form.Stmt
called_stmt place (Gives given) = Ok (form.Evaluate place given.expr)
called_stmt place (Performs function args) = Ok (form.Perform place function (exprs args))

module _ (program : Program) (names : Names) (gives : Option ValueType) (env : Env) (agree : EnvAgrees program names env) where
  well : ChecksWell program names (expr_typed env)
  well = expr_sound program names env agree

  texts : TextsWell (expr_typed env)
  texts = text_is depth_max env

  abbrev Fitting : form.Stmt → Type 0
  Fitting one = StmtForm program names gives one

  abbrev Sided : Side → Type 0
  Sided one = SideForm program names env agree one

  rest_sound : (right : Expr) (side : Checked Side) → Sound Sided side → Sound Sided (rest_of (expr_typed env) right side)
  rest_sound right (Ok side) h = h
  rest_sound right (Err rules) h = sound_after Sided (both {A = Side} (Err rules) (expr_typed env Unclear right)) elsewhere tt

  added_sound : (place left_place : Place) (by : Assigning) (side : Side) (right : Expr) → Sided side → (found : Option ValueType) → added_type by side.type ≡ found → Sound Fitting (added (expr_typed env) place left_place by side right found)
  added_sound place left_place by side right h None e = never_ok Fitting (expr_typed env Nothing right) rule.WrongType left_place
  added_sound place left_place by side right h (Some wanted) e = sound_bind (Formed program names (Wants wanted)) Fitting (expr_typed env (Wants wanted) right) _ (well (Wants wanted) right) (λ one k.
      sound_after Fitting (assignable place side) (Ok (form.Do place (action.Update side.left (binary_of by)) (form.AndExpr one.expr side.operands))) (λ logs. let (types, have, takes) = h logs.1 in
      (wanted ∷ types, (at_type program names one wanted k.0 k.1 logs.0, have), (side.type, wanted, types, refl, takes, update_takes by side.type wanted e))))

  pub assignment_sound : (place : Place) (l : Expr) (by : Assigning) (right : Expr) → Sound Fitting (assignment (expr_typed env) env place l by right)
  assignment_sound place l assigning.Set right = sound_bind Sided Fitting (rest_of (expr_typed env) right (left_side (expr_typed env) env l)) _ (rest_sound right (left_side (expr_typed env) env l) (left_side_sound program names (expr_typed env) well texts env agree l)) (λ side h.
      sound_bind (Formed program names (Wants side.type)) Fitting (expr_typed env (Wants side.type) right) _ (well (Wants side.type) right) (λ one k.
      sound_after Fitting (assignable place side) (Ok (assigned env place side one)) (assigned_form program names gives env agree place side one h k.0 k.1)))
  assignment_sound place l assigning.Add right = sound_bind Sided Fitting (rest_of (expr_typed env) right (left_side (expr_typed env) env l)) _ (rest_sound right (left_side (expr_typed env) env l) (left_side_sound program names (expr_typed env) well texts env agree l))
      (λ side h. added_sound place (expr_place env l) assigning.Add side right h (added_type assigning.Add side.type) refl)
  assignment_sound place l assigning.Subtract right = sound_bind Sided Fitting (rest_of (expr_typed env) right (left_side (expr_typed env) env l)) _ (rest_sound right (left_side (expr_typed env) env l) (left_side_sound program names (expr_typed env) well texts env agree l))
      (λ side h. added_sound place (expr_place env l) assigning.Subtract side right h (added_type assigning.Subtract side.type) refl)

  evaluated_sound : (place : Place) (one : Expr) → Sound Fitting (expr_typed env Nothing one >>= (λ given. Ok (form.Evaluate place given.expr)))
  evaluated_sound place one = sound_bind (Formed program names Nothing) Fitting (expr_typed env Nothing one) (λ given. Ok (form.Evaluate place given.expr)) (well Nothing one) (λ given h logs. (given.type, h.0 logs))

  called_sound : (place : Place) (one : Called) → CalledForm program names one → Sound Fitting (called_stmt place one)
  called_sound place (Gives given) h = λ logs. (given.type, h logs)
  called_sound place (Performs function args) (all, agrees) = λ logs. (agrees.function, types_of args, agrees.there, have_forms program names args all logs, agrees.takes)

  pub expr_stmt_sound : (one : Expr) → Sound Fitting (statements.expr_stmt (expr_typed env) env one)
  expr_stmt_sound one = by (out-Expr one) refl
    where
      calls : (first : Expr) (parts : List Part) (found : Option (Name × List Item × List Part)) → out-Expr one ≡ written.Post first parts → called_name first parts ≡ found → Sound Fitting (statements.expr_stmt (expr_typed env) env one)
      calls first parts (Some (name, items, [])) is e = rw (is, e) (sound_bind (CalledForm program names) Fitting (call_of (expr_typed env) env name items) (called_stmt (expr_place env one)) (call_sound program names (expr_typed env) well texts env agree name items) (λ given h. called_sound (expr_place env one) given h))
      calls first parts (Some (name, items, part ∷ more)) is e = rw (is, e) (evaluated_sound (expr_place env one) one)
      calls first parts None is e = rw (is, e) (evaluated_sound (expr_place env one) one)

      by : (f : Expr-F Expr Item Part Link) → out-Expr one ≡ f → Sound Fitting (statements.expr_stmt (expr_typed env) env one)
      by (written.Assign l operator right) is = rw is (assignment_sound (expr_place env one) l operator right)
      by (written.Post first parts) is = calls first parts (called_name first parts) is refl
      by f is = rw is (evaluated_sound (expr_place env one) one)

  pub print_sound : (place : Place) (values : List Expr) → Sound Fitting (each (printed (expr_typed env) env) values >>= (λ ones. do_with place action.Print (exprs ones)))
  print_sound place values = sound_bind (AllByRecursion (λ one. IsForm program names one × IsSimple one.type)) Fitting (each (printed (expr_typed env) env) values) (λ ones. do_with place action.Print (exprs ones))
      (sound_each (λ one. IsForm program names one × IsSimple one.type) (printed (expr_typed env) env) (printed_sound program names (expr_typed env) well texts env agree) values)
      (λ ones all. let rest = simples program names (expr_typed env) well texts env agree ones all in (λ logs. (types_of ones, have_forms program names ones rest.0 logs, rest.1)))

-- Elements and events ----------------------------------------------------------------------------------------------

-- keys behind a container
abbrev keys_next : Env → Place → List Expr → Typed × List Typed → Option (List SimpleType) → Checked form.Exprs
keys_next env place written parts None = broken rule.WrongType place
keys_next env place written parts (Some types) = keys_fit env place types written parts.1 >>= (λ fitting. Ok (form.AndExpr parts.0.expr (exprs fitting)))

keys_of : (tables : Bool) (of : ValueType) (keys : List SimpleType) → keys_in tables of ≡ Some keys → HasKeys of keys × (tables ≡ false → of ≡ Set keys)
keys_of true (Set others) keys e = let same : others ≡ keys = cc in (same, λ f. ap Set same)
keys_of false (Set others) keys e = let same : others ≡ keys = cc in (same, λ f. ap Set same)
keys_of true (Table others item) keys e = let same : others ≡ keys = cc in (same, λ f. absurd cc)
keys_of tables of keys e = absurd cc

module _ (program : Program) (names : Names) (gives : Option ValueType) (env : Env) (agree : EnvAgrees program names env) where
  -- a container and its keys
  abbrev ElementForm : Bool → form.Exprs → Type 0
  ElementForm tables operands = AllLogsFit program operands → (over : ValueType) × (keys : List SimpleType) × HasKeys over keys × HaveForms program names operands (over ∷ key_types keys) × (tables ≡ false → over ≡ Set keys)

  any_sound : (one : Expr) → Sound (IsForm program names) (expr_typed env Nothing one)
  any_sound one = sound_more (Formed program names Nothing) (IsForm program names) (expr_typed env Nothing one) (λ made h. h.0) (well program names gives env agree Nothing one)

  keyed : (place : Place) (tables : Bool) (written : List Expr) (parts : Typed × List Typed) → IsForm program names parts.0 → AllByRecursion (IsForm program names) parts.1 → (found : Option (List SimpleType)) → keys_in tables parts.0.type ≡ found
      → Sound (ElementForm tables) (keys_next env place written parts found)
  keyed place tables written parts h all None e = tt
  keyed place tables written parts h all (Some types) e = sound_bind (AreForms program names (key_types types)) (ElementForm tables) (keys_fit env place types written parts.1) (λ fitting. Ok (form.AndExpr parts.0.expr (exprs fitting)))
      (keys_sound program names env place types written parts.1 all) (λ fitting forms logs. let k = keys_of tables parts.0.type types e in
      (parts.0.type, types, k.0, (h logs.0, rw forms.1 at (have_forms program names fitting forms.0 logs.1)), k.1))

  pub element_sound : (place : Place) (tables : Bool) (one : Expr) → Sound (ElementForm tables) (element_of (expr_typed env) env place tables one)
  element_sound place tables one = by (out-Expr one) refl
    where
      index : (first : Expr) (parts : List Part) (found : Option (List Part × List Expr)) → out-Expr one ≡ written.Post first parts → indexed parts ≡ found → Sound (ElementForm tables) (element_of (expr_typed env) env place tables one)
      index first parts None is e = rw (is, e) (never_ok (ElementForm tables) (expr_typed env Nothing one) rule.WrongType place)
      index first parts (Some found) is e = rw (is, e) (sound_bind (λ pair. IsForm program names pair.0 × AllByRecursion (IsForm program names) pair.1) (ElementForm tables)
          (both (post_typed (expr_typed env) env (expr_place env first) first found.0 (called_name first found.0)) (each (expr_typed env Nothing) found.1)) (λ parts. keys_next env place found.1 parts (keys_in tables parts.0.type))
          (sound_both (IsForm program names) (AllByRecursion (IsForm program names)) (post_typed (expr_typed env) env (expr_place env first) first found.0 (called_name first found.0)) (each (expr_typed env Nothing) found.1)
          (post_sound program names (expr_typed env) (well program names gives env agree) (texts program names gives env agree) env agree (expr_place env first) first found.0 (called_name first found.0))
          (sound_each (IsForm program names) (expr_typed env Nothing) any_sound found.1))
          (λ parts h. keyed place tables found.1 parts h.0 h.1 (keys_in tables parts.0.type) refl))

      by : (f : Expr-F Expr Item Part Link) → out-Expr one ≡ f → Sound (ElementForm tables) (element_of (expr_typed env) env place tables one)
      by (written.Post first parts) is = index first parts (indexed parts) is refl
      by f is = rw is (never_ok (ElementForm tables) (expr_typed env Nothing one) rule.WrongType place)

  pub add_sound : (place : Place) (one : Expr) → Sound (StmtForm program names gives) (element_of (expr_typed env) env place false one >>= do_with place action.Add)
  add_sound place one = sound_bind (ElementForm false) (StmtForm program names gives) (element_of (expr_typed env) env place false one) (do_with place action.Add) (element_sound place false one)
      (λ operands h logs. let (over, keys, held, have, set) = h logs in (over ∷ key_types keys, have, (keys, ap (λ x. x ∷ key_types keys) (set refl))))

  pub delete_sound : (place : Place) (one : Expr) → Sound (StmtForm program names gives) (element_of (expr_typed env) env place true one >>= do_with place action.Delete)
  delete_sound place one = sound_bind (ElementForm true) (StmtForm program names gives) (element_of (expr_typed env) env place true one) (do_with place action.Delete) (element_sound place true one)
      (λ operands h logs. let (over, keys, held, have, set) = h logs in (over ∷ key_types keys, have, (keys, over, refl, held)))

  -- an event with arguments of the types of its parameters
  abbrev pub EventForm : EventNo × List Typed → Type 0
  EventForm parts = (types : List ValueType) × (event_params program parts.0 ≡ Some types) × AreForms program names types parts.1

  pub event_sound : (place : Place) (name : Name) (items : List Item) → Sound EventForm (event_args (expr_typed env) env place name items (found env name))
  event_sound place name items = by (found env name) refl
    where
      of_meant : (meant : Meant) (one : Declared) → found env name ≡ Some (record one { meant = meant }) → Sound EventForm (event_args (expr_typed env) env place name items (Some (record one { meant = meant })))
      of_meant (Event signature) one is = sound_bind (λ args. (types : List ValueType) × (params_of env.scripts signature ≡ Ok types) × AreForms program names types args) EventForm
          (arguments (expr_typed env) env place (params_of env.scripts signature) items) _ (given_arguments program names (expr_typed env) (well program names gives env agree) env place (params_of env.scripts signature) items) (λ args h. let (types, known, forms) = h in
          (types, agree.scripts.names.events env.home.module_name name.text (record one { meant = Event signature }) signature types (found_is env name (record one { meant = Event signature }) is (λ variable. variable)) refl known, forms))
      of_meant meant one is = sound_after EventForm (both (broken {A = Unit {0}} rule.WrongType (at env name.place)) (each (argument (expr_typed env) env Unclear) items)) elsewhere tt

      by : (one : Option Declared) → found env name ≡ one → Sound EventForm (event_args (expr_typed env) env place name items one)
      by None is = sound_after EventForm (both (broken {A = Unit {0}} rule.Unknown (at env name.place)) (each (argument (expr_typed env) env Unclear) items)) elsewhere tt
      by (Some one) is = of_meant one.meant one is

  -- Returns ----------------------------------------------------------------------------------------------------------

  pub return_sound : (context : Context) (within : Within) (place : Place) (one : Option Expr) → WithinGives within gives → Sound (StmtForm program names gives) (return_typed (record context { within = within }) (expr_typed env) place one)
  return_sound context (InFunction (Some (Wants of))) place (Some one) is = sound_bind (Formed program names (Wants of)) (StmtForm program names gives) (expr_typed env (Wants of) one) (λ given. Ok (form.Return place (Some given.expr))) (well program names gives env agree (Wants of) one)
      (λ given h logs. (of, is, at_type program names given of h.0 h.1 logs))
  return_sound context (InFunction (Some (Wants of))) place None is = tt
  return_sound context (InFunction (Some Nothing)) place one is = absurd is
  return_sound context (InFunction (Some Unclear)) place one is = absurd is
  return_sound context (InFunction None) place (Some one) is = never_ok (StmtForm program names gives) (expr_typed env Nothing one) rule.Return place
  return_sound context InHook place (Some one) is = never_ok (StmtForm program names gives) (expr_typed env Nothing one) rule.Return place
  return_sound context InHandler place (Some one) is = never_ok (StmtForm program names gives) (expr_typed env Nothing one) rule.Return place
  return_sound context within place None is = λ logs. tt
