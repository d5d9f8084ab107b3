-- Statements that the rules give typed forms spare the globals that no rule lets be assigned, and so do whole bodies.
use Rattle.std.proofs.Common.{◌≡◌, ℕ, zero, suc, Bool, true, false, List, [], ◌∷◌, Option, Some, None, Ok, Err, refl}
use Rattle.std.specs.Prelude.{if◌then◌else◌}
use Rattle.zk_agenda.specs.Sparing.{Numbers, SparesExpr, SpareExprs, SparesStmt, SpareStmts}
use Rattle.zk_base.specs.declared.numbers.EventNo.{EventNo}
use Rattle.zk_tree.specs.declared.expr.Expr.{Expr, out-Expr}
use Rattle.zk_tree.specs.declared.expr.Expr.TheOpen.{Expr-F, Part-F}
use Rattle.zk_tree.specs.declared.expr.Expr.TheOpen as written
use Rattle.zk_tree.specs.declared.expr.Item.{Item}
use Rattle.zk_tree.specs.declared.expr.Link.{Link}
use Rattle.zk_tree.specs.declared.expr.Part.{Part}
use Rattle.zk_tree.specs.declared.name.Name.{Name}
use Rattle.zk_tree.specs.declared.operator.Assigning.{Assigning}
use Rattle.zk_tree.specs.declared.operator.Assigning.TheVariants as assigning
use Rattle.zk_tree.specs.declared.place.Place.{Place}
use Rattle.zk_tree.specs.declared.stmt.Block.{Block, out-Block}
use Rattle.zk_tree.specs.declared.stmt.Init.{Init}
use Rattle.zk_tree.specs.declared.stmt.Init.TheVariants as init
use Rattle.zk_tree.specs.declared.stmt.Keys.{Keys}
use Rattle.zk_tree.specs.declared.stmt.Stmt.{Stmt, out-Stmt}
use Rattle.zk_tree.specs.declared.stmt.Stmt.TheOpen.{Stmt-F}
use Rattle.zk_tree.specs.declared.stmt.Stmt.TheOpen as stmt
use Rattle.zk_tree.specs.declared.types.Type.{«Type»}
use Rattle.zk_typed.specs.declared.rule.Rule.TheVariants as rule
use Rattle.zk_typed.specs.declared.script.action.Action.{Action}
use Rattle.zk_typed.specs.declared.script.action.Action.TheVariants as action
use Rattle.zk_typed.specs.declared.script.action.Left.{Left}
use Rattle.zk_typed.specs.declared.script.action.Left.TheVariants as left
use Rattle.zk_typed.specs.declared.script.primitive.FieldNo.{FieldNo}
use Rattle.zk_typed.specs.declared.script.stmt.Names.{Names as LoopNames}
use Rattle.zk_typed.specs.declared.script.types.SimpleType.{SimpleType}
use Rattle.zk_typed.specs.Checked.{Checked, broken, elsewhere, ◌>>=◌, ◌>>◌, both, each}
use Rattle.zk_typed.specs.Expressions.{Side, left_side, added_type, rest_of, expr_typed}
use Rattle.zk_typed.specs.Forms as form
use Rattle.zk_typed.specs.Making.{Called, Gives, Performs, arguments, argument, printed, keys_fit, post_typed, call_of, called_name, is_wire, wire_read}
use Rattle.zk_typed.specs.Names.{Declared, Meant, Event}
use Rattle.zk_typed.specs.Predefined as type
use Rattle.zk_typed.specs.Resolving.{params_of}
use Rattle.zk_typed.specs.Statements as statements
use Rattle.zk_typed.specs.Statements.{Within, InFunction, InHook, InHandler, Context, Locals, env_of, Stated, Judge, looping, breaks, check_in, place_of, init_typed, empty_of, assigned, binary_of, added, assignment, indexed, keys_in, element_of, event_args, do_with, return_typed, local_begin, local_value, local_type, local_whole, local_stated, for_over, for_names, wanted_names, types_or_unknown, as_names, is_vector, stmts_typed, block_typed, if_typed, while_typed, for_typed, stmt_to, body_typed}
use Rattle.zk_typed.specs.Types.{ValueType, Simple, Record, Table, Set, Vector}
use Rattle.zk_typed.specs.Typing.{Typed, Env, at, exprs, expr_place, Wanted, Nothing, Wants, Unclear, found}
use Rattle.zk_typed.specs.Within.{depth_max}
use Rattle.zk_sound.proofs.Checks.{Sound, sound_bind, sound_after, never_ok, sound_require, sound_both, sound_each, sound_any}
use Rattle.zk_sound.proofs.Constructed.{wire_is}
use Rattle.zk_sound.proofs.SparedCalls.{Frees, CalledSpares, SideSpares, left_side_spares, assignable_spares, printed_spares, call_spares, post_spares, expr_spares}
use Rattle.zk_sound.proofs.SparedForms.{Spare, AllSpare, SparesWell, exprs_spare, arguments_spare, keys_spare, braces_spare}

-- an expression that stands as a statement, by the call that it is
abbrev called_stmt : Place → Called → Checked form.Stmt
called_stmt place (Gives given) = Ok (form.Evaluate place given.expr)
called_stmt place (Performs function args) = Ok (form.Perform place function (exprs args))

-- keys behind a container
abbrev keys_next : Env → Place → List Expr → Typed × List Typed → Option (List SimpleType) → Checked form.Exprs
keys_next env place written parts None = broken rule.WrongType place
keys_next env place written parts (Some types) = keys_fit env place types written parts.1 >>= (λ fitting. Ok (form.AndExpr parts.0.expr (exprs fitting)))

module _ (spared : Numbers) (env : Env) (frees : Frees spared env.scripts) where
  abbrev Fitting : form.Stmt → Type 0
  Fitting one = SparesStmt spared one

  well : SparesWell spared (expr_typed env)
  well = expr_spares spared env frees

  abbrev Sided : Side → Type 0
  Sided one = SideSpares spared (expr_typed env) well env frees one

  -- Initial values ---------------------------------------------------------------------------------------------------

  pub init_spares : (wanted : Wanted) (one : Init) → Sound (Spare spared) (init_typed env wanted one)
  init_spares wanted (init.Value one) = well wanted one
  init_spares wanted (init.Braces place values comma) = braces_spare spared (expr_typed env) well env (at env place) values wanted

  -- Assignments ------------------------------------------------------------------------------------------------------

  assigned_spares : (place : Place) (side : Side) (one : Typed) → Sided side → side.expires ≡ false → Spare spared one → Fitting (assigned env place side one)
  assigned_spares place side one h free k = by side.left side.operands (wire_read env one.expr) refl (h.1 free) h.0
    where
      by : (l : Left) (operands : form.Exprs) (read : Option (form.Expr × FieldNo)) → wire_read env one.expr ≡ read → Rattle.zk_agenda.specs.Sparing.SparesSide spared l → SpareExprs spared operands
          → Fitting (assigned env place (record side { left = l; operands = operands }) one)
      by (left.Field field) (form.AndExpr to form.NoExpr) (Some read) e free all = rw e (on (is_wire env field))
        where
          on : (wire : Bool) → Fitting (if wire then form.Move place to field read.0 read.1 else form.Do place (action.Assign (left.Field field)) (form.AndExpr one.expr (form.AndExpr to form.NoExpr)))
          on true = let told = rw (wire_is env one.expr read e) at k in (all.0, told.1.0)
          on false = (tt, (k, all))
      by (left.Field field) (form.AndExpr to form.NoExpr) None e free all = rw e (tt, (k, all))
      by l operands read e free all = (free, (k, all))

  rest_spares : (right : Expr) (side : Checked Side) → Sound Sided side → Sound Sided (rest_of (expr_typed env) right side)
  rest_spares right (Ok side) h = h
  rest_spares right (Err rules) h = sound_after Sided (both {A = Side} (Err rules) (expr_typed env Unclear right)) elsewhere tt

  added_spares : (place left_place : Place) (by : Assigning) (side : Side) (right : Expr) → Sided side → (found : Option ValueType) → Sound Fitting (added (expr_typed env) place left_place by side right found)
  added_spares place left_place by side right h None = never_ok Fitting (expr_typed env Nothing right) rule.WrongType left_place
  added_spares place left_place by side right h (Some wanted) = sound_bind (Spare spared) Fitting (expr_typed env (Wants wanted) right) _ (well (Wants wanted) right) (λ one k.
      assignable_spares spared (expr_typed env) well env frees Fitting place side (Ok (form.Do place (action.Update side.left (binary_of by)) (form.AndExpr one.expr side.operands))) (λ free. (h.1 free, (k, h.0))))

  assignment_spares : (place : Place) (l : Expr) (by : Assigning) (right : Expr) → Sound Fitting (assignment (expr_typed env) env place l by right)
  assignment_spares place l by right = sided by
    where
      side_first : Sound Sided (rest_of (expr_typed env) right (left_side (expr_typed env) env l))
      side_first = rest_spares right (left_side (expr_typed env) env l) (left_side_spares spared (expr_typed env) well env frees l)

      sided : (by : Assigning) → Sound Fitting (assignment (expr_typed env) env place l by right)
      sided assigning.Set = sound_bind Sided Fitting (rest_of (expr_typed env) right (left_side (expr_typed env) env l)) _ side_first (λ side h.
          sound_bind (Spare spared) Fitting (expr_typed env (Wants side.type) right) _ (well (Wants side.type) right) (λ one k.
          assignable_spares spared (expr_typed env) well env frees Fitting place side (Ok (assigned env place side one)) (λ free. assigned_spares place side one h free k)))
      sided assigning.Add = sound_bind Sided Fitting (rest_of (expr_typed env) right (left_side (expr_typed env) env l)) _ side_first (λ side h. added_spares place (expr_place env l) assigning.Add side right h (added_type assigning.Add side.type))
      sided assigning.Subtract = sound_bind Sided Fitting (rest_of (expr_typed env) right (left_side (expr_typed env) env l)) _ side_first (λ side h. added_spares place (expr_place env l) assigning.Subtract side right h (added_type assigning.Subtract side.type))

  -- Statements without parts -----------------------------------------------------------------------------------------

  evaluated_spares : (place : Place) (one : Expr) → Sound Fitting (expr_typed env Nothing one >>= (λ given. Ok (form.Evaluate place given.expr)))
  evaluated_spares place one = sound_bind (Spare spared) Fitting (expr_typed env Nothing one) (λ given. Ok (form.Evaluate place given.expr)) (well Nothing one) (λ given h. h)

  called_spares : (place : Place) (one : Called) → CalledSpares spared one → Sound Fitting (called_stmt place one)
  called_spares place (Gives given) h = h
  called_spares place (Performs function args) h = exprs_spare spared args h

  expr_stmt_spares : (one : Expr) → Sound Fitting (statements.expr_stmt (expr_typed env) env one)
  expr_stmt_spares one = by (out-Expr one) refl
    where
      calls : (first : Expr) (parts : List Part) (found : Option (Name × List Item × List Part)) → out-Expr one ≡ written.Post first parts → called_name first parts ≡ found → Sound Fitting (statements.expr_stmt (expr_typed env) env one)
      calls first parts (Some (name, items, [])) is e = rw (is, e) (sound_bind (CalledSpares spared) Fitting (call_of (expr_typed env) env name items) (called_stmt (expr_place env one)) (call_spares spared (expr_typed env) well env name items)
          (λ given h. called_spares (expr_place env one) given h))
      calls first parts (Some (name, items, part ∷ more)) is e = rw (is, e) (evaluated_spares (expr_place env one) one)
      calls first parts None is e = rw (is, e) (evaluated_spares (expr_place env one) one)

      by : (f : Expr-F Expr Item Part Link) → out-Expr one ≡ f → Sound Fitting (statements.expr_stmt (expr_typed env) env one)
      by (written.Assign l operator right) is = rw is (assignment_spares (expr_place env one) l operator right)
      by (written.Post first parts) is = calls first parts (called_name first parts) is refl
      by f is = rw is (evaluated_spares (expr_place env one) one)

  print_spares : (place : Place) (values : List Expr) → Sound Fitting (each (printed (expr_typed env) env) values >>= (λ ones. do_with place action.Print (exprs ones)))
  print_spares place values = sound_bind (AllSpare spared) Fitting (each (printed (expr_typed env) env) values) (λ ones. do_with place action.Print (exprs ones))
      (sound_each (Spare spared) (printed (expr_typed env) env) (printed_spares spared (expr_typed env) well env) values) (λ ones all. (tt, exprs_spare spared ones all))

  -- Elements and events ----------------------------------------------------------------------------------------------

  abbrev Operands : form.Exprs → Type 0
  Operands operands = SpareExprs spared operands

  keyed : (place : Place) (written : List Expr) (parts : Typed × List Typed) → Spare spared parts.0 → AllSpare spared parts.1 → (found : Option (List SimpleType)) → Sound Operands (keys_next env place written parts found)
  keyed place written parts h all None = tt
  keyed place written parts h all (Some types) = sound_bind (AllSpare spared) Operands (keys_fit env place types written parts.1) (λ fitting. Ok (form.AndExpr parts.0.expr (exprs fitting))) (keys_spare spared env place types written parts.1 all)
      (λ fitting forms. (h, exprs_spare spared fitting forms))

  element_spares : (place : Place) (tables : Bool) (one : Expr) → Sound Operands (element_of (expr_typed env) env place tables one)
  element_spares place tables one = by (out-Expr one) refl
    where
      index : (first : Expr) (parts : List Part) (found : Option (List Part × List Expr)) → out-Expr one ≡ written.Post first parts → indexed parts ≡ found → Sound Operands (element_of (expr_typed env) env place tables one)
      index first parts None is e = rw (is, e) (never_ok Operands (expr_typed env Nothing one) rule.WrongType place)
      index first parts (Some found) is e = rw (is, e) (sound_bind (λ pair. Spare spared pair.0 × AllSpare spared pair.1) Operands
          (both (post_typed (expr_typed env) env (expr_place env first) first found.0 (called_name first found.0)) (each (expr_typed env Nothing) found.1)) (λ parts. keys_next env place found.1 parts (keys_in tables parts.0.type))
          (sound_both (Spare spared) (AllSpare spared) (post_typed (expr_typed env) env (expr_place env first) first found.0 (called_name first found.0)) (each (expr_typed env Nothing) found.1)
          (post_spares spared (expr_typed env) well env (expr_place env first) first found.0 (called_name first found.0)) (sound_each (Spare spared) (expr_typed env Nothing) (well Nothing) found.1))
          (λ parts h. keyed place found.1 parts h.0 h.1 (keys_in tables parts.0.type)))

      by : (f : Expr-F Expr Item Part Link) → out-Expr one ≡ f → Sound Operands (element_of (expr_typed env) env place tables one)
      by (written.Post first parts) is = index first parts (indexed parts) is refl
      by f is = rw is (never_ok Operands (expr_typed env Nothing one) rule.WrongType place)

  element_stmt : (place : Place) (tables : Bool) (one : Expr) (act : Action) → ((operands : form.Exprs) → Operands operands → Fitting (form.Do place act operands)) → Sound Fitting (element_of (expr_typed env) env place tables one >>= do_with place act)
  element_stmt place tables one act h = sound_bind Operands Fitting (element_of (expr_typed env) env place tables one) (do_with place act) (element_spares place tables one) (λ operands k. h operands k)

  abbrev Arguments : EventNo × List Typed → Type 0
  Arguments parts = AllSpare spared parts.1

  event_spares : (place : Place) (name : Name) (items : List Item) (one : Option Declared) → Sound Arguments (event_args (expr_typed env) env place name items one)
  event_spares place name items None = sound_after Arguments (both (broken {A = Unit {0}} rule.Unknown (at env name.place)) (each (argument (expr_typed env) env Unclear) items)) elsewhere tt
  event_spares place name items (Some one) = of_meant one.meant one
    where
      of_meant : (meant : Meant) (one : Declared) → Sound Arguments (event_args (expr_typed env) env place name items (Some (record one { meant = meant })))
      of_meant (Event signature) one = sound_bind (AllSpare spared) Arguments (arguments (expr_typed env) env place (params_of env.scripts signature) items) _ (arguments_spare spared (expr_typed env) well env place (params_of env.scripts signature) items) (λ args h. h)
      of_meant meant one = sound_after Arguments (both (broken {A = Unit {0}} rule.WrongType (at env name.place)) (each (argument (expr_typed env) env Unclear) items)) elsewhere tt

  -- Returns ----------------------------------------------------------------------------------------------------------

  return_spares : (context : Context) (within : Within) (place : Place) (one : Option Expr) → Sound Fitting (return_typed (record context { within = within }) (expr_typed env) place one)
  return_spares context (InFunction (Some wanted)) place (Some one) = sound_bind (Spare spared) Fitting (expr_typed env wanted one) (λ given. Ok (form.Return place (Some given.expr))) (well wanted one) (λ given h. h)
  return_spares context (InFunction (Some wanted)) place None = tt
  return_spares context (InFunction None) place (Some one) = never_ok Fitting (expr_typed env Nothing one) rule.Return place
  return_spares context InHook place (Some one) = never_ok Fitting (expr_typed env Nothing one) rule.Return place
  return_spares context InHandler place (Some one) = never_ok Fitting (expr_typed env Nothing one) rule.Return place
  return_spares context (InFunction None) place None = tt
  return_spares context InHook place None = tt
  return_spares context InHandler place None = tt

-- Locals -------------------------------------------------------------------------------------------------------------

module _ (spared : Numbers) where
  abbrev Good : form.Stmt → Type 0
  Good one = SparesStmt spared one

  abbrev Second : ValueType × form.Stmt → Type 0
  Second pair = SparesStmt spared pair.1

  begin_spares : (place : Place) (number : ℕ) (of : ValueType) → Good (local_begin place number of)
  begin_spares place number (Table keys item) = (tt, ((tt, tt), tt))
  begin_spares place number (Set keys) = (tt, ((tt, tt), tt))
  begin_spares place number (Vector item) = (tt, ((tt, tt), tt))
  begin_spares place number (Record record_no) = (tt, tt)
  begin_spares place number (Simple one) = (tt, tt)

  module _ (context : Context) (frees : Frees spared context.scripts) where
    value_spares : (locals : Locals) (place : Place) (tree : Option (Checked ValueType)) (init : Option Init) → Sound Second (local_value context locals place tree init)
    value_spares locals place None None = tt
    value_spares locals place (Some t) None = sound_bind (λ of. Unit {0}) Second t _ (sound_any t) (λ of any. begin_spares place _ of)
    value_spares locals place None (Some init) = sound_bind (λ pair. Unit {0} × Spare spared pair.1) Second (both (Ok tt) (init_typed (env_of context locals) Nothing init)) _
        (sound_both (λ u. Unit {0}) (Spare spared) (Ok tt) (init_typed (env_of context locals) Nothing init) tt (init_spares spared (env_of context locals) frees Nothing init)) (λ parts h. (tt, (h.1, tt)))
    value_spares locals place (Some t) (Some init) = sound_bind (λ pair. Unit {0} × Spare spared pair.1) Second (both (t >> Ok tt) (init_typed (env_of context locals) _ init)) _
        (sound_both (λ u. Unit {0}) (Spare spared) (t >> Ok tt) (init_typed (env_of context locals) _ init) (sound_any (t >> Ok tt)) (init_spares spared (env_of context locals) frees _ init)) (λ parts h. (tt, (h.1, tt)))

    whole_spares : (tree : Option «Type») (init : Option Init) (twice : Checked (Unit {0})) (made : Checked (ValueType × form.Stmt)) → Sound Second made → Sound Good (local_whole tree init twice made)
    whole_spares None None twice made h = sound_bind (λ pair. Unit {0} × Second pair.1) Good (both twice made) _ (sound_both (λ u. Unit {0}) Second twice made (sound_any twice) h) (λ parts k. k.1)
    whole_spares None (Some init) twice made h = sound_bind Second Good made _ h (λ one k. sound_after Good twice (Ok one.1) k)
    whole_spares (Some tree) None twice made h = sound_bind Second Good made _ h (λ one k. sound_after Good twice (Ok one.1) k)
    whole_spares (Some tree) (Some init) twice made h = sound_bind Second Good made _ h (λ one k. sound_after Good twice (Ok one.1) k)

    local_spares : (locals : Locals) (place : ℕ) (name : Name) (tree : Option «Type») (init : Option Init) → Sound Good (local_stated context locals place name tree init).made
    local_spares locals place name tree init = whole_spares tree init _ _ (value_spares locals (place_of context place) (local_type context locals tree) init)

  -- Statements with parts --------------------------------------------------------------------------------------------

  abbrev JudgesWell : Judge → Type 0
  JudgesWell judge = (context : Context) (locals : Locals) (one : Stmt) → Frees spared context.scripts → Sound Good (judge context locals one).made

  module _ (judge : Judge) (well_judged : JudgesWell judge) (context : Context) (frees : Frees spared context.scripts) where
    stmts_spare : (locals : Locals) (list : List Stmt) → Sound (SpareStmts spared) (stmts_typed judge context locals list).0
    stmts_spare locals [] = tt
    stmts_spare locals (one ∷ others) = sound_bind (λ pair. Good pair.0 × SpareStmts spared pair.1) (SpareStmts spared) (both (judge context locals one).made (stmts_typed judge context (judge context locals one).locals others).0) _
        (sound_both Good (SpareStmts spared) (judge context locals one).made (stmts_typed judge context (judge context locals one).locals others).0 (well_judged context locals one frees) (stmts_spare (judge context locals one).locals others)) (λ parts h. h)

    block_spares : (locals : Locals) (block : Block) → Sound Good (block_typed judge context locals block).made
    block_spares locals block = sound_bind (SpareStmts spared) Good (stmts_typed judge context locals (out-Block block).stmts).0 (λ stmts. Ok (form.Block stmts)) (stmts_spare locals (out-Block block).stmts) (λ stmts h. h)

    test_spares : (locals : Locals) (wanted : Wanted) (one : Expr) → Sound (Spare spared) (check_in context locals wanted one)
    test_spares locals wanted one = expr_spares spared (env_of context locals) frees wanted one

    abbrev Parts : Typed × (form.Stmt × form.Stmt) → Type 0
    Parts parts = Spare spared parts.0 × (Good parts.1.0 × Good parts.1.1)

    if_spares : (locals : Locals) (place : ℕ) (test : Expr) (one : Stmt) (other : Option Stmt) → Sound Good (if_typed judge context locals place test one other).made
    if_spares locals place test one None = sound_bind Parts Good (both (check_in context locals (Wants type.bool) test) (both (judge context locals one).made (Ok statements.no_stmt))) _
        (sound_both (Spare spared) (λ pair. Good pair.0 × Good pair.1) (check_in context locals (Wants type.bool) test) (both (judge context locals one).made (Ok statements.no_stmt)) (test_spares locals (Wants type.bool) test)
        (sound_both Good Good (judge context locals one).made (Ok statements.no_stmt) (well_judged context locals one frees) tt)) (λ parts h. (h.0, h.1.0, h.1.1))
    if_spares locals place test one (Some other) = sound_bind Parts Good (both (check_in context locals (Wants type.bool) test) (both (judge context locals one).made (judge context (judge context locals one).locals other).made)) _
        (sound_both (Spare spared) (λ pair. Good pair.0 × Good pair.1) (check_in context locals (Wants type.bool) test) (both (judge context locals one).made (judge context (judge context locals one).locals other).made) (test_spares locals (Wants type.bool) test)
        (sound_both Good Good (judge context locals one).made (judge context (judge context locals one).locals other).made (well_judged context locals one frees) (well_judged context (judge context locals one).locals other frees))) (λ parts h. (h.0, h.1.0, h.1.1))

    while_spares : (locals : Locals) (place : ℕ) (test : Expr) (body : Stmt) → Sound Good (while_typed judge context locals place test body).made
    while_spares locals place test body = sound_bind (λ pair. Spare spared pair.0 × Good pair.1) Good (both (check_in context locals (Wants type.bool) test) (judge (looping context) locals body).made) _
        (sound_both (Spare spared) Good (check_in context locals (Wants type.bool) test) (judge (looping context) locals body).made (test_spares locals (Wants type.bool) test) (well_judged (looping context) locals body frees)) (λ parts h. h)

    for_spares : (locals : Locals) (place : ℕ) (keys : Keys) (named : Option Name) (over : Expr) (body : Stmt) → Sound Good (for_typed judge context locals place keys named over body).made
    for_spares locals place keys named over body =
        let one = check_in context locals Nothing over in
        let types = one >>= for_over context place (expr_place (env_of context locals) over) keys named in
        let names = for_names context locals (wanted_names keys named) (types_or_unknown (wanted_names keys named) types) in
        let inner = judge (looping context) names.1 body in
        sound_bind (λ parts. (Spare spared parts.0.0 × Unit {0}) × (Unit {0} × Good parts.1.1)) Good (both (both one types) (both names.0 inner.made)) _
        (sound_both (λ pair. Spare spared pair.0 × Unit {0}) (λ pair. Unit {0} × Good pair.1) (both one types) (both names.0 inner.made)
        (sound_both (Spare spared) (λ of. Unit {0}) one types (test_spares locals Nothing over) (sound_any types))
        (sound_both (λ n. Unit {0}) Good names.0 inner.made (sound_any names.0) (well_judged (looping context) names.1 body frees)))
        (λ parts h. by (is_vector parts.0.0.type) parts.0.0 (as_names named parts.1.0) parts.1.1 h.0.0 h.1.1)
      where
        by : (vector : Bool) (one : Typed) (names : LoopNames) (made : form.Stmt) → Spare spared one → Good made
            → Good (if vector then form.ForIndexes (place_of context place) names one.expr made else form.ForKeys (place_of context place) names one.expr made)
        by true one names made h k = (h, k)
        by false one names made h k = (h, k)

  stmt_spares : (depth : ℕ) → JudgesWell (stmt_to depth)
  stmt_spares zero context locals one frees = tt
  stmt_spares (suc depth) context locals one frees = by (stmt_spares depth) (out-Stmt one) refl
    where
      by : JudgesWell (stmt_to depth) → (f : Stmt-F Stmt Block) → out-Stmt one ≡ f → Sound Good (stmt_to (suc depth) context locals one).made
      by well (stmt.Block block) is = rw is (block_spares (stmt_to depth) well context frees locals block)
      by well (stmt.Empty place) is = rw is tt
      by well (stmt.If place test first) is = rw is (if_spares (stmt_to depth) well context frees locals place test first None)
      by well (stmt.IfElse place test first second) is = rw is (if_spares (stmt_to depth) well context frees locals place test first (Some second))
      by well (stmt.While place test body) is = rw is (while_spares (stmt_to depth) well context frees locals place test body)
      by well (stmt.For place keys value over body) is = rw is (for_spares (stmt_to depth) well context frees locals place keys value over body)
      by well (stmt.Local place name tree init) is = rw is (local_spares context frees locals place name tree init)
      by well (stmt.Print place values) is = rw is (print_spares spared (env_of context locals) frees (place_of context place) values)
      by well (stmt.Event place name items) is = rw is (sound_bind (λ parts. AllSpare spared parts.1) Good (event_args (expr_typed (env_of context locals)) (env_of context locals) (place_of context place) name items (found (env_of context locals) name)) _
          (event_spares spared (env_of context locals) frees (place_of context place) name items (found (env_of context locals) name)) (λ parts h. (tt, exprs_spare spared parts.1 h)))
      by well (stmt.Schedule place delay name items) is = rw is (sound_bind (λ pair. Spare spared pair.0 × AllSpare spared pair.1.1) Good
          (both (expr_typed (env_of context locals) (Wants type.interval) delay) (event_args (expr_typed (env_of context locals)) (env_of context locals) (place_of context place) name items (found (env_of context locals) name))) _
          (sound_both (Spare spared) (λ parts. AllSpare spared parts.1) (expr_typed (env_of context locals) (Wants type.interval) delay) (event_args (expr_typed (env_of context locals)) (env_of context locals) (place_of context place) name items (found (env_of context locals) name))
          (expr_spares spared (env_of context locals) frees (Wants type.interval) delay) (event_spares spared (env_of context locals) frees (place_of context place) name items (found (env_of context locals) name)))
          (λ parts h. (tt, exprs_spare spared (parts.0 ∷ parts.1.1) h)))
      by well (stmt.Add place element) is = rw is (element_stmt spared (env_of context locals) frees (place_of context place) false element action.Add (λ operands h. (tt, h)))
      by well (stmt.Delete place element) is = rw is (element_stmt spared (env_of context locals) frees (place_of context place) true element action.Delete (λ operands h. (tt, h)))
      by well (stmt.Return place value) is = rw is (return_spares spared (env_of context locals) frees context context.within (place_of context place) value)
      by well (stmt.Next place) is = rw is (sound_require Good context.in_loop rule.Break (place_of context place) (Ok (form.Next (place_of context place))) (λ held. tt))
      by well (stmt.Break place) is = rw is (sound_require Good (breaks context) rule.Break (place_of context place) (Ok (form.Break (place_of context place))) (λ held. tt))
      by well (stmt.Expr value) is = rw is (expr_stmt_spares spared (env_of context locals) frees value)

  -- a body spares what its scripts don't let be assigned
  pub body_spares : (context : Context) (locals : Locals) (block : Block) → Frees spared context.scripts → Sound Good (body_typed context locals block).made
  body_spares context locals block frees = block_spares (stmt_to depth_max) (stmt_spares depth_max) context frees locals block
