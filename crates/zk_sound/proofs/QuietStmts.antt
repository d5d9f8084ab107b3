-- Where no rule of a script is told, each log that has a stream has a record type that is known.
use Rattle.std.proofs.Common.{◌≡◌, ◌≢◌, ◌≤◌, ℕ, zero, suc, ◌==◌, Bool, true, false, not, List, [], ◌∷◌, ◌++◌, filter, flat_map, codes, Option, Some, None, Ok, Err, refl, arith}
use Rattle.std.specs.List.{AllByRecursion}
use Rattle.zk_base.specs.declared.numbers.EventNo.{EventNo}
use Rattle.zk_base.specs.declared.numbers.RecordNo.{RecordNo}
use Rattle.zk_tree.specs.declared.decl.BodyKind.{BodyKind}
use Rattle.zk_tree.specs.declared.decl.Decl.{Decl, out-Decl}
use Rattle.zk_tree.specs.declared.decl.Decl.TheOpen.{Decl-F}
use Rattle.zk_tree.specs.declared.decl.Decl.TheOpen as decl
use Rattle.zk_tree.specs.declared.decl.Lasting.{Lasting}
use Rattle.zk_tree.specs.declared.decl.Redefining.{Redefining}
use Rattle.zk_tree.specs.declared.expr.Expr.{Expr, out-Expr}
use Rattle.zk_tree.specs.declared.expr.Expr.TheOpen.{Expr-F, Part-F}
use Rattle.zk_tree.specs.declared.expr.Expr.TheOpen as written
use Rattle.zk_tree.specs.declared.expr.Item.{Item}
use Rattle.zk_tree.specs.declared.expr.Link.{Link}
use Rattle.zk_tree.specs.declared.expr.Part.{Part, out-Part}
use Rattle.zk_tree.specs.declared.name.Name.{Name}
use Rattle.zk_tree.specs.declared.operator.Assigning.{Assigning}
use Rattle.zk_tree.specs.declared.operator.Assigning.TheVariants as assigning
use Rattle.zk_tree.specs.declared.place.Place.{Place}
use Rattle.zk_tree.specs.declared.stmt.Block.{Block, out-Block}
use Rattle.zk_tree.specs.declared.stmt.Init.{Init}
use Rattle.zk_tree.specs.declared.stmt.Init.TheVariants as init
use Rattle.zk_tree.specs.declared.stmt.Stmt.{Stmt, out-Stmt}
use Rattle.zk_tree.specs.declared.stmt.Stmt.TheOpen.{Stmt-F}
use Rattle.zk_tree.specs.declared.stmt.Stmt.TheOpen as stmt
use Rattle.zk_tree.specs.declared.types.Attr.{Attr}
use Rattle.zk_tree.specs.declared.types.Field.{Field}
use Rattle.zk_tree.specs.declared.types.Param.{Param}
use Rattle.zk_tree.specs.declared.types.Type.{«Type», out-Type}
use Rattle.zk_tree.specs.declared.types.Type.TheOpen.{Type-F}
use Rattle.zk_tree.specs.declared.types.Type.TheOpen as form_of
use Rattle.zk_typed.specs.declared.rule.Rule.TheVariants as rule
use Rattle.zk_typed.specs.declared.refusal.Broken.{Broken}
use Rattle.zk_typed.specs.Checked.{Checked, ◌>>=◌, ◌>>◌, both, each, require, rules_of}
use Rattle.zk_typed.specs.Declarations.{is_mark, is_circular, bodiless, env_at, told_type, global_type, type_rules, attr_rules, const_attribute, with_value}
use Rattle.zk_typed.specs.Declaring.{variable_meaning, scripts_of}
use Rattle.zk_typed.specs.Errors.{errors, told, init_place, telling_value, init_checked, value_rules, no_value, signature_rules, bodiless_rules, variable_rules, redef_wants, redef_value, redef_rules, number_of_variable, body_context, param_locals, within_of, result_wanted, event_rules, function_rules}
use Rattle.zk_typed.specs.Expressions.{Side, left_side, added_type, expr_to, expr_typed}
use Rattle.zk_typed.specs.Forms as form
use Rattle.zk_typed.specs.LoadOrder.{File, Home, Stated, load_order}
use Rattle.zk_typed.specs.LogCalls.{Call, named_call, expr_calls, maybe_calls, init_calls, stmt_calls_to, block_calls, decl_calls, all_calls, creates, created_in, one_type, log_type}
use Rattle.zk_typed.specs.Making.{argument, arguments, printed, called_name, call_of, post_typed}
use Rattle.zk_typed.specs.Names.{Declared, Meant, Variable, Event, Signature, Written, look_up}
use Rattle.zk_typed.specs.Predefined as type
use Rattle.zk_typed.specs.Resolving.{Scripts, place_in, has_attr, params_of, type_of, type_named}
use Rattle.zk_typed.specs.Statements.{Context, Locals, Within, InFunction, InHook, InHandler, Judge, env_of, looping, check_in, place_of, init_typed, added, assignment, indexed, element_of, event_args, for_over, for_names, wanted_names, types_or_unknown, local_type, local_value, local_stated, return_typed, expr_stmt, stmts_typed, block_typed, no_stmt, stmt_to, body_typed}
use Rattle.zk_typed.specs.Types.{ValueType}
use Rattle.zk_typed.specs.Typing.{Typed, Env, at, Wanted, Nothing, Wants, Unclear, wanted_of, expr_place, found}
use Rattle.zk_typed.specs.Within.{depth_max}
use Rattle.zk_sound.specs.Agreeing.{IsKnown}
use Rattle.zk_sound.proofs.Columns.{event_untold, function_untold, named_tells}
use Rattle.zk_sound.proofs.Fields.{flat_within}
use Rattle.zk_sound.proofs.Growth.{all_append, all_map}
use Rattle.zk_sound.proofs.Quiet.{Quiet, CallRight, Right, FindsRight, calls, in_items, never_quiet, never_named, grouped, assign_right, exprs_right, name_right, arguments_right, braces_right}
use Rattle.zk_sound.proofs.QuietCalls.{printed_right, call_right, create_right}
use Rattle.zk_sound.proofs.QuietForms.{in_part, in_parts, side_right, post_right, finds}
use Rattle.zk_sound.proofs.Told.{Tells, Untold, none_told, all_types_tell, untold_both, untold_bind}

all_split : {A : Type 0} (P : A → Type 0) (xs ys : List A) → AllByRecursion P (xs ++ ys) → AllByRecursion P xs × AllByRecursion P ys
all_split P [] ys all = (tt, all)
all_split P (x ∷ xs) ys all = let rest = all_split P xs ys all.1 in ((all.0, rest.0), rest.1)

-- What stands in statements --------------------------------------------------------------------------------------------

module _ (env : Env) (tells : (name : Name) → Tells (type_named env.scripts env.home name)) where
  enough : depth_max ≤ depth_max
  enough = omega arith

  well : FindsRight env depth_max (expr_to depth_max env)
  well = finds env tells depth_max depth_max enough

  abbrev One : Expr → Type 0
  One one = Right env (expr_calls env.home one)

  value_right : (wanted : Wanted) (one : Expr) → Quiet (expr_typed env wanted one) → One one
  value_right wanted one e = well depth_max enough wanted one e

  init_right : (wanted : Wanted) (one : Init) → Quiet (init_typed env wanted one) → Right env (init_calls env.home (Some one))
  init_right wanted (init.Value one) e = value_right wanted one e
  init_right wanted (init.Braces place values comma) e = braces_right env (expr_to depth_max env) depth_max well depth_max enough (at env place) values wanted e

  -- Assignments --------------------------------------------------------------------------------------------------------

  given_right : (place left_place : Place) (by : Assigning) (side : Side) (right : Expr) → Quiet (added (expr_to depth_max env) place left_place by side right (added_type by side.type)) → (less : ℕ) → less ≤ depth_max → Right env (calls env less right)
  given_right place left_place by side right e less under = of_type (added_type by side.type) e
    where
      of_type : (wanted : Option ValueType) → Quiet (added (expr_to depth_max env) place left_place by side right wanted) → Right env (calls env less right)
      of_type None e = absurd (never_quiet _ (expr_to depth_max env Nothing right) rule.WrongType left_place e)
      of_type (Some wanted) e = well less under (Wants wanted) right (untold_bind (expr_to depth_max env (Wants wanted) right) _ e)

  assignment_right : (one left : Expr) (by : Assigning) (right : Expr) → out-Expr one ≡ written.Assign left by right → Quiet (assignment (expr_to depth_max env) env (expr_place env one) left by right) → One one
  assignment_right one left by right is e = assign_right env depth_max one left by right is (λ less under. of_side (left_side (expr_to depth_max env) env left) refl less (omega (arith, under)))
    where
      of_operator : (by : Assigning) (side : Side) → left_side (expr_to depth_max env) env left ≡ Ok side → Quiet (assignment (expr_to depth_max env) env (expr_place env one) left by right) → (less : ℕ) → less ≤ depth_max → Right env (calls env less right)
      of_operator assigning.Set side k e less under = well less under (Wants side.type) right (untold_bind (expr_to depth_max env (Wants side.type) right) _ (rw k at e))
      of_operator assigning.Add side k e less under = given_right (expr_place env one) (expr_place env left) assigning.Add side right (rw k at e) less under
      of_operator assigning.Subtract side k e less under = given_right (expr_place env one) (expr_place env left) assigning.Subtract side right (rw k at e) less under

      of_side : (side : Checked Side) → left_side (expr_to depth_max env) env left ≡ side → (less : ℕ) → less ≤ depth_max → Right env (calls env less left) × Right env (calls env less right)
      of_side (Ok side) k less under = (side_right env tells (expr_to depth_max env) depth_max well less under left (rw k refl), of_operator by side k e less under)
      of_side (Err rules) k less under =
          let told : Quiet (both {A = Side} (Err rules) (expr_to depth_max env Unclear right)) = rw k at e in
          let parts = untold_both {A = Side} (Err rules) (expr_to depth_max env Unclear right) told in
          (side_right env tells (expr_to depth_max env) depth_max well less under left (rw k parts.0), well less under Unclear right parts.1)

  -- Elements of sets and tables ----------------------------------------------------------------------------------------

  none_named : (whole first : Expr) (part : Part) (keys : List Expr) → out-Part part ≡ written.Index keys → named_call env.home whole first (part ∷ []) ≡ []
  none_named whole first part keys is = by (out-Expr first) refl
    where
      by : (f : Expr-F Expr Item Part Link) → out-Expr first ≡ f → named_call env.home whole first (part ∷ []) ≡ []
      by (written.Name name) of = rw (of, is) refl
      by f of = rw of refl

  -- parts before an index and the keys in it make the whole
  fronts : (depth : ℕ) (parts : List Part) (found : List Part × List Expr) → indexed parts ≡ Some found → Right env (in_parts (calls env depth) found.0) → Right env (flat_map (calls env depth) found.1) → Right env (in_parts (calls env depth) parts)
  fronts depth [] found is front keys = absurd cc
  fronts depth (part ∷ []) found is front keys = by (out-Part part) refl
    where
      by : (f : Part-F Expr Item Part Link) → out-Part part ≡ f → Right env (in_parts (calls env depth) (part ∷ []))
      by (written.Index own) of =
          let told : Some ([], own) ≡ Some found = rw of at is in
          let pair : ([], own) ≡ found = cc in
          let own_right : Right env (flat_map (calls env depth) own) = rw (← pair) at keys in
          rw of (all_append (CallRight env.scripts) (flat_map (calls env depth) own) [] own_right tt)
      by f of = absurd (let told : None ≡ Some found = rw of at is in cc)
  fronts depth (part ∷ second ∷ more) found is front keys = by (indexed (second ∷ more)) refl (λ inner named front_right keys_right. fronts depth (second ∷ more) inner named front_right keys_right)
    where
      by : (inner : Option (List Part × List Expr)) → indexed (second ∷ more) ≡ inner
          → ((inner : List Part × List Expr) → indexed (second ∷ more) ≡ Some inner → Right env (in_parts (calls env depth) inner.0) → Right env (flat_map (calls env depth) inner.1) → Right env (in_parts (calls env depth) (second ∷ more)))
          → Right env (in_parts (calls env depth) (part ∷ second ∷ more))
      by None k rest = absurd (let told : None ≡ Some found = rw k at is in cc)
      by (Some inner) k rest =
          let told : Some (part ∷ inner.0, inner.1) ≡ Some found = rw k at is in
          let pair : (part ∷ inner.0, inner.1) ≡ found = cc in
          let before : Right env (in_part (calls env depth) (out-Part part) ++ in_parts (calls env depth) inner.0) = rw (← pair) at front in
          let after : Right env (flat_map (calls env depth) inner.1) = rw (← pair) at keys in
          let parts = all_split (CallRight env.scripts) (in_part (calls env depth) (out-Part part)) (in_parts (calls env depth) inner.0) before in
          all_append (CallRight env.scripts) (in_part (calls env depth) (out-Part part)) (in_parts (calls env depth) (second ∷ more)) parts.0 (rest inner k parts.1 after)

  -- what stands before an index, with the call of a name that it begins with, and the keys in the index
  index_right : (depth : ℕ) → depth ≤ depth_max → (whole : Expr) (place : Place) (first : Expr) (parts : List Part) (found : List Part × List Expr) → indexed parts ≡ Some found
      → Quiet (post_typed (expr_to depth_max env) env place first found.0 (called_name first found.0)) → Quiet (each (expr_to depth_max env Nothing) found.1)
      → Right env (named_call env.home whole first parts ++ (calls env depth first ++ in_parts (calls env depth) parts))
  index_right depth within whole place first [] found is e k = absurd cc
  index_right depth within whole place first (part ∷ []) found is e k = by (out-Part part) refl
    where
      by : (f : Part-F Expr Item Part Link) → out-Part part ≡ f → Right env (named_call env.home whole first (part ∷ []) ++ (calls env depth first ++ in_parts (calls env depth) (part ∷ [])))
      by (written.Index own) of =
          let told : Some ([], own) ≡ Some found = rw of at is in
          let pair : ([], own) ≡ found = cc in
          let quiet : Quiet (expr_to depth_max env Nothing first) = rw (← pair) at e in
          let keys : Quiet (each (expr_to depth_max env Nothing) own) = rw (← pair) at k in
          rw (none_named whole first part own of) (all_append (CallRight env.scripts) (calls env depth first) (in_parts (calls env depth) (part ∷ [])) (well depth within Nothing first quiet)
          (rw of (all_append (CallRight env.scripts) (flat_map (calls env depth) own) [] (exprs_right env (expr_to depth_max env Nothing) (calls env depth) (λ one. well depth within Nothing one) own keys) tt)))
      by f of = absurd (let told : None ≡ Some found = rw of at is in cc)
  index_right depth within whole place first (part ∷ second ∷ more) found is e k = by (indexed (second ∷ more)) refl
    where
      by : (inner : Option (List Part × List Expr)) → indexed (second ∷ more) ≡ inner → Right env (named_call env.home whole first (part ∷ second ∷ more) ++ (calls env depth first ++ in_parts (calls env depth) (part ∷ second ∷ more)))
      by None j = absurd (let told : None ≡ Some found = rw j at is in cc)
      by (Some inner) j =
          let told : Some (part ∷ inner.0, inner.1) ≡ Some found = rw j at is in
          let pair : (part ∷ inner.0, inner.1) ≡ found = cc in
          let quiet : Quiet (post_typed (expr_to depth_max env) env place first (part ∷ inner.0) (called_name first (part ∷ inner.0))) = rw (← pair) at e in
          let keys : Quiet (each (expr_to depth_max env Nothing) inner.1) = rw (← pair) at k in
          let all = post_right env tells (expr_to depth_max env) depth_max well depth within whole place first (part ∷ inner.0) quiet in
          let head = all_split (CallRight env.scripts) (named_call env.home whole first (part ∷ inner.0)) (calls env depth first ++ in_parts (calls env depth) (part ∷ inner.0)) all in
          let tail = all_split (CallRight env.scripts) (calls env depth first) (in_parts (calls env depth) (part ∷ inner.0)) head.1 in
          let own = all_split (CallRight env.scripts) (in_part (calls env depth) (out-Part part)) (in_parts (calls env depth) inner.0) tail.1 in
          all_append (CallRight env.scripts) (named_call env.home whole first (part ∷ second ∷ more)) (calls env depth first ++ in_parts (calls env depth) (part ∷ second ∷ more)) head.0
          (all_append (CallRight env.scripts) (calls env depth first) (in_parts (calls env depth) (part ∷ second ∷ more)) tail.0
          (all_append (CallRight env.scripts) (in_part (calls env depth) (out-Part part)) (in_parts (calls env depth) (second ∷ more)) own.0
          (fronts depth (second ∷ more) inner j own.1 (exprs_right env (expr_to depth_max env Nothing) (calls env depth) (λ one. well depth within Nothing one) inner.1 keys))))

  -- an expression with parts, to each depth
  parted : (depth : ℕ) (one first : Expr) (parts : List Part) → out-Expr one ≡ written.Post first parts → ((less : ℕ) → suc less ≤ depth → Right env (named_call env.home one first parts ++ (calls env less first ++ in_parts (calls env less) parts))) → Right env (calls env depth one)
  parted zero one first parts is h = tt
  parted (suc depth) one first parts is h = rw is (grouped env (named_call env.home one first parts) (calls env depth first) (in_parts (calls env depth) parts) (h depth (omega arith)))

  element_right : (place : Place) (tables : Bool) (one : Expr) → Quiet (element_of (expr_to depth_max env) env place tables one) → One one
  element_right place tables one e = by (out-Expr one) refl
    where
      of_index : (first : Expr) (parts : List Part) (found : Option (List Part × List Expr)) → out-Expr one ≡ written.Post first parts → indexed parts ≡ found → One one
      of_index first parts None is k = absurd (never_quiet _ (expr_to depth_max env Nothing one) rule.WrongType place (rw (is, k) at e))
      of_index first parts (Some found) is k =
          let front = post_typed (expr_to depth_max env) env (expr_place env first) first found.0 (called_name first found.0) in
          let keys = each (expr_to depth_max env Nothing) found.1 in
          let told : Quiet (both front keys >>= _) = rw (is, k) at e in
          let quiet = untold_both front keys (untold_bind (both front keys) _ told) in
          parted depth_max one first parts is (λ less under. index_right less (omega (arith, under)) one (expr_place env first) first parts found k quiet.0 quiet.1)

      by : (f : Expr-F Expr Item Part Link) → out-Expr one ≡ f → One one
      by (written.Post first parts) is = of_index first parts (indexed parts) is refl
      by f is = absurd (never_quiet _ (expr_to depth_max env Nothing one) rule.WrongType place (rw is at e))

  -- Expressions that stand as statements -------------------------------------------------------------------------------

  standing_right : (one : Expr) → Quiet (expr_stmt (expr_to depth_max env) env one) → One one
  standing_right one e = by (out-Expr one) refl
    where
      evaluated : Quiet (expr_to depth_max env Nothing one >>= (λ given. Ok (form.Evaluate (expr_place env one) given.expr))) → One one
      evaluated e = value_right Nothing one (untold_bind (expr_to depth_max env Nothing one) _ e)

      called : (first : Expr) (part : Part) (name : Name) (items : List Item) → out-Expr one ≡ written.Post first (part ∷ []) → out-Expr first ≡ written.Name name → out-Part part ≡ written.Call items → Quiet (call_of (expr_to depth_max env) env name items) → One one
      called first part name items is of too e = parted depth_max one first (part ∷ []) is (λ less under. rw (of, too) (
        create_right env tells (expr_to depth_max env) depth_max well one name items e,
        all_append (CallRight env.scripts) (calls env less first) (in_items (calls env less) items ++ []) (name_right env less first name of)
            (all_append (CallRight env.scripts) (in_items (calls env less) items) [] (call_right env tells (expr_to depth_max env) depth_max well less (omega (arith, under)) name items e) tt),
      ))

      one_part : (first : Expr) (part : Part) → out-Expr one ≡ written.Post first (part ∷ []) → (f : Expr-F Expr Item Part Link) (g : Part-F Expr Item Part Link) → out-Expr first ≡ f → out-Part part ≡ g → One one
      one_part first part is (written.Name name) (written.Call items) of too = called first part name items is of too (untold_bind (call_of (expr_to depth_max env) env name items) _ (rw (is, of, too) at e))
      one_part first part is (written.Name name) g of too = evaluated (rw (is, of, too) at e)
      one_part first part is f g of too = evaluated (rw (is, of) at e)

      many_parts : (first : Expr) (part second : Part) (more : List Part) → out-Expr one ≡ written.Post first (part ∷ second ∷ more) → (f : Expr-F Expr Item Part Link) (g : Part-F Expr Item Part Link) → out-Expr first ≡ f → out-Part part ≡ g → One one
      many_parts first part second more is (written.Name name) (written.Call items) of too = evaluated (rw (is, of, too) at e)
      many_parts first part second more is (written.Name name) g of too = evaluated (rw (is, of, too) at e)
      many_parts first part second more is f g of too = evaluated (rw (is, of) at e)

      by : (f : Expr-F Expr Item Part Link) → out-Expr one ≡ f → One one
      by (written.Assign left operator right) is = assignment_right one left operator right is (rw is at e)
      by (written.Post first []) is = evaluated (rw is at e)
      by (written.Post first (part ∷ [])) is = one_part first part is (out-Expr first) (out-Part part) refl refl
      by (written.Post first (part ∷ second ∷ more)) is = many_parts first part second more is (out-Expr first) (out-Part part) refl refl
      by f is = evaluated (rw is at e)

  -- Events -------------------------------------------------------------------------------------------------------------

  event_right : (place : Place) (name : Name) (items : List Item) → Quiet (event_args (expr_to depth_max env) env place name items (found env name)) → Right env (in_items (calls env depth_max) items)
  event_right place name items e = by (found env name) e
    where
      behind : Checked (List Typed)
      behind = each (argument (expr_to depth_max env) env Unclear) items

      of_meant : (meant : Meant) (one : Declared) → Quiet (event_args (expr_to depth_max env) env place name items (Some (record one { meant = meant }))) → Right env (in_items (calls env depth_max) items)
      of_meant (Event signature) one e = arguments_right env (expr_to depth_max env) depth_max well depth_max enough place (params_of env.scripts signature) items (untold_bind (arguments (expr_to depth_max env) env place (params_of env.scripts signature) items) _ e)
      of_meant meant one e = absurd (never_named (EventNo × List Typed) rule.WrongType (at env name.place) behind e)

      by : (one : Option Declared) → Quiet (event_args (expr_to depth_max env) env place name items one) → Right env (in_items (calls env depth_max) items)
      by None e = absurd (never_named (EventNo × List Typed) rule.Unknown (at env name.place) behind e)
      by (Some one) e = of_meant one.meant one e

  returned_right : (context : Context) (place : Place) (value : Option Expr) → Quiet (return_typed context (expr_to depth_max env) place value) → Right env (maybe_calls env.home value)
  returned_right context place None e = tt
  returned_right context place (Some one) e = by context.within e
    where
      by : (kind : Within) → Quiet (return_typed (record context { within = kind }) (expr_to depth_max env) place (Some one)) → One one
      by (InFunction (Some wanted)) e = value_right wanted one (untold_bind (expr_to depth_max env wanted one) _ e)
      by (InFunction None) e = absurd (never_quiet _ (expr_to depth_max env Nothing one) rule.Return place e)
      by InHook e = absurd (never_quiet _ (expr_to depth_max env Nothing one) rule.Return place e)
      by InHandler e = absurd (never_quiet _ (expr_to depth_max env Nothing one) rule.Return place e)

-- Statements -----------------------------------------------------------------------------------------------------------

abbrev NamesTell : Context → Type 0
NamesTell context = (name : Name) → Tells (type_named context.scripts context.home name)

abbrev StmtsRight : Context → List Call → Type 0
StmtsRight context all = AllByRecursion (CallRight context.scripts) all

abbrev JudgedRight : ℕ → Judge → Type 0
JudgedRight depth judge = (context : Context) (locals : Locals) (one : Stmt) → NamesTell context → Quiet (judge context locals one).made → StmtsRight context (stmt_calls_to depth context.home one)

module _ (depth : ℕ) (judge : Judge) (deep : JudgedRight depth judge) (context : Context) (tell : NamesTell context) where
  stmts_right : (locals : Locals) (list : List Stmt) → Quiet (stmts_typed judge context locals list).0 → StmtsRight context (flat_map (stmt_calls_to depth context.home) list)
  stmts_right locals [] e = tt
  stmts_right locals (one ∷ others) e =
      let first = judge context locals one in
      let more = stmts_typed judge context first.locals others in
      let parts = untold_both first.made more.0 (untold_bind (both first.made more.0) _ e) in
      all_append (CallRight context.scripts) (stmt_calls_to depth context.home one) (flat_map (stmt_calls_to depth context.home) others) (deep context locals one tell parts.0) (stmts_right first.locals others parts.1)

  block_right : (locals : Locals) (block : Block) → Quiet (block_typed judge context locals block).made → StmtsRight context (flat_map (stmt_calls_to depth context.home) (out-Block block).stmts)
  block_right locals block e = stmts_right locals (out-Block block).stmts (untold_bind (stmts_typed judge context locals (out-Block block).stmts).0 _ e)

local_right : (context : Context) (tell : NamesTell context) (locals : Locals) (place : ℕ) (name : Name) (tree : Option «Type») (init : Option Init) → Quiet (local_stated context locals place name tree init).made → StmtsRight context (init_calls context.home init)
local_right context tell locals place name tree None e = tt
local_right context tell locals place name tree (Some one) e = by tree e
  where
    by : (tree : Option «Type») → Quiet (local_stated context locals place name tree (Some one)).made → StmtsRight context (init_calls context.home (Some one))
    by None e =
        let made = init_typed (env_of context locals) Nothing one in
        init_right (env_of context locals) tell Nothing one (untold_both (Ok (tt {0})) made (untold_bind (both (Ok (tt {0})) made) _ (untold_bind (local_value context locals (place_of context place) None (Some one)) _ e))).1
    by (Some tree) e =
        let type = local_type context locals (Some tree) in
        let given = local_value context locals (place_of context place) type (Some one) in
        of_type type (untold_bind given _ e)
      where
        of_type : (type : Option (Checked ValueType)) → Quiet (local_value context locals (place_of context place) type (Some one)) → StmtsRight context (init_calls context.home (Some one))
        of_type None e =
            let made = init_typed (env_of context locals) Nothing one in
            init_right (env_of context locals) tell Nothing one (untold_both (Ok (tt {0})) made (untold_bind (both (Ok (tt {0})) made) _ e)).1
        of_type (Some type) e =
            let made = init_typed (env_of context locals) (wanted_of type) one in
            init_right (env_of context locals) tell (wanted_of type) one (untold_both (type >> Ok (tt {0})) made (untold_bind (both (type >> Ok (tt {0})) made) _ e)).1

stmt_right : (depth : ℕ) → JudgedRight depth (stmt_to depth)
stmt_right zero context locals one tell e = tt
stmt_right (suc depth) context locals one tell e = by (out-Stmt one) refl (stmt_right depth)
  where
    env : Env
    env = env_of context locals

    P : Call → Type 0
    P = CallRight context.scripts

    more : Stmt → List Call
    more = stmt_calls_to depth context.home

    by : (f : Stmt-F Stmt Block) → out-Stmt one ≡ f → JudgedRight depth (stmt_to depth) → StmtsRight context (stmt_calls_to (suc depth) context.home one)
    by (stmt.Block block) is deep = rw is (block_right depth (stmt_to depth) deep context tell locals block (rw is at e))
    by (stmt.If place test a) is deep =
        let condition = check_in context locals (Wants type.bool) test in
        let first = stmt_to depth context locals a in
        let told : rules_of (both condition (both first.made (Ok no_stmt)) >>= _) ≡ [] = rw is at e in
        let parts = untold_both condition (both first.made (Ok no_stmt)) (untold_bind (both condition (both first.made (Ok no_stmt))) _ told) in
        rw is (all_append P (expr_calls context.home test) (more a) (value_right env tell (Wants type.bool) test parts.0) (deep context locals a tell (untold_both first.made (Ok no_stmt) parts.1).0))
    by (stmt.IfElse place test a b) is deep =
        let condition = check_in context locals (Wants type.bool) test in
        let first = stmt_to depth context locals a in
        let second = stmt_to depth context first.locals b in
        let told : rules_of (both condition (both first.made second.made) >>= _) ≡ [] = rw is at e in
        let parts = untold_both condition (both first.made second.made) (untold_bind (both condition (both first.made second.made)) _ told) in
        let two = untold_both first.made second.made parts.1 in
        rw is (grouped env (expr_calls context.home test) (more a) (more b) (all_append P (expr_calls context.home test) (more a ++ more b) (value_right env tell (Wants type.bool) test parts.0) (all_append P (more a) (more b) (deep context locals a tell two.0) (deep context first.locals b tell two.1))))
    by (stmt.While place test a) is deep =
        let condition = check_in context locals (Wants type.bool) test in
        let inner = stmt_to depth (looping context) locals a in
        let told : rules_of (both condition inner.made >>= _) ≡ [] = rw is at e in
        let parts = untold_both condition inner.made (untold_bind (both condition inner.made) _ told) in
        rw is (all_append P (expr_calls context.home test) (more a) (value_right env tell (Wants type.bool) test parts.0) (deep (looping context) locals a tell parts.1))
    by (stmt.For place keys value over a) is deep =
        let over_one = check_in context locals Nothing over in
        let types = over_one >>= for_over context place (expr_place env over) keys value in
        let names = for_names context locals (wanted_names keys value) (types_or_unknown (wanted_names keys value) types) in
        let inner = stmt_to depth (looping context) names.1 a in
        let told = untold_bind (both (both over_one types) (both names.0 inner.made)) _ (rw is at e) in
        let parts = untold_both (both over_one types) (both names.0 inner.made) told in
        rw is (all_append P (expr_calls context.home over) (more a) (value_right env tell Nothing over (untold_both over_one types parts.0).0) (deep (looping context) names.1 a tell (untold_both names.0 inner.made parts.1).1))
    by (stmt.Local place name tree init) is deep = rw is (local_right context tell locals place name tree init (rw is at e))
    by (stmt.Print place values) is deep =
        let told : rules_of (each (printed (expr_typed env) env) values >>= _) ≡ [] = rw is at e in
        rw is (exprs_right env (printed (expr_typed env) env) (expr_calls context.home) (printed_right env tell (expr_to depth_max env) depth_max (well env tell) depth_max (enough env tell)) values (untold_bind (each (printed (expr_typed env) env) values) _ told))
    by (stmt.Event place name items) is deep =
        let told : rules_of (event_args (expr_typed env) env (place_of context place) name items (found env name) >>= _) ≡ [] = rw is at e in
        rw is (event_right env tell (place_of context place) name items (untold_bind (event_args (expr_typed env) env (place_of context place) name items (found env name)) _ told))
    by (stmt.Schedule place delay name items) is deep =
        let wait = expr_typed env (Wants type.interval) delay in
        let event = event_args (expr_typed env) env (place_of context place) name items (found env name) in
        let told : rules_of (both wait event >>= _) ≡ [] = rw is at e in
        let parts = untold_both wait event (untold_bind (both wait event) _ told) in
        rw is (all_append P (expr_calls context.home delay) (in_items (expr_calls context.home) items) (value_right env tell (Wants type.interval) delay parts.0) (event_right env tell (place_of context place) name items parts.1))
    by (stmt.Add place element) is deep = rw is (element_right env tell (place_of context place) false element (untold_bind (element_of (expr_typed env) env (place_of context place) false element) _ (rw is at e)))
    by (stmt.Delete place element) is deep = rw is (element_right env tell (place_of context place) true element (untold_bind (element_of (expr_typed env) env (place_of context place) true element) _ (rw is at e)))
    by (stmt.Return place value) is deep = rw is (returned_right env tell context (place_of context place) value (rw is at e))
    by (stmt.Expr value) is deep = rw is (standing_right env tell value (rw is at e))
    by f is deep = rw is tt

body_right : (context : Context) (tell : NamesTell context) (locals : Locals) (block : Block) → Quiet (body_typed context locals block).made → StmtsRight context (block_calls context.home block)
body_right context tell locals block e = block_right depth_max (stmt_to depth_max) (stmt_right depth_max) context tell locals block e

-- Declarations ---------------------------------------------------------------------------------------------------------

module _ (scripts : Scripts) (tells : (home : Home) (t : «Type») → Tells (type_of scripts home t)) where
  module _ (home : Home) where
    names_tell : (name : Name) → Tells (type_named scripts home name)
    names_tell = named_tells scripts tells home

    abbrev AllRight : List Call → Type 0
    AllRight all = AllByRecursion (CallRight scripts) all

    never_told : (place : Place) (one : Broken) (rules : List Broken) → Quiet (told place (Err (one ∷ rules))) → ⊥
    never_told place one rules e = by (is_circular (one ∷ rules)) (filter (λ one. not (is_mark one)) (one ∷ rules)) refl refl
      where
        by : (circular : Bool) (others : List Broken) → is_circular (one ∷ rules) ≡ circular → filter (λ one. not (is_mark one)) (one ∷ rules) ≡ others → ⊥
        by false others is of = let never = rw is at e in cc
        by true [] is of = let never = rw (is, of) at e in cc
        by true (first ∷ others) is of = let never = rw (is, of) at e in cc

    quiet_told : (place : Place) (m : Checked Typed) → Quiet (told place m) → Quiet m
    quiet_told place (Ok one) e = refl
    quiet_told place (Err []) e = refl
    quiet_told place (Err (one ∷ rules)) e = absurd (never_told place one rules e)

    checked_right : (wanted : Wanted) (one : Init) → Quiet (init_checked scripts home wanted one) → AllRight (init_calls home (Some one))
    checked_right wanted one e = init_right (env_at scripts home) names_tell wanted one e

    value_given : (place : Place) (tree : Option «Type») (init : Option Init) → Quiet (value_rules scripts home place tree init) → AllRight (init_calls home init)
    value_given place tree None e = tt
    value_given place None (Some one) e =
        init_right (bodiless scripts home (told_type scripts)) names_tell Nothing one (quiet_told _ (init_typed (bodiless scripts home (told_type scripts)) Nothing one) (untold_bind (telling_value scripts home one) _ e))
    value_given place (Some tree) (Some one) e =
        let rules = type_rules scripts home tree in
        let given = init_checked scripts home (wanted_of (type_of scripts home tree)) one in
        checked_right (wanted_of (type_of scripts home tree)) one (untold_both rules given (untold_bind (both rules given) _ e)).1

    no_value_given : (init : Option Init) → Quiet (no_value scripts home init) → AllRight (init_calls home init)
    no_value_given None e = tt
    no_value_given (Some one) e = absurd (never_quiet _ (init_checked scripts home Nothing one) rule.WrongType (init_place (env_at scripts home) one) e)

    bodiless_given : (signature : Signature) (init : Option Init) (attrs : List Attr) → Quiet (bodiless_rules scripts home signature init attrs) → AllRight (init_calls home init)
    bodiless_given signature init attrs e =
        let first = both (signature_rules scripts signature) (no_value scripts home init) in
        let rest = attr_rules home const_attribute with_value (λ attr. Ok (tt {0})) [] attrs in
        no_value_given init (untold_both (signature_rules scripts signature) (no_value scripts home init) (untold_both first rest (untold_bind (both first rest) _ e)).0).1

    variable_given : (place : Place) (lasting : Lasting) (name : Name) (tree : Option «Type») (init : Option Init) (attrs : List Attr)
        → Quiet (variable_rules scripts home place name tree init attrs (variable_meaning home lasting tree init attrs)) → AllRight (init_calls home init)
    variable_given place lasting name None init attrs e = value_given place None init (untold_bind (value_rules scripts home place None init) _ e)
    variable_given place lasting name (Some t) init attrs e = by (out-Type t) refl
      where
        by : (f : Type-F «Type» Field Param) → out-Type t ≡ f → AllRight (init_calls home init)
        by (form_of.Event at params) is = bodiless_given (Written home params None) init attrs (rw is at e)
        by (form_of.Hook at params) is = bodiless_given (Written home params None) init attrs (rw is at e)
        by (form_of.Procedure at params) is = bodiless_given (Written home params None) init attrs (rw is at e)
        by (form_of.Function at params given) is = bodiless_given (Written home params (Some given)) init attrs (rw is at e)
        by f is = value_given place (Some t) init (untold_bind (value_rules scripts home place (Some t) init) _ (rw is at e))

    redef_given : (one : Init) (wanted : Checked (Option ValueType)) → Quiet (redef_value scripts home one wanted) → AllRight (init_calls home (Some one))
    redef_given one (Err rules) e = checked_right Unclear one (untold_bind (init_checked scripts home Unclear one) _ e)
    redef_given one (Ok None) e = absurd cc
    redef_given one (Ok (Some wanted)) e = checked_right (Wants wanted) one (untold_bind (init_checked scripts home (Wants wanted) one) _ e)

    redef_right : (place : Place) (name : Name) (operator : Redefining) (one : Init) (declared : Option Declared) → Quiet (redef_rules scripts home place name operator one declared) → AllRight (init_calls home (Some one))
    redef_right place name operator one None e = absurd cc
    redef_right place name operator one (Some declared) e = of_meant declared.meant declared e
      where
        allowed : (holds : Bool) (rest : Checked (Unit {0})) → Quiet (require holds rule.FixedGlobal place >> rest) → Quiet rest
        allowed true rest e = e
        allowed false rest e = absurd cc

        of_meant : (meant : Meant) (declared : Declared) → Quiet (redef_rules scripts home place name operator one (Some (record declared { meant = meant }))) → AllRight (init_calls home (Some one))
        of_meant (Variable other lasting tree given attrs) declared e =
            let wanted = global_type scripts (number_of_variable scripts (record declared { meant = Variable other lasting tree given attrs })) >>= (λ type. Ok (redef_wants operator type)) in
            redef_given one wanted (allowed (has_attr (codes "redef") attrs) (redef_value scripts home one wanted) e)
        of_meant meant declared e = absurd cc

    event_given : (place : Place) (kind : BodyKind) (name : Name) (params : List Param) (attrs : List Attr) (block : Block) → Quiet (event_rules scripts home place kind name params attrs block) → AllRight (block_calls home block)
    event_given place kind name params attrs block e =
        body_right (body_context scripts home (within_of kind)) names_tell (param_locals scripts home params) block (event_untold scripts home place kind name params attrs block e).2

    function_given : (earlier : List Stated) (place : Place) (name : Name) (params : List Param) («result» : Option «Type») (block : Block) → Quiet (function_rules scripts earlier home place name params «result» block) → AllRight (block_calls home block)
    function_given earlier place name params «result» block e =
        body_right (body_context scripts home (InFunction (result_wanted scripts home «result»))) names_tell (param_locals scripts home params) block (function_untold scripts earlier home place name params «result» block e).3

  decl_right : (one : Stated) → Untold scripts one → AllByRecursion (CallRight scripts) (decl_calls one.home (out-Decl one.decl))
  decl_right one h = by (out-Decl one.decl) refl
    where
      by : (f : Decl-F Decl) → out-Decl one.decl ≡ f → AllByRecursion (CallRight scripts) (decl_calls one.home (out-Decl one.decl))
      by (decl.Variable place lasting name tree init attrs) is = let e = h.none in rw is (variable_given one.home (place_in one.home place) lasting name tree init attrs (rw is at e))
      by (decl.Redef place name operator init) is = let e = h.none in rw is (redef_right one.home (place_in one.home place) name operator init (look_up scripts.names one.home.module_name name.text) (rw is at e))
      by (decl.Body place kind name params attrs block) is = let e = h.none in rw is (event_given one.home (place_in one.home place) kind name params attrs block (rw is at e))
      by (decl.Function place name params «result» block) is = let e = h.none in rw is (function_given one.home h.earlier (place_in one.home place) name params «result» block (rw is at e))
      by f is = rw is tt

-- Logs -----------------------------------------------------------------------------------------------------------------

-- what passes a test has what it has where it passes
passed_all : {A : Type 0} (P : A → Type 0) (test : A → Bool) (xs : List A) → AllByRecursion (λ x. test x ≡ true → P x) xs → AllByRecursion P (filter test xs)
passed_all P test [] all = tt
passed_all P test (x ∷ xs) all = by (test x) refl (passed_all P test xs all.1)
  where
    by : (passes : Bool) → test x ≡ passes → AllByRecursion P (filter test xs) → AllByRecursion P (filter test (x ∷ xs))
    by true e rest = rw e (all.0 e, rest)
    by false e rest = rw e rest

one_known : (said : List (Option RecordNo)) → AllByRecursion IsKnown said → one_type said ≢ Some None
one_known [] all e = cc
one_known (None ∷ said) all e = absurd all.0
one_known (Some number ∷ []) all e = cc
one_known (Some number ∷ second ∷ more) all e = by (one_type (second ∷ more)) refl (one_known (second ∷ more) all.1)
  where
    by : (others : Option (Option RecordNo)) → one_type (second ∷ more) ≡ others → one_type (second ∷ more) ≢ Some None → ⊥
    by None is rest = let told : None ≡ Some None = rw is at e in cc
    by (Some None) is rest = rest is
    by (Some (Some other)) is rest = same (number.0 == other.0) refl
      where
        same : (that : Bool) → (number.0 == other.0) ≡ that → ⊥
        same true k = let told : Some (Some number) ≡ Some None = rw (is, k) at e in cc
        same false k = let told : None ≡ Some None = rw (is, k) at e in cc

pub logs_told : (files : List File) (word : List ℕ) → errors files ≡ [] → log_type (scripts_of files) word ≢ Some None
logs_told files word right =
    let scripts : Scripts = scripts_of files in
    let each_call : AllByRecursion (CallRight scripts) (all_calls scripts) = flat_within (CallRight scripts) (λ one. decl_calls one.home (out-Decl one.decl)) (load_order files)
    (all_map (Untold scripts) (λ one. AllByRecursion (CallRight scripts) (decl_calls one.home (out-Decl one.decl))) (decl_right scripts (all_types_tell files right)) (load_order files) (none_told files right)) in
    one_known (flat_map (created_in scripts word) (filter (creates scripts) (all_calls scripts)))
    (flat_within IsKnown (created_in scripts word) (filter (creates scripts) (all_calls scripts))
    (passed_all (λ call. AllByRecursion IsKnown (created_in scripts word call)) (creates scripts) (all_calls scripts)
    (all_map (CallRight scripts) (λ call. creates scripts call ≡ true → AllByRecursion IsKnown (created_in scripts word call)) (λ call h made. h made word) (all_calls scripts) each_call)))
