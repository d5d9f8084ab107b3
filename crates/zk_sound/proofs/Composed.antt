-- Statements of parts, and so the body whole: a name's number and type never change, and names only come, so what is visible
-- behind a statement says what was visible before it.
use Rattle.std.proofs.Common.{◌≡◌, ℕ, zero, suc, ◌==◌, true, not, List, [], ◌∷◌, ◌++◌, length, map, Option, Some, None, Ok, Err, refl, sym, ap, ◌∙◌, arith}
use Rattle.std.specs.Prelude.{if◌then◌else◌, is_some}
use Rattle.std.proofs.lemmas.Bool.{eqb-true}
use Rattle.zk_tree.specs.declared.expr.Expr.{Expr}
use Rattle.zk_tree.specs.declared.expr.Item.{Item}
use Rattle.zk_tree.specs.declared.name.Name.{Name}
use Rattle.zk_tree.specs.declared.place.Place.{Place}
use Rattle.zk_tree.specs.declared.stmt.Block.{Block, out-Block}
use Rattle.zk_tree.specs.declared.stmt.Init.{Init}
use Rattle.zk_tree.specs.declared.stmt.Init.TheVariants as init
use Rattle.zk_tree.specs.declared.stmt.Keys.{Keys}
use Rattle.zk_tree.specs.declared.stmt.Stmt.{Stmt, out-Stmt}
use Rattle.zk_tree.specs.declared.stmt.Stmt.TheOpen.{Stmt-F}
use Rattle.zk_tree.specs.declared.stmt.Stmt.TheOpen as stmt
use Rattle.zk_tree.specs.declared.types.Type.{«Type»}
use Rattle.zk_typed.specs.declared.rule.Rule.TheVariants as rule
use Rattle.zk_typed.specs.declared.script.action.Action.TheVariants as action
use Rattle.zk_typed.specs.declared.script.action.Left.TheVariants as left
use Rattle.zk_typed.specs.declared.script.stmt.Names.{Names as LoopNames}
use Rattle.zk_typed.specs.Checked.{Checked, ◌>>=◌, ◌>>◌, both, require, broken}
use Rattle.zk_typed.specs.Expressions.{expr_typed}
use Rattle.zk_typed.specs.Forms as form
use Rattle.zk_typed.specs.Operations.{same_type}
use Rattle.zk_typed.specs.Predefined as type
use Rattle.zk_typed.specs.Program.{Program}
use Rattle.zk_typed.specs.Resolving.{hushed}
use Rattle.zk_typed.specs.Statements.{Context, Locals, env_of, Stated, looping, check_in, place_of, init_typed, local_begin, local_value, local_type, type_for, local_whole, local_stated, event_args, do_with, breaks, Judge, stmts_typed, block_typed, no_stmt, if_typed, while_typed, key_names, for_name, for_names, for_over, wanted_names, types_or_unknown, as_names, is_vector, for_typed, stmt_to, body_typed}
use Rattle.zk_typed.specs.Types.{ValueType, Simple, Record, Table, Set, Vector}
use Rattle.zk_typed.specs.Typing.{Typed, typed, Env, LocalName, at, exprs, expr_place, Wanted, Nothing, Wants, wanted_of, local_named, found}
use Rattle.zk_typed.specs.Within.{depth_max}
use Rattle.zk_sound.specs.Holding.{key_types}
use Rattle.zk_sound.specs.Worlds.{Names, type_of}
use Rattle.zk_sound.specs.Having.{NamesTake, NameTakes, LoopTakes, StmtFits, StmtsFit}
use Rattle.zk_sound.specs.Agreeing.{EnvAgrees, StmtLogsFit, StmtsLogsFit, LocalsAgree, StandsIn}
use Rattle.zk_sound.proofs.Growth.{got_behind, got_last}
use Rattle.zk_sound.proofs.Same.{same_type_is}
use Rattle.zk_sound.proofs.Checks.{Sound, sound_bind, sound_after, sound_require, sound_both, sound_any, sound_is, sound_ok}
use Rattle.zk_sound.proofs.Formed.{types_of, IsForm, Formed, have_forms, at_type}
use Rattle.zk_sound.proofs.Constructed.{braces_sound}
use Rattle.zk_sound.proofs.Judged.{local_is, expr_sound}
use Rattle.zk_sound.proofs.Stated.{StmtForm, plain_form, EventForm, event_sound, add_sound, delete_sound, return_sound, expr_stmt_sound, print_sound}

abbrev pub StmtsForm : Program → Names → Option ValueType → form.Stmts → Type 0
StmtsForm program names gives list = StmtsLogsFit program list → StmtsFit program names gives list

-- a value of a local, with its type
abbrev with_init : Place → ℕ → Unit {0} × Typed → Checked (ValueType × form.Stmt)
with_init place number parts = Ok (parts.1.type, form.Do place (action.Assign (left.Local number)) (form.AndExpr parts.1.expr form.NoExpr))

module _ (program : Program) (names : Names) (gives : Option ValueType) where
  abbrev Fitting : form.Stmt → Type 0
  Fitting one = StmtForm program names gives one

  abbrev Second : ValueType × form.Stmt → Type 0
  Second pair = StmtForm program names gives pair.1

  fewer : (locals more : Locals) → LocalsAgree names (locals ++ more) → LocalsAgree names locals
  fewer locals more agree = record { of = λ number one of there is. agree.of number one of (got_behind locals more number one there) is }

  -- Locals -----------------------------------------------------------------------------------------------------------

  begin_form : (place : Place) (number : ℕ) (of : ValueType) → type_of names number ≡ Some of → Fitting (local_begin place number of)
  begin_form place number (Table keys item) known = λ logs. (Table keys item ∷ [], (([], tt, (keys, item, 0, refl, refl, refl, tt)), tt), (Table keys item, [], refl, (refl, known)))
  begin_form place number (Set keys) known = λ logs. (Set keys ∷ [], (([], tt, (keys, 0, refl, refl, refl)), tt), (Set keys, [], refl, (refl, known)))
  begin_form place number (Vector item) known = λ logs. (Vector item ∷ [], (([], tt, (item, 0, refl, refl)), tt), (Vector item, [], refl, (refl, known)))
  begin_form place number (Record record_no) known = λ logs. ([], tt, refl)
  begin_form place number (Simple one) known = λ logs. ([], tt, refl)

  value_form : (place : Place) (number : ℕ) (of : ValueType) (one : Typed) → IsForm program names one → one.type ≡ of → type_of names number ≡ Some of → Fitting (form.Do place (action.Assign (left.Local number)) (form.AndExpr one.expr form.NoExpr))
  value_form place number of one h is known = plain_form program names gives place (left.Local number) form.NoExpr of one (λ logs. ([], tt, (refl, known))) h is

  made_none : (place : Place) (number : ℕ) (m : Checked Typed) → Sound (Formed program names Nothing) m → ((of : ValueType) → type_for None (both (Ok tt) m >>= with_init place number) ≡ Ok of → type_of names number ≡ Some of)
      → Sound Second (both (Ok tt) m >>= with_init place number)
  made_none place number (Ok made) h known = value_form place number made.type made h.0 refl (known made.type refl)
  made_none place number (Err rules) h known = tt

  made_some : (place : Place) (number : ℕ) (t : Checked ValueType) (m : Checked Typed) → Sound (Formed program names (wanted_of t)) m → ((of : ValueType) → hushed t ≡ Ok of → type_of names number ≡ Some of)
      → Sound Second (both (t >> Ok tt) m >>= with_init place number)
  made_some place number (Ok of) (Ok made) h known = value_form place number of made h.0 h.1 (known of refl)
  made_some place number (Ok of) (Err rules) h known = tt
  made_some place number (Err rules) m h known = tt

module _ (program : Program) (names : Names) (gives : Option ValueType) (context : Context) (stands : StandsIn program gives context) where
  env_agrees : (locals : Locals) → LocalsAgree names locals → EnvAgrees program names (env_of context locals)
  env_agrees locals agree = record { scripts = stands.scripts; locals = agree.of; globals = stands.globals }

  loops : StandsIn program gives (looping context)
  loops = record { scripts = stands.scripts; globals = stands.globals; within = stands.within }

  pub init_sound : (locals : Locals) → LocalsAgree names locals → (wanted : Wanted) (one : Init) → Sound (Formed program names wanted) (init_typed (env_of context locals) wanted one)
  init_sound locals agree wanted (init.Value one) = expr_sound program names (env_of context locals) (env_agrees locals agree) wanted one
  init_sound locals agree wanted (init.Braces place values comma) = braces_sound program names (expr_typed (env_of context locals)) (expr_sound program names (env_of context locals) (env_agrees locals agree)) (env_of context locals) (at (env_of context locals) place) values wanted

  local_value_sound : (locals : Locals) → LocalsAgree names locals → (place : Place) (written : Option (Checked ValueType)) (one : Option Init) → ((of : ValueType) → type_for written (local_value context locals place written one) ≡ Ok of → type_of names (length locals) ≡ Some of)
      → Sound (Second program names gives) (local_value context locals place written one)
  local_value_sound locals agree place None None known = tt
  local_value_sound locals agree place (Some (Ok of)) None known = begin_form program names gives place (length locals) of (known of refl)
  local_value_sound locals agree place (Some (Err rules)) None known = tt
  local_value_sound locals agree place None (Some one) known = made_none program names gives place (length locals) (init_typed (env_of context locals) Nothing one) (init_sound locals agree Nothing one) known
  local_value_sound locals agree place (Some t) (Some one) known = made_some program names gives place (length locals) t (init_typed (env_of context locals) (wanted_of t) one) (init_sound locals agree (wanted_of t) one) known

  -- the rules of a `local` itself say nothing of its form
  whole_sound : (tree : Option «Type») (one : Option Init) (twice : Checked (Unit {0})) (made : Checked (ValueType × form.Stmt)) → Sound (Second program names gives) made → Sound (StmtForm program names gives) (local_whole tree one twice made)
  whole_sound None None twice made h = sound_bind (λ parts. Unit {0} × Second program names gives parts.1) (StmtForm program names gives) (both twice made) _
      (sound_both (λ done. Unit {0}) (Second program names gives) twice made (sound_any twice) h) (λ parts k. k.1)
  whole_sound None (Some init) twice made h = sound_bind (Second program names gives) (StmtForm program names gives) made _ h (λ pair k. sound_after (StmtForm program names gives) twice (Ok pair.1) k)
  whole_sound (Some tree) one twice made h = sound_bind (Second program names gives) (StmtForm program names gives) made _ h (λ pair k. sound_after (StmtForm program names gives) twice (Ok pair.1) k)

  -- a statement, where what is visible behind it has these types
  abbrev Well : Locals → Stated → Type 0
  Well locals one = LocalsAgree names one.locals → LocalsAgree names locals × Sound (StmtForm program names gives) one.made

  local_well : (locals : Locals) (place : ℕ) (name : Name) (tree : Option «Type») (one : Option Init) → Well locals (local_stated context locals place name tree one)
  local_well locals place name tree one = λ agree.
      let written = local_type context locals tree in
      let made = local_value context locals (place_of context place) written one in
      let twice = require (not (is_some (local_named name.text 0 locals))) rule.Twice (place_of context place) in
      let new : LocalName = record { name = name.text; type = type_for written made } in
      let before = fewer program names gives locals (new ∷ []) agree in (
        before,
        whole_sound tree one twice made
            (local_value_sound locals before (place_of context place) written one (λ of is. agree.of (length locals) new of (got_last locals new) is)),
      )

  -- The names of a `for` -----------------------------------------------------------------------------------------------

  abbrev OfGiven : Checked ValueType → ℕ → Type 0
  OfGiven given number = (of : ValueType) → given ≡ Ok of → type_of names number ≡ Some of

  for_name_well : (locals : Locals) (name : Name) (given : Checked ValueType) → LocalsAgree names (for_name context locals name given).1 → LocalsAgree names locals × Sound (OfGiven given) (for_name context locals name given).0
  for_name_well locals name given = by (local_named name.text 0 locals) refl
    where
      equal : (a b of : ValueType) → same_type a b ≡ true → given ≡ Ok b → given ≡ Ok of → a ≡ of
      equal a b of same one other = let there : b ≡ of = cc in same_type_is a b same ∙ there

      by : (there : Option (ℕ × Checked ValueType)) → local_named name.text 0 locals ≡ there → LocalsAgree names (for_name context locals name given).1 → LocalsAgree names locals × Sound (OfGiven given) (for_name context locals name given).0
      by None e = rw e (λ agree. (fewer program names gives locals (record { name = name.text; type = given } ∷ []) agree, λ of is. agree.of (length locals) (record { name = name.text; type = given }) of (got_last locals (record { name = name.text; type = given })) is))
      by (Some local) e = rw e (λ agree. (
        agree,
        sound_bind (λ types. (local.1 ≡ Ok types.0) × (given ≡ Ok types.1)) (OfGiven given) (both local.1 given) _ (sound_both (λ t. local.1 ≡ Ok t) (λ t. given ≡ Ok t) local.1 given (sound_is local.1) (sound_is given))
            (λ types h. sound_require (OfGiven given) (same_type types.0 types.1) rule.WrongType (place_of context name.place) (Ok local.0) (λ same of is.
            local_is program names (env_of context locals) (env_agrees locals agree) name.text local types.0 e h.0 ∙ ap Some (equal types.0 types.1 of same h.1 is))),
      ))

  -- as many numbers as names, of the types that are given
  abbrev AllGiven : List Name → List (Checked ValueType) → List ℕ → Type 0
  AllGiven list types numbers = (length numbers ≡ length list) × ((ts : List ValueType) → types ≡ map Ok ts → NamesTake names numbers ts)

  for_names_well : (list : List Name) (types : List (Checked ValueType)) (locals : Locals) → LocalsAgree names (for_names context locals list types).1 → LocalsAgree names locals × Sound (AllGiven list types) (for_names context locals list types).0
  for_names_well [] types locals agree = (agree, (refl, λ ts is. tt))
  for_names_well (name ∷ list) [] locals agree = (agree, tt)
  for_names_well (name ∷ list) (given ∷ types) locals agree =
      let first = for_name context locals name given in
      let rest = for_names_well list types first.1 agree in
      let head = for_name_well locals name given rest.0 in (
        head.0,
        sound_bind (λ pair. OfGiven given pair.0 × AllGiven list types pair.1) (AllGiven (name ∷ list) (given ∷ types)) (both first.0 (for_names context first.1 list types).0) _
            (sound_both (OfGiven given) (AllGiven list types) first.0 (for_names context first.1 list types).0 head.1 rest.1)
            (λ parts h. (ap suc h.1.0, takes parts.0 parts.1 h.0 h.1.1)),
      )
    where
      takes : (number : ℕ) (numbers : List ℕ) → OfGiven given number → ((ts : List ValueType) → types ≡ map Ok ts → NamesTake names numbers ts) → (ts : List ValueType) → given ∷ types ≡ map Ok ts → NamesTake names (number ∷ numbers) ts
      takes number numbers h more [] e = absurd cc
      takes number numbers h more (t ∷ ts) e = let first : given ≡ Ok t = cc in let others : types ≡ map Ok ts = cc in (h t first, more ts others)

-- Loops over entries and items -------------------------------------------------------------------------------------

-- the last of the numbers is that of the value
abbrev with_key : ℕ → LoopNames → LoopNames
with_key number loop = record loop { keys = number ∷ loop.keys }

abbrev split : List ℕ → LoopNames
split [] = record { keys = []; value = None }
split (last ∷ []) = record { keys = []; value = Some last }
split (number ∷ numbers) = with_key number (split numbers)

split_takes : (names : Names) (numbers : List ℕ) (ts : List ValueType) (v : ValueType) → length numbers ≡ suc (length ts) → NamesTake names numbers (ts ++ v ∷ []) → NamesTake names (split numbers).keys ts × NameTakes names (split numbers).value v
split_takes names [] ts v long h = absurd (omega (arith, long))
split_takes names (last ∷ []) [] v long h = (tt, h.0)
split_takes names (last ∷ []) (t ∷ ts) v long h = absurd (omega (arith, long))
split_takes names (a ∷ b ∷ numbers) [] v long h = absurd (omega (arith, long))
split_takes names (a ∷ b ∷ numbers) (t ∷ ts) v long (first, more) = let rest = split_takes names (b ∷ numbers) ts v (omega (arith, long)) more in ((first, rest.0), rest.1)

-- the types that a `for` over a type gives to its names
abbrev Given : Option Name → ValueType → List ValueType → Type 0
Given None (Table keys item) types = types ≡ key_types keys
Given None (Set keys) types = types ≡ key_types keys
Given None (Vector item) types = types ≡ type.count ∷ []
Given (Some name) (Table keys item) types = types ≡ key_types keys ++ item ∷ []
Given (Some name) (Vector item) types = types ≡ type.count ∷ item ∷ []
Given named of types = ⊥

last_length : {A : Type 0} (xs : List A) (x : A) → length (xs ++ x ∷ []) ≡ suc (length xs)
last_length [] x = refl
last_length (y ∷ xs) x = ap suc (last_length xs x)

module _ (names : Names) where
  loop_takes : (named : Option Name) (of : ValueType) (types : List ValueType) (numbers : List ℕ) → Given named of types → length numbers ≡ length types → NamesTake names numbers types → LoopTakes names (as_names named numbers) of
  loop_takes None (Table keys item) types numbers is long takes = (rw is at takes, tt)
  loop_takes None (Set keys) types numbers is long takes = (rw is at takes, refl)
  loop_takes None (Vector item) types numbers is long takes = (rw is at takes, tt)
  loop_takes (Some name) (Table keys item) types numbers is long takes = split_takes names numbers (key_types keys) item (long ∙ (ap length is ∙ last_length (key_types keys) item)) (rw is at takes)
  loop_takes (Some name) (Vector item) types numbers is long takes = split_takes names numbers (type.count ∷ []) item (long ∙ ap length is) (rw is at takes)
  loop_takes (Some name) (Set keys) types numbers is long takes = absurd is
  loop_takes None (Simple one) types numbers is long takes = absurd is
  loop_takes None (Record number) types numbers is long takes = absurd is
  loop_takes (Some name) (Simple one) types numbers is long takes = absurd is
  loop_takes (Some name) (Record number) types numbers is long takes = absurd is

-- the types that there are, with as many names
abbrev Overs : Keys → Option Name → ValueType → List ValueType → Type 0
Overs keys named of types = Given named of types × (length (wanted_names keys named) ≡ length types)

for_over_sound : (context : Context) (place : ℕ) (over_place : Place) (keys : Keys) (named : Option Name) (of : ValueType) (expr : form.Expr) → Sound (Overs keys named of) (for_over context place over_place keys named (typed of expr))
for_over_sound context place over_place keys None (Table types item) expr = sound_require (Overs keys None (Table types item)) (length (key_types types) == length (key_names keys)) rule.WrongType (place_of context place) (Ok (key_types types))
    (λ many. (refl, sym (eqb-true (length (key_types types)) (length (key_names keys)) many)))
for_over_sound context place over_place keys None (Set types) expr = sound_require (Overs keys None (Set types)) (length (key_types types) == length (key_names keys)) rule.WrongType (place_of context place) (Ok (key_types types))
    (λ many. (refl, sym (eqb-true (length (key_types types)) (length (key_names keys)) many)))
for_over_sound context place over_place keys None (Vector item) expr = sound_require (Overs keys None (Vector item)) (1 == length (key_names keys)) rule.WrongType (place_of context place) (Ok (type.count ∷ []))
    (λ many. (refl, sym (eqb-true 1 (length (key_names keys)) many)))
for_over_sound context place over_place keys (Some name) (Table types item) expr = sound_require (Overs keys (Some name) (Table types item)) (length (key_types types) == length (key_names keys)) rule.WrongType (place_of context place) (Ok (key_types types ++ item ∷ []))
    (λ many. (refl, last_length (key_names keys) name ∙ (ap suc (sym (eqb-true (length (key_types types)) (length (key_names keys)) many)) ∙ sym (last_length (key_types types) item))))
for_over_sound context place over_place keys (Some name) (Vector item) expr = sound_require (Overs keys (Some name) (Vector item)) (1 == length (key_names keys)) rule.WrongType (place_of context place) (Ok (type.count ∷ item ∷ []))
    (λ many. (refl, last_length (key_names keys) name ∙ ap suc (sym (eqb-true 1 (length (key_names keys)) many))))
for_over_sound context place over_place keys (Some name) (Set types) expr = sound_after (Overs keys (Some name) (Set types)) (require (length (key_types types) == length (key_names keys)) rule.WrongType (place_of context place)) (broken rule.WrongType (place_of context name.place)) tt
for_over_sound context place over_place keys named (Simple one) expr = tt
for_over_sound context place over_place keys named (Record number) expr = tt

-- Statements of parts ----------------------------------------------------------------------------------------------

module _ (program : Program) (names : Names) (gives : Option ValueType) (judge : Judge) (well : (context : Context) (stands : StandsIn program gives context) (locals : Locals) (one : Stmt) → Well program names gives context stands locals (judge context locals one)) where
  stmts_well : (context : Context) (stands : StandsIn program gives context) (list : List Stmt) (locals : Locals) → LocalsAgree names (stmts_typed judge context locals list).1 → LocalsAgree names locals × Sound (StmtsForm program names gives) (stmts_typed judge context locals list).0
  stmts_well context stands [] locals agree = (agree, λ logs. tt)
  stmts_well context stands (one ∷ others) locals agree =
      let first = judge context locals one in
      let rest = stmts_well context stands others first.locals agree in
      let head = well context stands locals one rest.0 in (
        head.0,
        sound_bind (λ pair. StmtForm program names gives pair.0 × StmtsForm program names gives pair.1) (StmtsForm program names gives) (both first.made (stmts_typed judge context first.locals others).0) _
            (sound_both (StmtForm program names gives) (StmtsForm program names gives) first.made (stmts_typed judge context first.locals others).0 head.1 rest.1) (λ parts h logs. (h.0 logs.0, h.1 logs.1)),
      )

  pub block_well : (context : Context) (stands : StandsIn program gives context) (locals : Locals) (block : Block) → Well program names gives context stands locals (block_typed judge context locals block)
  block_well context stands locals block = λ agree.
      let all = stmts_well context stands (out-Block block).stmts locals agree in
      (all.0, sound_bind (StmtsForm program names gives) (StmtForm program names gives) (stmts_typed judge context locals (out-Block block).stmts).0 (λ stmts. Ok (form.Block stmts)) all.1 (λ stmts h. h))

  tests : (context : Context) (stands : StandsIn program gives context) (locals : Locals) → LocalsAgree names locals → (test : Expr) → Sound (Formed program names (Wants type.bool)) (check_in context locals (Wants type.bool) test)
  tests context stands locals agree test = expr_sound program names (env_of context locals) (env_agrees program names gives context stands locals agree) (Wants type.bool) test

  abbrev Tested : Typed × (form.Stmt × form.Stmt) → Type 0
  Tested parts = Formed program names (Wants type.bool) parts.0 × (StmtForm program names gives parts.1.0 × StmtForm program names gives parts.1.1)

  if_form : (place : Place) (parts : Typed × (form.Stmt × form.Stmt)) → Tested parts → StmtForm program names gives (form.If place parts.0.expr parts.1.0 parts.1.1)
  if_form place parts h logs = (at_type program names parts.0 type.bool h.0.0 h.0.1 logs.0, h.1.0 logs.1, h.1.1 logs.2)

  if_well : (context : Context) (stands : StandsIn program gives context) (locals : Locals) (place : ℕ) (test : Expr) (one : Stmt) (other : Option Stmt) → Well program names gives context stands locals (if_typed judge context locals place test one other)
  if_well context stands locals place test one None = λ agree.
      let first = judge context locals one in
      let head = well context stands locals one agree in (
        head.0,
        sound_bind Tested (StmtForm program names gives) (both (check_in context locals (Wants type.bool) test) (both first.made (Ok no_stmt))) _
            (sound_both (Formed program names (Wants type.bool)) (λ pair. StmtForm program names gives pair.0 × StmtForm program names gives pair.1) (check_in context locals (Wants type.bool) test) (both first.made (Ok no_stmt)) (tests context stands locals head.0 test)
            (sound_both (StmtForm program names gives) (StmtForm program names gives) first.made (Ok no_stmt) head.1 (λ logs. tt)))
            (λ parts h. if_form (place_of context place) parts h),
      )
  if_well context stands locals place test one (Some other) = λ agree.
      let first = judge context locals one in
      let second = judge context first.locals other in
      let rest = well context stands first.locals other agree in
      let head = well context stands locals one rest.0 in (
        head.0,
        sound_bind Tested (StmtForm program names gives) (both (check_in context locals (Wants type.bool) test) (both first.made second.made)) _
            (sound_both (Formed program names (Wants type.bool)) (λ pair. StmtForm program names gives pair.0 × StmtForm program names gives pair.1) (check_in context locals (Wants type.bool) test) (both first.made second.made) (tests context stands locals head.0 test)
            (sound_both (StmtForm program names gives) (StmtForm program names gives) first.made second.made head.1 rest.1))
            (λ parts h. if_form (place_of context place) parts h),
      )

  while_well : (context : Context) (stands : StandsIn program gives context) (locals : Locals) (place : ℕ) (test : Expr) (body : Stmt) → Well program names gives context stands locals (while_typed judge context locals place test body)
  while_well context stands locals place test body = λ agree.
      let inner = judge (looping context) locals body in
      let head = well (looping context) (loops program names gives context stands) locals body agree in (
        head.0,
        sound_bind (λ pair. Formed program names (Wants type.bool) pair.0 × StmtForm program names gives pair.1) (StmtForm program names gives) (both (check_in context locals (Wants type.bool) test) inner.made) _
            (sound_both (Formed program names (Wants type.bool)) (StmtForm program names gives) (check_in context locals (Wants type.bool) test) inner.made (tests context stands locals head.0 test) head.1)
            (λ parts h logs. (at_type program names parts.0 type.bool h.0.0 h.0.1 logs.0, h.1 logs.1)),
      )

  -- the form of a loop by what it goes over
  loop_form : (place : Place) (named : Option Name) (of : ValueType) (expr : form.Expr) (types : List ValueType) (numbers : List ℕ) (made : form.Stmt) → IsForm program names (typed of expr) → Given named of types → length numbers ≡ length types
      → NamesTake names numbers types → StmtForm program names gives made
      → StmtForm program names gives (if is_vector of then form.ForIndexes place (as_names named numbers) expr made else form.ForKeys place (as_names named numbers) expr made)
  loop_form place named (Table keys item) expr types numbers made h is long takes inner = λ logs. (Table keys item, tt, h logs.0, loop_takes names named (Table keys item) types numbers is long takes, inner logs.1)
  loop_form place named (Set keys) expr types numbers made h is long takes inner = λ logs. (Set keys, tt, h logs.0, loop_takes names named (Set keys) types numbers is long takes, inner logs.1)
  loop_form place named (Vector item) expr types numbers made h is long takes inner = λ logs. (item, h logs.0, loop_takes names named (Vector item) types numbers is long takes, inner logs.1)
  loop_form place None (Simple one) expr types numbers made h is long takes inner = absurd is
  loop_form place (Some name) (Simple one) expr types numbers made h is long takes inner = absurd is
  loop_form place None (Record number) expr types numbers made h is long takes inner = absurd is
  loop_form place (Some name) (Record number) expr types numbers made h is long takes inner = absurd is

  over_pair : (keys : Keys) (named : Option Name) (one : Checked Typed) (rule : Typed → Checked (List ValueType)) → Sound (Formed program names Nothing) one → ((t : Typed) → Sound (Overs keys named t.type) (rule t))
      → Sound (λ pair. IsForm program names pair.0 × Overs keys named pair.0.type pair.1 × ((one >>= rule) ≡ Ok pair.1)) (both one (one >>= rule))
  over_pair keys named (Err rules) rule h k = tt
  over_pair keys named (Ok t) rule h k = by (rule t) refl (k t)
    where
      by : (r : Checked (List ValueType)) → rule t ≡ r → Sound (Overs keys named t.type) r → Sound (λ pair. IsForm program names pair.0 × Overs keys named pair.0.type pair.1 × (rule t ≡ Ok pair.1)) (both (Ok t) r)
      by (Ok types) same over = (h.0, over, same)
      by (Err rules) same over = tt

  for_well : (context : Context) (stands : StandsIn program gives context) (locals : Locals) (place : ℕ) (keys : Keys) (named : Option Name) (over : Expr) (body : Stmt) → Well program names gives context stands locals (for_typed judge context locals place keys named over body)
  for_well context stands locals place keys named over body = λ agree.
      let one = check_in context locals Nothing over in
      let rule = for_over context place (expr_place (env_of context locals) over) keys named in
      let list = wanted_names keys named in
      let types = one >>= rule in
      let given = for_names context locals list (types_or_unknown list types) in
      let inner = judge (looping context) given.1 body in
      let head = well (looping context) (loops program names gives context stands) given.1 body agree in
      let named_well = for_names_well program names gives context stands list (types_or_unknown list types) locals head.0 in
      let over_sound : Sound (Formed program names Nothing) one = expr_sound program names (env_of context locals) (env_agrees program names gives context stands locals named_well.0) Nothing over in (
        named_well.0,
        sound_bind
            (λ parts. (IsForm program names parts.0.0 × Overs keys named parts.0.0.type parts.0.1 × (types ≡ Ok parts.0.1)) × (AllGiven program names gives context stands list (types_or_unknown list types) parts.1.0 × StmtForm program names gives parts.1.1))
            (StmtForm program names gives) (both (both one types) (both given.0 inner.made)) _
            (sound_both (λ pair. IsForm program names pair.0 × Overs keys named pair.0.type pair.1 × (types ≡ Ok pair.1)) (λ pair. AllGiven program names gives context stands list (types_or_unknown list types) pair.0 × StmtForm program names gives pair.1) (both one types) (both given.0 inner.made)
            (over_pair keys named one rule over_sound (λ t. for_over_sound context place (expr_place (env_of context locals) over) keys named t.type t.expr))
            (sound_both (AllGiven program names gives context stands list (types_or_unknown list types)) (StmtForm program names gives) given.0 inner.made named_well.1 head.1))
            (λ parts h. loop_form (place_of context place) named parts.0.0.type parts.0.0.expr parts.0.1 parts.1.0 parts.1.1 h.0.0 h.0.1.0 (h.1.0.0 ∙ h.0.1.1) (h.1.0.1 parts.0.1 (ap (types_or_unknown list) h.0.2)) h.1.1),
      )

-- Statements -------------------------------------------------------------------------------------------------------

module _ (program : Program) (names : Names) (gives : Option ValueType) where
  module _ (env : Env) (agree : EnvAgrees program names env) where
    queue_sound : (place where_at : Place) (name : Name) (items : List Item) → Sound (StmtForm program names gives) (event_args (expr_typed env) env where_at name items (found env name) >>= (λ parts. do_with place (action.Queue parts.0) (exprs parts.1)))
    queue_sound place where_at name items = sound_bind (EventForm program names gives env agree) (StmtForm program names gives) (event_args (expr_typed env) env where_at name items (found env name)) (λ parts. do_with place (action.Queue parts.0) (exprs parts.1)) (event_sound program names gives env agree where_at name items)
        (λ parts h logs. let (types, known, forms) = h in (types_of parts.1, have_forms program names parts.1 forms.0 logs, known ∙ ap Some (sym forms.1)))

    schedule_sound : (place where_at : Place) (delay : Expr) (name : Name) (items : List Item) → Sound (StmtForm program names gives) (both (expr_typed env (Wants type.interval) delay) (event_args (expr_typed env) env where_at name items (found env name)) >>= (λ parts. do_with place (action.Schedule parts.1.0) (exprs (parts.0 ∷ parts.1.1))))
    schedule_sound place where_at delay name items = sound_bind (λ pair. Formed program names (Wants type.interval) pair.0 × EventForm program names gives env agree pair.1) (StmtForm program names gives)
        (both (expr_typed env (Wants type.interval) delay) (event_args (expr_typed env) env where_at name items (found env name))) (λ parts. do_with place (action.Schedule parts.1.0) (exprs (parts.0 ∷ parts.1.1)))
        (sound_both (Formed program names (Wants type.interval)) (EventForm program names gives env agree) (expr_typed env (Wants type.interval) delay) (event_args (expr_typed env) env where_at name items (found env name)) (expr_sound program names env agree (Wants type.interval) delay) (event_sound program names gives env agree where_at name items))
        (λ parts h logs. let (types, known, forms) = h.1 in
        (type.interval ∷ types_of parts.1.1, (at_type program names parts.0 type.interval h.0.0 h.0.1 logs.0, have_forms program names parts.1.1 forms.0 logs.1), (types_of parts.1.1, refl, known ∙ ap Some (sym forms.1))))

  abbrev JudgesWell : Judge → Type 0
  JudgesWell judge = (context : Context) (stands : StandsIn program gives context) (locals : Locals) (one : Stmt) → Well program names gives context stands locals (judge context locals one)

  form_well : (depth : ℕ) → JudgesWell (stmt_to depth) → (context : Context) (stands : StandsIn program gives context) (locals : Locals) (one : Stmt) (f : Stmt-F Stmt Block) → out-Stmt one ≡ f → Well program names gives context stands locals (stmt_to (suc depth) context locals one)
  form_well depth well context stands locals one (stmt.Block block) is = rw is (block_well program names gives (stmt_to depth) well context stands locals block)
  form_well depth well context stands locals one (stmt.Empty place) is = rw is (λ agree. (agree, λ logs. tt))
  form_well depth well context stands locals one (stmt.If place test first) is = rw is (if_well program names gives (stmt_to depth) well context stands locals place test first None)
  form_well depth well context stands locals one (stmt.IfElse place test first second) is = rw is (if_well program names gives (stmt_to depth) well context stands locals place test first (Some second))
  form_well depth well context stands locals one (stmt.While place test body) is = rw is (while_well program names gives (stmt_to depth) well context stands locals place test body)
  form_well depth well context stands locals one (stmt.For place keys value over body) is = rw is (for_well program names gives (stmt_to depth) well context stands locals place keys value over body)
  form_well depth well context stands locals one (stmt.Local place name tree given) is = rw is (local_well program names gives context stands locals place name tree given)
  form_well depth well context stands locals one (stmt.Print place values) is = rw is (λ agree. (agree, print_sound program names gives (env_of context locals) (env_agrees program names gives context stands locals agree) (place_of context place) values))
  form_well depth well context stands locals one (stmt.Event place name items) is = rw is (λ agree. (agree, queue_sound (env_of context locals) (env_agrees program names gives context stands locals agree) (place_of context place) (place_of context place) name items))
  form_well depth well context stands locals one (stmt.Schedule place delay name items) is = rw is (λ agree. (agree, schedule_sound (env_of context locals) (env_agrees program names gives context stands locals agree) (place_of context place) (place_of context place) delay name items))
  form_well depth well context stands locals one (stmt.Add place element) is = rw is (λ agree. (agree, add_sound program names gives (env_of context locals) (env_agrees program names gives context stands locals agree) (place_of context place) element))
  form_well depth well context stands locals one (stmt.Delete place element) is = rw is (λ agree. (agree, delete_sound program names gives (env_of context locals) (env_agrees program names gives context stands locals agree) (place_of context place) element))
  form_well depth well context stands locals one (stmt.Return place value) is = rw is (λ agree. (agree, return_sound program names gives (env_of context locals) (env_agrees program names gives context stands locals agree) context context.within (place_of context place) value stands.within))
  form_well depth well context stands locals one (stmt.Next place) is = rw is (λ agree. (agree, sound_require (StmtForm program names gives) context.in_loop rule.Break (place_of context place) (Ok (form.Next (place_of context place))) (λ e logs. tt)))
  form_well depth well context stands locals one (stmt.Break place) is = rw is (λ agree. (agree, sound_require (StmtForm program names gives) (breaks context) rule.Break (place_of context place) (Ok (form.Break (place_of context place))) (λ e logs. tt)))
  form_well depth well context stands locals one (stmt.Expr value) is = rw is (λ agree. (agree, expr_stmt_sound program names gives (env_of context locals) (env_agrees program names gives context stands locals agree) value))

  pub stmt_to_well : (depth : ℕ) → JudgesWell (stmt_to depth)
  stmt_to_well zero context stands locals one = λ agree. (agree, tt)
  stmt_to_well (suc depth) context stands locals one = form_well depth (stmt_to_well depth) context stands locals one (out-Stmt one) refl

-- the typed form of a body has the types of its place
pub body_form : (program : Program) (names : Names) (gives : Option ValueType) (context : Context) (locals : Locals) (block : Block) (made : form.Stmt) → StandsIn program gives context → LocalsAgree names (body_typed context locals block).locals
    → (body_typed context locals block).made ≡ Ok made → StmtLogsFit program made → StmtFits program names gives made
body_form program names gives context locals block made stands agree is logs =
    sound_ok (StmtForm program names gives) (body_typed context locals block).made made is (block_well program names gives (stmt_to depth_max) (stmt_to_well program names gives depth_max) context stands locals block agree).1 logs
