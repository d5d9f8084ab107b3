-- The code of a form, where it lies in a list of operations, stands there.
use Rattle.std.proofs.Common.{◌≡◌, ℕ, ◌+◌, ◌<◌, true, false, List, [], ◌∷◌, ◌++◌, length, Option, Some, None, refl, ap, ◌∙◌, subst, arith, append_assoc, length-append}
use Rattle.std.proofs.Math.Seq.{get_or-append_seam}
use Rattle.std.proofs.lemmas.Option.{slice_get-get_or}
use Rattle.zk_tree.specs.declared.place.Place.{Place}
use Rattle.zk_tree.specs.Value as plain
use Rattle.zk_typed.specs.declared.script.action.Action.TheVariants as action
use Rattle.zk_typed.specs.declared.script.action.Left.TheVariants as side
use Rattle.zk_typed.specs.declared.script.primitive.Primitive.TheVariants as primitive
use Rattle.zk_typed.specs.Forms.{Expr, Exprs, Givens, Stmt, Stmts}
use Rattle.zk_typed.specs.Forms as form
use Rattle.zk_typed.specs.Program.{Global}
use Rattle.zk_lower.specs.Code.{Op}
use Rattle.zk_lower.specs.Code as op
use Rattle.zk_lower.specs.Lowering.{count, field_numbers, choice, expr_code, exprs_code, givens_code, Exits, further, given_code, stmt_code, stmts_code, body_code, added_code, initial_code}
use Rattle.zk_lower.proofs.Ending.{AddedAt, InitialAt}
use Rattle.zk_lower.proofs.Standing.{At, Stretch, OneAt, ThenAt, ChoiceAt, ExprAt, ExprsAt, GivensAt, Ways, TickAt, GivenAt, JumpAt, TurnsAt, ForAt, StmtAt, StmtsAt, BodyAt}

-- operations one after another from a place on
abbrev pub HasAt : List Op → ℕ → List Op → Type 0
HasAt ops at [] = Unit {0}
HasAt ops at (one ∷ others) = At ops one at × HasAt ops (at + 1) others

module _ (ops : List Op) where
  pub has_front : (at : ℕ) (a b : List Op) → HasAt ops at (a ++ b) → HasAt ops at a
  has_front at [] b h = tt
  has_front at (one ∷ a) b h = (h.0, has_front (at + 1) a b h.1)

  pub has_back : (at : ℕ) (a b : List Op) → HasAt ops at (a ++ b) → HasAt ops (at + length a) b
  has_back at [] b h = let e : at ≡ at + 0 = omega arith in subst (λ n. HasAt ops n b) e h
  has_back at (one ∷ a) b h =
      let e : at + 1 + length a ≡ at + length (one ∷ a) = omega arith in
      subst (λ n. HasAt ops n b) e (has_back (at + 1) a b h.1)

pub has_all : (list before : List Op) → HasAt (before ++ list) (length before) list
has_all [] before = tt
has_all (one ∷ list) before =
    let within : length before < length (before ++ one ∷ list) = omega (arith, length-append before (one ∷ list)) in
    let here = slice_get-get_or (before ++ one ∷ list) (length before) one within ∙ ap Some (get_or-append_seam before one list one) in
    let n : length (before ++ one ∷ []) ≡ length before + 1 = omega (arith, length-append before (one ∷ [])) in
    let others = has_all list (before ++ one ∷ []) in
    let others' = subst (λ all. HasAt all (length (before ++ one ∷ [])) list) (append_assoc before (one ∷ []) list) others in
    (here, subst (λ m. HasAt (before ++ one ∷ list) m list) n others')

module _ (ops : List Op) where
  -- wherever the code lies, the stretch stands
  abbrev pub Lies : List Op → Stretch → Type 0
  Lies code Stands = (at to : ℕ) → at + length code ≡ to → HasAt ops at code → Stands at to

  one_lies : (one : Op) → Lies (one ∷ []) (OneAt ops one)
  one_lies one at to e h = record { here = h.0; end = e }

  none_lies : Lies [] (λ at to. at ≡ to)
  none_lies at to e h = let same : at ≡ to = omega (arith, e) in same

  then_lies : (a b : List Op) (First Second : Stretch) → Lies a First → Lies b Second → Lies (a ++ b) (ThenAt First Second)
  then_lies a b First Second first second at to e h = record {
    mid = at + length a;
    first = first at (at + length a) refl (has_front ops at a b h);
    second = second (at + length a) to (omega (arith, e, length-append a b)) (has_back ops at a b h);
  }

  -- one of two stretches that end at the same place
  choice_at : (place : Place) (met otherwise : List Op) (Met Otherwise : Stretch) (at to : ℕ)
      → ((from end : ℕ) → from + length met ≡ end → end + (length otherwise + 1) ≡ to → HasAt ops from met → Met from end)
      → ((from : ℕ) → from + length otherwise ≡ to → HasAt ops from otherwise → Otherwise from to)
      → at + length (choice place met otherwise) ≡ to → HasAt ops at (choice place met otherwise) → ChoiceAt ops place Met Otherwise at to
  choice_at place met otherwise Met Otherwise at to met_lies otherwise_lies e h =
      let n : length (choice place met otherwise) ≡ length met + length otherwise + 2 = omega (arith, length-append met (op.Jump (length otherwise) ∷ otherwise)) in
      let back = has_back ops (at + 1) met (op.Jump (length otherwise) ∷ otherwise) h.1 in
      record {
        over = length met + 1;
        decides = h.0;
        met_from = at + 1;
        goes_on = refl;
        met_to = at + 1 + length met;
        met = met_lies (at + 1) (at + 1 + length met) refl (omega (arith, e, n)) (has_front ops (at + 1) met (op.Jump (length otherwise) ∷ otherwise) h.1);
        skip = length otherwise;
        jumps = back.0;
        joins = omega (arith, e, n);
        else_from = at + 1 + length met + 1;
        goes_over = omega arith;
        otherwise = otherwise_lies (at + 1 + length met + 1) (omega (arith, e, n)) back.1;
      }

  choice_lies : (place : Place) (met otherwise : List Op) (Met Otherwise : Stretch) → Lies met Met → Lies otherwise Otherwise → Lies (choice place met otherwise) (ChoiceAt ops place Met Otherwise)
  choice_lies place met otherwise Met Otherwise met_lies otherwise_lies at to e h =
      choice_at place met otherwise Met Otherwise at to (λ from end same far has. met_lies from end same has) (λ from same has. otherwise_lies from to same has) e h

  mutual
    pub expr_lies : (place : Place) (one : Expr) → Lies (expr_code place one) (ExprAt ops place one)
    expr_lies place (form.Constant value) = one_lies (op.Push value)
    expr_lies place (form.Local number) = one_lies (op.Local place number)
    expr_lies place (form.Global number) = one_lies (op.Global place number)
    expr_lies place (form.Apply primitive operands) = then_lies _ _ _ _ (exprs_lie place operands) (one_lies (op.Apply place primitive (count operands)))
    expr_lies place (form.New number given) = then_lies _ _ _ _ (givens_lie place given) (one_lies (op.New place number (field_numbers given)))
    expr_lies place (form.And left right) = then_lies _ _ _ _ (expr_lies place left)
        (choice_lies place (expr_code place right) (op.Push (plain.Bool false) ∷ []) (ExprAt ops place right) (OneAt ops (op.Push (plain.Bool false)))
        (expr_lies place right) (one_lies (op.Push (plain.Bool false))))
    expr_lies place (form.Or left right) = then_lies _ _ _ _ (expr_lies place left)
        (choice_lies place (op.Push (plain.Bool true) ∷ []) (expr_code place right) (OneAt ops (op.Push (plain.Bool true))) (ExprAt ops place right)
        (one_lies (op.Push (plain.Bool true))) (expr_lies place right))
    expr_lies place (form.Choice test met otherwise) = then_lies _ _ _ _ (expr_lies place test)
        (choice_lies place (expr_code place met) (expr_code place otherwise) (ExprAt ops place met) (ExprAt ops place otherwise)
        (expr_lies place met) (expr_lies place otherwise))
    expr_lies place (form.Call function operands) = then_lies _ _ _ _ (exprs_lie place operands) (one_lies (op.Call place function (count operands)))
    expr_lies place (form.Hook hook operands) = then_lies _ _ _ _ (exprs_lie place operands) (one_lies (op.Hook place hook (count operands)))
    expr_lies place (form.Write log row) = then_lies _ _ _ _ (expr_lies place row) (one_lies (op.Write place log))

    pub exprs_lie : (place : Place) (list : Exprs) → Lies (exprs_code place list) (ExprsAt ops place list)
    exprs_lie place form.NoExpr = none_lies
    exprs_lie place (form.AndExpr first others) = then_lies _ _ _ _ (expr_lies place first) (exprs_lie place others)

    pub givens_lie : (place : Place) (list : Givens) → Lies (givens_code place list) (GivensAt ops place list)
    givens_lie place form.NoField = none_lies
    givens_lie place (form.AndField field value others) = then_lies _ _ _ _ (expr_lies place value) (givens_lie place others)
    givens_lie place (form.AndWire field «from» read others) = then_lies _ _ _ _ (expr_lies place «from»)
        (then_lies (op.Apply place (primitive.Field read) 1 ∷ []) _ _ _ (one_lies (op.Apply place (primitive.Field read) 1)) (givens_lie place others))

  -- a unit, and then
  tick_lies : (place : Place) (code : List Op) (Rest : Stretch) → Lies code Rest → Lies (op.Tick place ∷ code) (TickAt ops place Rest)
  tick_lies place code Rest lies = then_lies (op.Tick place ∷ []) code (OneAt ops (op.Tick place)) Rest (one_lies (op.Tick place)) lies

  given_lies : (place : Place) (one : Option Expr) → Lies (given_code place one) (GivenAt ops place one)
  given_lies place None = one_lies op.End
  given_lies place (Some one) = then_lies _ _ _ _ (expr_lies place one) (one_lies op.Give)

  jump_lies : (over target at to : ℕ) → at + 1 ≡ to → to + over ≡ target → HasAt ops at (op.Jump over ∷ []) → JumpAt ops target at to
  jump_lies over target at to e lands h = record { over = over; here = h.0; lands = omega (arith, e, lands); end = e }

  turns_lie : (place : Place) (test body : List Op) (Test : Stretch) (Body : Ways → Stretch) → Lies test Test
      → ((at to : ℕ) (ways : Ways) → at + length body ≡ to → to + (length test + 1) ≡ ways.«break» → to ≡ ways.next → HasAt ops at body → Body ways at to)
      → Lies (op.Jump (length body) ∷ (body ++ (test ++ op.Turn place (length test + length body) ∷ []))) (TurnsAt ops place Test Body)
  turns_lie place test body Test Body test_lies body_lies at to e h =
      let back = has_back ops (at + 1) body (test ++ op.Turn place (length test + length body) ∷ []) h.1 in
      let last = has_back ops (at + 1 + length body) test (op.Turn place (length test + length body) ∷ []) back in
      let n : length (body ++ (test ++ op.Turn place (length test + length body) ∷ [])) ≡ length body + length test + 1 = omega (arith, length-append body (test ++ op.Turn place (length test + length body) ∷ []), length-append test (op.Turn place (length test + length body) ∷ [])) in
      record {
        over = length body;
        jumps = h.0;
        test_from = at + 1 + length body;
        lands = refl;
        body_from = at + 1;
        body = body_lies (at + 1) (at + 1 + length body) (record { «break» = to; next = at + 1 + length body }) refl (omega (arith, e, n)) refl (has_front ops (at + 1) body _ h.1);
        turn_at = at + 1 + length body + length test;
        test = test_lies (at + 1 + length body) (at + 1 + length body + length test) refl (has_front ops (at + 1 + length body) test _ back);
        back = length test + length body;
        turns = last.0;
        leads_back = omega arith;
        end = omega (arith, e, n);
      }

  for_lies : (begin : Op) (next : ℕ → Op) (body : List Op) (Body : Ways → Stretch)
      → ((at to : ℕ) (ways : Ways) → at + length body ≡ to → to + 1 ≡ ways.«break» → to ≡ ways.next → HasAt ops at body → Body ways at to)
      → Lies (begin ∷ op.Jump (length body) ∷ (body ++ next (length body) ∷ op.EndLoop ∷ [])) (ForAt ops begin next Body)
  for_lies begin next body Body body_lies at to e h =
      let back = has_back ops (at + 1 + 1) body (next (length body) ∷ op.EndLoop ∷ []) h.1.1 in
      let n : length (body ++ next (length body) ∷ op.EndLoop ∷ []) ≡ length body + 2 = omega (arith, length-append body (next (length body) ∷ op.EndLoop ∷ [])) in
      record {
        begins = h.0;
        jump_at = at + 1;
        goes_on = refl;
        over = length body;
        jumps = h.1.0;
        next_at = at + 1 + 1 + length body;
        lands = omega arith;
        back = length body;
        turns = back.0;
        body_from = at + 1 + 1;
        leads_back = omega arith;
        end_at = at + 1 + 1 + length body + 1;
        behind = refl;
        body = body_lies (at + 1 + 1) (at + 1 + 1 + length body) (record { «break» = at + 1 + 1 + length body + 1; next = at + 1 + 1 + length body }) refl refl refl (has_front ops (at + 1 + 1) body _ h.1.1);
        ends = back.1.0;
        end = omega (arith, e, n);
        leaves = omega (arith, e, n);
      }

  mutual
    pub stmt_lies : (one : Stmt) (exits : Exits) (ways : Ways) (at to : ℕ) → at + length (stmt_code exits one) ≡ to → to + exits.«break» ≡ ways.«break» → to + exits.next ≡ ways.next → HasAt ops at (stmt_code exits one) → StmtAt ops one ways at to
    stmt_lies (form.Block stmts) exits ways at to e b n h = stmts_lie stmts exits ways at to e b n h
    stmt_lies (form.Do place action operands) exits ways at to e b n h = tick_lies place _ _ (then_lies _ _ _ _ (exprs_lie place operands) (one_lies (op.Do place action (count operands)))) at to e h
    stmt_lies (form.Move place target number «from» read) exits ways at to e b n h = tick_lies place _ _ (then_lies _ _ _ _ (expr_lies place «from»)
        (then_lies (op.Apply place (primitive.Field read) 1 ∷ []) _ _ _ (one_lies (op.Apply place (primitive.Field read) 1))
        (then_lies _ _ _ _ (expr_lies place target) (one_lies (op.Do place (action.Assign (side.Field number)) 2))))) at to e h
    stmt_lies (form.Evaluate place value) exits ways at to e b n h = tick_lies place _ _ (then_lies _ _ _ _ (expr_lies place value) (one_lies op.Drop)) at to e h
    stmt_lies (form.Perform place function operands) exits ways at to e b n h = tick_lies place _ _ (then_lies _ _ _ _ (exprs_lie place operands) (one_lies (op.Perform place function (count operands)))) at to e h
    stmt_lies (form.If place test met otherwise) exits ways at to e b n h =
        let t = expr_code place test in
        let o = stmt_code exits otherwise in
        let m = stmt_code (further (length o + 1) exits) met in
        let all : length (t ++ choice place m o) ≡ length t + length (choice place m o) = length-append t (choice place m o) in
        record {
          mid = at + 1;
          first = record { here = h.0; end = refl };
          second = record {
            mid = at + 1 + length t;
            first = expr_lies place test (at + 1) (at + 1 + length t) refl (has_front ops (at + 1) t (choice place m o) h.1);
            second = choice_at place m o (StmtAt ops met ways) (StmtAt ops otherwise ways) (at + 1 + length t) to
                (λ from end same far has. stmt_lies met (further (length o + 1) exits) ways from end same (omega (arith, far, b)) (omega (arith, far, n)) has)
                (λ from same has. stmt_lies otherwise exits ways from to same b n has)
                (omega (arith, e, all))
                (has_back ops (at + 1) t (choice place m o) h.1);
          };
        }
    stmt_lies (form.While place test body) exits ways at to e b n h =
        let t = expr_code place test in
        let o = stmt_code (record { «break» = length t + 1; next = 0 }) body in
        tick_lies place (op.Jump (length o) ∷ (o ++ (t ++ op.Turn place (length t + length o) ∷ []))) _ (turns_lie place t o (ExprAt ops place test) (StmtAt ops body) (expr_lies place test)
        (λ from end inner same out again has. stmt_lies body (record { «break» = length t + 1; next = 0 }) inner from end same out (omega (arith, again)) has)) at to e h
    stmt_lies (form.ForKeys place names over body) exits ways at to e b n h = tick_lies place _ _ (then_lies _ _ _ _ (expr_lies place over)
        (for_lies (op.BeginKeys place) (op.NextKey place names) (stmt_code (record { «break» = 1; next = 0 }) body) (StmtAt ops body)
        (λ from end inner same out again has. stmt_lies body (record { «break» = 1; next = 0 }) inner from end same out (omega (arith, again)) has))) at to e h
    stmt_lies (form.ForIndexes place names over body) exits ways at to e b n h = tick_lies place _ _ (then_lies _ _ _ _ (expr_lies place over)
        (for_lies (op.BeginIndexes place) (op.NextIndex place names) (stmt_code (record { «break» = 1; next = 0 }) body) (StmtAt ops body)
        (λ from end inner same out again has. stmt_lies body (record { «break» = 1; next = 0 }) inner from end same out (omega (arith, again)) has))) at to e h
    stmt_lies (form.Return place value) exits ways at to e b n h = tick_lies place _ _ (given_lies place value) at to e h
    stmt_lies (form.Next place) exits ways at to e b n h = record { mid = at + 1; first = record { here = h.0; end = refl }; second = jump_lies exits.next ways.next (at + 1) to (omega (arith, e)) n h.1 }
    stmt_lies (form.Break place) exits ways at to e b n h = record { mid = at + 1; first = record { here = h.0; end = refl }; second = jump_lies exits.«break» ways.«break» (at + 1) to (omega (arith, e)) b h.1 }

    pub stmts_lie : (list : Stmts) (exits : Exits) (ways : Ways) (at to : ℕ) → at + length (stmts_code exits list) ≡ to → to + exits.«break» ≡ ways.«break» → to + exits.next ≡ ways.next → HasAt ops at (stmts_code exits list) → StmtsAt ops list ways at to
    stmts_lie form.NoStmt exits ways at to e b n h = none_lies at to e h
    stmts_lie (form.AndStmt first others) exits ways at to e b n h =
        let o = stmts_code exits others in
        let f = stmt_code (further (length o) exits) first in
        let all : length (f ++ o) ≡ length f + length o = length-append f o in
        record {
          mid = at + length f;
          first = stmt_lies first (further (length o) exits) ways at (at + length f) refl (omega (arith, e, b, all)) (omega (arith, e, n, all)) (has_front ops at f o h);
          second = stmts_lie others exits ways (at + length f) to (omega (arith, e, all)) b n (has_back ops at f o h);
        }

-- Bodies -----------------------------------------------------------------------------------------------------------

module _ (ops : List Op) where
  pub body_lies : (body : Stmt) (at : ℕ) → HasAt ops at (body_code body) → BodyAt ops body at
  body_lies body at h =
      let code = stmt_code (record { «break» = 1; next = 0 }) body in
      let back = has_back ops at code (op.End ∷ op.Break ∷ []) h in
      record {
        end_at = at + length code;
        break_at = at + length code + 1;
        ends = back.0;
        breaks = back.1.0;
        stands = stmt_lies ops body (record { «break» = 1; next = 0 }) (record { «break» = at + length code + 1; next = at + length code }) at (at + length code) refl refl (omega arith) (has_front ops at code (op.End ∷ op.Break ∷ []) h);
      }

  added_lies : (place : Place) (list : List Expr) → Lies ops (added_code place list) (AddedAt ops place list)
  added_lies place [] = none_lies ops
  added_lies place (one ∷ others) = then_lies ops _ _ _ _ (expr_lies ops place one) (then_lies ops (op.Sum place ∷ []) _ _ _ (one_lies ops (op.Sum place)) (added_lies place others))

  pub initial_lies : (number : ℕ) (global : Global) (initial : Expr) → Lies ops (initial_code number global (Some initial)) (InitialAt ops number global initial)
  initial_lies number global initial = then_lies ops _ _ _ _ (expr_lies ops global.place initial) (then_lies ops _ _ _ _ (added_lies global.place global.added)
      (then_lies ops (op.Do global.place (action.Assign (side.Global number)) 1 ∷ []) (op.End ∷ []) _ _ (one_lies ops (op.Do global.place (action.Assign (side.Global number)) 1)) (one_lies ops op.End)))
