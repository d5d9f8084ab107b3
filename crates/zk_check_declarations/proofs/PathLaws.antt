-- Paths of logs: a stream or filter agrees with those before it where it has the columns that were first at its path, and
-- no others stand there.
use Rattle.std.proofs.Common.{◌≡◌, ℕ, ◌+◌, ◌<◌, ◌≤◌, Bool, true, false, not, ◌&&◌, ◌||◌, if◌then◌else◌, List, [], ◌∷◌, ◌++◌, length, map, flat_map, take, drop, get_or, Option, Some, None, Ok, Err, Result, refl, ap, sym, subst, ◌∙◌, append_assoc, append-nil}
use Rattle.std.specs.List.{list_all}
use Rattle.std.specs.Str.{bytes_eq}
use Rattle.std.proofs.lemmas.Bool.{and_parts, both_ways}
use Rattle.std.proofs.lemmas.Grind.{flat_map-append}
use Rattle.std.proofs.lemmas.List.{drop_all, map-append, take_all, take_more}
use Rattle.std.proofs.lemmas.List.Folds.{list_all-append}
use Rattle.std.proofs.lemmas.Slice.Eq.{bytes_eq-Decides}
use Rattle.zk_typed.specs.declared.refusal.Refusal.{Refusal}
use Rattle.zk_typed.specs.Checked.{Checked, both}
use Rattle.zk_typed.specs.Declarations.{nothing}
use Rattle.zk_typed.specs.Errors.{PathUse, agrees, call_uses, path_rules, same_columns}
use Rattle.zk_typed.specs.LogCalls.{LeafInfo}
use Rattle.zk_typed.specs.Resolving.{Scripts}
use Rattle.zk_scope.specs.Calls.{call_of, calls_lent}
use Rattle.zk_scope.specs.declared.calls.Call.{Call as LentCall}
use Rattle.zk_check_operators.specs.Gather.{told, Told, Adds}
use Rattle.zk_check_operators.proofs.BothLaws.{Rules, one_more, all_told}
use Rattle.zk_check_declarations.specs.declared.paths.Paths.{Paths}
use Rattle.zk_check_declarations.specs.declared.paths.PathUse.{PathUse as OwnedUse}
use Rattle.zk_check_declarations.specs.Paths.{HasPaths, Writing, agreeing, call_rules, joined, same_column, same_wire, use_of, uses_lent, writing_at}
use Rattle.zk_check_declarations.proofs.ListLaws.{all_fails, all_map, all_turn, flat_turn, front_of}
use Rattle.zk_check_declarations.proofs.RuleLaws.{adds_told}

-- Columns ----------------------------------------------------------------------------------------------------------

and_true : (b : Bool) → (b && true) ≡ b
and_true true = refl
and_true false = refl

and_same : (a b : Bool) → a ≡ b → a ≡ (a && b)
and_same true b e = e
and_same false b e = refl

same_wires : (a b c : Bool) → same_wire a b ≡ true → same_wire a c ≡ same_wire b c
same_wires true true c e = refl
same_wires true false c e = absurd (both_ways false refl e)
same_wires false true c e = absurd (both_ways false refl e)
same_wires false false c e = refl

-- the same column as another one is the same as what that one is
column_as : (a b c : LeafInfo) → same_column a b ≡ true → same_column a c ≡ same_column b c
column_as a b c e =
    let whole = and_parts (bytes_eq a.name b.name && bytes_eq a.kind b.kind) (same_wire a.wire b.wire) e in
    let texts = and_parts (bytes_eq a.name b.name) (bytes_eq a.kind b.kind) whole.0 in
    ap (λ name. bytes_eq name c.name && bytes_eq a.kind c.kind && same_wire a.wire c.wire) ((bytes_eq-Decides a.name b.name).0 texts.0) ∙
    ap (λ kind. bytes_eq b.name c.name && bytes_eq kind c.kind && same_wire a.wire c.wire) ((bytes_eq-Decides a.kind b.kind).0 texts.1) ∙
    ap (λ wire. bytes_eq b.name c.name && bytes_eq b.kind c.kind && wire) (same_wires a.wire b.wire c.wire whole.1)

columns_as : (a b c : List LeafInfo) → same_columns a b ≡ true → same_columns a c ≡ same_columns b c
columns_as [] [] c e = refl
columns_as [] (y ∷ ys) c e = absurd (both_ways false refl e)
columns_as (x ∷ xs) [] c e = absurd (both_ways false refl e)
columns_as (x ∷ xs) (y ∷ ys) [] e = refl
columns_as (x ∷ xs) (y ∷ ys) (z ∷ zs) e =
    let parts = and_parts (same_column x y) (same_columns xs ys) e in
    ap (λ one. one && same_columns xs zs) (column_as x y z parts.0) ∙ ap (λ more. same_column y z && more) (columns_as xs ys zs parts.1)

wire_self : (wire : Bool) → same_wire wire wire ≡ true
wire_self true = refl
wire_self false = refl

columns_self : (a : List LeafInfo) → same_columns a a ≡ true
columns_self [] = refl
columns_self (x ∷ xs) =
    ap (λ b. b && bytes_eq x.kind x.kind && same_wire x.wire x.wire && same_columns xs xs) ((bytes_eq-Decides x.name x.name).1 refl) ∙
    ap (λ b. b && same_wire x.wire x.wire && same_columns xs xs) ((bytes_eq-Decides x.kind x.kind).1 refl) ∙
    ap (λ b. b && same_columns xs xs) (wire_self x.wire) ∙ columns_self xs

-- columns that differ aren't both the same as others
differ_by : (w u c : List LeafInfo) (b d : Bool) → same_columns w u ≡ false → same_columns w c ≡ b → same_columns u c ≡ d → (b && d) ≡ false
differ_by w u c false d unlike e f = refl
differ_by w u c true false unlike e f = refl
differ_by w u c true true unlike e f = absurd (both_ways (same_columns w u) unlike (columns_as w c u e ∙ sym (columns_as u c u f) ∙ columns_self u))

differ : (w u c : List LeafInfo) → same_columns w u ≡ false → (same_columns w c && same_columns u c) ≡ false
differ w u c unlike = differ_by w u c (same_columns w c) (same_columns u c) unlike refl refl

-- Paths ------------------------------------------------------------------------------------------------------------

joined_with : (w u c : List LeafInfo) (b : Bool) → same_columns w u ≡ b → (not (not b) && same_columns w c) ≡ (same_columns w c && (same_columns u c && true))
joined_with w u c true e = and_same (same_columns w c) (same_columns u c) (columns_as w u c e) ∙ ap (λ b. same_columns w c && b) (sym (and_true (same_columns u c)))
joined_with w u c false e = sym (ap (λ b. same_columns w c && b) (and_true (same_columns u c)) ∙ differ w u c e)

-- columns agree with what stood at a path and with one more where they agree with both
joined_agrees : (writing : Option Writing) (u c : List LeafInfo) → agreeing (Some (joined writing u)) c ≡ (agreeing writing c && (same_columns u c && true))
joined_agrees None u c = sym (and_true (same_columns u c))
joined_agrees (Some writing) u c = of_mixed writing.1
  where
    of_mixed : (mixed : Bool) → (not (mixed || not (same_columns writing.0 u)) && same_columns writing.0 c) ≡ (not mixed && same_columns writing.0 c && (same_columns u c && true))
    of_mixed true = refl
    of_mixed false = joined_with writing.0 u c (same_columns writing.0 u) refl

agrees_more : (uses : List PathUse) (u one : PathUse) → agrees (uses ++ u ∷ []) one ≡ (agrees uses one && ((not (bytes_eq u.path one.path) || same_columns u.columns one.columns) && true))
agrees_more uses u one = list_all-append (λ other. not (bytes_eq other.path one.path) || same_columns other.columns one.columns) uses (u ∷ [])

-- one more use
pub uses_more : (old next : Paths) (uses : List PathUse) (u : PathUse) → HasPaths old uses →
    ((path : List ℕ) → writing_at next path ≡ (if bytes_eq u.path path then Some (joined (writing_at old u.path) u.columns) else writing_at old path)) → HasPaths next (uses ++ u ∷ [])
uses_more old next uses u known adds = record { agreed = λ path columns. ap (λ writing. agreeing writing columns) (adds path) ∙ by_path path columns (bytes_eq u.path path) refl ∙ sym (agrees_more uses u (record { path = path; columns = columns })) }
  where
    by_path : (path : List ℕ) (columns : List LeafInfo) (b : Bool) → bytes_eq u.path path ≡ b →
        agreeing (if b then Some (joined (writing_at old u.path) u.columns) else writing_at old path) columns ≡
        (agrees uses (record { path = path; columns = columns }) && ((not (bytes_eq u.path path) || same_columns u.columns columns) && true))
    by_path path columns true e =
        joined_agrees (writing_at old u.path) u.columns columns ∙
        ap (λ b. b && (same_columns u.columns columns && true)) (ap (λ name. agreeing (writing_at old name) columns) ((bytes_eq-Decides u.path path).0 e) ∙ known.agreed path columns) ∙
        ap (λ b. agrees uses (record { path = path; columns = columns }) && ((not b || same_columns u.columns columns) && true)) (sym e)
    by_path path columns false e =
        known.agreed path columns ∙ sym (and_true (agrees uses (record { path = path; columns = columns }))) ∙
        ap (λ b. agrees uses (record { path = path; columns = columns }) && ((not b || same_columns u.columns columns) && true)) (sym e)

-- the uses so far, and one more
pub uses_turn : (before : List PathUse) (uses : List OwnedUse) (i : ℕ) (x : OwnedUse) → i < length uses → x ≡ get_or uses i x →
    before ++ uses_lent (take (i + 1) uses) ≡ before ++ uses_lent (take i uses) ++ use_of x ∷ []
uses_turn before uses i x within is =
    ap (λ more. before ++ more) (ap uses_lent (take_more uses i x within ∙ ap (λ one. take i uses ++ one ∷ []) (sym is)) ∙ map-append use_of (take i uses) (x ∷ [])) ∙
    sym (append_assoc before (uses_lent (take i uses)) (use_of x ∷ []))

-- Calls ------------------------------------------------------------------------------------------------------------

abbrev pub uses_in : Scripts → List LentCall → List PathUse
uses_in scripts calls = flat_map (call_uses scripts) (calls_lent calls)

-- the calls so far are judged, and their paths are known
abbrev pub CallsOn : Scripts → List PathUse → Paths → Result (Unit {0}) Refusal → List LentCall → ℕ → Type 0
CallsOn scripts begun paths rules calls i = Told rules →
    HasPaths paths (begun ++ uses_in scripts (take i calls)) ×
    (nothing (both (told rules) (path_rules scripts (begun ++ uses_in scripts (take i calls)) (calls_lent (drop i calls)))) ≡ path_rules scripts begun (calls_lent calls))

calls_more : (scripts : Scripts) (begun : List PathUse) (calls : List LentCall) (i : ℕ) (x : LentCall) → i < length calls → x ≡ get_or calls i x →
    begun ++ uses_in scripts (take (i + 1) calls) ≡ begun ++ uses_in scripts (take i calls) ++ call_uses scripts (call_of x)
calls_more scripts begun calls i x within is =
    ap (λ more. begun ++ more)
    (ap (λ some. flat_map (call_uses scripts) (calls_lent some)) (take_more calls i x within ∙ ap (λ one. take i calls ++ one ∷ []) (sym is)) ∙
    ap (flat_map (call_uses scripts)) (map-append call_of (take i calls) (x ∷ [])) ∙
    flat_map-append (call_uses scripts) (calls_lent (take i calls)) (call_of x ∷ []) ∙
    ap (λ last. uses_in scripts (take i calls) ++ last) (append-nil (call_uses scripts (call_of x)))) ∙
    sym (append_assoc begun (uses_in scripts (take i calls)) (call_uses scripts (call_of x)))

-- one more call
pub call_turn : (scripts : Scripts) (begun : List PathUse) (paths next : Paths) (rules part more : Result (Unit {0}) Refusal) (calls : List LentCall) (i : ℕ) (x : LentCall) →
    i < length calls → x ≡ get_or calls i x → CallsOn scripts begun paths rules calls i →
    ((before : List PathUse) → HasPaths paths before → Rules part (call_rules scripts before (call_of x))) →
    (Told part → (before : List PathUse) → HasPaths paths before → HasPaths next (before ++ call_uses scripts (call_of x))) →
    Adds rules part more → CallsOn scripts begun next more calls (i + 1)
call_turn scripts begun paths next rules part more calls i x within is on judged met adds = λ known.
    let parts = adds_told rules part more adds known in
    let before = begun ++ uses_in scripts (take i calls) in
    let here = on parts.0 in
    let ahead : path_rules scripts before (calls_lent (drop i calls)) ≡ nothing (both (call_rules scripts before (call_of x)) (path_rules scripts (before ++ call_uses scripts (call_of x)) (calls_lent (drop (i + 1) calls)))) =
    ap (λ left. path_rules scripts before (calls_lent left)) (front_of calls i x within is) in
    let grown = sym (calls_more scripts begun calls i x within is) in (
      subst (λ (all : List PathUse). HasPaths next all) grown (met parts.1 before here.0),
      ap (λ all. nothing (both (told more) (path_rules scripts all (calls_lent (drop (i + 1) calls))))) (sym grown) ∙
          one_more rules part more (call_rules scripts before (call_of x)) (path_rules scripts (before ++ call_uses scripts (call_of x)) (calls_lent (drop (i + 1) calls))) (path_rules scripts begun (calls_lent calls))
          (λ told_before. ap (λ given. nothing (both (told rules) given)) (sym ahead) ∙ here.1) (judged before here.0) adds known,
    )

-- all calls
pub calls_end : (scripts : Scripts) (begun : List PathUse) (paths : Paths) (rules : Result (Unit {0}) Refusal) (calls : List LentCall) (i : ℕ) → length calls ≤ i →
    CallsOn scripts begun paths rules calls i → Rules rules (path_rules scripts begun (calls_lent calls))
calls_end scripts begun paths rules calls i past on =
    all_told rules (path_rules scripts begun (calls_lent calls))
    (λ known. ap (λ left. nothing (both (told rules) (path_rules scripts (begun ++ uses_in scripts (take i calls)) (calls_lent left)))) (sym (drop_all i calls past)) ∙ (on known).1)

-- no call yet
pub calls_begun : (scripts : Scripts) (begun : List PathUse) (paths : Paths) (calls : List LentCall) → HasPaths paths begun → CallsOn scripts begun paths (Ok tt) calls 0
calls_begun scripts begun paths calls has = λ known.
    let same = append-nil begun in
    (subst (λ (all : List PathUse). HasPaths paths all) (sym same) has, ap (λ all. nothing (both (Ok (tt {0})) (path_rules scripts all (calls_lent calls)))) same ∙ walk (path_rules scripts begun (calls_lent calls)))
  where
    walk : (rules : Checked (Unit {0})) → nothing (both (Ok (tt {0})) rules) ≡ rules
    walk (Ok done) = refl
    walk (Err rules) = refl

-- the paths of all calls are known
pub calls_met : (scripts : Scripts) (begun : List PathUse) (paths : Paths) (rules : Result (Unit {0}) Refusal) (calls : List LentCall) (i : ℕ) → length calls ≤ i →
    CallsOn scripts begun paths rules calls i → Told rules → HasPaths paths (begun ++ uses_in scripts calls)
calls_met scripts begun paths rules calls i past on known =
    subst (λ (some : List LentCall). HasPaths paths (begun ++ uses_in scripts some)) (take_all i calls past) (on known).0
