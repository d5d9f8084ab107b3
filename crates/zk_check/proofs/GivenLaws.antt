-- The values that a name is given since its last `=`.
use Rattle.std.proofs.Common.{◌≡◌, ℕ, suc, ◌+◌, ◌-◌, ◌≤◌, ◌<◌, List, [], ◌∷◌, ◌++◌, length, get_or, take, drop, Bool, true, false, map, Option, Some, None, refl, sym, ap, subst, ◌∙◌, arith, add-one, drop-cons}
use Rattle.std.proofs.lemmas.List.{append_assoc, append-nil, drop_all, drop-append-le, drop-map, drop-take, get_or-map, length-drop, length-map, length-take-le, take_all, take_more}
use Rattle.zk_tree.specs.declared.decl.Redefining.{Redefining}
use Rattle.zk_tree.specs.declared.decl.Redefining.TheVariants as redefining
use Rattle.std.specs.Option.{option_to_list}
use Rattle.zk_typed.specs.Declarations.{ValueGiven, is_set}
use Rattle.zk_typed.specs.Forms as form
use Rattle.zk_typed.specs.Programs.{added_to, all_given, first_given, given_value, later_given, since_set}
use Rattle.zk_typed.specs.Resolving.{Scripts}
use Rattle.zk_typed.specs.Statements.{empty_of}
use Rattle.zk_typed.specs.Types.{ValueType}
use Rattle.zk_typed.specs.View.{expr_of}
use Rattle.zk_typed.specs.declared.script.expr.Expr.{Expr}
use Rattle.zk_check_declarations.specs.declared.values.Given.{Given}
use Rattle.zk_check.specs.Globals.{start_after}
use Rattle.zk_check_declarations.specs.Valuing.{given_lent, given_of}
use Rattle.zk_check.proofs.PushLaws.{map_behind}

-- an item stands in front of what is behind it
item_first : (all : List ValueGiven) (index : ℕ) (one : ValueGiven) → index < length all → one ≡ get_or all index one → drop index all ≡ one ∷ drop (index + 1) all
item_first all index one within is = rw add-one (drop-cons all index one within ∙ ap (λ first. first ∷ drop (suc index) all) (sym is))

anew : (before others : List ValueGiven) (one : ValueGiven) → one.1 ≡ redefining.Set → since_set before (one ∷ others) ≡ since_set (one ∷ []) others
anew before others (home, operator, init) is =
    let P : Redefining → Type 0 = λ by. since_set before ((home, by, init) ∷ others) ≡ since_set ((home, by, init) ∷ []) others in
    subst P (sym is) refl

behind : (before others : List ValueGiven) (one : ValueGiven) → one.1 ≡ redefining.Add → since_set before (one ∷ others) ≡ since_set (before ++ one ∷ []) others
behind before others (home, operator, init) is =
    let P : Redefining → Type 0 = λ by. since_set before ((home, by, init) ∷ others) ≡ since_set (before ++ (home, by, init) ∷ []) others in
    subst P (sym is) refl

-- an `=` more
set_more : (all : List ValueGiven) (start index : ℕ) (one : ValueGiven) (whole : List ValueGiven) → index < length all → one ≡ get_or all index one → one.1 ≡ redefining.Set →
    since_set (drop start (take index all)) (drop index all) ≡ whole → since_set (drop index (take (index + 1) all)) (drop (index + 1) all) ≡ whole
set_more all start index one whole within is by before =
    let first : drop index all ≡ one ∷ drop (index + 1) all = item_first all index one within is in
    let alone : drop index (take (index + 1) all) ≡ one ∷ [] = drop-take index 1 all ∙ ap (take 1) first in
    ap (λ kept. since_set kept (drop (index + 1) all)) alone ∙ sym (anew (drop start (take index all)) (drop (index + 1) all) one by)
    ∙ sym (ap (since_set (drop start (take index all))) first) ∙ before

-- a `+=` more
added_more : (all : List ValueGiven) (start index : ℕ) (one : ValueGiven) (whole : List ValueGiven) → start ≤ index → index < length all → one ≡ get_or all index one →
    one.1 ≡ redefining.Add → since_set (drop start (take index all)) (drop index all) ≡ whole → since_set (drop start (take (index + 1) all)) (drop (index + 1) all) ≡ whole
added_more all start index one whole below within is by before =
    let first : drop index all ≡ one ∷ drop (index + 1) all = item_first all index one within is in
    let long : length (take index all) ≡ index = length-take-le index all (omega arith) in
    let more : drop start (take (index + 1) all) ≡ drop start (take index all) ++ one ∷ [] =
    ap (drop start) (take_more all index one within) ∙ drop-append-le start (take index all) (get_or all index one ∷ []) (omega arith)
    ∙ ap (λ last. drop start (take index all) ++ last ∷ []) (sym is) in
    ap (λ kept. since_set kept (drop (index + 1) all)) more ∙ sym (behind (drop start (take index all)) (drop (index + 1) all) one by)
    ∙ sym (ap (since_set (drop start (take index all))) first) ∙ before

-- one value more, where the last `=` so far stands
pub since_more : (all : List ValueGiven) (start index : ℕ) (one : ValueGiven) (whole : List ValueGiven) → start ≤ index → index < length all → one ≡ get_or all index one →
    since_set (drop start (take index all)) (drop index all) ≡ whole → since_set (drop (start_after start index one) (take (index + 1) all)) (drop (index + 1) all) ≡ whole
since_more all start index (home, redefining.Set, init) whole below within is before = set_more all start index (home, redefining.Set, init) whole within is refl before
since_more all start index (home, redefining.Add, init) whole below within is before = added_more all start index (home, redefining.Add, init) whole below within is refl before

pub start_below : (start index : ℕ) (one : ValueGiven) → start ≤ index → start_after start index one ≤ index + 1
start_below start index (home, redefining.Set, init) below = omega arith
start_below start index (home, redefining.Add, init) below = omega arith

-- Items that are lent ----------------------------------------------------------------------------------------------

pub lent_first : {A B : Type 0} (view : A → B) (items : List A) (index : ℕ) (item : A) → index < length items → item ≡ get_or items index item →
    drop index (map view items) ≡ view item ∷ drop (index + 1) (map view items)
lent_first {A} {B} view items index item within is =
    let first : drop index items ≡ item ∷ drop (index + 1) items = rw add-one (drop-cons items index item within ∙ ap (λ (one : A). one ∷ drop (suc index) items) (sym is)) in
    drop-map view index items ∙ ap (map view) first ∙ ap (λ (rest : List B). view item ∷ rest) (sym (drop-map view (index + 1) items))

pub lent_item : {A B : Type 0} (view : A → B) (items : List A) (index : ℕ) (item : A) → index < length items → item ≡ get_or items index item → view item ≡ get_or (map view items) index (view item)
lent_item view items index item within is = ap view is ∙ sym (get_or-map view items index item (view item) within)

-- one item less is left, beside what is made of those before it
pub left_more : {A B C : Type 0} (lent : A → B) (rest : ℕ → List B → List C) (made next whole : List C) (number after : ℕ) (items : List A) (index : ℕ) (item : A) →
    index < length items → item ≡ get_or items index item → next ++ rest after (drop (index + 1) (map lent items)) ≡ made ++ rest number (lent item ∷ drop (index + 1) (map lent items)) →
    made ++ rest number (drop index (map lent items)) ≡ whole → next ++ rest after (drop (index + 1) (map lent items)) ≡ whole
left_more {A} {B} lent rest made next whole number after items index item within is step before =
    step ∙ ap (λ (left : List B). made ++ rest number left) (sym (lent_first lent items index item within is)) ∙ before

-- a slice to the end
pub to_end : {A : Type 0} (items : List A) (start : ℕ) → take (length items - start) (drop start items) ≡ drop start items
to_end items start = take_all (length items - start) (drop start items) (omega (arith, length-drop start items))

-- The last `=` -----------------------------------------------------------------------------------------------------

pub since_next : (items : List Given) (start index next : ℕ) (item : Given) (whole : List ValueGiven) → start ≤ index → index < length items → item ≡ get_or items index item →
    next ≡ start_after start index (given_of item) → since_set (drop start (take index (given_lent items))) (drop index (given_lent items)) ≡ whole →
    since_set (drop next (take (index + 1) (given_lent items))) (drop (index + 1) (given_lent items)) ≡ whole
since_next items start index next item whole below within is to before =
    let long : index < length (given_lent items) = omega (arith, length-map items given_of) in
    ap (λ (next : ℕ). since_set (drop next (take (index + 1) (given_lent items))) (drop (index + 1) (given_lent items))) to
    ∙ since_more (given_lent items) start index (given_of item) whole below long (lent_item given_of items index item within is) before

pub since_all : (items : List Given) (start index : ℕ) (whole : List ValueGiven) → length items ≤ index →
    since_set (drop start (take index (given_lent items))) (drop index (given_lent items)) ≡ whole → given_lent (drop start items) ≡ whole
since_all items start index whole past before =
    let long : length (given_lent items) ≤ index = omega (arith, length-map items given_of) in
    sym (drop-map given_of start items) ∙ sym (ap (λ (all : List ValueGiven). drop start all) (take_all index (given_lent items) long))
    ∙ sym (ap (since_set (drop start (take index (given_lent items)))) (drop_all index (given_lent items) long)) ∙ before
