-- What the calls of `create_stream` say of one log.
use Rattle.std.proofs.Common.{◌≡◌, ℕ, suc, ◌+◌, ◌<◌, ◌≤◌, Bool, true, false, List, [], ◌∷◌, ◌++◌, length, get_or, drop, map, filter, flat_map, Option, Some, None, refl, ap, sym, ◌∙◌, subst, cond, add-one, drop-cons, if◌then◌else◌}
use Rattle.std.specs.Prelude.{bytes_eq}
use Rattle.std.proofs.lemmas.Grind.{flat_map-append}
use Rattle.std.proofs.lemmas.List.Elements.{filter-append}
use Rattle.std.proofs.lemmas.List.{drop_all, map-append}
use Rattle.zk_base.specs.declared.numbers.RecordNo.{RecordNo}
use Rattle.zk_tree.specs.declared.decl.Decl.{out-Decl}
use Rattle.zk_tree.specs.declared.expr.Expr.{Expr}
use Rattle.zk_tree.specs.declared.expr.Item.{Item}
use Rattle.zk_tree.specs.declared.name.Name.{Name}
use Rattle.zk_typed.specs.LoadOrder.{Home, Stated}
use Rattle.zk_typed.specs.LogCalls.{Call, item_expr, settings, creates, created_in, decl_calls, all_calls, log_type, one_type}
use Rattle.zk_typed.specs.Names.{Declared}
use Rattle.zk_typed.specs.Resolving.{Scripts}
use Rattle.zk_scope.specs.declared.created.Created.{Created}
use Rattle.zk_scope.specs.declared.log_types.LogTypes.{LogTypes}
use Rattle.zk_scope.specs.Same.{same_bytes}
use Rattle.zk_scope.specs.Streams.{AreTypes, word_in, others_type, items_created, call_created, created_by, created_lent, created_of, stated_created, of_log, joined, so_far, with_stream}

abbrev call_with : Home → Expr → Name → List Item → Call
call_with home whole name items = record { home = home; whole = whole; name = name; items = items }

-- One call ---------------------------------------------------------------------------------------------------------

one_other : (scripts : Scripts) (word : List ℕ) (home : Home) (whole : Expr) (name : Name) (first one : Item) (declared : Declared) (found : Option (List Item)) →
    settings (item_expr one) ≡ found → word_in scripts home (item_expr first) ≡ Some declared → bytes_eq declared.name word ≡ true →
    created_in scripts word (call_with home whole name (first ∷ one ∷ [])) ≡ others_type scripts home (one ∷ []) ∷ []
one_other scripts word home whole name first one declared None g h e = rw (h, e, g) refl
one_other scripts word home whole name first one declared (Some items) g h e = rw (h, e, g) refl

same_name : (scripts : Scripts) (word : List ℕ) (home : Home) (whole : Expr) (name : Name) (first : Item) (others : List Item) (declared : Declared) →
    word_in scripts home (item_expr first) ≡ Some declared → bytes_eq declared.name word ≡ true →
    created_in scripts word (call_with home whole name (first ∷ others)) ≡ others_type scripts home others ∷ []
same_name scripts word home whole name first [] declared h e = rw (h, e) refl
same_name scripts word home whole name first (one ∷ []) declared h e = one_other scripts word home whole name first one declared (settings (item_expr one)) refl h e
same_name scripts word home whole name first (one ∷ two ∷ more) declared h e = rw (h, e) refl

by_name : (scripts : Scripts) (word : List ℕ) (home : Home) (whole : Expr) (name : Name) (first : Item) (others : List Item) (declared : Declared) (same : Bool) →
    word_in scripts home (item_expr first) ≡ Some declared → bytes_eq declared.name word ≡ same →
    created_in scripts word (call_with home whole name (first ∷ others)) ≡ of_log word (items_created scripts home (first ∷ others))
by_name scripts word home whole name first others declared true h e = same_name scripts word home whole name first others declared h e ∙ sym (rw (h, e) refl)
by_name scripts word home whole name first others declared false h e = rw (h, e) refl

by_word : (scripts : Scripts) (word : List ℕ) (home : Home) (whole : Expr) (name : Name) (first : Item) (others : List Item) (found : Option Declared) →
    word_in scripts home (item_expr first) ≡ found →
    created_in scripts word (call_with home whole name (first ∷ others)) ≡ of_log word (items_created scripts home (first ∷ others))
by_word scripts word home whole name first others None h = rw h refl
by_word scripts word home whole name first others (Some declared) h = by_name scripts word home whole name first others declared (bytes_eq declared.name word) h refl

by_items : (scripts : Scripts) (word : List ℕ) (home : Home) (whole : Expr) (name : Name) (items : List Item) →
    created_in scripts word (call_with home whole name items) ≡ of_log word (items_created scripts home items)
by_items scripts word home whole name [] = refl
by_items scripts word home whole name (first ∷ others) = by_word scripts word home whole name first others (word_in scripts home (item_expr first)) refl

-- All calls --------------------------------------------------------------------------------------------------------

log_append : (word : List ℕ) (xs ys : List (List ℕ × Option RecordNo)) → of_log word (xs ++ ys) ≡ of_log word xs ++ of_log word ys
log_append word xs ys =
    ap (map (λ (one : List ℕ × Option RecordNo). one.1)) (filter-append (λ (one : List ℕ × Option RecordNo). bytes_eq one.0 word) xs ys) ∙
    map-append (λ (one : List ℕ × Option RecordNo). one.1) (filter (λ one. bytes_eq one.0 word) xs) (filter (λ one. bytes_eq one.0 word) ys)

in_calls : (scripts : Scripts) (word : List ℕ) (calls : List Call) → flat_map (created_in scripts word) calls ≡ of_log word (flat_map (created_by scripts) calls)
in_calls scripts word [] = refl
in_calls scripts word (call ∷ calls) =
    ap (λ x. x ++ flat_map (created_in scripts word) calls) (by_items scripts word call.home call.whole call.name call.items) ∙
    ap (λ x. of_log word (created_by scripts call) ++ x) (in_calls scripts word calls) ∙
    sym (log_append word (created_by scripts call) (flat_map (created_by scripts) calls))

flat_flat : {A B C : Type 0} (g : B → List C) (f : A → List B) (xs : List A) → flat_map g (flat_map f xs) ≡ flat_map (λ x. flat_map g (f x)) xs
flat_flat g f [] = refl
flat_flat g f (x ∷ xs) = flat_map-append g (f x) (flat_map f xs) ∙ ap (λ y. flat_map g (f x) ++ y) (flat_flat g f xs)

one_flat : {A B : Type 0} (p : A → Bool) (g : A → List B) (x : A) (xs : List A) (b : Bool) → p x ≡ b →
    flat_map g (filter p xs) ≡ flat_map (λ x. if p x then g x else []) xs →
    flat_map g (filter p (x ∷ xs)) ≡ flat_map (λ x. if p x then g x else []) (x ∷ xs)
one_flat p g x xs true e others = rw e (ap (λ y. g x ++ y) others)
one_flat p g x xs false e others = rw e others

flat_filter : {A B : Type 0} (p : A → Bool) (g : A → List B) (xs : List A) → flat_map g (filter p xs) ≡ flat_map (λ x. if p x then g x else []) xs
flat_filter p g [] = refl
flat_filter p g (x ∷ xs) = one_flat p g x xs (p x) refl (flat_filter p g xs)

-- a log has the type that what was said of it gives
pub told_of_log : (scripts : Scripts) (word : List ℕ) → one_type (of_log word (flat_map (stated_created scripts) scripts.stated)) ≡ log_type scripts word
told_of_log scripts word =
    let calls : Stated → List Call = λ one. decl_calls one.home (out-Decl one.decl) in
    sym (ap one_type (in_calls scripts word (filter (creates scripts) (all_calls scripts)) ∙
    ap (of_log word) (flat_filter (creates scripts) (created_by scripts) (all_calls scripts) ∙
    flat_flat (call_created scripts) calls scripts.stated)))

-- One log ----------------------------------------------------------------------------------------------------------

above : (first second : Option RecordNo) (more : List (Option RecordNo)) (told : Option (Option RecordNo)) → one_type (second ∷ more) ≡ told →
    one_type (first ∷ second ∷ more) ≡ joined first told
above first second more None h = rw h refl
above first second more (Some other) h = rw h refl

pub one_more : (first : Option RecordNo) (more : List (Option RecordNo)) → so_far (first ∷ more) ≡ Some (with_stream first (so_far more))
one_more first [] = refl
one_more first (second ∷ more) = ap Some (above first second more (one_type (second ∷ more)) refl)

-- Logs by their names ------------------------------------------------------------------------------------------------

type_by : (all : List (Option RecordNo)) (told : Option (Option RecordNo)) → Some told ≡ so_far all → told ≡ one_type all
type_by [] told e = cc
type_by (first ∷ more) told e = cc

pub type_told : (all : List (Option RecordNo)) (told : Option (Option RecordNo)) (got : Option (Option (Option RecordNo))) → Some told ≡ got → got ≡ so_far all → told ≡ one_type all
type_told all told got is kept = type_by all told (is ∙ kept)

pub type_absent : (all : List (Option RecordNo)) (got : Option (Option (Option RecordNo))) → None ≡ got → got ≡ so_far all → None ≡ one_type all
type_absent [] got is kept = refl
type_absent (first ∷ more) got is kept = cc

far_by : (word key : List ℕ) (columns : Option RecordNo) (created : List (List ℕ × Option RecordNo)) (b : Bool) → bytes_eq key word ≡ b →
    cond b (Some (with_stream columns (so_far (of_log word created)))) (so_far (of_log word created)) ≡ so_far (of_log word ((key, columns) ∷ created))
far_by word key columns created true e = rw e (sym (one_more columns (of_log word created)))
far_by word key columns created false e = rw e refl

same_word : (key word : List ℕ) (created : List (List ℕ × Option RecordNo)) → bytes_eq key word ≡ true → of_log key created ≡ of_log word created
same_word key word created e = ap (λ (x : List ℕ). of_log x created) (same_bytes key word e)

told_by : (word key : List ℕ) (columns : Option RecordNo) (created : List (List ℕ × Option RecordNo)) (b : Bool) → bytes_eq key word ≡ b →
    cond b (Some (with_stream columns (so_far (of_log key created)))) (so_far (of_log word created)) ≡ cond b (Some (with_stream columns (so_far (of_log word created)))) (so_far (of_log word created))
told_by word key columns created true e = ap (λ (x : List (Option RecordNo)). Some (with_stream columns (so_far x))) (same_word key word created e)
told_by word key columns created false e = refl

-- what is kept of each log, once a stream before the others is added
pub types_more : (created : List (List ℕ × Option RecordNo)) (key : List ℕ) (columns : Option RecordNo) (told : Option (Option RecordNo)) (old new : List ℕ → Option (Option (Option RecordNo))) →
    ((word : List ℕ) → old word ≡ so_far (of_log word created)) → told ≡ with_stream columns (old key) → ((word : List ℕ) → new word ≡ cond (bytes_eq key word) (Some told) (old word)) →
    (word : List ℕ) → new word ≡ so_far (of_log word ((key, columns) ∷ created))
types_more created key columns told old new kept made changed word =
    changed word ∙ ap (λ (x : Option (Option RecordNo)). cond (bytes_eq key word) (Some x) (old word)) (made ∙ ap (with_stream columns) (kept key)) ∙
    ap (cond (bytes_eq key word) (Some (with_stream columns (so_far (of_log key created))))) (kept word) ∙ told_by word key columns created (bytes_eq key word) refl ∙
    far_by word key columns created (bytes_eq key word) refl

-- of as many streams as there are from the end on
pub types_none : (created : List Created) (index : ℕ) (types : LogTypes) → length created ≤ index → AreTypes types [] → AreTypes types (created_lent (drop index created))
types_none created index types past none = subst (AreTypes types) (sym (ap created_lent (drop_all index created past))) none

pub types_step : (created : List Created) (at index : ℕ) (one : Created) (old new : LogTypes) → index ≡ at + 1 → at < length created → one ≡ get_or created at one →
    ((more : List (List ℕ × Option RecordNo)) → AreTypes old more → AreTypes new (created_of one ∷ more)) → AreTypes old (created_lent (drop index created)) → AreTypes new (created_lent (drop at created))
types_step created at index one old new next within is added before =
    let first : drop at created ≡ one ∷ drop index created =
    drop-cons created at one within ∙ ap (λ (x : Created). x ∷ drop (suc at) created) (sym is) ∙ ap (λ (n : ℕ). one ∷ drop n created) (sym (next ∙ add-one at)) in
    subst (AreTypes new) (sym (ap created_lent first)) (added (created_lent (drop index created)) before)
