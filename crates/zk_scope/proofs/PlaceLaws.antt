-- Where keys stand first, when one is added at the end of a list.
use Rattle.std.proofs.Common.{◌≡◌, ℕ, suc, ◌+◌, ◌<◌, Bool, true, false, not, List, [], ◌∷◌, ◌++◌, length, get_or, take, map, filter, flat_map, Option, Some, None, is_some, refl, ap, sym, ◌∙◌, arith, append-nil, length-append, cond, if◌then◌else◌}
use Rattle.std.proofs.lemmas.Grind.{flat_map-append}
use Rattle.std.proofs.lemmas.List.Elements.{filter-append}
use Rattle.std.proofs.lemmas.List.{map-append, take_more}
use Rattle.std.specs.Cmp.{IsEquivalence}
use Rattle.std.specs.Option.{option_map, unwrap_or}
use Rattle.std.specs.Bool.{beq}
use Rattle.std.specs.Str.{bytes_eq}
use Rattle.zk_typed.specs.Names.{Declared, Node, RecordNode, EnumNode, count_before, is_at, is_record}
use Rattle.zk_scope.specs.declared.kind.Kind.{Kind}
use Rattle.zk_scope.specs.Indexing.{first_place, or_else, shown}
use Rattle.zk_scope.specs.Kinds.{is_of}
use Rattle.zk_scope.specs.declared.kind.Kind.TheVariants as of
use Rattle.zk_scope.specs.declared.numbers.Numbers.{Numbers}
use Rattle.zk_scope.specs.Numbering.{Stands, names_of, of_kind, own_name, own_spot, spot, spot_eq, spots}
use Rattle.zk_scope.proofs.IndexLaws.{first_push, same_first, or_none}

absurd_some : {P : Type 0} → false ≡ true → P
absurd_some h = cc

-- keys that are equal to one key are equal to each key that is equal to it
alike : {K : Type 0} (eq : K → K → Bool) → IsEquivalence eq → (key q other : K) → eq key q ≡ true → eq other q ≡ eq other key
alike eq laws key q other e = laws.symm other q ∙ sym (laws.congr key q other e) ∙ laws.symm key other

-- equal keys stand in the same place
same_place : {K : Type 0} (eq : K → K → Bool) → IsEquivalence eq → (key q : K) → eq key q ≡ true → (keys : List K) →
    first_place (λ other. eq other q) keys ≡ first_place (λ other. eq other key) keys
same_place eq laws key q e keys = same_first (λ other. eq other q) (λ other. eq other key) (λ other. alike eq laws key q other e) keys

new_by : {K : Type 0} (eq : K → K → Bool) → IsEquivalence eq → (keys : List K) (key q : K) (b : Bool) → eq key q ≡ b → first_place (λ other. eq other key) keys ≡ None →
    cond b (Some (length keys)) (first_place (λ other. eq other q) keys) ≡ or_else (first_place (λ other. eq other q) keys) (shown b (length keys))
new_by eq laws keys key q true e none =
    ap (λ (x : Option ℕ). or_else x (Some (length keys))) (sym (same_place eq laws key q e keys ∙ none))
new_by eq laws keys key q false e none = sym (or_none (first_place (λ other. eq other q) keys))

-- a map that keeps first places, once a new key is added
pub new_key : {K : Type 0} (eq : K → K → Bool) → IsEquivalence eq → (keys : List K) (key : K) (old new : K → Option ℕ) (count : ℕ) →
    ((q : K) → old q ≡ first_place (λ other. eq other q) keys) → count ≡ length keys → old key ≡ None →
    ((q : K) → new q ≡ cond (eq key q) (Some count) (old q)) → (q : K) → new q ≡ first_place (λ other. eq other q) (keys ++ key ∷ [])
new_key eq laws keys key old new count kept counted absent changed q =
    changed q ∙ ap (λ (n : ℕ). cond (eq key q) (Some n) (old q)) counted ∙ ap (cond (eq key q) (Some (length keys))) (kept q) ∙
    new_by eq laws keys key q (eq key q) refl (sym (kept key) ∙ absent) ∙
    sym (first_push (λ other. eq other q) keys key)

old_by : {K : Type 0} (eq : K → K → Bool) → IsEquivalence eq → (keys : List K) (key q : K) (place : ℕ) (b : Bool) → eq key q ≡ b → first_place (λ other. eq other key) keys ≡ Some place →
    first_place (λ other. eq other q) keys ≡ or_else (first_place (λ other. eq other q) keys) (shown b (length keys))
old_by eq laws keys key q place true e found =
    let same : first_place (λ other. eq other q) keys ≡ Some place = same_place eq laws key q e keys ∙ found in
    same ∙ sym (ap (λ (x : Option ℕ). or_else x (Some (length keys))) same)
old_by eq laws keys key q place false e found = sym (or_none (first_place (λ other. eq other q) keys))

-- a map that keeps first places, once a key is added that is there already
pub old_key : {K : Type 0} (eq : K → K → Bool) → IsEquivalence eq → (keys : List K) (key : K) (old : K → Option ℕ) (place : Option ℕ) →
    ((q : K) → old q ≡ first_place (λ other. eq other q) keys) → old key ≡ place → is_some place ≡ true → (q : K) → old q ≡ first_place (λ other. eq other q) (keys ++ key ∷ [])
old_key eq laws keys key old None kept there some q = absurd_some some
old_key eq laws keys key old (Some place) kept there some q =
    kept q ∙ old_by eq laws keys key q place (eq key q) refl (sym (kept key) ∙ there) ∙ sym (first_push (λ other. eq other q) keys key)

one_more : {K : Type 0} (keys : List K) (key : K) (count more : ℕ) → count ≡ length keys → more ≡ count + 1 → more ≡ length (keys ++ key ∷ [])
one_more keys key count more counted raised = omega (arith, counted, raised, length-append keys (key ∷ []))

is_none : {A : Type 0} (a : Option A) → is_some a ≡ false → a ≡ None
is_none None h = refl
is_none (Some a) h = absurd_some (sym h)

-- first places and how many keys there are, once a key is added
pub with_new : {K : Type 0} (eq : K → K → Bool) → IsEquivalence eq → (keys : List K) (key : K) (old new : K → Option ℕ) (count more : ℕ) →
    (count ≡ length keys) × ((q : K) → old q ≡ first_place (λ other. eq other q) keys) → is_some (old key) ≡ false → more ≡ count + 1 →
    ((q : K) → new q ≡ cond (eq key q) (Some count) (old q)) → (more ≡ length (keys ++ key ∷ [])) × ((q : K) → new q ≡ first_place (λ other. eq other q) (keys ++ key ∷ []))
with_new eq laws keys key old new count more stands absent raised changed =
    (one_more keys key count more stands.0 raised, new_key eq laws keys key old new count stands.1 stands.0 (is_none (old key) absent) changed)

pub with_old : {K : Type 0} (eq : K → K → Bool) → IsEquivalence eq → (keys : List K) (key : K) (old : K → Option ℕ) (count more : ℕ) →
    (count ≡ length keys) × ((q : K) → old q ≡ first_place (λ other. eq other q) keys) → is_some (old key) ≡ true → more ≡ count + 1 →
    (more ≡ length (keys ++ key ∷ [])) × ((q : K) → old q ≡ first_place (λ other. eq other q) (keys ++ key ∷ []))
with_old eq laws keys key old count more stands there raised =
    (one_more keys key count more stands.0 raised, old_key eq laws keys key old (old key) stands.1 refl there)

first_later : {A : Type 0} (p : A → Bool) (one : A) (others : List A) → p one ≡ false → first_place p (one ∷ others) ≡ option_map suc (first_place p others)
first_later p one others e = rw e refl

pub count_later : {A : Type 0} (p : A → Bool) (one : A) (others : List A) → p one ≡ false → count_before p (one ∷ others) ≡ suc (count_before p others)
count_later p one others e = ap (λ (b : Bool). elim b as (λ x. ℕ) [ true ↦ 0 | false ↦ suc (count_before p others) ]) e

first_now : {A : Type 0} (p : A → Bool) (one : A) (others : List A) → p one ≡ true → first_place p (one ∷ others) ≡ Some 0
first_now p one others e = rw e refl

pub count_now : {A : Type 0} (p : A → Bool) (one : A) (others : List A) → p one ≡ true → count_before p (one ∷ others) ≡ 0
count_now p one others e = ap (λ (b : Bool). elim b as (λ x. ℕ) [ true ↦ 0 | false ↦ suc (count_before p others) ]) e

past : (a : Option ℕ) (most : ℕ) → unwrap_or (option_map suc a) (suc most) ≡ suc (unwrap_or a most)
past None most = refl
past (Some place) most = refl

counted_by : {A : Type 0} (p : A → Bool) (one : A) (others : List A) (b : Bool) → p one ≡ b → unwrap_or (first_place p others) (length others) ≡ count_before p others →
    unwrap_or (first_place p (one ∷ others)) (suc (length others)) ≡ count_before p (one ∷ others)
counted_by p one others true e h = ap (λ (x : Option ℕ). unwrap_or x (suc (length others))) (first_now p one others e) ∙ sym (count_now p one others e)
counted_by p one others false e h =
    ap (λ (x : Option ℕ). unwrap_or x (suc (length others))) (first_later p one others e) ∙ past (first_place p others) (length others) ∙ ap suc h ∙ sym (count_later p one others e)

-- so many come before the first that passes as its place tells, or all
pub counted : {A : Type 0} (p : A → Bool) (items : List A) → unwrap_or (first_place p items) (length items) ≡ count_before p items
counted p [] = refl
counted p (one ∷ others) = counted_by p one others (p one) refl (counted p others)

filtered_by : {A B : Type 0} (f : A → B) (q kept : A → Bool) (p : B → Bool) (r : A → Bool) (one : A) (others : List A) (b c : Bool) → kept one ≡ b → q one ≡ b → p (f one) ≡ c → r one ≡ c →
    count_before p (flat_map (λ a. if kept a then f a ∷ [] else []) others) ≡ count_before r (filter q others) →
    count_before p (flat_map (λ a. if kept a then f a ∷ [] else []) (one ∷ others)) ≡ count_before r (filter q (one ∷ others))
filtered_by f q kept p r one others true true k e g i h = rw (k, e) (rw (g, i) refl)
filtered_by f q kept p r one others true false k e g i h = rw (k, e) (rw (g, i) (ap suc h))
filtered_by f q kept p r one others false c k e g i h = rw (k, e) h

-- keys are counted as what they are keys of
pub filtered : {A B : Type 0} (f : A → B) (q kept : A → Bool) (p : B → Bool) (r : A → Bool) → ((a : A) → kept a ≡ q a) → ((a : A) → p (f a) ≡ r a) → (items : List A) →
    count_before p (flat_map (λ a. if kept a then f a ∷ [] else []) items) ≡ count_before r (filter q items)
filtered f q kept p r k e [] = refl
filtered f q kept p r k e (one ∷ others) = filtered_by f q kept p r one others (q one) (r one) (k one) refl (e one) refl (filtered f q kept p r k e others)

same_kind : (node : Node) → beq (is_record node) true ≡ is_record node
same_kind (RecordNode home place fields) = refl
same_kind (EnumNode home place words) = refl

other_kind : (node : Node) → beq (is_record node) false ≡ not (is_record node)
other_kind (RecordNode home place fields) = refl
other_kind (EnumNode home place words) = refl

same_spot : (file place : ℕ) (node : Node) → spot_eq (spot node) (file, place) ≡ is_at file place node
same_spot file place (RecordNode home other fields) = refl
same_spot file place (EnumNode home other words) = refl

-- the number of a name among those of a kind
pub name_count : (kind : Kind) (name : List ℕ) (names : List Declared) →
    count_before (λ other. bytes_eq other name) (names_of kind names) ≡ count_before (λ other. bytes_eq other.name name) (filter (is_of kind) names)
name_count kind name names = filtered (λ one. one.name) (is_of kind) (is_of kind) (λ other. bytes_eq other name) (λ other. bytes_eq other.name name) (λ one. refl) (λ one. refl) names

-- the number of a record type, or of an enum, among its kind
pub record_count : (file place : ℕ) (nodes : List Node) → count_before (λ other. spot_eq other (file, place)) (spots true nodes) ≡ count_before (is_at file place) (filter is_record nodes)
record_count file place nodes = filtered spot is_record (λ node. beq (is_record node) true) (λ other. spot_eq other (file, place)) (is_at file place) same_kind (same_spot file place) nodes

pub enum_count : (file place : ℕ) (nodes : List Node) → count_before (λ other. spot_eq other (file, place)) (spots false nodes) ≡ count_before (is_at file place) (filter (λ node. not (is_record node)) nodes)
enum_count file place nodes = filtered spot (λ node. not (is_record node)) (λ node. beq (is_record node) false) (λ other. spot_eq other (file, place)) (is_at file place) other_kind (same_spot file place) nodes

-- the keys of one more of a list
pub one_more_item : {A V K : Type 0} (view : A → V) (keys : V → List K) (xs : List A) (at : ℕ) (x : A) → at < length xs → x ≡ get_or xs at x →
    flat_map keys (map view (take at xs)) ++ keys (view x) ≡ flat_map keys (map view (take (at + 1) xs))
one_more_item view keys xs at x within is =
    let e : take (at + 1) xs ≡ take at xs ++ x ∷ [] = take_more xs at x within ∙ ap (λ y. take at xs ++ y ∷ []) (sym is) in
    sym (ap (λ ys. flat_map keys (map view ys)) e ∙ ap (flat_map keys) (map-append view (take at xs) (x ∷ [])) ∙ flat_map-append keys (map view (take at xs)) (view x ∷ []) ∙
    ap (λ ys. flat_map keys (map view (take at xs)) ++ ys) (append-nil (keys (view x))))

-- the name of one of a kind, and the place of a record type or of an enum
pub own_kept : (kind : Kind) (one : Declared) (name : List ℕ) → is_of kind one ≡ true → name ≡ one.name → own_name kind one ≡ name ∷ []
own_kept kind one name e same = rw e (ap (λ (x : List ℕ). x ∷ []) (sym same))

pub spot_kept : (records : Bool) (node : Node) (place : ℕ × ℕ) → beq (is_record node) records ≡ true → place ≡ spot node → own_spot records node ≡ place ∷ []
spot_kept records node place e same = rw e (ap (λ (x : ℕ × ℕ). x ∷ []) (sym same))

-- the names of all kinds stand, where those of each do
pub all_kinds : (numbers : Numbers) (names : List Declared) → Stands bytes_eq numbers.variables (names_of of.Variable names) → Stands bytes_eq numbers.events (names_of of.Event names) →
    Stands bytes_eq numbers.hooks (names_of of.Hook names) → Stands bytes_eq numbers.functions (names_of of.Function names) → Stands bytes_eq numbers.log_words (names_of of.LogWord names) →
    (one : Kind) → Stands bytes_eq (of_kind one numbers) (names_of one names)
all_kinds numbers names variables events hooks functions log_words of.Variable = variables
all_kinds numbers names variables events hooks functions log_words of.Event = events
all_kinds numbers names variables events hooks functions log_words of.Hook = hooks
all_kinds numbers names variables events hooks functions log_words of.Function = functions
all_kinds numbers names variables events hooks functions log_words of.LogWord = log_words

-- what is kept of one more of a list
pub one_more_kept : {A V : Type 0} (view : A → V) (q : V → Bool) (xs : List A) (at : ℕ) (x : A) → at < length xs → x ≡ get_or xs at x →
    filter q (map view (take at xs)) ++ filter q (view x ∷ []) ≡ filter q (map view (take (at + 1) xs))
one_more_kept view q xs at x within is =
    let e : take (at + 1) xs ≡ take at xs ++ x ∷ [] = take_more xs at x within ∙ ap (λ y. take at xs ++ y ∷ []) (sym is) in
    sym (ap (λ ys. filter q (map view ys)) e ∙ ap (filter q) (map-append view (take at xs) (x ∷ [])) ∙ filter-append q (map view (take at xs)) (view x ∷ []))
