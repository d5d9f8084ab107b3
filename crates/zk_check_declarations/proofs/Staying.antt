-- What is told of a text stays told where more is known of the types of globals: only what rests on a circle may change.
use Rattle.std.proofs.Common.{◌≡◌, ℕ, ◌==◌, Bool, true, false, ◌||◌, List, [], ◌∷◌, ◌++◌, length, drop, Ok, Err, inl, inr, refl, ap, ◌∙◌, subst}
use Rattle.zk_tree.specs.declared.expr.Expr.{Expr}
use Rattle.zk_tree.specs.declared.expr.Expr.TheOpen.{Expr-F, Item-F}
use Rattle.zk_tree.specs.declared.expr.Expr.TheOpen as written
use Rattle.zk_tree.specs.declared.expr.Item.{Item, out-Item}
use Rattle.zk_tree.specs.declared.expr.Link.{Link}
use Rattle.zk_tree.specs.declared.expr.Part.{Part}
use Rattle.zk_tree.specs.declared.place.Place.{Place}
use Rattle.zk_typed.specs.declared.refusal.Broken.{Broken as BrokenRule}
use Rattle.zk_typed.specs.declared.rule.Rule.{Rule}
use Rattle.zk_typed.specs.declared.rule.Rule.TheVariants as rule
use Rattle.zk_typed.specs.Checked.{Checked, along, broken, broken_anyway, elsewhere, with_rule, require, ◌>>=◌, both, each, rules_of}
use Rattle.zk_typed.specs.Declarations.{is_circular, is_mark}
use Rattle.zk_typed.specs.LogCalls.{item_expr}
use Rattle.zk_typed.specs.Making.{argument, matched, as_many, arguments, item_values, wrong_name}
use Rattle.zk_typed.specs.Types.{ValueType}
use Rattle.zk_typed.specs.Typing.{Env, at, Wanted, Nothing, Wants, Unclear, Check, on_item, value_in}
use Rattle.zk_check_declarations.specs.Staying.{Stays}

pub marked_front : (before after : List BrokenRule) → is_circular before ≡ true → is_circular (before ++ after) ≡ true
marked_front [] after e = absurd cc
marked_front (one ∷ before) after e = by (is_mark one) (marked_front before after) e
  where
    by : (mark : Bool) → (is_circular before ≡ true → is_circular (before ++ after) ≡ true) → (mark || is_circular before) ≡ true → (mark || is_circular (before ++ after)) ≡ true
    by true h e = refl
    by false h e = h e

marked_behind : (before after : List BrokenRule) → is_circular after ≡ true → is_circular (before ++ after) ≡ true
marked_behind [] after e = e
marked_behind (one ∷ before) after e = by (is_mark one) (marked_behind before after e)
  where
    by : (mark : Bool) → is_circular (before ++ after) ≡ true → (mark || is_circular (before ++ after)) ≡ true
    by true h = refl
    by false h = h

-- By how things are put together ----------------------------------------------------------------------------------

pub stays_bind : {A B : Type 0} (m n : Checked A) (next later : A → Checked B) → Stays m n → ((a : A) → Stays (next a) (later a)) → Stays (m >>= next) (n >>= later)
stays_bind (Ok a) n next later (inl e) k = absurd cc
stays_bind (Ok a) n next later (inr e) k = subst (λ x. Stays (next a) (x >>= later)) e (k a)
stays_bind (Err rules) n next later (inl e) k = inl e
stays_bind (Err rules) n next later (inr e) k = inr (ap (λ x. x >>= later) e)

pub stays_both : {A B : Type 0} (m n : Checked A) (p q : Checked B) → Stays m n → Stays p q → Stays (both m p) (both n q)
stays_both m n p q (inr e) (inr f) = inr (ap (λ x. both x p) e ∙ ap (λ x. both n x) f)
stays_both (Ok a) n p q (inl e) k = absurd cc
stays_both (Err rules) n p q (inl e) k = inl (marked_front rules (rules_of p) e)
stays_both (Ok a) n (Ok b) q (inr e) (inl f) = absurd cc
stays_both (Ok a) n (Err rules) q (inr e) (inl f) = inl f
stays_both (Err before) n p q (inr e) (inl f) = inl (marked_behind before (rules_of p) f)

pub stays_along : {A B : Type 0} (m n : Checked A) (p q : Checked B) → Stays m n → Stays p q → Stays (along m p) (along n q)
stays_along m n p q h k = stays_bind (both m p) (both n q) (λ parts. Ok parts.0) (λ parts. Ok parts.0) (stays_both m n p q h k) (λ parts. inr refl)

pub stays_anyway : {A : Type 0} (B : Type 0) (m n : Checked A) (why : Rule) (place : Place) → Stays m n → Stays {A = B} (broken_anyway m why place) (broken_anyway n why place)
stays_anyway B (Ok a) n why place (inl e) = absurd cc
stays_anyway B (Err []) n why place (inl e) = absurd cc
stays_anyway B (Err (one ∷ rules)) n why place (inl e) = inl e
stays_anyway B m n why place (inr e) = inr (ap (λ x. broken_anyway x why place) e)

pub stays_with : {A : Type 0} (m n : Checked A) (own : Checked (Unit {0})) → Stays m n → Stays (with_rule m own) (with_rule n own)
stays_with (Ok a) n own (inl e) = absurd cc
stays_with (Err []) n own (inl e) = absurd cc
stays_with (Err (one ∷ rules)) n own (inl e) = inl e
stays_with m n own (inr e) = inr (ap (λ x. with_rule x own) e)

pub stays_each : {A B : Type 0} (judge more : A → Checked B) → ((a : A) → Stays (judge a) (more a)) → (ones : List A) → Stays (each judge ones) (each more ones)
stays_each judge more h [] = inr refl
stays_each judge more h (one ∷ ones) =
    stays_bind (both (judge one) (each judge ones)) (both (more one) (each more ones)) (λ parts. Ok (parts.0 ∷ parts.1)) (λ parts. Ok (parts.0 ∷ parts.1))
    (stays_both (judge one) (more one) (each judge ones) (each more ones) (h one) (stays_each judge more h ones)) (λ parts. inr refl)

pub stays_named : {A : Type 0} (B : Type 0) (why : Rule) (place : Place) (m n : Checked A) → Stays m n → Stays {A = B} (wrong_name why place m) (wrong_name why place n)
stays_named B why place m n h =
    stays_bind (both (broken why place) m) (both (broken why place) n) (λ parts. elsewhere) (λ parts. elsewhere) (stays_both (broken {A = Unit {0}} why place) (broken why place) m n (inr refl) h) (λ parts. inr refl)

-- By forms ---------------------------------------------------------------------------------------------------------

module _ (env : Env) (known : ℕ → Checked ValueType) where
  -- where more is known of the types of globals
  abbrev pub later : Env
  later = record env { global_type = known }

  module _ (check after : Check) (well : (wanted : Wanted) (one : Expr) → Stays (check wanted one) (after wanted one)) where
    pub item_stays : {A : Type 0} (judge more : Expr → Checked A) → ((one : Expr) → Stays (judge one) (more one)) → (item : Item) → Stays (on_item check env judge item) (on_item after later more item)
    item_stays {A} judge more h item = by (out-Item item)
      where
        by : (f : Item-F Expr Item Part Link) → Stays (value_in check env judge f) (value_in after later more f)
        by (written.Value value) = h value
        by (written.Item::Field place name value) = stays_anyway A (check Nothing value) (after Nothing value) rule.WrongType (at env place) (well Nothing value)

    pub argument_stays : (wanted : Wanted) (item : Item) → Stays (argument check env wanted item) (argument after later wanted item)
    argument_stays wanted item = item_stays (check wanted) (after wanted) (well wanted) item

    pub arguments_stay : (wanted : Wanted) (items : List Item) → Stays (each (argument check env wanted) items) (each (argument after later wanted) items)
    arguments_stay wanted items = stays_each (argument check env wanted) (argument after later wanted) (argument_stays wanted) items

    pub values_stay : (wanted : Wanted) (items : List Item) → Stays (item_values check wanted items) (item_values after wanted items)
    values_stay wanted items = stays_each (λ item. check wanted (item_expr item)) (λ item. after wanted (item_expr item)) (λ item. well wanted (item_expr item)) items

    matched_stay : (types : List ValueType) (items : List Item) → Stays (matched check env types items) (matched after later types items)
    matched_stay [] items = inr refl
    matched_stay (type ∷ types) [] = inr refl
    matched_stay (type ∷ types) (item ∷ items) =
        stays_bind (both (argument check env (Wants type) item) (matched check env types items)) (both (argument after later (Wants type) item) (matched after later types items))
        (λ parts. Ok (parts.0 ∷ parts.1)) (λ parts. Ok (parts.0 ∷ parts.1))
        (stays_both (argument check env (Wants type) item) (argument after later (Wants type) item) (matched check env types items) (matched after later types items) (argument_stays (Wants type) item) (matched_stay types items))
        (λ parts. inr refl)

    pub many_stay : (why : Rule) (place : Place) (types : List ValueType) (items : List Item) → Stays (as_many check env why place types items) (as_many after later why place types items)
    many_stay why place types items =
        stays_along (with_rule (matched check env types items) (require (length types == length items) why place)) (with_rule (matched after later types items) (require (length types == length items) why place))
        (each (argument check env Unclear) (drop (length types) items)) (each (argument after later Unclear) (drop (length types) items))
        (stays_with (matched check env types items) (matched after later types items) (require (length types == length items) why place) (matched_stay types items)) (arguments_stay Unclear (drop (length types) items))

    pub given_stay : (place : Place) (params : Checked (List ValueType)) (items : List Item) → Stays (arguments check env place params items) (arguments after later place params items)
    given_stay place (Ok params) items = many_stay rule.Arguments place params items
    given_stay place (Err rules) items =
        stays_bind (each (argument check env Unclear) items) (each (argument after later Unclear) items) (λ others. Err rules) (λ others. Err rules) (arguments_stay Unclear items) (λ others. inr refl)
