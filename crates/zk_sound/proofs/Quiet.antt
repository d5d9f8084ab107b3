-- Where no rule of a text is told, each call in it that gives a log a stream says its record type: items, records and containers.
use Rattle.std.proofs.Common.{◌≡◌, ◌≤◌, ℕ, zero, suc, ◌==◌, Bool, true, false, List, [], ◌∷◌, ◌++◌, length, map, drop, flat_map, Option, Some, None, Ok, Err, refl, sym, subst, append_assoc, arith}
use Rattle.std.specs.List.{AllByRecursion}
use Rattle.std.proofs.lemmas.Bool.{eqb-true}
use Rattle.zk_base.specs.declared.numbers.RecordNo.{RecordNo}
use Rattle.zk_tree.specs.declared.expr.Expr.{Expr, out-Expr}
use Rattle.zk_tree.specs.declared.expr.Expr.TheOpen.{Expr-F, Item-F}
use Rattle.zk_tree.specs.declared.expr.Expr.TheOpen as written
use Rattle.zk_tree.specs.declared.expr.Item.{Item, out-Item}
use Rattle.zk_tree.specs.declared.expr.Link.{Link}
use Rattle.zk_tree.specs.declared.expr.Part.{Part}
use Rattle.zk_tree.specs.declared.name.Name.{Name}
use Rattle.zk_tree.specs.declared.operator.Assigning.{Assigning}
use Rattle.zk_tree.specs.declared.operator.Assigning.TheVariants as assigning
use Rattle.zk_tree.specs.declared.operator.Container.{Container}
use Rattle.zk_tree.specs.declared.operator.Container.TheVariants as container
use Rattle.zk_tree.specs.declared.place.Place.{Place}
use Rattle.zk_typed.specs.declared.rule.Rule.{Rule}
use Rattle.zk_typed.specs.declared.rule.Rule.TheVariants as rule
use Rattle.zk_typed.specs.declared.script.types.SimpleType.{SimpleType}
use Rattle.zk_typed.specs.Checked.{Checked, along, broken_anyway, with_rule, ◌>>=◌, both, each, require, rules_of}
use Rattle.zk_typed.specs.LogCalls.{Call, item_expr, expr_calls_to, creates, created_in}
use Rattle.zk_typed.specs.Making.{argument, matched, as_many, arguments, field_named, given_field, record_typed, Members, members_in, one_value, bracketed, each_key, member_keys, entry, item_values, loosely, loose, wanted_container, container_alone, container_typed, braces_typed, brackets_typed, wrong_name}
use Rattle.zk_typed.specs.Resolving.{Scripts, FieldInfo, fields_of}
use Rattle.zk_typed.specs.Types.{ValueType, Simple, Record, Table, Set, Vector}
use Rattle.zk_typed.specs.Typing.{Typed, Env, at, Wanted, Nothing, Wants, Unclear, wanted_of, Check, on_item, left_of_in, expr_place}
use Rattle.zk_sound.specs.Agreeing.{IsKnown}
use Rattle.zk_sound.proofs.Growth.{all_append}
use Rattle.zk_sound.proofs.Told.{untold_both, untold_bind}

-- What is quiet --------------------------------------------------------------------------------------------------------

-- no rule is told
abbrev pub Quiet : {A : Type 0} → Checked A → Type 0
Quiet m = rules_of m ≡ []

-- what is broken anyway is told
pub never_quiet : {A : Type 0} (B : Type 0) (m : Checked A) (why : Rule) (place : Place) → Quiet {A = B} (broken_anyway m why place) → ⊥
never_quiet B (Ok a) why place e = cc
never_quiet B (Err []) why place e = cc
never_quiet B (Err (one ∷ rules)) why place e = cc

-- so is a name that is wrong
pub never_named : {A : Type 0} (B : Type 0) (why : Rule) (place : Place) (behind : Checked A) → Quiet {A = B} (wrong_name why place behind) → ⊥
never_named B why place behind e = cc

pub quiet_with : {A : Type 0} (m : Checked A) (holds : Bool) (why : Rule) (place : Place) → Quiet (with_rule m (require holds why place)) → Quiet m × (holds ≡ true)
quiet_with (Ok a) true why place e = (refl, refl)
quiet_with (Ok a) false why place e = absurd cc
quiet_with (Err []) true why place e = (refl, refl)
quiet_with (Err []) false why place e = absurd cc
quiet_with (Err (one ∷ rules)) holds why place e = absurd cc

pub quiet_along : {A B : Type 0} (m : Checked A) (other : Checked B) → Quiet (along m other) → Quiet m × Quiet other
quiet_along m other e = untold_both m other (untold_bind (both m other) (λ parts. Ok parts.0) e)

-- Calls ----------------------------------------------------------------------------------------------------------------

-- a call that gives a log a stream says the record type of that log
abbrev pub CallRight : Scripts → Call → Type 0
CallRight scripts call = creates scripts call ≡ true → (word : List ℕ) → AllByRecursion IsKnown (created_in scripts word call)

abbrev pub in_items : (Expr → List Call) → List Item → List Call
in_items more items = flat_map (λ item. more (item_expr item)) items

module _ (env : Env) where
  abbrev pub Right : List Call → Type 0
  Right calls = AllByRecursion (CallRight env.scripts) calls

  pub grouped : (a b c : List Call) → Right (a ++ (b ++ c)) → Right (a ++ b ++ c)
  grouped a b c all = subst Right (sym (append_assoc a b c)) all

  -- the calls in an expression, to a depth
  abbrev pub calls : ℕ → Expr → List Call
  calls depth = expr_calls_to depth env.home

  -- where it tells nothing, what checks the parts finds their calls right
  abbrev pub FindsRight : ℕ → Check → Type 0
  FindsRight most check = (depth : ℕ) → depth ≤ most → (wanted : Wanted) (one : Expr) → Quiet (check wanted one) → Right (calls depth one)

  -- By forms -----------------------------------------------------------------------------------------------------------

  pub list_right : (depth : ℕ) (one : Expr) (place : ℕ) (items : List Item) → out-Expr one ≡ written.List place items → ((less : ℕ) → suc less ≤ depth → Right (in_items (calls less) items)) → Right (calls depth one)
  list_right zero one place items is h = tt
  list_right (suc depth) one place items is h = rw is (h depth (omega arith))

  pub name_right : (depth : ℕ) (one : Expr) (name : Name) → out-Expr one ≡ written.Name name → Right (calls depth one)
  name_right zero one name is = tt
  name_right (suc depth) one name is = rw is tt

  pub assign_right : (depth : ℕ) (one left : Expr) (operator : Assigning) (right : Expr) → out-Expr one ≡ written.Assign left operator right
      → ((less : ℕ) → suc less ≤ depth → Right (calls less left) × Right (calls less right)) → Right (calls depth one)
  assign_right zero one left operator right is h = tt
  assign_right (suc depth) one left operator right is h = let parts = h depth (omega arith) in rw is (all_append (CallRight env.scripts) (calls depth left) (calls depth right) parts.0 parts.1)

  pub items_right : {A : Type 0} (judge : Item → Checked A) (more : Expr → List Call) → ((item : Item) → Quiet (judge item) → Right (more (item_expr item))) → (items : List Item) → Quiet (each judge items) → Right (in_items more items)
  items_right judge more h [] e = tt
  items_right judge more h (item ∷ items) e =
      let parts = untold_both (judge item) (each judge items) (untold_bind (both (judge item) (each judge items)) (λ parts. Ok (parts.0 ∷ parts.1)) e) in
      all_append (CallRight env.scripts) (more (item_expr item)) (in_items more items) (h item parts.0) (items_right judge more h items parts.1)

  pub exprs_right : {A : Type 0} (judge : Expr → Checked A) (more : Expr → List Call) → ((one : Expr) → Quiet (judge one) → Right (more one)) → (ones : List Expr) → Quiet (each judge ones) → Right (flat_map more ones)
  exprs_right judge more h [] e = tt
  exprs_right judge more h (one ∷ ones) e =
      let parts = untold_both (judge one) (each judge ones) (untold_bind (both (judge one) (each judge ones)) (λ parts. Ok (parts.0 ∷ parts.1)) e) in
      all_append (CallRight env.scripts) (more one) (flat_map more ones) (h one parts.0) (exprs_right judge more h ones parts.1)

  module _ (check : Check) (most : ℕ) (well : FindsRight most check) where
    -- Items ------------------------------------------------------------------------------------------------------------

    pub item_right : {A : Type 0} (judge : Expr → Checked A) (depth : ℕ) → ((one : Expr) → Quiet (judge one) → Right (calls depth one)) → (item : Item) → Quiet (on_item check env judge item) → Right (calls depth (item_expr item))
    item_right judge depth h item e = by (out-Item item) refl
      where
        by : (f : Item-F Expr Item Part Link) → out-Item item ≡ f → Right (calls depth (item_expr item))
        by (written.Value value) is = rw is (h value (rw is at e))
        by (written.Item::Field place name value) is = absurd (never_quiet _ (check Nothing value) rule.WrongType (at env place) (rw is at e))

    pub argument_right : (depth : ℕ) → depth ≤ most → (wanted : Wanted) (item : Item) → Quiet (argument check env wanted item) → Right (calls depth (item_expr item))
    argument_right depth less wanted item e = item_right (check wanted) depth (well depth less wanted) item e

    pub each_right : (depth : ℕ) → depth ≤ most → (wanted : Wanted) (items : List Item) → Quiet (each (argument check env wanted) items) → Right (in_items (calls depth) items)
    each_right depth less wanted items e = items_right (argument check env wanted) (calls depth) (argument_right depth less wanted) items e

    pub values_right : (depth : ℕ) → depth ≤ most → (wanted : Wanted) (items : List Item) → Quiet (item_values check wanted items) → Right (in_items (calls depth) items)
    values_right depth less wanted items e = items_right (λ item. check wanted (item_expr item)) (calls depth) (λ item. well depth less wanted (item_expr item)) items e

    matched_right : (depth : ℕ) → depth ≤ most → (types : List ValueType) (items : List Item) → length types ≡ length items → Quiet (matched check env types items) → Right (in_items (calls depth) items)
    matched_right depth less [] [] same e = tt
    matched_right depth less [] (item ∷ items) same e = absurd (omega (arith, same))
    matched_right depth less (type ∷ types) [] same e = absurd (omega (arith, same))
    matched_right depth less (type ∷ types) (item ∷ items) same e =
        let parts = untold_both (argument check env (Wants type) item) (matched check env types items) (untold_bind (both (argument check env (Wants type) item) (matched check env types items)) (λ parts. Ok (parts.0 ∷ parts.1)) e) in
        all_append (CallRight env.scripts) (calls depth (item_expr item)) (in_items (calls depth) items) (argument_right depth less (Wants type) item parts.0) (matched_right depth less types items (omega (arith, same)) parts.1)

    many_right : (depth : ℕ) → depth ≤ most → (why : Rule) (place : Place) (types : List ValueType) (items : List Item) → Quiet (as_many check env why place types items) → Right (in_items (calls depth) items)
    many_right depth less why place types items e =
        let placed = matched check env types items in
        let counted = quiet_with placed (length types == length items) why place (quiet_along (with_rule placed (require (length types == length items) why place)) (each (argument check env Unclear) (drop (length types) items)) e).0 in
        matched_right depth less types items (eqb-true (length types) (length items) counted.1) counted.0

    pub arguments_right : (depth : ℕ) → depth ≤ most → (place : Place) (params : Checked (List ValueType)) (items : List Item) → Quiet (arguments check env place params items) → Right (in_items (calls depth) items)
    arguments_right depth less place (Ok params) items e = many_right depth less rule.Arguments place params items e
    arguments_right depth less place (Err rules) items e = each_right depth less Unclear items (untold_bind (each (argument check env Unclear) items) _ e)

    -- Records ----------------------------------------------------------------------------------------------------------

    given_right : (depth : ℕ) → depth ≤ most → (fields : List FieldInfo) (item : Item) → Quiet (given_field check env fields item) → Right (calls depth (item_expr item))
    given_right depth less fields item e = by (out-Item item) refl
      where
        named : (place : ℕ) (name : Name) (value : Expr) (found : Option (ℕ × FieldInfo)) → out-Item item ≡ written.Item::Field place name value → field_named name.text 0 fields ≡ found → Right (calls depth (item_expr item))
        named place name value None is k = absurd (never_quiet _ (check Nothing value) rule.Field (at env place) (rw k at (rw is at e)))
        named place name value (Some field) is k =
            let told : Quiet (both field.1.field_type (check (wanted_of field.1.field_type) value) >>= _) = rw k at (rw is at e) in
            rw is (well depth less (wanted_of field.1.field_type) value (untold_both field.1.field_type (check (wanted_of field.1.field_type) value) (untold_bind (both field.1.field_type (check (wanted_of field.1.field_type) value)) _ told)).1)

        by : (f : Item-F Expr Item Part Link) → out-Item item ≡ f → Right (calls depth (item_expr item))
        by (written.Item::Field place name value) is = named place name value (field_named name.text 0 fields) is refl
        by (written.Value value) is = absurd (never_quiet _ (check Nothing value) rule.WrongType (expr_place env value) (rw is at e))

    pub record_right : (depth : ℕ) → depth ≤ most → (place : Place) (number : RecordNo) (items : List Item) → Quiet (record_typed check env place number items) → Right (in_items (calls depth) items)
    record_right depth less place number items e = items_right (given_field check env (fields_of env.scripts number.0)) (calls depth) (given_right depth less (fields_of env.scripts number.0)) items
        (untold_bind (each (given_field check env (fields_of env.scripts number.0)) items) _ e)

    pub brackets_right : (depth : ℕ) → depth ≤ most → (place : Place) (items : List Item) (wanted : Wanted) → Quiet (brackets_typed check env place items wanted) → Right (in_items (calls depth) items)
    brackets_right depth less place items Unclear e = values_right depth less Unclear items (untold_bind (item_values check Unclear items) _ e)
    brackets_right depth less place items (Wants (Record number)) e = record_right depth less place number items e
    brackets_right depth less place items wanted e = absurd (never_quiet _ (item_values check Nothing items) rule.WrongType place e)

    -- Members of containers --------------------------------------------------------------------------------------------

    -- what a judgement of a member says of the calls in it
    abbrev FindsIn : ℕ → (Expr → Checked (List Typed)) → Type 0
    FindsIn depth judge = (one : Expr) → Quiet (judge one) → Right (calls depth one)

    value_finds : (depth : ℕ) → depth ≤ most → (wanted : Wanted) → FindsIn depth (one_value check wanted)
    value_finds depth less wanted one e = well depth less wanted one (untold_bind (check wanted one) _ e)

    -- brackets whose items are judged are found right
    pub bracket_right : (depth : ℕ) → depth ≤ most → (one : Expr) (place : ℕ) (items : List Item) → out-Expr one ≡ written.List place items → ((less : ℕ) → less ≤ most → Right (in_items (calls less) items)) → Right (calls depth one)
    bracket_right depth within one place items is h = list_right depth one place items is (λ less under. h less (omega (arith, within, under)))

    entry_parts : (depth : ℕ) → depth ≤ most → (one left right : Expr) (place : ℕ) (items : List Item) → out-Expr one ≡ written.Assign left assigning.Set right → out-Expr left ≡ written.List place items
        → ((less : ℕ) → less ≤ most → Right (in_items (calls less) items)) → ((less : ℕ) → less ≤ most → Right (calls less right)) → Right (calls depth one)
    entry_parts depth within one left right place items is of keys value =
        assign_right depth one left assigning.Set right is (λ less under. (list_right less left place items of (λ lower below. keys lower (omega (arith, within, under, below))), value less (omega (arith, within, under))))

    loose_finds : (depth : ℕ) → depth ≤ most → (wanted : Wanted) → FindsIn depth (loose check env wanted)
    loose_finds depth within wanted one e = by (out-Expr one) refl
      where
        whole : Quiet (one_value check wanted one) → Right (calls depth one)
        whole e = value_finds depth within wanted one e

        set : (left right : Expr) (f : Expr-F Expr Item Part Link) → out-Expr one ≡ written.Assign left assigning.Set right → out-Expr left ≡ f → Right (calls depth one)
        set left right (written.List place items) is of =
            let told : Quiet (both (each (argument check env wanted) items) (check wanted right) >>= (λ parts. Ok (parts.0 ++ parts.1 ∷ []))) = rw of at (rw is at e) in
            let parts = untold_both (each (argument check env wanted) items) (check wanted right) (untold_bind (both (each (argument check env wanted) items) (check wanted right)) _ told) in
            entry_parts depth within one left right place items is of (λ less under. each_right less under wanted items parts.0) (λ less under. well less under wanted right parts.1)
        set left right f is of = whole (rw of at (rw is at e))

        by : (f : Expr-F Expr Item Part Link) → out-Expr one ≡ f → Right (calls depth one)
        by (written.Assign left assigning.Set right) is = set left right (out-Expr left) is refl
        by (written.List place items) is = bracket_right depth within one place items is (λ less under. values_right less under wanted items (rw is at (rw is at e)))
        by f is = whole (rw is at (rw is at e))

    loosely_finds : (depth : ℕ) → depth ≤ most → (made : Container) (wanted : Wanted) → FindsIn depth (loosely check env made wanted)
    loosely_finds depth within container.Vector wanted = value_finds depth within wanted
    loosely_finds depth within made wanted = loose_finds depth within wanted

    keys_right : (depth : ℕ) → depth ≤ most → (place : Place) (keys : List SimpleType) (items : List Item) → Quiet (each_key check env place keys items) → Right (in_items (calls depth) items)
    keys_right depth within place keys items e = many_right depth within rule.WrongType place (map Simple keys) items e

    -- keys that are several, or none, in brackets
    abbrev several : List SimpleType → Expr → Option (ℕ × List Item) → Checked (List Typed)
    several keys one None = broken_anyway (check Nothing one) rule.WrongType (expr_place env one)
    several keys one (Some items) = each_key check env (at env items.0) keys items.1

    several_right : (depth : ℕ) → depth ≤ most → (keys : List SimpleType) (one : Expr) → Quiet (several keys one (bracketed one)) → Right (calls depth one)
    several_right depth within keys one e = by (out-Expr one) refl
      where
        by : (f : Expr-F Expr Item Part Link) → out-Expr one ≡ f → Right (calls depth one)
        by (written.List place items) is = bracket_right depth within one place items is (λ less under. keys_right less under (at env place) keys items (rw is at e))
        by f is = absurd (never_quiet _ (check Nothing one) rule.WrongType (expr_place env one) (rw is at e))

    member_finds : (depth : ℕ) → depth ≤ most → (keys : List SimpleType) → FindsIn depth (member_keys check env keys)
    member_finds depth within [] one e = several_right depth within [] one e
    member_finds depth within (key ∷ []) one e = well depth within (Wants (Simple key)) one (untold_bind (check (Wants (Simple key)) one) _ e)
    member_finds depth within (key ∷ other ∷ keys) one e = several_right depth within (key ∷ other ∷ keys) one e

    entry_finds : (depth : ℕ) → depth ≤ most → (keys : List SimpleType) (value : ValueType) → FindsIn depth (entry check env keys value)
    entry_finds depth within keys value one e = by (out-Expr one) refl
      where
        wrong : Quiet {A = List Typed} (broken_anyway (check Nothing one) rule.WrongType (expr_place env one)) → Right (calls depth one)
        wrong e = absurd (never_quiet _ (check Nothing one) rule.WrongType (expr_place env one) e)

        set : (left right : Expr) (f : Expr-F Expr Item Part Link) → out-Expr one ≡ written.Assign left assigning.Set right → out-Expr left ≡ f → Right (calls depth one)
        set left right (written.List place items) is of =
            let told : Quiet (both (each_key check env (at env place) keys items) (check (Wants value) right) >>= (λ parts. Ok (parts.0 ++ parts.1 ∷ []))) = rw of at (rw is at e) in
            let parts = untold_both (each_key check env (at env place) keys items) (check (Wants value) right) (untold_bind (both (each_key check env (at env place) keys items) (check (Wants value) right)) _ told) in
            entry_parts depth within one left right place items is of (λ less under. keys_right less under (at env place) keys items parts.0) (λ less under. well less under (Wants value) right parts.1)
        set left right f is of = wrong (rw of at (rw is at e))

        by : (f : Expr-F Expr Item Part Link) → out-Expr one ≡ f → Right (calls depth one)
        by (written.Assign left assigning.Set right) is = set left right (out-Expr left) is refl
        by f is = wrong (rw is at e)

    pub left_finds : (depth : ℕ) → depth ≤ most → FindsIn depth (left_of_in check env)
    left_finds depth within one e = by (out-Expr one) refl
      where
        few : (place : ℕ) (items : List Item) → Quiet {A = List Typed} (broken_anyway (each (on_item check env (check Nothing)) items) rule.WrongType (at env place)) → Right (calls depth one)
        few place items e = absurd (never_quiet _ (each (on_item check env (check Nothing)) items) rule.WrongType (at env place) e)

        by : (f : Expr-F Expr Item Part Link) → out-Expr one ≡ f → Right (calls depth one)
        by (written.List place []) is = few place [] (rw is at e)
        by (written.List place (item ∷ [])) is = few place (item ∷ []) (rw is at e)
        by (written.List place (first ∷ second ∷ others)) is = bracket_right depth within one place (first ∷ second ∷ others) is (λ less under. each_right less under Nothing (first ∷ second ∷ others) (rw is at e))
        by f is = well depth within Nothing one (untold_bind (check Nothing one) _ (rw is at e))

    -- Containers -------------------------------------------------------------------------------------------------------

    -- what judges the members of a container finds the calls in them right, where the judgement of each does
    abbrev pub MembersFind : ℕ → Members → List Call → Type 0
    MembersFind depth members total = (judge : Expr → Checked (List Typed)) → FindsIn depth judge → Quiet (members judge) → Right total

    pub items_find : (depth : ℕ) (items : List Item) → MembersFind depth (members_in check env items) (in_items (calls depth) items)
    items_find depth items judge h e = items_right (on_item check env judge) (calls depth) (item_right judge depth h) items e

    module _ (depth : ℕ) (within : depth ≤ most) (place : Place) (members : Members) (total : List Call) (find : MembersFind depth members total) where
      wanted_right : (made : Container) (wanted : ValueType) → Quiet (wanted_container check env place made members wanted) → Right total
      wanted_right container.Table (Table keys value) e = find (entry check env keys value) (entry_finds depth within keys value) (untold_bind (members (entry check env keys value)) _ e)
      wanted_right container.Set (Set keys) e = find (member_keys check env keys) (member_finds depth within keys) (untold_bind (members (member_keys check env keys)) _ e)
      wanted_right container.Vector (Vector item) e = find (one_value check (Wants item)) (value_finds depth within (Wants item)) (untold_bind (members (one_value check (Wants item))) _ e)
      wanted_right made wanted e = absurd (never_quiet _ (members (loosely check env made Nothing)) rule.WrongType place e)

      alone_right : (made : Container) → Quiet (container_alone check env place made members) → Right total
      alone_right container.Set e = find (left_of_in check env) (left_finds depth within) (untold_bind (members (left_of_in check env)) _ e)
      alone_right container.Vector e = find (one_value check Nothing) (value_finds depth within Nothing) (untold_bind (members (one_value check Nothing)) _ e)
      alone_right container.Table e = absurd (never_quiet _ (members (loose check env Nothing)) rule.WrongType place e)

      pub container_right : (made : Container) (wanted : Wanted) → Quiet (container_typed check env place made members wanted) → Right total
      container_right made Nothing e = alone_right made e
      container_right made Unclear e = find (loosely check env made Unclear) (loosely_finds depth within made Unclear) (untold_bind (members (loosely check env made Unclear)) _ e)
      container_right made (Wants wanted) e = wanted_right made wanted e

    pub braces_right : (depth : ℕ) → depth ≤ most → (place : Place) (values : List Expr) (wanted : Wanted) → Quiet (braces_typed check env place values wanted) → Right (flat_map (calls depth) values)
    braces_right depth within place values wanted e = by wanted e
      where
        members : Members
        members judge = each judge values

        find : MembersFind depth members (flat_map (calls depth) values)
        find judge h e = exprs_right judge (calls depth) h values e

        by : (wanted : Wanted) → Quiet (braces_typed check env place values wanted) → Right (flat_map (calls depth) values)
        by (Wants (Table keys value)) e = wanted_right depth within place members (flat_map (calls depth) values) find container.Table (Table keys value) e
        by (Wants (Set keys)) e = wanted_right depth within place members (flat_map (calls depth) values) find container.Set (Set keys) e
        by (Wants (Vector item)) e = wanted_right depth within place members (flat_map (calls depth) values) find container.Vector (Vector item) e
        by Unclear e = find (loose check env Unclear) (loose_finds depth within Unclear) (untold_bind (each (loose check env Unclear) values) _ e)
        by wanted e = absurd (never_quiet _ (each (loose check env Nothing) values) rule.WrongType place e)
