-- What is told of containers stays told where more is known of the types of globals.
use Rattle.std.proofs.Common.{◌≡◌, ℕ, List, [], ◌∷◌, ◌++◌, map, Some, None, Ok, inr, refl}
use Rattle.zk_tree.specs.declared.expr.Expr.{Expr, out-Expr}
use Rattle.zk_tree.specs.declared.expr.Expr.TheOpen.{Expr-F}
use Rattle.zk_tree.specs.declared.expr.Expr.TheOpen as written
use Rattle.zk_tree.specs.declared.expr.Item.{Item}
use Rattle.zk_tree.specs.declared.expr.Link.{Link}
use Rattle.zk_tree.specs.declared.expr.Part.{Part}
use Rattle.zk_tree.specs.declared.operator.Assigning.TheVariants as assigning
use Rattle.zk_tree.specs.declared.operator.Container.{Container}
use Rattle.zk_tree.specs.declared.operator.Container.TheVariants as container
use Rattle.zk_tree.specs.declared.place.Place.{Place}
use Rattle.zk_typed.specs.declared.rule.Rule.TheVariants as rule
use Rattle.zk_typed.specs.declared.script.types.SimpleType.{SimpleType}
use Rattle.zk_typed.specs.Checked.{Checked, broken_anyway, both, each}
use Rattle.zk_typed.specs.Making.{Members, argument, bracketed, members_in, one_value, each_key, member_keys, entry, item_values, loose, loosely, wanted_container, container_alone, container_typed, braces_typed, brackets_typed}
use Rattle.zk_typed.specs.Types.{ValueType, Simple, Record, Table, Set, Vector}
use Rattle.zk_typed.specs.Typing.{Typed, Env, at, expr_place, Wanted, Nothing, Wants, Unclear, Check, on_item, left_of_in}
use Rattle.zk_check_declarations.specs.Staying.{Stays}
use Rattle.zk_check_declarations.proofs.Staying.{later, stays_bind, stays_both, stays_anyway, stays_each, item_stays, arguments_stay, values_stay, many_stay}
use Rattle.zk_check_declarations.proofs.StayingForms.{left_stays, record_stays}

-- what is told of members, whatever each is to be
abbrev pub MembersStay : Members → Members → Type 0
MembersStay members now = (judge more : Expr → Checked (List Typed)) → ((one : Expr) → Stays (judge one) (more one)) → Stays (members judge) (now more)

module _ (env : Env) (known : ℕ → Checked ValueType) (more : (number : ℕ) → Stays (env.global_type number) (known number))
    (check after : Check) (well : (wanted : Wanted) (one : Expr) → Stays (check wanted one) (after wanted one)) where
  abbrev grown : Env
  grown = later env known

  items_stay : (items : List Item) → MembersStay (members_in check env items) (members_in after grown items)
  items_stay items judge now h = stays_each (on_item check env judge) (on_item after grown now) (item_stays env known check after well judge now h) items

  value_stays : (wanted : Wanted) (one : Expr) → Stays (one_value check wanted one) (one_value after wanted one)
  value_stays wanted one = stays_bind (check wanted one) (after wanted one) (λ value. Ok (value ∷ [])) (λ value. Ok (value ∷ [])) (well wanted one) (λ value. inr refl)

  wrong_stays : (one : Expr) → Stays {A = List Typed} (broken_anyway (check Nothing one) rule.WrongType (expr_place env one)) (broken_anyway (after Nothing one) rule.WrongType (expr_place env one))
  wrong_stays one = stays_anyway (List Typed) (check Nothing one) (after Nothing one) rule.WrongType (expr_place env one) (well Nothing one)

  key_stays : (place : Place) (keys : List SimpleType) (items : List Item) → Stays (each_key check env place keys items) (each_key after grown place keys items)
  key_stays place keys items = many_stay env known check after well rule.WrongType place (map Simple keys) items

  keys_stay : (keys : List SimpleType) (one : Expr) → Stays (member_keys check env keys one) (member_keys after grown keys one)
  keys_stay (key ∷ []) one = stays_bind (check (Wants (Simple key)) one) (after (Wants (Simple key)) one) (λ fitting. Ok (fitting ∷ [])) (λ fitting. Ok (fitting ∷ [])) (well (Wants (Simple key)) one) (λ fitting. inr refl)
  keys_stay [] one = by (out-Expr one) refl
    where
      by : (f : Expr-F Expr Item Part Link) → out-Expr one ≡ f → Stays (member_keys check env [] one) (member_keys after grown [] one)
      by (written.List place items) is = rw is (key_stays (at env place) [] items)
      by other is = rw is (wrong_stays one)
  keys_stay (first ∷ second ∷ keys) one = by (out-Expr one) refl
    where
      by : (f : Expr-F Expr Item Part Link) → out-Expr one ≡ f → Stays (member_keys check env (first ∷ second ∷ keys) one) (member_keys after grown (first ∷ second ∷ keys) one)
      by (written.List place items) is = rw is (key_stays (at env place) (first ∷ second ∷ keys) items)
      by other is = rw is (wrong_stays one)

  entry_stays : (keys : List SimpleType) (value : ValueType) (one : Expr) → Stays (entry check env keys value one) (entry after grown keys value one)
  entry_stays keys value one = by (out-Expr one) refl
    where
      set : (left right : Expr) (f : Expr-F Expr Item Part Link) → out-Expr one ≡ written.Assign left assigning.Set right → out-Expr left ≡ f → Stays (entry check env keys value one) (entry after grown keys value one)
      set left right (written.List place items) is of =
          rw (is, of) (stays_bind (both (each_key check env (at env place) keys items) (check (Wants value) right)) (both (each_key after grown (at env place) keys items) (after (Wants value) right))
          (λ parts. Ok (parts.0 ++ parts.1 ∷ [])) (λ parts. Ok (parts.0 ++ parts.1 ∷ []))
          (stays_both (each_key check env (at env place) keys items) (each_key after grown (at env place) keys items) (check (Wants value) right) (after (Wants value) right) (key_stays (at env place) keys items) (well (Wants value) right)) (λ parts. inr refl))
      set left right other is of = rw (is, of) (wrong_stays one)

      by : (f : Expr-F Expr Item Part Link) → out-Expr one ≡ f → Stays (entry check env keys value one) (entry after grown keys value one)
      by (written.Assign left assigning.Set right) is = set left right (out-Expr left) is refl
      by other is = rw is (wrong_stays one)

  loose_stays : (wanted : Wanted) (one : Expr) → Stays (loose check env wanted one) (loose after grown wanted one)
  loose_stays wanted one = by (out-Expr one) refl
    where
      set : (left right : Expr) (f : Expr-F Expr Item Part Link) → out-Expr one ≡ written.Assign left assigning.Set right → out-Expr left ≡ f → Stays (loose check env wanted one) (loose after grown wanted one)
      set left right (written.List place items) is of =
          rw (is, of) (stays_bind (both (each (argument check env wanted) items) (check wanted right)) (both (each (argument after grown wanted) items) (after wanted right))
          (λ parts. Ok (parts.0 ++ parts.1 ∷ [])) (λ parts. Ok (parts.0 ++ parts.1 ∷ []))
          (stays_both (each (argument check env wanted) items) (each (argument after grown wanted) items) (check wanted right) (after wanted right) (arguments_stay env known check after well wanted items) (well wanted right)) (λ parts. inr refl))
      set left right other is of = rw (is, of) (value_stays wanted one)

      by : (f : Expr-F Expr Item Part Link) → out-Expr one ≡ f → Stays (loose check env wanted one) (loose after grown wanted one)
      by (written.Assign left assigning.Set right) is = set left right (out-Expr left) is refl
      by (written.List place items) is = let some : bracketed one ≡ Some (place, items) = rw is refl in rw (is, some) (values_stay env known check after well wanted items)
      by other is = let none : bracketed one ≡ None = rw is refl in rw (is, none) (value_stays wanted one)

  loosely_stays : (made : Container) (wanted : Wanted) (one : Expr) → Stays (loosely check env made wanted one) (loosely after grown made wanted one)
  loosely_stays container.Vector wanted one = value_stays wanted one
  loosely_stays other wanted one = loose_stays wanted one

  wanted_stays : (place : Place) (made : Container) (members now : Members) → MembersStay members now → (type : ValueType) → Stays (wanted_container check env place made members type) (wanted_container after grown place made now type)
  wanted_stays place container.Table members now h (Table keys value) =
      stays_bind (members (entry check env keys value)) (now (entry after grown keys value)) _ _ (h (entry check env keys value) (entry after grown keys value) (entry_stays keys value)) (λ parts. inr refl)
  wanted_stays place container.Set members now h (Set keys) =
      stays_bind (members (member_keys check env keys)) (now (member_keys after grown keys)) _ _ (h (member_keys check env keys) (member_keys after grown keys) (keys_stay keys)) (λ parts. inr refl)
  wanted_stays place container.Vector members now h (Vector item) =
      stays_bind (members (one_value check (Wants item))) (now (one_value after (Wants item))) _ _ (h (one_value check (Wants item)) (one_value after (Wants item)) (value_stays (Wants item))) (λ parts. inr refl)
  wanted_stays place made members now h other =
      stays_anyway Typed (members (loosely check env made Nothing)) (now (loosely after grown made Nothing)) rule.WrongType place (h (loosely check env made Nothing) (loosely after grown made Nothing) (loosely_stays made Nothing))

  alone_stays : (place : Place) (made : Container) (members now : Members) → MembersStay members now → Stays (container_alone check env place made members) (container_alone after grown place made now)
  alone_stays place container.Set members now h = stays_bind (members (left_of_in check env)) (now (left_of_in after grown)) _ _ (h (left_of_in check env) (left_of_in after grown) (left_stays env known more check after well)) (λ parts. inr refl)
  alone_stays place container.Vector members now h = stays_bind (members (one_value check Nothing)) (now (one_value after Nothing)) _ _ (h (one_value check Nothing) (one_value after Nothing) (value_stays Nothing)) (λ parts. inr refl)
  alone_stays place container.Table members now h = stays_anyway Typed (members (loose check env Nothing)) (now (loose after grown Nothing)) rule.WrongType place (h (loose check env Nothing) (loose after grown Nothing) (loose_stays Nothing))

  pub container_stays : (place : Place) (made : Container) (items : List Item) (wanted : Wanted) → Stays (container_typed check env place made (members_in check env items) wanted) (container_typed after grown place made (members_in after grown items) wanted)
  container_stays place made items Nothing = alone_stays place made (members_in check env items) (members_in after grown items) (items_stay items)
  container_stays place made items Unclear =
      stays_bind (members_in check env items (loosely check env made Unclear)) (members_in after grown items (loosely after grown made Unclear)) _ _ (items_stay items (loosely check env made Unclear) (loosely after grown made Unclear) (loosely_stays made Unclear)) (λ parts. inr refl)
  container_stays place made items (Wants wanted) = wanted_stays place made (members_in check env items) (members_in after grown items) (items_stay items) wanted

  pub brackets_stay : (place : Place) (items : List Item) (wanted : Wanted) → Stays (brackets_typed check env place items wanted) (brackets_typed after grown place items wanted)
  brackets_stay place items Unclear = stays_bind (item_values check Unclear items) (item_values after Unclear items) _ _ (values_stay env known check after well Unclear items) (λ values. inr refl)
  brackets_stay place items (Wants (Record number)) = record_stays env known more check after well place number items
  brackets_stay place items other = stays_anyway Typed (item_values check Nothing items) (item_values after Nothing items) rule.WrongType place (values_stay env known check after well Nothing items)

  pub braces_stay : (place : Place) (values : List Expr) (wanted : Wanted) → Stays (braces_typed check env place values wanted) (braces_typed after grown place values wanted)
  braces_stay place values (Wants (Table keys value)) = wanted_stays place container.Table (λ judge. each judge values) (λ judge. each judge values) (λ judge now h. stays_each judge now h values) (Table keys value)
  braces_stay place values (Wants (Set keys)) = wanted_stays place container.Set (λ judge. each judge values) (λ judge. each judge values) (λ judge now h. stays_each judge now h values) (Set keys)
  braces_stay place values (Wants (Vector item)) = wanted_stays place container.Vector (λ judge. each judge values) (λ judge. each judge values) (λ judge now h. stays_each judge now h values) (Vector item)
  braces_stay place values Unclear = stays_bind (each (loose check env Unclear) values) (each (loose after grown Unclear) values) _ _ (stays_each (loose check env Unclear) (loose after grown Unclear) (loose_stays Unclear) values) (λ parts. inr refl)
  braces_stay place values other = stays_anyway Typed (each (loose check env Nothing) values) (each (loose after grown Nothing) values) rule.WrongType place (stays_each (loose check env Nothing) (loose after grown Nothing) (loose_stays Nothing) values)
