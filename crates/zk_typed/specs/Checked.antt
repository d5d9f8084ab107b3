-- What checking gives: what was checked, or the rules that are broken in it. A construct with a broken part breaks no rule of
-- its own. What rests on a broken declaration elsewhere is broken too, with no rule to tell.
use Rattle.std.specs.Prelude.{Bool, List, [], ◌∷◌, ◌++◌, Option, Some, None, Result, Ok, Err, if◌then◌else◌}
use Rattle.zk_tree.specs.declared.place.Place.{Place}
use Rattle.zk_typed.specs.declared.rule.Rule.{Rule}
pub use Rattle.zk_typed.specs.declared.refusal.Broken.{Broken}

abbrev pub Checked : Type 0 → Type 0
Checked A = Result A (List Broken)

abbrev pub broken : {A : Type 0} → Rule → Place → Checked A
broken rule place = Err (record { rule = rule; place = place } ∷ [])

-- broken for what is broken elsewhere
abbrev pub elsewhere : {A : Type 0} → Checked A
elsewhere = Err []

-- a construct's own rule, once its parts are right
infixl 10 ◌>>=◌
abbrev pub ◌>>=◌ : {A B : Type 0} → Checked A → (A → Checked B) → Checked B
Ok a >>= rule = rule a
Err rules >>= rule = Err rules

infixl 10 ◌>>◌
abbrev pub ◌>>◌ : {A B : Type 0} → Checked A → Checked B → Checked B
first >> second = first >>= (λ a. second)

abbrev pub rules_of : {A : Type 0} → Checked A → List Broken
rules_of (Ok a) = []
rules_of (Err rules) = rules

-- two parts of a construct: what is broken in either
abbrev pub both : {A B : Type 0} → Checked A → Checked B → Checked (A × B)
both (Ok a) (Ok b) = Ok (a, b)
both (Ok a) (Err rules) = Err rules
both (Err rules) second = Err (rules ++ rules_of second)

-- the parts of a list
abbrev pub each : {A B : Type 0} → (A → Checked B) → List A → Checked (List B)
each check [] = Ok []
each check (one ∷ others) = both (check one) (each check others) >>= (λ parts. Ok (parts.0 ∷ parts.1))

-- a part, and what is judged beside it for its own sake
abbrev pub along : {A B : Type 0} → Checked A → Checked B → Checked A
along part other = both part other >>= (λ parts. Ok parts.0)

-- What is broken elsewhere hides no rule that doesn't rest on it: the rules that are told of parts, or else those of the whole.
abbrev pub told_or : List Broken → List Broken → List Broken
told_or [] others = others
told_or (one ∷ more) others = one ∷ more

-- a rule that a construct breaks whatever this part of it is
abbrev pub broken_anyway : {A B : Type 0} → Checked A → Rule → Place → Checked B
broken_anyway (Ok a) rule place = broken rule place
broken_anyway (Err rules) rule place = Err (told_or rules (record { rule = rule; place = place } ∷ []))

-- a part, and a rule of its construct that doesn't rest on what it is
abbrev pub with_rule : {A : Type 0} → Checked A → Checked (Unit {0}) → Checked A
with_rule (Ok a) rule = rule >> Ok a
with_rule (Err rules) rule = Err (told_or rules (rules_of rule))

abbrev pub require : Bool → Rule → Place → Checked (Unit {0})
require holds rule place = if holds then Ok tt else broken rule place

-- what is there, or a broken rule
abbrev pub or_broken : {A : Type 0} → Option A → Rule → Place → Checked A
or_broken (Some a) rule place = Ok a
or_broken None rule place = broken rule place
