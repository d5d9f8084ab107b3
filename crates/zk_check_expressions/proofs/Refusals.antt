-- Rules that are told of parts, and those of the whole.
use Rattle.std.proofs.Common.{◌≡◌, ◌≢◌, Bool, true, false, Result, Ok, Err, List, [], ◌∷◌, ◌++◌, refl, ap, sym}
use Rattle.zk_typed.specs.declared.refusal.Broken.{Broken as BrokenRule}
use Rattle.zk_typed.specs.declared.refusal.Refusal.{Refusal}
use Rattle.zk_typed.specs.declared.refusal.Refusal.TheVariants.{Broken, NoMemory}
use Rattle.zk_tree.specs.declared.place.Place.{Place}
use Rattle.zk_typed.specs.declared.rule.Rule.{Rule}
use Rattle.zk_typed.specs.Checked.{Checked, along, broken, broken_anyway, elsewhere, require, rules_of, told_or, with_rule, ◌>>=◌, ◌>>◌}
use Rattle.zk_typed.specs.Tells.{Tells}
use Rattle.zk_check_operators.proofs.BothLaws.{along_tells}
use Rattle.zk_check_operators.specs.Gather.{IsAlong}
use Rattle.zk_check_expressions.specs.Refusing.{Holds, Hushes, Refuses}

-- some rules are told before others
pub told_first : (before others : List BrokenRule) → before ≢ [] → told_or before others ≡ before
told_first [] others some = absurd (some refl)
told_first (one ∷ more) others some = refl

told_alone : (rules : List BrokenRule) → told_or rules [] ≡ rules
told_alone [] = refl
told_alone (one ∷ more) = refl

-- what is refused in a part, or else because of where it stands, is refused in the whole
pub refused : {A A' B B' : Type 0} (va : A → A') (vb : B → B') (rule : Rule) (place : Place) (part : Result A Refusal) (refusal : Refusal) (ca : Checked A') →
    Refuses rule place part refusal → Tells va part ca → Tells vb (Err refusal) (broken_anyway ca rule place)
refused va vb rule place (Ok one) (Broken rules) ca h k = rw k (ap Err (sym h))
refused va vb rule place (Err (Broken before)) (Broken rules) ca h k = rw k (ap Err (sym h))
refused va vb rule place (Err NoMemory) (Broken rules) ca h k = absurd h
refused va vb rule place part NoMemory ca h k = tt

-- what is broken in a part that rests on what isn't known
pub hushed : {A A' B B' : Type 0} (va : A → A') (vb : B → B') (part : Result A Refusal) (refusal : Refusal) (ca : Checked A') → Hushes part refusal → Tells va part ca → Tells vb (Err refusal) (ca >> elsewhere)
hushed va vb (Ok one) (Broken rules) ca h k = rw k (ap Err (sym h))
hushed va vb (Err (Broken before)) (Broken rules) ca h k = rw k (ap Err (sym h))
hushed va vb (Err NoMemory) (Broken rules) ca h k = absurd h
hushed va vb part NoMemory ca h k = tt

-- what is broken in a part beside what is broken elsewhere
pub hushed_behind : {A A' B B' : Type 0} (va : A → A') (vb : B → B') (part : Result A Refusal) (refusal : Refusal) (ca : Checked A') → Hushes part refusal → Tells va part ca → Tells vb (Err refusal) (Err (rules_of ca))
hushed_behind va vb (Ok one) (Broken rules) ca h k = rw k (ap Err (sym h))
hushed_behind va vb (Err (Broken before)) (Broken rules) ca h k = rw k (ap Err (sym h))
hushed_behind va vb (Err NoMemory) (Broken rules) ca h k = absurd h
hushed_behind va vb part NoMemory ca h k = tt

-- a part under a rule of the whole that doesn't rest on it
pub held : {A A' : Type 0} (va : A → A') (holds : Bool) (rule : Rule) (place : Place) (part result : Result A Refusal) (ca : Checked A') →
    Holds holds rule place part result → Tells va part ca → Tells va result (with_rule ca (require holds rule place))
held va true rule place (Ok one) result ca h k = rw (h, k) refl
held va true rule place (Err (Broken rules)) result ca h k = rw (h, k) (ap Err (told_alone rules))
held va true rule place (Err NoMemory) result ca h k = rw h tt
held va false rule place part (Ok one) ca h k = absurd h
held va false rule place (Ok one) (Err (Broken rules)) ca h k = rw k (ap Err (sym h))
held va false rule place (Err (Broken before)) (Err (Broken rules)) ca h k = rw k (ap Err (sym h))
held va false rule place (Err NoMemory) (Err (Broken rules)) ca h k = absurd h
held va false rule place part (Err NoMemory) ca h k = tt

same_rules : {A : Type 0} {before after : List BrokenRule} → Path (Checked A) (Err before) (Err after) → before ≡ after
same_rules e = cc

-- one rule after another
pub then_then : {A B C : Type 0} (one : Checked A) (f : A → Checked B) (g : B → Checked C) → ((one >>= f) >>= g) ≡ (one >>= (λ a. f a >>= g))
then_then (Ok a) f g = refl
then_then (Err rules) f g = refl

-- a broken rule is that whatever it stands for
pub broken_is : {A A' B B' : Type 0} (va : A → A') (vb : B → B') (rule : Rule) (place : Place) (refusal : Refusal) →
    Tells va (Err refusal) (broken rule place) → Tells vb (Err refusal) (broken rule place)
broken_is va vb rule place (Broken rules) h = let same : record { rule = rule; place = place } ∷ [] ≡ rules = same_rules h in ap Err same
broken_is va vb rule place NoMemory h = tt

-- what is judged behind a part that is broken
pub behind_broken : {A A' B B' C C' : Type 0} (va : A → A') (vb : B → B') (vc : C → C') (refusal : Refusal) (other : Result B Refusal) (whole : Result C Refusal) (whole_of : Checked A' → Checked C')
    (cb : Checked B') (told : Checked A') → ((rules : List BrokenRule) → whole_of (Err rules) ≡ along (Err rules) cb) →
    Tells va (Err refusal) told → Tells vb other cb → IsAlong (Err refusal) other whole → Tells vc whole (whole_of told)
behind_broken va vb vc (Broken rules) other whole whole_of cb told is_along h k is = rw (h, is_along rules) (along_tells vc vb (Err (Broken rules)) other whole (Err rules) cb refl k is)
behind_broken va vb vc NoMemory other (Ok one) whole_of cb told is_along h k is = absurd is.0
behind_broken va vb vc NoMemory other (Err (Broken rules)) whole_of cb told is_along h k is = absurd is.0
behind_broken va vb vc NoMemory other (Err NoMemory) whole_of cb told is_along h k is = tt

-- a rule of the whole is told where its part is right
pub told_right : {A : Type 0} (rule : Rule) (place : Place) (one : A) (refusal : Refusal) → Tells {A = Unit {0}} {B = Unit {0}} (λ done. done) (Err refusal) (broken rule place) → Refuses rule place (Ok one) refusal
told_right rule place one (Broken rules) h = let same : record { rule = rule; place = place } ∷ [] ≡ rules = same_rules h in sym same
told_right rule place one NoMemory h = tt
