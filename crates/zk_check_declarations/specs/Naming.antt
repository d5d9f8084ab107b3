-- The names that declarations declare.
use Rattle.std.specs.Prelude.{ℕ, not, List, [], ◌∷◌, map}
use Rattle.zk_tree.specs.declared.name.Name.{Name}
use Rattle.zk_typed.specs.declared.rule.Rule.TheVariants as rule
use Rattle.zk_typed.specs.Checked.{Checked, require}
use Rattle.zk_typed.specs.Declarations.{is_one_of}
use Rattle.zk_typed.specs.LoadOrder.{Home}
use Rattle.zk_typed.specs.Names.{whole_name}
use Rattle.zk_typed.specs.Resolving.{place_in}
use Rattle.zk_check_declarations.specs.declared.naming.Named.{Named}

abbrev pub named_of : Named → List ℕ × ℕ
named_of one = (one.name, one.place)

abbrev pub all_named : List Named → List (List ℕ × ℕ)
all_named names = map named_of names

abbrev pub place_names : Home → Name → ℕ → List (List ℕ × ℕ)
place_names home name place = (whole_name home.module_name name.text, place) ∷ []

-- the words of an enum
abbrev pub words_named : Home → List Name → List (List ℕ × ℕ)
words_named home words = map (λ word. (whole_name home.module_name word.text, word.place)) words

-- a name behind others
abbrev pub one_twice : Home → List (List ℕ) → List ℕ × ℕ → Checked (Unit {0})
one_twice home before one = require (not (is_one_of before one.0)) rule.Twice (place_in home one.1)
