-- Words of enums, and what bodies declare.
use Rattle.std.specs.Prelude.{ℕ, ◌==◌, List, [], ◌++◌, fold, map, flat_map, Option, Some, None, Ok, if◌then◌else◌}
use Rattle.zk_tree.specs.declared.decl.Decl.{out-Decl}
use Rattle.zk_tree.specs.declared.name.Name.{Name}
use Rattle.zk_typed.specs.declared.script.types.SimpleType.TheVariants as simple
use Rattle.zk_typed.specs.Checked.{Checked}
use Rattle.zk_typed.specs.Declaring.{by_body, outright_of, predefined_names, round_of}
use Rattle.zk_typed.specs.LoadOrder.{Home, Stated}
use Rattle.zk_typed.specs.Names.{Declared, Word, all_nodes, declare}
use Rattle.zk_typed.specs.Resolving.{Scripts}
use Rattle.zk_typed.specs.Types.{ValueType, Simple}

-- the number of an enum
abbrev pub enum_of : ValueType → Option ℕ
enum_of (Simple (simple.Enum number)) = Some number
enum_of other = None

abbrev pub enum_in : Checked ValueType → Option ℕ
enum_in (Ok one) = enum_of one
enum_in other = None

abbrev pub enum_words : Home → ℕ → List Name → List Declared
enum_words home number words = map (λ word. declare home word (Word number)) words

abbrev pub words_in : Option ℕ → Home → List Name → List Declared
words_in None home words = []
words_in (Some number) home words = enum_words home number words

-- with what the body of a declaration declares, in its round
abbrev pub with_body : ℕ → List Declared → Stated → List Declared
with_body round names one = if round_of one == round then names ++ by_body names one.home (out-Decl one.decl) else names

-- with what all bodies declare, in three rounds
abbrev pub with_bodies : List Stated → List Declared → List Declared
with_bodies stated names = fold (with_body 2) (fold (with_body 1) (fold (with_body 0) names stated) stated) stated

-- with the names that are declared outright alone
abbrev pub known_scripts : List Stated → Scripts
known_scripts stated = record { stated = stated; nodes = all_nodes stated; names = predefined_names ++ flat_map outright_of stated }
