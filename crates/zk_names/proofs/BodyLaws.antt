-- Words of enums, and what bodies declare.
use Rattle.std.proofs.Common.{◌≡◌, ℕ, ◌==◌, Bool, true, false, List, [], ◌∷◌, fold, Ok, Err, refl}
use Rattle.zk_tree.specs.declared.decl.Decl.{out-Decl}
use Rattle.zk_tree.specs.declared.decl.Decl as tree
use Rattle.zk_tree.specs.declared.name.Name.{Name}
use Rattle.zk_tree.specs.Opening.{trees}
use Rattle.zk_typed.specs.declared.script.types.SimpleType.{SimpleType}
use Rattle.zk_typed.specs.declared.script.types.SimpleType.TheVariants as simple
use Rattle.zk_typed.specs.Checked.{Checked}
use Rattle.zk_typed.specs.Declaring.{added_words, in_round, round_of, words_of}
use Rattle.zk_typed.specs.LoadOrder.{Home, Stated}
use Rattle.zk_typed.specs.Names.{Declared}
use Rattle.zk_typed.specs.Resolving.{Scripts, type_named}
use Rattle.zk_typed.specs.Types.{ValueType, Simple, Record, Table, Set, Vector}
use Rattle.zk_names.specs.Words.{enum_in, with_body, words_in}

of_simple : (one : SimpleType) (home : Home) (words : List Name) → words_of (Ok (Simple one)) home words ≡ words_in (enum_in (Ok (Simple one))) home words
of_simple simple.Bool home words = refl
of_simple simple.Count home words = refl
of_simple simple.Int home words = refl
of_simple simple.String home words = refl
of_simple simple.Time home words = refl
of_simple simple.Interval home words = refl
of_simple simple.Addr home words = refl
of_simple simple.Port home words = refl
of_simple simple.Subnet home words = refl
of_simple (simple.Enum number) home words = refl

words_is : (checked : Checked ValueType) (home : Home) (words : List Name) → words_of checked home words ≡ words_in (enum_in checked) home words
words_is (Ok (Simple one)) home words = of_simple one home words
words_is (Ok (Record number)) home words = refl
words_is (Ok (Table keys value)) home words = refl
words_is (Ok (Set keys)) home words = refl
words_is (Ok (Vector item)) home words = refl
words_is (Err rules) home words = refl

-- the words that `redef enum` adds
pub added_is : (scripts : Scripts) (home : Home) (place : ℕ) (name : Name) (words : List Name) (comma : Bool) →
    added_words scripts home (out-Decl (tree.RedefEnum place name words comma)) ≡ words_in (enum_in (type_named scripts home name)) home words
unfolding trees
added_is scripts home place name words comma = words_is (type_named scripts home name) home words

by_round : (round : ℕ) (names : List Declared) (one : Stated) (others : List Stated) (b : Bool) → (round_of one == round) ≡ b →
    ((names : List Declared) → in_round others names round ≡ fold (with_body round) names others) → in_round (one ∷ others) names round ≡ fold (with_body round) names (one ∷ others)
by_round round names one others true e h = rw e (h _)
by_round round names one others false e h = rw e (h names)

-- the bodies of a round
pub bodies_of : (round : ℕ) (stated : List Stated) (names : List Declared) → in_round stated names round ≡ fold (with_body round) names stated
bodies_of round [] names = refl
bodies_of round (one ∷ others) names = by_round round names one others (round_of one == round) refl (bodies_of round others)
