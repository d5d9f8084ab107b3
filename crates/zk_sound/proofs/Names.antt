-- What holds of all names that scripts declare: of the predefined ones, of words, and of what each declaration declares.
use Rattle.std.proofs.Common.{◌≡◌, ℕ, ◌==◌, Bool, true, false, List, [], ◌∷◌, ◌++◌, map, filter, flat_map, Option, Some, None, Ok, refl, ap, ◌∙◌, append_assoc}
use Rattle.std.specs.List.{AllByRecursion}
use Rattle.zk_tree.specs.declared.decl.Decl.{Decl, out-Decl}
use Rattle.zk_tree.specs.declared.decl.Decl.TheOpen.{Decl-F}
use Rattle.zk_tree.specs.declared.decl.Decl.TheOpen as decl
use Rattle.zk_tree.specs.declared.name.Name.{Name}
use Rattle.zk_typed.specs.declared.script.types.SimpleType.TheVariants as simple
use Rattle.zk_typed.specs.Checked.{Checked}
use Rattle.zk_typed.specs.Declaring.{predefined_names, outright_of, node_words, words_of, added_words, with_words, unless, by_body, round_of, in_round, with_bodies, scripts_of_stated}
use Rattle.zk_typed.specs.LoadOrder.{Home, Stated}
use Rattle.zk_typed.specs.Names.{Declared, Word, Node, RecordNode, EnumNode, declare, whole_name, look_up, find_whole, first_of, enum_number, all_nodes, decl_nodes}
use Rattle.zk_typed.specs.Resolving.{Scripts, type_named}
use Rattle.zk_typed.specs.Types.{ValueType, Simple}
use Rattle.zk_sound.proofs.Growth.{all_append}
use Rattle.zk_sound.proofs.Tables.{all_find, all_filter}

pub all_by_each : {A : Type 0} (P : A → Type 0) → ((a : A) → P a) → (xs : List A) → AllByRecursion P xs
all_by_each P each [] = tt
all_by_each P each (x ∷ xs) = (each x, all_by_each P each xs)

-- what a declaration declares outright, and what its body declares beside any names
abbrev pub OutrightAre : (Declared → Type 0) → Stated → Type 0
OutrightAre P one = AllByRecursion P (outright_of one)

abbrev pub BodiesAre : (Declared → Type 0) → Stated → Type 0
BodiesAre P one = (names : List Declared) → AllByRecursion P (by_body names one.home (out-Decl one.decl))

pub all_unless : (P : Declared → Type 0) (there : Bool) (one : Declared) → P one → AllByRecursion P (unless there one)
all_unless P true one h = tt
all_unless P false one h = (h, tt)

-- what a name means is one of the names
pub found_among : (P : Declared → Type 0) (names : List Declared) → AllByRecursion P names → (module_name name : List ℕ) (one : Declared) → look_up names module_name name ≡ Some one → P one
found_among P names all module_name name one is = by (find_whole names module_name (whole_name module_name name)) refl is
  where
    by : (found : Option Declared) → find_whole names module_name (whole_name module_name name) ≡ found → first_of found (find_whole names module_name name) ≡ Some one → P one
    by None e is = all_find P _ names one is all
    by (Some other) e is = all_find P _ names one (e ∙ is) all

-- of all names, from what the texts and the bodies declare
bodies_all : (P : Declared → Type 0) (names : List Declared) (stated : List Stated) → AllByRecursion (BodiesAre P) stated → AllByRecursion P names → AllByRecursion P (with_bodies names stated)
bodies_all P names [] bodies h = h
bodies_all P names (one ∷ stated) bodies h = bodies_all P (names ++ by_body names one.home (out-Decl one.decl)) stated bodies.1 (all_append P names (by_body names one.home (out-Decl one.decl)) h (bodies.0 names))

round_all : (P : Declared → Type 0) (names : List Declared) (stated : List Stated) (round : ℕ) → AllByRecursion (BodiesAre P) stated → AllByRecursion P names → AllByRecursion P (in_round stated names round)
round_all P names stated round bodies = bodies_all P names (filter (λ one. round_of one == round) stated) (all_filter (BodiesAre P) (λ one. round_of one == round) stated bodies)

pub names_from : (P : Declared → Type 0) (stated : List Stated) → AllByRecursion P predefined_names → ((known : Scripts) → AllByRecursion P (flat_map (with_words known) stated)) → AllByRecursion (BodiesAre P) stated
    → AllByRecursion P (scripts_of_stated stated).names
names_from P stated predefined words bodies =
    let known : Scripts = record { stated = stated; nodes = all_nodes stated; names = predefined_names ++ flat_map outright_of stated } in
    let names = predefined_names ++ flat_map (with_words known) stated in
    round_all P (in_round stated (in_round stated names 0) 1) stated 2 bodies (round_all P (in_round stated names 0) stated 1 bodies (round_all P names stated 0 bodies
    (all_append P predefined_names (flat_map (with_words known) stated) predefined (words known))))

module _ (P : Declared → Type 0) (word : (home : Home) (name : Name) (number : ℕ) → P (declare home name (Word number))) where
  words_all : (home : Home) (number : ℕ) (words : List Name) → AllByRecursion P (map (λ word. declare home word (Word number)) words)
  words_all home number [] = tt
  words_all home number (name ∷ words) = (word home name number, words_all home number words)

  pub nodes_all : (all nodes : List Node) → AllByRecursion P (flat_map (node_words all) nodes)
  nodes_all all [] = tt
  nodes_all all (RecordNode home place fields ∷ nodes) = nodes_all all nodes
  nodes_all all (EnumNode home place words ∷ nodes) = all_append P (map (λ word. declare home word (Word (enum_number all home.file place))) words) (flat_map (node_words all) nodes)
      (words_all home (enum_number all home.file place) words) (nodes_all all nodes)

  pub added_all : (known : Scripts) (home : Home) (form : Decl-F Decl) → AllByRecursion P (added_words known home form)
  added_all known home (decl.RedefEnum place name words comma) = by (type_named known home name)
    where
      by : (of : Checked ValueType) → AllByRecursion P (words_of of home words)
      by (Ok (Simple (simple.Enum number))) = words_all home number words
      by of = tt
  added_all known home form = tt

  with_words_all : (known : Scripts) (stated : List Stated) → AllByRecursion (OutrightAre P) stated → AllByRecursion P (flat_map (with_words known) stated)
  with_words_all known [] told = tt
  with_words_all known (one ∷ stated) told = all_append P (with_words known one) (flat_map (with_words known) stated)
      (all_append P (outright_of one ++ flat_map (node_words known.nodes) (decl_nodes one.home (out-Decl one.decl))) (added_words known one.home (out-Decl one.decl))
      (all_append P (outright_of one) (flat_map (node_words known.nodes) (decl_nodes one.home (out-Decl one.decl))) told.0 (nodes_all known.nodes (decl_nodes one.home (out-Decl one.decl))))
      (added_all known one.home (out-Decl one.decl)))
      (with_words_all known stated told.1)

  pub names_all : (stated : List Stated) → AllByRecursion P predefined_names → AllByRecursion (OutrightAre P) stated → AllByRecursion (BodiesAre P) stated → AllByRecursion P (scripts_of_stated stated).names
  names_all stated predefined outright bodies = names_from P stated predefined (λ known. with_words_all known stated outright) bodies

-- what bodies declare stands behind the names that there are
pub behind_all : (P : Declared → Type 0) (names : List Declared) (stated : List Stated) → AllByRecursion (BodiesAre P) stated → (more : List Declared) × (with_bodies names stated ≡ names ++ more) × AllByRecursion P more
behind_all P names [] bodies = ([], none names, tt)
  where
    none : (xs : List Declared) → xs ≡ xs ++ []
    none [] = refl
    none (x ∷ xs) = ap (λ (ys : List Declared). x ∷ ys) (none xs)
behind_all P names (one ∷ stated) bodies =
    let (more, is, all) = behind_all P (names ++ by_body names one.home (out-Decl one.decl)) stated bodies.1 in
    (by_body names one.home (out-Decl one.decl) ++ more, is ∙ append_assoc names (by_body names one.home (out-Decl one.decl)) more, all_append P (by_body names one.home (out-Decl one.decl)) more (bodies.0 names) all)
