-- The words of enums are names, so that their texts stand for themselves in a log.
use Rattle.std.proofs.Common.{◌≡◌, ℕ, Bool, true, false, not, List, [], ◌∷◌, ◌++◌, cond, filter, flat_map, map, codes, Option, Some, None, Ok, refl, sym, ap, subst, ◌∙◌}
use Rattle.std.specs.Prelude.{◌==◌, ◌||◌, is_some}
use Rattle.std.specs.List.{AllByRecursion, list_all}
use Rattle.std.specs.Str.{bytes_eq}
use Rattle.std.proofs.lemmas.Bool.{and_parts, eqb-true}
use Rattle.zk_tree.specs.declared.decl.BodyKind.TheVariants as body
use Rattle.zk_tree.specs.declared.decl.Decl.{Decl, out-Decl}
use Rattle.zk_tree.specs.declared.decl.Decl.TheOpen.{Decl-F}
use Rattle.zk_tree.specs.declared.decl.Decl.TheOpen as decl
use Rattle.zk_tree.specs.declared.decl.Lasting.{Lasting}
use Rattle.zk_tree.specs.declared.name.Name.{Name}
use Rattle.zk_tree.specs.declared.stmt.Init.{Init}
use Rattle.zk_tree.specs.declared.types.Attr.{Attr}
use Rattle.zk_tree.specs.declared.types.Field.{Field}
use Rattle.zk_tree.specs.declared.types.Param.{Param}
use Rattle.zk_tree.specs.declared.types.Type.{«Type», out-Type}
use Rattle.zk_tree.specs.declared.types.Type.TheOpen.{Type-F}
use Rattle.zk_tree.specs.declared.types.Type.TheOpen as written
use Rattle.zk_typed.specs.declared.script.types.SimpleType.TheVariants as simple
use Rattle.zk_typed.specs.Checked.{Checked}
use Rattle.zk_typed.specs.Declaring.{in_module, is_foreign, predefined_names, variable_meaning, outright_of, node_words, words_of, added_words, with_words, by_body, scripts_of}
use Rattle.zk_typed.specs.LoadOrder.{File, Home, Stated, load_order}
use Rattle.zk_typed.specs.LogCalls.{is_log_word, stream_type}
use Rattle.zk_typed.specs.Names.{Declared, Meant, Word, Event, Hook, Function, Written, Node, RecordNode, EnumNode, declare, whole_name, look_up, decl_nodes, enum_number}
use Rattle.zk_typed.specs.Programs.{typed_program}
use Rattle.zk_typed.specs.Resolving.{Scripts, type_named}
use Rattle.zk_typed.specs.Types.{ValueType, Simple}
use Rattle.zk_typed.specs.declared.script.program.Log.{Log}
use Rattle.zk_sound.specs.Agreeing.{in_names, is_name, AreNames, WordsAreNames, IsWritten}
use Rattle.zk_sound.specs.Having.{WordFits}
use Rattle.zk_sound.specs.Holding.{is_word}
use Rattle.zk_sound.proofs.Growth.{all_append}
use Rattle.zk_sound.proofs.Names.{BodiesAre, all_by_each, all_unless, found_among, names_from}

no_truth : false ≡ true → ⊥
no_truth e = cc

-- a byte of a name is none of those that stand for something else in a log
plain_byte : (byte : ℕ) → in_names byte ≡ true → not (byte == 9 || byte == 44 || byte == 10) ≡ true
plain_byte byte e = by (byte == 9) (byte == 44) (byte == 10) refl refl refl
  where
    by : (a b c : Bool) → (byte == 9) ≡ a → (byte == 44) ≡ b → (byte == 10) ≡ c → not (a || b || c) ≡ true
    by true b c p q r = absurd (no_truth (subst (λ (n : ℕ). in_names n ≡ true) (eqb-true byte 9 p) e))
    by false true c p q r = absurd (no_truth (subst (λ (n : ℕ). in_names n ≡ true) (eqb-true byte 44 q) e))
    by false false true p q r = absurd (no_truth (subst (λ (n : ℕ). in_names n ≡ true) (eqb-true byte 10 r) e))
    by false false false p q r = refl

plain_bytes : (bytes : List ℕ) → list_all in_names bytes ≡ true → list_all (λ byte. not (byte == 9 || byte == 44 || byte == 10)) bytes ≡ true
plain_bytes [] e = refl
plain_bytes (byte ∷ bytes) e = let parts = and_parts (in_names byte) (list_all in_names bytes) e in rw (plain_byte byte parts.0, plain_bytes bytes parts.1) refl

-- a name begins with no byte like these
begins_plain : (byte other : ℕ) (bytes more : List ℕ) → in_names byte ≡ true → in_names other ≡ false → bytes_eq (byte ∷ bytes) (other ∷ more) ≡ false
begins_plain byte other bytes more e never = by (bytes_eq (byte ∷ bytes) (other ∷ more)) refl
  where
    by : (same : Bool) → bytes_eq (byte ∷ bytes) (other ∷ more) ≡ same → bytes_eq (byte ∷ bytes) (other ∷ more) ≡ false
    by true s =
        let equal : byte ∷ bytes ≡ other ∷ more = (Rattle.std.proofs.lemmas.Slice.Eq.bytes_eq-Decides (byte ∷ bytes) (other ∷ more)).0 s in
        let first : byte ≡ other = cc in
        absurd (no_truth (sym (ap in_names first ∙ never) ∙ e))
    by false s = s

pub name_is_word : (text : List ℕ) → is_name text ≡ true → is_word text ≡ true
name_is_word [] e = absurd (no_truth e)
name_is_word (byte ∷ bytes) e =
    let first = (and_parts (in_names byte) (list_all in_names bytes) e).0 in
    rw (begins_plain byte 45 bytes [] first refl, begins_plain byte 40 bytes (codes "empty)") first refl, plain_bytes (byte ∷ bytes) e) refl

-- what a name of a word means is a word
abbrev WordIsPlain : Declared → Type 0
WordIsPlain one = (number : ℕ) → one.meant ≡ Word number → is_word one.name ≡ true

is_no_word : Meant → Bool
is_no_word (Word number) = false
is_no_word other = true

not_word : (one : Declared) → is_no_word one.meant ≡ true → WordIsPlain one
unfolding is_no_word
not_word one e number is = absurd (no_truth (rw is at e))

variable_no_word : (home : Home) (lasting : Lasting) (tree : Option «Type») (init : Option Init) (attrs : List Attr) → is_no_word (variable_meaning home lasting tree init attrs) ≡ true
unfolding is_no_word
variable_no_word home lasting None init attrs = refl
variable_no_word home lasting (Some tree) init attrs = by (out-Type tree) refl
  where
    by : (form : Type-F «Type» Field Param) → out-Type tree ≡ form → is_no_word (variable_meaning home lasting (Some tree) init attrs) ≡ true
    by (written.Event place params) is = rw is refl
    by (written.Hook place params) is = rw is refl
    by (written.Procedure place params) is = rw is refl
    by (written.Function place params «result») is = rw is refl
    by form is = rw is refl

outright_plain : (one : Stated) → AllByRecursion WordIsPlain (outright_of one)
unfolding is_no_word
outright_plain one = by (out-Decl one.decl) refl
  where
    by : (form : Decl-F Decl) → out-Decl one.decl ≡ form → AllByRecursion WordIsPlain (outright_of one)
    by (decl.Variable place lasting name tree init attrs) is = rw is (not_word (declare one.home name (variable_meaning one.home lasting tree init attrs)) (variable_no_word one.home lasting tree init attrs), tt)
    by (decl.Type place name tree) is = rw is (not_word (declare one.home name _) refl, tt)
    by form is = rw is tt

words_plain : (home : Home) (number : ℕ) (words : List Name) → AreNames home words → AllByRecursion WordIsPlain (map (λ word. declare home word (Word number)) words)
words_plain home number [] all = tt
words_plain home number (word ∷ words) all = ((λ other is. name_is_word (whole_name home.module_name word.text) all.0), words_plain home number words all.1)

nodes_plain : (known nodes : List Node) → AllByRecursion WordsAreNames nodes → AllByRecursion WordIsPlain (flat_map (node_words known) nodes)
nodes_plain known [] all = tt
nodes_plain known (RecordNode home place fields ∷ nodes) all = nodes_plain known nodes all.1
nodes_plain known (EnumNode home place words ∷ nodes) all = all_append WordIsPlain (map (λ word. declare home word (Word (enum_number known home.file place))) words) (flat_map (node_words known) nodes)
    (words_plain home (enum_number known home.file place) words all.0) (nodes_plain known nodes all.1)

added_plain : (known : Scripts) (one : Stated) → IsWritten one → AllByRecursion WordIsPlain (added_words known one.home (out-Decl one.decl))
added_plain known one h = by (out-Decl one.decl) refl
  where
    by : (form : Decl-F Decl) → out-Decl one.decl ≡ form → AllByRecursion WordIsPlain (added_words known one.home (out-Decl one.decl))
    by (decl.RedefEnum place name words comma) is = rw is (of (type_named known one.home name))
      where
        of : (type : Checked ValueType) → AllByRecursion WordIsPlain (words_of type one.home words)
        of (Ok (Simple (simple.Enum number))) = words_plain one.home number words (rw is at h.added)
        of type = tt
    by form is = rw is tt

with_words_plain : (known : Scripts) (stated : List Stated) → AllByRecursion IsWritten stated → AllByRecursion WordIsPlain (flat_map (with_words known) stated)
with_words_plain known [] all = tt
with_words_plain known (one ∷ stated) all = all_append WordIsPlain (with_words known one) (flat_map (with_words known) stated)
    (all_append WordIsPlain (outright_of one ++ flat_map (node_words known.nodes) (decl_nodes one.home (out-Decl one.decl))) (added_words known one.home (out-Decl one.decl))
    (all_append WordIsPlain (outright_of one) (flat_map (node_words known.nodes) (decl_nodes one.home (out-Decl one.decl))) (outright_plain one) (nodes_plain known.nodes (decl_nodes one.home (out-Decl one.decl)) all.0.words))
    (added_plain known one all.0))
    (with_words_plain known stated all.1)

body_plain : (one : Stated) (names : List Declared) → AllByRecursion WordIsPlain (by_body names one.home (out-Decl one.decl))
unfolding is_no_word
body_plain one names = by (out-Decl one.decl)
  where
    by : (form : Decl-F Decl) → AllByRecursion WordIsPlain (by_body names one.home form)
    by (decl.Body place body.Event name params attrs block) = all_unless WordIsPlain (is_some (look_up names one.home.module_name name.text) || is_foreign one.home name) _ (not_word (declare one.home name (Event (Written one.home params None))) refl)
    by (decl.Body place body.Hook name params attrs block) = all_unless WordIsPlain (is_some (look_up names one.home.module_name name.text) || is_foreign one.home name) _ (not_word (declare one.home name (Hook (Written one.home params None))) refl)
    by (decl.Function place name params «result» block) = all_unless WordIsPlain (in_module names one.home name || is_foreign one.home name) _ (not_word (declare one.home name (Function (Written one.home params «result»))) refl)
    by form = tt

-- the predefined words
is_plain : Declared → Bool
is_plain one = is_no_word one.meant || is_word one.name

plain_is : (one : Declared) → is_plain one ≡ true → WordIsPlain one
unfolding is_plain is_no_word
plain_is one e number is = rw is at e

all_plain : (names : List Declared) → list_all is_plain names ≡ true → AllByRecursion WordIsPlain names
all_plain [] e = tt
all_plain (one ∷ names) e = let parts = and_parts (is_plain one) (list_all is_plain names) e in (plain_is one parts.0, all_plain names parts.1)

predefined_plain : AllByRecursion WordIsPlain predefined_names
unfolding is_plain is_no_word
predefined_plain = all_plain predefined_names refl

names_plain : (files : List File) → AllByRecursion IsWritten (load_order files) → AllByRecursion WordIsPlain (scripts_of files).names
names_plain files all = names_from WordIsPlain (load_order files) predefined_plain (λ known. with_words_plain known (load_order files) all) (all_by_each (BodiesAre WordIsPlain) body_plain (load_order files))

-- what is found and means a word has a text that stands for itself
pub words_are : (files : List File) → AllByRecursion IsWritten (load_order files) → (module_name name : List ℕ) (one : Declared) (number : ℕ) → look_up (scripts_of files).names module_name name ≡ Some one → one.meant ≡ Word number → is_word one.name ≡ true
words_are files all module_name name one number is = found_among WordIsPlain (scripts_of files).names (names_plain files all) module_name name one is number

-- and so have the words of logs
pub logs_are : (files : List File) → AllByRecursion IsWritten (load_order files) → AllByRecursion WordFits (typed_program files).logs
logs_are files all = of_names (scripts_of files).names (names_plain files all)
  where
    made : Declared → Log
    made one = record { word = one.name; columns = stream_type (scripts_of files) one.name }

    word_is : (one : Declared) → WordIsPlain one → is_log_word one ≡ true → is_word one.name ≡ true
    word_is one h e = by one.meant refl
      where
        by : (meant : Meant) → one.meant ≡ meant → is_word one.name ≡ true
        by (Word number) is = h number is
        by meant is = absurd (no_truth (rw is at e))

    of_names : (names : List Declared) → AllByRecursion WordIsPlain names → AllByRecursion WordFits (map made (filter is_log_word names))
    of_names [] all = tt
    of_names (one ∷ names) all = by (is_log_word one) refl (of_names names all.1)
      where
        by : (log : Bool) → is_log_word one ≡ log → AllByRecursion WordFits (map made (filter is_log_word names)) → AllByRecursion WordFits (map made (cond log (one ∷ filter is_log_word names) (filter is_log_word names)))
        by true e rest = (word_is one all.0 e, rest)
        by false e rest = rest
