-- Where no rule is told, each name in the texts is declared once; and so is each name that a body declares, where it is a name.
use Rattle.std.proofs.Common.{◌≡◌, ◌≢◌, ◌⊎◌, inl, inr, ℕ, not, Bool, true, false, cond, List, [], ◌∷◌, ◌++◌, find, filter, flat_map, map, codes, Option, Some, None, Ok, refl, sym, ap, subst, ◌∙◌, append_assoc, append-nil}
use Rattle.std.specs.Prelude.{◌==◌, ◌&&◌, ◌||◌, is_some, nat_eq}
use Rattle.std.specs.List.{AllByRecursion, list_any, starts_with}
use Rattle.std.specs.Str.{bytes_eq}
use Rattle.std.proofs.lemmas.Slice.Eq.{bytes_eq-Decides}
use Rattle.zk_tree.specs.declared.decl.Decl.{Decl, out-Decl}
use Rattle.zk_tree.specs.declared.decl.Decl.TheOpen.{Decl-F}
use Rattle.zk_tree.specs.declared.decl.Decl.TheOpen as decl
use Rattle.zk_tree.specs.declared.name.Name.{Name}
use Rattle.zk_tree.specs.declared.types.Field.{Field}
use Rattle.zk_tree.specs.declared.types.Param.{Param}
use Rattle.zk_tree.specs.declared.types.Type.{«Type», out-Type}
use Rattle.zk_tree.specs.declared.types.Type.TheOpen.{Type-F}
use Rattle.zk_tree.specs.declared.types.Type.TheOpen as written
use Rattle.zk_typed.specs.declared.rule.Rule.TheVariants as rule
use Rattle.zk_typed.specs.declared.script.types.SimpleType.TheVariants as simple
use Rattle.zk_typed.specs.declared.refusal.Broken.{Broken}
use Rattle.zk_typed.specs.Checked.{Checked, both, require, rules_of}
use Rattle.zk_typed.specs.Declarations.{is_one_of}
use Rattle.zk_typed.specs.Declaring.{predefined_names, outright, outright_of, node_words, words_of, added_words, with_words, unless, in_module, is_foreign, by_body, with_bodies, in_round, round_of, scripts_of}
use Rattle.zk_typed.specs.Errors.{node_names, declares, declared_before, decl_rules, twice_rules, errors_of, errors_from, errors}
use Rattle.zk_typed.specs.LoadOrder.{File, Home, Stated, load_order}
use Rattle.zk_typed.specs.Names.{Declared, Word, Node, RecordNode, EnumNode, module_in, whole_name, declare, is_open, find_whole, first_of, look_up, node, type_nodes, decl_types, decl_nodes, all_nodes, enum_number}
use Rattle.zk_typed.specs.Resolving.{Scripts, place_in, type_named}
use Rattle.zk_typed.specs.Types.{ValueType, Simple}
use Rattle.zk_typed.specs.Within.{within}
use Rattle.zk_sound.specs.Agreeing.{AreApart, BodyBegins}
use Rattle.zk_sound.proofs.Growth.{all_append}
use Rattle.zk_sound.proofs.Tables.{all_filter}
use Rattle.zk_sound.proofs.Told.{none_in, none_by_place, untold_both, untold_bind}

-- Texts that differ ----------------------------------------------------------------------------------------------------

abbrev Texts : Type 0
Texts = List (List ℕ)

-- a text is none of these
abbrev pub Unlike : Texts → List ℕ → Type 0
Unlike before name = is_one_of before name ≡ false

-- each is another
abbrev Differ : Texts → Type 0
Differ [] = Unit {0}
Differ (one ∷ others) = AllByRecursion (λ other. one ≢ other) others × Differ others

either : (a b : Bool) → (a || b) ≡ false → (a ≡ false) × (b ≡ false)
either true b e = absurd cc
either false b e = (refl, e)

no_truth : false ≡ true → ⊥
no_truth e = cc

unequal : (a b : List ℕ) → bytes_eq a b ≡ false → a ≢ b
unequal a b e same = no_truth (sym e ∙ (bytes_eq-Decides a b).1 same)

unlike_parts : (a b : Texts) (name : List ℕ) → Unlike (a ++ b) name → Unlike a name × Unlike b name
unlike_parts [] b name e = (refl, e)
unlike_parts (x ∷ a) b name e =
    let h = either (bytes_eq x name) (is_one_of (a ++ b) name) e in
    let rest = unlike_parts a b name h.1 in
    (rw (h.0, rest.0) refl, rest.1)

unlike_whole : (a b : Texts) (name : List ℕ) → Unlike a name → Unlike b name → Unlike (a ++ b) name
unlike_whole [] b name e k = k
unlike_whole (x ∷ a) b name e k =
    let h = either (bytes_eq x name) (is_one_of a name) e in
    rw (h.0, unlike_whole a b name h.1 k) refl

-- what is unlike a list differs from each of it
unlike_each : (a : Texts) (name : List ℕ) → Unlike a name → AllByRecursion (λ one. one ≢ name) a
unlike_each [] name e = tt
unlike_each (x ∷ a) name e = let h = either (bytes_eq x name) (is_one_of a name) e in (unequal x name h.0, unlike_each a name h.1)

-- two lists of which each text of the one differs from each of the other
abbrev Apart : Texts → Texts → Type 0
Apart ones others = AllByRecursion (λ one. AllByRecursion (λ other. one ≢ other) others) ones

apart_by : (ones others : Texts) → AllByRecursion (Unlike ones) others → Apart ones others
apart_by ones [] all = none ones
  where
    none : (ones : Texts) → Apart ones []
    none [] = tt
    none (one ∷ ones) = (tt, none ones)
apart_by ones (other ∷ others) all = both ones (unlike_each ones other all.0) (apart_by ones others all.1)
  where
    both : (ones : Texts) → AllByRecursion (λ one. one ≢ other) ones → Apart ones others → Apart ones (other ∷ others)
    both [] h rest = tt
    both (one ∷ ones) h rest = ((h.0, rest.0), both ones h.1 rest.1)

differ_append : (ones others : Texts) → Differ ones → Differ others → Apart ones others → Differ (ones ++ others)
differ_append [] others h k apart = k
differ_append (one ∷ ones) others h k apart = (all_append (λ other. one ≢ other) ones others h.0 apart.0, differ_append ones others h.1 k apart.1)

-- Names ----------------------------------------------------------------------------------------------------------------

abbrev texts_of : List Declared → Texts
texts_of names = map (λ one. one.name) names

texts_append : (names others : List Declared) → texts_of (names ++ others) ≡ texts_of names ++ texts_of others
texts_append [] others = refl
texts_append (one ∷ names) others = ap (λ (xs : Texts). one.name ∷ xs) (texts_append names others)

apart_of : (names : List Declared) → Differ (texts_of names) → AreApart names
apart_of [] h = tt
apart_of (one ∷ names) h = (each names h.0, apart_of names h.1)
  where
    each : (others : List Declared) → AllByRecursion (λ other. one.name ≢ other) (texts_of others) → AllByRecursion (λ other. one.name ≢ other.name) others
    each [] all = tt
    each (other ∷ others) all = (all.0, each others all.1)

-- a test that texts differ
differs : Texts → Bool
differs [] = true
differs (one ∷ others) = not (list_any (λ other. bytes_eq one other) others) && differs others

differs_are : (texts : Texts) → differs texts ≡ true → Differ texts
unfolding differs
differs_are [] e = tt
differs_are (one ∷ others) e = by (list_any (λ other. bytes_eq one other) others) refl e (λ h. differs_are others h)
  where
    each : (others : Texts) → list_any (λ other. bytes_eq one other) others ≡ false → AllByRecursion (λ other. one ≢ other) others
    each [] e = tt
    each (other ∷ others) e = let h = either (bytes_eq one other) (list_any (λ other. bytes_eq one other) others) e in (unequal one other h.0, each others h.1)

    by : (there : Bool) → list_any (λ other. bytes_eq one other) others ≡ there → (not there && differs others) ≡ true → (differs others ≡ true → Differ others) → Differ (one ∷ others)
    by true h e rest = absurd (no_truth e)
    by false h e rest = (each others h, rest e)

predefined_differ : Differ (texts_of predefined_names)
unfolding differs
predefined_differ = differs_are (texts_of predefined_names) refl

-- Names in the texts ---------------------------------------------------------------------------------------------------

abbrev told_texts : List (List ℕ × ℕ) → Texts
told_texts names = map (λ one. one.0) names

told_append : (names others : List (List ℕ × ℕ)) → told_texts (names ++ others) ≡ told_texts names ++ told_texts others
told_append [] others = refl
told_append (one ∷ names) others = ap (λ (xs : Texts). one.0 ∷ xs) (told_append names others)

-- where no rule is told, names are new and differ
new_names : (home : Home) (before : Texts) (names : List (List ℕ × ℕ)) → rules_of (twice_rules home before names) ≡ [] → AllByRecursion (Unlike before) (told_texts names) × Differ (told_texts names)
new_names home before [] e = (tt, tt)
new_names home before (one ∷ others) e =
    let parts = untold_both (require (not (is_one_of before one.0)) rule.Twice (place_in home one.1)) (twice_rules home (one.0 ∷ before) others)
    (untold_bind (both (require (not (is_one_of before one.0)) rule.Twice (place_in home one.1)) (twice_rules home (one.0 ∷ before) others)) _ e) in
    let rest = new_names home (one.0 ∷ before) others parts.1 in
    ((first (is_one_of before one.0) parts.0, fewer (told_texts others) rest.0), (apart (told_texts others) rest.0, rest.1))
  where
    first : (there : Bool) → rules_of (require (not there) rule.Twice (place_in home one.1)) ≡ [] → there ≡ false
    first true e = absurd cc
    first false e = refl

    fewer : (texts : Texts) → AllByRecursion (Unlike (one.0 ∷ before)) texts → AllByRecursion (Unlike before) texts
    fewer [] all = tt
    fewer (text ∷ texts) all = ((either (bytes_eq one.0 text) (is_one_of before text) all.0).1, fewer texts all.1)

    apart : (texts : Texts) → AllByRecursion (Unlike (one.0 ∷ before)) texts → AllByRecursion (λ other. one.0 ≢ other) texts
    apart [] all = tt
    apart (text ∷ texts) all = (unequal one.0 text (either (bytes_eq one.0 text) (is_one_of before text) all.0).0, apart texts all.1)

-- the types that stand in a declaration are of its file and module
abbrev IsAt : Home → Node → Type 0
IsAt home (RecordNode other place fields) = other ≡ home
IsAt home (EnumNode other place words) = other ≡ home

flat_all : {A B : Type 0} (P : B → Type 0) (f : A → List B) → ((a : A) → AllByRecursion P (f a)) → (ones : List A) → AllByRecursion P (flat_map f ones)
flat_all P f h [] = tt
flat_all P f h (one ∷ ones) = all_append P (f one) (flat_map f ones) (h one) (flat_all P f h ones)

node_at : (home : Home) (tree : «Type») → AllByRecursion (IsAt home) (node home tree)
node_at home tree = by (out-Type tree) refl
  where
    by : (form : Type-F «Type» Field Param) → out-Type tree ≡ form → AllByRecursion (IsAt home) (node home tree)
    by (written.Record place fields) is = rw is (refl, tt)
    by (written.Enum place words comma) is = rw is (refl, tt)
    by form is = rw is tt

nodes_at : (home : Home) (trees : List «Type») → AllByRecursion (IsAt home) (flat_map (type_nodes home) trees)
nodes_at home trees = flat_all (IsAt home) (type_nodes home) (λ tree. flat_all (IsAt home) (node home) (node_at home) (within tree)) trees

word_texts : (home : Home) (number : ℕ) (words : List Name) → texts_of (map (λ word. declare home word (Word number)) words) ≡ told_texts (map (λ word. let named : List ℕ × ℕ = (whole_name home.module_name word.text, word.place) in named) words)
word_texts home number [] = refl
word_texts home number (word ∷ words) = ap (λ (xs : Texts). whole_name home.module_name word.text ∷ xs) (word_texts home number words)

node_texts : (home : Home) (all nodes : List Node) → AllByRecursion (IsAt home) nodes → texts_of (flat_map (node_words all) nodes) ≡ told_texts (flat_map (node_names home) nodes)
node_texts home all [] at = refl
node_texts home all (RecordNode other place fields ∷ nodes) at = node_texts home all nodes at.1
node_texts home all (EnumNode other place words ∷ nodes) at =
    texts_append (map (λ word. declare other word (Word (enum_number all other.file place))) words) (flat_map (node_words all) nodes)
    ∙ (ap (λ (xs : Texts). xs ++ texts_of (flat_map (node_words all) nodes)) (word_texts other (enum_number all other.file place) words)
    ∙ (ap (λ (h : Home). told_texts (map (λ word. let named : List ℕ × ℕ = (whole_name h.module_name word.text, word.place) in named) words) ++ texts_of (flat_map (node_words all) nodes)) at.0
    ∙ (ap (λ (xs : Texts). told_texts (node_names home (EnumNode other place words)) ++ xs) (node_texts home all nodes at.1)
    ∙ sym (told_append (node_names home (EnumNode other place words)) (flat_map (node_names home) nodes)))))

-- what a declaration declares in its text has the names that are looked at, or none where the enum isn't known
words_told : (known : Scripts) (home : Home) (form : Decl-F Decl) → (texts_of ((outright home form ++ flat_map (node_words known.nodes) (decl_nodes home form)) ++ added_words known home form) ≡ told_texts (declares home form))
    ⊎ (texts_of ((outright home form ++ flat_map (node_words known.nodes) (decl_nodes home form)) ++ added_words known home form) ≡ [])
words_told known home (decl.RedefEnum place name words comma) = by (type_named known home name)
  where
    by : (of : Checked ValueType) → (texts_of (words_of of home words) ≡ told_texts (map (λ word. let named : List ℕ × ℕ = (whole_name home.module_name word.text, word.place) in named) words)) ⊎ (texts_of (words_of of home words) ≡ [])
    by (Ok (Simple (simple.Enum number))) = inl (word_texts home number words)
    by of = inr refl
words_told known home (decl.Variable place lasting name tree init attrs) = inl (ap (λ (xs : Texts). whole_name home.module_name name.text ∷ xs)
    (texts_append (flat_map (node_words known.nodes) (decl_nodes home (decl.Variable place lasting name tree init attrs))) []
    ∙ (append-nil _ ∙ node_texts home known.nodes (decl_nodes home (decl.Variable place lasting name tree init attrs)) (nodes_at home (decl_types (decl.Variable place lasting name tree init attrs))))))
words_told known home (decl.Type place name tree) = inl (ap (λ (xs : Texts). whole_name home.module_name name.text ∷ xs)
    (texts_append (flat_map (node_words known.nodes) (decl_nodes home (decl.Type place name tree))) []
    ∙ (append-nil _ ∙ node_texts home known.nodes (decl_nodes home (decl.Type place name tree)) (nodes_at home (decl_types (decl.Type place name tree))))))
words_told known home form = inl (texts_append (flat_map (node_words known.nodes) (decl_nodes home form)) []
    ∙ (append-nil _ ∙ node_texts home known.nodes (decl_nodes home form) (nodes_at home (decl_types form))))

-- what is unlike what was declared up to a declaration
before_more : (earlier : List Stated) (one : Stated) (name : List ℕ) → Unlike (declared_before (earlier ++ one ∷ [])) name → Unlike (declared_before earlier) name × Unlike (told_texts (declares one.home (out-Decl one.decl))) name
before_more earlier one name unlike =
    let parts = unlike_parts (texts_of predefined_names) (flat_map named (earlier ++ one ∷ [])) name unlike in
    let more = flat earlier parts.1 in
    (unlike_whole (texts_of predefined_names) (flat_map named earlier) name parts.0 more.0, (unlike_parts (named one) [] name more.1).0)
  where
    named : Stated → Texts
    named one = told_texts (declares one.home (out-Decl one.decl))

    flat : (earlier : List Stated) → Unlike (flat_map named (earlier ++ one ∷ [])) name → Unlike (flat_map named earlier) name × Unlike (flat_map named (one ∷ [])) name
    flat [] e = (refl, e)
    flat (stated ∷ earlier) e =
        let parts = unlike_parts (named stated) (flat_map named (earlier ++ one ∷ [])) name e in
        let more = flat earlier parts.1 in
        (unlike_whole (named stated) (flat_map named earlier) name parts.0 more.0, more.1)

module _ (scripts known : Scripts) where
  -- names differ from one another and from what was declared before
  abbrev Fresh : List Stated → Texts → Type 0
  Fresh earlier texts = Differ texts × AllByRecursion (Unlike (declared_before earlier)) texts

  words_fresh : (earlier stated : List Stated) → errors_from scripts earlier stated ≡ [] → Fresh earlier (texts_of (flat_map (with_words known) stated))
  words_fresh earlier [] e = (tt, tt)
  words_fresh earlier (one ∷ stated) e =
      let parts = none_in (errors_of scripts earlier one) (errors_from scripts (earlier ++ one ∷ []) stated) e in
      let decls : List Broken = rules_of (decl_rules scripts earlier one.home (out-Decl one.decl)) in
      let twices : List Broken = rules_of (twice_rules one.home (declared_before earlier) (declares one.home (out-Decl one.decl))) in
      let twice : twices ≡ [] = (none_in decls twices (none_in (decls ++ twices) _ (none_by_place _ parts.0)).0).1 in
      subst (Fresh earlier) (sym (texts_append (with_words known one) (flat_map (with_words known) stated)))
      (joined (texts_of (with_words known one)) (words_told known one.home (out-Decl one.decl)) (new_names one.home (declared_before earlier) (declares one.home (out-Decl one.decl)) twice) (words_fresh (earlier ++ one ∷ []) stated parts.1))
    where
      rest : Texts
      rest = texts_of (flat_map (with_words known) stated)

      own : Texts
      own = told_texts (declares one.home (out-Decl one.decl))

      later : (texts : Texts) → AllByRecursion (Unlike (declared_before (earlier ++ one ∷ []))) texts → AllByRecursion (Unlike (declared_before earlier)) texts × AllByRecursion (Unlike own) texts
      later [] all = (tt, tt)
      later (text ∷ texts) all = let first = before_more earlier one text all.0 in let more = later texts all.1 in ((first.0, more.0), (first.1, more.1))

      whole : AllByRecursion (Unlike (declared_before earlier)) own × Differ own → Fresh (earlier ++ one ∷ []) rest → Fresh earlier (own ++ rest)
      whole new fresh =
          let more = later rest fresh.1 in
          (differ_append own rest new.1 fresh.0 (apart_by own rest more.1), all_append (Unlike (declared_before earlier)) own rest new.0 more.0)

      joined : (texts : Texts) → (texts ≡ own) ⊎ (texts ≡ []) → AllByRecursion (Unlike (declared_before earlier)) own × Differ own → Fresh (earlier ++ one ∷ []) rest → Fresh earlier (texts ++ rest)
      joined texts (inl is) new fresh = subst (λ (xs : Texts). Fresh earlier (xs ++ rest)) (sym is) (whole new fresh)
      joined texts (inr none) new fresh = subst (λ (xs : Texts). Fresh earlier (xs ++ rest)) (sym none) (fresh.0, (later rest fresh.1).0)

  -- so all names in the texts are apart, beside the predefined ones
  pub written_apart : (stated : List Stated) → errors_from scripts [] stated ≡ [] → AreApart (predefined_names ++ flat_map (with_words known) stated)
  written_apart stated e =
      let fresh = words_fresh [] stated e in
      apart_of (predefined_names ++ flat_map (with_words known) stated) (subst Differ (sym (texts_append predefined_names (flat_map (with_words known) stated)))
      (differ_append (texts_of predefined_names) (texts_of (flat_map (with_words known) stated)) predefined_differ fresh.0
      (apart_by (texts_of predefined_names) (texts_of (flat_map (with_words known) stated)) (subst (λ (before : Texts). AllByRecursion (Unlike before) (texts_of (flat_map (with_words known) stated))) (append-nil (texts_of predefined_names)) fresh.1))))

-- Names that bodies declare --------------------------------------------------------------------------------------------

-- a name behind a module's has that module
last_module : (module_name name : List ℕ) → module_in name ≡ None → starts_with nat_eq name (codes ":") ≡ false → module_in (module_name ++ 58 ∷ 58 ∷ name) ≡ Some module_name
last_module [] name none begins = rw (none, begins) refl
last_module (byte ∷ bytes) name none begins = rw (last_module bytes name none begins) refl

-- a name is seen in the module in which it is declared
seen_inside : (module_name name : List ℕ) → starts_with nat_eq name (codes ":") ≡ false → (within : Option (List ℕ)) → module_in name ≡ within → ((other : List ℕ) → within ≡ Some other → other ≡ module_name)
    → is_open module_name (whole_name module_name name) ≡ true
seen_inside module_name name begins (Some other) is own = rw is (rw is (or_right (bytes_eq other []) (bytes_eq other module_name) ((bytes_eq-Decides other module_name).1 (own other refl))))
  where
    or_right : (a b : Bool) → b ≡ true → (a || b) ≡ true
    or_right true b e = refl
    or_right false b e = e
seen_inside [] name begins None is own = rw is (rw is refl)
seen_inside (byte ∷ bytes) name begins None is own =
    let whole : whole_name (byte ∷ bytes) name ≡ (byte ∷ bytes) ++ 58 ∷ 58 ∷ name = rw is (append_assoc (byte ∷ bytes) (codes "::") name) in
    let inside : module_in (whole_name (byte ∷ bytes) name) ≡ Some (byte ∷ bytes) = ap module_in whole ∙ last_module (byte ∷ bytes) name is begins in
    rw inside (or_right (bytes_eq (byte ∷ bytes) []) (bytes_eq (byte ∷ bytes) (byte ∷ bytes)) ((bytes_eq-Decides (byte ∷ bytes) (byte ∷ bytes)).1 refl))
  where
    or_right : (a b : Bool) → b ≡ true → (a || b) ≡ true
    or_right true b e = refl
    or_right false b e = e

none_passes : (test : Declared → Bool) (names : List Declared) → find test names ≡ None → AllByRecursion (λ one. test one ≡ false) names
none_passes test [] e = tt
none_passes test (one ∷ names) e = by (test one) refl e (λ h. none_passes test names h)
  where
    by : (passes : Bool) → test one ≡ passes → cond passes (Some one) (find test names) ≡ None → (find test names ≡ None → AllByRecursion (λ one. test one ≡ false) names) → (test one ≡ false) × AllByRecursion (λ one. test one ≡ false) names
    by true h e rest = absurd cc
    by false h e rest = (h, rest e)

-- a declared name is another than each of these
abbrev IsNew : List Declared → Declared → Type 0
IsNew names one = AllByRecursion (λ other. other.name ≢ one.name) names

unless_new : (names : List Declared) (there : Bool) (one : Declared) → (there ≡ false → IsNew names one) → AllByRecursion (IsNew names) (unless there one)
unless_new names true one h = tt
unless_new names false one h = (h refl, tt)

body_new : (names : List Declared) (home : Home) (form : Decl-F Decl) → BodyBegins form → AllByRecursion (IsNew names) (by_body names home form)
body_new names home (decl.Body place kind name params attrs block) begins = unless_new names (is_some (look_up names home.module_name name.text) || is_foreign home name) _ (λ e.
    let parts = either (is_some (look_up names home.module_name name.text)) (is_foreign home name) e in
    each names (none_passes (λ one. bytes_eq one.name whole && (one.exported || is_open home.module_name whole)) names (first_none (find_whole names home.module_name whole) (find_whole names home.module_name name.text) parts.0)) (opened parts.1))
  where
    whole : List ℕ
    whole = whole_name home.module_name name.text

    first_none : (a b : Option Declared) → is_some (first_of a b) ≡ false → a ≡ None
    first_none None b e = refl
    first_none (Some one) b e = absurd cc

    opened : is_foreign home name ≡ false → is_open home.module_name whole ≡ true
    opened foreign = seen_inside home.module_name name.text begins (module_in name.text) refl (λ other is. own other is (rw is at foreign))
      where
        own : (other : List ℕ) → module_in name.text ≡ Some other → not (bytes_eq other home.module_name) ≡ false → other ≡ home.module_name
        own other is e = (bytes_eq-Decides other home.module_name).0 (turned (bytes_eq other home.module_name) e)
          where
            turned : (b : Bool) → not b ≡ false → b ≡ true
            turned true e = refl
            turned false e = absurd cc

    each : (names : List Declared) → AllByRecursion (λ one. (bytes_eq one.name whole && (one.exported || is_open home.module_name whole)) ≡ false) names → is_open home.module_name whole ≡ true → AllByRecursion (λ other. other.name ≢ whole) names
    each [] all shown = tt
    each (one ∷ names) all shown = (unequal one.name whole (by (bytes_eq one.name whole) one.exported (is_open home.module_name whole) shown all.0), each names all.1 shown)
      where
        by : (same exported seen : Bool) → seen ≡ true → (same && (exported || seen)) ≡ false → same ≡ false
        by true true seen o e = absurd cc
        by true false seen o e = absurd (no_truth (sym e ∙ o))
        by false exported seen o e = refl
body_new names home (decl.Function place name params «result» block) begins = unless_new names (in_module names home name || is_foreign home name) _ (λ e. each names (either (in_module names home name) (is_foreign home name) e).0)
  where
    each : (names : List Declared) → list_any (λ one. bytes_eq one.name (whole_name home.module_name name.text)) names ≡ false → AllByRecursion (λ other. other.name ≢ whole_name home.module_name name.text) names
    each [] e = tt
    each (one ∷ names) e =
        let h = either (bytes_eq one.name (whole_name home.module_name name.text)) (list_any (λ one. bytes_eq one.name (whole_name home.module_name name.text)) names) e in
        (unequal one.name (whole_name home.module_name name.text) h.0, each names h.1)
body_new names home form begins = tt

-- one more that is new
apart_more : (names more : List Declared) → AreApart names → AllByRecursion (IsNew names) more → AreApart more → AreApart (names ++ more)
apart_more [] more h new k = k
apart_more (one ∷ names) more h new k = (all_append (λ other. one.name ≢ other.name) names more h.0 (firsts more new), apart_more names more h.1 (others more new) k)
  where
    firsts : (more : List Declared) → AllByRecursion (IsNew (one ∷ names)) more → AllByRecursion (λ other. one.name ≢ other.name) more
    firsts [] all = tt
    firsts (other ∷ more) all = (all.0.0, firsts more all.1)

    others : (more : List Declared) → AllByRecursion (IsNew (one ∷ names)) more → AllByRecursion (IsNew names) more
    others [] all = tt
    others (other ∷ more) all = (all.0.1, others more all.1)

body_apart : (names : List Declared) (home : Home) (form : Decl-F Decl) → AreApart (by_body names home form)
body_apart names home (decl.Body place kind name params attrs block) = by (is_some (look_up names home.module_name name.text) || is_foreign home name) _
  where
    by : (there : Bool) (one : Declared) → AreApart (unless there one)
    by true one = tt
    by false one = (tt, tt)
body_apart names home (decl.Function place name params «result» block) = by (in_module names home name || is_foreign home name) _
  where
    by : (there : Bool) (one : Declared) → AreApart (unless there one)
    by true one = tt
    by false one = (tt, tt)
body_apart names home form = tt

abbrev Begins : Stated → Type 0
Begins one = BodyBegins (out-Decl one.decl)

bodies_apart : (names : List Declared) (stated : List Stated) → AllByRecursion Begins stated → AreApart names → AreApart (with_bodies names stated)
bodies_apart names [] begins h = h
bodies_apart names (one ∷ stated) begins h = bodies_apart (names ++ by_body names one.home (out-Decl one.decl)) stated begins.1
    (apart_more names (by_body names one.home (out-Decl one.decl)) h (body_new names one.home (out-Decl one.decl) begins.0) (body_apart names one.home (out-Decl one.decl)))

round_apart : (names : List Declared) (stated : List Stated) (round : ℕ) → AllByRecursion Begins stated → AreApart names → AreApart (in_round stated names round)
round_apart names stated round begins h = bodies_apart names (filter (λ one. round_of one == round) stated) (all_filter Begins (λ one. round_of one == round) stated begins) h

-- each name is declared once
pub declared_once : (files : List File) → errors files ≡ [] → AllByRecursion Begins (load_order files) → AreApart (scripts_of files).names
declared_once files right begins =
    let stated : List Stated = load_order files in
    let known : Scripts = record { stated = load_order files; nodes = all_nodes (load_order files); names = predefined_names ++ flat_map outright_of (load_order files) } in
    let names : List Declared = predefined_names ++ flat_map (with_words known) (load_order files) in
    round_apart (in_round stated (in_round stated names 0) 1) stated 2 begins (round_apart (in_round stated names 0) stated 1 begins (round_apart names stated 0 begins (written_apart (scripts_of files) known (load_order files) right)))
