-- Words are understood as a command exactly where they spell it.
use Rattle.std.proofs.Common.{◌≡◌, ◌≢◌, ◌↔◌, ◌⊎◌, inl, inr, ℕ, zero, suc, ◌+◌, ◌^◌, ◌<◌, ◌≤◌, Bool, true, false, if◌then◌else◌, List, [], ◌∷◌, ◌++◌, length, drop, drop-drop, fold, flat_map, All, AllPairs, append_assoc, option_map, is_some, is_none, slice_index_or, codes, decimal, Option, Some, None, Result, Ok, Err, IsTrue, slice_get, refl, sym, ap, subst, ◌∙◌, arith}
use Rattle.std.specs.Str.{bytes_eq}
use Rattle.std.proofs.lemmas.List.Elements.{All-nil, All-cons, All-head, All-tail, All-weaker}
use Rattle.std.proofs.lemmas.List.Kept.{AllPairs-cons}
use Rattle.std.proofs.lemmas.Slice.Eq.{bytes_eq-Decides}
use Rattle.zk_command.specs.declared.command.Next.{Next}
use Rattle.zk_command.specs.declared.command.Next.TheVariants as next
use Rattle.zk_command.specs.declared.command.Run.{Run}
use Rattle.zk_command.specs.declared.command.Settings.{Settings}
use Rattle.zk_command.specs.declared.command.Standing.{Standing}
use Rattle.zk_command.specs.declared.command.Standing.TheVariants as standing
use Rattle.zk_command.specs.Command.{Command, ListItems, RunScripts, Generate, Help, Version, command_or, judged, understand, number_in, number_to, start_max, count_max, budget_max, buffer_max, no_options, is_file_name, once, with_option, with_script, run_on, verb, step, stand_from, settings_of, words_from, run_of, command_of}
use Rattle.zk_command.specs.Spelling.{RunOption, Unchecked, Bare, Budget, Buffer, Capture, option_name, option_words, IsOption, Told, tell, Spells}
use Rattle.zk_command.proofs.CommandLaws.{goes_on}
use Rattle.zk_command.proofs.Numerals.{read_in, in_read, read_to, to_read}

abbrev IsName : List ℕ → Type 0
IsName script = IsTrue (is_file_name script)

abbrev Differ : RunOption → RunOption → Type 0
Differ one other = option_name one ≢ option_name other

-- Branches --------------------------------------------------------------------------------------------------------------

one_of : {A : Type 0} (b : Bool) (p rest : Option A) (y : A) → (if b then p else rest) ≡ Some y → ((b ≡ true) × (p ≡ Some y)) ⊎ (rest ≡ Some y)
one_of true p rest y is = inl (refl, is)
one_of false p rest y is = inr is

once_gives : (there : Bool) (run found : Run) → once there run ≡ Some found → (there ≡ false) × (run ≡ found)
once_gives true run found is = absurd (let never : ⊥ = cc in never)
once_gives false run found is = (refl, cc)

is_text : (word text : List ℕ) → bytes_eq word text ≡ true → word ≡ text
is_text word text = (bytes_eq-Decides word text).0

none_is : {A : Type 0} (o : Option A) → is_some o ≡ false → o ≡ None
none_is None none = refl
none_is (Some a) none = absurd (let never : ⊥ = cc in never)

-- Words by their numbers ------------------------------------------------------------------------------------------------

dropped : (n : ℕ) (all : List (List ℕ)) (word : List ℕ) (words : List (List ℕ)) → drop n all ≡ word ∷ words → drop (n + 1) all ≡ words
dropped n all word words there = sym (drop-drop 1 n all) ∙ ap (drop 1) there

stands : (n : ℕ) (all : List (List ℕ)) (word : List ℕ) (words : List (List ℕ)) → drop n all ≡ word ∷ words → slice_get all n ≡ Some word
stands zero all word words there = ap (λ l. slice_get l 0) there
stands (suc n) [] word words there = absurd (let never : ⊥ = cc in never)
stands (suc n) (other ∷ all) word words there = stands n all word words there

-- The state behind options ----------------------------------------------------------------------------------------------

-- a run whose next word is an option or a script
abbrev at_word : Run → Option ℕ → Run
at_word run scripts = record run { scripts = scripts; next = next.Word }

abbrev waiting : Run → Next → Run
waiting run now = record run { scripts = None; next = now }

-- what is told so far
abbrev file_of : List (List ℕ) → Option ℕ → Option (List ℕ)
file_of all None = None
file_of all (Some at) = slice_get all at

abbrev told_as : Settings → Option (List ℕ) → Told
told_as settings capture = record { settings = settings; capture = capture }

abbrev told_of : List (List ℕ) → Run → Told
told_of all run = told_as (settings_of run) (file_of all run.file)

abbrev is_told : Run → RunOption → Bool
is_told run Unchecked = run.unchecked
is_told run Bare = run.bare
is_told run (Budget units) = is_some run.budget
is_told run (Buffer bytes) = is_some run.buffer
is_told run (Capture file) = is_some run.file

-- a run with an option whose name is the word of this number
abbrev with_told : Run → ℕ → RunOption → Run
with_told run n Unchecked = record run { unchecked = true }
with_told run n Bare = record run { bare = true }
with_told run n (Budget units) = record run { budget = Some units }
with_told run n (Buffer bytes) = record run { buffer = Some bytes }
with_told run n (Capture file) = record run { file = Some (n + 1) }

told_with : (all words : List (List ℕ)) (run : Run) (n : ℕ) (o : RunOption) → drop n all ≡ option_words o ++ words → tell (told_of all run) o ≡ told_of all (with_told run n o)
told_with all words run n Unchecked there = refl
told_with all words run n Bare there = refl
told_with all words run n (Budget units) there = refl
told_with all words run n (Buffer bytes) there = refl
told_with all words run n (Capture file) there =
    ap (told_as (settings_of run)) (sym (stands (n + 1) all file words (dropped n all (codes "-r") (file ∷ words) there)))

-- what isn't told behind an option is another one, and wasn't told before it
record Apart (run : Run) (o other : RunOption) : Type 0 where
  differ : Differ o other
  before : is_told run other ≡ false

unequal : (name text : List ℕ) → bytes_eq name text ≡ true → (other : List ℕ) → bytes_eq other text ≡ false → name ≡ other → ⊥
unequal name text is other not same = let clash : true ≡ false = sym is ∙ ap (λ word. bytes_eq word text) same ∙ not in let never : ⊥ = cc in never

apart : (run : Run) (n : ℕ) (o other : RunOption) → is_told (with_told run n o) other ≡ false → Apart run o other
apart run n Unchecked Unchecked free = absurd (let never : ⊥ = cc in never)
apart run n Unchecked other free = record { differ = unequal (codes "-C") (codes "-C") refl (option_name other) refl; before = free }
apart run n Bare Bare free = absurd (let never : ⊥ = cc in never)
apart run n Bare other free = record { differ = unequal (codes "-b") (codes "-b") refl (option_name other) refl; before = free }
apart run n (Budget units) (Budget more) free = absurd (let never : ⊥ = cc in never)
apart run n (Budget units) other free = record { differ = unequal (codes "--budget") (codes "--budget") refl (option_name other) refl; before = free }
apart run n (Buffer bytes) (Buffer more) free = absurd (let never : ⊥ = cc in never)
apart run n (Buffer bytes) other free = record { differ = unequal (codes "--buffer") (codes "--buffer") refl (option_name other) refl; before = free }
apart run n (Capture file) (Capture more) free = absurd (let never : ⊥ = cc in never)
apart run n (Capture file) other free = record { differ = unequal (codes "-r") (codes "-r") refl (option_name other) refl; before = free }

-- and the other way round
still_free : (run : Run) (n : ℕ) (o other : RunOption) → Differ o other → is_told run other ≡ false → is_told (with_told run n o) other ≡ false
still_free run n Unchecked Unchecked differ free = absurd (differ refl)
still_free run n Unchecked other differ free = free
still_free run n Bare Bare differ free = absurd (differ refl)
still_free run n Bare other differ free = free
still_free run n (Budget units) (Budget more) differ free = absurd (differ refl)
still_free run n (Budget units) other differ free = free
still_free run n (Buffer bytes) (Buffer more) differ free = absurd (differ refl)
still_free run n (Buffer bytes) other differ free = free
still_free run n (Capture file) (Capture more) differ free = absurd (differ refl)
still_free run n (Capture file) other differ free = free

-- From words to what they spell -------------------------------------------------------------------------------------------

-- the words that are left are these options and scripts
record Rest (all words : List (List ℕ)) (run : Run) (command : Command) : Type 0 where
  options : List RunOption
  scripts : List (List ℕ)
  file : List ℕ
  settings : Settings
  are : words ≡ flat_map option_words options ++ scripts
  valid : All IsOption options
  pairs : AllPairs Differ options
  free : All (λ o. is_told run o ≡ false) options
  told : fold tell (told_of all run) options ≡ told_as settings (Some file)
  names : All IsName scripts
  is : RunScripts settings file scripts ≡ command

more : (all words : List (List ℕ)) (run : Run) (n : ℕ) (o : RunOption) (command : Command) → IsOption o → is_told run o ≡ false → drop n all ≡ option_words o ++ words
    → Rest all words (with_told run n o) command → Rest all (option_words o ++ words) run command
more all words run n o command valid fresh there rest = record {
  options = o ∷ rest.options;
  scripts = rest.scripts;
  file = rest.file;
  settings = rest.settings;
  are = ap (λ others. option_words o ++ others) rest.are ∙ sym (append_assoc (option_words o) (flat_map option_words rest.options) rest.scripts);
  valid = All-cons IsOption o rest.options valid rest.valid;
  pairs = AllPairs-cons Differ o rest.options
      (All-weaker (λ other. is_told (with_told run n o) other ≡ false) (Differ o) (λ other free. (apart run n o other free).differ) rest.options rest.free) rest.pairs;
  free = All-cons (λ other. is_told run other ≡ false) o rest.options fresh
      (All-weaker (λ other. is_told (with_told run n o) other ≡ false) (λ other. is_told run other ≡ false) (λ other free. (apart run n o other free).before) rest.options rest.free);
  told = ap (λ told. fold tell told rest.options) (told_with all words run n o there) ∙ rest.told;
  names = rest.names;
  is = rest.is;
}

-- the words have ended
record Whole (all : List (List ℕ)) (run : Run) (scripts : Option ℕ) (command : Command) : Type 0 where
  file : List ℕ
  there : file_of all run.file ≡ Some file
  is : RunScripts (settings_of run) file (words_from all scripts) ≡ command

whole_by : (all : List (List ℕ)) (run : Run) (scripts file : Option ℕ) (number : ℕ) (command : Command) → run.file ≡ file
    → command_or (run_of all (at_word run scripts) file) number ≡ Ok command → Whole all run scripts command
whole_by all run scripts None number command named is = absurd (let never : ⊥ = cc in never)
whole_by all run scripts (Some at) number command named is = by (slice_get all at) refl is
  where
    by : (found : Option (List ℕ)) → slice_get all at ≡ found → command_or (option_map (λ file. RunScripts (settings_of run) file (words_from all scripts)) found) number ≡ Ok command
        → Whole all run scripts command
    by None there same = absurd (let never : ⊥ = cc in never)
    by (Some file) there same = record { file = file; there = ap (file_of all) named ∙ there; is = let here : RunScripts (settings_of run) file (words_from all scripts) ≡ command = cc in here }

-- behind a script stand scripts alone
scripts_left : (all words : List (List ℕ)) (run : Run) (at number : ℕ) (command : Command)
    → judged all (stand_from (standing.Run (at_word run (Some at))) number words) ≡ Ok command → All IsName words × Whole all run (Some at) command
scripts_left all [] run at number command is = (All-nil IsName, whole_by all run (Some at) run.file (length all) command refl is)
scripts_left all (word ∷ words) run at number command is = by (is_file_name word) refl is (λ same. scripts_left all words run at (number + 1) command same)
  where
    on : Option Run → Result Command ℕ
    on found = judged all (goes_on (option_map standing.Run found) number words)

    named : (file : Option ℕ) → is_file_name word ≡ true → on (if is_none file then None else Some (at_word run (Some at))) ≡ Ok command
        → (judged all (stand_from (standing.Run (at_word run (Some at))) (number + 1) words) ≡ Ok command → All IsName words × Whole all run (Some at) command)
        → All IsName (word ∷ words) × Whole all run (Some at) command
    named None name same behind = absurd (let never : ⊥ = cc in never)
    named (Some file) name same behind = let rest = behind same in (All-cons IsName word words name rest.0, rest.1)

    by : (name : Bool) → is_file_name word ≡ name → on (if name then with_script (at_word run (Some at)) number else None) ≡ Ok command
        → (judged all (stand_from (standing.Run (at_word run (Some at))) (number + 1) words) ≡ Ok command → All IsName words × Whole all run (Some at) command)
        → All IsName (word ∷ words) × Whole all run (Some at) command
    by true name same behind = named run.file name same behind
    by false name same behind = absurd (let never : ⊥ = cc in never)

-- no word is left of a run that waits for a value
unended : (all : List (List ℕ)) (run : Run) (file : Option ℕ) (number : ℕ) (command : Command) (now : Next) → (now ≡ next.Word → ⊥) → command_or (run_of all (waiting run now) file) number ≡ Ok command → ⊥
unended all run None number command now waits is = let never : ⊥ = cc in never
unended all run (Some file) number command next.Word waits is = absurd (waits refl)
unended all run (Some file) number command next.Budget waits is = let never : ⊥ = cc in never
unended all run (Some file) number command next.Buffer waits is = let never : ⊥ = cc in never
unended all run (Some file) number command next.File waits is = let never : ⊥ = cc in never

-- the value behind an option
record Value (all words : List (List ℕ)) (run : Run) (now : Next) (number : ℕ) (command : Command) : Type 0 where
  value : List ℕ
  others : List (List ℕ)
  found : Run
  are : words ≡ value ∷ others
  gives : run_on (waiting run now) number value ≡ Some found
  is : judged all (stand_from (standing.Run found) (number + 1) others) ≡ Ok command

value_by : (all words : List (List ℕ)) (run : Run) (now : Next) (number : ℕ) (command : Command) → (now ≡ next.Word → ⊥)
    → judged all (stand_from (standing.Run (waiting run now)) number words) ≡ Ok command → Value all words run now number command
value_by all [] run now number command waits is = absurd (unended all run run.file (length all) command now waits is)
value_by all (value ∷ others) run now number command waits is = by (run_on (waiting run now) number value) refl is
  where
    by : (found : Option Run) → run_on (waiting run now) number value ≡ found → judged all (goes_on (option_map standing.Run found) number others) ≡ Ok command
        → Value all (value ∷ others) run now number command
    by None gives same = absurd (let never : ⊥ = cc in never)
    by (Some found) gives same = record { value = value; others = others; found = found; are = refl; gives = gives; is = same }

mapped : {A B : Type 0} (f : A → B) (o : Option A) (y : B) → option_map f o ≡ Some y → (x : A) × (o ≡ Some x) × (f x ≡ y)
mapped f None y is = absurd (let never : ⊥ = cc in never)
mapped f (Some x) y is = (x, refl, let same : f x ≡ y = cc in same)

-- so many words are read already
abbrev Reads : ℕ → List (List ℕ) → Command → Type 0
Reads most all command = (words : List (List ℕ)) (run : Run) (number : ℕ) → length words ≤ most → drop number all ≡ words
    → judged all (stand_from (standing.Run (at_word run None)) number words) ≡ Ok command → Rest all words run command

option_read : (most : ℕ) (all given words : List (List ℕ)) (run : Run) (number after : ℕ) (o : RunOption) (found : Run) (command : Command)
    → Reads most all command → length words ≤ most → IsOption o → is_told run o ≡ false → drop number all ≡ given → given ≡ option_words o ++ words → drop after all ≡ words
    → at_word (with_told run number o) None ≡ found → judged all (stand_from (standing.Run found) after words) ≡ Ok command → Rest all given run command
option_read most all given words run number after o found command reads less valid fresh there whole rest state is =
    subst (λ ws. Rest all ws run command) (sym whole)
    (more all words run number o command valid fresh (there ∙ whole)
    (reads words (with_told run number o) after less rest (subst (λ s. judged all (stand_from (standing.Run s) after words) ≡ Ok command) (sym state) is)))

module _ (most : ℕ) (all words : List (List ℕ)) (word : List ℕ) (run : Run) (number : ℕ) (command : Command)
    (reads : Reads most all command) (less : length words ≤ most) (there : drop number all ≡ word ∷ words) where
  -- a value of an option of this name, read
  value_read : (o : RunOption) (value : List ℕ) (others : List (List ℕ)) (found : Run) → word ∷ words ≡ option_words o ++ others → words ≡ value ∷ others → IsOption o → is_told run o ≡ false
      → at_word (with_told run number o) None ≡ found → judged all (stand_from (standing.Run found) (number + 1 + 1) others) ≡ Ok command → Rest all (word ∷ words) run command
  value_read o value others found whole are valid fresh state is =
      let longer : length words ≡ suc (length others) = ap length are in
      option_read most all (word ∷ words) others run number (number + 1 + 1) o found command reads (omega (arith, less, longer)) valid fresh there whole
      (dropped (number + 1) all value others (dropped number all word words there ∙ are)) state is

  -- a number behind the name of its option
  number_read : (o : ℕ → RunOption) (most_told : ℕ) (value : List ℕ) (others : List (List ℕ)) (n : ℕ) (found : Run) → most_told < 2 ^ 64 → number_in most_told value ≡ Some n
      → at_word (with_told run number (o n)) None ≡ found → words ≡ value ∷ others → word ∷ decimal n ∷ others ≡ option_words (o n) ++ others
      → ((1 ≤ n) × (n ≤ most_told) → IsOption (o n)) → is_told run (o n) ≡ false → judged all (stand_from (standing.Run found) (number + 1 + 1) others) ≡ Ok command
      → Rest all (word ∷ words) run command
  number_read o most_told value others n found small spelled state are named valid fresh is =
      let limits = read_in most_told n value small spelled in
      value_read (o n) value others found (ap (λ ws. word ∷ ws) are ∙ ap (λ v. word ∷ v ∷ others) limits.2 ∙ named) are (valid (limits.0, limits.1)) fresh state is

  budget_read : (found : Run) → word ≡ codes "--budget" → once (is_some run.budget) (waiting run next.Budget) ≡ Some found
      → judged all (stand_from (standing.Run found) (number + 1) words) ≡ Ok command → Rest all (word ∷ words) run command
  budget_read found same given is =
      let first = once_gives (is_some run.budget) (waiting run next.Budget) found given in
      let v : Value all words run next.Budget (number + 1) command =
      value_by all words run next.Budget (number + 1) command (λ clash. let never : ⊥ = cc in never)
      (subst (λ s. judged all (stand_from (standing.Run s) (number + 1) words) ≡ Ok command) (sym first.1) is) in
      let read = mapped (λ n. at_word (record run { budget = Some n }) None) (number_in budget_max v.value) v.found v.gives in
      number_read Budget budget_max v.value v.others read.0 v.found (omega arith) read.1 read.2 v.are (ap (λ w. w ∷ decimal read.0 ∷ v.others) same) (λ limits. limits) first.0 v.is

  buffer_read : (found : Run) → word ≡ codes "--buffer" → once (is_some run.buffer) (waiting run next.Buffer) ≡ Some found
      → judged all (stand_from (standing.Run found) (number + 1) words) ≡ Ok command → Rest all (word ∷ words) run command
  buffer_read found same given is =
      let first = once_gives (is_some run.buffer) (waiting run next.Buffer) found given in
      let v : Value all words run next.Buffer (number + 1) command =
      value_by all words run next.Buffer (number + 1) command (λ clash. let never : ⊥ = cc in never)
      (subst (λ s. judged all (stand_from (standing.Run s) (number + 1) words) ≡ Ok command) (sym first.1) is) in
      let read = mapped (λ n. at_word (record run { buffer = Some n }) None) (number_in buffer_max v.value) v.found v.gives in
      number_read Buffer buffer_max v.value v.others read.0 v.found (omega arith) read.1 read.2 v.are (ap (λ w. w ∷ decimal read.0 ∷ v.others) same) (λ limits. limits) first.0 v.is

  file_read : (found : Run) → word ≡ codes "-r" → once (is_some run.file) (waiting run next.File) ≡ Some found
      → judged all (stand_from (standing.Run found) (number + 1) words) ≡ Ok command → Rest all (word ∷ words) run command
  file_read found same given is =
      let first = once_gives (is_some run.file) (waiting run next.File) found given in
      let v : Value all words run next.File (number + 1) command =
      value_by all words run next.File (number + 1) command (λ clash. let never : ⊥ = cc in never)
      (subst (λ s. judged all (stand_from (standing.Run s) (number + 1) words) ≡ Ok command) (sym first.1) is) in
      named v first.0 (is_file_name v.value) refl v.gives
    where
      named : (v : Value all words run next.File (number + 1) command) → is_some run.file ≡ false → (name : Bool) → is_file_name v.value ≡ name
          → (if name then Some (at_word (record run { file = Some (number + 1) }) None) else None) ≡ Some v.found → Rest all (word ∷ words) run command
      named v fresh false name gives = absurd (let never : ⊥ = cc in never)
      named v fresh true name gives =
          value_read (Capture v.value) v.value v.others v.found (ap (λ w. w ∷ words) same ∙ ap (λ ws. codes "-r" ∷ ws) v.are) v.are name fresh
          (let state : at_word (record run { file = Some (number + 1) }) None ≡ v.found = cc in state) v.is

  -- an option of which no value stands behind its name
  flag_read : (o : RunOption) (found : Run) → word ∷ words ≡ option_words o ++ words → IsOption o → once (is_told run o) (at_word (with_told run number o) None) ≡ Some found
      → judged all (stand_from (standing.Run found) (number + 1) words) ≡ Ok command → Rest all (word ∷ words) run command
  flag_read o found whole valid given is =
      let first = once_gives (is_told run o) (at_word (with_told run number o) None) found given in
      option_read most all (word ∷ words) words run number (number + 1) o found command reads less valid first.0 there whole (dropped number all word words there) first.1 is

  options_read : (found : Run) → with_option (at_word run None) word ≡ Some found → judged all (stand_from (standing.Run found) (number + 1) words) ≡ Ok command → Rest all (word ∷ words) run command
  options_read found gives is = elim (one_of (bytes_eq word (codes "-C")) _ _ found gives) [
    | inl here ↦ flag_read Unchecked found (ap (λ w. w ∷ words) (is_text word (codes "-C") here.0)) tt here.1 is
    | inr gives ↦ elim (one_of (bytes_eq word (codes "-b")) _ _ found gives) [
      | inl here ↦ flag_read Bare found (ap (λ w. w ∷ words) (is_text word (codes "-b") here.0)) tt here.1 is
      | inr gives ↦ elim (one_of (bytes_eq word (codes "--budget")) _ _ found gives) [
        | inl here ↦ budget_read found (is_text word (codes "--budget") here.0) here.1 is
        | inr gives ↦ elim (one_of (bytes_eq word (codes "--buffer")) _ _ found gives) [
          | inl here ↦ buffer_read found (is_text word (codes "--buffer") here.0) here.1 is
          | inr gives ↦ elim (one_of (bytes_eq word (codes "-r")) _ _ found gives) [
            | inl here ↦ file_read found (is_text word (codes "-r") here.0) here.1 is
            | inr none ↦ absurd (let never : ⊥ = cc in never)
          ]
        ]
      ]
    ]
  ]

  next_read : judged all (stand_from (standing.Run (at_word run None)) number (word ∷ words)) ≡ Ok command → Rest all (word ∷ words) run command
  next_read is = by (is_file_name word) refl is
    where
      on : Option Run → Result Command ℕ
      on found = judged all (goes_on (option_map standing.Run found) number words)

      script : (file : Option ℕ) → is_file_name word ≡ true → on (if is_none file then None else Some (at_word run (Some number))) ≡ Ok command → Rest all (word ∷ words) run command
      script None name same = absurd (let never : ⊥ = cc in never)
      script (Some file) name same =
          let (names, whole) = scripts_left all words run number (number + 1) command same in
          record {
            options = [];
            scripts = word ∷ words;
            file = whole.file;
            settings = settings_of run;
            are = refl;
            valid = All-nil IsOption;
            pairs = λ i j d before within. absurd (omega (arith, within));
            free = All-nil (λ o. is_told run o ≡ false);
            told = ap (told_as (settings_of run)) whole.there;
            names = All-cons IsName word words name names;
            is = ap (λ scripts. RunScripts (settings_of run) whole.file scripts) (sym there) ∙ whole.is;
          }

      option : (found : Option Run) → with_option (at_word run None) word ≡ found → on found ≡ Ok command → Rest all (word ∷ words) run command
      option None gives same = absurd (let never : ⊥ = cc in never)
      option (Some found) gives same = options_read found gives same

      by : (name : Bool) → is_file_name word ≡ name → on (if name then with_script (at_word run None) number else with_option (at_word run None) word) ≡ Ok command → Rest all (word ∷ words) run command
      by true name same = script run.file name same
      by false name same = option (with_option (at_word run None) word) refl same

read : (most : ℕ) (all words : List (List ℕ)) (run : Run) (number : ℕ) (command : Command) → length words ≤ most → drop number all ≡ words
    → judged all (stand_from (standing.Run (at_word run None)) number words) ≡ Ok command → Rest all words run command
read most all [] run number command less there is =
    let whole = whole_by all run None run.file (length all) command refl is in
    record {
      options = [];
      scripts = [];
      file = whole.file;
      settings = settings_of run;
      are = refl;
      valid = All-nil IsOption;
      pairs = λ i j d before within. absurd (omega (arith, within));
      free = All-nil (λ o. is_told run o ≡ false);
      told = ap (told_as (settings_of run)) whole.there;
      names = All-nil IsName;
      is = whole.is;
    }
read zero all (word ∷ words) run number command less there is = absurd (omega (arith, less))
read (suc most) all (word ∷ words) run number command less there is =
    next_read most all words word run number command (λ ws r n shorter at same. read most all ws r n command shorter at same) (omega (arith, less)) there is

-- From what is spelled to the command ---------------------------------------------------------------------------------------

scripts_stand : (words : List (List ℕ)) (run : Run) (at file number : ℕ) → run.file ≡ Some file → All IsName words
    → stand_from (standing.Run (at_word run (Some at))) number words ≡ Ok (standing.Run (at_word run (Some at)))
scripts_stand [] run at file number named names = refl
scripts_stand (word ∷ words) run at file number named names =
    ap (λ name. goes_on (option_map standing.Run (if name then with_script (at_word run (Some at)) number else None)) number words) (All-head IsName word words names)
    ∙ ap (λ f. goes_on (option_map standing.Run (if is_none f then None else Some (at_word run (Some at)))) number words) named
    ∙ scripts_stand words run at file (number + 1) named (All-tail IsName word words names)

ended : (all : List (List ℕ)) (run : Run) (scripts named : Option ℕ) (number : ℕ) (settings : Settings) (file : List ℕ)
    → settings_of run ≡ settings → file_of all named ≡ Some file
    → command_or (run_of all (at_word run scripts) named) number ≡ Ok (RunScripts settings file (words_from all scripts))
ended all run scripts None number settings file same there = absurd (let never : ⊥ = cc in never)
ended all run scripts (Some at) number settings file same there =
    ap (λ found. command_or (option_map (λ f. RunScripts (settings_of run) f (words_from all scripts)) found) number) there
    ∙ ap (λ s. Ok (RunScripts s file (words_from all scripts))) same

scripts_written : (all scripts : List (List ℕ)) (run : Run) (number : ℕ) (settings : Settings) (file : List ℕ) → All IsName scripts → drop number all ≡ scripts
    → settings_of run ≡ settings → file_of all run.file ≡ Some file
    → judged all (stand_from (standing.Run (at_word run None)) number scripts) ≡ Ok (RunScripts settings file scripts)
scripts_written all [] run number settings file names there same named = ended all run None run.file (length all) settings file same named
scripts_written all (word ∷ words) run number settings file names there same named = by run.file refl
  where
    by : (at : Option ℕ) → run.file ≡ at → judged all (stand_from (standing.Run (at_word run None)) number (word ∷ words)) ≡ Ok (RunScripts settings file (word ∷ words))
    by None is = absurd (let gone : None ≡ Some file = sym (ap (file_of all) is) ∙ named in let never : ⊥ = cc in never)
    by (Some at) is =
        ap (λ name. judged all (goes_on (option_map standing.Run (if name then with_script (at_word run None) number else with_option (at_word run None) word)) number words)) (All-head IsName word words names)
        ∙ ap (λ f. judged all (goes_on (option_map standing.Run (if is_none f then None else Some (at_word run (Some number)))) number words)) is
        ∙ ap (judged all) (scripts_stand words run number at (number + 1) is (All-tail IsName word words names))
        ∙ ended all run (Some number) run.file (length all) settings file same named
        ∙ ap (λ scripts. Ok (RunScripts settings file scripts)) there

pairs_tail : (o : RunOption) (options : List RunOption) → AllPairs Differ (o ∷ options) → AllPairs Differ options
pairs_tail o options pairs = λ i j d before within. pairs (suc i) (suc j) d (omega (arith, before)) (omega (arith, within))

rest_free : (run : Run) (n : ℕ) (o : RunOption) (options : List RunOption) → AllPairs Differ (o ∷ options) → All (λ other. is_told run other ≡ false) (o ∷ options)
    → All (λ other. is_told (with_told run n o) other ≡ false) options
rest_free run n o options pairs free = λ k d within.
    still_free run n o (slice_index_or options k d) (pairs zero (suc k) d (omega arith) (omega (arith, within))) (free (suc k) d (omega (arith, within)))

-- a run of these options and scripts, from a word on
record Written (all : List (List ℕ)) (options : List RunOption) (scripts : List (List ℕ)) (run : Run) (number : ℕ) (settings : Settings) (file : List ℕ) : Type 0 where
  valid : All IsOption options
  pairs : AllPairs Differ options
  free : All (λ o. is_told run o ≡ false) options
  names : All IsName scripts
  there : drop number all ≡ flat_map option_words options ++ scripts
  told : fold tell (told_of all run) options ≡ told_as settings (Some file)

abbrev words_of : List RunOption → List (List ℕ) → List (List ℕ)
words_of options scripts = flat_map option_words options ++ scripts

behind : (all : List (List ℕ)) (o : RunOption) (options : List RunOption) (scripts : List (List ℕ)) (run : Run) (number after : ℕ) (settings : Settings) (file : List ℕ)
    → Written all (o ∷ options) scripts run number settings file → drop number all ≡ option_words o ++ words_of options scripts → drop after all ≡ words_of options scripts
    → Written all options scripts (with_told run number o) after settings file
behind all o options scripts run number after settings file w here rest = record {
  valid = All-tail IsOption o options w.valid;
  pairs = pairs_tail o options w.pairs;
  free = rest_free run number o options w.pairs w.free;
  names = w.names;
  there = rest;
  told = ap (λ told. fold tell told options) (sym (told_with all (words_of options scripts) run number o here)) ∙ w.told;
}

written : (all : List (List ℕ)) (options : List RunOption) (scripts : List (List ℕ)) (run : Run) (number : ℕ) (settings : Settings) (file : List ℕ)
    → Written all options scripts run number settings file
    → judged all (stand_from (standing.Run (at_word run None)) number (words_of options scripts)) ≡ Ok (RunScripts settings file scripts)
written all [] scripts run number settings file w =
    scripts_written all scripts run number settings file w.names w.there (ap (λ (t : Told). t.settings) w.told) (ap (λ (t : Told). t.capture) w.told)
written all (Unchecked ∷ options) scripts run number settings file w =
    ap (λ there. judged all (goes_on (option_map standing.Run (once there (at_word (with_told run number Unchecked) None))) number (words_of options scripts)))
    (All-head (λ o. is_told run o ≡ false) Unchecked options w.free)
    ∙ written all options scripts (with_told run number Unchecked) (number + 1) settings file
    (behind all Unchecked options scripts run number (number + 1) settings file w w.there (dropped number all (codes "-C") (words_of options scripts) w.there))
written all (Bare ∷ options) scripts run number settings file w =
    ap (λ there. judged all (goes_on (option_map standing.Run (once there (at_word (with_told run number Bare) None))) number (words_of options scripts)))
    (All-head (λ o. is_told run o ≡ false) Bare options w.free)
    ∙ written all options scripts (with_told run number Bare) (number + 1) settings file
    (behind all Bare options scripts run number (number + 1) settings file w w.there (dropped number all (codes "-b") (words_of options scripts) w.there))
written all (Budget units ∷ options) scripts run number settings file w =
    let valid = All-head IsOption (Budget units) options w.valid in
    ap (λ there. judged all (goes_on (option_map standing.Run (once there (waiting run next.Budget))) number (decimal units ∷ words_of options scripts)))
    (All-head (λ o. is_told run o ≡ false) (Budget units) options w.free)
    ∙ ap (λ read. judged all (goes_on (option_map standing.Run (option_map (λ n. at_word (with_told run number (Budget n)) None) read)) (number + 1) (words_of options scripts)))
    (in_read budget_max units (omega arith) valid.0 valid.1)
    ∙ written all options scripts (with_told run number (Budget units)) (number + 1 + 1) settings file
    (behind all (Budget units) options scripts run number (number + 1 + 1) settings file w w.there
    (dropped (number + 1) all (decimal units) (words_of options scripts) (dropped number all (codes "--budget") (decimal units ∷ words_of options scripts) w.there)))
written all (Buffer bytes ∷ options) scripts run number settings file w =
    let valid = All-head IsOption (Buffer bytes) options w.valid in
    ap (λ there. judged all (goes_on (option_map standing.Run (once there (waiting run next.Buffer))) number (decimal bytes ∷ words_of options scripts)))
    (All-head (λ o. is_told run o ≡ false) (Buffer bytes) options w.free)
    ∙ ap (λ read. judged all (goes_on (option_map standing.Run (option_map (λ n. at_word (with_told run number (Buffer n)) None) read)) (number + 1) (words_of options scripts)))
    (in_read buffer_max bytes (omega arith) valid.0 valid.1)
    ∙ written all options scripts (with_told run number (Buffer bytes)) (number + 1 + 1) settings file
    (behind all (Buffer bytes) options scripts run number (number + 1 + 1) settings file w w.there
    (dropped (number + 1) all (decimal bytes) (words_of options scripts) (dropped number all (codes "--buffer") (decimal bytes ∷ words_of options scripts) w.there)))
written all (Capture name ∷ options) scripts run number settings file w =
    ap (λ there. judged all (goes_on (option_map standing.Run (once there (waiting run next.File))) number (name ∷ words_of options scripts)))
    (All-head (λ o. is_told run o ≡ false) (Capture name) options w.free)
    ∙ ap (λ good. judged all (goes_on (option_map standing.Run (if good then Some (at_word (with_told run number (Capture name)) None) else None)) (number + 1) (words_of options scripts)))
    (All-head IsOption (Capture name) options w.valid)
    ∙ written all options scripts (with_told run number (Capture name)) (number + 1 + 1) settings file
    (behind all (Capture name) options scripts run number (number + 1 + 1) settings file w w.there
    (dropped (number + 1) all name (words_of options scripts) (dropped number all (codes "-r") (name ∷ words_of options scripts) w.there)))

-- Commands ------------------------------------------------------------------------------------------------------------------

list_spelled : (word : List ℕ) (words : List (List ℕ)) (command : Command) → word ≡ codes "list" → judged (word ∷ words) (stand_from standing.List 1 words) ≡ Ok command → Spells command (word ∷ words)
list_spelled word [] command same is = absurd (let never : ⊥ = cc in never)
list_spelled word (file ∷ words) command same is = by (is_file_name file) refl words is
  where
    by : (name : Bool) → is_file_name file ≡ name → (others : List (List ℕ)) → judged (word ∷ file ∷ others) (goes_on (if name then Some standing.Listed else None) 1 others) ≡ Ok command
        → Spells command (word ∷ file ∷ others)
    by false name others there = absurd (let never : ⊥ = cc in never)
    by true name (other ∷ others) there = absurd (let never : ⊥ = cc in never)
    by true name [] there =
        let listed : ListItems file ≡ command = cc in
        subst (λ c. Spells c (word ∷ file ∷ [])) listed (name, ap (λ w. w ∷ file ∷ []) same)

run_spelled : (word : List ℕ) (words : List (List ℕ)) (command : Command) → word ≡ codes "run" → judged (word ∷ words) (stand_from (standing.Run no_options) 1 words) ≡ Ok command
    → Spells command (word ∷ words)
run_spelled word words command same is =
    let rest = read (length words) (word ∷ words) words no_options 1 command (omega arith) refl is in
    subst (λ c. Spells c (word ∷ words)) rest.is (record {
      options = rest.options;
      are = ap (λ w. w ∷ words) same ∙ ap (λ ws. codes "run" ∷ ws) rest.are;
      valid = rest.valid;
      once = rest.pairs;
      told = rest.told;
      names = rest.names;
    })

gen_spelled : (word : List ℕ) (words : List (List ℕ)) (command : Command) → word ≡ codes "gen" → judged (word ∷ words) (stand_from standing.Generate 1 words) ≡ Ok command → Spells command (word ∷ words)
gen_spelled word [] command same is = absurd (let never : ⊥ = cc in never)
gen_spelled word (start ∷ words) command same is = by (number_to start_max start) refl words is
  where
    counted : (from : ℕ) → number_to start_max start ≡ Some from → (count : List ℕ) (found : Option ℕ) → number_to count_max count ≡ found → (others : List (List ℕ))
        → judged (word ∷ start ∷ count ∷ others) (goes_on (option_map (standing.Generated from) found) 2 others) ≡ Ok command → Spells command (word ∷ start ∷ count ∷ others)
    counted from first count None second others there = absurd (let never : ⊥ = cc in never)
    counted from first count (Some number) second (other ∷ others) there = absurd (let never : ⊥ = cc in never)
    counted from first count (Some number) second [] there =
        let generated : Generate from number ≡ command = cc in
        let one = read_to start_max from start (omega arith) first in
        let two = read_to count_max number count (omega arith) second in
        subst (λ c. Spells c (word ∷ start ∷ count ∷ [])) generated
        (one.0, two.0, ap (λ w. w ∷ start ∷ count ∷ []) same ∙ ap (λ s. codes "gen" ∷ s ∷ count ∷ []) one.1 ∙ ap (λ c. codes "gen" ∷ decimal from ∷ c ∷ []) two.1)

    by : (found : Option ℕ) → number_to start_max start ≡ found → (others : List (List ℕ)) → judged (word ∷ start ∷ others) (goes_on (option_map standing.GenerateFrom found) 1 others) ≡ Ok command
        → Spells command (word ∷ start ∷ others)
    by None first others there = absurd (let never : ⊥ = cc in never)
    by (Some from) first [] there = absurd (let never : ⊥ = cc in never)
    by (Some from) first (count ∷ others) there = counted from first count (number_to count_max count) refl others there

alone : (word : List ℕ) (words : List (List ℕ)) (command told : Command) (so_far : Standing) → ((all : List (List ℕ)) → command_of all so_far ≡ Some told)
    → ((number : ℕ) (other : List ℕ) → step so_far number other ≡ None) → judged (word ∷ words) (stand_from so_far 1 words) ≡ Ok command → (words ≡ []) × (told ≡ command)
alone word [] command told so_far is last there =
    let gives : ◌≡◌ {A = Result Command ℕ} (Ok told) (Ok command) = sym (ap (λ found. command_or found 1) (is (word ∷ []))) ∙ there in
    (refl, let same : told ≡ command = cc in same)
alone word (other ∷ words) command told so_far is last there =
    absurd (let gone : ◌≡◌ {A = Result Command ℕ} (Err 1) (Ok command) = sym (ap (λ found. judged (word ∷ other ∷ words) (goes_on found 1 words)) (last 1 other)) ∙ there in let never : ⊥ = cc in never)

help_spelled : (word : List ℕ) (words : List (List ℕ)) (command : Command) → word ≡ codes "--help" → judged (word ∷ words) (stand_from standing.Help 1 words) ≡ Ok command → Spells command (word ∷ words)
help_spelled word words command same is =
    let only = alone word words command Help standing.Help (λ all. refl) (λ number other. refl) is in
    subst (λ c. Spells c (word ∷ words)) only.1 (ap (λ w. w ∷ words) same ∙ ap (λ ws. codes "--help" ∷ ws) only.0)

version_spelled : (word : List ℕ) (words : List (List ℕ)) (command : Command) → word ≡ codes "--version" → judged (word ∷ words) (stand_from standing.Version 1 words) ≡ Ok command
    → Spells command (word ∷ words)
version_spelled word words command same is =
    let only = alone word words command Version standing.Version (λ all. refl) (λ number other. refl) is in
    subst (λ c. Spells c (word ∷ words)) only.1 (ap (λ w. w ∷ words) same ∙ ap (λ ws. codes "--version" ∷ ws) only.0)

spelled : (words : List (List ℕ)) (command : Command) → understand words ≡ Ok command → Spells command words
spelled [] command is = absurd (let never : ⊥ = cc in never)
spelled (word ∷ words) command is = by (verb word) refl is
  where
    on : (begins so_far : Standing) → Some begins ≡ Some so_far → judged (word ∷ words) (stand_from so_far 1 words) ≡ Ok command → judged (word ∷ words) (stand_from begins 1 words) ≡ Ok command
    on begins so_far gives there = subst (λ s. judged (word ∷ words) (stand_from s 1 words) ≡ Ok command) (sym (let same : begins ≡ so_far = cc in same)) there

    by : (found : Option Standing) → verb word ≡ found → judged (word ∷ words) (goes_on found 0 words) ≡ Ok command → Spells command (word ∷ words)
    by None gives there = absurd (let never : ⊥ = cc in never)
    by (Some so_far) gives there = elim (one_of (bytes_eq word (codes "list")) _ _ so_far gives) [
      | inl here ↦ list_spelled word words command (is_text word (codes "list") here.0) (on standing.List so_far here.1 there)
      | inr gives ↦ elim (one_of (bytes_eq word (codes "run")) _ _ so_far gives) [
        | inl here ↦ run_spelled word words command (is_text word (codes "run") here.0) (on (standing.Run no_options) so_far here.1 there)
        | inr gives ↦ elim (one_of (bytes_eq word (codes "gen")) _ _ so_far gives) [
          | inl here ↦ gen_spelled word words command (is_text word (codes "gen") here.0) (on standing.Generate so_far here.1 there)
          | inr gives ↦ elim (one_of (bytes_eq word (codes "--help")) _ _ so_far gives) [
            | inl here ↦ help_spelled word words command (is_text word (codes "--help") here.0) (on standing.Help so_far here.1 there)
            | inr gives ↦ elim (one_of (bytes_eq word (codes "--version")) _ _ so_far gives) [
              | inl here ↦ version_spelled word words command (is_text word (codes "--version") here.0) (on standing.Version so_far here.1 there)
              | inr none ↦ absurd (let never : ⊥ = cc in never)
            ]
          ]
        ]
      ]
    ]

nothing_told : (o : RunOption) → is_told no_options o ≡ false
nothing_told Unchecked = refl
nothing_told Bare = refl
nothing_told (Budget units) = refl
nothing_told (Buffer bytes) = refl
nothing_told (Capture file) = refl

spells : (words : List (List ℕ)) (command : Command) → Spells command words → understand words ≡ Ok command
spells words (ListItems file) is =
    ap understand is.1 ∙ ap (λ name. judged (codes "list" ∷ file ∷ []) (goes_on (if name then Some standing.Listed else None) 1 [])) is.0
spells words (RunScripts settings file scripts) is =
    ap understand is.are ∙ written (codes "run" ∷ words_of is.options scripts) is.options scripts no_options 1 settings file (record {
      valid = is.valid;
      pairs = is.once;
      free = λ k d within. nothing_told (slice_index_or is.options k d);
      names = is.names;
      there = refl;
      told = is.told;
    })
spells words (Generate start count) is =
    let all : List (List ℕ) = codes "gen" ∷ decimal start ∷ decimal count ∷ [] in
    ap understand is.2 ∙ ap (λ found. judged all (goes_on (option_map standing.GenerateFrom found) 1 (decimal count ∷ []))) (to_read start_max start (omega arith) is.0)
    ∙ ap (λ found. judged all (goes_on (option_map (standing.Generated start) found) 2 [])) (to_read count_max count (omega arith) is.1)
spells words Help is = ap understand is
spells words Version is = ap understand is

pub spelling : (words : List (List ℕ)) (command : Command) → (understand words ≡ Ok command) ↔ Spells command words
spelling words command = (spelled words command, spells words command)
