-- The command line in the subject's own words.
use Rattle.std.proofs.Common.{◌≡◌, ◌↔◌, ℕ, zero, suc, ◌+◌, ◌<◌, ◌≤◌, Bool, true, false, ◌⊎◌, inl, inr, if◌then◌else◌, List, [], ◌∷◌, ◌++◌, take, length, option_map, is_none, length-append, codes, add-one, Option, Some, None, Result, Ok, Err, is_ok, is_some, IsTrue, slice_get, refl, sym, ap, subst, ◌∙◌, arith}
use Rattle.std.specs.Prelude.{◌&&◌, ◌*◌, ◌-◌, ◌==◌, nat_le}
use Rattle.std.specs.Char.{is_ascii_digit}
use Rattle.std.specs.Str.{bytes_eq}
use Rattle.std.proofs.lemmas.Bool.{and_parts, leb-true}
use Rattle.zk_command.specs.declared.command.Next.{Next}
use Rattle.zk_command.specs.declared.command.Next.TheVariants as next
use Rattle.zk_command.specs.declared.command.Run.{Run}
use Rattle.zk_command.specs.declared.command.Standing.{Standing}
use Rattle.zk_command.specs.declared.command.Standing.TheVariants as standing
use Rattle.zk_command.specs.Command.{Command, ListItems, RunScripts, Generate, Help, Version, IsUnderstood, command_or, judged, understand, number_from, number_to, start_max, count_max, budget_max, buffer_max, IsFirstNotUnderstood, begins, is_whole, is_whole_at, no_options, is_file_name, number_in, once, with_option, with_script, with_word, run_on, verb, step, stand_from, settings_of, words_from, run_of, command_of}

-- Words one after another --------------------------------------------------------------------------------------------

-- where the words so far stand, the others go on
abbrev stand_on : Result Standing ℕ → ℕ → List (List ℕ) → Result Standing ℕ
stand_on (Err place) number words = Err place
stand_on (Ok so_far) number words = stand_from so_far number words

abbrev pub goes_on : Option Standing → ℕ → List (List ℕ) → Result Standing ℕ
goes_on found number words = elim found [
  | None ↦ Err number
  | Some more ↦ stand_from more (number + 1) words
]

stand_append : (so_far : Standing) (number : ℕ) (words more : List (List ℕ)) → stand_from so_far number (words ++ more) ≡ stand_on (stand_from so_far number words) (number + length words) more
stand_append so_far number [] more = ap (λ n. stand_from so_far n more) (let same : number ≡ number + 0 = omega arith in same)
stand_append so_far number (word ∷ words) more = by (step so_far number word) (λ further. stand_append further (number + 1) words more)
  where
    by : (found : Option Standing) → ((further : Standing) → stand_from further (number + 1) (words ++ more) ≡ stand_on (stand_from further (number + 1) words) (number + 1 + length words) more)
        → goes_on found number (words ++ more) ≡ stand_on (goes_on found number words) (number + suc (length words)) more
    by None behind = refl
    by (Some further) behind = behind further
        ∙ ap (λ n. stand_on (stand_from further (number + 1) words) n more) (let same : number + 1 + length words ≡ number + suc (length words) = omega arith in same)

-- The first word that isn't understood ---------------------------------------------------------------------------------

record Refused (so_far : Standing) (number : ℕ) (words : List (List ℕ)) (place : ℕ) : Type 0 where
  at : ℕ
  is : place ≡ number + at
  within : at < length words
  before : (n : ℕ) → n < at → is_ok (stand_from so_far number (take (suc n) words)) ≡ true
  there : is_ok (stand_from so_far number (take (suc at) words)) ≡ false

-- the word before these leads there
record RefusedBehind (next : Option Standing) (number : ℕ) (words : List (List ℕ)) (place : ℕ) : Type 0 where
  at : ℕ
  is : place ≡ number + at
  within : at < suc (length words)
  before : (n : ℕ) → n < at → is_ok (goes_on next number (take n words)) ≡ true
  there : is_ok (goes_on next number (take at words)) ≡ false

refused_here : (number : ℕ) (words : List (List ℕ)) (place : ℕ) → number ≡ place → RefusedBehind None number words place
refused_here number words place same = record {
  at = 0;
  is = let here : place ≡ number + 0 = omega (arith, same) in here;
  within = omega arith;
  before = λ n less. absurd (omega (arith, less));
  there = refl;
}

earlier_words : (further : Standing) (number : ℕ) (words : List (List ℕ)) (at : ℕ) → ((n : ℕ) → n < at → is_ok (stand_from further (number + 1) (take (suc n) words)) ≡ true)
    → (n : ℕ) → n < suc at → is_ok (goes_on (Some further) number (take n words)) ≡ true
earlier_words further number words at before zero less = refl
earlier_words further number words at before (suc n) less = before n (omega (arith, less))

refused_further : (further : Standing) (number : ℕ) (words : List (List ℕ)) (place : ℕ) → Refused further (number + 1) words place → RefusedBehind (Some further) number words place
refused_further further number words place far = record {
  at = suc far.at;
  is = let here : place ≡ number + suc far.at = omega (arith, far.is) in here;
  within = omega (arith, far.within);
  before = earlier_words further number words far.at far.before;
  there = far.there;
}

behind_word : (so_far : Standing) (number : ℕ) (word : List ℕ) (words : List (List ℕ)) (place : ℕ) → RefusedBehind (step so_far number word) number words place → Refused so_far number (word ∷ words) place
behind_word so_far number word words place far = record { at = far.at; is = far.is; within = far.within; before = far.before; there = far.there }

refused_from : (so_far : Standing) (number : ℕ) (words : List (List ℕ)) (place : ℕ) → stand_from so_far number words ≡ Err place → Refused so_far number words place
refused_from so_far number [] place is = absurd (let never : ⊥ = cc in never)
refused_from so_far number (word ∷ words) place is =
    behind_word so_far number word words place (by (step so_far number word) (λ further. refused_from further (number + 1) words place) is)
  where
    by : (found : Option Standing) → ((further : Standing) → stand_from further (number + 1) words ≡ Err place → Refused further (number + 1) words place)
        → goes_on found number words ≡ Err place → RefusedBehind found number words place
    by None behind same = refused_here number words place (let here : number ≡ place = cc in here)
    by (Some further) behind same = refused_further further number words place (behind further same)

pub first : (words : List (List ℕ)) (place : ℕ) → stand_from standing.Nothing 0 words ≡ Err place → IsFirstNotUnderstood words place
first words place is =
    let far : Refused standing.Nothing 0 words place = refused_from standing.Nothing 0 words place is in
    let here : place ≡ far.at = omega (arith, far.is) in
    record {
      within = omega (arith, here, far.within);
      before = λ n less. rw add-one (far.before n (omega (arith, less, here)));
      there = rw add-one (subst (λ k. begins (take (suc k) words) ≡ false) (sym here) far.there);
    }

-- What a command's first words are -------------------------------------------------------------------------------------

-- a run so far, of so many words
record Sound (number : ℕ) (run : Run) : Type 0 where
  named : (at : ℕ) → run.file ≡ Some at → at < number
  order : is_some run.scripts ≡ true → (is_some run.file ≡ true) × (run.next ≡ next.Word)

abbrev Valid : ℕ → Standing → Type 0
Valid number standing.Nothing = Unit {0}
Valid number standing.List = 1 ≤ number
Valid number standing.Listed = 2 ≤ number
Valid number (standing.Run run) = Sound number run
Valid number standing.Generate = Unit {0}
Valid number (standing.GenerateFrom start) = Unit {0}
Valid number (standing.Generated start count) = count ≤ count_max
Valid number standing.Help = Unit {0}
Valid number standing.Version = Unit {0}

one_or : {A : Type 0} (b : Bool) (p rest : Option A) (y : A) → (if b then p else rest) ≡ Some y → (p ≡ Some y) ⊎ (rest ≡ Some y)
one_or true p rest y is = inl is
one_or false p rest y is = inr is

once_is : (there : Bool) (run found : Run) → once there run ≡ Some found → run ≡ found
once_is true run found is = absurd (let never : ⊥ = cc in never)
once_is false run found is = cc

-- an option leaves the file and the scripts as they are
record KeepsNames (run found : Run) : Type 0 where
  file : found.file ≡ run.file
  scripts : found.scripts ≡ run.scripts

by_option : (run other found : Run) (there : Bool) → KeepsNames run other → once there other ≡ Some found → KeepsNames run found
by_option run other found there keeps is = subst (KeepsNames run) (once_is there other found is) keeps

option_keeps : (run found : Run) (word : List ℕ) → with_option run word ≡ Some found → KeepsNames run found
option_keeps run found word is = elim (one_or (bytes_eq word (codes "-C")) _ _ found is) [
  | inl here ↦ by_option run _ found _ (record { file = refl; scripts = refl }) here
  | inr is ↦ elim (one_or (bytes_eq word (codes "-b")) _ _ found is) [
    | inl here ↦ by_option run _ found _ (record { file = refl; scripts = refl }) here
    | inr is ↦ elim (one_or (bytes_eq word (codes "--budget")) _ _ found is) [
      | inl here ↦ by_option run _ found _ (record { file = refl; scripts = refl }) here
      | inr is ↦ elim (one_or (bytes_eq word (codes "--buffer")) _ _ found is) [
        | inl here ↦ by_option run _ found _ (record { file = refl; scripts = refl }) here
        | inr is ↦ elim (one_or (bytes_eq word (codes "-r")) _ _ found is) [
          | inl here ↦ by_option run _ found _ (record { file = refl; scripts = refl }) here
          | inr none ↦ absurd (let never : ⊥ = cc in never)
        ]
      ]
    ]
  ]
]

more_words : (number : ℕ) (run : Run) → Sound number run → Sound (number + 1) run
more_words number run sound = record { named = λ at is. omega (arith, sound.named at is); order = sound.order }

-- a run whose next word is an option or a script
script_sound : (run found : Run) (number : ℕ) → Sound number run → run.next ≡ next.Word → with_script run number ≡ Some found → Sound (number + 1) found
script_sound run found number sound here is = of_file run.file refl
  where
    unchanged : run ≡ found → Sound (number + 1) found
    unchanged same = subst (Sound (number + 1)) same (more_words number run sound)

    first_script : (at : ℕ) → run.file ≡ Some at → record run { scripts = Some number } ≡ found → Sound (number + 1) found
    first_script at there same = subst (Sound (number + 1)) same (record {
      named = λ other named. omega (arith, sound.named other named);
      order = λ some. (ap is_some there, here);
    })

    of_scripts : (at : ℕ) → run.file ≡ Some at → (scripts : Option ℕ) → (if is_some scripts then Some run else Some (record run { scripts = Some number })) ≡ Some found → Sound (number + 1) found
    of_scripts at there None same = first_script at there cc
    of_scripts at there (Some script) same = unchanged cc

    of_file : (file : Option ℕ) → run.file ≡ file → Sound (number + 1) found
    of_file None there = absurd (let gone : None ≡ Some found = sym (ap (λ f. if is_none f then None else (if is_some run.scripts then Some run else Some (record run { scripts = Some number }))) there) ∙ is in let never : ⊥ = cc in never)
    of_file (Some at) there = of_scripts at there run.scripts (sym (ap (λ f. if is_none f then None else (if is_some run.scripts then Some run else Some (record run { scripts = Some number }))) there) ∙ is)

word_sound : (run found : Run) (number : ℕ) (word : List ℕ) → Sound number run → run.next ≡ next.Word → with_word run number word ≡ Some found → Sound (number + 1) found
word_sound run found number word sound here is = elim (one_or (is_file_name word) _ _ found is) [
  | inl script ↦ script_sound run found number sound here script
  | inr option ↦ of_scripts run.scripts refl option
]
  where
    of_scripts : (scripts : Option ℕ) → run.scripts ≡ scripts → (if is_some run.scripts then None else with_option run word) ≡ Some found → Sound (number + 1) found
    of_scripts (Some script) there same = absurd (let gone : None ≡ Some found = sym (ap (λ s. if is_some s then None else with_option run word) there) ∙ same in let never : ⊥ = cc in never)
    of_scripts None there same =
        let keeps = option_keeps run found word (sym (ap (λ s. if is_some s then None else with_option run word) there) ∙ same) in
        record {
          named = λ at is. omega (arith, sound.named at (sym keeps.file ∙ is));
          order = λ some. absurd (let none : is_some found.scripts ≡ false = ap is_some (keeps.scripts ∙ there) in let never : ⊥ = cc in never);
        }

-- a value behind an option
no_scripts : (number : ℕ) (run : Run) → Sound number run → (run.next ≡ next.Word → ⊥) → is_some run.scripts ≡ true → ⊥
no_scripts number run sound waits some = waits (sound.order some).1

valued : (run found : Run) (number value : ℕ) (given : Option ℕ) (with_value : ℕ → Run) → Sound number run → (run.next ≡ next.Word → ⊥)
    → ((n : ℕ) → KeepsNames run (with_value n)) → option_map with_value given ≡ Some found → Sound (number + 1) found
valued run found number value None with_value sound waits keeps is = absurd (let never : ⊥ = cc in never)
valued run found number value (Some n) with_value sound waits keeps is =
    let same : with_value n ≡ found = cc in
    subst (Sound (number + 1)) same (record {
      named = λ at there. omega (arith, sound.named at (sym (keeps n).file ∙ there));
      order = λ some. absurd (no_scripts number run sound waits (sym (ap is_some (keeps n).scripts) ∙ some));
    })

run_sound : (run found : Run) (number : ℕ) (word : List ℕ) → Sound number run → run_on run number word ≡ Some found → Sound (number + 1) found
run_sound run found number word sound is = of_next run.next refl
  where
    on : Next → Option Run
    on now = elim now [
      | next.Word ↦ with_word run number word
      | next.Budget ↦ option_map (λ n. record run { budget = Some n; next = next.Word }) (number_in budget_max word)
      | next.Buffer ↦ option_map (λ n. record run { buffer = Some n; next = next.Word }) (number_in buffer_max word)
      | next.File ↦ if is_file_name word then Some (record run { file = Some number; next = next.Word }) else None
    ]

    of_next : (now : Next) → run.next ≡ now → Sound (number + 1) found
    of_next next.Word there = word_sound run found number word sound there (sym (ap on there) ∙ is)
    of_next next.Budget there = valued run found number 0 (number_in budget_max word) (λ n. record run { budget = Some n; next = next.Word }) sound
        (λ is_word. let clash : next.Budget ≡ next.Word = sym there ∙ is_word in let never : ⊥ = cc in never) (λ n. record { file = refl; scripts = refl }) (sym (ap on there) ∙ is)
    of_next next.Buffer there = valued run found number 0 (number_in buffer_max word) (λ n. record run { buffer = Some n; next = next.Word }) sound
        (λ is_word. let clash : next.Buffer ≡ next.Word = sym there ∙ is_word in let never : ⊥ = cc in never) (λ n. record { file = refl; scripts = refl }) (sym (ap on there) ∙ is)
    of_next next.File there = of_name (is_file_name word) (sym (ap on there) ∙ is)
      where
        of_name : (good : Bool) → (if good then Some (record run { file = Some number; next = next.Word }) else None) ≡ Some found → Sound (number + 1) found
        of_name false same = absurd (let never : ⊥ = cc in never)
        of_name true same =
            let found_is : record run { file = Some number; next = next.Word } ≡ found = cc in
            subst (Sound (number + 1)) found_is (record {
              named = λ at here. let is : number ≡ at = cc in omega (arith, is);
              order = λ some. (refl, refl);
            })

-- a number within a limit
within_from : (most number n : ℕ) (word : List ℕ) → number ≤ most → number_from most number word ≡ Some n → n ≤ most
within_from most number n [] less is = let same : number ≡ n = cc in omega (arith, less, same)
within_from most number n (byte ∷ bytes) less is =
    by (is_ascii_digit byte && nat_le (number * 10 + (byte - 48)) most) refl is (λ within. within_from most (number * 10 + (byte - 48)) n bytes within)
  where
    by : (good : Bool) → (is_ascii_digit byte && nat_le (number * 10 + (byte - 48)) most) ≡ good
        → (if good then number_from most (number * 10 + (byte - 48)) bytes else None) ≡ Some n
        → (number * 10 + (byte - 48) ≤ most → number_from most (number * 10 + (byte - 48)) bytes ≡ Some n → n ≤ most) → n ≤ most
    by false there same behind = absurd (let never : ⊥ = cc in never)
    by true there same behind = behind (leb-true (number * 10 + (byte - 48)) most (and_parts (is_ascii_digit byte) (nat_le (number * 10 + (byte - 48)) most) there).1) same

within_in : (most n : ℕ) (word : List ℕ) → number_in most word ≡ Some n → n ≤ most
within_in most n [] is = absurd (let never : ⊥ = cc in never)
within_in most n (first ∷ others) is = by (first == 48) is
  where
    by : (zero_first : Bool) → (if zero_first then None else number_from most 0 (first ∷ others)) ≡ Some n → n ≤ most
    by true same = absurd (let never : ⊥ = cc in never)
    by false same = within_from most 0 n (first ∷ others) (omega arith) same

within_to : (most n : ℕ) (word : List ℕ) → number_to most word ≡ Some n → n ≤ most
within_to most n word is = elim (one_or (bytes_eq word (codes "0")) (Some 0) (number_in most word) n is) [
  | inl here ↦ (let same : 0 ≡ n = cc in omega (arith, same))
  | inr other ↦ within_in most n word other
]

verb_valid : (word : List ℕ) (number : ℕ) (more : Standing) → verb word ≡ Some more → Valid (number + 1) more
verb_valid word number more is = elim (one_or (bytes_eq word (codes "list")) _ _ more is) [
  | inl here ↦ subst (Valid (number + 1)) (let same : standing.List ≡ more = cc in same) (let one : 1 ≤ number + 1 = omega arith in one)
  | inr is ↦ elim (one_or (bytes_eq word (codes "run")) _ _ more is) [
    | inl here ↦ subst (Valid (number + 1)) (let same : standing.Run no_options ≡ more = cc in same) no_names
    | inr is ↦ elim (one_or (bytes_eq word (codes "gen")) _ _ more is) [
      | inl here ↦ subst (Valid (number + 1)) (let same : standing.Generate ≡ more = cc in same) tt
      | inr is ↦ elim (one_or (bytes_eq word (codes "--help")) _ _ more is) [
        | inl here ↦ subst (Valid (number + 1)) (let same : standing.Help ≡ more = cc in same) tt
        | inr is ↦ elim (one_or (bytes_eq word (codes "--version")) _ _ more is) [
          | inl here ↦ subst (Valid (number + 1)) (let same : standing.Version ≡ more = cc in same) tt
          | inr none ↦ absurd (let never : ⊥ = cc in never)
        ]
      ]
    ]
  ]
]
  where
    no_names : Sound (number + 1) no_options
    no_names = record { named = λ at is. absurd (let never : ⊥ = cc in never); order = λ some. absurd (let never : ⊥ = cc in never) }

step_valid : (so_far more : Standing) (number : ℕ) (word : List ℕ) → Valid number so_far → step so_far number word ≡ Some more → Valid (number + 1) more
step_valid standing.Nothing more number word valid is = verb_valid word number more is
step_valid standing.List more number word valid is = by (is_file_name word) is
  where
    by : (good : Bool) → (if good then Some standing.Listed else None) ≡ Some more → Valid (number + 1) more
    by true same = subst (Valid (number + 1)) (let here : standing.Listed ≡ more = cc in here) (let two : 2 ≤ number + 1 = omega (arith, valid) in two)
    by false same = absurd (let never : ⊥ = cc in never)
step_valid standing.Listed more number word valid is = absurd (let never : ⊥ = cc in never)
step_valid (standing.Run run) more number word valid is = by (run_on run number word) refl is
  where
    by : (found : Option Run) → run_on run number word ≡ found → option_map standing.Run found ≡ Some more → Valid (number + 1) more
    by None there same = absurd (let never : ⊥ = cc in never)
    by (Some found) there same = subst (Valid (number + 1)) (let here : standing.Run found ≡ more = cc in here) (run_sound run found number word valid there)
step_valid standing.Generate more number word valid is = by (number_to start_max word) is
  where
    by : (found : Option ℕ) → option_map standing.GenerateFrom found ≡ Some more → Valid (number + 1) more
    by None same = absurd (let never : ⊥ = cc in never)
    by (Some start) same = subst (Valid (number + 1)) (let here : standing.GenerateFrom start ≡ more = cc in here) tt
step_valid (standing.GenerateFrom start) more number word valid is = by (number_to count_max word) refl is
  where
    by : (found : Option ℕ) → number_to count_max word ≡ found → option_map (standing.Generated start) found ≡ Some more → Valid (number + 1) more
    by None there same = absurd (let never : ⊥ = cc in never)
    by (Some count) there same = subst (Valid (number + 1)) (let here : standing.Generated start count ≡ more = cc in here) (within_to count_max count word there)
step_valid (standing.Generated start count) more number word valid is = absurd (let never : ⊥ = cc in never)
step_valid standing.Help more number word valid is = absurd (let never : ⊥ = cc in never)
step_valid standing.Version more number word valid is = absurd (let never : ⊥ = cc in never)

stands_valid : (so_far : Standing) (number : ℕ) (words : List (List ℕ)) (all : Standing) → Valid number so_far → stand_from so_far number words ≡ Ok all → Valid (number + length words) all
stands_valid so_far number [] all valid is =
    subst (λ n. Valid n all) (let same : number ≡ number + 0 = omega arith in same) (subst (Valid number) (let here : so_far ≡ all = cc in here) valid)
stands_valid so_far number (word ∷ words) all valid is = by (step so_far number word) (λ further. stands_valid further (number + 1) words all) refl is
  where
    by : (found : Option Standing) → ((further : Standing) → Valid (number + 1) further → stand_from further (number + 1) words ≡ Ok all → Valid (number + 1 + length words) all)
        → step so_far number word ≡ found → goes_on found number words ≡ Ok all → Valid (number + suc (length words)) all
    by None behind there same = absurd (let never : ⊥ = cc in never)
    by (Some further) behind there same =
        subst (λ n. Valid n all) (let sum : number + 1 + length words ≡ number + suc (length words) = omega arith in sum)
        (behind further (step_valid so_far further number word valid there) same)

-- Words that make a command whole -----------------------------------------------------------------------------------------

got : (words : List (List ℕ)) (at : ℕ) → at < length words → is_some (slice_get words at) ≡ true
got [] at less = absurd (omega (arith, less))
got (word ∷ words) zero less = refl
got (word ∷ words) (suc at) less = got words at (omega (arith, less))

mapped : {A B : Type 0} (f : A → B) (found : Option A) → is_some found ≡ true → is_some (option_map f found) ≡ true
mapped f None is = absurd (let never : ⊥ = cc in never)
mapped f (Some a) is = refl

file_there : {B : Type 0} (words more : List (List ℕ)) (f : List ℕ → B) (at : ℕ) → at < length words + length more → is_some (option_map f (slice_get (words ++ more) at)) ≡ true
file_there words more f at less = mapped f (slice_get (words ++ more) at) (got (words ++ more) at (omega (arith, less, length-append words more)))

abbrev Completes : List (List ℕ) → Standing → Type 0
Completes words all = (more : List (List ℕ)) × (is_whole_at (words ++ more) (stand_from all (length words) more) ≡ true)

complete_run : (words : List (List ℕ)) (unchecked bare : Bool) (budget buffer file scripts : Option ℕ) (now : Next)
    → Sound (length words) (record { unchecked = unchecked; bare = bare; budget = budget; buffer = buffer; file = file; scripts = scripts; next = now })
    → Completes words (standing.Run (record { unchecked = unchecked; bare = bare; budget = budget; buffer = buffer; file = file; scripts = scripts; next = now }))
complete_run words u b bu bf (Some at) sc next.Word sound = ([], file_there words [] _ at (omega (arith, sound.named at refl)))
complete_run words u b bu bf (Some at) sc next.Budget sound = (codes "1" ∷ [], file_there words (codes "1" ∷ []) _ at (omega (arith, sound.named at refl)))
complete_run words u b bu bf (Some at) sc next.Buffer sound = (codes "1" ∷ [], file_there words (codes "1" ∷ []) _ at (omega (arith, sound.named at refl)))
complete_run words u b bu bf file sc next.File sound = (codes "a" ∷ [], file_there words (codes "a" ∷ []) _ (length words) (omega arith))
complete_run words u b bu bf None (Some script) next.Word sound = absurd (let never : ⊥ = (let clash : false ≡ true = (sound.order refl).0 in cc) in never)
complete_run words u b bu bf None None next.Word sound = (codes "-r" ∷ codes "a" ∷ [], file_there words (codes "-r" ∷ codes "a" ∷ []) _ (length words + 1) (omega arith))
complete_run words u b bu bf None (Some script) next.Budget sound = absurd (let never : ⊥ = (let clash : false ≡ true = (sound.order refl).0 in cc) in never)
complete_run words u b bu bf None None next.Budget sound = (codes "1" ∷ codes "-r" ∷ codes "a" ∷ [], file_there words (codes "1" ∷ codes "-r" ∷ codes "a" ∷ []) _ (length words + 1 + 1) (omega arith))
complete_run words u b bu bf None (Some script) next.Buffer sound = absurd (let never : ⊥ = (let clash : false ≡ true = (sound.order refl).0 in cc) in never)
complete_run words u b bu bf None None next.Buffer sound = (codes "1" ∷ codes "-r" ∷ codes "a" ∷ [], file_there words (codes "1" ∷ codes "-r" ∷ codes "a" ∷ []) _ (length words + 1 + 1) (omega arith))

complete : (words : List (List ℕ)) (all : Standing) → Valid (length words) all → Completes words all
complete words standing.Nothing valid = (codes "--help" ∷ [], refl)
complete words standing.List valid = (codes "a" ∷ [], file_there words (codes "a" ∷ []) _ 1 (omega (arith, valid)))
complete words standing.Listed valid = ([], file_there words [] _ 1 (omega (arith, valid)))
complete words (standing.Run run) valid = complete_run words run.unchecked run.bare run.budget run.buffer run.file run.scripts run.next valid
complete words standing.Generate valid = (codes "0" ∷ codes "0" ∷ [], refl)
complete words (standing.GenerateFrom start) valid = (codes "0" ∷ [], refl)
complete words (standing.Generated start count) valid = ([], refl)
complete words standing.Help valid = ([], refl)
complete words standing.Version valid = ([], refl)

begun_whole : (words : List (List ℕ)) (stands : Result Standing ℕ) → stand_from standing.Nothing 0 words ≡ stands → is_ok stands ≡ true → (more : List (List ℕ)) × IsTrue (is_whole (words ++ more))
begun_whole words (Err place) is ok = absurd (let never : ⊥ = cc in never)
begun_whole words (Ok all) is ok =
    let none_before : 0 + length words ≡ length words = omega arith in
    let (more, whole) = complete words all (subst (λ n. Valid n all) none_before (stands_valid standing.Nothing 0 words all tt is)) in
    let joined : stand_from standing.Nothing 0 (words ++ more) ≡ stand_from all (length words) more =
    stand_append standing.Nothing 0 words more ∙ ap (λ s. stand_on s (0 + length words) more) is ∙ ap (λ n. stand_from all n more) none_before in
    (more, ap (is_whole_at (words ++ more)) joined ∙ whole)

whole_begun : (words more : List (List ℕ)) (stands : Result Standing ℕ) → stand_from standing.Nothing 0 words ≡ stands → is_whole (words ++ more) ≡ true → is_ok stands ≡ true
whole_begun words more (Ok all) is whole = refl
whole_begun words more (Err place) is whole =
    let joined : stand_from standing.Nothing 0 (words ++ more) ≡ Err place = stand_append standing.Nothing 0 words more ∙ ap (λ s. stand_on s (0 + length words) more) is in
    let clash : false ≡ true = sym (ap (is_whole_at (words ++ more)) joined) ∙ whole in
    absurd (let never : ⊥ = cc in never)

pub begun : (words : List (List ℕ)) → IsTrue (begins words) ↔ ((more : List (List ℕ)) × IsTrue (is_whole (words ++ more)))
begun words = (
  λ ok. begun_whole words (stand_from standing.Nothing 0 words) refl ok,
  λ found. whole_begun words found.0 (stand_from standing.Nothing 0 words) refl found.1,
)

-- What is understood ---------------------------------------------------------------------------------------------------

-- a command that has a name in it
named_understood : {X : Type 0} (f : X → Command) (found : Option X) (number : ℕ) (command : Command) → ((x : X) → IsUnderstood (f x)) → command_or (option_map f found) number ≡ Ok command → IsUnderstood command
named_understood f None number command all is = absurd (let never : ⊥ = cc in never)
named_understood f (Some x) number command all is = subst IsUnderstood (let same : f x ≡ command = cc in same) (all x)

run_understood : (words : List (List ℕ)) (run : Run) (file : Option ℕ) (number : ℕ) (command : Command) → command_or (run_of words run file) number ≡ Ok command → IsUnderstood command
run_understood words run None number command is = absurd (let never : ⊥ = cc in never)
run_understood words run (Some at) number command is = of_next run.next refl
  where
    on : Next → Option Command
    on now = elim now [
      | next.Word ↦ option_map (λ file. RunScripts (settings_of run) file (words_from words run.scripts)) (slice_get words at)
      | next.Budget ↦ None
      | next.Buffer ↦ None
      | next.File ↦ None
    ]

    of_next : (now : Next) → run.next ≡ now → IsUnderstood command
    of_next next.Word there =
        named_understood (λ file. RunScripts (settings_of run) file (words_from words run.scripts)) (slice_get words at) number command (λ file. tt) (sym (ap (λ n. command_or (on n) number) there) ∙ is)
    of_next next.Budget there = absurd (let none : Err number ≡ Ok command = sym (ap (λ n. command_or (on n) number) there) ∙ is in let never : ⊥ = cc in never)
    of_next next.Buffer there = absurd (let none : Err number ≡ Ok command = sym (ap (λ n. command_or (on n) number) there) ∙ is in let never : ⊥ = cc in never)
    of_next next.File there = absurd (let none : Err number ≡ Ok command = sym (ap (λ n. command_or (on n) number) there) ∙ is in let never : ⊥ = cc in never)

standing_understood : (words : List (List ℕ)) (all : Standing) (at number : ℕ) (command : Command) → Valid at all → command_or (command_of words all) number ≡ Ok command → IsUnderstood command
standing_understood words standing.Nothing at number command valid is = absurd (let never : ⊥ = cc in never)
standing_understood words standing.List at number command valid is = absurd (let never : ⊥ = cc in never)
standing_understood words standing.Listed at number command valid is = named_understood ListItems (slice_get words 1) number command (λ file. tt) is
standing_understood words (standing.Run run) at number command valid is = run_understood words run run.file number command is
standing_understood words standing.Generate at number command valid is = absurd (let never : ⊥ = cc in never)
standing_understood words (standing.GenerateFrom start) at number command valid is = absurd (let never : ⊥ = cc in never)
standing_understood words (standing.Generated start count) at number command valid is = subst IsUnderstood (let same : Generate start count ≡ command = cc in same) valid
standing_understood words standing.Help at number command valid is = subst IsUnderstood (let same : Help ≡ command = cc in same) tt
standing_understood words standing.Version at number command valid is = subst IsUnderstood (let same : Version ≡ command = cc in same) tt

-- words that are a command keep to its limits
pub understood : (words : List (List ℕ)) (command : Command) → understand words ≡ Ok command → IsUnderstood command
understood words command is = by (stand_from standing.Nothing 0 words) refl is
  where
    by : (stands : Result Standing ℕ) → stand_from standing.Nothing 0 words ≡ stands → judged words stands ≡ Ok command → IsUnderstood command
    by (Err place) there same = absurd (let never : ⊥ = cc in never)
    by (Ok all) there same = standing_understood words all (0 + length words) (length words) command (stands_valid standing.Nothing 0 words all tt there) same
