-- The command line: which words are a command, and which word is the first that isn't understood.
use Rattle.std.specs.Prelude.{◌≡◌, ℕ, ◌+◌, ◌-◌, ◌*◌, ◌<◌, ◌≤◌, nat_le, take, is_ok, IsTrue, Bool, true, false, not, ◌&&◌, ◌==◌, List, [], ◌∷◌, drop, length, slice_get, codes, Option, Some, None, Result, Ok, Err, if◌then◌else◌}
use Rattle.std.specs.Char.{is_ascii_digit}
use Rattle.std.specs.Option.{is_some, is_none, option_map, option_map_or}
use Rattle.std.specs.Str.{bytes_eq}
use Rattle.zk_command.specs.declared.command.Command as code
use Rattle.zk_command.specs.declared.command.Command.TheVariants as variants
use Rattle.zk_command.specs.declared.command.Next.TheVariants as next
use Rattle.zk_command.specs.declared.command.Run.{Run}
use Rattle.zk_command.specs.declared.command.Settings.{Settings}
use Rattle.zk_command.specs.declared.command.Standing.{Standing}
use Rattle.zk_command.specs.declared.command.Standing.TheVariants as standing

-- what the program is asked to do
pub data Command : Type 0 where
  -- say a line for each item of a capture
  ListItems : (file : List ℕ) → Command
  -- run scripts over a capture
  RunScripts : (settings : Settings) (file : List ℕ) (scripts : List (List ℕ)) → Command
  -- run the default scripts over a capture that is made by rule, of so many conversations
  Generate : (start count : ℕ) → Command
  -- say what commands there are
  Help : Command
  -- say the name and the version
  Version : Command

-- the name of a file is neither empty nor like an option
abbrev pub is_file_name : List ℕ → Bool
is_file_name [] = false
is_file_name (first ∷ others) = not (first == 45)

-- Numbers -----------------------------------------------------------------------------------------------------

-- a number that digits go on with, where it stays within a limit
abbrev pub number_from : ℕ → ℕ → List ℕ → Option ℕ
number_from most number [] = Some number
number_from most number (byte ∷ bytes) =
    if is_ascii_digit byte && nat_le (number * 10 + (byte - 48)) most then number_from most (number * 10 + (byte - 48)) bytes else None

-- the number from 1 to a limit that a word spells in decimal digits, the first of which is not 0
abbrev pub number_in : ℕ → List ℕ → Option ℕ
number_in most [] = None
number_in most (first ∷ others) = if first == 48 then None else number_from most 0 (first ∷ others)

abbrev pub budget_max : ℕ
budget_max = 1_000_000_000

abbrev pub buffer_max : ℕ
buffer_max = 67_108_864

-- the number from 0 to a limit that a word spells in decimal digits, the first of which is 0 in 0 alone
abbrev pub number_to : ℕ → List ℕ → Option ℕ
number_to most word = if bytes_eq word (codes "0") then Some 0 else number_in most word

abbrev pub start_max : ℕ
start_max = 4_294_967_295

abbrev pub count_max : ℕ
count_max = 100_000

-- Words, one after another ------------------------------------------------------------------------------------

-- an option stands once at most
abbrev pub once : Bool → Run → Option Run
once there run = if there then None else Some run

-- a run whose next word is an option
abbrev pub with_option : Run → List ℕ → Option Run
with_option run word =
    if bytes_eq word (codes "-C") then once run.unchecked (record run { unchecked = true })
    else if bytes_eq word (codes "-b") then once run.bare (record run { bare = true })
    else if bytes_eq word (codes "--budget") then once (is_some run.budget) (record run { next = next.Budget })
    else if bytes_eq word (codes "--buffer") then once (is_some run.buffer) (record run { next = next.Buffer })
    else if bytes_eq word (codes "-r") then once (is_some run.file) (record run { next = next.File })
    else None

-- Where the first script stands. The capture is named before it.
abbrev pub with_script : Run → ℕ → Option Run
with_script run number =
    if is_none run.file then None
    else if is_some run.scripts then Some run
    else Some (record run { scripts = Some number })

-- options stand before the first script
abbrev pub with_word : Run → ℕ → List ℕ → Option Run
with_word run number word =
    if is_file_name word then with_script run number
    else if is_some run.scripts then None
    else with_option run word

-- a run whose word of this number is this one
abbrev pub run_on : Run → ℕ → List ℕ → Option Run
run_on run number word = elim run.next [
  | next.Word ↦ with_word run number word
  | next.Budget ↦ option_map (λ n. record run { budget = Some n; next = next.Word }) (number_in budget_max word)
  | next.Buffer ↦ option_map (λ n. record run { buffer = Some n; next = next.Word }) (number_in buffer_max word)
  | next.File ↦ if is_file_name word then Some (record run { file = Some number; next = next.Word }) else None
]

-- a run without options
abbrev pub no_options : Run
no_options = record { unchecked = false; bare = false; budget = None; buffer = None; file = None; scripts = None; next = next.Word }

-- what the first word begins
abbrev pub verb : List ℕ → Option Standing
verb word =
    if bytes_eq word (codes "list") then Some standing.List
    else if bytes_eq word (codes "run") then Some (standing.Run no_options)
    else if bytes_eq word (codes "gen") then Some standing.Generate
    else if bytes_eq word (codes "--help") then Some standing.Help
    else if bytes_eq word (codes "--version") then Some standing.Version
    else None

-- what words are with one more, by its number and itself, if they are the first ones of a command
abbrev pub step : Standing → ℕ → List ℕ → Option Standing
step standing.Nothing number word = verb word
step standing.List number word = if is_file_name word then Some standing.Listed else None
step standing.Listed number word = None
step (standing.Run run) number word = option_map standing.Run (run_on run number word)
step standing.Generate number word = option_map standing.GenerateFrom (number_to start_max word)
step (standing.GenerateFrom start) number word = option_map (standing.Generated start) (number_to count_max word)
step (standing.Generated start count) number word = None
step standing.Help number word = None
step standing.Version number word = None

-- what all words are, or the number of the first with which they begin no command
abbrev pub stand_from : Standing → ℕ → List (List ℕ) → Result Standing ℕ
stand_from so_far number [] = Ok so_far
stand_from so_far number (word ∷ words) = elim (step so_far number word) [
  | None ↦ Err number
  | Some more ↦ stand_from more (number + 1) words
]

-- The command ---------------------------------------------------------------------------------------------------

-- what is told otherwise or not: 1,000,000 units for a body, and 1,048,576 bytes above a front
abbrev pub settings_of : Run → Settings
settings_of run = record {
  check = not run.unchecked;
  bare = run.bare;
  budget = option_map_or (λ n. n) run.budget 1_000_000;
  buffer = option_map_or (λ n. n) run.buffer 1_048_576;
}

-- the words from a number on
abbrev pub words_from : List (List ℕ) → Option ℕ → List (List ℕ)
words_from words None = []
words_from words (Some number) = drop number words

abbrev pub run_of : List (List ℕ) → Run → Option ℕ → Option Command
run_of words run None = None
run_of words run (Some number) = elim run.next [
  | next.Word ↦ option_map (λ file. RunScripts (settings_of run) file (words_from words run.scripts)) (slice_get words number)
  | next.Budget ↦ None
  | next.Buffer ↦ None
  | next.File ↦ None
]

-- the command that words are, if they are a whole one
abbrev pub command_of : List (List ℕ) → Standing → Option Command
command_of words standing.Nothing = None
command_of words standing.List = None
command_of words standing.Listed = option_map ListItems (slice_get words 1)
command_of words (standing.Run run) = run_of words run run.file
command_of words standing.Generate = None
command_of words (standing.GenerateFrom start) = None
command_of words (standing.Generated start count) = Some (Generate start count)
command_of words standing.Help = Some Help
command_of words standing.Version = Some Version

abbrev pub command_or : Option Command → ℕ → Result Command ℕ
command_or (Some command) number = Ok command
command_or None number = Err number

abbrev pub judged : List (List ℕ) → Result Standing ℕ → Result Command ℕ
judged words (Err number) = Err number
judged words (Ok all) = command_or (command_of words all) (length words)

-- The command, or the number of the first word that isn't understood: the least n such that words 0 to n begin no
-- command, or the number of words.
abbrev pub understand : List (List ℕ) → Result Command ℕ
understand words = judged words (stand_from standing.Nothing 0 words)

-- no word spells a greater number of conversations
abbrev pub IsUnderstood : Command → Type 0
IsUnderstood (ListItems file) = Unit {0}
IsUnderstood (RunScripts settings file scripts) = Unit {0}
IsUnderstood (Generate start count) = count ≤ count_max
IsUnderstood Help = Unit {0}
IsUnderstood Version = Unit {0}

-- the command that the code has read
abbrev pub command_seen : code.Command → Command
command_seen (variants.List file) = ListItems file.now
command_seen (variants.Run settings file scripts) = RunScripts settings file.now scripts.now
command_seen (variants.Generate start count) = Generate start count
command_seen variants.Help = Help
command_seen variants.Version = Version

-- In the subject's own words ----------------------------------------------------------------------------------------

-- the words are the first ones of some command
abbrev pub begins : List (List ℕ) → Bool
begins words = is_ok (stand_from standing.Nothing 0 words)

-- the words are a whole command
abbrev pub is_whole_at : List (List ℕ) → Result Standing ℕ → Bool
is_whole_at words (Err number) = false
is_whole_at words (Ok all) = is_some (command_of words all)

abbrev pub is_whole : List (List ℕ) → Bool
is_whole words = is_whole_at words (stand_from standing.Nothing 0 words)

-- No word before this place is one with which the words begin no command; the word at this place is.
pub record IsFirstNotUnderstood (words : List (List ℕ)) (place : ℕ) : Type 0 where
  pub within : place < length words
  pub before : (n : ℕ) → n < place → IsTrue (begins (take (n + 1) words))
  pub there : begins (take (place + 1) words) ≡ false
