-- Which words are which command: the command line in the subject's own words.
use Rattle.std.specs.Prelude.{◌≡◌, ◌≢◌, ℕ, ◌≤◌, true, false, IsTrue, List, [], ◌∷◌, ◌++◌, fold, flat_map, All, AllPairs, codes, decimal, Option, Some, None}
use Rattle.zk_command.specs.declared.command.Settings.{Settings}
use Rattle.zk_command.specs.Command.{Command, ListItems, RunScripts, Generate, Help, Version, is_file_name, budget_max, buffer_max, start_max, count_max}

-- an option of a run
pub data RunOption : Type 0 where
  -- checksums are not judged
  Unchecked : RunOption
  -- the default scripts are left out
  Bare : RunOption
  -- so many units for a body
  Budget : (units : ℕ) → RunOption
  -- so many bytes that a stream may hold above its front
  Buffer : (bytes : ℕ) → RunOption
  -- the file of the capture
  Capture : (file : List ℕ) → RunOption

-- how an option is written, and its value behind it
abbrev pub option_name : RunOption → List ℕ
option_name Unchecked = codes "-C"
option_name Bare = codes "-b"
option_name (Budget units) = codes "--budget"
option_name (Buffer bytes) = codes "--buffer"
option_name (Capture file) = codes "-r"

abbrev pub option_value : RunOption → List (List ℕ)
option_value Unchecked = []
option_value Bare = []
option_value (Budget units) = decimal units ∷ []
option_value (Buffer bytes) = decimal bytes ∷ []
option_value (Capture file) = file ∷ []

abbrev pub option_words : RunOption → List (List ℕ)
option_words option = option_name option ∷ option_value option

-- which values an option may have
abbrev pub IsOption : RunOption → Type 0
IsOption Unchecked = Unit {0}
IsOption Bare = Unit {0}
IsOption (Budget units) = (1 ≤ units) × (units ≤ budget_max)
IsOption (Buffer bytes) = (1 ≤ bytes) × (bytes ≤ buffer_max)
IsOption (Capture file) = IsTrue (is_file_name file)

-- how scripts are run, and over which capture
pub record Told : Type 0 where
  pub settings : Settings
  pub capture : Option (List ℕ)

-- without options
abbrev pub untold : Told
untold = record { settings = record { check = true; bare = false; budget = 1_000_000; buffer = 1_048_576 }; capture = None }

-- with one more option
abbrev pub tell : Told → RunOption → Told
tell told Unchecked = record told { settings = record told.settings { check = false } }
tell told Bare = record told { settings = record told.settings { bare = true } }
tell told (Budget units) = record told { settings = record told.settings { budget = units } }
tell told (Buffer bytes) = record told { settings = record told.settings { buffer = bytes } }
tell told (Capture file) = record told { capture = Some file }

-- The words are a run of these scripts over the capture in this file: options in any order, each once at most, of which
-- one names the file, and then the scripts in order.
pub record SpellsRun (settings : Settings) (file : List ℕ) (scripts words : List (List ℕ)) : Type 0 where
  pub options : List RunOption
  pub are : words ≡ codes "run" ∷ flat_map option_words options ++ scripts
  pub valid : All IsOption options
  pub once : AllPairs (λ one other. option_name one ≢ option_name other) options
  pub told : fold tell untold options ≡ record { settings = settings; capture = Some file }
  pub names : All (λ script. IsTrue (is_file_name script)) scripts

-- the words are this command
abbrev pub Spells : Command → List (List ℕ) → Type 0
Spells (ListItems file) words = IsTrue (is_file_name file) × (words ≡ codes "list" ∷ file ∷ [])
Spells (RunScripts settings file scripts) words = SpellsRun settings file scripts words
Spells (Generate start count) words = (start ≤ start_max) × (count ≤ count_max) × (words ≡ codes "gen" ∷ decimal start ∷ decimal count ∷ [])
Spells Help words = words ≡ codes "--help" ∷ []
Spells Version words = words ≡ codes "--version" ∷ []
