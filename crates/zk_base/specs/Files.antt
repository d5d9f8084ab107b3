-- Files in a list, found by name.
use Rattle.std.specs.Prelude.{◌≡◌, ℕ, ◌<◌, ◌≤◌, List, [], ◌∷◌, length, Option, Some, None, slice_get, if◌then◌else◌}
use Rattle.std.specs.Option.{ForSome}
use Rattle.std.specs.List.{position_from}
use Rattle.std.specs.Str.{bytes_eq}
use Rattle.zk_base.specs.declared.contents.Position.{Position}
use Rattle.zk_base.specs.Shelf.{Files, Reading, Closed, At}

-- the first file of each name
abbrev pub files_of : List (List ℕ × List ℕ) → Files
files_of [] name = None
files_of (file ∷ files) name = if bytes_eq file.0 name then Some file.1 else files_of files name

-- the number of the first file of a name
abbrev pub number_of : List (List ℕ × List ℕ) → List ℕ → Option ℕ
number_of files name = position_from (λ file. bytes_eq file.0 name) 0 files

-- the open input
abbrev pub reading_at : Option (List ℕ × List ℕ) → ℕ → Reading
reading_at None place = Closed
reading_at (Some file) place = At file.0 place

abbrev pub reading_of : List (List ℕ × List ℕ) → Option Position → Reading
reading_of files None = Closed
reading_of files (Some position) = reading_at (slice_get files position.file) position.place

-- the file at a position is the one that its name finds, and the place is within it
abbrev pub IsAt : List (List ℕ × List ℕ) → Position → Type 0
IsAt files position = (position.file < length files) × ForSome (slice_get files position.file) (λ file.
    (files_of files file.0 ≡ Some file.1) × (position.place ≤ length file.1))
