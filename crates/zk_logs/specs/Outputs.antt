-- What outputs are once some files are written, or while they are.
use Rattle.std.specs.Prelude.{◌≡◌, ◌⊎◌, ℕ, List, ◌++◌, Option, Some, None}
use Rattle.zk_base.specs.Shelf.{Files}

-- the content of a file over what lies below it
abbrev pub over : Option (List ℕ) → Option (List ℕ) → Option (List ℕ)
over None below = below
over (Some content) below = Some content

-- files under their names, and elsewhere what was there before
abbrev pub files_over : Files → Files → Files
files_over written before = λ name. over (written name) (before name)

-- a file is absent, or a prefix of what is to be written
abbrev pub IsBegun : List ℕ → Option (List ℕ) → Type 0
IsBegun content None = Unit {0}
IsBegun content (Some part) = (rest : List ℕ) × (content ≡ part ++ rest)

-- each file is as before, or it is to be written and is begun
abbrev pub AreBegun : Files → Files → Files → Type 0
AreBegun written before after =
    (name : List ℕ) → (after name ≡ before name) ⊎ ((content : List ℕ) × (written name ≡ Some content) × IsBegun content (after name))

-- where outputs are told, they are begun
abbrev pub OutputsBegun : Files → Option Files → Option Files → Type 0
OutputsBegun written None after = after ≡ None
OutputsBegun written (Some before) after = (files : Files) × (after ≡ Some files) × AreBegun written before files
