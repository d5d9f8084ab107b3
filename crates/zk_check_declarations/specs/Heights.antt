-- How deep types nest, by the heights of the record types.
use Rattle.std.specs.Prelude.{◌≡◌, ℕ, ◌+◌, ◌≤◌, nat_lt, Bool, true, not, List, Ok, Err, slice_get, filter, unwrap_or, if◌then◌else◌}
use Rattle.zk_tree.specs.declared.types.Field.{Field, out-Field}
use Rattle.zk_typed.specs.Checked.{Checked}
use Rattle.zk_typed.specs.Declarations.{adds_well, is_too_deep}
use Rattle.zk_typed.specs.LoadOrder.{Home}
use Rattle.zk_typed.specs.Resolving.{Scripts, deeper, type_of}
use Rattle.zk_typed.specs.Types.{ValueType, Simple, Record, Table, Set, Vector}
use Rattle.zk_check_declarations.specs.declared.heights.Heights.{Heights}
use Rattle.zk_check_declarations.specs.declared.heights.Depths.{Depths}
use Rattle.zk_check_declarations.specs.declared.heights.Limit.{Limit}
use Rattle.zk_check_declarations.specs.declared.heights.Limit.TheVariants as limit

-- the height of what has a part; heights stop at 201
abbrev pub raised : ℕ → ℕ
raised height = if nat_lt height 201 then height + 1 else 201

-- the height of a record type
abbrev pub height_at : List ℕ → ℕ → ℕ
height_at heights number = unwrap_or (slice_get heights number) 1

-- the height of a type; a record type without fields has the height 1
abbrev pub height_in : List ℕ → ValueType → ℕ
height_in heights (Simple one) = 1
height_in heights (Set keys) = 1
height_in heights (Table keys value) = raised (height_in heights value)
height_in heights (Vector item) = raised (height_in heights item)
height_in heights (Record number) = height_at heights number.0

-- what has a part of a type is higher than this
abbrev pub is_raised : List ℕ → ℕ → ValueType → Bool
is_raised heights most part = nat_lt most (raised (height_in heights part))

-- a type doesn't nest too deep for a field that is added
abbrev pub type_fits : Scripts → Checked ValueType → Bool
type_fits scripts (Ok one) = not (deeper 199 scripts one)
type_fits scripts (Err rules) = true

abbrev pub field_fits : Scripts → Home → Field → Bool
field_fits scripts home field = type_fits scripts (type_of scripts home (out-Field field).field_type)

-- a type nests deeper than so many exactly where it is higher
pub record Measures (heights : Heights) (scripts : Scripts) : Type 0 where
  pub deep : (most : ℕ) → most ≤ 200 → (one : ValueType) → deeper most scripts one ≡ nat_lt most (height_in heights.heights.items one)

-- with all fields, and without those that are too deep where they are added
pub record IsDepths (depths : Depths) (scripts : Scripts) : Type 0 where
  pub all : Measures depths.all scripts
  pub fitting : Measures depths.fitting (record scripts { stated = filter (adds_well scripts) scripts.stated })

-- whether a type nests too deep where it is written, and where a field of it is added to a record type
abbrev pub too_deep : Limit → Scripts → ValueType → Bool
too_deep limit.Written scripts = is_too_deep scripts
too_deep limit.Added scripts = deeper 199 scripts
