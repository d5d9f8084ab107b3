-- The outside as a shelf shows it, and what each call of a shelf does to it.
use Rattle.std.specs.Prelude.{◌≡◌, ℕ, ◌+◌, ◌-◌, ◌^◌, ◌≤◌, min, List, [], ◌∷◌, ◌++◌, length, take, drop, Bool, true, false, Option, Some, None, IfSome, IsSome, IsNone, if◌then◌else◌}
use Rattle.std.specs.Option.{option_map}
use Rattle.std.specs.Str.{bytes_eq}
use Rattle.zk_base.specs.declared.shelf.Fault.{Fault}
use Rattle.zk_base.specs.declared.shelf.Fault.TheVariants as fault
use Rattle.zk_base.specs.declared.shelf.Started.{Started}
use Rattle.zk_base.specs.declared.shelf.Started.TheVariants as started
use Rattle.zk_base.specs.declared.shelf.Got.{Got}
use Rattle.zk_base.specs.declared.shelf.Got.TheVariants as got
use Rattle.zk_base.specs.declared.shelf.Wrote.{Wrote}
use Rattle.zk_base.specs.declared.shelf.Wrote.TheVariants as wrote

-- what lies under each name, and nothing where there is no file of that name
abbrev pub Files : Type 0
Files = List ℕ → Option (List ℕ)

-- the files after one of them has got this content
abbrev pub with_file : Files → List ℕ → List ℕ → Files
with_file files name content = λ other. if bytes_eq name other then Some content else files other

-- the files after one of them is gone
abbrev pub without_file : Files → List ℕ → Files
without_file files name = λ other. if bytes_eq name other then None else files other

-- what lies under a name, where the files are told
abbrev pub lies_under : Option Files → List ℕ → Option (List ℕ)
lies_under None name = None
lies_under (Some files) name = files name

-- the open input: none, one that the shelf doesn't tell, or the input of a name at a place
pub data Reading : Type 0 where
  Closed : Reading
  Untold : Reading
  At : (name : List ℕ) (place : ℕ) → Reading

-- What a shelf shows. What is an option is told or not.
pub record Outside : Type 0 where
  -- inputs and outputs by name
  pub inputs : Option Files
  pub outputs : Option Files
  -- the bytes of standard output and of standard error
  pub said : Option (List ℕ)
  pub complained : Option (List ℕ)
  -- the names that were started, in order
  pub started : Option (List (List ℕ))
  pub reading : Reading
  -- how often an input has failed, an output has failed, and an input was absent
  pub read_faults : ℕ
  pub write_faults : ℕ
  pub absences : ℕ
  -- what the last call failed at, if it did
  pub last : Option Fault

-- the last call didn't fail
abbrev pub without_fault : Outside → Outside
without_fault o = record o { last = None }

-- a count has risen: it is greater, or it stands at its last value
pub record HasRisen (old new : ℕ) : Type 0 where
  pub kept : old ≤ new
  pub risen : min (old + 1) (2 ^ 64 - 1) ≤ new

-- more at the end of a list, where it is told
abbrev pub appended : {X : Type 0} → Option (List X) → List X → Option (List X)
appended before more = option_map (λ told. told ++ more) before

-- Starting an input ---------------------------------------------------------------------------------------

-- one more name in the list, where it is told
abbrev pub named : Option (List (List ℕ)) → List ℕ → Option (List (List ℕ))
named names name = appended names (name ∷ [])

-- the open input after one of this name is opened
abbrev pub opened : Option Files → List ℕ → Reading
opened None name = Untold
opened (Some files) name = At name 0

-- a start that fails is counted and is the last fault, and leaves no input open
pub record FailsToStart (old : Outside) (name : List ℕ) (new : Outside) : Type 0 where
  pub count : ℕ
  pub risen : HasRisen old.read_faults count
  pub after : new ≡ record old { started = named old.started name; reading = Closed; read_faults = count; last = Some fault.Read }

-- an absent name is counted, leaves no input open, and is none of the told inputs
pub record FindsNone (old : Outside) (name : List ℕ) (new : Outside) : Type 0 where
  pub count : ℕ
  pub risen : HasRisen old.absences count
  pub after : new ≡ record old { started = named old.started name; reading = Closed; absences = count; last = None }
  pub lacks : IfSome old.inputs (λ files. IsNone (files name))

-- an input is opened at place 0, and told inputs hold its name
pub record OpensInput (old : Outside) (name : List ℕ) (new : Outside) : Type 0 where
  pub after : new ≡ record old { started = named old.started name; reading = opened old.inputs name; last = None }
  pub holds : IfSome old.inputs (λ files. IsSome (files name))

-- what a start leaves
abbrev pub Starts : Outside → List ℕ → Started → Outside → Type 0
Starts old name started.Open new = OpensInput old name new
Starts old name started.Absent new = FindsNone old name new
Starts old name started.Failed new = FailsToStart old name new
Starts old name started.NoMemory new = new ≡ without_fault old

-- Reading the open input ----------------------------------------------------------------------------------

abbrev pub is_open : Reading → Bool
is_open Closed = false
is_open Untold = true
is_open (At name place) = true

-- the bytes of an input from a place on, where the inputs are told
abbrev pub bytes_from : Option Files → Reading → Option (List ℕ)
bytes_from None reading = None
bytes_from (Some files) Closed = None
bytes_from (Some files) Untold = None
bytes_from (Some files) (At name place) = option_map (drop place) (files name)

-- what the open input has left, where it is told
abbrev pub rest_of : Outside → Option (List ℕ)
rest_of o = bytes_from o.inputs o.reading

-- n bytes further
abbrev pub advanced : Reading → ℕ → Reading
advanced Closed n = Closed
advanced Untold n = Untold
advanced (At name place) n = At name (place + n)

-- a read gives the next n bytes, at the front of the buffer
pub record GivesBytes (old : Outside) (before : List ℕ) (n : ℕ) (after : List ℕ) (new : Outside) : Type 0 where
  pub some : 1 ≤ n
  pub within : n ≤ length before
  pub bytes : IfSome (rest_of old) (λ rest. (n ≤ length rest) × (after ≡ take n rest ++ drop n before))
  pub goes_on : new ≡ record old { reading = advanced old.reading n; last = None }

-- the end of an input comes only where a told input is read out
pub record IsReadOut (old : Outside) (new : Outside) : Type 0 where
  pub out : IfSome (rest_of old) (λ rest. rest ≡ [])
  pub same : new ≡ without_fault old

-- a read that fails is counted, and is the last fault
pub record FailsToRead (old : Outside) (new : Outside) : Type 0 where
  pub count : ℕ
  pub risen : HasRisen old.read_faults count
  pub after : new ≡ record old { read_faults = count; last = Some fault.Read }

-- what a read into a buffer leaves
abbrev pub Reads : Outside → List ℕ → Got → List ℕ → Outside → Type 0
Reads old before (got.Bytes n) after new = GivesBytes old before n after new
Reads old before got.End after new = IsReadOut old new
Reads old before got.Failed after new = FailsToRead old new

-- Making and writing outputs ------------------------------------------------------------------------------

-- an output is made, or emptied
abbrev pub created : Outside → List ℕ → Outside
created o name = record o { outputs = option_map (λ files. with_file files name []) o.outputs; last = None }

-- an output that couldn't be made is counted and is the last fault, and the output is absent or empty
pub record FailsToCreate (old : Outside) (name : List ℕ) (new : Outside) : Type 0 where
  pub there : Bool
  pub count : ℕ
  pub risen : HasRisen old.write_faults count
  pub after : new ≡ record old {
    outputs = option_map (λ files. if there then with_file files name [] else without_file files name) old.outputs;
    write_faults = count;
    last = Some fault.Write;
  }

-- what the making of an output leaves
abbrev pub Creates : Outside → List ℕ → Wrote → Outside → Type 0
Creates old name wrote.Done new = new ≡ created old name
Creates old name wrote.Failed new = FailsToCreate old name new
Creates old name wrote.NoMemory new = new ≡ without_fault old

-- where outputs are told, there is one of this name
abbrev pub IsCreated : Outside → List ℕ → Type 0
IsCreated o name = IfSome o.outputs (λ files. IsSome (files name))

-- the files after a piece is put at the end of one of them
abbrev pub with_piece : Files → List ℕ → List ℕ → Files
with_piece files name piece = λ other. if bytes_eq name other then appended (files other) piece else files other

-- the outside after a piece is added to an output, said, or complained
abbrev pub after_append : Outside → List ℕ → List ℕ → Outside
after_append o name piece = record o { outputs = option_map (λ files. with_piece files name piece) o.outputs; last = None }

abbrev pub after_say : Outside → List ℕ → Outside
after_say o piece = record o { said = appended o.said piece; last = None }

abbrev pub after_complaint : Outside → List ℕ → Outside
after_complaint o piece = record o { complained = appended o.complained piece; last = None }

-- a write that fails is counted and is the last fault, and has put a prefix of its piece
pub record PutsPrefix (after : List ℕ → Outside) (old : Outside) (piece : List ℕ) (new : Outside) : Type 0 where
  pub length : ℕ
  pub count : ℕ
  pub risen : HasRisen old.write_faults count
  pub left : new ≡ record (after (take length piece)) { write_faults = count; last = Some fault.Write }

-- what a write of a piece leaves, where after says how the outside is after a piece
abbrev pub Puts : (List ℕ → Outside) → Outside → List ℕ → Wrote → Outside → Type 0
Puts after old piece wrote.Done new = new ≡ after piece
Puts after old piece wrote.Failed new = PutsPrefix after old piece new
Puts after old piece wrote.NoMemory new = new ≡ without_fault old
