-- What is done to the objects of scripts, each found by its number.
use Rattle.std.specs.Prelude.{◌≡◌, ℕ, zero, suc, List, [], ◌∷◌, length}
use Rattle.zk_tree.specs.Store as object
use Rattle.zk_tree.specs.Store.{Object, Store}
use Rattle.zk_tree.specs.Table.{Table}
use Rattle.zk_value.specs.Objects.{Objects, tables_in, with_tables}

-- the objects with the one of a number changed, where it is there
abbrev pub changed : (Object → Object) → ℕ → Store → Store
changed change number [] = []
changed change zero (one ∷ store) = change one ∷ store
changed change (suc number) (one ∷ store) = one ∷ changed change number store

-- a change of tables leaves records and vectors as they are
abbrev pub in_table : (Table → Table) → Object → Object
in_table change (object.Table table) = object.Table (change table)
in_table change other = other

-- No set or table has the number, so that a change of tables changes nothing.
abbrev pub HasNoTable : Objects → ℕ → Type 0
HasNoTable objects number = (tables : List Table) (change : Table → Table) → tables_in objects ≡ length tables
    → changed (in_table change) number (with_tables objects tables) ≡ with_tables objects tables
