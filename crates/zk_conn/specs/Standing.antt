-- What a value of `Conns` stands for.
use Rattle.std.specs.Prelude.{pos, ◌≤ℤ◌, ◌^◌, ◌≡◌, true, false, List, length, Option, Some, None, int_le, All}
use Rattle.zk_base.specs.declared.time.Moment.{Moment}
use Rattle.zk_conn.specs.declared.conns.Conns.{Conns}
use Rattle.zk_conn.specs.declared.instance.Instance.{Instance}
use Rattle.zk_conn.specs.declared.key.Key.{Key}
use Rattle.zk_conn.specs.Histories.{latest, begun, number_of, is_live, comes_late, Precedes}
use Rattle.zk_conn.specs.Holds.{Holds, removal_of}
use Rattle.zk_conn.specs.Table.{IsTable, instance_at}
use Rattle.zk_conn.specs.Told.{Told}

-- the instance of the table is the latest one of the key, which is live
pub record IsLatest (told : List Told) (key : Key) (instance : Instance) : Type 0 where
  pub holds : Holds instance (latest key told)
  pub live : is_live (latest key told) ≡ true
  pub number_is : number_of key told ≡ instance.number
  -- its last packet came in the range of moments that are allowed
  pub early : pos 0 ≤ℤ instance.last.0
  pub in_time : instance.last.0 ≤ℤ pos (2 ^ 62)
  -- the index of removals has it at its removal moment or before
  pub filed : int_le instance.filed.0 (removal_of instance).0 ≡ true

-- the latest instance of the key isn't live, and a packet that may still come is too late for it
pub record IsGone (told : List Told) (key : Key) : Type 0 where
  pub gone : is_live (latest key told) ≡ false
  pub late : (t : Moment) → All (Precedes t) told → comes_late (latest key told) t ≡ true

abbrev pub Keeps : List Told → Key → Option Instance → Type 0
Keeps told key None = IsGone told key
Keeps told key (Some instance) = IsLatest told key instance

-- the value goes on as one that was told exactly this: it keeps the live instance of each key
pub record StandsFor (conns : Conns) (told : List Told) : Type 0 where
  pub table : IsTable conns
  pub begun_is : conns.begun ≡ length (begun told)
  pub keeps : (key : Key) → Keeps told key (instance_at conns key)
