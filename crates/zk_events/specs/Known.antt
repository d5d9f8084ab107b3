-- The objects of connections: each instance has one `connection`, which all of its events are given, with one `id`, one
-- `orig` and one `resp` (Zeek manual, connection).
use Rattle.std.specs.Prelude.{ℕ, ◌==◌, if◌then◌else◌, Option, Some, None}
use Rattle.zk_events.specs.declared.connections.Objects.{Objects}

-- the objects of each instance that has any, by its number
abbrev pub Known : Type 0
Known = ℕ → Option Objects

abbrev pub none_known : Known
none_known number = None

abbrev pub knowing : ℕ → Objects → Known → Known
knowing conn objects known = λ number. if conn == number then Some objects else known number

-- an instance that is removed is forgotten
abbrev pub forgetting : ℕ → Known → Known
forgetting conn known = λ number. if conn == number then None else known number
