-- What is read behind a unit.
use Rattle.std.specs.Prelude.{◌≡◌, ℕ, List}
use Rattle.zk_http.specs.declared.body.Body.{Body}
use Rattle.zk_http.specs.declared.body.Body.TheVariants.{Empty, Length, Chunked, ToEnd, Tunnels, Unknown}
use Rattle.zk_http.specs.declared.search.Ending.TheVariants as ending
use Rattle.zk_http.specs.declared.search.Search.{Search}
use Rattle.zk_http.specs.declared.state.Part.{Part}
use Rattle.zk_http.specs.declared.state.Part.TheVariants as part
use Rattle.zk_http.specs.declared.state.State.{State}
use Rattle.zk_http.specs.declared.state.State.TheVariants as state
use Rattle.zk_http.specs.declared.units.UnitKind.{UnitKind}
use Rattle.zk_http.specs.declared.units.UnitKind.TheVariants.{Head, Done, Tunnel, Violation}
use Rattle.zk_http.specs.Search.{Knows}

-- what is read behind a unit; of a head, whose lines have so many bytes, an empty body
abbrev pub state_behind : ℕ → UnitKind → State
state_behind header (Head head) = state.Body (record { part = part.Places 0; header = header; body = 0; gap = 0 })
state_behind header (Done body head gap) = state.Between
state_behind header Tunnel = state.Over
state_behind header (Violation reason) = state.Over

-- what is read behind a head with this body
abbrev pub IsStart : Body → Part → Type 0
IsStart Empty start = start ≡ part.Places 0
IsStart (Length places) start = start ≡ part.Places places
IsStart Chunked start = (search : Search) × (start ≡ part.Size search) × (search.seen ≡ 0) × ((bytes : List ℕ) → Knows search ending.Line bytes)
IsStart ToEnd start = start ≡ part.ToEnd
IsStart Tunnels start = start ≡ part.Tunnel
IsStart (Unknown why) start = start ≡ part.Unknown why
