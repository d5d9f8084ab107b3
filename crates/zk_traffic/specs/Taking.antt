-- How a value takes a packet.
use Rattle.std.specs.Prelude.{◌≡◌, ℕ, List, [], ◌∷◌, ◌++◌, Option, Some, None}
use Rattle.std.specs.Option.{option_map_or}
use Rattle.zk_base.specs.declared.time.Moment.{Moment}
use Rattle.zk_frag.specs.Ip4Fragments as frags
use Rattle.zk_base.specs.Captured.{Captured}
use Rattle.zk_traffic.specs.declared.connections.Connections.{Connections}
use Rattle.zk_traffic.specs.declared.options.Options.{Options}
use Rattle.zk_traffic.specs.declared.traffic.Traffic.{Traffic}
use Rattle.zk_traffic.specs.Datagram.{fragments, time_at}
use Rattle.zk_traffic.specs.Items.{fresh_at, segment_fresh, segment_items}
use Rattle.zk_traffic.specs.News.{runs_of}
use Rattle.zk_traffic.specs.Segments.{Segment, segment_at, segments}
use Rattle.zk_traffic.specs.Steps.{Step, so_far}
use Rattle.zk_traffic.specs.Table.{IsCurrent}
use Rattle.zk_traffic.specs.Waiting.{items_in}

abbrev pub list_of : {A : Type 0} → Option A → List A
list_of None = []
list_of (Some a) = a ∷ []

-- the connections have one more segment, where there is one
pub record TakesSome (limit : ℕ) (before : List Segment) (o : Option Segment) (t : Moment) (old new : Connections) : Type 0 where
  pub current : IsCurrent new.table limit (before ++ list_of o) t
  pub items_are : items_in new.items ≡ items_in old.items ++ option_map_or (segment_items limit before) o []
  pub runs_are : runs_of new.news ≡ option_map_or (segment_fresh limit before) o []

-- a packet comes: what is due by its network time was removed, and nothing else was done yet
pub record IsReady (traffic : Traffic) (options : Options) (step : Step Captured) : Type 0 where
  pub options_are : traffic.options ≡ options
  pub link_is : traffic.link ≡ step.last.link
  pub time_is : traffic.time ≡ time_at step
  pub frags_are : frags.StandsFor traffic.frags (fragments options step.before)
  pub current : IsCurrent traffic.connections.table options.buffer (segments options step.before) (time_at step)
  pub no_runs : runs_of traffic.connections.news ≡ []
  pub no_gaps : traffic.connections.news.gaps.items ≡ []
  pub no_units : traffic.connections.news.«units».items ≡ []

-- a packet was taken, but for the items ahead of its segment's
pub record HasTaken (old new : Traffic) (options : Options) (step : Step Captured) : Type 0 where
  pub options_are : new.options ≡ options
  pub link_is : new.link ≡ step.last.link
  pub time_is : new.time ≡ time_at step
  pub frags_are : frags.StandsFor new.frags (fragments options (so_far step))
  pub current : IsCurrent new.connections.table options.buffer (segments options (so_far step)) (time_at step)
  pub items_are : items_in new.connections.items
      ≡ items_in old.connections.items ++ option_map_or (segment_items options.buffer (segments options step.before)) (segment_at options step) []
  pub runs_are : runs_of new.connections.news ≡ fresh_at options step
