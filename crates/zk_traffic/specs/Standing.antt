-- What a value of `Traffic` stands for.
use Rattle.std.specs.Prelude.{◌≡◌, ℕ, Bool, true, false, List, [], ◌++◌, length}
use Rattle.zk_base.specs.declared.time.Moment.{Moment}
use Rattle.zk_frag.specs.Ip4Fragments as frags
use Rattle.zk_base.specs.Captured.{Captured}
use Rattle.zk_base.specs.NetworkTime.{now}
use Rattle.zk_traffic.specs.declared.table.Table.{Table}
use Rattle.zk_traffic.specs.declared.traffic.Traffic.{Traffic}
use Rattle.zk_traffic.specs.Datagram.{fragments}
use Rattle.zk_traffic.specs.History.{History, all_items}
use Rattle.zk_traffic.specs.Items.{fresh_at}
use Rattle.zk_traffic.specs.News.{runs_of}
use Rattle.zk_traffic.specs.Segments.{Segment, segments}
use Rattle.zk_traffic.specs.Steps.{Step, so_far}
use Rattle.zk_traffic.specs.Table.{IsCurrent}
use Rattle.zk_traffic.specs.Waiting.{items_in}

-- A value that has failed for want of memory. It stands for nothing.
abbrev pub HasFailed : Traffic → Type 0
HasFailed traffic = traffic.has_failed ≡ true

-- how many items wait to be given
abbrev pub waiting : Traffic → ℕ
waiting traffic = length (items_in traffic.connections.items)

-- the table as it is behind some segments and at a moment; behind the end it has nothing, and nothing more is known of it
abbrev pub IsTable : Table → ℕ → List Segment → Moment → Bool → Type 0
IsTable table limit segments t false = IsCurrent table limit segments t
IsTable table limit segments t true = table.streams.kept ≡ 0

-- The value goes on as one with exactly this history: given these packets, and then the end or not, it has given these items.
pub record StandsFor (traffic : Traffic) (h : History) : Type 0 where
  pub works : traffic.has_failed ≡ false
  pub options_are : traffic.options ≡ h.options
  pub link_is : traffic.link ≡ h.link
  pub time_is : traffic.time ≡ now h.records
  pub frags_are : frags.StandsFor traffic.frags (fragments h.options h.records)
  pub table_is : IsTable traffic.connections.table h.options.buffer (segments h.options h.records) (now h.records) h.ended
  pub items_are : h.given ++ items_in traffic.connections.items ≡ all_items h
  pub none_fresh : h.records ≡ [] → runs_of traffic.connections.news ≡ []
  pub fresh_is : (step : Step Captured) → h.records ≡ so_far step → runs_of traffic.connections.news ≡ fresh_at h.options step
