-- What the news of a packet have.
use Rattle.std.specs.Prelude.{ℕ, List, map, slice_range}
use Rattle.zk_traffic.specs.declared.news.News.{News}
use Rattle.zk_traffic.specs.declared.news.Run.{Run}
use Rattle.zk_traffic.specs.Fresh.{FreshRun}

abbrev pub run_in : List ℕ → Run → FreshRun
run_in bytes run = record { conn = run.conn; side = run.side; from = run.from; bytes = slice_range bytes run.start run.end }

-- the runs of bytes
unfoldable pub runs_of : News → List FreshRun
runs_of news = map (run_in news.bytes.items) news.runs.items
