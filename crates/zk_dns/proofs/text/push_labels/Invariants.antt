use Rattle.std.proofs.Common.{◌≡◌, ◌-◌, length, IsOk}
use Rattle.zk_dns.specs.Name.{run_at, whole}
use Rattle.zk_dns.specs.Text.{labels_behind}
use Rattle.zk_dns.proofs.text.push_labels.Given as goal

-- the text so far with what is left of the run is the text with all of it
abbrev pub invariant-loop-place : goal.invariant-loop-place
invariant-loop-place l = record {
  rest : IsOk (run_at l.bytes (whole l.bytes) 0 l.place);
  text : labels_behind l.fn.text.items (run_at l.bytes (whole l.bytes) 0 l.start)
      ≡ labels_behind l.text.items (run_at l.bytes (whole l.bytes) 0 l.place);
}

abbrev pub decreases-loop-place : goal.decreases-loop-place
decreases-loop-place l = length l.bytes - l.place
