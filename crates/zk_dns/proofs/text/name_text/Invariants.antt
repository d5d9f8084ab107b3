use Rattle.std.proofs.Common.{◌≡◌, []}
use Rattle.zk_dns.specs.Name.{name_at, whole}
use Rattle.zk_dns.specs.Text.{HasName, text_behind}
use Rattle.zk_dns.proofs.text.name_text.Given as goal

-- the text so far with what is left of the name is the text of all of it
abbrev pub invariant-loop-text : goal.invariant-loop-text
invariant-loop-text l = record {
  rest : HasName l.bytes l.start;
  text : text_behind [] (name_at l.bytes (whole l.bytes) l.place) ≡ text_behind l.text.items (name_at l.bytes (whole l.bytes) l.start);
}

abbrev pub decreases-loop-text : goal.decreases-loop-text
decreases-loop-text l = l.start
