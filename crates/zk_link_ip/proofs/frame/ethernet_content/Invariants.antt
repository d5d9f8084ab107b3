use Rattle.std.proofs.Common.{◌≡◌, ◌<◌, true}
use Rattle.zk_link_ip.specs.Frame.{is_tag, type_at}
use Rattle.zk_link_ip.proofs.frame.ethernet_content.Given as goal

-- the places passed hold tags
abbrev pub invariant-loop-place : goal.invariant-loop-place
invariant-loop-place l =
    (0 < l.place-index → is_tag (type_at l.frame 12) ≡ true)
    × (1 < l.place-index → is_tag (type_at l.frame 16) ≡ true)
    × (2 < l.place-index → is_tag (type_at l.frame 20) ≡ true)
