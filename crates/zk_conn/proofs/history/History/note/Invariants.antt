use Rattle.std.proofs.Common.{◌≡◌, fold, map, filter, take}
use Rattle.zk_conn.specs.History.{all_letters, letter_code, shows, added}
use Rattle.zk_conn.proofs.history.History.note.Given as goal

abbrev pub invariant-loop-letter : goal.invariant-loop-letter
invariant-loop-letter l =
    l.self ≡ fold added l.initial.self (map (letter_code l.side) (filter (shows l.p) (take l.letter-index all_letters)))
