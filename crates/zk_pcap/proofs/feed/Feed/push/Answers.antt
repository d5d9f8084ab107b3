use Rattle.std.proofs.Common.{◌≡◌, ◌++◌, refl}
use Rattle.std.proofs.lemmas.Result.{IfOk-weaker}
use Rattle.zk_base.specs.Held.{bytes_of}
use Rattle.zk_pcap.specs.declared.feed.Feed.{Feed}
use Rattle.zk_pcap.specs.Standing.{GoesOn}
use Rattle.zk_pcap.proofs.StandingLemmas.{goes_on}
use Rattle.zk_pcap.proofs.feed.Feed.push.Goals as goal

pub returns-clause-ok : goal.returns-clause-ok
returns-clause-ok c =
    let old = c.args.self.now in
    let new : Feed = record { big = old.big; nano = old.nano; place = old.place; held = c.append.new.self } in
    let piece = c.args.piece.now in
    IfOk-weaker c.append.result (λ _. bytes_of new.held ≡ bytes_of old.held ++ piece) (λ _. GoesOn old new piece)
    (λ _ held. goes_on old new piece refl refl refl held) c.append.ensures.ok
