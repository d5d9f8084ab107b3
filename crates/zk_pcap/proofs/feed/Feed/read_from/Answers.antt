use Rattle.std.proofs.Common.{◌≡◌, ◌++◌, List, ℕ, refl}
use Rattle.std.proofs.lemmas.Result.{IfOk-weaker}
use Rattle.zk_base.specs.Fetching.{Fetches}
use Rattle.zk_base.specs.Held.{bytes_of}
use Rattle.zk_pcap.specs.declared.feed.Feed.{Feed}
use Rattle.zk_pcap.specs.Standing.{GoesOn}
use Rattle.zk_base.proofs.HeldLemmas.{fetches_also}
use Rattle.zk_pcap.proofs.StandingLemmas.{goes_on}
use Rattle.zk_pcap.proofs.feed.Feed.read_from.Goals as goal

pub returns-clause-read : goal.returns-clause-read
returns-clause-read g c =
    let before = g.S.Shelf.outside c.args.shelf.now in
    let after = g.S.Shelf.outside c.read_from.new.shelf in
    let old = c.args.self.now in
    let new : Feed = record { big = old.big; nano = old.nano; place = old.place; held = c.read_from.new.self } in
    let holds = λ (piece : List ℕ). bytes_of new.held ≡ bytes_of old.held ++ piece in
    IfOk-weaker c.read_from.result (λ given. Fetches before c.args.most given after holds) (λ given. Fetches before c.args.most given after (GoesOn old new))
    (λ given. fetches_also before after c.args.most given holds (GoesOn old new) (λ piece held. goes_on old new piece refl refl refl held)) c.read_from.ensures.read
