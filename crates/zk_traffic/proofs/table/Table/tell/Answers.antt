use Rattle.std.proofs.Common.{cond, ◌&&◌, [], ◌∷◌, ◌++◌, sym, ap, subst, ◌∙◌, append_assoc}
use Rattle.zk_conn.specs.Histories.{latest}
use Rattle.zk_conn.specs.Instance.{end_of, originator}
use Rattle.zk_conn.specs.Standing.{StandsFor}
use Rattle.zk_conn.specs.State.{is_open}
use Rattle.zk_conn.specs.Told.{Reached}
use Rattle.zk_traffic.specs.Table.{front_told}
use Rattle.zk_traffic.proofs.ToldLemmas.{end_of-front_told, front_told-quiet, live_more, opening-front_told}
use Rattle.zk_traffic.proofs.table.Table.tell.Goals as goal

pub returns-then-moved-clause-told : goal.returns-then-moved-clause-told
returns-then-moved-clause-told c = λ told key stands live.
    let front = front_told key c.args.side c.args.moved.front in
    let live_now = live_more key c.args.conn.0 told front (front_told-quiet key c.args.side c.args.moved.front) live in
    subst (StandsFor c.tell_end.new.self.conns)
    (append_assoc told front (Reached key c.args.side ∷ []) ∙ ap (λ b. told ++ (front ++ cond b (Reached key c.args.side ∷ []) [])) (sym c.if-moved.true))
    (c.tell_end.ensures.told (told ++ front) key (c.tell_front.ensures.told told key stands live) live_now)

pub returns-then-moved-clause-ended : goal.returns-then-moved-clause-ended
returns-then-moved-clause-ended c = λ told key first stands live begun.
    let front = front_told key c.args.side c.args.moved.front in
    let live_now = live_more key c.args.conn.0 told front (front_told-quiet key c.args.side c.args.moved.front) live in
    c.tell_end.ensures.ended (told ++ front) key first (c.tell_front.ensures.told told key stands live) live_now (opening-front_told c.args.side key c.args.moved.front told first begun)
    ∙ ap is_open (end_of-front_told (originator first.packet) c.args.side key c.args.moved.front told)
    ∙ ap (λ b. b && is_open (end_of (originator first.packet) c.args.side (latest key told))) (sym c.if-moved.true)
