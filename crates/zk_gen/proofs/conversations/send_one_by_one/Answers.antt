-- A byte that is sent twice is the next of those that are to come.
use Rattle.std.proofs.Common.{◌≡◌, ◌-◌, ◌<◌, ◌++◌, arith, ap, sym, ◌∙◌}
use Rattle.zk_gen.specs.Conversations.{records, one_by_one}
use Rattle.zk_gen.proofs.ListLaws.{twice}
use Rattle.zk_gen.proofs.ConversationLaws.{one_by_one-first, one_by_one-next}
use Rattle.zk_gen.proofs.conversations.send_one_by_one.Goals as goal

pub bytes-preserved : goal.bytes-preserved
bytes-preserved c =
    let above : 0 < c.bytes.place = omega arith in
    let next = one_by_one-next c.args.talk.now c.args.side c.args.early c.args.message.now c.bytes.place above in (
      omega arith,
      twice _ _ (records c.args.talk.now (one_by_one c.args.side c.args.early c.args.message.now (c.bytes.place - 1))) _ _ c.in_ok-send_piece.ensures c.in_ok-send_piece-2.ensures
          ∙ ap (λ x. c.bytes.out ++ x) (sym next) ∙ c.bytes.invariant.1,
    )

pub returns : goal.returns
returns c =
    let none : c.bytes.place ≡ 0 = omega arith in
    let first = one_by_one-first c.args.talk.now c.args.side c.args.early c.args.message.now in
    c.in_ok-send_piece-3.ensures ∙ ap (λ x. c.bytes.out ++ x) (sym first)
    ∙ ap (λ n. c.bytes.out ++ records c.args.talk.now (one_by_one c.args.side c.args.early c.args.message.now n)) (sym none) ∙ c.bytes.invariant.1
