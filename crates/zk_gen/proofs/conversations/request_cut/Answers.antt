-- The opening, the bytes of both messages and the closing stand one behind another.
use Rattle.std.proofs.Common.{◌++◌, ap, sym, ◌∙◌}
use Rattle.zk_base.specs.declared.network.Side.TheVariants.{Orig, Resp}
use Rattle.zk_gen.specs.Conversations.{records, opening, closing, one_by_one, request, response}
use Rattle.zk_gen.proofs.ListLaws.{four_parts}
use Rattle.zk_gen.proofs.ConversationLaws.{records-append}
use Rattle.zk_gen.proofs.conversations.request_cut.Goals as goal

pub returns : goal.returns
returns c =
    let bytes = one_by_one Orig 15000 request 31 in
    let answers = one_by_one Resp 25000 response 39 in
    let talk = c.args.talk.now in
    four_parts _ _ _ _ _ _ _ _ _ c.in_ok-open.ensures c.in_ok-send_one_by_one.ensures c.in_ok-send_one_by_one-2.ensures c.in_ok-close.ensures
    ∙ ap (λ x. c.args.out.now ++ x) (
    ap (λ x. records talk opening ++ (records talk bytes ++ x)) (sym (records-append talk answers closing))
    ∙ ap (λ x. records talk opening ++ x) (sym (records-append talk bytes (answers ++ closing)))
    ∙ sym (records-append talk opening (bytes ++ (answers ++ closing))))
