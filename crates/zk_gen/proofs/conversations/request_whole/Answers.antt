-- The opening, the request, the response and the closing stand one behind another.
use Rattle.std.proofs.Common.{◌∷◌, ◌++◌, ap, sym, ◌∙◌}
use Rattle.zk_base.specs.declared.network.Side.TheVariants.{Orig, Resp}
use Rattle.zk_gen.specs.Conversations.{opening, closing, piece, request, response}
use Rattle.zk_gen.proofs.ListLaws.{four_parts}
use Rattle.zk_gen.proofs.ConversationLaws.{records-append}
use Rattle.zk_gen.proofs.conversations.request_whole.Goals as goal

pub returns : goal.returns
returns c =
    four_parts _ _ _ _ _ _ _ _ _ c.in_ok-open.ensures c.in_ok-send_piece.ensures c.in_ok-send_piece-2.ensures c.in_ok-close.ensures
    ∙ ap (λ x. c.args.out.now ++ x) (sym (records-append c.args.talk.now opening (piece 20000 Orig 0 request ∷ piece 30000 Resp 0 response ∷ closing)))
