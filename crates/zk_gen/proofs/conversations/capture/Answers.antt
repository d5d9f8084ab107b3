-- A conversation that was added is the first of those that were to come.
use Rattle.std.proofs.Common.{◌≡◌, ◌+◌, ◌-◌, ◌%◌, ◌<◌, ◌++◌, arith, ap, sym, ◌∙◌, append_assoc, append-nil}
use Rattle.zk_gen.specs.Capture.{conversations, conversation_of}
use Rattle.zk_gen.proofs.ConversationLaws.{conversations-none, conversations-next}
use Rattle.zk_gen.proofs.conversations.capture.Goals as goal

pub loop-k-preserved : goal.loop-k-preserved
loop-k-preserved c =
    let some : 0 < c.args.count - c.loop-k.k = omega arith in
    let fewer : c.args.count - (c.loop-k.k + 1) ≡ c.args.count - c.loop-k.k - 1 = omega arith in
    let this = conversation_of ((c.args.start + c.loop-k.k) % 3) c.loop-k.k in
    let others = conversations c.args.start (c.loop-k.k + 1) (c.args.count - c.loop-k.k - 1) in
    let same : (c.from.result + c.from-in-loop-k.result) % 3 ≡ (c.args.start + c.loop-k.k) % 3 = cc in
    ap (λ n. c.append_conversation.new.out ++ conversations c.args.start (c.loop-k.k + 1) n) fewer
    ∙ ap (λ x. x ++ others) (c.in_ok-append_conversation.ensures ∙ ap (λ kind. c.loop-k.out ++ conversation_of kind c.loop-k.k) same) ∙ append_assoc c.loop-k.out this others
    ∙ ap (λ x. c.loop-k.out ++ x) (sym (conversations-next c.args.start c.loop-k.k (c.args.count - c.loop-k.k) some)) ∙ c.loop-k.invariant

pub returns : goal.returns
returns c =
    let none : c.args.count - c.loop-k.k ≡ 0 = omega arith in
    sym (append-nil c.loop-k.out) ∙ ap (λ x. c.loop-k.out ++ x) (sym (conversations-none c.args.start c.loop-k.k))
    ∙ ap (λ n. c.loop-k.out ++ conversations c.args.start c.loop-k.k n) (sym none) ∙ c.loop-k.invariant
