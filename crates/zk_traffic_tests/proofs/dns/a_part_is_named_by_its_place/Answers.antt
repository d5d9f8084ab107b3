use Rattle.std.proofs.Common.{subst}
use Rattle.std.specs.Prelude.{All}
use Rattle.std.proofs.lemmas.List.Elements.{All-head}
use Rattle.zk_dns.specs.declared.parts.QuestionPart.{QuestionPart}
use Rattle.zk_dns.specs.Text.{HasName}
use Rattle.zk_dns.specs.Views.{message_bytes}
use Rattle.zk_traffic_tests.proofs.dns.a_part_is_named_by_its_place.Goals as goal

pub name_out-requires : goal.name_out-requires
name_out-requires g c =
    let named : QuestionPart → Type 0 = λ part. HasName (message_bytes c.in_ok-message.message).now part.name in
    All-head named _ _ (subst (All named) c.in-Some.ensures.steps c.questions-questions.ensures.names)
