-- What the iterators of a message have left.
use Rattle.std.specs.Prelude.{List, map}
use Rattle.zk_dns.specs.declared.parts.QuestionPart.{QuestionPart}
use Rattle.zk_dns.specs.declared.parts.AnswerPart.{AnswerPart}
use Rattle.zk_dns.specs.declared.iterators.Questions.{Questions}
use Rattle.zk_dns.specs.declared.iterators.Answers.{Answers}
use Rattle.zk_dns.specs.Sections.{question_at, resource_at, several}
use Rattle.zk_dns.specs.Parts.{answer_part, parts_of, question_part}

abbrev pub questions_left : Questions → List QuestionPart
questions_left questions = map question_part (parts_of (several (question_at questions.bytes.now) questions.left questions.place))

abbrev pub answers_left : Answers → List AnswerPart
answers_left answers = map (answer_part answers.bytes) (parts_of (several (resource_at answers.bytes.now) answers.left answers.place))
