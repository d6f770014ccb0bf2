use Rattle.answers.proofs.Replies.{answers_are_counted, answer_returns, answers_return, answer_words_return}
use Rattle.answers.proofs.laws.answers_stand.Goals as goal

pub returns : goal.returns
returns c = record {
  counted = answers_are_counted;
  answer = answer_returns;
  answers = answers_return;
  words = answer_words_return;
}
