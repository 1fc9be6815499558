use Rattle.advice_run.proofs.command.answer_sample_words.Goals as goal

pub returns-in-Some : goal.returns-in-Some
returns-in-Some g c =
    let asked = rw c.in-Some.is at c.in_ok-asked.ensures in
    rw asked c.answer_sample.ensures
