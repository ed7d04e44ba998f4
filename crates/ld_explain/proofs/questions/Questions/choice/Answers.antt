use Rattle.ld_explain.proofs.Seeing.{case-nested}
use Rattle.ld_explain.proofs.questions.Questions.choice.Goals as goal

pub returns-in_ok-choice_for-in-Some-clause-some : goal.returns-in_ok-choice_for-in-Some-clause-some
returns-in_ok-choice_for-in-Some-clause-some c = case-nested c.args.facts c.args.self.now.levels.type_of c.args.self.now.keys c.args.finding.now c.in-Some.case
    c.in_ok-choice_for-in-Some.field-0 c.in-Some.ensures.some c.in_ok-choice_for-in-Some.ensures
