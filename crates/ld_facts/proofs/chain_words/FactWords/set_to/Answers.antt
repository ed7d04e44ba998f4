use Rattle.ld_facts.proofs.Gathering.{AreWordsOf-gathered}
use Rattle.ld_facts.proofs.chain_words.FactWords.set_to.Goals as goal

pub returns-in-Some : goal.returns-in-Some
returns-in-Some c = AreWordsOf-gathered c.args.keys c.args.chain.now c.add_marks_of_new.new.self c.requires.below c.add_marks_of_new.ensures

pub returns-in-None : goal.returns-in-None
returns-in-None c = AreWordsOf-gathered c.args.keys c.args.chain.now c.add_marks_of_held.new.self c.requires.below c.add_marks_of_held.ensures
