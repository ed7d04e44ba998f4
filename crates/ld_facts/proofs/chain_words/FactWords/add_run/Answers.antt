use Rattle.ld_facts.proofs.Names.{arith}
use Rattle.ld_facts.proofs.WordTables.{TakesRun-one, TakesRun-two}
use Rattle.ld_facts.proofs.chain_words.FactWords.add_run.Goals as goal

pub returns-then-shift : goal.returns-then-shift
returns-then-shift c =
    TakesRun-two c.args.self.now c.add_bits.new.self c.add_bits-then-shift.new.self c.args.first c.args.run c.requires.short c.if-shift.true
    c.add_bits-then-shift.ensures.words c.add_bits.ensures.few c.add_bits-then-shift.ensures.few c.add_bits.ensures.bits c.add_bits-then-shift.ensures.bits

pub returns-else-shift : goal.returns-else-shift
returns-else-shift c =
    TakesRun-one c.args.self.now c.add_bits.new.self c.args.first c.args.run c.requires.short (omega arith) c.add_bits.ensures.words c.add_bits.ensures.few
    c.add_bits.ensures.bits
