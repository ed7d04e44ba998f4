use Rattle.ld_text.proofs.wording.Wording.add_head.Goals as goal

pub returns-in-Inversion : goal.returns-in-Inversion
returns-in-Inversion c =
    rw c.in-Inversion.is (rw (c.word-state-in-Inversion.ensures, c.key-a.ensures, c.key-b.ensures) at c.writeln-in-Inversion.ensures.bytes)
