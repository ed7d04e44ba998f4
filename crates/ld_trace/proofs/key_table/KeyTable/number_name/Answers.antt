use Rattle.ld_trace.proofs.Names.{arith, length-map, name_of, names_of}
use Rattle.ld_trace.proofs.KnownLines.{lines-with_name}
use Rattle.ld_trace.proofs.NameLemmas.{named-with_name}
use Rattle.ld_trace.proofs.key_table.KeyTable.number_name.Goals as goal

pub invariant_of-self-2 : goal.invariant_of-self-2
invariant_of-self-2 c =
    let h = c.in_ok-place.ensures in (
      record {
        most = c.self.invariant.0.most;
        few = rw length-map (omega (arith, h.few));
        named = rw h.names (named-with_name (names_of c.self.inside.names) (name_of c.new.result) c.self.invariant.0.named (rw (c.new.ensures.text, c.new.ensures.sub) c.requires));
        once = h.unique;
      },
      rw h.names (lines-with_name (names_of c.self.inside.names) (name_of c.new.result) c.self.inside.lines.known.items c.self.invariant.1),
    )
