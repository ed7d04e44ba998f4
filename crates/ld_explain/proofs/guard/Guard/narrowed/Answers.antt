use Rattle.ld_explain.proofs.Names.{◌↔◌, Contains, subst, sym}
use Rattle.ld_explain.proofs.Lists.{filter-common}
use Rattle.ld_explain.proofs.guard.Guard.narrowed.Goals as goal

pub returns : goal.returns
returns c = record {
  only = c.if_same.ensures;
  gates_are = λ key. subst (λ xs. Contains xs key ↔ (Contains c.args.self.now.gates.items key × Contains c.args.gates.now.items key))
      (sym c.common.ensures) (filter-common c.args.gates.now.items c.args.self.now.gates.items key);
}
