use Rattle.ld_facts.proofs.Names.{Any, DependenciesOf, IsNumberOf-unique, TraceHas}
use Rattle.ld_facts.proofs.laws.dependencies_have_one_number.Goals as goal

pub returns : goal.returns
returns c = λ traces. IsNumberOf-unique (DependenciesOf (λ x. Any (λ t. TraceHas t x) traces))
