use Rattle.ld_text.proofs.Names.{IsPermutation, List, always_returns_same, name_at, name_cmp, ranks_by, rules, subst, ℕ}
use Rattle.std.proofs.Common.{is_lt}
use Rattle.ld_text.proofs.OrderLemmas.{name_cmp_total}
use Rattle.ld_text.proofs.order.sorted_keys.Goals as goal

pub returns : goal.returns
returns c = record {
  all = subst (λ (all : List ℕ). IsPermutation all c.sort_unstable_by.new.self.items) c.in_ok-sorted.ensures c.sort_unstable_by.ensures.permutation;
  sorted = c.sort_unstable_by.ensures.sorted (λ a b. is_lt (name_cmp (name_at c.args.keys.now.names a) (name_at c.args.keys.now.names b))) (ranks_by name_cmp_total (name_at c.args.keys.now.names)) (always_returns_same _ _ _ (λ a r q k. search rules));
}
