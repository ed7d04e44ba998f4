-- The order of the keys of a table.
use Rattle.ld_text.proofs.Names.{IsTotalOrder, Name, name_cmp, nat_cmp_total, nat_list_cmp_total, on_total, then_total}

pub name_cmp_total : IsTotalOrder name_cmp
name_cmp_total = then_total (on_total (λ (n : Name). n.0) nat_list_cmp_total) (on_total (λ (n : Name). n.1) nat_cmp_total)
