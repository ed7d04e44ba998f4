use Rattle.ld_schedule.proofs.Names.{All, Vec, [], length, ◌≡◌, ℕ}
use Rattle.ld_schedule.proofs.takings.Takings.new.Given as goal

abbrev pub invariant-loop : goal.invariant-loop
invariant-loop l = record {
  as_many : length l.open.items ≡ l.counter;
  none_open : All (λ (held : Vec ℕ). held.items ≡ []) l.open.items;
}
