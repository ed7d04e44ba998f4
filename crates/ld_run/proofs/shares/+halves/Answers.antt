use Rattle.ld_run.proofs.Names.{EndsWalk, Event, List, subst}
use Rattle.ld_run.proofs.shares.+halves.Goals as goal

pub united-requires-clause-parts : goal.united-requires-clause-parts
united-requires-clause-parts g t c = (
  c.args.others,
  c.args.keys,
  subst (λ (ts : List (List Event)). EndsWalk c.args.others c.args.keys ts c.join-first.result.0) c.split_at.ensures.front c.join-first.ensures.first,
  subst (λ (ts : List (List Event)). EndsWalk c.args.others c.args.keys ts c.join-first.result.1) c.split_at.ensures.back c.join-first.ensures.second,
)

pub returns : goal.returns
returns g t c =
    c.united.ensures c.args.others c.args.keys
    (subst (λ (ts : List (List Event)). EndsWalk c.args.others c.args.keys ts c.join-first.result.0) c.split_at.ensures.front c.join-first.ensures.first)
    (subst (λ (ts : List (List Event)). EndsWalk c.args.others c.args.keys ts c.join-first.result.1) c.split_at.ensures.back c.join-first.ensures.second)
