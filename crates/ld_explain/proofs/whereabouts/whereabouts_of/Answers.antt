use Rattle.ld_explain.proofs.Names.{Verdict, plain, view_of}
use Rattle.ld_explain.specs.Whereabouts.{nested_orders, orders_of}
use Rattle.ld_explain.proofs.Listing.{each-listed}
use Rattle.ld_explain.proofs.whereabouts.whereabouts_of.Goals as goal

pub returns : goal.returns
returns c =
    let image = c.renamed_facts_are_the_image.ensures in
    let asks = c.in_ok-asked.ensures in
    record {
      types = each-listed image (view_of c.args.types c.args.traces.now) c.in_ok-asked.asked c.in_ok-of.field-0 c.in_ok-of.ensures
          (λ (v : Verdict). orders_of v.finding) c.args.verdicts.now (λ k d within. (asks k d within).0);
      locks = each-listed image (plain c.args.traces.now) c.in_ok-asked.asked c.in_ok-of-2.field-0 c.in_ok-of-2.ensures
          (λ (v : Verdict). nested_orders v.between) c.args.verdicts.now (λ k d within. (asks k d within).1);
      ends = c.in_ok-ends_of.ensures;
    }
