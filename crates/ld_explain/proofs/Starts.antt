-- What holds before a loop's first turn, by which the check proves it.
use Rattle.ld_explain.proofs.FindingLemmas.{AddsThose-none}

pub ruleset starts = AddsThose-none
