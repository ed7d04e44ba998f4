use Rattle.ld_explain.proofs.Names.{◌≡◌, All, take}
use Rattle.ld_explain.specs.Names.{MAX_KEYS}
use Rattle.ld_explain.specs.Inside.Listing.{AsksVerdict}
use Rattle.ld_explain.proofs.whereabouts.asked_of.Given as goal

-- the dependencies of the verdicts so far are asked about
abbrev pub invariant-loop-v : goal.invariant-loop-v
invariant-loop-v l = (l.asked.keys ≡ MAX_KEYS) × All (AsksVerdict l.asked) (take l.v-index l.verdicts)
