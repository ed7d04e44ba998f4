use Rattle.ld_graph.proofs.LawProofs.{new_circles_have_new_members, new_doubles_have_new_marks, new_inversions_have_new_parts}
use Rattle.ld_graph.proofs.laws.what_is_new_suffices.Goals as goal

pub returns-clause-circles : goal.returns-clause-circles
returns-clause-circles c = new_circles_have_new_members

pub returns-clause-doubles : goal.returns-clause-doubles
returns-clause-doubles c = new_doubles_have_new_marks

pub returns-clause-inversions : goal.returns-clause-inversions
returns-clause-inversions c = new_inversions_have_new_parts
