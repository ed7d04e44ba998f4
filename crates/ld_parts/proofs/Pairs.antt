-- Pairs of keys in the one graph, and in that of a part.
use Rattle.ld_parts.proofs.Names.{◌<◌, ◌≡◌, AreTogether, Arrow, FactParts, HasFact, IsPair, IsPart, List, None, NoneGoesDown, Option, Part, Some, arith, arrow, arrow_at, length, length-map, link_by, refl, slice_index, renumbered_by, ℕ}
use Rattle.std.specs.Borrow.{Bor}
use Rattle.ld_graph.specs.declared.graph.Graph.{Graph}
use Rattle.ld_parts.specs.declared.pair.Pair.{Pair}
use Rattle.ld_parts.proofs.Parts.{found_in_part}

-- in the one graph the numbers are the keys themselves
pub pair_of_all : (graph : Bor Graph) (a b : ℕ) → IsPair graph.now.facts a b (record { graph = graph; keys = None; a = a; b = b })
pair_of_all graph a b = record {
  few = omega arith;
  numbers = _;
  on_circle = λ kind. (λ h. h, λ h. h);
  shortest_from = λ kind walk shortest. shortest;
  double = λ irq. (λ h. h, λ h. h);
  double_by = λ irq enabled_read used_read by. by;
  inversion = λ irq. (λ h. h, λ h. h);
  in_inversion = λ kind. (λ h. h, λ h. h);
  shortest_inversion = λ irq enabled_read used_read walk shortest. shortest;
}

-- in that of a part they are the places of the keys
module _ (facts : FactParts) (part : Part) (graph : Bor Graph) (keys : Bor (List ℕ)) (i j : ℕ) (the_graph : graph.now ≡ part.graph) (the_keys : keys.now ≡ part.keys.items) where
  abbrev pair : Pair
  pair = record { graph = graph; keys = Some keys; a = i; b = j }

  pair_at_places : (rank : ℕ → ℕ) (r : ℕ) (none : NoneGoesDown (HasFact facts) rank) (is : IsPart facts rank r part)
      (li : i < length part.keys.items) (lj : j < length part.keys.items) →
      IsPair facts (slice_index part.keys.items i) (slice_index part.keys.items j) pair
  pair_at_places rank r none is li lj =
      let found = found_in_part facts part rank r none is in record {
        few = let few = is.keys_are.few in rw the_graph (omega (arith, is.bound, few));
        numbers = rw the_keys is.numbers;
        on_circle = λ kind. rw the_graph (found.on_circle (arrow i j kind) li lj);
        shortest_from = λ kind walk. rw (the_graph, the_keys) (found.shortest_from (arrow i j kind) walk);
        double = λ irq. rw the_graph (found.double irq i li);
        double_by = λ irq enabled_read used_read. rw the_graph (found.double_by irq i (link_by i i enabled_read used_read));
        inversion = λ irq. rw the_graph (found.inversion irq i j li lj);
        in_inversion = λ kind. rw the_graph (found.in_inversion (arrow i j kind) li lj);
        shortest_inversion = λ irq enabled_read used_read walk. rw (the_graph, the_keys)
            (found.shortest_inversion irq i j (link_by j i enabled_read used_read) walk);
      }

  pub pair_of_part : (a b : ℕ) → AreTogether facts part a b i j → IsPair facts a b pair
  pair_of_part a b by = rw (← by.at_a.1, ← by.at_b.1) (pair_at_places by.of.0 by.of.1 by.of.2 by.of.3 by.at_a.0 by.at_b.0)

-- a walk is as long with other numbers
pub length-renumbered_by : (keys : Option (Bor (List ℕ))) (walk : List Arrow) → length (renumbered_by keys walk) ≡ length walk
length-renumbered_by None walk = refl
length-renumbered_by (Some keys) walk = length-map walk (arrow_at keys.now)
