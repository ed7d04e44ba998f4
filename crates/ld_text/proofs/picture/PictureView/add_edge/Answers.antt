use Rattle.ld_text.proofs.Names.{◌≡◌, HasFact, IsFoundArrow, arrow, arrow_text, edge_line, end_text, inl, kind_text, refl}
use Rattle.ld_text.proofs.JoinedLemmas.{IsFoundArrow-dependency}
use Rattle.ld_text.proofs.PictureGrowing.{GrowsBy-coloured, GrowsBy-uncoloured, behind, says-false}
use Rattle.ld_text.proofs.picture.PictureView.add_edge.Goals as goal
use Rattle.ld_text.proofs.picture.PictureView.add_edge.Goals.{then-red-via-then-red, then-red-via-else-red+then-not-self}

pub returns-in_ok-add_end-clause-text : goal.returns-in_ok-add_end-clause-text
returns-in_ok-add_end-clause-text c =
    let by = GrowsBy-coloured c.args.self.only
    (IsFoundArrow (HasFact c.args.self.settled.now) (arrow c.args.from c.args.to c.args.kind))
    (λ red line. line ≡ edge_line c.args.self.names.now.names (arrow c.args.from c.args.to c.args.kind) red)
    c.is_found-red.result c.args.text.now.items c.add_end.new.text.items c.is_found-red.ensures
    (elim c.then-red.branch [
      | then-red-via-then-red w ↦ let red = w.if-red.true in cc
      | then-red-via-else-red+then-not-self w ↦ let all = w.if-not-self.true in cc
    ])
    record {
      part = edge_line c.args.self.names.now.names (arrow c.args.from c.args.to c.args.kind) c.is_found-red.result;
      shows = refl;
      grew = behind c.args.text.now.items _ _ (arrow_text c.args.self.names.now.names c.args.from c.args.to (kind_text c.args.kind)) (end_text c.is_found-red.result)
          (rw c.kind_word.ensures at c.in_ok-add_arrow.ensures) c.in_ok-add_end.ensures;
    } in
    record { part = by.part; shows = inl (rw (c.get.ensures.value, c.get-2.ensures.value) at (c.if-not-has_dep.ensures.0 refl), by.shows); grew = by.grew }

pub returns-else-not-self-clause-text : goal.returns-else-not-self-clause-text
returns-else-not-self-clause-text c =
    let by = GrowsBy-uncoloured c.args.self.only
    (IsFoundArrow (HasFact c.args.self.settled.now) (arrow c.args.from c.args.to c.args.kind))
    (λ red line. line ≡ edge_line c.args.self.names.now.names (arrow c.args.from c.args.to c.args.kind) red)
    c.is_found-red.result c.args.text.now.items c.is_found-red.ensures
    (let not_red = c.if-red.false in let not_all = c.if-not-self.false in cc) in
    record { part = by.part; shows = inl (rw (c.get.ensures.value, c.get-2.ensures.value) at (c.if-not-has_dep.ensures.0 refl), by.shows); grew = by.grew }

pub returns-then-not-has_dep-clause-found : goal.returns-then-not-has_dep-clause-found
returns-then-not-has_dep-clause-found c = says-false _ (λ found.
    let has = c.if-not-has_dep.ensures.1 (rw (c.get.ensures.value, c.get-2.ensures.value) (IsFoundArrow-dependency (HasFact c.args.self.settled.now) (arrow c.args.from c.args.to c.args.kind) found)) in
    let none = c.if-not-has_dep.true in cc)
