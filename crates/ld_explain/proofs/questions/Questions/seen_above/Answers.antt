use Rattle.ld_explain.proofs.Names.{IsTrue, Renamed, is_some, refl, slice_index, subst, sym}
use Rattle.ld_explain.proofs.Seeing.{case-seen, seen-by}
use Rattle.ld_explain.proofs.questions.Questions.seen_above.Goals as goal

pub returns-in-Some-case : goal.returns-in-Some-case
returns-in-Some-case c =
    let q = c.args.self.now in (
      c.requires.sure,
      c.requires.locks,
      (seen-by q.keys.now (slice_index q.levels.type_of.now) (slice_index q.levels.class_of.now) c.args.finding.now q.levels.locks q.levels.classes
          c.in-Some.locks c.in-Some-classes.classes c.in-Some.is c.in-Some-classes.is).1
          (case-seen (record {
            locks = c.in-Some.locks;
            settled = c.in-Some-classes.classes;
            naming = Renamed q.levels.class_of;
            type_of = q.levels.type_of;
            keys = q.keys;
          }) c.args.finding.now c.in-Some-case.field-0 c.in-Some-case.ensures.some),
    )

pub returns-in-None : goal.returns-in-None
returns-in-None c =
    let q = c.args.self.now in (
      c.requires.sure,
      c.requires.locks,
      (
        subst (λ o. IsTrue (is_some o)) (sym c.in-Some-classes.is) refl,
        (λ seen. c.in-None.ensures.none refl ((seen-by q.keys.now (slice_index q.levels.type_of.now) (slice_index q.levels.class_of.now) c.args.finding.now
            q.levels.locks q.levels.classes c.in-Some.locks c.in-Some-classes.classes c.in-Some.is c.in-Some-classes.is).0 seen)),
      ),
    )
