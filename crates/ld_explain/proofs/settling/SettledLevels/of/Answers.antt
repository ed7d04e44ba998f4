use Rattle.ld_explain.proofs.Names.{◌<◌, ◌∙◌, AreSame, AreSureNumbers, Classes, Contains, GRAPH_KEYS, HasFact, IfOk-weaker, IsNone, Some, TracesHave, TracesHaveBy, ap, arith, inl, inr, length, no_key, numbers_at, slice_index, subst, sym}
use Rattle.ld_explain.proofs.SettlingLemmas.{IfSome-weaker, chosen, facts-by, not-chosen, open-facts, sure-of_all, sure-of_traces}
use Rattle.ld_explain.specs.Laws.Settling.{names_at-few}
use Rattle.ld_explain.proofs.settling.SettledLevels.of.Goals as goal

pub returns : goal.returns
returns c = λ traces of_types of_traces.
    let names = c.args.names.now.names in
    let law = c.renamed_facts_are_the_image.ensures in
    let locks = open-facts c.in_ok-locks.locks c.settled.result _ c.in_ok-locks.ensures.some
    (IfOk-weaker c.settled.result _ _ (λ locks is. subst (λ facts. AreSame (HasFact facts) (TracesHave traces)) (sym is) of_traces) c.settled.ensures.value) in
    let tangled : IsNone c.in_ok-locks.locks → GRAPH_KEYS < length names = λ none. omega (arith, c.settled.ensures.tangled (c.in_ok-locks.ensures.none none), c.requires) in
    record {
      type_names_are = of_types.type_names_are;
      type_of_is = of_types.type_of_is;
      class_of_is = c.in_ok-by_class.ensures.keys ∙ ap (numbers_at Classes names) c.in_ok-by_class.ensures.names;
      types_are = of_types.types_are;
      classes_are = chosen c.differ-has_places.result c.in_ok-classes.classes (Some c.args.types.types) _
          (IfSome-weaker c.in_ok-classes.classes _ _ (λ classes exact. facts-by law traces c.args.facts (slice_index c.in_ok-by_class.by_class.keys.items) of_traces (HasFact classes) exact) c.in_ok-classes.ensures.exact)
          (λ off. subst (λ keys. AreSame (HasFact c.args.types.types) (TracesHaveBy (slice_index keys) traces)) (sym (sym c.deref-2.ensures.value ∙ c.differ-has_places.ensures.0 off ∙ c.type_of.ensures)) of_types.types_are);
      locks_are = locks;
      sure_are = chosen c.has_several-has_several.result c.in_ok-sure.sure c.in_ok-locks.locks _
          (IfSome-weaker c.in_ok-sure.sure _ _ (λ sure exact. sure-of_traces traces names c.args.facts of_traces (HasFact sure) exact) c.in_ok-sure.ensures.exact)
          (λ off. IfSome-weaker c.in_ok-locks.locks _ _ (λ all exact. sure-of_all traces names c.in_ok-singles.singles.items c.args.facts (subst (λ n. AreSureNumbers names n c.in_ok-singles.singles.items) (sym c.requires) c.in_ok-singles.ensures) (λ has. let on = c.has_several-has_several.ensures.1 (subst (λ ks. Contains ks no_key) (sym c.deref.ensures.value) has) in cc) of_traces (HasFact all) exact) locks);
      left_open = λ left. inr (elim left [
        | inl locks ↦ tangled locks
        | inr (inl sure) ↦ not-chosen c.has_several-has_several.result c.in_ok-sure.sure c.in_ok-locks.locks
            (λ none on. omega (arith, c.in_ok-sure.ensures.open none on, c.requires)) tangled sure
        | inr (inr classes) ↦ not-chosen c.differ-has_places.result c.in_ok-classes.classes (Some c.args.types.types)
            (λ none on. omega (arith, c.in_ok-classes.ensures.open none on, ap length c.in_ok-by_class.ensures.names, names_at-few Classes names)) (λ none. absurd (let no = none in cc)) classes
      ]);
    }
