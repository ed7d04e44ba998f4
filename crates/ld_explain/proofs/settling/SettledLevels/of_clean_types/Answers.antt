use Rattle.ld_explain.proofs.Names.{◌∙◌, Classes, ap, inl, numbers_at}
use Rattle.ld_explain.proofs.settling.SettledLevels.of_clean_types.Goals as goal

pub returns : goal.returns
returns c = λ traces of_types. record {
  type_names_are = of_types.type_names_are;
  type_of_is = of_types.type_of_is;
  class_of_is = c.in_ok-by_class.ensures.keys ∙ ap (numbers_at Classes c.args.names.now.names) c.in_ok-by_class.ensures.names;
  types_are = of_types.types_are;
  classes_are = tt;
  locks_are = tt;
  sure_are = tt;
  left_open = λ _. inl c.requires;
}
