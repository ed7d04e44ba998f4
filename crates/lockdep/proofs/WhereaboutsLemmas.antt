-- The texts of verdicts in each format.
use Rattle.lockdep.proofs.Names.{◌∙◌, ◌≡◌, Appends, Event, IfErr, IfErr-weaker, List, Name, OnOk, Option, Result, StopsWriting, StopsWriting-same, Text, WriteFault, ap, subst, sym, ⊤, ℕ}
use Rattle.std.proofs.lemmas.Result.{on_ok_weaker}
use Rattle.std.specs.Prelude.{slice_index, true}
use Rattle.lockdep.specs.Names.{AreLevels, AreWhereabouts, Format, Types, Verdict, Whereabouts, lock_sources, names_at, numbers_at, type_sources, verdict_json, verdicts_text}
use Rattle.lockdep.specs.Verdicts.{IsTextOfVerdicts, type_numbers}
use Rattle.ld_explain.specs.Settling.{LevelParts}
use Rattle.ld_text.specs.declared.findings.Format.TheVariants as format
use Rattle.ld_text.specs.declared.verdicts.VerdictFormat.TheVariants as verdict_format

module _ (traces : List (List Event)) (names types : List Name) (files : List Text) (verdicts : List Verdict) (levels : LevelParts)
    (are : AreLevels traces names levels) (types_are : types ≡ levels.type_names) (asked : Format) where
  same_types : types ≡ names_at Types names
  same_types = types_are ∙ are.type_names_are

  pub lines-said : asked ≡ format.Lines → (text : List ℕ) → text ≡ verdicts_text verdict_format.Lines traces types names files verdicts →
      IsTextOfVerdicts asked traces names files verdicts text
  lines-said is text says = subst (λ f. IsTextOfVerdicts f traces names files verdicts text) (sym is)
      (says ∙ ap (λ ts. verdicts_text verdict_format.Lines traces ts names files verdicts) same_types)

  pub json-said : asked ≡ format.Json → (w : Whereabouts) → AreWhereabouts traces (slice_index levels.type_of) verdicts w → (text : List ℕ) →
      text ≡ verdict_json (type_sources traces types names files true w.types) (lock_sources traces names files true w.locks) verdicts w.ends.items →
      IsTextOfVerdicts asked traces names files verdicts text
  json-said is w where_they_are text says =
      let numbers : levels.type_of ≡ type_numbers names = are.type_of_is ∙ ap (numbers_at Types names) are.type_names_are in
      subst (λ f. IsTextOfVerdicts f traces names files verdicts text) (sym is) (
        w,
        subst (λ ns. AreWhereabouts traces (slice_index ns) verdicts w) numbers where_they_are,
        says ∙ ap (λ ts. verdict_json (type_sources traces ts names files true w.types) (lock_sources traces names files true w.locks) verdicts w.ends.items) same_types,
      )

-- a text that is written, or stopped, if what is said of it is said of another
module _ (A B : List ℕ → Type 0) (same : (text : List ℕ) → A text → B text) (old new : Option (List ℕ)) where
  pub wrote-said : (r : Result ⊤ WriteFault) (text : List ℕ) → A text → OnOk r (Appends old new text) → OnOk r ((text : List ℕ) × B text × Appends old new text)
  wrote-said r text says = on_ok_weaker r (λ wrote. (text, same text says, wrote))

  pub stopped-said : (r : Result ⊤ WriteFault) → IfErr r (StopsWriting A old new) → IfErr r (StopsWriting B old new)
  stopped-said r = IfErr-weaker r _ _ (StopsWriting-same A B same old new)
