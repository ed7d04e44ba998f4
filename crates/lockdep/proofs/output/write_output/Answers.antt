use Rattle.lockdep.proofs.Names.{Appends, HasFact, IfErr, IfErr-weaker, IfOk-weaker, IsCondensedOf, IsCondensedText, IsPicture, IsPicture-same, IsReport, IsReport-same, IsTextOf, List, OnOk, SaysFindings, SaysFindings-same, Sources, StopsSettled, TracesHave, ap, condensed, explanation, json, length, map, picture, report, sources_of, subst, sum_by, sym, view_of, ℕ}
use Rattle.ld_text.specs.declared.findings.Format.TheVariants as format
use Rattle.lockdep.specs.declared.output.Output.{Output}
use Rattle.lockdep.proofs.CondensedLemmas.{IsCondensedText-same}
use Rattle.lockdep.proofs.FaultLemmas.{StopsSettled-same, written-err, written-ok}
use Rattle.lockdep.proofs.output.write_output.Goals as goal

pub returns-in-Report-clause-ok : goal.returns-in-Report-clause-ok
returns-in-Report-clause-ok g c =
    let traces = c.args.traces.now in
    written-ok _ report (ap view_of c.in-Report.is) (IsReport (HasFact c.args.settled.now) (length traces) (sum_by length traces) c.args.keys.now.names)
    c.args.traces.now c.args.keys.now.names (IsReport-same (HasFact c.args.settled.now) (TracesHave c.args.traces.now) c.requires.facts (length traces) (sum_by length traces) c.args.keys.now.names)
    _ _ c.write_report.result c.map_err.result c.map_err.ensures.cases c.write_report.ensures.ok

pub returns-in-Report-clause-err : goal.returns-in-Report-clause-err
returns-in-Report-clause-err g c =
    let traces = c.args.traces.now in
    written-err _ report (ap view_of c.in-Report.is) (IsReport (HasFact c.args.settled.now) (length traces) (sum_by length traces) c.args.keys.now.names)
    c.args.traces.now c.args.keys.now.names (IsReport-same (HasFact c.args.settled.now) (TracesHave c.args.traces.now) c.requires.facts (length traces) (sum_by length traces) c.args.keys.now.names)
    _ _ _ _ c.write_report.result c.map_err.result c.map_err.ensures.cases c.write_report.ensures.err

pub returns-in-Explanation-clause-ok : goal.returns-in-Explanation-clause-ok
returns-in-Explanation-clause-ok g c =
    let sources : Sources = sources_of c.args.traces.now c.args.keys.now.names (map (λ file. file.now) c.in-Explanation.files.now) in
    written-ok _ (explanation sources.files) (ap view_of c.in-Explanation.is) (SaysFindings format.Lines (HasFact c.args.settled.now) sources)
    c.args.traces.now c.args.keys.now.names (SaysFindings-same (HasFact c.args.settled.now) (TracesHave c.args.traces.now) c.requires.facts format.Lines sources)
    _ _ c.write_findings.result c.map_err-in-Explanation.result c.map_err-in-Explanation.ensures.cases c.write_findings.ensures.ok

pub returns-in-Explanation-clause-err : goal.returns-in-Explanation-clause-err
returns-in-Explanation-clause-err g c =
    let sources : Sources = sources_of c.args.traces.now c.args.keys.now.names (map (λ file. file.now) c.in-Explanation.files.now) in
    written-err _ (explanation sources.files) (ap view_of c.in-Explanation.is) (SaysFindings format.Lines (HasFact c.args.settled.now) sources)
    c.args.traces.now c.args.keys.now.names (SaysFindings-same (HasFact c.args.settled.now) (TracesHave c.args.traces.now) c.requires.facts format.Lines sources)
    _ _ _ _ c.write_findings.result c.map_err-in-Explanation.result c.map_err-in-Explanation.ensures.cases c.write_findings.ensures.err

pub returns-in-Json-clause-ok : goal.returns-in-Json-clause-ok
returns-in-Json-clause-ok g c =
    let sources : Sources = sources_of c.args.traces.now c.args.keys.now.names (map (λ file. file.now) c.in-Json.files.now) in
    written-ok _ (json sources.files) (ap view_of c.in-Json.is) (SaysFindings format.Json (HasFact c.args.settled.now) sources)
    c.args.traces.now c.args.keys.now.names (SaysFindings-same (HasFact c.args.settled.now) (TracesHave c.args.traces.now) c.requires.facts format.Json sources)
    _ _ c.write_findings-in-Json.result c.map_err-in-Json.result c.map_err-in-Json.ensures.cases c.write_findings-in-Json.ensures.ok

pub returns-in-Json-clause-err : goal.returns-in-Json-clause-err
returns-in-Json-clause-err g c =
    let sources : Sources = sources_of c.args.traces.now c.args.keys.now.names (map (λ file. file.now) c.in-Json.files.now) in
    written-err _ (json sources.files) (ap view_of c.in-Json.is) (SaysFindings format.Json (HasFact c.args.settled.now) sources)
    c.args.traces.now c.args.keys.now.names (SaysFindings-same (HasFact c.args.settled.now) (TracesHave c.args.traces.now) c.requires.facts format.Json sources)
    _ _ _ _ c.write_findings-in-Json.result c.map_err-in-Json.result c.map_err-in-Json.ensures.cases c.write_findings-in-Json.ensures.err

pub returns-in-Picture-clause-ok : goal.returns-in-Picture-clause-ok
returns-in-Picture-clause-ok g c =
    written-ok _ (picture c.in-Picture.findings) (ap view_of c.in-Picture.is) (IsPicture (HasFact c.args.settled.now) c.in-Picture.findings c.args.keys.now.names)
    c.args.traces.now c.args.keys.now.names (IsPicture-same (HasFact c.args.settled.now) (TracesHave c.args.traces.now) c.requires.facts c.in-Picture.findings c.args.keys.now.names)
    _ _ c.write_picture.result c.map_err-in-Picture.result c.map_err-in-Picture.ensures.cases c.write_picture.ensures.ok

pub returns-in-Picture-clause-err : goal.returns-in-Picture-clause-err
returns-in-Picture-clause-err g c =
    written-err _ (picture c.in-Picture.findings) (ap view_of c.in-Picture.is) (IsPicture (HasFact c.args.settled.now) c.in-Picture.findings c.args.keys.now.names)
    c.args.traces.now c.args.keys.now.names (IsPicture-same (HasFact c.args.settled.now) (TracesHave c.args.traces.now) c.requires.facts c.in-Picture.findings c.args.keys.now.names)
    _ _ _ _ c.write_picture.result c.map_err-in-Picture.result c.map_err-in-Picture.ensures.cases c.write_picture.ensures.err

pub returns-in-Condensed-clause-ok : goal.returns-in-Condensed-clause-ok
returns-in-Condensed-clause-ok g c =
    let traces = c.args.traces.now in
    let names = c.args.keys.now.names in
    subst (λ (output : Output). OnOk c.write_condensed.result ((text : List ℕ) × IsTextOf (view_of output) traces names text
    × Appends (g.W.Write.contents c.args.w.now) (g.W.Write.contents c.write_condensed.new.w) text))
    (sym c.in-Condensed.is)
    (IfOk-weaker c.write_condensed.result _ _
    (λ _ wrote. (wrote.0, IsCondensedText-same (HasFact c.args.settled.now) (TracesHave traces) c.requires.facts names wrote.0 wrote.1, wrote.2))
    c.write_condensed.ensures.ok)

pub returns-in-Condensed-clause-err : goal.returns-in-Condensed-clause-err
returns-in-Condensed-clause-err g c =
    let traces = c.args.traces.now in
    let names = c.args.keys.now.names in
    subst (λ (output : Output). IfErr c.write_condensed.result (StopsSettled (view_of output) (TracesHave traces) (length names) (IsTextOf (view_of output) traces names)
    (g.W.Write.contents c.args.w.now) (g.W.Write.contents c.write_condensed.new.w)))
    (sym c.in-Condensed.is)
    (IfErr-weaker c.write_condensed.result _ _
    (StopsSettled-same condensed (HasFact c.args.settled.now) (TracesHave traces) (length names) (IsCondensedText (HasFact c.args.settled.now) names) (IsCondensedOf traces names) c.requires.facts
    (IsCondensedText-same (HasFact c.args.settled.now) (TracesHave traces) c.requires.facts names) _ _)
    c.write_condensed.ensures.err)
