-- What is said of the findings of equal facts.
use Rattle.std.proofs.Common.{ℕ, List}
use Rattle.ld_text.specs.Names.{AreFindings-same, AreSame, Fact, plain}
use Rattle.ld_text.specs.Explanation.{Sources}
use Rattle.ld_text.specs.Findings.{SaysFindings}
use Rattle.ld_text.specs.declared.findings.Format.{Format}

pub SaysFindings-same : (P Q : Fact → Type 0) → AreSame P Q → (format : Format) (sources : Sources) (text : List ℕ) → SaysFindings format P sources text → SaysFindings format Q sources text
SaysFindings-same P Q same format sources text says = record {
  keys = says.keys;
  keys_are = says.keys_are;
  findings = says.findings;
  findings_are = AreFindings-same P Q same (plain sources.traces) says.keys says.findings says.findings_are;
  text_is = says.text_is;
}
