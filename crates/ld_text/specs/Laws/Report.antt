-- Reports of equal facts.
use Rattle.ld_text.specs.Names.{AreFound-same, AreSame, DependenciesOf, Dependency, Enabled, Fact, Irq, IsClean, IsClean-same, IsNumberOf-same, IsShortestCircle-same, Marked, Name, OnCircle-same, UsedIn, inl, inr}
use Rattle.std.proofs.Common.{ℕ, Bool, List, [], ◌∷◌, IsTrue, ◌↔◌, length}
use Rattle.ld_text.specs.Groups.{InSequence, InTurn}
use Rattle.ld_text.specs.Report.{AreTotals, IsReport, IsUsageCharacter, IsUsageLine, ShowsBecause, forms}

-- groups whose parts mean the same
pub InTurn-same : {X : Type 0} (R S : X → List ℕ → Type 0) → ((x : X) (text : List ℕ) → R x text → S x text) → (xs : List X) (text : List ℕ) → InTurn R xs text → InTurn S xs text
unfolding InSequence
InTurn-same R S same [] text none = none
InTurn-same R S same (x ∷ xs) text (first, rest, shows, others, is) = (first, rest, same x first shows, InTurn-same R S same xs rest others, is)

-- a sequence of which the first part means the same, and the others
pub then-same : {P Q : List ℕ → Type 0} (Ps Qs : List (List ℕ → Type 0)) → ((text : List ℕ) → P text → Q text) → ((text : List ℕ) → InSequence Ps text → InSequence Qs text) →
    (text : List ℕ) → InSequence (P ∷ Ps) text → InSequence (Q ∷ Qs) text
unfolding InSequence
then-same Ps Qs one more text (first, rest, shows, others, is) = (first, rest, one first shows, more rest others, is)

both : {P Q R : Type 0} → P ↔ Q → Q ↔ R → P ↔ R
both f g = (λ p. g.0 (f.0 p), λ r. f.1 (g.1 r))

module _ (P Q : Fact → Type 0) (same : AreSame P Q) where
  pub character-same : (key : ℕ) (irq : Irq) (read : Bool) (text : List ℕ) → IsUsageCharacter P key irq read text → IsUsageCharacter Q key irq read text
  character-same key irq read text c = record {
    enabled = c.enabled;
    used_in = c.used_in;
    enabled_is = both c.enabled_is (same (Marked key (Enabled irq read)));
    used_in_is = both c.used_in_is (same (Marked key (UsedIn irq read)));
    character_is = c.character_is;
  }

  line-same : (names : List Name) (key : ℕ) (line : List ℕ) → IsUsageLine P names key line → IsUsageLine Q names key line
  line-same names key line l = record {
    characters = l.characters;
    each = InTurn-same _ _ (λ form. character-same key form.0 form.1) forms l.characters l.each;
    line_is = l.line_is;
  }

  totals-same : (traces events keys : ℕ) (text : List ℕ) → AreTotals P traces events keys text → AreTotals Q traces events keys text
  totals-same traces events keys text t = record {
    dependencies = t.dependencies;
    dependencies_are = IsNumberOf-same (DependenciesOf P) (DependenciesOf Q) (λ d. same (Dependency d.start d.end d.kind)) t.dependencies t.dependencies_are;
    clean = t.clean;
    clean_is = both t.clean_is (IsClean-same P Q same);
    text_is = t.text_is;
  }

  because-same : (names : List Name) (text : List ℕ) → ShowsBecause P names text → ShowsBecause Q names text
  because-same names text (inl line) = inl (record {
    first = line.first;
    rest = line.rest;
    shortest = IsShortestCircle-same P Q same (line.first ∷ line.rest) line.shortest;
    least = line.least;
    line_is = line.line_is;
  })
  because-same names text (inr (off, is)) = inr (λ d on. off d ((OnCircle-same P Q same d).1 on), is)

  -- a flag that says whether the ones are clean says it of the others
  pub clean_is-same : (clean : Bool) → IsTrue clean ↔ IsClean P → IsTrue clean ↔ IsClean Q
  clean_is-same clean is = both is (IsClean-same P Q same)

  -- the report of equal facts
  pub IsReport-same : (traces events : ℕ) (names : List Name) (text : List ℕ) → IsReport P traces events names text → IsReport Q traces events names text
  IsReport-same traces events names text r = record {
    keys = r.keys;
    keys_are = r.keys_are;
    found = r.found;
    found_are = AreFound-same P Q same r.keys r.found r.found_are;
    text_is = then-same _ _ (totals-same traces events (length names)) (then-same _ _ (InTurn-same _ _ (line-same names) r.keys)
        (then-same _ _ (λ _ h. h) (then-same _ _ (because-same names) (λ _ h. h)))) text r.text_is;
  }
