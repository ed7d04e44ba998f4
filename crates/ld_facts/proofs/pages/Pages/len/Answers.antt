use Rattle.ld_facts.proofs.Names.{◌∙◌, ap, length, sym}
use Rattle.ld_facts.proofs.Paged.{words_below-length}
use Rattle.ld_facts.specs.Inside.Pages.{word_in}
use Rattle.ld_facts.proofs.pages.Pages.len.Goals as goal

pub returns : goal.returns
returns c = sym (words_below-length (word_in c.self.inside.places.items c.self.inside.pages.items) c.self.inside.count) ∙ ap length c.self.view_is
