use Rattle.ipfix_datagrams.proofs.Kept.{none_kept, no_entry}
use Rattle.ipfix_datagrams.proofs.Weighed.{fits_none}
use Rattle.ipfix_datagrams.proofs.known_templates.KnownTemplates.new.Goals as goal

pub returns-clause-keeps : goal.returns-clause-keeps
returns-clause-keeps c = record {
  withdrawn = none_kept c.new.result (λ domain id. no_entry c.new.result domain id c.new.ensures.empty);
  fits = fits_none c.args.budget c.new-3.result c.new-3.ensures.empty c.new-3.ensures.ordered;
}
