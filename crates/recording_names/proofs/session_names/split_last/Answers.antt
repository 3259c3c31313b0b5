use Rattle.recording_names.proofs.Hyphens.{last_has_none, last_parts, none_apart}
use Rattle.recording_names.proofs.session_names.split_last.Goals as goal

pub returns-clause-parts : goal.returns-clause-parts
returns-clause-parts c = last_parts c.args.text.now c.rsplit_once.result c.rsplit_once.ensures.cases

pub returns-clause-last : goal.returns-clause-last
returns-clause-last c = last_has_none c.args.text.now c.rsplit_once.result c.rsplit_once.ensures.cases

pub returns-clause-none : goal.returns-clause-none
returns-clause-none c = none_apart c.args.text.now c.rsplit_once.result c.rsplit_once.ensures.cases
