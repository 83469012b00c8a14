use Rattle.link_reading.proofs.BrokenLaws.{broken_layers, broken_revisions, broken_tags, tags_apart, with_tags}
use Rattle.link_reading.proofs.laws.broken_links_mean_nothing.Goals as goal

pub returns-clause-layers : goal.returns-clause-layers
returns-clause-layers c = broken_layers

pub returns-clause-revisions : goal.returns-clause-revisions
returns-clause-revisions c = broken_revisions

pub returns-clause-tags : goal.returns-clause-tags
returns-clause-tags c = broken_tags

pub returns-clause-tags_apart : goal.returns-clause-tags_apart
returns-clause-tags_apart c = tags_apart

pub returns-clause-with_tags : goal.returns-clause-with_tags
returns-clause-with_tags c = with_tags
