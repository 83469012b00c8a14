use Rattle.std.proofs.Common.{sym, ap, ◌∙◌}
use Rattle.std.specs.Prelude.{option_and_then}
use Rattle.reg_names.specs.Digests.{digest_named}
use Rattle.link_reading.proofs.Shortness.{named-short}
use Rattle.link_reading.proofs.links.named_digest.Goals as goal

pub returns-in-None-clause-value : goal.returns-in-None-clause-value
returns-in-None-clause-value g c = λ told. ap (option_and_then digest_named) (sym c.in-None.is ∙ c.in_ok-bytes.ensures.value told) ∙ named-short _
