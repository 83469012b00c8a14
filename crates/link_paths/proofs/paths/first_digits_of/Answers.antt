use Rattle.std.proofs.Common.{◌∙◌, drop, ap, take}
use Rattle.hex.specs.Hex.{encode_lower}
use Rattle.link_paths.proofs.KeyParts.{first_digits}
use Rattle.link_paths.proofs.paths.first_digits_of.Goals as goal

pub returns-clause-digits : goal.returns-clause-digits
returns-clause-digits c = c.in_ok-encode.ensures ∙ ap (λ raw. encode_lower (take 1 raw)) c.raw.ensures.raw ∙ first_digits (drop 1 c.args.digest.now)
