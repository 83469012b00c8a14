use Rattle.link_paths.proofs.KeyParts.{digits_read}
use Rattle.link_paths.proofs.reading.read_digits.Goals as goal

pub returns : goal.returns
returns c = digits_read c.args.part.now c.read.result (rw (c.deref.ensures, c.in_ok-format.ensures.ok, c.as_str-digits.ensures.bytes) at c.read.ensures.exact)
