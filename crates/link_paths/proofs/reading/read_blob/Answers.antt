use Rattle.std.proofs.Common.{length, Some, ap, arith}
use Rattle.reg_names.specs.Digests.{IsDigest}
use Rattle.link_paths.specs.Places.{digits}
use Rattle.reg_names.specs.Reading.{ReadsBack}
use Rattle.link_paths.proofs.KeyParts.{length-digits}
use Rattle.link_paths.proofs.reading.read_blob.Goals as goal

pub begins-requires : goal.begins-requires
begins-requires c =
    let read : ReadsBack IsDigest digits c.digits-item.result (Some c.in-Some.digest) = rw c.in-Some.is at c.in_ok-digest-in-len4.ensures in
    omega (arith, length-digits _ read.0, ap length read.1)
